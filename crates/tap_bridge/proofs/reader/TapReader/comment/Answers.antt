use Rattle.std.proofs.Common.{◌≡◌, true, false, sym, ◌∙◌, map, rules}
use Rattle.std.specs.Prelude.{codes}
use Rattle.std.proofs.lemmas.Bool.{cond-true}
use Rattle.sub_number.specs.Lines.{begins}
use Rattle.tap_bridge.specs.Events.{input_of}
use Rattle.tap_bridge.proofs.ReadLemmas.{awaited, not_awaited, comment_read, comment_gives_none}
use Rattle.tap_bridge.proofs.reader.TapReader.comment.Goals as goal

pub returns-then-not-starts_with-clause-which : goal.returns-then-not-starts_with-clause-which
returns-then-not-starts_with-clause-which c lines known =
    let is_not : begins (codes "#") c.without_return-bytes.result.now ≡ false = search rules in
    sym (not_awaited c.args.line.now c.without_return-bytes.result.now c.requires c.without_return-bytes.ensures.line (map input_of lines) is_not)

pub returns-clause-which : goal.returns-clause-which
returns-clause-which c lines known =
    let is : begins (codes "#") c.without_return-bytes.result.now ≡ true = search rules in
    c.in_ok-added.ensures.waits (map input_of lines) known ∙ sym (awaited c.args.line.now c.without_return-bytes.result.now c.requires c.without_return-bytes.ensures.line (map input_of lines) is)

pub returns-clause-read : goal.returns-clause-read
returns-clause-read c lines known = λ taken.
    let is : begins (codes "#") c.without_return-bytes.result.now ≡ true = search rules in
    comment_read c.args.line.now c.without_return-bytes.result.now c.requires c.without_return-bytes.ensures.line c.add_comment.new.self lines is (c.in_ok-added.ensures.read (map input_of lines) known)

pub returns-clause-nothing : goal.returns-clause-nothing
returns-clause-nothing c lines known = λ taken.
    let is : begins (codes "#") c.without_return-bytes.result.now ≡ true = search rules in
    comment_gives_none c.args.line.now c.without_return-bytes.result.now c.requires c.without_return-bytes.ensures.line lines is (c.in_ok-added.ensures.events (map input_of lines) known ∙ cond-true _ _ _ taken)
