use Rattle.std.proofs.Common.{ap, refl, Some, sym, ◌∙◌}
use Rattle.std.specs.Option.{option_map}
use Rattle.tap_bridge.proofs.ReadLemmas.{knows_comment, commented}
use Rattle.tap_bridge.proofs.reader.TapReader.add_comment.Goals as goal

pub returns-in_ok-add_line-in-Some-clause-read : goal.returns-in_ok-add_line-in-Some-clause-read
returns-in_ok-add_line-in-Some-clause-read c before known =
    knows_comment c.args.self.now _ before c.args.line.now refl refl
    (ap (λ text. Some (record c.in-Some.waiting { comment = text })) c.in_ok-add_line-in-Some.ensures ∙ ap (option_map (commented c.args.line.now)) (sym c.in-Some.is)) known
