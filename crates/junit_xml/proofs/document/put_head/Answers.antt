use Rattle.std.proofs.Common.{List, ℕ, ◌++◌, ap, ◌∙◌, append_assoc}
use Rattle.std.specs.Prelude.{codes}
use Rattle.std.specs.Fmt.{decimal}
use Rattle.packet_codec.proofs.WritingLemmas.{kept_behind}
use Rattle.sub_number.specs.Seconds.{printed_seconds}
use Rattle.junit_xml.specs.Seconds.{seconds_text}
use Rattle.junit_xml.specs.Documents.{attribute, declaration}
use Rattle.junit_xml.proofs.AppendLemmas.{more, in_two}
use Rattle.junit_xml.proofs.document.put_head.Goals as goal

abbrev front : List ℕ
front = codes "<testsuite name=\"\""

abbrev errors : List ℕ
errors = codes " errors=\"0\""

pub returns-clause-ok : goal.returns-clause-ok
returns-clause-ok c =
    let old = c.args.text.now.items in
    let counts = c.args.counts in
    let tests = attribute (codes "tests") (decimal counts.total) in
    let failures = attribute (codes "failures") (decimal counts.failed) in
    let skips = attribute (codes "skipped") (decimal counts.skipped) in
    let base = more old declaration _ _ front c.in_ok-extend_from_slice.ensures.items c.in_ok-extend_from_slice-2.ensures.items in
    let first = more old (declaration ++ front) _ _ tests base c.in_ok-put_count.ensures.ok in
    let second = more old (declaration ++ front ++ tests) _ _ failures first c.in_ok-put_count-2.ensures.ok in
    let third = more old (declaration ++ front ++ tests ++ failures) _ _ errors second c.in_ok-extend_from_slice-3.ensures.items in
    let fourth = more old (declaration ++ front ++ tests ++ failures ++ errors) _ _ skips third c.in_ok-put_count-3.ensures.ok in
    let whole = declaration ++ front ++ tests ++ failures ++ errors ++ skips in
    more old whole _ _ (attribute (codes "time") (printed_seconds c.unwrap_or.result) ++ codes ">\n") fourth
    (c.in_ok-put_time.ensures.ok ∙ append_assoc c.put_count-3.new.text.items (attribute (codes "time") (printed_seconds c.unwrap_or.result)) (codes ">\n"))
    ∙ ap (λ (n : ℕ). old ++ (whole ++ (attribute (codes "time") (printed_seconds n) ++ codes ">\n"))) c.unwrap_or.ensures
    ∙ ap (λ (l : List ℕ). old ++ l) (in_two whole (attribute (codes "time") (seconds_text counts.nanos)) (codes ">") (codes "\n"))

pub returns-in_err-put_time-clause-kept : goal.returns-in_err-put_time-clause-kept
returns-in_err-put_time-clause-kept c =
    let old = c.args.text.now.items in
    let counts = c.args.counts in
    let tests = attribute (codes "tests") (decimal counts.total) in
    let failures = attribute (codes "failures") (decimal counts.failed) in
    let skips = attribute (codes "skipped") (decimal counts.skipped) in
    let base = more old declaration _ _ front c.in_ok-extend_from_slice.ensures.items c.in_ok-extend_from_slice-2.ensures.items in
    let first = more old (declaration ++ front) _ _ tests base c.in_ok-put_count.ensures.ok in
    let second = more old (declaration ++ front ++ tests) _ _ failures first c.in_ok-put_count-2.ensures.ok in
    let third = more old (declaration ++ front ++ tests ++ failures) _ _ errors second c.in_ok-extend_from_slice-3.ensures.items in
    let fourth = more old (declaration ++ front ++ tests ++ failures ++ errors) _ _ skips third c.in_ok-put_count-3.ensures.ok in
    kept_behind old _ _ (declaration ++ front ++ tests ++ failures ++ errors ++ skips) fourth c.in_err-put_time.ensures.kept
