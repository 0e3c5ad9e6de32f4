use Rattle.std.proofs.Common.{List, ℕ, [], ◌++◌, ap, ◌∙◌}
use Rattle.std.specs.List.{flat_map}
use Rattle.outcome_fold.specs.declared.row.Counts.{Counts}
use Rattle.outcome_fold.specs.declared.row.Row.{Row}
use Rattle.outcome_fold.specs.Answers.{counts_of}
use Rattle.junit_xml.specs.Documents.{case_of, head_of, tail_text}
use Rattle.junit_xml.proofs.AppendLemmas.{more}
use Rattle.junit_xml.proofs.document.put_document.Goals as goal

pub returns-clause-ok : goal.returns-clause-ok
returns-clause-ok c =
    let old = c.args.text.now.items in
    let head = head_of c.counts_in.result in
    let cases = flat_map case_of c.list.result.now in
    let first = more old head _ _ cases c.in_ok-put_head.ensures.ok c.in_ok-put_cases.ensures.ok in
    more old (head ++ cases) _ _ tail_text first c.in_ok-extend_from_slice.ensures.items
    ∙ ap (λ (n : Counts). old ++ (head_of n ++ cases ++ tail_text)) c.counts_in.ensures
    ∙ ap (λ (rows : List Row). old ++ (head_of (counts_of [] c.args.rows.now) ++ flat_map case_of rows ++ tail_text)) c.list.ensures
