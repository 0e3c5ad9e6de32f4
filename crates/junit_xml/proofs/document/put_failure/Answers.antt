use Rattle.std.proofs.Common.{List, ℕ, ◌++◌, ap, sym, ◌∙◌, append_assoc}
use Rattle.std.specs.Prelude.{codes}
use Rattle.junit_xml.specs.declared.characters.Place.TheVariants.{Text}
use Rattle.junit_xml.specs.Characters.{written}
use Rattle.junit_xml.proofs.AppendLemmas.{more}
use Rattle.junit_xml.proofs.document.put_failure.Goals as goal

pub returns-clause-ok : goal.returns-clause-ok
returns-clause-ok c =
    let old = c.args.text.now.items in
    let kind = c.args.kind.now in
    let front = codes "<failure type=\"" in
    let shown = written Text c.args.bytes.now in
    let first = more old front _ _ kind c.in_ok-extend_from_slice.ensures.items c.in_ok-extend_from_slice-2.ensures.items in
    let second = more old (front ++ kind) _ _ (codes "\">") first c.in_ok-extend_from_slice-3.ensures.items in
    let third = more old (front ++ kind ++ codes "\">") _ _ shown second c.in_ok-put_written.ensures.ok in
    more old (front ++ kind ++ codes "\">" ++ shown) _ _ (codes "</failure>\n") third c.in_ok-extend_from_slice-4.ensures.items
    ∙ ap (λ (l : List ℕ). old ++ (front ++ (l ++ shown ++ codes "</failure>\n"))) (sym (append_assoc kind (codes "\"") (codes ">")))
