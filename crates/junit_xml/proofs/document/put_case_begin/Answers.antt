use Rattle.std.proofs.Common.{List, ℕ, ◌++◌, ap, ◌∙◌}
use Rattle.std.specs.Prelude.{codes}
use Rattle.sub_number.specs.Seconds.{printed_seconds}
use Rattle.junit_xml.specs.declared.characters.Place.TheVariants.{Value}
use Rattle.junit_xml.specs.Characters.{written}
use Rattle.junit_xml.specs.Documents.{attribute, tag_line, class_of, case_name}
use Rattle.packet_codec.proofs.WritingLemmas.{kept_behind}
use Rattle.junit_xml.proofs.AppendLemmas.{more, case_begun}
use Rattle.junit_xml.proofs.document.put_case_begin.Goals as goal

abbrev whole : (class name : List ℕ) (nanos : ℕ) → List ℕ
whole class name nanos =
    tag_line (codes "testcase" ++ attribute (codes "classname") (written Value class) ++ attribute (codes "name") (written Value name) ++ attribute (codes "time") (printed_seconds nanos))

pub returns-clause-ok : goal.returns-clause-ok
returns-clause-ok c =
    let old = c.args.text.now.items in
    let row = c.args.row.now in
    case_begun (written Value c.names_of.result.0.now) (written Value c.names_of.result.1.now) (printed_seconds c.unwrap_or.result) old _ _ _ _ _ _ _
    c.in_ok-extend_from_slice.ensures.items c.in_ok-put_value.ensures.ok c.in_ok-extend_from_slice-2.ensures.items c.in_ok-put_value-2.ensures.ok
    c.in_ok-extend_from_slice-3.ensures.items c.in_ok-put_seconds.ensures.ok c.in_ok-extend_from_slice-4.ensures.items
    ∙ ap (λ (l : List ℕ). old ++ whole l c.names_of.result.1.now c.unwrap_or.result) (c.names_of.ensures.class ∙ ap class_of c.bytes.ensures.bytes)
    ∙ ap (λ (l : List ℕ). old ++ whole (class_of row.id) l c.unwrap_or.result) (c.names_of.ensures.name ∙ ap case_name c.bytes.ensures.bytes)
    ∙ ap (λ (n : ℕ). old ++ whole (class_of row.id) (case_name row.id) n) c.unwrap_or.ensures

abbrev class_mark : List ℕ
class_mark = codes "<testcase classname=\""

abbrev name_mark : List ℕ
name_mark = codes "\" name=\""

abbrev time_mark : List ℕ
time_mark = codes "\" time=\""

pub returns-in_err-put_value-2-clause-kept : goal.returns-in_err-put_value-2-clause-kept
returns-in_err-put_value-2-clause-kept c =
    let old = c.args.text.now.items in
    let class = written Value c.names_of.result.0.now in
    let first = more old class_mark _ _ class c.in_ok-extend_from_slice.ensures.items c.in_ok-put_value.ensures.ok in
    let second = more old (class_mark ++ class) _ _ name_mark first c.in_ok-extend_from_slice-2.ensures.items in
    kept_behind old _ _ (class_mark ++ class ++ name_mark) second c.in_err-put_value-2.ensures.kept

pub returns-in_err-put_seconds-clause-kept : goal.returns-in_err-put_seconds-clause-kept
returns-in_err-put_seconds-clause-kept c =
    let old = c.args.text.now.items in
    let class = written Value c.names_of.result.0.now in
    let name = written Value c.names_of.result.1.now in
    let first = more old class_mark _ _ class c.in_ok-extend_from_slice.ensures.items c.in_ok-put_value.ensures.ok in
    let second = more old (class_mark ++ class) _ _ name_mark first c.in_ok-extend_from_slice-2.ensures.items in
    let third = more old (class_mark ++ class ++ name_mark) _ _ name second c.in_ok-put_value-2.ensures.ok in
    let fourth = more old (class_mark ++ class ++ name_mark ++ name) _ _ time_mark third c.in_ok-extend_from_slice-3.ensures.items in
    kept_behind old _ _ (class_mark ++ class ++ name_mark ++ name ++ time_mark) fourth c.in_err-put_seconds.ensures.kept
