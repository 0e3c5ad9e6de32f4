-- The document of rows, read by its grammar.
use Rattle.std.proofs.Common.{◌≡◌, ℕ, ◌<◌, ◌≤◌, ◌^◌, Bool, true, false, List, [], ◌∷◌, ◌++◌, length, map, None, Some, refl, sym, ◌∙◌, ap, subst, arith, append_assoc, ⊎_elim}
use Rattle.std.specs.Prelude.{Option, codes, not, ◌&&◌, ◌==◌, if◌then◌else◌}
use Rattle.std.specs.List.{slice_split, list_all, flat_map, fold, filter, join_with_byte, count_by}
use Rattle.std.specs.Option.{option_and_then}
use Rattle.std.specs.Fmt.{decimal}
use Rattle.std.proofs.lemmas.Bool.{cases_Bool, cond-true, cond-false, and_from, cond_both}
use Rattle.std.proofs.lemmas.List.{append-nil}
use Rattle.std.proofs.lemmas.List.Concat.{flat_map-append}
use Rattle.std.proofs.lemmas.List.Folds.{list_all-append}
use Rattle.std.proofs.lemmas.List.Sums.{fold-append, length-filter, count_by-le-length}
use Rattle.outcome_fold.specs.declared.row.Ended.{Ended}
use Rattle.outcome_fold.specs.declared.row.Ended.TheVariants as ended
use Rattle.outcome_fold.specs.declared.row.Row.{Row}
use Rattle.outcome_fold.specs.declared.row.Counts.{Counts}
use Rattle.outcome_fold.specs.Answers.{is_run, is_counted, is_skipped, row_fails, counts_of, counted_rows}
use Rattle.junit_xml.specs.declared.characters.Place.TheVariants.{Text, Value}
use Rattle.junit_xml.specs.Characters.{shown_utf8, written}
use Rattle.junit_xml.specs.Seconds.{seconds_text}
use Rattle.junit_xml.specs.Documents.{attribute, tag_line, class_of, case_name, case_begin, failure, skipped, inside_of, case_text, case_of, declaration, suite_begin, head_of, tail_text, junit_of}
use Rattle.junit_xml.specs.Reading as reading
use Rattle.junit_xml.specs.Reading.{Reading, Tag, Heading, Case, CaseVerdict, Document, read_tag, read_on, read_next, read_document, document_of, document_read}
use Rattle.junit_xml.specs.Told.{case_verdict, told_case, told_counts, told_document}
use Rattle.junit_xml.proofs.Cuts.{lacks, cut_fronted}
use Rattle.junit_xml.proofs.NameLemmas.{id_back}
use Rattle.junit_xml.proofs.TagLemmas.{suite_part, suite_closed, suite_read, suite_pieces, AreSmallCounts, case_part, case_closed, case_read, case_pieces, failure_part, failure_closed, failure_read, skip_part, skip_closed, skip_read}

-- The parts of a document: what stands behind each `<`.

abbrev inside_parts : Ended → (text reason : List ℕ) → List (List ℕ)
inside_parts ended.Exists text reason = []
inside_parts ended.Success text reason = []
inside_parts ended.UxSuccess text reason = failure_part (codes "uxsuccess") text ∷ codes "/failure>\n" ∷ []
inside_parts ended.Skip text reason = skip_part reason ∷ []
inside_parts ended.Fail text reason = failure_part (codes "fail") text ∷ codes "/failure>\n" ∷ []
inside_parts ended.XFail text reason = []
inside_parts ended.Open text reason = failure_part (codes "unfinished") text ∷ codes "/failure>\n" ∷ []

abbrev case_end : List ℕ
case_end = codes "/testcase>\n"

abbrev case_parts : Row → List (List ℕ)
case_parts row = case_part row ∷ inside_parts row.ended row.text row.reason ++ case_end ∷ []

abbrev row_parts : Row → List (List ℕ)
row_parts row = if is_run row then case_parts row else []

abbrev declaration_part : List ℕ
declaration_part = codes "?xml version=\"1.0\" encoding=\"utf-8\"?>\n"

abbrev suite_end : List ℕ
suite_end = codes "/testsuite>\n"

abbrev document_parts : List Row → List (List ℕ)
document_parts rows = declaration_part ∷ suite_part (counts_of [] rows) ∷ flat_map row_parts rows ++ suite_end ∷ []

abbrev fronted : List ℕ → List ℕ
fronted part = 60 ∷ part

-- The text is the parts.

inside_is : (how : Ended) (text reason : List ℕ) → inside_of how text reason ≡ flat_map fronted (inside_parts how text reason)
inside_is ended.Exists text reason = refl
inside_is ended.Success text reason = refl
inside_is ended.UxSuccess text reason = simp append_assoc refl
inside_is ended.Skip text reason = simp append_assoc refl
inside_is ended.Fail text reason = simp append_assoc refl
inside_is ended.XFail text reason = refl
inside_is ended.Open text reason = simp append_assoc refl

-- appends of values in one order and in the other

left_three : (a l b m d q c n : List ℕ) → ((((a ++ q) ++ (l ++ b ++ q)) ++ (m ++ d ++ q)) ++ c) ++ n ≡ a ++ (q ++ (l ++ (b ++ (q ++ (m ++ (d ++ (q ++ (c ++ n))))))))
left_three a l b m d q c n = simp append_assoc refl

right_three : (a l b m d q c n : List ℕ) → (a ++ (q ++ (l ++ (b ++ (q ++ (m ++ (d ++ q))))))) ++ (c ++ n) ≡ a ++ (q ++ (l ++ (b ++ (q ++ (m ++ (d ++ (q ++ (c ++ n))))))))
right_three a l b m d q c n = simp append_assoc refl

left_four : (a l b e m d k f q c n : List ℕ) → ((((((a ++ q) ++ (l ++ b ++ q)) ++ e) ++ (m ++ d ++ q)) ++ (k ++ f ++ q)) ++ c) ++ n
    ≡ a ++ (q ++ (l ++ (b ++ (q ++ (e ++ (m ++ (d ++ (q ++ (k ++ (f ++ (q ++ (c ++ n))))))))))))
left_four a l b e m d k f q c n = simp append_assoc refl

right_four : (a l b e m d k f q c n : List ℕ) → (a ++ (q ++ (l ++ (b ++ (q ++ (e ++ (m ++ (d ++ (q ++ (k ++ (f ++ q))))))))))) ++ (c ++ n)
    ≡ a ++ (q ++ (l ++ (b ++ (q ++ (e ++ (m ++ (d ++ (q ++ (k ++ (f ++ (q ++ (c ++ n))))))))))))
right_four a l b e m d k f q c n = simp append_assoc refl

case_line_is : (class name seconds : List ℕ)
    → tag_line (codes "testcase" ++ attribute (codes "classname") class ++ attribute (codes "name") name ++ attribute (codes "time") seconds)
    ≡ 60 ∷ (join_with_byte 34 (codes "testcase classname=" ∷ class ∷ codes " name=" ∷ name ∷ codes " time=" ∷ seconds ∷ [] ∷ []) ++ 62 ∷ 10 ∷ [])
case_line_is class name seconds =
    ap (λ (l : List ℕ). codes "<testcase classname=\"" ++ l)
    (left_three class (codes " name=\"") name (codes " time=\"") seconds (codes "\"") (codes ">") (codes "\n")
    ∙ sym (right_three class (codes " name=\"") name (codes " time=\"") seconds (codes "\"") (codes ">") (codes "\n")))

begin_is : (row : Row) → case_begin row ≡ fronted (case_part row)
begin_is row = case_line_is (written Value (class_of row.id)) (written Value (case_name row.id)) (seconds_text row.nanos)

case_is : (row : Row) → case_text row ≡ flat_map fronted (case_parts row)
case_is row =
    let inside = inside_parts row.ended row.text row.reason in
    append_assoc (case_begin row) (inside_of row.ended row.text row.reason) (tag_line (codes "/testcase"))
    ∙ ap (λ l. l ++ (inside_of row.ended row.text row.reason ++ tag_line (codes "/testcase"))) (begin_is row)
    ∙ ap (λ l. fronted (case_part row) ++ (l ++ tag_line (codes "/testcase"))) (inside_is row.ended row.text row.reason)
    ∙ ap (λ l. fronted (case_part row) ++ l) (sym (flat_map-append fronted inside (case_end ∷ [])))

row_is : (row : Row) → case_of row ≡ flat_map fronted (row_parts row)
row_is row =
    ⊎_elim
    (λ (yes : is_run row ≡ true). cond-true (is_run row) (case_text row) [] yes ∙ case_is row ∙ ap (flat_map fronted) (sym (cond-true (is_run row) (case_parts row) [] yes)))
    (λ (no : is_run row ≡ false). cond-false (is_run row) (case_text row) [] no ∙ ap (flat_map fronted) (sym (cond-false (is_run row) (case_parts row) [] no)))
    (cases_Bool (is_run row))

rows_are : (rows : List Row) → flat_map case_of rows ≡ flat_map fronted (flat_map row_parts rows)
rows_are [] = refl
rows_are (row ∷ rows) =
    ap (λ l. l ++ flat_map case_of rows) (row_is row) ∙ ap (λ l. flat_map fronted (row_parts row) ++ l) (rows_are rows)
    ∙ sym (flat_map-append fronted (row_parts row) (flat_map row_parts rows))

suite_line_is : (tests failures skips seconds : List ℕ)
    → tag_line (codes "testsuite" ++ attribute (codes "name") [] ++ attribute (codes "tests") tests ++ attribute (codes "failures") failures ++ attribute (codes "errors") (codes "0") ++ attribute (codes "skipped") skips ++ attribute (codes "time") seconds)
    ≡ 60 ∷ (join_with_byte 34 (codes "testsuite name=" ∷ [] ∷ codes " tests=" ∷ tests ∷ codes " failures=" ∷ failures ∷ codes " errors=" ∷ codes "0" ∷ codes " skipped=" ∷ skips ∷ codes " time=" ∷ seconds ∷ [] ∷ []) ++ 62 ∷ 10 ∷ [])
suite_line_is tests failures skips seconds =
    ap (λ (l : List ℕ). codes "<testsuite name=\"\" tests=\"" ++ l)
    (left_four tests (codes " failures=\"") failures (codes " errors=\"0\"") (codes " skipped=\"") skips (codes " time=\"") seconds (codes "\"") (codes ">") (codes "\n")
    ∙ sym (right_four tests (codes " failures=\"") failures (codes " errors=\"0\"") (codes " skipped=\"") skips (codes " time=\"") seconds (codes "\"") (codes ">") (codes "\n")))

suite_is : (counts : Counts) → suite_begin counts ≡ fronted (suite_part counts)
suite_is counts = suite_line_is (decimal counts.total) (decimal counts.failed) (decimal counts.skipped) (seconds_text counts.nanos)

document_is : (rows : List Row) → junit_of rows ≡ flat_map fronted (document_parts rows)
document_is rows =
    let counts = counts_of [] rows in
    let later = flat_map fronted (flat_map row_parts rows) in
    append_assoc (head_of counts) (flat_map case_of rows) tail_text
    ∙ append_assoc declaration (suite_begin counts) (flat_map case_of rows ++ tail_text)
    ∙ ap (λ l. declaration ++ (l ++ (flat_map case_of rows ++ tail_text))) (suite_is counts)
    ∙ ap (λ l. declaration ++ (fronted (suite_part counts) ++ (l ++ tail_text))) (rows_are rows)
    ∙ ap (λ l. declaration ++ (fronted (suite_part counts) ++ l)) (sym (flat_map-append fronted (flat_map row_parts rows) (suite_end ∷ [])))

-- No part has a sign that begins another.

abbrev AreClosed : List (List ℕ) → Type 0
AreClosed parts = list_all (lacks (λ b. b == 60)) parts ≡ true

closed_both : (xs ys : List (List ℕ)) → AreClosed xs → AreClosed ys → AreClosed (xs ++ ys)
closed_both xs ys first second = list_all-append (lacks (λ b. b == 60)) xs ys ∙ and_from (list_all (lacks (λ b. b == 60)) xs) (list_all (lacks (λ b. b == 60)) ys) first second

inside_closed : (how : Ended) (text reason : List ℕ) → AreClosed (inside_parts how text reason)
inside_closed ended.Exists text reason = refl
inside_closed ended.Success text reason = refl
inside_closed ended.UxSuccess text reason = and_from _ _ (failure_closed (codes "uxsuccess") text refl) refl
inside_closed ended.Skip text reason = and_from _ _ (skip_closed reason) refl
inside_closed ended.Fail text reason = and_from _ _ (failure_closed (codes "fail") text refl) refl
inside_closed ended.XFail text reason = refl
inside_closed ended.Open text reason = and_from _ _ (failure_closed (codes "unfinished") text refl) refl

case_are_closed : (row : Row) → AreClosed (case_parts row)
case_are_closed row =
    and_from (lacks (λ b. b == 60) (case_part row)) (list_all (lacks (λ b. b == 60)) (inside_parts row.ended row.text row.reason ++ case_end ∷ [])) (case_closed row)
    (closed_both (inside_parts row.ended row.text row.reason) (case_end ∷ []) (inside_closed row.ended row.text row.reason) refl)

rows_closed : (rows : List Row) → AreClosed (flat_map row_parts rows)
rows_closed [] = refl
rows_closed (row ∷ rows) =
    closed_both (row_parts row) (flat_map row_parts rows)
    (cond_both (is_run row) (case_parts row) [] AreClosed (λ _. case_are_closed row) (λ _. refl)) (rows_closed rows)

document_closed : (rows : List Row) → AreClosed (document_parts rows)
document_closed rows =
    and_from (lacks (λ b. b == 60) (suite_part (counts_of [] rows))) (list_all (lacks (λ b. b == 60)) (flat_map row_parts rows ++ suite_end ∷ [])) (suite_closed (counts_of [] rows))
    (closed_both (flat_map row_parts rows) (suite_end ∷ []) (rows_closed rows) refl)

-- The parts are read one after another.

abbrev Leads : Reading → List (List ℕ) → Reading → Type 0
Leads r parts s = fold read_next (Some r) parts ≡ Some s

leads_then : (r s t : Reading) (xs ys : List (List ℕ)) → Leads r xs s → Leads s ys t → Leads r (xs ++ ys) t
leads_then r s t xs ys first second = fold-append read_next (Some r) xs ys ∙ ap (λ o. fold read_next o ys) first ∙ second

leads_on : (r s t : Reading) (part : List ℕ) (tag : Tag) (parts : List (List ℕ)) → read_tag part ≡ Some tag → read_on r tag ≡ Some s → Leads s parts t → Leads r (part ∷ parts) t
leads_on r s t part tag parts read on rest = ap (λ o. fold read_next (option_and_then (read_on r) o) parts) read ∙ ap (λ o. fold read_next o parts) on ∙ rest

-- a failure, and the end of its case
failure_leads : (heading : Heading) (cases : List Case) (id seconds kind text : List ℕ) (how : Ended) → read_tag (failure_part kind text) ≡ Some (reading.begins_failure how (shown_utf8 text))
    → Leads (reading.in_case heading cases id seconds) (failure_part kind text ∷ codes "/failure>\n" ∷ case_end ∷ []) (reading.in_suite heading (cases ++ record { id = id; seconds = seconds; verdict = reading.failed how (shown_utf8 text) } ∷ []))
failure_leads heading cases id seconds kind text how read =
    let told : Case = record { id = id; seconds = seconds; verdict = reading.failed how (shown_utf8 text) } in
    leads_on (reading.in_case heading cases id seconds) (reading.in_failure heading cases told) (reading.in_suite heading (cases ++ told ∷ [])) (failure_part kind text) (reading.begins_failure how (shown_utf8 text)) (codes "/failure>\n" ∷ case_end ∷ []) read refl refl

inside_leads : (how : Ended) (heading : Heading) (cases : List Case) (id seconds text reason : List ℕ)
    → Leads (reading.in_case heading cases id seconds) (inside_parts how text reason ++ case_end ∷ []) (reading.in_suite heading (cases ++ record { id = id; seconds = seconds; verdict = case_verdict how text reason } ∷ []))
inside_leads ended.Exists heading cases id seconds text reason = refl
inside_leads ended.Success heading cases id seconds text reason = refl
inside_leads ended.UxSuccess heading cases id seconds text reason = failure_leads heading cases id seconds (codes "uxsuccess") text ended.UxSuccess (failure_read (codes "uxsuccess") text ended.UxSuccess refl refl refl)
inside_leads ended.Skip heading cases id seconds text reason =
    let told : Case = record { id = id; seconds = seconds; verdict = reading.skipped (shown_utf8 reason) } in
    leads_on (reading.in_case heading cases id seconds) (reading.in_told_case heading cases told) (reading.in_suite heading (cases ++ told ∷ [])) (skip_part reason) (reading.skips (shown_utf8 reason)) (case_end ∷ []) (skip_read reason) refl refl
inside_leads ended.Fail heading cases id seconds text reason = failure_leads heading cases id seconds (codes "fail") text ended.Fail (failure_read (codes "fail") text ended.Fail refl refl refl)
inside_leads ended.XFail heading cases id seconds text reason = refl
inside_leads ended.Open heading cases id seconds text reason = failure_leads heading cases id seconds (codes "unfinished") text ended.Open (failure_read (codes "unfinished") text ended.Open refl refl refl)

case_leads : (heading : Heading) (cases : List Case) (row : Row) → Leads (reading.in_suite heading cases) (case_parts row) (reading.in_suite heading (cases ++ told_case row ∷ []))
case_leads heading cases row =
    leads_on (reading.in_suite heading cases) (reading.in_case heading cases (shown_utf8 row.id) (seconds_text row.nanos)) (reading.in_suite heading (cases ++ told_case row ∷ [])) (case_part row) (reading.begins_case (shown_utf8 row.id) (seconds_text row.nanos))
    (inside_parts row.ended row.text row.reason ++ case_end ∷ [])
    (case_read row ∙ ap (λ id. Some (reading.begins_case id (seconds_text row.nanos))) (id_back row.id)) refl
    (inside_leads row.ended heading cases (shown_utf8 row.id) (seconds_text row.nanos) row.text row.reason)

rows_lead : (heading : Heading) (cases : List Case) (rows : List Row) → Leads (reading.in_suite heading cases) (flat_map row_parts rows) (reading.in_suite heading (cases ++ map told_case (filter is_run rows)))
rows_lead heading cases [] = ap (λ l. Some (reading.in_suite heading l)) (sym (append-nil cases))
rows_lead heading cases (row ∷ rows) =
    ⊎_elim
    (λ (yes : is_run row ≡ true).
    let parts : row_parts row ≡ case_parts row = cond-true (is_run row) (case_parts row) [] yes in
    let kept : filter is_run (row ∷ rows) ≡ row ∷ filter is_run rows = cond-true (is_run row) (row ∷ filter is_run rows) (filter is_run rows) yes in
    let more = cases ++ told_case row ∷ [] in
    ap (λ l. fold read_next (Some (reading.in_suite heading cases)) (l ++ flat_map row_parts rows)) parts
    ∙ leads_then (reading.in_suite heading cases) (reading.in_suite heading more) (reading.in_suite heading (more ++ map told_case (filter is_run rows))) (case_parts row) (flat_map row_parts rows) (case_leads heading cases row) (rows_lead heading more rows)
    ∙ ap (λ l. Some (reading.in_suite heading l)) (append_assoc cases (told_case row ∷ []) (map told_case (filter is_run rows)))
    ∙ ap (λ l. Some (reading.in_suite heading (cases ++ map told_case l))) (sym kept))
    (λ (no : is_run row ≡ false).
    let parts : row_parts row ≡ [] = cond-false (is_run row) (case_parts row) [] no in
    let kept : filter is_run (row ∷ rows) ≡ filter is_run rows = cond-false (is_run row) (row ∷ filter is_run rows) (filter is_run rows) no in
    ap (λ l. fold read_next (Some (reading.in_suite heading cases)) (l ++ flat_map row_parts rows)) parts
    ∙ rows_lead heading cases rows
    ∙ ap (λ l. Some (reading.in_suite heading (cases ++ map told_case l))) (sym kept))
    (cases_Bool (is_run row))

counts_short : (rows : List Row) → length rows < 2 ^ 64 → AreSmallCounts (counts_of [] rows)
counts_short rows short =
    let counted = counted_rows [] rows in
    let few : length counted ≤ length rows = omega (arith, length-filter (is_counted []) rows, count_by-le-length (is_counted []) rows) in
    record {
      total = omega (arith, few, short);
      failed = omega (arith, few, short, count_by-le-length row_fails counted);
      skipped = omega (arith, few, short, count_by-le-length is_skipped counted);
    }

document_leads : (rows : List Row) → length rows < 2 ^ 64 → Leads reading.at_front (document_parts rows) (reading.at_end (told_document rows))
document_leads rows short =
    let heading = told_counts (counts_of [] rows) in
    leads_on reading.at_front reading.is_declared (reading.at_end (told_document rows)) declaration_part reading.declares (suite_part (counts_of [] rows) ∷ flat_map row_parts rows ++ suite_end ∷ []) refl refl
    (leads_on reading.is_declared (reading.in_suite heading []) (reading.at_end (told_document rows)) (suite_part (counts_of [] rows)) (reading.begins_suite heading) (flat_map row_parts rows ++ suite_end ∷ []) (suite_read (counts_of [] rows) (counts_short rows short)) refl
    (leads_then (reading.in_suite heading []) (reading.in_suite heading (map told_case (filter is_run rows))) (reading.at_end (told_document rows)) (flat_map row_parts rows) (suite_end ∷ []) (rows_lead heading [] rows) refl))

pub document_told : (rows : List Row) → length rows < 2 ^ 64 → read_document (junit_of rows) ≡ Some (told_document rows)
document_told rows short =
    ap read_document (document_is rows) ∙ ap document_of (cut_fronted 60 (document_parts rows) (document_closed rows)) ∙ ap document_read (document_leads rows short)
