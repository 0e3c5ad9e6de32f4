-- A document is made of characters that XML 1.0 allows.
use Rattle.std.proofs.Common.{◌≡◌, ℕ, ◌+◌, ◌<◌, ◌≤◌, Bool, true, false, cond, nat_lt, List, [], ◌∷◌, ◌++◌, encode_utf8, encode_utf8_all, refl, sym, ◌∙◌, ap, arith}
use Rattle.std.specs.Prelude.{Option, codes, ◌&&◌, nat_le, if◌then◌else◌}
use Rattle.std.specs.Fmt.{decimal}
use Rattle.std.specs.List.{list_all, flat_map}
use Rattle.std.proofs.lemmas.Bool.{and_parts, and_from, cond_both, ltb-true}
use Rattle.std.proofs.lemmas.Bool.Decides.{nat_tests}
use Rattle.std.proofs.lemmas.List.{append-nil}
use Rattle.std.proofs.lemmas.List.Folds.{list_all-append}
use Rattle.std.proofs.lemmas.Str.{encode_ascii}
use Rattle.bstr.specs.Utf8.{replacement, lossy_chars}
use Rattle.outcome_fold.specs.declared.row.Ended.{Ended}
use Rattle.outcome_fold.specs.declared.row.Ended.TheVariants as ended
use Rattle.outcome_fold.specs.declared.row.Row.{Row}
use Rattle.outcome_fold.specs.declared.row.Counts.{Counts}
use Rattle.outcome_fold.specs.Answers.{is_run, counts_of}
use Rattle.junit_xml.specs.declared.characters.Place.{Place}
use Rattle.junit_xml.specs.declared.characters.Place.TheVariants.{Text, Value}
use Rattle.junit_xml.specs.Characters.{is_xml_char, written_char, written}
use Rattle.junit_xml.specs.Seconds.{seconds_text}
use Rattle.junit_xml.specs.Documents.{attribute, tag, tag_line, class_of, case_name, case_begin, failure, skipped, inside_of, case_text, case_of, declaration, suite_begin, head_of, tail_text, junit_of}
use Rattle.junit_xml.specs.Told.{IsXmlText}
use Rattle.junit_xml.proofs.CharacterLemmas.{by_char}
use Rattle.junit_xml.proofs.NameLemmas.{encoded_append}
use Rattle.junit_xml.proofs.NumberLemmas.{decimal_all, seconds_all}
use lib.Utf8.{encode}

-- a character of ASCII that XML 1.0 allows
abbrev is_plain_xml : ℕ → Bool
is_plain_xml char = nat_lt char 128 && is_xml_char char

plain_spelled : (xs : List ℕ) → list_all is_plain_xml xs ≡ true → encode_utf8_all xs ≡ xs
plain_spelled [] all = refl
plain_spelled (x ∷ xs) all =
    let both = and_parts (is_plain_xml x) (list_all is_plain_xml xs) all in
    ap (λ (l : List ℕ). l ++ encode_utf8_all xs) (encode_ascii x (ltb-true x 128 (and_parts (nat_lt x 128) (is_xml_char x) both.0).0)) ∙ ap (λ (l : List ℕ). x ∷ l) (plain_spelled xs both.1)

plain_allowed : (xs : List ℕ) → list_all is_plain_xml xs ≡ true → list_all is_xml_char xs ≡ true
plain_allowed [] all = refl
plain_allowed (x ∷ xs) all =
    let both = and_parts (is_plain_xml x) (list_all is_plain_xml xs) all in
    and_from (is_xml_char x) (list_all is_xml_char xs) (and_parts (nat_lt x 128) (is_xml_char x) both.0).1 (plain_allowed xs both.1)

-- such characters are a text
plain_xml : (xs : List ℕ) → list_all is_plain_xml xs ≡ true → IsXmlText xs
plain_xml xs all = (xs, plain_spelled xs all, plain_allowed xs all)

both_xml : (xs ys : List ℕ) → IsXmlText xs → IsXmlText ys → IsXmlText (xs ++ ys)
both_xml xs ys first second = (
  first.0 ++ second.0,
  encoded_append first.0 second.0 ∙ ap (λ (l : List ℕ). l ++ encode_utf8_all second.0) first.1 ∙ ap (λ (l : List ℕ). xs ++ l) second.1,
  list_all-append is_xml_char first.0 second.0 ∙ and_from (list_all is_xml_char first.0) (list_all is_xml_char second.0) first.2 second.2,
)

all_xml : {A : Type 0} (f : A → List ℕ) → ((x : A) → IsXmlText (f x)) → (xs : List A) → IsXmlText (flat_map f xs)
all_xml f each [] = ([], refl, refl)
all_xml f each (x ∷ xs) = both_xml (f x) (flat_map f xs) (each x) (all_xml f each xs)

-- a number and a time

digit_xml : (digit : ℕ) → digit < 10 → is_plain_xml (48 + digit) ≡ true
digit_xml digit low = grind (arith, nat_tests)

decimal_xml : (n : ℕ) → IsXmlText (decimal n)
decimal_xml n = plain_xml (decimal n) (decimal_all is_plain_xml digit_xml n)

seconds_xml : (nanos : Option ℕ) → IsXmlText (seconds_text nanos)
seconds_xml nanos = plain_xml (seconds_text nanos) (seconds_all is_plain_xml digit_xml refl nanos)

-- what is written of bytes

char_xml : (stands : Place) (char : ℕ) → IsXmlText (written_char stands char)
char_xml stands char =
    by_char (λ w _. IsXmlText w) stands char
    (plain_xml (codes "&amp;") refl) (plain_xml (codes "&lt;") refl) (plain_xml (codes "&gt;") refl) (plain_xml (codes "&quot;") refl)
    (plain_xml (codes "&#9;") refl) (plain_xml (codes "&#10;") refl) (plain_xml (codes "&#13;") refl)
    (replacement ∷ [], append-nil (encode_utf8 replacement), refl)
    (λ allowed _ _. (char ∷ [], append-nil (encode_utf8 char), and_from (is_xml_char char) true allowed refl))

written_xml : (stands : Place) (bytes : List ℕ) → IsXmlText (written stands bytes)
written_xml stands bytes = all_xml (written_char stands) (char_xml stands) (lossy_chars bytes)

-- tags

attribute_xml : (name value : List ℕ) → list_all is_plain_xml name ≡ true → IsXmlText value → IsXmlText (attribute name value)
attribute_xml name value plain xml =
    both_xml (codes " " ++ name ++ codes "=\"" ++ value) (codes "\"")
    (both_xml (codes " " ++ name ++ codes "=\"") value
    (both_xml (codes " " ++ name) (codes "=\"") (both_xml (codes " ") name (plain_xml (codes " ") refl) (plain_xml name plain)) (plain_xml (codes "=\"") refl)) xml)
    (plain_xml (codes "\"") refl)

tag_xml : (inside : List ℕ) → IsXmlText inside → IsXmlText (tag inside)
tag_xml inside xml = both_xml (codes "<" ++ inside) (codes ">") (both_xml (codes "<") inside (plain_xml (codes "<") refl) xml) (plain_xml (codes ">") refl)

line_xml : (inside : List ℕ) → IsXmlText inside → IsXmlText (tag_line inside)
line_xml inside xml = both_xml (tag inside) (codes "\n") (tag_xml inside xml) (plain_xml (codes "\n") refl)

failure_xml : (kind text : List ℕ) → list_all is_plain_xml kind ≡ true → IsXmlText (failure kind text)
failure_xml kind text plain =
    both_xml (tag (codes "failure" ++ attribute (codes "type") kind) ++ written Text text) (tag_line (codes "/failure"))
    (both_xml (tag (codes "failure" ++ attribute (codes "type") kind)) (written Text text)
    (tag_xml (codes "failure" ++ attribute (codes "type") kind) (both_xml (codes "failure") (attribute (codes "type") kind) (plain_xml (codes "failure") refl) (attribute_xml (codes "type") kind refl (plain_xml kind plain))))
    (written_xml Text text))
    (plain_xml (tag_line (codes "/failure")) refl)

skipped_xml : (reason : List ℕ) → IsXmlText (skipped reason)
skipped_xml reason =
    line_xml (codes "skipped" ++ attribute (codes "message") (written Value reason) ++ codes "/")
    (both_xml (codes "skipped" ++ attribute (codes "message") (written Value reason)) (codes "/")
    (both_xml (codes "skipped") (attribute (codes "message") (written Value reason)) (plain_xml (codes "skipped") refl) (attribute_xml (codes "message") (written Value reason) refl (written_xml Value reason)))
    (plain_xml (codes "/") refl))

inside_xml : (how : Ended) (text reason : List ℕ) → IsXmlText (inside_of how text reason)
inside_xml ended.Exists text reason = plain_xml [] refl
inside_xml ended.Success text reason = plain_xml [] refl
inside_xml ended.UxSuccess text reason = failure_xml (codes "uxsuccess") text refl
inside_xml ended.Skip text reason = skipped_xml reason
inside_xml ended.Fail text reason = failure_xml (codes "fail") text refl
inside_xml ended.XFail text reason = plain_xml [] refl
inside_xml ended.Open text reason = failure_xml (codes "unfinished") text refl

begin_xml : (row : Row) → IsXmlText (case_begin row)
begin_xml row =
    let class = attribute (codes "classname") (written Value (class_of row.id)) in
    let name = attribute (codes "name") (written Value (case_name row.id)) in
    let time = attribute (codes "time") (seconds_text row.nanos) in
    line_xml (codes "testcase" ++ class ++ name ++ time)
    (both_xml (codes "testcase" ++ class ++ name) time
    (both_xml (codes "testcase" ++ class) name
    (both_xml (codes "testcase") class (plain_xml (codes "testcase") refl) (attribute_xml (codes "classname") (written Value (class_of row.id)) refl (written_xml Value (class_of row.id))))
    (attribute_xml (codes "name") (written Value (case_name row.id)) refl (written_xml Value (case_name row.id))))
    (attribute_xml (codes "time") (seconds_text row.nanos) refl (seconds_xml row.nanos)))

case_xml : (row : Row) → IsXmlText (case_text row)
case_xml row =
    both_xml (case_begin row ++ inside_of row.ended row.text row.reason) (tag_line (codes "/testcase"))
    (both_xml (case_begin row) (inside_of row.ended row.text row.reason) (begin_xml row) (inside_xml row.ended row.text row.reason))
    (plain_xml (tag_line (codes "/testcase")) refl)

row_xml : (row : Row) → IsXmlText (case_of row)
row_xml row = cond_both (is_run row) (case_text row) [] IsXmlText (λ _. case_xml row) (λ _. plain_xml [] refl)

count_xml : (name : List ℕ) (n : ℕ) → list_all is_plain_xml name ≡ true → IsXmlText (attribute name (decimal n))
count_xml name n plain = attribute_xml name (decimal n) plain (decimal_xml n)

suite_xml : (counts : Counts) → IsXmlText (suite_begin counts)
suite_xml counts =
    let front = codes "testsuite" ++ attribute (codes "name") [] in
    let tests = attribute (codes "tests") (decimal counts.total) in
    let failures = attribute (codes "failures") (decimal counts.failed) in
    let errors = attribute (codes "errors") (codes "0") in
    let skips = attribute (codes "skipped") (decimal counts.skipped) in
    let time = attribute (codes "time") (seconds_text counts.nanos) in
    line_xml (front ++ tests ++ failures ++ errors ++ skips ++ time)
    (both_xml (front ++ tests ++ failures ++ errors ++ skips) time
    (both_xml (front ++ tests ++ failures ++ errors) skips
    (both_xml (front ++ tests ++ failures) errors
    (both_xml (front ++ tests) failures
    (both_xml front tests (plain_xml front refl) (count_xml (codes "tests") counts.total refl))
    (count_xml (codes "failures") counts.failed refl))
    (plain_xml errors refl))
    (count_xml (codes "skipped") counts.skipped refl))
    (attribute_xml (codes "time") (seconds_text counts.nanos) refl (seconds_xml counts.nanos)))

pub document_xml : (rows : List Row) → IsXmlText (junit_of rows)
document_xml rows =
    both_xml (head_of (counts_of [] rows) ++ flat_map case_of rows) tail_text
    (both_xml (head_of (counts_of [] rows)) (flat_map case_of rows)
    (both_xml declaration (suite_begin (counts_of [] rows)) (plain_xml declaration refl) (suite_xml (counts_of [] rows)))
    (all_xml case_of row_xml rows))
    (plain_xml tail_text refl)
