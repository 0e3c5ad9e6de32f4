-- A grammar of such documents, and their reading (docs/FORMATS.md, "JUnit XML"). What it refuses is no such document.
use Rattle.std.specs.Prelude.{ℕ, ◌==◌, ◌&&◌, Bool, nat_le, Option, Some, None, List, [], ◌∷◌, ◌++◌, length, codes, if◌then◌else◌}
use Rattle.std.specs.List.{slice_split, join_with_byte, list_all, fold}
use Rattle.std.specs.Option.{option_map, option_and_then}
use Rattle.std.specs.Char.{is_ascii_digit}
use Rattle.std.specs.Fmt.{option_append}
use Rattle.std.specs.Str.{bytes_eq}
use Rattle.std.specs.Str.Parse.{digits_value}
use Rattle.outcome_fold.specs.declared.row.Ended.{Ended}
use Rattle.outcome_fold.specs.declared.row.Ended.TheVariants as ended

-- Texts and values.

-- the sign that a reference names
abbrev pub sign_named : List ℕ → Option ℕ
sign_named name =
    if bytes_eq name (codes "amp") then Some 38
    else (if bytes_eq name (codes "lt") then Some 60
    else (if bytes_eq name (codes "gt") then Some 62
    else (if bytes_eq name (codes "quot") then Some 34
    else (if bytes_eq name (codes "#9") then Some 9
    else (if bytes_eq name (codes "#10") then Some 10
    else (if bytes_eq name (codes "#13") then Some 13
    else None))))))

-- a reference, cut at each `;`: its name stands before the first one, which must be there
abbrev pub reference_of : List (List ℕ) → Option (List ℕ)
reference_of [] = None
reference_of (name ∷ []) = None
reference_of (name ∷ behind ∷ pieces) = option_map (λ sign. sign ∷ join_with_byte 59 (behind ∷ pieces)) (sign_named name)

-- what is read of bytes that follow a `&`
abbrev pub read_reference : List ℕ → Option (List ℕ)
read_reference bytes = reference_of (slice_split (λ byte. byte == 59) bytes)

-- what is read of pieces that follow a `&` each
abbrev pub read_references : List (List ℕ) → Option (List ℕ)
read_references [] = Some []
read_references (piece ∷ pieces) = option_append (read_reference piece) (read_references pieces)

-- a text, cut at each `&`
abbrev pub text_with_references : List (List ℕ) → Option (List ℕ)
text_with_references [] = None
text_with_references (front ∷ pieces) = option_append (Some front) (read_references pieces)

-- what is read of a text
abbrev pub read_text : List ℕ → Option (List ℕ)
read_text bytes = text_with_references (slice_split (λ byte. byte == 38) bytes)

-- what is read of an attribute's value, in which no control byte stands as it is
abbrev pub read_value : List ℕ → Option (List ℕ)
read_value bytes = if list_all (nat_le 32) bytes then read_text bytes else None

-- Tags. A tag is cut at each `"`: before, between and behind its values.

-- the pieces of a tag, with nothing in place of each value
abbrev pub without_values : List (List ℕ) → List (List ℕ)
without_values [] = []
without_values (piece ∷ []) = piece ∷ []
without_values (piece ∷ value ∷ pieces) = piece ∷ [] ∷ without_values pieces

-- the values of a tag
abbrev pub values_among : List (List ℕ) → List (List ℕ)
values_among [] = []
values_among (piece ∷ []) = []
values_among (piece ∷ value ∷ pieces) = value ∷ values_among pieces

-- the values with this one in front, where it and they were read
abbrev pub with_first : Option (List ℕ) → Option (List (List ℕ)) → Option (List (List ℕ))
with_first None rest = None
with_first (Some first) None = None
with_first (Some first) (Some rest) = Some (first ∷ rest)

-- what is read of each value
abbrev pub read_values : List (List ℕ) → Option (List (List ℕ))
read_values [] = Some []
read_values (value ∷ values) = with_first (read_value value) (read_values values)

-- a tag and the text behind it: the tag as it stands without its values, what is read of these, and what is read of the text
pub record Markup : Type 0 where
  pub shape : List ℕ
  pub values : List (List ℕ)
  pub text : List ℕ

-- the markup, where its values and its text are read
abbrev pub markup_with : List ℕ → Option (List (List ℕ)) → Option (List ℕ) → Option Markup
markup_with shape None text = None
markup_with shape (Some values) None = None
markup_with shape (Some values) (Some text) = Some (record { shape = shape; values = values; text = text })

-- the markup of a tag that is cut at each `"`, and of the text behind it
abbrev pub markup_of : List (List ℕ) → List ℕ → Option Markup
markup_of pieces text = markup_with (join_with_byte 34 (without_values pieces)) (read_values (values_among pieces)) (read_text text)

-- a tag and the text behind it, cut at each `>`, of which there is one
abbrev pub markup_in : List (List ℕ) → Option Markup
markup_in [] = None
markup_in (inside ∷ []) = None
markup_in (inside ∷ text ∷ []) = markup_of (slice_split (λ byte. byte == 34) inside) text
markup_in (inside ∷ text ∷ more ∷ pieces) = None

-- what is read of bytes that follow a `<`
abbrev pub read_markup : List ℕ → Option Markup
read_markup bytes = markup_in (slice_split (λ byte. byte == 62) bytes)

-- What tags say.

-- the counts and the time of a suite
pub record Heading : Type 0 where
  pub tests : ℕ
  pub failures : ℕ
  pub skipped : ℕ
  pub seconds : List ℕ

-- what a tag says
pub data Tag : Type 0 where
  declares : Tag
  begins_suite : Heading → Tag
  begins_case : (id seconds : List ℕ) → Tag
  begins_failure : Ended → List ℕ → Tag
  ends_failure : Tag
  skips : List ℕ → Tag
  ends_case : Tag
  ends_suite : Tag

-- a number of at least one digit
abbrev pub read_number : List ℕ → Option ℕ
read_number text = if nat_le 1 (length text) && list_all is_ascii_digit text then Some (digits_value 10 text) else None

-- the declaration, where its values are those of version 1.0 in UTF-8
abbrev pub declaration_with : List (List ℕ) → Option Tag
declaration_with (version ∷ encoding ∷ []) = if bytes_eq version (codes "1.0") && bytes_eq encoding (codes "utf-8") then Some declares else None
declaration_with values = None

-- the heading, where all its numbers are read
abbrev pub heading_with : (tests failures skipped : Option ℕ) → List ℕ → Option Heading
heading_with (Some tests) (Some failures) (Some skipped) seconds = Some (record { tests = tests; failures = failures; skipped = skipped; seconds = seconds })
heading_with tests failures skipped seconds = None

-- a suite without a name and without errors
abbrev pub suite_with : List (List ℕ) → Option Tag
suite_with (name ∷ tests ∷ failures ∷ errors ∷ skipped ∷ seconds ∷ []) =
    if length name == 0 && bytes_eq errors (codes "0")
    then option_map begins_suite (heading_with (read_number tests) (read_number failures) (read_number skipped) seconds)
    else None
suite_with values = None

-- the id of a test of this class and this name
abbrev pub id_with : (class name : List ℕ) → List ℕ
id_with class name = if length class == 0 then name else class ++ codes "." ++ name

-- a case, of which the two names make the id
abbrev pub case_with : List (List ℕ) → Option Tag
case_with (class ∷ name ∷ seconds ∷ []) = Some (begins_case (id_with class name) seconds)
case_with values = None

-- how a test ended that failed in this way
abbrev pub failure_named : List ℕ → Option Ended
failure_named kind =
    if bytes_eq kind (codes "fail") then Some ended.Fail
    else (if bytes_eq kind (codes "uxsuccess") then Some ended.UxSuccess
    else (if bytes_eq kind (codes "unfinished") then Some ended.Open
    else None))

-- the tag that begins a failure of this kind, with the text behind it
abbrev pub failure_with : List (List ℕ) → List ℕ → Option Tag
failure_with (kind ∷ []) text = option_map (λ how. begins_failure how text) (failure_named kind)
failure_with values text = None

-- the tag that tells that a test was skipped, with its reason
abbrev pub skip_with : List (List ℕ) → Option Tag
skip_with (reason ∷ []) = Some (skips reason)
skip_with values = None

-- what a tag says that ends its line
abbrev pub line_tag : List ℕ → List (List ℕ) → Option Tag
line_tag shape values =
    if bytes_eq shape (codes "?xml version=\"\" encoding=\"\"?") then declaration_with values
    else (if bytes_eq shape (codes "testsuite name=\"\" tests=\"\" failures=\"\" errors=\"\" skipped=\"\" time=\"\"") then suite_with values
    else (if bytes_eq shape (codes "testcase classname=\"\" name=\"\" time=\"\"") then case_with values
    else (if bytes_eq shape (codes "skipped message=\"\"/") then skip_with values
    else (if bytes_eq shape (codes "/failure") then Some ends_failure
    else (if bytes_eq shape (codes "/testcase") then Some ends_case
    else (if bytes_eq shape (codes "/testsuite") then Some ends_suite
    else None))))))

-- What a tag says. Behind each but that of a failure its line ends, and nothing else stands there.
abbrev pub tag_of : Markup → Option Tag
tag_of markup =
    if bytes_eq markup.shape (codes "failure type=\"\"") then failure_with markup.values markup.text
    else (if bytes_eq markup.text (codes "\n") then line_tag markup.shape markup.values else None)

-- what is said by bytes that follow a `<`
abbrev pub read_tag : List ℕ → Option Tag
read_tag bytes = option_and_then tag_of (read_markup bytes)

-- Documents.

-- what a case tells of its test
pub data CaseVerdict : Type 0 where
  passed : CaseVerdict
  -- why
  skipped : List ℕ → CaseVerdict
  -- how, and the text
  failed : Ended → List ℕ → CaseVerdict

-- what is told of one test
pub record Case : Type 0 where
  pub id : List ℕ
  pub seconds : List ℕ
  pub verdict : CaseVerdict

-- what a document tells
pub record Document : Type 0 where
  pub heading : Heading
  pub cases : List Case

-- how far a document was read
pub data Reading : Type 0 where
  at_front : Reading
  is_declared : Reading
  -- between its cases
  in_suite : Heading → List Case → Reading
  -- in a case that has told nothing so far
  in_case : Heading → List Case → (id seconds : List ℕ) → Reading
  in_failure : Heading → List Case → Case → Reading
  -- in a case that has told its verdict
  in_told_case : Heading → List Case → Case → Reading
  at_end : Document → Reading

-- how far a document was read with this tag more; none where the tag may not stand there
abbrev pub read_on : Reading → Tag → Option Reading
read_on at_front declares = Some is_declared
read_on is_declared (begins_suite heading) = Some (in_suite heading [])
read_on (in_suite heading cases) (begins_case id seconds) = Some (in_case heading cases id seconds)
read_on (in_suite heading cases) ends_suite = Some (at_end (record { heading = heading; cases = cases }))
read_on (in_case heading cases id seconds) (begins_failure how text) = Some (in_failure heading cases (record { id = id; seconds = seconds; verdict = failed how text }))
read_on (in_case heading cases id seconds) (skips reason) = Some (in_told_case heading cases (record { id = id; seconds = seconds; verdict = skipped reason }))
read_on (in_case heading cases id seconds) ends_case = Some (in_suite heading (cases ++ record { id = id; seconds = seconds; verdict = passed } ∷ []))
read_on (in_failure heading cases told) ends_failure = Some (in_told_case heading cases told)
read_on (in_told_case heading cases told) ends_case = Some (in_suite heading (cases ++ told ∷ []))
read_on reading tag = None

-- how far a document was read with the bytes of one tag more, which follow a `<`; none where these or bytes before them
-- are refused
abbrev pub read_next : Option Reading → List ℕ → Option Reading
read_next None bytes = None
read_next (Some reading) bytes = option_and_then (read_on reading) (read_tag bytes)

-- the document, where it was read to its end
abbrev pub document_read : Option Reading → Option Document
document_read None = None
document_read (Some at_front) = None
document_read (Some is_declared) = None
document_read (Some (in_suite heading cases)) = None
document_read (Some (in_case heading cases id seconds)) = None
document_read (Some (in_failure heading cases told)) = None
document_read (Some (in_told_case heading cases told)) = None
document_read (Some (at_end document)) = Some document

-- a document, cut at each `<`: nothing stands before the first
abbrev pub document_of : List (List ℕ) → Option Document
document_of [] = None
document_of (front ∷ pieces) = if length front == 0 then document_read (fold read_next (Some at_front) pieces) else None

-- what a document tells, where it is one
abbrev pub read_document : List ℕ → Option Document
read_document bytes = document_of (slice_split (λ byte. byte == 60) bytes)
