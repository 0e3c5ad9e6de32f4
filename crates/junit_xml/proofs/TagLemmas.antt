-- Tags as they are written, and what is read of them.
use Rattle.std.proofs.Common.{◌≡◌, ℕ, ◌+◌, ◌<◌, ◌≤◌, ◌^◌, Bool, true, List, [], ◌∷◌, ◌++◌, length, None, Some, refl, sym, ◌∙◌, ap, arith, append_assoc}
use Rattle.std.specs.Prelude.{Option, codes, not, ◌&&◌, ◌==◌, nat_le}
use Rattle.std.specs.Fmt.{decimal}
use Rattle.std.specs.List.{slice_split, list_all, join_with_byte}
use Rattle.std.specs.Option.{option_map, option_and_then}
use Rattle.std.proofs.lemmas.Bool.{and_parts, and_from, le-leb}
use Rattle.outcome_fold.specs.declared.row.Ended.{Ended}
use Rattle.outcome_fold.specs.declared.row.Counts.{Counts}
use Rattle.outcome_fold.specs.declared.row.Row.{Row}
use Rattle.junit_xml.specs.declared.characters.Place.TheVariants.{Text, Value}
use Rattle.junit_xml.specs.Characters.{shown_utf8, written}
use Rattle.junit_xml.specs.Seconds.{seconds_text}
use Rattle.junit_xml.specs.Documents.{attribute, class_of, case_name}
use Rattle.junit_xml.specs.Reading.{Markup, markup_with, markup_of, markup_in, read_markup, without_values, values_among, with_first, read_values, read_value, read_text, read_tag, tag_of, Tag, begins_suite, begins_case, begins_failure, skips, id_with, heading_with, Heading, read_number, suite_with, failure_named}
use Rattle.junit_xml.specs.Told.{told_counts}
use Rattle.junit_xml.proofs.Cuts.{lacks, is_other, all_weaker, all_both, all_pieces_weaker, cut_at, cut_nowhere, cut_joined, joined_all}
use Rattle.junit_xml.proofs.CharacterLemmas.{is_content, is_content_from, content_written}
use Rattle.junit_xml.proofs.NumberLemmas.{decimal_all, seconds_all, number_read}
use Rattle.junit_xml.proofs.TextLemmas.{text_read, value_read, plain_read}

-- content has no sign of a tag

no_close : (xs : List ℕ) → list_all is_content xs ≡ true → lacks (λ b. b == 62) xs ≡ true
no_close = all_weaker is_content (λ x. not (x == 62)) (λ x is. (and_parts _ _ (and_parts _ _ is).1).1)

pub no_open : (xs : List ℕ) → list_all is_content xs ≡ true → lacks (λ b. b == 60) xs ≡ true
no_open = all_weaker is_content (λ x. not (x == 60)) (λ x is. (and_parts _ _ (and_parts _ _ is).1).0)

no_quote : (xs : List ℕ) → list_all is_content xs ≡ true → lacks (λ b. b == 34) xs ≡ true
no_quote = all_weaker is_content (λ x. not (x == 34)) (λ x is. (and_parts _ _ is).0)

-- what may stand between the values of a tag, in them, and behind it
abbrev pub IsContent : List ℕ → Type 0
IsContent xs = list_all is_content xs ≡ true

digit_content : (digit : ℕ) → digit < 10 → is_content (48 + digit) ≡ true
digit_content digit low = is_content_from (48 + digit) (λ is. absurd (omega arith)) (λ is. absurd (omega arith)) (λ is. absurd (omega arith))

pub decimal_content : (n : ℕ) → IsContent (decimal n)
decimal_content n = decimal_all is_content digit_content n

pub seconds_content : (nanos : Option ℕ) → IsContent (seconds_text nanos)
seconds_content nanos = seconds_all is_content digit_content refl nanos

-- numbers and times are read as they stand

digit_wide : (digit : ℕ) → digit < 10 → nat_le 32 (48 + digit) ≡ true
digit_wide digit low = le-leb 32 (48 + digit) (omega arith)

digit_plain : (digit : ℕ) → digit < 10 → not ((48 + digit) == 38) ≡ true
digit_plain digit low = is_other (48 + digit) 38 (λ is. absurd (omega arith))

decimal_read : (n : ℕ) → read_value (decimal n) ≡ Some (decimal n)
decimal_read n = plain_read (decimal n) (decimal_all (nat_le 32) digit_wide n) (decimal_all (λ x. not (x == 38)) digit_plain n)

seconds_read : (nanos : Option ℕ) → read_value (seconds_text nanos) ≡ Some (seconds_text nanos)
seconds_read nanos = plain_read (seconds_text nanos) (seconds_all (nat_le 32) digit_wide refl nanos) (seconds_all (λ x. not (x == 38)) digit_plain refl nanos)

-- one value more
first_read : (value : List ℕ) (values : List (List ℕ)) (read : List ℕ) (others : List (List ℕ)) → read_value value ≡ Some read → read_values values ≡ Some others → read_values (value ∷ values) ≡ Some (read ∷ others)
first_read value values read others first rest = ap (λ o. with_first o (read_values values)) first ∙ ap (with_first (Some read)) rest

one_read : (a x : List ℕ) → read_value a ≡ Some x → read_values (a ∷ []) ≡ Some (x ∷ [])
one_read a x first = first_read a [] x [] first refl

two_read : (a b x y : List ℕ) → read_value a ≡ Some x → read_value b ≡ Some y → read_values (a ∷ b ∷ []) ≡ Some (x ∷ y ∷ [])
two_read a b x y first second = first_read a (b ∷ []) x (y ∷ []) first (one_read b y second)

three_read : (a b c x y z : List ℕ) → read_value a ≡ Some x → read_value b ≡ Some y → read_value c ≡ Some z → read_values (a ∷ b ∷ c ∷ []) ≡ Some (x ∷ y ∷ z ∷ [])
three_read a b c x y z first second third = first_read a (b ∷ c ∷ []) x (y ∷ z ∷ []) first (two_read b c y z second third)

-- a tag of these pieces, with content in each, and the text behind it

pub inside_content : (piece : List ℕ) (pieces : List (List ℕ)) → list_all (list_all is_content) (piece ∷ pieces) ≡ true → (list_all (λ x. not (x == 60)) (join_with_byte 34 (piece ∷ pieces)) ≡ true) × (list_all (λ x. not (x == 62)) (join_with_byte 34 (piece ∷ pieces)) ≡ true)
inside_content piece pieces content = (
  joined_all (λ x. not (x == 60)) 34 refl (piece ∷ pieces) (all_pieces_weaker (list_all is_content) (lacks (λ b. b == 60)) no_open (piece ∷ pieces) content),
  joined_all (λ x. not (x == 62)) 34 refl (piece ∷ pieces) (all_pieces_weaker (list_all is_content) (lacks (λ b. b == 62)) no_close (piece ∷ pieces) content),
)

tag_read : (piece : List ℕ) (pieces : List (List ℕ)) (text : List ℕ) (values : List (List ℕ)) (said : List ℕ)
    → list_all (list_all is_content) (piece ∷ pieces) ≡ true → IsContent text → read_values (values_among (piece ∷ pieces)) ≡ Some values → read_text text ≡ Some said
    → read_tag (join_with_byte 34 (piece ∷ pieces) ++ 62 ∷ text) ≡ tag_of (record { shape = join_with_byte 34 (without_values (piece ∷ pieces)); values = values; text = said })
tag_read piece pieces text values said content text_content values_are text_is =
    let inside = join_with_byte 34 (piece ∷ pieces) in
    let shape = join_with_byte 34 (without_values (piece ∷ pieces)) in
    let cut : slice_split (λ b. b == 62) (inside ++ 62 ∷ text) ≡ inside ∷ text ∷ [] =
    cut_at (λ b. b == 62) inside 62 text (inside_content piece pieces content).1 refl ∙ ap (λ (l : List (List ℕ)). inside ∷ l) (cut_nowhere (λ b. b == 62) text (no_close text text_content)) in
    let quotes : slice_split (λ b. b == 34) inside ≡ piece ∷ pieces =
    cut_joined 34 piece pieces (all_pieces_weaker (list_all is_content) (lacks (λ b. b == 34)) no_quote (piece ∷ pieces) content) in
    let markup : read_markup (inside ++ 62 ∷ text) ≡ Some (record { shape = shape; values = values; text = said }) =
    ap markup_in cut ∙ ap (λ (l : List (List ℕ)). markup_of l text) quotes ∙ ap (λ o. markup_with shape o (read_text text)) values_are ∙ ap (markup_with shape (Some values)) text_is in
    ap (option_and_then tag_of) markup

-- the tag's text has no sign that begins another
pub part_closed : (piece : List ℕ) (pieces : List (List ℕ)) (text : List ℕ) → list_all (list_all is_content) (piece ∷ pieces) ≡ true → IsContent text → lacks (λ b. b == 60) (join_with_byte 34 (piece ∷ pieces) ++ 62 ∷ text) ≡ true
part_closed piece pieces text content text_content =
    all_both (λ x. not (x == 60)) (join_with_byte 34 (piece ∷ pieces)) (62 ∷ text) (inside_content piece pieces content).0 (no_open text text_content)

-- Each tag, as the pieces between its quotes.

abbrev pub suite_pieces : Counts → List (List ℕ)
suite_pieces counts = [] ∷ codes " tests=" ∷ decimal counts.total ∷ codes " failures=" ∷ decimal counts.failed ∷ codes " errors=" ∷ codes "0" ∷ codes " skipped=" ∷ decimal counts.skipped ∷ codes " time=" ∷ seconds_text counts.nanos ∷ [] ∷ []

abbrev pub suite_part : Counts → List ℕ
suite_part counts = join_with_byte 34 (codes "testsuite name=" ∷ suite_pieces counts) ++ 62 ∷ 10 ∷ []

suite_content : (counts : Counts) → list_all (list_all is_content) (codes "testsuite name=" ∷ suite_pieces counts) ≡ true
suite_content counts =
    and_from _ _ (decimal_content counts.total) (and_from _ _ (decimal_content counts.failed) (and_from _ _ (decimal_content counts.skipped) (and_from _ _ (seconds_content counts.nanos) refl)))

pub suite_closed : (counts : Counts) → lacks (λ b. b == 60) (suite_part counts) ≡ true
suite_closed counts = part_closed (codes "testsuite name=") (suite_pieces counts) (10 ∷ []) (suite_content counts) refl

-- counts below 2^64
pub record AreSmallCounts (counts : Counts) : Type 0 where
  pub total : counts.total < 2 ^ 64
  pub failed : counts.failed < 2 ^ 64
  pub skipped : counts.skipped < 2 ^ 64

pub suite_read : (counts : Counts) → AreSmallCounts counts → read_tag (suite_part counts) ≡ Some (begins_suite (told_counts counts))
suite_read counts short =
    let tests = decimal counts.total in
    let failures = decimal counts.failed in
    let skips = decimal counts.skipped in
    let seconds = seconds_text counts.nanos in
    let later : read_values (codes "0" ∷ skips ∷ seconds ∷ []) ≡ Some (codes "0" ∷ skips ∷ seconds ∷ []) =
    three_read (codes "0") skips seconds (codes "0") skips seconds refl (decimal_read counts.skipped) (seconds_read counts.nanos) in
    let values : read_values (values_among (codes "testsuite name=" ∷ suite_pieces counts)) ≡ Some ([] ∷ tests ∷ failures ∷ codes "0" ∷ skips ∷ seconds ∷ []) =
    first_read [] (tests ∷ failures ∷ codes "0" ∷ skips ∷ seconds ∷ []) [] (tests ∷ failures ∷ codes "0" ∷ skips ∷ seconds ∷ []) refl
    (first_read tests (failures ∷ codes "0" ∷ skips ∷ seconds ∷ []) tests (failures ∷ codes "0" ∷ skips ∷ seconds ∷ []) (decimal_read counts.total)
    (first_read failures (codes "0" ∷ skips ∷ seconds ∷ []) failures (codes "0" ∷ skips ∷ seconds ∷ []) (decimal_read counts.failed) later)) in
    tag_read (codes "testsuite name=") (suite_pieces counts) (10 ∷ []) ([] ∷ tests ∷ failures ∷ codes "0" ∷ skips ∷ seconds ∷ []) (10 ∷ []) (suite_content counts) refl values refl
    ∙ ap (λ o. option_map begins_suite (heading_with o (read_number failures) (read_number skips) seconds)) (number_read counts.total short.total)
    ∙ ap (λ o. option_map begins_suite (heading_with (Some counts.total) o (read_number skips) seconds)) (number_read counts.failed short.failed)
    ∙ ap (λ o. option_map begins_suite (heading_with (Some counts.total) (Some counts.failed) o seconds)) (number_read counts.skipped short.skipped)

abbrev pub case_pieces : Row → List (List ℕ)
case_pieces row = written Value (class_of row.id) ∷ codes " name=" ∷ written Value (case_name row.id) ∷ codes " time=" ∷ seconds_text row.nanos ∷ [] ∷ []

abbrev pub case_part : Row → List ℕ
case_part row = join_with_byte 34 (codes "testcase classname=" ∷ case_pieces row) ++ 62 ∷ 10 ∷ []

case_content : (row : Row) → list_all (list_all is_content) (codes "testcase classname=" ∷ case_pieces row) ≡ true
case_content row =
    and_from _ _ (content_written Value (class_of row.id)) (and_from _ _ (content_written Value (case_name row.id)) (and_from _ _ (seconds_content row.nanos) refl))

pub case_closed : (row : Row) → lacks (λ b. b == 60) (case_part row) ≡ true
case_closed row = part_closed (codes "testcase classname=") (case_pieces row) (10 ∷ []) (case_content row) refl

pub case_read : (row : Row) → read_tag (case_part row) ≡ Some (begins_case (id_with (shown_utf8 (class_of row.id)) (shown_utf8 (case_name row.id))) (seconds_text row.nanos))
case_read row =
    let values : read_values (values_among (codes "testcase classname=" ∷ case_pieces row)) ≡ Some (shown_utf8 (class_of row.id) ∷ shown_utf8 (case_name row.id) ∷ seconds_text row.nanos ∷ []) =
    three_read (written Value (class_of row.id)) (written Value (case_name row.id)) (seconds_text row.nanos) (shown_utf8 (class_of row.id)) (shown_utf8 (case_name row.id)) (seconds_text row.nanos)
    (value_read (class_of row.id)) (value_read (case_name row.id)) (seconds_read row.nanos) in
    tag_read (codes "testcase classname=") (case_pieces row) (10 ∷ []) (shown_utf8 (class_of row.id) ∷ shown_utf8 (case_name row.id) ∷ seconds_text row.nanos ∷ []) (10 ∷ []) (case_content row) refl values refl

abbrev pub failure_part : List ℕ → List ℕ → List ℕ
failure_part kind text = join_with_byte 34 (codes "failure type=" ∷ kind ∷ [] ∷ []) ++ 62 ∷ written Text text

failure_content : (kind : List ℕ) → IsContent kind → list_all (list_all is_content) (codes "failure type=" ∷ kind ∷ [] ∷ []) ≡ true
failure_content kind content = and_from _ _ content refl

pub failure_closed : (kind text : List ℕ) → IsContent kind → lacks (λ b. b == 60) (failure_part kind text) ≡ true
failure_closed kind text content = part_closed (codes "failure type=") (kind ∷ [] ∷ []) (written Text text) (failure_content kind content) (content_written Text text)

pub failure_read : (kind text : List ℕ) (how : Ended) → IsContent kind → read_value kind ≡ Some kind → failure_named kind ≡ Some how → read_tag (failure_part kind text) ≡ Some (begins_failure how (shown_utf8 text))
failure_read kind text how content kind_read named =
    tag_read (codes "failure type=") (kind ∷ [] ∷ []) (written Text text) (kind ∷ []) (shown_utf8 text) (failure_content kind content) (content_written Text text) (one_read kind kind kind_read) (text_read text)
    ∙ ap (option_map (λ h. begins_failure h (shown_utf8 text))) named

abbrev pub skip_part : List ℕ → List ℕ
skip_part reason = join_with_byte 34 (codes "skipped message=" ∷ written Value reason ∷ codes "/" ∷ []) ++ 62 ∷ 10 ∷ []

skip_content : (reason : List ℕ) → list_all (list_all is_content) (codes "skipped message=" ∷ written Value reason ∷ codes "/" ∷ []) ≡ true
skip_content reason = and_from _ _ (content_written Value reason) refl

pub skip_closed : (reason : List ℕ) → lacks (λ b. b == 60) (skip_part reason) ≡ true
skip_closed reason = part_closed (codes "skipped message=") (written Value reason ∷ codes "/" ∷ []) (10 ∷ []) (skip_content reason) refl

pub skip_read : (reason : List ℕ) → read_tag (skip_part reason) ≡ Some (skips (shown_utf8 reason))
skip_read reason =
    tag_read (codes "skipped message=") (written Value reason ∷ codes "/" ∷ []) (10 ∷ []) (shown_utf8 reason ∷ []) (10 ∷ []) (skip_content reason) refl (one_read (written Value reason) (shown_utf8 reason) (value_read reason)) refl
