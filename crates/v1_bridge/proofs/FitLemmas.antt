-- Each event that lines give has a packet.
use Rattle.std.proofs.Common.{◌≡◌, ℕ, ◌+◌, ◌-◌, ◌*◌, ◌/◌, ◌≤◌, ◌==◌, ◌&&◌, ◌||◌, not, nat_eq, nat_le, Bool, true, false, cond, Option, Some, None, IfSome, List, [], ◌∷◌, ◌++◌, map, All, length, take, drop, refl, sym, subst, ◌∙◌, arith, length-append, length-drop}
use Rattle.std.specs.Prelude.{codes}
use Rattle.std.specs.List.{flat_map, filter, list_all, sum_by, range_with_len, ends_with}
use Rattle.std.specs.Option.{option_map}
use Rattle.std.specs.Int.{w32, to_be_bytes}
use Rattle.std.specs.Cmp.Lexicographic.{pointwise}
use Rattle.std.proofs.lemmas.Bool.{cond_both, and_parts, leb-true, true≢false}
use Rattle.std.proofs.lemmas.Bool.Decides.{nat_tests}
use Rattle.std.proofs.lemmas.List.{length-take}
use Rattle.std.specs.Char.{is_ascii_hexdigit}
use Rattle.std.specs.Str.Parse.{digits_value}
use Rattle.std.proofs.lemmas.List.Elements.{All-nil, All-cons, All-append}
use Rattle.std.proofs.lemmas.List.Sums.{sum_by-cons}
use Rattle.sub_number.specs.Numbers.{shortest_number}
use Rattle.sub_number.specs.Lines.{begins, without_return, with_newline}
use Rattle.packet_codec.specs.declared.stamp.Stamp.{Stamp}
use Rattle.packet_codec.specs.declared.event.Event.{Event}
use Rattle.packet_codec.specs.declared.status.Status.{Status}
use Rattle.packet_codec.specs.declared.status.Status.TheVariants as status
use Rattle.packet_codec.specs.Canonical.{canonical_optional, canonical_text, canonical_stamp, canonical_tags, canonical_file, canonical_fields, packet_size, Fits}
use Rattle.packet_codec.proofs.ShortestLemmas.{length_shortest_number, shortest_size_range}
use Rattle.packet_codec.proofs.WritingLemmas.{length_canonical_fields}
use Rattle.stream_reader.specs.Notes.{stdout_event}
use Rattle.outcome_fold.specs.Order.{among, in_byte_order, without}
use Rattle.outcome_fold.proofs.SetLemmas.{among_order}
use Rattle.instants.specs.Instants.{Moment, instant_of}
use Rattle.v1_bridge.specs.declared.part.Part.{Part}
use Rattle.v1_bridge.specs.declared.chunk_size.Extent.{Extent}
use Rattle.v1_bridge.specs.declared.chunk_size.Extent.TheVariants as extent
use Rattle.v1_bridge.specs.declared.chunk_size.Size.{Size}
use Rattle.v1_bridge.specs.declared.chunk_size.Size.TheVariants as size
use Rattle.v1_bridge.specs.declared.details_stage.Place.{Place}
use Rattle.v1_bridge.specs.declared.details_stage.Place.TheVariants as place
use Rattle.v1_bridge.specs.declared.details_stage.Stage.{Stage}
use Rattle.v1_bridge.specs.declared.details_stage.Stage.TheVariants as stage
use Rattle.v1_bridge.specs.declared.details_stage.Details.{Details}
use Rattle.v1_bridge.specs.declared.details_stage.OpenTest.{OpenTest}
use Rattle.v1_bridge.specs.Lines.{V1Line, test, outcome, time, tagging, progress, other, EndedLine, without_newline, content, time_with, test_begun, outcome_of, other_of, outcome_or, test_or, line_of, is_progress}
use Rattle.v1_bridge.specs.TagWords.{is_name, is_utf8_text, tag_in, takes_away, tags_after_word, tags_after_words, spaced_words, within_limit, retagged, most_tag_bytes}
use Rattle.v1_bridge.specs.Sizes.{are_few_digits, is_size, may_be_size, size_with, size_in}
use Rattle.v1_bridge.specs.Events.{longest_v1_line, piece_at, behind_pieces, line_event, stdout_events_of, event_with, piece_event, part_holding, part_with_bytes, pieces_given, rest_events, outcome_file_name, lines_part, tags_told, begun_event, completing_event}
use Rattle.v1_bridge.specs.Stages.{StageStep, place_before, foreign_run, sized, size_told, size_run, chunk_run, part_run, type_of, typed_with, part_name_in, new_part, name_piece, unquoted, lines_run, extent_of, stage_piece, stage_line, ends_details, held_part}
use Rattle.v1_bridge.specs.Reading.{State, LineStep, line, piece, with_test, complete, go_on, detail_line, ending_part, is_id_and, end_test, begin_test, change_tags, change_own_tags, step_outside, step_inside, line_step, line_within, piece_within, piece_step, step, events_at_end, part_left, details_left, start}
use Rattle.v1_bridge.specs.Fitting.{AreShortTags, IsShortPart, IsShortPlace, IsShortStage, AreShortDetails, IsShortTest, IsShortState}
use Rattle.v1_bridge.proofs.WordLemmas.{part, some_same}

packet_size_most : (n : ℕ) → packet_size n ≤ n + 10
packet_size_most n = grind (arith, nat_tests)

length_counted : (bytes : List ℕ) → length (canonical_text bytes) ≤ length bytes + 4
length_counted bytes = omega (arith, length-append (shortest_number (length bytes)) bytes, length_shortest_number (length bytes), shortest_size_range (length bytes))

length_tags : (names : List (List ℕ)) → among names [] ≡ false → length (flat_map canonical_text names) ≤ 5 * sum_by length names
length_tags [] some = omega arith
length_tags ([] ∷ names) some = absurd (true≢false some)
length_tags ((byte ∷ name) ∷ names) some =
    let rest = length_tags names some in
    omega (arith, rest, sum_by-cons length (byte ∷ name) names, length_counted (byte ∷ name), length-append (canonical_text (byte ∷ name)) (flat_map canonical_text names))

tags_size : (names : List (List ℕ)) → AreShortTags names → length (canonical_tags names) ≤ 327684
tags_size names short =
    omega (arith, length_tags names short.some, short.few, length-append (shortest_number (length names)) (flat_map canonical_text names), length_shortest_number (length names), shortest_size_range (length names))

file_size : (p : Part) → IsShortPart p → length (canonical_file (record { name = p.name; bytes = p.held })) ≤ 262152
file_size p short =
    let count = shortest_number (length p.held) in
    omega (
      arith,
      length-append (canonical_text p.name ++ count) p.held,
      length-append (canonical_text p.name) count,
      length_counted p.name,
      length_shortest_number (length p.held),
      shortest_size_range (length p.held),
      short.name,
      short.held,
    )

optional_mime : (p : Option Part) → IfSome p IsShortPart → length (canonical_optional canonical_text (option_map (λ (p : Part). p.mime) p)) ≤ 131076
optional_mime None short = omega arith
optional_mime (Some p) short = omega (arith, length_counted p.mime, short.mime)

optional_file : (p : Option Part) → IfSome p IsShortPart → length (canonical_optional canonical_file (option_map (λ (p : Part). record { name = p.name; bytes = p.held }) p)) ≤ 262152
optional_file None short = omega arith
optional_file (Some p) short = file_size p short

optional_tags : (names : Option (List (List ℕ))) → IfSome names AreShortTags → length (canonical_optional canonical_tags names) ≤ 327684
optional_tags None short = omega arith
optional_tags (Some names) short = tags_size names short

stamp_size : (s : Stamp) → length (canonical_stamp s) ≤ 8
stamp_size s = omega (arith, length-append (to_be_bytes w32 s.seconds) (shortest_number s.nanos), length_shortest_number s.nanos, shortest_size_range s.nanos)

optional_stamp : (last : Option Stamp) → length (canonical_optional canonical_stamp last) ≤ 8
optional_stamp None = omega arith
optional_stamp (Some s) = stamp_size s

-- the event of a test
event_fits : (last : Option Stamp) (id : List ℕ) (names : Option (List (List ℕ))) (how : Status) (p : Option Part) → length id ≤ 131072 → IfSome names AreShortTags → IfSome p IsShortPart → Fits (event_with last id names how p)
event_fits last id names how p short few part = record {
  size = omega (
    arith,
    packet_size_most (length (canonical_fields (event_with last id names how p))),
    length_canonical_fields (event_with last id names how p),
    optional_stamp last,
    length_counted id,
    optional_tags names few,
    optional_mime p part,
    optional_file p part,
    short,
  );
}

-- the event of a piece of output
output_fits : (bytes : List ℕ) → length bytes ≤ 262144 → Fits (stdout_event bytes)
output_fits bytes short = record {
  size = omega (
    arith,
    packet_size_most (length (canonical_fields (stdout_event bytes))),
    length_canonical_fields (stdout_event bytes),
    length-append (canonical_text (codes "stdout")) (canonical_text bytes),
    length_counted (codes "stdout"),
    length_counted bytes,
    short,
  );
}

-- ---- what is known behind short lines is short

pieces_fit : (id : List ℕ) (p : Part) (bytes : List ℕ) (numbers : List ℕ) → length id ≤ 131072 → IsShortPart p → All Fits (map (piece_event id p) (map (piece_at bytes) numbers))
pieces_fit id p bytes [] short part = All-nil Fits
pieces_fit id p bytes (number ∷ numbers) short part =
    All-cons Fits (piece_event id p (piece_at bytes number)) (map (piece_event id p) (map (piece_at bytes) numbers))
    (event_fits None id None status.Unset (Some (part_holding p (piece_at bytes number))) short tt
    (record { mime = part.mime; name = part.name; held = omega (arith, length-take longest_v1_line (drop (longest_v1_line * number) bytes)) }))
    (pieces_fit id p bytes numbers short part)

behind_short : (bytes : List ℕ) → length (behind_pieces bytes) ≤ 65535
behind_short bytes = omega (arith, length-drop (longest_v1_line * (length bytes / longest_v1_line)) bytes)

part_stays_short : (p : Part) (bytes : List ℕ) → IsShortPart p → IsShortPart (part_with_bytes p bytes)
part_stays_short p bytes short = record { mime = short.mime; name = short.name; held = omega (arith, behind_short (p.held ++ bytes)) }

given_fit : (id : List ℕ) (p : Part) (bytes : List ℕ) → length id ≤ 131072 → IsShortPart p → All Fits (pieces_given id p bytes)
given_fit id p bytes short part = pieces_fit id p (p.held ++ bytes) (range_with_len 0 (length (p.held ++ bytes) / longest_v1_line)) short part

rest_fits : (id : List ℕ) (p : Part) → length id ≤ 131072 → IsShortPart p → All Fits (rest_events id p)
rest_fits id p short part =
    cond_both (length p.held == 0) [] (piece_event id p p.held ∷ []) (All Fits) (λ none. All-nil Fits)
    (λ some. All-cons Fits (piece_event id p p.held) [] (event_fits None id None status.Unset (Some (part_holding p p.held)) short tt (record { mime = part.mime; name = part.name; held = part.held })) (All-nil Fits))

output_of_fits : (bytes : List ℕ) → length bytes ≤ 262144 → All Fits (stdout_events_of bytes)
output_of_fits bytes short = cond_both (length bytes == 0) [] (stdout_event bytes ∷ []) (All Fits) (λ none. All-nil Fits) (λ some. All-cons Fits (stdout_event bytes) [] (output_fits bytes short) (All-nil Fits))

line_fits : (bytes : List ℕ) → length bytes ≤ 262143 → All Fits (line_event bytes ∷ [])
line_fits bytes short = All-cons Fits (line_event bytes) [] (output_fits (with_newline bytes) (omega (arith, short, length-append bytes (10 ∷ [])))) (All-nil Fits)

newline_short : (bytes : List ℕ) → length (without_newline bytes) ≤ length bytes
newline_short bytes = cond_both (ends_with nat_eq bytes (10 ∷ [])) (take (length bytes - 1) bytes) bytes (λ (l : List ℕ). length l ≤ length bytes) (λ is. omega (arith, length-take (length bytes - 1) bytes)) (λ is. omega arith)

return_short : (bytes : List ℕ) → length (without_return bytes) ≤ length bytes
return_short bytes = cond_both (ends_with nat_eq bytes (13 ∷ [])) (take (length bytes - 1) bytes) bytes (λ (l : List ℕ). length l ≤ length bytes) (λ is. omega (arith, length-take (length bytes - 1) bytes)) (λ is. omega arith)

content_short : (bytes : List ℕ) → length (content bytes) ≤ length bytes
content_short bytes = omega (arith, newline_short bytes, return_short (without_newline bytes))

newline_one : (bytes : List ℕ) → length bytes ≤ length (without_newline bytes) + 1
newline_one bytes = cond_both (ends_with nat_eq bytes (10 ∷ [])) (take (length bytes - 1) bytes) bytes (λ (l : List ℕ). length bytes ≤ length l + 1) (λ is. omega (arith, length-take (length bytes - 1) bytes)) (λ is. omega arith)

return_one : (bytes : List ℕ) → length bytes ≤ length (without_return bytes) + 1
return_one bytes = cond_both (ends_with nat_eq bytes (13 ∷ [])) (take (length bytes - 1) bytes) bytes (λ (l : List ℕ). length bytes ≤ length l + 1) (λ is. omega (arith, length-take (length bytes - 1) bytes)) (λ is. omega arith)

-- ---- tags of a set

kept_some : (p : List ℕ → Bool) (names : List (List ℕ)) → among names [] ≡ false → among (filter p names) [] ≡ false
kept_some p [] some = refl
kept_some p ([] ∷ names) some = absurd (true≢false some)
kept_some p ((byte ∷ name) ∷ names) some =
    cond_both (p (byte ∷ name)) ((byte ∷ name) ∷ filter p names) (filter p names) (λ (l : List (List ℕ)). among l [] ≡ false) (λ is. kept_some p names some) (λ is. kept_some p names some)

one_more_some : (name : List ℕ) (names : List (List ℕ)) → is_name name ≡ true → among names [] ≡ false → among (name ∷ names) [] ≡ false
one_more_some [] names named some = absurd (true≢false (sym named))
one_more_some (byte ∷ name) names named some = some

word_some : (before : List (List ℕ)) (word : List ℕ) → is_name (tag_in word) ≡ true → among before [] ≡ false → among (tags_after_word before word) [] ≡ false
word_some before word named some =
    cond_both (takes_away word) (without before (tag_in word ∷ [])) (in_byte_order (tag_in word ∷ before)) (λ (l : List (List ℕ)). among l [] ≡ false)
    (λ is. kept_some (λ text. not (among (tag_in word ∷ []) text)) before some)
    (λ is. among_order (tag_in word ∷ before) [] ∙ one_more_some (tag_in word) before named some)

words_some : (before words names : List (List ℕ)) → among before [] ≡ false → tags_after_words before words ≡ Some names → among names [] ≡ false
words_some before [] names some is = subst (λ (l : List (List ℕ)). among l [] ≡ false) (some_same before names is) some
words_some before (word ∷ words) names some is =
    let p = part (is_name (tag_in word)) (tags_after_words (tags_after_word before word) words) names is in
    words_some (tags_after_word before word) words names (word_some before word p.0 some) p.1

limit_short : (o : Option (List (List ℕ))) → ((names : List (List ℕ)) → o ≡ Some names → among names [] ≡ false) → IfSome (within_limit o) AreShortTags
limit_short None some = tt
limit_short (Some names) some =
    cond_both (nat_le (sum_by length names) most_tag_bytes) (Some names) None (λ (o : Option (List (List ℕ))). IfSome o AreShortTags)
    (λ is. record { some = some names refl; few = leb-true (sum_by length names) most_tag_bytes is }) (λ is. tt)

retagged_short : (before : List (List ℕ)) (words : List ℕ) → AreShortTags before → IfSome (retagged before words) AreShortTags
retagged_short before words short = limit_short (tags_after_words (in_byte_order before) (spaced_words words)) (λ names is. words_some (in_byte_order before) (spaced_words words) names (among_order before [] ∙ short.some) is)

no_tags_short : AreShortTags []
no_tags_short = record { some = refl; few = omega arith }

told_short : (names : List (List ℕ)) → AreShortTags names → IfSome (tags_told names) AreShortTags
told_short names short = cond_both (length names == 0) None (Some names) (λ (o : Option (List (List ℕ))). IfSome o AreShortTags) (λ is. tt) (λ is. short)

-- ---- details

-- what bytes of details give fits, and what is kept of them is short
record ToldFits (t : StageStep) : Type 0 where
  given : All Fits t.given
  stage : IsShortStage t.stage

name_short : (how : Status) → length (outcome_file_name how) ≤ 9
name_short status.Unset = omega arith
name_short status.Exists = omega arith
name_short status.InProgress = omega arith
name_short status.Success = omega arith
name_short status.UxSuccess = omega arith
name_short status.Skip = omega arith
name_short status.Fail = omega arith
name_short status.XFail = omega arith

lines_fit : (id : List ℕ) (p : Part) (bytes : List ℕ) → length id ≤ 131072 → IsShortPart p → ToldFits (lines_run id p bytes)
lines_fit id p bytes short part = record { given = given_fit id p bytes short part; stage = part_stays_short p bytes part }

place_short : (left : ℕ) → IsShortPlace (place_before left)
place_short left = cond_both (left == 0) (place.Size []) (place.Chunk left) IsShortPlace (λ is. omega arith) (λ is. tt)

foreign_fits : (e : Extent) (so_far run : List ℕ) → length so_far ≤ 10 → length run ≤ 65537 → All Fits (foreign_run e so_far run)
foreign_fits extent.Whole so_far run few short = line_fits (content (so_far ++ run)) (omega (arith, few, short, content_short (so_far ++ run), length-append so_far run))
foreign_fits extent.Piece so_far run few short =
    All-append Fits (stdout_events_of so_far) (stdout_events_of (without_newline run)) (output_of_fits so_far (omega (arith, few))) (output_of_fits (without_newline run) (omega (arith, short, newline_short run)))
foreign_fits extent.Last so_far run few short =
    All-append Fits (stdout_events_of so_far) (stdout_events_of (without_newline run)) (output_of_fits so_far (omega (arith, few))) (output_of_fits (without_newline run) (omega (arith, short, newline_short run)))

sized_fits : (id : List ℕ) (p : Part) (count : ℕ) → length id ≤ 131072 → IsShortPart p → ToldFits (sized id p count)
sized_fits id p count short part =
    cond_both (count == 0) (record { given = rest_events id p; stage = stage.Between }) (record { given = []; stage = stage.Bytes p (place.Chunk count) }) ToldFits
    (λ is. record { given = rest_fits id p short part; stage = tt })
    (λ is. record { given = All-nil Fits; stage = (part, tt) })

size_fits : (id : List ℕ) (p : Part) (so_far run : List ℕ) (e : Extent) (s : Size) → (s ≡ size.Open → length (so_far ++ run) ≤ 10) → length id ≤ 131072 → IsShortPart p → length so_far ≤ 10 → length run ≤ 65537 → ToldFits (size_told id p so_far run e s)
size_fits id p so_far run e size.Bad begun short part few least = record {
  given = All-append Fits (rest_events id p) (foreign_run e so_far run) (rest_fits id p short part) (foreign_fits e so_far run few least);
  stage = tt;
}
size_fits id p so_far run e size.Open begun short part few least = record { given = All-nil Fits; stage = (part, begun refl) }
size_fits id p so_far run e (size.Told count) begun short part few least = sized_fits id p count short part

either : (a b : Bool) (P : Type 0) → (a ≡ true → P) → (b ≡ true → P) → (a || b) ≡ true → P
either true b P first later is = first refl
either false b P first later is = later is

few_digits : (bytes : List ℕ) → are_few_digits bytes ≡ true → length bytes ≤ 8
few_digits bytes is = leb-true (length bytes) 8 (and_parts (nat_le (length bytes) 8) (list_all is_ascii_hexdigit bytes) is).0

may_short : (bytes : List ℕ) → may_be_size bytes ≡ true → length bytes ≤ 10
may_short bytes is =
    either (are_few_digits bytes) (ends_with nat_eq bytes (13 ∷ []) && is_size (without_return bytes)) (length bytes ≤ 10)
    (λ few. omega (arith, few_digits bytes few))
    (λ more.
    let told = (and_parts (ends_with nat_eq bytes (13 ∷ [])) (is_size (without_return bytes)) more).1 in
    let few = (and_parts (are_few_digits (without_return bytes)) (nat_le 1 (length (without_return bytes))) told).0 in
    omega (arith, few_digits (without_return bytes) few, return_one bytes))
    is

never_open : (digits : List ℕ) (P : Type 0) → size_with digits ≡ size.Open → P
never_open digits P = cond_both (is_size digits) (size.Told (digits_value 16 digits)) size.Bad (λ (s : Size). s ≡ size.Open → P) (λ is wrong. cc) (λ is wrong. cc)

begun_short : (e : Extent) (bytes : List ℕ) → size_in e bytes ≡ size.Open → length bytes ≤ 10
begun_short extent.Whole bytes = never_open (content bytes) (length bytes ≤ 10)
begun_short extent.Piece bytes = cond_both (may_be_size bytes) size.Open size.Bad (λ (s : Size). s ≡ size.Open → length bytes ≤ 10) (λ is same. may_short bytes is) (λ is wrong. cc)
begun_short extent.Last bytes = never_open (content bytes) (length bytes ≤ 10)

size_run_fits : (id : List ℕ) (p : Part) (so_far run : List ℕ) (e : Extent) → length id ≤ 131072 → IsShortPart p → length so_far ≤ 10 → length run ≤ 65537 → ToldFits (size_run id p so_far run e)
size_run_fits id p so_far run e short part few least = size_fits id p so_far run e (size_in e (so_far ++ run)) (begun_short e (so_far ++ run)) short part few least

chunk_fits : (id : List ℕ) (p : Part) (left : ℕ) (run : List ℕ) (e : Extent) → length id ≤ 131072 → IsShortPart p → length run ≤ 65537 → ToldFits (chunk_run id p left run e)
chunk_fits id p left run e short part least =
    cond_both (nat_le (length run) left) _ _ ToldFits
    (λ is. record { given = given_fit id p run short part; stage = (part_stays_short p run part, place_short (left - length run)) })
    (λ is.
    let rest = size_run_fits id (part_with_bytes p (take left run)) [] (drop left run) e short (part_stays_short p (take left run) part) (omega arith) (omega (arith, least, length-drop left run)) in
    record { given = All-append Fits (pieces_given id p (take left run)) (size_run id (part_with_bytes p (take left run)) [] (drop left run) e).given (given_fit id p (take left run) short part) rest.given; stage = rest.stage })

part_fits : (id : List ℕ) (p : Part) (pl : Place) (run : List ℕ) (e : Extent) → length id ≤ 131072 → IsShortPart p → IsShortPlace pl → length run ≤ 65537 → ToldFits (part_run id p pl run e)
part_fits id p (place.Size so_far) run e short part few least = size_run_fits id p so_far run e short part few least
part_fits id p (place.Chunk left) run e short part few least = chunk_fits id p left run e short part least

type_short : (bytes : List ℕ) → length bytes ≤ 65537 → IfSome (type_of bytes) (λ (mime : List ℕ). length mime ≤ 131072)
type_short bytes short = cond_both (begins (codes "Content-Type: ") bytes && is_name (drop 14 bytes)) (Some (drop 14 bytes)) None (λ (o : Option (List ℕ)). IfSome o (λ (mime : List ℕ). length mime ≤ 131072)) (λ is. omega (arith, short, length-drop 14 bytes)) (λ is. tt)

typed_fits : (o : Option (List ℕ)) (bytes : List ℕ) → IfSome o (λ (mime : List ℕ). length mime ≤ 131072) → length bytes ≤ 65537 → ToldFits (typed_with o bytes)
typed_fits None bytes few short = record { given = line_fits bytes (omega (arith, short)); stage = tt }
typed_fits (Some mime) bytes few short = record { given = All-nil Fits; stage = few }

new_short : (mime name : List ℕ) → length mime ≤ 131072 → length name ≤ 131072 → IsShortStage (new_part mime name)
new_short mime name first later = (record { mime = first; name = later; held = omega arith }, omega arith)

named_short : (how : Status) (bytes : List ℕ) → length bytes ≤ 65537 → length (part_name_in how bytes) ≤ 131072
named_short how bytes short = cond_both (is_utf8_text bytes) bytes (outcome_file_name how) (λ (l : List ℕ). length l ≤ 131072) (λ is. omega (arith, short)) (λ is. omega (arith, name_short how))

name_piece_fits : (how : Status) (mime bytes : List ℕ) (last : Bool) → length mime ≤ 131072 → length bytes ≤ 65537 → ToldFits (name_piece how mime bytes last)
name_piece_fits how mime bytes true few short = record { given = output_of_fits (without_newline bytes) (omega (arith, short, newline_short bytes)); stage = new_short mime (outcome_file_name how) few (omega (arith, name_short how)) }
name_piece_fits how mime bytes false few short = record { given = output_of_fits (without_newline bytes) (omega (arith, short, newline_short bytes)); stage = few }

piece_told : (id : List ℕ) (how : Status) (s : Stage) (bytes : List ℕ) (last : Bool) → length id ≤ 131072 → IsShortStage s → length bytes ≤ 65537 → ToldFits (stage_piece id how s bytes last)
piece_told id how (stage.Lines p) bytes last short part least = lines_fit id p (cond last (with_newline (without_newline bytes)) bytes) short part
piece_told id how stage.Between bytes last short part least = record { given = output_of_fits (without_newline bytes) (omega (arith, least, newline_short bytes)); stage = tt }
piece_told id how (stage.Typed mime) bytes last short part least = name_piece_fits how mime bytes last part least
piece_told id how (stage.Bytes p pl) bytes last short part least = part_fits id p pl bytes (extent_of last) short part.0 part.1 least

line_told : (id : List ℕ) (how : Status) (s : Stage) (bytes : List ℕ) → length id ≤ 131072 → IsShortStage s → length bytes ≤ 65537 → ToldFits (stage_line id how s bytes)
line_told id how (stage.Lines p) bytes short part least = lines_fit id p (with_newline (unquoted (content bytes))) short part
line_told id how stage.Between bytes short part least = typed_fits (type_of (content bytes)) (content bytes) (type_short (content bytes) (omega (arith, least, content_short bytes))) (omega (arith, least, content_short bytes))
line_told id how (stage.Typed mime) bytes short part least = record { given = All-nil Fits; stage = new_short mime (part_name_in how (content bytes)) part (named_short how (content bytes) (omega (arith, least, content_short bytes))) }
line_told id how (stage.Bytes p pl) bytes short part least = part_fits id p pl bytes extent.Whole short part.0 part.1 least

-- what is held of short details is short
held_short : (s : Stage) → IsShortStage s → IfSome (held_part s) IsShortPart
held_short (stage.Lines p) short = short
held_short stage.Between short = tt
held_short (stage.Typed mime) short = tt
held_short (stage.Bytes p pl) short = short.0

ending_short : (p : Option Part) → IfSome p IsShortPart → IfSome (ending_part p) IsShortPart
ending_short None short = tt
ending_short (Some p) short = cond_both (length p.held == 0) None (Some p) (λ (o : Option Part). IfSome o IsShortPart) (λ is. tt) (λ is. short)

-- ---- lines

-- the id of a test is short
abbrev IsShortLine : V1Line → Type 0
IsShortLine (test id) = length id ≤ 131072
IsShortLine (outcome how rest) = Unit {0}
IsShortLine (time stamp) = Unit {0}
IsShortLine (tagging words) = Unit {0}
IsShortLine progress = Unit {0}
IsShortLine other = Unit {0}

time_short : (m : Option Moment) → IsShortLine (time_with m)
time_short None = tt
time_short (Some m) = tt

other_short : (bytes : List ℕ) → IsShortLine (other_of bytes)
other_short bytes =
    cond_both (begins (codes "time: ") bytes) _ _ IsShortLine (λ is. time_short (instant_of (drop 6 bytes)))
    (λ not. cond_both (begins (codes "tags: ") bytes) _ _ IsShortLine (λ is. tt)
    (λ not. cond_both (begins (codes "progress: ") bytes) _ _ IsShortLine (λ is. cond_both (is_progress (drop 10 bytes)) progress other IsShortLine (λ is. tt) (λ not. tt))
    (λ not. tt)))

outcome_short : (o : Option EndedLine) (bytes : List ℕ) → IsShortLine (outcome_or o bytes)
outcome_short None bytes = other_short bytes
outcome_short (Some ended) bytes = tt

begins_short : (o : Option (List ℕ)) (bytes : List ℕ) → IfSome o (λ (id : List ℕ). length id ≤ 131072) → IsShortLine (test_or o bytes)
begins_short None bytes few = outcome_short (outcome_of bytes) bytes
begins_short (Some id) bytes few = few

line_short : (bytes : List ℕ) → length bytes ≤ 65537 → IsShortLine (line_of bytes)
line_short bytes short =
    begins_short (test_begun bytes) bytes
    (cond_both (begins (codes "test: ") bytes) _ _ (λ (o : Option (List ℕ)). IfSome o (λ (id : List ℕ). length id ≤ 131072)) (λ is. omega (arith, short, length-drop 6 bytes))
    (λ not. cond_both (begins (codes "testing: ") bytes) _ _ (λ (o : Option (List ℕ)). IfSome o (λ (id : List ℕ). length id ≤ 131072)) (λ is. omega (arith, short, length-drop 9 bytes)) (λ not. tt)))

-- ---- steps

-- what a step gives fits, and what is known behind it is short
pub record StepFits (r : LineStep) : Type 0 where
  pub given : All Fits r.given
  pub state : IsShortState r.state

module _ (s : State) (known : IsShortState s) where
  closed_short : IsShortState (with_test s None)
  closed_short = record { tags = known.tags; open_test = tt }

  open_short : (t : OpenTest) → IsShortTest t → IsShortState (with_test s (Some t))
  open_short t short = record { tags = known.tags; open_test = short }

  quiet_fits : StepFits (record { given = []; state = s })
  quiet_fits = record { given = All-nil Fits; state = known }

  foreign_fit : (bytes : List ℕ) → length bytes ≤ 65537 → StepFits (record { given = line_event bytes ∷ []; state = s })
  foreign_fit bytes short = record { given = line_fits bytes (omega (arith, short)); state = known }

  timed : (stamp : Stamp) → StepFits (record { given = []; state = record { last = Some stamp; tags = s.tags; open_test = s.open_test } })
  timed stamp = record { given = All-nil Fits; state = record { tags = known.tags; open_test = known.open_test } }

  complete_fits : (t : OpenTest) (how : Status) (p : Option Part) → IsShortTest t → IfSome p IsShortPart → StepFits (complete s t how p)
  complete_fits t how p short part = record {
    given = All-cons Fits (completing_event s.last t.id t.tags how p) [] (event_fits s.last t.id (tags_told t.tags) how p short.id (told_short t.tags short.tags) part) (All-nil Fits);
    state = closed_short;
  }

  go_on_fits : (t : OpenTest) (how : Status) (told : StageStep) → IsShortTest t → ToldFits told → StepFits (go_on s t how told)
  go_on_fits t how told short fits = record { given = fits.given; state = record { tags = known.tags; open_test = record { id = short.id; tags = short.tags; details = fits.stage } } }

  begin_fits : (bytes id : List ℕ) → length bytes ≤ 65537 → length id ≤ 131072 → StepFits (begin_test s bytes id)
  begin_fits bytes id short few =
      cond_both (is_name id) _ _ StepFits
      (λ is. record {
        given = All-cons Fits (begun_event s.last id) [] (event_fits s.last id None status.InProgress None few tt tt) (All-nil Fits);
        state = record { tags = known.tags; open_test = record { id = few; tags = known.tags; details = tt } };
      })
      (λ is. foreign_fit bytes short)

  begin_details_fit : (t : OpenTest) (how : Status) (st : Stage) → IsShortTest t → IsShortStage st → StepFits (record { given = []; state = with_test s (Some (record { id = t.id; tags = t.tags; details = Some (record { how = how; stage = st }) })) })
  begin_details_fit t how st short kept = record { given = All-nil Fits; state = record { tags = known.tags; open_test = record { id = short.id; tags = short.tags; details = kept } } }

  lines_begin : (how : Status) → IsShortPart (lines_part how)
  lines_begin how = record { mime = omega arith; name = omega (arith, name_short how); held = omega arith }

  end_fits : (t : OpenTest) (bytes : List ℕ) (how : Status) (rest : List ℕ) → IsShortTest t → length bytes ≤ 65537 → StepFits (end_test s t bytes how rest)
  end_fits t bytes how rest short least =
      cond_both (pointwise nat_eq t.id rest) _ _ StepFits (λ is. complete_fits t how None short tt)
      (λ not. cond_both (is_id_and (codes " [") t.id rest) _ _ StepFits (λ is. begin_details_fit t how (stage.Lines (lines_part how)) short (lines_begin how))
      (λ not. cond_both (is_id_and (codes " [ multipart") t.id rest) _ _ StepFits (λ is. begin_details_fit t how stage.Between short tt)
      (λ not. foreign_fit bytes least)))

  tags_fit : (bytes : List ℕ) (names : Option (List (List ℕ))) → length bytes ≤ 65537 → IfSome names AreShortTags → StepFits (change_tags s bytes names)
  tags_fit bytes None least few = foreign_fit bytes least
  tags_fit bytes (Some names) least few = record { given = All-nil Fits; state = record { tags = few; open_test = known.open_test } }

  own_tags_fit : (t : OpenTest) (bytes : List ℕ) (names : Option (List (List ℕ))) → IsShortTest t → length bytes ≤ 65537 → IfSome names AreShortTags → StepFits (change_own_tags s t bytes names)
  own_tags_fit t bytes None short least few = foreign_fit bytes least
  own_tags_fit t bytes (Some names) short least few = record { given = All-nil Fits; state = record { tags = known.tags; open_test = record { id = short.id; tags = few; details = tt } } }

  outside_fits : (bytes : List ℕ) (l : V1Line) → length bytes ≤ 65537 → IsShortLine l → StepFits (step_outside s bytes l)
  outside_fits bytes (test id) least few = begin_fits bytes id least few
  outside_fits bytes (outcome how rest) least few = foreign_fit bytes least
  outside_fits bytes (time stamp) least few = timed stamp
  outside_fits bytes (tagging words) least few = tags_fit bytes (retagged s.tags words) least (retagged_short s.tags words known.tags)
  outside_fits bytes progress least few = quiet_fits
  outside_fits bytes other least few = foreign_fit bytes least

  within_fits : (t : OpenTest) (bytes : List ℕ) (l : V1Line) → IsShortTest t → length bytes ≤ 65537 → StepFits (step_inside s t bytes l)
  within_fits t bytes (test id) short least = foreign_fit bytes least
  within_fits t bytes (outcome how rest) short least = end_fits t bytes how rest short least
  within_fits t bytes (time stamp) short least = timed stamp
  within_fits t bytes (tagging words) short least = own_tags_fit t bytes (retagged t.tags words) short least (retagged_short t.tags words short.tags)
  within_fits t bytes progress short least = quiet_fits
  within_fits t bytes other short least = foreign_fit bytes least

  detail_line_fits : (t : OpenTest) (d : Details) (bytes : List ℕ) → IsShortTest t → AreShortDetails d → length bytes ≤ 65537 → StepFits (detail_line s t d bytes)
  detail_line_fits t d bytes short few least =
      cond_both (ends_details d.stage bytes) _ _ StepFits
      (λ is. complete_fits t d.how (ending_part (held_part d.stage)) short (ending_short (held_part d.stage) (held_short d.stage few)))
      (λ not. go_on_fits t d.how (stage_line t.id d.how d.stage bytes) short (line_told t.id d.how d.stage bytes short.id few least))

  line_within_fits : (t : OpenTest) (d : Option Details) (bytes : List ℕ) → IsShortTest t → IfSome d AreShortDetails → length bytes ≤ 65537 → StepFits (line_within s t d bytes)
  line_within_fits t None bytes short few least = within_fits t (content bytes) (line_of (content bytes)) short (omega (arith, least, content_short bytes))
  line_within_fits t (Some d) bytes short few least = detail_line_fits t d bytes short few least

  line_fit : (t : Option OpenTest) (bytes : List ℕ) → IfSome t IsShortTest → length bytes ≤ 65537 → StepFits (line_step s t bytes)
  line_fit None bytes short least = outside_fits (content bytes) (line_of (content bytes)) (omega (arith, least, content_short bytes)) (line_short (content bytes) (omega (arith, least, content_short bytes)))
  line_fit (Some t) bytes short least = line_within_fits t t.details bytes short short.details least

  piece_outside_fits : (bytes : List ℕ) → length bytes ≤ 65537 → StepFits (record { given = stdout_events_of (without_newline bytes); state = s })
  piece_outside_fits bytes least = record { given = output_of_fits (without_newline bytes) (omega (arith, least, newline_short bytes)); state = known }

  piece_within_fits : (t : OpenTest) (d : Option Details) (bytes : List ℕ) (last : Bool) → IsShortTest t → IfSome d AreShortDetails → length bytes ≤ 65537 → StepFits (piece_within s t d bytes last)
  piece_within_fits t None bytes last short few least = piece_outside_fits bytes least
  piece_within_fits t (Some d) bytes last short few least = go_on_fits t d.how (stage_piece t.id d.how d.stage bytes last) short (piece_told t.id d.how d.stage bytes last short.id few least)

  piece_fit : (t : Option OpenTest) (bytes : List ℕ) (last : Bool) → IfSome t IsShortTest → length bytes ≤ 65537 → StepFits (piece_step s t bytes last)
  piece_fit None bytes last short least = piece_outside_fits bytes least
  piece_fit (Some t) bytes last short least = piece_within_fits t t.details bytes last short short.details least

-- a line that is short enough, where what is known is short
pub line_fits_at : (s : State) (bytes : List ℕ) → length (without_newline bytes) ≤ longest_v1_line → IsShortState s → StepFits (step s (line bytes))
line_fits_at s bytes short known = line_fit s known s.open_test bytes known.open_test (omega (arith, short, newline_one bytes))

pub piece_fits_at : (s : State) (bytes : List ℕ) (last : Bool) → length (without_newline bytes) ≤ longest_v1_line → IsShortState s → StepFits (step s (piece bytes last))
piece_fits_at s bytes last short known = piece_fit s known s.open_test bytes last known.open_test (omega (arith, short, newline_one bytes))

-- at the end
left_fits : (id : List ℕ) (p : Option Part) → length id ≤ 131072 → IfSome p IsShortPart → All Fits (part_left id p)
left_fits id None short part = All-nil Fits
left_fits id (Some p) short part = rest_fits id p short part

details_fit : (id : List ℕ) (d : Option Details) → length id ≤ 131072 → IfSome d AreShortDetails → All Fits (details_left id d)
details_fit id None short few = All-nil Fits
details_fit id (Some d) short few = left_fits id (held_part d.stage) short (held_short d.stage few)

test_fits : (t : Option OpenTest) → IfSome t IsShortTest → All Fits (events_at_end t)
test_fits None short = All-nil Fits
test_fits (Some t) short = details_fit t.id t.details short.id short.details

pub end_fits_at : (s : State) → IsShortState s → All Fits (events_at_end s.open_test)
end_fits_at s known = test_fits s.open_test known.open_test

pub start_short : IsShortState start
start_short = record { tags = no_tags_short; open_test = tt }

pub fit_none : (events : List Event) → events ≡ [] → All Fits events
fit_none events none = subst (All Fits) (sym none) (All-nil Fits)
