-- The lines of an outcome and of its text, read again.
use Rattle.std.proofs.Common.{◌≡◌, inr, ℕ, ◌≤◌, ◌==◌, ◌&&◌, nat_eq, nat_lt, Bool, true, false, cond, Option, Some, None, List, [], ◌∷◌, ◌++◌, map, length, drop, refl, sym, ap, subst, ◌∙◌, append_assoc, length-append, arith}
use Rattle.std.specs.Prelude.{⊤, codes}
use Rattle.std.specs.List.{flat_map}
use Rattle.std.specs.Cmp.Lexicographic.{pointwise}
use Rattle.std.proofs.lemmas.Cmp.{nat_list_eq_equiv}
use Rattle.std.proofs.Math.Seq.{drop-append_seam, take-append_seam}
use Rattle.std.proofs.lemmas.Bool.{cond_both, cond-true, cond-false, eqb-true, eq-eqb, true≢false}
use Rattle.packet_codec.specs.declared.stamp.Stamp.{Stamp}
use Rattle.packet_codec.specs.declared.event.Event.{Event}
use Rattle.packet_codec.specs.declared.status.Status.{Status}
use Rattle.packet_codec.specs.declared.status.Status.TheVariants as status
use Rattle.outcome_fold.specs.declared.row.Ended.{Ended}
use Rattle.outcome_fold.specs.declared.row.Ended.TheVariants as ended
use Rattle.outcome_fold.specs.Parts.{ended_by}
use Rattle.sub_number.specs.Lines.{begins, with_newline}
use Rattle.v1_bridge.specs.declared.part.Part.{Part}
use Rattle.v1_bridge.specs.declared.details_stage.OpenTest.{OpenTest}
use Rattle.v1_bridge.specs.Lines.{line_of, outcome, without_newline, content}
use Rattle.v1_bridge.specs.Events.{longest_v1_line, full_pieces, piece_event, part_with_bytes, pieces_given, lines_part, completing_event}
use Rattle.v1_bridge.specs.Stages.{is_bracket_line, unquoted}
use Rattle.v1_bridge.specs.Reading.{LineStep, Input, line, piece, front_piece, step, step_inside, inputs_of, last_piece, state_behind, events_from, is_id_and, ending_part}
use Rattle.v1_bridge.specs.Cutting.{lines_behind, lines_of}
use Rattle.v1_bridge.specs.Writing.{last_byte_behind, brackets_spaced, newline_behind, text_lines, open_line, detail_lines, has_details, details_of, is_written, outcome_word}
use Rattle.v1_bridge.specs.Laws.{IsPlainId, end_again}
use Rattle.v1_bridge.proofs.WriteLemmas.{last_then}
use Rattle.v1_bridge.proofs.LineLemmas.{IsShown, with_line_end}
use Rattle.v1_bridge.proofs.BracketLemmas.{NoBrackets, none_then, text_has_none}
use Rattle.v1_bridge.proofs.BlockLemmas.{AreQuiet, quiet_then}
use Rattle.v1_bridge.proofs.AgainLemmas.{inner, outer, among_details, test_without_route, Leads, leads_then, leads_line, leads_same, shown_both, at_inner}

-- ---- lines of details

-- the input is no bracket
abbrev IsDetail : Input → Type 0
IsDetail (line bytes) = is_bracket_line bytes ≡ false
IsDetail (piece bytes last) = ⊤

abbrev AreDetails : List Input → Type 0
AreDetails [] = ⊤
AreDetails (input ∷ inputs) = IsDetail input × AreDetails inputs

details_then : (xs ys : List Input) → AreDetails xs → AreDetails ys → AreDetails (xs ++ ys)
details_then [] ys first later = later
details_then (x ∷ xs) ys first later = (first.0, details_then xs ys first.1 later)

front_details : (pieces : List (List ℕ)) → AreDetails (map front_piece pieces)
front_details [] = tt
front_details (p ∷ pieces) = (tt, front_details pieces)

line_details : (bytes : List ℕ) → is_bracket_line bytes ≡ false → AreDetails (inputs_of bytes)
line_details bytes none =
    cond_both (nat_lt longest_v1_line (length (without_newline bytes))) _ (line bytes ∷ []) AreDetails
    (λ long. details_then (map front_piece (full_pieces (without_newline bytes))) (piece (last_piece bytes) true ∷ []) (front_details (full_pieces (without_newline bytes))) (tt, tt))
    (λ short. (none, tt))

lines_details : (lines : List (List ℕ)) → NoBrackets lines → AreDetails (flat_map inputs_of lines)
lines_details [] none = tt
lines_details (l ∷ lines) none = details_then (inputs_of l) (flat_map inputs_of lines) (line_details l none.0) (lines_details lines none.1)

-- pieces of the test's file are quiet
pieces_quiet : (id : List ℕ) (p : Part) (pieces : List (List ℕ)) → AreQuiet (test_without_route id) (map (piece_event id p) pieces)
pieces_quiet id p [] = tt
pieces_quiet id p (bytes ∷ pieces) = (inr (refl, refl, refl), pieces_quiet id p pieces)

module _ (last : Option Stamp) (id : List ℕ) (names : List (List ℕ)) (how : Status) where
  -- a step among the details, which go on
  goes_on : (p : Part) (input : Input) → IsDetail input → (given : List Event) × (q : Part) × (step (among_details last id names how p) input ≡ record { given = given; state = among_details last id names how q }) × AreQuiet (test_without_route id) given
  goes_on p (line bytes) none =
      let more = with_newline (unquoted (content bytes)) in (
        pieces_given id p more,
        part_with_bytes p more,
        cond-false (is_bracket_line bytes) _ _ none,
        pieces_quiet id p (full_pieces (p.held ++ more)),
      )
  goes_on p (piece bytes ends) none =
      let more = cond ends (with_newline (without_newline bytes)) bytes in (
        pieces_given id p more,
        part_with_bytes p more,
        refl,
        pieces_quiet id p (full_pieces (p.held ++ more)),
      )

  go_on_all : (p : Part) (inputs : List Input) → AreDetails inputs → (given : List Event) × (q : Part) × (events_from (among_details last id names how p) inputs ≡ given) × (state_behind (among_details last id names how p) inputs ≡ among_details last id names how q) × AreQuiet (test_without_route id) given
  go_on_all p [] none = ([], p, refl, refl, tt)
  go_on_all p (input ∷ inputs) (this, others) =
      let (given, q, is, quiet) = goes_on p input this in
      let (more, r, events, state, still) = go_on_all q inputs others in (
        given ++ more,
        r,
        (λ i. (is i).given ++ events_from (is i).state inputs) ∙ ap (λ l. given ++ l) events,
        ap (λ (s : LineStep). state_behind s.state inputs) is ∙ state,
        quiet_then (test_without_route id) given more quiet still,
      )

  -- text of whole lines, none of which is a bracket
  leads_details : (p : Part) (text : List ℕ) → NoBrackets (lines_of text) → ((rest : List ℕ) → lines_of (text ++ rest) ≡ lines_of text ++ lines_of rest)
      → (given : List Event) × (q : Part) × Leads (among_details last id names how p) text given (among_details last id names how q) × AreQuiet (test_without_route id) given
  leads_details p text none cut =
      let (given, q, events, state, quiet) = go_on_all p (flat_map inputs_of (lines_of text)) (lines_details (lines_of text) none) in
      (given, q, record { lines = lines_of text; cut = cut; runs = record { events = events; state = state } }, quiet)

-- ---- where text ends with a newline

abbrev mark : List ℕ → ℕ
mark [] = 10
mark (byte ∷ front) = 0

begun : (front : List ℕ) (byte : ℕ) → mark (front ++ byte ∷ []) ≡ 0
begun [] byte = refl
begun (first ∷ front) byte = refl

-- the last byte does not depend on the one before the text, where there is one
last_same : (byte : ℕ) (bytes : List ℕ) → (byte == 10) ≡ false → last_byte_behind byte bytes ≡ 10 → last_byte_behind 0 bytes ≡ 10
last_same byte [] not is = absurd (never (byte == 10) not (eq-eqb byte 10 is))
  where
    never : (b : Bool) → b ≡ false → b ≡ true → ⊥
    never b is_not is = cc
last_same byte (next ∷ bytes) not is = is

-- one byte more of a line, which ends with it or not
cut_one : (byte : ℕ) (text front rest : List ℕ) (b : Bool) → (byte == 10) ≡ b → last_byte_behind byte text ≡ 10
    → ((begun_front : List ℕ) → last_byte_behind (mark begun_front) text ≡ 10 → lines_behind begun_front (text ++ rest) ≡ lines_behind begun_front text ++ lines_of rest)
    → cond b ((front ++ byte ∷ []) ∷ lines_of (text ++ rest)) (lines_behind (front ++ byte ∷ []) (text ++ rest)) ≡ cond b ((front ++ byte ∷ []) ∷ lines_of text) (lines_behind (front ++ byte ∷ []) text) ++ lines_of rest
cut_one byte text front rest true ten is goes = ap (λ l. (front ++ byte ∷ []) ∷ l) (goes [] (subst (λ b. last_byte_behind b text ≡ 10) (eqb-true byte 10 ten) is))
cut_one byte text front rest false not is goes = goes (front ++ byte ∷ []) (ap (λ b. last_byte_behind b text) (begun front byte) ∙ last_same byte text not is)

cut_then : (text front rest : List ℕ) → last_byte_behind (mark front) text ≡ 10 → lines_behind front (text ++ rest) ≡ lines_behind front text ++ lines_of rest
cut_then [] [] rest is = refl
cut_then [] (byte ∷ front) rest is = absurd (omega (arith, is))
cut_then (byte ∷ text) front rest is = cut_one byte text front rest (byte == 10) refl is (λ begun_front ended. cut_then text begun_front rest ended)

last_quoted : (before : ℕ) (text : List ℕ) → last_byte_behind before (brackets_spaced before text) ≡ last_byte_behind before text
last_quoted before [] = refl
last_quoted before (byte ∷ text) =
    cond_both (before == 10 && begins (codes "]") (byte ∷ text)) (codes " ") [] (λ (front : List ℕ). last_byte_behind before (front ++ byte ∷ brackets_spaced byte text) ≡ last_byte_behind byte text) (λ is. last_quoted byte text) (λ is. last_quoted byte text)

last_newline : (byte : ℕ) → last_byte_behind byte (newline_behind byte) ≡ 10
last_newline byte = cond_both (byte == 10) [] (10 ∷ []) (λ (l : List ℕ). last_byte_behind byte l ≡ 10) (λ is. eqb-true byte 10 is) (λ is. refl)

text_ends : (text : List ℕ) → last_byte_behind 10 (text_lines text) ≡ 10
text_ends text =
    last_then 10 (brackets_spaced 10 text) (newline_behind (last_byte_behind 10 text)) ∙ ap (λ b. last_byte_behind b (newline_behind (last_byte_behind 10 text))) (last_quoted 10 text) ∙ last_newline (last_byte_behind 10 text)

-- the line of an open test
open_ends : (how : Ended) → last_byte_behind 10 (open_line how) ≡ 10
open_ends ended.Exists = refl
open_ends ended.Success = refl
open_ends ended.UxSuccess = refl
open_ends ended.Skip = refl
open_ends ended.Fail = refl
open_ends ended.XFail = refl
open_ends ended.Open = refl

open_has_none : (how : Ended) → NoBrackets (lines_of (open_line how))
open_has_none ended.Exists = tt
open_has_none ended.Success = tt
open_has_none ended.UxSuccess = tt
open_has_none ended.Skip = tt
open_has_none ended.Fail = tt
open_has_none ended.XFail = tt
open_has_none ended.Open = (refl, tt)

lines_cut : (how : Ended) (text : List ℕ) → lines_of (detail_lines how text) ≡ lines_of (text_lines text) ++ lines_of (open_line how)
lines_cut how text = cut_then (text_lines text) [] (open_line how) (text_ends text)

details_end : (how : Ended) (text : List ℕ) → last_byte_behind 10 (detail_lines how text) ≡ 10
details_end how text = last_then 10 (text_lines text) (open_line how) ∙ ap (λ b. last_byte_behind b (open_line how)) (text_ends text) ∙ open_ends how

no_brackets : (how : Ended) (text : List ℕ) → NoBrackets (lines_of (detail_lines how text))
no_brackets how text = subst NoBrackets (sym (lines_cut how text)) (none_then (lines_of (text_lines text)) (lines_of (open_line how)) (text_has_none text) (open_has_none how))

-- ---- outcomes

-- the status that the word of an end says
abbrev pub status_again : Ended → Status
status_again ended.Exists = status.Unset
status_again ended.Success = status.Success
status_again ended.UxSuccess = status.UxSuccess
status_again ended.Skip = status.Skip
status_again ended.Fail = status.Fail
status_again ended.XFail = status.XFail
status_again ended.Open = status.Fail

word_read : (how : Ended) (rest : List ℕ) → is_written how ≡ true → line_of (outcome_word how ++ rest) ≡ outcome (status_again how) rest
word_read ended.Exists rest is = absurd (true≢false (sym is))
word_read ended.Success rest is = refl
word_read ended.UxSuccess rest is = refl
word_read ended.Skip rest is = refl
word_read ended.Fail rest is = refl
word_read ended.XFail rest is = refl
word_read ended.Open rest is = refl

word_shown : (how : Ended) → IsShown (outcome_word how)
word_shown ended.Exists = refl
word_shown ended.Success = refl
word_shown ended.UxSuccess = refl
word_shown ended.Skip = refl
word_shown ended.Fail = refl
word_shown ended.XFail = refl
word_shown ended.Open = refl

word_short : (how : Ended) → length (outcome_word how) ≤ 11
word_short ended.Exists = omega arith
word_short ended.Success = omega arith
word_short ended.UxSuccess = omega arith
word_short ended.Skip = omega arith
word_short ended.Fail = omega arith
word_short ended.XFail = omega arith
word_short ended.Open = omega arith

pub read_end : (how : Ended) → is_written how ≡ true → ended_by (status_again how) ≡ Some (end_again how)
read_end ended.Exists is = absurd (true≢false (sym is))
read_end ended.Success is = refl
read_end ended.UxSuccess is = refl
read_end ended.Skip is = refl
read_end ended.Fail is = refl
read_end ended.XFail is = refl
read_end ended.Open is = refl

same_bytes : (bytes : List ℕ) → pointwise nat_eq bytes bytes ≡ true
same_bytes bytes = nat_list_eq_equiv.refl bytes

longer_differs : (bytes more : List ℕ) (byte : ℕ) → pointwise nat_eq bytes (bytes ++ byte ∷ more) ≡ false
longer_differs [] more byte = refl
longer_differs (x ∷ bytes) more byte = ap (λ b. nat_eq x x && b) (longer_differs bytes more byte) ∙ both_false (nat_eq x x)
  where
    both_false : (b : Bool) → (b && false) ≡ false
    both_false true = refl
    both_false false = refl

-- bytes behind an id are told apart
behind_id : (more id : List ℕ) → is_id_and more id (id ++ more) ≡ true
behind_id more id =
    ap (λ (l : List ℕ). pointwise nat_eq id l && pointwise nat_eq (drop (length id) (id ++ more)) more) (take-append_seam id more)
    ∙ ap (λ b. b && pointwise nat_eq (drop (length id) (id ++ more)) more) (same_bytes id)
    ∙ ap (λ (l : List ℕ). pointwise nat_eq l more) (drop-append_seam id more) ∙ same_bytes more

module _ (last : Option Stamp) (id : List ℕ) (names : List (List ℕ)) (how : Ended) (written : is_written how ≡ true) (plain : IsPlainId id) where
  abbrev the_test : OpenTest
  the_test = record { id = id; tags = names; details = None }

  -- the test ends without text
  leads_plain_end : Leads (inner last id names) (outcome_word how ++ id ++ codes "\n") (completing_event last id names (status_again how) None ∷ []) (outer last)
  leads_plain_end =
      let bytes = outcome_word how ++ id in
      let shown : IsShown bytes = shown_both (outcome_word how) id (word_shown how) plain.shown in
      leads_line (inner last id names) (outer last) bytes (completing_event last id names (status_again how) None ∷ []) shown (omega (arith, length-append (outcome_word how) id, word_short how, plain.short))
      (at_inner last id names bytes shown ∙ ap (step_inside (inner last id names) the_test bytes) (word_read how id written) ∙ cond-true (pointwise nat_eq id id) _ _ (same_bytes id))

  -- the line before its text
  leads_begin : Leads (inner last id names) (outcome_word how ++ id ++ codes " [\n") [] (among_details last id names (status_again how) (lines_part (status_again how)))
  leads_begin =
      let rest = id ++ codes " [" in
      let bytes = outcome_word how ++ rest in
      let shown : IsShown bytes = shown_both (outcome_word how) rest (word_shown how) (shown_both id (codes " [") plain.shown refl) in
      let text : with_line_end bytes ≡ outcome_word how ++ id ++ codes " [\n" = ap (λ (l : List ℕ). l ++ 10 ∷ []) (sym (append_assoc (outcome_word how) id (codes " ["))) ∙ append_assoc (outcome_word how ++ id) (codes " [") (10 ∷ []) in
      leads_same (inner last id names) (among_details last id names (status_again how) (lines_part (status_again how))) (with_line_end bytes) (outcome_word how ++ id ++ codes " [\n") [] text
      (leads_line (inner last id names) (among_details last id names (status_again how) (lines_part (status_again how))) bytes [] shown (omega (arith, length-append (outcome_word how) rest, length-append id (codes " ["), word_short how, plain.short))
      (at_inner last id names bytes shown ∙ ap (step_inside (inner last id names) the_test bytes) (word_read how rest written)
      ∙ cond-false (pointwise nat_eq id rest) _ _ (longer_differs id (91 ∷ []) 32) ∙ cond-true (is_id_and (codes " [") id rest) _ _ (behind_id (codes " [") id)))

  -- the line behind it
  leads_bracket : (p : Part) → Leads (among_details last id names (status_again how) p) (codes "]\n") (completing_event last id names (status_again how) (ending_part (Some p)) ∷ []) (outer last)
  leads_bracket p = leads_line (among_details last id names (status_again how) p) (outer last) (93 ∷ []) (completing_event last id names (status_again how) (ending_part (Some p)) ∷ []) refl (omega arith) refl

  -- the whole outcome
  pub leads_outcome : (text : List ℕ) → (front : List Event) × (part : Option Part) × Leads (inner last id names) (outcome_word how ++ id ++ details_of how text) (front ++ completing_event last id names (status_again how) part ∷ []) (outer last) × AreQuiet (test_without_route id) front
  leads_outcome text = by_case (has_details how text) refl
    where
      by_case : (b : Bool) → has_details how text ≡ b → (front : List Event) × (part : Option Part) × Leads (inner last id names) (outcome_word how ++ id ++ cond b (codes " [\n" ++ detail_lines how text ++ codes "]\n") (codes "\n")) (front ++ completing_event last id names (status_again how) part ∷ []) (outer last) × AreQuiet (test_without_route id) front
      by_case false none = ([], None, leads_plain_end, tt)
      by_case true some =
          let lines = detail_lines how text in
          let start = lines_part (status_again how) in
          let (given, q, leads, quiet) = leads_details last id names (status_again how) start lines (no_brackets how text) (λ rest. cut_then lines [] rest (details_end how text)) in
          let ends = completing_event last id names (status_again how) (ending_part (Some q)) ∷ [] in
          let all = leads_then (inner last id names) (among_details last id names (status_again how) start) (outer last) (outcome_word how ++ id ++ codes " [\n") (lines ++ codes "]\n") [] (given ++ ends) leads_begin
          (leads_then (among_details last id names (status_again how) start) (among_details last id names (status_again how) q) (outer last) lines (codes "]\n") given ends leads (leads_bracket q)) in
          let text_is : (outcome_word how ++ id ++ codes " [\n") ++ (lines ++ codes "]\n") ≡ outcome_word how ++ id ++ (codes " [\n" ++ (lines ++ codes "]\n")) =
          append_assoc (outcome_word how ++ id) (codes " [\n") (lines ++ codes "]\n") in
          (given, ending_part (Some q), leads_same (inner last id names) (outer last) ((outcome_word how ++ id ++ codes " [\n") ++ (lines ++ codes "]\n")) (outcome_word how ++ id ++ (codes " [\n" ++ (lines ++ codes "]\n"))) (given ++ ends) text_is all, quiet)
