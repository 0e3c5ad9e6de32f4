-- The lines of parts, one after another, read again.
use Rattle.std.proofs.Common.{◌≡◌, inr, ℕ, ◌==◌, Bool, true, false, cond, Option, Some, None, List, [], ◌∷◌, ◌++◌, map, length, refl, sym, ap, ◌∙◌, append_assoc, arith}
use Rattle.std.specs.Prelude.{⊤}
use Rattle.std.specs.List.{filter}
use Rattle.std.specs.Option.{unwrap_or}
use Rattle.std.proofs.lemmas.Bool.{cond_both, cond-true, cond-false, ne_eqb}
use Rattle.packet_codec.specs.declared.stamp.Stamp.{Stamp}
use Rattle.packet_codec.specs.declared.event.Event.{Event}
use Rattle.outcome_fold.specs.declared.part.EndedPart.{EndedPart}
use Rattle.outcome_fold.specs.Order.{in_byte_order}
use Rattle.outcome_fold.specs.Files.{text_shown}
use Rattle.outcome_fold.proofs.SetLemmas.{order_again}
use Rattle.v1_bridge.specs.Events.{begun_event, completing_event, tags_told}
use Rattle.v1_bridge.specs.Writing.{last_byte_behind, time_line, test_begin_line, v1_tags_line, outcome_word, outcome_line, details_of, lines_of_part, is_written, ended_part_text, parts_text}
use Rattle.v1_bridge.specs.Laws.{IsPlainId, ArePlainTags, SaidOfRow, end_again}
use Rattle.v1_bridge.proofs.WriteLemmas.{ends_line}
use Rattle.v1_bridge.proofs.BlockLemmas.{quiet_then, IsToldAs, AreToldAs}
use Rattle.v1_bridge.proofs.AgainLemmas.{inner, outer, test_without_route, Leads, leads_none, leads_then, leads_same, leads_time_outer, leads_time_inner, leads_test, leads_tags, id_shown}
use Rattle.v1_bridge.proofs.DetailLemmas.{status_again, read_end, leads_outcome}

-- what is said again of a part
abbrev pub saying_of : EndedPart → SaidOfRow
saying_of p = record { id = p.key.id; tags = in_byte_order p.started.tags; ended = end_again p.ended }

-- its id and its tags are told as they are
pub record IsPlainPart (p : EndedPart) : Type 0 where
  pub id : IsPlainId p.key.id
  pub tags : ArePlainTags (in_byte_order p.started.tags)

-- the tags of a completing event
told_tags : (names : List (List ℕ)) → in_byte_order names ≡ names → in_byte_order (unwrap_or (tags_told names) []) ≡ names
told_tags [] ordered = ordered
told_tags (name ∷ names) ordered =
    ap (λ (o : Option (List (List ℕ))). in_byte_order (unwrap_or o [])) (cond-false (length (name ∷ names) == 0) None (Some (name ∷ names)) (ne_eqb (length (name ∷ names)) 0 (λ is. absurd (omega (arith, is))))) ∙ ordered

-- the lines of one part
pub leads_part : (last : Option Stamp) (p : EndedPart) → is_written p.ended ≡ true → IsPlainPart p → (given : List Event) × (now : Option Stamp) × Leads (outer last) (lines_of_part p) given (outer now) × IsToldAs (saying_of p) given
leads_part last p written plain =
    let id = p.key.id in
    let names = in_byte_order p.started.tags in
    let test = test_without_route id in
    let ordered : in_byte_order names ≡ names = order_again p.started.tags in
    let (given, now, first, quiet) = leads_time_outer test last p.started.start in
    let (more, at, second, still) = leads_time_inner test now id names p.end in
    let (front, part, third, silent) = leads_outcome at id names p.ended written plain.id (text_shown p.started.files) in
    let ends = completing_event at id names (status_again p.ended) part in
    let outcome : Leads (inner at id names) (outcome_line p.ended id (text_shown p.started.files)) (front ++ ends ∷ []) (outer at) =
    leads_same (inner at id names) (outer at) (outcome_word p.ended ++ id ++ details_of p.ended (text_shown p.started.files)) (outcome_line p.ended id (text_shown p.started.files)) (front ++ ends ∷ [])
    (ap (λ (l : List ℕ). outcome_word p.ended ++ l ++ details_of p.ended (text_shown p.started.files)) (sym (id_shown id plain.id))) third in
    let begun = begun_event now id ∷ [] in
    let one = leads_then (outer last) (outer now) (inner now id []) (time_line p.started.start) (test_begin_line id) given begun first (leads_test now id plain.id) in
    let two = leads_then (outer last) (inner now id []) (inner now id names) (time_line p.started.start ++ test_begin_line id) (v1_tags_line names) (given ++ begun) [] one (leads_tags now id names plain.tags ordered) in
    let three = leads_then (outer last) (inner now id names) (inner at id names) (time_line p.started.start ++ test_begin_line id ++ v1_tags_line names) (time_line p.end) (given ++ begun ++ []) more two second in
    let behind = given ++ begun ++ [] ++ more in
    let all = leads_then (outer last) (inner at id names) (outer at) (time_line p.started.start ++ test_begin_line id ++ v1_tags_line names ++ time_line p.end) (outcome_line p.ended id (text_shown p.started.files)) behind (front ++ ends ∷ []) three outcome in
    let quiet_first = quiet_then test (given ++ begun) [] (quiet_then test given begun quiet (inr (refl, refl, refl), tt)) tt in (
      behind ++ (front ++ ends ∷ []),
      at,
      all,
      record {
        test = test;
        front = behind ++ front;
        last = ends;
        joined = sym (append_assoc behind front (ends ∷ []));
        quiet = quiet_then test behind front (quiet_then test (given ++ begun ++ []) more quiet_first still) silent;
        speaks = refl;
        ends = read_end p.ended written;
        no_route = refl;
        id = refl;
        tags = told_tags names ordered;
      },
    )

pub part_ends : (p : EndedPart) → last_byte_behind 10 (ended_part_text 10 p) ≡ 10
part_ends p = cond_both (is_written p.ended) (lines_of_part p) [] (λ (l : List ℕ). last_byte_behind 10 l ≡ 10) (λ is. ends_line 10 p) (λ is. refl)

-- ---- parts, one after another

abbrev pub part_is_written : EndedPart → Bool
part_is_written p = is_written p.ended

abbrev pub sayings_of : List EndedPart → List SaidOfRow
sayings_of parts = map saying_of (filter part_is_written parts)

abbrev pub ArePlainParts : List EndedPart → Type 0
ArePlainParts [] = ⊤
ArePlainParts (p ∷ parts) = IsPlainPart p × ArePlainParts parts

-- one part more, where the others lead on from whatever time
leads_more : (last : Option Stamp) (p : EndedPart) (parts : List EndedPart) (b : Bool) → is_written p.ended ≡ b → IsPlainPart p
    → ((now : Option Stamp) → (given : List Event) × (at : Option Stamp) × Leads (outer now) (parts_text 10 parts) given (outer at) × AreToldAs (sayings_of parts) given)
    → (given : List Event) × (now : Option Stamp) × Leads (outer last) (parts_text 10 (p ∷ parts)) given (outer now) × AreToldAs (map saying_of (cond b (p ∷ filter part_is_written parts) (filter part_is_written parts))) given
leads_more last p parts true written plain rest =
    let (given, now, first, told) = leads_part last p written plain in
    let (more, at, later, others) = rest now in
    let text : lines_of_part p ++ parts_text 10 parts ≡ parts_text 10 (p ∷ parts) =
    ap (λ (l : List ℕ). l ++ parts_text 10 parts) (sym (cond-true (is_written p.ended) (lines_of_part p) [] written))
    ∙ ap (λ b. ended_part_text 10 p ++ parts_text b parts) (sym (part_ends p)) in (
      given ++ more,
      at,
      leads_same (outer last) (outer at) (lines_of_part p ++ parts_text 10 parts) (parts_text 10 (p ∷ parts)) (given ++ more) text (leads_then (outer last) (outer now) (outer at) (lines_of_part p) (parts_text 10 parts) given more first later),
      (given, more, refl, told, others),
    )
leads_more last p parts false not plain rest =
    let (more, at, later, others) = rest last in
    let text : parts_text 10 parts ≡ parts_text 10 (p ∷ parts) =
    ap (λ (l : List ℕ). l ++ parts_text 10 parts) (sym (cond-false (is_written p.ended) (lines_of_part p) [] not))
    ∙ ap (λ b. ended_part_text 10 p ++ parts_text b parts) (sym (part_ends p)) in (
      more,
      at,
      leads_same (outer last) (outer at) (parts_text 10 parts) (parts_text 10 (p ∷ parts)) more text later,
      others,
    )

-- parts, behind a newline
pub leads_parts : (last : Option Stamp) (parts : List EndedPart) → ArePlainParts parts → (given : List Event) × (now : Option Stamp) × Leads (outer last) (parts_text 10 parts) given (outer now) × AreToldAs (sayings_of parts) given
leads_parts last [] plain = ([], last, leads_none (outer last), refl)
leads_parts last (p ∷ parts) plain = leads_more last p parts (is_written p.ended) refl plain.0 (λ now. leads_parts now parts plain.1)
