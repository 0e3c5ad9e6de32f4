-- The place of the next line, by the line before it and by what that gave.
use Rattle.std.proofs.Common.{◌≡◌, ℕ, ◌-◌, ◌==◌, ◌&&◌, ◌||◌, not, nat_eq, nat_le, Bool, true, false, cond, Option, Some, None, IfSome, List, [], ◌∷◌, ◌++◌, map, length, take, drop, refl, sym, ap, subst, ◌∙◌, arith, append_assoc, length-append}
use Rattle.std.specs.Prelude.{is_some, codes, if◌then◌else◌}
use Rattle.std.specs.List.{ends_with, list_any}
use Rattle.std.specs.Cmp.Lexicographic.{pointwise}
use Rattle.std.specs.Str.Parse.{digits_value}
use Rattle.std.proofs.Math.Seq.{drop-append_seam}
use Rattle.std.proofs.lemmas.Bool.{cond_both, cond-true, and_parts, eqb-true}
use Rattle.std.proofs.lemmas.List.{take-append-drop}
use Rattle.std.proofs.lemmas.List.Folds.{list_any-append}
use Rattle.instants.specs.Instants.{Moment, instant_of}
use Rattle.packet_codec.specs.declared.event.Event.{Event}
use Rattle.packet_codec.specs.declared.status.Status.{Status}
use Rattle.packet_codec.specs.declared.status.Status.TheVariants as status
use Rattle.v1_bridge.specs.declared.part.Part.{Part}
use Rattle.v1_bridge.specs.declared.details_stage.Place.TheVariants as chunk
use Rattle.v1_bridge.specs.declared.details_stage.Stage.{Stage}
use Rattle.v1_bridge.specs.declared.details_stage.Stage.TheVariants as stage
use Rattle.v1_bridge.specs.declared.details_stage.Details.{Details}
use Rattle.v1_bridge.specs.declared.details_stage.OpenTest.{OpenTest}
use Rattle.v1_bridge.specs.Lines.{V1Line, test, outcome, time, tagging, progress, other, EndedLine, ended_as, content, time_with, test_begun, outcome_of, other_of, outcome_or, test_or, line_of, is_progress}
use Rattle.v1_bridge.specs.TagWords.{is_name, retagged}
use Rattle.v1_bridge.specs.Sizes.{is_size, may_be_size, size_with}
use Rattle.v1_bridge.specs.Events.{full_pieces, line_event, piece_event, part_with_bytes, pieces_given, rest_events}
use Rattle.v1_bridge.specs.Stages.{StageStep, foreign_run, sized, size_told, type_of, typed_with, name_piece, lines_run, extent_of, stage_piece, stage_line, ends_details}
use Rattle.v1_bridge.specs.Reading.{State, LineStep, line, piece, with_test, with_time, detail_line, is_id_and, end_test, begin_test, change_tags, change_own_tags, step_outside, step_inside, line_step, line_within, piece_within, piece_step, step}
use Rattle.sub_number.specs.Lines.{begins}
use Rattle.old_runs.specs.declared.line_place.Place.{Place}
use Rattle.old_runs.specs.declared.line_place.Place.TheVariants.{Outside, Lines, Parts}
use Rattle.old_runs.specs.Places.{place_at, place_in, place_of, is_unset, has_status, place_begun, place_behind, HasOutcome, HasOutcomeIn, HasOutcomes}

-- behind the step the next line stands at this place, and the details have an outcome
pub record StepLands (r : LineStep) (place : Place) : Type 0 where
  pub is : place_of r.state.open_test ≡ place
  pub outcomes : HasOutcomes r.state

-- ---- what a line tells

-- the line says none of these things where it is an outcome line
abbrev IsSilent : V1Line → Type 0
IsSilent (test id) = ⊥
IsSilent (outcome how rest) = ⊥
IsSilent (time stamp) = Unit {0}
IsSilent (tagging words) = Unit {0}
IsSilent progress = Unit {0}
IsSilent other = ⊥

silent_outcome : (e : Option EndedLine) (bytes : List ℕ) → outcome_of bytes ≡ e → IsSilent (outcome_or e bytes) → outcome_of bytes ≡ None
silent_outcome (Some ended) bytes same is = absurd is
silent_outcome None bytes same is = same

silent_test : (o : Option (List ℕ)) (bytes : List ℕ) → IsSilent (test_or o bytes) → outcome_of bytes ≡ None
silent_test (Some id) bytes is = absurd is
silent_test None bytes is = silent_outcome (outcome_of bytes) bytes refl is

-- an outcome, and what stands behind the word, at the end of the line
record EndsAs (bytes : List ℕ) (ended : Status) (rest : List ℕ) : Type 0 where
  how : is_unset ended ≡ false
  front : List ℕ
  parts : bytes ≡ front ++ rest

abbrev TellsEnd : List ℕ → Option EndedLine → Type 0
TellsEnd bytes o = IfSome o (λ (e : EndedLine). EndsAs bytes e.how e.rest)

end_at : (bytes : List ℕ) (how : Status) (n : ℕ) → is_unset how ≡ false → TellsEnd bytes (ended_as how (drop n bytes))
end_at bytes how n is = record { how = is; front = take n bytes; parts = sym (take-append-drop n bytes) }

tells_end : (bytes : List ℕ) → TellsEnd bytes (outcome_of bytes)
tells_end bytes =
    cond_both (begins (codes "success: ") bytes) _ _ (TellsEnd bytes) (λ is. end_at bytes status.Success 9 refl)
    (λ not. cond_both (begins (codes "successful: ") bytes) _ _ (TellsEnd bytes) (λ is. end_at bytes status.Success 12 refl)
    (λ not. cond_both (begins (codes "failure: ") bytes) _ _ (TellsEnd bytes) (λ is. end_at bytes status.Fail 9 refl)
    (λ not. cond_both (begins (codes "error: ") bytes) _ _ (TellsEnd bytes) (λ is. end_at bytes status.Fail 7 refl)
    (λ not. cond_both (begins (codes "skip: ") bytes) _ _ (TellsEnd bytes) (λ is. end_at bytes status.Skip 6 refl)
    (λ not. cond_both (begins (codes "xfail: ") bytes) _ _ (TellsEnd bytes) (λ is. end_at bytes status.XFail 7 refl)
    (λ not. cond_both (begins (codes "uxsuccess: ") bytes) _ _ (TellsEnd bytes) (λ is. end_at bytes status.UxSuccess 11 refl)
    (λ not. tt)))))))

-- what an outcome line says
record IsOutcome (bytes : List ℕ) (how : Status) (rest : List ℕ) : Type 0 where
  some : is_some (outcome_of bytes) ≡ true
  ends : EndsAs bytes how rest

abbrev TellsOutcome : List ℕ → V1Line → Type 0
TellsOutcome bytes (test id) = Unit {0}
TellsOutcome bytes (outcome how rest) = IsOutcome bytes how rest
TellsOutcome bytes (time stamp) = Unit {0}
TellsOutcome bytes (tagging words) = Unit {0}
TellsOutcome bytes progress = Unit {0}
TellsOutcome bytes other = Unit {0}

time_tells : (bytes : List ℕ) (m : Option Moment) → TellsOutcome bytes (time_with m)
time_tells bytes None = tt
time_tells bytes (Some m) = tt

other_tells : (bytes : List ℕ) → TellsOutcome bytes (other_of bytes)
other_tells bytes =
    cond_both (begins (codes "time: ") bytes) _ _ (TellsOutcome bytes) (λ is. time_tells bytes (instant_of (drop 6 bytes)))
    (λ not. cond_both (begins (codes "tags: ") bytes) _ _ (TellsOutcome bytes) (λ is. tt)
    (λ not. cond_both (begins (codes "progress: ") bytes) _ _ (TellsOutcome bytes) (λ is. cond_both (is_progress (drop 10 bytes)) progress other (TellsOutcome bytes) (λ is. tt) (λ not. tt))
    (λ not. tt)))

outcome_tells : (e : Option EndedLine) (bytes : List ℕ) → outcome_of bytes ≡ e → TellsOutcome bytes (outcome_or e bytes)
outcome_tells None bytes same = other_tells bytes
outcome_tells (Some ended) bytes same = record { some = ap is_some same; ends = subst (TellsEnd bytes) same (tells_end bytes) }

test_tells : (o : Option (List ℕ)) (bytes : List ℕ) → TellsOutcome bytes (test_or o bytes)
test_tells None bytes = outcome_tells (outcome_of bytes) bytes refl
test_tells (Some id) bytes = tt

-- ---- how an outcome line ends

same_text : (s t : List ℕ) → pointwise nat_eq s t ≡ true → s ≡ t
same_text [] [] same = refl
same_text [] (b ∷ t) same = cc
same_text (a ∷ s) [] same = cc
same_text (a ∷ s) (b ∷ t) same =
    let (first, rest) = and_parts (nat_eq a b) (pointwise nat_eq s t) same in
    λ i. eqb-true a b first i ∷ same_text s t rest i

last_alone : (bytes : List ℕ) (byte : ℕ) → drop (length (bytes ++ byte ∷ []) - 1) (bytes ++ byte ∷ []) ≡ byte ∷ []
last_alone bytes byte =
    let size : length (bytes ++ byte ∷ []) - 1 ≡ length bytes = omega (arith, length-append bytes (byte ∷ [])) in
    ap (λ n. drop n (bytes ++ byte ∷ [])) size ∙ drop-append_seam bytes (byte ∷ [])

-- whether such bytes end with a bracket
last_is : (bytes : List ℕ) (byte : ℕ) → ends_with nat_eq (bytes ++ byte ∷ []) (codes "[") ≡ (nat_eq 91 byte && true)
last_is bytes byte = ap (pointwise nat_eq (codes "[")) (last_alone bytes byte)

-- the bytes of an outcome line whose rest is the id and these
line_is : (bytes id rest more : List ℕ) (how : Status) → EndsAs bytes how rest → is_id_and more id rest ≡ true → (front : List ℕ) × (bytes ≡ front ++ more)
line_is bytes id rest more how ends is =
    let behind : drop (length id) rest ≡ more = same_text (drop (length id) rest) more (and_parts (begins id rest) (pointwise nat_eq (drop (length id) rest) more) is).1 in
    let all : rest ≡ take (length id) rest ++ more = sym (take-append-drop (length id) rest) ∙ ap (λ (l : List ℕ). take (length id) rest ++ l) behind in
    (ends.front ++ take (length id) rest, ends.parts ∙ ap (λ (l : List ℕ). ends.front ++ l) all ∙ sym (append_assoc ends.front (take (length id) rest) more))

lines_end : (bytes id rest : List ℕ) (how : Status) → EndsAs bytes how rest → is_id_and (codes " [") id rest ≡ true → ends_with nat_eq bytes (codes "[") ≡ true
lines_end bytes id rest how ends is =
    let all = line_is bytes id rest (codes " [") how ends is in
    ap (λ (l : List ℕ). ends_with nat_eq l (codes "[")) (all.1 ∙ sym (append_assoc all.0 (codes " ") (codes "["))) ∙ last_is (all.0 ++ codes " ") 91

parts_end : (bytes id rest : List ℕ) (how : Status) → EndsAs bytes how rest → is_id_and (codes " [ multipart") id rest ≡ true → ends_with nat_eq bytes (codes "[") ≡ false
parts_end bytes id rest how ends is =
    let all = line_is bytes id rest (codes " [ multipart") how ends is in
    ap (λ (l : List ℕ). ends_with nat_eq l (codes "[")) (all.1 ∙ sym (append_assoc all.0 (codes " [ multipar") (codes "t"))) ∙ last_is (all.0 ++ codes " [ multipar") 116

-- ---- events without a status

abbrev AreQuiet : List Event → Type 0
AreQuiet events = list_any has_status events ≡ false

quiet_both : (xs ys : List Event) → AreQuiet xs → AreQuiet ys → AreQuiet (xs ++ ys)
quiet_both xs ys first later = list_any-append has_status xs ys ∙ (λ i. first i || later i)

pieces_quiet : (id : List ℕ) (p : Part) (pieces : List (List ℕ)) → AreQuiet (map (piece_event id p) pieces)
pieces_quiet id p [] = refl
pieces_quiet id p (bytes ∷ pieces) = pieces_quiet id p pieces

given_quiet : (id : List ℕ) (p : Part) (bytes : List ℕ) → AreQuiet (pieces_given id p bytes)
given_quiet id p bytes = pieces_quiet id p (full_pieces (p.held ++ bytes))

rest_quiet : (id : List ℕ) (p : Part) → AreQuiet (rest_events id p)
rest_quiet id p = cond_both (length p.held == 0) [] (piece_event id p p.held ∷ []) AreQuiet (λ none. refl) (λ some. refl)

-- ---- details that go on

-- a line of details, or a piece of one, gives no status, and the place stays
record PlaceStays (place : Place) (told : StageStep) : Type 0 where
  quiet : AreQuiet told.given
  stays : place_at told.stage ≡ place

sized_stays : (id : List ℕ) (p : Part) (count : ℕ) → PlaceStays Parts (sized id p count)
sized_stays id p count = cond_both (count == 0) _ _ (PlaceStays Parts) (λ is. record { quiet = rest_quiet id p; stays = refl }) (λ is. record { quiet = refl; stays = refl })

-- a line where the size of a chunk should stand
told_stays : (id : List ℕ) (p : Part) (so_far run : List ℕ) (extent : _) (digits : List ℕ) → AreQuiet (foreign_run extent so_far run) → PlaceStays Parts (size_told id p so_far run extent (size_with digits))
told_stays id p so_far run extent digits silent =
    cond_both (is_size digits) _ _ (λ s. PlaceStays Parts (size_told id p so_far run extent s))
    (λ is. sized_stays id p (digits_value 16 digits))
    (λ is. record { quiet = quiet_both (rest_events id p) (foreign_run extent so_far run) (rest_quiet id p) silent; stays = refl })

size_stays : (id : List ℕ) (how : Status) (p : Part) (so_far run : List ℕ) → PlaceStays Parts (stage_line id how (stage.Bytes p (chunk.Size so_far)) run)
size_stays id how p so_far run = search (told_stays)

chunk_stays : (id : List ℕ) (how : Status) (p : Part) (left : ℕ) (run : List ℕ) → PlaceStays Parts (stage_line id how (stage.Bytes p (chunk.Chunk left)) run)
chunk_stays id how p left run =
    let p' = part_with_bytes p (take left run) in
    let rest = size_stays id how p' [] (drop left run) in
    cond_both (nat_le (length run) left) _ _ (PlaceStays Parts)
    (λ is. record { quiet = given_quiet id p run; stays = refl })
    (λ is. record { quiet = quiet_both (pieces_given id p (take left run)) (stage_line id how (stage.Bytes p' (chunk.Size [])) (drop left run)).given (given_quiet id p (take left run)) rest.quiet; stays = rest.stays })

typed_stays : (o : Option (List ℕ)) (bytes : List ℕ) → PlaceStays Parts (typed_with o bytes)
typed_stays None bytes = record { quiet = refl; stays = refl }
typed_stays (Some mime) bytes = record { quiet = refl; stays = refl }

lines_stay : (id : List ℕ) (p : Part) (bytes : List ℕ) → PlaceStays Lines (lines_run id p bytes)
lines_stay id p bytes = record { quiet = given_quiet id p bytes; stays = refl }

line_stays : (id : List ℕ) (how : Status) (s : Stage) (bytes : List ℕ) → PlaceStays (place_at s) (stage_line id how s bytes)
line_stays id how (stage.Lines p) bytes = lines_stay id p _
line_stays id how stage.Between bytes = typed_stays (type_of (content bytes)) (content bytes)
line_stays id how (stage.Typed mime) bytes = record { quiet = refl; stays = refl }
line_stays id how (stage.Bytes p (chunk.Size so_far)) bytes = size_stays id how p so_far bytes
line_stays id how (stage.Bytes p (chunk.Chunk left)) bytes = chunk_stays id how p left bytes

-- pieces of a line that is too long

name_stays : (how : Status) (mime bytes : List ℕ) (last : Bool) → place_at (name_piece how mime bytes last).stage ≡ Parts
name_stays how mime bytes last = cond_both last _ _ (λ (s : Stage). place_at s ≡ Parts) (λ is. refl) (λ is. refl)

abbrev AreParts : StageStep → Type 0
AreParts told = place_at told.stage ≡ Parts

size_piece_stays : (id : List ℕ) (how : Status) (p : Part) (so_far run : List ℕ) (last : Bool) → AreParts (stage_piece id how (stage.Bytes p (chunk.Size so_far)) run last)
size_piece_stays id how p so_far run true =
    let digits = content (so_far ++ run) in
    cond_both (is_size digits) _ _ (λ s. AreParts (size_told id p so_far run (extent_of true) s)) (λ is. (sized_stays id p (digits_value 16 digits)).stays) (λ is. refl)
size_piece_stays id how p so_far run false = cond_both (may_be_size (so_far ++ run)) _ _ (λ s. AreParts (size_told id p so_far run (extent_of false) s)) (λ is. refl) (λ is. refl)

chunk_piece_stays : (id : List ℕ) (how : Status) (p : Part) (left : ℕ) (run : List ℕ) (last : Bool) → AreParts (stage_piece id how (stage.Bytes p (chunk.Chunk left)) run last)
chunk_piece_stays id how p left run last =
    cond_both (nat_le (length run) left) _ _ AreParts (λ is. refl) (λ is. size_piece_stays id how (part_with_bytes p (take left run)) [] (drop left run) last)

piece_stays : (id : List ℕ) (how : Status) (s : Stage) (bytes : List ℕ) (last : Bool) → place_at (stage_piece id how s bytes last).stage ≡ place_at s
piece_stays id how (stage.Lines p) bytes last = refl
piece_stays id how stage.Between bytes last = refl
piece_stays id how (stage.Typed mime) bytes last = name_stays how mime bytes last
piece_stays id how (stage.Bytes p (chunk.Size so_far)) bytes last = size_piece_stays id how p so_far bytes last
piece_stays id how (stage.Bytes p (chunk.Chunk left)) bytes last = chunk_piece_stays id how p left bytes last

-- among details
behind_details : (s : Stage) (bytes : List ℕ) (given : List Event) → place_behind (place_at s) bytes given ≡ cond (list_any has_status given) Outside (place_at s)
behind_details (stage.Lines p) bytes given = refl
behind_details stage.Between bytes given = refl
behind_details (stage.Typed mime) bytes given = refl
behind_details (stage.Bytes p pl) bytes given = refl

-- ---- steps

-- outside of details, behind a line of this content
abbrev behind_outside : List ℕ → List Event → Place
behind_outside bytes given = if length given == 0 then place_begun bytes else Outside

abbrev LandsOutside : List ℕ → LineStep → Type 0
LandsOutside bytes r = StepLands r (behind_outside bytes r.given)

module _ (s : State) (known : HasOutcomes s) where
  silent_lands : (bytes : List ℕ) (next : State) → place_of next.open_test ≡ Outside → HasOutcomes next → outcome_of bytes ≡ None → LandsOutside bytes (record { given = []; state = next })
  silent_lands bytes next out outcomes none = record {
    is = out ∙ sym (ap (λ (o : Option EndedLine). cond (is_some o) (cond (ends_with nat_eq bytes (codes "[")) Lines Parts) Outside) none);
    outcomes = outcomes;
  }

  foreign_lands : place_of s.open_test ≡ Outside → (bytes b : List ℕ) → LandsOutside bytes (record { given = line_event b ∷ []; state = s })
  foreign_lands out bytes b = record { is = out; outcomes = known }

  begin_lands : place_of s.open_test ≡ Outside → (bytes id : List ℕ) → LandsOutside bytes (begin_test s bytes id)
  begin_lands out bytes id = cond_both (is_name id) _ _ (LandsOutside bytes) (λ is. record { is = refl; outcomes = tt }) (λ is. foreign_lands out bytes bytes)

  tags_land : place_of s.open_test ≡ Outside → (bytes : List ℕ) (names : Option (List (List ℕ))) → outcome_of bytes ≡ None → LandsOutside bytes (change_tags s bytes names)
  tags_land out bytes None none = foreign_lands out bytes bytes
  tags_land out bytes (Some names) none = silent_lands bytes (record { last = s.last; tags = names; open_test = s.open_test }) out known none

  own_tags_land : place_of s.open_test ≡ Outside → (t : OpenTest) (bytes : List ℕ) (names : Option (List (List ℕ))) → outcome_of bytes ≡ None → LandsOutside bytes (change_own_tags s t bytes names)
  own_tags_land out t bytes None none = foreign_lands out bytes bytes
  own_tags_land out t bytes (Some names) none = silent_lands bytes (with_test s (Some (record { id = t.id; tags = names; details = None }))) refl tt none

  outside_lands : place_of s.open_test ≡ Outside → (bytes : List ℕ) (l : V1Line) → (IsSilent l → outcome_of bytes ≡ None) → LandsOutside bytes (step_outside s bytes l)
  outside_lands out bytes (test id) none = begin_lands out bytes id
  outside_lands out bytes (outcome how rest) none = foreign_lands out bytes bytes
  outside_lands out bytes (time stamp) none = silent_lands bytes (with_time s stamp) out known (none tt)
  outside_lands out bytes (tagging words) none = tags_land out bytes (retagged s.tags words) (none tt)
  outside_lands out bytes progress none = silent_lands bytes s out known (none tt)
  outside_lands out bytes other none = foreign_lands out bytes bytes

  -- details begin
  begun_is : (bytes : List ℕ) (b : Bool) → is_some (outcome_of bytes) ≡ true → ends_with nat_eq bytes (codes "[") ≡ b → place_begun bytes ≡ cond b Lines Parts
  begun_is bytes b some ends = cond-true (is_some (outcome_of bytes)) (cond (ends_with nat_eq bytes (codes "[")) Lines Parts) Outside some ∙ ap (λ c. cond c Lines Parts) ends

  end_lands : place_of s.open_test ≡ Outside → (t : OpenTest) (bytes : List ℕ) (how : Status) (rest : List ℕ) → IsOutcome bytes how rest → LandsOutside bytes (end_test s t bytes how rest)
  end_lands out t bytes how rest told =
      cond_both (pointwise nat_eq t.id rest) _ _ (LandsOutside bytes) (λ is. record { is = refl; outcomes = tt })
      (λ not. cond_both (is_id_and (codes " [") t.id rest) _ _ (LandsOutside bytes) (λ is. record { is = sym (begun_is bytes true told.some (lines_end bytes t.id rest how told.ends is)); outcomes = told.ends.how })
      (λ not. cond_both (is_id_and (codes " [ multipart") t.id rest) _ _ (LandsOutside bytes) (λ is. record { is = sym (begun_is bytes false told.some (parts_end bytes t.id rest how told.ends is)); outcomes = told.ends.how })
      (λ not. foreign_lands out bytes bytes)))

  within_lands : place_of s.open_test ≡ Outside → (t : OpenTest) (bytes : List ℕ) (l : V1Line) → (IsSilent l → outcome_of bytes ≡ None) → TellsOutcome bytes l → LandsOutside bytes (step_inside s t bytes l)
  within_lands out t bytes (test id) none told = foreign_lands out bytes bytes
  within_lands out t bytes (outcome how rest) none told = end_lands out t bytes how rest told
  within_lands out t bytes (time stamp) none told = silent_lands bytes (with_time s stamp) out known (none tt)
  within_lands out t bytes (tagging words) none told = own_tags_land out t bytes (retagged t.tags words) (none tt)
  within_lands out t bytes progress none told = silent_lands bytes s out known (none tt)
  within_lands out t bytes other none told = foreign_lands out bytes bytes

  detail_lands : (t : OpenTest) (d : Details) (bytes : List ℕ) → HasOutcome d → StepLands (detail_line s t d bytes) (place_behind (place_at d.stage) bytes (detail_line s t d bytes).given)
  detail_lands t d bytes how =
      let told = stage_line t.id d.how d.stage bytes in
      let stays = line_stays t.id d.how d.stage bytes in
      cond_both (ends_details d.stage bytes) _ _ (λ (r : LineStep). StepLands r (place_behind (place_at d.stage) bytes r.given))
      (λ is. record {
        is = sym (behind_details d.stage bytes _ ∙ ap (λ b. cond (not b || false) Outside (place_at d.stage)) how);
        outcomes = tt;
      })
      (λ is. record {
        is = stays.stays ∙ sym (behind_details d.stage bytes told.given ∙ ap (λ b. cond b Outside (place_at d.stage)) stays.quiet);
        outcomes = how;
      })

  line_within_lands : (t : OpenTest) (d : Option Details) (bytes : List ℕ) → place_of s.open_test ≡ place_in d → IfSome d HasOutcome → StepLands (line_within s t d bytes) (place_behind (place_in d) bytes (line_within s t d bytes).given)
  line_within_lands t None bytes same how = within_lands same t (content bytes) (line_of (content bytes)) (silent_test (test_begun (content bytes)) (content bytes)) (test_tells (test_begun (content bytes)) (content bytes))
  line_within_lands t (Some d) bytes same how = detail_lands t d bytes how

  line_lands : (t : Option OpenTest) (bytes : List ℕ) → place_of s.open_test ≡ place_of t → IfSome t HasOutcomeIn → StepLands (line_step s t bytes) (place_behind (place_of t) bytes (line_step s t bytes).given)
  line_lands None bytes same how = outside_lands same (content bytes) (line_of (content bytes)) (silent_test (test_begun (content bytes)) (content bytes))
  line_lands (Some t) bytes same how = line_within_lands t t.details bytes same how

  piece_within_lands : (t : OpenTest) (d : Option Details) (bytes : List ℕ) (last : Bool) → place_of s.open_test ≡ place_in d → IfSome d HasOutcome → StepLands (piece_within s t d bytes last) (place_in d)
  piece_within_lands t None bytes last same how = record { is = same; outcomes = known }
  piece_within_lands t (Some d) bytes last same how = record { is = piece_stays t.id d.how d.stage bytes last; outcomes = how }

  piece_lands : (t : Option OpenTest) (bytes : List ℕ) (last : Bool) → place_of s.open_test ≡ place_of t → IfSome t HasOutcomeIn → StepLands (piece_step s t bytes last) (place_of t)
  piece_lands None bytes last same how = record { is = same; outcomes = known }
  piece_lands (Some t) bytes last same how = piece_within_lands t t.details bytes last same how

-- a line, where the place is known
pub line_lands_at : (s : State) (bytes : List ℕ) → HasOutcomes s → StepLands (step s (line bytes)) (place_behind (place_of s.open_test) bytes (step s (line bytes)).given)
line_lands_at s bytes known = line_lands s known s.open_test bytes refl known

-- a piece of a line that is too long
pub piece_lands_at : (s : State) (bytes : List ℕ) (last : Bool) → HasOutcomes s → StepLands (step s (piece bytes last)) (place_of s.open_test)
piece_lands_at s bytes last known = piece_lands s known s.open_test bytes last refl known
