-- A lane, step by step, where its child tells and where it does not.
use Rattle.std.proofs.Common.{◌≡◌, ℕ, ◌<◌, ◌≤◌, true, ◌⊎◌, List, [], ◌∷◌, ◌++◌, length, refl, inl, inr, sym, ap, ◌∙◌, arith}
use Rattle.std.specs.Prelude.{Option, Some, None, IfSome, Ok, Err}
use Rattle.std.specs.Option.{option_map}
use Rattle.packet_codec.specs.Grammar.{AreBytes}
use Rattle.edge_io.specs.Causes.{Rose}
use Rattle.edge_io.specs.Children.{Output, GivesFront, HasEnded, HasBroken, ReadsToEnd, Stops, AreBytesLeft}
use Rattle.edge_io.specs.Steps.{Goes, Stays}
use Rattle.edge_io.specs.declared.child.Finish.{Finish}
use Rattle.edge_io.proofs.CausesLemmas.{rose_after, rose_before}
use Rattle.worker_lane.specs.Endings.{ending_of, EndsSo}
use Rattle.worker_lane.specs.Rest.{Coursing, lots, lots_asked, new_course, GivesIfTold, IsOver}
use Rattle.worker_lane.specs.Courses.{EndsCourse}
use Rattle.worker_lane.specs.Lanes.{course_rest, KeepsNumber}
use Rattle.worker_lane.specs.declared.lot.Ending.{Ending}
use Rattle.worker_lane.specs.declared.lot.Ending.TheVariants.{Fault}
use Rattle.worker_lane.specs.declared.lot.Lot.{Lot}
use Rattle.worker_lane.specs.declared.lot.Lot.TheVariants.{Packet}
use Rattle.worker_lane.specs.declared.lane_stage.Stage.TheVariants.{Over}

-- ---- a new lane

pub new_rest : (course : Coursing) (lane : ℕ) (ids : List (List ℕ)) (told : Option Output) → course ≡ new_course lane ids → course_rest course told ≡ option_map (lots_asked lane ids) told
new_rest course lane ids told is = rw is refl

-- ---- what is kept

pub keeps_same : (course : Coursing) (count : ℕ) → KeepsNumber course course count count
keeps_same course count = record { number = refl; later = omega arith; stays = λ failed. failed; mark = λ failed. inl failed }

pub keeps_then : (a b c : Coursing) (k l m : ℕ) → KeepsNumber a b k l → KeepsNumber b c l m → KeepsNumber a c k m
keeps_then a b c k l m first second = record {
  number = second.number ∙ first.number;
  later = omega (arith, first.later, second.later);
  stays = λ failed. second.stays (first.stays failed);
  mark = λ failed. before (second.mark failed);
}
  where
    after : (a.failed ≡ true) ⊎ Rose k l → (a.failed ≡ true) ⊎ Rose k m
    after (inl marked) = inl marked
    after (inr rose) = inr (rose_before k l m first.later rose second.later)

    before : (b.failed ≡ true) ⊎ Rose l m → (a.failed ≡ true) ⊎ Rose k m
    before (inl marked) = after (first.mark marked)
    before (inr rose) = inr (rose_after k l m first.later rose)

pub keeps_course : (a b : Coursing) (k l : ℕ) → b.scribe.lane ≡ a.scribe.lane → b.failed ≡ a.failed → k ≤ l → KeepsNumber a b k l
keeps_course a b k l lane failed later = record { number = lane; later = later; stays = λ marked. failed ∙ marked; mark = λ marked. inl (sym failed ∙ marked) }

-- the course ends, and a fault has its cause
pub keeps_ended : (a b : Coursing) (how : Ending) (k l : ℕ) → EndsCourse a how b → k ≤ l → (how ≡ Fault → Rose k l) → KeepsNumber a b k l
keeps_ended a b how k l ends later cause = record { number = ends.lane; later = later; stays = ends.stays; mark = λ marked. by_cause (ends.mark marked) }
  where
    by_cause : (a.failed ≡ true) ⊎ (how ≡ Fault) → (a.failed ≡ true) ⊎ Rose k l
    by_cause (inl marked) = inl marked
    by_cause (inr fault) = inr (cause fault)

-- ---- what is left while the child is read

-- what a read says of the end, where there is room
pub ended_if : (E : Type 0) (told : Option Output) (n : ℕ) (buf : List ℕ) → 0 < length buf → ReadsToEnd {E = E} told (Ok n) buf → n ≡ 0 → IfSome told HasEnded
ended_if E None n buf some reads none = tt
ended_if E (Some s) n buf some reads none = (reads some).ended.0 (λ i. Ok (none i))

pub broken_if : {E : Type 0} (told : Option Output) (error : E) (buf : List ℕ) → 0 < length buf → ReadsToEnd told (Err error) buf → IfSome told HasBroken
broken_if None error buf some reads = tt
broken_if (Some s) error buf some reads = (reads some).failed.0 refl

-- a piece was read and fed
pub read_same : (a b : Option Output) (piece fed : List ℕ) (before after : Coursing) → Goes a b (GivesFront piece)
    → ((more : List ℕ) (finish : Finish) → lots before (record { bytes = fed ++ more; finish = finish }) ≡ lots after (record { bytes = more; finish = finish })) → fed ≡ piece → course_rest before a ≡ course_rest after b
read_same None None piece fed before after step left same = refl
read_same None (Some t) piece fed before after step left same = absurd step
read_same (Some s) None piece fed before after step left same = absurd step
read_same (Some s) (Some t) piece fed before after step left same =
    (λ i. Some (lots before (record { bytes = step.bytes i; finish = sym step.finish i })))
    ∙ (λ i. Some (lots before (record { bytes = sym same i ++ t.bytes; finish = t.finish })))
    ∙ ap Some (left t.bytes t.finish)

abbrev ClosesSo : Coursing → Ending → Coursing → Type 0
ClosesSo before how after = (finish : Finish) (output : Output) → ending_of finish ≡ how → lots before (record { bytes = []; finish = finish }) ≡ lots after output

closes_at : (s t : Output) (before after : Coursing) (how : Ending) → s.bytes ≡ [] → ending_of s.finish ≡ how → ClosesSo before how after → lots before s ≡ lots after t
closes_at s t before after how none ends left = (λ i. lots before (record { bytes = none i; finish = s.finish })) ∙ left s.finish t ends

-- its output has ended, and the wait tells how it ends
pub waited_same : (a b c : Option Output) (front : List ℕ) (before after : Coursing) (how : Ending) → Goes a b (GivesFront front) → IfSome a HasEnded → c ≡ b → IfSome b (EndsSo how) → ClosesSo before how after → course_rest before a ≡ course_rest after c
waited_same None None c front before after how step ended same tells left = rw same refl
waited_same None (Some t) c front before after how step ended same tells left = absurd step
waited_same (Some s) None c front before after how step ended same tells left = absurd step
waited_same (Some s) (Some t) c front before after how step ended same tells left =
    ap Some (closes_at s t before after how ended.bytes (ap ending_of (sym step.finish) ∙ tells (λ is. ended.finish (sym step.finish ∙ is))) left)
    ∙ ap (course_rest after) (sym same)

-- a read failed, and the child was stopped
pub failed_same : (a b c : Option Output) (before after : Coursing) → Goes a b Stays → IfSome a HasBroken → Goes b c Stops → ClosesSo before Fault after → course_rest before a ≡ course_rest after c
failed_same None None None before after step broken stopped left = refl
failed_same None None (Some u) before after step broken stopped left = absurd stopped
failed_same None (Some t) c before after step broken stopped left = absurd step
failed_same (Some s) None c before after step broken stopped left = absurd step
failed_same (Some s) (Some t) None before after step broken stopped left = absurd stopped
failed_same (Some s) (Some t) (Some u) before after step broken stopped left = ap Some (closes_at s u before after Fault broken.bytes (ap ending_of broken.finish) left)

-- ---- lots

-- a packet, while the child is read
pub packet_told : (told : Option Output) (before after : Coursing) (packet : List ℕ) → AreBytesLeft told → ((output : Output) → AreBytes output.bytes → lots before output ≡ Packet packet ∷ lots after output) → GivesIfTold (course_rest before told) (Packet packet ∷ []) (course_rest after told)
packet_told None before after packet are step = refl
packet_told (Some s) before after packet are step = ap Some (step s are)

-- a lot, once it is not
pub lot_told : (told : Option Output) (before after : Coursing) (given : List Lot) → ((output other : Output) → lots before output ≡ given ++ lots after other) → GivesIfTold (course_rest before told) given (course_rest after told)
lot_told None before after given left = refl
lot_told (Some s) before after given left = ap Some (left s s)

pub over_told : (told : Option Output) (course : Coursing) → course.stage ≡ Over → IsOver (course_rest course told)
over_told None course over = tt
over_told (Some s) course over = is_over course over
  where
    is_over : (course : Coursing) → course.stage ≡ Over → lots course s ≡ []
    is_over course over = rw over refl
