-- What a probe's child gives, lot by lot.
use Rattle.std.proofs.Common.{◌≡◌, ◌⊎◌, inl, inr, ℕ, zero, suc, ◌<◌, ◌≤◌, Bool, true, false, ◌&&◌, Option, None, Some, Result, Ok, Err, IfOk, List, [], ◌∷◌, ◌++◌, map, length, nat_lt, refl, sym, ◌∙◌, ap, subst, arith, append_assoc, append-nil}
use Rattle.std.specs.Prelude.{All, IfErr, IfSome, FitsSigned, ℤ, pos, negsuc, codes}
use Rattle.std.specs.Fmt.{signed_decimal}
use Rattle.std.specs.Option.{option_map, option_to_list}
use mir.Syntax.{w32}
use Rattle.std.proofs.lemmas.Bool.Decides.{nat_tests}
use Rattle.std.proofs.lemmas.Fmt.{length_signed_le, IsAscii-signed}
use Rattle.std.proofs.Math.Seq.{take-append_seam}
use Rattle.std.proofs.lemmas.List.{length-append, drop_at}
use Rattle.std.proofs.lemmas.List.Elements.{All-nil, All-cons, All-append, All-take, All-drop, All-head, All-from_get_or}
use Rattle.edge_io.specs.Children.{AreBytesLeft, CanFinish, IsFinish, Output}
use Rattle.edge_io.specs.declared.child.Finish.{Finish}
use Rattle.edge_io.specs.declared.child.Finish.TheVariants as finish
use Rattle.sub_number.specs.Texts.{IsShortText}
use Rattle.outcome_fold.specs.Rows.{rows_of}
use Rattle.outcome_fold.specs.Summed.{HasSummed}
use Rattle.outcome_fold.specs.declared.row_sums.RowSums.{RowSums}
use Rattle.packet_codec.specs.declared.event.Event.{Event}
use Rattle.packet_codec.specs.Canonical.{canonical, IsEvent, Fits}
use Rattle.packet_codec.specs.Grammar.{AreBytes, SpellsFront}
use Rattle.packet_codec.specs.Packet.{SpellsEvent}
use Rattle.packet_codec.specs.Routing.{under}
use Rattle.packet_codec.proofs.SpellingLemmas.{canonical_spells}
use Rattle.suite_plan.specs.Children.{IsBroken}
use Rattle.worker_lane.specs.Endings.{ending_of, ending_events, returncode_text, returncode_under, IsPacketOf}
use Rattle.worker_lane.specs.Lost.{named_ids, lost_ids, lost_events}
use Rattle.worker_lane.specs.Rest.{GivesIfTold, lots_asked, notes_of_stream, notes_are, stream_events}
use Rattle.worker_lane.specs.declared.lot.Ending.{Ending}
use Rattle.worker_lane.specs.declared.lot.Ending.TheVariants.{Exit, Fault, NoMemory}
use Rattle.worker_lane.specs.declared.lot.Lot.{Lot}
use Rattle.worker_lane.specs.declared.lot.Lot.TheVariants.{Packet, End}
use Rattle.worker_lane.proofs.EndingLemmas.{ending_is_event, ending_fits}
use Rattle.worker_lane.proofs.LostEventLemmas.{lost_have_packets}
use Rattle.worker_lane.proofs.NoteLemmas.{AreWritable}
use Rattle.worker_lane.proofs.RecordedLaneLemmas.{have_packets}
use Rattle.worker_lane.proofs.TurnLemmas.{fault_exactly}
use Rattle.worker_mux.specs.Outputs.{events_asked}
use Rattle.suite_causes.specs.Probing.{one_fails, TellsProbe}
use Rattle.suite_causes.specs.declared.probe_run.ProbeFault.{ProbeFault}
use Rattle.suite_causes.specs.declared.probe_run.ProbeFault.TheVariants as fault

-- ---- the packet of a lot

pub packet_stands : (packet : List ℕ) → IsPacketOf 0 packet → (event : Event) × (behind : List ℕ) × SpellsFront SpellsEvent packet event behind
packet_stands packet is = (under 0 is.event, [], record { front = packet; parts = sym (append-nil packet); spelled = subst (λ l. SpellsEvent l (under 0 is.event)) (sym is.packet_is) (canonical_spells (under 0 is.event) is.is_event is.fits) })

-- ---- lots

-- The first events that are recorded of the output were summed up, where each of them has a packet. The others are left, and
-- the end.
pub record IsSummedUp (ids : List (List ℕ)) (output : Output) (left : Option (List Lot)) (summing : RowSums) : Type 0 where
  pub seen : List Event
  pub more : List Event
  pub parts : events_asked 0 ids output ≡ seen ++ more
  pub left_is : left ≡ Some (map Packet (map canonical more) ++ End (ending_of output.finish) ∷ [])
  pub summed : AreWritable seen → HasSummed [] summing seen

-- before the first lot nothing was heard
pub heard_nothing : (ids : List (List ℕ)) (output : Output) (left : Option (List Lot)) (summing : RowSums) → left ≡ Some (lots_asked 0 ids output) → HasSummed [] summing [] → IsSummedUp ids output left summing
heard_nothing ids output left summing is summed = record { seen = []; more = events_asked 0 ids output; parts = refl; left_is = is; summed = λ have. summed }

all_left : (P : Event → Type 0) (first more : List Event) → All P (first ++ more) → All P first
all_left P first more all = subst (All P) (take-append_seam first more) (All-take P (length first) (first ++ more) all)

all_right : (P : Event → Type 0) (first more : List Event) → All P (first ++ more) → All P more
all_right P first more all = subst (All P) (drop_at first more (length first) refl) (All-drop P (length first) (first ++ more) all)

have_front : (events : List Event) (event : Event) → AreWritable (events ++ event ∷ []) → AreWritable events
have_front events event have = record { are_events = all_left IsEvent events (event ∷ []) have.are_events; fit = all_left Fits events (event ∷ []) have.fit }

last_spells : (events : List Event) (event : Event) (packet : List ℕ) → canonical event ≡ packet → AreWritable (events ++ event ∷ []) → SpellsEvent packet event
last_spells events event packet is have =
    subst (λ l. SpellsEvent l event) is
    (canonical_spells event
    (All-head IsEvent event [] (all_right IsEvent events (event ∷ []) have.are_events))
    (All-head Fits event [] (all_right Fits events (event ∷ []) have.fit)))

-- one packet more was heard
pub heard_more : (ids : List (List ℕ)) (output : Output) (before after : Option (List Lot)) (old new : RowSums) (packet : List ℕ) → IsSummedUp ids output before old → GivesIfTold before (Packet packet ∷ []) after
    → ((seen : List Event) (event : Event) → SpellsEvent packet event → HasSummed [] old seen → HasSummed [] new (seen ++ event ∷ [])) → IsSummedUp ids output after new
heard_more ids output before after old new packet h gives hears = by_more h.more h.parts after (sym h.left_is ∙ gives)
  where
    by_more : (more : List Event) → events_asked 0 ids output ≡ h.seen ++ more → (after : Option (List Lot))
        → Some (map Packet (map canonical more) ++ End (ending_of output.finish) ∷ []) ≡ option_map (λ l. (Packet packet ∷ []) ++ l) after → IsSummedUp ids output after new
    by_more more parts None is = absurd (cc)
    by_more [] parts (Some left) is = absurd (cc)
    by_more (event ∷ more) parts (Some left) is =
        let packet_is : canonical event ≡ packet = cc in
        let rest : map Packet (map canonical more) ++ End (ending_of output.finish) ∷ [] ≡ left = cc in
        record {
          seen = h.seen ++ event ∷ [];
          more = more;
          parts = parts ∙ sym (append_assoc h.seen (event ∷ []) more);
          left_is = ap Some (sym rest);
          summed = λ have. hears h.seen event (last_spells h.seen event packet packet_is have) (h.summed (have_front h.seen event have));
        }

-- the end is that of the output, all of whose events were heard
pub heard_all : (ids : List (List ℕ)) (output : Output) (before after : Option (List Lot)) (summing : RowSums) (how : Ending) → IsSummedUp ids output before summing → GivesIfTold before (End how ∷ []) after
    → (ending_of output.finish ≡ how) × (AreWritable (events_asked 0 ids output) → HasSummed [] summing (events_asked 0 ids output))
heard_all ids output before after summing how h gives = by_more h.more h.parts after (sym h.left_is ∙ gives)
  where
    by_more : (more : List Event) → events_asked 0 ids output ≡ h.seen ++ more → (after : Option (List Lot))
        → Some (map Packet (map canonical more) ++ End (ending_of output.finish) ∷ []) ≡ option_map (λ l. (End how ∷ []) ++ l) after
        → (ending_of output.finish ≡ how) × (AreWritable (events_asked 0 ids output) → HasSummed [] summing (events_asked 0 ids output))
    by_more more parts None is = absurd (cc)
    by_more (event ∷ more) parts (Some left) is = absurd (cc)
    by_more [] parts (Some left) is =
        let ending : ending_of output.finish ≡ how = cc in
        let all : h.seen ≡ events_asked 0 ids output = sym (append-nil h.seen) ∙ sym parts in
        (ending, λ have. subst (λ (l : List Event). HasSummed [] summing l) all (h.summed (subst AreWritable (sym all) have)))

-- what a step gave, where it was not want of memory
gives_this : (result : Option Lot) (lot : Lot) (before after : Option (List Lot)) → result ≡ Some lot → (lot ≡ End NoMemory → ⊥) → (result ≡ Some (End NoMemory)) ⊎ GivesIfTold before (option_to_list result) after → GivesIfTold before (lot ∷ []) after
gives_this result lot before after is other gives = elim gives [
  | inl lack ↦ let e : Some lot ≡ Some (End NoMemory) = sym is ∙ lack in absurd (other (cc))
  | inr given ↦ subst (λ r. GivesIfTold before (option_to_list r) after) is given
]

pub gives_packet : (result : Option Lot) (packet : List ℕ) (before after : Option (List Lot)) → result ≡ Some (Packet packet) → (result ≡ Some (End NoMemory)) ⊎ GivesIfTold before (option_to_list result) after → GivesIfTold before (Packet packet ∷ []) after
gives_packet result packet before after is gives = gives_this result (Packet packet) before after is (λ e. cc) gives

pub gives_exit : (result : Option Lot) (status : ℤ) (before after : Option (List Lot)) → result ≡ Some (End (Exit status)) → (result ≡ Some (End NoMemory)) ⊎ GivesIfTold before (option_to_list result) after → GivesIfTold before (End (Exit status) ∷ []) after
gives_exit result status before after is gives = gives_this result (End (Exit status)) before after is (λ e. cc) gives

pub gives_fault : (result : Option Lot) (before after : Option (List Lot)) → result ≡ Some (End Fault) → (result ≡ Some (End NoMemory)) ⊎ GivesIfTold before (option_to_list result) after → GivesIfTold before (End Fault ∷ []) after
gives_fault result before after is gives = gives_this result (End Fault) before after is (λ e. cc) gives

-- ---- the events of an output whose end is told have packets

are_small : List ℕ → Bool
are_small [] = true
are_small (byte ∷ bytes) = nat_lt byte 256 && are_small bytes

both : (a b : Bool) → (a && b) ≡ true → (a ≡ true) × (b ≡ true)
both true b h = (refl, h)
both false b h = absurd (grind (arith, h))

by_test : (bytes : List ℕ) → are_small bytes ≡ true → AreBytes bytes
unfolding are_small
by_test [] h = All-nil (λ byte. byte < 256)
by_test (byte ∷ bytes) h =
    let test = both (nat_lt byte 256) (are_small bytes) h in
    All-cons (λ byte. byte < 256) byte bytes (grind (arith, nat_tests, test.0)) (by_test bytes test.1)

word_are_bytes : AreBytes (codes "returncode ")
unfolding are_small
word_are_bytes = by_test (codes "returncode ") refl

status_are_bytes : (status : ℤ) → FitsSigned w32 status → AreBytes (returncode_text status)
status_are_bytes status fits =
    All-append (λ byte. byte < 256) (codes "returncode ") (signed_decimal status) word_are_bytes
    (All-from_get_or (λ byte. byte < 256) (signed_decimal status) 0 (λ i below. omega (arith, IsAscii-signed status (omega (arith, fits)) i)))

status_is_short : (status : ℤ) → FitsSigned w32 status → length (returncode_text status) ≤ 60
status_is_short status fits = omega (arith, length-append (codes "returncode ") (signed_decimal status), length_signed_le 11 status (omega (arith, fits)) (omega (arith, fits)))

one_has_packet : (status : ℤ) → FitsSigned w32 status → AreWritable (returncode_under 0 (returncode_text status) ∷ [])
one_has_packet status fits =
    let text : List ℕ = returncode_text status in
    record {
      are_events = All-cons IsEvent (returncode_under 0 text) [] (ending_is_event (returncode_under 0 text) 0 text refl (omega arith) (status_are_bytes status fits) (status_is_short status fits)) (All-nil IsEvent);
      fit = All-cons Fits (returncode_under 0 text) [] (ending_fits (returncode_under 0 text) 0 text refl (omega arith) (status_is_short status fits)) (All-nil Fits);
    }

exit_has_packet : (status : ℤ) → FitsSigned w32 status → AreWritable (ending_events 0 (Exit status))
exit_has_packet (pos zero) fits = record { are_events = All-nil IsEvent; fit = All-nil Fits }
exit_has_packet (pos (suc n)) fits = one_has_packet (pos (suc n)) fits
exit_has_packet (negsuc n) fits = one_has_packet (negsuc n) fits

-- a status that ends a lane is that of a child
status_fits : (how : Finish) (status : ℤ) → IsFinish how → ending_of how ≡ Exit status → FitsSigned w32 status
status_fits (finish.Exit given) status can is =
    let same : given ≡ status = cc in
    subst (FitsSigned w32) same (can given refl)
status_fits finish.ReadFault status can is = cc
status_fits finish.WaitFault status can is = cc

pub all_have_packets : (test : List ℕ) → IsShortText test → (output : Output) (status : ℤ) → AreBytes output.bytes → IsFinish output.finish → ending_of output.finish ≡ Exit status → AreWritable (events_asked 0 (test ∷ []) output)
all_have_packets test text output status bytes can is =
    let notes : List Event = stream_events 0 output.bytes in
    let how : Ending = ending_of output.finish in
    let lost : List Event = lost_events 0 how (lost_ids (named_ids (test ∷ [])) notes) in
    let ending : List Event = ending_events 0 how in
    let first : AreWritable notes = have_packets 0 output.bytes notes (omega arith) bytes (record { notes = notes_of_stream output.bytes; are_notes = notes_are output.bytes; made = refl }) in
    let middle : AreWritable lost = lost_have_packets 0 how (test ∷ []) notes (omega arith) (All-cons IsShortText test [] text (All-nil IsShortText)) in
    let last : AreWritable ending = subst (λ how. AreWritable (ending_events 0 how)) (sym is) (exit_has_packet status (status_fits output.finish status can is)) in
    record {
      are_events = All-append IsEvent notes (lost ++ ending) first.are_events (All-append IsEvent lost ending middle.are_events last.are_events);
      fit = All-append Fits notes (lost ++ ending) first.fit (All-append Fits lost ending middle.fit last.fit);
    }

-- ---- ends

pub broken_by : (how : Finish) → ending_of how ≡ Fault → IsBroken how
broken_by how is = (fault_exactly how).0 is

pub not_broken : (how : Finish) (status : ℤ) → ending_of how ≡ Exit status → IsBroken how → ⊥
not_broken how status is broken = let fault : ending_of how ≡ Fault = (fault_exactly how).1 broken in cc

-- ---- what is answered

pub tells_exit : (test : List ℕ) (result : Result Bool ProbeFault) (output : Output) (summing : RowSums) (status : ℤ) → ending_of output.finish ≡ Exit status → HasSummed [] summing (events_asked 0 (test ∷ []) output)
    → ((seen : List Event) → HasSummed [] summing seen → IfOk result (λ failed. failed ≡ one_fails test (rows_of seen))) → IfErr result (λ given. given ≡ fault.NoMemory) → TellsProbe test result output
tells_exit test (Ok failed) output summing status ending summed fails lack = record { ended = not_broken output.finish status ending; answer = fails (events_asked 0 (test ∷ []) output) summed }
tells_exit test (Err given) output summing status ending summed fails lack = subst (λ why. TellsProbe test (Err why) output) (sym lack) tt

-- where the child tells
pub told_probe : (told : Option Output) (test : List ℕ) (left : Option (List Lot)) (result : Result Bool ProbeFault) → AreBytesLeft told → CanFinish told → left ≡ option_map (lots_asked 0 (test ∷ [])) told
    → ((output : Output) → AreBytes output.bytes → IsFinish output.finish → left ≡ Some (lots_asked 0 (test ∷ []) output) → TellsProbe test result output) → IfSome told (TellsProbe test result)
told_probe None test left result are can is reads = tt
told_probe (Some output) test left result are can is reads = reads output are can is
