-- The lots of an output are the packets of its events, and so what a run of all lanes adds is a merge of these.
use Rattle.std.proofs.Common.{◌≡◌, ℕ, zero, suc, ◌+◌, ◌<◌, ◌≤◌, List, [], ◌∷◌, ◌++◌, map, length, slice_index_or, Bool, true, false, ◌&&◌, nat_lt, refl, sym, ◌∙◌, ap, subst, arith}
use Rattle.std.specs.Prelude.{Option, None, Some, IfSome, FitsSigned, ℤ, pos, negsuc, codes}
use Rattle.std.specs.Fmt.{signed_decimal}
use Rattle.std.specs.Option.{option_map}
use Rattle.std.specs.List.{AllByRecursion}
use mir.Syntax.{w32}
use Rattle.std.proofs.lemmas.Bool.Decides.{nat_tests}
use Rattle.std.proofs.lemmas.Fmt.{length_signed_le, IsAscii-signed}
use Rattle.std.proofs.lemmas.List.{length-append, length-map}
use Rattle.std.proofs.lemmas.List.Elements.{All-nil, All-cons, All-append, All-from_get_or}
use Rattle.edge_io.specs.Children.{IsFinish, IsOutput, Output}
use Rattle.edge_io.specs.Disk.{Folder}
use Rattle.edge_io.specs.declared.child.Finish.{Finish}
use Rattle.edge_io.specs.declared.child.Finish.TheVariants.{Exit, ReadFault, WaitFault}
use Rattle.packet_codec.specs.declared.event.Event.{Event}
use Rattle.packet_codec.specs.Canonical.{canonical, IsEvent, Fits}
use Rattle.packet_codec.specs.Grammar.{AreBytes}
use Rattle.packet_codec.specs.Lanes.{IsMerge, IsMergeOfTold}
use Rattle.packet_codec.proofs.MergeLemmas.{merge_of_told}
use Rattle.worker_lane.specs.Endings.{ending_of, ending_events, returncode_under, returncode_text, read_fault_text}
use Rattle.worker_lane.specs.Lost.{AreShortIds, named_ids, lost_ids, lost_events}
use Rattle.worker_lane.specs.Rest.{notes_of_stream, notes_are, stream_events, lots_asked}
use Rattle.worker_lane.specs.declared.lot.Ending.{Ending}
use Rattle.worker_lane.specs.declared.lot.Lot.{Lot}
use Rattle.worker_lane.specs.declared.lot.Lot.TheVariants.{Packet, End}
use Rattle.sub_number.specs.Texts.{IsShortText}
use Rattle.worker_lane.proofs.EndingLemmas.{ending_is_event, ending_fits}
use Rattle.worker_lane.proofs.LostEventLemmas.{lost_have_packets}
use Rattle.worker_lane.proofs.NoteLemmas.{AreWritable}
use Rattle.worker_lane.proofs.RecordedLaneLemmas.{have_packets}
use Rattle.worker_mux.specs.Outputs.{events_asked, first_ids, other_ids, ids_at, AreAllTexts, lots_asked_from, lots_from, events_of_outputs, lists_asked, lists_from, AddsTold, AddsOutputs}
use Rattle.worker_mux.specs.Runs.{lot_packets, AreEventsOfLots, AreEventsOf, HaveEvents, AddsMerge}

-- ---- the event that tells of an end

one_event : (lane : ℕ) (text : List ℕ) → lane < 64 → AreBytes text → length text ≤ 60 → AreWritable (returncode_under lane text ∷ [])
one_event lane text small are short = record {
  are_events = All-cons IsEvent (returncode_under lane text) [] (ending_is_event (returncode_under lane text) lane text refl small are short) (All-nil IsEvent);
  fit = All-cons Fits (returncode_under lane text) [] (ending_fits (returncode_under lane text) lane text refl small short) (All-nil Fits);
}

no_event : AreWritable []
no_event = record { are_events = All-nil IsEvent; fit = All-nil Fits }

are_small : List ℕ → Bool
are_small [] = true
are_small (byte ∷ bytes) = nat_lt byte 256 && are_small bytes

both : (a b : Bool) → (a && b) ≡ true → (a ≡ true) × (b ≡ true)
both true b h = (refl, h)
both false b h = absurd (grind (arith, h))

by_test : (bytes : List ℕ) → are_small bytes ≡ true → AreBytes bytes
unfolding are_small
by_test [] h = All-nil (λ byte. byte < 256)
by_test (byte ∷ bytes) h =
    let test = both (nat_lt byte 256) (are_small bytes) h in
    All-cons (λ byte. byte < 256) byte bytes (grind (arith, nat_tests, test.0)) (by_test bytes test.1)

fault_are_bytes : AreBytes read_fault_text
unfolding are_small
fault_are_bytes = by_test read_fault_text refl

word_are_bytes : AreBytes (codes "returncode ")
unfolding are_small
word_are_bytes = by_test (codes "returncode ") refl

status_are_bytes : (status : ℤ) → FitsSigned w32 status → AreBytes (returncode_text status)
status_are_bytes status fits =
    All-append (λ byte. byte < 256) (codes "returncode ") (signed_decimal status) word_are_bytes
    (All-from_get_or (λ byte. byte < 256) (signed_decimal status) 0 (λ i below. omega (arith, IsAscii-signed status (omega (arith, fits)) i)))

status_is_short : (status : ℤ) → FitsSigned w32 status → length (returncode_text status) ≤ 60
status_is_short status fits = omega (arith, length-append (codes "returncode ") (signed_decimal status), length_signed_le 11 status (omega (arith, fits)) (omega (arith, fits)))

exit_has_packet : (lane : ℕ) (status : ℤ) → lane < 64 → FitsSigned w32 status → AreWritable (ending_events lane (ending_of (Exit status)))
exit_has_packet lane (pos zero) small fits = no_event
exit_has_packet lane (pos (suc n)) small fits = one_event lane (returncode_text (pos (suc n))) small (status_are_bytes (pos (suc n)) fits) (status_is_short (pos (suc n)) fits)
exit_has_packet lane (negsuc n) small fits = one_event lane (returncode_text (negsuc n)) small (status_are_bytes (negsuc n) fits) (status_is_short (negsuc n) fits)

end_has_packet : (lane : ℕ) (finish : Finish) → lane < 64 → IsFinish finish → AreWritable (ending_events lane (ending_of finish))
end_has_packet lane (Exit status) small is = exit_has_packet lane status small (is status refl)
end_has_packet lane ReadFault small is = one_event lane read_fault_text small fault_are_bytes (omega arith)
end_has_packet lane WaitFault small is = one_event lane read_fault_text small fault_are_bytes (omega arith)

-- ---- the lots of an output

packets_of_packets : (packets : List (List ℕ)) (how : Ending) → lot_packets (map Packet packets ++ End how ∷ []) ≡ packets
packets_of_packets [] how = refl
packets_of_packets (packet ∷ packets) how = ap (λ l. packet ∷ l) (packets_of_packets packets how)

are_packets : (lane : ℕ) (ids : List (List ℕ)) (output : Output) → lane < 64 → AreShortIds ids → IsOutput output → AreEventsOfLots (lots_asked lane ids output) (events_asked lane ids output)
are_packets lane ids output small texts is =
    let how : Ending = ending_of output.finish in
    let notes : List Event = stream_events lane output.bytes in
    let lost : List Event = lost_events lane how (lost_ids (named_ids ids) notes) in
    let ending : List Event = ending_events lane how in
    let first : AreWritable notes = have_packets lane output.bytes notes small is.bytes (record { notes = notes_of_stream output.bytes; are_notes = notes_are output.bytes; made = refl }) in
    let next : AreWritable lost = lost_have_packets lane how ids notes small texts in
    let last : AreWritable ending = end_has_packet lane output.finish small is.finish in
    record {
      packets = packets_of_packets (map canonical (notes ++ (lost ++ ending))) how;
      are_events = All-append IsEvent notes (lost ++ ending) first.are_events (All-append IsEvent lost ending next.are_events last.are_events);
      fit = All-append Fits notes (lost ++ ending) first.fit (All-append Fits lost ending next.fit last.fit);
    }

told_are_events : (lane : ℕ) (ids : List (List ℕ)) (told : Option Output) → lane < 64 → AreShortIds ids → IfSome told IsOutput → AreEventsOf (option_map (lots_asked lane ids) told) (option_map (events_asked lane ids) told)
told_are_events lane ids None small texts is = tt
told_are_events lane ids (Some output) small texts is = are_packets lane ids output small texts is

-- ---- of all lanes

abbrev AreOutputs : List (Option Output) → Type 0
AreOutputs told = AllByRecursion (λ t. IfSome t IsOutput) told

first_texts : (asked : List (List (List ℕ))) → AreAllTexts asked → AreShortIds (first_ids asked)
first_texts [] texts = All-nil IsShortText
first_texts (ids ∷ others) texts = texts.0

other_texts : (asked : List (List (List ℕ))) → AreAllTexts asked → AreAllTexts (other_ids asked)
other_texts [] texts = tt
other_texts (ids ∷ others) texts = texts.1

length_lots : (lane : ℕ) (asked : List (List (List ℕ))) (told : List (Option Output)) → length (lots_asked_from lane asked told) ≡ length told
length_lots lane asked [] = refl
length_lots lane asked (t ∷ told) = ap suc (length_lots (suc lane) (other_ids asked) told)

length_events : (lane : ℕ) (asked : List (List (List ℕ))) (told : List (Option Output)) → length (events_of_outputs lane asked told) ≡ length told
length_events lane asked [] = refl
length_events lane asked (t ∷ told) = ap suc (length_events (suc lane) (other_ids asked) told)

each_has_events : (lane : ℕ) (asked : List (List (List ℕ))) (told : List (Option Output)) → lane + length told ≤ 64 → AreAllTexts asked → AreOutputs told → (i : ℕ) → i < length told → AreEventsOf (slice_index_or (lots_asked_from lane asked told) i None) (slice_index_or (events_of_outputs lane asked told) i None)
each_has_events lane asked [] few texts are i below = absurd (omega (arith, below))
each_has_events lane asked (t ∷ told) few texts are zero below = told_are_events lane (first_ids asked) t (omega (arith, few)) (first_texts asked texts) are.0
each_has_events lane asked (t ∷ told) few texts are (suc i) below = each_has_events (suc lane) (other_ids asked) told (omega (arith, few)) (other_texts asked texts) are.1 i (omega (arith, below))

have_events : (asked : List (List (List ℕ))) (told : List (Option Output)) → length told ≤ 64 → AreAllTexts asked → AreOutputs told → HaveEvents (lots_asked_from 0 asked told) (events_of_outputs 0 asked told)
have_events asked told few texts are = record {
  count = length_events 0 asked told ∙ sym (length_lots 0 asked told);
  each = λ lane below. each_has_events 0 asked told (omega (arith, few)) texts are lane (omega (arith, below, length_lots 0 asked told));
}

pub adds_told : (rests : List (Option (List Lot))) (asked : List (List (List ℕ))) (told : List (Option Output)) (old new : Option Folder) → length told ≤ 64 → AreAllTexts asked → AreOutputs told → rests ≡ lots_asked_from 0 asked told → AddsMerge rests old new → AddsTold asked told old new
adds_told rests asked told old new few texts are same adds =
    let all : AddsMerge (lots_asked_from 0 asked told) old new = subst (λ (l : List (Option (List Lot))). AddsMerge l old new) same adds in
    record { events = all.events; added = all.added; are_events = all.are_events; fit = all.fit; merge = all.merged (events_of_outputs 0 asked told) (have_events asked told few texts are) }

-- ---- where all are told

lists_told : (lane : ℕ) (asked : List (List (List ℕ))) (outputs : List Output) → events_of_outputs lane asked (map Some outputs) ≡ map Some (lists_asked lane asked outputs)
lists_told lane asked [] = refl
lists_told lane asked (output ∷ outputs) = ap (λ l. Some (events_asked lane (first_ids asked) output) ∷ l) (lists_told (suc lane) (other_ids asked) outputs)

are_told : (outputs : List Output) → AllByRecursion IsOutput outputs → AreOutputs (map Some outputs)
are_told [] are = tt
are_told (output ∷ outputs) are = (are.0, are_told outputs are.1)

pub adds_outputs : (rests : List (Option (List Lot))) (asked : List (List (List ℕ))) (outputs : List Output) (old new : Option Folder) → length outputs ≤ 64 → AreAllTexts asked → AllByRecursion IsOutput outputs → rests ≡ lots_asked_from 0 asked (map Some outputs) → AddsMerge rests old new → AddsOutputs asked outputs old new
adds_outputs rests asked outputs old new few texts are same adds =
    let told : AddsTold asked (map Some outputs) old new = adds_told rests asked (map Some outputs) old new (omega (arith, few, length-map outputs Some)) texts (are_told outputs are) same adds in
    record {
      events = told.events;
      added = told.added;
      are_events = told.are_events;
      fit = told.fit;
      merge = merge_of_told told.events (lists_asked 0 asked outputs) (subst (IsMergeOfTold told.events) (lists_told 0 asked outputs) told.merge);
    }

-- the events that were added are themselves a merge of those of the outputs
pub merge_of_asked : (rests : List (Option (List Lot))) (asked : List (List (List ℕ))) (outputs : List Output) (old new : Option Folder) → length outputs ≤ 64 → AreAllTexts asked → rests ≡ lots_asked_from 0 asked (map Some outputs) → (adds : AddsMerge rests old new) → AllByRecursion IsOutput outputs → IsMerge adds.events (lists_asked 0 asked outputs)
merge_of_asked rests asked outputs old new few texts same adds are =
    let told : List (Option Output) = map Some outputs in
    let have : HaveEvents (lots_asked_from 0 asked told) (events_of_outputs 0 asked told) = have_events asked told (omega (arith, few, length-map outputs Some)) texts (are_told outputs are) in
    let merged : IsMergeOfTold adds.events (events_of_outputs 0 asked told) = adds.merged (events_of_outputs 0 asked told) (subst (λ (l : List (Option (List Lot))). HaveEvents l (events_of_outputs 0 asked told)) (sym same) have) in
    merge_of_told adds.events (lists_asked 0 asked outputs) (subst (IsMergeOfTold adds.events) (lists_told 0 asked outputs) merged)

-- the same of jobs that name no ids
pub merge_of_outputs : (rests : List (Option (List Lot))) (outputs : List Output) (old new : Option Folder) → length outputs ≤ 64 → rests ≡ lots_from 0 (map Some outputs) → (adds : AddsMerge rests old new) → AllByRecursion IsOutput outputs → IsMerge adds.events (lists_from 0 outputs)
merge_of_outputs rests outputs old new few same adds are = merge_of_asked rests [] outputs old new few tt same adds are

-- ---- one lane more

ids_here : (asked : List (List (List ℕ))) → first_ids asked ≡ ids_at asked 0
ids_here [] = refl
ids_here (ids ∷ others) = refl

ids_next : (asked : List (List (List ℕ))) (place : ℕ) → ids_at (other_ids asked) place ≡ ids_at asked (suc place)
ids_next [] place = refl
ids_next (ids ∷ others) place = refl

pub one_lane_more : (lane : ℕ) (asked : List (List (List ℕ))) (told : List (Option Output)) (t : Option Output) → lots_asked_from lane asked (told ++ t ∷ []) ≡ lots_asked_from lane asked told ++ option_map (lots_asked (lane + length told) (ids_at asked (length told))) t ∷ []
one_lane_more lane asked [] t =
    ap (λ (ids : List (List ℕ)). option_map (lots_asked lane ids) t ∷ []) (ids_here asked)
    ∙ ap (λ (n : ℕ). option_map (lots_asked n (ids_at asked 0)) t ∷ []) (omega arith)
one_lane_more lane asked (first ∷ told) t =
    let same : suc lane + length told ≡ lane + suc (length told) = omega arith in
    ap (λ l. option_map (lots_asked lane (first_ids asked)) first ∷ l) (one_lane_more (suc lane) (other_ids asked) told t
    ∙ ap (λ (n : ℕ). lots_asked_from (suc lane) (other_ids asked) told ++ option_map (lots_asked n (ids_at (other_ids asked) (length told))) t ∷ []) same
    ∙ ap (λ (ids : List (List ℕ)). lots_asked_from (suc lane) (other_ids asked) told ++ option_map (lots_asked (lane + suc (length told)) ids) t ∷ []) (ids_next asked (length told)))
