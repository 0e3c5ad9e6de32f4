-- What a lane gives, one step after another.
use Rattle.std.proofs.Common.{◌≡◌, ℕ, ◌⊎◌, ◌↔◌, List, [], ◌∷◌, ◌++◌, length, map, drop, get_or, refl, inl, inr, sym, ap, ◌∙◌, append_assoc, append-nil, arith}
use Rattle.std.specs.Prelude.{Option, Some, None}
use Rattle.std.specs.Option.{option_map}
use Rattle.std.proofs.lemmas.List.{length-append}
use Rattle.packet_codec.specs.declared.event.Event.{Event}
use Rattle.packet_codec.specs.Grammar.{AreBytes}
use Rattle.packet_codec.specs.Canonical.{canonical}
use Rattle.edge_io.specs.Children.{Output}
use Rattle.edge_io.specs.declared.child.Finish.{Finish}
use Rattle.edge_io.specs.declared.child.Finish.TheVariants as finish
use Rattle.stream_reader.specs.declared.note.Note.{Note}
use Rattle.worker_lane.specs.Inside.{ends_inside, inside_events}
use Rattle.worker_lane.specs.Recorded.{HasRecorded, recorded_events}
use Rattle.worker_lane.specs.Endings.{ending_of}
use Rattle.worker_lane.specs.Lost.{named_ids}
use Rattle.worker_lane.specs.Rest.{stream_events, GivesIfTold, IsOver, last_events, lots_to_give, lots_asked}
use Rattle.worker_lane.specs.declared.lot.Ending.{Ending}
use Rattle.worker_lane.specs.declared.lot.Ending.TheVariants.{Exit, Fault, NoMemory}
use Rattle.worker_lane.specs.declared.lot.Lot.{Lot}
use Rattle.worker_lane.specs.declared.lot.Lot.TheVariants.{Packet, End}
use Rattle.worker_lane.proofs.RestLemmas.{the_notes}

pub gives_nothing : (rest : Option (List Lot)) → GivesIfTold rest [] rest
gives_nothing None = refl
gives_nothing (Some lots) = refl

joined : (left : Option (List Lot)) (given others : List Lot) → option_map (λ l. given ++ l) (option_map (λ l. others ++ l) left) ≡ option_map (λ l. (given ++ others) ++ l) left
joined None given others = refl
joined (Some lots) given others = ap Some (sym (append_assoc given others lots))

pub gives_more : (a b c : Option (List Lot)) (given others : List Lot) → GivesIfTold a given b → GivesIfTold b others c → GivesIfTold a (given ++ others) c
gives_more a b c given others first second = first ∙ ap (option_map (λ l. given ++ l)) second ∙ joined c given others

told_or : List Lot → Option (List Lot) → List Lot
told_or other None = other
told_or other (Some lots) = lots

pub gives_front : (lots given : List Lot) (left : Option (List Lot)) → GivesIfTold (Some lots) given left → (others : List Lot) × (lots ≡ given ++ others)
unfolding told_or
gives_front lots given None h = absurd (grind (arith, h))
gives_front lots given (Some others) h = (others, ap (told_or lots) h)

pub gives_whole : (lots given : List Lot) (left : Option (List Lot)) → GivesIfTold (Some lots) given left → IsOver left → given ≡ lots
unfolding told_or
gives_whole lots given None h over = absurd (grind (arith, h))
gives_whole lots given (Some others) h over = sym (ap (told_or lots) h ∙ ap (λ (l : List Lot). given ++ l) over ∙ append-nil given)

pub lots_recorded : (lane : ℕ) (ids : List (List ℕ)) (output : Output) (events : List Event) → AreBytes output.bytes → HasRecorded lane output.bytes events → lots_asked lane ids output ≡ lots_to_give lane (named_ids ids) events (ending_of output.finish)
lots_recorded lane ids output events are h =
    ap (λ (notes : List Note). lots_to_give lane (named_ids ids) (recorded_events lane notes ++ inside_events lane (ends_inside output.bytes)) (ending_of output.finish)) (the_notes output.bytes h.notes are h.are_notes)
    ∙ ap (λ (es : List Event). lots_to_give lane (named_ids ids) es (ending_of output.finish)) (sym h.made)

end_of : Ending → Lot → Ending
end_of other (Packet packet) = other
end_of other (End how) = how

one_end : (packets : List (List ℕ)) (given others : List Lot) (last how : Ending) → map Packet packets ++ End last ∷ [] ≡ given ++ End how ∷ others → (how ≡ last) × (others ≡ [])
unfolding end_of
one_end [] [] others last how h = (sym (ap (λ (l : List Lot). end_of last (get_or l 0 (End last))) h), sym (ap (drop 1) h))
one_end [] (lot ∷ given) others last how h = absurd (omega (arith, ap length h, length-append given (End how ∷ others)))
one_end (packet ∷ packets) [] others last how h = absurd (let first : Packet packet ≡ End how = ap (λ (l : List Lot). get_or l 0 (End how)) h in grind (arith, first))
one_end (packet ∷ packets) (lot ∷ given) others last how h = one_end packets given others last how (ap (drop 1) h)

pub ending_last : (lane : ℕ) (ids : List (List ℕ)) (output : Output) (given others : List Lot) (how : Ending) → lots_asked lane ids output ≡ given ++ End how ∷ others → (how ≡ ending_of output.finish) × (others ≡ [])
ending_last lane ids output given others how h =
    let events = stream_events lane output.bytes in
    one_end (map canonical (events ++ last_events lane (named_ids ids) events (ending_of output.finish))) given others (ending_of output.finish) how h

pub fault_exactly : (f : Finish) → (ending_of f ≡ Fault) ↔ ((f ≡ finish.ReadFault) ⊎ (f ≡ finish.WaitFault))
fault_exactly (finish.Exit status) = (λ same. absurd (grind (arith, same)), never)
  where
    never : (finish.Exit status ≡ finish.ReadFault) ⊎ (finish.Exit status ≡ finish.WaitFault) → Exit status ≡ Fault
    never (inl same) = absurd (grind (arith, same))
    never (inr same) = absurd (grind (arith, same))
fault_exactly finish.ReadFault = (λ same. inl refl, λ either. refl)
fault_exactly finish.WaitFault = (λ same. inr refl, λ either. refl)

pub never_without_memory : (f : Finish) → ending_of f ≡ NoMemory → ⊥
never_without_memory (finish.Exit status) same = grind (arith, same)
never_without_memory finish.ReadFault same = grind (arith, same)
never_without_memory finish.WaitFault same = grind (arith, same)
