use Rattle.std.proofs.Common.{◌≡◌, take}
use Rattle.std.specs.Prelude.{Some, All}
use Rattle.packet_codec.specs.Packet.{SpellsEvent}
use Rattle.packet_codec.specs.declared.event.Event.{Event}
use Rattle.worker_lane.proofs.unheard_ids.place_of.Given as goal

abbrev pub invariant-loop-place : goal.invariant-loop-place
invariant-loop-place l = (e : Event) → SpellsEvent l.packet e → All (λ id. e.id ≡ Some id → ⊥) (take l.place l.ids)
