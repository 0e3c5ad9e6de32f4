use Rattle.std.proofs.Common.{◌≡◌, Option, Some, List, ℕ, ap, sym}
use Rattle.packet_codec.specs.Retagging.{lent_bytes}
use Rattle.packet_codec.proofs.RunsLeft.{tags_shown}
use Rattle.packet_codec.proofs.RespelledLemmas.{are_of, some_event, none_shown, runs_there}
use Rattle.packet_codec.proofs.packet.Packet.tag_list.Goals as goal

pub slices_of-requires : goal.slices_of-requires
slices_of-requires c =
    let some = some_event _ _ _ c.self.invariant in
    runs_there c.self.inside.parts c.in-Some.list some.0 c.in-Some.is some.1.shown

pub returns-in-None : goal.returns-in-None
returns-in-None c = λ e s. sym (none_shown e.tags (rw c.in-None.is at (are_of _ _ _ c.self.invariant e (rw (← c.self.view_is) at s)).shown.tags))

pub returns-in_ok-slices_of-in-Some : goal.returns-in_ok-slices_of-in-Some
returns-in_ok-slices_of-in-Some c = λ e s.
    tags_shown c.in-Some.list e.tags (λ (tags : Option (List (List ℕ))). Some (lent_bytes c.in_ok-slices_of-in-Some.field-0.items) ≡ tags) (λ runs there. ap Some (c.in_ok-slices_of-in-Some.ensures runs there))
    (rw c.in-Some.is at (are_of _ _ _ c.self.invariant e (rw (← c.self.view_is) at s)).shown.tags)
