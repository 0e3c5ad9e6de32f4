-- The halves of an event that a packet spells.
use Rattle.std.proofs.Common.{◌≡◌, ℕ, ◌<◌, ◌/◌, true, List, length}
use Rattle.std.specs.Prelude.{Option, Some, None, IfSome, All, option_map}
use Rattle.std.proofs.lemmas.List.Elements.{All-take, All-drop}
use Rattle.sub_number.specs.Texts.{IsShortText}
use Rattle.packet_codec.specs.declared.event.FilePart.{FilePart}
use Rattle.packet_codec.specs.declared.event.Event.{Event}
use Rattle.packet_codec.specs.Grammar.{AreBytes}
use Rattle.packet_codec.specs.Packet.{SpellsEvent}
use Rattle.packet_codec.specs.Canonical.{IsEvent}
use Rattle.packet_codec.specs.Halves.{has_halves, half_of, other_half_of, with_part, first_half, second_half}
use Rattle.packet_codec.specs.Routing.{under}
use Rattle.packet_codec.proofs.HalfLemmas.{first_fits, second_fits}
use Rattle.packet_codec.proofs.LaneLemmas.{is_event_under}
use Rattle.packet_codec.proofs.LeastLemmas.{spelled_fits}
use Rattle.worker_lane.specs.Recorded.{HasPacket}
use Rattle.worker_lane.proofs.EventLemmas.{spelled_is_event}

abbrev IsFile : FilePart → Type 0
IsFile file = IsShortText file.name × All (λ byte. byte < 256) file.bytes

part_is_file : (half : List ℕ → List ℕ) → ((bytes : List ℕ) → AreBytes bytes → AreBytes (half bytes)) → (file : Option FilePart) → IfSome file IsFile → IfSome (option_map (with_part half) file) IsFile
part_is_file half fewer None is = tt
part_is_file half fewer (Some file) is = (is.0, fewer file.bytes is.1)

first_is_event : (e : Event) → IsEvent e → IsEvent (first_half e)
first_is_event e is = record {
  seconds = is.seconds;
  id = is.id;
  tags = tt;
  mime = is.mime;
  file = part_is_file half_of (λ bytes are. All-take (λ byte. byte < 256) (length bytes / 2) bytes are) e.file is.file;
  route = is.route;
}

second_is_event : (e : Event) → IsEvent e → IsEvent (second_half e)
second_is_event e is = record {
  seconds = is.seconds;
  id = is.id;
  tags = is.tags;
  mime = is.mime;
  file = part_is_file other_half_of (λ bytes are. All-drop (λ byte. byte < 256) (length bytes / 2) bytes are) e.file is.file;
  route = is.route;
}

module _ (lane : ℕ) (bytes : List ℕ) (e : Event) (small : lane < 64) (are : AreBytes bytes) (spelled : SpellsEvent bytes e) (long : has_halves e ≡ true) where
  -- each half has a packet under the lane
  pub first_has_packet : HasPacket (under lane (first_half e))
  first_has_packet =
      let fits = first_fits lane e small (spelled_fits bytes e spelled) long in
      record { is_event = is_event_under lane (first_half e) small (first_is_event e (spelled_is_event bytes e are spelled)) fits; fits = fits }

  pub second_has_packet : HasPacket (under lane (second_half e))
  second_has_packet =
      let fits = second_fits lane e small (spelled_fits bytes e spelled) long in
      record { is_event = is_event_under lane (second_half e) small (second_is_event e (spelled_is_event bytes e are spelled)) fits; fits = fits }
