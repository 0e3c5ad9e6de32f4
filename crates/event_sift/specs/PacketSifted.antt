-- What a sift of packets has taken so far (docs/COMMANDS.md, "subunit-filter").
use Rattle.std.specs.Prelude.{◌≡◌, ℕ, Bool, Option, None, Some, List, [], ◌++◌, if◌then◌else◌}
use Rattle.std.specs.FinMap as fin
use Rattle.std.specs.FinMap.{FinMap}
use Rattle.packet_codec.specs.Canonical.{packets_of}
use Rattle.packet_codec.specs.declared.event.Event.{Event}
use Rattle.outcome_fold.specs.Folded.{HasSeen}
use Rattle.outcome_fold.specs.declared.row.Row.{Row}
use Rattle.outcome_fold.specs.declared.test_key.TestKey.{TestKey}
use Rattle.outcome_fold.specs.Order.{test_cmp, table}
use Rattle.outcome_fold.specs.Parts.{test_of}
use Rattle.outcome_fold.specs.Rows.{open_tests}
use Rattle.outcome_fold.specs.TestPackets.{packets_at, test_of_row}
use Rattle.event_sift.specs.Released.{part_at}
use Rattle.event_sift.specs.declared.rules.Rules.{Rules}
use Rattle.event_sift.specs.declared.held_packets.HeldTest.{HeldTest}
use Rattle.event_sift.specs.declared.held_packets.HeldPackets.{HeldPackets}
use Rattle.event_sift.specs.declared.packet_sift.PacketSift.{PacketSift}

-- the packets of the tests in the table, and of the one that is held beside it
abbrev pub with_last : Option HeldTest → FinMap test_cmp (List ℕ) → FinMap test_cmp (List ℕ)
with_last None others = others
with_last (Some last) others = fin.insert others last.key last.packets

-- the packets that are held, by test, but for those of the test that was heard last
abbrev pub other_packets_in : HeldPackets → FinMap test_cmp (List ℕ)
other_packets_in held = fin.from_entries {R = test_cmp} held.others.entries

-- the packets that are held, by test
abbrev pub held_packets_in : HeldPackets → FinMap test_cmp (List ℕ)
held_packets_in held = with_last held.last (other_packets_in held)

-- the same packets, where the test is there, if only without a packet
abbrev pub begun_at : FinMap test_cmp (List ℕ) → TestKey → FinMap test_cmp (List ℕ)
begun_at packets test = fin.insert packets test (packets_at packets test)

-- the test with one packet more
abbrev pub with_packet : HeldTest → List ℕ → HeldTest
with_packet last packet = record { key = last.key; packets = last.packets ++ packet }

-- the packets of the last part of each open test
abbrev pub open_packets : List Event → FinMap test_cmp (List ℕ)
open_packets seen = table {R = test_cmp} (λ test. packets_of (part_at seen test)) (open_tests seen)

-- The packets of the events are held, and the test of the next event was heard last, if only without a packet.
pub record IsNext (held : HeldPackets) (seen : List Event) (e : Event) (last : HeldTest) : Type 0 where
  pub heard : held.last ≡ Some last
  pub test : test_of e ≡ Some last.key
  pub packets : held_packets_in held ≡ begun_at (open_packets seen) last.key

-- the packets of the row's test, where the row is kept
abbrev pub packets_if_kept : (Row → Bool) → FinMap test_cmp (List ℕ) → Row → List ℕ
packets_if_kept kept packets row = if kept row then packets_at packets (test_of_row row) else []

-- the sift has taken these events
pub record HasSiftedPackets {P : Type 0} (sift : PacketSift P) (seen : List Event) : Type 0 where
  pub folded : HasSeen sift.fold seen
  pub held : held_packets_in sift.held ≡ open_packets seen

-- the rules by which the sift keeps tests
abbrev pub packet_rules_of : {P : Type 0} → PacketSift P → Rules
packet_rules_of sift = sift.rules.now

-- what says which tests are kept
abbrev pub packet_predicate_of : {P : Type 0} → PacketSift P → P
packet_predicate_of sift = sift.predicate
