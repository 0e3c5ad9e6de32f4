-- What a sift has taken so far (docs/FORMATS.md, "subunit-filter").
use Rattle.std.specs.Prelude.{◌≡◌, List}
use Rattle.std.specs.FinMap as fin
use Rattle.std.specs.FinMap.{FinMap}
use Rattle.packet_codec.specs.declared.event.Event.{Event}
use Rattle.outcome_fold.specs.Order.{test_cmp, table}
use Rattle.outcome_fold.specs.Rows.{open_tests}
use Rattle.event_sift.specs.declared.rules.Rules.{Rules}
use Rattle.event_sift.specs.declared.rules.ByRules.{ByRules}
use Rattle.event_sift.specs.declared.open_events.Held.{Held}
use Rattle.event_sift.specs.declared.sift.Sift.{Sift}
use Rattle.event_sift.specs.Released.{part_at}

-- the events that are held, by test
abbrev pub parts_in : Held → FinMap test_cmp (List Event)
parts_in held = fin.from_entries {R = test_cmp} held.parts.entries

-- the last part of each open test
abbrev pub open_part_events : List Event → FinMap test_cmp (List Event)
open_part_events seen = table {R = test_cmp} (part_at seen) (open_tests seen)

-- what is held of these events is the last part of each test that is open
abbrev pub Holds : Held → List Event → Type 0
Holds held seen = parts_in held ≡ open_part_events seen

-- the sift has taken these events
abbrev pub HasSifted : {P : Type 0} → Sift P → List Event → Type 0
HasSifted sift seen = Holds sift.held seen

-- the rules by which the sift keeps tests
abbrev pub rules_of : {P : Type 0} → Sift P → Rules
rules_of sift = sift.rules.now

-- what says which tests are kept
abbrev pub predicate_of : {P : Type 0} → Sift P → P
predicate_of sift = sift.predicate

-- the rules that a predicate by rules goes by
abbrev pub rules_asked : ByRules → Rules
rules_asked predicate = predicate.rules.now
