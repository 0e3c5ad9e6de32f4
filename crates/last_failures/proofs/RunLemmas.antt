-- What one run more, from the last one back, makes of a search.
use Rattle.std.proofs.Common.{◌≡◌, ℕ, zero, suc, ◌+◌, ◌-◌, ◌*◌, ◌<◌, ◌≤◌, min, Bool, true, false, cond, List, map, [], ◌∷◌, ◌++◌, drop, length, Option, Some, None, IfSome, IsSome, IsSomeAnd, refl, sym, ap, ◌∙◌, subst, arith}
use Rattle.std.specs.Prelude.{slice_get}
use Rattle.std.proofs.lemmas.List.{length-map, drop_all}
use Rattle.edge_io.specs.Disk.{Folder}
use Rattle.edge_io.specs.Steps.{Goes, Stays}
use Rattle.packet_codec.specs.declared.event.Event.{Event}
use Rattle.stream_reader.specs.Notes.{events_of}
use Rattle.stream_reader.proofs.ExistLemmas.{some_notes}
use Rattle.outcome_fold.specs.declared.row.Row.{Row}
use Rattle.outcome_fold.specs.Order.{among}
use Rattle.run_shelf.specs.Holds.{FitsFolder}
use Rattle.run_shelf.specs.Repository.{Run, run_at, most_runs, Shows}
use Rattle.run_shelf.proofs.RunLemmas.{within_items}
use Rattle.run_shelf.proofs.ShowsLemmas.{kinds_of_runs, shown}
use Rattle.run_ledger.specs.Costs.{bytes_asked, asked_for_each, ReadsOnce, ReadsFrom}
use Rattle.run_ledger.proofs.CostLemmas.{asked_less}
use Rattle.last_failures.specs.declared.failures.Failure.{Failure}
use Rattle.last_failures.specs.declared.parts.FailedParts.{FailedParts}
use Rattle.last_failures.specs.declared.run_parts.RunFailures.{RunFailures}
use Rattle.last_failures.specs.declared.search_state.SearchState.{SearchState}
use Rattle.last_failures.specs.Gathering.{IsGatheredAt, IsGatheredOf, packets_of_row}
use Rattle.last_failures.specs.Last.{failure_in, failures_of, failures_of_runs, failures_in, AreRunEvents, ShowEventsFrom, AreLastFailures}
use Rattle.last_failures.specs.Looking.{Looks, LooksFrom, LooksOn, with_packets}
use Rattle.last_failures.specs.Parts.{failure_packets}
use Rattle.last_failures.proofs.FindLemmas.{done_before}

drop_here : (runs : List Run) (n : ℕ) (run : Run) → slice_get runs n ≡ Some run → drop n runs ≡ run ∷ drop (suc n) runs
drop_here [] n run is = cc
drop_here (r ∷ runs) zero run is = let same : r ≡ run = cc in ap (λ x. x ∷ runs) same
drop_here (r ∷ runs) (suc n) run is = drop_here runs n run is

item_of : (o : Option Run) → IsSome o → (run : Run) × (o ≡ Some run)
item_of None some = cc
item_of (Some run) some = (run, refl)

here_of : (o : Option Run) (run : Run) (P : Run → Type 0) → o ≡ Some run → IfSome o P → P run
here_of None run P is at = cc
here_of (Some r) run P is at = let same : r ≡ run = cc in subst P same at

gathered_at : (o : Option Run) (run : Run) (wanted : List (List ℕ)) (failures : RunFailures) → o ≡ Some run → IsSomeAnd o (λ r. IsGatheredOf wanted failures r.bytes) → IsGatheredOf wanted failures run.bytes
gathered_at None run wanted failures is are = absurd are
gathered_at (Some r) run wanted failures is are = let same : r ≡ run = cc in subst (λ (x : Run). IsGatheredOf wanted failures x.bytes) same are

-- the packets that are held of a row that counts
held_of : (packets : Bool) (missing : List (List ℕ)) (row : Row) (es : List Event) (held : List ℕ) → held ≡ cond (among (cond packets missing []) row.id) (failure_packets es row) [] → among missing row.id ≡ true → held ≡ cond packets (failure_packets es row) []
held_of true missing row es held is there = is ∙ ap (λ b. cond b (failure_packets es row) []) there
held_of false missing row es held is there = is

-- what a look at the rows of a run makes of a search
abbrev pub TakesRows : List Row → FailedParts → (before after : SearchState) → Type 0
TakesRows rows parts before after =
    (ids : List (List ℕ)) (later : List Failure) (packets : Row → List ℕ) → ((row : Row) → among before.missing row.id ≡ true → packets_of_row parts row ≡ packets row) → Looks ids later before → Looks ids (map (with_packets packets) rows ++ later) after

module _ (s : Folder) (kinds : List Bool) (fits : FitsFolder kinds s) where
  as_many : (runs : List Run) → Shows s.disk.published runs → length kinds ≡ length runs
  as_many runs shows = ap length (kinds_of_runs s.disk.published runs kinds shows fits.kinds_are) ∙ length-map runs (λ (run : Run). run.partial)

  -- the run of this number, in front of those behind it
  run_here : (number : ℕ) (runs : List Run) → number < length kinds → Shows s.disk.published runs
      → (run : Run) × (run_at s.disk.published number ≡ Some run) × (drop number runs ≡ run ∷ drop (suc number) runs)
  run_here number runs below shows =
      let item = item_of (slice_get runs number) (within_items runs number (omega (arith, below, as_many runs shows))) in
      let few : number < most_runs = omega (arith, below, fits.kinds_are.few) in
      (item.0, shows.each number few ∙ item.1, drop_here runs number item.0 item.1)

  -- one run more that was looked at
  one_more : (packets : Bool) (number : ℕ) (failures : RunFailures) (before after : SearchState) → number < length kinds → IsGatheredAt (cond packets before.missing []) number failures s → TakesRows failures.rows failures.parts before after → LooksOn packets (suc number) number before after s
  one_more packets number failures before after below are step ids looked =
      let here = run_here number looked.behind.runs below looked.behind.shown in
      let gathered = gathered_at (run_at s.disk.published number) here.0 (cond packets before.missing []) failures here.1 are in
      let held : (row : Row) → among before.missing row.id ≡ true → packets_of_row failures.parts row ≡ cond packets (failure_packets gathered.events row) [] =
      λ row there. held_of packets before.missing row gathered.events (packets_of_row failures.parts row) (gathered.packets_are row) there in
      record {
        events = gathered.events ∷ looked.events;
        behind = record {
          runs = looked.behind.runs;
          shown = looked.behind.shown;
          are = subst (λ (l : List Run). AreRunEvents l (gathered.events ∷ looked.events)) (sym here.2) (gathered.told, looked.behind.are);
        };
        looks = subst (λ (l : List Row). Looks ids (map (failure_in packets gathered.events) l ++ failures_of_runs packets looked.events) after) gathered.rows_are
            (step ids (failures_of_runs packets looked.events) (λ row. cond packets (failure_packets gathered.events row) []) held looked.looks);
      }

  -- runs that need not be looked at
  none_more : (packets : Bool) (search : SearchState) → ((id : List ℕ) → among search.missing id ≡ false) → (number : ℕ) → number < length kinds → LooksOn packets (suc number) number search search s
  none_more packets search none number below ids looked =
      let here = run_here number looked.behind.runs below looked.behind.shown in
      let notes = some_notes here.0.bytes in
      let events : List Event = events_of notes.0 in
      record {
        events = events ∷ looked.events;
        behind = record {
          runs = looked.behind.runs;
          shown = looked.behind.shown;
          are = subst (λ (l : List Run). AreRunEvents l (events ∷ looked.events)) (sym here.2) ((notes.0, notes.1, refl), looked.behind.are);
        };
        looks = done_before ids (failures_of packets events) (failures_of_runs packets looked.events) search.missing (failures_in search.found) none looked.looks;
      }

  none_back : (packets : Bool) (search : SearchState) → ((id : List ℕ) → among search.missing id ≡ false) → (count start : ℕ) → start + count ≤ length kinds → LooksOn packets (start + count) start search search s
  none_back packets search none zero start few ids looked =
      let same : start + zero ≡ start = omega arith in
      subst (λ (n : ℕ). LooksFrom packets ids n search s) same looked
  none_back packets search none (suc count) start few ids looked =
      let next : start + suc count ≡ suc (start + count) = omega arith in
      none_back packets search none count start (omega (arith, few)) ids
      (none_more packets search none (start + count) (omega (arith, few)) ids (subst (λ (n : ℕ). LooksFrom packets ids n search s) next looked))

  -- before any run was looked at
  begin_back : (packets : Bool) (ids : List (List ℕ)) (search : SearchState) (number : ℕ) → number ≡ length kinds → Looks ids [] search → LooksFrom packets ids number search s
  begin_back packets ids search number is looks =
      let all = shown s.disk.published fits.repository in
      let empty : drop number all.0 ≡ [] = drop_all number all.0 (omega (arith, is, as_many all.0 all.1)) in
      record {
        events = [];
        behind = record { runs = all.0; shown = all.1; are = subst (λ (l : List Run). AreRunEvents l []) (sym empty) tt };
        looks = looks;
      }

-- ---- the same where the folder is told

-- one run more, which was read
pub run_more : (state : Option Folder) (kinds : List Bool) (packets : Bool) (number next : ℕ) (failures : RunFailures) (items : List Row) (before after : SearchState) → next ≡ number + 1 → items ≡ failures.rows → number < length kinds → IfSome state (FitsFolder kinds) → IfSome state (IsGatheredAt (cond packets before.missing []) number failures)
    → TakesRows items failures.parts before after → IfSome state (LooksOn packets next number before after)
run_more None kinds packets number next failures items before after is listed below fits are step = tt
run_more (Some s) kinds packets number next failures items before after is listed below fits are step =
    let same : suc number ≡ next = omega (arith, is) in
    subst (λ (n : ℕ). LooksOn packets n number before after s) same (one_more s kinds fits packets number failures before after below are (subst (λ (l : List Row). TakesRows l failures.parts before after) listed step))

pub nothing_looked : (state : Option Folder) (packets : Bool) (number : ℕ) (search : SearchState) → IfSome state (LooksOn packets number number search search)
nothing_looked None packets number search = tt
nothing_looked (Some s) packets number search = λ ids looked. looked

-- one after another
pub looks_then : (first before : Option Folder) (packets : Bool) (number middle next last : ℕ) (a b c : SearchState) → Goes first before Stays → last ≡ middle → IfSome first (LooksOn packets number middle a b) → IfSome before (LooksOn packets last next b c) → IfSome first (LooksOn packets number next a c)
looks_then None before packets number middle next last a b c same is one two = tt
looks_then (Some s) None packets number middle next last a b c same is one two = absurd same
looks_then (Some s) (Some t) packets number middle next last a b c same is one two = λ ids looked.
    subst (LooksFrom packets ids next c) same (two ids (subst (λ (n : ℕ). LooksFrom packets ids n b t) (sym is) (subst (LooksFrom packets ids middle b) (sym same) (one ids looked))))

-- the runs in front need not be looked at
pub looks_done : (state : Option Folder) (kinds : List Bool) (packets : Bool) (total number start : ℕ) (before search : SearchState) → start ≤ number → number ≤ length kinds → IfSome state (FitsFolder kinds) → ((id : List ℕ) → among search.missing id ≡ false) → IfSome state (LooksOn packets total number before search) → IfSome state (LooksOn packets total start before search)
looks_done None kinds packets total number start before search low high fits none so_far = tt
looks_done (Some s) kinds packets total number start before search low high fits none so_far = λ ids looked.
    let same : number ≡ start + (number - start) = omega (arith, low) in
    none_back s kinds fits packets search none (number - start) start (omega (arith, low, high)) ids
    (subst (λ (n : ℕ). LooksFrom packets ids n search s) same (so_far ids looked))

pub looks_at : (state : Option Folder) (packets : Bool) (total number start : ℕ) (before search : SearchState) → number ≡ start → IfSome state (LooksOn packets total number before search) → IfSome state (LooksOn packets total start before search)
looks_at state packets total number start before search is so_far = subst (λ (n : ℕ). IfSome state (LooksOn packets total n before search)) is so_far

-- all runs were looked at
pub all_found : (state : Option Folder) (kinds : List Bool) (packets : Bool) (ids : List (List ℕ)) (begun done : SearchState) → IfSome state (FitsFolder kinds) → Looks ids [] begun → IfSome state (LooksOn packets (length kinds) 0 begun done)
    → IfSome state (AreLastFailures packets ids (failures_in done.found))
all_found None kinds packets ids begun done fits begin on = tt
all_found (Some s) kinds packets ids begun done fits begin on =
    let looked : LooksFrom packets ids 0 done s = on ids (begin_back s kinds fits packets ids begun (length kinds) refl begin) in
    record { events = looked.events; shown = looked.behind; found_are = looked.looks.found_are }

-- ---- how many calls it takes

pub costs_none : (state : Option Folder) (number before now : ℕ) → now ≡ before → IfSome state (ReadsFrom number before now)
costs_none None number before now same = tt
costs_none (Some s) number before now same = λ runs shows. omega (arith, same)

pub costs_one : (first before : Option Folder) (kinds : List Bool) (number next began old now : ℕ) → next ≡ number + 1 → number < length kinds → IfSome first (FitsFolder kinds) → Goes first before Stays → IfSome first (ReadsFrom next began old) → IfSome before (ReadsOnce number old now) → IfSome first (ReadsFrom number began now)
costs_one None before kinds number next began old now is below fits same so_far step = tt
costs_one (Some s) None kinds number next began old now is below fits same so_far step = absurd same
costs_one (Some s) (Some t) kinds number next began old now is below fits same so_far step = λ runs shows.
    let here = run_here s kinds fits number runs below shows in
    let step_here : ReadsOnce number old now s = subst (ReadsOnce number old now) same step in
    let one : now * 65536 ≤ old * 65536 + bytes_asked here.0 = here_of (run_at s.disk.published number) here.0 (λ run. now * 65536 ≤ old * 65536 + bytes_asked run) here.1 step_here in
    let at : suc number ≡ next = omega (arith, is) in
    let rest : asked_for_each (drop number runs) ≡ bytes_asked here.0 + asked_for_each (drop next runs) = ap asked_for_each here.2 ∙ ap (λ (n : ℕ). bytes_asked here.0 + asked_for_each (drop n runs)) at in
    omega (arith, one, rest, so_far runs shows)

pub costs_back : (state : Option Folder) (number start before now : ℕ) → start ≤ number → IfSome state (ReadsFrom number before now) → IfSome state (ReadsFrom start before now)
costs_back None number start before now low so_far = tt
costs_back (Some s) number start before now low so_far = λ runs shows. omega (arith, so_far runs shows, asked_less runs start number low)
