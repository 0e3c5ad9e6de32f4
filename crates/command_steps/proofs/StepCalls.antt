-- How many calls of the folder a step takes.
use Rattle.std.proofs.Common.{◌≡◌, ℕ, ◌+◌, ◌-◌, ◌<◌, ◌≤◌, Bool, Option, None, Some, IfSome, Result, Ok, Err, List, [], ◌∷◌, ◌++◌, length, drop, refl, sym, ap, subst, ◌∙◌, arith}
use Rattle.std.specs.Prelude.{IsErrAnd, IfErr, IsSomeAnd, option_map}
use Rattle.std.specs.FinMap.{FinMap}
use Rattle.std.proofs.lemmas.List.{drop_all, length-map}
use Rattle.edge_io.specs.Disk.{Disk, Draft, Folder}
use Rattle.edge_io.specs.Moments.{LeavesOnly}
use Rattle.edge_io.specs.Seen.{Seen}
use Rattle.edge_io.specs.Steps.{Goes, Stays, Opened}
use Rattle.edge_io.proofs.Going.{goes_weaker}
use Rattle.outcome_fold.specs.Order.{text_cmp}
use Rattle.outcome_fold.specs.declared.row.Row.{Row}
use Rattle.packet_codec.specs.declared.event.Event.{Event}
use Rattle.run_ledger.specs.Cached.{ReadsSound, HoldsFailing, HoldsTimes}
use Rattle.run_ledger.specs.Costs.{asked_for_each, ReadsBehindCache}
use Rattle.run_ledger.specs.Refreshing.{HoldBoth}
use Rattle.run_shelf.specs.Drafts.{OfDraft, SameButDraft, Writes}
use Rattle.run_shelf.specs.Holds.{FitsFolder}
use Rattle.run_shelf.specs.Images.{KeepsRun}
use Rattle.run_shelf.specs.Outcomes.{TicksUpTo}
use Rattle.run_shelf.specs.Repository.{Run, run_of, run_name, most_runs, Shows}
use Rattle.run_shelf.specs.Sides.{cache_file_name}
use Rattle.run_shelf.specs.declared.cache_file.CacheFile.{CacheFile}
use Rattle.run_shelf.specs.declared.cache_file.CacheFile.TheVariants.{Failing, Times}
use Rattle.run_shelf.proofs.DraftLemmas.{goes_writes, run_kept}
use Rattle.run_shelf.proofs.NameLemmas.{side_differs}
use Rattle.run_shelf.proofs.RunLemmas.{put_other}
use Rattle.run_shelf.proofs.ShowsLemmas.{shown, kinds_of_runs}
use Rattle.suite_run.specs.Recording.{AddsByFew, AddsRows}
use Rattle.worker_lane.specs.declared.lot.Lot.{Lot}
use Rattle.command_steps.specs.Refusals.{refusal_exit_status}
use Rattle.command_steps.specs.Refreshing.{Refreshes}
use Rattle.command_steps.specs.Runs.{run_bytes, AddsRun}
use Rattle.command_steps.specs.Calls.{IsCoveredTo, IsCovered, AsksByFew, StoresByFew}
use Rattle.command_steps.specs.declared.answer.Refusal.{Refusal}
use Rattle.command_steps.specs.declared.answer.Refusal.TheVariants.{Refresh, Start, Lanes}
use Rattle.suite_run.specs.declared.lane_recorder.LanesRefusal.{LanesRefusal}
use Rattle.suite_run.specs.declared.lane_recorder.LanesRefusal.TheVariants as lanes
use Rattle.suite_run.specs.declared.lane_starter.StartRefusal.{StartRefusal}
use Rattle.suite_run.specs.declared.lane_starter.StartRefusal.TheVariants as start
use Rattle.command_steps.specs.declared.question_answers.TellFault.{TellFault}
use Rattle.command_steps.specs.declared.question_answers.TellFault.TheVariants as tell_fault
use Rattle.command_steps.proofs.SoundLemmas.{adds_run, KeepsRunAndCaches, goes_cached}

-- ---- asking

stays_here : (a : Option Folder) → Goes a a Stays
stays_here None = tt
stays_here (Some s) = refl

pub still_covered : (number : ℕ) (a b : Option Folder) → Goes a b Stays → IsCovered number a → IsCovered number b
still_covered number None b stays covered = absurd covered
still_covered number (Some s) None stays covered = absurd stays
still_covered number (Some s) (Some t) stays covered = subst (IsCoveredTo number) (sym stays) covered

-- nothing was called
pub asks_none : (number calls : ℕ) (a : Option Folder) (now : ℕ) → AsksByFew number calls a a now now
asks_none number calls a now = record { same = stays_here a; few = λ covered. omega arith }

-- behind the runs that a cache covers, where these are all, none is read
none_behind : (kinds : List Bool) (s : Folder) (before now : ℕ) → FitsFolder kinds s → ReadsBehindCache (length kinds) before now s → now ≤ before + 2
none_behind kinds s before now fits reads =
    let all = shown s.disk.published fits.repository in
    let runs : List Run = all.0 in
    let count : length kinds ≡ length runs = ap length (kinds_of_runs s.disk.published runs kinds all.1 fits.kinds_are) ∙ length-map runs (λ (run : Run). run.partial) in
    let rest : drop (length kinds) runs ≡ [] = drop_all (length kinds) runs (omega (arith, count)) in
    let asked : asked_for_each (drop (length kinds) runs) ≡ 0 = ap asked_for_each rest in
    let few = reads runs all.1 in
    omega (arith, few, asked)

pub covered_failing : (kinds : List Bool) (told : Option Folder) (before now : ℕ) → IfSome told (FitsFolder kinds)
    → (IfSome told ReadsSound → IfSome told (λ s. (covers : ℕ) (ids : List (List ℕ)) → HoldsFailing covers ids s → ReadsBehindCache covers before now s))
    → IsCovered (length kinds) told → TicksUpTo 2 before now
covered_failing kinds None before now fits spares covered = absurd covered
covered_failing kinds (Some s) before now fits spares covered = none_behind kinds s before now fits (spares covered.sound (length kinds) covered.held.ids covered.held.failing)

pub covered_times : (kinds : List Bool) (told : Option Folder) (before now : ℕ) → IfSome told (FitsFolder kinds)
    → (IfSome told ReadsSound → IfSome told (λ s. (covers : ℕ) (times : FinMap text_cmp ℕ) → HoldsTimes covers times s → ReadsBehindCache covers before now s))
    → IsCovered (length kinds) told → TicksUpTo 2 before now
covered_times kinds None before now fits spares covered = absurd covered
covered_times kinds (Some s) before now fits spares covered = none_behind kinds s before now fits (spares covered.sound (length kinds) covered.held.times covered.held.timed)

-- ---- a run that is kept beside the caches

some_bytes : (x y : List ℕ) → Some x ≡ Some y → x ≡ y
some_bytes x y is = cc

-- a draft that was begun and written has one list of bytes
one_writing : (x y : List ℕ) (a r : Folder) → Writes x a r → Writes y a r → x ≡ y
one_writing x y a r first second =
    let bytes_in : Folder → Option (List ℕ) = λ f. option_map (λ (d : Draft). d.bytes) f.draft in
    some_bytes x y (ap bytes_in (sym first ∙ second))

-- what is said of the bytes of a run
abbrev AddsBytes : Bool → List ℕ → Folder → Folder → Type 0
AddsBytes partial bytes s t = (runs : List Run) → Shows s.disk.published runs → Shows t.disk.published (runs ++ run_of partial bytes ∷ []) × LeavesOnly (λ image. Shows image (runs ++ run_of partial bytes ∷ [])) t.disk

-- so the runs of two lists of events of these bytes are one
same_run : (partial : Bool) (events others : List Event) (a r f : Option Folder) → Goes a r (Writes (run_bytes events)) → Goes a r (Writes (run_bytes others)) → Goes a f (AddsRun partial events) → Goes a f (AddsRun partial others)
same_run partial events others None r None first second adds = tt
same_run partial events others None r (Some t) first second adds = absurd adds
same_run partial events others (Some s) None f first second adds = absurd first
same_run partial events others (Some s) (Some m) None first second adds = absurd adds
same_run partial events others (Some s) (Some m) (Some t) first second adds = subst (λ (bytes : List ℕ). AddsBytes partial bytes s t) (one_writing (run_bytes events) (run_bytes others) s m first second) adds

-- the run that was begun, recorded, kept, and taken into the caches
stored_run : (partial : Bool) (number : ℕ) (rows : List Row) (rests : List (Option (List Lot))) (a b r : Option Folder) (k f : Seen Folder) (x y : ℕ)
    → Goes a b Opened
    → AddsRows rests b r rows
    → Goes r k.told (OfDraft (λ bytes. KeepsRun number (run_of partial bytes)))
    → Refreshes number rows k f (Ok tt)
    → (adds : AddsByFew b r x y) → Goes a f.told (AddsRun partial adds.events)
stored_run partial number rows rests a b r k f x y begun recorded kept refreshed adds =
    let events : List Event = recorded.merge.events in
    let run : List ℕ = run_bytes events in
    let written = goes_writes a b r run begun recorded.merge.added in
    let also = goes_writes a b r (run_bytes adds.events) begun adds.added in
    let all : Goes a f.told (KeepsRunAndCaches number (run_of partial run)) = goes_cached number (run_of partial run) rows a k f refreshed recorded.rows_are (run_kept number partial run a r k.told written kept) in
    same_run partial events adds.events a r f.told written also
    (goes_weaker a f.told (KeepsRunAndCaches number (run_of partial run)) (AddsRun partial events) all (adds_run partial number events))

-- ---- the caches, behind a run that was kept

held_same : (number : ℕ) (s t : Folder) → t.disk ≡ s.disk → HoldBoth number s → HoldBoth number t
held_same number s t same held = record {
  ids = held.ids;
  failing = record { bytes = held.failing.bytes; file = ap (λ (d : Disk). d.published (cache_file_name Failing)) same ∙ held.failing.file; form = held.failing.form };
  times = held.times;
  timed = record { bytes = held.timed.bytes; file = ap (λ (d : Disk). d.published (cache_file_name Times)) same ∙ held.timed.file; form = held.timed.form };
}

held_beside : (number : ℕ) (partial : Bool) (bytes : List ℕ) (s t : Folder) → number < most_runs → KeepsRun number (run_of partial bytes) s t → HoldBoth number s → HoldBoth number t
held_beside number partial bytes s t few kept held = record {
  ids = held.ids;
  failing = record { bytes = held.failing.bytes; file = still Failing ∙ held.failing.file; form = held.failing.form };
  times = held.times;
  timed = record { bytes = held.timed.bytes; file = still Times ∙ held.timed.file; form = held.timed.form };
}
  where
    still : (side : CacheFile) → t.disk.published (cache_file_name side) ≡ s.disk.published (cache_file_name side)
    still side =
        ap (λ (d : Disk). d.published (cache_file_name side)) kept.disk
        ∙ put_other s.disk.published (run_name number partial) bytes (cache_file_name side) (λ e. side_differs side number partial (omega (arith, few)) (sym e))

then_held : (number : ℕ) (a b : Option Folder) (R : Folder → Folder → Type 0) → Goes a b R → ((s t : Folder) → R s t → HoldBoth number s → HoldBoth number t) → IsSomeAnd a (HoldBoth number) → IsSomeAnd b (HoldBoth number)
then_held number None b R step keeps held = absurd held
then_held number (Some s) None R step keeps held = absurd step
then_held number (Some s) (Some t) R step keeps held = keeps s t step held

held_first : (number : ℕ) (a : Option Folder) → IsCovered number a → IsSomeAnd a (HoldBoth number)
held_first number None covered = covered
held_first number (Some s) covered = covered.held

held_behind : (number : ℕ) (partial : Bool) (a b r k : Option Folder) → number < most_runs → Goes a b Opened → Goes b r SameButDraft → Goes r k (OfDraft (λ bytes. KeepsRun number (run_of partial bytes))) → IsCovered number a → IsSomeAnd k (HoldBoth number)
held_behind number partial a b r k few begun recorded kept covered =
    let first = then_held number a b Opened begun (λ s t is. held_same number s t (ap (λ (f : Folder). f.disk) is)) (held_first number a covered) in
    let second = then_held number b r SameButDraft recorded (λ s t same. held_same number s t same.disk) first in
    then_held number r k (OfDraft (λ bytes. KeepsRun number (run_of partial bytes))) kept (λ s t of. held_beside number partial of.bytes s t few of.does) second

ticks_held : (number last : ℕ) (k : Option Folder) (calls before now : ℕ) → last ≡ number → IfSome k (λ s. HoldBoth last s → TicksUpTo calls before now) → IsSomeAnd k (HoldBoth number) → TicksUpTo calls before now
ticks_held number last None calls before now is ticks held = absurd held
ticks_held number last (Some s) calls before now is ticks held = ticks (subst (λ (n : ℕ). HoldBoth n s) (sym is) held)

-- one call begins the run, one adds each packet, three keep it, and fourteen bring the caches up to it
pub works_by_few : (partial : Bool) (number last : ℕ) (rows : List Row) (rests : List (Option (List Lot))) (a b r : Option Folder) (k f : Seen Folder) (v w x y z : ℕ)
    → number < most_runs
    → Goes a b Opened
    → TicksUpTo 1 v w
    → AddsRows rests b r rows
    → Goes b r SameButDraft
    → AddsByFew b r w x
    → Goes r k.told (OfDraft (λ bytes. KeepsRun number (run_of partial bytes)))
    → TicksUpTo 3 x y
    → Refreshes number rows k f (Ok tt)
    → last ≡ number
    → IfSome k.told (λ s. HoldBoth last s → TicksUpTo 14 y z)
    → IsCovered number a → StoresByFew 18 partial a f.told v z
works_by_few partial number last rows rests a b r k f v w x y z few begun one recorded same adds kept three refreshed last_is fourteen covered =
    let brought : TicksUpTo 14 y z = ticks_held number last k.told 14 y z last_is fourteen (held_behind number partial a b r k.told few begun same kept covered) in
    record {
      events = adds.events;
      are_events = adds.are_events;
      fit = adds.fit;
      stored = stored_run partial number rows rests a b r k f w x begun recorded kept refreshed adds;
      few = omega (arith, one, adds.few, three, brought);
    }

-- ---- which status a refusal has

-- the answer of a step that hands on a refusal
pub handed : {T : Type 0} (result : Result T Refusal) (refusal : Refusal) → IsErrAnd result (λ given. given ≡ refusal) → (refusal_exit_status refusal ≡ 3 → ⊥) → IfErr result (λ r. refusal_exit_status r ≡ 3 → ⊥)
handed (Ok value) refusal is other = tt
handed (Err given) refusal is other = λ three. other (ap refusal_exit_status (sym is) ∙ three)

pub start_other : (fault : StartRefusal) → refusal_exit_status (Start fault) ≡ 3 → ⊥
start_other start.Spawn three = omega (arith, three)
start_other start.NoMemory three = omega (arith, three)

pub lanes_other : (fault : LanesRefusal) → refusal_exit_status (Lanes fault) ≡ 3 → ⊥
lanes_other (lanes.Shelf call) three = omega (arith, three)
lanes_other lanes.NoMemory three = omega (arith, three)

pub refresh_other : (fault : TellFault) → refusal_exit_status (Refresh fault) ≡ 3 → ⊥
refresh_other tell_fault.Shelf three = omega (arith, three)
refresh_other tell_fault.NoMemory three = omega (arith, three)
