-- How many calls it takes to read several runs.
use Rattle.std.proofs.Common.{◌≡◌, inl, inr, ℕ, zero, suc, ◌+◌, ◌*◌, ◌<◌, ◌≤◌, Bool, List, [], ◌∷◌, drop, length, Option, Some, None, IfSome, IsSome, refl, sym, ap, ◌∙◌, subst, arith}
use Rattle.std.specs.Prelude.{slice_get}
use Rattle.std.proofs.lemmas.Bool.{cases_lt}
use Rattle.std.proofs.lemmas.List.{length-map}
use Rattle.edge_io.specs.Disk.{Folder}
use Rattle.edge_io.specs.Steps.{Goes, Stays}
use Rattle.run_shelf.specs.Holds.{FitsFolder}
use Rattle.run_shelf.specs.Repository.{Run, run_at, most_runs}
use Rattle.run_shelf.proofs.ReadingLemmas.{same_state}
use Rattle.run_shelf.proofs.RunLemmas.{past_items, within_items, none_is_not_some}
use Rattle.run_shelf.proofs.ShowsLemmas.{kinds_of_runs}
use Rattle.run_ledger.specs.Costs.{bytes_asked, asked_for_each, ReadsOnce, ReadsFrom, ReadsTo}
use Rattle.run_ledger.specs.Starts.{IsStart, IsLastFull, AreAllPartial}

drop_here : (runs : List Run) (n : ℕ) (run : Run) → slice_get runs n ≡ Some run → drop n runs ≡ run ∷ drop (suc n) runs
drop_here [] n run is = cc
drop_here (r ∷ runs) zero run is = let same : r ≡ run = cc in ap (λ x. x ∷ runs) same
drop_here (r ∷ runs) (suc n) run is = drop_here runs n run is

item_of : (o : Option Run) → IsSome o → (run : Run) × (o ≡ Some run)
item_of None some = cc
item_of (Some run) some = (run, refl)

here_of : (o : Option Run) (run : Run) (P : Run → Type 0) → o ≡ Some run → IfSome o P → P run
here_of None run P is at = cc
here_of (Some r) run P is at = let same : r ≡ run = cc in subst P same at

-- fewer runs ask for less
pub asked_less : (runs : List Run) (a b : ℕ) → a ≤ b → asked_for_each (drop b runs) ≤ asked_for_each (drop a runs)
asked_less [] zero zero less = omega arith
asked_less [] zero (suc b) less = omega arith
asked_less [] (suc a) zero less = omega arith
asked_less [] (suc a) (suc b) less = omega arith
asked_less (run ∷ runs) zero zero less = omega arith
asked_less (run ∷ runs) zero (suc b) less = omega (arith, asked_less runs zero b (omega arith), drop_zero runs)
  where
    drop_zero : (runs : List Run) → asked_for_each (drop 0 runs) ≡ asked_for_each runs
    drop_zero runs = refl
asked_less (run ∷ runs) (suc a) zero less = absurd (omega (arith, less))
asked_less (run ∷ runs) (suc a) (suc b) less = asked_less runs a b (omega (arith, less))

-- no call was made
pub costs_nothing : (state : Option Folder) (start number before now : ℕ) → now ≡ before → number ≡ start → IfSome state (ReadsTo start number before now)
costs_nothing None start number before now same begin = tt
costs_nothing (Some s) start number before now same begin = λ runs shown. omega (arith, same, ap (λ (n : ℕ). asked_for_each (drop n runs)) begin)

-- what was read so far is within all
pub costs_so_far : (state : Option Folder) (start number before now : ℕ) → IfSome state (ReadsTo start number before now) → IfSome state (ReadsFrom start before now)
costs_so_far None start number before now so_far = tt
costs_so_far (Some s) start number before now so_far = λ runs shown. omega (arith, so_far runs shown)

-- the runs from a later number on were not read either
pub costs_up_to : (state : Option Folder) (start number end before now : ℕ) → number ≤ end → IfSome state (ReadsTo start number before now) → IfSome state (ReadsTo start end before now)
costs_up_to None start number end before now least so_far = tt
costs_up_to (Some s) start number end before now least so_far = λ runs shown. omega (arith, so_far runs shown, asked_less runs number end least)

-- one run more
module _ (first before : Option Folder) (kinds : List Bool) (start number began old now : ℕ) (fits : IfSome first (FitsFolder kinds)) (known : number < length kinds)
    (so_far : IfSome first (ReadsTo start number began old)) (same : Goes first before Stays) (step : IfSome before (ReadsOnce number old now)) where
  pub costs_more : (next : ℕ) → next ≡ number + 1 → IfSome first (ReadsTo start next began now)
  costs_more next is =
      there first fits so_far (subst (λ (o : Option Folder). IfSome o (ReadsOnce number old now)) (same_state first before same) step)
    where
      there : (state : Option Folder) → IfSome state (FitsFolder kinds) → IfSome state (ReadsTo start number began old) → IfSome state (ReadsOnce number old now) → IfSome state (ReadsTo start next began now)
      there None f t o = tt
      there (Some s) f t o = λ runs shown.
          let size : length kinds ≡ length runs = ap length (kinds_of_runs s.disk.published runs kinds shown f.kinds_are) ∙ length-map runs (λ (run : Run). run.partial) in
          let item = item_of (slice_get runs number) (within_items runs number (omega (arith, known, size))) in
          let few : number < most_runs = omega (arith, known, f.kinds_are.few) in
          let one : now * 65536 ≤ old * 65536 + bytes_asked item.0 = here_of (run_at s.disk.published number) item.0 (λ run. now * 65536 ≤ old * 65536 + bytes_asked run) (shown.each number few ∙ item.1) o in
          let at : suc number ≡ next = omega (arith, is) in
          let rest : asked_for_each (drop number runs) ≡ bytes_asked item.0 + asked_for_each (drop next runs) =
          ap asked_for_each (drop_here runs number item.0 item.1) ∙ ap (λ (n : ℕ). bytes_asked item.0 + asked_for_each (drop n runs)) at in
          omega (arith, one, rest, t runs shown)

-- there is one run from which on is read
pub one_start : (kinds : List Bool) (a b : ℕ) → IsStart kinds a → IsStart kinds b → a ≡ b
one_start kinds a b first second = elim (cases_lt a b) [
  | inl less ↦ absurd (not_behind kinds a b first second less)
  | inr most ↦ elim (cases_lt b a) [
    | inl less ↦ absurd (not_behind kinds b a second first less)
    | inr least ↦ omega (arith, most, least)
  ]
]
  where
    not_behind : (kinds : List Bool) (a b : ℕ) → IsStart kinds a → IsStart kinds b → a < b → ⊥
    not_behind kinds a b first second less = elim second.full [
      | inl begin ↦ omega (arith, begin, less)
      | inr full ↦ first.last b less full
    ]

-- the last full run is the first that is to be read
pub last_starts : (kinds : List Bool) (number : ℕ) → IsLastFull kinds number → IsStart kinds number
last_starts kinds number last = record { full = inr last.full; last = last.last }

pub from_last_full : (state : Option Folder) (kinds : List Bool) (number end before now : ℕ) → IsLastFull kinds number → IfSome state (ReadsTo number end before now)
    → IfSome state (λ s. (start : ℕ) → IsLastFull kinds start → ReadsTo start end before now s)
from_last_full None kinds number end before now last reads = tt
from_last_full (Some s) kinds number end before now last reads = λ start also runs shown.
    omega (arith, reads runs shown, ap (λ (n : ℕ). asked_for_each (drop n runs)) (one_start kinds number start (last_starts kinds number last) (last_starts kinds start also)))

pub from_last_start : (state : Option Folder) (kinds : List Bool) (number end before now : ℕ) → IsLastFull kinds number → IfSome state (ReadsTo number end before now)
    → IfSome state (λ s. (start : ℕ) → IsStart kinds start → ReadsTo start end (before + 3) now s)
from_last_start None kinds number end before now last reads = tt
from_last_start (Some s) kinds number end before now last reads = λ start also runs shown.
    omega (arith, reads runs shown, ap (λ (n : ℕ). asked_for_each (drop n runs)) (one_start kinds number start (last_starts kinds number last) also))

-- no run is full
pub from_no_full : (state : Option Folder) (kinds : List Bool) (end before now : ℕ) → AreAllPartial kinds → IfSome state (λ s. (start : ℕ) → IsLastFull kinds start → ReadsTo start end before now s)
from_no_full None kinds end before now partial = tt
from_no_full (Some s) kinds end before now partial = λ start last. absurd (partial start last.full)

pub from_first : (state : Option Folder) (kinds : List Bool) (end before now : ℕ) → AreAllPartial kinds → IfSome state (ReadsTo 0 end before now) → IfSome state (λ s. (start : ℕ) → IsStart kinds start → ReadsTo start end before now s)
from_first None kinds end before now partial reads = tt
from_first (Some s) kinds end before now partial reads = λ start begin. elim begin.full [
  | inl first ↦ (λ runs shown. omega (arith, reads runs shown, ap (λ (n : ℕ). asked_for_each (drop n runs)) first))
  | inr full ↦ absurd (partial start full)
]

-- some calls before, and runs from a later one on
pub from_later : (state : Option Folder) (start end before middle now : ℕ) → middle ≤ before + 3 → IfSome state (ReadsTo start end middle now) → IfSome state (ReadsTo 0 end (before + 3) now)
from_later None start end before middle now ticks reads = tt
from_later (Some s) start end before middle now ticks reads = λ runs shown. omega (arith, ticks, reads runs shown, asked_less runs 0 start (omega arith))

pub from_none : (state : Option Folder) (end before now : ℕ) → now ≤ before + 3 → IfSome state (ReadsTo 0 end (before + 3) now)
from_none None end before now ticks = tt
from_none (Some s) end before now ticks = λ runs shown. omega (arith, ticks, asked_less runs 0 end (omega arith))

-- the same from the first run that is to be read
pub from_start : (state : Option Folder) (kinds : List Bool) (number end before now : ℕ) → IsStart kinds number → IfSome state (ReadsTo number end before now) → IfSome state (λ s. (start : ℕ) → IsStart kinds start → ReadsTo start end before now s)
from_start None kinds number end before now is reads = tt
from_start (Some s) kinds number end before now is reads = λ start begin runs shown. omega (arith, reads runs shown, ap (λ (n : ℕ). asked_for_each (drop n runs)) (one_start kinds number start is begin))

pub from_start_all : (state : Option Folder) (kinds : List Bool) (end before now : ℕ) → IfSome state (λ s. (start : ℕ) → IsStart kinds start → ReadsTo start end before now s) → IfSome state (λ s. (start : ℕ) → IsStart kinds start → ReadsFrom start before now s)
from_start_all None kinds end before now reads = tt
from_start_all (Some s) kinds end before now reads = λ start begin. costs_so_far (Some s) start end before now (reads start begin)

-- it is one of the runs, or there is none
pub starts_within : (kinds : List Bool) (start : ℕ) → IsStart kinds start → start ≤ length kinds
starts_within kinds start begin = elim begin.full [
  | inl first ↦ omega (arith, first)
  | inr full ↦ elim (cases_lt (length kinds) start) [
    | inl past ↦ absurd (none_is_not_some (slice_get kinds start) (past_items kinds start (omega (arith, past))) (subst IsSome (sym full) refl))
    | inr within ↦ within
  ]
]
