-- Times of ids, and of each id the longest (docs/FORMATS.md, "What the rows say").
use Rattle.std.specs.Prelude.{◌≡◌, ℕ, Bool, true, false, List, [], ◌∷◌, map, max, if◌then◌else◌}
use Rattle.std.specs.FinMap.{FinMap}
use Rattle.std.specs.List.Sorted.{IsPermutation, IsSorted}
use Rattle.std.specs.Ordering.{is_lt, nat_cmp, ordering_then, eq_by_cmp}
use Rattle.std.specs.declared.cmp.Ordering.{Ordering}
use Rattle.outcome_fold.specs.declared.longest_times.KeptTime.{KeptTime}
use Rattle.outcome_fold.specs.Order.{text_cmp, table}

-- the longest of the id's times
abbrev pub longest_of : List (List ℕ × ℕ) → List ℕ → ℕ
longest_of [] id = 0
longest_of (one ∷ more) id = if eq_by_cmp text_cmp id one.0 then max one.1 (longest_of more id) else longest_of more id

-- each id that has one of the times, with its longest
abbrev pub longest_in : List (List ℕ × ℕ) → FinMap text_cmp ℕ
longest_in times = table {R = text_cmp} (longest_of times) (map (λ time. time.0) times)

-- an id and a time of it, as the code keeps them
abbrev pub kept_time : KeptTime → List ℕ × ℕ
kept_time kept = (kept.id, kept.nanos)

-- Two times, what was said of them, and what became of them: where both are of one id, the second one's became the longer of
-- both. Else they are as they were.
abbrev pub Joins : (next kept : List ℕ × ℕ) → Bool → (next_after kept_after : List ℕ × ℕ) → Type 0
Joins next kept true next_after kept_after = (next.0 ≡ kept.0) × (kept_after ≡ (kept.0, max kept.1 next.1))
Joins next kept false next_after kept_after = (next_after ≡ next) × (kept_after ≡ kept)

-- by id, and then by time
abbrev pub timed_cmp : List ℕ × ℕ → List ℕ × ℕ → Ordering
timed_cmp a b = ordering_then (text_cmp a.0 b.0) (nat_cmp a.1 b.1)

-- the same times by id, and then by time
pub record AreSorted (times sorted : List (List ℕ × ℕ)) : Type 0 where
  pub moved : IsPermutation times sorted
  pub ordered : IsSorted timed_cmp sorted

-- whether those behind begin with a greater id, or there are none
abbrev pub ends_before : List ℕ × ℕ → List (List ℕ × ℕ) → Bool
ends_before one [] = true
ends_before one (next ∷ more) = is_lt (text_cmp one.0 next.0)

-- of times in the order of their ids, the last of each id
abbrev pub last_of_each : List (List ℕ × ℕ) → List (List ℕ × ℕ)
last_of_each [] = []
last_of_each (one ∷ more) = if ends_before one more then one ∷ last_of_each more else last_of_each more
