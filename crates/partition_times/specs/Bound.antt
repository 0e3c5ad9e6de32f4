-- How far the largest share is from the best, by the known times: Graham's bound on scheduling in a list's order.
use Rattle.std.specs.Prelude.{ℕ, ◌+◌, ◌-◌, ◌*◌, ◌<◌, ◌==◌, ◌≤◌, max, List, map}
use Rattle.std.specs.List.{filter, fold, range_with_len}
use Rattle.partition_times.specs.Names.{group_names, members}
use Rattle.partition_times.specs.Shares.{Ids, Times, known_time}

-- the largest of the numbers
abbrev pub largest : List ℕ → ℕ
largest numbers = fold max 0 numbers

-- the largest time of a share
abbrev pub largest_share : Times → List Ids → ℕ
largest_share times shares = largest (map (known_time times) shares)

-- the time of the longest group
abbrev pub longest_group : Times → (List ℕ → List ℕ) → Ids → ℕ
longest_group times name_of ids = largest (map (λ name. known_time times (members name_of ids name)) (group_names name_of ids))

-- the ids of the share with this index, where each group goes to the share that its name is assigned to
abbrev pub assigned_share : (List ℕ → ℕ) → (List ℕ → List ℕ) → Ids → ℕ → Ids
assigned_share assigned name_of ids index = filter (λ id. assigned (name_of id) == index) ids

-- all the shares of a division of the groups among so many workers
abbrev pub division : (List ℕ → ℕ) → (List ℕ → List ℕ) → Ids → ℕ → List Ids
division assigned name_of ids workers = map (assigned_share assigned name_of ids) (range_with_len 0 workers)

-- so many times the largest share is at most the time of all, and the longest group for each share but one
abbrev pub IsWithinBound : Times → (List ℕ → List ℕ) → Ids → ℕ → List Ids → Type 0
IsWithinBound times name_of ids workers shares =
    workers * largest_share times shares ≤ known_time times ids + (workers - 1) * longest_group times name_of ids

-- and at most 2 * workers - 1 times the largest share of any division of the same groups
abbrev pub IsNearBest : Times → (List ℕ → List ℕ) → Ids → ℕ → List Ids → Type 0
IsNearBest times name_of ids workers shares =
    (assigned : List ℕ → ℕ) → ((name : List ℕ) → assigned name < workers) →
    workers * largest_share times shares ≤ (2 * workers - 1) * largest_share times (division assigned name_of ids workers)
