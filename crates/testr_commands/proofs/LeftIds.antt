-- Where no id is left to run, there is no share, and so no job that could be refused.
use Rattle.std.proofs.Common.{◌≡◌, ℕ, ◌<◌, Bool, true, false, cond, Option, List, [], ◌∷◌, ◌==◌, refl, arith}
use Rattle.std.specs.List.{filter, sum_by}
use Rattle.std.proofs.lemmas.List.Sums.{sum_by-cons}
use Rattle.partition_times.specs.Names.{group_of}
use Rattle.partition_times.specs.Shares.{Ids, Times, shares_of}
use Rattle.partition_times.proofs.LawLemmas.{sum_of_shares}
use Rattle.suite_plan.specs.Sharing.{has_ids, shares_for}

abbrev how_many : Ids → ℕ
how_many ids = sum_by (λ id. 1) ids

none_left : (shares : List Ids) → sum_by how_many shares ≡ 0 → filter has_ids shares ≡ []
none_left [] is = refl
none_left ([] ∷ shares) is = none_left shares (omega (arith, is, sum_by-cons how_many [] shares))
none_left ((id ∷ ids) ∷ shares) is = absurd (omega (arith, is, sum_by-cons how_many (id ∷ ids) shares, sum_by-cons (λ (x : List ℕ). 1) id ids))

none_of : (one : Bool) (shares : List Ids) → sum_by how_many shares ≡ 0 → filter has_ids (cond one ([] ∷ []) shares) ≡ []
none_of true shares is = refl
none_of false shares is = none_left shares is

pub no_shares : (times : Times) (groups : Option (List ℕ)) (workers : ℕ) → 0 < workers → shares_for times groups [] workers ≡ []
no_shares times groups workers some = none_of (workers == 1) (shares_of times (group_of groups) [] workers) (sum_of_shares times (group_of groups) [] (λ id. 1) workers some)
