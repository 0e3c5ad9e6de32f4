-- Shares that are not empty.
use Rattle.std.proofs.Common.{◌≡◌, ℕ, ◌≤◌, not, List, length, ap, refl, arith}
use Rattle.std.specs.List.{filter}
use Rattle.std.proofs.lemmas.List.Filters.{length-filter_both}
use Rattle.partition_times.specs.Shares.{Ids}
use Rattle.suite_plan.specs.Sharing.{has_ids}

pub few_kept : (kept shares : List Ids) (n : ℕ) → kept ≡ filter has_ids shares → length shares ≡ n → length kept ≤ n
few_kept kept shares n is count = omega (arith, ap length is, length-filter_both has_ids (λ share. not (has_ids share)) (λ _. refl) shares)
