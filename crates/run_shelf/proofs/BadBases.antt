-- A base that is not a good one is that of no repository, and no cause beside a gap.
use Rattle.std.proofs.Common.{inl, inr, Option, Some, None, IsSome, List, ℕ, ◌≡◌}
use Rattle.edge_io.specs.Disk.{Files}
use Rattle.run_shelf.specs.Repository.{HasGoodBase, HasBadBase, IsGap, partial_name}
use Rattle.run_shelf.proofs.BaseLemmas.{not_both}

not_there : (o : Option (List ℕ)) → o ≡ None → IsSome o → ⊥
not_there None none some = cc
not_there (Some bytes) none some = cc

pub bad_or_good : (files : Files) → HasBadBase files → HasGoodBase files → ⊥
bad_or_good files (inl lacks) good = not_both files lacks good.form
bad_or_good files (inr lacks) good = not_there (files (partial_name lacks.number)) lacks.none (good.old lacks.number lacks.counted)

pub bad_or_gap : (files : Files) (number : ℕ) → HasBadBase files → IsGap files number → ⊥
bad_or_gap files number bad gap = bad_or_good files bad gap.base
