-- The bytes of a base.
use Rattle.std.proofs.Common.{◌≡◌, ℕ, ◌≤◌, List, Result, Ok, Err, OnOk, All, arith}
use Rattle.std.specs.Prelude.{IfOk}
use Rattle.std.specs.Cmp.Lexicographic.{slice_cmp}
use Rattle.std.specs.List.Sorted.{IsStrictlySortedBy}
use Rattle.std.specs.Ordering.{nat_cmp}
use Rattle.sub_number.specs.Texts.{IsShortText}
use Rattle.run_shelf.specs.Bases.{Base, base_title, base_in, IsBase, HoldsBase}
use Rattle.run_shelf.specs.IdFiles.{id_file}
use Rattle.run_shelf.proofs.BaseLemmas.{tells, holds}

module _ (count : ℕ) (ids : List (List ℕ)) (few : count ≤ 1000000) (ordered : IsStrictlySortedBy (slice_cmp nat_cmp) ids) where
  abbrev base : Base
  base = record { count = count; ids = ids }

  is_base : (bytes : List ℕ) → bytes ≡ id_file base_title count ids → All IsShortText ids → IsBase bytes base
  is_base bytes is texts = record { file = record { is = is; small = omega (arith, few); are = record { texts = texts; ordered = ordered } }; few = few }

  module _ {E : Type 0} where
    pub all_hold : (r : Result (List ℕ) E) → IfOk r (λ bytes. bytes ≡ id_file base_title count ids) → OnOk r (All IsShortText ids) → IfOk r HoldsBase
    all_hold (Ok bytes) is texts = holds bytes base (is_base bytes is texts)
    all_hold (Err fault) is texts = tt

    pub all_tell : (r : Result (List ℕ) E) → IfOk r (λ bytes. bytes ≡ id_file base_title count ids) → OnOk r (All IsShortText ids) → IfOk r (λ bytes. base_in bytes ≡ base)
    all_tell (Ok bytes) is texts = tells bytes base (is_base bytes is texts)
    all_tell (Err fault) is texts = tt
