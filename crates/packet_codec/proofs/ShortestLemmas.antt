-- The shortest spelling of a number.
use Rattle.std.proofs.Common.{◌≡◌, ℕ, zero, suc, ◌+◌, ◌-◌, ◌*◌, ◌<◌, ◌≤◌, ◌^◌, List, length, inl, inr, arith}
use Rattle.std.proofs.lemmas.Bool.{cases_lt}
use Rattle.std.proofs.lemmas.Bool.Decides.{nat_tests}
use Rattle.std.proofs.lemmas.List.{length-drop}
use Rattle.std.specs.Prelude.{drop}
use Rattle.std.specs.Int.{w32, to_be_bytes}
use Rattle.sub_number.specs.Numbers.{SpellsNumber, IsShortest, shortest_size, shortest_number}

pub shortest_size_range : (value : ℕ) → (1 ≤ shortest_size value) × (shortest_size value ≤ 4)
shortest_size_range value = (grind (arith, nat_tests), grind (arith, nat_tests))

pub length_shortest_number : (value : ℕ) → length (shortest_number value) ≡ shortest_size value
length_shortest_number value =
    let size = shortest_size value in
    omega (arith, shortest_size_range value, length-drop (4 - size) (to_be_bytes w32 ((size - 1) * 2 ^ (8 * size - 2) + value)))

-- a spelling of w bytes has no fewer than the least
pub shortest_size_least : (width value : ℕ) → 1 ≤ width → value < 2 ^ (8 * width - 2) → shortest_size value ≤ width
shortest_size_least zero value some fits = absurd (omega arith)
shortest_size_least (suc zero) value some fits = grind (arith, nat_tests)
shortest_size_least (suc (suc zero)) value some fits = grind (arith, nat_tests)
shortest_size_least (suc (suc (suc zero))) value some fits = grind (arith, nat_tests)
shortest_size_least (suc (suc (suc (suc width)))) value some fits = omega (arith, shortest_size_range value)

pub number_least : (value : ℕ) (others : List ℕ) → SpellsNumber others value → length (shortest_number value) ≤ length others
number_least value others spells = omega (arith, length_shortest_number value, shortest_size_least (length others) value spells.some spells.fits)

-- so many bytes spell each value that they have room for
spelled_in : (size value : ℕ) → 1 ≤ size → size ≤ 4 → value < 2 ^ (8 * size - 2) → SpellsNumber (drop (4 - size) (to_be_bytes w32 ((size - 1) * 2 ^ (8 * size - 2) + value))) value
spelled_in zero value some few fits = absurd (omega arith)
spelled_in (suc zero) value some few fits = record { some = omega arith; few = omega arith; fits = fits; digits = omega arith }
spelled_in (suc (suc zero)) value some few fits = record { some = omega arith; few = omega arith; fits = fits; digits = omega arith }
spelled_in (suc (suc (suc zero))) value some few fits = record { some = omega arith; few = omega arith; fits = fits; digits = omega arith }
spelled_in (suc (suc (suc (suc zero)))) value some few fits = record { some = omega arith; few = omega arith; fits = fits; digits = omega arith }
spelled_in (suc (suc (suc (suc (suc size))))) value some few fits = absurd (omega arith)

spelled_by : (size value : ℕ) → shortest_size value ≡ size → 1 ≤ size → size ≤ 4 → value < 2 ^ (8 * size - 2) → SpellsNumber (shortest_number value) value
spelled_by size value least some few fits = rw (← least) at (spelled_in size value some few fits)

pub shortest_spells : (value : ℕ) → value < 2 ^ 30 → SpellsNumber (shortest_number value) value
shortest_spells value small = elim (cases_lt value (2 ^ 6)) [
  | inl below ↦ spelled_by 1 value (grind (arith, nat_tests)) (omega arith) (omega arith) below
  | inr above ↦ elim (cases_lt value (2 ^ 14)) [
    | inl below ↦ spelled_by 2 value (grind (arith, nat_tests)) (omega arith) (omega arith) below
    | inr above ↦ elim (cases_lt value (2 ^ 22)) [
      | inl below ↦ spelled_by 3 value (grind (arith, nat_tests)) (omega arith) (omega arith) below
      | inr above ↦ spelled_by 4 value (grind (arith, nat_tests)) (omega arith) (omega arith) small
    ]
  ]
]

-- the shortest spelling spells, and is the shortest
pub shortest_is_shortest : (value : ℕ) → value < 2 ^ 30 → IsShortest (shortest_number value) value
shortest_is_shortest value small = record { spells = shortest_spells value small; least = number_least value }
