-- Counts of rows, one row more.
use Rattle.std.proofs.Common.{◌≡◌, ℕ, zero, suc, ◌+◌, ◌<◌, Bool, true, false, cond, ◌==◌, Option, Some, None, List, [], ◌∷◌, ◌++◌, map, refl, sym, ◌∙◌, ap, ap₂, arith}
use Rattle.std.specs.Prelude.{slice_set, slice_index_or}
use Rattle.std.specs.List.{filter, range_with_len}
use Rattle.std.proofs.lemmas.Bool.{eq-eqb, eqb-true}
use Rattle.std.proofs.lemmas.List.{append-nil}
use Rattle.std.proofs.lemmas.List.Elements.{filter-append}
use Rattle.outcome_fold.specs.declared.row.Counts.{Counts}
use Rattle.outcome_fold.specs.declared.row.Row.{Row}
use Rattle.live_text.specs.Live.{lane_shown}
use Rattle.live_text.specs.Totals.{sum_of, number_of_lane, is_lane, is_row_of_lane, rows_of_lane, sums_of_lanes, most_lanes}

decided : (b : Bool) → (b ≡ true → ⊥) → b ≡ false
decided true never = absurd (never refl)
decided false never = refl

-- the row is one of those that are counted, or it is not
pub filter_push : (p : Row → Bool) (rows : List Row) (row : Row) (b : Bool) → p row ≡ b → filter p (rows ++ row ∷ []) ≡ filter p rows ++ cond b (row ∷ []) []
filter_push p rows row b is = filter-append p rows (row ∷ []) ∙ ap (λ (c : Bool). filter p rows ++ cond c (row ∷ []) []) is

pub counted_in : (p : Row → Bool) (rows : List Row) (row : Row) (next : Counts) → p row ≡ true → next ≡ sum_of (filter p rows ++ row ∷ []) → next ≡ sum_of (filter p (rows ++ row ∷ []))
counted_in p rows row next is sum = sum ∙ ap sum_of (sym (filter_push p rows row true is))

pub left_out : (p : Row → Bool) (rows : List Row) (row : Row) (sum : Counts) → p row ≡ false → sum ≡ sum_of (filter p rows) → sum ≡ sum_of (filter p (rows ++ row ∷ []))
left_out p rows row sum is same = same ∙ ap sum_of (sym (append-nil (filter p rows)) ∙ sym (filter_push p rows row false is))

-- Lanes.

same_number : (n : ℕ) → (n == n) ≡ true
same_number n = eq-eqb n n refl

not_same : (lane j : ℕ) → (j ≡ lane → ⊥) → (lane == j) ≡ false
not_same lane j other = decided (lane == j) (λ yes. other (sym (eqb-true lane j yes)))

same_map : {A : Type 0} (f g : ℕ → A) (a n : ℕ) → ((j : ℕ) → a < j + 1 → g j ≡ f j) → map f (range_with_len a n) ≡ map g (range_with_len a n)
same_map f g a zero same = refl
same_map f g a (suc n) same = ap₂ ◌∷◌ (sym (same a (omega arith))) (same_map f g (a + 1) n (λ j above. same j (omega (arith, above))))

-- the function changes at one place alone
set_map : {A : Type 0} (f g : ℕ → A) (a n k : ℕ) → k < n → ((j : ℕ) → (j ≡ a + k → ⊥) → g j ≡ f j) → slice_set (map f (range_with_len a n)) k (g (a + k)) ≡ map g (range_with_len a n)
set_map f g a zero k below other = absurd (omega (arith, below))
set_map f g a (suc n) zero below other =
    let first : a + 0 ≡ a = omega arith in
    ap₂ ◌∷◌ (ap g first) (same_map f g (a + 1) n (λ j above. other j (λ is. omega (arith, above, is))))
set_map f g a (suc n) (suc k) below other =
    let there : a + suc k ≡ a + 1 + k = omega arith in
    ap₂ ◌∷◌ (sym (other a (λ is. omega (arith, is)))) (ap (λ m. slice_set (map f (range_with_len (a + 1) n)) k (g m)) there ∙ set_map f g (a + 1) n k (omega (arith, below)) (λ j not_there. other j (λ is. not_there (is ∙ there))))

at_place : {A : Type 0} (f : ℕ → A) (a n k : ℕ) (d : A) → k < n → slice_index_or (map f (range_with_len a n)) k d ≡ f (a + k)
at_place f a zero k d below = absurd (omega (arith, below))
at_place f a (suc n) zero d below = let first : a ≡ a + 0 = omega arith in ap f first
at_place f a (suc n) (suc k) d below = let there : a + 1 + k ≡ a + suc k = omega arith in at_place f (a + 1) n k d (omega (arith, below)) ∙ ap f there

-- what is counted of a lane
pub of_this_lane : (rows : List Row) (lanes : List Counts) (lane : ℕ) (d : Counts) → lanes ≡ sums_of_lanes rows → lane < most_lanes → slice_index_or lanes lane d ≡ sum_of (rows_of_lane lane rows)
of_this_lane rows lanes lane d is below =
    let there : 0 + lane ≡ lane = omega arith in
    ap (λ l. slice_index_or l lane d) is ∙ at_place (λ k. sum_of (rows_of_lane k rows)) 0 most_lanes lane d below ∙ ap (λ k. sum_of (rows_of_lane k rows)) there

other_lane : (number : Option ℕ) (lane j : ℕ) → number ≡ Some lane → (j ≡ lane → ⊥) → is_lane j number ≡ false
other_lane number lane j is other = ap (is_lane j) is ∙ not_same lane j other

-- one row more of this lane
pub lane_counted : (rows : List Row) (row : Row) (lanes : List Counts) (lane : ℕ) (next : Counts)
    → number_of_lane (lane_shown row.route) ≡ Some lane → lane < most_lanes → lanes ≡ sums_of_lanes rows → next ≡ sum_of (rows_of_lane lane rows ++ row ∷ [])
    → slice_set lanes lane next ≡ sums_of_lanes (rows ++ row ∷ [])
lane_counted rows row lanes lane next number below is sum =
    let there : 0 + lane ≡ lane = omega arith in
    ap (λ l. slice_set l lane next) is
    ∙ ap (slice_set (sums_of_lanes rows) lane) (counted_in (is_row_of_lane lane) rows row next (ap (is_lane lane) number ∙ same_number lane) sum ∙ ap (λ k. sum_of (rows_of_lane k (rows ++ row ∷ []))) (sym there))
    ∙ set_map (λ k. sum_of (rows_of_lane k rows)) (λ k. sum_of (rows_of_lane k (rows ++ row ∷ []))) 0 most_lanes lane below
    (λ j other. sym (left_out (is_row_of_lane j) rows row (sum_of (rows_of_lane j rows)) (other_lane (number_of_lane (lane_shown row.route)) lane j number (λ same. other (same ∙ sym there))) refl))

-- one row more of no lane
pub lane_passed : (rows : List Row) (row : Row) (lanes : List Counts) → number_of_lane (lane_shown row.route) ≡ None → lanes ≡ sums_of_lanes rows → lanes ≡ sums_of_lanes (rows ++ row ∷ [])
lane_passed rows row lanes none is =
    is ∙ same_map (λ k. sum_of (rows_of_lane k rows)) (λ k. sum_of (rows_of_lane k (rows ++ row ∷ []))) 0 most_lanes
    (λ j above. sym (left_out (is_row_of_lane j) rows row (sum_of (rows_of_lane j rows)) (ap (is_lane j) none) refl))
