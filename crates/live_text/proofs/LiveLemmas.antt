-- The lines of the rows of a run, row by row and event by event.
use Rattle.std.proofs.Common.{◌≡◌, ℕ, zero, suc, ◌+◌, ◌%◌, ◌<◌, Bool, true, false, not, cond, List, [], ◌∷◌, ◌++◌, take, length, refl, sym, ◌∙◌, ap, append_assoc, arith}
use Rattle.std.specs.Prelude.{codes, nat_eq, slice_index}
use Rattle.std.specs.Option.{option_to_list}
use Rattle.std.specs.List.{filter, flat_map, take_while}
use Rattle.std.proofs.lemmas.List.{append-nil, length-append}
use Rattle.std.proofs.lemmas.List.Elements.{filter-append}
use Rattle.std.proofs.lemmas.List.Sums.{take_while-cons}
use Rattle.packet_codec.specs.Lanes.{lane_name}
use Rattle.packet_codec.specs.declared.event.Event.{Event}
use Rattle.outcome_fold.specs.Answers.{is_run}
use Rattle.outcome_fold.specs.Rows.{completed_row, completed_behind, completed_rows}
use Rattle.outcome_fold.specs.declared.row.Row.{Row}
use Rattle.live_text.specs.Live.{line_behind_blanks, live_line, live_lines, rows_done, live_so_far, printed_behind, live_rows}
use Rattle.live_text.specs.declared.live.Live.{Live}

-- ---- the lane of a route

abbrev is_inner : ℕ → Bool
is_inner byte = not (nat_eq byte 47)

other : (b : Bool) → (b ≡ true → ⊥) → b ≡ false
other true never = absurd (never refl)
other false never = refl

first_one : (x : ℕ) (xs : List ℕ) (b : Bool) → nat_eq x 47 ≡ b → lane_name (x ∷ xs) ≡ cond (not b) (x ∷ lane_name xs) []
first_one x xs b is = take_while-cons is_inner x xs ∙ ap (λ b. cond (not b) (x ∷ take_while is_inner xs) []) is

-- a route with a slash, and none before it
pub name_until : (xs : List ℕ) (k : ℕ) → k < length xs → nat_eq (slice_index xs k) 47 ≡ true → ((j : ℕ) → j < k → nat_eq (slice_index xs j) 47 ≡ true → ⊥) → take k xs ≡ lane_name xs
name_until [] k below is before = absurd (omega (arith, below))
name_until (x ∷ xs) zero below is before = sym (first_one x xs true is)
name_until (x ∷ xs) (suc k) below is before =
    ap (λ l. x ∷ l) (name_until xs k (omega (arith, below)) is (λ j less. before (suc j) (omega (arith, less))))
    ∙ sym (first_one x xs false (other (nat_eq x 47) (before 0 (omega arith))))

-- a route without a slash
pub name_whole : (xs : List ℕ) → ((j : ℕ) → j < length xs → nat_eq (slice_index xs j) 47 ≡ true → ⊥) → xs ≡ lane_name xs
name_whole [] none = refl
name_whole (x ∷ xs) none =
    ap (λ l. x ∷ l) (name_whole xs (λ j less. none (suc j) (omega (arith, less))))
    ∙ sym (first_one x xs false (other (nat_eq x 47) (none 0 (omega arith))))

-- ---- lines behind blanks

abbrev all_behind : List (List ℕ) → List ℕ
all_behind lines = flat_map line_behind_blanks lines

-- of the lines the last ones are left, and the others were written
pub record Indenting (old new : List ℕ) (lines left : List (List ℕ)) : Type 0 where
  pub done : List ℕ
  pub new_is : new ≡ old ++ done
  pub parts : all_behind lines ≡ done ++ all_behind left

pub none_written : (old new : List ℕ) (lines left : List (List ℕ)) → new ≡ old → left ≡ lines → Indenting old new lines left
none_written old new lines left same all = record { done = []; new_is = same ∙ sym (append-nil old); parts = ap all_behind (sym all) }

pub one_written : (old new blanks next : List ℕ) (lines left rest : List (List ℕ)) (line : List ℕ) → Indenting old new lines left → left ≡ line ∷ rest → blanks ≡ new ++ codes "    " → next ≡ blanks ++ line → Indenting old next lines rest
one_written old new blanks next lines left rest line h first front behind = record {
  done = h.done ++ line_behind_blanks line;
  new_is = behind ∙ ap (λ l. l ++ line) (front ∙ ap (λ l. l ++ codes "    ") h.new_is) ∙ append_assoc (old ++ h.done) (codes "    ") line ∙ append_assoc old h.done (line_behind_blanks line);
  parts = h.parts ∙ ap (λ l. h.done ++ all_behind l) first ∙ sym (append_assoc h.done (line_behind_blanks line) (all_behind rest));
}

pub all_written : (old new next end : List ℕ) (lines left : List (List ℕ)) → Indenting old new lines left → left ≡ [] → next ≡ new ++ end → next ≡ old ++ (all_behind lines ++ end)
all_written old new next end lines left h none is =
    is ∙ ap (λ l. l ++ end) (h.new_is ∙ ap (λ l. old ++ l) (sym (append-nil h.done) ∙ ap (λ l. h.done ++ all_behind l) (sym none) ∙ sym h.parts))
    ∙ append_assoc old (all_behind lines) end

-- ---- what is printed grows

pub lines_append : (kind : Live) (n : ℕ) (xs ys : List Row) → live_lines kind n (xs ++ ys) ≡ live_lines kind n xs ++ live_lines kind (n + length xs) ys
lines_append kind n [] ys =
    let same : n ≡ n + 0 = omega arith in
    ap (λ m. live_lines kind m ys) same
lines_append kind n (x ∷ xs) ys =
    let same : n + 1 + length xs ≡ n + length (x ∷ xs) = omega arith in
    ap (λ l. live_line kind (n % 70) x ++ l) (lines_append kind (n + 1) xs ys ∙ ap (λ m. live_lines kind (n + 1) xs ++ live_lines kind m ys) same)
    ∙ sym (append_assoc (live_line kind (n % 70) x) (live_lines kind (n + 1) xs) (live_lines kind (n + length (x ∷ xs)) ys))

completed_more : (seen front more : List Event) → completed_behind seen (front ++ more) ≡ completed_behind seen front ++ completed_behind (seen ++ front) more
completed_more seen [] more = ap (λ s. completed_behind s more) (sym (append-nil seen))
completed_more seen (e ∷ es) more =
    ap (λ l. option_to_list (completed_row seen e) ++ l) (completed_more (seen ++ e ∷ []) es more ∙ ap (λ s. completed_behind (seen ++ e ∷ []) es ++ completed_behind s more) (append_assoc seen (e ∷ []) es))
    ∙ sym (append_assoc (option_to_list (completed_row seen e)) (completed_behind (seen ++ e ∷ []) es) (completed_behind (seen ++ e ∷ es) more))

pub rows_more : (front more : List Event) → rows_done (front ++ more) ≡ rows_done front ++ filter is_run (completed_behind front more)
rows_more front more = ap (filter is_run) (completed_more [] front more) ∙ filter-append is_run (completed_rows front) (completed_behind front more)

pub grows : (kind : Live) (front more : List Event) → live_so_far kind (front ++ more) ≡ live_so_far kind front ++ live_rows kind (length (rows_done front)) (completed_behind front more)
grows kind front more =
    let same : 0 + length (rows_done front) ≡ length (rows_done front) = omega arith in
    ap (live_lines kind 0) (rows_more front more) ∙ lines_append kind 0 (rows_done front) (filter is_run (completed_behind front more))
    ∙ ap (λ n. live_so_far kind front ++ live_lines kind n (filter is_run (completed_behind front more))) same

one_more : (seen : List Event) (e : Event) → completed_behind seen (e ∷ []) ≡ option_to_list (completed_row seen e)
one_more seen e = append-nil (option_to_list (completed_row seen e))

pub steps : (kind : Live) (seen : List Event) (e : Event) → live_so_far kind (seen ++ e ∷ []) ≡ live_so_far kind seen ++ live_rows kind (length (rows_done seen)) (option_to_list (completed_row seen e))
steps kind seen e = grows kind seen (e ∷ []) ∙ ap (λ rows. live_so_far kind seen ++ live_rows kind (length (rows_done seen)) rows) (one_more seen e)

pub counts : (seen : List Event) (e : Event) → length (rows_done (seen ++ e ∷ [])) ≡ printed_behind (length (rows_done seen)) (option_to_list (completed_row seen e))
counts seen e =
    ap length (rows_more seen (e ∷ [])) ∙ length-append (rows_done seen) (filter is_run (completed_behind seen (e ∷ [])))
    ∙ ap (λ rows. length (rows_done seen) + length (filter is_run rows)) (one_more seen e)
