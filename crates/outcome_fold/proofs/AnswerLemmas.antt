-- What rows say, row by row.
use Rattle.std.proofs.Common.{◌≡◌, ℕ, ◌+◌, ◌<◌, Bool, true, false, ◌&&◌, ◌||◌, not, cond, List, [], ◌∷◌, ◌++◌, Option, Some, None, take, length, get_or, is_some, max, refl, sym, ◌∙◌, ap, append_assoc, arith, true≢false}
use Rattle.std.specs.Ordering.{eq_by_cmp}
use Rattle.std.specs.Option.{unwrap_or}
use Rattle.std.specs.Cmp.{eq_by_cmp_equiv}
use Rattle.std.specs.FinMap as fin
use Rattle.std.specs.List.{filter, list_any, flat_map}
use Rattle.std.proofs.lemmas.List.Elements.{filter_more}
use Rattle.outcome_fold.specs.declared.row.Row.{Row}
use Rattle.outcome_fold.specs.Order.{text_cmp, table, among, in_byte_order, without}
use Rattle.outcome_fold.specs.Answers.{ids_of, row_fails, failing_of, seen_tags_of, has_failure, passed_of, is_run, longest, longest_times, times_of}
use Rattle.outcome_fold.proofs.SetLemmas.{among_order, order_push, order_append, without_more, without_order}
use Rattle.outcome_fold.proofs.FoldLemmas.{append_none}
use Rattle.outcome_fold.proofs.GroupLemmas.{map_push}
use Rattle.outcome_fold.proofs.OrderLemmas.{texts_total, exact_texts}
use Rattle.outcome_fold.proofs.TableLemmas.{get-table, table_push}

-- one row more among those that pass a test
pub filter_at : (p : Row → Bool) (rows : List Row) (i : ℕ) (row : Row) → i < length rows → row ≡ get_or rows i row → filter p (take (i + 1) rows) ≡ filter p (take i rows) ++ cond (p row) (row ∷ []) []
filter_at p rows i row below is = filter_more p rows i row below ∙ ap (λ x. filter p (take i rows) ++ cond (p x) (x ∷ []) []) (sym is)

pub set_takes : (p : Row → Bool) (rows : List Row) (i : ℕ) (row : Row) → i < length rows → row ≡ get_or rows i row → p row ≡ true → in_byte_order (row.id ∷ in_byte_order (ids_of (filter p (take i rows)))) ≡ in_byte_order (ids_of (filter p (take (i + 1) rows)))
set_takes p rows i row below is passes =
    order_push (ids_of (filter p (take i rows))) row.id ∙ ap in_byte_order (sym (map_push (λ row. row.id) (filter p (take i rows)) row))
    ∙ ap (λ l. in_byte_order (ids_of l)) (sym (filter_at p rows i row below is ∙ ap (λ b. filter p (take i rows) ++ cond b (row ∷ []) []) passes))

pub set_skips : (p : Row → Bool) (rows : List Row) (i : ℕ) (row : Row) → i < length rows → row ≡ get_or rows i row → p row ≡ false → in_byte_order (ids_of (filter p (take i rows))) ≡ in_byte_order (ids_of (filter p (take (i + 1) rows)))
set_skips p rows i row below is fails =
    ap (λ l. in_byte_order (ids_of l)) (sym (filter_at p rows i row below is ∙ ap (λ b. filter p (take i rows) ++ cond b (row ∷ []) []) fails ∙ append_none (filter p (take i rows))))

-- the same of the ids that are taken out of a set
pub taken_out : (p : Row → Bool) (old : List (List ℕ)) (rows : List Row) (i : ℕ) (row : Row) → i < length rows → row ≡ get_or rows i row → p row ≡ true → without (without old (ids_of (filter p (take i rows)))) (row.id ∷ []) ≡ without old (ids_of (filter p (take (i + 1) rows)))
taken_out p old rows i row below is passes =
    without_more old (ids_of (filter p (take i rows))) row.id ∙ ap (without old) (sym (map_push (λ row. row.id) (filter p (take i rows)) row))
    ∙ ap (λ l. without old (ids_of l)) (sym (filter_at p rows i row below is ∙ ap (λ b. filter p (take i rows) ++ cond b (row ∷ []) []) passes))

pub left_in : (p : Row → Bool) (old : List (List ℕ)) (rows : List Row) (i : ℕ) (row : Row) → i < length rows → row ≡ get_or rows i row → p row ≡ false → without old (ids_of (filter p (take i rows))) ≡ without old (ids_of (filter p (take (i + 1) rows)))
left_in p old rows i row below is fails =
    ap (λ l. without old (ids_of l)) (sym (filter_at p rows i row below is ∙ ap (λ b. filter p (take i rows) ++ cond b (row ∷ []) []) fails ∙ append_none (filter p (take i rows))))

fails_at : (rows : List Row) (id : List ℕ) → list_any (eq_by_cmp text_cmp id) (ids_of (filter row_fails rows)) ≡ has_failure rows id
fails_at [] id = refl
fails_at (row ∷ rows) id = elim (row_fails row) as (λ b. list_any (eq_by_cmp text_cmp id) (ids_of (cond b (row ∷ filter row_fails rows) (filter row_fails rows))) ≡ ((b && eq_by_cmp text_cmp id row.id) || has_failure rows id)) [ true ↦ ap (λ b. eq_by_cmp text_cmp id row.id || b) (fails_at rows id) | false ↦ fails_at rows id ]

-- an id is among the failing ones exactly where a row of the id fails
pub among_failing : (rows : List Row) (id : List ℕ) → among (failing_of rows) id ≡ has_failure rows id
among_failing rows id = among_order (ids_of (filter row_fails rows)) id ∙ fails_at rows id

tags_push : (rows : List Row) (row : Row) → flat_map (λ row. row.tags) (rows ++ row ∷ []) ≡ flat_map (λ row. row.tags) rows ++ row.tags
tags_push [] row = append_none row.tags
tags_push (first ∷ rows) row = ap (λ l. first.tags ++ l) (tags_push rows row) ∙ sym (append_assoc first.tags (flat_map (λ row. row.tags) rows) row.tags)

pub tags_take : (rows : List Row) (i : ℕ) (row : Row) (old own new : List (List ℕ)) → i < length rows → row ≡ get_or rows i row → is_run row ≡ true
    → old ≡ seen_tags_of (take i rows) → own ≡ row.tags → new ≡ in_byte_order (old ++ own) → new ≡ seen_tags_of (take (i + 1) rows)
tags_take rows i row old own new below is runs old-is own-is new-is =
    new-is ∙ (λ j. in_byte_order (old-is j ++ own-is j))
    ∙ order_append (flat_map (λ row. row.tags) (filter is_run (take i rows))) row.tags ∙ ap in_byte_order (sym (tags_push (filter is_run (take i rows)) row))
    ∙ ap (λ l. in_byte_order (flat_map (λ row. row.tags) l)) (sym (filter_at is_run rows i row below is ∙ ap (λ b. filter is_run (take i rows) ++ cond b (row ∷ []) []) runs))

pub tags_skip : (rows : List Row) (i : ℕ) (row : Row) → i < length rows → row ≡ get_or rows i row → is_run row ≡ false → seen_tags_of (take i rows) ≡ seen_tags_of (take (i + 1) rows)
tags_skip rows i row below is stays =
    ap (λ l. in_byte_order (flat_map (λ row. row.tags) l)) (sym (filter_at is_run rows i row below is ∙ ap (λ b. filter is_run (take i rows) ++ cond b (row ∷ []) []) stays ∙ append_none (filter is_run (take i rows))))

longest_other : (ts : List Row) (row : Row) (id : List ℕ) → eq_by_cmp text_cmp id row.id ≡ false → longest (ts ++ row ∷ []) id ≡ longest ts id
longest_other [] row id other = ap (λ b. cond b (max (unwrap_or row.nanos 0) 0) 0) other
longest_other (t ∷ ts) row id other = ap (λ n. cond (eq_by_cmp text_cmp id t.id) (max (unwrap_or t.nanos 0) n) n) (longest_other ts row id other)

max_swap : (a b n : ℕ) → max a (max b n) ≡ max b (max a n)
max_swap a b n = omega arith

longest_same : (ts : List Row) (row : Row) (id : List ℕ) → eq_by_cmp text_cmp id row.id ≡ true → longest (ts ++ row ∷ []) id ≡ max (unwrap_or row.nanos 0) (longest ts id)
longest_same [] row id same = ap (λ b. cond b (max (unwrap_or row.nanos 0) 0) 0) same
longest_same (t ∷ ts) row id same =
    ap (λ n. cond (eq_by_cmp text_cmp id t.id) (max (unwrap_or t.nanos 0) n) n) (longest_same ts row id same)
    ∙ elim (eq_by_cmp text_cmp id t.id) as (λ b. cond b (max (unwrap_or t.nanos 0) (max (unwrap_or row.nanos 0) (longest ts id))) (max (unwrap_or row.nanos 0) (longest ts id)) ≡ max (unwrap_or row.nanos 0) (cond b (max (unwrap_or t.nanos 0) (longest ts id)) (longest ts id))) [ true ↦ max_swap (unwrap_or t.nanos 0) (unwrap_or row.nanos 0) (longest ts id) | false ↦ refl ]

longest_none : (ts : List Row) (id : List ℕ) → list_any (eq_by_cmp text_cmp id) (ids_of ts) ≡ false → longest ts id ≡ 0
longest_none [] id none = refl
longest_none (t ∷ ts) id none = elim (eq_by_cmp text_cmp id t.id) as (λ b. (b || list_any (eq_by_cmp text_cmp id) (ids_of ts)) ≡ false → cond b (max (unwrap_or t.nanos 0) (longest ts id)) (longest ts id) ≡ 0) [ true ↦ λ never. absurd (true≢false never) | false ↦ longest_none ts id ] none

longest_at : (ts : List Row) (id : List ℕ) (b : Bool) → list_any (eq_by_cmp text_cmp id) (ids_of ts) ≡ b → unwrap_or (cond b (Some (longest ts id)) None) 0 ≡ longest ts id
longest_at ts id true some = refl
longest_at ts id false none = sym (longest_none ts id none)

-- the longest times with one row more
pub longest_times_push : (ts : List Row) (row : Row) (n : ℕ) → row.nanos ≡ Some n → longest_times (ts ++ row ∷ []) ≡ fin.insert (longest_times ts) row.id (max n (unwrap_or (fin.get (longest_times ts) row.id) 0))
longest_times_push ts row n some =
    ap (table {R = text_cmp} (longest (ts ++ row ∷ []))) (map_push (λ row. row.id) ts row)
    ∙ table_push texts_total exact_texts (longest ts) (longest (ts ++ row ∷ [])) (ids_of ts) row.id (λ q other among. longest_other ts row q other)
    ∙ ap (fin.insert (longest_times ts) row.id)
    (longest_same ts row row.id ((eq_by_cmp_equiv texts_total).refl row.id)
    ∙ ap (λ t. max (unwrap_or t 0) (longest ts row.id)) some
    ∙ ap (max n) (sym (ap (λ t. unwrap_or t 0) (get-table texts_total exact_texts (longest ts) (ids_of ts) row.id) ∙ longest_at ts row.id _ refl)))

timed_both : (b : Bool) (o : Option ℕ) (n : ℕ) → Some n ≡ cond b o None → ((b && is_some o) ≡ true) × (o ≡ Some n)
timed_both true o n is = (ap is_some (sym is), sym is)
timed_both false o n is = absurd (true≢false (ap is_some is))

timed_neither : (b : Bool) (o : Option ℕ) → None ≡ cond b o None → (b && is_some o) ≡ false
timed_neither true o is = ap is_some (sym is)
timed_neither false o is = refl

abbrev is_timed : Row → Bool
is_timed row = is_run row && is_some row.nanos

pub timed_takes : (rows : List Row) (i : ℕ) (row : Row) (n : ℕ) → i < length rows → row ≡ get_or rows i row → Some n ≡ cond (is_run row) row.nanos None → times_of (take (i + 1) rows) ≡ fin.insert (times_of (take i rows)) row.id (max n (unwrap_or (fin.get (times_of (take i rows)) row.id) 0))
timed_takes rows i row n below is some =
    let both = timed_both (is_run row) row.nanos n some in
    ap longest_times (filter_at is_timed rows i row below is ∙ ap (λ b. filter is_timed (take i rows) ++ cond b (row ∷ []) []) both.0)
    ∙ longest_times_push (filter is_timed (take i rows)) row n both.1

pub timed_skips : (rows : List Row) (i : ℕ) (row : Row) → i < length rows → row ≡ get_or rows i row → None ≡ cond (is_run row) row.nanos None → times_of (take (i + 1) rows) ≡ times_of (take i rows)
timed_skips rows i row below is none =
    ap longest_times (filter_at is_timed rows i row below is ∙ ap (λ b. filter is_timed (take i rows) ++ cond b (row ∷ []) []) (timed_neither (is_run row) row.nanos none) ∙ append_none (filter is_timed (take i rows)))

-- what a partial run makes of the failing ids
pub changed : (rows : List Row) (failing ids old kept new : List (List ℕ)) → failing ≡ failing_of rows → ids ≡ failing → kept ≡ without old (ids_of (filter (λ row. is_run row && not (among failing row.id)) rows)) → new ≡ in_byte_order (kept ++ ids) → new ≡ in_byte_order (without old (passed_of rows) ++ failing_of rows)
changed rows failing ids old kept new failing-is ids-is kept-is new-is =
    new-is ∙ (λ i. in_byte_order (kept-is i ++ (ids-is ∙ failing-is) i))
    ∙ ap (λ l. in_byte_order (without old (ids_of l) ++ failing_of rows)) (λ i. filter (λ row. is_run row && not ((ap (λ l. among l row.id) failing-is ∙ among_failing rows row.id) i)) rows)
    ∙ ap (λ l. in_byte_order (l ++ failing_of rows)) (sym (without_order old (ids_of (filter (λ row. is_run row && not (has_failure rows row.id)) rows))))
