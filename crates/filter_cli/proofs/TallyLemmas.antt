-- What is counted of tests as they end, whatever the order of their rows.
use Rattle.std.proofs.Common.{◌≡◌, ℕ, ◌+◌, ◌≤◌, Bool, true, false, true≢false, not, ◌&&◌, ◌||◌, cond, nat_lt, List, [], ◌∷◌, ◌++◌, map, count_by, filter, flat_map, length, refl, sym, ap, ◌∙◌, append-nil, arith}
use Rattle.std.specs.List.{list_any}
use Rattle.std.specs.Ordering.{eq_by_cmp}
use Rattle.std.proofs.lemmas.List.Sums.{length-filter}
use Rattle.std.proofs.lemmas.List.Elements.{filter-append}
use Rattle.std.proofs.lemmas.List.Folds.{list_any-append}
use Rattle.std.proofs.lemmas.Grind.{flat_map-append}
use Rattle.packet_codec.specs.declared.event.Event.{Event}
use Rattle.outcome_fold.specs.declared.row.Ended.{Ended}
use Rattle.outcome_fold.specs.declared.row.Ended.TheVariants as ended
use Rattle.outcome_fold.specs.declared.row.Row.{Row}
use Rattle.outcome_fold.specs.declared.row.Counts.{Counts}
use Rattle.outcome_fold.specs.Order.{text_cmp, in_byte_order, among}
use Rattle.outcome_fold.specs.Rows.{is_failure, is_skip, completed_rows, open_rows, rows_of}
use Rattle.outcome_fold.specs.Answers.{is_existing, is_run, is_counted, row_passes, row_fails, is_skipped, seen_tags_of, counts_of}
use Rattle.outcome_fold.proofs.TotalLemmas.{total, total_is, total_append}
use Rattle.outcome_fold.proofs.LawLemmas.{as_many}
use Rattle.outcome_fold.proofs.SetLemmas.{same_order, among_order, among_both, order_append}
use Rattle.sub_text.specs.Listed.{counts_lines}
use Rattle.filter_cli.specs.declared.tally.Kind.{Kind}
use Rattle.filter_cli.specs.declared.tally.Kind.TheVariants as kind
use Rattle.filter_cli.specs.Tally.{is_of, is_pass, AreCounts}

-- ---- the tags

abbrev tags_in : Row → List (List ℕ)
tags_in row = row.tags

-- the tags of the tests that ran
abbrev run_tags : List Row → List (List ℕ)
run_tags rows = flat_map tags_in (filter is_run rows)

tags_push : (rows : List Row) (row : Row) (b : Bool) → is_run row ≡ b → run_tags (rows ++ row ∷ []) ≡ run_tags rows ++ flat_map tags_in (cond b (row ∷ []) [])
tags_push rows row b is =
    ap (flat_map tags_in) (filter-append is_run rows (row ∷ [])) ∙ flat_map-append tags_in (filter is_run rows) (filter is_run (row ∷ []))
    ∙ ap (λ b. run_tags rows ++ flat_map tags_in (cond b (row ∷ []) [])) is

-- tags in another order, or more than once, are the same in order
order_alike : (old texts others : List (List ℕ)) → in_byte_order texts ≡ in_byte_order others → in_byte_order (old ++ texts) ≡ in_byte_order (old ++ others)
order_alike old texts others same =
    same_order (old ++ texts) (old ++ others) (λ q.
    among_both old texts q
    ∙ ap (λ b. among old q || b) (sym (among_order texts q) ∙ ap (λ l. among l q) same ∙ among_order others q)
    ∙ sym (among_both old others q))

-- the tags of one test more that ran
pub tags_more : (rows : List Row) (row : Row) (texts old new : List (List ℕ)) → in_byte_order row.tags ≡ in_byte_order texts → old ≡ seen_tags_of rows → is_run row ≡ true → new ≡ in_byte_order (old ++ texts) → new ≡ seen_tags_of (rows ++ row ∷ [])
tags_more rows row texts old new same before runs is =
    is ∙ sym (order_alike old row.tags texts same) ∙ ap (λ l. in_byte_order (l ++ row.tags)) before ∙ order_append (run_tags rows) row.tags
    ∙ ap in_byte_order (ap (λ l. run_tags rows ++ l) (sym (append-nil row.tags)) ∙ sym (tags_push rows row true runs))

-- one that did not run adds none
pub tags_same : (rows : List Row) (row : Row) (old : List (List ℕ)) → old ≡ seen_tags_of rows → is_run row ≡ false → old ≡ seen_tags_of (rows ++ row ∷ [])
tags_same rows row old before other =
    before ∙ ap in_byte_order (sym (append-nil (run_tags rows)) ∙ sym (tags_push rows row false other))

-- ---- how many

abbrev one_if : {A : Type 0} → (A → Bool) → A → ℕ
one_if p x = cond (p x) 1 0

total_each : {A : Type 0} (f g : A → ℕ) → ((x : A) → f x ≡ g x) → (xs : List A) → total f xs ≡ total g xs
total_each f g each [] = refl
total_each f g each (x ∷ xs) = omega (arith, each x, total_each f g each xs)

total_map : {A B : Type 0} (f : B → ℕ) (g : A → B) (xs : List A) → total f (map g xs) ≡ total (λ x. f (g x)) xs
total_map f g [] = refl
total_map f g (x ∷ xs) = ap (λ n. f (g x) + n) (total_map f g xs)

total_filter : {A : Type 0} (p q : A → Bool) (xs : List A) → total (one_if q) (filter p xs) ≡ total (one_if (λ x. p x && q x)) xs
total_filter p q [] = refl
total_filter p q (x ∷ xs) =
    let rest = total_filter p q xs in
    elim (p x) as (λ b. total (one_if q) (cond b (x ∷ filter p xs) (filter p xs)) ≡ cond (b && q x) 1 0 + total (one_if (λ x. p x && q x)) xs) [ true ↦ ap (λ n. one_if q x + n) rest | false ↦ omega (arith, rest) ]

-- those of the kind among all rows are those among the completed and the open ones
pub number_is : (how : Kind) (es : List Event) (all : List Ended) (n : ℕ) → all ≡ map (λ row. row.ended) (completed_rows es ++ open_rows es) → n ≡ count_by (is_of how) all → n ≡ total (one_if (λ (row : Row). is_of how row.ended)) (rows_of es)
number_is how es all n is counted =
    let own : Row → Bool = λ row. is_of how row.ended in
    let there : n ≡ total (one_if own) (completed_rows es ++ open_rows es) = counted ∙ ap (count_by (is_of how)) is ∙ total_is (one_if (is_of how)) (map (λ row. row.ended) (completed_rows es ++ open_rows es)) ∙ total_map (one_if (is_of how)) (λ (row : Row). row.ended) (completed_rows es ++ open_rows es) in
    omega (
      arith,
      there,
      total_append (one_if own) (completed_rows es) (open_rows es),
      as_many es own,
      total_is (one_if own) (rows_of es),
      total_is (one_if own) (completed_rows es),
      total_is (one_if own) (open_rows es),
    )

run_is : (how : Ended) → (not (is_existing how) && (is_failure how || true)) ≡ not (is_existing how)
run_is ended.Exists = refl
run_is ended.Success = refl
run_is ended.UxSuccess = refl
run_is ended.Skip = refl
run_is ended.Fail = refl
run_is ended.XFail = refl
run_is ended.Open = refl

pass_is : (how : Ended) → ((not (is_existing how) && (is_failure how || true)) && not (is_failure how || is_skip how)) ≡ is_pass how
pass_is ended.Exists = refl
pass_is ended.Success = refl
pass_is ended.UxSuccess = refl
pass_is ended.Skip = refl
pass_is ended.Fail = refl
pass_is ended.XFail = refl
pass_is ended.Open = refl

fail_is : (how : Ended) → ((not (is_existing how) && (is_failure how || true)) && is_failure how) ≡ is_failure how
fail_is ended.Exists = refl
fail_is ended.Success = refl
fail_is ended.UxSuccess = refl
fail_is ended.Skip = refl
fail_is ended.Fail = refl
fail_is ended.XFail = refl
fail_is ended.Open = refl

skip_is : (how : Ended) → ((not (is_existing how) && (is_failure how || true)) && is_skip how) ≡ is_skip how
skip_is ended.Exists = refl
skip_is ended.Success = refl
skip_is ended.UxSuccess = refl
skip_is ended.Skip = refl
skip_is ended.Fail = refl
skip_is ended.XFail = refl
skip_is ended.Open = refl

-- those that are counted, and are so, where no tag filters
among_counted : (q own : Row → Bool) → ((row : Row) → (is_counted [] row && q row) ≡ own row) → (rows : List Row) → count_by q (filter (is_counted []) rows) ≡ total (one_if own) rows
among_counted q own each rows =
    total_is (one_if q) (filter (is_counted []) rows) ∙ total_filter (is_counted []) q rows
    ∙ total_each (one_if (λ row. is_counted [] row && q row)) (one_if own) (λ row. ap (λ b. cond b 1 0) (each row)) rows

all_counted : (rows : List Row) → length (filter (is_counted []) rows) ≡ total (one_if (λ (row : Row). is_of kind.Run row.ended)) rows
all_counted rows =
    length-filter (is_counted []) rows ∙ total_is (one_if (is_counted [])) rows
    ∙ total_each (one_if (is_counted [])) (one_if (λ (row : Row). is_of kind.Run row.ended)) (λ row. ap (λ b. cond b 1 0) (run_is row.ended)) rows

lines_same : (a b : Counts) → a.total ≡ b.total → a.passed ≡ b.passed → a.failed ≡ b.failed → a.skipped ≡ b.skipped → counts_lines a ≡ counts_lines b
unfolding counts_lines
lines_same a b total passed failed skipped = rw (total, passed, failed, skipped) refl

-- the lines of the counts are those of all rows
pub lines_are : (es : List Event) (all : List Ended) (counts : Counts) → all ≡ map (λ row. row.ended) (completed_rows es ++ open_rows es) → AreCounts counts all → counts_lines counts ≡ counts_lines (counts_of [] (rows_of es))
lines_are es all counts is are = lines_same counts (counts_of [] (rows_of es))
    (number_is kind.Run es all counts.total is are.total ∙ sym (all_counted (rows_of es)))
    (number_is kind.Passed es all counts.passed is are.passed ∙ sym (among_counted row_passes (λ row. is_of kind.Passed row.ended) (λ row. pass_is row.ended) (rows_of es)))
    (number_is kind.Failed es all counts.failed is are.failed ∙ sym (among_counted row_fails (λ row. is_of kind.Failed row.ended) (λ row. fail_is row.ended) (rows_of es)))
    (number_is kind.Skipped es all counts.skipped is are.skipped ∙ sym (among_counted is_skipped (λ row. is_of kind.Skipped row.ended) (λ row. skip_is row.ended) (rows_of es)))

-- ---- whether there is one

some_counted : {A : Type 0} (p : A → Bool) (xs : List A) → list_any p xs ≡ true → 1 ≤ total (one_if p) xs
some_counted p [] some = absurd (true≢false (sym some))
some_counted p (x ∷ xs) some =
    elim (p x) as (λ b. (b || list_any p xs) ≡ true → 1 ≤ cond b 1 0 + total (one_if p) xs) [ true ↦ λ some. omega arith | false ↦ λ some. omega (arith, some_counted p xs some) ] some

none_counted : {A : Type 0} (p : A → Bool) (xs : List A) → list_any p xs ≡ false → total (one_if p) xs ≡ 0
none_counted p [] none = refl
none_counted p (x ∷ xs) none =
    elim (p x) as (λ b. (b || list_any p xs) ≡ false → cond b 1 0 + total (one_if p) xs ≡ 0) [ true ↦ λ never. absurd (true≢false never) | false ↦ λ none. omega (arith, none_counted p xs none) ] none

any_same : {A : Type 0} (p : A → Bool) (xs ys : List A) (a b : Bool) → list_any p xs ≡ a → list_any p ys ≡ b → total (one_if p) xs ≡ total (one_if p) ys → a ≡ b
any_same p xs ys true true one other same = refl
any_same p xs ys true false one other same = absurd (omega (arith, some_counted p xs one, none_counted p ys other, same))
any_same p xs ys false true one other same = absurd (omega (arith, none_counted p xs one, some_counted p ys other, same))
any_same p xs ys false false one other same = refl

abbrev has_run_with : List ℕ → Row → Bool
has_run_with tag row = is_run row && among row.tags tag

among_joined : (tag : List ℕ) (rows : List Row) → among (run_tags rows) tag ≡ list_any (has_run_with tag) rows
among_joined tag [] = refl
among_joined tag (row ∷ rows) =
    elim (is_run row) as (λ b. among (flat_map tags_in (cond b (row ∷ filter is_run rows) (filter is_run rows))) tag ≡ ((b && among row.tags tag) || list_any (has_run_with tag) rows)) [
      | true ↦ list_any-append (eq_by_cmp text_cmp tag) row.tags (run_tags rows) ∙ ap (λ b. among row.tags tag || b) (among_joined tag rows)
      | false ↦ among_joined tag rows
    ]

in_turn : (p : Row → Bool) (es : List Event) → total (one_if p) (completed_rows es ++ open_rows es) ≡ total (one_if p) (rows_of es)
in_turn p es = omega (arith, total_append (one_if p) (completed_rows es) (open_rows es), as_many es p, total_is (one_if p) (rows_of es), total_is (one_if p) (completed_rows es), total_is (one_if p) (open_rows es))

-- a row fails where a completed or an open one does
pub fails_in_turn : (es : List Event) → list_any row_fails (completed_rows es ++ open_rows es) ≡ list_any row_fails (rows_of es)
fails_in_turn es = any_same row_fails (completed_rows es ++ open_rows es) (rows_of es) _ _ refl refl (in_turn row_fails es)

-- the tags of all rows are those of the completed and the open ones
pub tags_are : (es : List Event) → seen_tags_of (completed_rows es ++ open_rows es) ≡ seen_tags_of (rows_of es)
tags_are es =
    let both : List Row = completed_rows es ++ open_rows es in
    same_order (run_tags both) (run_tags (rows_of es)) (λ tag.
    among_joined tag both
    ∙ any_same (has_run_with tag) both (rows_of es) _ _ refl refl (in_turn (has_run_with tag) es)
    ∙ sym (among_joined tag (rows_of es)))

status_at : (n : ℕ) (rows : List Row) (b : Bool) → n ≡ total (one_if row_fails) rows → list_any row_fails rows ≡ b → nat_lt 0 n ≡ b
status_at n rows true is some = grind (arith, is, some_counted row_fails rows some)
status_at n rows false is none = grind (arith, is, none_counted row_fails rows none)

-- one of the rows fails exactly where the failures are more than none
pub fails_where : (es : List Event) (all : List Ended) (counts : Counts) → all ≡ map (λ row. row.ended) (completed_rows es ++ open_rows es) → AreCounts counts all → nat_lt 0 counts.failed ≡ list_any row_fails (rows_of es)
fails_where es all counts is are = status_at counts.failed (rows_of es) _ (number_is kind.Failed es all counts.failed is are.failed) refl
