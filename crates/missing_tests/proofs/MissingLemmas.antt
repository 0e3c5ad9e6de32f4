-- Which ids are left of those that were asked for.
use Rattle.std.proofs.Common.{◌≡◌, ℕ, ◌+◌, ◌<◌, Bool, true, false, not, ◌&&◌, ◌||◌, T, cond, List, [], ◌∷◌, ◌++◌, map, take, length, get_or, append-nil, refl, sym, ap, subst, ◌∙◌}
use Rattle.std.specs.FinMap as fin
use Rattle.std.specs.FinMap.{entries_sorted}
use Rattle.std.specs.FinMap.Entries.{is_sorted}
use Rattle.std.specs.List.{AllByRecursion, filter, flat_map}
use Rattle.std.specs.List.Sorted.{IsStrictlySortedBy}
use Rattle.std.specs.Ordering.{eq_by_cmp, is_lt}
use Rattle.std.specs.declared.cmp.Ordering.{Ordering}
use Rattle.std.specs.declared.cmp.Ordering.TheVariants.{Less, Equal, Greater}
use Rattle.std.proofs.lemmas.List.{take_more}
use Rattle.std.proofs.lemmas.List.Concat.{flat_map-append}
use Rattle.std.proofs.lemmas.List.Kept.{IsStrictlySortedBy-filter}
use Rattle.outcome_fold.specs.Answers.{row_fails, is_existing, is_run, ids_of, passed_of, failing_of, has_failure}
use Rattle.outcome_fold.specs.Order.{text_cmp, text_table, among, in_byte_order, without}
use Rattle.outcome_fold.specs.Rows.{is_failure}
use Rattle.outcome_fold.specs.declared.row.Ended.{Ended}
use Rattle.outcome_fold.specs.declared.row.Ended.TheVariants as ended
use Rattle.outcome_fold.specs.declared.row.Row.{Row}
use Rattle.outcome_fold.proofs.AnswerLemmas.{among_failing}
use Rattle.outcome_fold.proofs.OrderLemmas.{texts_total, exact_texts}
use Rattle.outcome_fold.proofs.SetLemmas.{ordered_already, same_order, among_order, among_both, among_without, order_append}
use Rattle.outcome_fold.proofs.TableLemmas.{tied_is}
use Rattle.missing_tests.specs.Missing.{ids_that_ran, missing_ids}

-- ---- what was asked for

-- one list more
pub asked_more : (lists : List (List (List ℕ))) (i : ℕ) (list : List (List ℕ)) (old new : List (List ℕ)) → i < length lists → list ≡ get_or lists i list → old ≡ in_byte_order (flat_map (λ l. l) (take i lists)) → new ≡ in_byte_order (old ++ list) → new ≡ in_byte_order (flat_map (λ l. l) (take (i + 1) lists))
asked_more lists i list old new below is old-is new-is =
    let each : List (List ℕ) → List (List ℕ) = λ l. l in
    new-is ∙ ap (λ l. in_byte_order (l ++ list)) old-is ∙ order_append (flat_map each (take i lists)) list
    ∙ ap (λ l. in_byte_order (flat_map each (take i lists) ++ l)) (sym (append-nil list))
    ∙ ap in_byte_order (sym (flat_map-append each (take i lists) (list ∷ [])) ∙ ap (flat_map each) (sym (take_more lists i list below ∙ ap (λ x. take i lists ++ x ∷ []) (sym is))))

-- ---- texts that stand in the order

both : (a b : Bool) → T (a && b) → T a × T b
both true b p = (tt, p)
both false b p = absurd p

less : (o : Ordering) → T (is_lt o) → o ≡ Less
less Less p = refl
less Equal p = absurd p
less Greater p = absurd p

above_all : (text first : List ℕ) (texts : List (List ℕ)) → text_cmp text first ≡ Less → AllByRecursion (λ other. text_cmp first other ≡ Less) texts → AllByRecursion (λ other. text_cmp text other ≡ Less) texts
above_all text first [] is all = tt
above_all text first (other ∷ texts) is all = (texts_total.trans text first other is all.0, above_all text first texts is all.1)

rising : {V : Type 0} (entries : List (List ℕ × V)) → T (is_sorted text_cmp entries) → IsStrictlySortedBy text_cmp (map (λ e. e.0) entries)
unfolding IsStrictlySortedBy
rising [] sorted = tt
rising (entry ∷ []) sorted = (tt, tt)
rising (entry ∷ next ∷ entries) sorted =
    let rest : IsStrictlySortedBy text_cmp (map (λ e. e.0) (next ∷ entries)) = rising (next ∷ entries) (both _ _ sorted).1 in
    let first : text_cmp entry.0 next.0 ≡ Less = less _ (both _ _ (both _ _ sorted).0).0 in
    ((first, above_all entry.0 next.0 _ first rest.0), rest)

-- of texts in order those that are left are in order
left_in_order : (texts others : List (List ℕ)) → in_byte_order (without (in_byte_order texts) others) ≡ without (in_byte_order texts) others
left_in_order texts others =
    ordered_already (without (in_byte_order texts) others)
    (IsStrictlySortedBy-filter text_cmp (λ text. not (among others text)) (in_byte_order texts) (rising (fin.entries (text_table texts)) (entries_sorted (text_table texts))))

-- ---- which tests ran

fails_so : (how : Ended) → is_failure how ≡ true → not (is_existing how) ≡ true
fails_so ended.Exists is = cc
fails_so ended.Success is = refl
fails_so ended.UxSuccess is = refl
fails_so ended.Skip is = refl
fails_so ended.Fail is = refl
fails_so ended.XFail is = refl
fails_so ended.Open is = refl

among_first : (b : Bool) (row : Row) (rows : List Row) (q : List ℕ) → among (ids_of (cond b (row ∷ rows) rows)) q ≡ ((b && eq_by_cmp text_cmp q row.id) || among (ids_of rows) q)
among_first true row rows q = refl
among_first false row rows q = refl

either : (fails runs tie failed ran : Bool) → (fails ≡ true → runs ≡ true) → (failed ≡ true → ran ≡ true) → ((fails && tie) || failed) ≡ true → ((runs && tie) || ran) ≡ true
either true runs true failed ran one rest is = ap (λ r. (r && true) || ran) (one refl)
either true true false failed ran one rest is = rest is
either true false false failed ran one rest is = rest is
either false true true failed ran one rest is = refl
either false true false failed ran one rest is = rest is
either false false tie failed ran one rest is = rest is

-- an id with a row that fails is that of a test that ran
failed_ran : (rows : List Row) (q : List ℕ) → has_failure rows q ≡ true → among (ids_that_ran rows) q ≡ true
failed_ran [] q is = cc
failed_ran (row ∷ rows) q is =
    among_first (is_run row) row (filter is_run rows) q
    ∙ either (row_fails row) (is_run row) (eq_by_cmp text_cmp q row.id) (has_failure rows q) (among (ids_that_ran rows) q) (fails_so row.ended) (failed_ran rows q) is

one_passed : (runs tie own fails rest : Bool) → (tie ≡ true → own ≡ fails) → (((runs && not own) && tie) || (rest && not fails)) ≡ (((runs && tie) || rest) && not fails)
one_passed true true own true rest same = ap (λ own. (not own && true) || (rest && false)) (same refl) ∙ never rest
  where
    never : (rest : Bool) → (rest && false) ≡ false
    never true = refl
    never false = refl
one_passed true true own false rest same = ap (λ own. (not own && true) || (rest && true)) (same refl)
one_passed true false true fails rest same = refl
one_passed true false false fails rest same = refl
one_passed false tie own fails rest same = refl

passed_at : (all rows : List Row) (q : List ℕ) → among (ids_of (filter (λ row. is_run row && not (has_failure all row.id)) rows)) q ≡ (among (ids_of (filter is_run rows)) q && not (has_failure all q))
passed_at all [] q = refl
passed_at all (row ∷ rows) q =
    among_first (is_run row && not (has_failure all row.id)) row (filter (λ row. is_run row && not (has_failure all row.id)) rows) q
    ∙ ap (λ b. ((is_run row && not (has_failure all row.id)) && eq_by_cmp text_cmp q row.id) || b) (passed_at all rows q)
    ∙ one_passed (is_run row) (eq_by_cmp text_cmp q row.id) (has_failure all row.id) (has_failure all q) (among (ids_of (filter is_run rows)) q) (λ tie. ap (has_failure all) (sym (tied_is exact_texts q row.id tie)))
    ∙ ap (λ b. b && not (has_failure all q)) (sym (among_first (is_run row) row (filter is_run rows) q))

among_passed : (rows : List Row) (q : List ℕ) → among (passed_of rows) q ≡ (among (ids_that_ran rows) q && not (has_failure rows q))
among_passed rows q = among_order (ids_of (filter (λ row. is_run row && not (has_failure rows row.id)) rows)) q ∙ passed_at rows rows q

-- ---- which are left

-- those that passed are taken out, those that failed are put in, and then taken out
taken_out : (failed ran asked : Bool) → (failed ≡ true → ran ≡ true) → (not failed && ((not (ran && not failed) && asked) || failed)) ≡ (not ran && asked)
taken_out true ran asked so = ap (λ r. not r && asked) (sym (so refl))
taken_out false true asked so = refl
taken_out false false true so = refl
taken_out false false false so = refl

pub left_missing : (rows : List Row) (ids asked set changed failing left : List (List ℕ)) → asked ≡ in_byte_order ids → set ≡ in_byte_order asked → changed ≡ in_byte_order (without set (passed_of rows) ++ failing_of rows) → failing ≡ failing_of rows → left ≡ without changed failing → left ≡ missing_ids ids rows
left_missing rows ids asked set changed failing left asked-is set-is changed-is failing-is left-is =
    let passed = passed_of rows in
    let fails = failing_of rows in
    let kept = without set passed ++ fails in
    left-is ∙ (λ i. without (changed-is i) (failing-is i)) ∙ sym (left_in_order kept fails)
    ∙ same_order (without (in_byte_order kept) fails) (without ids (ids_that_ran rows)) (λ q.
    among_without (in_byte_order kept) fails q
    ∙ (λ i. not (among_failing rows q i) && (among_order kept q ∙ among_both (without set passed) fails q ∙ (λ j. (among_without set passed q ∙ (λ k. not (among_passed rows q k) && (ap (λ l. among l q) (set-is ∙ ap in_byte_order asked-is) ∙ among_order (in_byte_order ids) q ∙ among_order ids q) k)) j || among_failing rows q j)) i)
    ∙ taken_out (has_failure rows q) (among (ids_that_ran rows) q) (among ids q) (failed_ran rows q)
    ∙ sym (among_without ids (ids_that_ran rows) q))

-- ---- the law

pub among_missing : (asked : List (List ℕ)) (rows : List Row) (id : List ℕ) → among (missing_ids asked rows) id ≡ (among asked id && not (among (ids_that_ran rows) id))
among_missing asked rows id = among_order (without asked (ids_that_ran rows)) id ∙ among_without asked (ids_that_ran rows) id ∙ turn (among (ids_that_ran rows) id) (among asked id)
  where
    turn : (r a : Bool) → (not r && a) ≡ (a && not r)
    turn true true = refl
    turn true false = refl
    turn false true = refl
    turn false false = refl
