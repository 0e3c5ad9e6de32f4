-- The table of the open tests, as the calls of the code change it.
use Rattle.std.proofs.Common.{◌≡◌, Bool, true, false, cond, List, Option, Some, None, is_some, length, refl, sym, ◌∙◌, ap, true≢false}
use Rattle.std.specs.BTreeMap.{is_at}
use Rattle.std.specs.Map.{lookup}
use Rattle.std.specs.FinMap as fin
use Rattle.std.specs.FinMap.{FinMap, same_map, get-insert, get-remove}
use Rattle.std.specs.Ordering.{eq_by_cmp}
use Rattle.std.specs.Cmp.{eq_by_cmp_equiv}
use Rattle.outcome_fold.specs.declared.part.Started.{Started}
use Rattle.outcome_fold.specs.declared.part.Said.{Said}
use Rattle.outcome_fold.specs.declared.test_key.TestKey.{TestKey}
use Rattle.outcome_fold.specs.Order.{test_cmp}
use Rattle.outcome_fold.specs.Started.{after_said}
use Rattle.outcome_fold.specs.Folded.{extended_by, with_extended}
use Rattle.outcome_fold.proofs.OrderLemmas.{tests_total, exact_tests}
use Rattle.outcome_fold.proofs.TableLemmas.{inserted, none_of_length, tied_is, lookup_in_map}

abbrev Open : Type 0
Open = FinMap test_cmp Started

abbrev Entries : Type 0
Entries = List (TestKey × Started)

-- the new entries have this at the test, and else what the old ones have
abbrev pub WritesEntry : Entries → Entries → TestKey → Started → Type 0
WritesEntry old new t s = (q : TestKey) → lookup (is_at (test_cmp q)) new ≡ cond (is_at (test_cmp t) q) (Some s) (lookup (is_at (test_cmp q)) old)

same_at : (m : Open) (t q : TestKey) (s : Started) (b : Bool) → eq_by_cmp test_cmp q t ≡ b → fin.get m t ≡ Some s → cond b (Some s) (fin.get m q) ≡ fin.get m q
same_at m t q s true tie is = sym is ∙ ap (fin.get m) (sym (tied_is exact_tests q t tie))
same_at m t q s false tie is = refl

insert_same : (m : Open) (t : TestKey) (s : Started) → fin.get m t ≡ Some s → fin.insert m t s ≡ m
insert_same m t s is = same_map tests_total exact_tests _ _ (λ q. get-insert tests_total m t s q ∙ same_at m t q s (eq_by_cmp test_cmp q t) refl is)

none_at : (m : Open) (t q : TestKey) (b : Bool) → eq_by_cmp test_cmp q t ≡ b → fin.get m t ≡ None → cond b None (fin.get m q) ≡ fin.get m q
none_at m t q true tie is = sym is ∙ ap (fin.get m) (sym (tied_is exact_tests q t tie))
none_at m t q false tie is = refl

pub remove_none : (m : Open) (t : TestKey) → fin.get m t ≡ None → fin.remove m t ≡ m
remove_none m t is = same_map tests_total exact_tests _ _ (λ q. get-remove tests_total m t q ∙ none_at m t q (eq_by_cmp test_cmp q t) refl is)

gone_at : (b : Bool) (s : Started) (o : Option Started) → cond b None (cond b (Some s) o) ≡ cond b None o
gone_at true s o = refl
gone_at false s o = refl

pub remove_insert : (m : Open) (t : TestKey) (s : Started) → fin.remove (fin.insert m t s) t ≡ fin.remove m t
remove_insert m t s = same_map tests_total exact_tests _ _ (λ q.
    get-remove tests_total (fin.insert m t s) t q ∙ ap (cond (eq_by_cmp test_cmp q t) None) (get-insert tests_total m t s q)
    ∙ gone_at (eq_by_cmp test_cmp q t) s (fin.get m q) ∙ sym (get-remove tests_total m t q))

found : (old : Entries) (t : TestKey) (part : Started) → Some part ≡ lookup (is_at (test_cmp t)) old → fin.get (fin.from_entries {R = test_cmp} old) t ≡ Some part
found old t part is = sym (lookup_in_map tests_total t old) ∙ sym is

-- where there is no other test, none is found
pub no_others : (es : Entries) (t : TestKey) → length es ≡ 0 → fin.get (fin.from_entries {R = test_cmp} es) t ≡ None
no_others es t none = sym (lookup_in_map tests_total t es) ∙ ap (lookup (is_at (test_cmp t))) (none_of_length es none)

-- a part that took an event where it stands
pub taken_through : (old new : Entries) (t : TestKey) (part next : Started) (e : Said) → WritesEntry old new t next → Some part ≡ lookup (is_at (test_cmp t)) old → next ≡ after_said part e → fin.from_entries {R = test_cmp} new ≡ with_extended (fin.from_entries {R = test_cmp} old) t e
taken_through old new t part next e writes is taken =
    let m : Open = fin.from_entries {R = test_cmp} old in
    inserted tests_total exact_tests old new t next writes ∙ ap (fin.insert m t) taken
    ∙ ap (λ (o : Option Started). cond (is_some o) (fin.insert m t (extended_by o e)) m) (sym (found old t part is))

-- a part that stayed as it was
pub kept_through : (old new : Entries) (t : TestKey) (part next : Started) → WritesEntry old new t next → Some part ≡ lookup (is_at (test_cmp t)) old → next ≡ part → fin.from_entries {R = test_cmp} new ≡ fin.from_entries {R = test_cmp} old
kept_through old new t part next writes is same =
    inserted tests_total exact_tests old new t next writes ∙ ap (fin.insert (fin.from_entries {R = test_cmp} old) t) same
    ∙ insert_same (fin.from_entries {R = test_cmp} old) t part (found old t part is)

no_part : (o : Option Started) → false ≡ is_some o → o ≡ None
no_part None is = refl
no_part (Some s) is = absurd (true≢false (sym is))

-- the test is open: its part has one event more
pub open_goes_on : (m n : Open) (t : TestKey) (e : Said) → true ≡ is_some (fin.get m t) → n ≡ with_extended m t e → n ≡ fin.insert m t (extended_by (fin.get m t) e)
open_goes_on m n t e is next = next ∙ ap (λ b. cond b (fin.insert m t (extended_by (fin.get m t) e)) m) (sym is)

-- the test is not open
pub closed_stays : (m n : Open) (t : TestKey) (e : Said) → false ≡ is_some (fin.get m t) → n ≡ with_extended m t e → n ≡ m
closed_stays m n t e is next = next ∙ ap (λ b. cond b (fin.insert m t (extended_by (fin.get m t) e)) m) (sym is)

pub closed_is : (m n : Open) (t : TestKey) (e : Said) → false ≡ is_some (fin.get m t) → n ≡ m → n ≡ with_extended m t e
closed_is m n t e is same = same ∙ ap (λ b. cond b (fin.insert m t (extended_by (fin.get m t) e)) m) is

pub closed_begins : (m n k : Open) (t : TestKey) (e : Said) (s : Started) → false ≡ is_some (fin.get m t) → n ≡ with_extended m t e → k ≡ fin.insert n t s → s ≡ extended_by None e → k ≡ fin.insert m t (extended_by (fin.get m t) e)
closed_begins m n k t e s is next put begins =
    put ∙ ap (λ (n : Open). fin.insert n t s) (closed_stays m n t e is next)
    ∙ ap (fin.insert m t) (begins ∙ ap (λ (o : Option Started). extended_by o e) (sym (no_part (fin.get m t) is)))

pub closed_part : (m : Open) (t : TestKey) (e : Said) (s : Started) → false ≡ is_some (fin.get m t) → s ≡ extended_by None e → s ≡ extended_by (fin.get m t) e
closed_part m t e s is begins = begins ∙ ap (λ (o : Option Started). extended_by o e) (sym (no_part (fin.get m t) is))

pub closed_removed : (m n : Open) (t : TestKey) (e : Said) → false ≡ is_some (fin.get m t) → n ≡ with_extended m t e → n ≡ fin.remove m t
closed_removed m n t e is next = closed_stays m n t e is next ∙ sym (remove_none m t (no_part (fin.get m t) is))

pub open_removed : (m n k : Open) (t : TestKey) (e : Said) → true ≡ is_some (fin.get m t) → n ≡ with_extended m t e → k ≡ fin.remove n t → k ≡ fin.remove m t
open_removed m n k t e is next gone =
    gone ∙ ap (λ (n : Open). fin.remove n t) (open_goes_on m n t e is next) ∙ remove_insert m t (extended_by (fin.get m t) e)

-- what an open test's part says
pub open_part : (m : Open) (es : Entries) (t : TestKey) (e : Said) → true ≡ is_some (fin.get m t) → fin.from_entries {R = test_cmp} es ≡ with_extended m t e → lookup (is_at (test_cmp t)) es ≡ Some (extended_by (fin.get m t) e)
open_part m es t e is next =
    lookup_in_map tests_total t es ∙ ap (λ (n : Open). fin.get n t) (open_goes_on m _ t e is next)
    ∙ get-insert tests_total m t (extended_by (fin.get m t) e) t
    ∙ ap (λ b. cond b (Some (extended_by (fin.get m t) e)) (fin.get m t)) ((eq_by_cmp_equiv tests_total).refl t)
