-- The ids of which nothing was heard yet.
use Rattle.std.proofs.Common.{◌≡◌, ℕ, ◌+◌, ◌<◌, ◌≤◌, Bool, true, false, ◌&&◌, ◌||◌, not, cond, List, [], ◌∷◌, ◌++◌, length, drop, take, get_or, refl, inl, inr, sym, subst, ◌∙◌, ap, arith}
use Rattle.std.specs.Prelude.{Option, Some, None, IsSomeAnd, All, nat_le}
use Rattle.std.specs.List.{filter}
use Rattle.std.specs.Ordering.{eq_by_cmp}
use Rattle.std.proofs.lemmas.Bool.Decides.{nat_tests}
use Rattle.std.proofs.lemmas.Cmp.{eq_by_cmp_equiv}
use Rattle.std.proofs.lemmas.Bool.{le-leb, lt-leb}
use Rattle.std.proofs.lemmas.List.{drop_more, drop_all, take_more, take_all, append-nil}
use Rattle.std.proofs.lemmas.List.Elements.{All-nil, All-cons, All-append, All-weaker, All-filter, All-drop, filter_passes, filter-append}
use Rattle.packet_codec.specs.declared.event.Event.{Event}
use Rattle.packet_codec.specs.declared.status.Status.{Status}
use Rattle.packet_codec.specs.declared.status.Status.TheVariants as status
use Rattle.packet_codec.proofs.FilterLemmas.{filter_all}
use Rattle.outcome_fold.specs.Order.{text_cmp, among, without, in_byte_order}
use Rattle.outcome_fold.proofs.OrderLemmas.{texts_total, exact_texts}
use Rattle.outcome_fold.proofs.SetLemmas.{among_order, among_without, take_one_more}
use Rattle.outcome_fold.proofs.TableLemmas.{tied_is}
use Rattle.worker_lane.specs.Lost.{longest_id, named_ids, is_id, is_exists, is_of_id, is_unheard, lost_ids}
use Rattle.worker_lane.specs.Sought.{unheard_of, AreShort, IsHeard, SaysNothing, IsFirstUnheard}

-- ---- lists that are filtered

filter_same : (p q : List ℕ → Bool) → ((x : List ℕ) → p x ≡ q x) → (xs : List (List ℕ)) → filter p xs ≡ filter q xs
filter_same p q same [] = refl
filter_same p q same (x ∷ xs) = ap (λ b. cond b (x ∷ filter p xs) (filter p xs)) (same x) ∙ ap (λ l. cond (q x) (x ∷ l) l) (filter_same p q same xs)

filter_cond : (p : List ℕ → Bool) (a : Bool) (x : List ℕ) (rest : List (List ℕ)) → filter p (cond a (x ∷ rest) rest) ≡ cond a (cond (p x) (x ∷ filter p rest) (filter p rest)) (filter p rest)
filter_cond p true x rest = refl
filter_cond p false x rest = refl

and_split : (a b : Bool) (x : List ℕ) (kept rest : List (List ℕ)) → kept ≡ rest → cond (a && b) (x ∷ kept) kept ≡ cond b (cond a (x ∷ rest) rest) rest
and_split true true x kept rest same = ap (λ l. x ∷ l) same
and_split true false x kept rest same = same
and_split false true x kept rest same = same
and_split false false x kept rest same = same

-- two filters, one after the other, are one
filter_both : (p q r : List ℕ → Bool) → ((x : List ℕ) → r x ≡ (q x && p x)) → (xs : List (List ℕ)) → filter r xs ≡ filter q (filter p xs)
filter_both p q r is [] = refl
filter_both p q r is (x ∷ xs) =
    ap (λ b. cond b (x ∷ filter r xs) (filter r xs)) (is x)
    ∙ and_split (q x) (p x) x (filter r xs) (filter q (filter p xs)) (filter_both p q r is xs)
    ∙ sym (filter_cond q (p x) x (filter p xs))

filter_true : (p : List ℕ → Bool) → ((x : List ℕ) → p x ≡ true) → (xs : List (List ℕ)) → filter p xs ≡ xs
filter_true p all [] = refl
filter_true p all (x ∷ xs) = ap (λ b. cond b (x ∷ filter p xs) (filter p xs)) (all x) ∙ ap (λ l. x ∷ l) (filter_true p all xs)

and_true : (b : Bool) → (b && true) ≡ b
and_true true = refl
and_true false = refl

and_false : (b : Bool) → (b && false) ≡ false
and_false true = refl
and_false false = refl

or_last : (b : Bool) → (b || true) ≡ true
or_last true = refl
or_last false = refl

same_text : (id : List ℕ) → eq_by_cmp text_cmp id id ≡ true
same_text id = (eq_by_cmp_equiv texts_total).refl id

-- ---- all are sought at first

all_in : (all xs : List (List ℕ)) → ((x : List ℕ) → among xs x ≡ true → among all x ≡ true) → filter (among all) xs ≡ xs
all_in all [] sub = refl
all_in all (x ∷ xs) sub =
    ap (λ b. cond b (x ∷ filter (among all) xs) (filter (among all) xs)) (sub x (ap (λ b. b || among xs x) (same_text x)))
    ∙ ap (λ l. x ∷ l) (all_in all xs (λ y is. sub y (ap (λ b. eq_by_cmp text_cmp y x || b) is ∙ or_last (eq_by_cmp text_cmp y x))))

pub all_sought : (ids unheard : List (List ℕ)) → unheard ≡ in_byte_order ids → unheard_of ids 0 unheard ≡ ids
all_sought ids unheard is = all_in unheard ids (λ x there. ap (λ l. among l x) is ∙ among_order ids x ∙ there)

-- ---- an id is taken out

pub taken_out : (ids unheard : List (List ℕ)) (passed : ℕ) (id : List ℕ) → unheard_of ids passed (without unheard (id ∷ [])) ≡ without (unheard_of ids passed unheard) (id ∷ [])
taken_out ids unheard passed id = filter_both (among unheard) (λ x. not (among (id ∷ []) x)) (among (without unheard (id ∷ []))) (among_without unheard (id ∷ [])) (drop passed ids)

pub out_is_heard : (unheard : List (List ℕ)) (id : List ℕ) → among (without unheard (id ∷ [])) id ≡ false
out_is_heard unheard id = among_without unheard (id ∷ []) id ∙ ap (λ b. not (b || false) && among unheard id) (same_text id)

pub stays_heard : (unheard : List (List ℕ)) (id : List ℕ) (latest : Option (List ℕ)) → IsHeard unheard latest → IsHeard (without unheard (id ∷ [])) latest
stays_heard unheard id None heard = tt
stays_heard unheard id (Some last) heard = among_without unheard (id ∷ []) last ∙ ap (λ b. not (among (id ∷ []) last) && b) heard ∙ and_false (not (among (id ∷ []) last))

-- the event is of this id, and says more of it than that it exists
pub heard_one : (old : List (List ℕ)) (id : List ℕ) (e : Event) → e.id ≡ Some id → is_exists e.status ≡ false → without old (id ∷ []) ≡ lost_ids old (e ∷ [])
heard_one old id e is more = filter_same (λ x. not (among (id ∷ []) x)) (is_unheard (e ∷ [])) (λ x.
    ap (λ b. not (b || false)) (sym (and_true (eq_by_cmp text_cmp x id)))
    ∙ ap (λ b. not ((eq_by_cmp text_cmp x id && not b) || false)) (sym more)
    ∙ ap (λ o. not ((is_id x o && not (is_exists e.status)) || false)) (sym is)) old

-- ---- nothing is taken out

-- the event says that a test exists, and no more
heard_exists : (old : List (List ℕ)) (e : Event) → is_exists e.status ≡ true → old ≡ lost_ids old (e ∷ [])
heard_exists old e is = sym (filter_true (is_unheard (e ∷ [])) (λ x.
    ap (λ b. not ((is_of_id x e && not b) || false)) is ∙ ap (λ b. not (b || false)) (and_false (is_of_id x e))) old)

-- it has no id
pub heard_none : (old : List (List ℕ)) (e : Event) → e.id ≡ None → old ≡ lost_ids old (e ∷ [])
heard_none old e is = sym (filter_true (is_unheard (e ∷ [])) (λ x. ap (λ o. not ((is_id x o && not (is_exists e.status)) || false)) is) old)

-- it is of an id that was heard of
stays_in : (unheard : List (List ℕ)) (id : List ℕ) (e : Event) → e.id ≡ Some id → among unheard id ≡ false → (x : List ℕ) → among unheard x ≡ (is_unheard (e ∷ []) x && among unheard x)
stays_in unheard id e is heard x =
    by_tie (eq_by_cmp text_cmp x id) refl ∙ ap (λ o. not ((is_id x o && not (is_exists e.status)) || false) && among unheard x) (sym is)
  where
    by_tie : (b : Bool) → eq_by_cmp text_cmp x id ≡ b → among unheard x ≡ (not ((eq_by_cmp text_cmp x id && not (is_exists e.status)) || false) && among unheard x)
    by_tie true tie =
        let gone : among unheard x ≡ false = ap (among unheard) (tied_is exact_texts x id tie) ∙ heard in
        gone ∙ sym (ap (λ c. not ((eq_by_cmp text_cmp x id && not (is_exists e.status)) || false) && c) gone ∙ and_false (not ((eq_by_cmp text_cmp x id && not (is_exists e.status)) || false)))
    by_tie false tie = sym (ap (λ b. not ((b && not (is_exists e.status)) || false) && among unheard x) tie)

heard_latest : (ids unheard : List (List ℕ)) (passed : ℕ) (latest : Option (List ℕ)) (e : Event) → IsHeard unheard latest → IsSomeAnd latest (λ id. e.id ≡ Some id) → unheard_of ids passed unheard ≡ lost_ids (unheard_of ids passed unheard) (e ∷ [])
heard_latest ids unheard passed None e heard is = absurd is
heard_latest ids unheard passed (Some id) e heard is = filter_both (among unheard) (is_unheard (e ∷ [])) (among unheard) (stays_in unheard id e is heard) (drop passed ids)

pub heard_nothing : (ids unheard : List (List ℕ)) (passed : ℕ) (latest : Option (List ℕ)) (e : Event) → IsHeard unheard latest → SaysNothing latest e → unheard_of ids passed unheard ≡ lost_ids (unheard_of ids passed unheard) (e ∷ [])
heard_nothing ids unheard passed latest e heard (inl exists) = heard_exists (unheard_of ids passed unheard) e exists
heard_nothing ids unheard passed latest e heard (inr is) = heard_latest ids unheard passed latest e heard is

-- it is of none of the ids
not_it : (x : List ℕ) (o : Option (List ℕ)) (b : Bool) → (o ≡ Some x → ⊥) → not ((is_id x o && b) || false) ≡ true
not_it x None b never = refl
not_it x (Some id) b never = by_tie (eq_by_cmp text_cmp x id) refl
  where
    by_tie : (t : Bool) → eq_by_cmp text_cmp x id ≡ t → not ((eq_by_cmp text_cmp x id && b) || false) ≡ true
    by_tie true tie = absurd (never (ap Some (sym (tied_is exact_texts x id tie))))
    by_tie false tie = ap (λ t. not ((t && b) || false)) tie

pub heard_no_other : (ids unheard : List (List ℕ)) (passed : ℕ) (e : Event) → All (λ id. e.id ≡ Some id → ⊥) ids → unheard_of ids passed unheard ≡ lost_ids (unheard_of ids passed unheard) (e ∷ [])
heard_no_other ids unheard passed e none =
    sym (filter_all (is_unheard (e ∷ [])) (unheard_of ids passed unheard)
    (All-weaker (λ id. e.id ≡ Some id → ⊥) (λ id. is_unheard (e ∷ []) id ≡ true) (λ id never. not_it id e.id (not (is_exists e.status)) never) (unheard_of ids passed unheard)
    (All-filter (among unheard) (λ id. e.id ≡ Some id → ⊥) (drop passed ids) (All-drop (λ id. e.id ≡ Some id → ⊥) passed ids none))))

-- ---- the first id that is unheard

pub unheard_more : (ids unheard : List (List ℕ)) (passed place : ℕ) → place < length ids → among unheard (get_or ids place []) ≡ false → unheard_of ids passed unheard ≡ unheard_of ids place unheard → unheard_of ids passed unheard ≡ unheard_of ids (place + 1) unheard
unheard_more ids unheard passed place below heard same =
    same
    ∙ ap (filter (among unheard)) (drop_more ids place [] below)
    ∙ ap (λ b. cond b (get_or ids place [] ∷ unheard_of ids (place + 1) unheard) (unheard_of ids (place + 1) unheard)) heard

pub first_of_unheard : (ids unheard : List (List ℕ)) (passed place : ℕ) → IsFirstUnheard ids unheard passed place → place < length ids → unheard_of ids passed unheard ≡ get_or ids place [] ∷ unheard_of ids (place + 1) unheard
first_of_unheard ids unheard passed place first below =
    first.same
    ∙ ap (filter (among unheard)) (drop_more ids place [] below)
    ∙ ap (λ b. cond b (get_or ids place [] ∷ unheard_of ids (place + 1) unheard) (unheard_of ids (place + 1) unheard)) (first.found below)

pub none_unheard : (ids unheard : List (List ℕ)) (passed place : ℕ) → IsFirstUnheard ids unheard passed place → length ids ≤ place → unheard_of ids passed unheard ≡ []
none_unheard ids unheard passed place first behind = first.same ∙ ap (filter (among unheard)) (drop_all place ids behind)

-- ---- the ids that can be named

pub named_more : (ids : List (List ℕ)) (place : ℕ) (id : List ℕ) → place < length ids → id ≡ get_or ids place id → named_ids (take (place + 1) ids) ≡ named_ids (take place ids) ++ named_ids (id ∷ [])
named_more ids place id below is =
    ap named_ids (take_one_more ids place id below is) ∙ filter-append (λ id. nat_le (length id) longest_id) (take place ids) (id ∷ [])

pub are_short : (ids : List (List ℕ)) → AreShort (named_ids ids)
are_short ids = All-weaker (λ id. nat_le (length id) longest_id ≡ true) (λ id. length id ≤ longest_id) (λ id short. short_by_test (length id) short) (named_ids ids) (filter_passes (λ id. nat_le (length id) longest_id) ids)
  where
    short_by_test : (n : ℕ) → nat_le n 65536 ≡ true → n ≤ 65536
    short_by_test n short = grind (arith, nat_tests, short)

pub named_are_short : (list ids : List (List ℕ)) → list ≡ named_ids ids → AreShort list
named_are_short list ids is = subst AreShort (sym is) (are_short ids)

-- ---- parts of an event

pub not_exists : (how : Status) → (how ≡ status.Exists → ⊥) → is_exists how ≡ false
not_exists status.Unset other = refl
not_exists status.Exists other = absurd (other refl)
not_exists status.InProgress other = refl
not_exists status.Success other = refl
not_exists status.UxSuccess other = refl
not_exists status.Skip other = refl
not_exists status.Fail other = refl
not_exists status.XFail other = refl

pub is_at_some : (latest : Option (List ℕ)) (id : List ℕ) (e : Event) → latest ≡ Some id → e.id ≡ Some id → IsSomeAnd latest (λ id. e.id ≡ Some id)
is_at_some latest id e there is = rw there is

pub none_more : (ids : List (List ℕ)) (place : ℕ) (e : Event) → place < length ids → (e.id ≡ Some (get_or ids place []) → ⊥) → All (λ id. e.id ≡ Some id → ⊥) (take place ids) → All (λ id. e.id ≡ Some id → ⊥) (take (place + 1) ids)
none_more ids place e below other none =
    subst (All (λ id. e.id ≡ Some id → ⊥)) (sym (take_more ids place [] below))
    (All-append (λ id. e.id ≡ Some id → ⊥) (take place ids) (get_or ids place [] ∷ []) none (All-cons (λ id. e.id ≡ Some id → ⊥) (get_or ids place []) [] other (All-nil (λ id. e.id ≡ Some id → ⊥))))

pub none_of_all : (ids : List (List ℕ)) (place : ℕ) (e : Event) → length ids ≤ place → All (λ id. e.id ≡ Some id → ⊥) (take place ids) → All (λ id. e.id ≡ Some id → ⊥) ids
none_of_all ids place e behind none = subst (All (λ id. e.id ≡ Some id → ⊥)) (take_all place ids behind) none

named_one : (id : List ℕ) (b : Bool) → nat_le (length id) longest_id ≡ b → named_ids (id ∷ []) ≡ cond b (id ∷ []) []
named_one id b is = ap (λ c. cond c (id ∷ []) []) is

-- an id more, which can be named
pub named_kept : (ids list : List (List ℕ)) (place : ℕ) (id : List ℕ) → list ≡ named_ids (take place ids) → place < length ids → id ≡ get_or ids place id → length id ≤ 65536 → list ++ id ∷ [] ≡ named_ids (take (place + 1) ids)
named_kept ids list place id so below is short =
    ap (λ l. l ++ id ∷ []) so ∙ ap (λ l. named_ids (take place ids) ++ l) (sym (named_one id true (le-leb (length id) 65536 short))) ∙ sym (named_more ids place id below is)

-- or which cannot
pub named_left : (ids list : List (List ℕ)) (place : ℕ) (id : List ℕ) → list ≡ named_ids (take place ids) → place < length ids → id ≡ get_or ids place id → 65536 < length id → list ≡ named_ids (take (place + 1) ids)
named_left ids list place id so below is long =
    so ∙ sym (append-nil (named_ids (take place ids))) ∙ ap (λ l. named_ids (take place ids) ++ l) (sym (named_one id false (lt-leb (length id) 65536 long))) ∙ sym (named_more ids place id below is)
