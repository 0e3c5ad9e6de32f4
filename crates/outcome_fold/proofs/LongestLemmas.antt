-- The longest of times, and what leaves them as they are.
use Rattle.std.proofs.Common.{◌≡◌, ◌≢◌, inl, inr, ℕ, ◌+◌, ◌<◌, ◌≤◌, Bool, true, false, true≢false, cond, ◌||◌, List, [], ◌∷◌, ◌++◌, Option, Some, None, is_some, not, map, max, length, take, get_or, refl, sym, ap, ◌∙◌, subst, arith}
use Rattle.std.specs.FinMap as fin
use Rattle.std.specs.FinMap.{same_map, get-insert, contains_key-keys}
use Rattle.std.specs.List.{All, Contains, list_any, filter}
use Rattle.std.specs.List.Sorted.{IsPermutation}
use Rattle.std.specs.List.Retain.{DedupsFrom, IsDeduped}
use Rattle.std.specs.Bool.{MatchBool}
use Rattle.std.specs.Option.{unwrap_or}
use Rattle.std.specs.Ordering.{is_eq, eq_by_cmp}
use Rattle.std.specs.Cmp.{tied_itself}
use Rattle.std.proofs.lemmas.Bool.{cases_lt}
use Rattle.std.proofs.lemmas.List.{take_more, take_all}
use Rattle.std.proofs.lemmas.List.Sorted.{All-permutation, Contains-permutation, IsPermutation-map, IsPermutation-sym, IsPermutation-to_front}
use Rattle.std.proofs.lemmas.List.Elements.{All-nil, All-cons, All-weaker, All-contains, Contains-append_right}
use Rattle.outcome_fold.specs.Order.{text_cmp, among, without}
use Rattle.outcome_fold.specs.Longest.{longest_of, longest_in, Joins}
use Rattle.outcome_fold.proofs.OrderLemmas.{texts_total, exact_texts}
use Rattle.outcome_fold.proofs.TableLemmas.{get-table, tied_is}
use Rattle.outcome_fold.proofs.SetLemmas.{one_removed}
use Rattle.outcome_fold.proofs.StrictLemmas.{Timed}

-- no entry has the id, or the time is that of one that has it, and no other is longer
abbrev pub IsLongest : List Timed → List ℕ → Option ℕ → Type 0
IsLongest es q None = All (λ e. e.0 ≢ q) es
IsLongest es q (Some n) = Contains es (q, n) × All (λ e. e.0 ≡ q → e.1 ≤ n) es

pub one_longest : (es : List Timed) (q : List ℕ) (a b : Option ℕ) → IsLongest es q a → IsLongest es q b → a ≡ b
one_longest es q None None one two = refl
one_longest es q None (Some n) one two = absurd (All-contains (λ e. e.0 ≢ q) es (q, n) one two.0 refl)
one_longest es q (Some m) None one two = absurd (All-contains (λ e. e.0 ≢ q) es (q, m) two one.0 refl)
one_longest es q (Some m) (Some n) one two =
    let up : m ≤ n = All-contains (λ e. e.0 ≡ q → e.1 ≤ n) es (q, m) two.1 one.0 refl in
    let down : n ≤ m = All-contains (λ e. e.0 ≡ q → e.1 ≤ m) es (q, n) one.1 two.0 refl in
    let same : m ≡ n = omega (arith, up, down) in
    ap Some same

pub moved_longest : (es fs : List Timed) (q : List ℕ) (o : Option ℕ) → IsPermutation es fs → IsLongest es q o → IsLongest fs q o
moved_longest es fs q None moved is = All-permutation (λ e. e.0 ≢ q) es fs moved is
moved_longest es fs q (Some n) moved is = (Contains-permutation es fs (q, n) moved is.0, All-permutation (λ e. e.0 ≡ q → e.1 ≤ n) es fs moved is.1)

here : (e : Timed) (es : List Timed) → Contains (e ∷ es) e
here e es = (0, omega arith, refl)

pub here_as : (e : Timed) (es : List Timed) (q : List ℕ) (n : ℕ) → e.0 ≡ q → e.1 ≡ n → Contains (e ∷ es) (q, n)
here_as e es q n same time = subst (Contains (e ∷ es)) (λ i. (same i, time i)) (here e es)

pub there : (e : Timed) (es : List Timed) (f : Timed) → Contains es f → Contains (e ∷ es) f
there e es f has = Contains-append_right (e ∷ []) es f has

-- one more entry, of another id
pub skips : (e : Timed) (es : List Timed) (q : List ℕ) (o : Option ℕ) → e.0 ≢ q → IsLongest es q o → IsLongest (e ∷ es) q o
skips e es q None other is = All-cons (λ f. f.0 ≢ q) e es other is
skips e es q (Some n) other is = (there e es (q, n) is.0, All-cons (λ f. f.0 ≡ q → f.1 ≤ n) e es (λ same. absurd (other same)) is.1)

-- one more of the id
takes : (e : Timed) (es : List Timed) (q : List ℕ) (some : Bool) (n : ℕ) → e.0 ≡ q → (some ≡ false → n ≡ 0) → IsLongest es q (cond some (Some n) None) → IsLongest (e ∷ es) q (Some (max e.1 n))
takes e es q false n same none is =
    let zero : n ≡ 0 = none refl in
    let time : e.1 ≡ max e.1 n = omega (arith, zero) in (
      here_as e es q (max e.1 n) same time,
      All-cons (λ f. f.0 ≡ q → f.1 ≤ max e.1 n) e es (λ tie. omega arith) (All-weaker (λ f. f.0 ≢ q) (λ f. f.0 ≡ q → f.1 ≤ max e.1 n) (λ f differs tie. absurd (differs tie)) es is),
    )
takes e es q true n same none is = (
  elim (cases_lt e.1 n) [
    | inl less ↦ let time : n ≡ max e.1 n = omega (arith, less) in subst (λ (m : ℕ). Contains (e ∷ es) (q, m)) time (there e es (q, n) is.0)
    | inr more ↦ let time : e.1 ≡ max e.1 n = omega (arith, more) in here_as e es q (max e.1 n) same time
  ],
  All-cons (λ f. f.0 ≡ q → f.1 ≤ max e.1 n) e es (λ tie. omega arith) (All-weaker (λ f. f.0 ≡ q → f.1 ≤ n) (λ f. f.0 ≡ q → f.1 ≤ max e.1 n) (λ f at tie. up f.1 (at tie)) es is.1),
)
  where
    up : (m : ℕ) → m ≤ n → m ≤ max e.1 n
    up m le = omega (arith, le)

pub differs : (q k : List ℕ) → eq_by_cmp text_cmp q k ≡ false → k ≢ q
differs q k is same = true≢false (sym (ap is_eq (ap (text_cmp q) same ∙ tied_itself texts_total q)) ∙ is)

-- ---- of times that stand as they came

none_zero : (es : List Timed) (q : List ℕ) → list_any (eq_by_cmp text_cmp q) (map (λ e. e.0) es) ≡ false → longest_of es q ≡ 0
none_zero [] q none = refl
none_zero (e ∷ es) q none =
    elim (eq_by_cmp text_cmp q e.0) as (λ b. (b || list_any (eq_by_cmp text_cmp q) (map (λ e. e.0) es)) ≡ false → cond b (max e.1 (longest_of es q)) (longest_of es q) ≡ 0) [ true ↦ λ never. absurd (true≢false never) | false ↦ none_zero es q ] none

of_all : (es : List Timed) (q : List ℕ) → IsLongest es q (cond (list_any (eq_by_cmp text_cmp q) (map (λ e. e.0) es)) (Some (longest_of es q)) None)
of_all [] q = All-nil (λ (e : Timed). e.0 ≢ q)
of_all (e ∷ es) q =
    elim (eq_by_cmp text_cmp q e.0) as (λ b. eq_by_cmp text_cmp q e.0 ≡ b → IsLongest (e ∷ es) q (cond (b || list_any (eq_by_cmp text_cmp q) (map (λ e. e.0) es)) (Some (cond b (max e.1 (longest_of es q)) (longest_of es q))) None)) [
      | true ↦ λ tie. takes e es q (list_any (eq_by_cmp text_cmp q) (map (λ e. e.0) es)) (longest_of es q) (sym (tied_is exact_texts q e.0 tie)) (none_zero es q) (of_all es q)
      | false ↦ λ tie. skips e es q _ (differs q e.0 tie) (of_all es q)
    ] refl

pub at_longest : (es : List Timed) (q : List ℕ) → fin.get (longest_in es) q ≡ cond (list_any (eq_by_cmp text_cmp q) (map (λ e. e.0) es)) (Some (longest_of es q)) None
at_longest es q = get-table texts_total exact_texts (longest_of es) (map (λ e. e.0) es) q

pub are_longest : (es : List Timed) (q : List ℕ) → IsLongest es q (fin.get (longest_in es) q)
are_longest es q = subst (IsLongest es q) (sym (at_longest es q)) (of_all es q)

-- in another order
pub moved_same : (es fs : List Timed) → IsPermutation es fs → longest_in fs ≡ longest_in es
moved_same es fs moved = same_map texts_total exact_texts _ _ (λ q. one_longest fs q _ _ (are_longest fs q) (moved_longest es fs q _ moved (are_longest es q)))

-- one more
takes_one : (e : Timed) (es : List Timed) (q : List ℕ) (o : Option ℕ) → e.0 ≡ q → IsLongest es q o → IsLongest (e ∷ es) q (Some (max e.1 (unwrap_or o 0)))
takes_one e es q None same is = takes e es q false 0 same (λ _. refl) is
takes_one e es q (Some n) same is = takes e es q true n same (λ never. absurd (true≢false never)) is

one_more : (e : Timed) (es : List Timed) → longest_in (e ∷ es) ≡ fin.insert (longest_in es) e.0 (max e.1 (unwrap_or (fin.get (longest_in es) e.0) 0))
one_more e es = same_map texts_total exact_texts _ _ (λ q.
    one_longest (e ∷ es) q _ _ (are_longest (e ∷ es) q) (inserted q) ∙ sym (get-insert texts_total (longest_in es) e.0 (max e.1 (unwrap_or (fin.get (longest_in es) e.0) 0)) q))
  where
    inserted : (q : List ℕ) → IsLongest (e ∷ es) q (cond (eq_by_cmp text_cmp q e.0) (Some (max e.1 (unwrap_or (fin.get (longest_in es) e.0) 0))) (fin.get (longest_in es) q))
    inserted q = elim (eq_by_cmp text_cmp q e.0) as (λ b. eq_by_cmp text_cmp q e.0 ≡ b → IsLongest (e ∷ es) q (cond b (Some (max e.1 (unwrap_or (fin.get (longest_in es) e.0) 0))) (fin.get (longest_in es) q))) [
      | true ↦ λ tie. subst (λ (k : List ℕ). IsLongest (e ∷ es) k (Some (max e.1 (unwrap_or (fin.get (longest_in es) e.0) 0)))) (sym (tied_is exact_texts q e.0 tie)) (takes_one e es e.0 (fin.get (longest_in es) e.0) refl (are_longest es e.0))
      | false ↦ λ tie. skips e es q _ (differs q e.0 tie) (are_longest es q)
    ] refl

-- one more in the list of the code
pub one_raised : {A : Type 0} (f : A → Timed) (old new : List A) (x : A) → new ≡ old ++ x ∷ [] → longest_in (map f new) ≡ fin.insert (longest_in (map f old)) (f x).0 (max (f x).1 (unwrap_or (fin.get (longest_in (map f old)) (f x).0) 0))
one_raised f old new x is =
    ap (λ l. longest_in (map f l)) is
    ∙ moved_same (map f (x ∷ old)) (map f (old ++ x ∷ [])) (IsPermutation-map f (x ∷ old) (old ++ x ∷ []) (IsPermutation-sym (old ++ x ∷ []) (x ∷ old) (IsPermutation-to_front old x)))
    ∙ one_more (f x) (map f old)

-- ---- two of one id joined

-- the same ids, with the same longest times
record Alike (es fs : List Timed) : Type 0 where
  ids : (q : List ℕ) → list_any (eq_by_cmp text_cmp q) (map (λ e. e.0) es) ≡ list_any (eq_by_cmp text_cmp q) (map (λ e. e.0) fs)
  times : (q : List ℕ) → longest_of es q ≡ longest_of fs q

alike : (es fs : List Timed) → Alike es fs → longest_in es ≡ longest_in fs
alike es fs are = same_map texts_total exact_texts _ _ (λ q. at_longest es q ∙ (λ i. cond (are.ids q i) (Some (are.times q i)) None) ∙ sym (at_longest fs q))

alike_more : (e : Timed) (es fs : List Timed) → Alike es fs → Alike (e ∷ es) (e ∷ fs)
alike_more e es fs are = record {
  ids = λ q. ap (λ b. eq_by_cmp text_cmp q e.0 || b) (are.ids q);
  times = λ q. ap (λ n. cond (eq_by_cmp text_cmp q e.0) (max e.1 n) n) (are.times q);
}

alike_then : (es fs gs : List Timed) → Alike es fs → Alike fs gs → Alike es gs
alike_then es fs gs one two = record { ids = λ q. one.ids q ∙ two.ids q; times = λ q. one.times q ∙ two.times q }

twice : (a b : Bool) → (a || b) ≡ (a || (a || b))
twice true b = refl
twice false b = refl

longer : (b : Bool) (m n k : ℕ) → cond b (max (max m n) k) k ≡ cond b (max m (cond b (max n k) k)) (cond b (max n k) k)
longer true m n k = omega arith
longer false m n k = refl

-- the first takes the longer time of both
joined : (id : List ℕ) (m n : ℕ) (es : List Timed) → Alike ((id, max m n) ∷ es) ((id, m) ∷ (id, n) ∷ es)
joined id m n es = record {
  ids = λ q. twice (eq_by_cmp text_cmp q id) (list_any (eq_by_cmp text_cmp q) (map (λ e. e.0) es));
  times = λ q. longer (eq_by_cmp text_cmp q id) m n (longest_of es q);
}

module _ {X F : Type 0} (R : F → X → X → Bool → F → X → X → Type 0) (f : X → Timed) (joins : (s : F) (x k : X) (b : Bool) (t : F) (y l : X) → R s x k b t y l → Joins (f x) (f k) b (f y) (f l)) where
  step : (xs ys : List X) (b : Bool) (t : F) (x k y l : X) → Joins (f x) (f k) b (f y) (f l) → MatchBool b (DedupsFrom R t l xs ys) ((zs : List X) × DedupsFrom R t y xs zs × (ys ≡ l ∷ zs))
      → ((s : F) (k : X) (ys : List X) → DedupsFrom R s k xs ys → Alike (map f ys) (f k ∷ map f xs)) → Alike (map f ys) (f k ∷ f x ∷ map f xs)
  step xs ys true t x k y l is left rest =
      alike_then (map f ys) (f l ∷ map f xs) (f k ∷ f x ∷ map f xs) (rest t l ys left)
      (subst (λ (e : Timed). Alike (e ∷ map f xs) (f k ∷ f x ∷ map f xs)) (sym is.1)
      (subst (λ (id : List ℕ). Alike (((f k).0, max (f k).1 (f x).1) ∷ map f xs) (f k ∷ (id, (f x).1) ∷ map f xs)) (sym is.0) (joined (f k).0 (f k).1 (f x).1 (map f xs))))
  step xs ys false t x k y l is left rest =
      subst (λ (l : List Timed). Alike l (f k ∷ f x ∷ map f xs)) (sym (ap (map f) left.2 ∙ ap (λ e. e ∷ map f left.0) is.1))
      (alike_more (f k) (map f left.0) (f x ∷ map f xs)
      (subst (λ (e : Timed). Alike (map f left.0) (e ∷ map f xs)) is.0 (rest t y left.0 left.1)))

  from : (xs : List X) (s : F) (k : X) (ys : List X) → DedupsFrom R s k xs ys → Alike (map f ys) (f k ∷ map f xs)
  from [] s k ys is = subst (λ (l : List X). Alike (map f l) (f k ∷ [])) (sym is) (record { ids = λ q. refl; times = λ q. refl })
  from (x ∷ xs) s k ys is = step xs ys is.0 is.1 x k is.2 is.3 (joins s x k is.0 is.1 is.2 is.3 is.4) is.5 (from xs)

  -- what the code leaves of them
  pub joined_same : (s : F) (xs ys : List X) → IsDeduped R s xs ys → longest_in (map f ys) ≡ longest_in (map f xs)
  joined_same s [] ys is = ap (λ l. longest_in (map f l)) is.told
  joined_same s (x ∷ xs) ys is = alike (map f ys) (f x ∷ map f xs) (from xs s x ys is.told)

-- ---- their ids

has_key : (b : Bool) (n : ℕ) → is_some (cond b (Some n) None) ≡ b
has_key true n = refl
has_key false n = refl

-- what is left without the ids of the times
pub without_keys : (texts : List (List ℕ)) (es : List Timed) → without texts (map (λ e. e.0) es) ≡ without texts (fin.keys (longest_in es))
without_keys texts es = λ i. filter (λ text. not (sym (keys_are text) i)) texts
  where
    keys_are : (q : List ℕ) → among (fin.keys (longest_in es)) q ≡ among (map (λ e. e.0) es) q
    keys_are q = sym (contains_key-keys (longest_in es) q) ∙ ap is_some (at_longest es q) ∙ has_key (among (map (λ e. e.0) es) q) (longest_of es q)

module _ {A : Type 0} (f : A → Timed) (xs : List A) (old now : List (List ℕ)) (i : ℕ) (is : now ≡ without old (map (λ x. (f x).0) (take i xs))) where
  -- one id more that was taken out
  pub more_removed : (new : List (List ℕ)) (x : A) → i < length xs → x ≡ get_or xs i x → new ≡ without now ((f x).0 ∷ []) → new ≡ without old (map (λ x. (f x).0) (take (i + 1) xs))
  more_removed new x within item removed =
      one_removed (λ x. (f x).0) old now new (take i xs) x removed is
      ∙ ap (λ l. without old (map (λ x. (f x).0) l)) (ap (λ x. take i xs ++ x ∷ []) item ∙ sym (take_more xs i x within))

  -- all of them
  pub all_removed : length xs ≤ i → now ≡ without old (fin.keys (longest_in (map f xs)))
  all_removed past = is ∙ ap (λ l. without old (map (λ x. (f x).0) l)) (take_all i xs past) ∙ ap (without old) (sym (ids_of xs)) ∙ without_keys old (map f xs)
    where
      ids_of : (xs : List A) → map (λ e. e.0) (map f xs) ≡ map (λ x. (f x).0) xs
      ids_of [] = refl
      ids_of (x ∷ xs) = ap (λ l. (f x).0 ∷ l) (ids_of xs)
