-- What one failure more makes of a search.
use Rattle.std.proofs.Common.{◌≡◌, ℕ, ◌+◌, ◌<◌, ◌≤◌, Bool, true, false, ◌&&◌, ◌||◌, not, true≢false, cond, List, [], ◌∷◌, ◌++◌, map, drop, take, length, Option, Some, None, is_none, Result, Ok, Err, OnOk, refl, sym, ap, ◌∙◌, subst}
use Rattle.std.specs.Prelude.{get_or}
use Rattle.std.proofs.lemmas.List.{drop_all}
use Rattle.std.specs.FinMap as fin
use Rattle.std.specs.FinMap.{FinMap, get-insert, get-empty}
use Rattle.std.specs.Ordering.{eq_by_cmp}
use Rattle.outcome_fold.specs.declared.row.Row.{Row}
use Rattle.outcome_fold.specs.Answers.{row_fails}
use Rattle.outcome_fold.specs.Order.{text_cmp, among, without, in_byte_order}
use Rattle.outcome_fold.proofs.SetLemmas.{among_order, among_without, one_inserted}
use Rattle.outcome_fold.proofs.TableLemmas.{tied_is}
use Rattle.outcome_fold.proofs.OrderLemmas.{texts_total, exact_texts}
use Rattle.last_failures.specs.declared.failures.Failure.{Failure}
use Rattle.last_failures.specs.Last.{is_failure_of, or_this, last_failure}
use Rattle.last_failures.specs.Looking.{HasLookedUp, with_packets}

-- nothing was looked at
pub none_found : (ids missing : List (List ℕ)) (found : FinMap text_cmp Failure) → missing ≡ in_byte_order ids → found ≡ fin.empty → HasLookedUp ids [] missing found
none_found ids missing found all none = record {
  missing_are = λ id has. ap (λ l. among l id) all ∙ among_order ids id ∙ has;
  found_are = λ id has. ap (λ m. fin.get m id) none ∙ get-empty text_cmp id;
}

-- a row that does not count changes nothing
same_row : (id : List ℕ) (failure : Failure) (missing : List (List ℕ)) (later : Option Failure) → among missing id ≡ is_none later → (row_fails failure.row && among missing failure.row.id) ≡ false → or_this later (is_failure_of id failure.row) failure ≡ later
same_row id failure missing (Some other) at not_so = refl
same_row id failure missing None at not_so = by (row_fails failure.row) (eq_by_cmp text_cmp id failure.row.id) refl refl
  where
    by : (fails same : Bool) → row_fails failure.row ≡ fails → eq_by_cmp text_cmp id failure.row.id ≡ same → cond (fails && same) (Some failure) None ≡ None
    by false same fails_is same_is = refl
    by true false fails_is same_is = refl
    by true true fails_is same_is =
        let there : among missing failure.row.id ≡ true = ap (among missing) (sym (tied_is exact_texts id failure.row.id same_is)) ∙ at in
        absurd (true≢false (sym (λ i. fails_is i && there i) ∙ not_so))

pub passed_by : (ids : List (List ℕ)) (later : List Failure) (failure : Failure) (missing : List (List ℕ)) (found : FinMap text_cmp Failure) → (row_fails failure.row && among missing failure.row.id) ≡ false → HasLookedUp ids later missing found → HasLookedUp ids (failure ∷ later) missing found
passed_by ids later failure missing found not_so before =
    let same : (id : List ℕ) → among ids id ≡ true → last_failure (failure ∷ later) id ≡ last_failure later id = λ id has. same_row id failure missing (last_failure later id) (before.missing_are id has) not_so in
    record {
      missing_are = λ id has. before.missing_are id has ∙ sym (ap is_none (same id has));
      found_are = λ id has. before.found_are id has ∙ sym (same id has);
    }

both_true : (a b : Bool) → (a && b) ≡ true → (a ≡ true) × (b ≡ true)
both_true true true is = (refl, refl)
both_true true false is = absurd (true≢false (sym is))
both_true false b is = absurd (true≢false (sym is))

-- where the row is of another id, what is later stands
other_row : (fails : Bool) (later : Option Failure) (failure : Failure) → or_this later (fails && false) failure ≡ later
other_row true None failure = refl
other_row false None failure = refl
other_row fails (Some other) failure = refl

-- a row that counts is the last failure of its id, which is missing no more
module _ (failure : Failure) (missing : List (List ℕ)) (found : FinMap text_cmp Failure) (fails : row_fails failure.row ≡ true) (there : among missing failure.row.id ≡ true) where
  kept_at : (id : List ℕ) (same : Bool) → eq_by_cmp text_cmp id failure.row.id ≡ same → (later : Option Failure) → among missing id ≡ is_none later → fin.get found id ≡ later
      → (among (without missing (failure.row.id ∷ [])) id ≡ is_none (or_this later (row_fails failure.row && same) failure)) × (fin.get (fin.insert found failure.row.id failure) id ≡ or_this later (row_fails failure.row && same) failure)
  kept_at id true same None at got = (
    among_without missing (failure.row.id ∷ []) id ∙ ap (λ b. not (b || false) && among missing id) same ∙ sym (ap (λ b. is_none (or_this None (b && true) failure)) fails),
    get-insert texts_total found failure.row.id failure id ∙ ap (λ b. cond b (Some failure) (fin.get found id)) same ∙ sym (ap (λ b. or_this None (b && true) failure) fails),
  )
  kept_at id true same (Some other) at got =
      let has : among missing id ≡ true = ap (among missing) (tied_is exact_texts id failure.row.id same) ∙ there in
      absurd (true≢false (sym has ∙ at))
  kept_at id false same later at got = (
    among_without missing (failure.row.id ∷ []) id ∙ ap (λ b. not (b || false) && among missing id) same ∙ at ∙ sym (ap is_none (other_row (row_fails failure.row) later failure)),
    get-insert texts_total found failure.row.id failure id ∙ ap (λ b. cond b (Some failure) (fin.get found id)) same ∙ got ∙ sym (other_row (row_fails failure.row) later failure),
  )

  kept_row : (ids : List (List ℕ)) (later : List Failure) → HasLookedUp ids later missing found → HasLookedUp ids (failure ∷ later) (without missing (failure.row.id ∷ [])) (fin.insert found failure.row.id failure)
  kept_row ids later before = record {
    missing_are = λ id has. (kept_at id (eq_by_cmp text_cmp id failure.row.id) refl (last_failure later id) (before.missing_are id has) (before.found_are id has)).0;
    found_are = λ id has. (kept_at id (eq_by_cmp text_cmp id failure.row.id) refl (last_failure later id) (before.missing_are id has) (before.found_are id has)).1;
  }

kept_failure : (ids : List (List ℕ)) (later : List Failure) (failure : Failure) (missing kept_missing : List (List ℕ)) (found kept : FinMap text_cmp Failure) → (row_fails failure.row && among missing failure.row.id) ≡ true → kept_missing ≡ without missing (failure.row.id ∷ []) → kept ≡ fin.insert found failure.row.id failure → HasLookedUp ids later missing found → HasLookedUp ids (failure ∷ later) kept_missing kept
kept_failure ids later failure missing kept_missing found kept so missing_is kept_is before =
    let is = both_true (row_fails failure.row) (among missing failure.row.id) so in
    let now = kept_row failure missing found is.0 is.1 ids later before in
    record {
      missing_are = λ id has. ap (λ l. among l id) missing_is ∙ now.missing_are id has;
      found_are = λ id has. ap (λ m. fin.get m id) kept_is ∙ now.found_are id has;
    }

pub kept_by : (ids : List (List ℕ)) (later : List Failure) (row : Row) (held : List ℕ) (packets : Row → List ℕ) (missing kept_missing : List (List ℕ)) (found kept : FinMap text_cmp Failure) → (row_fails row && among missing row.id) ≡ true → kept_missing ≡ without missing (row.id ∷ []) → kept ≡ fin.insert found row.id (record { row = row; packets = held }) → (among missing row.id ≡ true → held ≡ packets row) → HasLookedUp ids later missing found → HasLookedUp ids (with_packets packets row ∷ later) kept_missing kept
kept_by ids later row held packets missing kept_missing found kept so missing_is kept_is held_are before =
    let is = both_true (row_fails row) (among missing row.id) so in
    let failure : held ≡ packets row = held_are is.1 in
    kept_failure ids later (with_packets packets row) missing kept_missing found kept so missing_is
    (kept_is ∙ ap (λ (p : List ℕ). fin.insert found row.id (record { row = row; packets = p })) failure) before

-- an id that is missing still was missing before
pub still_missing : (missing kept_missing : List (List ℕ)) (out id : List ℕ) → kept_missing ≡ without missing (out ∷ []) → among kept_missing id ≡ true → among missing id ≡ true
still_missing missing kept_missing out id is there =
    (both_true (not (among (out ∷ []) id)) (among missing id) (sym (among_without missing (out ∷ []) id) ∙ sym (ap (λ l. among l id) is) ∙ there)).1

-- where no id is missing, what stands in front changes nothing
some_stays : (front later : List Failure) (id : List ℕ) (failure : Failure) → last_failure later id ≡ Some failure → last_failure (front ++ later) id ≡ Some failure
some_stays [] later id failure is = is
some_stays (first ∷ front) later id failure is = ap (λ o. or_this o (is_failure_of id first.row) first) (some_stays front later id failure is)

stays : (front later : List Failure) (id : List ℕ) (o : Option Failure) → last_failure later id ≡ o → is_none o ≡ false → last_failure (front ++ later) id ≡ last_failure later id
stays front later id None is some = absurd (true≢false some)
stays front later id (Some failure) is some = some_stays front later id failure is ∙ sym is

pub done_before : (ids : List (List ℕ)) (front later : List Failure) (missing : List (List ℕ)) (found : FinMap text_cmp Failure) → ((id : List ℕ) → among missing id ≡ false) → HasLookedUp ids later missing found → HasLookedUp ids (front ++ later) missing found
done_before ids front later missing found none before =
    let same : (id : List ℕ) → among ids id ≡ true → last_failure (front ++ later) id ≡ last_failure later id = λ id has. stays front later id (last_failure later id) refl (sym (before.missing_are id has) ∙ none id) in
    record {
      missing_are = λ id has. before.missing_are id has ∙ sym (ap is_none (same id has));
      found_are = λ id has. before.found_are id has ∙ sym (same id has);
    }

-- a call that is done has both
pub both_ok : {T E M F G : Type 0} (r : Result T E) → OnOk r M → OnOk r F → (M → F → G) → OnOk r G
both_ok (Ok done) m f next = next m f
both_ok (Err fault) m f next = tt

-- a call that is done has this, where it has that
pub ok_then : {T E M G : Type 0} (r : Result T E) → OnOk r M → (M → G) → OnOk r G
ok_then (Ok done) m next = next m
ok_then (Err fault) m next = tt

-- no row was looked at yet, and one more in front of the others
pub none_looked : (ids : List (List ℕ)) (rows : List Row) (packets : Row → List ℕ) (later : List Failure) (place : ℕ) (missing : List (List ℕ)) (found : FinMap text_cmp Failure) → length rows ≤ place → HasLookedUp ids later missing found → HasLookedUp ids (map (with_packets packets) (drop place rows) ++ later) missing found
none_looked ids rows packets later place missing found past before = subst (λ (l : List Row). HasLookedUp ids (map (with_packets packets) l ++ later) missing found) (sym (drop_all place rows past)) before

pub row_in_front : (rows : List Row) (packets : Row → List ℕ) (later : List Failure) (place next : ℕ) (row : Row) → place ≡ next + 1 → next < length rows → drop next rows ≡ row ∷ drop (next + 1) rows → with_packets packets row ∷ (map (with_packets packets) (drop place rows) ++ later) ≡ map (with_packets packets) (drop next rows) ++ later
row_in_front rows packets later place next row is below here = ap (λ n. with_packets packets row ∷ (map (with_packets packets) (drop n rows) ++ later)) is ∙ sym (ap (λ l. map (with_packets packets) l ++ later) here)

-- one id more of those that are missing
pub one_copied : (given items now : List (List ℕ)) (place : ℕ) (id copy : List ℕ) → items ≡ given → now ≡ in_byte_order (take place given) → place < length items → id ≡ get_or items place id → copy ≡ id → in_byte_order (copy ∷ now) ≡ in_byte_order (take (place + 1) given)
one_copied given items now place id copy same is below here copied =
    ap (λ c. in_byte_order (c ∷ now)) copied
    ∙ one_inserted [] given now place id is (subst (λ (l : List (List ℕ)). place < length l) same below) (subst (λ (l : List (List ℕ)). id ≡ get_or l place id) same here)
