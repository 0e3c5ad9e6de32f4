-- The packets of the parts of tests, event by event.
use Rattle.std.proofs.Common.{◌≡◌, ℕ, Bool, true, false, ◌&&◌, true≢false, cond, List, [], ◌∷◌, ◌++◌, Option, Some, None, is_some, refl, sym, ap, ◌∙◌, append_assoc}
use Rattle.std.specs.Prelude.{option_map}
use Rattle.std.specs.FinMap as fin
use Rattle.std.specs.FinMap.{FinMap, get-insert, get-remove, get-empty}
use Rattle.std.specs.Ordering.{eq_by_cmp}
use Rattle.std.specs.Option.{unwrap_or}
use Rattle.packet_codec.specs.Canonical.{canonical, packets_of}
use Rattle.packet_codec.specs.declared.event.Event.{Event}
use Rattle.outcome_fold.specs.declared.row.Ended.{Ended}
use Rattle.outcome_fold.specs.declared.row.Row.{Row}
use Rattle.outcome_fold.specs.declared.test_key.TestKey.{TestKey}
use Rattle.outcome_fold.specs.Order.{test_cmp, among}
use Rattle.outcome_fold.specs.Parts.{test_of, speaks_of, events_of_test, ended_by}
use Rattle.outcome_fold.specs.Rows.{is_failure, part_with}
use Rattle.outcome_fold.proofs.OrderLemmas.{tests_total, exact_tests}
use Rattle.outcome_fold.proofs.TableLemmas.{tied_is}
use Rattle.outcome_fold.proofs.FoldLemmas.{append_none, last_part_ends, last_part_goes, part_of_test}
use Rattle.outcome_fold.proofs.StepLemmas.{flat_map_push, part_other, part_of_its}
use Rattle.outcome_fold.specs.Folded.{is_failing_end}
use Rattle.outcome_fold.specs.TestPackets.{test_of_row, packets_at}
use Rattle.last_failures.specs.declared.parts.FailedParts.{FailedParts}
use Rattle.last_failures.specs.Parts.{completes_failing, failed_behind, failed_part, some_part, open_part, or_else, part_packets, failure_packets}
use Rattle.last_failures.specs.Gathering.{open_packets_in, failed_in, where_among, is_wanted, speaks_of_one, packets_of_row, HasParts}

abbrev HeldByTest : Type 0
HeldByTest = FinMap test_cmp (List ℕ)

-- ---- one event more

-- the last part that an event completes and by which the test fails
failed_push : (test : TestKey) (kept : Option (List Event)) (seen es : List Event) (e : Event) → failed_behind test kept seen (es ++ e ∷ []) ≡ cond (completes_failing test e) (Some (part_with test (seen ++ es) e)) (failed_behind test kept seen es)
failed_push test kept seen [] e = ap (λ s. cond (completes_failing test e) (Some (part_with test s e)) kept) (sym (append_none seen))
failed_push test kept seen (x ∷ es) e =
    failed_push test (cond (completes_failing test x) (Some (part_with test seen x)) kept) (seen ++ x ∷ []) es e
    ∙ ap (λ s. cond (completes_failing test e) (Some (part_with test s e)) (failed_behind test (cond (completes_failing test x) (Some (part_with test seen x)) kept) (seen ++ x ∷ []) es)) (append_assoc seen (x ∷ []) es)

failed_next : (test : TestKey) (seen : List Event) (e : Event) (its fails : Bool) → speaks_of test (test_of e) ≡ its → is_failing_end (ended_by e.status) ≡ fails → failed_part test (seen ++ e ∷ []) ≡ cond (its && fails) (Some (part_with test seen e)) (failed_part test seen)
failed_next test seen e its fails its_is fails_is = failed_push test None [] seen e ∙ (λ i. cond (its_is i && fails_is i) (Some (part_with test seen e)) (failed_part test seen))

-- the packets of a part, and those of one with an event more
some_packets : (part : List Event) → unwrap_or (part_packets (some_part part)) [] ≡ packets_of part
some_packets [] = refl
some_packets (e ∷ es) = refl

some_push : (part : List Event) (e : Event) → part_packets (some_part (part ++ e ∷ [])) ≡ Some (packets_of part ++ canonical e)
some_push [] e = ap Some (flat_map_push canonical [] e)
some_push (x ∷ part) e = ap Some (flat_map_push canonical (x ∷ part) e)

-- ---- which tests are wanted

where_none : (b : Bool) → cond {A = Option (List ℕ)} b None None ≡ None
where_none true = refl
where_none false = refl

where_unwanted : (wanted : List (List ℕ)) (q : TestKey) (a b : Option (List ℕ)) → among wanted q.id ≡ false → where_among wanted q a ≡ where_among wanted q b
where_unwanted wanted q a b none = ap (λ c. cond c a None) none ∙ sym (ap (λ c. cond c b None) none)

where_wanted : (wanted : List (List ℕ)) (q : TestKey) (a : Option (List ℕ)) → among wanted q.id ≡ true → where_among wanted q a ≡ a
where_wanted wanted q a there = ap (λ c. cond c a None) there

-- the test that an event speaks of is wanted where its id is
spoken_wanted : (wanted : List (List ℕ)) (q : TestKey) (route id : Option (List ℕ)) → speaks_of q (option_map (λ id. record { route = route; id = id }) id) ≡ true → among wanted q.id ≡ is_wanted wanted id
spoken_wanted wanted q route None speaks = absurd (true≢false (sym speaks))
spoken_wanted wanted q route (Some id) speaks = ap (λ (t : TestKey). among wanted t.id) (tied_is exact_tests q (record { route = route; id = id }) speaks)

key_wanted : (wanted : List (List ℕ)) (k : TestKey) (route id : Option (List ℕ)) → Some k ≡ option_map (λ id. record { route = route; id = id }) id → among wanted k.id ≡ is_wanted wanted id
key_wanted wanted k route None is = absurd cc
key_wanted wanted k route (Some id) is =
    let same : k ≡ record { route = route; id = id } = cc in
    ap (λ (t : TestKey). among wanted t.id) same

-- ---- what is held

-- no event came
pub none_held : (wanted : List (List ℕ)) (parts : FailedParts) → open_packets_in parts ≡ fin.empty → failed_in parts ≡ fin.empty → HasParts wanted parts []
none_held wanted parts no_open no_failed = record {
  open_are = λ q. ap (λ (m : HeldByTest). fin.get m q) no_open ∙ get-empty test_cmp q ∙ sym (where_none (among wanted q.id));
  failed_are = λ q. ap (λ (m : HeldByTest). fin.get m q) no_failed ∙ get-empty test_cmp q ∙ sym (where_none (among wanted q.id));
}

-- an event of no test that is wanted
module _ (wanted : List (List ℕ)) (seen : List Event) (e : Event) (other : speaks_of_one wanted e ≡ false) where
  open_same : (q : TestKey) (its : Bool) → speaks_of q (test_of e) ≡ its → where_among wanted q (part_packets (open_part q seen)) ≡ where_among wanted q (part_packets (open_part q (seen ++ e ∷ [])))
  open_same q true its = where_unwanted wanted q _ _ (spoken_wanted wanted q e.route e.id its ∙ other)
  open_same q false its = ap (λ part. where_among wanted q (part_packets (some_part part))) (sym (part_other seen e q its))

  failed_same : (q : TestKey) (its : Bool) → speaks_of q (test_of e) ≡ its → where_among wanted q (part_packets (failed_part q seen)) ≡ where_among wanted q (part_packets (failed_part q (seen ++ e ∷ [])))
  failed_same q true its = where_unwanted wanted q _ _ (spoken_wanted wanted q e.route e.id its ∙ other)
  failed_same q false its = ap (λ part. where_among wanted q (part_packets part)) (sym (failed_next q seen e false (is_failing_end (ended_by e.status)) its refl))

  pub passes : (parts : FailedParts) → HasParts wanted parts seen → HasParts wanted parts (seen ++ e ∷ [])
  passes parts has = record {
    open_are = λ q. has.open_are q ∙ open_same q (speaks_of q (test_of e)) refl;
    failed_are = λ q. has.failed_are q ∙ failed_same q (speaks_of q (test_of e)) refl;
  }

-- an event of this test, which is wanted
module _ (wanted : List (List ℕ)) (seen : List Event) (e : Event) (k : TestKey) (before after : FailedParts) (test : Some k ≡ test_of e) (one : speaks_of_one wanted e ≡ true) (has : HasParts wanted before seen) where
  there : among wanted k.id ≡ true
  there = key_wanted wanted k e.route e.id test ∙ one

  speaks : (q : TestKey) → speaks_of q (test_of e) ≡ eq_by_cmp test_cmp q k
  speaks q = sym (ap (speaks_of q) test)

  held : packets_at (open_packets_in before) k ≡ packets_of (part_of_test seen k)
  held = ap (λ packets. unwrap_or packets []) (has.open_are k ∙ where_wanted wanted k _ there) ∙ some_packets (part_of_test seen k)

  grown : packets_at (open_packets_in before) k ++ canonical e ≡ packets_of (part_with k seen e)
  grown = ap (λ packets. packets ++ canonical e) held ∙ sym (flat_map_push canonical (part_of_test seen k) e)

  -- the same key
  at_key : (q : TestKey) → eq_by_cmp test_cmp q k ≡ true → (packets : TestKey → Option (List ℕ)) (now : Option (List ℕ)) → now ≡ packets k → now ≡ where_among wanted q (packets q)
  at_key q tie packets now is =
      let same : q ≡ k = tied_is exact_tests q k tie in
      is ∙ sym (where_wanted wanted k (packets k) there) ∙ ap (λ t. where_among wanted t (packets t)) (sym same)

  -- it completes nothing
  module _ (none : None ≡ ended_by e.status) (open_is : open_packets_in after ≡ fin.insert (fin.remove (open_packets_in before) k) k (packets_at (open_packets_in before) k ++ canonical e)) (failed_is : failed_in after ≡ failed_in before) where
    open_goes : (q : TestKey) (tie : Bool) → eq_by_cmp test_cmp q k ≡ tie → cond tie (Some (packets_at (open_packets_in before) k ++ canonical e)) (cond tie None (fin.get (open_packets_in before) q)) ≡ where_among wanted q (part_packets (open_part q (seen ++ e ∷ [])))
    open_goes q true tie =
        let part : part_of_test (seen ++ e ∷ []) k ≡ part_of_test seen k ++ e ∷ [] = part_of_its seen e k (speaks k ∙ ap (λ t. eq_by_cmp test_cmp t k) (sym (tied_is exact_tests q k tie)) ∙ tie) ∙ last_part_goes (events_of_test k seen) e (sym (ap is_some none)) in
        at_key q tie (λ t. part_packets (open_part t (seen ++ e ∷ []))) _ (ap (λ packets. Some (packets ++ canonical e)) held ∙ sym (some_push (part_of_test seen k) e) ∙ ap (λ p. part_packets (some_part p)) (sym part))
    open_goes q false tie = has.open_are q ∙ ap (λ part. where_among wanted q (part_packets (some_part part))) (sym (part_other seen e q (speaks q ∙ tie)))

    no_fail : (its : Bool) (a b : Option (List Event)) → cond (its && false) a b ≡ b
    no_fail true a b = refl
    no_fail false a b = refl

    pub goes_on : HasParts wanted after (seen ++ e ∷ [])
    goes_on = record {
      open_are = λ q.
          ap (λ (m : HeldByTest). fin.get m q) open_is
          ∙ get-insert tests_total (fin.remove (open_packets_in before) k) k _ q
          ∙ ap (cond (eq_by_cmp test_cmp q k) (Some (packets_at (open_packets_in before) k ++ canonical e))) (get-remove tests_total (open_packets_in before) k q)
          ∙ open_goes q (eq_by_cmp test_cmp q k) refl;
      failed_are = λ q.
          ap (λ (m : HeldByTest). fin.get m q) failed_is ∙ has.failed_are q
          ∙ ap (λ part. where_among wanted q (part_packets part)) (sym (failed_next q seen e (eq_by_cmp test_cmp q k) false (speaks q) (sym (ap is_failing_end none)) ∙ no_fail (eq_by_cmp test_cmp q k) _ _));
    }

  -- it ends the test so
  module _ (how : Ended) (some : Some how ≡ ended_by e.status) (open_is : open_packets_in after ≡ fin.remove (open_packets_in before) k) (failed_is : failed_in after ≡ cond (is_failure how) (fin.insert (failed_in before) k (packets_at (open_packets_in before) k ++ canonical e)) (failed_in before)) where
    open_ends : (q : TestKey) (tie : Bool) → eq_by_cmp test_cmp q k ≡ tie → cond tie None (fin.get (open_packets_in before) q) ≡ where_among wanted q (part_packets (open_part q (seen ++ e ∷ [])))
    open_ends q true tie =
        sym (where_none (among wanted q.id))
        ∙ ap (λ part. where_among wanted q (part_packets (some_part part))) (sym (part_of_its seen e q (speaks q ∙ tie) ∙ last_part_ends (events_of_test q seen) e (sym (ap is_some some))))
    open_ends q false tie = has.open_are q ∙ ap (λ part. where_among wanted q (part_packets (some_part part))) (sym (part_other seen e q (speaks q ∙ tie)))

    failed_ends : (q : TestKey) (tie fails : Bool) → eq_by_cmp test_cmp q k ≡ tie → fin.get (cond fails (fin.insert (failed_in before) k (packets_at (open_packets_in before) k ++ canonical e)) (failed_in before)) q ≡ where_among wanted q (part_packets (cond (tie && fails) (Some (part_with q seen e)) (failed_part q seen)))
    failed_ends q true true tie =
        get-insert tests_total (failed_in before) k _ q ∙ ap (λ b. cond b (Some (packets_at (open_packets_in before) k ++ canonical e)) (fin.get (failed_in before) q)) tie
        ∙ at_key q tie (λ t. Some (packets_of (part_with t seen e))) _ (ap Some grown)
    failed_ends q false true tie =
        get-insert tests_total (failed_in before) k _ q ∙ ap (λ b. cond b (Some (packets_at (open_packets_in before) k ++ canonical e)) (fin.get (failed_in before) q)) tie
        ∙ has.failed_are q
    failed_ends q true false tie = has.failed_are q
    failed_ends q false false tie = has.failed_are q

    pub ends : HasParts wanted after (seen ++ e ∷ [])
    ends = record {
      open_are = λ q. ap (λ (m : HeldByTest). fin.get m q) open_is ∙ get-remove tests_total (open_packets_in before) k q ∙ open_ends q (eq_by_cmp test_cmp q k) refl;
      failed_are = λ q.
          ap (λ (m : HeldByTest). fin.get m q) failed_is ∙ failed_ends q (eq_by_cmp test_cmp q k) (is_failure how) refl
          ∙ ap (λ part. where_among wanted q (part_packets part)) (sym (failed_next q seen e (eq_by_cmp test_cmp q k) (is_failure how) (speaks q) (sym (ap is_failing_end some))));
    }

-- ---- what is held at the end

either : (a b : Option (List Event)) → or_else (part_packets a) (part_packets b) ≡ part_packets (or_else a b)
either None b = refl
either (Some part) b = refl

held_at : (b : Bool) (begun failed : Option (List ℕ)) → unwrap_or (or_else (cond b begun None) (cond b failed None)) [] ≡ cond b (unwrap_or (or_else begun failed) []) []
held_at true begun failed = refl
held_at false begun failed = refl

-- the packets of the last part that failed of a row's test
pub held_for : (wanted : List (List ℕ)) (parts : FailedParts) (events : List Event) (row : Row) → HasParts wanted parts events → packets_of_row parts row ≡ cond (among wanted row.id) (failure_packets events row) []
held_for wanted parts events row has =
    let t : TestKey = test_of_row row in
    (λ i. unwrap_or (or_else (has.open_are t i) (has.failed_are t i)) [])
    ∙ held_at (among wanted row.id) (part_packets (open_part t events)) (part_packets (failed_part t events))
    ∙ ap (λ packets. cond (among wanted row.id) (unwrap_or packets []) []) (either (open_part t events) (failed_part t events))
