-- What the starts of several children come to.
use Rattle.std.proofs.Common.{◌≡◌, ℕ, zero, suc, ◌+◌, ◌<◌, List, [], ◌∷◌, ◌++◌, map, length, take, get_or, Option, None, Some, refl, sym, ◌∙◌, ap, subst, arith, append_assoc, append-nil}
use Rattle.std.specs.Prelude.{Result, Ok, Err, IfErr, IsErrAnd}
use Rattle.std.specs.List.{AllByRecursion, range_with_len}
use Rattle.std.specs.Option.{option_map}
use Rattle.std.proofs.lemmas.List.{length-append, length-map, map-append, take_more}
use Rattle.edge_io.specs.Causes.{RisesExactlyIf}
use Rattle.edge_io.specs.Children.{Output, IsOutput, AreBytesLeft, CanFinish}
use Rattle.edge_io.specs.Spawners.{Spawning, Starts}
use Rattle.edge_io.specs.Steps.{Goes, Stays}
use Rattle.edge_io.specs.declared.job.Job.{Job}
use Rattle.suite_run.specs.Starting.{StartsAll, HasStarted, StartsSome, StartsNext, start_failed}
use Rattle.suite_run.specs.declared.lane_starter.StartRefusal.{StartRefusal}
use Rattle.suite_run.specs.declared.lane_starter.StartRefusal.TheVariants.{Spawn, NoMemory}
use Rattle.worker_lane.specs.Rest.{lots_asked}
use Rattle.worker_lane.specs.declared.lot.Lot.{Lot}
use Rattle.worker_mux.specs.Outputs.{AreAllTexts, other_ids, ids_at, lots_asked_from}
use Rattle.worker_mux.proofs.Lists.{all_more}
use Rattle.worker_mux.proofs.OutputLemmas.{one_lane_more}

-- ---- lists

not_empty : {X : Type 0} (x : X) (xs : List X) → x ∷ xs ≡ [] → ⊥
not_empty x xs e = absurd (omega (arith, ap length e))

not_empty_before : {X : Type 0} (xs ys : List X) → (xs ≡ [] → ⊥) → xs ++ ys ≡ [] → ⊥
not_empty_before [] ys some e = some refl
not_empty_before (x ∷ xs) ys some e = not_empty x (xs ++ ys) e

-- one more that is so
pub each_more : {X : Type 0} (P : X → Type 0) (xs : List X) (i : ℕ) (x : X) → i < length xs → x ≡ get_or xs i x → P x → AllByRecursion P (take i xs) → AllByRecursion P (take (i + 1) xs)
each_more P xs i x below is so all = subst (AllByRecursion P) (ap (λ y. take i xs ++ y ∷ []) is ∙ sym (take_more xs i x below)) (all_more P (take i xs) x all so)

length_lots : (lane : ℕ) (asked : List (List (List ℕ))) (told : List (Option Output)) → length (lots_asked_from lane asked told) ≡ length told
length_lots lane asked [] = refl
length_lots lane asked (t ∷ told) = ap suc (length_lots (suc lane) (other_ids asked) told)

from_zero : (n : ℕ) → 0 + n ≡ n
from_zero n = omega arith

range_more : (a n : ℕ) → range_with_len a (suc n) ≡ range_with_len a n ++ (a + n) ∷ []
range_more a zero = ap (λ k. k ∷ []) (omega arith)
range_more a (suc n) = ap (λ l. a ∷ l) (range_more (a + 1) n ∙ ap (λ k. range_with_len (a + 1) n ++ k ∷ []) (omega arith))

take_none : {X : Type 0} (xs : List X) → take 0 xs ≡ []
take_none [] = refl
take_none (x ∷ xs) = refl

module _ {X : Type 0} (number : X → ℕ) (old new : List X) (next : map number new ≡ map number old ++ length old ∷ []) where
  pub one_longer : length new ≡ suc (length old)
  one_longer = omega (arith, length-map new number, length-map old number, ap length next, length-append (map number old) (length old ∷ []))

  pub numbers_next : map number old ≡ range_with_len 0 (length old) → map number new ≡ range_with_len 0 (length new)
  numbers_next before = next ∙ ap (λ l. l ++ length old ∷ []) before ∙ ap (λ k. range_with_len 0 (length old) ++ k ∷ []) (sym (from_zero (length old))) ∙ sym (range_more 0 (length old)) ∙ ap (range_with_len 0) (sym one_longer)

-- ---- no start, and one after others

all_none : (s t : Spawning) → t ≡ s → StartsAll [] [] s t
all_none s t same = record {
  count = refl;
  taken = ap (λ (x : Spawning). x.outputs) (sym same);
  jobs_are = ap (λ (x : Spawning). x.started) same ∙ sym (append-nil s.started);
}

all_one : (job : Job) (child : Option Output) (s t : Spawning) (starts : Starts job child s t) → StartsAll (job ∷ []) (starts.output ∷ []) s t
all_one job child s t starts = record { count = refl; taken = starts.first; jobs_are = starts.jobs }

all_then : (jobs more : List Job) (outputs others : List Output) (s t u : Spawning) → StartsAll jobs outputs s t → StartsAll more others t u → StartsAll (jobs ++ more) (outputs ++ others) s u
all_then jobs more outputs others s t u first second = record {
  count = omega (arith, length-append outputs others, length-append jobs more, first.count, second.count);
  taken = first.taken ∙ ap (λ l. outputs ++ l) second.taken ∙ sym (append_assoc outputs others u.outputs);
  jobs_are = second.jobs_are ∙ ap (λ l. l ++ more) first.jobs_are ∙ append_assoc s.started jobs more;
}

-- ---- one job

pub failed_first : (job : Job) (old new : Option Spawning) → Goes old new Stays → Goes old new (StartsSome (job ∷ []) Spawn)
failed_first job None None stays = tt
failed_first job None (Some t) stays = stays
failed_first job (Some s) None stays = stays
failed_first job (Some s) (Some t) stays = record { done = []; more = job ∷ []; jobs_are = refl; outputs = []; started = all_none s t stays; failed = λ _. not_empty job [] }

pub without_lane : (job : Job) (child : Option Output) (old new : Option Spawning) → Goes old new (Starts job child) → Goes old new (StartsSome (job ∷ []) NoMemory)
without_lane job child None None starts = tt
without_lane job child None (Some t) starts = starts
without_lane job child (Some s) None starts = starts
without_lane job child (Some s) (Some t) starts = record {
  done = job ∷ [];
  more = [];
  jobs_are = refl;
  outputs = starts.output ∷ [];
  started = all_one job child s t starts;
  failed = λ e. absurd (grind (arith, e));
}

-- ---- after others

pub none_started : (asked : List (List (List ℕ))) (old : Option Spawning) → AreAllTexts asked → Goes old old (HasStarted [] asked [])
none_started asked None texts = tt
none_started asked (Some s) texts = record { outputs = []; all = all_none s s refl; are_outputs = tt; texts = texts; rests_are = refl }

pub nothing_started : {X : Type 0} (left : X → Option (List Lot)) (lanes : List X) (jobs : List Job) (asked : List (List (List ℕ))) (old : Option Spawning) → AreAllTexts asked → lanes ≡ [] → Goes old old (HasStarted (take 0 jobs) asked (map left lanes))
nothing_started left lanes jobs asked old texts none =
    subst (λ l. Goes old old (HasStarted l asked (map left lanes))) (sym (take_none jobs)) (subst (λ l. Goes old old (HasStarted [] asked (map left l))) (sym none) (none_started asked old texts))

pub starts_more : (done : List Job) (job : Job) (asked : List (List (List ℕ))) (ids : List (List ℕ)) (rests more : List (Option (List Lot))) (a b c : Option Spawning) → ids ≡ ids_at asked (length rests) → Goes a b (HasStarted done asked rests) → StartsNext job ids rests more b c → Goes a c (HasStarted (done ++ job ∷ []) asked more)
starts_more done job asked ids rests more a b c named started next = at a b c started next.started
  where
    here : (s t u : Spawning) → HasStarted done asked rests s t → Starts job next.child t u → HasStarted (done ++ job ∷ []) asked more s u
    here s t u before starts =
        let told : next.child ≡ Some starts.output = starts.tells in
        let outputs : List Output = before.outputs in
        let count : length rests ≡ length outputs = ap length before.rests_are ∙ length_lots 0 asked (map Some outputs) ∙ length_told outputs in
        let place : length rests ≡ length (map Some outputs) = count ∙ sym (length_told outputs) in
        let mapped : map Some (outputs ++ starts.output ∷ []) ≡ map Some outputs ++ Some starts.output ∷ [] = map-append Some outputs (starts.output ∷ []) in
        let lots : more ≡ lots_asked_from 0 asked (map Some outputs) ++ option_map (lots_asked (0 + length (map Some outputs)) (ids_at asked (length (map Some outputs)))) (Some starts.output) ∷ [] =
        next.rests_are
        ∙ ap (λ l. l ++ option_map (lots_asked (length rests) ids) next.child ∷ []) before.rests_are
        ∙ ap (λ (l : List (List ℕ)). lots_asked_from 0 asked (map Some outputs) ++ option_map (lots_asked (length rests) l) next.child ∷ []) (named ∙ ap (ids_at asked) place)
        ∙ ap (λ (n : ℕ). lots_asked_from 0 asked (map Some outputs) ++ option_map (lots_asked n (ids_at asked (length (map Some outputs)))) next.child ∷ []) (place ∙ sym (from_zero (length (map Some outputs))))
        ∙ ap (λ t. lots_asked_from 0 asked (map Some outputs) ++ option_map (lots_asked (0 + length (map Some outputs)) (ids_at asked (length (map Some outputs)))) t ∷ []) told in
        record {
          outputs = outputs ++ starts.output ∷ [];
          all = all_then done (job ∷ []) outputs (starts.output ∷ []) s t u before.all (all_one job next.child t u starts);
          are_outputs = all_more IsOutput outputs starts.output before.are_outputs (record { bytes = subst AreBytesLeft told next.are_bytes; finish = subst CanFinish told next.has_finish });
          texts = before.texts;
          rests_are = lots ∙ sym (one_lane_more 0 asked (map Some outputs) (Some starts.output)) ∙ ap (lots_asked_from 0 asked) (sym mapped);
        }
      where
        length_told : (outputs : List Output) → length (map Some outputs) ≡ length outputs
        length_told [] = refl
        length_told (output ∷ outputs) = ap suc (length_told outputs)

    at : (a b c : Option Spawning) → Goes a b (HasStarted done asked rests) → Goes b c (Starts job next.child) → Goes a c (HasStarted (done ++ job ∷ []) asked more)
    at None None None first second = tt
    at None None (Some u) first second = second
    at None (Some t) c first second = absurd first
    at (Some s) None c first second = absurd first
    at (Some s) (Some t) None first second = absurd second
    at (Some s) (Some t) (Some u) first second = here s t u first second

-- a refusal that is handed on
module _ (result : Result (Unit {0}) StartRefusal) (refusal : StartRefusal) where
  pub handed_on : (P : StartRefusal → Type 0) → IsErrAnd result (λ given. given ≡ refusal) → P refusal → IfErr result P
  handed_on P is has = by result is
    where
      by : (result : Result (Unit {0}) StartRefusal) → IsErrAnd result (λ given. given ≡ refusal) → IfErr result P
      by (Ok done) is = absurd is
      by (Err given) is = subst P (sym is) has

  pub sum_after : (a b c : ℕ) → b ≡ a → IsErrAnd result (λ given. given ≡ refusal) → RisesExactlyIf b c (start_failed {T = Unit {0}} (Err refusal)) → RisesExactlyIf a c (start_failed result)
  sum_after a b c same is sum = by result is
    where
      first : RisesExactlyIf a c (start_failed {T = Unit {0}} (Err refusal))
      first = subst (λ n. RisesExactlyIf n c (start_failed {T = Unit {0}} (Err refusal))) same sum

      by : (result : Result (Unit {0}) StartRefusal) → IsErrAnd result (λ given. given ≡ refusal) → RisesExactlyIf a c (start_failed result)
      by (Ok done) is = absurd is
      by (Err given) is = subst (λ r. RisesExactlyIf a c (start_failed {T = Unit {0}} (Err r))) (sym is) first

pub some_more : (jobs done : List Job) (job : Job) (rest : List Job) (asked : List (List (List ℕ))) (rests : List (Option (List Lot))) (refusal : StartRefusal) (a b c : Option Spawning) → jobs ≡ done ++ job ∷ rest → Goes a b (HasStarted done asked rests) → Goes b c (StartsSome (job ∷ []) refusal) → Goes a c (StartsSome jobs refusal)
some_more jobs done job rest asked rests refusal a b c split first second = at a b c first second
  where
    here : (s t u : Spawning) → HasStarted done asked rests s t → StartsSome (job ∷ []) refusal t u → StartsSome jobs refusal s u
    here s t u before after = record {
      done = done ++ after.done;
      more = after.more ++ rest;
      jobs_are = split ∙ ap (λ l. done ++ (l ++ rest)) after.jobs_are ∙ ap (λ l. done ++ l) (append_assoc after.done after.more rest) ∙ sym (append_assoc done after.done (after.more ++ rest));
      outputs = before.outputs ++ after.outputs;
      started = all_then done after.done before.outputs after.outputs s t u before.all after.started;
      failed = λ spawn. not_empty_before after.more rest (after.failed spawn);
    }

    at : (a b c : Option Spawning) → Goes a b (HasStarted done asked rests) → Goes b c (StartsSome (job ∷ []) refusal) → Goes a c (StartsSome jobs refusal)
    at None None None first second = tt
    at None None (Some u) first second = second
    at None (Some t) c first second = absurd first
    at (Some s) None c first second = absurd first
    at (Some s) (Some t) None first second = absurd second
    at (Some s) (Some t) (Some u) first second = here s t u first second
