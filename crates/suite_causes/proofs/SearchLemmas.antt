-- The probes of a search, one after another.
use Rattle.std.proofs.Common.{◌≡◌, ℕ, ◌+◌, ◌-◌, ◌<◌, ◌≤◌, Bool, true, Option, None, Some, Result, Ok, Err, List, [], ◌∷◌, ◌++◌, map, length, take, drop, refl, sym, ◌∙◌, ap, subst, arith, append_assoc, append-nil}
use Rattle.std.specs.Prelude.{IsErrAnd, IfSome}
use Rattle.std.specs.List.{All, AllByRecursion}
use Rattle.std.proofs.lemmas.List.{map-append, drop-take, take-take, length-take-le}
use Rattle.std.proofs.lemmas.List.Elements.{All-contains}
use Rattle.edge_io.proofs.Going.{goes_then, goes_weaker}
use Rattle.edge_io.specs.Causes.{RisesExactlyIf}
use Rattle.edge_io.specs.Children.{Output}
use Rattle.edge_io.specs.Seen.{Seen}
use Rattle.edge_io.specs.Spawners.{Spawning}
use Rattle.edge_io.specs.Steps.{Goes}
use Rattle.isolation_bisect.specs.Orders.{next_probe, AskedInOrder}
use Rattle.isolation_bisect.specs.Probes.{IsWithin, probe_ids}
use Rattle.isolation_bisect.specs.Verdicts.{Licenses}
use Rattle.isolation_bisect.specs.declared.found.Found.{Found}
use Rattle.isolation_bisect.specs.declared.found.Found.TheVariants as found
use Rattle.isolation_bisect.specs.declared.probe.Asked.{Asked}
use Rattle.isolation_bisect.specs.declared.probe.Probe.{Probe}
use Rattle.isolation_bisect.specs.declared.probe.Probe.TheVariants.{Alone, Span}
use Rattle.suite_plan.specs.Children.{IsBroken}
use Rattle.testr_conf.specs.Settings.{Settings}
use Rattle.suite_causes.specs.Probing.{fails_in, HasAnswer}
use Rattle.suite_causes.specs.Searching.{TestIds, IsAmong, probe_job, StartsProbe, HasProbeCause, search_failed, HasAsked, SearchesSo, StopsSearch, Searches}
use Rattle.suite_causes.specs.declared.cause_search.SearchFault.{SearchFault}
use Rattle.suite_causes.specs.declared.cause_search.SearchFault.TheVariants.{Spawn, Child, NoMemory}

-- ---- ids

-- what a probe runs of the first of some ids, it runs of all of them
pub first_ids : (ids : TestIds) (count : ℕ) (test : List ℕ) (probe : Probe) → IsWithin count probe → probe_ids ids probe test ≡ probe_ids (take count ids) probe test
first_ids ids count test Alone within = refl
first_ids ids count test (Span from to) within =
    let some : from < to = within.0 in
    let inside : to ≤ count = within.1 in
    let parts : count ≡ from + (count - from) = omega arith in
    let behind : drop from (take count ids) ≡ take (count - from) (drop from ids) = ap (λ n. drop from (take n ids)) parts ∙ drop-take from (count - from) ids in
    ap (λ l. l ++ test ∷ []) (sym (take-take (to - from) (count - from) (drop from ids) (omega arith)) ∙ ap (take (to - from)) (sym behind))

-- so it is of a probe that was started, and of one that has no answer
pub starts_first : (settings : Settings) (ids : TestIds) (count : ℕ) (test : List ℕ) (probe : Probe) (failed : Bool) (a b : Option Spawning) → IsWithin count probe
    → Goes a b (StartsProbe settings (probe_ids ids probe test) (HasAnswer test failed)) → Goes a b (StartsProbe settings (probe_ids (take count ids) probe test) (HasAnswer test failed))
starts_first settings ids count test probe failed a b within starts = subst (λ (some : TestIds). Goes a b (StartsProbe settings some (HasAnswer test failed))) (first_ids ids count test probe within) starts

pub cause_first : (settings : Settings) (ids : TestIds) (count : ℕ) (test : List ℕ) (probe : Probe) (fault : SearchFault) (a b : Option Spawning) → IsWithin count probe
    → Goes a b (HasProbeCause settings (probe_ids ids probe test) fault) → Goes a b (HasProbeCause settings (probe_ids (take count ids) probe test) fault)
cause_first settings ids count test probe fault a b within cause = subst (λ (some : TestIds). Goes a b (HasProbeCause settings some fault)) (first_ids ids count test probe within) cause

all_more : {X : Type 0} (P : X → Type 0) (xs : List X) (x : X) → AllByRecursion P xs → P x → AllByRecursion P (xs ++ x ∷ [])
all_more P [] x all one = (one, tt)
all_more P (y ∷ xs) x all one = (all.0, all_more P xs x all.1 one)

-- what holds of the next probe holds of this one
pub asked_by : (next : Option Probe) (probe : Probe) (P : Probe → Type 0) → next ≡ Some probe → IfSome next P → P probe
asked_by next probe P is holds = let here : IfSome (Some probe) P = subst (λ (o : Option Probe). IfSome o P) is holds in here

-- ---- probes behind others

module _ (settings : Settings) (candidates : TestIds) (test : List ℕ) where
  pub asked_none : (state : Option Spawning) → Goes state state (HasAsked settings candidates test [])
  asked_none None = tt
  asked_none (Some s) = record { in_order = tt; jobs = []; jobs_are = refl; started = sym (append-nil s.started); outputs = []; taken = refl; ended = tt; answers = refl }

  pub asked_more : (asked : List Asked) (probe : Probe) (failed : Bool) (a b c : Option Spawning) → AskedInOrder (asked ++ record { probe = probe; failed = failed } ∷ []) (length candidates)
      → Goes a b (HasAsked settings candidates test asked) → Goes b c (StartsProbe settings (probe_ids candidates probe test) (HasAnswer test failed))
      → Goes a c (HasAsked settings candidates test (asked ++ record { probe = probe; failed = failed } ∷ []))
  asked_more asked probe failed a b c order first second =
      goes_then a b c (HasAsked settings candidates test asked) (StartsProbe settings (probe_ids candidates probe test) (HasAnswer test failed)) (HasAsked settings candidates test (asked ++ one ∷ [])) first second here
    where
      one : Asked
      one = record { probe = probe; failed = failed }

      here : (s m t : Spawning) → HasAsked settings candidates test asked s m → StartsProbe settings (probe_ids candidates probe test) (HasAnswer test failed) m t → HasAsked settings candidates test (asked ++ record { probe = probe; failed = failed } ∷ []) s t
      here s m t has starts = record {
        in_order = order;
        jobs = has.jobs ++ starts.job ∷ [];
        jobs_are =
            map-append (λ (one : Asked). probe_job settings (probe_ids candidates one.probe test)) asked (record { probe = probe; failed = failed } ∷ [])
            ∙ ap (λ l. l ++ probe_job settings (probe_ids candidates probe test) ∷ []) has.jobs_are
            ∙ ap (λ r. map Ok has.jobs ++ r ∷ []) starts.job_is
            ∙ sym (map-append Ok has.jobs (starts.job ∷ []));
        started = starts.started.jobs ∙ ap (λ l. l ++ starts.job ∷ []) has.started ∙ append_assoc s.started has.jobs (starts.job ∷ []);
        outputs = has.outputs ++ starts.output ∷ [];
        taken = has.taken ∙ ap (λ l. has.outputs ++ l) starts.started.first ∙ sym (append_assoc has.outputs (starts.output ∷ []) t.outputs);
        ended = all_more (λ (output : Output). IsBroken output.finish → ⊥) has.outputs starts.output has.ended starts.meets.ended;
        answers =
            map-append (λ (one : Asked). one.failed) asked (record { probe = probe; failed = failed } ∷ [])
            ∙ ap (λ l. l ++ failed ∷ []) has.answers
            ∙ ap (λ b. map (fails_in test) has.outputs ++ b ∷ []) starts.meets.answer
            ∙ sym (map-append (fails_in test) has.outputs (starts.output ∷ []));
      }

  -- the next one has no answer
  pub stops_behind : (asked : List Asked) (probe : Probe) (fault : SearchFault) (a b c : Option Spawning) → next_probe asked (length candidates) ≡ Some probe
      → Goes a b (HasAsked settings candidates test asked) → Goes b c (HasProbeCause settings (probe_ids candidates probe test) fault) → Goes a c (StopsSearch settings candidates test fault)
  stops_behind asked probe fault a b c next first second =
      goes_then a b c (HasAsked settings candidates test asked) (HasProbeCause settings (probe_ids candidates probe test) fault) (StopsSearch settings candidates test fault) first second
      (λ s m t has cause. record { asked = asked; between = m; has = has; probe = probe; next = next; cause = cause })

  -- a verdict
  pub verdict_behind : (asked : List Asked) (verdict : Found) (a b : Option Spawning) → Licenses asked (length candidates) verdict → Goes a b (HasAsked settings candidates test asked) → Goes a b (SearchesSo settings candidates test verdict)
  verdict_behind asked verdict a b licensed step =
      goes_weaker a b (HasAsked settings candidates test asked) (SearchesSo settings candidates test verdict) step (λ s t has. record { asked = asked; has = has; licensed = licensed })

  -- ---- what the call answers

  same_failed : (fault : SearchFault) → search_failed {T = Bool} (Err fault) ≡ search_failed {T = Found} (Err fault)
  same_failed Spawn = refl
  same_failed Child = refl
  same_failed NoMemory = refl

  pub search_stops : (result : Result Found SearchFault) (fault : SearchFault) (before after : Seen Spawning) (count : ℕ) → IsErrAnd result (λ given. given ≡ fault)
      → Goes before.told after.told (StopsSearch settings candidates test fault) → count ≡ before.faults → RisesExactlyIf count after.faults (search_failed {T = Bool} (Err fault)) → Searches settings candidates test before after result
  search_stops (Ok verdict) fault before after count is stops same rises = absurd is
  search_stops (Err given) fault before after count is stops same rises = subst (λ fault. Searches settings candidates test before after (Err fault)) (sym is) (record {
    found = tt;
    among = tt;
    refused = stops;
    count = subst (λ n. RisesExactlyIf n after.faults (search_failed {T = Found} (Err fault))) same (subst (RisesExactlyIf count after.faults) (same_failed fault) rises);
  })

module _ (settings : Settings) (candidates : TestIds) (test : List ℕ) where
  pub search_found : (asked : List Asked) (verdict : Found) (before after : Seen Spawning) → Goes before.told after.told (HasAsked settings candidates test asked) → Licenses asked (length candidates) verdict → IsAmong candidates verdict → after.faults ≡ before.faults → Searches settings candidates test before after (Ok verdict)
  search_found asked verdict before after has licensed among same = record {
    found = verdict_behind settings candidates test asked verdict before.told after.told licensed has;
    among = among;
    refused = tt;
    count = record { later = omega (arith, same); rose = λ is. cc; stands = λ is. same };
  }

-- ---- a cause is one of the candidates

pub cause_among : (candidates : TestIds) (asked : List Asked) (verdict : Found) → Licenses asked (length candidates) verdict → All (λ one. IsWithin (length candidates) one.probe) asked → IsAmong candidates verdict
cause_among candidates asked found.Alone was within = tt
cause_among candidates asked found.NotSeen was within = tt
cause_among candidates asked found.Several was within = tt
cause_among candidates asked (found.Cause cause) was within =
    let there = All-contains (λ (one : Asked). IsWithin (length candidates) one.probe) asked (record { probe = Span cause (cause + 1); failed = true }) within was.1 in
    let inside : cause + 1 ≤ length candidates = there.1 in
    omega arith

pub length_first : (count : ℕ) (ids : TestIds) → count ≤ length ids → length (take count ids) ≡ count
length_first count ids few = length-take-le count ids few
