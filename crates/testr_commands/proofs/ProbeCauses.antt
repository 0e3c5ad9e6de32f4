-- A search for causes of which no probe's child is broken does not give up but by a fault or for want of memory.
use Rattle.std.proofs.Common.{◌≡◌, inl, inr, ℕ, zero, suc, ◌<◌, ◌≤◌, Bool, true, false, Option, None, Some, IfSome, IsSomeAnd, Ok, Err, List, [], ◌∷◌, ◌++◌, length, length-append, map, take, drop, refl, sym, ap, subst, ◌∙◌, arith, append_assoc, append-nil}
use Rattle.std.specs.Option.{option_map_or}
use Rattle.std.specs.List.{AllByRecursion}
use Rattle.std.proofs.lemmas.List.{map-append, length-map, drop_at}
use Rattle.edge_io.specs.Children.{Output}
use Rattle.edge_io.specs.Disk.{Folder}
use Rattle.edge_io.specs.Spawners.{Spawning}
use Rattle.edge_io.specs.Steps.{Goes}
use Rattle.edge_io.specs.declared.job.Job.{Job}
use Rattle.isolation_bisect.specs.Orders.{next_probe, FollowInOrder, asked_behind, asked_of, answers_of}
use Rattle.isolation_bisect.specs.declared.found.Found.{Found}
use Rattle.isolation_bisect.specs.declared.probe.Asked.{Asked}
use Rattle.isolation_bisect.specs.declared.probe.Probe.{Probe}
use Rattle.outcome_fold.specs.Rows.{rows_of}
use Rattle.outcome_fold.specs.declared.row.Row.{Row}
use Rattle.packet_codec.specs.declared.event.Event.{Event}
use Rattle.suite_causes.specs.Analysis.{asked_for, UsesNoBroken}
use Rattle.suite_causes.specs.Probing.{fails_in}
use Rattle.suite_causes.specs.Searching.{TestIds, HasAsked, HasProbeCause, SearchesSo, StopsSearch}
use Rattle.suite_causes.specs.declared.cause_search.SearchFault.{SearchFault}
use Rattle.suite_causes.specs.declared.cause_search.SearchFault.TheVariants as search_fault
use Rattle.suite_causes.specs.declared.suspects.Suspect.{Suspect}
use Rattle.suite_causes.proofs.AnalysisLemmas.{asked_is}
use Rattle.suite_plan.specs.Children.{IsBroken}
use Rattle.suite_run.specs.Starting.{StartsAll}
use Rattle.testr_conf.specs.Settings.{Settings}
use Rattle.command_steps.specs.Causes.{candidates_in, FindsAmong, FindsCause, FindsEach, FindsCauses}
use Rattle.testr_commands.specs.Searches.{suspects_in, UseNoBroken, ProbesEnd}
use Rattle.command_steps.specs.Outside.{Work}
use Rattle.command_steps.specs.Steps.{stops, goes_on}
use Rattle.command_steps.specs.Told.{tell_exit_status}
use Rattle.command_steps.specs.declared.answer.Refusal.{Refusal}
use Rattle.command_steps.specs.declared.answer.Refusal.TheVariants as refusal
use Rattle.command_steps.specs.declared.question_answers.TellFault.{TellFault}
use Rattle.command_steps.specs.declared.question_answers.TellFault.TheVariants as tell_fault
use Rattle.command_steps.specs.Selecting.{Planned}
use Rattle.testr_commands.proofs.ChainLemmas.{gives_not}
use Rattle.testr_commands.proofs.FindLemmas.{TellsEvents, before_of, ids_so, cause_did, cause_still, suspects_are}
use Rattle.testr_commands.proofs.MergeLaws.{AreOfOutputs}
use Rattle.testr_commands.proofs.SuiteCauses.{NoCause, same_cause, moved, from_both}

-- ---- what a search that stopped had asked

-- as many outputs were taken as probes asked
as_many : (settings : Settings) (candidates : TestIds) (test : List ℕ) (asked : List Asked) (s t : Spawning) → (has : HasAsked settings candidates test asked s t) → length has.outputs ≡ length asked
as_many settings candidates test asked s t has =
    sym (length-map has.outputs (fails_in test)) ∙ ap length (sym has.answers) ∙ length-map asked (λ (one : Asked). one.failed)

-- the answers to probes that were asked in order lead to these probes
follows : (candidates : ℕ) (before asked : List Asked) (more : List Bool) → FollowInOrder candidates before asked → asked_behind candidates before (answers_of asked ++ more) ≡ asked_behind candidates (before ++ asked) more
follows candidates before [] more follow = ap (λ (l : List Asked). asked_behind candidates l more) (sym (append-nil before))
follows candidates before (one ∷ asked) more follow =
    ap (λ next. option_map_or (λ probe. asked_behind candidates (before ++ record { probe = probe; failed = one.failed } ∷ []) (answers_of asked ++ more)) next before) follow.0
    ∙ follows candidates (before ++ one ∷ []) asked more follow.1
    ∙ ap (λ (l : List Asked). asked_behind candidates l more) (append_assoc before (one ∷ []) asked)

-- no probe is lost
longer : (candidates : ℕ) (before : List Asked) (answers : List Bool) → length before ≤ length (asked_behind candidates before answers)
longer candidates before [] = omega arith
longer candidates before (failed ∷ more) = by (next_probe before candidates) (λ one. longer candidates (before ++ one ∷ []) more)
  where
    by : (next : Option Probe) → ((one : Asked) → length (before ++ one ∷ []) ≤ length (asked_behind candidates (before ++ one ∷ []) more))
        → length before ≤ length (option_map_or (λ probe. asked_behind candidates (before ++ record { probe = probe; failed = failed } ∷ []) more) next before)
    by None rest = omega arith
    by (Some probe) rest =
        let one : Asked = record { probe = probe; failed = failed } in
        omega (arith, rest one, length-append before (one ∷ []))

-- one probe more is asked where there is a next one
asks_more : (candidates : ℕ) (asked : List Asked) (probe : Probe) (failed : Bool) (more : List Bool) → next_probe asked candidates ≡ Some probe → length asked < length (asked_behind candidates asked (failed ∷ more))
asks_more candidates asked probe failed more next =
    let one : Asked = record { probe = probe; failed = failed } in
    let goes : asked_behind candidates asked (failed ∷ more) ≡ asked_behind candidates (asked ++ one ∷ []) more =
    ap (λ n. option_map_or (λ p. asked_behind candidates (asked ++ record { probe = p; failed = failed } ∷ []) more) n asked) next in
    omega (arith, ap length goes, longer candidates (asked ++ one ∷ []) more, length-append asked (one ∷ []))

-- what is so of each of the first is so of one of them
one_of : {A : Type 0} (P : A → Type 0) (front : List A) (one : A) (rest : List A) (count : ℕ) → length front < count → AllByRecursion P (take count (front ++ one ∷ rest)) → P one
one_of P [] one rest zero less each = absurd (omega (arith, less))
one_of P [] one rest (suc count) less each = each.0
one_of P (first ∷ front) one rest zero less each = absurd (omega (arith, less))
one_of P (first ∷ front) one rest (suc count) less each = one_of P front one rest count (omega (arith, less)) each.1

-- where no child is broken that the search uses, it stops at none
stops_broken : (settings : Settings) (candidates : TestIds) (test : List ℕ) (s t : Spawning) → UsesNoBroken test candidates s.outputs → StopsSearch settings candidates test search_fault.Child s t → ⊥
stops_broken settings candidates test s t uses stop =
    let has = stop.has in
    let starts = stop.cause in
    let output : Output = starts.output in
    let outputs_are : s.outputs ≡ has.outputs ++ output ∷ t.outputs = has.taken ∙ ap (λ (l : List Output). has.outputs ++ l) starts.started.first in
    let later : List Bool = map (fails_in test) t.outputs in
    let asked_are : asked_for test candidates s.outputs ≡ asked_behind (length candidates) stop.asked (fails_in test output ∷ later) =
    ap (asked_for test candidates) outputs_are
    ∙ ap (asked_of (length candidates)) (map-append (fails_in test) has.outputs (output ∷ t.outputs) ∙ ap (λ (l : List Bool). l ++ fails_in test output ∷ later) (sym has.answers))
    ∙ follows (length candidates) [] stop.asked (fails_in test output ∷ later) has.in_order in
    let more = asks_more (length candidates) stop.asked stop.probe (fails_in test output) later stop.next in
    let less : length has.outputs < length (asked_for test candidates s.outputs) = omega (arith, as_many settings candidates test stop.asked s stop.between has, more, ap length asked_are) in
    one_of (λ (o : Output). IsBroken o.finish → ⊥) has.outputs output t.outputs (length (asked_for test candidates s.outputs)) less
    (subst (λ (l : List Output). AllByRecursion (λ (o : Output). IsBroken o.finish → ⊥) (take (length (asked_for test candidates s.outputs)) l)) outputs_are uses)
    starts.meets

-- what comes behind the outputs that a search used
outputs_left : (settings : Settings) (candidates : TestIds) (test : List ℕ) (found : Found) (s t : Spawning) → SearchesSo settings candidates test found s t → drop (length (asked_for test candidates s.outputs)) s.outputs ≡ t.outputs
outputs_left settings candidates test found s t so =
    let same : asked_for test candidates s.outputs ≡ so.asked = ap (asked_for test candidates) so.has.taken ∙ asked_is settings candidates test so.asked s t found t.outputs so.has so.licensed in
    ap (λ (l : List Asked). drop (length l) s.outputs) same ∙ ap (drop (length so.asked)) so.has.taken ∙ drop_at so.has.outputs t.outputs (length so.asked) (as_many settings candidates test so.asked s t so.has)

-- ---- the searches, one after another

ran_never : (fault : TellFault) → NoCause (refusal.Ran fault)
ran_never tell_fault.Shelf = ((λ three. omega (arith, three)), (λ child. child))
ran_never tell_fault.NoMemory = ((λ three. omega (arith, three)), (λ child. child))

search_never : (settings : Settings) (candidates : TestIds) (test : List ℕ) (fault : SearchFault) (s t : Spawning) → UsesNoBroken test candidates s.outputs → StopsSearch settings candidates test fault s t → NoCause (refusal.Search fault)
search_never settings candidates test search_fault.Spawn s t uses stop = ((λ three. omega (arith, three)), (λ child. child))
search_never settings candidates test search_fault.Child s t uses stop = ((λ three. omega (arith, three)), (λ child. stops_broken settings candidates test s t uses stop))
search_never settings candidates test search_fault.NoMemory s t uses stop = ((λ three. omega (arith, three)), (λ child. child))

module _ (settings : Settings) (number : ℕ) (events : List Event) (f : Folder) (tells : TellsEvents number events f) where
  -- no child is broken that the searches for these tests use
  abbrev NoBroken : List Suspect → Option Spawning → Type 0
  NoBroken left told = IsSomeAnd told (λ s. UseNoBroken events left s.outputs)

  among_never : (one : Suspect) (more : List Suspect) (k b : Work) (r : Refusal) → NoBroken (one ∷ more) k.spawner.told → FindsAmong settings one.id (before_of settings number events f tells one) k b (Err r) → NoCause r
  among_never one more k b r uses (stops fault is step) =
      let candidates : TestIds = before_of settings number events f tells one in
      same_cause (refusal.Search fault) r is
      (from_both k.spawner.told b.spawner.told (λ s. UseNoBroken events (one ∷ more) s.outputs) (StopsSearch settings candidates one.id fault) uses step.at.refused (λ s t both stop. search_never settings candidates one.id fault s t both.0 stop))
  among_never one more k b r uses (goes_on found l step (stops fault is printed)) = same_cause (refusal.Print fault) r is ((λ three. omega (arith, three)), (λ child. child))
  among_never one more k b r uses (goes_on found l step (goes_on _ p printed gives)) = absurd (gives_not p b r gives)

  cause_never : (one : Suspect) (more : List Suspect) (a b : Work) (r : Refusal) → a.folder.told ≡ Some f → NoBroken (one ∷ more) a.spawner.told → FindsCause settings number one a b (Err r) → NoCause r
  cause_never one more a b r told uses (stops fault is step) = same_cause (refusal.Ran fault) r is (ran_never fault)
  cause_never one more a b r told uses (goes_on ids k ran next) =
      among_never one more k b r (subst (NoBroken (one ∷ more)) (sym (λ i. (ran.rest i).spawner.told)) uses) (ids_so settings number events f tells one a k b ids (Err r) told ran.at next)

  each_never : (left : List Suspect) (a b : Work) (r : Refusal) → a.folder.told ≡ Some f → NoBroken left a.spawner.told → FindsEach settings number left a b (Err r) → NoCause r
  each_never [] a b r told uses gives = absurd (gives_not a b r gives)
  each_never (one ∷ more) a b r told uses (stops fault is step) = same_cause fault r is (cause_never one more a b fault told uses step)
  each_never (one ∷ more) a b r told uses (goes_on v m step next) =
      let did = cause_did settings number events f tells one a m v told step in
      let candidates : TestIds = before_of settings number events f tells one in
      let rest : NoBroken more m.spawner.told =
      moved a.spawner.told m.spawner.told (λ s. UseNoBroken events (one ∷ more) s.outputs) (λ s. UseNoBroken events more s.outputs) (SearchesSo settings candidates one.id did.found) uses did.searched
      (λ s t both so. subst (UseNoBroken events more) (outputs_left settings candidates one.id did.found s t so) both.1) in
      each_never more m b r (cause_still settings number one a m (Ok v) step ∙ told) rest next

module _ (settings : Settings) (number : ℕ) (events : List Event) (a b : Work) (r : Refusal) where
  never_of : (suspects : List Suspect) → suspects ≡ suspects_in events → FindsEach settings number suspects a b (Err r) → (o p : Option Folder) → a.folder.told ≡ p → IsSomeAnd o (λ s. Unit {0}) → Goes o p (λ s t. TellsEvents number events t) → IsSomeAnd a.spawner.told (λ s. UseNoBroken events (suspects_in events) s.outputs) → NoCause r
  never_of suspects are finds None p is some tells uses = absurd some
  never_of suspects are finds (Some s) None is some tells uses = absurd tells
  never_of suspects are finds (Some s) (Some t) is some tells uses =
      each_never settings number events t tells suspects a b r is (subst (λ (l : List Suspect). IsSomeAnd a.spawner.told (λ s. UseNoBroken events l s.outputs)) (sym are) uses) finds

  pub causes_never : (asked : Bool) (rows : List Row) (folder : Option Folder) → rows ≡ rows_of events → IsSomeAnd folder (λ s. Unit {0}) → Goes folder a.folder.told (λ s t. TellsEvents number events t) → (asked ≡ true → IsSomeAnd a.spawner.told (λ s. UseNoBroken events (suspects_in events) s.outputs))
      → FindsCauses asked settings number rows a b (Err r) → NoCause r
  causes_never false rows folder rows_are some tells uses gives = absurd (gives_not a b r gives)
  causes_never true rows folder rows_are some tells uses (stops fault is step) = same_cause (refusal.Suspects fault) r is ((λ three. omega (arith, three)), (λ child. child))
  causes_never true rows folder rows_are some tells uses (goes_on suspects m step next) =
      never_of suspects (suspects_are events rows suspects rows_are step.says.suspects) (subst (λ (w : Work). FindsEach settings number suspects w b (Err r)) step.same next) folder a.folder.told refl some tells (uses refl)

-- ---- behind the workers

pub probes_behind : (plan : Planned) (outputs : List Output) (events : List Event) (a b : Option Spawning) → IsSomeAnd a (λ s. Unit {0}) → IfSome a (ProbesEnd plan) → Goes a b (StartsAll plan.jobs outputs) → IfSome a (λ _. AreOfOutputs events plan.asked outputs) → IsSomeAnd b (λ t. UseNoBroken events (suspects_in events) t.outputs)
probes_behind plan outputs events None b some ends started are = absurd some
probes_behind plan outputs events (Some s) None some ends started are = absurd started
probes_behind plan outputs events (Some s) (Some t) some ends started are = ends outputs t.outputs started.taken started.count events are.merged
