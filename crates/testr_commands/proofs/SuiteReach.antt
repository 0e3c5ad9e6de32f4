-- How far a run comes: to its workers, or to a refusal before them.
use Rattle.std.proofs.Common.{◌≡◌, ◌⊎◌, inl, inr, ℕ, zero, suc, ◌+◌, ◌≤◌, Bool, true, false, Option, None, Some, IfSome, Result, Ok, Err, List, [], ◌∷◌, ◌++◌, length, refl, sym, ap, subst, ◌∙◌, arith, append_assoc}
use Rattle.std.proofs.lemmas.List.{length-append, append-nil}
use Rattle.edge_io.specs.Children.{Output}
use Rattle.edge_io.specs.Disk.{Folder}
use Rattle.edge_io.specs.Seen.{Seen}
use Rattle.edge_io.specs.Spawners.{Spawning}
use Rattle.edge_io.specs.Steps.{Goes, Stays}
use Rattle.edge_io.specs.declared.job.Job.{Job}
use Rattle.edge_io.proofs.Going.{goes_then, goes_weaker}
use Rattle.run_shelf.specs.Holds.{kinds_of}
use Rattle.suite_plan.specs.Calling.{CallsOut, CallsSo, HasCallCause}
use Rattle.suite_plan.specs.Children.{StartsFor}
use Rattle.suite_plan.specs.ConfFile.{GivesSettings}
use Rattle.suite_plan.specs.Listing.{ListsTests, ListsSo, HasListingCause}
use Rattle.suite_plan.specs.declared.pattern_list.PatternListRefusal.TheVariants as pattern_list
use Rattle.suite_plan.specs.declared.count_command.CallRefusal.{CallRefusal}
use Rattle.suite_plan.specs.declared.count_command.CallRefusal.TheVariants as call
use Rattle.suite_plan.specs.declared.test_listing.ListingRefusal.{ListingRefusal}
use Rattle.suite_plan.specs.declared.test_listing.ListingRefusal.TheVariants as listing
use Rattle.testr_conf.specs.Settings.{Settings}
use Rattle.command_steps.specs.Outside.{Work, work_folder, work_site, work_spawner}
use Rattle.command_steps.specs.Perhaps.{Perhaps, not_asked, did, refused}
use Rattle.testr_commands.specs.RunSuite.{TellsAndFinds, RunsBy, RunsSuite}
use Rattle.command_steps.specs.Working.{Works}
use Rattle.command_steps.specs.Runs.{KeepsFiles}
use Rattle.command_steps.specs.Selecting.{Ids, UsesCalled, UsesAsked, CountsWorkers, further_refusal, Selects, Planned, Plans}
use Rattle.command_steps.specs.Steps.{Step, Then, stops, goes_on, Gives}
use Rattle.testr_words.specs.Suites.{RunOptions, is_partial}
use Rattle.testr_commands.specs.Answer.{run_has_kept}
use Rattle.testr_commands.specs.Workers.{AsksFew, HasPlanned}
use Rattle.command_steps.specs.declared.answer.Refusal.{Refusal}
use Rattle.command_steps.specs.declared.answer.Verdict.{Verdict}
use Rattle.command_steps.specs.declared.test_selection.FurtherRefusal.{FurtherRefusal}
use Rattle.command_steps.specs.declared.test_selection.FurtherRefusal.TheVariants as further
use Rattle.command_steps.specs.declared.test_selection.Selected.{Selected}
use Rattle.testr_commands.proofs.ChainLemmas.{IsQuiet, gives_not}
use Rattle.command_steps.proofs.Resting.{KeepsReads, rests_then, rests_same, rests_of_stays}
use Rattle.command_steps.proofs.SoundLemmas.{IsCalm, calm_after, surveyed_calm}
use Rattle.testr_commands.proofs.StepLaws.{open_quiet}
use Rattle.testr_commands.proofs.SuiteJobs.{few_jobs, selected_range}

-- ---- what was started

stays_few : (most : ℕ) (s t : Spawning) → Stays s t → AsksFew most s t
stays_few most s t is = record { asked = []; few = omega arith; started = ap (λ (x : Spawning). x.started) is ∙ sym (append-nil s.started) }

starts_few : (job : Job) (output : Output) (s t : Spawning) → StartsFor job output s t → AsksFew 1 s t
starts_few job output s t starts = record { asked = job ∷ []; few = omega arith; started = starts.jobs }

few_then : (n m : ℕ) (s k t : Spawning) → AsksFew n s k → AsksFew m k t → AsksFew (n + m) s t
few_then n m s k t first second = record {
  asked = first.asked ++ second.asked;
  few = omega (arith, length-append first.asked second.asked, first.few, second.few);
  started = second.started ∙ ap (λ l. l ++ second.asked) first.started ∙ append_assoc s.started first.asked second.asked;
}

pub same_few : (most : ℕ) (a b : Option Spawning) → b ≡ a → Goes a b (AsksFew most)
same_few most None None same = tt
same_few most None (Some t) same = cc
same_few most (Some s) None same = cc
same_few most (Some s) (Some t) same = stays_few most s t cc

calls_few : (settings : Settings) (result : Result (Option ℕ) CallRefusal) (a b : Seen Spawning) → CallsOut settings a b result → Goes a.told b.told (AsksFew 1)
calls_few settings (Ok None) a b calls = goes_weaker a.told b.told Stays (AsksFew 1) calls.told (stays_few 1)
calls_few settings (Ok (Some number)) a b calls = goes_weaker a.told b.told (CallsSo settings (Some number)) (AsksFew 1) calls.told (λ s t starts. starts_few starts.job starts.output s t starts.started)
calls_few settings (Err call.Spawn) a b calls = goes_weaker a.told b.told (HasCallCause settings call.Spawn) (AsksFew 1) calls.refused (λ s t cause. stays_few 1 s t cause.1)
calls_few settings (Err call.Child) a b calls = goes_weaker a.told b.told (HasCallCause settings call.Child) (AsksFew 1) calls.refused (λ s t starts. starts_few starts.job starts.output s t starts.started)
calls_few settings (Err (call.NoNumber said)) a b calls = goes_weaker a.told b.told (HasCallCause settings (call.NoNumber said)) (AsksFew 1) calls.refused (λ s t starts. starts_few starts.job starts.output s t starts.started)
calls_few settings (Err call.NoMemory) a b calls = goes_weaker a.told b.told (HasCallCause settings call.NoMemory) (AsksFew 1) calls.refused by
  where
    by : (s t : Spawning) → HasCallCause settings call.NoMemory s t → AsksFew 1 s t
    by s t (inl stays) = stays_few 1 s t stays
    by s t (inr starts) = starts_few starts.job starts.output s t starts.started

pub lists_few : (settings : Settings) (result : Result Ids ListingRefusal) (a b : Seen Spawning) → ListsTests settings a b result → Goes a.told b.told (AsksFew 1)
lists_few settings (Ok ids) a b lists = goes_weaker a.told b.told (ListsSo settings ids) (AsksFew 1) lists.listed (λ s t starts. starts_few starts.job starts.output s t starts.started)
lists_few settings (Err listing.NoListOption) a b lists = goes_weaker a.told b.told (HasListingCause settings listing.NoListOption) (AsksFew 1) lists.refused (λ s t cause. stays_few 1 s t cause.1)
lists_few settings (Err listing.Spawn) a b lists = goes_weaker a.told b.told (HasListingCause settings listing.Spawn) (AsksFew 1) lists.refused (λ s t cause. stays_few 1 s t cause.1)
lists_few settings (Err listing.Child) a b lists = goes_weaker a.told b.told (HasListingCause settings listing.Child) (AsksFew 1) lists.refused (λ s t starts. starts_few starts.job starts.output s t starts.started)
lists_few settings (Err (listing.Failed status said)) a b lists = goes_weaker a.told b.told (HasListingCause settings (listing.Failed status said)) (AsksFew 1) lists.refused (λ s t starts. starts_few starts.job starts.output s t starts.started)
lists_few settings (Err listing.NoMemory) a b lists = goes_weaker a.told b.told (HasListingCause settings listing.NoMemory) (AsksFew 1) lists.refused by
  where
    by : (s t : Spawning) → HasListingCause settings listing.NoMemory s t → AsksFew 1 s t
    by s t (inl stays) = stays_few 1 s t stays
    by s t (inr starts) = starts_few starts.job starts.output s t starts.started

listing_few : {X : Type 0} {asked : Option X} (settings : Settings) (a b : Seen Spawning) (result : Result (Option Ids) ListingRefusal) → Perhaps asked (λ _. ListsTests settings) a b result → Goes a.told b.told (AsksFew 1)
listing_few settings a b result (not_asked none is same) = same_few 1 a.told b.told (λ i. (same i).told)
listing_few settings a b result (did x ids asked is step) = lists_few settings (Ok ids) a b step
listing_few settings a b result (refused x fault asked is step) = lists_few settings (Err fault) a b step

-- ---- steps before the workers

-- nothing is kept and nothing printed, and so many programs at most were started
pub record Mild (most : ℕ) (a b : Work) : Type 0 where
  pub quiet : IsQuiet a b
  pub out : b.out.told ≡ a.out.told
  pub asked : Goes a.spawner.told b.spawner.told (AsksFew most)

pub mild_folder : (a b : Work) → b ≡ work_folder.put a b.folder → IsQuiet a b → Mild 0 a b
mild_folder a b rest quiet = record { quiet = quiet; out = λ i. (rest i).out.told; asked = same_few 0 a.spawner.told b.spawner.told (λ i. (rest i).spawner.told) }

mild_same : (a b : Work) → b ≡ a → Mild 0 a b
mild_same a b same = record { quiet = rests_same a.folder.told b.folder.told (λ i. (same i).folder.told); out = λ i. (same i).out.told; asked = same_few 0 a.spawner.told b.spawner.told (λ i. (same i).spawner.told) }

mild_site : (a b : Work) → b ≡ work_site.put a b.site → Mild 0 a b
mild_site a b rest = record { quiet = rests_same a.folder.told b.folder.told (λ i. (rest i).folder.told); out = λ i. (rest i).out.told; asked = same_few 0 a.spawner.told b.spawner.told (λ i. (rest i).spawner.told) }

mild_spawner : (most : ℕ) (a b : Work) → b ≡ work_spawner.put a b.spawner → Goes a.spawner.told b.spawner.told (AsksFew most) → Mild most a b
mild_spawner most a b rest asked = record { quiet = rests_same a.folder.told b.folder.told (λ i. (rest i).folder.told); out = λ i. (rest i).out.told; asked = asked }

mild_then : (n m : ℕ) (a k b : Work) → Mild n a k → Mild m k b → Mild (n + m) a b
mild_then n m a k b first second = record {
  quiet = rests_then a.folder.told k.folder.told b.folder.told first.quiet second.quiet;
  out = second.out ∙ first.out;
  asked = goes_then a.spawner.told k.spawner.told b.spawner.told (AsksFew n) (AsksFew m) (AsksFew (n + m)) first.asked second.asked (few_then n m);
}

mild_more : (n m : ℕ) (a b : Work) → n ≤ m → Mild n a b → Mild m a b
mild_more n m a b few mild = record {
  quiet = mild.quiet;
  out = mild.out;
  asked = goes_weaker a.spawner.told b.spawner.told (AsksFew n) (AsksFew m) mild.asked (λ s t asks. record { asked = asks.asked; few = omega (arith, few, asks.few); started = asks.started });
}

abbrev IsMild : ℕ → {A E : Type 0} → Step Work A E → Type 0
IsMild most {A = A} {E = E} step = (a b : Work) (result : Result A E) → step a b result → Mild most a b

then_mild : (n m : ℕ) {A B E R : Type 0} {name : E → R} {first : Step Work A E} {second : A → Step Work B R} → IsMild n first → ((v : A) → IsMild m (second v)) → IsMild (n + m) (Then name first second)
then_mild n m mild rest a b result (stops e is step) = mild_more n (n + m) a b (omega arith) (mild a b (Err e) step)
then_mild n m mild rest a b result (goes_on v k done next) = mild_then n m a k b (mild a k (Ok v) done) (rest v k b result next)

gives_mild : {A : Type 0} {value : A} → IsMild 0 (Gives {R = Refusal} value)
gives_mild a b result gives = mild_same a b gives.same

called_mild : (called : Option ℕ) → IsMild 0 (UsesCalled called)
called_mild (Some (suc less)) = gives_mild
called_mild (Some zero) = then_mild 0 0 (λ a b r s. mild_site a b s.rest) (λ number. gives_mild)
called_mild None = then_mild 0 0 (λ a b r s. mild_site a b s.rest) (λ number. gives_mild)

asked_mild : (settings : Settings) (asked : ℕ) → IsMild 1 (UsesAsked settings asked)
asked_mild settings (suc less) = λ a b r gives. mild_more 0 1 a b (omega arith) (gives_mild a b r gives)
asked_mild settings zero = then_mild 1 0 (λ a b r s. mild_spawner 1 a b s.rest (calls_few settings r a.spawner b.spawner s.at)) called_mild

workers_mild : (settings : Settings) (parallel : Bool) (asked : ℕ) → IsMild 1 (CountsWorkers settings parallel asked)
workers_mild settings false asked = λ a b r gives. mild_more 0 1 a b (omega arith) (gives_mild a b r gives)
workers_mild settings true asked = asked_mild settings asked

-- a question of the folder, where it is asked
perhaps_rests : {X A E : Type 0} {asked : Option X} {step : X → Step (Seen Folder) A E} → ((x : X) (a b : Seen Folder) (result : Result A E) → step x a b result → Goes a.told b.told KeepsReads) → (a b : Seen Folder) (result : Result (Option A) E) → Perhaps asked step a b result → Goes a.told b.told KeepsReads
perhaps_rests rests a b result (not_asked none is same) = rests_same a.told b.told (λ i. (same i).told)
perhaps_rests rests a b result (did x value asked is step) = rests x a b (Ok value) step
perhaps_rests rests a b result (refused x fault asked is step) = rests x a b (Err fault) step

select_mild : (settings : Settings) (options : RunOptions) → IsMild 2 (Selects settings options)
select_mild settings options =
    then_mild 0 2 (λ a b r s. mild_site a b s.rest) (λ listed.
    then_mild 0 2 (λ a b r s. mild_site a b s.rest) (λ further.
    then_mild 0 2 (λ a b r s. mild_folder a b s.rest (perhaps_rests (λ _ x y found step. rests_of_stays x.told y.told step.same) a.folder b.folder r s.at)) (λ failing.
    then_mild 1 1 (workers_mild settings options.parallel options.concurrency) (λ workers.
    then_mild 1 0 (λ a b r s. mild_spawner 1 a b s.rest (listing_few settings a.spawner b.spawner r s.at)) (λ listing.
    then_mild 0 0 (λ a b r s. mild_same a b s.same) (λ ids.
    gives_mild))))))

plan_mild : (settings : Settings) (asked : Bool) (selected : Selected) → IsMild 0 (Plans settings asked selected)
plan_mild settings asked selected =
    then_mild 0 0 (λ a b r s. mild_folder a b s.rest (perhaps_rests (λ _ x y found step. rests_of_stays x.told y.told step.same) a.folder b.folder r s.at)) (λ times.
    then_mild 0 0 (λ a b r s. mild_same a b s.same) (λ shares.
    then_mild 0 0 (λ a b r s. mild_same a b s.same) (λ _.
    then_mild 0 0 (λ a b r s. mild_same a b s.same) (λ jobs.
    then_mild 0 0 (λ a b r s. mild_same a b s.same) (λ _.
    gives_mild)))))

-- ---- what refuses before the workers

-- no run is kept where it refuses
abbrev IsEarly : {A : Type 0} → Step Work A Refusal → Type 0
IsEarly step = (a b : Work) (r : Refusal) → step a b (Err r) → run_has_kept (Err r) ≡ false

same_refusal : {A : Type 0} (named r : Refusal) → ◌≡◌ {A = Result A Refusal} (Err r) (Err named) → r ≡ named
same_refusal named r is = cc

as_named : {A : Type 0} (named r : Refusal) → ◌≡◌ {A = Result A Refusal} (Err r) (Err named) → run_has_kept (Err named) ≡ false → run_has_kept (Err r) ≡ false
as_named named r is early = ap (λ (x : Refusal). run_has_kept (Err x)) (same_refusal named r is) ∙ early

then_early : {A B E : Type 0} {name : E → Refusal} {first : Step Work A E} {second : A → Step Work B Refusal} → ((fault : E) → run_has_kept (Err (name fault)) ≡ false) → ((v : A) → IsEarly (second v)) → IsEarly (Then name first second)
then_early named rest a b r (stops fault is step) = as_named _ r is (named fault)
then_early named rest a b r (goes_on v m done next) = rest v m b r next

then_early_in : {A B : Type 0} {first : Step Work A Refusal} {second : A → Step Work B Refusal} → IsEarly first → ((v : A) → IsEarly (second v)) → IsEarly (Then (λ refusal. refusal) first second)
then_early_in early rest a b r (stops fault is step) = as_named fault r is (early a b fault step)
then_early_in early rest a b r (goes_on v m done next) = rest v m b r next

gives_early : {A : Type 0} {value : A} → IsEarly (Gives {R = Refusal} value)
gives_early a b r gives = absurd (gives_not a b r gives)

called_early : (called : Option ℕ) → IsEarly (UsesCalled called)
called_early (Some (suc less)) = gives_early
called_early (Some zero) = then_early (λ fault. refl) (λ number. gives_early)
called_early None = then_early (λ fault. refl) (λ number. gives_early)

asked_early : (settings : Settings) (asked : ℕ) → IsEarly (UsesAsked settings asked)
asked_early settings (suc less) = gives_early
asked_early settings zero = then_early (λ fault. refl) called_early

workers_early : (settings : Settings) (parallel : Bool) (asked : ℕ) → IsEarly (CountsWorkers settings parallel asked)
workers_early settings false asked = gives_early
workers_early settings true asked = asked_early settings asked

further_early : (fault : FurtherRefusal) → run_has_kept (Err (further_refusal fault)) ≡ false
further_early (further.Patterns (pattern_list.List refusal)) = refl
further_early (further.Patterns (pattern_list.Bad line)) = refl
further_early (further.Times refusal) = refl

select_early : (settings : Settings) (options : RunOptions) → IsEarly (Selects settings options)
select_early settings options =
    then_early (λ fault. refl) (λ listed.
    then_early further_early (λ given.
    then_early (λ fault. refl) (λ failing.
    then_early_in (workers_early settings options.parallel options.concurrency) (λ workers.
    then_early (λ fault. refl) (λ listing.
    then_early (λ fault. refl) (λ ids.
    gives_early))))))

plan_early : (settings : Settings) (asked : Bool) (selected : Selected) → IsEarly (Plans settings asked selected)
plan_early settings asked selected =
    then_early (λ fault. refl) (λ times.
    then_early (λ fault. refl) (λ shares.
    then_early (λ fault. refl) (λ _.
    then_early (λ fault. refl) (λ jobs.
    then_early (λ fault. refl) (λ _.
    gives_early)))))

-- ---- the workers

-- jobs were made, and nothing else was done by then
pub record Reached (options : RunOptions) (a : Work) : Type 0 where
  pub plan : Planned
  pub planning : Work
  pub planned : HasPlanned options a planning plan
  pub number : ℕ
  pub mild : Mild 2 a planning
  pub calm : IfSome planning.folder.told IsCalm

-- what is done then
abbrev pub GoesOnWith : (options : RunOptions) (number : ℕ) (plan : Planned) (settings : Settings) → Step Work Verdict Refusal
GoesOnWith options number plan settings = Then (λ refusal. refusal) (Works (is_partial options) number plan) (λ rows. TellsAndFinds options.format options.find_causes settings number rows)

-- a run refuses before, and so keeps none; or it comes to them
abbrev pub Reaches : RunOptions → Work → Work → Result Verdict Refusal → Type 0
Reaches options a b result = (Mild 2 a b × (run_has_kept result ≡ false)) ⊎ ((reached : Reached options a) × GoesOnWith options reached.number reached.plan reached.planned.settings reached.planning b result)

module _ (options : RunOptions) (settings : Settings) (a : Work) (conf : IfSome a.site.told (GivesSettings options.project settings)) where
  by_reaches : (b : Work) (result : Result Verdict Refusal) → RunsBy options settings a b result → Reaches options a b result
  by_reaches b result (stops fault is step) = inl (mild_more 0 2 a b (omega arith) (mild_folder a b step.rest (open_quiet a b (Err fault) step.at)), ap run_has_kept is)
  by_reaches b result (goes_on found m opened (stops fault is step)) =
      inl (mild_more 0 2 a b (omega arith) (mild_then 0 0 a m b (mild_folder a m opened.rest (open_quiet a m (Ok found) opened.at)) (mild_same m b step.same)), ap run_has_kept is)
  by_reaches b result (goes_on found m opened (goes_on _ m2 took (stops fault is step))) =
      inl (mild_more 0 2 a b (omega arith) (mild_then 0 0 a m b (mild_folder a m opened.rest (open_quiet a m (Ok found) opened.at)) (mild_same m b (step.same ∙ took.same))), ap run_has_kept is)
  by_reaches b result (goes_on found m opened (goes_on _ m2 took (goes_on _ m3 compiled next))) = behind next
    where
      same : m3 ≡ m
      same = compiled.same ∙ took.same

      first : Mild 0 a m3
      first = mild_then 0 0 a m m3 (mild_folder a m opened.rest (open_quiet a m (Ok found) opened.at)) (mild_same m m3 same)

      calm : IfSome m3.folder.told IsCalm
      calm = subst (λ (w : Work). IfSome w.folder.told IsCalm) (sym same) (surveyed_calm (kinds_of found) a.folder.told m.folder.told opened.at.found)

      behind : Then (λ refusal. refusal) (Selects settings options) (λ selected. Then (λ refusal. refusal) (Plans settings options.find_causes selected) (λ plan. GoesOnWith options (length (kinds_of found)) plan settings)) m3 b result → Reaches options a b result
      behind (stops fault is step) = inl (mild_then 0 2 a m3 b first (select_mild settings options m3 b (Err fault) step), ap run_has_kept is ∙ select_early settings options m3 b fault step)
      behind (goes_on selected m4 selects (stops fault is step)) =
          inl (mild_then 0 2 a m3 b first (mild_then 2 0 m3 m4 b (select_mild settings options m3 m4 (Ok selected) selects) (plan_mild settings options.find_causes selected m4 b (Err fault) step)), ap run_has_kept is ∙ plan_early settings options.find_causes selected m4 b fault step)
      behind (goes_on selected m4 selects (goes_on plan m5 plans works)) =
          let chosen : Mild 2 m3 m5 = mild_then 2 0 m3 m4 m5 (select_mild settings options m3 m4 (Ok selected) selects) (plan_mild settings options.find_causes selected m4 m5 (Ok plan) plans) in
          inr (
            record {
              plan = plan;
              planning = m5;
              planned = record {
                settings = settings;
                conf = conf;
                opened = m3;
                opened_is = same ∙ opened.rest ∙ (λ i. work_folder.put a (sym same i).folder);
                opened_files = goes_weaker a.folder.told m3.folder.told KeepsReads KeepsFiles first.quiet (λ s t rests. rests.files);
                selected = selected;
                selecting = m4;
                selects = selects;
                plans = plans;
                few = few_jobs settings options.find_causes selected m4 m5 plan (selected_range settings options m3 m4 selected selects) plans;
              };
              number = length (kinds_of found);
              mild = mild_then 0 2 a m3 m5 first chosen;
              calm = calm_after m3.folder.told m5.folder.told calm chosen.quiet;
            },
            works,
          )

seen_same : {S : Type 0} (a b : Seen S) → b.told ≡ a.told → b.faults ≡ a.faults → b ≡ a
seen_same a b told faults = λ i. record { told = told i; faults = faults i }

pub reaches : (options : RunOptions) (a b : Work) (result : Result Verdict Refusal) → RunsSuite options a b result → Reaches options a b result
reaches options a b result (stops fault is step) = inl (mild_more 0 2 a b (omega arith) (mild_site a b step.rest), ap run_has_kept is)
reaches options a b result (goes_on settings m read next) =
    let site : m.site ≡ a.site = seen_same a.site m.site read.at.same (read.at.count.stands refl) in
    let same : m ≡ a = read.rest ∙ ap (work_site.put a) site in
    by_reaches options settings a read.at.conf b result (subst (λ (w : Work). RunsBy options settings w b result) same next)
