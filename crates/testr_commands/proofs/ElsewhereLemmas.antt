-- Of a command whose project may ask for instances.
use Rattle.std.proofs.Common.{◌≡◌, ◌⊎◌, inl, inr, ℕ, ◌≤◌, Bool, true, false, true≢false, Option, None, Some, IfSome, IsSomeAnd, Result, Ok, Err, List, refl, sym, ap, subst, ◌∙◌, arith}
use Rattle.edge_io.specs.Disk.{Files, Folder}
use Rattle.edge_io.specs.Seen.{Seen}
use Rattle.run_shelf.specs.declared.faults.InitFault.{InitFault}
use Rattle.suite_plan.specs.Choosing.{Ids}
use Rattle.suite_plan.specs.ConfFile.{GivesOwnSettings, ReadsConf, ReadsOwnConf, own_conf_in}
use Rattle.suite_plan.specs.declared.conf_file.BadConf.{BadConf}
use Rattle.suite_plan.specs.declared.conf_file.ConfFile.{ConfFile}
use Rattle.suite_plan.specs.declared.conf_file.ConfRefusal.{ConfRefusal}
use Rattle.suite_plan.specs.declared.conf_file.ConfRefusal.TheVariants as conf
use Rattle.suite_plan.proofs.ConfLemmas.{there_refuses}
use Rattle.testr_conf.specs.Settings.{Settings, asks_instances}
use Rattle.testr_words.specs.Suites.{Project, project_of, run_options, on_these}
use Rattle.testr_words.specs.Tasks.{init, task_with, task_of, forces, forces_for, streams, streams_for, live_of, live_for, hides, hides_for, warns, warns_for, expects, expects_for}
use Rattle.testr_words.specs.Words.{command_of}
use Rattle.testr_words.specs.declared.command.Command.{Command}
use Rattle.testr_words.specs.declared.command.Face.{Face}
use Rattle.testr_words.specs.declared.command.Verb.{Verb}
use Rattle.testr_words.specs.declared.command.Verb.TheVariants as verb
use Rattle.command_steps.specs.Outside.{Outside, Work, work_of, work_site}
use Rattle.command_steps.specs.Refusals.{refusal_exit_status}
use Rattle.command_steps.specs.Selecting.{CountsWorkers}
use Rattle.command_steps.specs.Steps.{At, stops}
use Rattle.command_steps.specs.Store.{MakesWhereNone}
use Rattle.command_steps.specs.declared.answer.Refusal.{Refusal}
use Rattle.command_steps.specs.declared.answer.Refusal.TheVariants.{Conf, Init}
use Rattle.testr_commands.specs.Elsewhere.{AsksForInstances, CountsFor, GoesCounted, AsksNone, AsksNot, AsksSome, ElsewhereThen, HereThen, HasProject, IsOfOutside, LooksAhead, GoesElsewhere, PlainAnywhere, PromisesAnywhere, PromisesOf, PromisesPlain, ReadiedAnywhere, ReadiesIf, TellsMostIf, TestrPromises, plain}
use Rattle.testr_commands.specs.Program.{Answers, Performs, Promises, Tells}
use Rattle.testr_commands.specs.declared.elsewhere.Look.TheVariants.{Here, There}
use Rattle.testr_commands.specs.Sparing.{SparesReads}
use Rattle.testr_commands.specs.SparingRun.{SparesRun}
use Rattle.testr_commands.specs.WholeCall.{PromisesCommand, PromisesExpecting, PromisesHere, PromisesSaying, TellsMost}
use Rattle.testr_commands.proofs.CallLemmas.{of_options, of_other, lists_not, told_refused}
use Rattle.testr_commands.proofs.ForceLemmas.{forced_not, init_failed_as, made_ready}
use Rattle.testr_commands.proofs.FrontLemmas.{forced_saying, stopped_saying}
use Rattle.testr_commands.proofs.PromiseLemmas.{promises}
use Rattle.testr_commands.proofs.SparingLemmas.{AsksNothing, silent_spare}
use Rattle.testr_commands.proofs.SuiteDone.{seen_same}
use Rattle.testr_commands.proofs.WholeLemmas.{not_expecting, not_warned, warned}

-- ---- the look

-- what the files give is one
same_settings : (a b : Settings) → ◌≡◌ {A = Result Settings ConfRefusal} (Ok a) (Ok b) → a ≡ b
same_settings a b is = cc

not_given : (a : Settings) (refusal : ConfRefusal) → ◌≡◌ {A = Result Settings ConfRefusal} (Ok a) (Err refusal) → ⊥
not_given a refusal is = cc

-- the settings that were read do not ask, or none were
asks_not_by : (project : Project) (told : Option Files) (settings : Settings) → IfSome told (GivesOwnSettings project settings) → asks_instances settings ≡ false → IfSome told (λ files. (given : Settings) → GivesOwnSettings project given files → asks_instances given ≡ false)
asks_not_by project None settings read off = tt
asks_not_by project (Some files) settings read off = λ given own. ap asks_instances (same_settings given settings (sym own ∙ read)) ∙ off

refused_by : (project : Project) (told : Option Files) (refusal : ConfRefusal) → IfSome told (λ files. own_conf_in project files ≡ Err refusal) → IfSome told (λ files. (given : Settings) → GivesOwnSettings project given files → asks_instances given ≡ false)
refused_by project None refusal read = tt
refused_by project (Some files) refusal read = λ given own. absurd (not_given given refusal (sym own ∙ read))

module _ (folder : List ℕ) (c : Command) (before after : Seen Files) where
  pub looked_here : (settings : Settings) → ReadsOwnConf (project_of folder c) before after (Ok settings) → asks_instances settings ≡ false → LooksAhead folder c before after Here
  looked_here settings reads off = (seen_same before after reads.same (reads.count.stands refl), λ has. asks_not_by (project_of folder c) before.told settings reads.conf off)

  pub looked_there : (settings : Settings) → HasProject c.verb → ReadsOwnConf (project_of folder c) before after (Ok settings) → asks_instances settings ≡ true → LooksAhead folder c before after (There settings)
  looked_there settings has reads on = (seen_same before after reads.same (reads.count.stands refl), record { project = has; conf = reads.conf; asks = on })

  pub looked_absent : ReadsOwnConf (project_of folder c) before after (Err conf.Absent) → LooksAhead folder c before after Here
  looked_absent reads = (seen_same before after reads.same (reads.count.stands refl), λ has. refused_by (project_of folder c) before.told conf.Absent reads.refused)

  pub looked_bad : (file : ConfFile) (why : BadConf) → ReadsOwnConf (project_of folder c) before after (Err (conf.Bad file why)) → LooksAhead folder c before after Here
  looked_bad file why reads = (seen_same before after reads.same (reads.count.stands refl), λ has. refused_by (project_of folder c) before.told (conf.Bad file why) reads.refused)

pub has_project : (v w : Verb) → v ≡ w → HasProject w → HasProject v
has_project v w is has = subst HasProject (sym is) has

-- all others have none
pub no_project : (v : Verb) → (v ≡ verb.Run → ⊥) → (v ≡ verb.ListTests → ⊥) → HasProject v → ⊥
no_project verb.Run run list has = run refl
no_project verb.ListTests run list has = list refl
no_project v run list has = has

-- ---- what is said of calls of the folder

asks_nothing : (v : Verb) → HasProject v → AsksNothing v
asks_nothing verb.Run has = tt
asks_nothing verb.ListTests has = tt
asks_nothing v has = absurd has

-- it asks no question
pub project_spare : (folder : List ℕ) (c : Command) (told : Option Folder) (before now : ℕ) → HasProject c.verb → SparesReads (task_of folder c) told before now
project_spare folder c told before now has = silent_spare folder c.verb c told before now refl (asks_nothing c.verb has)

module _ (folder : List ℕ) (c d : Command) where
  -- the two ask for the same, but for where it is done
  pub record SameFlags (v : Verb) : Type 0 where
    pub streams : streams_for c.subunit (task_with folder v c) ≡ streams_for d.subunit (task_with folder v d)
    pub spares : (old new : Option Folder) (answer before now : ℕ) → SparesRun (task_with folder v d) old new answer before now → SparesRun (task_with folder v c) old new answer before now
    pub unforced : forces_for d.force_init (task_with folder v d) ≡ false

-- a command for which no repository is made
plain_flags : (folder : List ℕ) (c : Command) (v : Verb) → HasProject v → SameFlags folder c (plain c) v
plain_flags folder c verb.Run has = record {
  streams = refl;
  spares = λ old new answer before now given. of_options (run_options folder c) old new answer before now (given (run_options folder (plain c)) refl);
  unforced = refl;
}
plain_flags folder c verb.ListTests has = record {
  streams = refl;
  spares = λ old new answer before now given. of_other folder verb.ListTests c old new answer before now (lists_not verb.ListTests refl);
  unforced = refl;
}
plain_flags folder c v has = absurd has

-- and that over instances
there_flags : (workers : ℕ) (instances : List (List ℕ)) (folder : List ℕ) (c : Command) (v : Verb) → HasProject v → SameFlags folder c (on_these workers instances (plain c)) v
there_flags workers instances folder c verb.Run has = record {
  streams = refl;
  spares = λ old new answer before now given. of_options (run_options folder c) old new answer before now (given (run_options folder (on_these workers instances (plain c))) refl);
  unforced = refl;
}
there_flags workers instances folder c verb.ListTests has = record {
  streams = refl;
  spares = λ old new answer before now given. of_other folder verb.ListTests c old new answer before now (lists_not verb.ListTests refl);
  unforced = refl;
}
there_flags workers instances folder c v has = absurd has

-- what is said of how often the folder is called
abbrev pub SaysRun : List ℕ → Command → (old new : Option Folder) (answer before now : ℕ) → Type 0
SaysRun folder c old new answer before now = forces folder c ≡ false → streams folder c ≡ false → SparesRun (task_of folder c) old new answer before now

pub plain_spares : (folder : List ℕ) (c d : Command) → d ≡ plain c → HasProject c.verb → (old new : Option Folder) (answer before now : ℕ) → SaysRun folder d old new answer before now → streams folder c ≡ false → SparesRun (task_of folder c) old new answer before now
plain_spares folder c d is has old new answer before now given whole =
    let flags : SameFlags folder c (plain c) c.verb = plain_flags folder c c.verb has in
    let said : SaysRun folder (plain c) old new answer before now = subst (λ (k : Command). SaysRun folder k old new answer before now) is given in
    flags.spares old new answer before now (said flags.unforced (sym flags.streams ∙ whole))

pub there_spares : (workers : ℕ) (instances : List (List ℕ)) (folder : List ℕ) (c d : Command) → d ≡ on_these workers instances (plain c) → HasProject c.verb → (old new : Option Folder) (answer before now : ℕ) → SaysRun folder d old new answer before now → streams folder c ≡ false → SparesRun (task_of folder c) old new answer before now
there_spares workers instances folder c d is has old new answer before now given whole =
    let flags : SameFlags folder c (on_these workers instances (plain c)) c.verb = there_flags workers instances folder c c.verb has in
    let said : SaysRun folder (on_these workers instances (plain c)) old new answer before now = subst (λ (k : Command). SaysRun folder k old new answer before now) is given in
    flags.spares old new answer before now (said flags.unforced (sym flags.streams ∙ whole))

-- ---- what is promised

-- of a command for which nothing stands in front
by_verb : (folder : List ℕ) (c : Command) (v : Verb) → HasProject v → (before after : Outside) (answer : ℕ)
    → PromisesCommand (warns_for (plain c).too_many (task_with folder v (plain c))) (streams_for c.subunit (task_with folder v (plain c))) (live_for c.live (task_with folder v (plain c))) (hides_for c.no_report (task_with folder v (plain c))) (forces_for (plain c).force_init (task_with folder v (plain c))) (expects_for c.expect (task_with folder v (plain c))) (task_with folder v (plain c)) before after answer
    → PromisesSaying (streams_for c.subunit (task_with folder v c)) (live_for c.live (task_with folder v c)) (hides_for c.no_report (task_with folder v c)) false false None (task_with folder v c) before after answer
by_verb folder c verb.Run has before after answer given = given
by_verb folder c verb.ListTests has before after answer given = given
by_verb folder c v has before after answer given = absurd has

pub here_plain : (folder : List ℕ) (c d : Command) → d ≡ plain c → HasProject c.verb → (before after : Outside) (answer : ℕ) → PromisesOf folder d before after answer → PromisesPlain folder c before after answer
here_plain folder c d is has before after answer given =
    by_verb folder c c.verb has before after answer (subst (λ (k : Command). PromisesOf folder k before after answer) is given)

-- nothing is expected of it
expects_none : (folder : List ℕ) (c : Command) (v : Verb) → HasProject v → None ≡ expects_for c.expect (task_with folder v c)
expects_none folder c verb.Run has = refl
expects_none folder c verb.ListTests has = refl
expects_none folder c v has = absurd has

-- the same of all that is expected
module _ (folder : List ℕ) (c : Command) (has : HasProject c.verb) (before after : Outside) (answer : ℕ) where
  abbrev SaysSo : Option Ids → Outside → Outside → ℕ → Type 0
  SaysSo expected = PromisesSaying (streams folder c) (live_of folder c) (hides folder c) (forces folder c) false expected (task_of folder c)

  expected_so : (b : Outside) → SaysSo None b after answer → PromisesExpecting (streams folder c) (live_of folder c) (hides folder c) (forces folder c) (expects folder c) (task_of folder c) b after answer
  expected_so b given = not_expecting SaysSo b after answer (expects folder c) (expects_none folder c c.verb has) given

  pub unwarned_anywhere : warns folder c ≡ false → ReadiedAnywhere folder c before after answer → PromisesAnywhere folder c before after answer
  unwarned_anywhere is (inl (here, placed)) = inl (not_warned (warns folder c) (streams folder c) (live_of folder c) (hides folder c) (forces folder c) (expects folder c) (task_of folder c) before after answer is (expected_so before here), placed)
  unwarned_anywhere is (inr there) = inr (record { told = before.errors; tells = subst (λ (w : Bool). TellsMostIf w before.errors before.errors) (sym is) refl; goes = there })

  pub warned_anywhere : warns folder c ≡ true → (line : Seen (List ℕ)) → TellsMost before.errors line → ReadiedAnywhere folder c (record before { errors = line }) after answer → PromisesAnywhere folder c before after answer
  warned_anywhere is line tells (inl (here, placed)) = inl (warned (warns folder c) (streams folder c) (live_of folder c) (hides folder c) (forces folder c) (expects folder c) (task_of folder c) before after answer is line tells (expected_so (record before { errors = line }) here), placed)
  warned_anywhere is line tells (inr there) = inr (record { told = line; tells = subst (λ (w : Bool). TellsMostIf w before.errors line) (sym is) tells; goes = there })

-- ---- with a repository that is made first, or not

pub unforced_anywhere : (folder : List ℕ) (c : Command) (before after : Outside) (answer : ℕ) → forces folder c ≡ false → PlainAnywhere folder c before after answer → ReadiedAnywhere folder c before after answer
unforced_anywhere folder c before after answer is (inl (here, placed)) = inl (subst (λ (f : Bool). PromisesSaying (streams folder c) (live_of folder c) (hides folder c) f false None (task_of folder c) before after answer) (sym is) here, placed)
unforced_anywhere folder c before after answer is (inr there) = inr (record { ready = before; is_ready = subst (λ (f : Bool). ReadiesIf f before before) (sym is) refl; goes = there })

pub forced_anywhere : (folder : List ℕ) (c : Command) (before after : Outside) (answer : ℕ) (m : Seen Folder) → forces folder c ≡ true → MakesWhereNone before.folder m (Ok tt) → PlainAnywhere folder c (record before { folder = m }) after answer → ReadiedAnywhere folder c before after answer
forced_anywhere folder c before after answer m is makes (inl (here, placed)) = inl (forced_saying c.force_init (task_of folder c) is m (streams folder c) (live_of folder c) (hides folder c) before after answer makes here, placed)
forced_anywhere folder c before after answer m is makes (inr there) = inr (record {
  ready = record before { folder = m };
  is_ready = subst (λ (f : Bool). ReadiesIf f before (record before { folder = m })) (sym is) (made_ready before (record before { folder = m }) makes refl);
  goes = there;
})

-- ---- the configuration was not read

unread_by : (folder : List ℕ) (c : Command) (v : Verb) → HasProject v → (before after : Work) (why : ConfRefusal) → At work_site (ReadsConf (project_of folder c)) before after (Err why) → Performs (task_with folder v c) before after (Err (Conf why))
unread_by folder c verb.Run has before after why reads = stops why refl reads
unread_by folder c verb.ListTests has before after why reads = stops why refl reads
unread_by folder c v has before after why reads = absurd has

unread_code : (why : ConfRefusal) → IsOfOutside why → 4 ≤ refusal_exit_status (Conf why)
unread_code conf.Site is = omega arith
unread_code conf.NoMemory is = omega arith
unread_code why is = absurd is

unread_plain : (folder : List ℕ) (c : Command) (before after : Outside) (answer : ℕ) (looked : Seen Files) (why : ConfRefusal) → HasProject c.verb → ReadsOwnConf (project_of folder c) before.site looked (Err why) → Tells (Err (Conf why)) before.errors after.errors answer → after ≡ record before { site = looked; errors = after.errors } → PromisesPlain folder c before after answer
unread_plain folder c before after answer looked why has reads told same =
    let read : ReadsConf (project_of folder c) before.site looked (Err why) = there_refuses c.project.instances (own_conf_in (project_of folder c)) before.site looked why reads in
    let other = told_refused (Conf why) answer told.code in
    let each : (o : Seen (List ℕ)) → Answers false (task_of folder c) (record before { out = o }) (record before { out = o; site = looked; errors = after.errors }) answer = λ o. record {
      outcome = Err (Conf why);
      done = inl (unread_by folder c c.verb has (work_of (record before { out = o })) (work_of (record before { out = o; site = looked; errors = after.errors })) why (record { at = read; rest = refl }));
      told = told;
    } in
    subst (λ (a : Outside). PromisesPlain folder c before a answer) (sym same)
    (stopped_saying false (task_of folder c) before (record before { site = looked; errors = after.errors }) answer other refl (λ o. promises false (task_of folder c) (record before { out = o }) (record before { out = o; site = looked; errors = after.errors }) answer (each o)) (streams folder c) (live_of folder c) (hides folder c))

pub unread_anywhere : (folder : List ℕ) (c : Command) (before after : Outside) (answer : ℕ) (looked : Seen Files) (why : ConfRefusal) → HasProject c.verb → IsOfOutside why × ReadsOwnConf (project_of folder c) before.site looked (Err why) → Tells (Err (Conf why)) before.errors after.errors answer → after ≡ record before { site = looked; errors = after.errors } → PlainAnywhere folder c before after answer
unread_anywhere folder c before after answer looked why has reads told same =
    inl (unread_plain folder c before after answer looked why has reads.1 told same, inr (subst (λ (n : ℕ). 4 ≤ n) (sym told.code) (unread_code why reads.0)))

-- no repository was made, since a call failed
pub unmade_anywhere : (folder : List ℕ) (c : Command) (before after : Outside) (answer : ℕ) (fault : InitFault) → forces folder c ≡ true → Tells (Err (Init fault)) before.errors after.errors answer → after ≡ record before { folder = after.folder; errors = after.errors } → MakesWhereNone before.folder after.folder (Err fault) → ReadiedAnywhere folder c before after answer
unmade_anywhere folder c before after answer fault is told same makes =
    let other = told_refused (Init fault) answer told.code in
    let failed : (answer ≡ 4) × Promises false (Some init) before after answer = init_failed_as before after answer fault told (ap work_of same) makes in
    inl (
      stopped_saying (forces folder c) (task_of folder c) before after answer other (ap (λ (w : Outside). w.out) same)
          (λ o. forced_not c.force_init (task_of folder c) (record before { out = o }) (record after { out = o }) answer is
          (init_failed_as (record before { out = o }) (record after { out = o }) answer fault told (ap (λ (w : Outside). work_of (record w { out = o })) same) makes))
          (streams folder c) (live_of folder c) (hides folder c),
      inr (omega (arith, failed.0)),
    )

-- ---- the place

-- the same is promised, of the same folder and the same files
pub here_at : (path folder : List ℕ) (command : Command) (looked : Seen Files) (before after : Outside) (answer : ℕ) → path ≡ folder → (looked ≡ before.site) × AsksNot folder command before.site → PromisesPlain path command (record before { site = looked }) after answer → PlainAnywhere folder command before after answer
here_at path folder command looked before after answer at is given =
    inl (
      subst (λ (f : List ℕ). PromisesPlain f command before after answer) at (subst (λ (s : Seen Files). PromisesPlain path command (record before { site = s }) after answer) is.0 given),
      inl is.1,
    )

pub elsewhere_at : (path folder : List ℕ) (command : Command) (looked : Seen Files) (before after : Outside) (answer : ℕ) → path ≡ folder → looked ≡ before.site → GoesElsewhere path command (record before { site = looked }) after answer → PlainAnywhere folder command before after answer
elsewhere_at path folder command looked before after answer at is given =
    inr (subst (λ (f : List ℕ). GoesElsewhere f command before after answer) at
    (subst (λ (s : Seen Files). GoesElsewhere path command (record before { site = s }) after answer) is given))

pub spares_at : (path folder : List ℕ) (c : Command) (old new : Option Folder) (answer before now : ℕ) → path ≡ folder → (streams path c ≡ false → SparesRun (task_of path c) old new answer before now) → streams folder c ≡ false → SparesRun (task_of folder c) old new answer before now
spares_at path folder c old new answer before now at given = subst (λ (f : List ℕ). streams f c ≡ false → SparesRun (task_of f c) old new answer before now) at given

pub asks_at : (path folder : List ℕ) (c : Command) (looked before : Seen Files) (settings : Settings) → path ≡ folder → (looked ≡ before) × AsksForInstances folder c before settings → AsksForInstances path c looked settings
asks_at path folder c looked before settings at is =
    subst (λ (f : List ℕ). AsksForInstances f c looked settings) (sym at) (subst (λ (s : Seen Files). AsksForInstances folder c s settings) (sym is.0) is.1)

pub counted_at : (path folder : List ℕ) (c : Command) (settings : Settings) (workers : ℕ) (before after : Outside) (answer : ℕ) → path ≡ folder → GoesCounted path c settings workers before after answer → GoesCounted folder c settings workers before after answer
counted_at path folder c settings workers before after answer at given = subst (λ (f : List ℕ). GoesCounted f c settings workers before after answer) at given

-- ---- for how many workers

pub counts_run : (v : Verb) (c : Command) (settings : Settings) (before after : Work) (result : Result ℕ Refusal) → v ≡ verb.Run → CountsWorkers settings c.parallel c.concurrency before after result → CountsFor v c settings before after result
counts_run v c settings before after result is given = subst (λ (w : Verb). CountsFor w c settings before after result) (sym is) given

pub counts_one : (v : Verb) (c : Command) (settings : Settings) (seen : Work) → (v ≡ verb.Run → ⊥) → CountsFor v c settings seen seen (Ok 1)
counts_one verb.Run c settings seen other = absurd (other refl)
counts_one v c settings seen other = record { answer = refl; same = refl }

-- ---- on instances

pub command_there : (workers : ℕ) (kept instances : List (List ℕ)) (c p d : Command) → d ≡ on_these workers kept p → kept ≡ instances → p ≡ plain c → d ≡ on_these workers instances (plain c)
command_there workers kept instances c p d is same flat = is ∙ ap (λ (i : List (List ℕ)). on_these workers i p) same ∙ ap (λ (k : Command). on_these workers instances k) flat

pub promises_there : (folder : List ℕ) (d there : Command) (before after : Outside) (answer : ℕ) → d ≡ there → PromisesOf folder d before after answer → PromisesOf folder there before after answer
promises_there folder d there before after answer is given = subst (λ (k : Command). PromisesOf folder k before after answer) is given

-- ---- a project that asks for none

pub ready_site : (force : Bool) (before ready : Outside) → ReadiesIf force before ready → ready.site ≡ before.site
ready_site true before ready is = ap (λ (w : Outside). w.site) is.rest
ready_site false before ready is = ap (λ (w : Outside). w.site) is

asked_where : (folder : List ℕ) (c : Command) (before after : Outside) (answer : ℕ) → GoesElsewhere folder c before after answer → (settings : Settings) × AsksForInstances folder c before.site settings
asked_where folder c before after answer (inl stop) = (stop.settings, stop.asks)
asked_where folder c before after answer (inr goes) = (goes.settings, goes.asks)

asks_never : (project : Project) (asks : Settings) (told : Option Files) → IfSome told (GivesOwnSettings project asks) → asks_instances asks ≡ true → IsSomeAnd told (λ files. (settings : Settings) → GivesOwnSettings project settings files → asks_instances settings ≡ false) → ⊥
asks_never project asks None given on none = none
asks_never project asks (Some files) given on off = true≢false (sym on ∙ off asks given)

not_both : (project : Project) (told : Option Files) → IfSome told (λ files. (given : Settings) → GivesOwnSettings project given files → asks_instances given ≡ false) → IsSomeAnd told (λ files. (settings : Settings) × (GivesOwnSettings project settings files × (asks_instances settings ≡ true))) → ⊥
not_both project None off on = on
not_both project (Some files) off on = true≢false (sym on.1.1 ∙ off on.0 on.1.0)

-- it is as promised of tests that run here
pub here_alone : (folder : List ℕ) (face : Face) (words : List (List ℕ)) (before after : Outside) (answer : ℕ) → TestrPromises folder face words before after answer → AsksNone folder (command_of face words) before.site → PromisesHere folder face words before after answer
here_alone folder face words before after answer (inl here) none = here.0
here_alone folder face words before after answer (inr there) none = absurd (by (command_of face words) there none)
  where
    by : (read : Option Command) → ElsewhereThen folder read before after answer → AsksNone folder read before.site → ⊥
    by None there none = there
    by (Some command) there none =
        let (settings, asks) = asked_where folder command there.goes.ready after answer there.goes.goes in
        let site : there.goes.ready.site ≡ before.site = ready_site (forces folder command) (record before { errors = there.told }) there.goes.ready there.goes.is_ready in
        asks_never (project_of folder command) settings before.site.told (subst (λ (s : Seen Files). IfSome s.told (GivesOwnSettings (project_of folder command) settings)) site asks.conf) asks.asks (none asks.project)

-- or as promised of instances
pub there_alone : (folder : List ℕ) (face : Face) (words : List (List ℕ)) (before after : Outside) (answer : ℕ) → TestrPromises folder face words before after answer → AsksSome folder (command_of face words) before.site → ElsewhereThen folder (command_of face words) before after answer ⊎ (4 ≤ answer)
there_alone folder face words before after answer (inl here) some = by (command_of face words) here.1 some
  where
    by : (read : Option Command) → HereThen folder read before.site answer → AsksSome folder read before.site → ElsewhereThen folder read before after answer ⊎ (4 ≤ answer)
    by None here some = absurd some
    by (Some command) (inl off) some = absurd (not_both (project_of folder command) before.site.told (off some.0) some.1)
    by (Some command) (inr late) some = inr late
there_alone folder face words before after answer (inr there) some = inl there
