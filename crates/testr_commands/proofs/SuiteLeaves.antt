-- What a run leaves at each exit, from its workers on: what was started and printed, and what a stop at each moment leaves.
use Rattle.std.proofs.Common.{◌≡◌, ◌⊎◌, inl, inr, ℕ, Bool, true, false, Option, None, Some, IfSome, Result, Ok, Err, List, [], ◌++◌, length, All, refl, sym, ap, subst, ◌∙◌, arith}
use Rattle.std.specs.Io.KnownBytes.{Appends}
use Rattle.std.proofs.KnownBytes.{Appends-nil, Appends-trans}
use Rattle.std.proofs.lemmas.List.{append-nil}
use Rattle.edge_io.specs.Bytes.{AppendsPrefix}
use Rattle.edge_io.specs.Children.{Output}
use Rattle.edge_io.specs.Disk.{Files, Folder}
use Rattle.edge_io.specs.Seen.{Seen}
use Rattle.edge_io.specs.Spawners.{Spawning}
use Rattle.edge_io.specs.Steps.{Goes, Grown}
use Rattle.edge_io.specs.declared.job.Job.{Job}
use Rattle.edge_io.proofs.Going.{goes_weaker}
use Rattle.outcome_fold.specs.Rows.{rows_of}
use Rattle.outcome_fold.specs.declared.row.Row.{Row}
use Rattle.packet_codec.specs.Lanes.{IsOfLaneBelow}
use Rattle.packet_codec.specs.declared.event.Event.{Event}
use Rattle.run_ledger.specs.Refreshing.{KeepsSound}
use Rattle.run_shelf.specs.Drafts.{Writes}
use Rattle.run_shelf.specs.Repository.{Run, run_of, Shows}
use Rattle.run_shelf.specs.Images.{KeepsRun}
use Rattle.run_shelf.proofs.DraftLemmas.{goes_writes, run_kept}
use Rattle.suite_run.specs.Recording.{RecordsLanes}
use Rattle.testr_conf.specs.Settings.{Settings}
use Rattle.suite_run.specs.Starting.{StartsAll, StartsSome, StartsLanes}
use Rattle.suite_run.specs.declared.lane_starter.StartRefusal.{StartRefusal}
use Rattle.worker_lane.specs.declared.lot.Lot.{Lot}
use Rattle.worker_mux.specs.Runs.{AddsMerge}
use Rattle.command_steps.specs.Selecting.{Planned}
use Rattle.command_steps.specs.Outside.{Work, work_folder, work_spawner}
use Rattle.command_steps.specs.Refreshing.{Refreshes}
use Rattle.command_steps.specs.Reporting.{Report, IsReport, report_for}
use Rattle.command_steps.specs.Causes.{FindsCauses}
use Rattle.testr_commands.specs.Searches.{SearchesSome, TakesFirst}
use Rattle.testr_commands.specs.RunSuite.{TellsRun, TellsAndFinds, RunsSuite}
use Rattle.command_steps.specs.Working.{Works}
use Rattle.command_steps.specs.Runs.{run_bytes, HasRunAndCaches, KeepsRepository, AddsRun}
use Rattle.command_steps.specs.Steps.{Then, stops, goes_on, Gives, At}
use Rattle.command_steps.specs.Store.{Begins, Keeps}
use Rattle.testr_commands.specs.Answer.{run_has_kept, may_have_printed}
use Rattle.testr_commands.specs.Stored.{StoresSuite}
use Rattle.testr_commands.specs.SuiteStops.{HasSuiteRun, PassesSuiteRun}
use Rattle.testr_words.specs.Suites.{RunOptions, is_partial}
use Rattle.testr_commands.specs.Workers.{RunsWorkers, AsksFew, StartsInOrder, PrintsFirst, LeavesRun}
use Rattle.command_steps.specs.declared.answer.Verdict.{Verdict}
use Rattle.command_steps.specs.declared.answer.Refusal.{Refusal}
use Rattle.command_steps.specs.declared.answer.Refusal.TheVariants.{Start, Lanes, Keep, Refresh}
use Rattle.testr_commands.proofs.ChainLemmas.{IsQuiet, gives_not}
use Rattle.testr_commands.proofs.DoneLaws.{kept_through}
use Rattle.testr_commands.proofs.KeepingLaws.{keeps_moves, MovesSoundly, run_moves as run_passes}
use Rattle.testr_commands.proofs.MergeLaws.{HaveOutputs, AreOfOutputs, have_outputs, of_outputs}
use Rattle.command_steps.proofs.Resting.{KeepsReads, rests_then, rests_of_same, goes_ends}
use Rattle.command_steps.proofs.SoundLemmas.{PassesAll, KeepsRunAndCaches, adds_run, rests_repository, rests_sound}
use Rattle.testr_commands.proofs.KeepLemmas.{refused_as}
use Rattle.testr_commands.proofs.StepLaws.{begin_quiet}
use Rattle.testr_commands.proofs.StoredLaws.{kept_adds, adds_through}
use Rattle.testr_commands.proofs.SuiteKeeps.{causes_late}
use Rattle.testr_commands.proofs.FindLemmas.{TellsEvents, TakesPart, tells_behind, causes_still, causes_left, none_searched, so_told}
use Rattle.testr_commands.proofs.SuiteDone.{Worked, work_did, tell_did, rows_told, told_before, where_told}
use Rattle.testr_commands.proofs.SuiteQuiet.{spawner_quiet}
use Rattle.testr_commands.proofs.SuiteReach.{Reached, GoesOnWith, reaches}
use Rattle.testr_words.specs.declared.format.FormatKind.{FormatKind}

-- ---- what the steps behind the start leave

module _ (partial : Bool) (number : ℕ) where
  abbrev Ends : List Row → Work → Work → Result (List Row) Refusal → Type 0
  Ends rows = Then Keep (At work_folder (Keeps partial number)) (λ _. Then Refresh (At work_folder (Refreshes number rows)) (λ _. Gives rows))

  ends_children : (rows : List Row) (a b : Work) (result : Result (List Row) Refusal) → Ends rows a b result → b.spawner.told ≡ a.spawner.told
  ends_children rows a b result (stops fault is step) = λ i. (step.rest i).spawner.told
  ends_children rows a b result (goes_on _ m step (stops fault is second)) = (λ i. (second.rest i).spawner.told) ∙ (λ i. (step.rest i).spawner.told)
  ends_children rows a b result (goes_on _ m step (goes_on _ k second gives)) = (λ i. (gives.same i).spawner.told) ∙ (λ i. (second.rest i).spawner.told) ∙ (λ i. (step.rest i).spawner.told)

  recording_children : (rests : List (Option (List Lot))) (a b : Work) (result : Result (List Row) Refusal) → Then Lanes (At work_folder (RecordsLanes rests)) Ends a b result → b.spawner.told ≡ a.spawner.told
  recording_children rests a b result (stops fault is step) = λ i. (step.rest i).spawner.told
  recording_children rests a b result (goes_on rows m step next) = ends_children rows m b result next ∙ (λ i. (step.rest i).spawner.told)

  ends_out : (rows : List Row) (a b : Work) (result : Result (List Row) Refusal) → Ends rows a b result → b.out.told ≡ a.out.told
  ends_out rows a b result (stops fault is step) = λ i. (step.rest i).out.told
  ends_out rows a b result (goes_on _ m step (stops fault is second)) = (λ i. (second.rest i).out.told) ∙ (λ i. (step.rest i).out.told)
  ends_out rows a b result (goes_on _ m step (goes_on _ k second gives)) = (λ i. (gives.same i).out.told) ∙ (λ i. (second.rest i).out.told) ∙ (λ i. (step.rest i).out.told)

  works_out : (plan : Planned) (a b : Work) (result : Result (List Row) Refusal) → Works partial number plan a b result → b.out.told ≡ a.out.told
  works_out plan a b result (stops fault is step) = λ i. (step.rest i).out.told
  works_out plan a b result (goes_on _ m begun (stops fault is step)) = (λ i. (step.rest i).out.told) ∙ (λ i. (begun.rest i).out.told)
  works_out plan a b result (goes_on _ m begun (goes_on rests k started (stops fault is step))) = (λ i. (step.rest i).out.told) ∙ (λ i. (started.rest i).out.told) ∙ (λ i. (begun.rest i).out.told)
  works_out plan a b result (goes_on _ m begun (goes_on rests k started (goes_on rows l recorded next))) =
      ends_out rows l b result next ∙ (λ i. (recorded.rest i).out.told) ∙ (λ i. (started.rest i).out.told) ∙ (λ i. (begun.rest i).out.told)

  tells_folder : (format : FormatKind) (tags : List (List ℕ)) (rows : List Row) (a b : Work) (result : Result Verdict Refusal) → TellsRun format number tags rows a b result → b.folder.told ≡ a.folder.told
  tells_folder format tags rows a b result (stops fault is step) = λ i. (step.same i).folder.told
  tells_folder format tags rows a b result (goes_on report m step (stops fault is printed)) = (λ i. (printed.rest i).folder.told) ∙ (λ i. (step.same i).folder.told)
  tells_folder format tags rows a b result (goes_on report m step (goes_on _ k printed gives)) = (λ i. (gives.same i).folder.told) ∙ (λ i. (printed.rest i).folder.told) ∙ (λ i. (step.same i).folder.told)

-- ---- some first jobs

-- the jobs that were started, and what their children tell
record Firsts (jobs : List Job) (a b : Option Spawning) : Type 0 where
  done : List Job
  more : List Job
  jobs_are : jobs ≡ done ++ more
  outputs : List Output
  started : Goes a b (StartsAll done outputs)

some_first : (jobs : List Job) (refusal : StartRefusal) (a b : Option Spawning) → Goes a b (StartsSome jobs refusal) → Firsts jobs a b
some_first jobs refusal None None some = record { done = []; more = jobs; jobs_are = refl; outputs = []; started = tt }
some_first jobs refusal None (Some t) some = absurd some
some_first jobs refusal (Some s) None some = absurd some
some_first jobs refusal (Some s) (Some t) some = record { done = some.done; more = some.more; jobs_are = some.jobs_are; outputs = some.outputs; started = some.started }

-- the report, or a first part of it
pub prefix_rows : (partial : Bool) (format : FormatKind) (number : ℕ) (tags : List (List ℕ)) (events : List Event) (report : Report) (a b : Option Folder) (old new : Option (List ℕ)) → Goes a b (KeepsRunAndCaches number (run_of partial (run_bytes events))) → IsReport format number tags (rows_of events) report → AppendsPrefix old new report.text
    → IfSome a (λ s. (runs : List Run) → Shows s.disk.published runs → AppendsPrefix old new (report_for format (rows_of events) (length runs) tags))
prefix_rows partial format number tags events report a b old new kept says prefix = rows_told partial format number tags events report (AppendsPrefix old new) a b kept says (so_told a (AppendsPrefix old new report.text) prefix)

-- ---- from the jobs on

module _ (options : RunOptions) (a : Work) (reached : Reached options a) (end : Work) where
  abbrev partial : Bool
  partial = is_partial options

  abbrev number : ℕ
  number = reached.number

  abbrev plan : Planned
  plan = reached.plan

  abbrev jobs : List Job
  jobs = plan.jobs

  abbrev start : Work
  start = reached.planning

  -- what is so of a spawner that was told, was told before
  told_at_first : (X : Type 0) → IfSome start.spawner.told (λ _. X) → IfSome a.spawner.told (λ _. X)
  told_at_first X = told_before a.spawner.told start.spawner.told (AsksFew 2) X reached.mild.asked

  -- the workers, where their outputs were recorded
  module _ (k l m : Work) (rests : List (Option (List Lot))) (rows : List Row) (begun : At work_folder Begins start k (Ok tt)) (started : At work_spawner (StartsLanes jobs plan.asked) k l (Ok rests)) (recorded : At work_folder (RecordsLanes rests) l m (Ok rows)) (is : end.spawner.told ≡ m.spawner.told) where
    abbrev adds : AddsMerge rests l.folder.told m.folder.told
    adds = recorded.at.recorded.merge

    begin : k.spawner.told ≡ start.spawner.told
    begin = λ i. (begun.rest i).spawner.told

    ended : l.spawner.told ≡ end.spawner.told
    ended = sym (is ∙ (λ i. (recorded.rest i).spawner.told))

    of_workers : (outputs : List Output) → IfSome k.spawner.told (λ _. AreOfOutputs adds.events plan.asked outputs) → IfSome a.spawner.told (λ _. AreOfOutputs adds.events plan.asked outputs)
    of_workers outputs are = told_at_first (AreOfOutputs adds.events plan.asked outputs) (subst (λ (o : Option Spawning). IfSome o (λ _. AreOfOutputs adds.events plan.asked outputs)) begin are)

    abbrev have : HaveOutputs jobs plan.asked rests k.spawner.told l.spawner.told
    have = have_outputs jobs plan.asked rests k.spawner.told l.spawner.told started.at.started

    are_of : IfSome a.spawner.told (λ _. AreOfOutputs adds.events plan.asked have.outputs)
    are_of = of_workers have.outputs (of_outputs jobs plan.asked rests have.outputs k.spawner.told l.folder.told m.folder.told adds reached.planned.few have.count have.rests_are have.are_outputs have.texts)

    abbrev recorded_workers : RunsWorkers options a end
    recorded_workers = record {
      plan = plan;
      planning = start;
      planned = reached.planned;
      outputs = have.outputs;
      worked = end.spawner.told;
      started = goes_ends (StartsAll jobs have.outputs) begin ended have.all;
      events = adds.events;
      are_events = adds.are_events;
      fit = adds.fit;
      of_lanes = subst (λ (n : ℕ). All (IsOfLaneBelow n) adds.events) started.at.count adds.of_lanes;
      merged = where_told a.spawner.told (AreOfOutputs adds.events plan.asked have.outputs) _ (λ each. each.merged) are_of;
      in_turn = where_told a.spawner.told (AreOfOutputs adds.events plan.asked have.outputs) _ (λ each. each.in_turn) are_of;
      lines = [];
      probed = none_searched options.find_causes reached.planned.settings adds.events a.folder.told end.spawner.told end.spawner.told refl;
    }

  -- the same where the run was kept, with what was searched behind that
  module _ (m : Work) (rows : List Row) (work : Worked partial number plan rows start m) (lines : List ℕ) (probed : SearchesSome options.find_causes reached.planned.settings work.events lines a.folder.told m.spawner.told end.spawner.told) where
    are_so : IfSome a.spawner.told (λ _. AreOfOutputs work.events plan.asked work.outputs)
    are_so = told_at_first (AreOfOutputs work.events plan.asked work.outputs) work.of_workers

    abbrev worked_workers : RunsWorkers options a end
    worked_workers = record {
      plan = plan;
      planning = start;
      planned = reached.planned;
      outputs = work.outputs;
      worked = m.spawner.told;
      started = work.started;
      events = work.events;
      are_events = work.are_events;
      fit = work.fit;
      of_lanes = work.of_lanes;
      merged = where_told a.spawner.told (AreOfOutputs work.events plan.asked work.outputs) _ (λ each. each.merged) are_so;
      in_turn = where_told a.spawner.told (AreOfOutputs work.events plan.asked work.outputs) _ (λ each. each.in_turn) are_so;
      lines = lines;
      probed = probed;
    }

  -- ---- what was started

  starts : (m : Work) (result : Result (List Row) Refusal) → end.spawner.told ≡ m.spawner.told → Works partial number plan start m result → StartsInOrder options a end
  starts m result is (stops fault step_is step) =
      let same : start.spawner.told ≡ end.spawner.told = sym (is ∙ (λ i. (step.rest i).spawner.told)) in
      inl (goes_ends (AsksFew 2) refl same reached.mild.asked)
  starts m result is (goes_on _ k begun (stops fault step_is step)) =
      let some = some_first jobs fault k.spawner.told m.spawner.told step.at.refused in
      inr (inl (record {
        plan = plan;
        planning = start;
        planned = reached.planned;
        done = some.done;
        more = some.more;
        jobs_are = some.jobs_are;
        outputs = some.outputs;
        started = goes_ends (StartsAll some.done some.outputs) (λ i. (begun.rest i).spawner.told) (sym is) some.started;
      }))
  starts m result is (goes_on _ k begun (goes_on rests l started next)) =
      let have = have_outputs jobs plan.asked rests k.spawner.told l.spawner.told started.at.started in
      inr (inl (record {
        plan = plan;
        planning = start;
        planned = reached.planned;
        done = jobs;
        more = [];
        jobs_are = sym (append-nil jobs);
        outputs = have.outputs;
        started = goes_ends (StartsAll jobs have.outputs) (λ i. (begun.rest i).spawner.told) (sym (is ∙ recording_children partial number rests l m result next)) have.all;
      }))

  -- ---- behind the workers

  abbrev settings : Settings
  settings = reached.planned.settings

  abbrev tags : List (List ℕ)
  tags = settings.filter_tags

  -- the workers, and what was printed of them by then
  record IsBehindWorkers (m : Work) : Type 0 where
    workers : RunsWorkers options a end
    printed : IfSome a.folder.told (λ s. (runs : List Run) → Shows s.disk.published runs → TakesFirst (report_for options.format (rows_of workers.events) (length runs) workers.planned.settings.filter_tags) workers.lines workers.worked end.spawner.told a.out.told end.out.told)
    passes : Goes start.folder.told m.folder.told (PassesAll number (run_of partial (run_bytes workers.events)))
    stores : Goes a.folder.told m.folder.told (AddsRun partial workers.events)

  module _ (m : Work) (rows : List Row) (works : Works partial number plan start m (Ok rows)) where
    abbrev work : Worked partial number plan rows start m
    work = work_did partial number plan start m rows reached.planned.few works

    stored : Goes a.folder.told m.folder.told (KeepsRunAndCaches number (run_of partial (run_bytes work.events)))
    stored = kept_through number (run_of partial (run_bytes work.events)) a.folder.told start.folder.told m.folder.told reached.mild.quiet work.kept

    added : Goes a.folder.told m.folder.told (AddsRun partial work.events)
    added = goes_weaker a.folder.told m.folder.told (KeepsRunAndCaches number (run_of partial (run_bytes work.events))) (AddsRun partial work.events) stored (adds_run partial number work.events)

    told_as : (report : Report) → IsReport options.format number tags rows report → IsReport options.format number tags (rows_of work.events) report
    told_as report says = subst (λ (l : List Row). IsReport options.format number tags l report) work.rows_are says

    out_as : m.out.told ≡ a.out.told
    out_as = works_out partial number plan start m (Ok rows) works ∙ reached.mild.out

    -- a first part of the report was printed, and nothing searched
    printed_so : (report : Report) → end.spawner.told ≡ m.spawner.told → IsReport options.format number tags rows report → AppendsPrefix m.out.told end.out.told report.text → IsBehindWorkers m
    printed_so report is says prefix =
        let first : AppendsPrefix a.out.told end.out.told report.text = subst (λ (o : Option (List ℕ)). AppendsPrefix o end.out.told report.text) out_as prefix in
        record {
          workers = worked_workers m rows work [] (none_searched options.find_causes settings work.events a.folder.told m.spawner.told end.spawner.told is);
          printed = rows_told partial options.format number tags work.events report (λ text. TakesFirst text [] m.spawner.told end.spawner.told a.out.told end.out.told) a.folder.told m.folder.told stored (told_as report says)
              (so_told a.folder.told _ (inl (record { none = is; no_lines = refl; printed = first })));
          passes = work.passes reached.calm;
          stores = added;
        }

    -- nothing was printed
    silent_so : end.spawner.told ≡ m.spawner.told → end.out.told ≡ m.out.told → IsBehindWorkers m
    silent_so is same = record {
      workers = worked_workers m rows work [] (none_searched options.find_causes settings work.events a.folder.told m.spawner.told end.spawner.told is);
      printed = every a.folder.told (λ text. inl (record { none = is; no_lines = refl; printed = (0, omega arith, subst (λ (o : Option (List ℕ)). Appends a.out.told o []) (sym (same ∙ out_as)) (Appends-nil a.out.told)) }));
      passes = work.passes reached.calm;
      stores = added;
    }
      where
        every : (o : Option Folder) → ((text : List ℕ) → TakesFirst text [] m.spawner.told end.spawner.told a.out.told end.out.told) → IfSome o (λ s. (runs : List Run) → Shows s.disk.published runs → TakesFirst (report_for options.format (rows_of work.events) (length runs) tags) [] m.spawner.told end.spawner.told a.out.told end.out.told)
        every None each = tt
        every (Some s) each = λ runs shows. each (report_for options.format (rows_of work.events) (length runs) tags)

    -- the report was printed, and then causes were searched
    found_so : (n b : Work) (report : Report) (result : Result (Unit {0}) Refusal) → n.folder.told ≡ m.folder.told → n.spawner.told ≡ m.spawner.told → IsReport options.format number tags rows report → Appends m.out.told n.out.told report.text → FindsCauses options.find_causes settings number rows n b result → b ≡ end → IsBehindWorkers m
    found_so n b report result folder spawner says whole finds last =
        let tells : Goes a.folder.told n.folder.told (λ s t. TellsEvents number work.events t) =
        goes_ends (λ s t. TellsEvents number work.events t) refl (sym folder) (tells_behind partial number work.events a.folder.told start.folder.told m.folder.told KeepsReads work.are_events work.fit reached.mild.quiet reached.calm work.kept) in
        let left = causes_left settings number work.events n end options.find_causes rows result a.folder.told work.rows_are tells (subst (λ (w : Work). FindsCauses options.find_causes settings number rows n w result) last finds) in
        let first : Appends a.out.told n.out.told report.text = subst (λ (o : Option (List ℕ)). Appends o n.out.told report.text) out_as whole in
        record {
          workers = worked_workers m rows work left.lines (subst (λ (o : Option Spawning). SearchesSome options.find_causes settings work.events left.lines a.folder.told o end.spawner.told) spawner left.probed);
          printed = rows_told partial options.format number tags work.events report (λ text. TakesFirst text left.lines m.spawner.told end.spawner.told a.out.told end.out.told) a.folder.told m.folder.told stored (told_as report says)
              (where_told a.folder.told (TakesPart left.lines n.out.told end.out.told) _ (λ taken. inr (record { part = taken.part; rest = taken.rest; lines_are = taken.lines_are; printed = Appends-trans a.out.told n.out.told end.out.told report.text taken.part first taken.printed })) left.taken);
          passes = work.passes reached.calm;
          stores = added;
        }

    -- the chain behind the workers
    behind : (result : Result Verdict Refusal) → TellsAndFinds options.format options.find_causes settings number rows m end result → IsBehindWorkers m
    behind result (stops fault step_is (stops why made_is made)) = silent_so (λ i. (made.same i).spawner.told) (λ i. (made.same i).out.told)
    behind result (stops fault step_is (goes_on report l made (stops why print_is printed))) =
        printed_so report ((λ i. (printed.rest i).spawner.told) ∙ (λ i. (made.same i).spawner.told)) made.says.told
        (subst (λ (o : Option (List ℕ)). AppendsPrefix o end.out.told report.text) (λ i. (made.same i).out.told) printed.at.prefix)
    behind result (stops fault step_is (goes_on report l made (goes_on _ n printed gives))) = absurd (gives_not n end fault gives)
    behind result (goes_on verdict n tells (stops fault step_is finds)) =
        let did = tell_did options.format number tags rows m n verdict tells in
        found_so n end did.report (Err fault) did.folder did.spawner did.says did.printed finds refl
    behind result (goes_on verdict n tells (goes_on v p finds gives)) =
        let did = tell_did options.format number tags rows m n verdict tells in
        found_so n p did.report (Ok v) did.folder did.spawner did.says did.printed finds (sym gives.same)

    finds_folder : (result : Result Verdict Refusal) → TellsAndFinds options.format options.find_causes settings number rows m end result → end.folder.told ≡ m.folder.told
    finds_folder result (stops fault step_is tells) = tells_folder partial number options.format tags rows m end (Err fault) tells
    finds_folder result (goes_on verdict n tells (stops fault step_is finds)) = causes_still options.find_causes settings number rows n end (Err fault) finds ∙ tells_folder partial number options.format tags rows m n (Ok verdict) tells
    finds_folder result (goes_on verdict n tells (goes_on v p finds gives)) =
        (λ i. (gives.same i).folder.told) ∙ causes_still options.find_causes settings number rows n p (Ok v) finds ∙ tells_folder partial number options.format tags rows m n (Ok verdict) tells

  -- ---- what was started, and what was printed

  abbrev HasPrinted : Type 0
  HasPrinted = (end.out.told ≡ a.out.told) ⊎ PrintsFirst options a end

  -- the chain from the workers on
  prints : (result : Result Verdict Refusal) → GoesOnWith options number plan settings start end result → HasPrinted
  prints result (stops fault step_is step) = inl (works_out partial number plan start end (Err fault) step ∙ reached.mild.out)
  prints result (goes_on rows m step next) =
      let so = behind m rows step result next in
      inr (record { workers = so.workers; printed = so.printed })

  begun_all : (result : Result Verdict Refusal) → GoesOnWith options number plan settings start end result → StartsInOrder options a end
  begun_all result (stops fault step_is step) = starts end (Err fault) refl step
  begun_all result (goes_on rows m step next) = inr (inr (behind m rows step result next).workers)

  -- nothing was printed, or a step refused that may have
  late : (rows : List Row) (m : Work) (result : Result Verdict Refusal) → TellsAndFinds options.format options.find_causes settings number rows m end result → (end.out.told ≡ m.out.told) ⊎ (may_have_printed false result ≡ true)
  late rows m result (stops fault step_is (stops why made_is made)) = inl (λ i. (made.same i).out.told)
  late rows m result (stops fault step_is (goes_on report l made (stops why print_is printed))) = inr (ap (may_have_printed false) (step_is ∙ print_is))
  late rows m result (stops fault step_is (goes_on report l made (goes_on _ n printed gives))) = absurd (gives_not n end fault gives)
  late rows m result (goes_on verdict n tells (stops fault step_is finds)) =
      inr (ap (may_have_printed false) step_is ∙ causes_late (λ r. may_have_printed false (Err r)) (λ why. refl) (λ why. refl) (λ why. refl) (λ why. refl) options.find_causes settings number rows n end fault finds)
  late rows m result (goes_on verdict n tells (goes_on v p finds gives)) = inr (ap (may_have_printed false) gives.answer)

  silent_by : (result : Result Verdict Refusal) → GoesOnWith options number plan settings start end result → (end.out.told ≡ a.out.told) ⊎ (may_have_printed false result ≡ true)
  silent_by result (stops fault step_is step) = inl (works_out partial number plan start end (Err fault) step ∙ reached.mild.out)
  silent_by result (goes_on rows m step next) = by (late rows m result next)
    where
      by : (end.out.told ≡ m.out.told) ⊎ (may_have_printed false result ≡ true) → (end.out.told ≡ a.out.told) ⊎ (may_have_printed false result ≡ true)
      by (inl same) = inl (same ∙ works_out partial number plan start m (Ok rows) step ∙ reached.mild.out)
      by (inr may) = inr may

  -- ---- the run that is kept

  -- a step before the keeping did not refuse
  not_early : {X : Type 0} (named r : Refusal) → ◌≡◌ {A = Result (List Row) Refusal} (Err r) (Err named) → run_has_kept (Err named) ≡ false → run_has_kept (Err r) ≡ true → X
  not_early named r is early has =
      let both : true ≡ false = sym has ∙ refused_as (λ x. run_has_kept (Err x)) named r is ∙ early in
      absurd cc

  -- the caches were not brought up
  works_store : (r : Refusal) → Works partial number plan start end (Err r) → run_has_kept (Err r) ≡ true → StoresSuite options a end
  works_store r (stops fault is step) has = not_early (Keep fault) r is refl has
  works_store r (goes_on _ k begun (stops fault is step)) has = not_early (Start fault) r is refl has
  works_store r (goes_on _ k begun (goes_on rests l started (stops fault is step))) has = not_early (Lanes fault) r is refl has
  works_store r (goes_on _ k begun (goes_on rests l started (goes_on rows n recorded (stops fault is step)))) has = not_early (Keep fault) r is refl has
  works_store r (goes_on _ k begun (goes_on rests l started (goes_on rows n recorded (goes_on _ q kept (stops fault is refreshed))))) has =
      let workers : RunsWorkers options a end = recorded_workers k l n rests rows begun started recorded ((λ i. (refreshed.rest i).spawner.told) ∙ (λ i. (kept.rest i).spawner.told)) in
      let events : List Event = recorded.at.recorded.merge.events in
      let grown : Goes k.folder.told n.folder.told (Grown (run_bytes events)) = subst (λ (f : Seen Folder). Goes f.told n.folder.told (Grown (run_bytes events))) (λ i. (started.rest i).folder) recorded.at.recorded.merge.added in
      let written : Goes start.folder.told n.folder.told (Writes (run_bytes events)) = goes_writes start.folder.told k.folder.told n.folder.told (run_bytes events) begun.at.begun grown in
      let keeps : Goes start.folder.told q.folder.told (KeepsRun number (run_of partial (run_bytes events))) = run_kept number partial (run_bytes events) start.folder.told n.folder.told q.folder.told written kept.at.kept in
      record {
        workers = workers;
        stored = adds_through partial number events a.folder.told start.folder.told end.folder.told reached.mild.quiet (kept_adds partial number events rows start.folder.told q.folder end.folder (Err fault) refreshed.at keeps);
      }
  works_store r (goes_on _ k begun (goes_on rests l started (goes_on rows n recorded (goes_on _ q kept (goes_on _ p refreshed gives))))) has = absurd (gives_not p end r gives)

  stores_by : (result : Result Verdict Refusal) → GoesOnWith options number plan settings start end result → run_has_kept result ≡ true → StoresSuite options a end
  stores_by result (stops fault step_is step) has = works_store fault step (sym (ap run_has_kept step_is) ∙ has)
  stores_by result (goes_on rows m step next) has =
      let so = behind m rows step result next in
      record { workers = so.workers; stored = goes_ends (AddsRun partial so.workers.events) refl (sym (finds_folder m rows step result next)) so.stores }

  -- ---- what a stop at each moment leaves, and that it is sound where it was

  pub record RunMoves (s t : Folder) : Type 0 where
    pub stops : PassesSuiteRun options a end s t
    pub sound : KeepsSound s t
    pub repository : KeepsRepository s t

  pub quiet_moves : (m : Work) → IsQuiet a m → Goes a.folder.told m.folder.told RunMoves
  quiet_moves m quiet = goes_weaker a.folder.told m.folder.told KeepsReads RunMoves quiet (λ s t rests. record { stops = inl rests.old; sound = rests_sound s t rests; repository = rests_repository s t rests })

  module _ (workers : RunsWorkers options a end) where
    abbrev run : Run
    run = run_of partial (run_bytes workers.events)

    suite_run : (files image : Files) → HasRunAndCaches files number run image → HasSuiteRun partial workers.events files image
    suite_run files image beside = record { number = number; beside = beside }

    run_moves : (m : Work) → Goes start.folder.told m.folder.told (PassesAll number run) → Goes a.folder.told m.folder.told RunMoves
    run_moves m runs =
        goes_weaker a.folder.told m.folder.told (MovesSoundly (HasSuiteRun partial workers.events)) RunMoves
        (run_passes (HasSuiteRun partial workers.events) number run suite_run a.folder.told start.folder.told m.folder.told reached.mild.quiet runs)
        (λ s t moves. record { stops = inr (workers, moves.stops); sound = moves.sound; repository = moves.repository })

  works_moves : (m : Work) (result : Result (List Row) Refusal) → end.spawner.told ≡ m.spawner.told → Works partial number plan start m result → Goes a.folder.told m.folder.told RunMoves
  works_moves m result is (stops fault step_is step) = quiet_moves m (quiet_then m (begin_quiet start m (Err fault) step.at))
    where
      quiet_then : (w : Work) → IsQuiet start w → IsQuiet a w
      quiet_then w second = rests_then a.folder.told start.folder.told w.folder.told reached.mild.quiet second
  works_moves m result is (goes_on _ k begun (stops fault step_is step)) =
      quiet_moves m (rests_then a.folder.told start.folder.told m.folder.told reached.mild.quiet (rests_then start.folder.told k.folder.told m.folder.told (begin_quiet start k (Ok tt) begun.at) (spawner_quiet k m step.rest)))
  works_moves m result is (goes_on _ k begun (goes_on rests l started (stops fault step_is step))) =
      quiet_moves m (rests_then a.folder.told start.folder.told m.folder.told reached.mild.quiet (rests_then start.folder.told k.folder.told m.folder.told (begin_quiet start k (Ok tt) begun.at) (rests_then k.folder.told l.folder.told m.folder.told (spawner_quiet k l started.rest) (rests_of_same l.folder.told m.folder.told step.at.files))))
  works_moves m result is (goes_on _ k begun (goes_on rests l started (goes_on rows n recorded named))) =
      let workers : RunsWorkers options a end = recorded_workers k l n rests rows begun started recorded (is ∙ ends_children partial number rows n m result named) in
      let bytes : List ℕ = run_bytes recorded.at.recorded.merge.events in
      let grown : Goes k.folder.told n.folder.told (Grown bytes) = subst (λ (f : Seen Folder). Goes f.told n.folder.told (Grown bytes)) (λ i. (started.rest i).folder) recorded.at.recorded.merge.added in
      let written : Goes start.folder.told n.folder.told (Writes bytes) = goes_writes start.folder.told k.folder.told n.folder.told bytes begun.at.begun grown in
      run_moves workers m
      (keeps_moves partial number bytes rows (Gives rows) (λ x y r gives i. (gives.same i).folder) start.folder.told recorded.at.recorded.rows_are reached.calm n m result written named)

  moves : (result : Result Verdict Refusal) → GoesOnWith options number plan settings start end result → Goes a.folder.told end.folder.told RunMoves
  moves result (stops fault step_is step) = works_moves end (Err fault) refl step
  moves result (goes_on rows m step next) =
      let so = behind m rows step result next in
      goes_ends RunMoves refl (sym (finds_folder m rows step result next)) (run_moves so.workers m so.passes)

-- ---- at every exit

pub run_leaves : (options : RunOptions) (a b : Work) (result : Result Verdict Refusal) → RunsSuite options a b result → LeavesRun options a b
run_leaves options a b result runs = elim (reaches options a b result runs) [
  | inl early ↦ record { started = inl early.0.asked; printed = inl early.0.out }
  | inr both ↦ record { started = begun_all options a both.0 b result both.1; printed = prints options a both.0 b result both.1 }
]

-- nothing was printed, unless a step refused that may have
pub run_silent : (options : RunOptions) (a b : Work) (result : Result Verdict Refusal) → RunsSuite options a b result → (b.out.told ≡ a.out.told) ⊎ (may_have_printed false result ≡ true)
run_silent options a b result runs = elim (reaches options a b result runs) [
  | inl early ↦ inl early.0.out
  | inr both ↦ silent_by options a both.0 b result both.1
]

-- the run stands for good, where a step refused that comes behind its keeping
pub run_stores : (options : RunOptions) (a b : Work) (result : Result Verdict Refusal) → RunsSuite options a b result → run_has_kept result ≡ true → StoresSuite options a b
run_stores options a b result runs has = elim (reaches options a b result runs) [
  | inl early ↦ let both : true ≡ false = sym has ∙ early.1 in absurd cc
  | inr both ↦ stores_by options a both.0 b result both.1 has
]

-- what a stop at each moment leaves, that it is sound where it was, and that a repository stays one
pub record RunsMoves (options : RunOptions) (a b : Work) (s t : Folder) : Type 0 where
  pub stops : PassesSuiteRun options a b s t
  pub sound : KeepsSound s t
  pub repository : KeepsRepository s t

pub run_suite_moves : (options : RunOptions) (a b : Work) (result : Result Verdict Refusal) → RunsSuite options a b result → Goes a.folder.told b.folder.told (RunsMoves options a b)
run_suite_moves options a b result runs = elim (reaches options a b result runs) [
  | inl early ↦ goes_weaker a.folder.told b.folder.told KeepsReads (RunsMoves options a b) early.0.quiet (λ s t rests. record { stops = inl rests.old; sound = rests_sound s t rests; repository = rests_repository s t rests })
  | inr both ↦ goes_weaker a.folder.told b.folder.told (RunMoves options a both.0 b) (RunsMoves options a b) (moves options a both.0 b result both.1) (λ s t moves. record { stops = moves.stops; sound = moves.sound; repository = moves.repository })
]
