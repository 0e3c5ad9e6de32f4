-- What a command has done, from its chain.
use Rattle.std.proofs.Common.{◌≡◌, inl, inr, ℕ, ◌<◌, Bool, true, false, Option, None, Some, IfSome, All, Result, Ok, List, [], ◌∷◌, length, refl, sym, ap, subst, ◌∙◌, if◌then◌else◌}
use Rattle.std.specs.Io.KnownBytes.{Appends}
use Rattle.std.specs.List.{list_any}
use Rattle.edge_io.specs.Disk.{Files, Folder, IsImage}
use Rattle.edge_io.specs.Seen.{Seen}
use Rattle.edge_io.specs.Spawners.{Spawning}
use Rattle.edge_io.specs.Steps.{Goes, Opened, Grown}
use Rattle.edge_io.proofs.Going.{goes_then, goes_weaker}
use Rattle.packet_codec.specs.Grammar.{AreBytes}
use Rattle.packet_codec.specs.declared.event.Event.{Event}
use Rattle.outcome_fold.specs.declared.row.Row.{Row}
use Rattle.outcome_fold.specs.Rows.{rows_of}
use Rattle.outcome_fold.specs.Answers.{row_fails, status_of}
use Rattle.run_ledger.specs.Caches.{IsSound}
use Rattle.run_shelf.specs.Repository.{Run, run_of, Shows}
use Rattle.run_shelf.specs.declared.found.Found.{Found}
use Rattle.run_shelf.specs.Holds.{kinds_of, FitsFolder}
use Rattle.run_shelf.specs.Images.{MakesRepository}
use Rattle.run_shelf.proofs.DraftLemmas.{goes_writes, run_kept}
use Rattle.run_shelf.proofs.Joining.{stays_some}
use Rattle.command_steps.specs.Outside.{Work, Shown, work_folder}
use Rattle.command_steps.specs.Runs.{run_bytes, HasRunAndCaches, KeepsFiles, AddsRun}
use Rattle.command_steps.specs.Verdicts.{verdict_of, verdict_exit_status}
use Rattle.command_steps.specs.Says.{SaysOfFolder}
use Rattle.testr_words.specs.Questions.{OfLastRun}
use Rattle.command_steps.specs.Files.{AreSources, HasRecordedInTurn, RecordsSources}
use Rattle.command_steps.specs.declared.input_recorder.RecordFault.{RecordFault}
use Rattle.command_steps.specs.Refreshing.{Refreshes, BringsCaches}
use Rattle.command_steps.specs.Reporting.{Report, IsReport, Reports, report_for}
use Rattle.command_steps.specs.Steps.{Still, At}
use Rattle.command_steps.specs.Store.{Opens, TakesRun, Begins, Keeps}
use Rattle.command_steps.specs.declared.store.RunsFault.{RunsFault}
use Rattle.testr_commands.specs.Init.{Inits}
use Rattle.testr_commands.specs.Load.{Loads}
use Rattle.testr_commands.specs.Ask.{CopiesLast, PrintsAnswer, AnswersOf, Asks}
use Rattle.testr_commands.specs.Spoken.{HavePackets}
use Rattle.testr_commands.specs.Program.{LoadsAll, ReadsInputFor, AnswersQuestion}
use Rattle.testr_words.specs.declared.command.Question.{Question}
use Rattle.testr_words.specs.declared.command.Question.TheVariants.{Last}
use Rattle.command_steps.specs.declared.answer.Verdict.{Verdict}
use Rattle.command_steps.specs.declared.answer.Verdict.TheVariants.{Passed, Failed}
use Rattle.command_steps.specs.declared.answer.Refusal.{Refusal}
use Rattle.testr_commands.proofs.SourcesLemmas.{IsRunOf, writes_run}
use Rattle.testr_commands.proofs.RowsLemmas.{have_in_turn, rows_of_written}
use Rattle.testr_commands.proofs.AskLemmas.{either}
use Rattle.command_steps.proofs.CopyLemmas.{bytes_said}
use Rattle.command_steps.proofs.Resting.{KeepsReads, surveyed_fits}
use Rattle.command_steps.proofs.SoundLemmas.{KeepsRunAndCaches, rests_calm, surveyed_calm, goes_cached, fresh_through, adds_run}
use Rattle.testr_commands.proofs.ChainLemmas.{then_did}
use Rattle.testr_commands.proofs.StepLaws.{open_quiet}
use Rattle.testr_commands.proofs.CommandLaws.{of_shown, ask_quiet}
use Rattle.testr_words.specs.Suites.{LoadOptions}
use Rattle.testr_words.specs.declared.format.FormatKind.{FormatKind}

pub appended : {x y z w : Option (List ℕ)} {text other : List ℕ} → x ≡ y → z ≡ w → text ≡ other → Appends x z text → Appends y w other
appended {y = y} {z = z} {w = w} {text = text} p q r appends = subst (λ k. Appends y w k) r (subst (λ k. Appends y k text) q (subst (λ k. Appends k z text) p appends))

pub same_verdict : {v w : Verdict} → ◌≡◌ {A = Result Verdict Refusal} (Ok v) (Ok w) → v ≡ w
same_verdict is = cc

-- ---- `init`

pub init_made : (a b : Seen Folder) (v : Verdict) → Inits a b (Ok v) → Goes a.told b.told MakesRepository
init_made a b v inits =
    let made = then_did v inits in
    subst (λ (f : Seen Folder). Goes a.told f.told MakesRepository) (sym made.next.same) made.done.made

pub init_passed : (a b : Seen Folder) (v : Verdict) → Inits a b (Ok v) → verdict_exit_status v ≡ 0
init_passed a b v inits =
    let made = then_did v inits in
    ap verdict_exit_status (same_verdict made.next.answer)

-- ---- `load`

pub status_is : (rows : List Row) → verdict_exit_status (verdict_of rows) ≡ status_of rows
status_is rows = by (list_any row_fails rows)
  where
    by : (b : Bool) → verdict_exit_status (if b then Failed else Passed) ≡ (if b then 1 else 0)
    by true = refl
    by false = refl

-- a run that is kept behind a quiet part is kept beside the files of before
pub kept_through : (number : ℕ) (run : Run) (a b c : Option Folder) → Goes a b KeepsReads → Goes b c (KeepsRunAndCaches number run) → Goes a c (KeepsRunAndCaches number run)
kept_through number run a b c quiet kept = goes_then a b c KeepsReads (KeepsRunAndCaches number run) (KeepsRunAndCaches number run) quiet kept (λ s m t rests keeps. record {
  reads = subst (λ (files : Files). HasRunAndCaches files number run t.disk.published) rests.files keeps.reads;
  lasts = subst (λ (files : Files). (image : Files) → IsImage t.disk image → HasRunAndCaches files number run image) rests.files keeps.lasts;
  fresh = λ calm sound. keeps.fresh (rests_calm s m calm rests) (subst IsSound (sym rests.files) sound);
})

reports : (partial : Bool) (format : FormatKind) (folder folder' : Option Folder) (printed new : Option (List ℕ)) (number : ℕ) (events : List Event) → Goes folder folder' (KeepsRunAndCaches number (run_of partial (run_bytes events))) → Appends printed new (report_for format (rows_of events) number [])
    → IfSome folder (λ s. (runs : List Run) → Shows s.disk.published runs → Appends printed new (report_for format (rows_of events) (length runs) []))
reports partial format None folder' printed new number events kept appends = tt
reports partial format (Some s) None printed new number events kept appends = absurd kept
reports partial format (Some s) (Some t) printed new number events kept appends = λ runs shows.
    subst (λ n. Appends printed new (report_for format (rows_of events) n [])) (kept.reads.beside.counts runs shows) appends

pub out_stays : (names : List (List ℕ)) (result : Result (List Row) RecordFault) (a b : Work) → RecordsSources names a b result → b.out.told ≡ a.out.told
out_stays [] result a b step = λ i. (step.rest i).out.told
out_stays (name ∷ names) result a b step = λ i. (step.rest i).out.told

-- what is known once the run of a load is kept and the caches cover it: what was recorded, and what is printed then
pub record LoadedSo (options : LoadOptions) (names : List (List ℕ)) (a m : Work) (rows : List Row) (report : Report) : Type 0 where
  pub number : ℕ
  pub sources : List (List ℕ)
  pub are_sources : AreSources names a.site.told a.input.told sources
  pub are_bytes : All AreBytes sources
  pub events : List Event
  pub recorded : HasRecordedInTurn 0 sources events
  pub at_end : ReadsInputFor names a.input m.input
  pub kept : Goes a.folder.told m.folder.told (KeepsRunAndCaches number (run_of options.partial (run_bytes events)))
  pub cached : Goes a.folder.told m.folder.told BringsCaches
  pub out : m.out.told ≡ a.out.told
  pub says : IsReport options.format number [] (rows_of events) report
  pub have : HavePackets events
  pub rows_are : rows ≡ rows_of events

pub loaded_so : (options : LoadOptions) (names : List (List ℕ)) (a o t g r e k m : Work) (found : Found) (rows : List Row) (report : Report)
    → At work_folder Opens a o (Ok found)
    → Still {E = RunsFault} (TakesRun (length (kinds_of found))) o t (Ok tt)
    → At work_folder Begins t g (Ok tt)
    → RecordsSources names g r (Ok rows)
    → Still (Reports options.format (length (kinds_of found)) [] rows) r e (Ok report)
    → At work_folder (Keeps options.partial (length (kinds_of found))) e k (Ok tt)
    → At work_folder (Refreshes (length (kinds_of found)) rows) k m (Ok tt)
    → LoadedSo options names a m rows report
loaded_so options names a o t g r e k m found rows report opened took begun read told kept refreshed =
    let number = length (kinds_of found) in
    let input : g.input ≡ a.input = (λ i. (begun.rest i).input) ∙ (λ i. (took.same i).input) ∙ (λ i. (opened.rest i).input) in
    let input_left : m.input ≡ r.input = (λ i. (refreshed.rest i).input) ∙ (λ i. (kept.rest i).input) ∙ (λ i. (told.same i).input) in
    let all = writes_run names rows g r read in
    let begins : Goes o.folder.told g.folder.told Opened = subst (λ (f : Option Folder). Goes f g.folder.told Opened) (λ i. (took.same i).folder.told) begun.at.begun in
    let grows : Goes g.folder.told e.folder.told (Grown all.run) = subst (λ (f : Option Folder). Goes g.folder.told f (Grown all.run)) (λ i. (sym told.same i).folder.told) all.written in
    let site : g.site ≡ a.site = (λ i. (begun.rest i).site) ∙ (λ i. (took.same i).site) ∙ (λ i. (opened.rest i).site) in
    let recorded : IsRunOf names a.site.told a.input.told all.run = subst (λ (s : Seen Files). IsRunOf names s.told a.input.told all.run) site (subst (λ (s : Seen (List ℕ)). IsRunOf names g.site.told s.told all.run) input all.is) in
    let packets = have_in_turn 0 recorded.sources recorded.events recorded.few recorded.are_bytes recorded.recorded in
    let rows_are : rows ≡ rows_of recorded.events = rows_of_written all.run recorded.events rows all.run_is packets.are_events packets.fit recorded.packets all.rows_are in
    let run_is : all.run ≡ run_bytes recorded.events = recorded.packets in
    let keeps : Goes o.folder.told m.folder.told (KeepsRunAndCaches number (run_of options.partial (run_bytes recorded.events))) =
    subst (λ (l : List ℕ). Goes o.folder.told m.folder.told (KeepsRunAndCaches number (run_of options.partial l))) run_is
    (goes_cached number (run_of options.partial all.run) rows o.folder.told k.folder m.folder refreshed.at all.rows_are
    (run_kept number options.partial all.run o.folder.told e.folder.told k.folder.told (goes_writes o.folder.told g.folder.told e.folder.told all.run begins grows) kept.at.kept)) in
    let quiet : Goes a.folder.told o.folder.told KeepsReads = open_quiet a o (Ok found) opened.at in
    record {
      number = number;
      sources = recorded.sources;
      are_sources = recorded.are_sources;
      are_bytes = recorded.are_bytes;
      events = recorded.events;
      recorded = recorded.recorded;
      at_end = subst (λ (s : Seen (List ℕ)). ReadsInputFor names a.input s) (sym input_left) (subst (λ (s : Seen (List ℕ)). ReadsInputFor names s r.input) input all.at_end);
      kept = kept_through number (run_of options.partial (run_bytes recorded.events)) a.folder.told o.folder.told m.folder.told quiet keeps;
      cached = fresh_through number (run_of options.partial (run_bytes recorded.events)) a.folder.told o.folder.told m.folder.told quiet (surveyed_calm (kinds_of found) a.folder.told o.folder.told opened.at.found) keeps;
      out = (λ i. (refreshed.rest i).out.told) ∙ (λ i. (kept.rest i).out.told) ∙ (λ i. (told.same i).out.told) ∙ out_stays names (Ok rows) g r read ∙ (λ i. (begun.rest i).out.told) ∙ (λ i. (took.same i).out.told) ∙ (λ i. (opened.rest i).out.told);
      says = subst (λ (list : List Row). IsReport options.format number [] list report) rows_are told.says.told;
      have = record { are_events = packets.are_events; fit = packets.fit };
      rows_are = rows_are;
    }

pub load_did : (options : LoadOptions) (names : List (List ℕ)) (a b : Work) (v : Verdict) → Loads options names a b (Ok v) → LoadsAll options names a b (verdict_exit_status v)
load_did options names a b v loads =
    let opened = then_did v loads in
    let took = then_did v opened.next in
    let begun = then_did v took.next in
    let read = then_did v begun.next in
    let told = then_did v read.next in
    let kept = then_did v told.next in
    let refreshed = then_did v kept.next in
    let printed = then_did v refreshed.next in
    let gives = printed.next in
    let m : Work = refreshed.between in
    let all = loaded_so options names a opened.between took.between begun.between read.between told.between kept.between m opened.value read.value told.value opened.done took.done begun.done read.done told.done kept.done refreshed.done in
    let folder_left : b.folder.told ≡ m.folder.told = (λ i. (gives.same i).folder.told) ∙ (λ i. (printed.done.rest i).folder.told) in
    let input_left : b.input ≡ m.input = (λ i. (gives.same i).input) ∙ (λ i. (printed.done.rest i).input) in
    let stored : Goes a.folder.told b.folder.told (KeepsRunAndCaches all.number (run_of options.partial (run_bytes all.events))) = subst (λ (f : Option Folder). Goes a.folder.told f (KeepsRunAndCaches all.number (run_of options.partial (run_bytes all.events)))) (sym folder_left) all.kept in
    let prints : Appends a.out.told b.out.told (report_for options.format (rows_of all.events) all.number []) = appended {z = printed.between.out.told} all.out (λ i. (sym gives.same i).out.told) all.says.text printed.done.at.whole in
    record {
      sources = all.sources;
      are_sources = all.are_sources;
      are_bytes = all.are_bytes;
      events = all.events;
      recorded = all.recorded;
      at_end = subst (λ (s : Seen (List ℕ)). ReadsInputFor names a.input s) (sym input_left) all.at_end;
      cached = subst (λ (f : Option Folder). Goes a.folder.told f BringsCaches) (sym folder_left) all.cached;
      stored = goes_weaker a.folder.told b.folder.told (KeepsRunAndCaches all.number (run_of options.partial (run_bytes all.events))) (AddsRun options.partial all.events) stored (adds_run options.partial all.number all.events);
      printed = reports options.partial options.format a.folder.told b.folder.told a.out.told b.out.told all.number all.events stored prints;
      status = ap verdict_exit_status (same_verdict gives.answer ∙ all.says.verdict) ∙ status_is (rows_of all.events);
    }

-- ---- questions

-- this text was printed, and of the folder it is the answer
record DidAnswer (question : Question) (before after : Shown) (v : Verdict) : Type 0 where
  pub text : List ℕ
  pub verdict : Verdict
  pub says : IfSome after.folder.told (SaysOfFolder question text verdict)
  pub printed : Appends before.out.told after.out.told text
  pub status : verdict_exit_status v ≡ verdict_exit_status verdict

print_did : (question : Question) (m b : Shown) (v : Verdict) → PrintsAnswer question m b (Ok v) → DidAnswer question m b v
print_did question m b v prints =
    let told = then_did v prints in
    let printed = then_did v told.next in
    let gives = printed.next in
    let folder_left : b.folder.told ≡ told.between.folder.told = (λ i. (gives.same i).folder.told) ∙ (λ i. (printed.done.rest i).folder.told) in
    let text = told.value.text.items in
    let says : IfSome told.between.folder.told (SaysOfFolder question text told.value.verdict) = stays_some m.folder.told told.between.folder.told (SaysOfFolder question text told.value.verdict) told.done.at.answers told.done.at.same in
    record {
      text = text;
      verdict = told.value.verdict;
      says = subst (λ (o : Option Folder). IfSome o (SaysOfFolder question text told.value.verdict)) (sym folder_left) says;
      printed = appended {z = printed.between.out.told} (λ i. (told.done.rest i).out.told) (λ i. (sym gives.same i).out.told) refl printed.done.at.whole;
      status = ap verdict_exit_status (same_verdict gives.answer);
    }

module _ (found : Found) where
  copy_did : (m b : Shown) (v : Verdict) → 0 < length (kinds_of found) → IfSome m.folder.told (FitsFolder (kinds_of found)) → CopiesLast found m b (Ok v) → DidAnswer (Last true) m b v
  copy_did m b v some fits copies =
      let copied = then_did v copies in
      let gives = copied.next in
      let bytes = copied.done.bytes in
      let says : IfSome copied.between.folder.told (SaysOfFolder (Last true) bytes Passed) = stays_some m.folder.told copied.between.folder.told (SaysOfFolder (Last true) bytes Passed) (bytes_said (kinds_of found) bytes m.folder.told some fits copied.done.whole) copied.done.counts.same in
      record {
        text = bytes;
        verdict = Passed;
        says = subst (λ (w : Shown). IfSome w.folder.told (SaysOfFolder (Last true) bytes Passed)) (sym gives.same) says;
        printed = subst (λ (w : Shown). Appends m.out.told w.out.told bytes) (sym gives.same) copied.done.taken;
        status = ap verdict_exit_status (same_verdict gives.answer);
      }

  answer_did : (question : Question) (m b : Shown) (v : Verdict) → (OfLastRun question → 0 < length (kinds_of found)) → IfSome m.folder.told (FitsFolder (kinds_of found)) → AnswersOf found question m b (Ok v) → DidAnswer question m b v
  answer_did question m b v some fits answers = elim (either found m b (Ok v) question answers) [
    | inl (is, copies) ↦ subst (λ (q : Question). DidAnswer q m b v) (sym is) (copy_did m b v (some (subst OfLastRun (sym is) tt)) fits copies)
    | inr prints ↦ print_did question m b v prints
  ]

pub ask_did : (question : Question) (site : Seen Files) (spawner : Seen Spawning) (input : Seen (List ℕ)) (a b : Shown) (v : Verdict) → Asks question a b (Ok v) → AnswersQuestion question (of_shown site spawner input a) (of_shown site spawner input b) (verdict_exit_status v)
ask_did question site spawner input a b v asks =
    let opened = then_did v asks in
    let had = then_did v opened.next in
    let kinds = kinds_of opened.value in
    let fits : IfSome had.between.folder.told (FitsFolder kinds) = subst (λ (w : Shown). IfSome w.folder.told (FitsFolder kinds)) (sym had.done.same) (surveyed_fits kinds a.folder.told opened.between.folder.told opened.done.at.found) in
    let out : had.between.out.told ≡ a.out.told = (λ i. (had.done.same i).out.told) ∙ (λ i. (opened.done.rest i).out.told) in
    let did = answer_did opened.value question had.between b v had.done.says.some fits had.next in
    record {
      text = did.text;
      verdict = did.verdict;
      says = did.says;
      kept = goes_weaker a.folder.told b.folder.told KeepsReads KeepsFiles (ask_quiet site spawner input question a b (Ok v) asks) (λ s t rests. rests.files);
      site = refl;
      spawner = refl;
      input = refl;
      printed = appended {z = b.out.told} out refl refl did.printed;
      status = did.status;
    }
