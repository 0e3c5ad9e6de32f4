-- What a command has printed at each exit, from its chain.
use Rattle.std.proofs.Common.{◌≡◌, ◌⊎◌, inl, inr, ℕ, ◌<◌, ◌≤◌, ◌-◌, Bool, true, false, Option, None, Some, IfSome, Result, Ok, Err, List, [], ◌++◌, length, length-append, take, refl, sym, ap, subst, ◌∙◌, arith}
use Rattle.std.specs.Prelude.{IsSomeAnd}
use Rattle.std.proofs.Math.Seq.{take-length, take-append_seam}
use Rattle.std.specs.Io.KnownBytes.{Appends}
use Rattle.edge_io.specs.Bytes.{AppendsPrefix}
use Rattle.edge_io.specs.Disk.{Files, Folder}
use Rattle.edge_io.specs.Seen.{Seen}
use Rattle.edge_io.specs.Spawners.{Spawning}
use Rattle.run_shelf.specs.Holds.{kinds_of, FitsFolder}
use Rattle.run_shelf.specs.Repository.{Run, run_at}
use Rattle.run_shelf.specs.declared.found.Found.{Found}
use Rattle.run_shelf.proofs.Joining.{stays_some}
use Rattle.sub_text.specs.Texts.{summary_text}
use Rattle.suite_plan.specs.Listing.{ListsSo}
use Rattle.testr_words.specs.Suites.{ListOptions, LoadOptions}
use Rattle.testr_commands.specs.Ask.{CopiesLast, PrintsAnswer, AnswersOf, Asks}
use Rattle.command_steps.specs.Copying.{BeginsAt, CopiesRun, copy_refusal}
use Rattle.testr_commands.specs.Load.{Loads}
use Rattle.command_steps.specs.Outside.{Work, Shown, work_out, shown_out}
use Rattle.testr_commands.specs.Answer.{is_copied, may_have_printed}
use Rattle.testr_commands.specs.Printed.{PrintsOfLoad, PrintsOfAnswer, PrintsOfListing}
use Rattle.testr_commands.specs.Upgrade.{UpgradesAll}
use Rattle.testr_words.specs.Tasks.{ask}
use Rattle.command_steps.specs.Reporting.{Prints}
use Rattle.testr_commands.specs.RunSuite.{ListsSuite}
use Rattle.command_steps.specs.Says.{SaysOfFolder}
use Rattle.testr_words.specs.Questions.{OfLastRun}
use Rattle.testr_commands.specs.SelfTest.{TestsItself, rows_in_turn}
use Rattle.command_steps.specs.Steps.{Step, Then, stops, goes_on, Still, Gives, At}
use Rattle.command_steps.specs.Store.{HasRunFor}
use Rattle.command_steps.specs.declared.store.RunsFault.{RunsFault}
use Rattle.command_steps.specs.declared.run_copy.CopyFault.{CopyFault}
use Rattle.command_steps.specs.declared.run_copy.CopyFault.TheVariants as copy_fault
use Rattle.command_steps.specs.declared.run_report.PrintFault.{PrintFault}
use Rattle.command_steps.specs.declared.answer.Refusal.{Refusal}
use Rattle.command_steps.specs.declared.answer.Refusal.TheVariants.{Print}
use Rattle.command_steps.specs.declared.answer.Verdict.{Verdict}
use Rattle.command_steps.specs.declared.answer.Verdict.TheVariants.{Passed}
use Rattle.testr_words.specs.declared.command.Question.{Question}
use Rattle.testr_words.specs.declared.command.Question.TheVariants.{Last}
use Rattle.testr_words.specs.declared.selftest_words.SelfTestWords.{SelfTestWords}
use Rattle.testr_commands.proofs.AskLemmas.{either}
use Rattle.testr_commands.proofs.CommandLaws.{of_shown}
use Rattle.command_steps.proofs.CopyLemmas.{bytes_said}
use Rattle.testr_words.specs.Suites.{Wanted}
use Rattle.testr_commands.proofs.FurtherLaws.{gives_further}
use Rattle.testr_commands.proofs.DoneLaws.{LoadedSo, loaded_so, out_stays}
use Rattle.command_steps.proofs.Resting.{surveyed_fits, goes_ends}
use Rattle.testr_commands.proofs.SuiteLeaves.{prefix_rows}

-- ---- one step after another

-- behind a step that prints nothing
then_printed : {W A B E R X : Type 0} (out : W → Option (List ℕ)) {name : E → R} {first : Step W A E} {second : A → Step W B R} (a b : W) (result : Result B R)
    → ((r : Result A E) (m : W) → first a m r → out m ≡ out a)
    → ((v : A) (m : W) → first a m (Ok v) → second v m b result → (out b ≡ out m) ⊎ X)
    → Then name first second a b result → (out b ≡ out a) ⊎ X
then_printed out a b result silent next (stops fault is step) = inl (silent (Err fault) b step)
then_printed {X = X} out a b result silent next (goes_on v m step rest) = by (next v m step rest)
  where
    by : (out b ≡ out m) ⊎ X → (out b ≡ out a) ⊎ X
    by (inl same) = inl (same ∙ silent (Ok v) m step)
    by (inr x) = inr x

-- the step that prints refuses, or it was done
then_may : {W A : Type 0} (copied : Bool) {first : Step W A PrintFault} (v : Verdict) (m b : W) (result : Result Verdict Refusal) → Then Print first (λ _. Gives v) m b result → may_have_printed copied result ≡ true
then_may copied v m b result (stops fault is step) = ap (may_have_printed copied) is
then_may copied v m b result (goes_on _ n step gives) = ap (may_have_printed copied) gives.answer

-- the sink that takes a text has taken some of its first bytes, whatever comes behind that
pub printed_part : (text : List ℕ) (v : Verdict) (m b : Work) (result : Result Verdict Refusal) → Then Print (At work_out (Prints text)) (λ _. Gives v) m b result → AppendsPrefix m.out.told b.out.told text
printed_part text v m b result (stops fault is step) = step.at.prefix
printed_part text v m b result (goes_on _ n step gives) = subst (λ (w : Work). AppendsPrefix m.out.told w.out.told text) (sym gives.same) step.at.prefix

shown_part : (text : List ℕ) (v : Verdict) (m b : Shown) (result : Result Verdict Refusal) → Then Print (At shown_out (Prints text)) (λ _. Gives v) m b result → AppendsPrefix m.out.told b.out.told text
shown_part text v m b result (stops fault is step) = step.at.prefix
shown_part text v m b result (goes_on _ n step gives) = subst (λ (w : Shown). AppendsPrefix m.out.told w.out.told text) (sym gives.same) step.at.prefix

part_as : (a m b : Option (List ℕ)) (text other : List ℕ) → m ≡ a → text ≡ other → AppendsPrefix m b text → AppendsPrefix a b other
part_as a m b text other first same part = subst (AppendsPrefix a b) same (subst (λ (o : Option (List ℕ)). AppendsPrefix o b text) first part)

abbrev out_of : Work → Option (List ℕ)
out_of w = w.out.told

-- ---- `load`

pub load_prints : (options : LoadOptions) (names : List (List ℕ)) (a b : Work) (result : Result Verdict Refusal) → Loads options names a b result → (b.out.told ≡ a.out.told) ⊎ PrintsOfLoad options names a b
load_prints options names a b result loads =
    then_printed out_of a b result (λ r m s i. (s.rest i).out.told) (λ found o opened.
    then_printed out_of o b result (λ r m s i. (s.same i).out.told) (λ _ t took.
    then_printed out_of t b result (λ r m s i. (s.rest i).out.told) (λ _ g begun.
    then_printed out_of g b result (λ r m s. out_stays names r g m s) (λ rows r read.
    then_printed out_of r b result (λ x m s i. (s.same i).out.told) (λ report e told.
    then_printed out_of e b result (λ x m s i. (s.rest i).out.told) (λ _ k kept.
    then_printed out_of k b result (λ x m s i. (s.rest i).out.told) (λ _ m refreshed printed.
    let all : LoadedSo options names a m rows report = loaded_so options names a o t g r e k m found rows report opened took begun read told kept refreshed in
    inr (record {
      sources = all.sources;
      are_sources = all.are_sources;
      are_bytes = all.are_bytes;
      events = all.events;
      recorded = all.recorded;
      printed = prefix_rows options.partial options.format all.number [] all.events report a.folder.told m.folder.told a.out.told b.out.told all.kept all.says
          (part_as a.out.told m.out.told b.out.told report.text report.text all.out refl (printed_part report.text report.verdict m b result printed));
    }))))))))
    loads

-- nothing was printed, unless a step refused that may have
pub load_silent : (options : LoadOptions) (names : List (List ℕ)) (a b : Work) (result : Result Verdict Refusal) → Loads options names a b result → (b.out.told ≡ a.out.told) ⊎ (may_have_printed false result ≡ true)
load_silent options names a b result loads =
    then_printed out_of a b result (λ r m s i. (s.rest i).out.told) (λ found o opened.
    then_printed out_of o b result (λ r m s i. (s.same i).out.told) (λ _ t took.
    then_printed out_of t b result (λ r m s i. (s.rest i).out.told) (λ _ g begun.
    then_printed out_of g b result (λ r m s. out_stays names r g m s) (λ rows r read.
    then_printed out_of r b result (λ x m s i. (s.same i).out.told) (λ report e told.
    then_printed out_of e b result (λ x m s i. (s.rest i).out.told) (λ _ k kept.
    then_printed out_of k b result (λ x m s i. (s.rest i).out.told) (λ _ m refreshed printed.
    inr (then_may false report.verdict m b result printed))))))))
    loads

-- ---- questions

-- the bytes are the front of what is told of the last run
record IsFront (bytes : List ℕ) (state : Option Folder) : Type 0 where
  text : List ℕ
  says : IfSome state (SaysOfFolder (Last true) text Passed)
  count : ℕ
  few : count ≤ length text
  front : bytes ≡ take count text

front_said : (kinds : List Bool) (bytes : List ℕ) (state : Option Folder) → 0 < length kinds → IfSome state (FitsFolder kinds) → IfSome state (BeginsAt (length kinds - 1) bytes) → IsFront bytes state
front_said kinds bytes None some fits begins = record { text = bytes; says = tt; count = length bytes; few = omega arith; front = sym (take-length bytes) }
front_said kinds bytes (Some s) some fits begins = at (run_at s.disk.published (length kinds - 1)) refl begins
  where
    at : (found : Option Run) → run_at s.disk.published (length kinds - 1) ≡ found → IsSomeAnd found (λ run. (rest : List ℕ) × (run.bytes ≡ bytes ++ rest)) → IsFront bytes (Some s)
    at None there has = absurd has
    at (Some run) there (rest, is) = record {
      text = run.bytes;
      says = bytes_said kinds run.bytes (Some s) some fits (subst (λ (o : Option Run). IsSomeAnd o (λ r. run.bytes ≡ r.bytes)) (sym there) refl);
      count = length bytes;
      few = omega (arith, ap length is, length-append bytes rest);
      front = sym (ap (take (length bytes)) is ∙ take-append_seam bytes rest);
    }

-- the same of what a question touches
record PrintsShown (question : Question) (before after : Shown) : Type 0 where
  text : List ℕ
  verdict : Verdict
  says : IfSome after.folder.told (SaysOfFolder question text verdict)
  printed : AppendsPrefix before.out.told after.out.told text

module _ (found : Found) where
  copied_part : (m n : Shown) (result : Result (Unit {0}) CopyFault) → 0 < length (kinds_of found) → IfSome m.folder.told (FitsFolder (kinds_of found)) → CopiesRun (length (kinds_of found) - 1) m n result → PrintsShown (Last true) m n
  copied_part m n result some fits copies =
      let front = front_said (kinds_of found) copies.bytes m.folder.told some fits copies.front in
      record {
        text = front.text;
        verdict = Passed;
        says = stays_some m.folder.told n.folder.told (SaysOfFolder (Last true) front.text Passed) front.says copies.counts.same;
        printed = (front.count, front.few, subst (Appends m.out.told n.out.told) front.front copies.taken);
      }

  copy_part : (m b : Shown) (result : Result Verdict Refusal) → 0 < length (kinds_of found) → IfSome m.folder.told (FitsFolder (kinds_of found)) → CopiesLast found m b result → PrintsShown (Last true) m b
  copy_part m b result some fits (stops fault is copies) = copied_part m b (Err fault) some fits copies
  copy_part m b result some fits (goes_on v n copies gives) = subst (PrintsShown (Last true) m) (sym gives.same) (copied_part m n (Ok v) some fits copies)

folder_left : (text : List ℕ) (v : Verdict) (m b : Shown) (result : Result Verdict Refusal) → Then Print (At shown_out (Prints text)) (λ _. Gives v) m b result → b.folder.told ≡ m.folder.told
folder_left text v m b result (stops fault is step) = λ i. (step.rest i).folder.told
folder_left text v m b result (goes_on _ n step gives) = (λ i. (gives.same i).folder.told) ∙ (λ i. (step.rest i).folder.told)

abbrev shown_out_of : Shown → Option (List ℕ)
shown_out_of w = w.out.told

answer_part : (question : Question) (m b : Shown) (result : Result Verdict Refusal) → PrintsAnswer question m b result → (b.out.told ≡ m.out.told) ⊎ PrintsShown question m b
answer_part question m b result prints =
    then_printed shown_out_of m b result (λ r n s i. (s.rest i).out.told) (λ told n found printed.
    let text : List ℕ = told.text.items in
    let says : IfSome n.folder.told (SaysOfFolder question text told.verdict) = stays_some m.folder.told n.folder.told (SaysOfFolder question text told.verdict) found.at.answers found.at.same in
    inr (record {
      text = text;
      verdict = told.verdict;
      says = subst (λ (o : Option Folder). IfSome o (SaysOfFolder question text told.verdict)) (sym (folder_left text told.verdict n b result printed)) says;
      printed = part_as m.out.told n.out.told b.out.told text text (λ i. (found.rest i).out.told) refl (shown_part text told.verdict n b result printed);
    }))
    prints

module _ (question : Question) (site : Seen Files) (spawner : Seen Spawning) (input : Seen (List ℕ)) (a b : Shown) (result : Result Verdict Refusal) where
  -- from the step on that tells, where nothing was printed before
  from_there : (t : Shown) → t.out.told ≡ a.out.told → PrintsShown question t b → PrintsOfAnswer question (of_shown site spawner input a) (of_shown site spawner input b)
  from_there t same part = record {
    text = part.text;
    verdict = part.verdict;
    says = part.says;
    printed = part_as a.out.told t.out.told b.out.told part.text part.text same refl part.printed;
  }

  from_had : (found : Found) (o t : Shown) → o.out.told ≡ a.out.told → IfSome o.folder.told (FitsFolder (kinds_of found)) → Still {E = RunsFault} (HasRunFor question (length (kinds_of found))) o t (Ok tt) → AnswersOf found question t b result → (b.out.told ≡ t.out.told) ⊎ PrintsOfAnswer question (of_shown site spawner input a) (of_shown site spawner input b)
  from_had found o t out fits had answers = by (either found t b result question answers)
    where
      here : t.out.told ≡ a.out.told
      here = (λ i. (had.same i).out.told) ∙ out

      fits_here : IfSome t.folder.told (FitsFolder (kinds_of found))
      fits_here = subst (λ (w : Shown). IfSome w.folder.told (FitsFolder (kinds_of found))) (sym had.same) fits

      part : (b.out.told ≡ t.out.told) ⊎ PrintsShown question t b → (b.out.told ≡ t.out.told) ⊎ PrintsOfAnswer question (of_shown site spawner input a) (of_shown site spawner input b)
      part (inl same) = inl same
      part (inr shows) = inr (from_there t here shows)

      by : ((question ≡ Last true) × CopiesLast found t b result) ⊎ PrintsAnswer question t b result → (b.out.told ≡ t.out.told) ⊎ PrintsOfAnswer question (of_shown site spawner input a) (of_shown site spawner input b)
      by (inl (is, copies)) = inr (from_there t here (subst (λ (q : Question). PrintsShown q t b) (sym is) (copy_part found t b result (had.says.some (subst OfLastRun (sym is) tt)) fits_here copies)))
      by (inr prints) = part (answer_part question t b result prints)

  pub ask_prints : Asks question a b result → (b.out.told ≡ a.out.told) ⊎ PrintsOfAnswer question (of_shown site spawner input a) (of_shown site spawner input b)
  ask_prints asks =
      then_printed shown_out_of a b result (λ r m s i. (s.rest i).out.told) (λ found o opened.
      then_printed shown_out_of o b result (λ r m s i. (s.same i).out.told) (λ _ t had answers.
      from_had found o t (λ i. (opened.rest i).out.told) (surveyed_fits (kinds_of found) a.folder.told o.folder.told opened.at.found) had answers))
      asks

-- nothing was printed, unless a step refused that may have
copy_may : (found : Found) (m b : Shown) (result : Result Verdict Refusal) → CopiesLast found m b result → may_have_printed true result ≡ true
copy_may found m b result (stops fault is copies) = ap (may_have_printed true) is ∙ by fault
  where
    by : (fault : CopyFault) → may_have_printed true (Err (copy_refusal fault)) ≡ true
    by (copy_fault.Read why) = refl
    by (copy_fault.Write why) = refl
copy_may found m b result (goes_on v n copies gives) = ap (may_have_printed true) gives.answer

pub ask_silent : (question : Question) (a b : Shown) (result : Result Verdict Refusal) → Asks question a b result → (b.out.told ≡ a.out.told) ⊎ (may_have_printed (is_copied (Some (ask question))) result ≡ true)
ask_silent question a b result asks =
    then_printed shown_out_of a b result (λ r m s i. (s.rest i).out.told) (λ found o opened.
    then_printed shown_out_of o b result (λ r m s i. (s.same i).out.told) (λ _ t had answers.
    by found t (either found t b result question answers)))
    asks
  where
    by : (found : Found) (t : Shown) → ((question ≡ Last true) × CopiesLast found t b result) ⊎ PrintsAnswer question t b result → (b.out.told ≡ t.out.told) ⊎ (may_have_printed (is_copied (Some (ask question))) result ≡ true)
    by found t (inl (is, copies)) = inr (subst (λ (q : Question). may_have_printed (is_copied (Some (ask q))) result ≡ true) (sym is) (copy_may found t b result copies))
    by found t (inr prints) =
        then_printed shown_out_of t b result (λ r n s i. (s.rest i).out.told) (λ told n found printed.
        inr (then_may (is_copied (Some (ask question))) told.verdict n b result printed))
        prints

-- ---- `list-tests`

children_left : (text : List ℕ) (v : Verdict) (m b : Work) (result : Result Verdict Refusal) → Then Print (At work_out (Prints text)) (λ _. Gives v) m b result → b.spawner.told ≡ m.spawner.told
children_left text v m b result (stops fault is step) = λ i. (step.rest i).spawner.told
children_left text v m b result (goes_on _ n step gives) = (λ i. (gives.same i).spawner.told) ∙ (λ i. (step.rest i).spawner.told)

pub list_prints : (options : ListOptions) (a b : Work) (result : Result Verdict Refusal) → ListsSuite options a b result → (b.out.told ≡ a.out.told) ⊎ PrintsOfListing options a b
list_prints options a b result lists =
    then_printed out_of a b result (λ r m s i. (s.rest i).out.told) (λ settings f conf.
    then_printed out_of f b result (λ r m s i. (s.same i).out.told) (λ _ p compiled.
    then_printed out_of p b result (λ r m s i. (s.rest i).out.told) (λ further q read.
    then_printed out_of q b result (λ r m s i. (s.rest i).out.told) (λ ids l listed.
    then_printed out_of l b result (λ r m s i. (s.same i).out.told) (λ text t made printed.
    let begun : q.spawner.told ≡ a.spawner.told = (λ i. (read.rest i).spawner.told) ∙ (λ i. (compiled.same i).spawner.told) ∙ (λ i. (conf.rest i).spawner.told) in
    let ended : l.spawner.told ≡ b.spawner.told = sym (children_left text Passed t b result printed ∙ (λ i. (made.same i).spawner.told)) in
    let out : t.out.told ≡ a.out.told = (λ i. (made.same i).out.told) ∙ (λ i. (listed.rest i).out.told) ∙ (λ i. (read.rest i).out.told) ∙ (λ i. (compiled.same i).out.told) ∙ (λ i. (conf.rest i).out.told) in
    inr (record {
      settings = settings;
      conf = conf.at.conf;
      further = further;
      lists = gives_further options.wanted p.site q.site a.site.told further ((λ i. (compiled.same i).site.told) ∙ conf.at.same) read.at;
      ids = ids;
      listed = goes_ends (ListsSo settings ids) begun ended listed.at.listed;
      printed = part_as a.out.told t.out.told b.out.told text _ out made.says.lines (printed_part text Passed t b result printed);
    }))))))
    lists

pub list_silent : (options : ListOptions) (a b : Work) (result : Result Verdict Refusal) → ListsSuite options a b result → (b.out.told ≡ a.out.told) ⊎ (may_have_printed false result ≡ true)
list_silent options a b result lists =
    then_printed out_of a b result (λ r m s i. (s.rest i).out.told) (λ settings f conf.
    then_printed out_of f b result (λ r m s i. (s.same i).out.told) (λ _ p compiled.
    then_printed out_of p b result (λ r m s i. (s.rest i).out.told) (λ further q read.
    then_printed out_of q b result (λ r m s i. (s.rest i).out.told) (λ ids l listed.
    then_printed out_of l b result (λ r m s i. (s.same i).out.told) (λ text t made printed.
    inr (then_may false Passed t b result printed))))))
    lists

-- ---- `selftest` and `upgrade`

pub selftest_prints : (drawing : SelfTestWords) (a b : Work) (result : Result Verdict Refusal) → TestsItself drawing a b result → (b.out.told ≡ a.out.told) ⊎ AppendsPrefix a.out.told b.out.told (summary_text (rows_in_turn drawing) 0 [])
selftest_prints drawing a b result tests =
    then_printed out_of a b result (λ r m s i. (s.same i).out.told) (λ told m still printed.
    inr (part_as a.out.told m.out.told b.out.told told.text.items _ (λ i. (still.same i).out.told) still.says.told.text (printed_part told.text.items told.verdict m b result printed)))
    tests

pub selftest_silent : (drawing : SelfTestWords) (a b : Work) (result : Result Verdict Refusal) → TestsItself drawing a b result → (b.out.told ≡ a.out.told) ⊎ (may_have_printed false result ≡ true)
selftest_silent drawing a b result tests =
    then_printed out_of a b result (λ r m s i. (s.same i).out.told) (λ told m still printed.
    inr (then_may false told.verdict m b result printed))
    tests

pub upgrade_silent : (a b : Shown) (result : Result Verdict Refusal) → UpgradesAll a b result → (b.out.told ≡ a.out.told) ⊎ (may_have_printed false result ≡ true)
upgrade_silent a b result upgrades =
    then_printed shown_out_of a b result (λ r m s i. (s.rest i).out.told) (λ count m upgraded printed.
    inr (then_may false Passed m b result printed))
    upgrades
