-- What is told of a store, and why nothing is.
use Rattle.std.proofs.Common.{◌≡◌, ℕ, ◌<◌, ◌-◌, true, false, Bool, Option, None, Some, IfSome, IsSomeAnd, List, [], ◌++◌, length, Result, Ok, Err, IfOk, refl, sym, ap, subst, ◌∙◌, arith}
use Rattle.std.specs.FinMap.{FinMap}
use Rattle.edge_io.specs.Disk.{Folder}
use Rattle.edge_io.specs.Steps.{Goes, Stays}
use Rattle.outcome_fold.specs.Order.{text_cmp}
use Rattle.run_shelf.specs.declared.faults.ShelfCall.{ShelfCall}
use Rattle.run_shelf.specs.declared.faults.StoreFault.TheVariants as store_fault
use Rattle.edge_io.specs.Causes.{RisesExactlyIf}
use Rattle.run_shelf.specs.Holds.{FitsFolder}
use Rattle.run_shelf.specs.Stores.{FitsUnlessBroken}
use Rattle.run_ledger.specs.declared.fault.LedgerFault.{LedgerFault}
use Rattle.run_ledger.specs.declared.fault.LedgerFault.TheVariants as ledger_fault
use Rattle.run_ledger.specs.Outcomes.{LedgerCloses, ledger_failed}
use Rattle.run_shelf.specs.Repository.{Run, run_at}
use Rattle.outcome_fold.specs.declared.row.Row.{Row}
use Rattle.run_ledger.specs.Reading.{AreRowsOf}
use Rattle.run_ledger.specs.Cached.{SaysItsFailing, SaysItsTimes}
use Rattle.run_ledger.specs.Ledger.{HasRowsAt, IsFailingSet}
use Rattle.skip_reasons.specs.Skips.{TellsSkips}
use Rattle.last_failures.specs.Last.{AreLastFailures}
use Rattle.last_failures.specs.Texts.{failures_text as last_failures_text_of, packets_text}
use Rattle.last_failures.specs.declared.failures.Failure.{Failure}
use Rattle.sub_text.specs.Texts.{report_of, failing_text_of}
use Rattle.command_steps.specs.Verdicts.{verdict_of}
use Rattle.command_steps.specs.declared.answer.Verdict.TheVariants as verdict
use Rattle.command_steps.specs.Says.{Says, SaysReport, SaysSkips, SaysNotes, IsNotedReport, SaysFailing, SaysLastFailures, SaysFailurePackets, SoundFor, verdict_of_failing}
use Rattle.testr_words.specs.Questions.{OfBytes}
use Rattle.command_steps.specs.Runs.{HasRuns}
use Rattle.command_steps.specs.Trusted.{SoundFailing, SoundTimes}
use Rattle.command_steps.specs.Told.{TellsSo, IsAnswer, fault_fails, fault_of_ledger}
use Rattle.testr_words.specs.declared.command.Question.{Question}
use Rattle.testr_words.specs.declared.command.Question.TheVariants.{Last}
use Rattle.command_steps.specs.declared.question_answers.Told.{Told}
use Rattle.command_steps.specs.declared.question_answers.TellFault.{TellFault}

-- and so does a call that reads its runs
pub ledger_fails : {T : Type 0} (n m : ℕ) (before after : Option ShelfCall) (result : Result T LedgerFault) (fault : LedgerFault) (told : TellFault) → result ≡ Err fault → told ≡ fault_of_ledger fault → before ≡ None → LedgerCloses before after result → RisesExactlyIf n m (ledger_failed result) → RisesExactlyIf n m (fault_fails told)
ledger_fails n m before after result fault told is told_is unbroken closes counts =
    subst (λ t. RisesExactlyIf n m (fault_fails t)) (sym told_is) (by fault is)
  where
    by : (fault : LedgerFault) → result ≡ Err fault → RisesExactlyIf n m (fault_fails (fault_of_ledger fault))
    by (ledger_fault.Store (store_fault.Shelf call)) is = subst (λ r. RisesExactlyIf n m (ledger_failed r)) is counts
    by (ledger_fault.Store (store_fault.Closed call)) is =
        let closed : before ≡ Some call = (closes.closed call).0 is in
        cc
    by ledger_fault.NoMemory is = subst (λ r. RisesExactlyIf n m (ledger_failed r)) is counts

-- what was read fits still, where no call failed
pub fits_done : {T : Type 0} (kinds given : List Bool) (before after : Option ShelfCall) (result : Result T LedgerFault) (value : T) (state : Option Folder) → result ≡ Ok value → before ≡ None → LedgerCloses before after result → given ≡ kinds → FitsUnlessBroken given after state → IfSome state (FitsFolder kinds)
fits_done kinds given before after (Ok v) value state is unbroken closes same fits = subst (λ (k : List Bool). IfSome state (FitsFolder k)) same (fits (closes.kept ∙ unbroken))
fits_done kinds given before after (Err fault) value state is unbroken closes same fits = cc

pub rises_behind : (n k m : ℕ) (failed : Bool) → k ≡ n → RisesExactlyIf k m failed → RisesExactlyIf n m failed
rises_behind n k m failed stands counts = subst (λ (l : ℕ). RisesExactlyIf l m failed) stands counts

if_ok_then : {A E : Type 0} (P Q : A → Type 0) (r : Result A E) → IfOk r P → ((a : A) → P a → Q a) → IfOk r Q
if_ok_then P Q (Ok a) holds each = each a holds
if_ok_then P Q (Err e) holds each = tt

-- what is told of a folder, if it is so, is told of a folder that is so
pub where_so : {T E : Type 0} (Is So : Folder → Type 0) (P : T → Folder → Type 0) (kinds : List Bool) → ((s : Folder) → FitsFolder kinds s → Is s → So s) → (state : Option Folder) (r : Result T E) → IfSome state (FitsFolder kinds) → (IfSome state So → IfOk r (λ told. IfSome state (P told))) → IfOk r (λ told. IfSome state (λ s. Is s → P told s))
where_so Is So P kinds each None (Ok told) fits says = tt
where_so Is So P kinds each (Some s) (Ok told) fits says = λ is. says (each s fits is)
where_so Is So P kinds each state (Err fault) fits says = tt

-- a folder that fits these runs has so many
runs_of : (kinds : List Bool) (s : Folder) → FitsFolder kinds s → HasRuns (length kinds) s
runs_of kinds s fits = record { repository = fits.repository; kinds = kinds; kinds_are = fits.kinds_are; count = refl }

module _ {T E : Type 0} (kinds : List Bool) (state : Option Folder) (r : Result T E) (fits : IfSome state (FitsFolder kinds)) (P : T → Folder → Type 0) where
  -- what is told where the cache of so many runs says its failing set, and where it says its times
  pub failing_where : (IfSome state (SaysItsFailing (length kinds)) → IfOk r (λ told. IfSome state (P told))) → IfOk r (λ told. IfSome state (λ s. SoundFailing s → P told s))
  failing_where says = where_so SoundFailing (SaysItsFailing (length kinds)) P kinds (λ s has sound. sound (length kinds) (runs_of kinds s has)) state r fits says

  pub times_where : (IfSome state (SaysItsTimes (length kinds)) → IfOk r (λ told. IfSome state (P told))) → IfOk r (λ told. IfSome state (λ s. SoundTimes s → P told s))
  times_where says = where_so SoundTimes (SaysItsTimes (length kinds)) P kinds (λ s has sound. sound (length kinds) (runs_of kinds s has)) state r fits says

abbrev TellsWhereSound : Question → Told → Folder → Type 0
TellsWhereSound question told s = SoundFor question s → TellsSo (Says question) told s

some_both : (kinds : List Bool) (question : Question) (told : Told) (state : Option Folder) → IfSome state (FitsFolder kinds) → IfSome state (TellsWhereSound question told) → IfSome state (IsAnswer question told)
some_both kinds question told None fits says = tt
some_both kinds question told (Some s) fits says = record { repository = fits.repository; says = says }

-- what is told of a repository, where it is sound for the question, is the answer of the question
pub answers_where : {E : Type 0} (question asked : Question) (kinds : List Bool) (state : Option Folder) (r : Result Told E) → asked ≡ question → IfSome state (FitsFolder kinds) → IfOk r (λ told. IfSome state (TellsWhereSound question told)) → IfOk r (λ told. IfSome state (IsAnswer asked told))
answers_where question asked kinds state r is fits says =
    subst (λ (q : Question). IfOk r (λ told. IfSome state (IsAnswer q told))) (sym is)
    (if_ok_then (λ told. IfSome state (TellsWhereSound question told)) (λ told. IfSome state (IsAnswer question told)) r says (λ told. some_both kinds question told state fits))

some_anyway : (question : Question) (told : Told) (state : Option Folder) → IfSome state (TellsSo (Says question) told) → IfSome state (TellsWhereSound question told)
some_anyway question told None says = tt
some_anyway question told (Some s) says = λ sound. says

-- and so is what is told of each
pub answers_so : {E : Type 0} (question asked : Question) (kinds : List Bool) (state : Option Folder) (r : Result Told E) → asked ≡ question → IfSome state (FitsFolder kinds) → IfOk r (λ told. IfSome state (TellsSo (Says question) told)) → IfOk r (λ told. IfSome state (IsAnswer asked told))
answers_so question asked kinds state r is fits says =
    answers_where question asked kinds state r is fits (if_ok_then (λ told. IfSome state (TellsSo (Says question) told)) (λ told. IfSome state (TellsWhereSound question told)) r says (λ told. some_anyway question told state))

-- the failing set, where its cache is sound
pub failing_said : (list : Bool) (ids : List (List ℕ)) (told : Told) (state : Option Folder) → IfSome state (λ s. SoundFailing s → IsFailingSet ids s) → told.text.items ≡ failing_text_of ids list → told.verdict ≡ verdict_of_failing ids → IfSome state (λ s. SoundFailing s → TellsSo (SaysFailing list) told s)
failing_said list ids told None set text verdict = tt
failing_said list ids told (Some s) set text verdict = λ sound. record { ids = ids; set = set sound; text_is = text; verdict_is = verdict }

-- how each test of the failing set failed last, where its cache is sound
pub last_failures_said : (ids : List (List ℕ)) (found : FinMap text_cmp Failure) (told : Told) (first before : Option Folder) → IfSome first (λ s. SoundFailing s → IsFailingSet ids s) → Goes first before Stays → IfSome before (AreLastFailures false ids found) → told.text.items ≡ last_failures_text_of ids found → told.verdict ≡ verdict_of_failing ids → IfSome first (λ s. SoundFailing s → TellsSo SaysLastFailures told s)
last_failures_said ids found told None before set same are text verdict = tt
last_failures_said ids found told (Some s) None set same are text verdict = absurd same
last_failures_said ids found told (Some s) (Some t) set same are text verdict = λ sound. record {
  ids = ids;
  set = set sound;
  found = found;
  found_are = subst (AreLastFailures false ids found) same are;
  text_is = text;
  verdict_is = verdict;
}

-- the packets of how each test of the failing set failed last, where its cache is sound
pub failure_packets_said : (ids : List (List ℕ)) (found : FinMap text_cmp Failure) (told : Told) (first before : Option Folder) → IfSome first (λ s. SoundFailing s → IsFailingSet ids s) → Goes first before Stays → IfSome before (AreLastFailures true ids found) → told.text.items ≡ packets_text ids found → told.verdict ≡ verdict.Passed → IfSome first (λ s. SoundFailing s → TellsSo SaysFailurePackets told s)
failure_packets_said ids found told None before set same are text verdict_is = tt
failure_packets_said ids found told (Some s) None set same are text verdict_is = absurd same
failure_packets_said ids found told (Some s) (Some t) set same are text verdict_is = λ sound. record {
  ids = ids;
  set = set sound;
  found = found;
  found_are = subst (AreLastFailures true ids found) same are;
  text_is = text;
  verdict_is = verdict_is;
}

-- where the last run's bytes are not asked for, its report is
pub is_report : (question : Question) (subunit : Bool) → question ≡ Last subunit → (OfBytes question → ⊥) → question ≡ Last false
is_report question true is not = absurd (not (subst OfBytes (sym is) tt))
is_report question false is not = is

-- the report of the rows of the last run
pub report_said : (kinds : List Bool) (given : ℕ) (rows : List Row) (told : Told) (state : Option Folder) → 0 < length kinds → given ≡ length kinds - 1 → IfSome state (FitsFolder kinds) → IfSome state (HasRowsAt (length kinds - 1) rows) → told.text.items ≡ report_of rows given [] → told.verdict ≡ verdict_of rows → IfSome state (TellsSo SaysReport told)
report_said kinds given rows told None some is fits has text verdict = tt
report_said kinds given rows told (Some s) some is fits has text verdict = at (run_at s.disk.published (length kinds - 1)) refl has
  where
    at : (found : Option Run) → run_at s.disk.published (length kinds - 1) ≡ found → IsSomeAnd found (λ run. AreRowsOf run.bytes rows) → SaysReport s told.text.items told.verdict
    at None there has = absurd has
    at (Some run) there has = record {
      number = length kinds - 1;
      run = run;
      rows = rows;
      last = record { count = record { repository = fits.repository; kinds = kinds; kinds_are = fits.kinds_are; count = omega (arith, some) }; there = there };
      rows_are = has;
      text_is = text ∙ ap (λ n. report_of rows n []) is;
      verdict_is = verdict;
    }

-- the report of the rows of the last run, and why tests were skipped
pub skips_said : (kinds : List Bool) (given : ℕ) (rows : List Row) (skips : List ℕ) (told : Told) (state : Option Folder) → 0 < length kinds → given ≡ length kinds - 1 → IfSome state (FitsFolder kinds) → IfSome state (HasRowsAt (length kinds - 1) rows) → TellsSkips rows skips → told.text.items ≡ report_of rows given [] ++ skips → told.verdict ≡ verdict_of rows → IfSome state (TellsSo SaysSkips told)
skips_said kinds given rows skips told None some is fits has tells text verdict = tt
skips_said kinds given rows skips told (Some s) some is fits has tells text verdict = at (run_at s.disk.published (length kinds - 1)) refl has
  where
    at : (found : Option Run) → run_at s.disk.published (length kinds - 1) ≡ found → IsSomeAnd found (λ run. AreRowsOf run.bytes rows) → SaysSkips s told.text.items told.verdict
    at None there has = absurd has
    at (Some run) there has = record {
      number = length kinds - 1;
      run = run;
      rows = rows;
      last = record { count = record { repository = fits.repository; kinds = kinds; kinds_are = fits.kinds_are; count = omega (arith, some) }; there = there };
      rows_are = has;
      skips = skips;
      tells = tells;
      text_is = text ∙ ap (λ n. report_of rows n [] ++ skips) is;
      verdict_is = verdict;
    }

-- the report of the rows of the last run, and what stands behind it with their notes
pub notes_said : (skips : Bool) (kinds : List Bool) (given : ℕ) (rows : List Row) (told : Told) (state : Option Folder) → 0 < length kinds → given ≡ length kinds - 1 → IfSome state (FitsFolder kinds) → IfSome state (HasRowsAt (length kinds - 1) rows) → IsNotedReport skips rows given told.text.items → told.verdict ≡ verdict_of rows → IfSome state (TellsSo (SaysNotes skips) told)
notes_said skips kinds given rows told None some is fits has noted verdict = tt
notes_said skips kinds given rows told (Some s) some is fits has noted verdict = at (run_at s.disk.published (length kinds - 1)) refl has
  where
    at : (found : Option Run) → run_at s.disk.published (length kinds - 1) ≡ found → IsSomeAnd found (λ run. AreRowsOf run.bytes rows) → SaysNotes skips s told.text.items told.verdict
    at None there has = absurd has
    at (Some run) there has = record {
      number = length kinds - 1;
      run = run;
      rows = rows;
      last = record { count = record { repository = fits.repository; kinds = kinds; kinds_are = fits.kinds_are; count = omega (arith, some) }; there = there };
      rows_are = has;
      noted = subst (λ n. IsNotedReport skips rows n told.text.items) is noted;
      verdict_is = verdict;
    }
