-- The steps that make the report of a run and print a text, and what they say where they refuse.
use Rattle.std.specs.Prelude.{◌≡◌, ◌++◌, ℕ, List, [], codes, Result, Ok, Err, IfOk, OnOk}
use Rattle.std.specs.List.{flat_map}
use Rattle.std.specs.Io.KnownBytes.{Appends}
use Rattle.edge_io.specs.Bytes.{AppendsPrefix}
use Rattle.edge_io.specs.Causes.{HasCause}
use Rattle.edge_io.specs.Seen.{Seen}
use Rattle.outcome_fold.specs.declared.row.Row.{Row}
use Rattle.sub_number.specs.declared.memory.NoMemory.{NoMemory}
use Rattle.sub_text.specs.Texts.{failure_of, report_of}
use Rattle.build_notes.specs.Notes.{failure_notes}
use Rattle.testr_words.specs.declared.format.FormatKind.{FormatKind}
use Rattle.testr_words.specs.declared.format.FormatKind.TheVariants.{Plain, Github}
use Rattle.command_steps.specs.Verdicts.{verdict_of}
use Rattle.command_steps.specs.declared.answer.Verdict.{Verdict}
use Rattle.command_steps.specs.declared.run_report.Ending.{Ending}
use Rattle.command_steps.specs.declared.run_report.PrintFault.{PrintFault}

-- a report as it is printed, and its verdict
pub record Report : Type 0 where
  pub text : List ℕ
  pub verdict : Verdict

-- what stands behind the report of these rows: notes of those that fail, where a build server reads it
abbrev pub notes_for : FormatKind → List Row → List ℕ
notes_for Plain rows = []
notes_for Github rows = failure_notes rows

-- the report of the run of these rows and this number, for this reader; tests that do not fail and have one of these tags are not
-- counted
abbrev pub report_for : FormatKind → List Row → (number : ℕ) → (filter_tags : List (List ℕ)) → List ℕ
report_for format rows number filter_tags = report_of rows number filter_tags ++ notes_for format rows

-- the report is that of a run of these rows and this number, for this reader, and its verdict is that of the rows
pub record IsReport (format : FormatKind) (number : ℕ) (filter_tags : List (List ℕ)) (rows : List Row) (report : Report) : Type 0 where
  pub text : report.text ≡ report_for format rows number filter_tags
  pub verdict : report.verdict ≡ verdict_of rows

-- the report of these rows is told, under the number of the run
pub record Reports (format : FormatKind) (number : ℕ) (filter_tags : List (List ℕ)) (rows : List Row) (result : Result Report NoMemory) : Type 0 where
  pub told : IfOk result (IsReport format number filter_tags rows)

-- the report of which this is the end: before it the texts of these rows
abbrev pub report_shown : List Row → Ending → Report
report_shown failing ending = record { text = flat_map failure_of failing ++ ending.lines.items; verdict = ending.verdict }

-- the answer, with the report in place of its end
abbrev pub shown_with : {E : Type 0} → List Row → Result Ending E → Result Report E
shown_with failing (Ok ending) = Ok (report_shown failing ending)
shown_with failing (Err fault) = Err fault

-- the line where memory is wanting for the report
abbrev pub memory_text : List ℕ
memory_text = codes "testr: out of memory\n"

-- the sink took some of the first bytes of the text, and all of it where no write failed
pub record Prints (text : List ℕ) (before after : Seen (List ℕ)) (result : Result (Unit {0}) PrintFault) : Type 0 where
  pub whole : OnOk result (Appends before.told after.told text)
  pub prefix : AppendsPrefix before.told after.told text
  pub count : HasCause before.faults after.faults result

-- the line where the output is not written
abbrev pub print_text : List ℕ
print_text = codes "testr: fault writing output\n"
