-- What the document of some rows tells, and of what characters it is (docs/FORMATS.md, "JUnit XML").
use Rattle.std.specs.Prelude.{◌≡◌, ℕ, IsTrue, List, [], map}
use Rattle.std.specs.List.{filter, list_all}
use Rattle.std.specs.Str.{encode_utf8_all}
use Rattle.outcome_fold.specs.declared.row.Ended.{Ended}
use Rattle.outcome_fold.specs.declared.row.Ended.TheVariants as ended
use Rattle.outcome_fold.specs.declared.row.Row.{Row}
use Rattle.outcome_fold.specs.declared.row.Counts.{Counts}
use Rattle.outcome_fold.specs.Answers.{is_run, counts_of}
use Rattle.junit_xml.specs.Characters.{is_xml_char, shown_utf8}
use Rattle.junit_xml.specs.Seconds.{seconds_text}
use Rattle.junit_xml.specs.Reading.{CaseVerdict, passed, skipped, failed, Heading, Case, Document}

-- What is told of how a test ended. Of one that passed no text is told, nor of one that was expected to fail and did.
abbrev pub case_verdict : Ended → (text reason : List ℕ) → CaseVerdict
case_verdict ended.Exists text reason = passed
case_verdict ended.Success text reason = passed
case_verdict ended.UxSuccess text reason = failed ended.UxSuccess (shown_utf8 text)
case_verdict ended.Skip text reason = skipped (shown_utf8 reason)
case_verdict ended.Fail text reason = failed ended.Fail (shown_utf8 text)
case_verdict ended.XFail text reason = passed
case_verdict ended.Open text reason = failed ended.Open (shown_utf8 text)

-- what the case of a row tells, its id and its texts in characters that XML 1.0 allows
abbrev pub told_case : Row → Case
told_case row = record { id = shown_utf8 row.id; seconds = seconds_text row.nanos; verdict = case_verdict row.ended row.text row.reason }

-- what the suite of a document tells of its counts
abbrev pub told_counts : Counts → Heading
told_counts counts = record { tests = counts.total; failures = counts.failed; skipped = counts.skipped; seconds = seconds_text counts.nanos }

-- what is told of rows: their counts, and each row that is not `Exists`, in their order
abbrev pub told_document : List Row → Document
told_document rows = record { heading = told_counts (counts_of [] rows); cases = map told_case (filter is_run rows) }

-- UTF-8 of characters that XML 1.0 allows
abbrev pub IsXmlText : List ℕ → Type 0
IsXmlText bytes = (chars : List ℕ) × (encode_utf8_all chars ≡ bytes) × IsTrue (list_all is_xml_char chars)
