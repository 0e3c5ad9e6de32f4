-- The document of some rows (docs/FORMATS.md, "JUnit XML").
use Rattle.std.specs.Prelude.{ℕ, ◌+◌, ◌==◌, ◌||◌, Bool, Option, List, [], ◌∷◌, ◌++◌, take, drop, length, codes, if◌then◌else◌}
use Rattle.std.specs.List.{flat_map, before_first, before_last}
use Rattle.std.specs.Fmt.{decimal}
use Rattle.outcome_fold.specs.declared.row.Ended.{Ended}
use Rattle.outcome_fold.specs.declared.row.Ended.TheVariants as ended
use Rattle.outcome_fold.specs.declared.row.Row.{Row}
use Rattle.outcome_fold.specs.declared.row.Counts.{Counts}
use Rattle.outcome_fold.specs.Answers.{is_run, counts_of}
use Rattle.junit_xml.specs.declared.characters.Place.TheVariants.{Text, Value}
use Rattle.junit_xml.specs.Characters.{written}
use Rattle.junit_xml.specs.Seconds.{seconds_text}

-- The two names of a test.

-- the sign that parts the names
abbrev pub is_point : ℕ → Bool
is_point byte = byte == 46

-- a sign with which parameters begin: `(` or `[`
abbrev pub is_opening : ℕ → Bool
is_opening byte = byte == 40 || byte == 91

-- what stands before any opening sign
abbrev pub front_of : List ℕ → List ℕ
front_of id = before_first is_opening id

-- how many bytes stand in front of the last point of these; none where there is no such point
abbrev pub class_size : List ℕ → ℕ
class_size id = length (before_last is_point (front_of id))

-- the class: what stands in front of that point
abbrev pub class_of : List ℕ → List ℕ
class_of id = take (class_size id) id

-- The name: what stands behind it. Where the class is empty it is the whole id, with a point that the id begins with.
abbrev pub case_name : List ℕ → List ℕ
case_name id = if class_size id == 0 then id else drop (class_size id + 1) id

-- Tags.

-- an attribute: its name and its value, as they are written
abbrev pub attribute : List ℕ → List ℕ → List ℕ
attribute name value = codes " " ++ name ++ codes "=\"" ++ value ++ codes "\""

-- a tag: what stands in it, between `<` and `>`
abbrev pub tag : List ℕ → List ℕ
tag inside = codes "<" ++ inside ++ codes ">"

-- a tag that ends its line
abbrev pub tag_line : List ℕ → List ℕ
tag_line inside = tag inside ++ codes "\n"

-- Cases.

-- the tag that begins the case of a row
abbrev pub case_begin : Row → List ℕ
case_begin row = tag_line (codes "testcase"
    ++ attribute (codes "classname") (written Value (class_of row.id))
    ++ attribute (codes "name") (written Value (case_name row.id))
    ++ attribute (codes "time") (seconds_text row.nanos))

-- a failure of this kind, with its text
abbrev pub failure : List ℕ → List ℕ → List ℕ
failure kind text = tag (codes "failure" ++ attribute (codes "type") kind) ++ written Text text ++ tag_line (codes "/failure")

-- what says that a test was skipped, and why
abbrev pub skipped : List ℕ → List ℕ
skipped reason = tag_line (codes "skipped" ++ attribute (codes "message") (written Value reason) ++ codes "/")

-- What is told within a case of a test that ended so. A test that was expected to fail, and did, is told as one that passed.
abbrev pub inside_of : Ended → (text reason : List ℕ) → List ℕ
inside_of ended.Exists text reason = []
inside_of ended.Success text reason = []
inside_of ended.UxSuccess text reason = failure (codes "uxsuccess") text
inside_of ended.Skip text reason = skipped reason
inside_of ended.Fail text reason = failure (codes "fail") text
inside_of ended.XFail text reason = []
inside_of ended.Open text reason = failure (codes "unfinished") text

-- the case of a row that is not `Exists`
abbrev pub case_text : Row → List ℕ
case_text row = case_begin row ++ inside_of row.ended row.text row.reason ++ tag_line (codes "/testcase")

-- the case of a row, if it has one
abbrev pub case_of : Row → List ℕ
case_of row = if is_run row then case_text row else []

-- The whole.

-- the line that says what the document is
abbrev pub declaration : List ℕ
declaration = tag_line (codes "?xml" ++ attribute (codes "version") (codes "1.0") ++ attribute (codes "encoding") (codes "utf-8") ++ codes "?")

-- the tag that begins the suite of which these are the counts
abbrev pub suite_begin : Counts → List ℕ
suite_begin counts = tag_line (codes "testsuite"
    ++ attribute (codes "name") []
    ++ attribute (codes "tests") (decimal counts.total)
    ++ attribute (codes "failures") (decimal counts.failed)
    ++ attribute (codes "errors") (codes "0")
    ++ attribute (codes "skipped") (decimal counts.skipped)
    ++ attribute (codes "time") (seconds_text counts.nanos))

-- what stands in front of the cases
abbrev pub head_of : Counts → List ℕ
head_of counts = declaration ++ suite_begin counts

-- what stands behind them
abbrev pub tail_text : List ℕ
tail_text = tag_line (codes "/testsuite")

-- the document of some rows: one suite with their counts, and the cases in the order of the rows
abbrev pub junit_of : List Row → List ℕ
junit_of rows = head_of (counts_of [] rows) ++ flat_map case_of rows ++ tail_text
