-- The definitions at the worked rows.
use Rattle.std.proofs.Common.{◌≡◌, ℕ, None, Some, List, [], ◌∷◌, ◌++◌, encode_utf8_all, refl}
use Rattle.std.specs.Prelude.{codes, Option}
use Rattle.std.specs.Fmt.{digits}
use Rattle.bstr.specs.Utf8.{pieces_from}
use Rattle.outcome_fold.specs.declared.row.Ended.{Ended}
use Rattle.outcome_fold.specs.declared.row.Ended.TheVariants as ended
use Rattle.outcome_fold.specs.declared.row.Row.{Row}
use Rattle.junit_xml.specs.declared.characters.Place.TheVariants.{Text, Value}
use Rattle.junit_xml.specs.Characters.{written, shown_utf8}
use Rattle.junit_xml.specs.Documents.{class_of, case_name, case_of, skipped, failure, junit_of}
use Rattle.junit_xml.specs.Reading as reading
use Rattle.junit_xml.specs.Told.{told_document}
use lib.Utf8.{encode}

-- Names.

no_point : class_of (codes "setUpClass (pkg.mod.Test)") ≡ []
no_point = refl

no_point_name : case_name (codes "setUpClass (pkg.mod.Test)") ≡ codes "setUpClass (pkg.mod.Test)"
no_point_name = refl

points : class_of (codes "pkg.mod.Test.test_a(x.y)[1.5]") ≡ codes "pkg.mod.Test"
points = refl

points_name : case_name (codes "pkg.mod.Test.test_a(x.y)[1.5]") ≡ codes "test_a(x.y)[1.5]"
points_name = refl

bracket : class_of (codes "a.b[c.d](e.f)") ≡ codes "a"
bracket = refl

point_first : case_name (codes ".foo") ≡ codes ".foo"
point_first = refl

point_last : case_name (codes "foo.") ≡ []
point_last = refl

-- Characters.

value : written Value (codes "a<b>&\"c\"\t\n\r") ≡ codes "a&lt;b&gt;&amp;&quot;c&quot;&#9;&#10;&#13;"
unfolding pieces_from encode
value = refl

text : written Text (codes "a<b>&\"c\"\t\n\r]]>") ≡ codes "a&lt;b&gt;&amp;&quot;c&quot;\t\n\r]]&gt;"
unfolding pieces_from encode
text = refl

-- a NUL, an escape, a byte that begins nothing, a front of a character of three bytes, a lone surrogate, U+FFFE
no_xml : written Value (0 ∷ 27 ∷ 0xFF ∷ 0xE2 ∷ 0x82 ∷ 65 ∷ 0xED ∷ 0xA0 ∷ 0x80 ∷ 0xEF ∷ 0xBF ∷ 0xBE ∷ [])
    ≡ encode_utf8_all (codes "����A����")
unfolding pieces_from encode
no_xml = refl

kept : shown_utf8 (encode_utf8_all (codes "hé € 😀")) ≡ encode_utf8_all (codes "hé € 😀")
unfolding pieces_from encode
kept = refl

-- Rows.

abbrev row : List ℕ → Ended → Option ℕ → List ℕ → Row
row id how nanos bytes = record { id = id; route = None; ended = how; tags = []; nanos = nanos; text = bytes; reason = [] }

abbrev skip : List ℕ → Option ℕ → List ℕ → Row
skip id nanos reason = record { id = id; route = None; ended = ended.Skip; tags = []; nanos = nanos; text = []; reason = reason }

passed_row : case_of (row (codes "pkg.Test.test_a(1.5)") ended.Success (Some 1500499999) []) ≡ codes "<testcase classname=\"pkg.Test\" name=\"test_a(1.5)\" time=\"1.500\">\n</testcase>\n"
unfolding pieces_from encode digits
passed_row = refl

existing_row : case_of (row (codes "a") ended.Exists (Some 1) []) ≡ []
existing_row = refl

failed_row : case_of (row (codes "a<b") ended.Fail None (codes "1 < 2\n")) ≡ codes "<testcase classname=\"\" name=\"a&lt;b\" time=\"0.000\">\n<failure type=\"fail\">1 &lt; 2\n</failure>\n</testcase>\n"
unfolding pieces_from encode digits
failed_row = refl

skipped_row : case_of (skip (codes "b.s") None []) ≡ codes "<testcase classname=\"b\" name=\"s\" time=\"0.000\">\n<skipped message=\"\"/>\n</testcase>\n"
unfolding pieces_from encode digits
skipped_row = refl

reasoned : skipped (codes "no \"net\"\n") ≡ codes "<skipped message=\"no &quot;net&quot;&#10;\"/>\n"
unfolding pieces_from encode
reasoned = refl

unfinished : failure (codes "unfinished") [] ≡ codes "<failure type=\"unfinished\"></failure>\n"
unfolding pieces_from
unfinished = refl

-- Documents.

abbrev none_text : List ℕ
none_text = codes "<?xml version=\"1.0\" encoding=\"utf-8\"?>\n<testsuite name=\"\" tests=\"0\" failures=\"0\" errors=\"0\" skipped=\"0\" time=\"0.000\">\n</testsuite>\n"

no_rows : junit_of [] ≡ none_text
unfolding digits
no_rows = refl

abbrev some_rows : List Row
some_rows =
    row (codes "pkg.Test.test_a(1.5)") ended.Success (Some 1500499999) []
    ∷ row (codes "listed") ended.Exists None []
    ∷ row (codes "a<b") ended.UxSuccess None (codes "1 < 2\n")
    ∷ skip (codes "b.s") (Some 500000) (codes "no \"net\"")
    ∷ []

some_text : junit_of some_rows ≡ codes "<?xml version=\"1.0\" encoding=\"utf-8\"?>\n<testsuite name=\"\" tests=\"3\" failures=\"1\" errors=\"0\" skipped=\"1\" time=\"1.501\">\n<testcase classname=\"pkg.Test\" name=\"test_a(1.5)\" time=\"1.500\">\n</testcase>\n<testcase classname=\"\" name=\"a&lt;b\" time=\"0.000\">\n<failure type=\"uxsuccess\">1 &lt; 2\n</failure>\n</testcase>\n<testcase classname=\"b\" name=\"s\" time=\"0.001\">\n<skipped message=\"no &quot;net&quot;\"/>\n</testcase>\n</testsuite>\n"
unfolding pieces_from encode digits
some_text = refl

some_read : reading.read_document (junit_of some_rows) ≡ Some (told_document some_rows)
unfolding pieces_from encode digits
some_read = refl

-- What is no document.

bare_ampersand : reading.read_text (codes "a & b") ≡ None
bare_ampersand = refl

bare_tab : reading.read_value (codes "a\tb") ≡ None
bare_tab = refl

open_case : reading.read_document (codes "<?xml version=\"1.0\" encoding=\"utf-8\"?>\n<testsuite name=\"\" tests=\"0\" failures=\"0\" errors=\"0\" skipped=\"0\" time=\"0.000\">\n<testcase classname=\"\" name=\"a\" time=\"0.000\">\n</testsuite>\n") ≡ None
open_case = refl

two_verdicts : reading.read_document (codes "<?xml version=\"1.0\" encoding=\"utf-8\"?>\n<testsuite name=\"\" tests=\"0\" failures=\"0\" errors=\"0\" skipped=\"0\" time=\"0.000\">\n<testcase classname=\"\" name=\"a\" time=\"0.000\">\n<skipped message=\"\"/>\n<skipped message=\"\"/>\n</testcase>\n</testsuite>\n") ≡ None
two_verdicts = refl

read_none : reading.read_document none_text ≡ Some (record { heading = record { tests = 0; failures = 0; skipped = 0; seconds = codes "0.000" }; cases = [] })
read_none = refl
