-- The grammar of one line of the Test Anything Protocol, versions 12 to 14 (docs/FORMATS.md, "TAP").
use Rattle.std.specs.Prelude.{ℕ, ◌+◌, Bool, true, false, ◌&&◌, ◌||◌, ◌==◌, Option, None, Some, List, [], ◌∷◌, length, take, drop, nat_le, is_some, codes, if◌then◌else◌}
use Rattle.std.specs.Char.{is_ascii_digit}
use Rattle.std.specs.List.{list_all}
use Rattle.std.specs.Str.{str_eq_ignore_ascii_case}
use Rattle.std.specs.Str.Parse.{digits_value}
use Rattle.sub_number.specs.Lines.{begins}
use Rattle.tap_bridge.specs.declared.directive.Directive.{Directive}
use Rattle.tap_bridge.specs.declared.directive.Directive.TheVariants.{Skip, Todo}
use Rattle.tap_bridge.specs.declared.plan.Plan.{Plan}
use Rattle.tap_bridge.specs.Blanks.{begins_blank, trim_start, trim, first_word, behind_word}

-- the bytes begin with this word in letters of any case
abbrev pub begins_in_any_case : List ℕ → List ℕ → Bool
begins_in_any_case word bytes = str_eq_ignore_ascii_case (take (length word) bytes) word

-- nothing but blanks
abbrev pub is_blank_text : List ℕ → Bool
is_blank_text bytes = length (trim_start bytes) == 0

-- Numbers: 1 to 7 digits, 1,000,000 at most.

-- the greatest number that a test may have
abbrev pub most_tests : ℕ
most_tests = 1000000

-- each of the bytes is a digit
abbrev pub is_digits : List ℕ → Bool
is_digits bytes = list_all is_ascii_digit bytes

-- one to seven digits that are no greater number than a test may have
abbrev pub is_tap_number : List ℕ → Bool
is_tap_number bytes = is_digits bytes && (nat_le 1 (length bytes) && (nat_le (length bytes) 7 && nat_le (digits_value 10 bytes) most_tests))

-- the number of these digits, where they are the number of a test
abbrev pub tap_number_of : List ℕ → Option ℕ
tap_number_of bytes = if is_tap_number bytes then Some (digits_value 10 bytes) else None

-- The plan: `1..`, a number, and nothing more or a directive that skips all.

-- blanks, `#`, blanks, and a word that begins with SKIP in any case
abbrev pub skips_all : List ℕ → Bool
skips_all rest =
    begins_blank rest && (begins (codes "#") (trim_start rest)
    && (begins_blank (drop 1 (trim_start rest)) && begins_in_any_case (codes "skip") (trim_start (drop 1 (trim_start rest)))))

-- a plan of so many tests, with this behind the number
abbrev pub plan_with : Option ℕ → List ℕ → Option Plan
plan_with None rest = None
plan_with (Some tests) rest =
    if is_blank_text rest then Some (record { tests = tests; skipped = false })
    else if skips_all rest then Some (record { tests = tests; skipped = true })
    else None

-- the plan behind `1..`
abbrev pub plan_behind : List ℕ → Option Plan
plan_behind rest = plan_with (tap_number_of (first_word rest)) (behind_word rest)

-- the plan that a line is
abbrev pub plan_of : List ℕ → Option Plan
plan_of line = if begins (codes "1..") line then plan_behind (drop 3 line) else None

-- Directives: ` #`, blanks, and SKIP or TODO in any case. No end of a word is asked for.

-- the directive that the bytes begin with, in capital letters or small ones
abbrev pub directive_word : List ℕ → Option Directive
directive_word bytes =
    if begins_in_any_case (codes "skip") bytes then Some Skip
    else if begins_in_any_case (codes "todo") bytes then Some Todo
    else None

-- the directive that the bytes begin with
abbrev pub directive_at : List ℕ → Option Directive
directive_at bytes = if begins (codes " #") bytes && begins_blank (drop 2 bytes) then directive_word (trim_start (drop 2 bytes)) else None

-- how many bytes stand in front of the first directive, or all where there is none
abbrev pub directive_place : List ℕ → ℕ
directive_place [] = 0
directive_place (byte ∷ bytes) = if is_some (directive_at (byte ∷ bytes)) then 0 else 1 + directive_place bytes

-- from the first directive on
abbrev pub from_directive : List ℕ → List ℕ
from_directive bytes = drop (directive_place bytes) bytes

-- the reason behind the four letters of a directive, where there is one
abbrev pub reason_behind : Option Directive → List ℕ → List ℕ
reason_behind None bytes = []
reason_behind (Some directive) bytes = trim (drop 4 (trim_start (drop 2 bytes)))

-- A test line: `ok` or `not ok`, a number, a description, and a directive with its reason. Only the first must be there.

-- what the line of a test says
pub record Test : Type 0 where
  pub passed : Bool
  pub number : Option ℕ
  pub description : List ℕ
  pub directive : Option Directive
  pub reason : List ℕ

-- a test line that says this first, with this behind it
abbrev pub test_with : Bool → Option ℕ → List ℕ → Test
test_with passed number rest = record {
  passed = passed;
  number = number;
  description = trim (take (directive_place rest) rest);
  directive = directive_at (from_directive rest);
  reason = reason_behind (directive_at (from_directive rest)) (from_directive rest);
}

-- digits up to a blank or the end
abbrev pub begins_with_digits : List ℕ → Bool
begins_with_digits bytes = is_digits (first_word bytes) && nat_le 1 (length (first_word bytes))

-- a test's number is 1 at least
abbrev pub test_with_number : Bool → Option ℕ → List ℕ → Option Test
test_with_number passed None rest = None
test_with_number passed (Some number) rest = if nat_le 1 number then Some (test_with passed (Some number) rest) else None

-- Digits that are no number make no test line.
abbrev pub test_behind : Bool → List ℕ → Option Test
test_behind passed rest =
    if begins_with_digits (trim_start rest) then test_with_number passed (tap_number_of (first_word (trim_start rest))) (behind_word (trim_start rest))
    else Some (test_with passed None rest)

-- the line begins with this word, which ends there or goes on with a blank
abbrev pub begins_with_word : List ℕ → List ℕ → Bool
begins_with_word word line = begins word line && (begins_blank (drop (length word) line) || length line == length word)

-- the test that a line tells
abbrev pub test_line_of : List ℕ → Option Test
test_line_of line =
    if begins_with_word (codes "ok") line then test_behind true (drop 2 line)
    else if begins_with_word (codes "not ok") line then test_behind false (drop 6 line)
    else None

-- What one line is.

-- what a line is: a plan, a test, a comment, the end of all, or something else
pub data TapLine : Type 0 where
  plan : Plan → TapLine
  test : Test → TapLine
  comment : List ℕ → TapLine
  bail_out : List ℕ → TapLine
  other : List ℕ → TapLine

-- what a line is that is this plan, or else this test
abbrev pub line_with : Option Plan → Option Test → List ℕ → TapLine
line_with (Some p) t line = plan p
line_with None (Some t) line = test t
line_with None None line =
    if begins (codes "#") line then comment line
    else if begins (codes "Bail out!") line then bail_out (trim line)
    else other line

-- a line without its newline and carriage return
abbrev pub tap_line_of : List ℕ → TapLine
tap_line_of line = line_with (plan_of line) (test_line_of line) line
