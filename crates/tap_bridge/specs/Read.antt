-- What the code's lines mean, which borrow the bytes that they were read from.
use Rattle.std.specs.Prelude.{ℕ, ◌≤◌, length}
use Rattle.tap_bridge.specs.declared.test_line.TestLine.{TestLine}
use Rattle.tap_bridge.specs.declared.line.Line.{Line as Read}
use Rattle.tap_bridge.specs.declared.line.Line.TheVariants as read
use Rattle.tap_bridge.specs.Grammar.{Test, TapLine, plan, test, comment, bail_out, other}

-- the test that the code's line of a test stands for
abbrev pub test_meant : TestLine → Test
test_meant t = record {
  passed = t.passed;
  number = t.number;
  description = t.description.now;
  directive = t.directive;
  reason = t.reason.now;
}

-- the line that the code's line stands for
abbrev pub tap_line_meant : Read → TapLine
tap_line_meant (read.Plan p) = plan p
tap_line_meant (read.Test t) = test (test_meant t)
tap_line_meant (read.Comment bytes) = comment bytes.now
tap_line_meant (read.BailOut id) = bail_out id.now
tap_line_meant (read.Other bytes) = other bytes.now

-- What becomes part of an event has at most so many bytes.
abbrev pub HasShortTexts : Read → ℕ → Type 0
HasShortTexts (read.Plan p) most = Unit {0}
HasShortTexts (read.Test t) most = length t.description.now ≤ most
HasShortTexts (read.Comment bytes) most = length bytes.now ≤ most
HasShortTexts (read.BailOut id) most = length id.now ≤ most
HasShortTexts (read.Other bytes) most = length bytes.now ≤ most
