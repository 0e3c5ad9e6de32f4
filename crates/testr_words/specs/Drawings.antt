-- What `selftest` asks for (docs/COMMANDS.md, "Words").
use Rattle.std.specs.Prelude.{Bool, ◌&&◌, nat_le, ◌*◌, Option, Some, None, ℕ, if◌then◌else◌}
use Rattle.testr_words.specs.declared.command.Command.{Command}
use Rattle.testr_words.specs.declared.selftest_words.SelfTestWords.{SelfTestWords}

-- there are 1 to 64 lanes, each has a test, and there are no more than 1,000,000 tests in all
abbrev pub are_few : (lanes tests : ℕ) → Bool
are_few lanes tests = nat_le 1 lanes && (nat_le lanes 64 && (nat_le 1 tests && nat_le (lanes * tests) 1000000))

-- the drawing, where it is that small
abbrev pub if_few : SelfTestWords → Option SelfTestWords
if_few drawing = if are_few drawing.lanes drawing.tests then Some drawing else None

-- the drawing of the numbers that the command has, where it is that small
abbrev pub drawing_of : Command → Option SelfTestWords
drawing_of command = if_few (record { seed = command.seed; lanes = command.lanes; tests = command.tests })
