use Rattle.std.proofs.Common.{◌≡◌, ◌++◌, ◌≤◌, ◌-◌, length, take, drop, map}
use Rattle.testr_conf.specs.Variables.{byte, command_pieces}
use Rattle.testr_conf.proofs.variable.first_variable.Given as goal

abbrev pub invariant-loop-skipped : goal.invariant-loop-skipped
invariant-loop-skipped l = record {
  in_range : l.at ≤ length l.text;
  pieces : command_pieces l.template l.text ≡ map byte (take l.at l.text) ++ command_pieces l.template (drop l.at l.text);
}

abbrev pub decreases-loop-skipped : goal.decreases-loop-skipped
decreases-loop-skipped l = length l.text - l.at
