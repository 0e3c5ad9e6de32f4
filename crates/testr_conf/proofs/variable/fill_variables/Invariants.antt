use Rattle.std.proofs.Common.{◌≡◌, ◌++◌, length}
use Rattle.sub_number.specs.Texts.{IsText}
use Rattle.testr_conf.specs.Variables.{filled}
use Rattle.testr_conf.specs.Filled.{seen_values}
use Rattle.testr_conf.proofs.variable.fill_variables.Given as goal

abbrev pub invariant-loop-at : goal.invariant-loop-at
invariant-loop-at l = record {
  value : filled (seen_values l.values) l.text ≡ l.out.items ++ filled (seen_values l.values) l.rest;
  out_text : IsText l.out.items;
  rest_text : IsText l.rest;
}

abbrev pub decreases-loop-at : goal.decreases-loop-at
decreases-loop-at l = length l.rest
