use Rattle.std.proofs.Common.{◌≡◌, map, subst}
use Rattle.testr_conf.specs.Filled.{seen_values, FirstVariable}
use Rattle.testr_conf.specs.Variables.{byte, command_pieces}
use Rattle.testr_conf.proofs.PieceLemmas.{filled_more, filled_end, rest_text, out_text}
use Rattle.testr_conf.proofs.TextLemmas.{text_then}
use Rattle.testr_conf.proofs.variable.fill_variables.Goals as goal

pub loop-at-preserved : goal.loop-at-preserved
loop-at-preserved c =
    let found = subst (λ t. FirstVariable t c.loop-at.rest.now c.in-Some.at c.in-Some.variable) c.template-template.ensures c.in-Some.ensures.some in
    record {
      value = filled_more (seen_values c.args.values.now) c.args.text.now c.loop-at.rest.now c.loop-at.out.items c.extend_from_slice.new.self.items c.of.result.now
          c.extend_from_slice-in-Some.new.self.items c.name.result.now c.in-Some.at c.in-Some.variable found
          c.in_ok-extend_from_slice.ensures.items c.of.ensures c.in_ok-extend_from_slice-2.ensures.items c.name.ensures c.loop-at.invariant.value;
      out_text = out_text (seen_values c.args.values.now) c.args.text.now c.loop-at.rest.now c.loop-at.out.items c.extend_from_slice.new.self.items c.of.result.now
          c.extend_from_slice-in-Some.new.self.items c.name.result.now c.in-Some.at c.in-Some.variable found
          c.in_ok-extend_from_slice.ensures.items c.of.ensures c.in_ok-extend_from_slice-2.ensures.items c.name.ensures c.requires.values c.loop-at.invariant.out_text c.loop-at.invariant.rest_text;
      rest_text = rest_text (seen_values c.args.values.now) c.args.text.now c.loop-at.rest.now c.loop-at.out.items c.extend_from_slice.new.self.items c.of.result.now
          c.extend_from_slice-in-Some.new.self.items c.name.result.now c.in-Some.at c.in-Some.variable found
          c.in_ok-extend_from_slice.ensures.items c.of.ensures c.in_ok-extend_from_slice-2.ensures.items c.name.ensures c.loop-at.invariant.rest_text;
    }

pub returns-clause-value : goal.returns-clause-value
returns-clause-value c =
    filled_end (seen_values c.args.values.now) c.args.text.now c.loop-at.rest.now c.loop-at.out.items c.extend_from_slice-2.new.self.items
    c.loop-at.invariant.value (subst (λ t. command_pieces t c.loop-at.rest.now ≡ map byte c.loop-at.rest.now) c.template-template.ensures c.in_default.ensures.none) c.in_ok-extend_from_slice-3.ensures.items

pub returns-clause-text : goal.returns-clause-text
returns-clause-text c =
    text_then c.loop-at.out.items c.extend_from_slice-2.new.self.items c.loop-at.rest.now c.in_ok-extend_from_slice-3.ensures.items
    c.loop-at.invariant.out_text c.loop-at.invariant.rest_text
