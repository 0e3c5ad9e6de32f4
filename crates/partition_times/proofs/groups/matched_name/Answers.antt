use Rattle.std.proofs.Common.{arith, ◌∙◌, sym, ap, slice_range}
use Rattle.partition_times.specs.Patterns.{first_match}
use Rattle.partition_times.proofs.NameLemmas.{named_at_front}
use Rattle.partition_times.proofs.groups.matched_name.Goals as goal

pub returns-in-Some-clause-name : goal.returns-in-Some-clause-name
returns-in-Some-clause-name c = λ pattern searches.
    let start = c.in-Some.found.start in
    let end = c.in-Some.found.end in
    c.as_str.ensures ∙ ap (λ hay. slice_range hay start end) c.in-Some.ensures.within
    ∙ named_at_front c.args.id.now (first_match pattern c.args.id.now) start end (sym (c.in-Some.ensures.found ∙ searches.same c.args.id.now (λ k. omega (arith, c.type_inv.id k)))) (sym c.start.ensures ∙ c.if-start-eq0.true) (sym c.if-not-is_empty.ensures)
