use Rattle.std.proofs.Common.{◌∙◌, ap}
use Rattle.std.specs.FinMap as fin
use Rattle.filter_cli.proofs.JunitCaseLemmas.{document_is}
use Rattle.filter_cli.proofs.junit_cases.JunitCases.write.Goals as goal

pub returns : goal.returns
returns c = λ rows has.
    document_is rows c.in_ok-routes.routes.items c.in_ok-counts_in.field-0 c.args.out.now.items c.junit_head.new.out.items c.put_texts.new.out.items c.junit_tail.new.out.items
    (c.in_ok-routes.ensures ∙ ap fin.values has) (λ groups is. c.in_ok-counts_in.ensures groups (c.deref.ensures.value ∙ is)) c.in_ok-junit_head.ensures.ok c.in_ok-put_texts.ensures c.in_ok-junit_tail.ensures.ok
