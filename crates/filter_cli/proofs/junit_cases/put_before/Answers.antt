use Rattle.std.proofs.Common.{◌∙◌}
use Rattle.filter_cli.proofs.JunitCaseLemmas.{stands_before}
use Rattle.filter_cli.proofs.junit_cases.put_before.Goals as goal

pub returns : goal.returns
returns c =
    let put = c.in_ok-splice.ensures.items in
    stands_before put.0 put.1 c.args.front.items c.args.text.now.items c.splice.new.self.items put.2.0 (put.2.1 ∙ c.args.front.ok.0) put.3 put.4
