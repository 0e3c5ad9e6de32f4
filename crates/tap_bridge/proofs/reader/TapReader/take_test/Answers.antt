use Rattle.std.proofs.Common.{◌≡◌, ◌∙◌, ap, rules, Some, max, []}
use Rattle.tap_bridge.specs.declared.reader.TapReader.{TapReader}
use Rattle.tap_bridge.specs.Read.{test_meant}
use Rattle.tap_bridge.specs.Events.{one_more, number_in}
use Rattle.tap_bridge.specs.Kept.{kept_waiting}
use Rattle.tap_bridge.proofs.ReadLemmas.{knows_test}
use Rattle.tap_bridge.proofs.reader.TapReader.take_test.Goals as goal

pub returns-clause-read : goal.returns-clause-read
returns-clause-read c before known =
    let rest = c.in_ok-give_waiting.ensures.rest in
    let stays = ap (λ (r : TapReader). r.next) rest in
    let number : c.number_in-number.result ≡ number_in c.args.self.now.next (test_meant c.args.test.now) = c.number_in-number.ensures in
    let next : c.max-self.result ≡ max c.args.self.now.next (one_more (number_in c.args.self.now.next (test_meant c.args.test.now))) = search rules in
    knows_test c.args.self.now _ before (test_meant c.args.test.now) next (ap (λ (r : TapReader). r.tests) rest)
    (ap Some (c.in_ok-begun.ensures ∙ ap (λ n. kept_waiting (record { number = n; shown = test_meant c.args.test.now; comments = [] })) number)) known
