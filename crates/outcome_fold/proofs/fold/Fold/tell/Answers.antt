use Rattle.std.proofs.Common.{sym, ◌∙◌}
use Rattle.std.specs.FinMap as map
use Rattle.outcome_fold.specs.Folded.{other_parts_in, extended_by}
use Rattle.outcome_fold.proofs.AddLemmas.{goes_on, is_closed}
use Rattle.outcome_fold.proofs.EndedLemmas.{is_part, no_end}
use Rattle.outcome_fold.proofs.SaidLemmas.{extended_is}
use Rattle.outcome_fold.proofs.fold.Fold.tell.Goals as goal

pub returns-in_ok-started-in-Some-clause-part : goal.returns-in_ok-started-in-Some-clause-part
returns-in_ok-started-in-Some-clause-part c = λ seen e has sp.
    is_part seen e (other_parts_in c.put_down.new.self) c.args.key c.in-Some.ended c.in_ok-started-in-Some.started _ (c.in_ok-put_down.ensures.ok.1 ∙ has) sp.test_is (sym c.in-Some.is ∙ sp.how_is) (c.in_ok-started-in-Some.ensures.part ∙ extended_is (map.get (other_parts_in c.put_down.new.self) c.args.key) c.args.said e sp.says) sp.says.instant

pub returns-in_ok-started-in-Some-clause-ok : goal.returns-in_ok-started-in-Some-clause-ok
returns-in_ok-started-in-Some-clause-ok c = λ seen e has sp.
    is_closed seen e (other_parts_in c.put_down.new.self) _ c.args.key c.in-Some.ended (c.in_ok-put_down.ensures.ok.1 ∙ has) sp.test_is (sym c.in-Some.is ∙ sp.how_is) c.in_ok-started-in-Some.ensures.ok

pub returns-in_ok-go_on-in-None-clause-part : goal.returns-in_ok-go_on-in-None-clause-part
returns-in_ok-go_on-in-None-clause-part c = λ seen e has sp. no_end seen e c.args.key sp.test_is (sym c.in-None.is ∙ sp.how_is)

pub returns-in_ok-go_on-in-None-clause-ok : goal.returns-in_ok-go_on-in-None-clause-ok
returns-in_ok-go_on-in-None-clause-ok c = λ seen e has sp.
    goes_on seen e (other_parts_in c.put_down.new.self) _ c.args.key (extended_by (map.get (other_parts_in c.put_down.new.self) c.args.key) c.args.said) (c.in_ok-put_down.ensures.ok.1 ∙ has) sp.test_is (sym c.in-None.is ∙ sp.how_is) (extended_is (map.get (other_parts_in c.put_down.new.self) c.args.key) c.args.said e sp.says) c.in_ok-go_on-in-None.ensures.ok
