use Rattle.std.proofs.Common.{refl}
use Rattle.suite_run.proofs.EarLemmas.{always_err, echo_as, hears_next, keeps_next, takes_as}
use Rattle.suite_run.proofs.run_listener.RunListenerListener.hear.Goals as goal

pub returns-in_err-hear-clause-keeps : goal.returns-in_err-hear-clause-keeps
returns-in_err-hear-clause-keeps g c = λ begun pieces heard.
    always_err c.from_residual.result (heard.0, heard.1, keeps_next _ _ _ c.args.self.now.hearing _ pieces c.args.piece.now heard.3)

pub returns-clause-hears : goal.returns-clause-hears
returns-clause-hears g c = λ begun pieces heard. (
  heard.0,
  heard.1,
  heard.2,
  hears_next _ _ _ c.args.self.now.hearing c.hear.new.self _ _ _ pieces c.args.piece.now heard.3 c.in_ok-hear.ensures (takes_as _ _ _ _ _ _ c.deref.ensures.value c.say-self.ensures.takes) c.clear.ensures.items refl refl refl (echo_as _ _ _ _ _ _ _ heard.2 c.hand_on-self.ensures),
)
