use Rattle.std.proofs.Common.{sym, ◌∙◌, refl, true≢false}
use Rattle.speaker.proofs.TakesLemmas.{takes_more, takes_none}
use Rattle.speaker.proofs.say.Goals as goal

pub returns-then-failed-clause-takes : goal.returns-then-failed-clause-takes
returns-then-failed-clause-takes g c = λ start said h. takes_none said c.args.text.now start _ _ c.if-failed.true h

pub returns-in-Ok-clause-takes : goal.returns-in-Ok-clause-takes
returns-in-Ok-clause-takes g c = λ start said h.
    takes_more said c.args.text.now start _ _ _ _ c.if-failed.false h c.write_whole.ensures.prefix (λ _. c.in-Ok.ensures.whole) (λ _. c.in-Ok.ensures.cause.done)
    (λ is. absurd (true≢false (sym is)))

pub returns-in-Err-clause-takes : goal.returns-in-Err-clause-takes
returns-in-Err-clause-takes g c = λ start said h.
    takes_more said c.args.text.now start _ _ _ _ c.if-failed.false h c.write_whole.ensures.prefix (λ never. absurd (true≢false never)) (λ never. absurd (true≢false never)) (λ _. c.in-Err.ensures.cause.failed)
