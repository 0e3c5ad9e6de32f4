use Rattle.std.proofs.Common.{sym, ◌∙◌}
use Rattle.v1_bridge.specs.Writing.{events_in}
use Rattle.v1_bridge.proofs.WriteLemmas.{of_part, of_none, text_added, last_added, seen_more}
use Rattle.v1_bridge.proofs.writer.V1Writer.hear.Goals as goal

pub returns-in_ok-put_ended-in-Some-clause-text : goal.returns-in_ok-put_ended-in-Some-clause-text
returns-in_ok-put_ended-in-Some-clause-text c event spells notes has =
    text_added notes event c.args.self.now.last _ _ _ has.last c.in_ok-put_ended-in-Some.ensures.text
    (of_part c.args.self.now.last (events_in notes) event _ (sym c.in-Some.is ∙ c.in_ok-part.ensures.part (events_in notes) event spells has.seen))

pub returns-in_ok-put_ended-in-Some-clause-written : goal.returns-in_ok-put_ended-in-Some-clause-written
returns-in_ok-put_ended-in-Some-clause-written c event spells notes has = record {
  seen = seen_more c.hear_part.new.self c.put_ended.new.self.fold notes event c.in_ok-put_ended-in-Some.ensures.fold (c.in_ok-part.ensures.ok (events_in notes) event spells has.seen);
  last = last_added notes event c.args.self.now.last _ _ has.last c.in_ok-put_ended-in-Some.ensures.last
      (of_part c.args.self.now.last (events_in notes) event _ (sym c.in-Some.is ∙ c.in_ok-part.ensures.part (events_in notes) event spells has.seen));
}

pub returns-in_ok-put_outside-in-None-clause-text : goal.returns-in_ok-put_outside-in-None-clause-text
returns-in_ok-put_outside-in-None-clause-text c event spells notes has =
    text_added notes event c.args.self.now.last _ _ _ has.last (c.in_ok-put_outside-in-None.ensures.text event spells)
    (of_none c.args.self.now.last (events_in notes) event (sym c.in-None.is ∙ c.in_ok-part.ensures.part (events_in notes) event spells has.seen))

pub returns-in_ok-put_outside-in-None-clause-written : goal.returns-in_ok-put_outside-in-None-clause-written
returns-in_ok-put_outside-in-None-clause-written c event spells notes has = record {
  seen = seen_more c.hear_part.new.self c.put_outside.new.self.fold notes event c.in_ok-put_outside-in-None.ensures.fold (c.in_ok-part.ensures.ok (events_in notes) event spells has.seen);
  last = last_added notes event c.args.self.now.last _ _ has.last (c.in_ok-put_outside-in-None.ensures.last event spells)
      (of_none c.args.self.now.last (events_in notes) event (sym c.in-None.is ∙ c.in_ok-part.ensures.part (events_in notes) event spells has.seen));
}
