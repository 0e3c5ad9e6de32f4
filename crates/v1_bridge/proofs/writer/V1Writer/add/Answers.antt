use Rattle.v1_bridge.specs.Writing.{events_in}
use Rattle.v1_bridge.proofs.WriteLemmas.{of_test, of_no_test, text_added, last_added, seen_more}
use Rattle.v1_bridge.proofs.writer.V1Writer.add.Goals as goal

pub returns-in_ok-put_completed-in-Some-clause-text : goal.returns-in_ok-put_completed-in-Some-clause-text
returns-in_ok-put_completed-in-Some-clause-text c notes has =
    text_added notes c.args.event.now c.args.self.now.last _ _ _ has.last c.in_ok-put_completed-in-Some.ensures.text
    (of_test c.args.self.now.last (events_in notes) c.args.event.now _ _ c.in-Some.is (c.in_ok-part.ensures.part (events_in notes) has.seen))

pub returns-in_ok-put_completed-in-Some-clause-written : goal.returns-in_ok-put_completed-in-Some-clause-written
returns-in_ok-put_completed-in-Some-clause-written c notes has = record {
  seen = seen_more c.add_part.new.self c.put_completed.new.self.fold notes c.args.event.now c.in_ok-put_completed-in-Some.ensures.fold (c.in_ok-part.ensures.ok (events_in notes) has.seen);
  last = last_added notes c.args.event.now c.args.self.now.last _ _ has.last c.in_ok-put_completed-in-Some.ensures.last
      (of_test c.args.self.now.last (events_in notes) c.args.event.now _ _ c.in-Some.is (c.in_ok-part.ensures.part (events_in notes) has.seen));
}

pub returns-in_ok-put_file-in-None-clause-text : goal.returns-in_ok-put_file-in-None-clause-text
returns-in_ok-put_file-in-None-clause-text c notes has =
    text_added notes c.args.event.now c.args.self.now.last _ _ _ has.last c.in_ok-put_file-in-None.ensures.text (of_no_test c.args.self.now.last (events_in notes) c.args.event.now c.in-None.is)

pub returns-in_ok-put_file-in-None-clause-written : goal.returns-in_ok-put_file-in-None-clause-written
returns-in_ok-put_file-in-None-clause-written c notes has = record {
  seen = seen_more c.add_part.new.self c.put_file.new.self.fold notes c.args.event.now c.in_ok-put_file-in-None.ensures.fold (c.in_ok-part.ensures.ok (events_in notes) has.seen);
  last = last_added notes c.args.event.now c.args.self.now.last _ _ has.last c.in_ok-put_file-in-None.ensures.last (of_no_test c.args.self.now.last (events_in notes) c.args.event.now c.in-None.is);
}
