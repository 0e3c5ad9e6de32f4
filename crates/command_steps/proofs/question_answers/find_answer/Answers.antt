use Rattle.std.proofs.Common.{◌∙◌, sym}
use Rattle.command_steps.proofs.question_answers.find_answer.Goals as goal

pub returns : goal.returns
returns g c =
    let name = sym (c.into_shelf.ensures.same_reference ∙ c.answer_of-told.ensures.same_reference ∙ c.attach-store.ensures.same_reference) in
    let tie = sym (c.shelf-1.given.1 name ∙ c.hand_back.ensures ∙ c.into_shelf.ensures.same) in
    record {
      step = record {
        answers = rw c.attach-store.ensures.same at c.answer_of-told.ensures.told;
        same = rw tie at (rw c.attach-store.ensures.same at c.answer_of-told.ensures.same);
        count = rw tie at (rw c.attach-store.ensures.same at c.answer_of-told.ensures.count);
      };
      spares = rw tie at (rw c.attach-store.ensures.same at c.answer_of-told.ensures.spares);
    }
