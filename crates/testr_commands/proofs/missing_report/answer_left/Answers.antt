use Rattle.std.proofs.Common.{[], refl}
use Rattle.speaker.proofs.TakesLemmas.{none_yet}
use Rattle.testr_commands.proofs.CallLemmas.{told_refused}
use Rattle.testr_commands.proofs.EndLemmas.{left_done, left_refused, refused_code, done_code}
use Rattle.testr_commands.proofs.missing_report.answer_left.Goals as goal

pub returns-in-Ok : goal.returns-in-Ok
returns-in-Ok g c =
    let takes = rw c.deref.ensures.value at (c.say-failed.ensures.takes _ [] (none_yet _)) in
    rw c.in-Ok.is (record {
      told = left_done c.in-Ok.verdict _ _ _ _ _ _ takes c.ended_as.ensures;
      rose = takes.rose;
      stands = λ well small. takes.stands well;
      code = done_code c.in-Ok.verdict _ _ c.ended_as.ensures;
    })

pub returns-in-Err : goal.returns-in-Err
returns-in-Err g c = rw c.in-Err.is (record {
  told = left_refused c.in-Err.refusal _ _ _ _ _ c.answer.ensures;
  rose = λ never. cc;
  stands = λ well small. absurd (told_refused c.in-Err.refusal _ c.answer.ensures.code small);
  code = refused_code c.in-Err.refusal _ _ c.answer.ensures.code;
})
