use Rattle.std.proofs.Common.{refl}
use Rattle.command_steps.proofs.TimesLemmas.{other_form}
use Rattle.command_steps.proofs.times_file.read_times.Goals as goal

pub returns-in-Ok-None : goal.returns-in-Ok-None
returns-in-Ok-None g c = record {
  step = record {
    times = tt;
    refused = other_form c.args.name.now c.in_ok-bytes.bytes.items _ _ c.in-Ok-None.field-0 c.deref.ensures.value c.in_ok-bytes.ensures.step.bytes c.in-Ok-None.field-0-is c.in-Ok-None.ensures.none;
    named = refl;
    same = c.in_ok-bytes.ensures.step.same;
    count = c.in_ok-bytes.ensures.step.count;
  };
}
