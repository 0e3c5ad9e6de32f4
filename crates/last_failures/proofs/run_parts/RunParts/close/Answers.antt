use Rattle.last_failures.proofs.GatherLemmas.{gathered_at_end}
use Rattle.last_failures.proofs.run_parts.RunParts.close.Goals as goal

pub returns : goal.returns
returns c = λ bytes has.
    gathered_at_end c.args.wanted.now bytes c.args.self c.finish.new.self c.gather_notes.new.reader c.gather_notes.new.gathered c.in_ok-rows.rows has c.finish.ensures c.in_ok-gather_notes.ensures.gathers c.in_ok-gather_notes.ensures.spent (λ events gathered. c.in_ok-rows.ensures events gathered.folded)
