use Rattle.live_text.proofs.writer.LiveWriter.write_totals.Goals as goal

pub returns : goal.returns
returns c kind rows has = c.write.ensures rows has.totals
