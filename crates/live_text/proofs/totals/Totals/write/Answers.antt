use Rattle.std.proofs.Common.{◌≡◌, ℕ, List, ◌++◌, subst}
use Rattle.std.specs.Prelude.{OnOk}
use Rattle.live_text.proofs.WriterLemmas.{totals_are}
use Rattle.live_text.proofs.totals.Totals.write.Goals as goal

pub returns : goal.returns
returns c rows has = subst (λ (t : List ℕ). OnOk c.write_lines.result (c.write_lines.new.text.items ≡ c.args.text.now.items ++ t)) (totals_are c.args.self.now rows has) c.write_lines.ensures
