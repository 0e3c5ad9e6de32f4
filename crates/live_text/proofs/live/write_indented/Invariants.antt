use Rattle.bstr.specs.Text.{lines_of}
use Rattle.live_text.proofs.LiveLemmas.{Indenting}
use Rattle.live_text.proofs.live.write_indented.Given as goal

abbrev pub invariant-loop-line : goal.invariant-loop-line
invariant-loop-line l = Indenting l.fn.text.items l.text.items (lines_of l.fn.lines) l.left
