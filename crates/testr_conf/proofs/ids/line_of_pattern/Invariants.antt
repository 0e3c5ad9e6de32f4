use Rattle.testr_conf.proofs.IdLemmas.{Numbered}
use Rattle.testr_conf.proofs.ids.line_of_pattern.Given as goal

abbrev pub invariant-loop-line : goal.invariant-loop-line
invariant-loop-line l = Numbered l.fn.text l.fn.index l.lines l.number l.left
