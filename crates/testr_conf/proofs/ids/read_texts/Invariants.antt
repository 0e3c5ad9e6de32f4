use Rattle.testr_conf.proofs.IdLemmas.{Listed}
use Rattle.testr_conf.proofs.ids.read_texts.Given as goal

abbrev pub invariant-loop-line : goal.invariant-loop-line
invariant-loop-line l = Listed l.fn.comments l.fn.text l.lines l.number l.texts
