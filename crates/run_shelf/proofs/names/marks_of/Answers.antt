use Rattle.std.proofs.Common.{◌≡◌, ◌∙◌, ◌+◌, sym, subst, take, [], ◌∷◌, ◌++◌, List, ℕ}
use Rattle.std.proofs.lemmas.List.{take_more}
use Rattle.run_shelf.specs.Names.{CountsRun, CountsNoRun}
use Rattle.run_shelf.proofs.MarkLemmas.{marks_same, marks_more}
use Rattle.run_shelf.proofs.names.marks_of.Goals as goal
use Rattle.run_shelf.proofs.names.marks_of.Goals.{in-Some+in_ok-mark, in_default}

pub loop-name-preserved : goal.loop-name-preserved
loop-name-preserved c =
    let names = c.args.names.now in
    let i = c.loop-name.name-index in
    let longer : take (i + 1) names ≡ take i names ++ c.name-item.result ∷ [] =
    take_more names i c.name-item.result c.loop-name-test.true ∙ (λ j. take i names ++ sym c.name-item.is j ∷ []) in
    elim c.match-read_counted.branch [
      | in-Some+in_ok-mark w ↦
          rw (longer, w.marks-is)
          (marks_more (take i names) c.name-item.result c.args.old c.loop-name.marks.items c.loop-name.invariant w.in-Some.number w.in-Some.partial
          (subst (λ (l : List ℕ). CountsRun c.args.old l w.in-Some.number w.in-Some.partial) c.bytes.ensures.bytes w.in-Some.ensures.some) w.mark.new.marks.items w.in_ok-mark.ensures)
      | in_default w ↦
          rw (longer, w.marks-is)
          (marks_same (take i names) c.name-item.result c.args.old c.loop-name.marks.items c.loop-name.invariant (subst (CountsNoRun c.args.old) c.bytes.ensures.bytes w.in_default.ensures.none))
    ]
