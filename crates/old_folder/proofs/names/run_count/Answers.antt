use Rattle.std.proofs.Common.{◌≡◌, ◌∙◌, ◌+◌, sym, subst, take, [], ◌∷◌, ◌++◌, List, ℕ}
use Rattle.std.proofs.lemmas.List.{take_more}
use Rattle.old_folder.specs.Looking.{Raises}
use Rattle.old_folder.proofs.CountLemmas.{count_more}
use Rattle.old_folder.proofs.names.run_count.Goals as goal

pub loop-name-preserved : goal.loop-name-preserved
loop-name-preserved c =
    let names = c.args.names.now in
    let i = c.loop-name.name-index in
    let longer : take (i + 1) names ≡ take i names ++ c.name-item.result ∷ [] =
    take_more names i c.name-item.result c.loop-name-test.true ∙ (λ j. take i names ++ sym c.name-item.is j ∷ []) in
    rw longer
    (count_more (take i names) c.name-item.result c.args.next c.loop-name.count c.raised-count.result c.loop-name.invariant
    (subst (λ (l : List ℕ). Raises l c.loop-name.count c.raised-count.result) c.bytes.ensures.bytes c.raised-count.ensures))
