use Rattle.std.proofs.Common.{◌≡◌, length, subst, rules}
use Rattle.std.specs.Prelude.{OnOk}
use Rattle.outcome_fold.proofs.FileLemmas.{no_piece, some_piece}
use Rattle.outcome_fold.proofs.files.KeptFiles.append.Goals as goal

pub returns-then-is_empty-clause-ok : goal.returns-then-is_empty-clause-ok
returns-then-is_empty-clause-ok c =
    let none : length c.args.piece.now ≡ 0 = search rules in
    no_piece c.args.self.now c.args.name.now c.args.piece.now none

pub returns-clause-ok : goal.returns-clause-ok
returns-clause-ok c =
    let some : length c.args.piece.now ≡ 0 → ⊥ = search rules in
    subst (λ files. OnOk c.append_bytes.result (c.append_bytes.new.self ≡ files))
    (some_piece c.args.self.now c.args.name.now c.args.piece.now some) c.append_bytes.ensures.ok
