use Rattle.std.proofs.Common.{◌≡◌, length, rules}
use Rattle.outcome_fold.proofs.FileLemmas.{no_piece}
use Rattle.outcome_fold.proofs.files.BoxedFiles.append.Goals as goal

pub returns-then-is_empty-clause-ok : goal.returns-then-is_empty-clause-ok
returns-then-is_empty-clause-ok c =
    let none : length c.args.piece.now ≡ 0 = search rules in
    no_piece c.args.self.now c.args.name.now c.args.piece.now none
