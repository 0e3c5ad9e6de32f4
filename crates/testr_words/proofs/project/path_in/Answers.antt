use Rattle.std.proofs.Common.{◌≡◌, IfOk, subst, sym}
use Rattle.testr_words.proofs.ProjectLemmas.{paths_given, no_path}
use Rattle.testr_words.proofs.project.path_in.Goals as goal

pub returns-then-are_paths : goal.returns-then-are_paths
returns-then-are_paths c =
    subst (λ o. IfOk c.file_in.result (λ path. path ≡ o)) (sym (paths_given c.args.items.now c.args.key.now c.are_paths.result c.are_paths.ensures c.if-are_paths.true)) c.file_in.ensures

pub returns-else-are_paths : goal.returns-else-are_paths
returns-else-are_paths c = sym (no_path c.args.items.now c.args.key.now c.are_paths.result c.are_paths.ensures c.if-are_paths.false)
