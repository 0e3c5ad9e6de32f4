-- What the program promises: what the commands do, or the filters.
use Rattle.std.specs.Prelude.{◌≡◌, ℕ, List, ◌∷◌}
use Rattle.command_steps.specs.Outside.{Outside}
use Rattle.filter_cli.specs.Outside.{filter_outside as piped}
use Rattle.filter_cli.specs.Promises.{FilterPromises}
use Rattle.testr_cli.specs.From.{from_in, PromisesFrom}
use Rattle.testr_words.specs.Words.{face_word}
use Rattle.testr_words.specs.declared.command.Face.{Face}

-- what the filters do for the words, from the files and the input to the output; the folder and the spawner stay
pub record PromisesOfFilters (words : List (List ℕ)) (before after : Outside) (answer : ℕ) : Type 0 where
  pub filtered : FilterPromises words (piped before.site before.input before.out before.errors) (piped after.site after.input after.out after.errors) answer
  pub folder : after.folder ≡ before.folder
  pub spawner : after.spawner ≡ before.spawner

-- What each call of the program promises for all its words: what `testr` does for those behind the name of a face, which may
-- tell a folder to upgrade from, and for others what the filters do, which also say where words are neither.
pub record ProgramPromises (folder : List ℕ) (words : List (List ℕ)) (before after : Outside) (answer : ℕ) : Type 0 where
  pub testr : (face : Face) (behind : List (List ℕ)) → words ≡ face_word face ∷ behind → PromisesFrom (from_in behind) folder face behind before after answer
  pub filters : ((face : Face) (behind : List (List ℕ)) → words ≡ face_word face ∷ behind → ⊥) → PromisesOfFilters words before after answer
