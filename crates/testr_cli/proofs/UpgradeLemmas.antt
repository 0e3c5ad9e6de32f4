-- Words that begin with the command's ask for an upgrade, or for nothing.
use Rattle.std.proofs.Common.{◌≡◌, ℕ, Bool, true, false, cond, Option, Some, None, IfSome, List, [], ◌∷◌, ◌&&◌, length, refl, sym, subst}
use Rattle.std.specs.Prelude.{⊤, option_map}
use Rattle.command_words.specs.Items.{Item, items_of}
use Rattle.edge_io.specs.Disk.{Folder}
use Rattle.testr_words.specs.Letters.{long_words}
use Rattle.testr_words.specs.Formats.{format_in}
use Rattle.testr_words.specs.Lives.{live_in}
use Rattle.testr_words.specs.Tasks.{Task, upgrade, task_with, task_of}
use Rattle.testr_words.specs.Words.{and_then, if_texts, names_in, workers_in, file_in, texts_in, shard_in, load_list_word, expect_word, exclude_word, include_list_word, exclude_list_word, times_word, option_kinds, most_names, may_have, may_time, project_in, with_project, command_with, command_of_names, command_of, asked_by}
use Rattle.testr_words.specs.declared.command.Command.{Command}
use Rattle.testr_words.specs.declared.command.Face.{Face}
use Rattle.testr_words.specs.declared.command.Face.TheVariants.{Testr, Stestr}
use Rattle.testr_words.specs.declared.command.ProjectWords.{ProjectWords}
use Rattle.testr_words.specs.declared.command.Verb.{Verb}
use Rattle.testr_words.specs.declared.command.Verb.TheVariants.{Upgrade}
use Rattle.testr_commands.specs.Sparing.{SparesReads}
use Rattle.testr_commands.specs.SparingRun.{SparesRun}
use Rattle.testr_cli.specs.From.{upgrade_word, from_in}
use Rattle.testr_cli.proofs.FromLemmas.{first_word}

abbrev IsUpgrade : Command → Type 0
IsUpgrade command = command.verb ≡ Upgrade

-- what is made of eleven answers, where each is there
of_eleven : {A B C D F G H I J K L : Type 0} (a : Option A) (b : Option B) (c : Option C) (d : Option D) (f : Option F) (g : Option G) (h : Option H) (i : Option I) (j : Option J) (k : Option K) (l : Option L) (made : A → B → C → D → F → G → H → I → J → K → L → Option Command) → ((a : A) (b : B) (c : C) (d : D) (f : F) (g : G) (h : H) (i : I) (j : J) (k : K) (l : L) → IfSome (made a b c d f g h i j k l) IsUpgrade) → IfSome (and_then a (λ a. and_then b (λ b. and_then c (λ c. and_then d (λ d. and_then f (λ f. and_then g (λ g. and_then h (λ h. and_then i (λ i. and_then j (λ j. and_then k (λ k. and_then l (λ l. made a b c d f g h i j k l)))))))))))) IsUpgrade
of_eleven None b c d f g h i j k l made holds = tt
of_eleven (Some a) None c d f g h i j k l made holds = tt
of_eleven (Some a) (Some b) None d f g h i j k l made holds = tt
of_eleven (Some a) (Some b) (Some c) None f g h i j k l made holds = tt
of_eleven (Some a) (Some b) (Some c) (Some d) None g h i j k l made holds = tt
of_eleven (Some a) (Some b) (Some c) (Some d) (Some f) None h i j k l made holds = tt
of_eleven (Some a) (Some b) (Some c) (Some d) (Some f) (Some g) None i j k l made holds = tt
of_eleven (Some a) (Some b) (Some c) (Some d) (Some f) (Some g) (Some h) None j k l made holds = tt
of_eleven (Some a) (Some b) (Some c) (Some d) (Some f) (Some g) (Some h) (Some i) None k l made holds = tt
of_eleven (Some a) (Some b) (Some c) (Some d) (Some f) (Some g) (Some h) (Some i) (Some j) None l made holds = tt
of_eleven (Some a) (Some b) (Some c) (Some d) (Some f) (Some g) (Some h) (Some i) (Some j) (Some k) None made holds = tt
of_eleven (Some a) (Some b) (Some c) (Some d) (Some f) (Some g) (Some h) (Some i) (Some j) (Some k) (Some l) made holds = holds a b c d f g h i j k l

where_so : (b : Bool) (command : Command) → IsUpgrade command → IfSome (cond b (Some command) None) IsUpgrade
where_so true command is = is
where_so false command is = tt

of_names : (face : Face) (items : List Item) → IfSome (command_of_names face Upgrade items) IsUpgrade
of_names face items =
    of_eleven (if_texts (names_in items)) (workers_in items) (file_in load_list_word items) (file_in expect_word items) (texts_in exclude_word items) (file_in include_list_word items) (file_in exclude_list_word items) (shard_in items) (file_in times_word items) (live_in items) (format_in items) (command_with face Upgrade items)
    (λ names workers load_list expect excluded include_list exclude_list shard times live format. where_so (may_have (most_names Upgrade) (length names) && may_time shard times) _ refl)

-- and with what is said of the project
of_project : (project : Option ProjectWords) (command : Option Command) → IfSome command IsUpgrade → IfSome (and_then project (λ project. option_map (with_project project) command)) IsUpgrade
of_project None command is = tt
of_project (Some project) None is = tt
of_project (Some project) (Some command) is = is

of_items : (items : Option (List Item)) (project : List Item → Option ProjectWords) (made : List Item → Option Command) → ((items : List Item) → IfSome (made items) IsUpgrade) → IfSome (and_then items (λ items. and_then (project items) (λ project. option_map (with_project project) (made items)))) IsUpgrade
of_items None project made holds = tt
of_items (Some items) project made holds = of_project (project items) (made items) (holds items)

is_upgrade : (face : Face) (words : List (List ℕ)) → IfSome (command_of face (upgrade_word ∷ words)) IsUpgrade
is_upgrade Testr words = of_items (items_of (option_kinds Testr Upgrade) (long_words (option_kinds Testr Upgrade) words)) (λ items. project_in items []) (command_of_names Testr Upgrade) (of_names Testr)
is_upgrade Stestr words = of_items (items_of (option_kinds Stestr Upgrade) (long_words (option_kinds Stestr Upgrade) words)) (λ items. project_in items []) (command_of_names Stestr Upgrade) (of_names Stestr)

-- an upgrade is asked for, or nothing
abbrev IsNoOther : Option Task → Type 0
IsNoOther None = ⊤
IsNoOther (Some upgrade) = ⊤
IsNoOther (Some task) = ⊥

task_is : (folder : List ℕ) (command : Option Command) → IfSome command IsUpgrade → IsNoOther (and_then command (task_of folder))
task_is folder None is = tt
task_is folder (Some command) is = subst (λ (v : Verb). IsNoOther (task_with folder v command)) (sym is) tt

asks_upgrade : (folder : List ℕ) (face : Face) (words : List (List ℕ)) (from : List ℕ) → from_in words ≡ Some from → IsNoOther (asked_by folder face words)
asks_upgrade folder face words from is =
    subst (λ (l : List (List ℕ)). IsNoOther (asked_by folder face l)) (sym (first_word words from is)) (task_is folder _ (is_upgrade face _))

-- so of questions and runs nothing is said
pub from_spares : (folder : List ℕ) (face : Face) (words : List (List ℕ)) (from : List ℕ) → from_in words ≡ Some from → (told : Option Folder) (before now : ℕ) → SparesReads (asked_by folder face words) told before now
from_spares folder face words from is told before now = record {
  failing = λ list asked. absurd (subst IsNoOther asked (asks_upgrade folder face words from is));
  looks = λ question asked. absurd (subst IsNoOther asked (asks_upgrade folder face words from is));
}

pub from_spares_run : (folder : List ℕ) (face : Face) (words : List (List ℕ)) (from : List ℕ) → from_in words ≡ Some from → (old new : Option Folder) (answer before now : ℕ) → SparesRun (asked_by folder face words) old new answer before now
from_spares_run folder face words from is old new answer before now = λ options asked. absurd (subst IsNoOther asked (asks_upgrade folder face words from is))
