use Rattle.std.proofs.Common.{◌≡◌, sym, false}
use Rattle.std.specs.Str.{bytes_eq}
use Rattle.help_texts.specs.Folder.{folder_word}
use Rattle.help_texts.proofs.FolderLemmas.{on_ok, any_parting}
use Rattle.help_texts.proofs.folder_words.Parting.take.Goals as goal

pub returns-in-Any-2-clause-folder : goal.returns-in-Any-2-clause-folder
returns-in-Any-2-clause-folder c =
    let no_option : bytes_eq c.args.word.now folder_word ≡ false = sym c.if-eq.ensures in
    on_ok c.keep-in-Any-2.result (any_parting c.args.self.now c.keep-in-Any-2.new.self c.args.word.now c.behind-in-Any-2.result c.in-Any-2.is no_option c.behind-in-Any-2.ensures c.keep-in-Any-2.ensures.folder) c.keep-in-Any-2.ensures.turn
