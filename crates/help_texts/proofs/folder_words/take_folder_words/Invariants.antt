-- The words taken so far, with those that are left, give what all give.
use Rattle.std.proofs.Common.{◌≡◌, drop}
use Rattle.help_texts.specs.Asking.{words_as_bytes}
use Rattle.help_texts.specs.Folder.{kept_words, named_folder}
use Rattle.help_texts.specs.Parting.{kept_with, folder_with}
use Rattle.help_texts.proofs.folder_words.take_folder_words.Given as goal

abbrev pub invariant-loop-word : goal.invariant-loop-word
invariant-loop-word l =
    (kept_with l.parting (words_as_bytes (drop l.word-index l.words)) ≡ kept_words (words_as_bytes l.words))
    × (folder_with l.parting (words_as_bytes (drop l.word-index l.words)) ≡ named_folder (words_as_bytes l.words))
