-- The words taken so far, with those that are left, give what all give.
use Rattle.std.proofs.Common.{◌≡◌, drop}
use Rattle.help_texts.specs.Asking.{words_as_bytes}
use Rattle.help_texts.specs.Output.{words_without_output, output_file}
use Rattle.help_texts.specs.PartingOutput.{all_kept, file_of_all}
use Rattle.help_texts.proofs.output_words.take_output_words.Given as goal

abbrev pub invariant-loop-word : goal.invariant-loop-word
invariant-loop-word l =
    (all_kept l.parting (words_as_bytes (drop l.word-index l.words)) ≡ words_without_output (words_as_bytes l.words))
    × (file_of_all l.parting (words_as_bytes (drop l.word-index l.words)) ≡ output_file (words_as_bytes l.words))
