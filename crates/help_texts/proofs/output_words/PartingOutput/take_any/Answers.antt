use Rattle.std.proofs.Common.{◌≡◌, sym, ap, ◌∙◌, false, None, Some, option_map, string_bytes}
use Rattle.std.specs.Str.{bytes_eq}
use Rattle.std.proofs.lemmas.Bool.{or_from}
use Rattle.help_texts.specs.Output.{letter_word, output_word, takes_next, joined_file}
use Rattle.help_texts.proofs.OutputLemmas.{on_both, joined_parting}
use Rattle.help_texts.proofs.output_words.PartingOutput.take_any.Goals as goal

pub returns-in-Some-clause-file : goal.returns-in-Some-clause-file
returns-in-Some-clause-file c =
    let word = c.args.word.now in
    let none : takes_next word ≡ false = or_from (bytes_eq word letter_word) (bytes_eq word output_word) (sym c.if-eq.ensures) (sym c.if-eq-2.ensures) in
    let joined : joined_file word ≡ Some c.in-Some.file.now = sym c.joined_file.ensures ∙ ap (option_map (λ file. file.now)) c.in-Some.is in
    on_both c.aim.result (joined_parting c.args.self.now c.aim.new.self word (Some c.in-Some.file.now) c.requires none joined) c.aim.ensures.file c.aim.ensures.place

pub returns-in-None-clause-file : goal.returns-in-None-clause-file
returns-in-None-clause-file c =
    let word = c.args.word.now in
    let none : takes_next word ≡ false = or_from (bytes_eq word letter_word) (bytes_eq word output_word) (sym c.if-eq.ensures) (sym c.if-eq-2.ensures) in
    let joined : joined_file word ≡ None = sym c.joined_file.ensures ∙ ap (option_map (λ file. file.now)) c.in-None.is in
    on_both c.keep.result (λ same. joined_parting c.args.self.now c.keep.new.self word None c.requires none joined (ap (option_map string_bytes) c.keep.ensures.file)) c.keep.ensures.place c.keep.ensures.place
