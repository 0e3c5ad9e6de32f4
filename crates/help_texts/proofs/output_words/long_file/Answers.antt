use Rattle.std.proofs.Common.{◌≡◌, sym, drop, false, nat_eq, None, Some}
use Rattle.std.specs.List.{starts_with}
use Rattle.std.proofs.lemmas.Bool.{cond-false}
use Rattle.std.proofs.lemmas.Str.Pattern.{starts_text}
use Rattle.help_texts.specs.Output.{output_front}
use Rattle.help_texts.proofs.output_words.long_file.Goals as goal

pub returns-in-None : goal.returns-in-None
returns-in-None c =
    let word = c.args.word.now in
    let other : starts_with nat_eq word output_front ≡ false = sym (starts_text false output_front word c.in-None.ensures.cases) in
    sym (cond-false (starts_with nat_eq word output_front) (Some (drop 12 word)) None other)
