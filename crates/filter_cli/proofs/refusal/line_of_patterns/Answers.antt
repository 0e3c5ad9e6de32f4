use Rattle.std.proofs.Common.{ℕ, List, [], ◌∷◌, ◌++◌, sym, ap, ◌∙◌}
use Rattle.std.specs.Prelude.{codes}
use Rattle.filter_cli.specs.Patterns.{patterns_text}
use Rattle.filter_cli.specs.declared.patterns.PatternsFault.{PatternsFault}
use Rattle.filter_cli.proofs.refusal.line_of_patterns.Goals as goal

pub returns-in-Bad : goal.returns-in-Bad
returns-in-Bad c =
    ap (λ (text : List ℕ). c.args.name.now ++ (codes ": bad pattern: " ++ (text ++ 10 ∷ []))) c.bytes.ensures.bytes
    ∙ ap (λ (fault : PatternsFault). c.args.name.now ++ patterns_text fault) (sym c.in-Bad.is)

pub returns-in-NoMemory : goal.returns-in-NoMemory
returns-in-NoMemory c = c.of.ensures ∙ ap (λ (fault : PatternsFault). c.args.name.now ++ patterns_text fault) (sym c.in-NoMemory.is)
