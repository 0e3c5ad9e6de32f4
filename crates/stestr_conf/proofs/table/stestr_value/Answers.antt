use Rattle.std.proofs.Common.{codes, option_map, sym, ap, ◌∙◌}
use Rattle.std.specs.Prelude.{option_and_then}
use Rattle.toml.specs.Data.{get}
use Rattle.toml.specs.View.{view}
use Rattle.stestr_conf.proofs.table.stestr_value.Goals as goal

pub returns-in-Some : goal.returns-in-Some
returns-in-Some c =
    c.get.ensures ∙ ap (option_and_then (get (codes "stestr"))) (ap (option_map (λ value. view value.now)) (sym c.in-Some.is) ∙ c.value_at.ensures)

pub returns-in-None : goal.returns-in-None
returns-in-None c = ap (option_and_then (get (codes "stestr"))) (ap (option_map (λ value. view value.now)) (sym c.in-None.is) ∙ c.value_at.ensures)
