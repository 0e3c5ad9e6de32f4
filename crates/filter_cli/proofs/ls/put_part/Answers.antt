use Rattle.std.proofs.Common.{ℕ, List, ◌++◌, refl, sym, ap, ◌∙◌, append-nil}
use Rattle.outcome_fold.specs.EndedParts.{row_of_part}
use Rattle.filter_cli.specs.Ls.{shown_line}
use Rattle.filter_cli.proofs.ls.put_part.Goals as goal

pub returns-in_ok-put_line : goal.returns-in_ok-put_line
returns-in_ok-put_line c =
    let row = row_of_part c.in-Some.part in
    rw (c.in-Some.is) (
    c.in_ok-put_line.ensures row refl refl (sym c.elapsed-nanos.ensures)
    ∙ ap (λ (l : List ℕ). c.args.text.now.items ++ l) (sym (append-nil (shown_line c.args.listing row))))
