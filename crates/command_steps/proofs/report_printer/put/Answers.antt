use Rattle.std.proofs.Common.{◌≡◌, [], rules}
use Rattle.std.proofs.lemmas.Result.{err_from_is_err_and}
use Rattle.command_steps.proofs.PrintingLemmas.{passes_stopped, passes_past}
use Rattle.command_steps.proofs.report_printer.put.Goals as goal

pub returns-in_err-print_text : goal.returns-in_err-print_text
returns-in_err-print_text g c =
    let held : c.as_slice.result.now ≡ c.args.gathered.now.items = search rules in
    let p = err_from_is_err_and c.from_residual.result c.from_residual.ensures.1 in
    rw (p.1, p.2) (passes_stopped held c.in_err-print_text.ensures)

pub returns : goal.returns
returns g c =
    let held : c.as_slice.result.now ≡ c.args.gathered.now.items = search rules in
    let none : c.try_extend_from_slice-2.new.self.items ≡ [] = search rules in
    passes_past held c.in_ok-print_text.ensures none c.print_text-2.ensures
