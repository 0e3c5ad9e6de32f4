use Rattle.std.proofs.Common.{codes, ◌∙◌}
use Rattle.std.specs.Fmt.{decimal}
use Rattle.command_steps.proofs.Lines.{place_told}
use Rattle.command_steps.proofs.suite_refusals.conf_line.Goals as goal

pub returns-in-NoSection : goal.returns-in-NoSection
returns-in-NoSection c = rw c.in-NoSection.is (c.conf_line_at-in-NoSection.ensures ∙ place_told (codes "testr: ") c.args.name.now (codes " line ") (decimal c.in-NoSection.number) (codes ": outside a section\n"))

pub returns-in-Repeated : goal.returns-in-Repeated
returns-in-Repeated c = rw c.in-Repeated.is (c.conf_line_at-in-Repeated.ensures ∙ place_told (codes "testr: ") c.args.name.now (codes " line ") (decimal c.in-Repeated.number) (codes ": repeated\n"))

pub returns-in-NoCommand : goal.returns-in-NoCommand
returns-in-NoCommand c = rw c.in-NoCommand.is c.conf_line_of-in-NoCommand.ensures

pub returns-in-NoTestPath : goal.returns-in-NoTestPath
returns-in-NoTestPath c = rw c.in-NoTestPath.is c.conf_line_of-in-NoTestPath.ensures

pub returns-in-NotTable : goal.returns-in-NotTable
returns-in-NotTable c = rw c.in-NotTable.is c.conf_line_of-in-NotTable.ensures
