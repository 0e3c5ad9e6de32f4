-- The job that lists the tests.
use Rattle.std.proofs.Common.{◌≡◌, ℕ, true, Some, Ok, Err, List, [], sym, ap, ◌∙◌}
use Rattle.std.specs.Option.{unwrap_or}
use Rattle.std.proofs.lemmas.Bool.{cond-true}
use Rattle.edge_io.specs.declared.job.Job.{Job}
use Rattle.testr_conf.specs.Settings.{Settings}
use Rattle.testr_conf.specs.Variables.{of_test, has_variable, filled}
use Rattle.testr_conf.specs.Jobs.{list_values, list_job_by, plain_job}
use Rattle.testr_conf.specs.declared.fault.JobFault.TheVariants.{NoOption}
use Rattle.testr_conf.specs.declared.fault.Key.TheVariants as key
use Rattle.testr_conf.specs.declared.variable.Variable.TheVariants as name

pub list_told : (settings : Settings) (command id_list option out : List ℕ) (job : Job) → settings.command ≡ command → id_list ≡ unwrap_or settings.id_list [] → settings.list_option ≡ Some option
    → has_variable name.ListOption command ≡ true → out ≡ filled (of_test (list_values id_list option)) command → job ≡ plain_job out → list_job_by settings.command (unwrap_or settings.id_list []) settings.list_option ≡ Ok job
list_told settings command id_list option out job command_is ids_are option_is has out_is job_is =
    ap (list_job_by settings.command (unwrap_or settings.id_list [])) option_is ∙ ap (λ c. list_job_by c (unwrap_or settings.id_list []) (Some option)) command_is
    ∙ ap (λ l. list_job_by command l (Some option)) (sym ids_are)
    ∙ cond-true (has_variable name.ListOption command) (Ok (plain_job (filled (of_test (list_values id_list option)) command))) (Err (NoOption key.ListOption)) has
    ∙ ap (λ o. Ok (plain_job o)) (sym out_is) ∙ ap Ok (sym job_is)
