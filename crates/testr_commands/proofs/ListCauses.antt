-- Why `list-tests` does not give up without a cause.
use Rattle.std.proofs.Common.{◌≡◌, Option, IfSome, IsSomeAnd, IsOk, All, Err, ◌++◌, sym, subst, ◌∙◌, arith}
use Rattle.edge_io.specs.Spawners.{Spawning}
use Rattle.partition_times.specs.Patterns.{IsPattern}
use Rattle.testr_conf.specs.Jobs.{list_job_of}
use Rattle.testr_conf.specs.Settings.{Settings}
use Rattle.command_steps.specs.Outside.{Work}
use Rattle.command_steps.specs.Selecting.{further_refusal}
use Rattle.command_steps.specs.Steps.{stops, goes_on}
use Rattle.command_steps.specs.declared.answer.Refusal.{Refusal}
use Rattle.command_steps.specs.declared.answer.Refusal.TheVariants as refusal
use Rattle.testr_words.specs.Suites.{ListOptions, Wanted}
use Rattle.testr_commands.specs.Further.{CanReadFurther}
use Rattle.testr_commands.specs.RunSuite.{ListsBy, ListsSuite, groups_for}
use Rattle.testr_commands.specs.SuiteProgram.{EndsWell, CanList}
use Rattle.testr_commands.proofs.ChainLemmas.{gives_not}
use Rattle.testr_commands.proofs.FurtherLaws.{further_never}
use Rattle.testr_commands.proofs.SuiteCauses.{NoCause, same_cause, conf_never, same_settings, pattern_never, listing_never}

-- what the steps behind the configuration need
record CanListBy (wanted : Wanted) (settings : Settings) (w : Work) : Type 0 where
  good : All IsPattern (wanted.patterns ++ wanted.excluded)
  good_regex : IfSome (groups_for wanted.shard settings) IsPattern
  lists : CanReadFurther wanted w.site.told
  job : IsOk (list_job_of settings)
  ends : IsSomeAnd w.spawner.told (EndsWell 0)

list_by_never : (wanted : Wanted) (settings : Settings) (a b : Work) (r : Refusal) → ListsBy wanted settings a b (Err r) → CanListBy wanted settings a → NoCause r
list_by_never wanted settings a b r (stops fault is step) can = same_cause (refusal.Pattern fault) r is (pattern_never wanted.patterns wanted.excluded (groups_for wanted.shard settings) fault can.good can.good_regex step.says)
list_by_never wanted settings a b r (goes_on _ m compiled (stops fault is step)) can =
    let same : a.site.told ≡ m.site.told = sym (λ i. (compiled.same i).site.told) in
    same_cause (further_refusal fault) r is (further_never wanted m.site b.site fault (subst (CanReadFurther wanted) same can.lists) step.at)
list_by_never wanted settings a b r (goes_on _ m compiled (goes_on further n read (stops fault is step))) can =
    let same : a.spawner.told ≡ n.spawner.told = sym ((λ i. (read.rest i).spawner.told) ∙ (λ i. (compiled.same i).spawner.told)) in
    same_cause (refusal.Listing fault) r is (listing_never settings n.spawner b.spawner fault can.job (subst (λ (o : Option Spawning). IsSomeAnd o (EndsWell 0)) same can.ends) step.at)
list_by_never wanted settings a b r (goes_on _ m compiled (goes_on further n read (goes_on ids m2 listed (stops fault is step)))) can = same_cause (refusal.Memory fault) r is ((λ three. omega arith), (λ child. child))
list_by_never wanted settings a b r (goes_on _ m compiled (goes_on further n read (goes_on ids m2 listed (goes_on text m3 written (stops fault is step))))) can = same_cause (refusal.Print fault) r is ((λ three. omega arith), (λ child. child))
list_by_never wanted settings a b r (goes_on _ m compiled (goes_on further n read (goes_on ids m2 listed (goes_on text m3 written (goes_on _ m4 printed gives))))) can = absurd (gives_not m4 b r gives)

pub list_never : (options : ListOptions) (a b : Work) (r : Refusal) → ListsSuite options a b (Err r) → CanList options a → NoCause r
list_never options a b r (stops fault is step) can = same_cause (refusal.Conf fault) r is (conf_never options.project can.settings a.site b.site fault can.conf step.at)
list_never options a b r (goes_on settings m read next) can =
    let same : can.settings ≡ settings = same_settings options.project can.settings settings a.site m.site can.conf read.at in
    let spawner : a.spawner.told ≡ m.spawner.told = sym (λ i. (read.rest i).spawner.told) in
    list_by_never options.wanted settings m b r next (record {
      good = can.good;
      good_regex = subst (λ (s : Settings). IfSome (groups_for options.wanted.shard s) IsPattern) same can.good_regex;
      lists = subst (CanReadFurther options.wanted) (sym read.at.same) can.lists;
      job = subst (λ (s : Settings). IsOk (list_job_of s)) same can.job;
      ends = subst (λ (o : Option Spawning). IsSomeAnd o (EndsWell 0)) spawner can.ends;
    })
