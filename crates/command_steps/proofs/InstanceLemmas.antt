-- Instances that are provided, and why there may be none.
use Rattle.std.proofs.Common.{◌≡◌, ◌∙◌, inl, inr, ap, sym, subst, ℕ, List, refl, arith, true≢false}
use Rattle.std.specs.Prelude.{Option, Some, None, Result, Ok, Err, IfOk, IfErr}
use Rattle.std.specs.Result.{is_err}
use Rattle.edge_io.specs.Seen.{Seen}
use Rattle.edge_io.specs.Spawners.{Spawning}
use Rattle.edge_io.specs.Steps.{Goes}
use Rattle.edge_io.specs.declared.job.Job.{Job}
use Rattle.suite_plan.specs.Provisioning.{Provisions, HasProvisionCause}
use Rattle.suite_plan.specs.declared.provisioning.ProvisionRefusal.{ProvisionRefusal}
use Rattle.suite_plan.specs.declared.provisioning.ProvisionRefusal.TheVariants.{NamesLost, NoMemory}
use Rattle.testr_conf.specs.Jobs.{dispose_job_of}
use Rattle.testr_conf.specs.Settings.{Settings}
use Rattle.command_steps.specs.Instances.{Provides, disposal_behind, provided}
use Rattle.command_steps.specs.declared.instances.Provided.{Provided}
use Rattle.command_steps.specs.declared.instances.Unprovided.{Unprovided}

module _ (settings : Settings) (workers : ℕ) (before after : Seen Spawning) where
  pub goes_on : (names : Option (List (List ℕ))) (given : Provided) → Provisions settings workers before after (Ok names) → given ≡ provided settings workers names → Provides settings workers before after (Ok given)
  goes_on names given provisions is = record { given = record { names = names; provisions = provisions; given_is = is }; refused = tt }

  pub none_go_on : (fault : Unprovided) → Provisions settings workers before after (Err fault.refusal) → fault.disposal ≡ disposal_behind settings fault.refusal → Provides settings workers before after (Err fault)
  none_go_on fault provisions is = record { given = tt; refused = inl (record { provisions = provisions; disposal_is = is }) }

  pub short : (names : List (List ℕ)) (fault : Unprovided) → Provisions settings workers before after (Ok (Some names)) → fault.refusal ≡ NamesLost → fault.disposal ≡ dispose_job_of settings → Provides settings workers before after (Err fault)
  short names fault provisions why is = record {
    given = tt;
    refused = inr (record { lost = why; disposal_is = is ∙ ap (λ (r : ProvisionRefusal). disposal_behind settings r) (sym why); names = names; provisions = provisions });
  }

  -- there are none, and what was made in front disposes of them where it is to
  pub behind : (fault : Unprovided) (refusal : ProvisionRefusal) (spare : Option Job) → Provisions settings workers before after (Err refusal) → fault.refusal ≡ refusal → spare ≡ dispose_job_of settings
      → ((s : Settings) → spare ≡ dispose_job_of s → fault.disposal ≡ disposal_behind s refusal) → Provides settings workers before after (Err fault)
  behind fault refusal spare provisions why is disposal =
      none_go_on fault (subst (λ (r : ProvisionRefusal). Provisions settings workers before after (Err r)) (sym why) provisions)
      (disposal settings is ∙ ap (λ (r : ProvisionRefusal). disposal_behind settings r) (sym why))

  -- what goes on with these instances, or why there is no memory for them
  pub by_names : (names : List (List ℕ)) (result : Result Provided Unprovided) → Provisions settings workers before after (Ok (Some names)) → IfOk result (λ given. given ≡ provided settings workers (Some names)) → IfErr result (λ fault. (fault.refusal ≡ NamesLost) × (fault.disposal ≡ dispose_job_of settings)) → Provides settings workers before after result
  by_names names (Ok given) provisions is lost = goes_on (Some names) given provisions is
  by_names names (Err fault) provisions is lost = short names fault provisions lost.0 lost.1

-- nothing was done for want of memory
pub nothing_done : (settings : Settings) (workers : ℕ) (seen : Seen Spawning) → Provisions settings workers seen seen (Err NoMemory)
nothing_done settings workers seen = record {
  told = tt;
  refused = by seen.told;
  jobless = λ is. absurd (true≢false (ap is_err is));
  exactly = λ none. inr refl;
  count = record { later = omega arith; rose = λ is. absurd (true≢false (sym is)); stands = λ is. refl };
}
  where
    by : (told : Option Spawning) → Goes told told (HasProvisionCause settings workers NoMemory)
    by None = tt
    by (Some s) = inl refl

pub not_begun : (settings : Settings) (workers : ℕ) (seen : Seen Spawning) (fault : Unprovided) → fault.refusal ≡ NoMemory → fault.disposal ≡ None → Provides settings workers seen seen (Err fault)
not_begun settings workers seen fault memory kept = behind settings workers seen seen fault NoMemory (dispose_job_of settings) (nothing_done settings workers seen) memory refl (λ s is. kept)
