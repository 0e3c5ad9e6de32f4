-- What holds of a chain because it holds of its steps.
use Rattle.std.proofs.Common.{◌≡◌, ℕ, Option, None, Some, Result, Ok, Err, subst, ◌∙◌}
use Rattle.edge_io.specs.Causes.{Rose}
use Rattle.edge_io.specs.Steps.{Goes}
use Rattle.command_steps.specs.Steps.{Step, Then, stops, goes_on, Gives}
use Rattle.command_steps.specs.Outside.{Work, Place, in_folder, in_site, in_spawner, in_input, in_out, SameCounts, RisesAt}
use Rattle.testr_commands.specs.Answer.{IsChildFault}
use Rattle.command_steps.specs.Refusals.{fault_place_of}
use Rattle.command_steps.specs.declared.answer.Refusal.{Refusal}
use Rattle.testr_commands.proofs.RefusalLemmas.{IsNoUsage}
use Rattle.command_steps.proofs.Resting.{KeepsReads, rests_then}

-- a chain that was done is its first step done, and then the rest
pub record Did {W A B E R : Type 0} (first : Step W A E) (second : A → Step W B R) (before after : W) (result : Result B R) : Type 0 where
  pub value : A
  pub between : W
  pub done : first before between (Ok value)
  pub next : second value between after result

pub then_did : {W A B E R : Type 0} {name : E → R} {first : Step W A E} {second : A → Step W B R} {before after : W} (value : B) → Then name first second before after (Ok value) → Did first second before after (Ok value)
then_did value (stops fault is step) = cc
then_did value (goes_on v between done next) = record { value = v; between = between; done = done; next = next }

abbrev pub IsQuiet : Work → Work → Type 0
IsQuiet a b = Goes a.folder.told b.folder.told KeepsReads

-- What is true where it refuses: it is not for the words, the count of the part whose fault it is rose and no other, and it
-- is the fault of a child only where programs are started.
pub record IsRefused (Starts : Type 0) (refusal : Refusal) (a b : Work) : Type 0 where
  pub named : IsNoUsage refusal
  pub counts : RisesAt (fault_place_of refusal) a b
  pub child : IsChildFault (Err refusal) → Starts

pub counts_after : (place : Option Place) (a m b : Work) → SameCounts a m → RisesAt place m b → RisesAt place a b
counts_after None a m b same rises = record { folder = rises.folder ∙ same.folder; site = rises.site ∙ same.site; spawner = rises.spawner ∙ same.spawner; input = rises.input ∙ same.input; out = rises.out ∙ same.out }
counts_after (Some in_folder) a m b same rises = (subst (λ (n : ℕ). Rose n b.folder.faults) same.folder rises.0, rises.1 ∙ same.site, rises.2 ∙ same.spawner, rises.3 ∙ same.input, rises.4 ∙ same.out)
counts_after (Some in_site) a m b same rises = (subst (λ (n : ℕ). Rose n b.site.faults) same.site rises.0, rises.1 ∙ same.folder, rises.2 ∙ same.spawner, rises.3 ∙ same.input, rises.4 ∙ same.out)
counts_after (Some in_spawner) a m b same rises = (subst (λ (n : ℕ). Rose n b.spawner.faults) same.spawner rises.0, rises.1 ∙ same.folder, rises.2 ∙ same.site, rises.3 ∙ same.input, rises.4 ∙ same.out)
counts_after (Some in_input) a m b same rises = (subst (λ (n : ℕ). Rose n b.input.faults) same.input rises.0, rises.1 ∙ same.folder, rises.2 ∙ same.site, rises.3 ∙ same.spawner, rises.4 ∙ same.out)
counts_after (Some in_out) a m b same rises = (subst (λ (n : ℕ). Rose n b.out.faults) same.out rises.0, rises.1 ∙ same.folder, rises.2 ∙ same.site, rises.3 ∙ same.spawner, rises.4 ∙ same.input)

pub counts_then : (a m b : Work) → SameCounts a m → SameCounts m b → SameCounts a b
counts_then a m b first second = counts_after None a m b first second

-- a step that leaves this as it was
abbrev pub LeavesPart : {W X A E : Type 0} → (W → X) → Step W A E → Type 0
LeavesPart {W = W} {A = A} {E = E} part step = (a b : W) (result : Result A E) → step a b result → part b ≡ part a

pub then_leaves : {W X A B E R : Type 0} (part : W → X) {name : E → R} {first : Step W A E} {second : A → Step W B R} → LeavesPart part first → ((v : A) → LeavesPart part (second v)) → LeavesPart part (Then name first second)
then_leaves part same rest a b result (stops fault is step) = same a b (Err fault) step
then_leaves part same rest a b result (goes_on v m step next) = rest v m b result next ∙ same a m (Ok v) step

module _ {W : Type 0} (see : W → Work) where
  -- no count rises where it is done
  abbrev pub KeepsCounts : {A E : Type 0} → Step W A E → Type 0
  KeepsCounts {A = A} step = (a b : W) (v : A) → step a b (Ok v) → SameCounts (see a) (see b)

  -- a step that leaves the folder
  abbrev pub Quiet : {A E : Type 0} → Step W A E → Type 0
  Quiet {A = A} {E = E} step = (a b : W) (result : Result A E) → step a b result → IsQuiet (see a) (see b)

  abbrev pub RefusesAs : (Starts : Type 0) {A E : Type 0} → (E → Refusal) → Step W A E → Type 0
  RefusesAs Starts {E = E} name step = (a b : W) (e : E) → step a b (Err e) → IsRefused Starts (name e) (see a) (see b)

  module _ {A B E : Type 0} {name : E → Refusal} {first : Step W A E} {second : A → Step W B Refusal} where
    pub then_quiet : Quiet first → ((v : A) → Quiet (second v)) → Quiet (Then name first second)
    then_quiet quiet rest a b result (stops e is step) = quiet a b (Err e) step
    then_quiet quiet rest a b result (goes_on v m done next) =
        rests_then (see a).folder.told (see m).folder.told (see b).folder.told (quiet a m (Ok v) done) (rest v m b result next)

    pub then_counts : KeepsCounts first → ((v : A) → KeepsCounts (second v)) → KeepsCounts (Then name first second)
    then_counts counts rest a b value (stops e is step) = cc
    then_counts counts rest a b value (goes_on v m done next) = counts_then (see a) (see m) (see b) (counts a m v done) (rest v m b value next)

    pub then_refuses : {Starts : Type 0} → KeepsCounts first → RefusesAs Starts name first → ((v : A) → RefusesAs Starts (λ r. r) (second v)) → RefusesAs Starts (λ r. r) (Then name first second)
    then_refuses {Starts = Starts} counts refuses rest a b r (stops e is step) =
        let same : name e ≡ r = cc in
        subst (λ (x : Refusal). IsRefused Starts x (see a) (see b)) same (refuses a b e step)
    then_refuses {Starts = Starts} counts refuses rest a b r (goes_on v m done next) =
        let late = rest v m b r next in
        record { named = late.named; counts = counts_after (fault_place_of r) (see a) (see m) (see b) (counts a m v done) late.counts; child = late.child }

pub gives_not : {W A R : Type 0} {value : A} (a b : W) (r : R) → Gives value a b (Err r) → ⊥
gives_not a b r gives =
    let is = gives.answer in
    cc

pub gives_refuses : {W A : Type 0} {value : A} (see : W → Work) (Starts : Type 0) → RefusesAs see Starts (λ r. r) (Gives {R = Refusal} value)
gives_refuses see Starts a b r gives = absurd (gives_not a b r gives)
