-- A command is the one that is performed.
use Rattle.std.proofs.Common.{◌≡◌, ◌⊎◌, inl, inr, ◌<◌, ◌≤◌, length, Bool, true, false, cond, Option, None, Some, Result, Err, refl, sym, ap, subst, ◌∙◌, List, ℕ}
use Rattle.std.specs.Prelude.{nat_le, option_map}
use Rattle.std.proofs.lemmas.Bool.{cond-true, cond-false, le-leb, lt-leb}
use Rattle.sub_number.specs.declared.memory.NoMemory.{NoMemory}
use Rattle.command_steps.specs.Outside.{Work}
use Rattle.testr_commands.specs.Program.{Performs, GivesUp}
use Rattle.testr_words.specs.Drawings.{drawing_of}
use Rattle.testr_words.specs.Tasks.{Task, load, selftest, task_with, quiet_of}
use Rattle.testr_words.specs.declared.command.Command.{Command}
use Rattle.testr_words.specs.declared.command.Verb.{Verb}
use Rattle.testr_words.specs.declared.command.Verb.TheVariants.{Load, Run, ListTests, SelfTest}
use Rattle.testr_words.specs.declared.selftest_words.SelfTestWords.{SelfTestWords}
use Rattle.command_steps.specs.declared.usage.UsageFault.TheVariants.{Words}
use Rattle.command_steps.specs.declared.answer.Verdict.{Verdict}
use Rattle.command_steps.specs.declared.answer.Refusal.{Refusal}
use Rattle.command_steps.specs.declared.answer.Refusal.TheVariants.{Usage, Memory}
use Rattle.testr_words.specs.Suites.{load_options}

pub performs : {read asked : Option Task} (before after : Work) (outcome : Result Verdict Refusal) → read ≡ asked → Performs read before after outcome → Performs asked before after outcome
performs before after outcome is done = subst (λ c. Performs c before after outcome) is done

-- words that are no command touch nothing
pub refuses : {asked : Option Task} (before : Work) → asked ≡ None → Performs asked before before (Err (Usage Words))
refuses before none = subst (λ c. Performs c before before (Err (Usage Words))) (sym none) (record { usage = refl; same = λ i. before })

-- a load has 64 names at most
pub too_many : (folder : List ℕ) (c : Command) → 64 < length c.names → task_with folder Load c ≡ None
too_many folder c more = cond-false (nat_le (length c.names) 64) (Some (load (load_options c) c.names)) None (lt-leb (length c.names) 64 more)

pub few_enough : (folder : List ℕ) (c : Command) → length c.names ≤ 64 → task_with folder Load c ≡ Some (load (load_options c) c.names)
few_enough folder c few = cond-true (nat_le (length c.names) 64) (Some (load (load_options c) c.names)) None (le-leb (length c.names) 64 few)

-- a load starts nothing
pub quiet_load : (folder : List ℕ) (c : Command) → quiet_of (task_with folder Load c) ≡ task_with folder Load c
quiet_load folder c = by (nat_le (length c.names) 64)
  where
    by : (few : Bool) → quiet_of (cond few (Some (load (load_options c) c.names)) None) ≡ cond few (Some (load (load_options c) c.names)) None
    by true = refl
    by false = refl

-- these start programs or threads
abbrev pub IsLoud : Verb → Type 0
IsLoud v = (v ≡ Run) ⊎ ((v ≡ ListTests) ⊎ (v ≡ SelfTest))

drawn_none : (drawn : Option SelfTestWords) → quiet_of (option_map selftest drawn) ≡ None
drawn_none None = refl
drawn_none (Some drawing) = refl

-- a command of these verbs is none that is done where nothing can be started
pub not_done : (folder : List ℕ) (v : Verb) (c : Command) → IsLoud v → quiet_of (task_with folder v c) ≡ None
not_done folder v c (inl is) = ap (λ v. quiet_of (task_with folder v c)) is
not_done folder v c (inr (inl is)) = ap (λ v. quiet_of (task_with folder v c)) is
not_done folder v c (inr (inr is)) = ap (λ v. quiet_of (task_with folder v c)) is ∙ drawn_none (drawing_of c)

-- and one of all others is done there
pub all_done : (folder : List ℕ) (v : Verb) (c : Command) → (v ≡ Run → ⊥) → (v ≡ ListTests → ⊥) → (v ≡ SelfTest → ⊥) → quiet_of (task_with folder v c) ≡ task_with folder v c
all_done folder Load c run list test = quiet_load folder c
all_done folder Run c run list test = absurd (run refl)
all_done folder ListTests c run list test = absurd (list refl)
all_done folder SelfTest c run list test = absurd (test refl)
all_done folder other c run list test = refl

pub gives_up : (before : Work) (fault : NoMemory) → GivesUp before before (Err (Memory fault))
gives_up before fault = record { fault = fault; memory = refl; same = λ i. before }
