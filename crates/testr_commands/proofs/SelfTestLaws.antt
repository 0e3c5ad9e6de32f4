-- What `selftest` comes to, from its chain, and which commands ask for it.
use Rattle.std.proofs.Common.{◌≡◌, ◌⊎◌, inl, inr, ℕ, List, Bool, true, false, cond, Option, None, Some, Ok, Err, refl, sym, ap, subst, ◌∙◌, arith}
use Rattle.edge_io.specs.Causes.{Rose}
use Rattle.edge_io.specs.Seen.{Seen}
use Rattle.command_steps.specs.Refusals.{refusal_exit_status}
use Rattle.testr_words.specs.Drawings.{are_few, drawing_of}
use Rattle.command_steps.specs.Outside.{Work, work_out}
use Rattle.testr_commands.specs.SelfTest.{TestsItself, SumsUpAll, rows_in_turn}
use Rattle.command_steps.specs.Steps.{stops, goes_on}
use Rattle.command_steps.specs.Verdicts.{verdict_exit_status}
use Rattle.command_steps.specs.declared.answer.Verdict.{Verdict}
use Rattle.command_steps.specs.declared.answer.Refusal.{Refusal}
use Rattle.command_steps.specs.declared.answer.Refusal.TheVariants.{Memory, Print}
use Rattle.testr_words.specs.declared.command.Command.{Command}
use Rattle.testr_words.specs.declared.selftest_words.SelfTestWords.{SelfTestWords}
use Rattle.testr_commands.proofs.ChainLemmas.{LeavesPart, then_leaves, gives_not}
use Rattle.testr_commands.proofs.DoneLaws.{appended, same_verdict, status_is}

-- nothing but the output is touched
abbrev pub beside : Seen (List ℕ) → Work → Work
beside out w = work_out.put w out

pub selftest_beside : (out : Seen (List ℕ)) (drawing : SelfTestWords) → LeavesPart (beside out) (TestsItself drawing)
selftest_beside out drawing =
    then_leaves (beside out) (λ a b r s. ap (beside out) s.same) (λ told.
    then_leaves (beside out) (λ a b r s. ap (beside out) s.rest) (λ _ a b r s.
    ap (beside out) s.same))

-- it refuses for want of memory, or by a fault of the output
selftest_ends : (drawing : SelfTestWords) (a b : Work) (r : Refusal) → TestsItself drawing a b (Err r) → (refusal_exit_status r ≡ 5) ⊎ ((refusal_exit_status r ≡ 4) × Rose a.out.faults b.out.faults)
selftest_ends drawing a b r (stops fault is still) =
    let same : r ≡ Memory fault = cc in
    inl (ap refusal_exit_status same)
selftest_ends drawing a b r (goes_on told m still (stops fault is printed)) =
    let same : r ≡ Print fault = cc in
    inr (ap refusal_exit_status same, subst (λ (w : Work). Rose w.out.faults b.out.faults) still.same printed.at.count.failed)
selftest_ends drawing a b r (goes_on told m still (goes_on _ n printed gives)) = absurd (gives_not n b r gives)

pub selftest_failed : (drawing : SelfTestWords) (a b : Work) (r : Refusal) → TestsItself drawing a b (Err r) → refusal_exit_status r ≡ 4 → Rose a.out.faults b.out.faults
selftest_failed drawing a b r done four = elim (selftest_ends drawing a b r done) [
  | inl five ↦ absurd (omega (arith, five, four))
  | inr at ↦ at.1
]

pub selftest_never : (drawing : SelfTestWords) (a b : Work) (r : Refusal) → TestsItself drawing a b (Err r) → refusal_exit_status r ≡ 3 → ⊥
selftest_never drawing a b r done three = elim (selftest_ends drawing a b r done) [
  | inl five ↦ omega (arith, five, three)
  | inr at ↦ omega (arith, at.0, three)
]

pub selftest_did : (drawing : SelfTestWords) (a b : Work) (v : Verdict) → TestsItself drawing a b (Ok v) → SumsUpAll drawing a b (verdict_exit_status v)
selftest_did drawing a b v (stops fault is still) = cc
selftest_did drawing a b v (goes_on told m still (stops fault is printed)) = cc
selftest_did drawing a b v (goes_on told m still (goes_on _ n printed gives)) =
    let sums = still.says.told in
    record {
      printed = appended (λ i. (still.same i).out.told) (λ i. (sym gives.same i).out.told) sums.text printed.at.whole;
      status = ap verdict_exit_status (same_verdict gives.answer ∙ sums.verdict) ∙ status_is (rows_in_turn drawing);
    }

-- ---- which commands ask for it

none_some : {X : Type 0} {x : X} → ◌≡◌ {A = Option X} None (Some x) → ⊥
none_some is = cc

few_where : (few : Bool) (given drawing : SelfTestWords) → are_few given.lanes given.tests ≡ few → cond few (Some given) None ≡ Some drawing → are_few drawing.lanes drawing.tests ≡ true
few_where true given drawing is same =
    let one : given ≡ drawing = cc in
    sym (ap (λ (d : SelfTestWords). are_few d.lanes d.tests) one) ∙ is
few_where false given drawing is same = absurd (none_some same)

-- the lanes and the tests of a drawing that is asked for are few
pub few_drawn : (c : Command) (drawing : SelfTestWords) → drawing_of c ≡ Some drawing → are_few drawing.lanes drawing.tests ≡ true
few_drawn c drawing drawn = few_where (are_few c.lanes c.tests) (record { seed = c.seed; lanes = c.lanes; tests = c.tests }) drawing refl drawn
