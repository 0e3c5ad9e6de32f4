use Rattle.std.proofs.Common.{◌≡◌, ◌⊎◌, ◌<◌, ◌-◌, inl, inr, true, length, drop, arith, refl, ap, ◌∙◌}
use Rattle.std.proofs.lemmas.List.{take_rest}
use Rattle.suite_plan.proofs.TailLemmas.{last_answered}
use Rattle.suite_plan.proofs.tail.Tail.into_last.Goals.{then-cut-via-then-cut, then-cut-via-else-cut+then-start-gt0}
use Rattle.suite_plan.proofs.tail.Tail.into_last.Goals as goal

pub returns-then-cut : goal.returns-then-cut
returns-then-cut c =
    let bytes = c.args.self.bytes.items in
    let some : (c.args.self.cut ≡ true) ⊎ (65536 < length bytes) = elim c.then-cut.branch [
      | then-cut-via-then-cut w ↦ inl w.if-cut.true
      | then-cut-via-else-cut+then-start-gt0 w ↦ inr (omega (arith, w.if-start-gt0.true, c.saturating_sub-start.ensures, c.len.ensures))
    ] in
    let start : c.saturating_sub-start.result ≡ length bytes - 65536 = omega (arith, c.saturating_sub-start.ensures, c.len.ensures) in
    let part : _ ≡ drop (length bytes - 65536) bytes = take_rest c.deref.result.now c.saturating_sub-start.result ∙ ap (λ n. drop n c.deref.result.now) start ∙ ap (drop (length bytes - 65536)) c.deref.ensures.value in
    λ text has. last_answered c.behind_dots.result text bytes _ c.args.self part refl some has c.behind_dots.ensures
