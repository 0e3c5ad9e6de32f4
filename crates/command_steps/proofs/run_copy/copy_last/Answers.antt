use Rattle.std.proofs.Common.{◌-◌, ap, refl, arith}
use Rattle.run_shelf.specs.Holds.{kinds_of}
use Rattle.run_shelf.proofs.Joining.{stays_some}
use Rattle.command_steps.proofs.CopyLemmas.{copies_as, copied_none, copied_more, copied_whole, copied_not, copied_on}
use Rattle.command_steps.proofs.run_copy.copy_last.Goals as goal

pub loop-piece-init : goal.loop-piece-init
loop-piece-init g c = record {
  copied = copied_none _ _ _ (kinds_of c.args.found.now) refl (omega (arith, c.runs-number.ensures, c.requires.some)) c.requires.fits;
  fits = c.requires.fits;
}

pub loop-piece-preserved : goal.loop-piece-preserved
loop-piece-preserved g c =
    let before = c.loop-piece.invariant in
    record {
      copied = copied_more _ _ _ _ before.copied _ _ _ c.in_ok-count.ensures _ (omega arith) (omega (arith, c.if-count-lt-PIECE.false));
      fits = stays_some _ _ _ before.fits c.in_ok-count.ensures.counts.same;
    }

pub returns-in_err-count : goal.returns-in_err-count
returns-in_err-count g c =
    copies_as (ap (λ n. n - 1) c.runs-number.ensures)
    (copied_not _ _ _ _ c.loop-piece.invariant.copied _ _ _ _ c.from_residual.ensures.1 c.in_err-count.ensures)

pub returns-then-count-lt-PIECE : goal.returns-then-count-lt-PIECE
returns-then-count-lt-PIECE g c =
    copies_as (ap (λ n. n - 1) c.runs-number.ensures)
    (copied_whole _ _ _ _ c.loop-piece.invariant.copied _ _ _ c.in_ok-count.ensures (omega (arith, c.if-count-lt-PIECE.true)))

pub returns : goal.returns
returns g c =
    copies_as (ap (λ n. n - 1) c.runs-number.ensures)
    (copied_on _ _ _ _ c.loop-piece.invariant.copied)
