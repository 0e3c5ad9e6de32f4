use Rattle.std.proofs.Common.{◌∙◌, ◌++◌, ◌∷◌, [], ◌+◌, ℕ, List, take, ap, sym, append-nil, length, arith}
use Rattle.std.proofs.lemmas.List.{take_rest, length-drop}
use Rattle.old_runs.specs.Lines.{HasCut}
use Rattle.old_runs.proofs.PacketLemmas.{gives_none, gives_then}
use Rattle.old_runs.proofs.LineLemmas.{none_plain, front_plain, cut_there, cut_fed, cut_same}
use Rattle.old_runs.proofs.lines.OldLines.feed.Goals as goal

pub loop-count-init : goal.loop-count-init
loop-count-init c = record {
  within = omega arith;
  ready = c.requires.ready;
  cut = λ bytes given h. gives_none (HasCut c.args.self.now (bytes ++ c.args.piece.now) c.args.piece.now) c.args.packets.now.items given (cut_fed c.args.self.now bytes c.args.piece.now given h);
}

pub add-requires-clause-plain : goal.add-requires-clause-plain
add-requires-clause-plain c = front_plain c.loop-count.left.now c.in-Some.count c.in-Some.ensures

pub add-requires-2-clause-plain : goal.add-requires-2-clause-plain
add-requires-2-clause-plain c = none_plain c.loop-count.left.now c.in_default.ensures

pub loop-count-preserved : goal.loop-count-preserved
loop-count-preserved c =
    let left = c.loop-count.left.now in
    let count = c.in-Some.count in
    let is = cut_there left count c.in-Some.ensures ∙ ap (λ (l : List ℕ). take count left ++ 10 ∷ l) (sym (take_rest left (count + 1))) in
    record {
      within = omega (arith, c.loop-count.invariant.within, ap length (take_rest left (count + 1)), length-drop (count + 1) left);
      ready = c.in_ok-end_line.ensures.ready;
      cut = λ bytes given h.
          let all = bytes ++ c.args.piece.now in
          gives_then (HasCut c.loop-count.self all left) (HasCut c.end_line.new.self all _) _ _ _ given (c.loop-count.invariant.cut bytes given h)
          (λ events k. gives_then (HasCut c.add.new.self all (10 ∷ _)) (HasCut c.end_line.new.self all _) _ _ _ events (c.in_ok-add.ensures.cut all (10 ∷ _) events (cut_same c.loop-count.self all left _ events is k))
          (λ more m. c.in_ok-end_line.ensures.cut all _ more m));
    }

pub returns-clause-fed : goal.returns-clause-fed
returns-clause-fed c bytes given h =
    let all = bytes ++ c.args.piece.now in
    let left = c.loop-count.left.now in
    gives_then (HasCut c.loop-count.self all left) (HasCut c.add-2.new.self all []) _ _ _ given (c.loop-count.invariant.cut bytes given h)
    (λ events k. c.in_ok-add-2.ensures.cut all [] events (cut_same c.loop-count.self all left (left ++ []) events (sym (append-nil left)) k))
