use Rattle.std.proofs.Common.{◌≡◌, ◌++◌, ◌<◌, false, length, length-append, ap, subst, refl, arith}
use Rattle.v1_bridge.specs.Events.{longest_v1_line}
use Rattle.v1_bridge.specs.Lines.{HasNoNewline}
use Rattle.stream_reader.proofs.TurnLemmas.{split_parts}
use Rattle.old_runs.specs.Lines.{HasCut, most_held_of_line}
use Rattle.old_runs.proofs.PacketLemmas.{gives_none, gives_then, gives_so}
use Rattle.old_runs.proofs.LineLemmas.{plain_behind, cut_full, cut_held, none_held, most_held_most}
use Rattle.old_runs.proofs.lines.OldLines.add.Goals as goal

pub loop-rest-init : goal.loop-rest-init
loop-rest-init c = record {
  plain = c.requires.plain;
  ready = c.requires.ready;
  cut = λ all left given h. gives_none (HasCut c.args.self.now all (c.args.bytes.now ++ left)) c.args.packets.now.items given h;
}

pub loop-rest-preserved : goal.loop-rest-preserved
loop-rest-preserved c =
    let inv = c.loop-rest.invariant in
    let held = c.loop-rest.self.held.items in
    let front = c.split_at.result.0.now in
    let behind = c.split_at.result.1.now in
    let parts : c.loop-rest.rest.now ≡ front ++ behind = split_parts _ _ _ _ c.split_at.ensures.front c.split_at.ensures.back in
    let full : length (held ++ front) ≡ longest_v1_line = omega (arith, length-append held front, c.split_at.ensures.front_len, c.len.ensures, inv.ready.held, most_held_most c.loop-rest.self.long) in
    let goes : c.loop-rest.self.long ≡ false → 0 < length behind = λ short. omega (arith, ap most_held_of_line short, c.room.ensures, c.loop-rest-test.true, c.split_at.ensures.back_len, c.len.ensures) in
    record {
      plain = plain_behind front behind (subst HasNoNewline parts inv.plain);
      ready = record { held = none_held _ c.fill.new.self.long c.in_ok-fill.ensures.held; little = c.in_ok-fill.ensures.little };
      cut = λ all left given h.
          gives_then (HasCut c.loop-rest.self all (c.loop-rest.rest.now ++ left)) (HasCut c.fill.new.self all (behind ++ left)) _ _ _ given (inv.cut all left given h)
          (λ events k. cut_full c.loop-rest.self c.fill.new.self all c.loop-rest.rest.now front behind left _ _ events parts inv.plain full goes c.in_ok-fill.ensures.held c.in_ok-fill.ensures.long c.in_ok-fill.ensures.heard k);
    }

pub returns-clause-cut : goal.returns-clause-cut
returns-clause-cut c all left given h =
    gives_so (λ more. HasCut c.loop-rest.self all (c.loop-rest.rest.now ++ left) (given ++ more)) (λ more. HasCut _ all left (given ++ more)) _ _ (c.loop-rest.invariant.cut all left given h)
    (λ more k. cut_held c.loop-rest.self _ all c.loop-rest.rest.now left (given ++ more) c.loop-rest.invariant.plain c.in_ok-extend_from_slice.ensures.items refl refl k)
