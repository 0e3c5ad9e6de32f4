use Rattle.std.proofs.Common.{◌≡◌, ◌≤◌, ◌∷◌, [], ap, sym, subst, ◌∙◌, length, arith, rules}
use Rattle.std.proofs.lemmas.Grind.{common_steps}
use Rattle.sub_number.specs.Texts.{IsText}
use Rattle.testr_conf.specs.Lines.{ended_line_of, placed_line}
use Rattle.testr_conf.specs.Seen.{conf_line_meant}
use Rattle.testr_conf.specs.Parts.{FitsWithin}
use Rattle.testr_conf.proofs.TextLemmas.{text_then, text_one}
use Rattle.testr_conf.proofs.InnerLemmas.{more_read, skipped_read}
use Rattle.testr_conf.proofs.PartLemmas.{read_fits, room_first, room_more, room_skipped}
use Rattle.testr_conf.proofs.line_reader.join_value.Goals as goal

pub loop-line-init : goal.loop-line-init
loop-line-init c = record {
  value = first_of (search rules, grind (arith, common_steps));
  text = subst IsText (sym c.in_ok-value.ensures.items) c.requires;
  room = room_first c.args.own.now c.args.below.now c.in_ok-value.value.items c.lines_with_terminator-lines.result c.in_ok-value.ensures.items c.lines_with_terminator-lines.ensures.value;
}

pub loop-line-preserved-in-Continue-branch-3 : goal.loop-line-preserved-in-Continue-branch-3
loop-line-preserved-in-Continue-branch-3 c =
    let kind_is : conf_line_meant c.behind.result ≡ placed_line c.args.depth (ended_line_of c.in-Some.line.now) = c.behind.ensures ∙ ap (placed_line c.args.depth) c.read_line.ensures in
    let fits : FitsWithin (conf_line_meant c.behind.result) (length c.in-Some.line.now) =
    read_fits c.args.depth (conf_line_meant c.behind.result) c.in-Some.line.now (length c.in-Some.line.now) kind_is (omega arith) in
    let parts : IsText c.in-More.text.now × (length c.in-More.text.now ≤ length c.in-Some.line.now) = (subst (λ k. FitsWithin k (length c.in-Some.line.now)) (ap conf_line_meant c.in-More.is) fits).0 in
    record {
      value = more_read _ c.loop-line.value.items c.args.depth c.loop-line.lines c.next.new.self c.in-Some.line.now (conf_line_meant c.behind.result) c.loop-line.invariant.value c.in-Some.ensures.steps kind_is
          _ c.in-More.text.now _ c.push.new.self.items c.extend_from_slice.new.self.items (ap conf_line_meant c.in-More.is) c.in_ok-push-in-More.ensures.items c.in_ok-extend_from_slice-in-More.ensures.items;
      text =
          text_then c.push.new.self.items c.extend_from_slice.new.self.items c.in-More.text.now c.in_ok-extend_from_slice-in-More.ensures.items
          (text_then c.loop-line.value.items c.push.new.self.items (10 ∷ []) c.in_ok-push-in-More.ensures.items c.loop-line.invariant.text (text_one 10 (omega arith) (omega arith)))
          parts.0;
      room = room_more c.loop-line.lines c.next.new.self c.in-Some.line.now c.in-More.text.now c.loop-line.value.items c.push.new.self.items c.extend_from_slice.new.self.items _
          c.in-Some.ensures.steps parts.1 c.in_ok-push-in-More.ensures.items c.in_ok-extend_from_slice-in-More.ensures.items c.loop-line.invariant.room;
    }

pub loop-line-preserved : goal.loop-line-preserved
loop-line-preserved c = record {
  value = skipped_read _ c.loop-line.value.items c.args.depth c.loop-line.lines c.next.new.self c.in-Some.line.now (conf_line_meant c.behind.result) c.loop-line.invariant.value c.in-Some.ensures.steps
      (c.behind.ensures ∙ ap (placed_line c.args.depth) c.read_line.ensures)
      (ap conf_line_meant c.in-Skipped.is);
  text = c.loop-line.invariant.text;
  room = room_skipped c.loop-line.lines c.next.new.self c.in-Some.line.now c.loop-line.value.items _ c.in-Some.ensures.steps c.loop-line.invariant.room;
}
