use Rattle.std.proofs.Common.{◌<◌, ◌+◌, length, sym, subst, ap, arith, rules}
use Rattle.std.proofs.lemmas.List.{take_rest, length-take, length-drop}
use Rattle.std.proofs.lemmas.Grind.{common_steps}
use Rattle.sub_number.specs.Texts.{IsText}
use Rattle.testr_conf.proofs.TextLemmas.{text_before, text_behind}
use Rattle.testr_conf.proofs.WordLemmas.{words_more, words_end, gap_at}
use Rattle.testr_conf.proofs.white_space.read_words.Goals as goal

pub loop-at-init : goal.loop-at-init
loop-at-init c = record {
  read = first_of (search rules, grind (arith, common_steps));
  shorter = omega arith;
  text = c.requires.text;
}

pub push_word-requires : goal.push_word-requires
push_word-requires c = record {
  text = text_before c.loop-at.rest.now c.in-Some.at c.loop-at.invariant.text c.in-Some.ensures.1 (gap_at c.loop-at.rest.now c.in-Some.at c.in-Some.ensures.0 c.in-Some.ensures.1);
  short = omega (arith, length-take c.in-Some.at c.loop-at.rest.now, c.loop-at.invariant.shorter, c.requires.short);
}

pub overflow_add-rest : goal.overflow_add-rest
overflow_add-rest c = let below : c.in-Some.at < length c.loop-at.rest.now = c.in-Some.ensures.1 in omega (arith, c.loop-at.invariant.shorter)

pub loop-at-preserved : goal.loop-at-preserved
loop-at-preserved c = record {
  read = words_more c.loop-at.rest.now c.in-Some.at c.in-Some.ensures.0 c.in-Some.ensures.1 c.args.text.now c.loop-at.words c.push_word.new.words
      c.loop-at.invariant.read c.in_ok-push_word.ensures;
  shorter = omega (arith, c.loop-at.invariant.shorter, ap length (take_rest c.loop-at.rest.now (c.in-Some.at + 1)), length-drop (c.in-Some.at + 1) c.loop-at.rest.now);
  text =
      subst IsText (sym (take_rest c.loop-at.rest.now (c.in-Some.at + 1)))
      (text_behind c.loop-at.rest.now c.in-Some.at c.loop-at.invariant.text c.in-Some.ensures.1 (gap_at c.loop-at.rest.now c.in-Some.at c.in-Some.ensures.0 c.in-Some.ensures.1));
}

pub returns : goal.returns
returns c = words_end c.args.text.now c.loop-at.rest.now c.loop-at.words c.push_word-2.new.words c.loop-at.invariant.read c.in_default.ensures c.in_ok-push_word-2.ensures
