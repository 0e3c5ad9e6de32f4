use Rattle.std.proofs.Common.{◌≡◌, ◌<◌, length, sym, ap, ◌∙◌, arith, List, ℕ}
use Rattle.std.specs.List.{position_or_len}
use Rattle.std.proofs.lemmas.Result.{IfOk-weaker}
use Rattle.v1_bridge.specs.TagWords.{is_space_or_tab, tags_after_words, spaced_words}
use Rattle.v1_bridge.proofs.WordLemmas.{word_more, word_stops, words_last, told_none, told_some}
use Rattle.v1_bridge.proofs.tags.take_words.Goals as goal

pub returns-then-not-branch : goal.returns-then-not-branch
returns-then-not-branch c =
    let below : c.word_size-at.result < length c.loop-rest.rest.now = omega (arith, c.word_size.ensures.count, c.word_size-at.ensures.count, c.loop-rest-test.true) in
    word_stops c.loop-rest.set c.loop-rest.rest.now c.word_size-at.result c.word_size-at.ensures.count below
    (told_none c.in_ok-take_word.field-0 c.take_word.new.set _ c.if-not-branch.true c.in_ok-take_word.ensures) ∙ c.loop-rest.invariant.read

pub loop-rest-preserved : goal.loop-rest-preserved
loop-rest-preserved c =
    let below : c.word_size-at.result < length c.loop-rest.rest.now = omega (arith, c.word_size.ensures.count, c.word_size-at.ensures.count, c.loop-rest-test.true) in
    record {
      read = ap (λ (t : List ℕ). tags_after_words c.take_word.new.set (spaced_words t)) c.bytes_behind-rest.ensures.rest
          ∙ sym (word_more c.loop-rest.set c.loop-rest.rest.now c.word_size-at.result c.word_size-at.ensures.count below c.take_word.new.set (told_some c.in_ok-take_word.field-0 c.take_word.new.set _ c.if-not-branch.false c.in_ok-take_word.ensures))
          ∙ c.loop-rest.invariant.read;
      shorter = omega (arith, c.bytes_behind-rest.ensures.within, c.loop-rest.invariant.shorter);
    }

pub returns : goal.returns
returns c =
    let none : position_or_len is_space_or_tab c.loop-rest.rest.now ≡ length c.loop-rest.rest.now = omega (arith, c.word_size.ensures.count, c.word_size.ensures.within, c.loop-rest-test.false) in
    IfOk-weaker c.take_word-2.result _ _ (λ told is. is ∙ ap (tags_after_words c.loop-rest.set) (sym (words_last c.loop-rest.rest.now none)) ∙ c.loop-rest.invariant.read) c.take_word-2.ensures
