use Rattle.std.proofs.Common.{◌≡◌, option_map, map, ap, sym, ◌∙◌, true, List, [], ◌∷◌, drop, get_or, arith, ◌+◌, String, Global, string_bytes}
use Rattle.std.proofs.lemmas.List.{at_drop_more, at_drop_all, map-append}
use Rattle.command_words.specs.Items.{texts, is_text}
use Rattle.command_words.specs.Code.{item_meant}
use Rattle.command_words.proofs.ItemLemmas.{behind, one_item, one_asked, no_text, is_refused, all_asked, all_read}
use Rattle.command_words.proofs.item_reader.read_items.Goals.{in-Is+in_ok-push-in-Is, in-Asks}
use Rattle.command_words.proofs.item_reader.read_items.Goals as goal

pub loop-word-preserved : goal.loop-word-preserved
loop-word-preserved g c =
    let kinds = g.T.OptionTable.kinds c.args.table.now in
    let done = map item_meant c.loop-word.items.items in
    let asked = option_map (λ name. name.now) c.loop-word.asked in
    let rest = texts (drop (c.loop-word.word-index + 1) c.args.words.now) in
    let here : c.as_str-word.result.now ≡ string_bytes (get_or c.args.words.now c.loop-word.word-index c.word-item.result) = c.as_str-word.ensures.value ∙ ap string_bytes c.word-item.is in
    let next : behind kinds done asked (texts (drop c.loop-word.word-index c.args.words.now)) ≡ behind kinds done asked (c.as_str-word.result.now ∷ rest) =
    at_drop_more (λ (words : List (String Global)). behind kinds done asked (texts words)) c.args.words.now c.loop-word.word-index c.word-item.result (grind arith)
    ∙ ap (λ word. behind kinds done asked (word ∷ rest)) (sym here) in
    let text : is_text c.as_str-word.result.now ≡ true = sym c.if-not-is_word.ensures in
    elim c.match-take_word.branch [
      | in-Is+in_ok-push-in-Is w ↦
          rw (w.items-is, w.asked-is, w.in_ok-push-in-Is.ensures.items, map-append item_meant c.loop-word.items.items (w.in-Is.item ∷ []))
          (sym (one_item kinds done asked c.as_str-word.result.now rest (item_meant w.in-Is.item) text (sym w.in-Is.ensures)) ∙ sym next ∙ c.loop-word.invariant)
      | in-Asks w ↦
          rw (w.items-is, w.asked-is)
          (sym (one_asked kinds done asked c.as_str-word.result.now rest w.in-Asks.name.now text (sym w.in-Asks.ensures)) ∙ sym next ∙ c.loop-word.invariant)
    ]

pub returns-then-not-is_word : goal.returns-then-not-is_word
returns-then-not-is_word g c =
    let kinds = g.T.OptionTable.kinds c.args.table.now in
    let done = map item_meant c.loop-word.items.items in
    let asked = option_map (λ name. name.now) c.loop-word.asked in
    let rest = texts (drop (c.loop-word.word-index + 1) c.args.words.now) in
    let here : c.as_str-word.result.now ≡ string_bytes (get_or c.args.words.now c.loop-word.word-index c.word-item.result) = c.as_str-word.ensures.value ∙ ap string_bytes c.word-item.is in
    sym (no_text kinds done asked c.as_str-word.result.now rest (sym c.if-not-is_word.ensures))
    ∙ ap (λ word. behind kinds done asked (word ∷ rest)) here
    ∙ sym (at_drop_more (λ (words : List (String Global)). behind kinds done asked (texts words)) c.args.words.now c.loop-word.word-index c.word-item.result (grind arith))
    ∙ c.loop-word.invariant

pub returns-in-Refused : goal.returns-in-Refused
returns-in-Refused g c =
    let kinds = g.T.OptionTable.kinds c.args.table.now in
    let done = map item_meant c.loop-word.items.items in
    let asked = option_map (λ name. name.now) c.loop-word.asked in
    let rest = texts (drop (c.loop-word.word-index + 1) c.args.words.now) in
    let here : c.as_str-word.result.now ≡ string_bytes (get_or c.args.words.now c.loop-word.word-index c.word-item.result) = c.as_str-word.ensures.value ∙ ap string_bytes c.word-item.is in
    sym (is_refused kinds done asked c.as_str-word.result.now rest (sym c.if-not-is_word.ensures) (sym c.in-Refused.ensures))
    ∙ ap (λ word. behind kinds done asked (word ∷ rest)) here
    ∙ sym (at_drop_more (λ (words : List (String Global)). behind kinds done asked (texts words)) c.args.words.now c.loop-word.word-index c.word-item.result (grind arith))
    ∙ c.loop-word.invariant

pub returns-then-is_some : goal.returns-then-is_some
returns-then-is_some g c =
    let kinds = g.T.OptionTable.kinds c.args.table.now in
    let done = map item_meant c.loop-word.items.items in
    let asked = option_map (λ name. name.now) c.loop-word.asked in
    sym (all_asked kinds done c.loop-word.asked (sym c.if-is_some.ensures))
    ∙ sym (at_drop_all (λ (words : List (String Global)). behind kinds done asked (texts words)) c.args.words.now c.loop-word.word-index (grind arith))
    ∙ c.loop-word.invariant

pub returns : goal.returns
returns g c =
    let kinds = g.T.OptionTable.kinds c.args.table.now in
    let done = map item_meant c.loop-word.items.items in
    let asked = option_map (λ name. name.now) c.loop-word.asked in
    sym (all_read kinds done c.loop-word.asked (sym c.if-is_some.ensures))
    ∙ sym (at_drop_all (λ (words : List (String Global)). behind kinds done asked (texts words)) c.args.words.now c.loop-word.word-index (grind arith))
    ∙ c.loop-word.invariant
