use Rattle.std.proofs.Common.{◌≡◌, true, false, ◌∙◌, refl, arith}
use Rattle.stream_reader.proofs.RoomLemmas.{spent_short}
use Rattle.filter_cli.proofs.NotedLemmas.{takes_none, takes_more, given_shorter}
use Rattle.filter_cli.proofs.note_taker.take_notes.Goals as goal

pub loop-more-init : goal.loop-more-init
loop-more-init g c = record { taken = λ notes has. takes_none _ _ notes _ _ _ has; ready = c.requires; ended = refl; plan = refl }

pub loop-more-preserved : goal.loop-more-preserved
loop-more-preserved g c =
    let inv = c.loop-more.invariant in
    let some : c.in_ok-more.more ≡ true = grind (arith, c.if-not-more.false) in
    let t = c.in_ok-more.ensures.some some in
    record {
      taken = λ notes has. takes_more (g.F.NoteFilter.has c.loop-more.filter) _ _ (g.F.NoteFilter.plan c.loop-more.filter) notes _ c.loop-more.reader _ _ c.loop-more.character _ _ c.loop-more.text.items _ t.note inv.plan (inv.taken notes has) t.given t.heard c.in_ok-more.ensures.ended t.taken t.grown;
      ready = c.in_ok-more.ensures.ready;
      ended = c.in_ok-more.ensures.ended ∙ inv.ended;
      plan = c.in_ok-more.ensures.plan ∙ inv.plan;
    }

pub loop-more-smaller : goal.loop-more-smaller
loop-more-smaller g c =
    let some : c.in_ok-more.more ≡ true = grind (arith, c.if-not-more.false) in
    let t = c.in_ok-more.ensures.some some in
    given_shorter c.loop-more.reader _ t.note t.given

pub returns-then-not-more-clause-taken : goal.returns-then-not-more-clause-taken
returns-then-not-more-clause-taken g c = λ notes has.
    let none : c.in_ok-more.more ≡ false = grind (arith, c.if-not-more.true) in
    let rest = c.in_ok-more.ensures.none none in
    rw (rest.1, rest.2, rest.3, rest.4) (c.loop-more.invariant.taken notes has)

pub returns-then-not-more-clause-spent : goal.returns-then-not-more-clause-spent
returns-then-not-more-clause-spent g c =
    let none : c.in_ok-more.more ≡ false = grind (arith, c.if-not-more.true) in
    let rest = c.in_ok-more.ensures.none none in
    rw (rest.1) rest.0

pub returns-then-not-more-clause-held : goal.returns-then-not-more-clause-held
returns-then-not-more-clause-held g c =
    let none : c.in_ok-more.more ≡ false = grind (arith, c.if-not-more.true) in
    let rest = c.in_ok-more.ensures.none none in
    rw (rest.1) (λ going_on. spent_short _ _ going_on rest.0)
