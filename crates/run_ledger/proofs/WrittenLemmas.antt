-- Events whose rows are summed up as their packets are written.
use Rattle.std.proofs.Common.{◌≡◌, ℕ, ◌<◌, List, [], ◌∷◌, ◌++◌, Result, Ok, Err, IfOk, OnOk, All, length, drop, refl, sym, ap, ◌∙◌, append_assoc, subst, arith}
use Rattle.std.specs.List.{flat_map}
use Rattle.std.specs.Option.{option_to_list}
use Rattle.std.proofs.lemmas.List.{length-append, append-nil, drop_at}
use Rattle.std.proofs.lemmas.List.Concat.{flat_map-append}
use Rattle.std.proofs.lemmas.List.Elements.{All-nil, All-cons, All-append, All-head, All-tail}
use Rattle.packet_codec.specs.declared.event.Event.{Event}
use Rattle.packet_codec.specs.Canonical.{IsEvent, Fits, canonical}
use Rattle.packet_codec.specs.Grammar.{SpellsFront}
use Rattle.packet_codec.specs.Packet.{SpellsEvent}
use Rattle.packet_codec.specs.Packets.{ArePackets, ArePacketsOf}
use Rattle.packet_codec.proofs.SpellingLemmas.{canonical_spells}
use Rattle.stream_reader.proofs.FrontLemmas.{packet_some}
use Rattle.stream_reader.proofs.NotesLemmas.{packet_pieces, notes_of_packets, events_of_packets, cut_of_written}
use Rattle.stream_reader.specs.Notes.{HasEvents}
use Rattle.outcome_fold.specs.declared.summary.Summary.{Summary}
use Rattle.outcome_fold.specs.declared.row_sums.RowSums.{RowSums}
use Rattle.outcome_fold.specs.Rows.{completed_behind, completed_row, rows_of}
use Rattle.outcome_fold.specs.declared.row.Row.{Row}
use Rattle.outcome_fold.specs.Summed.{Sums, HasSummed}
use Rattle.run_ledger.specs.declared.written_run.WrittenRun.{WrittenRun}
use Rattle.run_ledger.specs.Reading.{SumsRowsOf}
use Rattle.run_ledger.specs.Writing.{HasWrittenRun}
use Rattle.run_ledger.proofs.FoldLemmas.{if_ok_then}

-- ---- the packets of a piece, one after another

-- the packet of the first one stands at the front
abbrev first_found : (event : Event) (events : List Event) (bytes : List ℕ) → ArePacketsOf (event ∷ events) bytes → SpellsFront SpellsEvent bytes event (flat_map canonical events)
first_found event events bytes are = record { front = canonical event; parts = are.packets; spelled = canonical_spells event (All-head IsEvent event events are.are_events) (All-head Fits event events are.fit) }

-- behind it stand those of the others
others_are : (event : Event) (events : List Event) (bytes : List ℕ) (size : ℕ) → ArePacketsOf (event ∷ events) bytes → size ≡ length (canonical event) → ArePacketsOf events (drop size bytes)
others_are event events bytes size are is = record {
  are_events = All-tail IsEvent event events are.are_events;
  fit = All-tail Fits event events are.fit;
  packets = ap (drop size) are.packets ∙ drop_at (canonical event) (flat_map canonical events) size (sym is);
}

no_event : (bytes : List ℕ) → 0 < length bytes → ArePacketsOf [] bytes → ⊥
no_event bytes some are = omega (arith, some, ap length are.packets)

pub packet_stands : (bytes : List ℕ) → 0 < length bytes → ArePackets bytes → (event : Event) × (behind : List ℕ) × SpellsFront SpellsEvent bytes event behind
packet_stands bytes some ([], are) = absurd (no_event bytes some are)
packet_stands bytes some (event ∷ events, are) = (event, flat_map canonical events, first_found event events bytes are)

-- the size of the packet at the front
abbrev IsFrontSize : (bytes : List ℕ) (size : ℕ) → Type 0
IsFrontSize bytes size = (event : Event) (behind : List ℕ) → (found : SpellsFront SpellsEvent bytes event behind) → size ≡ length found.front

pub packets_left : (left : List ℕ) (size : ℕ) → 0 < length left → IsFrontSize left size → ArePackets left → ArePackets (drop size left)
packets_left left size some is ([], are) = absurd (no_event left some are)
packets_left left size some is (event ∷ events, are) = (events, others_are event events left size are (is event (flat_map canonical events) (first_found event events left are)))

-- some of the events were heard, and what is left is the packets of the others
abbrev pub IsSummedTo : (bytes left : List ℕ) (old now : RowSums) → Type 0
IsSummedTo bytes left old now = (filter_tags : List (List ℕ)) (seen events : List Event) → ArePacketsOf events bytes → HasSummed filter_tags old seen → (done : List Event) × (others : List Event) × (events ≡ done ++ others) × ArePacketsOf others left × HasSummed filter_tags now (seen ++ done)

pub summed_none : (bytes : List ℕ) (old : RowSums) → IsSummedTo bytes bytes old old
summed_none bytes old filter_tags seen events are summed = ([], events, refl, are, rw (append-nil seen) summed)

-- one packet more was heard
pub summed_more : (bytes left : List ℕ) (old now new : RowSums) (size : ℕ) → 0 < length left → IsFrontSize left size
    → ((filter_tags : List (List ℕ)) (seen : List Event) (event : Event) (behind : List ℕ) → SpellsFront SpellsEvent left event behind → HasSummed filter_tags now seen → HasSummed filter_tags new (seen ++ event ∷ []))
    → IsSummedTo bytes left old now → IsSummedTo bytes (drop size left) old new
summed_more bytes left old now new size some is step so_far filter_tags seen events are summed = more (so_far filter_tags seen events are summed)
  where
    more : (done : List Event) × (others : List Event) × (events ≡ done ++ others) × ArePacketsOf others left × HasSummed filter_tags now (seen ++ done)
        → (done : List Event) × (others : List Event) × (events ≡ done ++ others) × ArePacketsOf others (drop size left) × HasSummed filter_tags new (seen ++ done)
    more (done, [], parts, rest, now_summed) = absurd (no_event left some rest)
    more (done, event ∷ others, parts, rest, now_summed) =
        let found = first_found event others left rest in (
          done ++ event ∷ [],
          others,
          parts ∙ sym (append_assoc done (event ∷ []) others),
          others_are event others left size rest (is event (flat_map canonical others) found),
          rw (← append_assoc seen done (event ∷ [])) (step filter_tags (seen ++ done) event (flat_map canonical others) found now_summed),
        )

-- where none is left, all were heard
pub summed_all : (bytes left : List ℕ) (old now : RowSums) → length left ≡ 0 → IsSummedTo bytes left old now
    → (filter_tags : List (List ℕ)) (seen events : List Event) → ArePacketsOf events bytes → HasSummed filter_tags old seen → HasSummed filter_tags now (seen ++ events)
summed_all bytes left old now none so_far filter_tags seen events are summed = all (so_far filter_tags seen events are summed)
  where
    some_bytes : (event : Event) → IsEvent event → Fits event → 0 < length (canonical event)
    some_bytes event is fits = packet_some (canonical event) event (canonical_spells event is fits)

    all : (done : List Event) × (others : List Event) × (events ≡ done ++ others) × ArePacketsOf others left × HasSummed filter_tags now (seen ++ done) → HasSummed filter_tags now (seen ++ events)
    all (done, [], parts, rest, now_summed) = rw (parts ∙ append-nil done) now_summed
    all (done, event ∷ others, parts, rest, now_summed) = absurd (omega (arith, none, some_bytes event (All-head IsEvent event others rest.are_events) (All-head Fits event others rest.fit), ap length rest.packets, length-append (canonical event) (flat_map canonical others)))

-- ---- and what an ear was told of their rows

behind_push : (seen es : List Event) (e : Event) → completed_behind seen (es ++ e ∷ []) ≡ completed_behind seen es ++ option_to_list (completed_row (seen ++ es) e)
behind_push seen [] e = append-nil (option_to_list (completed_row seen e)) ∙ ap (λ s. option_to_list (completed_row s e)) (sym (append-nil seen))
behind_push seen (x ∷ es) e =
    ap (λ l. option_to_list (completed_row seen x) ++ l) (behind_push (seen ++ x ∷ []) es e ∙ ap (λ s. completed_behind (seen ++ x ∷ []) es ++ option_to_list (completed_row s e)) (append_assoc seen (x ∷ []) es))
    ∙ sym (append_assoc (option_to_list (completed_row seen x)) (completed_behind (seen ++ x ∷ []) es) (option_to_list (completed_row (seen ++ x ∷ es) e)))

module _ {E : Type 0} (told : E → E → List Row → Type 0) where
  -- some of the events were heard, and what is left is the packets of the others; the ear was told the rows
  abbrev pub IsToldTo : (bytes left : List ℕ) (old now : RowSums) (first ear : E) → Type 0
  IsToldTo bytes left old now first ear = (filter_tags : List (List ℕ)) (seen events : List Event) (begun : E) (rows : List Row) → ArePacketsOf events bytes → HasSummed filter_tags old seen → told begun first rows
      → (done : List Event) × (others : List Event) × (events ≡ done ++ others) × ArePacketsOf others left × HasSummed filter_tags now (seen ++ done) × told begun ear (rows ++ completed_behind seen done)

  pub told_none : (bytes : List ℕ) (old : RowSums) (first : E) → IsToldTo bytes bytes old old first first
  told_none bytes old first filter_tags seen events begun rows are summed so_far = ([], events, refl, are, rw (append-nil seen) summed, rw (append-nil rows) so_far)

  pub told_more : (bytes left : List ℕ) (old now new : RowSums) (first ear next : E) (size : ℕ) → 0 < length left → IsFrontSize left size
      → ((filter_tags : List (List ℕ)) (seen : List Event) (event : Event) (behind : List ℕ) → SpellsFront SpellsEvent left event behind → HasSummed filter_tags now seen → HasSummed filter_tags new (seen ++ event ∷ []))
      → ((filter_tags : List (List ℕ)) (seen : List Event) (event : Event) (behind : List ℕ) (begun : E) (rows : List Row) → SpellsFront SpellsEvent left event behind → HasSummed filter_tags now seen → told begun ear rows → told begun next (rows ++ option_to_list (completed_row seen event)))
      → IsToldTo bytes left old now first ear → IsToldTo bytes (drop size left) old new first next
  told_more bytes left old now new first ear next size some is step tells so_far filter_tags seen events begun rows are summed has = more (so_far filter_tags seen events begun rows are summed has)
    where
      more : (done : List Event) × (others : List Event) × (events ≡ done ++ others) × ArePacketsOf others left × HasSummed filter_tags now (seen ++ done) × told begun ear (rows ++ completed_behind seen done)
          → (done : List Event) × (others : List Event) × (events ≡ done ++ others) × ArePacketsOf others (drop size left) × HasSummed filter_tags new (seen ++ done) × told begun next (rows ++ completed_behind seen done)
      more (done, [], parts, rest, now_summed, now_told) = absurd (no_event left some rest)
      more (done, event ∷ others, parts, rest, now_summed, now_told) =
          let found = first_found event others left rest in (
            done ++ event ∷ [],
            others,
            parts ∙ sym (append_assoc done (event ∷ []) others),
            others_are event others left size rest (is event (flat_map canonical others) found),
            rw (← append_assoc seen done (event ∷ [])) (step filter_tags (seen ++ done) event (flat_map canonical others) found now_summed),
            subst (told begun next)
                (append_assoc rows (completed_behind seen done) (option_to_list (completed_row (seen ++ done) event)) ∙ ap (λ l. rows ++ l) (sym (behind_push seen done event)))
                (tells filter_tags (seen ++ done) event (flat_map canonical others) begun (rows ++ completed_behind seen done) found now_summed now_told),
          )

  pub told_all : (bytes left : List ℕ) (old now : RowSums) (first ear : E) → length left ≡ 0 → IsToldTo bytes left old now first ear
      → (filter_tags : List (List ℕ)) (seen events : List Event) (begun : E) (rows : List Row) → ArePacketsOf events bytes → HasSummed filter_tags old seen → told begun first rows → told begun ear (rows ++ completed_behind seen events)
  told_all bytes left old now first ear none so_far filter_tags seen events begun rows are summed has = all (so_far filter_tags seen events begun rows are summed has)
    where
      some_bytes : (event : Event) → IsEvent event → Fits event → 0 < length (canonical event)
      some_bytes event is fits = packet_some (canonical event) event (canonical_spells event is fits)

      all : (done : List Event) × (others : List Event) × (events ≡ done ++ others) × ArePacketsOf others left × HasSummed filter_tags now (seen ++ done) × told begun ear (rows ++ completed_behind seen done) → told begun ear (rows ++ completed_behind seen events)
      all (done, [], parts, rest, now_summed, now_told) = rw (parts ∙ append-nil done) now_told
      all (done, event ∷ others, parts, rest, now_summed, now_told) = absurd (omega (arith, none, some_bytes event (All-head IsEvent event others rest.are_events) (All-head Fits event others rest.fit), ap length rest.packets, length-append (canonical event) (flat_map canonical others)))

-- ---- packets behind others

packets_both : (events more : List Event) (bytes piece whole : List ℕ) → whole ≡ bytes ++ piece → ArePacketsOf events bytes → ArePacketsOf more piece → ArePacketsOf (events ++ more) whole
packets_both events more bytes piece whole is are also = record {
  are_events = All-append IsEvent events more are.are_events also.are_events;
  fit = All-append Fits events more are.fit also.fit;
  packets = is ∙ (λ i. are.packets i ++ also.packets i) ∙ sym (flat_map-append canonical events more);
}

-- one packet more
pub packets_more : (bytes whole : List ℕ) (event : Event) → IsEvent event → Fits event → whole ≡ bytes ++ canonical event → ArePackets bytes → ArePackets whole
packets_more bytes whole event is fits parts (events, are) =
    let one : ArePacketsOf (event ∷ []) (canonical event) = record { are_events = All-cons IsEvent event [] is (All-nil IsEvent); fit = All-cons Fits event [] fits (All-nil Fits); packets = sym (append-nil (canonical event)) } in
    (events ++ event ∷ [], packets_both events (event ∷ []) bytes (canonical event) whole parts are one)

pub no_packets : ArePackets []
no_packets = ([], record { are_events = All-nil IsEvent; fit = All-nil Fits; packets = refl })

-- ---- a run that is written

-- the packets, as a stream, are the events
pub events_again : (events : List Event) → All IsEvent events → All Fits events → HasEvents (flat_map canonical events) events
events_again events are fit = (_, record { pieces = packet_pieces events; cut = cut_of_written events are fit; made = sym (notes_of_packets events) }, sym (events_of_packets events))

pub written_none : (filter_tags : List (List ℕ)) (new : WrittenRun) → HasSummed filter_tags new.summing [] → HasWrittenRun filter_tags new []
written_none filter_tags new summed = record { events = []; packets = record { are_events = All-nil IsEvent; fit = All-nil Fits; packets = refl }; folded = summed }

pub written_more : {T E : Type 0} (filter_tags : List (List ℕ)) (r : Result T E) (old new : WrittenRun) (run written : List ℕ) → ArePackets written → HasWrittenRun filter_tags old run
    → ((seen events : List Event) → ArePacketsOf events written → HasSummed filter_tags old.summing seen → OnOk r (HasSummed filter_tags new.summing (seen ++ events))) → OnOk r (HasWrittenRun filter_tags new (run ++ written))
written_more filter_tags (Err e) old new run written are has step = tt
written_more filter_tags (Ok x) old new run written (events, are) has step = record {
  events = has.events ++ events;
  packets = packets_both has.events events run written (run ++ written) refl has.packets are;
  folded = step has.events events are has.folded;
}

pub written_rows : {E : Type 0} (filter_tags : List (List ℕ)) (r : Result Summary E) (run : List ℕ) (w : WrittenRun) → HasWrittenRun filter_tags w run
    → ((seen : List Event) → HasSummed filter_tags w.summing seen → IfOk r (Sums filter_tags (rows_of seen))) → IfOk r (SumsRowsOf filter_tags run)
written_rows filter_tags r run w has close =
    if_ok_then (Sums filter_tags (rows_of has.events)) (SumsRowsOf filter_tags run) r (close has.events has.folded) (λ summary sums. record {
      rows = rows_of has.events;
      are = record {
        events = has.events;
        told = subst (λ (l : List ℕ). HasEvents l has.events) (sym has.packets.packets) (events_again has.events has.packets.are_events has.packets.fit);
        folded = refl;
      };
      sums = sums;
    })
