-- What is told of every output.
use Rattle.std.proofs.Common.{◌≡◌, ℕ, ◌≤◌, true, false, List, [], ◌∷◌, ◌++◌, length, map, inl, inr, arith, nat_le, ◌-◌, sym, ap, ◌∙◌, length-drop}
use Rattle.std.specs.List.{concat, fold}
use Rattle.std.proofs.lemmas.List.{append_assoc, append-nil}
use Rattle.std.proofs.lemmas.Bool.{cases_lt}
use Rattle.std.proofs.lemmas.Bool.Decides.{nat_tests}
use Rattle.packet_codec.specs.Grammar.{AreBytes}
use Rattle.packet_codec.specs.declared.event.Event.{Event}
use Rattle.stream_reader.specs.declared.note.Note.TheVariants as note
use Rattle.stream_reader.specs.Notes.{HasEvents, events_of}
use Rattle.stream_reader.proofs.TurnLemmas.{one_notes}
use Rattle.outcome_fold.specs.Lines.{whole_lines}
use Rattle.suite_plan.specs.Saying.{TellsListing, with_event, plain_name, last_said, told_of, listing_text}

-- ---- one text

one_events : (bytes : List ℕ) (some others : List Event) → AreBytes bytes → HasEvents bytes some → HasEvents bytes others → some ≡ others
one_events bytes some others are (notes, has, some_are) (notes', has', others_are) = some_are ∙ ap events_of (one_notes bytes notes notes' are has has') ∙ sym others_are

pub one_text : (bytes text other : List ℕ) → TellsListing text bytes → TellsListing other bytes → text ≡ other
one_text bytes text other says also = says.text_is ∙ ap listing_text (one_events bytes says.events also.events says.are_bytes says.told also.told) ∙ sym also.text_is

-- ---- how long it is

pub told_short : (text : List ℕ) → length (told_of text) ≤ 65540
told_short text = by (whole_lines text)
  where
    by : (whole : List ℕ) → length (last_said whole) ≤ 65540
    by whole = elim (cases_lt 65536 (length whole)) [
      | inl more ↦ (let long : nat_le (length whole) 65536 ≡ false = grind (arith, nat_tests, more) in rw long (omega (arith, more, length-drop (length whole - 65536) whole)))
      | inr few ↦ (let short : nat_le (length whole) 65536 ≡ true = grind (arith, nat_tests, few) in rw short (omega (arith, few)))
    ]

-- ---- foreign bytes

foreign_runs : (runs : List (List ℕ)) (text : List ℕ) → (fold with_event (record { text = text; name = plain_name }) (events_of (map note.Foreign runs))).text ≡ text ++ concat runs
foreign_runs [] text = sym (append-nil text)
foreign_runs (run ∷ runs) text = foreign_runs runs (text ++ run) ∙ append_assoc text run (concat runs)

pub foreign_told : (runs : List (List ℕ)) → listing_text (events_of (map note.Foreign runs)) ≡ told_of (concat runs)
foreign_told runs = ap told_of (foreign_runs runs [])
