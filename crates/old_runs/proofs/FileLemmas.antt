-- A file of either kind.
use Rattle.std.proofs.Common.{◌≡◌, inl, inr, ⊎_elim, ℕ, ◌<◌, ◌==◌, ◌&&◌, ◌||◌, not, nat_lt, Bool, true, false, List, [], ◌∷◌, ◌++◌, length, get_or, drop, append-nil, refl, sym, ap, subst, ◌∙◌, arith, ltb-true, lt-ltb}
use Rattle.std.specs.Prelude.{◌↔◌, IsTrue}
use Rattle.std.specs.List.{list_any}
use Rattle.std.proofs.lemmas.Bool.{or_left, or_right, or_cases, and_parts}
use Rattle.std.proofs.lemmas.List.Elements.{All-append}
use Rattle.packet_codec.specs.Grammar.{AreBytes}
use Rattle.packet_codec.specs.Packet.{signature}
use Rattle.packet_codec.specs.declared.event.Event.{Event}
use Rattle.stream_reader.specs.Notes.{HasEvents, events_of}
use Rattle.stream_reader.proofs.TurnLemmas.{one_notes}
use Rattle.stream_reader.proofs.ExistLemmas.{some_notes}
use Rattle.outcome_fold.specs.declared.fold.Outcomes.{Outcomes}
use Rattle.outcome_fold.specs.Outcome.{HasFolded}
use Rattle.outcome_fold.specs.Rows.{rows_of}
use Rattle.outcome_fold.specs.Answers.{failing_of}
use Rattle.outcome_fold.specs.declared.row.Row.{Row}
use Rattle.packet_codec.specs.Packets.{ArePacketsOf}
use Rattle.v1_bridge.specs.Cutting.{lines_of}
use Rattle.v1_bridge.specs.Reading.{v1_events}
use Rattle.old_runs.specs.declared.lines.OldLines.{OldLines}
use Rattle.old_runs.specs.declared.stream.OldStream.{OldStream}
use Rattle.old_runs.specs.declared.file.Kind.{Kind}
use Rattle.old_runs.specs.declared.file.Kind.TheVariants as kind
use Rattle.old_runs.specs.declared.file.OldFile.{OldFile}
use Rattle.old_runs.specs.declared.failing_tests.OldFailing.{OldFailing}
use Rattle.old_runs.specs.Files.{is_stream, AreEventsBy, IsOldFile, AreFailingIn, has_id, HasOpenParts, inputs_in, IsCutOff, TellsNoTest, IsDamaged}
use Rattle.old_runs.specs.Giving.{AppendsEvents}
use Rattle.old_runs.specs.Lines.{HasFedLines}
use Rattle.old_runs.specs.Streams.{HasFedStream}
use Rattle.old_runs.specs.Fed.{CanBeFed, HasFedKind, HasFed, HasBegun, HasHeardFile}
use Rattle.old_runs.proofs.LineLemmas.{none_given}
use Rattle.old_runs.proofs.PacketLemmas.{gives_none, gives_so}

-- ---- laws

pub some_events : (bytes : List ℕ) → (events : List Event) × IsOldFile bytes events
some_events bytes = either (is_stream bytes)
  where
    either : (b : Bool) → (events : List Event) × AreEventsBy b bytes events
    either true = let some = some_notes bytes in (events_of some.0, (some.0, some.1, refl))
    either false = (v1_events (lines_of bytes), refl)

pub one_events : (bytes : List ℕ) (events others : List Event) → AreBytes bytes → IsOldFile bytes events → IsOldFile bytes others → events ≡ others
one_events bytes events others are = either (is_stream bytes)
  where
    either : (b : Bool) → AreEventsBy b bytes events → AreEventsBy b bytes others → events ≡ others
    either true h k = h.2 ∙ ap events_of (one_notes bytes h.0 k.0 are h.1 k.1) ∙ sym k.2
    either false h k = h ∙ sym k

-- ---- the first byte

never : {P : Type 0} → true ≡ false → P
never is = absurd cc

-- bytes were fed before
pub begun_before : (file : OldFile) (bytes : List ℕ) (given : List Event) (first : ℕ) → file.begun ≡ true → HasFed file bytes given → HasBegun file bytes given first
begun_before file [] given first begun h = never (sym begun ∙ h.begun)
begun_before file (byte ∷ bytes) given first begun h = record { are_bytes = h.are_bytes; begun = begun; fed = h.fed }

none_before : (file : OldFile) (bytes : List ℕ) (given : List Event) → file.begun ≡ false → HasFed file bytes given → bytes ≡ []
none_before file [] given new h = refl
none_before file (byte ∷ bytes) given new h = never (sym (lt-ltb 0 (length (byte ∷ bytes)) (omega arith)) ∙ sym h.begun ∙ new)

lines_none : (k : Kind) (given : List Event) → HasFedKind false k [] given → given ≡ []
lines_none (kind.Lines lines) given h = none_given lines given h
lines_none (kind.Stream stream) given h = absurd h

-- a stream begins
pub begun_stream : (before after : OldFile) (bytes : List ℕ) (given : List Event) (first : ℕ) → before.begun ≡ false → first ≡ signature → after.begun ≡ true → HasFedKind true after.kind [] [] → HasFed before bytes given → HasBegun after bytes given first
begun_stream before after bytes given first new is begun fed h =
    let none = none_before before bytes given new h in
    let at : HasFed before [] given = subst (λ (l : List ℕ). HasFed before l given) none h in
    let nothing : given ≡ [] = lines_none before.kind given at.fed in
    let byte : is_stream ([] ++ first ∷ []) ≡ true = ap (λ n. n == signature) is in
    let here : HasFedKind (is_stream ([] ++ first ∷ [])) after.kind [] given =
    subst (λ (b : Bool). HasFedKind b after.kind [] given) (sym byte) (subst (HasFedKind true after.kind []) (sym nothing) fed) in
    record { are_bytes = h.are_bytes; begun = begun; fed = subst (λ (l : List ℕ). HasFedKind (is_stream (l ++ first ∷ [])) after.kind l given) (sym none) here }

-- lines begin
pub begun_lines : (before after : OldFile) (bytes : List ℕ) (given : List Event) (first : ℕ) → before.begun ≡ false → (first == signature) ≡ false → after.begun ≡ true → after.kind ≡ before.kind → HasFed before bytes given → HasBegun after bytes given first
begun_lines before after bytes given first new is begun same h =
    let none = none_before before bytes given new h in
    let at : HasFed before [] given = subst (λ (l : List ℕ). HasFed before l given) none h in
    let here : HasFedKind (is_stream ([] ++ first ∷ [])) after.kind [] given = subst (λ (b : Bool). HasFedKind b after.kind [] given) (sym is) (subst (λ (k : Kind). HasFedKind false k [] given) (sym same) at.fed) in
    record { are_bytes = h.are_bytes; begun = begun; fed = subst (λ (l : List ℕ). HasFedKind (is_stream (l ++ first ∷ [])) after.kind l given) (sym none) here }

same_kind : (bytes piece : List ℕ) (first : ℕ) (rest : List ℕ) → piece ≡ first ∷ rest → is_stream (bytes ++ first ∷ []) ≡ is_stream (bytes ++ piece)
same_kind [] piece first rest is = sym (ap is_stream is)
same_kind (byte ∷ bytes) piece first rest is = refl

some_bytes : (bytes piece : List ℕ) (first : ℕ) (rest : List ℕ) → piece ≡ first ∷ rest → nat_lt 0 (length (bytes ++ piece)) ≡ true
some_bytes [] piece first rest is = ap (λ (l : List ℕ). nat_lt 0 (length l)) is ∙ lt-ltb 0 (length (first ∷ rest)) (omega arith)
some_bytes (byte ∷ bytes) piece first rest is = lt-ltb 0 (length (byte ∷ bytes ++ piece)) (omega arith)

-- no bytes were fed
pub file_none : (file : OldFile) (bytes piece : List ℕ) (given : List Event) (old : List ℕ) → length piece ≡ 0 → HasFed file bytes given → AppendsEvents old old (λ more. HasFed file (bytes ++ piece) (given ++ more))
file_none file bytes [] given old none h = gives_none (HasFed file (bytes ++ [])) old given (subst (λ (l : List ℕ). HasFed file l given) (sym (append-nil bytes)) h)
file_none file bytes (byte ∷ piece) given old none h = absurd (omega (arith, none))

pub first_is : (piece : List ℕ) (first d : ℕ) → 0 < length piece → first ≡ get_or piece 0 d → piece ≡ first ∷ drop 1 piece
first_is [] first d some is = absurd (omega (arith, some))
first_is (byte ∷ piece) first d some is = ap (λ n. n ∷ piece) (sym is)

-- more bytes were fed
pub file_more : (mid after : OldFile) (bytes piece : List ℕ) (first : ℕ) (rest : List ℕ) (given : List Event) (old new : List ℕ) → piece ≡ first ∷ rest → AreBytes piece → CanBeFed after.kind → after.begun ≡ mid.begun
    → ((stream : Bool) (bytes : List ℕ) (given : List Event) → HasFedKind stream mid.kind bytes given → AppendsEvents old new (λ more. HasFedKind stream after.kind (bytes ++ piece) (given ++ more)))
    → HasBegun mid bytes given first → AppendsEvents old new (λ more. HasFed after (bytes ++ piece) (given ++ more))
file_more mid after bytes piece first rest given old new is are ready same feeds h =
    let stream = is_stream (bytes ++ first ∷ []) in
    gives_so (λ more. HasFedKind stream after.kind (bytes ++ piece) (given ++ more)) (λ more. HasFed after (bytes ++ piece) (given ++ more)) old new (feeds stream bytes given h.fed) (λ more fed. record {
      are_bytes = All-append (λ byte. byte < 256) bytes piece h.are_bytes are;
      ready = ready;
      begun = same ∙ h.begun ∙ sym (some_bytes bytes piece first rest is);
      fed = subst (λ (b : Bool). HasFedKind b after.kind (bytes ++ piece) (given ++ more)) (same_kind bytes piece first rest is) fed;
    })

-- ---- the end

not_is : (b : Bool) → not b ≡ true → b ≡ false
not_is true is = cc
not_is false is = refl

-- what was fed tells the kind
pub fed_lines : (file : OldFile) (lines : OldLines) (bytes : List ℕ) (given : List Event) → file.kind ≡ kind.Lines lines → HasFed file bytes given → (is_stream bytes ≡ false) × HasFedLines lines bytes given
fed_lines file lines bytes given is h = either (is_stream bytes) (subst (λ (k : Kind). HasFedKind (is_stream bytes) k bytes given) is h.fed)
  where
    either : (b : Bool) → HasFedKind b (kind.Lines lines) bytes given → (b ≡ false) × HasFedLines lines bytes given
    either true fed = absurd fed
    either false fed = (refl, fed)

pub fed_stream : (file : OldFile) (stream : OldStream) (bytes : List ℕ) (given : List Event) → file.kind ≡ kind.Stream stream → HasFed file bytes given → (is_stream bytes ≡ true) × HasFedStream stream bytes given
fed_stream file stream bytes given is h = either (is_stream bytes) (subst (λ (k : Kind). HasFedKind (is_stream bytes) k bytes given) is h.fed)
  where
    either : (b : Bool) → HasFedKind b (kind.Stream stream) bytes given → (b ≡ true) × HasFedStream stream bytes given
    either true fed = (refl, fed)
    either false fed = absurd fed

pub lines_events : (bytes old new : List ℕ) (given : List Event) (told : Bool) → is_stream bytes ≡ false → AppendsEvents old new (λ more. (given ++ more ≡ v1_events (lines_of bytes)) × (told ≡ list_any has_id (given ++ more))) → AppendsEvents old new (λ more. IsOldFile bytes (given ++ more))
lines_events bytes old new given told is g =
    gives_so (λ more. (given ++ more ≡ v1_events (lines_of bytes)) × (told ≡ list_any has_id (given ++ more))) (λ more. IsOldFile bytes (given ++ more)) old new g
    (λ more says. subst (λ (b : Bool). AreEventsBy b bytes (given ++ more)) (sym is) says.0)

pub stream_events : (bytes old new : List ℕ) (given : List Event) (told : Bool) → is_stream bytes ≡ true → AppendsEvents old new (λ more. HasEvents bytes (given ++ more) × (told ≡ list_any has_id (given ++ more))) → AppendsEvents old new (λ more. IsOldFile bytes (given ++ more))
stream_events bytes old new given told is g =
    gives_so (λ more. HasEvents bytes (given ++ more) × (told ≡ list_any has_id (given ++ more))) (λ more. IsOldFile bytes (given ++ more)) old new g
    (λ more says. subst (λ (b : Bool). AreEventsBy b bytes (given ++ more)) (sym is) says.0)

-- a file that has bytes tells of no test where none of these events does
tells_none : (bytes : List ℕ) (events : List Event) → AreBytes bytes → IsOldFile bytes events → TellsNoTest bytes → list_any has_id events ≡ false
tells_none bytes events are told h = ap (list_any has_id) (one_events bytes events h.events are told h.told) ∙ h.none

pub lines_damaged : (file : OldFile) (bytes old new : List ℕ) (given : List Event) (told unclosed damaged : Bool) → is_stream bytes ≡ false → HasFed file bytes given
    → AppendsEvents old new (λ more. (given ++ more ≡ v1_events (lines_of bytes)) × (told ≡ list_any has_id (given ++ more))) → ((unclosed ≡ true) ↔ HasOpenParts (inputs_in bytes)) → damaged ≡ (unclosed || (file.begun && not told)) → IsTrue damaged ↔ IsDamaged bytes
lines_damaged file bytes old new given told unclosed damaged is h g parts same =
    let events = given ++ g.more in
    let old_file : IsOldFile bytes events = subst (λ (b : Bool). AreEventsBy b bytes events) (sym is) g.holds.0 in (
      λ yes.
          ⊎_elim
          (λ (here : unclosed ≡ true). inl (record { lines = is; open_parts = parts.0 here }))
          (λ (here : (file.begun && not told) ≡ true).
          let both = and_parts file.begun (not told) here in
          inr (record { some = ltb-true 0 (length bytes) (sym h.begun ∙ both.0); events = events; told = old_file; none = sym g.holds.1 ∙ not_is told both.1 }))
          (or_cases unclosed (file.begun && not told) (sym same ∙ yes)),
      λ broken.
          same ∙ ⊎_elim
          (λ (cut : IsCutOff bytes). or_left unclosed (file.begun && not told) (parts.1 cut.open_parts))
          (λ (none : TellsNoTest bytes).
          let begun : file.begun ≡ true = h.begun ∙ lt-ltb 0 (length bytes) none.some in
          let silent : told ≡ false = g.holds.1 ∙ tells_none bytes events h.are_bytes old_file none in
          or_right unclosed (file.begun && not told) (λ i. begun i && not (silent i)))
          broken,
    )

stream_some : (bytes : List ℕ) → is_stream bytes ≡ true → 0 < length bytes
stream_some [] is = absurd cc
stream_some (byte ∷ bytes) is = omega arith

pub stream_damaged : (bytes old new : List ℕ) (given : List Event) (told damaged : Bool) → AreBytes bytes → is_stream bytes ≡ true → AppendsEvents old new (λ more. HasEvents bytes (given ++ more) × (told ≡ list_any has_id (given ++ more))) → damaged ≡ not told → IsTrue damaged ↔ IsDamaged bytes
stream_damaged bytes old new given told damaged are is g same =
    let events = given ++ g.more in
    let old_file : IsOldFile bytes events = subst (λ (b : Bool). AreEventsBy b bytes events) (sym is) g.holds.0 in (
      λ yes. inr (record { some = stream_some bytes is; events = events; told = old_file; none = sym g.holds.1 ∙ not_is told (sym same ∙ yes) }),
      λ broken.
          same ∙ ⊎_elim
          (λ (cut : IsCutOff bytes). never (sym is ∙ cut.lines))
          (λ (none : TellsNoTest bytes). ap not (g.holds.1 ∙ tells_none bytes events are old_file none))
          broken,
    )

-- ---- the tests that fail

-- the packets that were appended to none
pub given_packets : (P : List Event → Type 0) (old new shown : List ℕ) → old ≡ [] → shown ≡ new → (g : AppendsEvents old new P) → ArePacketsOf g.more shown
given_packets P old new shown none is g = subst (ArePacketsOf g.more) (sym (is ∙ g.grown ∙ ap (λ (l : List ℕ). l ++ g.packets) none)) g.are

pub failing_more : (before after : OldFailing) (bytes piece old new shown : List ℕ) → old ≡ [] → shown ≡ new → HasHeardFile before bytes
    → ((bytes : List ℕ) (given : List Event) → HasFed before.file bytes given → AppendsEvents old new (λ more. HasFed after.file (bytes ++ piece) (given ++ more)))
    → ((seen events : List Event) → ArePacketsOf events shown → HasFolded before.outcomes seen → HasFolded after.outcomes (seen ++ events))
    → HasHeardFile after (bytes ++ piece)
failing_more before after bytes piece old new shown none is h feeds folds =
    let g = feeds bytes h.events h.fed in
    record {
      events = h.events ++ g.more;
      fed = g.holds;
      folded = folds h.events g.more (given_packets (λ more. HasFed after.file (bytes ++ piece) (h.events ++ more)) old new shown none is g) h.folded;
    }

pub failing_all : (failing : OldFailing) (bytes old new shown : List ℕ) (outcomes : Outcomes) (rows : List Row) (ids : List (List ℕ)) → old ≡ [] → shown ≡ new → HasHeardFile failing bytes
    → ((bytes : List ℕ) (given : List Event) → HasFed failing.file bytes given → AppendsEvents old new (λ more. IsOldFile bytes (given ++ more)))
    → ((seen events : List Event) → ArePacketsOf events shown → HasFolded failing.outcomes seen → HasFolded outcomes (seen ++ events))
    → ((seen : List Event) → HasFolded outcomes seen → rows ≡ rows_of seen) → ids ≡ failing_of rows → AreFailingIn bytes ids
failing_all failing bytes old new shown outcomes rows ids none is h closes folds ends fail =
    let g = closes bytes h.events h.fed in
    let events = h.events ++ g.more in
    (events, g.holds, fail ∙ ap failing_of (ends events (folds h.events g.more (given_packets (λ more. IsOldFile bytes (h.events ++ more)) old new shown none is g) h.folded)))
