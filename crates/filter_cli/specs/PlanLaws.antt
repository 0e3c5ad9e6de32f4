-- The laws that a filter owes, of all filters of notes.
use Rattle.std.proofs.Common.{◌≡◌, ℕ, List, [], ◌++◌, refl, sym, ap, ◌∙◌, append_assoc}
use Rattle.packet_codec.specs.Grammar.{AreBytes}
use Rattle.stream_reader.specs.declared.note.Note.{Note}
use Rattle.stream_reader.specs.Notes.{HasNotes, HasDecided, notes_of, decided_of}
use Rattle.stream_reader.proofs.FrontLemmas.{are_before, are_behind}
use Rattle.stream_reader.proofs.CutLemmas.{one_cut, one_open_cut, open_cut_first}
use Rattle.stream_reader.proofs.ExistLemmas.{some_notes, some_decided}
use Rattle.stream_reader.proofs.NotesLemmas.{decided_first}
use Rattle.stream_reader.proofs.TurnLemmas.{begin_decided}
use Rattle.filter_cli.specs.Plan.{Plan, IsSeen, IsFiltered}
use Rattle.filter_cli.specs.Script.{given_behind, given_by}
use Rattle.filter_cli.specs.ScriptLaws.{given_then}
use Rattle.filter_cli.specs.Noted.{HasFiltered}

-- what a filter of notes has written of the bytes fed is the text that they decide
pub plan_seen : (takes : List Note → Type 0) (plan : Plan) (missing : ℕ) (held fed shown : List ℕ) → HasFiltered takes plan missing held fed shown → IsSeen plan fed shown
plan_seen takes plan missing held fed shown h = record { notes = h.notes; decided = begin_decided fed held h.notes h.begins h.spent; made = h.made }

-- the notes that first bytes decide come first
notes_first : (bytes more : List ℕ) (notes others : List Note) → AreBytes (bytes ++ more) → HasDecided bytes notes → HasNotes (bytes ++ more) others → (rest : List Note) × (others ≡ notes ++ rest)
notes_first bytes more notes others are h k =
    let cut = open_cut_first h.pieces k.pieces bytes more (are_before bytes more are) (are_behind bytes more are) are h.cut k.cut in
    let first = decided_first h.pieces cut.0 [] in
    (first.0, k.made ∙ ap notes_of cut.1 ∙ first.1 ∙ ap (λ (l : List Note). l ++ first.0) (sym h.made))

-- the text that first bytes decide is a first part of the text of each stream that begins with them
pub plan_front : (plan : Plan) (bytes more shown all : List ℕ) (status : ℕ) → AreBytes (bytes ++ more) → IsSeen plan bytes shown → IsFiltered plan (bytes ++ more) all status → (rest : List ℕ) × (all ≡ shown ++ rest)
plan_front plan bytes more shown all status are s w =
    let (others, is) = notes_first bytes more s.notes w.notes are s.decided w.told in
    let behind = given_behind plan s.notes others in
    let both : given_by plan w.notes ≡ shown ++ behind = ap (given_by plan) is ∙ given_then plan [] s.notes others ∙ ap (λ (l : List ℕ). l ++ behind) (sym s.made) in
    (behind ++ plan.at_end w.notes, w.made ∙ ap (λ (l : List ℕ). l ++ plan.at_end w.notes) both ∙ append_assoc shown behind (plan.at_end w.notes))

-- a stream has one text and one status
pub plan_one : (plan : Plan) (bytes all other : List ℕ) (status another : ℕ) → AreBytes bytes → IsFiltered plan bytes all status → IsFiltered plan bytes other another → (all ≡ other) × (status ≡ another)
plan_one plan bytes all other status another are w v =
    let same : w.notes ≡ v.notes = w.told.made ∙ ap notes_of (one_cut w.told.pieces v.told.pieces bytes are w.told.cut v.told.cut) ∙ sym v.told.made in
    (w.made ∙ ap (λ (l : List Note). given_by plan l ++ plan.at_end l) same ∙ sym v.made, w.status ∙ ap plan.status same ∙ sym v.status)

-- first bytes decide one text
pub plan_one_seen : (plan : Plan) (bytes shown other : List ℕ) → AreBytes bytes → IsSeen plan bytes shown → IsSeen plan bytes other → shown ≡ other
plan_one_seen plan bytes shown other are s t =
    let same : s.notes ≡ t.notes = s.decided.made ∙ ap decided_of (one_open_cut s.decided.pieces t.decided.pieces bytes are s.decided.cut t.decided.cut) ∙ sym t.decided.made in
    s.made ∙ ap (given_by plan) same ∙ sym t.made

-- each stream has some notes, and the text and the status that the plan makes of these
pub plan_some : (plan : Plan) (bytes : List ℕ) → (notes : List Note) × IsFiltered plan bytes (given_by plan notes ++ plan.at_end notes) (plan.status notes)
plan_some plan bytes =
    let (notes, told) = some_notes bytes in
    (notes, record { notes = notes; told = told; made = refl; status = refl })

-- any first bytes decide some text
pub plan_some_seen : (plan : Plan) (bytes : List ℕ) → AreBytes bytes → (text : List ℕ) × IsSeen plan bytes text
plan_some_seen plan bytes are =
    let (notes, decided) = some_decided bytes are in
    (given_by plan notes, record { notes = notes; decided = decided; made = refl })
