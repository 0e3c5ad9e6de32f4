-- Bytes that are cut into lines, and lines that are heard.
use Rattle.std.proofs.Common.{◌≡◌, ℕ, suc, ◌+◌, ◌<◌, ◌≤◌, Bool, true, false, List, [], ◌∷◌, ◌++◌, Some, None, length, get_or, take, drop, refl, sym, ap, subst, ◌∙◌, arith, append_assoc, append-nil, eqb-true}
use Rattle.std.specs.List.{list_any}
use Rattle.std.proofs.lemmas.List.{take_more, take-append-drop, length-take-le, get_or-take}
use Rattle.memchr.specs.Find.{IsFirstByte, is_byte}
use Rattle.packet_codec.specs.declared.event.Event.{Event}
use Rattle.v1_bridge.specs.Events.{longest_v1_line}
use Rattle.v1_bridge.specs.Cutting.{lines_of}
use Rattle.v1_bridge.specs.Reading.{Input, front_piece, events_so_far, events_of_inputs, v1_events, last_input}
use Rattle.v1_bridge.specs.Lines.{HasNoNewline}
use Rattle.old_runs.specs.declared.heard_lines.Heard.{Heard}
use Rattle.old_runs.specs.declared.lines.OldLines.{OldLines}
use Rattle.old_runs.specs.Files.{has_id, inputs_in}
use Rattle.old_runs.specs.Giving.{AppendsEvents}
use Rattle.old_runs.specs.Lines.{inputs_behind, most_held_of_line, HasHeardLines, HasCut, HasFedLines}
use Rattle.old_runs.proofs.CutLemmas.{LineGoesOn, inputs_few, inputs_full, inputs_ended, inputs_last}
use Rattle.old_runs.proofs.PacketLemmas.{gives_then, gives_so}

-- ---- bytes without a newline

plain_by : (bytes : List ℕ) → ((k : ℕ) → k < length bytes → get_or bytes k 0 ≡ 10 → ⊥) → HasNoNewline bytes
plain_by [] none = tt
plain_by (byte ∷ bytes) none = (none 0 (omega arith), plain_by bytes (λ k below. none (suc k) (omega (arith, below))))

-- none of the bytes is a newline
pub none_plain : (bytes : List ℕ) → IsFirstByte (is_byte 10) bytes None → HasNoNewline bytes
none_plain bytes none = plain_by bytes (λ k below is. none k (omega arith) below (ap (is_byte 10) is))

-- those in front of the first one
pub front_plain : (bytes : List ℕ) (k : ℕ) → IsFirstByte (is_byte 10) bytes (Some k) → HasNoNewline (take k bytes)
front_plain bytes k found =
    let size : length (take k bytes) ≡ k = length-take-le k bytes (omega (arith, found.0.high)) in
    plain_by (take k bytes) (λ j below is.
    let before : j < k = omega (arith, below, size) in
    found.0.before j (omega arith) before (ap (is_byte 10) (sym (get_or-take k bytes j 0 before) ∙ is)))

-- and that one, and the others
pub cut_there : (bytes : List ℕ) (k : ℕ) → IsFirstByte (is_byte 10) bytes (Some k) → bytes ≡ take k bytes ++ 10 ∷ drop (k + 1) bytes
cut_there bytes k found =
    let newline : get_or bytes k 0 ≡ 10 = eqb-true (get_or bytes k 0) 10 found.1 in
    sym (take-append-drop (k + 1) bytes)
    ∙ ap (λ (l : List ℕ). l ++ drop (k + 1) bytes) (take_more bytes k 0 found.0.high ∙ ap (λ n. take k bytes ++ n ∷ []) newline)
    ∙ append_assoc (take k bytes) (10 ∷ []) (drop (k + 1) bytes)

pub plain_front : (front behind : List ℕ) → HasNoNewline (front ++ behind) → HasNoNewline front
plain_front [] behind plain = tt
plain_front (byte ∷ front) behind plain = (plain.0, plain_front front behind plain.1)

pub plain_behind : (front behind : List ℕ) → HasNoNewline (front ++ behind) → HasNoNewline behind
plain_behind [] behind plain = plain
plain_behind (byte ∷ front) behind plain = plain_behind front behind plain.1

goes_on : (bytes more : List ℕ) → HasNoNewline bytes → 0 < length bytes → LineGoesOn (bytes ++ more)
goes_on [] more plain some = absurd (omega (arith, some))
goes_on (byte ∷ bytes) more plain some = plain.0

-- ---- a reader of lines

-- a line or piece more is heard, and what it gives is handed on
abbrev pub HearsInput : Heard → Heard → Input → List ℕ → List ℕ → Type 0
HearsInput before after input old new = (inputs : List Input) (given : List Event) → HasHeardLines before inputs given → AppendsEvents old new (λ more. HasHeardLines after (inputs ++ input ∷ []) (given ++ more))

pub cut_new : (lines : OldLines) → lines.held.items ≡ [] → lines.long ≡ false → HasHeardLines lines.heard [] [] → HasFedLines lines [] []
cut_new lines none short heard = record { inputs = []; heard = heard; rest = λ more. sym (λ i. inputs_behind (short i) (none i) more) }

-- more bytes follow
pub cut_fed : (lines : OldLines) (bytes piece : List ℕ) (given : List Event) → HasFedLines lines bytes given → HasCut lines (bytes ++ piece) piece given
cut_fed lines bytes piece given h = record { inputs = h.inputs; heard = h.heard; rest = λ more. ap inputs_in (append_assoc bytes piece more) ∙ h.rest (piece ++ more) }

-- the same bytes are left
pub cut_same : (lines : OldLines) (all left others : List ℕ) (given : List Event) → left ≡ others → HasCut lines all left given → HasCut lines all others given
cut_same lines all left others given is h = subst (λ (l : List ℕ). HasCut lines all l given) is h

-- they fill up a piece of a line that goes on
pub cut_full : (before after : OldLines) (all rest front behind left old new : List ℕ) (given : List Event) → rest ≡ front ++ behind → HasNoNewline rest → length (before.held.items ++ front) ≡ longest_v1_line → (before.long ≡ false → 0 < length behind)
    → after.held.items ≡ [] → after.long ≡ true → HearsInput before.heard after.heard (front_piece (before.held.items ++ front)) old new → HasCut before all (rest ++ left) given → AppendsEvents old new (λ more. HasCut after all (behind ++ left) (given ++ more))
cut_full before after all rest front behind left old new given is plain full goes none long hears h =
    let both : HasNoNewline (front ++ behind) = subst HasNoNewline is plain in
    let piece = front_piece (before.held.items ++ front) in
    gives_so (λ more. HasHeardLines after.heard (h.inputs ++ piece ∷ []) (given ++ more)) (λ more. HasCut after all (behind ++ left) (given ++ more)) old new (hears h.inputs given h.heard) (λ events heard. record {
      inputs = h.inputs ++ piece ∷ [];
      heard = heard;
      rest = λ more.
          let bytes : (rest ++ left) ++ more ≡ front ++ ((behind ++ left) ++ more) =
          ap (λ (l : List ℕ). (l ++ left) ++ more) is ∙ ap (λ (l : List ℕ). l ++ more) (append_assoc front behind left) ∙ append_assoc front (behind ++ left) more in
          let on : before.long ≡ false → LineGoesOn ((behind ++ left) ++ more) = λ short. subst LineGoesOn (sym (append_assoc behind left more)) (goes_on behind (left ++ more) (plain_behind front behind both) (goes short)) in
          h.rest more ∙ ap (λ (l : List ℕ). h.inputs ++ inputs_behind before.long before.held.items l) bytes
          ∙ ap (λ (l : List Input). h.inputs ++ l) (inputs_full before.long before.held.items front ((behind ++ left) ++ more) (plain_front front behind both) full on)
          ∙ sym (append_assoc h.inputs (piece ∷ []) (inputs_behind true [] ((behind ++ left) ++ more)))
          ∙ sym (λ i. (h.inputs ++ piece ∷ []) ++ inputs_behind (long i) (none i) ((behind ++ left) ++ more));
    })

-- they are held
pub cut_held : (before after : OldLines) (all rest left : List ℕ) (given : List Event) → HasNoNewline rest → after.held.items ≡ before.held.items ++ rest → after.long ≡ before.long → after.heard ≡ before.heard → HasCut before all (rest ++ left) given → HasCut after all left given
cut_held before after all rest left given plain held long same h = record {
  inputs = h.inputs;
  heard = subst (λ (r : Heard). HasHeardLines r h.inputs given) (sym same) h.heard;
  rest = λ more.
      h.rest more ∙ ap (λ (l : List ℕ). h.inputs ++ inputs_behind before.long before.held.items l) (append_assoc rest left more)
      ∙ ap (λ (l : List Input). h.inputs ++ l) (inputs_few before.long before.held.items rest (left ++ more) plain)
      ∙ sym (λ i. h.inputs ++ inputs_behind (long i) (held i) (left ++ more));
}

-- the line's newline comes
pub cut_ended : (before after : OldLines) (all left pushed old new : List ℕ) (given : List Event) → length before.held.items ≤ most_held_of_line before.long → pushed ≡ before.held.items ++ 10 ∷ [] → after.held.items ≡ [] → after.long ≡ false
    → HearsInput before.heard after.heard (last_input before.long pushed) old new → HasCut before all (10 ∷ left) given → AppendsEvents old new (λ more. HasCut after all left (given ++ more))
cut_ended before after all left pushed old new given few is none short hears h =
    let last = last_input before.long pushed in
    gives_so (λ more. HasHeardLines after.heard (h.inputs ++ last ∷ []) (given ++ more)) (λ more. HasCut after all left (given ++ more)) old new (hears h.inputs given h.heard) (λ events heard. record {
      inputs = h.inputs ++ last ∷ [];
      heard = heard;
      rest = λ more.
          h.rest more ∙ ap (λ (l : List Input). h.inputs ++ l) (inputs_ended before.long before.held.items (left ++ more) few)
          ∙ ap (λ (l : List ℕ). h.inputs ++ last_input before.long l ∷ inputs_behind false [] (left ++ more)) (sym is)
          ∙ sym (append_assoc h.inputs (last ∷ []) (inputs_behind false [] (left ++ more)))
          ∙ sym (λ i. (h.inputs ++ last ∷ []) ++ inputs_behind (short i) (none i) (left ++ more));
    })

-- ---- the end

all_inputs : (lines : OldLines) (bytes : List ℕ) (given : List Event) → (h : HasFedLines lines bytes given) → inputs_in bytes ≡ h.inputs ++ inputs_behind lines.long lines.held.items []
all_inputs lines bytes given h = ap inputs_in (sym (append-nil bytes)) ∙ h.rest []

-- nothing follows the last newline
pub last_none : (lines : OldLines) (bytes : List ℕ) (given : List Event) → lines.held.items ≡ [] → lines.long ≡ false → HasFedLines lines bytes given → HasHeardLines lines.heard (inputs_in bytes) given
last_none lines bytes given none short h =
    let all : inputs_in bytes ≡ h.inputs = all_inputs lines bytes given h ∙ (λ i. h.inputs ++ inputs_behind (short i) (none i) []) ∙ append-nil h.inputs in
    subst (λ (l : List Input). HasHeardLines lines.heard l given) (sym all) h.heard

-- a line without a newline does
pub last_some : (before : OldLines) (after : Heard) (bytes old new : List ℕ) (given : List Event) → length before.held.items ≤ most_held_of_line before.long → ((before.held.items ≡ []) × (before.long ≡ false) → ⊥)
    → HearsInput before.heard after (last_input before.long before.held.items) old new → HasFedLines before bytes given → AppendsEvents old new (λ more. HasHeardLines after (inputs_in bytes) (given ++ more))
last_some before after bytes old new given few some hears h =
    let last = last_input before.long before.held.items in
    let all : inputs_in bytes ≡ h.inputs ++ last ∷ [] = all_inputs before bytes given h ∙ ap (λ (l : List Input). h.inputs ++ l) (inputs_last before.long before.held.items few some) in
    gives_so (λ more. HasHeardLines after (h.inputs ++ last ∷ []) (given ++ more)) (λ more. HasHeardLines after (inputs_in bytes) (given ++ more)) old new (hears h.inputs given h.heard)
    (λ events heard. subst (λ (l : List Input). HasHeardLines after l (given ++ events)) (sym all) heard)

-- nothing was heard of no bytes
pub none_given : (lines : OldLines) (given : List Event) → HasFedLines lines [] given → given ≡ []
none_given lines given h = h.heard.made ∙ ap events_so_far (no_inputs h.inputs (sym (all_inputs lines [] given h)))
  where
    no_inputs : (inputs : List Input) → inputs ++ inputs_behind lines.long lines.held.items [] ≡ [] → inputs ≡ []
    no_inputs [] none = refl
    no_inputs (input ∷ inputs) none = absurd (omega (arith, ap length none))

-- ---- what is held

pub none_held : (held : List ℕ) (long : Bool) → held ≡ [] → length held ≤ most_held_of_line long
none_held held true none = omega (arith, ap length none)
none_held held false none = omega (arith, ap length none)

pub most_held_most : (long : Bool) → most_held_of_line long ≤ longest_v1_line
most_held_most true = omega arith
most_held_most false = omega arith

-- ---- the end of all

pub lines_closed : (heard : Heard) (bytes old mid new : List ℕ) (given : List Event) (told : Bool) → AppendsEvents old mid (λ more. HasHeardLines heard (inputs_in bytes) (given ++ more))
    → ((inputs : List Input) (given : List Event) → HasHeardLines heard inputs given → AppendsEvents mid new (λ more. (events_of_inputs inputs ≡ given ++ more) × (told ≡ list_any has_id (given ++ more))))
    → AppendsEvents old new (λ more. (given ++ more ≡ v1_events (lines_of bytes)) × (told ≡ list_any has_id (given ++ more)))
lines_closed heard bytes old mid new given told first closes =
    gives_then (HasHeardLines heard (inputs_in bytes)) (λ (events : List Event). (events ≡ v1_events (lines_of bytes)) × (told ≡ list_any has_id events)) old mid new given first
    (λ events h. gives_so (λ more. (events_of_inputs (inputs_in bytes) ≡ events ++ more) × (told ≡ list_any has_id (events ++ more))) (λ more. (events ++ more ≡ v1_events (lines_of bytes)) × (told ≡ list_any has_id (events ++ more))) mid new
    (closes (inputs_in bytes) events h) (λ more says. (sym says.0, says.1)))
