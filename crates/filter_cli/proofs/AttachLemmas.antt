-- The pieces of a job's file.
use Rattle.std.proofs.Common.{◌≡◌, ℕ, ◌+◌, ◌<◌, ◌≤◌, Bool, false, nat_eq, Option, None, Some, IfSome, List, [], ◌∷◌, ◌++◌, take, drop, length, refl, sym, ap, ◌∙◌, append_assoc, append-nil, length-append, arith}
use Rattle.std.proofs.lemmas.List.{take-append-drop, length-drop, length-take-le}
use Rattle.std.specs.List.{concat}
use Rattle.std.specs.Option.{option_to_list}
use Rattle.packet_codec.specs.declared.event.Event.{Event}
use Rattle.packet_codec.specs.Canonical.{canonical, packets_of}
use Rattle.tap_bridge.proofs.LongLines.{one_piece}
use Rattle.sub_export.specs.declared.job.Job.{Job}
use Rattle.sub_export.specs.Output.{attached_piece_event, pieces_of, output_events, last_event}
use Rattle.filter_cli.specs.Tapped.{AreFull}
use Rattle.filter_cli.specs.TapLaws.{full_pieces_first, packets_then}
use Rattle.filter_cli.specs.Pipe.{Adds}
use Rattle.packet_codec.specs.Grammar.{AreBytes}
use Rattle.edge_io.specs.Bytes.{AppendsPrefix}
use Rattle.filter_cli.specs.Pumping.{WritesFirst}
use Rattle.filter_cli.specs.Attached.{events_of_pieces, IsAttachedOutput, HasAttached}
use Rattle.filter_cli.specs.AttachedLaws.{piece_events_then}

concat_push : (pieces : List (List ℕ)) (piece : List ℕ) → concat (pieces ++ piece ∷ []) ≡ concat pieces ++ piece
concat_push [] piece = append-nil piece
concat_push (p ∷ pieces) piece = ap (λ (l : List ℕ). p ++ l) (concat_push pieces piece) ∙ sym (append_assoc p (concat pieces) piece)

full_push : (pieces : List (List ℕ)) (piece : List ℕ) → AreFull pieces → length piece ≡ 65536 → AreFull (pieces ++ piece ∷ [])
full_push [] piece full is = (is, tt)
full_push (p ∷ pieces) piece full is = (full.0, full_push pieces piece full.1 is)

pub fed_more : (job : Job) (held piece fed shown old : List ℕ) → HasAttached job held fed shown → length (held ++ piece) < 65536 → Adds old old (λ more. HasAttached job (held ++ piece) (fed ++ piece) (shown ++ more))
fed_more job held piece fed shown old h short = record {
  more = [];
  grown = sym (append-nil old);
  holds = record {
    pieces = h.pieces;
    joined = ap (λ (l : List ℕ). l ++ piece) h.joined ∙ append_assoc (concat h.pieces) held piece;
    full = h.full;
    short = short;
    made = append-nil shown ∙ h.made;
  };
}

pub one_event : (job : Job) (piece : List ℕ) (event : Event) → Some event ≡ attached_piece_event job piece → packets_of (events_of_pieces job (piece ∷ [])) ≡ canonical event
one_event job piece event is = sym (ap (λ o. packets_of (option_to_list o ++ [])) is) ∙ append-nil (canonical event)

pub fed_full : (job : Job) (held front rest piece fed shown old new : List ℕ) → HasAttached job held fed shown → piece ≡ front ++ rest → length (held ++ front) ≡ 65536 → length rest < 65536 → new ≡ old ++ packets_of (events_of_pieces job ((held ++ front) ∷ [])) → Adds old new (λ more. HasAttached job rest (fed ++ piece) (shown ++ more))
fed_full job held front rest piece fed shown old new h split filled few grown = record {
  more = packets_of (events_of_pieces job ((held ++ front) ∷ []));
  grown = grown;
  holds = record {
    pieces = h.pieces ++ (held ++ front) ∷ [];
    joined = (λ i. h.joined i ++ split i) ∙ append_assoc (concat h.pieces) held (front ++ rest) ∙ ap (λ (l : List ℕ). concat h.pieces ++ l) (sym (append_assoc held front rest))
        ∙ sym (append_assoc (concat h.pieces) (held ++ front) rest) ∙ ap (λ (l : List ℕ). l ++ rest) (sym (concat_push h.pieces (held ++ front)));
    full = full_push h.pieces (held ++ front) h.full filled;
    short = few;
    made = ap (λ (l : List ℕ). l ++ packets_of (events_of_pieces job ((held ++ front) ∷ []))) h.made ∙ sym (packets_then (events_of_pieces job h.pieces) (events_of_pieces job ((held ++ front) ∷ [])))
        ∙ ap packets_of (sym (piece_events_then job h.pieces ((held ++ front) ∷ [])));
  };
}

-- the end, where the rest gives this text
ended : (job : Job) (held fed shown rest : List ℕ) → HasAttached job held fed shown → rest ≡ packets_of (events_of_pieces job (pieces_of held)) → shown ++ (rest ++ canonical (last_event job)) ≡ packets_of (output_events job fed)
ended job held fed shown rest h is =
    let cut : pieces_of fed ≡ h.pieces ++ pieces_of held = ap pieces_of h.joined ∙ full_pieces_first h.pieces held h.full in
    let events : events_of_pieces job (pieces_of fed) ≡ events_of_pieces job h.pieces ++ events_of_pieces job (pieces_of held) = ap (events_of_pieces job) cut ∙ piece_events_then job h.pieces (pieces_of held) in
    let all : packets_of (events_of_pieces job (pieces_of fed)) ≡ shown ++ rest = ap packets_of events ∙ packets_then (events_of_pieces job h.pieces) (events_of_pieces job (pieces_of held)) ∙ (λ i. sym h.made i ++ sym is i) in
    sym (packets_then (events_of_pieces job (pieces_of fed)) (last_event job ∷ []) ∙ (λ i. all i ++ append-nil (canonical (last_event job)) i) ∙ append_assoc shown rest (canonical (last_event job)))

pub ended_all : (job : Job) (held fed shown old mid new : List ℕ) → mid ≡ old ++ packets_of (events_of_pieces job (pieces_of held)) → new ≡ mid ++ canonical (last_event job) → HasAttached job held fed shown → Adds old new (λ more. IsAttachedOutput job fed (shown ++ more) 0)
ended_all job held fed shown old mid new before grown h =
    let rest = packets_of (events_of_pieces job (pieces_of held)) in
    record {
      more = rest ++ canonical (last_event job);
      grown = grown ∙ ap (λ (l : List ℕ). l ++ canonical (last_event job)) before ∙ append_assoc old rest (canonical (last_event job));
      holds = (ended job held fed shown rest h refl, refl);
    }

-- fewer bytes than a piece are one piece, or none
pub rest_one : (job : Job) (rest old new : List ℕ) → 0 < length rest → length rest < 65536 → new ≡ old ++ packets_of (events_of_pieces job (rest ∷ [])) → new ≡ old ++ packets_of (events_of_pieces job (pieces_of rest))
rest_one job rest old new some few is = is ∙ ap (λ (l : List (List ℕ)). old ++ packets_of (events_of_pieces job l)) (sym (one_piece rest some (omega (arith, few))))

pub some_rest : (rest : List ℕ) (empty : Bool) → empty ≡ nat_eq (length rest) 0 → empty ≡ false → 0 < length rest
some_rest [] empty is none = cc (sym is ∙ none)
some_rest (byte ∷ rest) empty is none = omega arith

pub add_full : (job : Job) (held piece fed shown old new filled lent cleared tail after : List ℕ) (room : ℕ) → HasAttached job held fed shown → length held + room ≡ 65536 → room ≤ length piece → length piece ≤ 65536
    → filled ≡ held ++ take room piece → lent ≡ filled → new ≡ old ++ packets_of (events_of_pieces job (lent ∷ [])) → cleared ≡ [] → after ≡ cleared ++ tail → tail ≡ drop room piece
    → Adds old new (λ more. HasAttached job after (fed ++ piece) (shown ++ more))
add_full job held piece fed shown old new filled lent cleared tail after room h sum within few is same grown none then rest =
    let after-is : after ≡ drop room piece = then ∙ (λ i. none i ++ rest i) in
    let split : piece ≡ take room piece ++ after = sym (take-append-drop room piece) ∙ ap (λ (l : List ℕ). take room piece ++ l) (sym after-is) in
    let size : length (held ++ take room piece) ≡ 65536 = omega (arith, length-append held (take room piece), length-take-le room piece within, sum) in
    let left : length after < 65536 = omega (arith, ap length after-is, length-drop room piece, h.short, sum, few) in
    fed_full job held (take room piece) after piece fed shown old new h split size left (grown ∙ ap (λ (l : List ℕ). old ++ packets_of (events_of_pieces job (l ∷ []))) (same ∙ is))

pub attached_none : (job : Job) (held : List ℕ) → held ≡ [] → HasAttached job held [] []
attached_none job held none = record { pieces = []; joined = sym none; full = tt; short = rw none (omega arith); made = refl }

-- a stream has a text, so a first part of it was written
pub output_prefix : (job : Job) (told old new : Option (List ℕ)) → IfSome told (λ bytes. AreBytes bytes → (all : List ℕ) (status : ℕ) → IsAttachedOutput job bytes all status → AppendsPrefix old new all) → IfSome told (WritesFirst (IsAttachedOutput job) old new)
output_prefix job None old new each = tt
output_prefix job (Some bytes) old new each = λ are.
    let whole : IsAttachedOutput job bytes (packets_of (output_events job bytes)) 0 = (refl, refl) in
    record { text = _; status = 0; filtered = whole; written = each are _ 0 whole }
