-- The laws that a filter owes, of a job whose file is the input.
use Rattle.std.proofs.Common.{◌≡◌, ℕ, List, [], ◌∷◌, ◌++◌, length, sym, ap, ◌∙◌, append_assoc, arith}
use Rattle.std.specs.List.{concat, filter}
use Rattle.std.specs.Option.{option_to_list}
use Rattle.std.proofs.lemmas.List.Concat.{flat_map-append}
use Rattle.packet_codec.specs.declared.event.Event.{Event}
use Rattle.packet_codec.specs.Canonical.{packets_of}
use Rattle.packet_codec.specs.Grammar.{AreBytes}
use Rattle.sub_export.specs.declared.job.Job.{Job}
use Rattle.sub_export.specs.Output.{attached_piece_event, pieces_of, output_events, last_event}
use Rattle.filter_cli.specs.Tap.{is_full}
use Rattle.filter_cli.specs.TapLaws.{full_pieces_first, full_are, some_pieces, packets_then}
use Rattle.filter_cli.specs.Attached.{events_of_pieces, IsOutputSeen, IsAttachedOutput, HasAttached}

-- what a job has written of the bytes fed is the text that they decide
pub attached_seen : (job : Job) (held fed shown : List ℕ) → HasAttached job held fed shown → IsOutputSeen job fed shown
attached_seen job held fed shown h =
    h.made ∙ ap (λ (l : List (List ℕ)). packets_of (events_of_pieces job l)) (sym (ap (λ (l : List ℕ). filter is_full (pieces_of l)) h.joined ∙ full_are h.pieces held h.full h.short))

-- the events of some pieces and of others are those of the first ones, and then those of the others
pub piece_events_then : (job : Job) (pieces others : List (List ℕ)) → events_of_pieces job (pieces ++ others) ≡ events_of_pieces job pieces ++ events_of_pieces job others
piece_events_then job pieces others = flat_map-append (λ (piece : List ℕ). option_to_list (attached_piece_event job piece)) pieces others

-- the text that first bytes decide is a first part of the text of each file that begins with them
pub attached_front : (job : Job) (bytes more shown all : List ℕ) (status : ℕ) → AreBytes (bytes ++ more) → IsOutputSeen job bytes shown → IsAttachedOutput job (bytes ++ more) all status → (rest : List ℕ) × (all ≡ shown ++ rest)
attached_front job bytes more shown all status are s w =
    let (pieces, left, is, full, short) = some_pieces (length bytes) bytes (omega arith) in
    let first : shown ≡ packets_of (events_of_pieces job pieces) = s ∙ ap (λ (l : List (List ℕ)). packets_of (events_of_pieces job l)) (ap (λ (l : List ℕ). filter is_full (pieces_of l)) is ∙ full_are pieces left full short) in
    let cut : pieces_of (bytes ++ more) ≡ pieces ++ pieces_of (left ++ more) = ap pieces_of (ap (λ (l : List ℕ). l ++ more) is ∙ append_assoc (concat pieces) left more) ∙ full_pieces_first pieces (left ++ more) full in
    let rest : List Event = events_of_pieces job (pieces_of (left ++ more)) ++ last_event job ∷ [] in
    let events : output_events job (bytes ++ more) ≡ events_of_pieces job pieces ++ rest =
    ap (λ (l : List (List ℕ)). events_of_pieces job l ++ last_event job ∷ []) cut
    ∙ ap (λ (l : List Event). l ++ last_event job ∷ []) (piece_events_then job pieces (pieces_of (left ++ more)))
    ∙ append_assoc (events_of_pieces job pieces) (events_of_pieces job (pieces_of (left ++ more))) (last_event job ∷ []) in
    (packets_of rest, w.0 ∙ ap packets_of events ∙ packets_then (events_of_pieces job pieces) rest ∙ ap (λ (l : List ℕ). l ++ packets_of rest) (sym first))

-- a file has one text and one status
pub attached_one : (job : Job) (bytes all other : List ℕ) (status another : ℕ) → AreBytes bytes → IsAttachedOutput job bytes all status → IsAttachedOutput job bytes other another → (all ≡ other) × (status ≡ another)
attached_one job bytes all other status another are w v = (w.0 ∙ sym v.0, w.1 ∙ sym v.1)
