-- What is heard, one piece after another.
use Rattle.std.proofs.Common.{◌≡◌, inl, inr, ℕ, List, [], ◌∷◌, ◌++◌, refl, sym, ap, ◌∙◌, subst, append_assoc}
use Rattle.std.proofs.lemmas.List.{append-nil}
use Rattle.std.proofs.lemmas.List.Concat.{flat_map-append}
use Rattle.packet_codec.specs.Lanes.{joined}
use Rattle.packet_codec.specs.Packets.{ArePackets}
use Rattle.packet_codec.specs.declared.event.Event.{Event}
use Rattle.suite_run.specs.Aloud.{ArePieces}
use Rattle.command_steps.specs.Hearing.{HasHeard, HearsMore, StopsHearing, MayStop}

-- a piece more
pieces_more : (groups : List (List Event)) (pieces : List (List ℕ)) (group : List Event) (piece : List ℕ) → ArePieces groups pieces → ArePieces (group ∷ []) (piece ∷ []) → ArePieces (groups ++ group ∷ []) (pieces ++ piece ∷ [])
pieces_more [] [] group piece are one = one
pieces_more [] (p ∷ pieces) group piece are one = absurd are
pieces_more (g ∷ groups) [] group piece are one = absurd are
pieces_more (g ∷ groups) (p ∷ pieces) group piece are one = (are.0, pieces_more groups pieces group piece are.1 one)

joined_more : (pieces : List (List ℕ)) (piece : List ℕ) → joined (pieces ++ piece ∷ []) ≡ joined pieces ++ piece
joined_more pieces piece = flat_map-append (λ list. list) pieces (piece ∷ []) ∙ ap (λ l. joined pieces ++ l) (append-nil piece)

module _ {L : Type 0} (heard : L → L → List (List ℕ) → Type 0) where
  -- nothing more was heard
  pub hears_none : (now : L) (bytes : List ℕ) → bytes ≡ [] → HearsMore heard now now bytes
  hears_none now bytes none begun front has = subst (HasHeard heard begun now) (sym (append-nil front) ∙ ap (λ (l : List ℕ). front ++ l) (sym none)) has

  pub hears_then : (a b c : L) (run more : List ℕ) → HearsMore heard a b run → HearsMore heard b c more → HearsMore heard a c (run ++ more)
  hears_then a b c run more first second begun front has = subst (HasHeard heard begun c) (append_assoc front run more) (second begun (front ++ run) (first begun front has))

  -- a piece of whole packets was
  pub hears_piece : (old new : L) (piece : List ℕ) → ArePackets piece → ((begun : L) (pieces : List (List ℕ)) → heard begun old pieces → heard begun new (pieces ++ piece ∷ [])) → HearsMore heard old new piece
  hears_piece old new piece (events, are) hears begun front has = record {
    groups = has.groups ++ events ∷ [];
    pieces = has.pieces ++ piece ∷ [];
    are_pieces = pieces_more has.groups has.pieces events piece has.are_pieces (are, tt);
    whole = ap (λ l. l ++ piece) has.whole ∙ sym (joined_more has.pieces piece);
    holds = hears begun has.pieces has.holds;
  }

  module _ (keeps : L → L → List (List ℕ) → Type 0) where
    -- ---- at each exit

    stops_heard : (begun now : L) (bytes : List ℕ) → HasHeard heard begun now bytes → StopsHearing heard keeps begun now
    stops_heard begun now bytes has = record { groups = has.groups; pieces = has.pieces; are_pieces = has.are_pieces; holds = inl has.holds }

    pub stops_same : (now : L) → MayStop heard keeps now now
    stops_same now begun front has = stops_heard begun now front has

    pub stops_behind : (old new : L) (bytes : List ℕ) → HearsMore heard old new bytes → MayStop heard keeps old new
    stops_behind old new bytes more begun front has = stops_heard begun new (front ++ bytes) (more begun front has)

    pub stops_then : (a b c : L) (bytes : List ℕ) → HearsMore heard a b bytes → MayStop heard keeps b c → MayStop heard keeps a c
    stops_then a b c bytes more stops begun front has = stops begun (front ++ bytes) (more begun front has)

    -- memory was wanted to hear a piece
    pub stops_wanting : (old new : L) (piece : List ℕ) → ArePackets piece → ((begun : L) (pieces : List (List ℕ)) → heard begun old pieces → keeps begun new (pieces ++ piece ∷ [])) → MayStop heard keeps old new
    stops_wanting old new piece (events, are) kept begun front has = record {
      groups = has.groups ++ events ∷ [];
      pieces = has.pieces ++ piece ∷ [];
      are_pieces = pieces_more has.groups has.pieces events piece has.are_pieces (are, tt);
      holds = inr (kept begun has.pieces has.holds);
    }
