-- A stream has one cut, and its first bytes begin it.
use Rattle.std.proofs.Common.{◌≡◌, ℕ, List, [], ◌∷◌, ◌++◌, length, get_or, drop, refl, sym, ap, ◌∙◌, arith}
use Rattle.std.proofs.lemmas.List.{length-append}
use Rattle.packet_codec.specs.declared.event.Event.{Event}
use Rattle.packet_codec.specs.Grammar.{AreBytes}
use Rattle.stream_reader.specs.Cut.{Piece, packet, foreign, BeginsWithPacketOf, IsCut, IsOpenCut}
use Rattle.stream_reader.proofs.FrontLemmas.{are_behind, packet_some, found_none, none_found, found_longer, found_needs_no_more, stays_none, one_found}

-- where a packet stands, there are bytes
pub not_empty : (rest : List ℕ) (e : Event) → BeginsWithPacketOf [] e rest → ⊥
not_empty rest e f = omega (arith, packet_some f.front e f.spelled, ap length f.parts, length-append f.front rest)

pub found_not_empty : (bytes rest : List ℕ) (e : Event) → BeginsWithPacketOf bytes e rest → bytes ≡ [] → ⊥
found_not_empty bytes rest e f empty = omega (arith, packet_some f.front e f.spelled, ap length f.parts, length-append f.front rest, ap length empty)

are_rest : (bytes rest : List ℕ) (e : Event) → AreBytes bytes → BeginsWithPacketOf bytes e rest → AreBytes rest
are_rest bytes rest e are f = behind f.front f.parts
  where
    behind : (front : List ℕ) → bytes ≡ front ++ rest → AreBytes rest
    behind front parts = are_behind front rest (rw parts at are)

are_next : (bytes rest : List ℕ) (byte : ℕ) → AreBytes bytes → bytes ≡ byte ∷ rest → AreBytes rest
are_next bytes rest byte are parts = are_behind (byte ∷ []) rest (rw parts at are)

same_byte : (bytes rest rest' : List ℕ) (byte byte' : ℕ) → bytes ≡ byte ∷ rest → bytes ≡ byte' ∷ rest' → (byte ≡ byte') × (rest ≡ rest')
same_byte bytes rest rest' byte byte' p q = let e : byte ∷ rest ≡ byte' ∷ rest' = sym p ∙ q in (ap (λ (l : List ℕ). get_or l 0 0) e, ap (drop 1) e)

pub one_cut : (ps qs : List Piece) (bytes : List ℕ) → AreBytes bytes → IsCut bytes ps → IsCut bytes qs → ps ≡ qs
one_cut [] [] bytes are c d = refl
one_cut [] (packet e ∷ qs) bytes are c (rest, found, d) = absurd (found_not_empty bytes rest e found c)
one_cut [] (foreign byte ∷ qs) bytes are c (rest, none, parts, d) = absurd (omega (arith, ap length (sym c ∙ parts)))
one_cut (packet e ∷ ps) [] bytes are (rest, found, c) d = absurd (found_not_empty bytes rest e found d)
one_cut (packet e ∷ ps) (packet e' ∷ qs) bytes are (rest, found, c) (rest', found', d) =
    let same = one_found bytes rest rest' e e' are found found' in
    let d' : IsCut rest qs = rw (same.1) d in
    let tails = one_cut ps qs rest (are_rest bytes rest e are found) c d' in
    ap (λ (x : Event). packet x ∷ ps) same.0 ∙ ap (λ (l : List Piece). packet e' ∷ l) tails
one_cut (packet e ∷ ps) (foreign byte ∷ qs) bytes are (rest, found, c) (rest', none, parts, d) = absurd (none e rest found)
one_cut (foreign byte ∷ ps) [] bytes are (rest, none, parts, c) d = absurd (omega (arith, ap length (sym d ∙ parts)))
one_cut (foreign byte ∷ ps) (packet e ∷ qs) bytes are (rest, none, parts, c) (rest', found, d) = absurd (none e rest' found)
one_cut (foreign byte ∷ ps) (foreign byte' ∷ qs) bytes are (rest, none, parts, c) (rest', none', parts', d) =
    let same = same_byte bytes rest rest' byte byte' parts parts' in
    let d' : IsCut rest qs = rw (same.1) d in
    let tails = one_cut ps qs rest (are_next bytes rest byte are parts) c d' in
    ap (λ (x : ℕ). foreign x ∷ ps) same.0 ∙ ap (λ (l : List Piece). foreign byte' ∷ l) tails

pub one_open_cut : (ps qs : List Piece) (bytes : List ℕ) → AreBytes bytes → IsOpenCut bytes ps → IsOpenCut bytes qs → ps ≡ qs
one_open_cut [] [] bytes are c d = refl
one_open_cut [] (packet e ∷ qs) bytes are c (rest, found, d) = absurd (found_needs_no_more bytes rest e are found c)
one_open_cut [] (foreign byte ∷ qs) bytes are c (rest, none, closed, parts, d) = absurd (closed c)
one_open_cut (packet e ∷ ps) [] bytes are (rest, found, c) d = absurd (found_needs_no_more bytes rest e are found d)
one_open_cut (packet e ∷ ps) (packet e' ∷ qs) bytes are (rest, found, c) (rest', found', d) =
    let same = one_found bytes rest rest' e e' are found found' in
    let d' : IsOpenCut rest qs = rw (same.1) d in
    let tails = one_open_cut ps qs rest (are_rest bytes rest e are found) c d' in
    ap (λ (x : Event). packet x ∷ ps) same.0 ∙ ap (λ (l : List Piece). packet e' ∷ l) tails
one_open_cut (packet e ∷ ps) (foreign byte ∷ qs) bytes are (rest, found, c) (rest', none, closed, parts, d) = absurd (none e rest found)
one_open_cut (foreign byte ∷ ps) [] bytes are (rest, none, closed, parts, c) d = absurd (closed d)
one_open_cut (foreign byte ∷ ps) (packet e ∷ qs) bytes are (rest, none, closed, parts, c) (rest', found, d) = absurd (none e rest' found)
one_open_cut (foreign byte ∷ ps) (foreign byte' ∷ qs) bytes are (rest, none, closed, parts, c) (rest', none', closed', parts', d) =
    let same = same_byte bytes rest rest' byte byte' parts parts' in
    let d' : IsOpenCut rest qs = rw (same.1) d in
    let tails = one_open_cut ps qs rest (are_next bytes rest byte are parts) c d' in
    ap (λ (x : ℕ). foreign x ∷ ps) same.0 ∙ ap (λ (l : List Piece). foreign byte' ∷ l) tails

-- what is cut off the first bytes is cut off, whatever follows
pub open_cut_first : (ps qs : List Piece) (bytes more : List ℕ) → AreBytes bytes → AreBytes more → AreBytes (bytes ++ more) → IsOpenCut bytes ps → IsCut (bytes ++ more) qs → (rest : List Piece) × (qs ≡ ps ++ rest)
open_cut_first [] qs bytes more are are' both c d = (qs, refl)
open_cut_first (packet e ∷ ps) [] bytes more are are' both (rest, found, c) d = absurd (found_not_empty (bytes ++ more) (rest ++ more) e (found_longer bytes rest more e found) d)
open_cut_first (packet e ∷ ps) (packet e' ∷ qs) bytes more are are' both (rest, found, c) (rest', found', d) =
    let longer = found_longer bytes rest more e found in
    let same = one_found (bytes ++ more) (rest ++ more) rest' e e' both longer found' in
    let d' : IsCut (rest ++ more) qs = rw (same.1) d in
    let next = open_cut_first ps qs rest more (are_rest bytes rest e are found) are' (are_rest (bytes ++ more) (rest ++ more) e both longer) c d' in
    (next.0, ap (λ (x : Event). packet x ∷ qs) (sym same.0) ∙ ap (λ (l : List Piece). packet e ∷ l) next.1)
open_cut_first (packet e ∷ ps) (foreign byte ∷ qs) bytes more are are' both (rest, found, c) (rest', none, parts, d) = absurd (none e (rest ++ more) (found_longer bytes rest more e found))
open_cut_first (foreign byte ∷ ps) [] bytes more are are' both (rest, none, closed, parts, c) d = absurd (omega (arith, ap length d, ap length parts, length-append bytes more))
open_cut_first (foreign byte ∷ ps) (packet e ∷ qs) bytes more are are' both (rest, none, closed, parts, c) (rest', found, d) =
    absurd (none_found (bytes ++ more) (stays_none bytes more are' (found_none bytes none) closed) e rest' found)
open_cut_first (foreign byte ∷ ps) (foreign byte' ∷ qs) bytes more are are' both (rest, none, closed, parts, c) (rest', none', parts', d) =
    let longer : bytes ++ more ≡ byte ∷ (rest ++ more) = ap (λ (l : List ℕ). l ++ more) parts in
    let same = same_byte (bytes ++ more) (rest ++ more) rest' byte byte' longer parts' in
    let d' : IsCut (rest ++ more) qs = rw (same.1) d in
    let next = open_cut_first ps qs rest more (are_next bytes rest byte are parts) are' (are_next (bytes ++ more) (rest ++ more) byte both longer) c d' in
    (next.0, ap (λ (x : ℕ). foreign x ∷ qs) (sym same.0) ∙ ap (λ (l : List Piece). foreign byte ∷ l) next.1)
