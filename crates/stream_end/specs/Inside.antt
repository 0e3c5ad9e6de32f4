-- Where a stream ends inside a packet (docs/FORMATS.md, "A stream that ends inside a packet").
use Rattle.std.specs.Prelude.{◌≡◌, ℕ, ◌≤◌, ◌<◌, ◌==◌, ◌&&◌, Bool, false, List, [], ◌∷◌, ◌++◌, length, drop, nat_le}
use Rattle.std.proofs.Common.{inl, inr}
use Rattle.packet_codec.specs.Grammar.{AreBytes}
use Rattle.packet_codec.specs.Header.{NeedsMore}
use Rattle.packet_codec.proofs.DecidedLemmas.{Decided, decided_all, decided_less}
use Rattle.stream_reader.specs.Cut.{Piece, packet, foreign, BeginsWithPacketOf, BeginsWithNone, BeginsWithByte, IsOpenCut}
use Rattle.stream_reader.proofs.ExistLemmas.{some_decided}
use Rattle.stream_end.specs.Character.{missing_after_pieces}

-- behind the pieces that were cut off the front, two bytes or more are left
abbrev pub LeavesTwo : List ℕ → List Piece → Type 0
LeavesTwo bytes [] = 2 ≤ length bytes
LeavesTwo bytes (packet event ∷ pieces) = (rest : List ℕ) × BeginsWithPacketOf bytes event rest × LeavesTwo rest pieces
LeavesTwo bytes (foreign byte ∷ pieces) = (rest : List ℕ) × BeginsWithByte bytes byte rest × LeavesTwo rest pieces

-- The first place at which more bytes are asked for has two bytes or more: the signature and a byte of the version, at
-- least, of a packet that is not whole. And it does not go on with a character that the foreign bytes in front of it leave
-- open. In front of all the bytes so many are missing to one.
pub record EndsInsideBehind (missing : ℕ) (bytes : List ℕ) : Type 0 where
  pub pieces : List Piece
  pub cut : IsOpenCut bytes pieces
  pub two : LeavesTwo bytes pieces
  pub between : missing_after_pieces missing pieces ≡ 0

-- so it is of a whole stream, in front of which none are
abbrev pub EndsInside : List ℕ → Type 0
EndsInside = EndsInsideBehind 0

-- The stream stops so: some bytes that are still to come make a header of what is left, or it begins with a header of a
-- packet that is longer.
pub record HoldsBack (bytes : List ℕ) : Type 0 where
  pub front : List ℕ
  pub left : List ℕ
  pub parts : bytes ≡ front ++ left
  pub two : 2 ≤ length left
  pub more : NeedsMore left

-- no packet begins in the first so many bytes
abbrev pub BeginsNoneIn : (count : ℕ) → List ℕ → Type 0
BeginsNoneIn count bytes = (i : ℕ) → i < count → BeginsWithNone (drop i bytes)

-- whether a cut leaves two bytes
unfoldable pub leaves_two : (pieces : List Piece) (bytes : List ℕ) → IsOpenCut bytes pieces → Bool
leaves_two [] bytes cut = nat_le 2 (length bytes)
leaves_two (packet event ∷ pieces) bytes (rest, found, cut) = leaves_two pieces rest cut
leaves_two (foreign byte ∷ pieces) bytes (rest, none, closed, parts, cut) = leaves_two pieces rest cut

-- whether bytes that are known to be such end inside a packet, where so many are missing to a character in front of them
unfoldable pub inside_if : (missing : ℕ) (bytes : List ℕ) → Decided (AreBytes bytes) → Bool
inside_if missing bytes (inl are) =
    leaves_two (some_decided bytes are).1.pieces bytes (some_decided bytes are).1.cut
    && missing_after_pieces missing (some_decided bytes are).1.pieces == 0
inside_if missing bytes (inr never) = false

-- whether the bytes end inside a packet, where so many are missing to a character in front of them
unfoldable pub ends_inside_behind : (missing : ℕ) → List ℕ → Bool
ends_inside_behind missing bytes = inside_if missing bytes (decided_all (λ byte. byte < 256) (λ byte. decided_less byte 256) bytes)

-- whether the bytes, as a whole stream, end inside a packet
abbrev pub ends_inside : List ℕ → Bool
ends_inside = ends_inside_behind 0
