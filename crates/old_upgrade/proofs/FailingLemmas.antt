-- What failed last, heard piece by piece.
use Rattle.std.proofs.Common.{◌≡◌, ℕ, ◌+◌, ◌<◌, ◌≤◌, List, [], ◌∷◌, ◌++◌, take, drop, length, Option, Some, None, IfSome, IsSome, IsSomeAnd, refl, sym, ap, ◌∙◌, subst, arith}
use Rattle.std.specs.Cmp.Lexicographic.{slice_cmp}
use Rattle.std.specs.FinMap.{entries_sorted}
use Rattle.std.specs.FinMap as fin
use Rattle.std.specs.List.Sorted.{IsStrictlySortedBy}
use Rattle.std.specs.Ordering.{nat_cmp}
use Rattle.std.proofs.Math.Seq.{take-add}
use Rattle.std.proofs.lemmas.List.{take_all, take-append-drop, length-take, length-drop}
use Rattle.edge_io.specs.Disk.{Folder}
use Rattle.edge_io.specs.Steps.{HasFile, ReadsPart, IsPart}
use Rattle.outcome_fold.specs.Order.{text_table, in_byte_order}
use Rattle.run_ledger.proofs.TimedLemmas.{keys_sorted}
use Rattle.old_folder.specs.Olds.{failing_name}
use Rattle.old_runs.specs.Fed.{HasHeardFile}
use Rattle.old_runs.specs.Files.{IsDamaged, AreFailingIn}
use Rattle.old_runs.specs.declared.failing_tests.OldFailing.{OldFailing}
use Rattle.old_upgrade.specs.Recording.{HasHeardTo, HasHeardAll, HearsPiece, FailedLast}
use Rattle.old_upgrade.specs.Upgrading.{AreFailing}

set_in_order : (texts : List (List ℕ)) → IsStrictlySortedBy (slice_cmp nat_cmp) (in_byte_order texts)
set_in_order texts = keys_sorted (fin.entries (text_table texts)) (entries_sorted (text_table texts))

-- the ids that fail in rows are in order
pub failing_ordered : (bytes : List ℕ) (ids : List (List ℕ)) → AreFailingIn bytes ids → IsStrictlySortedBy (slice_cmp nat_cmp) ids
failing_ordered bytes ids are = subst (IsStrictlySortedBy (slice_cmp nat_cmp)) (sym are.2) (set_in_order _)

some_same : (a b : List ℕ) → Some a ≡ Some b → a ≡ b
some_same a b e = cc

pub heard_none : (a : Option Folder) (failing : OldFailing) → HasHeardFile failing [] → HasFile a failing_name → IfSome a (HasHeardTo 0 failing)
heard_none None failing fresh there = tt
heard_none (Some s) failing fresh there = by (s.disk.published failing_name) refl there
  where
    by : (o : Option (List ℕ)) → s.disk.published failing_name ≡ o → IsSome o → HasHeardTo 0 failing s
    by None is some = cc
    by (Some bytes) is some = record { bytes = bytes; there = is; within = omega arith; heard = fresh }

module _ (place room count : ℕ) (old new : OldFailing) where
  module _ (s : Folder) (so_far : HasHeardTo place old s) (piece : HearsPiece place room count old new s) where
    same_bytes : piece.bytes ≡ so_far.bytes
    same_bytes = some_same piece.bytes so_far.bytes (sym piece.there ∙ so_far.there)

    abbrev bytes : List ℕ
    bytes = so_far.bytes

    size : count ≡ length (take room (drop place bytes))
    size = piece.size ∙ ap (λ (b : List ℕ). length (take room (drop place b))) same_bytes

    heard_to : (next : List ℕ) → take place bytes ++ take room (drop place bytes) ≡ next → HasHeardFile new next
    heard_to next is = subst (HasHeardFile new) ((λ i. take place bytes ++ take room (drop place (same_bytes i))) ∙ is) (piece.each (take place bytes) so_far.heard)

    heard_more : (next : ℕ) → next ≡ place + room → room ≤ count → HasHeardTo next new s
    heard_more next is full = record {
      bytes = bytes;
      there = so_far.there;
      within = omega (arith, is, full, size, length-take room (drop place bytes), length-drop place bytes, so_far.within);
      heard = heard_to (take next bytes) (sym (take-add place room bytes) ∙ ap (λ (n : ℕ). take n bytes) (sym is));
    }

    heard_all : count < room → HasHeardAll new s
    heard_all less =
        let rest : take room (drop place bytes) ≡ drop place bytes = take_all room (drop place bytes) (omega (arith, less, size, length-take room (drop place bytes), length-drop place bytes)) in
        record { bytes = bytes; there = so_far.there; heard = heard_to bytes (ap (λ (l : List ℕ). take place bytes ++ l) rest ∙ take-append-drop place bytes) }

  pub some_more : (a : Option Folder) → IfSome a (HasHeardTo place old) → IfSome a (HearsPiece place room count old new) → (next : ℕ) → next ≡ place + room → room ≤ count → IfSome a (HasHeardTo next new)
  some_more None so_far piece next is full = tt
  some_more (Some s) so_far piece next is full = heard_more s so_far piece next is full

  pub some_all : (a : Option Folder) → IfSome a (HasHeardTo place old) → IfSome a (HearsPiece place room count old new) → count < room → IfSome a (HasHeardAll new)
  some_all None so_far piece less = tt
  some_all (Some s) so_far piece less = heard_all s so_far piece less

-- what was heard of all of it
failing_by : (o : Option (List ℕ)) (old : List ℕ) (ids : List (List ℕ)) → o ≡ Some old → (IsDamaged old → ⊥) → AreFailingIn old ids → AreFailing o ids
failing_by o old ids is whole are = subst (λ (p : Option (List ℕ)). AreFailing p ids) (sym is) (whole, are)

pub failed_last : (a : Option Folder) (failing : OldFailing) (ids : List (List ℕ)) → IfSome a (HasHeardAll failing) → ((bytes : List ℕ) → HasHeardFile failing bytes → IsDamaged bytes → ⊥) → ((bytes : List ℕ) → HasHeardFile failing bytes → AreFailingIn bytes ids) → IfSome a (FailedLast ids)
failed_last None failing ids all whole are = tt
failed_last (Some s) failing ids all whole are = failing_by (s.disk.published failing_name) all.bytes ids all.there (whole all.bytes all.heard) (are all.bytes all.heard)

damaged_by : (o : Option (List ℕ)) (old : List ℕ) → o ≡ Some old → IsDamaged old → IsSomeAnd o IsDamaged
damaged_by o old is damaged = subst (λ (p : Option (List ℕ)). IsSomeAnd p IsDamaged) (sym is) damaged

pub failing_damaged : (a : Option Folder) (failing : OldFailing) → IfSome a (HasHeardAll failing) → ((bytes : List ℕ) → HasHeardFile failing bytes → IsDamaged bytes) → IfSome a (λ s. IsSomeAnd (s.disk.published failing_name) IsDamaged)
failing_damaged None failing all damaged = tt
failing_damaged (Some s) failing all damaged = damaged_by (s.disk.published failing_name) all.bytes all.there (damaged all.bytes all.heard)

none_failed : (o : Option (List ℕ)) (ids : List (List ℕ)) → o ≡ None → ids ≡ [] → AreFailing o ids
none_failed None ids is none = none
none_failed (Some bytes) ids is none = cc

pub no_failing : (a : Option Folder) (ids : List (List ℕ)) → IfSome a (λ s. s.disk.published failing_name ≡ None) → ids ≡ [] → IfSome a (FailedLast ids)
no_failing None ids none empty = tt
no_failing (Some s) ids none empty = none_failed (s.disk.published failing_name) ids none empty

pub nothing_ordered : (ids : List (List ℕ)) → ids ≡ [] → IsStrictlySortedBy (slice_cmp nat_cmp) ids
unfolding IsStrictlySortedBy
nothing_ordered [] is = tt
nothing_ordered (id ∷ ids) is = cc

pub some_not_none : (o : Option (List (List ℕ))) (ids : List (List ℕ)) → o ≡ Some ids → o ≡ None → ⊥
some_not_none o ids some none = cc

-- a piece that was read and heard
module _ (place room count : ℕ) (old new : OldFailing) (buf : List ℕ) (size : room ≡ length buf) (hears : (bytes : List ℕ) → HasHeardFile old bytes → HasHeardFile new (bytes ++ take count buf)) where
  piece_by : (s : Folder) (o : Option (List ℕ)) → s.disk.published failing_name ≡ o → IsSome o → IfSome o (λ bytes. IsPart bytes place buf count) → HearsPiece place room count old new s
  piece_by s None is some part = cc
  piece_by s (Some whole) is some part =
      let read : take count buf ≡ take room (drop place whole) = part.same ∙ ap (λ (n : ℕ). take n (drop place whole)) (sym size) in
      record {
        bytes = whole;
        there = is;
        size = omega (arith, part.fits, length-take count buf, ap length read);
        each = λ front heard. subst (λ (l : List ℕ). HasHeardFile new (front ++ l)) read (hears front heard);
      }

  pub piece_heard : (a : Option Folder) → HasFile a failing_name → ReadsPart a failing_name place buf count → IfSome a (HearsPiece place room count old new)
  piece_heard None there part = tt
  piece_heard (Some s) there part = piece_by s (s.disk.published failing_name) refl there part
