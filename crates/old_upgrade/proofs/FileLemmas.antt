-- A file that is recorded piece by piece.
use Rattle.std.proofs.Common.{◌≡◌, ℕ, ◌+◌, ◌<◌, ◌≤◌, List, [], ◌++◌, take, drop, length, Option, Some, None, IfSome, IsSome, refl, sym, ap, ◌∙◌, subst, arith, append-nil}
use Rattle.std.specs.Option.{option_map}
use Rattle.std.proofs.Math.Seq.{take-add}
use Rattle.std.proofs.lemmas.List.{take_all, take-append-drop, length-take, length-drop}
use Rattle.std.proofs.lemmas.List.Elements.{All-nil, All-append}
use Rattle.std.proofs.lemmas.List.Concat.{flat_map-append}
use Rattle.edge_io.specs.Disk.{Disk, Draft, Folder}
use Rattle.edge_io.specs.Steps.{Goes, Stays, Grown, grown, HasFile, ReadsPart, IsPart}
use Rattle.edge_io.proofs.Going.{goes_then}
use Rattle.packet_codec.specs.Canonical.{IsEvent, Fits, canonical}
use Rattle.packet_codec.specs.Packets.{ArePacketsOf}
use Rattle.packet_codec.specs.declared.event.Event.{Event}
use Rattle.run_shelf.specs.Drafts.{SameButDraft}
use Rattle.run_shelf.proofs.DraftLemmas.{grown_then}
use Rattle.old_runs.specs.Fed.{HasFed}
use Rattle.old_runs.specs.Giving.{AppendsEvents}
use Rattle.old_runs.specs.declared.file.OldFile.{OldFile}
use Rattle.old_upgrade.specs.Recording.{HasRecordedTo, HasRecordedAll, RecordsMore, RecordsPiece}

pub no_packets : ArePacketsOf [] []
no_packets = record { are_events = All-nil IsEvent; fit = All-nil Fits; packets = refl }

pub packets_both : (events more : List Event) (bytes piece : List ℕ) → ArePacketsOf events bytes → ArePacketsOf more piece → ArePacketsOf (events ++ more) (bytes ++ piece)
packets_both events more bytes piece are also = record {
  are_events = All-append IsEvent events more are.are_events also.are_events;
  fit = All-append Fits events more are.fit also.fit;
  packets = (λ i. are.packets i ++ also.packets i) ∙ sym (flat_map-append canonical events more);
}

grown_nothing_by : (d : Option Draft) → option_map (grown []) d ≡ d
grown_nothing_by None = refl
grown_nothing_by (Some x) = ap (λ (b : List ℕ). Some (record { bytes = b; synced = x.synced })) (append-nil x.bytes)

-- nothing more behind the draft
pub grown_nothing : (s : Folder) → Grown [] s s
grown_nothing s = ap (λ (d : Option Draft). record s { draft = d }) (sym (grown_nothing_by s.draft))

pub grown_disk : (s t : Folder) (bytes : List ℕ) → Grown bytes s t → t.disk ≡ s.disk
grown_disk s t bytes is = ap (λ (f : Folder). f.disk) is

pub grown_file : (s t : Folder) (bytes name : List ℕ) → Grown bytes s t → t.disk.published name ≡ s.disk.published name
grown_file s t bytes name is = ap (λ (f : Folder). f.disk.published name) is

some_same : (a b : List ℕ) → Some a ≡ Some b → a ≡ b
some_same a b e = cc

-- nothing was read of a file that is there
pub recorded_none : (name : List ℕ) (file : OldFile) (s : Folder) → HasFed file [] [] → IsSome (s.disk.published name) → HasRecordedTo name 0 file s s
recorded_none name file s fresh some = by (s.disk.published name) refl some
  where
    by : (o : Option (List ℕ)) → s.disk.published name ≡ o → IsSome o → HasRecordedTo name 0 file s s
    by None is some = cc
    by (Some bytes) is some = record {
      bytes = bytes;
      there = is;
      within = omega arith;
      given = [];
      fed = fresh;
      packets = [];
      are = no_packets;
      grown = grown_nothing s;
    }

-- one piece more
module _ (name : List ℕ) (place room count : ℕ) (old new : OldFile) (s m t : Folder) (so_far : HasRecordedTo name place old s m) (piece : RecordsPiece name place room count old new m t) where
  same_bytes : piece.bytes ≡ so_far.bytes
  same_bytes = some_same piece.bytes so_far.bytes (sym piece.there ∙ grown_file s m so_far.packets name so_far.grown ∙ so_far.there)

  abbrev bytes : List ℕ
  bytes = so_far.bytes

  step : RecordsMore so_far.given (HasFed new (take place bytes ++ take room (drop place piece.bytes))) m t
  step = piece.each (take place bytes) so_far.given so_far.fed

  all_grown : Grown (so_far.packets ++ step.packets) s t
  all_grown = grown_then s m t so_far.packets step.packets so_far.grown step.grown

  size : count ≡ length (take room (drop place bytes))
  size = piece.size ∙ ap (λ (b : List ℕ). length (take room (drop place b))) same_bytes

  fed_to : (next : List ℕ) → take place bytes ++ take room (drop place bytes) ≡ next → HasFed new next (so_far.given ++ step.more)
  fed_to next is = subst (λ (b : List ℕ). HasFed new b (so_far.given ++ step.more)) ((λ i. take place bytes ++ take room (drop place (same_bytes i))) ∙ is) step.holds

  pub recorded_more : (next : ℕ) → next ≡ place + room → room ≤ count → HasRecordedTo name next new s t
  recorded_more next is full = record {
    bytes = bytes;
    there = so_far.there;
    within = omega (arith, is, full, size, length-take room (drop place bytes), length-drop place bytes, so_far.within);
    given = so_far.given ++ step.more;
    fed = fed_to (take next bytes) (sym (take-add place room bytes) ∙ ap (λ (n : ℕ). take n bytes) (sym is));
    packets = so_far.packets ++ step.packets;
    are = packets_both so_far.given step.more so_far.packets step.packets so_far.are step.are;
    grown = all_grown;
  }

  pub recorded_all : count < room → HasRecordedAll name new s t
  recorded_all less =
      let rest : take room (drop place bytes) ≡ drop place bytes = take_all room (drop place bytes) (omega (arith, less, size, length-take room (drop place bytes), length-drop place bytes)) in
      record {
        bytes = bytes;
        there = so_far.there;
        given = so_far.given ++ step.more;
        fed = fed_to bytes (ap (λ (l : List ℕ). take place bytes ++ l) rest ∙ take-append-drop place bytes);
        packets = so_far.packets ++ step.packets;
        are = packets_both so_far.given step.more so_far.packets step.packets so_far.are step.are;
        grown = all_grown;
      }

-- where the folder is told or not
pub goes_none : (name : List ℕ) (file : OldFile) (a : Option Folder) → HasFed file [] [] → HasFile a name → Goes a a (HasRecordedTo name 0 file)
goes_none name file None fresh there = tt
goes_none name file (Some s) fresh there = recorded_none name file s fresh there

module _ (name : List ℕ) (place room count : ℕ) (old new : OldFile) (a b c : Option Folder) (so_far : Goes a b (HasRecordedTo name place old)) (piece : Goes b c (RecordsPiece name place room count old new)) where
  pub goes_more : (next : ℕ) → next ≡ place + room → room ≤ count → Goes a c (HasRecordedTo name next new)
  goes_more next is full =
      goes_then a b c (HasRecordedTo name place old) (RecordsPiece name place room count old new) (HasRecordedTo name next new) so_far piece
      (λ s m t p q. recorded_more name place room count old new s m t p q next is full)

  pub goes_all : count < room → Goes a c (HasRecordedAll name new)
  goes_all less =
      goes_then a b c (HasRecordedTo name place old) (RecordsPiece name place room count old new) (HasRecordedAll name new) so_far piece
      (λ s m t p q. recorded_all name place room count old new s m t p q less)

-- ---- a piece that was read, fed and written

module _ (name : List ℕ) (place room count : ℕ) (old new : OldFile) (buf held packets : List ℕ) (size : room ≡ length buf) (empty : held ≡ []) where
  abbrev Feeds : Type 0
  Feeds = (bytes : List ℕ) (given : List Event) → HasFed old bytes given → AppendsEvents held packets (λ more. HasFed new (bytes ++ take count buf) (given ++ more))

  module _ (feeds : Feeds) (s t : Folder) (last : Grown packets s t) where
    by_file : (o : Option (List ℕ)) → s.disk.published name ≡ o → IsSome o → IfSome o (λ bytes. IsPart bytes place buf count) → RecordsPiece name place room count old new s t
    by_file None is some part = cc
    by_file (Some whole) is some part =
        let read : take count buf ≡ take room (drop place whole) = part.same ∙ ap (λ (n : ℕ). take n (drop place whole)) (sym size) in
        record {
          bytes = whole;
          there = is;
          size = omega (arith, part.fits, length-take count buf, ap length read);
          each = λ front given fed.
              let gives = feeds front given fed in
              let same : packets ≡ gives.packets = gives.grown ∙ ap (λ (l : List ℕ). l ++ gives.packets) empty in
              record {
                more = gives.more;
                packets = packets;
                are = subst (ArePacketsOf gives.more) (sym same) gives.are;
                grown = last;
                holds = subst (λ (l : List ℕ). HasFed new (front ++ l) (given ++ gives.more)) read gives.holds;
              };
        }

  pub goes_piece : (a b c : Option Folder) → HasFile a name → ReadsPart a name place buf count → Goes a b Stays → Feeds → Goes b c (Grown packets) → Goes a c (RecordsPiece name place room count old new)
  goes_piece None None None there part same feeds last = tt
  goes_piece None None (Some t) there part same feeds last = absurd last
  goes_piece None (Some m) c there part same feeds last = absurd same
  goes_piece (Some s) None c there part same feeds last = absurd same
  goes_piece (Some s) (Some m) None there part same feeds last = absurd last
  goes_piece (Some s) (Some m) (Some t) there part same feeds last =
      by_file feeds s t (subst (λ (f : Folder). Grown packets f t) same last) (s.disk.published name) refl there part

-- the file is there still
pub file_stays : (name : List ℕ) (a b : Option Folder) → HasFile a name → Goes a b SameButDraft → HasFile b name
file_stays name None None there same = tt
file_stays name None (Some t) there same = absurd same
file_stays name (Some s) None there same = absurd same
file_stays name (Some s) (Some t) there same = subst (λ (d : Disk). IsSome (d.published name)) (sym same.disk) there

pub same_at_first : (a : Option Folder) → Goes a a SameButDraft
same_at_first None = tt
same_at_first (Some s) = record { disk = refl; past = refl }

pub same_then : (a b c : Option Folder) → Goes a b SameButDraft → Goes b c SameButDraft → Goes a c SameButDraft
same_then a b c first second = goes_then a b c SameButDraft SameButDraft SameButDraft first second (λ s m t p q. record { disk = q.disk ∙ p.disk; past = q.past ∙ p.past })
