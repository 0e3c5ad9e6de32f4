-- A run that is copied piece by piece.
use Rattle.std.proofs.Common.{◌≡◌, ℕ, ◌+◌, ◌-◌, ◌<◌, ◌≤◌, Bool, true, false, List, [], ◌++◌, take, drop, length, Option, Some, None, IfSome, IsSome, IsSomeAnd, Result, Ok, Err, refl, sym, ap, ◌∙◌, subst, append_assoc, length-take, length-drop, take-append-drop, take_all, take-add, arith}
use Rattle.std.specs.Prelude.{IsErrAnd, OnErr}
use Rattle.std.proofs.KnownBytes.{Appends-nil, Appends-trans}
use Rattle.std.proofs.lemmas.Result.{err_from_is_err_and}
use Rattle.std.specs.Io.KnownBytes.{Appends}
use Rattle.edge_io.specs.Bytes.{AppendsPrefix}
use Rattle.edge_io.specs.Causes.{Rose, HasCause, RisesExactlyIf}
use Rattle.edge_io.specs.Disk.{Folder}
use Rattle.edge_io.specs.Seen.{Seen}
use Rattle.edge_io.specs.Steps.{Goes, Stays, IsPart}
use Rattle.run_shelf.specs.Holds.{FitsFolder}
use Rattle.run_shelf.specs.Outcomes.{IsRunPart}
use Rattle.run_shelf.specs.Repository.{Run, run_at}
use Rattle.run_shelf.proofs.ReadingLemmas.{same_state, stays_stays}
use Rattle.run_shelf.proofs.RunLemmas.{taken_before}
use Rattle.command_steps.specs.Copying.{read_failed, write_failed, Counts, HasBytesAt, BeginsAt, CopiesRun, GoesOnAt, HasPieceAt, CopiesPiece}
use Rattle.command_steps.specs.Outside.{Shown, shown}
use Rattle.command_steps.specs.Says.{SaysBytes, SaysOfFolder}
use Rattle.testr_words.specs.declared.command.Question.TheVariants.{Last}
use Rattle.command_steps.specs.declared.answer.Verdict.TheVariants.{Passed}
use Rattle.command_steps.specs.declared.run_report.PrintFault.{PrintFault}
use Rattle.command_steps.specs.declared.run_copy.CopyFault.{CopyFault}
use Rattle.command_steps.specs.declared.run_copy.CopyFault.TheVariants.{Read, Write}
use Rattle.command_steps.specs.declared.question_answers.TellFault.TheVariants.{NoMemory, Shelf as ReadFailed}

-- ---- lists

-- these are the first bytes up to that place, which is not past the end
abbrev IsFront : ℕ → List ℕ → List ℕ → Type 0
IsFront place bytes all = (place ≤ length all) × (bytes ≡ take place all)

module _ (all : List ℕ) (place room : ℕ) (bytes piece : List ℕ) (front : IsFront place bytes all) where
  front_on : (rest : List ℕ) × (drop place all ≡ piece ++ rest) → (rest : List ℕ) × (all ≡ (bytes ++ piece) ++ rest)
  front_on (rest, is) = (rest, sym (take-append-drop place all) ∙ ap (λ l. l ++ drop place all) (sym front.1) ∙ ap (λ l. bytes ++ l) is ∙ sym (append_assoc bytes piece rest))

  module _ (is : piece ≡ take room (drop place all)) where
    size : length piece ≡ length (take room (drop place all))
    size = ap length is

    front_more : (next : ℕ) → next ≡ place + room → room ≤ length piece → IsFront next (bytes ++ piece) all
    front_more next next_is full = (
      omega (arith, next_is, full, size, length-take room (drop place all), length-drop place all, front.0),
      ap (λ l. l ++ piece) front.1 ∙ ap (λ l. take place all ++ l) is ∙ sym (take-add place room all) ∙ ap (λ (n : ℕ). take n all) (sym next_is),
    )

    front_all : length piece < room → bytes ++ piece ≡ all
    front_all less =
        let rest : take room (drop place all) ≡ drop place all = take_all room (drop place all) (omega (arith, less, size, length-take room (drop place all), length-drop place all)) in
        ap (λ l. l ++ piece) front.1 ∙ ap (λ l. take place all ++ l) (is ∙ rest) ∙ take-append-drop place all

-- what a read gave is what is there from that place on
module _ (all : List ℕ) (place : ℕ) (buf : List ℕ) (count : ℕ) (part : IsPart all place buf count) where
  goes_on_whole : (rest : List ℕ) × (drop place all ≡ take count buf ++ rest)
  goes_on_whole = (drop (length buf) (drop place all), sym (take-append-drop (length buf) (drop place all)) ∙ ap (λ l. l ++ drop (length buf) (drop place all)) (sym part.same))

  goes_on_part : (n : ℕ) → (rest : List ℕ) × (drop place all ≡ take n (take count buf) ++ rest)
  goes_on_part n = (
    drop n (take count buf) ++ goes_on_whole.0,
    goes_on_whole.1 ∙ ap (λ l. l ++ goes_on_whole.0) (sym (take-append-drop n (take count buf))) ∙ append_assoc (take n (take count buf)) (drop n (take count buf)) goes_on_whole.0,
  )

-- ---- the run of a folder

some_each : {A : Type 0} (o : Option A) (P R : A → Type 0) → IsSomeAnd o P → ((a : A) → P a → R a) → IsSomeAnd o R
some_each None P R p each = p
some_each (Some a) P R p each = each a p

some_both : {A : Type 0} (o : Option A) (P Q R : A → Type 0) → IsSomeAnd o P → IsSomeAnd o Q → ((a : A) → P a → Q a → R a) → IsSomeAnd o R
some_both None P Q R p q each = p
some_both (Some a) P Q R p q each = each a p q

is_some_and : {A : Type 0} (o : Option A) (P : A → Type 0) → IsSome o → ((a : A) → P a) → IsSomeAnd o P
is_some_and None P is each = cc
is_some_and (Some a) P is each = each a

module _ (state : Option Folder) (number : ℕ) where
  abbrev OfRun : (Run → Type 0) → Type 0
  OfRun P = IfSome state (λ s. IsSomeAnd (run_at s.disk.published number) P)

  run_each : (P R : Run → Type 0) → OfRun P → ((r : Run) → P r → R r) → OfRun R
  run_each P R p each = by state p
    where
      by : (o : Option Folder) → IfSome o (λ s. IsSomeAnd (run_at s.disk.published number) P) → IfSome o (λ s. IsSomeAnd (run_at s.disk.published number) R)
      by None p = tt
      by (Some s) p = some_each (run_at s.disk.published number) P R p each

  run_both : (P Q R : Run → Type 0) → OfRun P → OfRun Q → ((r : Run) → P r → Q r → R r) → OfRun R
  run_both P Q R p q each = by state p q
    where
      by : (o : Option Folder) → IfSome o (λ s. IsSomeAnd (run_at s.disk.published number) P) → IfSome o (λ s. IsSomeAnd (run_at s.disk.published number) Q) → IfSome o (λ s. IsSomeAnd (run_at s.disk.published number) R)
      by None p q = tt
      by (Some s) p q = some_both (run_at s.disk.published number) P Q R p q each

  -- there is a run of a number below that of the runs
  run_there : (kinds : List Bool) (P : Run → Type 0) → number < length kinds → IfSome state (FitsFolder kinds) → ((r : Run) → P r) → OfRun P
  run_there kinds P known fits each = by state fits
    where
      by : (o : Option Folder) → IfSome o (FitsFolder kinds) → IfSome o (λ s. IsSomeAnd (run_at s.disk.published number) P)
      by None fits = tt
      by (Some s) fits = is_some_and (run_at s.disk.published number) P (taken_before s.disk.published kinds fits.kinds_are number known) each

-- what is copied is what is told of the last run
pub bytes_said : (kinds : List Bool) (bytes : List ℕ) (state : Option Folder) → 0 < length kinds → IfSome state (FitsFolder kinds) → IfSome state (HasBytesAt (length kinds - 1) bytes) → IfSome state (SaysOfFolder (Last true) bytes Passed)
bytes_said kinds bytes None some fits has = tt
bytes_said kinds bytes (Some s) some fits has = record { repository = fits.repository; says = λ _. at (run_at s.disk.published (length kinds - 1)) refl has }
  where
    at : (found : Option Run) → run_at s.disk.published (length kinds - 1) ≡ found → IsSomeAnd found (λ run. bytes ≡ run.bytes) → SaysBytes s bytes Passed
    at None there has = absurd has
    at (Some run) there has = record {
      number = length kinds - 1;
      run = run;
      last = record { count = record { repository = fits.repository; kinds = kinds; kinds_are = fits.kinds_are; count = omega (arith, some) }; there = there };
      text_is = has;
      verdict_is = refl;
    }

-- ---- one piece

module _ (before : Option Folder) (number place : ℕ) where
  pub none_at : (kinds : List Bool) → number < length kinds → IfSome before (FitsFolder kinds) → IfSome before (GoesOnAt number place [])
  none_at kinds known fits = run_there before number kinds (λ run. (rest : List ℕ) × (drop place run.bytes ≡ [] ++ rest)) known fits (λ run. (drop place run.bytes, refl))

  module _ (buf : List ℕ) (count : ℕ) (part : IfSome before (IsRunPart number place buf count)) where
    pub whole_at : IfSome before (GoesOnAt number place (take count buf))
    whole_at = run_each before number (λ run. IsPart run.bytes place buf count) (λ run. (rest : List ℕ) × (drop place run.bytes ≡ take count buf ++ rest)) part (λ run is. goes_on_whole run.bytes place buf count is)

    pub part_at : (n : ℕ) → IfSome before (GoesOnAt number place (take n (take count buf)))
    part_at n = run_each before number (λ run. IsPart run.bytes place buf count) (λ run. (rest : List ℕ) × (drop place run.bytes ≡ take n (take count buf) ++ rest)) part (λ run is. goes_on_part run.bytes place buf count is n)

    pub piece_at : (room : ℕ) → length buf ≡ room → IfSome before (HasPieceAt number place room (take count buf))
    piece_at room is = run_each before number (λ run. IsPart run.bytes place buf count) (λ run. take count buf ≡ take room (drop place run.bytes)) part (λ run p. p.same ∙ ap (λ (n : ℕ). take n (drop place run.bytes)) is)

-- how a call that failed, or that was done, tells of its count
rises : {T E : Type 0} (n m : ℕ) (result : Result T E) (fault : E) → result ≡ Err fault → HasCause n m result → RisesExactlyIf n m true
rises {T = T} {E = E} n m result fault is cause = record { later = cause.later; rose = λ failed. subst (λ (r : Result T E). OnErr r (Rose n m)) is cause.failed; stands = λ done. cc }

rests : {n m : ℕ} → m ≡ n → RisesExactlyIf n m false
rests same = record { later = omega (arith, same); rose = λ failed. cc; stands = λ done. same }

module _ (number place room : ℕ) (folder left : Seen Folder) (out : Seen (List ℕ)) (same : Goes folder.told left.told Stays) where
  -- a read that failed
  pub not_read : (kinds : List Bool) {T E : Type 0} (result : Result T E) (fault : E) → number < length kinds → IfSome folder.told (FitsFolder kinds) → result ≡ Err fault → HasCause folder.faults left.faults result → CopiesPiece number place room (shown folder out) (shown left out) (Err (Read ReadFailed))
  not_read kinds result fault known fits is cause = record {
    bytes = [];
    taken = Appends-nil out.told;
    front = none_at folder.told number place kinds known fits;
    size = tt;
    whole = tt;
    counts = record { same = same; reads = rises folder.faults left.faults result fault is cause; writes = rests refl };
  }

  module _ (taken : Seen (List ℕ)) (buf piece : List ℕ) (count : ℕ) (room_is : length buf ≡ room) (piece_is : piece ≡ take count buf) (part : IfSome folder.told (IsRunPart number place buf count)) (reads : left.faults ≡ folder.faults) where
    -- a piece that was written
    pub was_copied : count ≤ length buf → Appends out.told taken.told piece → taken.faults ≡ out.faults → CopiesPiece number place room (shown folder out) (shown left taken) (Ok count)
    was_copied few appends writes = record {
      bytes = take count buf;
      taken = subst (Appends out.told taken.told) piece_is appends;
      front = whole_at folder.told number place buf count part;
      size = omega (arith, few, length-take count buf);
      whole = piece_at folder.told number place buf count part room room_is;
      counts = record { same = same; reads = rests reads; writes = rests writes };
    }

    -- one that was not, or in part
    pub not_copied : {T E : Type 0} (result : Result T E) (fault : E) (told : PrintFault) → AppendsPrefix out.told taken.told piece → result ≡ Err fault → HasCause out.faults taken.faults result → CopiesPiece number place room (shown folder out) (shown left taken) (Err (Write told))
    not_copied result fault told (n, few, appends) is cause = record {
      bytes = take n (take count buf);
      taken = subst (λ l. Appends out.told taken.told (take n l)) piece_is appends;
      front = part_at folder.told number place buf count part n;
      size = tt;
      whole = tt;
      counts = record { same = same; reads = rests reads; writes = rises out.faults taken.faults result fault is cause };
    }

-- ---- one piece after another

pub copies_as : {number other : ℕ} {a b : Shown} {result : Result (Unit {0}) CopyFault} → number ≡ other → CopiesRun number a b result → CopiesRun other a b result
copies_as {a = a} {b = b} {result = result} is copies = subst (λ (n : ℕ). CopiesRun n a b result) is copies

-- the bytes of the run up to that place were copied, and nothing failed
pub record CopiedTo (number place : ℕ) (before after : Shown) : Type 0 where
  pub bytes : List ℕ
  pub taken : Appends before.out.told after.out.told bytes
  pub front : IfSome before.folder.told (λ s. IsSomeAnd (run_at s.disk.published number) (λ run. IsFront place bytes run.bytes))
  pub same : Goes before.folder.told after.folder.told Stays
  pub reads : after.folder.faults ≡ before.folder.faults
  pub writes : after.out.faults ≡ before.out.faults

stays_here : (a : Option Folder) → Goes a a Stays
stays_here None = tt
stays_here (Some s) = refl

pub copied_none : (number place : ℕ) (a : Shown) (kinds : List Bool) → place ≡ 0 → number < length kinds → IfSome a.folder.told (FitsFolder kinds) → CopiedTo number place a a
copied_none number place a kinds zero known fits = record {
  bytes = [];
  taken = Appends-nil a.out.told;
  front = run_there a.folder.told number kinds (λ run. IsFront place [] run.bytes) known fits (λ run. (omega (arith, zero), ap (λ (n : ℕ). take n run.bytes) (sym zero)));
  same = stays_here a.folder.told;
  reads = refl;
  writes = refl;
}

module _ (number place : ℕ) (a m : Shown) (so_far : CopiedTo number place a m) where
  module _ (b : Shown) {T U : Type 0} (first : Result T CopyFault) (second : Result U CopyFault) where
    counts_behind : read_failed first ≡ read_failed second → write_failed first ≡ write_failed second → Counts m b first → Counts a b second
    counts_behind reads writes counts = record {
      same = stays_stays a.folder.told m.folder.told b.folder.told so_far.same counts.same;
      reads = subst (λ (f : Bool). RisesExactlyIf a.folder.faults b.folder.faults f) reads (subst (λ (n : ℕ). RisesExactlyIf n b.folder.faults (read_failed first)) so_far.reads counts.reads);
      writes = subst (λ (f : Bool). RisesExactlyIf a.out.faults b.out.faults f) writes (subst (λ (n : ℕ). RisesExactlyIf n b.out.faults (write_failed first)) so_far.writes counts.writes);
    }

  -- what is known of the folder now, was known of it at first
  at_first : (P : Folder → Type 0) → IfSome m.folder.told P → IfSome a.folder.told P
  at_first P now = subst (λ (o : Option Folder). IfSome o P) (same_state a.folder.told m.folder.told so_far.same) now

  module _ (room : ℕ) (b : Shown) where
    module _ (result : Result ℕ CopyFault) (piece : CopiesPiece number place room m b result) where
      taken_behind : Appends a.out.told b.out.told (so_far.bytes ++ piece.bytes)
      taken_behind = Appends-trans a.out.told m.out.told b.out.told so_far.bytes piece.bytes so_far.taken piece.taken

      front_behind : IfSome a.folder.told (BeginsAt number (so_far.bytes ++ piece.bytes))
      front_behind = run_both a.folder.told number (λ run. IsFront place so_far.bytes run.bytes) (λ run. (rest : List ℕ) × (drop place run.bytes ≡ piece.bytes ++ rest)) (λ run. (rest : List ℕ) × (run.bytes ≡ (so_far.bytes ++ piece.bytes) ++ rest)) so_far.front (at_first (GoesOnAt number place piece.bytes) piece.front)
          (λ run front goes. front_on run.bytes place room so_far.bytes piece.bytes front goes)

    module _ (count : ℕ) (piece : CopiesPiece number place room m b (Ok count)) where
      here : IfSome a.folder.told (HasPieceAt number place room piece.bytes)
      here = at_first (HasPieceAt number place room piece.bytes) piece.whole

      -- a whole piece
      pub copied_more : (next : ℕ) → next ≡ place + room → room ≤ count → CopiedTo number next a b
      copied_more next next_is full = record {
        bytes = so_far.bytes ++ piece.bytes;
        taken = taken_behind (Ok count) piece;
        front = run_both a.folder.told number (λ run. IsFront place so_far.bytes run.bytes) (λ run. piece.bytes ≡ take room (drop place run.bytes)) (λ run. IsFront next (so_far.bytes ++ piece.bytes) run.bytes) so_far.front here
            (λ run front is. front_more run.bytes place room so_far.bytes piece.bytes front is next next_is (omega (arith, full, piece.size)));
        same = stays_stays a.folder.told m.folder.told b.folder.told so_far.same piece.counts.same;
        reads = piece.counts.reads.stands refl ∙ so_far.reads;
        writes = piece.counts.writes.stands refl ∙ so_far.writes;
      }

      -- the last piece
      pub copied_whole : count < room → CopiesRun number a b (Ok tt)
      copied_whole less = record {
        bytes = so_far.bytes ++ piece.bytes;
        taken = taken_behind (Ok count) piece;
        front = front_behind (Ok count) piece;
        whole = run_both a.folder.told number (λ run. IsFront place so_far.bytes run.bytes) (λ run. piece.bytes ≡ take room (drop place run.bytes)) (λ run. so_far.bytes ++ piece.bytes ≡ run.bytes) so_far.front here
            (λ run front is. front_all run.bytes place room so_far.bytes piece.bytes front is (omega (arith, less, piece.size)));
        counts = counts_behind b (Ok count) (Ok tt) refl refl piece.counts;
      }

    -- a piece that was not copied whole
    pub copied_not : (result : Result (Unit {0}) CopyFault) (fault : CopyFault) → IsErrAnd result (λ f. f ≡ fault) → CopiesPiece number place room m b (Err fault) → CopiesRun number a b result
    copied_not result fault refused piece =
        let p = err_from_is_err_and result refused in
        subst (CopiesRun number a b) (sym (p.1 ∙ ap Err p.2)) (record {
          bytes = so_far.bytes ++ piece.bytes;
          taken = taken_behind (Err fault) piece;
          front = front_behind (Err fault) piece;
          whole = tt;
          counts = counts_behind b (Err fault) (Err fault) (same_read fault) (same_write fault) piece.counts;
        })
      where
        same_read : (f : CopyFault) → read_failed {T = ℕ} (Err f) ≡ read_failed {T = Unit {0}} (Err f)
        same_read (Read e) = refl
        same_read (Write e) = refl

        same_write : (f : CopyFault) → write_failed {T = ℕ} (Err f) ≡ write_failed {T = Unit {0}} (Err f)
        same_write (Read e) = refl
        same_write (Write e) = refl

  -- no folder has such a run
  pub copied_on : CopiesRun number a m (Err (Read NoMemory))
  copied_on = record {
    bytes = so_far.bytes;
    taken = so_far.taken;
    front = run_each a.folder.told number (λ run. IsFront place so_far.bytes run.bytes) (λ run. (rest : List ℕ) × (run.bytes ≡ so_far.bytes ++ rest)) so_far.front
        (λ run front. (drop place run.bytes, sym (take-append-drop place run.bytes) ∙ ap (λ l. l ++ drop place run.bytes) (sym front.1)));
    whole = tt;
    counts = record { same = so_far.same; reads = rests so_far.reads; writes = rests so_far.writes };
  }
