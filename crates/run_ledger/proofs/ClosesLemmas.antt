-- When a store is closed, by what the calls on it answered.
use Rattle.std.proofs.Common.{◌≡◌, Option, Some, None, Result, Ok, Err, IfOk, IsErrAnd, true, false, refl, sym, ap, ◌∙◌, subst, true≢false, arith}
use Rattle.std.specs.Prelude.{is_some}
use Rattle.std.specs.Result.{is_err}
use Rattle.edge_io.specs.Disk.{Folder}
use Rattle.edge_io.specs.Steps.{Goes, Stays}
use Rattle.run_shelf.specs.declared.faults.ShelfCall.{ShelfCall}
use Rattle.run_shelf.specs.declared.faults.StoreFault.{StoreFault}
use Rattle.run_shelf.specs.declared.faults.StoreFault.TheVariants.{Shelf, Closed}
use Rattle.run_shelf.specs.Stores.{Closes, fault_after, StoreSeen, Reads, StoreReads, FitsUnlessBroken}
use Rattle.run_shelf.proofs.ReadingLemmas.{StaysOpen, reads_as}
use Rattle.run_ledger.specs.declared.fault.LedgerFault.{LedgerFault}
use Rattle.run_ledger.specs.declared.fault.LedgerFault.TheVariants.{Store, NoMemory}
use Rattle.run_ledger.specs.Outcomes.{LedgerCloses, LedgerReads, closed_by}

ok_is_no_err : {T E : Type 0} (x : T) (e : E) → Ok x ≡ Err e → ⊥
ok_is_no_err x e is = true≢false (sym (ap is_err is))

some_is_not_none : {A : Type 0} (o : Option A) (a : A) → o ≡ None → o ≡ Some a → ⊥
some_is_not_none o a none some = true≢false (sym (ap is_some some) ∙ ap is_some none)

-- a refusal, as a result that might have this value
abbrev store_refusal : (T : Type 0) → StoreFault → Result T StoreFault
store_refusal T e = Err e

abbrev refusal : (T : Type 0) → LedgerFault → Result T LedgerFault
refusal T e = Err e

store_item : (T : Type 0) (a b : StoreFault) → refusal T (Store a) ≡ refusal T (Store b) → a ≡ b
store_item T a b e = cc

err_item : (T : Type 0) (a b : StoreFault) → store_refusal T a ≡ store_refusal T b → a ≡ b
err_item T a b e = cc

fault_item : (T : Type 0) (a b : LedgerFault) → refusal T a ≡ refusal T b → a ≡ b
fault_item T a b e = cc

in_store_none : (T : Type 0) (a : StoreFault) → refusal T NoMemory ≡ refusal T (Store a) → ⊥
in_store_none T a e = cc

-- a call that was done shows that the store was open
pub open_at_ok : {T : Type 0} (before after : Option ShelfCall) (x : T) → Closes before after (Ok x) → before ≡ None
open_at_ok None after x closes = refl
open_at_ok (Some call) after x closes = absurd (ok_is_no_err x (Closed call) ((closes.closed call).1 refl))

kept_by : (T U : Type 0) (before : Option ShelfCall) (e : StoreFault) → fault_after before (store_refusal T e) ≡ closed_by before (refusal U (Store e))
kept_by T U before (Shelf call) = refl
kept_by T U before (Closed call) = refl

-- the refusal of a store is handed on
pub refused : {T U : Type 0} (before after : Option ShelfCall) (e : StoreFault) → Closes {T = T} before after (Err e) → LedgerCloses {T = U} before after (Err (Store e))
refused {T = T} {U = U} before after e closes = record {
  closed = λ call. (
    λ is. (closes.closed call).0 (ap (store_refusal T) (store_item U e (Closed call) is)),
    λ is. ap (λ f. refusal U (Store f)) (err_item T e (Closed call) ((closes.closed call).1 is)),
  );
  kept = closes.kept ∙ kept_by T U before e;
}

pub refused_by : {T U : Type 0} (r : Result U LedgerFault) (before after : Option ShelfCall) (e : StoreFault) → Closes {T = T} before after (Err e) → IsErrAnd r (λ fault. fault ≡ Store e) → LedgerCloses before after r
refused_by (Ok x) before after e closes is = absurd is
refused_by {T = T} {U = U} (Err fault) before after e closes is = subst (λ (f : LedgerFault). LedgerCloses before after (refusal U f)) (sym is) (refused {T = T} before after e closes)

kept_again : (T U : Type 0) (before : Option ShelfCall) (e : LedgerFault) → closed_by before (refusal T e) ≡ closed_by before (refusal U e)
kept_again T U before (Store (Shelf call)) = refl
kept_again T U before (Store (Closed call)) = refl
kept_again T U before NoMemory = refl

-- a refusal that is handed on
again : {T U : Type 0} (before after : Option ShelfCall) (e : LedgerFault) → LedgerCloses before after (refusal T e) → LedgerCloses before after (refusal U e)
again {T = T} {U = U} before after e closes = record {
  closed = λ call. (
    λ told. (closes.closed call).0 (ap (refusal T) (fault_item U e (Store (Closed call)) told)),
    λ told. ap (refusal U) (fault_item T e (Store (Closed call)) ((closes.closed call).1 told)),
  );
  kept = closes.kept ∙ kept_again T U before e;
}

-- want of memory leaves an open store as it is
pub lacks_memory : {T : Type 0} (before after : Option ShelfCall) → before ≡ None → after ≡ before → LedgerCloses {T = T} before after (Err NoMemory)
lacks_memory {T = T} before after none same = record {
  closed = λ call. (λ is. absurd (in_store_none T (Closed call) is), λ is. absurd (some_is_not_none before call none is));
  kept = same;
}

-- so does a call that is done
pub done : {T : Type 0} (before after : Option ShelfCall) (x : T) → before ≡ None → after ≡ before → LedgerCloses before after (Ok x)
done before after x none same = record {
  closed = λ call. (λ is. absurd (ok_is_no_err x (Store (Closed call)) is), λ is. absurd (some_is_not_none before call none is));
  kept = same;
}

-- a call that was done shows that the store was open, and leaves it so
open_at_done : {T : Type 0} (before after : Option ShelfCall) (x : T) → LedgerCloses before after (Ok x) → before ≡ None
open_at_done None after x closes = refl
open_at_done (Some call) after x closes = absurd (ok_is_no_err x (Store (Closed call)) ((closes.closed call).1 refl))

-- what is known of a value, in a store that was open
pub if_done : {T : Type 0} (P Q : T → Type 0) (r : Result T LedgerFault) (before after : Option ShelfCall) → LedgerCloses before after r → IfOk r P → (before ≡ None → (x : T) → P x → Q x) → IfOk r Q
if_done P Q (Ok x) before after closes p f = f (open_at_done before after x closes) x p
if_done P Q (Err e) before after closes p f = tt

goes_nowhere : (state : Option Folder) → Goes state state Stays
goes_nowhere None = tt
goes_nowhere (Some s) = refl

-- an open store of which nothing was read
pub reads_nothing : (a : StoreSeen) → a.fault ≡ None → FitsUnlessBroken a.kinds a.fault a.folder.told → Reads a a StaysOpen false
reads_nothing a open_still fits = record {
  closes = (open_still, refl);
  kinds = refl;
  same = goes_nowhere a.folder.told;
  fits = fits;
  cause = record { later = omega arith; rose = λ is. absurd (true≢false (sym is)); stands = λ is. refl };
}

-- what is seen of a store before a call and after it
module _ (a b : StoreSeen) where
  pub done_reading : {T : Type 0} (x : T) → StoreReads a b (Ok x) → Reads a b StaysOpen false
  done_reading x reads = reads_as a b (λ p q. Closes p q (Ok x)) StaysOpen false (λ closes. (open_at_ok _ _ x closes, closes.kept)) reads

  pub done_telling : {T : Type 0} (x : T) → LedgerReads a b (Ok x) → Reads a b StaysOpen false
  done_telling x reads = reads_as a b (λ p q. LedgerCloses p q (Ok x)) StaysOpen false (λ closes. (open_at_done _ _ x closes, closes.kept)) reads

  pub tells_done : {T : Type 0} (x : T) → Reads a b StaysOpen false → LedgerReads a b (Ok x)
  tells_done x reads = reads_as a b StaysOpen (λ p q. LedgerCloses p q (Ok x)) false (λ open_still. done _ _ x open_still.0 open_still.1) reads

  tells_no_memory : {T : Type 0} → Reads a b StaysOpen false → LedgerReads a b (refusal T NoMemory)
  tells_no_memory {T = T} reads = reads_as a b StaysOpen (λ p q. LedgerCloses p q (refusal T NoMemory)) false (λ open_still. lacks_memory _ _ open_still.0 open_still.1) reads

  pub lacks_here : {T : Type 0} → Reads a b StaysOpen false → LedgerReads a b (refusal T NoMemory)
  lacks_here reads = tells_no_memory reads

  pub tells_memory : {T : Type 0} (r : Result T LedgerFault) → Reads a b StaysOpen false → IsErrAnd r (λ fault. fault ≡ NoMemory) → LedgerReads a b r
  tells_memory (Ok x) reads is = absurd is
  tells_memory {T = T} (Err fault) reads is = subst (λ (f : LedgerFault). LedgerReads a b (refusal T f)) (sym is) (tells_no_memory reads)

  tells_refusal : {T U : Type 0} (e : StoreFault) → StoreReads a b (store_refusal T e) → LedgerReads a b (refusal U (Store e))
  tells_refusal {T = T} {U = U} (Shelf call) reads = reads_as a b (λ p q. Closes p q (store_refusal T (Shelf call))) (λ p q. LedgerCloses p q (refusal U (Store (Shelf call)))) true (refused _ _ (Shelf call)) reads
  tells_refusal {T = T} {U = U} (Closed call) reads = reads_as a b (λ p q. Closes p q (store_refusal T (Closed call))) (λ p q. LedgerCloses p q (refusal U (Store (Closed call)))) false (refused _ _ (Closed call)) reads

  pub tells_store : {T U : Type 0} (r : Result U LedgerFault) (e : StoreFault) → StoreReads a b (store_refusal T e) → IsErrAnd r (λ fault. fault ≡ Store e) → LedgerReads a b r
  tells_store (Ok x) e reads is = absurd is
  tells_store {T = T} {U = U} (Err fault) e reads is = subst (λ (f : LedgerFault). LedgerReads a b (refusal U f)) (sym is) (tells_refusal {T = T} e reads)

  handed_on : {T U : Type 0} (e : LedgerFault) → LedgerReads a b (refusal T e) → LedgerReads a b (refusal U e)
  handed_on {T = T} {U = U} (Store (Shelf call)) reads = reads_as a b (λ p q. LedgerCloses p q (refusal T (Store (Shelf call)))) (λ p q. LedgerCloses p q (refusal U (Store (Shelf call)))) true (again _ _ (Store (Shelf call))) reads
  handed_on {T = T} {U = U} (Store (Closed call)) reads = reads_as a b (λ p q. LedgerCloses p q (refusal T (Store (Closed call)))) (λ p q. LedgerCloses p q (refusal U (Store (Closed call)))) false (again _ _ (Store (Closed call))) reads
  handed_on {T = T} {U = U} NoMemory reads = reads_as a b (λ p q. LedgerCloses p q (refusal T NoMemory)) (λ p q. LedgerCloses p q (refusal U NoMemory)) false (again _ _ NoMemory) reads

  pub tells_again : {T U : Type 0} (r : Result U LedgerFault) (e : LedgerFault) → LedgerReads a b (refusal T e) → IsErrAnd r (λ fault. fault ≡ e) → LedgerReads a b r
  tells_again (Ok x) e reads is = absurd is
  tells_again {T = T} {U = U} (Err fault) e reads is = subst (λ (f : LedgerFault). LedgerReads a b (refusal U f)) (sym is) (handed_on {T = T} e reads)
