-- The form of a cache, both ways.
use Rattle.std.proofs.Common.{◌≡◌, ℕ, ◌<◌, ◌^◌, List, ◌∷◌, ◌++◌, sym, ap, ◌∙◌, append_assoc, arith}
use Rattle.std.specs.Fmt.{decimal}
use Rattle.std.specs.List.{flat_map}
use Rattle.std.proofs.lemmas.Fmt.{decimal_injective}
use Rattle.std.proofs.lemmas.List.{append_cancel_left}
use Rattle.sub_number.specs.Lines.{with_newline}
use Rattle.run_shelf.specs.IdFiles.{with_zero, heading, BeginsWithHeading, AreEntries}
use Rattle.run_ledger.specs.Caches.{failing_title, IsFailingCache}
use Rattle.run_ledger.proofs.FormLemmas.{cut_same, decimal_digits, entries_same}
use Rattle.run_ledger.proofs.HeadLemmas.{line_rest}

-- what follows the heading
pub begins : (title body bytes : List ℕ) (covers : ℕ) → bytes ≡ heading title covers ++ body → covers < 2 ^ 64 → BeginsWithHeading (with_newline title) bytes covers body
begins title body bytes covers is small = record { is = is ∙ append_assoc (with_newline title) (with_newline (decimal covers)) body; small = small }

pub same_heading : (title bytes rest others : List ℕ) (covers also : ℕ) → BeginsWithHeading title bytes covers rest → BeginsWithHeading title bytes also others → (also ≡ covers) × (others ≡ rest)
same_heading title bytes rest others covers also one two =
    let lines : decimal covers ++ 10 ∷ rest ≡ decimal also ++ 10 ∷ others =
    sym (line_rest (decimal covers) rest) ∙ append_cancel_left title (with_newline (decimal covers) ++ rest) (with_newline (decimal also) ++ others) (sym one.is ∙ two.is) ∙ line_rest (decimal also) others in
    let parts = cut_same 10 (decimal covers) (decimal also) rest others (decimal_digits 10 covers (omega arith) one.small) (decimal_digits 10 also (omega arith) two.small) lines in
    (decimal_injective also covers two.small one.small parts.0, parts.1)

-- the cache of a failing set
module _ (bytes : List ℕ) where
  of_form : (covers : ℕ) (ids : List (List ℕ)) → IsFailingCache bytes covers ids → BeginsWithHeading (with_newline failing_title) bytes covers (flat_map with_zero ids)
  of_form covers ids cache = begins failing_title (flat_map with_zero ids) bytes covers cache.is cache.number

  pub no_heading : ((covers : ℕ) (rest : List ℕ) → BeginsWithHeading (with_newline failing_title) bytes covers rest → ⊥) → (covers : ℕ) (ids : List (List ℕ)) → IsFailingCache bytes covers ids → ⊥
  no_heading none covers ids cache = none covers (flat_map with_zero ids) (of_form covers ids cache)

  module _ (number : ℕ) (rest : List ℕ) (head : BeginsWithHeading (with_newline failing_title) bytes number rest) where
    pub no_entries : ((ids : List (List ℕ)) → AreEntries rest ids → ⊥) → (covers : ℕ) (ids : List (List ℕ)) → IsFailingCache bytes covers ids → ⊥
    no_entries none covers ids cache =
        none ids (record {
          is = sym (same_heading (with_newline failing_title) bytes rest (flat_map with_zero ids) number covers head (of_form covers ids cache)).1;
          are = record { texts = cache.texts; ordered = cache.ordered };
        })

    pub is_cache : (ids : List (List ℕ)) → AreEntries rest ids → IsFailingCache bytes number ids
    is_cache ids entries = record {
      is = head.is ∙ sym (append_assoc (with_newline failing_title) (with_newline (decimal number)) rest) ∙ ap (λ l. heading failing_title number ++ l) entries.is;
      number = head.small;
      texts = entries.are.texts;
      ordered = entries.are.ordered;
    }

-- it holds one thing
pub one_failing : (bytes : List ℕ) (covers also : ℕ) (ids others : List (List ℕ)) → IsFailingCache bytes covers ids → IsFailingCache bytes also others → (also ≡ covers) × (others ≡ ids)
one_failing bytes covers also ids others cache other =
    let same = same_heading (with_newline failing_title) bytes (flat_map with_zero ids) (flat_map with_zero others) covers also (of_form bytes covers ids cache) (of_form bytes also others other) in
    (same.0, entries_same ids others cache.texts other.texts (sym same.1))
