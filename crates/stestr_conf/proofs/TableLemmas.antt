-- Why a text was not read.
use Rattle.std.proofs.Common.{◌≡◌, ◌⊎◌, ⊎_elim, inl, inr, Bool, true, false, ℕ, List, Result, Ok, Err, IfOk, IfErr, ◌∙◌, sym, ap}
use Rattle.std.specs.Prelude.{◌↔◌, IsTrue, IsUtf8}
use Rattle.std.specs.Str.{is_utf8}
use Rattle.std.proofs.lemmas.Bool.{true≢false, cond-true, cond-false, false_from_ne_true}
use Rattle.std.proofs.lemmas.Str.{IsUtf8-from_is_utf8, is_utf8-from_IsUtf8}
use Rattle.toml.specs.Errors.{IsMemory}
use Rattle.toml.specs.Parse.{parse_document}
use Rattle.toml.specs.declared.de.error.Error.{Error}
use Rattle.stestr_conf.specs.Table.{document_by, table_of}
use Rattle.stestr_conf.specs.declared.table.TableFault.{TableFault}
use Rattle.stestr_conf.specs.declared.table.TableFault.TheVariants.{NotToml, NoMemory}

-- an error that is none of memory
pub not_memory : (is : Bool) (error : Error) → (IsTrue is ↔ IsMemory error) → is ≡ false → IsMemory error → ⊥
not_memory is error same other memory = absurd (true≢false (sym (same.1 memory) ∙ other))

-- what bytes say that are a text
pub table_read : (bytes text : List ℕ) → text ≡ bytes → IsUtf8 bytes → table_of bytes ≡ document_by (parse_document text)
table_read bytes text same utf8 =
    cond-true (is_utf8 bytes) (document_by (parse_document bytes)) (Err NotToml) (is_utf8-from_IsUtf8 bytes utf8) ∙ ap (λ t. document_by (parse_document t)) (sym same)

-- and bytes that are none
pub table_other : (bytes : List ℕ) → (IsUtf8 bytes → ⊥) → table_of bytes ≡ Err NotToml
table_other bytes other =
    cond-false (is_utf8 bytes) (document_by (parse_document bytes)) (Err NotToml) (false_from_ne_true (is_utf8 bytes) (λ is. other (IsUtf8-from_is_utf8 bytes is)))

module _ {T : Type 0} where
  -- what is refused is answered so
  pub exact : (told result : Result T TableFault) → IfOk result (λ value. told ≡ Ok value) → IfErr result (λ fault. (told ≡ Err fault) ⊎ (fault ≡ NoMemory))
      → IfErr told (λ fault. (result ≡ Err fault) ⊎ (result ≡ Err NoMemory))
  exact (Ok value) result ok err = tt
  exact (Err fault) (Ok value) ok err = absurd cc
  exact (Err fault) (Err given) ok err = ⊎_elim (λ is. inl (sym is)) (λ is. inr (ap Err is)) err
