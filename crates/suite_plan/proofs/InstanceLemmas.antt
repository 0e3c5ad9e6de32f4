-- The instances that a child names, and how it ends.
use Rattle.std.proofs.Common.{◌≡◌, ◌≤◌, ◌<◌, ◌&&◌, ◌==◌, nat_lt, Bool, true, false, cond, ℕ, List, [], ◌++◌, length, arith, refl, sym, ap, subst, ◌∙◌, inl}
use Rattle.std.specs.Prelude.{Option, Some, None, IfSome, IfOk, Result, Ok, Err, ℤ, pos}
use Rattle.std.proofs.lemmas.Bool.{eqb-true, false_from_ne_true}
use Rattle.std.proofs.lemmas.Bool.Decides.{nat_tests}
use Rattle.std.proofs.lemmas.List.{length-append, nil_from_length}
use Rattle.edge_io.specs.Children.{Output}
use Rattle.edge_io.specs.declared.child.Finish.TheVariants.{Exit}
use Rattle.sub_number.specs.Texts.{IsText, IsShortText}
use Rattle.sub_number.specs.declared.memory.NoMemory.{NoMemory}
use Rattle.outcome_fold.specs.Order.{in_byte_order}
use Rattle.testr_conf.specs.Lines.{is_plain_line}
use Rattle.testr_conf.specs.White.{words_of}
use Rattle.testr_conf.proofs.TextLemmas.{test_from_text, text_from_test}
use Rattle.suite_plan.specs.Held.{TellsOtherwise}
use Rattle.suite_plan.specs.Outputs.{HasStatus}
use Rattle.suite_plan.specs.Provisioning.{named_in, TellsInstances, TellsNames, IsOfProvider, TellsEnd}
use Rattle.suite_plan.specs.Tails.{IsTailOf}
use Rattle.suite_plan.specs.declared.disposing.DisposeFault.TheVariants.{Ended}
use Rattle.suite_plan.specs.declared.provisioning.ProvisionRefusal.{ProvisionRefusal}
use Rattle.suite_plan.specs.declared.provisioning.ProvisionRefusal.TheVariants as why
use Rattle.suite_plan.specs.declared.tail.Tail.{Tail}

-- ---- an end

same_exit : (one other : ℤ) → Exit one ≡ Exit other → one ≡ other
same_exit one other same = cc

-- ---- what an output names

-- a long output names none
pub named_long : (bytes : List ℕ) → 65536 ≤ length bytes → named_in bytes ≡ []
named_long bytes many = let long : nat_lt (length bytes) 65536 ≡ false = grind (arith, nat_tests, many) in rw long refl

-- a text that is short names its words
pub named_text : (bytes : List ℕ) → length bytes < 65536 → IsText bytes → named_in bytes ≡ in_byte_order (words_of bytes)
named_text bytes few text =
    let short : nat_lt (length bytes) 65536 ≡ true = grind (arith, nat_tests, few) in
    ap (λ b. cond (b && is_plain_line bytes) (in_byte_order (words_of bytes)) []) short
    ∙ ap (λ b. cond b (in_byte_order (words_of bytes)) []) (test_from_text bytes text)

pub short_text : (bytes : List ℕ) → length bytes < 65536 → IsText bytes → IsShortText bytes
short_text bytes few text = record { text = text; short = omega (arith, few) }

-- what is no text names none
pub named_other : (bytes : List ℕ) → (IsText bytes → ⊥) → named_in bytes ≡ []
named_other bytes other = by (nat_lt (length bytes) 65536) (false_from_ne_true (is_plain_line bytes) (λ is. other (text_from_test bytes is)))
  where
    by : (b : Bool) → is_plain_line bytes ≡ false → cond (b && is_plain_line bytes) (in_byte_order (words_of bytes)) [] ≡ []
    by true is = ap (λ b. cond b (in_byte_order (words_of bytes)) []) is
    by false is = refl

-- what is named by words in order is named by the text
pub named_ok : (bytes : List ℕ) (result : Result (List (List ℕ)) NoMemory) → length bytes < 65536 → IsText bytes → IfOk result (λ words. words ≡ in_byte_order (words_of bytes)) → IfOk result (λ names. names ≡ named_in bytes)
named_ok bytes (Ok words) few text is = is ∙ sym (named_text bytes few text)
named_ok bytes (Err fault) few text is = tt

-- Those bytes that are held of an output name what all of them name: they are all, or too many as all are.
named_tail : (bytes : List ℕ) (tail : Tail) → IsTailOf bytes tail → named_in tail.bytes.items ≡ named_in bytes
named_tail bytes tail has = by tail.cut refl
  where
    by : (cut : Bool) → tail.cut ≡ cut → named_in tail.bytes.items ≡ named_in bytes
    by false is = ap named_in (sym (has.whole ∙ ap (λ (l : List ℕ). l ++ tail.bytes.items) (has.all is)))
    by true is = (
        let held = has.cut is in
        named_long tail.bytes.items (omega (arith, held.1)) ∙ sym (named_long bytes (omega (arith, held.1, ap length has.whole, length-append has.gone tail.bytes.items)))
        )

-- a list whose length is 0 has nothing
pub none_of_empty : (names listed : List (List ℕ)) (empty : Bool) → listed ≡ names → empty ≡ (length listed == 0) → empty ≡ true → names ≡ []
none_of_empty names listed empty same is holds = sym same ∙ nil_from_length listed (eqb-true (length listed) 0 (sym is ∙ holds))

-- ---- what is told of a child that provisions

-- what is told of names that are the same is the same
pub tells_of : (names named : List (List ℕ)) (result : Result (List (List ℕ)) ProvisionRefusal) → names ≡ named → TellsNames names result → TellsNames named result
tells_of names named result same tells = subst (λ (l : List (List ℕ)). TellsNames l result) same tells

-- what is told of the bytes that are held is told of all
pub tail_told : (bytes held : List ℕ) (tail : Tail) (result : Result (List (List ℕ)) ProvisionRefusal) → IsTailOf bytes tail → held ≡ tail.bytes.items → TellsNames (named_in held) result → TellsNames (named_in bytes) result
tail_told bytes held tail result has same tells = tells_of (named_in held) (named_in bytes) result (ap named_in same ∙ named_tail bytes tail has) tells

-- and so it is told of the child that gave them, and ended with 0
pub names_told : (told : Option Output) (status : ℤ) (has : List ℕ → Type 0) (result : Result (List (List ℕ)) ProvisionRefusal) → IfSome told (HasStatus has (Ok status)) → status ≡ pos 0
    → ((bytes : List ℕ) → has bytes → TellsNames (named_in bytes) result) → IfSome told (TellsInstances result)
names_told None status has result ends zero tells = tt
names_told (Some output) status has result ends zero tells = by result (tells output.bytes ends.1)
  where
    ended : output.finish ≡ Exit (pos 0)
    ended = ends.0 ∙ ap Exit zero

    by : (result : Result (List (List ℕ)) ProvisionRefusal) → TellsNames (named_in output.bytes) result → TellsInstances result output
    by (Ok names) told = record { ended = ended; names_are = told.0; some = told.1 }
    by (Err why.Spawn) told = told
    by (Err why.Child) told = absurd told
    by (Err (why.Failed shown said)) told = absurd told
    by (Err why.NoneNamed) told = record { ended = ended; none = told }
    by (Err why.NamesLost) told = ended
    by (Err why.NoMemory) told = absurd told

-- and it is answered of a child that was started
pub names_of_child : (named : List (List ℕ)) (result : Result (List (List ℕ)) ProvisionRefusal) → TellsNames named result → IsOfProvider result
names_of_child named (Ok names) tells = tt
names_of_child named (Err why.Spawn) tells = tells
names_of_child named (Err why.Child) tells = tt
names_of_child named (Err (why.Failed status said)) tells = tt
names_of_child named (Err why.NoneNamed) tells = tt
names_of_child named (Err why.NamesLost) tells = tt
names_of_child named (Err why.NoMemory) tells = tt

-- so it is of one that ended otherwise
pub otherwise_told : (told : Option Output) (status shown : ℤ) (has : List ℕ → Type 0) (refusal : ProvisionRefusal) → shown ≡ status → IfSome told (HasStatus has (Ok status)) → (status ≡ pos 0 → ⊥)
    → ((bytes : List ℕ) → has bytes → TellsOtherwise shown bytes refusal) → IfSome told (TellsInstances (Err refusal))
otherwise_told None status shown has refusal same ends other tells = tt
otherwise_told (Some output) status shown has refusal same ends other tells = by refusal (tells output.bytes ends.1)
  where
    by : (refusal : ProvisionRefusal) → TellsOtherwise shown output.bytes refusal → TellsInstances (Err refusal) output
    by why.Spawn told = told
    by why.Child told = absurd told
    by (why.Failed number said) told = record {
      ended = ends.0 ∙ ap Exit (sym (told.0 ∙ same));
      other = λ zero. other (sym (told.0 ∙ same) ∙ zero);
      says = told.1;
    }
    by why.NoneNamed told = absurd told
    by why.NamesLost told = absurd told
    by why.NoMemory told = inl (λ zero. other (same_exit status (pos 0) (sym ends.0 ∙ zero)))

pub otherwise_of_child : (status : ℤ) (bytes : List ℕ) (refusal : ProvisionRefusal) → TellsOtherwise status bytes refusal → IsOfProvider (Err refusal)
otherwise_of_child status bytes why.Spawn tells = tells
otherwise_of_child status bytes why.Child tells = tt
otherwise_of_child status bytes (why.Failed number said) tells = tt
otherwise_of_child status bytes why.NoneNamed tells = tt
otherwise_of_child status bytes why.NamesLost tells = tt
otherwise_of_child status bytes why.NoMemory tells = tt

-- ---- what is told of a child that disposes

pub end_told : (told : Option Output) (status shown : ℤ) (has : List ℕ → Type 0) → shown ≡ status → IfSome told (HasStatus has (Ok status)) → (status ≡ pos 0 → ⊥) → IfSome told (TellsEnd (Err (Ended shown)))
end_told None status shown has same ends other = tt
end_told (Some output) status shown has same ends other = record {
  ended = ends.0 ∙ ap Exit (sym same);
  other = λ zero. other (sym same ∙ zero);
}
