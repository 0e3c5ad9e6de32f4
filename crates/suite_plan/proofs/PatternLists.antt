-- What a list of patterns gives, by the bytes of its file.
use Rattle.std.proofs.Common.{◌≡◌, ℕ, Option, None, Some, IfSome, Result, Ok, Err, List, Vec, refl, sym, subst}
use Rattle.std.specs.declared.alloc.Global.{Global}
use Rattle.edge_io.specs.Causes.{RisesExactlyIf}
use Rattle.edge_io.specs.Disk.{Files}
use Rattle.edge_io.specs.Seen.{Seen}
use Rattle.suite_plan.specs.LoadList.{ReadsList, HasListCause, IsUnread, list_failed}
use Rattle.suite_plan.specs.PatternList.{HasPatternsCause, ReadsPatternList, TellsPatterns}
use Rattle.suite_plan.specs.Texts.{HasText}
use Rattle.suite_plan.specs.declared.load_list.ListRefusal.{ListRefusal}
use Rattle.suite_plan.specs.declared.load_list.ListRefusal.TheVariants as load_list
use Rattle.suite_plan.specs.declared.pattern_list.PatternListRefusal.{PatternListRefusal}
use Rattle.suite_plan.specs.declared.pattern_list.PatternListRefusal.TheVariants as pattern_list

same_failed : (A B : Type 0) (refusal : ListRefusal) → list_failed {T = A} (Err refusal) ≡ list_failed {T = B} (Err refusal)
same_failed A B load_list.Site = refl
same_failed A B (load_list.TooLong given) = refl
same_failed A B (load_list.Absent given) = refl
same_failed A B (load_list.NotId given number) = refl
same_failed A B load_list.NoMemory = refl

unread_cause : (name : List ℕ) (refusal : ListRefusal) (told : Option Files) → IsUnread refusal → IfSome told (HasListCause name refusal) → IfSome told (HasPatternsCause name (pattern_list.List refusal))
unread_cause name load_list.Site told unread cause = cause
unread_cause name (load_list.TooLong given) told unread cause = cause
unread_cause name (load_list.Absent given) told unread cause = cause
unread_cause name (load_list.NotId given number) told unread cause = absurd unread
unread_cause name load_list.NoMemory told unread cause = cause

-- a list that is not read is refused so
pub list_unread : (name : List ℕ) (before after : Seen Files) (refusal : ListRefusal) → ReadsList name before after (Err refusal) → ReadsPatternList name before after (Err (pattern_list.List refusal))
list_unread name before after refusal reads = record {
  patterns = tt;
  refused = unread_cause name refusal before.told reads.unread reads.refused;
  named = reads.named;
  same = reads.same;
  count = subst (RisesExactlyIf before.faults after.faults) (same_failed (Vec ℕ Global) (List (List ℕ)) refusal) reads.count;
}

where_told : {P Q : Files → Type 0} (told : Option Files) → ((files : Files) → P files → Q files) → IfSome told P → IfSome told Q
where_told None f holds = tt
where_told (Some files) f holds = f files holds

-- one that is read is told by its bytes
pub list_read : (name : List ℕ) (before after : Seen Files) (text : Vec ℕ Global) (bytes : List ℕ) (result : Result (List (List ℕ)) PatternListRefusal) → bytes ≡ text.items → ReadsList name before after (Ok text) → TellsPatterns name bytes result → ReadsPatternList name before after result
list_read name before after text bytes (Ok patterns) are reads (says, good) = record {
  patterns = where_told before.told (λ files has. record { text = bytes; has = subst (HasText files name) (sym are) has; says = says; good = good }) reads.text;
  refused = tt;
  named = tt;
  same = reads.same;
  count = reads.count;
}
list_read name before after text bytes (Err (pattern_list.List load_list.Site)) are reads tells = absurd tells
list_read name before after text bytes (Err (pattern_list.List (load_list.TooLong given))) are reads tells = absurd tells
list_read name before after text bytes (Err (pattern_list.List (load_list.Absent given))) are reads tells = absurd tells
list_read name before after text bytes (Err (pattern_list.List (load_list.NotId given number))) are reads (named, says) = record {
  patterns = tt;
  refused = where_told before.told (λ files has. record { text = bytes; has = subst (HasText files name) (sym are) has; says = says }) reads.text;
  named = named;
  same = reads.same;
  count = reads.count;
}
list_read name before after text bytes (Err (pattern_list.List load_list.NoMemory)) are reads tells = record {
  patterns = tt;
  refused = where_told before.told (λ files has. tt) reads.text;
  named = tt;
  same = reads.same;
  count = reads.count;
}
list_read name before after text bytes (Err (pattern_list.Bad line)) are reads tells = record {
  patterns = tt;
  refused = where_told before.told (λ files has. record {
    text = bytes;
    has = subst (HasText files name) (sym are) has;
    patterns = tells.patterns;
    says = tells.says;
    index = tells.index;
    first = tells.first;
    there = tells.told.2;
    line = tells.told.1;
  }) reads.text;
  named = tells.told.0;
  same = reads.same;
  count = reads.count;
}
