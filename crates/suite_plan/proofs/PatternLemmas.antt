-- The first bad pattern behind good ones.
use Rattle.std.proofs.Common.{◌≡◌, ℕ, ◌+◌, ◌-◌, inl, inr, All, Option, Err, List, [], ◌++◌, length, slice_index_or, length-append, refl, sym, subst, ◌∙◌, arith}
use Rattle.std.proofs.lemmas.Bool.{cases_lt}
use Rattle.std.proofs.lemmas.List.{get_or_append_left, get_or-append_right, get_or-append-add}
use Rattle.partition_times.specs.Patterns.{IsPattern, IsBadPattern, IsFirstBadText}
use Rattle.suite_plan.specs.Patterns.{ChecksPatterns, Compiles}
use Rattle.suite_plan.specs.declared.patterns.PatternRefusal.{PatternRefusal}
use Rattle.suite_plan.specs.declared.patterns.PatternRefusal.TheVariants.{Bad, NoMemory}

first_bad_behind : (one other : List (List ℕ)) (text : List ℕ) → All IsPattern one → IsFirstBadText other text → IsFirstBadText (one ++ other) text
first_bad_behind one other text good bad =
    let right : slice_index_or (one ++ other) (length one + bad.index) [] ≡ slice_index_or other bad.index [] = get_or-append-add one other bad.index [] in
    record {
      index = length one + bad.index;
      first = record {
        in_range = omega (arith, length-append one other, bad.first.in_range);
        bad = subst IsBadPattern (sym right) bad.first.bad;
        good_before = λ k below. elim (cases_lt k (length one)) [
          | inl less ↦ subst IsPattern (sym (get_or_append_left one other [] k less)) (good k [] less)
          | inr past ↦ subst IsPattern (sym (get_or-append_right one other (length one) k [] refl past)) (bad.first.good_before (k - length one) (omega (arith, past, below)))
        ];
      };
      there = bad.there ∙ sym right;
    }

-- patterns that exclude are refused behind good ones that include
pub refused_behind : (including excluding : List (List ℕ)) (regex : Option (List ℕ)) (refusal : PatternRefusal) → All IsPattern including → ChecksPatterns {A = List (List ℕ)} excluding (Err refusal) → Compiles including excluding regex (Err refusal)
refused_behind including excluding regex (Bad given) good bad = inl (first_bad_behind including excluding given.now good bad)
refused_behind including excluding regex NoMemory good bad = tt
