-- The cases of rows, gathered by route as the rows come (docs/FORMATS.md, "JUnit XML").
use Rattle.std.specs.Prelude.{◌≡◌, ℕ, ◌+◌, Option, Some, None, List, [], map, refl}
use Rattle.std.specs.Coded.{Coded, code_by, coded×, coded_ℕ, coded_list, coded_option}
use Rattle.std.specs.FinMap.{FinMap}
use Rattle.std.specs.List.{filter, flat_map}
use Rattle.outcome_fold.specs.declared.row.Row.{Row}
use Rattle.outcome_fold.specs.declared.row.Counts.{Counts}
use Rattle.outcome_fold.specs.Answers.{counts_of}
use Rattle.outcome_fold.specs.Order.{route_cmp, table}
use Rattle.outcome_fold.specs.Rows.{is_under}
use Rattle.junit_xml.specs.Documents.{case_of}

-- how many rows there are, and their cases
pub record Cases : Type 0 where
  pub counts : Counts
  pub text : List ℕ

-- how such cases are told apart: by each of their parts
abbrev pub coded_cases : Coded Cases
coded_cases = code_by (ℕ × (ℕ × (ℕ × (ℕ × (Option ℕ × List ℕ)))))
    (coded× coded_ℕ (coded× coded_ℕ (coded× coded_ℕ (coded× coded_ℕ (coded× (coded_option coded_ℕ) (coded_list coded_ℕ))))))
    (λ c. (c.counts.total, (c.counts.passed, (c.counts.failed, (c.counts.skipped, (c.counts.nanos, c.text))))))
    (λ p. record { counts = record { total = p.0; passed = p.1.0; failed = p.1.1.0; skipped = p.1.1.1.0; nanos = p.1.1.1.1.0 }; text = p.1.1.1.1.1 })
    (λ _. refl)

-- the cases of some rows, in their order
abbrev pub cases_of : List Row → Cases
cases_of rows = record { counts = counts_of [] rows; text = flat_map case_of rows }

-- the cases of each route of the rows
abbrev pub case_table : List Row → FinMap route_cmp Cases
case_table rows = table {R = route_cmp} (λ route. cases_of (filter (is_under route) rows)) (map (λ row. row.route) rows)

-- these rows were put, in this order
abbrev pub HasCases : FinMap route_cmp Cases → List Row → Type 0
HasCases cases rows = cases ≡ case_table rows

-- the sum of the times, where there is one
abbrev pub joined_times : Option ℕ → Option ℕ → Option ℕ
joined_times None other = other
joined_times (Some nanos) None = Some nanos
joined_times (Some nanos) (Some more) = Some (nanos + more)

-- the counts of some rows and of others, as those of all
abbrev pub joined_counts : Counts → Counts → Counts
joined_counts counts more = record {
  total = counts.total + more.total;
  passed = counts.passed + more.passed;
  failed = counts.failed + more.failed;
  skipped = counts.skipped + more.skipped;
  nanos = joined_times counts.nanos more.nanos;
}
