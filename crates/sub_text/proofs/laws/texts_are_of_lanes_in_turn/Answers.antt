use Rattle.std.proofs.Common.{List, ap}
use Rattle.outcome_fold.specs.declared.row.Row.{Row}
use Rattle.outcome_fold.proofs.MergedLemmas.{merge_says_same}
use Rattle.sub_text.specs.Texts.{report_of, summary_text, slowest_of}
use Rattle.sub_text.proofs.laws.texts_are_of_lanes_in_turn.Goals as goal

pub returns-clause-report : goal.returns-clause-report
returns-clause-report c = λ events lists run filter_tags few merge. ap (λ (rows : List Row). report_of rows run filter_tags) (merge_says_same events lists few merge).rows

pub returns-clause-summary : goal.returns-clause-summary
returns-clause-summary c = λ events lists run filter_tags few merge. ap (λ (rows : List Row). summary_text rows run filter_tags) (merge_says_same events lists few merge).rows

pub returns-clause-slowest : goal.returns-clause-slowest
returns-clause-slowest c = λ events lists all few merge. ap (λ (rows : List Row). slowest_of rows all) (merge_says_same events lists few merge).rows
