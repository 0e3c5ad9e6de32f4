use Rattle.std.proofs.Common.{Some, None, refl, sym, ap, ◌∙◌}
use Rattle.std.specs.Option.{option_map}
use Rattle.testr_words.proofs.ValueLemmas.{none_counted, last_counts}
use Rattle.testr_words.proofs.values.workers_in.Goals as goal

pub returns-then-not-are_worker_counts : goal.returns-then-not-are_worker_counts
returns-then-not-are_worker_counts c = none_counted c.args.items.now _ c.are_worker_counts.ensures c.if-not-are_worker_counts.true

pub returns-in-Some : goal.returns-in-Some
returns-in-Some c = last_counts c.args.items.now _ c.are_worker_counts.ensures c.if-not-are_worker_counts.false (Some c.in-Some.value.now) _ (sym (ap (option_map (λ value. value.now)) c.in-Some.is) ∙ c.last_value.ensures) c.worker_count.ensures

pub returns-in-None : goal.returns-in-None
returns-in-None c = last_counts c.args.items.now _ c.are_worker_counts.ensures c.if-not-are_worker_counts.false None _ (sym (ap (option_map (λ value. value.now)) c.in-None.is) ∙ c.last_value.ensures) refl
