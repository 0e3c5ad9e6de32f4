use Rattle.std.proofs.Common.{◌≡◌, ℕ, ◌++◌, List, Bool, cond, nat_lt, rules, subst, ap, ◌∙◌}
use Rattle.outcome_fold.specs.declared.row.Row.{Row}
use Rattle.outcome_fold.specs.Rows.{completed_rows, open_rows}
use Rattle.sub_text.specs.Listed.{tags_line}
use Rattle.filter_cli.specs.Events.{events_among}
use Rattle.filter_cli.specs.Tally.{HasTallied}
use Rattle.filter_cli.proofs.TallyLemmas.{lines_are, tags_are, fails_where}
use Rattle.filter_cli.proofs.stats.StatsNoteFilter.close.Goals as goal

pub returns-clause-text : goal.returns-clause-text
returns-clause-text c notes has =
    let seen = events_among notes in
    let all : HasTallied c.add_all.new.self (completed_rows seen ++ open_rows seen) =
    subst (λ (rows : List Row). HasTallied c.add_all.new.self (completed_rows seen ++ rows)) (c.deref.ensures.value ∙ c.in_ok-rows.ensures seen has.0) (c.in_ok-add_all.ensures (completed_rows seen) has.1) in
    let lines = lines_are seen c.add_all.new.self.ended.items c.counts-counts.result all.ended c.counts-counts.ensures in
    let tags = c.in_ok-tags.ensures ∙ all.tags ∙ tags_are seen in
    c.in_ok-counts_text.ensures.ok ∙ (λ i. c.args.text.now.items ++ (lines i ++ tags_line (tags i)))

pub returns-clause-status : goal.returns-clause-status
returns-clause-status c notes has =
    let seen = events_among notes in
    let all : HasTallied c.add_all.new.self (completed_rows seen ++ open_rows seen) =
    subst (λ (rows : List Row). HasTallied c.add_all.new.self (completed_rows seen ++ rows)) (c.deref.ensures.value ∙ c.in_ok-rows.ensures seen has.0) (c.in_ok-add_all.ensures (completed_rows seen) has.1) in
    let given : c.from.result ≡ cond {A = ℕ} (nat_lt 0 c.counts-counts.result.failed) 1 0 = search rules in
    given ∙ ap (λ (b : Bool). cond {A = ℕ} b 1 0) (fails_where seen c.add_all.new.self.ended.items c.counts-counts.result all.ended c.counts-counts.ensures)
