use Rattle.std.proofs.Common.{◌≡◌, true, refl, sym, ◌∙◌, ap}
use Rattle.std.specs.FinMap as fin
use Rattle.partition_times.specs.Shares.{is_some_known, has_time}
use Rattle.partition_times.proofs.RankLemmas.{one_more_timed, known_rank}
use Rattle.partition_times.proofs.rank.Ranked.take.Goals as goal

pub returns-in_ok-insert : goal.returns-in_ok-insert
returns-in_ok-insert c = λ group names ranked is.
    let times = fin.get c.args.times.now in
    let known = c.known_times-known.ensures in
    let ids = c.deref.ensures.value ∙ is in
    let has : has_time times group c.args.name.now ≡ true = ap (is_some_known times) (sym ids) ∙ sym known.some ∙ c.if-known.true in
    one_more_timed times group names c.args.name.now c.args.self.now _ _ c.args.ids has
    (known_rank times c.deref.result.now (group c.args.name.now) c.args.name.now _ _ ids known.all known.time)
    is (rw c.deref.ensures.value at known.small) refl c.in_ok-insert.ensures.entries ranked
