use Rattle.partition_times.proofs.BoundLemmas.{within_bound, near_best}
use Rattle.partition_times.proofs.LawLemmas.{one_each, stands_in_one, stands_as_often}
use Rattle.std.proofs.Common.{◌≡◌, [], ap, ◌∙◌, arith, length}
use Rattle.std.proofs.lemmas.List.{length-replicate}
use Rattle.std.specs.FinMap as fin
use Rattle.partition_times.specs.Names.{group_of, members}
use Rattle.partition_times.specs.Shares.{Ids, dealt, shares_of}
use Rattle.partition_times.specs.Ranked.{list_names, ids_by_group}
use Rattle.partition_times.proofs.ShareLemmas.{length-to_least, names_of_gathered, groups_of_gathered, known_of_ranked, dealt_of_ranked}
use Rattle.partition_times.proofs.shares.partition.Goals as goal

pub give_timed-requires-clause-queue : goal.give_timed-requires-clause-queue
give_timed-requires-clause-queue c =
    let times = fin.get c.args.times.now in
    let name_of = group_of c.args.groups.now in
    let ids = c.args.ids.now in
    let lists = c.in_ok-lists.lists in
    let ranked = c.in_ok-timed.ensures.ranked (members name_of ids) (groups_of_gathered name_of ids lists c.in_ok-lists.ensures c.rank_all.ensures.names) in
    (times, c.in_ok-shares.ensures.queue times, known_of_ranked times (members name_of ids) (list_names lists) c.in_ok-timed.field-0 ranked)

pub give_in_turn-requires : goal.give_in_turn-requires
give_in_turn-requires c =
    let times = fin.get c.args.times.now in
    let name_of = group_of c.args.groups.now in
    let ids = c.args.ids.now in
    let lists = c.in_ok-lists.lists in
    let ranked = c.in_ok-timed.ensures.ranked (members name_of ids) (groups_of_gathered name_of ids lists c.in_ok-lists.ensures c.rank_all.ensures.names) in
    let given = c.in_ok-give_timed.ensures.lists times (c.in_ok-shares.ensures.queue times) (known_of_ranked times (members name_of ids) (list_names lists) c.in_ok-timed.field-0 ranked) in
    record { some = omega (arith, c.requires, ap length given, length-to_least times c.in_ok-shares.shares.lists.items (ids_by_group c.in_ok-timed.field-0.timed), ap length c.in_ok-shares.ensures.lists, length-replicate {A = Ids} c.args.workers []) }

pub returns : goal.returns
returns c =
    let times = fin.get c.args.times.now in
    let name_of = group_of c.args.groups.now in
    let ids = c.args.ids.now in
    let lists = c.in_ok-lists.lists in
    let ranked = c.in_ok-timed.ensures.ranked (members name_of ids) (groups_of_gathered name_of ids lists c.in_ok-lists.ensures c.rank_all.ensures.names) in
    let given = c.in_ok-give_timed.ensures.lists times (c.in_ok-shares.ensures.queue times) (known_of_ranked times (members name_of ids) (list_names lists) c.in_ok-timed.field-0 ranked) in
    let is : c.give_in_turn.new.self.lists.items ≡ shares_of times name_of ids c.args.workers =
    dealt_of_ranked times (members name_of ids) (list_names lists) c.in_ok-timed.field-0 c.args.workers _ _ _ ranked c.give_timed.ensures.ranks c.in_ok-shares.ensures.lists given c.in_ok-give_in_turn.ensures
    ∙ ap (λ names. dealt times (members name_of ids) names c.args.workers) (names_of_gathered name_of ids lists c.in_ok-lists.ensures c.rank_all.ensures.names) in
    record {
      shares = is;
      count = rw is (one_each times name_of ids c.args.workers c.requires);
      groups = λ name. rw is (stands_in_one times name_of ids c.args.workers c.requires name);
      once = λ id. rw is (stands_as_often times name_of ids c.args.workers c.requires id);
      bound = rw is (within_bound times name_of ids c.args.workers c.requires);
      best = λ assigned few. rw is (near_best times name_of ids c.args.workers c.requires assigned few);
    }
