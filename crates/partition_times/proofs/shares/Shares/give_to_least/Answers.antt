use Rattle.std.proofs.Common.{◌≡◌, ◌++◌, ◌^◌, ◌<◌, [], ap, ◌∙◌, sym, subst, arith, length, get_or, slice_set}
use Rattle.std.proofs.lemmas.List.{get_or_default}
use Rattle.std.proofs.lemmas.List.Elements.{recursion_from_All}
use Rattle.std.specs.declared.cmp.Ordering.TheVariants.{Less}
use Rattle.partition_times.specs.Shares.{with_group}
use Rattle.partition_times.specs.Loads.{IsQueue, load_cmp}
use Rattle.partition_times.proofs.LoadLemmas.{first_is_least, after_given, fits_128, new_load, new_small}
use Rattle.partition_times.proofs.shares.Shares.give_to_least.Goals as goal

pub overflow_add-load : goal.overflow_add-load
overflow_add-load c =
    let lists = c.args.self.now.lists.items in
    let index = c.in-Some.least.index in
    let queue = subst (IsQueue c.requires.queue.0 lists) c.in-Some.ensures.removal c.requires.queue.1 in
    let here : c.index_mut-list.result.now ≡ get_or lists index [] = c.index_mut-list.ensures.value ∙ get_or_default lists index _ [] queue.each.0.in_range in
    let grown : c.list-count.result.now ≡ get_or lists index [] ++ c.args.ids.items = c.list-count.ensures ∙ c.in_ok-append.ensures ∙ ap (λ l. l ++ c.args.ids.items) here in
    let long : length c.list-count.result.now < 2 ^ 64 = c.list-count.type_inv.0 in
    omega (arith, fits_128 c.requires.queue.0 lists c.in-Some.least c.args.ids.items c.list-count.result.now c.args.time queue.each.0 grown long c.requires.small)

pub returns : goal.returns
returns c = λ times kept known.
    let lists = c.args.self.now.lists.items in
    let index = c.in-Some.least.index in
    let queue = subst (IsQueue times lists) c.in-Some.ensures.removal kept in
    let above = recursion_from_All (λ load. load_cmp c.in-Some.least load ≡ Less) _ c.in-Some.ensures.all_above in
    let here : c.index_mut-list.result.now ≡ get_or lists index [] = c.index_mut-list.ensures.value ∙ get_or_default lists index _ [] queue.each.0.in_range in
    let grown : c.append.new.list ≡ get_or lists index [] ++ c.args.ids.items = c.in_ok-append.ensures ∙ ap (λ l. l ++ c.args.ids.items) here in
    let is : slice_set lists index c.append.new.list ≡ with_group lists index c.args.ids.items = ap (slice_set lists index) grown in (
      is ∙ ap (λ i. with_group lists i c.args.ids.items) (sym (first_is_least times lists c.in-Some.least _ queue above)),
      rw (is, c.in_ok-insert.ensures.keys) (after_given times lists c.in-Some.least c.pop_first.new.self.keys queue above c.args.ids.items _
          (new_load times lists c.in-Some.least c.args.ids.items c.list-count.result.now c.args.time queue.each.0 (c.list-count.ensures ∙ grown) known)
          (new_small times lists c.in-Some.least c.args.ids.items c.list-count.result.now c.args.time queue.each.0 (c.list-count.ensures ∙ grown) c.requires.small)),
    )
