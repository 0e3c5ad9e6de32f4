use Rattle.std.proofs.Common.{rules, arith, ap, ◌∙◌, length, sym}
use Rattle.partition_times.specs.Names.{group_of}
use Rattle.partition_times.proofs.NameLemmas.{gathered_more}
use Rattle.partition_times.proofs.groups.Groups.gathered.Goals as goal

pub loop-id-preserved : goal.loop-id-preserved
loop-id-preserved c = record {
  searches = rw c.name_of-name.ensures.same c.loop-id.invariant.searches;
  gathered = gathered_more (group_of c.args.self.now) c.args.ids.now c.loop-id.id-index c.in_ok-copy.field-0 c.name_of-name.result.now _ _ (omega (arith, ap length c.list-id-items.ensures)) (search rules) (c.name_of-name.ensures.name c.args.self.now c.loop-id.invariant.searches ∙ ap (group_of c.args.self.now) (c.string_of.ensures ∙ sym c.in_ok-copy.ensures)) c.in_ok-put_under.ensures.ids c.in_ok-put_under.ensures.names c.loop-id.invariant.gathered;
}
