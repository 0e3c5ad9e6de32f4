use Rattle.std.proofs.Common.{rules, refl, ◌∙◌, sym, subst, arith, ◌≤◌, length, IfSome}
use Rattle.edge_io.specs.Files.{BeginsFile}
use Rattle.edge_io.specs.Sites.{Finds}
use Rattle.edge_io.specs.declared.site.Found.TheVariants.{Read}
use Rattle.edge_io.proofs.FilesLemmas.{begins_with_none, begins_with_more, not_longer}
use Rattle.edge_io.proofs.whole_file.read_file.Goals as goal

pub loop-bytes-init : goal.loop-bytes-init
loop-bytes-init g c = (
  record {
    front = subst (BeginsFile (g.F.Site.seen c.args.site.now).told c.args.name.now) (sym c.new-bytes.ensures.items) (begins_with_none _ _);
    few = search rules;
    same = search rules;
    count = search rules;
  },
  refl,
)

pub loop-bytes-preserved : goal.loop-bytes-preserved
loop-bytes-preserved g c =
    let found : IfSome (g.F.Site.seen c.args.site.now).told (λ files. Finds (files c.args.name.now) (length c.loop-bytes.bytes.items) c.read_at.new.buf (Read c.in-Read.count)) = search rules in
    let items = c.in_ok-extend_from_slice.ensures.items in (
      record {
        front = subst (BeginsFile (g.F.Site.seen c.args.site.now).told c.args.name.now) (sym items) (begins_with_more _ _ _ c.read_at.new.buf c.in-Read.count c.loop-bytes.invariant.0.front found);
        few = subst (λ l. length l ≤ c.args.most) (sym items) (not_longer _ _ _ _ c.loop-bytes.invariant.0.few (omega arith));
        same = search rules;
        count = search rules;
      },
      c.read_at.ensures.stays ∙ c.loop-bytes.invariant.1,
    )
