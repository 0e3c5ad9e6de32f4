use Rattle.std.proofs.Common.{◌≡◌, ◌≤◌, length, Some, None, Err, IfSome, sym, subst}
use Rattle.std.specs.Option.{option_map}
use Rattle.edge_io.specs.Files.{IsFileOf, IsTooLong}
use Rattle.suite_plan.specs.Texts.{most_text}
use Rattle.suite_plan.specs.ConfFile.{conf_file_name, file_says, ReadsSaid}
use Rattle.suite_plan.specs.declared.conf_file.ConfRefusal.{ConfRefusal}
use Rattle.suite_plan.proofs.ConfLemmas.{text_end, absent_end, unread_as}
use Rattle.suite_plan.proofs.conf_file.read_one.Goals as goal

pub returns-in-Ok-Some : goal.returns-in-Ok-Some
returns-in-Ok-Some g c =
    let items = c.in-Ok-Some.text.items in
    let text_is : items ≡ c.deref.result.now = sym c.deref.ensures.value in
    let named : IsFileOf (g.F.Site.seen c.args.site.now).told c.name.result.now (Some items) =
    subst (λ o. IsFileOf (g.F.Site.seen c.args.site.now).told c.name.result.now (option_map (λ bytes. bytes.items) o)) c.in-Ok-Some.field-0-is c.in-Ok-Some.ensures.file in
    let there : IsFileOf (g.F.Site.seen c.args.site.now).told (conf_file_name c.args.file) (Some items) =
    subst (λ n. IsFileOf (g.F.Site.seen c.args.site.now).told n (Some items)) c.name.ensures named in
    let short : length items ≤ most_text = subst (λ o. IfSome o (λ bytes. length bytes.items ≤ most_text)) c.in-Ok-Some.field-0-is c.in-Ok-Some.ensures.fits in
    record {
      step = text_end c.args.words.now c.args.file _ _ c.in-Ok-Some.ensures.same c.deref.result.now c.read_text.result
          (subst (λ l. IsFileOf (g.F.Site.seen c.args.site.now).told (conf_file_name c.args.file) (Some l)) text_is there)
          (subst (λ l. length l ≤ most_text) text_is short)
          c.in-Ok-Some.ensures.count c.read_text.ensures;
      path = c.in-Ok-Some.ensures.path;
    }

pub returns-in-Ok-None : goal.returns-in-Ok-None
returns-in-Ok-None g c = record {
  step = absent_end c.args.words.now c.args.file _ _ c.in-Ok-None.ensures.same
      (subst (λ n. IsFileOf (g.F.Site.seen c.args.site.now).told n None) c.name.ensures
      (subst (λ o. IsFileOf (g.F.Site.seen c.args.site.now).told c.name.result.now (option_map (λ bytes. bytes.items) o)) c.in-Ok-None.field-0-is c.in-Ok-None.ensures.file))
      c.in-Ok-None.ensures.count;
  path = c.in-Ok-None.ensures.path;
}

pub returns-in-Err : goal.returns-in-Err
returns-in-Err g c = record {
  step = subst (λ (r : ConfRefusal). ReadsSaid (file_says c.args.words.now c.args.file) (g.F.Site.seen c.args.site.now) (g.F.Site.seen c.read_file.new.site) (Err r)) (sym c.unread.ensures)
      (unread_as c.args.words.now c.args.file _ _ c.read_file.ensures.same c.read_file.result c.in-Err.fault c.in-Err.is
      (subst (λ n. IsTooLong (g.F.Site.seen c.args.site.now).told n most_text c.read_file.result) c.name.ensures c.read_file.ensures.too_long) c.read_file.ensures.count);
  path = c.read_file.ensures.path;
}
