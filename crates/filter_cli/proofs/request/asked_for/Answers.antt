use Rattle.std.proofs.Common.{Some, map, sym, ap, ◌∙◌}
use Rattle.command_words.specs.Code.{item_meant}
use Rattle.filter_cli.specs.declared.ls.Listing.{Listing}
use Rattle.filter_cli.specs.declared.selection.Selection.{Selection}
use Rattle.filter_cli.specs.declared.stats.Counting.{Counting}
use Rattle.filter_cli.specs.declared.tool.Tool.{Tool}
use Rattle.filter_cli.specs.declared.request.Asked.TheVariants as wanted
use Rattle.filter_cli.specs.Words.{asked_by_items}
use Rattle.filter_cli.proofs.request.asked_for.Goals as goal

pub returns-in_ok-selection_of-in-Filter : goal.returns-in_ok-selection_of-in-Filter
returns-in_ok-selection_of-in-Filter c =
    ap (λ (s : Selection). Some (wanted.Filter s)) c.in_ok-selection_of-in-Filter.ensures
    ∙ ap (λ (t : Tool). asked_by_items t (map item_meant c.args.items.now)) (sym c.in-Filter.is)

pub returns-in-Ls : goal.returns-in-Ls
returns-in-Ls c =
    ap (λ (l : Listing). Some (wanted.Ls l)) c.listing_of.ensures
    ∙ ap (λ (t : Tool). asked_by_items t (map item_meant c.args.items.now)) (sym c.in-Ls.is)

pub returns-in_ok-csv_selection_of-in-ToCsv : goal.returns-in_ok-csv_selection_of-in-ToCsv
returns-in_ok-csv_selection_of-in-ToCsv c =
    ap (λ (s : Selection). Some (wanted.ToCsv s)) c.in_ok-csv_selection_of-in-ToCsv.ensures
    ∙ ap (λ (t : Tool). asked_by_items t (map item_meant c.args.items.now)) (sym c.in-ToCsv.is)

pub returns-in-Stats : goal.returns-in-Stats
returns-in-Stats c =
    ap (λ (n : Counting). Some (wanted.Stats n)) c.counting_of.ensures
    ∙ ap (λ (t : Tool). asked_by_items t (map item_meant c.args.items.now)) (sym c.in-Stats.is)

pub returns-in-FromTap : goal.returns-in-FromTap
returns-in-FromTap c = ap (λ (t : Tool). asked_by_items t (map item_meant c.args.items.now)) (sym c.in-FromTap.is)

pub returns-in-ToTap : goal.returns-in-ToTap
returns-in-ToTap c = ap (λ (t : Tool). asked_by_items t (map item_meant c.args.items.now)) (sym c.in-ToTap.is)

pub returns-in-ToJunit : goal.returns-in-ToJunit
returns-in-ToJunit c = ap (λ (t : Tool). asked_by_items t (map item_meant c.args.items.now)) (sym c.in-ToJunit.is)

pub returns-in-FromV1 : goal.returns-in-FromV1
returns-in-FromV1 c = ap (λ (t : Tool). asked_by_items t (map item_meant c.args.items.now)) (sym c.in-FromV1.is)

pub returns-in-ToV1 : goal.returns-in-ToV1
returns-in-ToV1 c = ap (λ (t : Tool). asked_by_items t (map item_meant c.args.items.now)) (sym c.in-ToV1.is)

pub returns-in-Trace : goal.returns-in-Trace
returns-in-Trace c = c.asked_trace.ensures ∙ ap (λ (t : Tool). asked_by_items t (map item_meant c.args.items.now)) (sym c.in-Trace.is)
