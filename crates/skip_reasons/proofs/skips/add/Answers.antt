use Rattle.std.proofs.Common.{◌≡◌, List, [], ◌∷◌, ◌++◌, map, sym, ap, ◌∙◌, subst, OnOk, rules}
use Rattle.std.proofs.lemmas.List.{map-append}
use Rattle.skip_reasons.specs.declared.skips.Tally.{Tally}
use Rattle.skip_reasons.specs.Skips.{tally, tallies_with, more_of}
use Rattle.skip_reasons.proofs.TallyLemmas.{one_more_last}
use Rattle.skip_reasons.proofs.skips.add.Goals as goal

pub returns-in-Some : goal.returns-in-Some
returns-in-Some c =
    let shown = λ (t : Tally). tally t.reason.now t.tests in
    let whole : c.args.tallies.now.items ≡ c.pop.new.self.items ++ c.in-Some.last ∷ [] = search rules in
    let seen : map shown c.args.tallies.now.items ≡ map shown c.pop.new.self.items ++ shown c.in-Some.last ∷ [] = ap (map shown) whole ∙ map-append shown c.pop.new.self.items (c.in-Some.last ∷ []) in
    let more : tallies_with (map shown c.args.tallies.now.items) c.args.reason.now ≡ map shown c.pop.new.self.items ++ more_of (shown c.in-Some.last) c.args.reason.now = ap (λ l. tallies_with l c.args.reason.now) seen ∙ one_more_last (map shown c.pop.new.self.items) (shown c.in-Some.last) c.args.reason.now in
    subst (λ (l : List _). OnOk c.add_to.result (map shown c.add_to.new.tallies.items ≡ l)) (sym more) c.add_to.ensures
