-- What the outputs of probes say.
use Rattle.std.proofs.Common.{◌≡◌, ℕ, List, [], ◌∷◌, ◌++◌, length, map, take, drop, sym, ◌∙◌, ap, ap₂, subst}
use Rattle.std.proofs.lemmas.List.{map-append, length-map, take_at, drop_at}
use Rattle.std.specs.List.{AllByRecursion}
use Rattle.edge_io.specs.Children.{Output}
use Rattle.edge_io.specs.Spawners.{Spawning}
use Rattle.isolation_bisect.proofs.SearchLemmas.{one_verdict, verdict_ends}
use Rattle.isolation_bisect.proofs.WholeLemmas.{behind_order, behind_same}
use Rattle.isolation_bisect.specs.Orders.{asked_of}
use Rattle.isolation_bisect.specs.Verdicts.{Licenses}
use Rattle.isolation_bisect.specs.declared.found.Found.{Found}
use Rattle.isolation_bisect.specs.declared.probe.Asked.{Asked}
use Rattle.packet_codec.specs.declared.event.Event.{Event}
use Rattle.suite_plan.specs.Children.{IsBroken}
use Rattle.testr_conf.specs.Settings.{Settings}
use Rattle.suite_causes.specs.Analysis.{asked_for, AreCauseLines, AreSearched, UsesNoBroken}
use Rattle.suite_causes.specs.Lines.{cause_line}
use Rattle.suite_causes.specs.Probing.{fails_in}
use Rattle.suite_causes.specs.Searching.{TestIds, HasAsked, SearchesSo}
use Rattle.suite_causes.specs.Suspects.{candidates_of}
use Rattle.suite_causes.specs.declared.suspects.Suspect.{Suspect}

pub asked_is : (settings : Settings) (candidates : TestIds) (test : List ℕ) (asked : List Asked) (s t : Spawning) (found : Found) (later : List Output) → (has : HasAsked settings candidates test asked s t) → Licenses asked (length candidates) found
    → asked_for test candidates (has.outputs ++ later) ≡ asked
asked_is settings candidates test asked s t found later has licensed =
    ap (asked_of (length candidates)) (map-append (fails_in test) has.outputs later ∙ ap (λ l. l ++ map (fails_in test) later) (sym has.answers))
    ∙ behind_same (length candidates) [] asked (map (fails_in test) later) has.in_order (verdict_ends (length candidates) asked found has.in_order licensed)

pub one_text : (events : List Event) (suspects : List Suspect) (outputs : List Output) (text other : List ℕ) → AreCauseLines events suspects outputs text → AreCauseLines events suspects outputs other → text ≡ other
one_text events [] outputs text other lines also = lines ∙ sym also
one_text events (one ∷ suspects) outputs text other lines also =
    let candidates : TestIds = candidates_of one.id one.lane events in
    let asked : List Asked = asked_for one.id candidates outputs in
    let same : lines.found ≡ also.found = one_verdict (length candidates) asked lines.found also.found (behind_order (length candidates) [] (map (fails_in one.id) outputs) tt) lines.licensed also.licensed in
    let rest : lines.more ≡ also.more = one_text events suspects (drop (length asked) outputs) lines.more also.more lines.rest also.rest in
    lines.text_is ∙ ap₂ (λ found more. cause_line one.id candidates found ++ more) same rest ∙ sym also.text_is

-- as many outputs were taken as probes asked
as_many : (settings : Settings) (candidates : TestIds) (test : List ℕ) (asked : List Asked) (s t : Spawning) → (has : HasAsked settings candidates test asked s t) → length has.outputs ≡ length asked
as_many settings candidates test asked s t has =
    sym (length-map has.outputs (fails_in test)) ∙ ap length (sym has.answers) ∙ length-map asked (λ (one : Asked). one.failed)

-- a search asked what the outputs say from its beginning on
whole_search : (settings : Settings) (candidates : TestIds) (test : List ℕ) (found : Found) (s t : Spawning) → (so : SearchesSo settings candidates test found s t) → asked_for test candidates s.outputs ≡ so.asked
whole_search settings candidates test found s t so =
    ap (asked_for test candidates) so.has.taken ∙ asked_is settings candidates test so.asked s t found t.outputs so.has so.licensed

pub none_broken : (settings : Settings) (candidates : TestIds) (test : List ℕ) (found : Found) (s t : Spawning) → SearchesSo settings candidates test found s t → UsesNoBroken test candidates s.outputs
none_broken settings candidates test found s t so =
    let used : take (length (asked_for test candidates s.outputs)) s.outputs ≡ so.has.outputs =
    ap (λ (l : List Asked). take (length l) s.outputs) (whole_search settings candidates test found s t so)
    ∙ ap (take (length so.asked)) so.has.taken
    ∙ take_at so.has.outputs t.outputs (length so.asked) (as_many settings candidates test so.asked s t so.has) in
    subst (AllByRecursion (λ (output : Output). IsBroken output.finish → ⊥)) (sym used) so.has.ended

pub lines_searched : (settings : Settings) (events : List Event) (suspects : List Suspect) (text : List ℕ) (s t : Spawning) → AreSearched settings events suspects text s t → AreCauseLines events suspects s.outputs text
lines_searched settings events [] text s t (same, none) = none
lines_searched settings events (one ∷ suspects) text s t first =
    let candidates : TestIds = candidates_of one.id one.lane events in
    let asked : List Asked = first.searched.asked in
    let has : HasAsked settings candidates one.id asked s first.between = first.searched.has in
    let same : asked_for one.id candidates s.outputs ≡ asked =
    whole_search settings candidates one.id first.found s first.between first.searched in
    let left : drop (length (asked_for one.id candidates s.outputs)) s.outputs ≡ first.between.outputs =
    ap (λ (l : List Asked). drop (length l) s.outputs) same ∙ ap (drop (length asked)) has.taken ∙ drop_at has.outputs first.between.outputs (length asked) (as_many settings candidates one.id asked s first.between has) in
    record {
      found = first.found;
      licensed = subst (λ (l : List Asked). Licenses l (length candidates) first.found) (sym same) first.searched.licensed;
      more = first.more;
      text_is = first.text_is;
      rest = subst (λ (l : List Output). AreCauseLines events suspects l first.more) (sym left) (lines_searched settings events suspects first.more first.between t first.rest);
    }
