-- What the exits of a pump have in common.
use Rattle.std.proofs.Common.{◌≡◌, ℕ, Bool, Option, None, Some, IfSome, List, [], ◌++◌, take, drop, refl, sym, ap, subst, ◌∙◌, inl, inr, append_assoc, append-nil}
use Rattle.std.specs.Io.KnownBytes.{Consumes}
use Rattle.std.specs.Prelude.{Result, Ok, Err}
use Rattle.std.specs.Result.{IsErrAnd}
use Rattle.std.proofs.lemmas.List.{take-append-drop}
use Rattle.packet_codec.specs.Grammar.{AreBytes}
use Rattle.edge_io.specs.Bytes.{AppendsPrefix}
use Rattle.filter_cli.specs.Pipe.{Pipe}
use Rattle.filter_cli.specs.Pumping.{StopsBefore, WriteFails, IsDue, Pumps}
use Rattle.filter_cli.specs.declared.filter.StreamEnd.{StreamEnd}
use Rattle.filter_cli.specs.declared.pump_loop.PumpFault.{PumpFault}
use Rattle.filter_cli.specs.declared.pump_loop.PumpFault.TheVariants.{Input, TooLong, Output, NoMemory}
use Rattle.filter_cli.proofs.PipeLemmas.{told_front, told_all, prefix_by}

-- what first bytes decide comes first
abbrev pub ComesFirst : (sees : List ℕ → List ℕ → Type 0) (ends : List ℕ → List ℕ → ℕ → Type 0) → Type 0
ComesFirst sees ends = (bytes more shown all : List ℕ) (status : ℕ) → AreBytes (bytes ++ more) → sees bytes shown → ends (bytes ++ more) all status → (rest : List ℕ) × (all ≡ shown ++ rest)

abbrev pub IsOne : (ends : List ℕ → List ℕ → ℕ → Type 0) → Type 0
IsOne ends = (bytes all other : List ℕ) (status another : ℕ) → AreBytes bytes → ends bytes all status → ends bytes other another → (all ≡ other) × (status ≡ another)

first_of : (sees : List ℕ → List ℕ → Type 0) (ends : List ℕ → List ℕ → ℕ → Type 0) → ComesFirst sees ends → (bytes read rest shown all : List ℕ) (status : ℕ) → bytes ≡ read ++ rest → AreBytes bytes → sees read shown → ends bytes all status → (after : List ℕ) × (all ≡ shown ++ after)
first_of sees ends first bytes read rest shown all status is are seen whole =
    first read rest shown all status (subst AreBytes is are) seen (subst (λ (l : List ℕ). ends l all status) is whole)

stopped_prefix : (sees : List ℕ → List ℕ → Type 0) (ends : List ℕ → List ℕ → ℕ → Type 0) → ComesFirst sees ends → (before after : Pipe) (bytes all : List ℕ) (status : ℕ) → before.input.told ≡ Some bytes → AreBytes bytes → ends bytes all status → StopsBefore sees before after → AppendsPrefix before.out.told after.out.told all
stopped_prefix sees ends first before after bytes all status told are whole s =
    let (rest, is) = told_front _ _ bytes (s.front ++ s.piece) told s.moved.took in
    let (behind, front) = first_of sees ends first bytes s.front (s.piece ++ rest) s.text all status (is ∙ append_assoc s.front s.piece rest) are s.seen whole in
    prefix_by _ _ all s.text behind front s.moved.wrote

due_first : (sees : List ℕ → List ℕ → Type 0) (ends : List ℕ → List ℕ → ℕ → Type 0) → ComesFirst sees ends → IsOne ends → (a b : Option (List ℕ)) (bytes read due all : List ℕ) (status : ℕ) → a ≡ Some bytes → Consumes a b read → AreBytes bytes → ends bytes all status → IsDue sees ends b read due → (after : List ℕ) × (all ≡ due ++ after)
due_first sees ends first one a b bytes read due all status told took are whole (inl seen) =
    let (rest, is) = told_front a b bytes read told took in
    first_of sees ends first bytes read rest due all status is are seen whole
due_first sees ends first one a b bytes read due all status told took are whole (inr (another, ends_at, other)) =
    let is = told_all a b bytes read told took ends_at in
    let same = one bytes all due status another are whole (subst (λ (l : List ℕ). ends l due another) (sym is) other) in
    ([], same.0 ∙ sym (append-nil due))

failed_prefix : (sees : List ℕ → List ℕ → Type 0) (ends : List ℕ → List ℕ → ℕ → Type 0) → ComesFirst sees ends → IsOne ends → (before after : Pipe) (bytes all : List ℕ) (status : ℕ) → before.input.told ≡ Some bytes → AreBytes bytes → ends bytes all status → WriteFails sees ends before after → AppendsPrefix before.out.told after.out.told all
failed_prefix sees ends first one before after bytes all status told are whole s =
    let (behind, front) = due_first sees ends first one _ _ bytes (s.front ++ s.piece) (s.shown ++ s.more) all status told s.moved.took are whole s.due in
    let part : s.shown ++ s.more ≡ (s.shown ++ take s.count s.more) ++ drop s.count s.more =
    ap (λ (l : List ℕ). s.shown ++ l) (sym (take-append-drop s.count s.more)) ∙ sym (append_assoc s.shown (take s.count s.more) (drop s.count s.more)) in
    prefix_by _ _ all (s.shown ++ take s.count s.more) (drop s.count s.more ++ behind)
    (front ∙ ap (λ (l : List ℕ). l ++ behind) part ∙ append_assoc (s.shown ++ take s.count s.more) (drop s.count s.more) behind) s.moved.wrote

-- at every exit a front of the whole text was written
pub pumped_prefix : (inside : List ℕ → Bool) (sees : List ℕ → List ℕ → Type 0) (ends : List ℕ → List ℕ → ℕ → Type 0) → ComesFirst sees ends → IsOne ends → (before after : Pipe) (result : Result StreamEnd PumpFault) (bytes all : List ℕ) (status : ℕ) → before.input.told ≡ Some bytes → AreBytes bytes → ends bytes all status → Pumps inside sees ends before after result → AppendsPrefix before.out.told after.out.told all
pumped_prefix inside sees ends first one before after (Ok end) bytes all status told are whole p =
    let q = p.all in
    let is = told_all _ _ bytes q.bytes told q.moved.took q.at_end in
    let same = one bytes all q.text status end.status are whole (subst (λ (l : List ℕ). ends l q.text end.status) (sym is) q.whole) in
    prefix_by _ _ all q.text [] (same.0 ∙ sym (append-nil q.text)) q.moved.wrote
pumped_prefix inside sees ends first one before after (Err Input) bytes all status told are whole p =
    let (rest, is) = told_front _ _ bytes p.bytes told p.moved.took in
    let (behind, front) = first_of sees ends first bytes p.bytes rest p.text all status is are p.seen whole in
    prefix_by _ _ all p.text behind front p.moved.wrote
pumped_prefix inside sees ends first one before after (Err TooLong) bytes all status told are whole p = stopped_prefix sees ends first before after bytes all status told are whole p.stops
pumped_prefix inside sees ends first one before after (Err Output) bytes all status told are whole p = failed_prefix sees ends first one before after bytes all status told are whole p
pumped_prefix inside sees ends first one before after (Err NoMemory) bytes all status told are whole p = stopped_prefix sees ends first before after bytes all status told are whole p

pub if_told : (a : Option (List ℕ)) (P : List ℕ → Type 0) → ((bytes : List ℕ) → a ≡ Some bytes → P bytes) → IfSome a P
if_told None P holds = tt
if_told (Some bytes) P holds = holds bytes refl

-- an exit by `?`
pub stopped_by : (inside : List ℕ → Bool) (sees : List ℕ → List ℕ → Type 0) (ends : List ℕ → List ℕ → ℕ → Type 0) (before after : Pipe) (result : Result StreamEnd PumpFault) → IsErrAnd result (λ fault. fault ≡ NoMemory) → StopsBefore sees before after → Pumps inside sees ends before after result
stopped_by inside sees ends before after (Ok end) is s = absurd is
stopped_by inside sees ends before after (Err fault) is s = subst (λ (f : PumpFault). Pumps inside sees ends before after (Err f)) (sym is) s
