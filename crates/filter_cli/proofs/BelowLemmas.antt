-- What is written of a told input at every exit, below a text.
use Rattle.std.proofs.Common.{◌≡◌, ℕ, Option, None, Some, IfSome, Result, List, [], ◌∷◌, ◌++◌, refl, sym, ap, subst, ◌∙◌, arith}
use Rattle.std.proofs.KnownBytes.{Appends-nil}
use Rattle.packet_codec.specs.Grammar.{AreBytes}
use Rattle.edge_io.specs.Bytes.{AppendsPrefix}
use Rattle.event_sift.specs.declared.rules.Rules.{Rules}
use Rattle.event_sift.specs.Keeping.{keeps}
use Rattle.sub_export.specs.Records.{csv_head_text}
use Rattle.stream_end.specs.Inside.{ends_inside}
use Rattle.filter_cli.specs.declared.filter.StreamEnd.{StreamEnd}
use Rattle.filter_cli.specs.declared.pump_loop.PumpFault.{PumpFault}
use Rattle.filter_cli.specs.Exporting.{csv_plan, IsCsvSeen, IsCsvFiltered}
use Rattle.filter_cli.specs.Headed.{IsSeenBelow, IsWholeBelow}
use Rattle.filter_cli.specs.Pipe.{Pipe}
use Rattle.filter_cli.specs.Plan.{Plan, IsSeen, IsFiltered}
use Rattle.filter_cli.specs.Pumping.{Pumps, WritesFirst}
use Rattle.filter_cli.specs.Script.{given_by}
use Rattle.filter_cli.specs.PlanLaws.{plan_one_seen, plan_some, plan_some_seen}

-- ---- a stream has a text, and one

pub below_some : (head : List ℕ) (plan : Plan) (bytes : List ℕ) → (all : List ℕ) × (status : ℕ) × IsWholeBelow head (IsFiltered plan) bytes all status
below_some head plan bytes =
    let (notes, filtered) = plan_some plan bytes in
    (head ++ (given_by plan notes ++ plan.at_end notes), plan.status notes, record { more = given_by plan notes ++ plan.at_end notes; grown = refl; holds = filtered })

pub below_some_seen : (head : List ℕ) (plan : Plan) (bytes : List ℕ) → AreBytes bytes → (text : List ℕ) × IsSeenBelow head (IsSeen plan) bytes text
below_some_seen head plan [] are = ([], refl)
below_some_seen head plan (byte ∷ bytes) are =
    let (text, seen) = plan_some_seen plan (byte ∷ bytes) are in
    (head ++ text, record { more = text; grown = refl; holds = seen })

pub below_one_seen : (head : List ℕ) (plan : Plan) (bytes shown other : List ℕ) → AreBytes bytes → IsSeenBelow head (IsSeen plan) bytes shown → IsSeenBelow head (IsSeen plan) bytes other → shown ≡ other
below_one_seen head plan [] shown other are s t = s ∙ sym t
below_one_seen head plan (byte ∷ bytes) shown other are s t =
    s.grown ∙ ap (λ (l : List ℕ). head ++ l) (plan_one_seen plan (byte ∷ bytes) s.more t.more are s.holds t.holds) ∙ sym t.grown

-- ---- what is written of a told input at every exit

-- a stream has a text, so a first part of it was written
pub below_prefix : (head : List ℕ) (plan : Plan) (told old new : Option (List ℕ)) → IfSome told (λ bytes. AreBytes bytes → (all : List ℕ) (status : ℕ) → IsWholeBelow head (IsFiltered plan) bytes all status → AppendsPrefix old new all) → IfSome told (WritesFirst (IsWholeBelow head (IsFiltered plan)) old new)
below_prefix head plan None old new each = tt
below_prefix head plan (Some bytes) old new each = λ are.
    let (notes, filtered) = plan_some plan bytes in
    let whole : IsWholeBelow head (IsFiltered plan) bytes _ _ = record { more = _; grown = refl; holds = filtered } in
    record { text = _; status = _; filtered = whole; written = each are _ _ whole }

pub nothing_below : (head : List ℕ) (plan : Plan) (told out : Option (List ℕ)) → IfSome told (WritesFirst (IsWholeBelow head (IsFiltered plan)) out out)
nothing_below head plan None out = tt
nothing_below head plan (Some bytes) out = below_prefix head plan (Some bytes) out out (λ are all status filtered. (0, omega arith, Appends-nil out))

-- the same head, and the same rules
pub csv_pumps : (head : List ℕ) (rules other : Rules) (before after : Pipe) (result : Result StreamEnd PumpFault) → head ≡ csv_head_text → other ≡ rules → Pumps ends_inside (IsSeenBelow head (IsSeen (csv_plan (keeps other)))) (IsWholeBelow head (IsFiltered (csv_plan (keeps other)))) before after result → Pumps ends_inside (IsCsvSeen rules) (IsCsvFiltered rules) before after result
csv_pumps head rules other before after result is same pumps =
    subst (λ (r : Rules). Pumps ends_inside (IsCsvSeen r) (IsCsvFiltered r) before after result) same
    (subst (λ (h : List ℕ). Pumps ends_inside (IsSeenBelow h (IsSeen (csv_plan (keeps other)))) (IsWholeBelow h (IsFiltered (csv_plan (keeps other)))) before after result) is pumps)

pub csv_prefix : (head : List ℕ) (rules other : Rules) (told old new : Option (List ℕ)) → head ≡ csv_head_text → other ≡ rules → IfSome told (WritesFirst (IsWholeBelow head (IsFiltered (csv_plan (keeps other)))) old new) → IfSome told (WritesFirst (IsCsvFiltered rules) old new)
csv_prefix head rules other told old new is same first =
    subst (λ (r : Rules). IfSome told (WritesFirst (IsCsvFiltered r) old new)) same
    (subst (λ (h : List ℕ). IfSome told (WritesFirst (IsWholeBelow h (IsFiltered (csv_plan (keeps other)))) old new)) is first)
