-- What is written of a told input at every exit.
use Rattle.std.proofs.Common.{ℕ, Option, None, Some, IfSome, List, arith}
use Rattle.std.proofs.KnownBytes.{Appends-nil}
use Rattle.packet_codec.specs.Grammar.{AreBytes}
use Rattle.edge_io.specs.Bytes.{AppendsPrefix}
use Rattle.filter_cli.specs.Plan.{Plan, IsFiltered}
use Rattle.filter_cli.specs.Pumping.{WritesFirst}
use Rattle.filter_cli.specs.PlanLaws.{plan_some}

-- a stream has a text, so a first part of it was written
pub noted_prefix : (plan : Plan) (told old new : Option (List ℕ)) → IfSome told (λ bytes. AreBytes bytes → (all : List ℕ) (status : ℕ) → IsFiltered plan bytes all status → AppendsPrefix old new all) → IfSome told (WritesFirst (IsFiltered plan) old new)
noted_prefix plan None old new each = tt
noted_prefix plan (Some bytes) old new each = λ are.
    let (notes, filtered) = plan_some plan bytes in
    record { text = _; status = _; filtered = filtered; written = each are _ _ filtered }

pub nothing_written : (plan : Plan) (told out : Option (List ℕ)) → IfSome told (λ bytes. AreBytes bytes → (all : List ℕ) (status : ℕ) → IsFiltered plan bytes all status → AppendsPrefix out out all)
nothing_written plan None out = tt
nothing_written plan (Some bytes) out = λ are all status filtered. (0, omega arith, Appends-nil out)
