-- What is written of told lines of version 1 at every exit.
use Rattle.std.proofs.Common.{Option, None, Some, IfSome, List, ℕ}
use Rattle.packet_codec.specs.Grammar.{AreBytes}
use Rattle.edge_io.specs.Bytes.{AppendsPrefix}
use Rattle.filter_cli.specs.V1.{IsV1Filtered}
use Rattle.filter_cli.specs.V1Laws.{v1_some}
use Rattle.filter_cli.specs.Pumping.{WritesFirst}

-- a stream has a text, so a first part of it was written
pub v1_prefix : (told old new : Option (List ℕ)) → IfSome told (λ bytes. AreBytes bytes → (all : List ℕ) (status : ℕ) → IsV1Filtered bytes all status → AppendsPrefix old new all) → IfSome told (WritesFirst IsV1Filtered old new)
v1_prefix None old new each = tt
v1_prefix (Some bytes) old new each = λ are.
    let (all, filtered) = v1_some bytes in
    record { text = all; status = 0; filtered = filtered; written = each are all 0 filtered }
