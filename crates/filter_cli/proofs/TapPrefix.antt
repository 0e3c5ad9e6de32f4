-- What is written of a told input at every exit.
use Rattle.std.proofs.Common.{Option, None, Some, IfSome, List, ℕ}
use Rattle.packet_codec.specs.Grammar.{AreBytes}
use Rattle.edge_io.specs.Bytes.{AppendsPrefix}
use Rattle.filter_cli.specs.Tap.{IsTapFiltered}
use Rattle.filter_cli.specs.Pumping.{WritesFirst}
use Rattle.filter_cli.specs.TapLaws.{tap_some}

-- a stream has a text, so a first part of it was written
pub tap_prefix : (told old new : Option (List ℕ)) → IfSome told (λ bytes. AreBytes bytes → (all : List ℕ) (status : ℕ) → IsTapFiltered bytes all status → AppendsPrefix old new all) → IfSome told (WritesFirst IsTapFiltered old new)
tap_prefix None old new each = tt
tap_prefix (Some bytes) old new each = λ are.
    let (all, filtered) = tap_some bytes in
    record { text = all; status = 0; filtered = filtered; written = each are all 0 filtered }
