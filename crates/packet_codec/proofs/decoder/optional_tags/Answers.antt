use Rattle.std.proofs.Common.{◌≡◌, Some, ap}
use Rattle.packet_codec.proofs.RunsLeft.{tags_shown}
use Rattle.packet_codec.proofs.decoder.optional_tags.Goals as goal

pub returns-in_ok-tags_of-in-Some : goal.returns-in_ok-tags_of-in-Some
returns-in_ok-tags_of-in-Some c =
    λ runs shown. tags_shown c.in-Some.list runs (λ o. Some c.in_ok-tags_of-in-Some.field-0 ≡ o) (λ some there. ap Some (c.in_ok-tags_of-in-Some.ensures some there)) (rw c.in-Some.is at shown)
