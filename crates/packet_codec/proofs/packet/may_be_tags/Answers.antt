use Rattle.std.specs.Prelude.{IsTrue, IfSome, All, ◌↔◌}
use Rattle.sub_number.specs.Texts.{IsText}
use Rattle.packet_codec.proofs.RunsLeft.{tags_shown}
use Rattle.packet_codec.proofs.packet.may_be_tags.Goals as goal

pub returns-in-Some : goal.returns-in-Some
returns-in-Some c = λ runs shown. tags_shown c.in-Some.list runs (λ o. IsTrue c.are_texts.result ↔ IfSome o (All IsText)) c.are_texts.ensures (rw c.in-Some.is at shown)
