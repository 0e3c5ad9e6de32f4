use Rattle.std.proofs.Common.{◌≡◌, ◌↔◌, Some}
use Rattle.std.specs.Prelude.{IsTrue}
use Rattle.packet_codec.proofs.RunsLeft.{tags_shown, same_some}
use Rattle.packet_codec.proofs.fields.are_same_tags.Goals as goal

pub returns-in-Some : goal.returns-in-Some
returns-in-Some c = λ runs shown. tags_shown c.in-Some.list runs (λ o. IsTrue c.are_same.result ↔ o ≡ Some c.args.texts.now) (λ some there. same_some _ _ (c.are_same.ensures some there)) (rw c.in-Some.is at shown)
