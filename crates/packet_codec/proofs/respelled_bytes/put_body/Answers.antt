use Rattle.packet_codec.proofs.RespelledLemmas.{body_put}
use Rattle.packet_codec.proofs.respelled_bytes.put_body.Goals as goal

pub returns-clause-ok : goal.returns-clause-ok
returns-clause-ok c = λ e are. body_put _ _ _ _ _ _ _ (c.first_byte-first.ensures e are.first) (c.second_byte-second.ensures e are.second) (c.requires.size e are) c.in_ok-put_head.ensures.ok (c.in_ok-put_fields.ensures.ok e are.shown)
