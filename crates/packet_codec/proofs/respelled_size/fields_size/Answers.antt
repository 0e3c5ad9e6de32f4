use Rattle.packet_codec.proofs.RespelledLemmas.{fields_sum}
use Rattle.packet_codec.proofs.respelled_size.fields_size.Goals as goal

pub returns-clause-size : goal.returns-clause-size
returns-clause-size c = λ e shown. fields_sum c.args.parts.now e shown c.args.change _ _ _ _ _ _ c.stamp_size.ensures.size c.run_size.ensures.size (c.tags_size.ensures.size e.tags shown.tags) c.run_size-2.ensures.size c.file_size.ensures.size c.changed_route_size.ensures.size
