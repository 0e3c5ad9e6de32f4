use Rattle.packet_codec.proofs.RespelledLemmas.{slice_short}
use Rattle.packet_codec.proofs.respelled_bytes.put_slices.Goals as goal

pub put_bytes-requires : goal.put_bytes-requires
put_bytes-requires c = slice_short c.args.slices.now c.loop-slice.slice-index _ _ c.loop-slice-test.true c.requires
