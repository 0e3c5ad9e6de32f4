use Rattle.packet_codec.proofs.RespelledLemmas.{id_short, tags_short, mime_short, file_short, route_short, fields_put}
use Rattle.packet_codec.proofs.respelled_bytes.put_fields.Goals as goal

pub put_run-requires : goal.put_run-requires
put_run-requires c = id_short c.args.parts.now c.requires.shown.0 c.requires.shown.1 c.args.change c.requires.shown.2

pub put_tags-requires : goal.put_tags-requires
put_tags-requires c = (c.requires.shown.0.tags, c.requires.shown.1.tags, tags_short c.args.parts.now c.requires.shown.0 c.requires.shown.1 c.args.change c.requires.shown.2)

pub put_run-requires-2 : goal.put_run-requires-2
put_run-requires-2 c = mime_short c.args.parts.now c.requires.shown.0 c.requires.shown.1 c.args.change c.requires.shown.2

pub put_file-requires : goal.put_file-requires
put_file-requires c = file_short c.args.parts.now c.requires.shown.0 c.requires.shown.1 c.args.change c.requires.shown.2

pub put_changed_route-requires-clause-short : goal.put_changed_route-requires-clause-short
put_changed_route-requires-clause-short c = route_short c.args.parts.now c.requires.shown.0 c.requires.shown.1 c.args.change c.requires.shown.2

pub returns-clause-ok : goal.returns-clause-ok
returns-clause-ok c = λ e shown. fields_put c.args.parts.now e shown c.args.change _ _ _ _ _ _ _ c.in_ok-put_stamp.ensures.ok c.in_ok-put_run.ensures.ok (c.in_ok-put_tags.ensures.ok e.tags shown.tags) c.in_ok-put_run-2.ensures.ok c.in_ok-put_file.ensures.ok c.in_ok-put_changed_route.ensures.ok
