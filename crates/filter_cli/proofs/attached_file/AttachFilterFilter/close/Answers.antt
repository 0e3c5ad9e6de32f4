use Rattle.std.proofs.Common.{ℕ, List, ◌++◌, ap, ◌∙◌}
use Rattle.packet_codec.specs.Canonical.{packets_of}
use Rattle.filter_cli.specs.Attached.{events_of_pieces}
use Rattle.sub_export.specs.Output.{pieces_of}
use Rattle.filter_cli.proofs.AttachLemmas.{ended_all}
use Rattle.filter_cli.proofs.attached_file.AttachFilterFilter.close.Goals as goal

pub returns-clause-text : goal.returns-clause-text
returns-clause-text c fed shown h =
    ended_all c.args.self.job c.args.self.held.items fed shown c.args.text.now.items c.put_rest.new.text.items c.put_last.new.text.items
    (c.in_ok-put_rest.ensures ∙ ap (λ (l : List ℕ). c.args.text.now.items ++ packets_of (events_of_pieces c.args.self.job (pieces_of l))) c.deref.ensures.value) c.in_ok-put_last.ensures h
