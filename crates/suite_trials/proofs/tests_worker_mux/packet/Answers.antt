use Rattle.std.proofs.Common.{[], ◌∷◌, sym, ◌∙◌}
use Rattle.std.proofs.lemmas.List.{append-nil}
use Rattle.std.proofs.lemmas.List.Elements.{All-nil, All-cons}
use Rattle.packet_codec.specs.Canonical.{canonical, IsEvent, Fits}
use Rattle.suite_trials.proofs.tests_worker_mux.packet.Goals as goal

pub returns : goal.returns
returns c =
    let event = c.in_ok-file_event.field-0 in
    let spelled = c.in_ok-packet.ensures in (
      event ∷ [],
      record {
        are_events = All-cons IsEvent event [] spelled.1 (All-nil IsEvent);
        fit = All-cons Fits event [] spelled.2 (All-nil Fits);
        packets = c.from_vec.ensures ∙ spelled.0 ∙ sym (append-nil (canonical event));
      },
    )
