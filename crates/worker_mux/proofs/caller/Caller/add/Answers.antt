use Rattle.std.proofs.Common.{◌≡◌, true, rules}
use Rattle.std.specs.Prelude.{None, is_some}
use Rattle.worker_mux.proofs.Adding.{piece_heard, piece_kept_as, piece_refused, some_here, with_listener}
use Rattle.worker_mux.proofs.caller.Caller.add.Goals as goal

pub returns-then-is_some-clause-handed : goal.returns-then-is_some-clause-handed
returns-then-is_some-clause-handed g c = λ start handed.
    let broke : is_some c.add.new.self.fault ≡ true = search rules in
    piece_refused g.L.Listener.heard g.L.Listener.keeps c.args.self.now c.stop_all.new.self start _ _ c.args.packet.now (some_here c.add.new.self.fault broke) c.add.ensures.part c.stop_all.ensures.begun c.stop_all.ensures.listener c.stop_all.ensures.stopped handed

pub returns-in-Ok-clause-handed : goal.returns-in-Ok-clause-handed
returns-in-Ok-clause-handed g c = λ start handed.
    let well : c.add.new.self.fault ≡ None = search rules in
    piece_heard g.L.Listener.heard g.L.Listener.keeps c.args.self.now (with_listener c.args.self.now c.hear.new.self) start _ _ c.args.packet.now c.requires.going well c.add.ensures.keeps c.requires.packets c.add.ensures.part
    (λ pieces heard. c.in-Ok.ensures.hears c.args.self.now.begun.value pieces heard) handed

pub returns-in-Err-clause-handed : goal.returns-in-Err-clause-handed
returns-in-Err-clause-handed g c = λ start handed.
    let well : c.add.new.self.fault ≡ None = search rules in
    piece_kept_as g.L.Listener.heard g.L.Listener.keeps c.args.self.now (with_listener c.args.self.now c.hear.new.self) c.stop_all-in-Err.new.self start _ _ c.args.packet.now c.requires.going well c.add.ensures.keeps c.requires.packets c.add.ensures.part c.stop_all-in-Err.ensures.begun c.stop_all-in-Err.ensures.listener c.stop_all-in-Err.ensures.stopped
    (λ pieces heard. c.in-Err.ensures.keeps c.args.self.now.begun.value pieces heard) handed
