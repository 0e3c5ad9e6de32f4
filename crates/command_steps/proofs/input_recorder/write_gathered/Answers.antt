use Rattle.std.proofs.Common.{◌≡◌, length, arith}
use Rattle.outcome_fold.proofs.TableLemmas.{none_of_length}
use Rattle.command_steps.proofs.HearLemmas.{hears_none, hears_piece, stops_same, stops_behind, stops_wanting}
use Rattle.command_steps.proofs.input_recorder.write_gathered.Goals as goal

pub returns-then-is_empty-clause-heard : goal.returns-then-is_empty-clause-heard
returns-then-is_empty-clause-heard g c =
    let none : length c.args.packets.now.items ≡ 0 = grind arith in
    hears_none g.L.Listener.heard _ _ (none_of_length _ none)

pub returns-then-is_empty-clause-stops : goal.returns-then-is_empty-clause-stops
returns-then-is_empty-clause-stops g c = stops_same g.L.Listener.heard g.L.Listener.keeps _

pub returns-in_err-add_packet-clause-stops : goal.returns-in_err-add_packet-clause-stops
returns-in_err-add_packet-clause-stops g c = stops_same g.L.Listener.heard g.L.Listener.keeps _

pub returns-in_err-hear-clause-stops : goal.returns-in_err-hear-clause-stops
returns-in_err-hear-clause-stops g c = stops_wanting g.L.Listener.heard g.L.Listener.keeps _ _ _ c.requires.packets (rw c.deref-2.ensures.value at c.in_err-hear.ensures.keeps)

pub returns-clause-heard : goal.returns-clause-heard
returns-clause-heard g c = hears_piece g.L.Listener.heard _ _ _ c.requires.packets (rw c.deref-2.ensures.value at c.in_ok-hear.ensures.hears)

pub returns-clause-stops : goal.returns-clause-stops
returns-clause-stops g c = stops_behind g.L.Listener.heard g.L.Listener.keeps _ _ _ (hears_piece g.L.Listener.heard _ _ _ c.requires.packets (rw c.deref-2.ensures.value at c.in_ok-hear.ensures.hears))
