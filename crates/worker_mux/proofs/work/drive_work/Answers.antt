use Rattle.std.proofs.Common.{refl, rules}
use Rattle.worker_mux.proofs.Going.{own_whole, was_put, was_kept, all_put, ready_put, ready_kept, ready_read, was_read}
use Rattle.worker_mux.proofs.work.drive_work.Goals as goal

pub returns-in-Past : goal.returns-in-Past
returns-in-Past g c = record {
  ready = search rules;
  drives = all_put g.C.Child.seen c.args.work c.loop.work c.next-in-loop.new.self c.loop.invariant.keeps c.next-in-loop.ensures.pass c.in-Past.ensures.first c.in-Past.ensures.gives (c.in-Past.ensures.none refl);
}

pub loop-preserved-in-Ok : goal.loop-preserved-in-Ok
loop-preserved-in-Ok g c = record {
  ready = ready_put c.args.shared.now.belt c.loop.work c.next-in-loop.new.self c.put.new.pass c.in-Given.lot c.loop.invariant.ready c.in-Given.ensures.pass c.in-Given.ensures.number c.in-Given.ensures.kept c.in-Given.ensures.own c.put.ensures.made_here c.put.ensures.number c.in-Ok.ensures.put;
  keeps = was_put g.C.Child.seen c.args.work c.loop.work c.next-in-loop.new.self c.put.new.pass c.in-Given.lot c.loop.invariant.keeps c.in-Given.ensures.pass c.in-Given.ensures.kept c.in-Given.ensures.first c.in-Given.ensures.gives c.put.ensures.number c.in-Ok.ensures.put;
}

pub returns-then-load-2 : goal.returns-then-load-2
returns-then-load-2 g c = record {
  ready = ready_kept c.args.shared.now.belt c.loop.work c.next-in-loop.new.self c.put.new.pass c.in-Given.lot c.in-Err.back c.loop.invariant.ready c.in-Given.ensures.pass c.in-Given.ensures.number c.in-Given.ensures.own c.put.ensures.made_here c.put.ensures.number c.in-Err.ensures.unchanged c.in-Err.ensures.handed_back;
  drives = was_kept g.C.Child.seen c.args.work c.loop.work c.next-in-loop.new.self c.put.new.pass c.in-Given.lot c.in-Err.back c.loop.invariant.keeps c.in-Given.ensures.pass c.in-Given.ensures.kept c.in-Given.ensures.first c.in-Given.ensures.gives c.put.ensures.number c.in-Err.ensures.unchanged c.in-Err.ensures.handed_back;
}

pub loop-preserved : goal.loop-preserved
loop-preserved g c = record {
  ready = ready_kept c.args.shared.now.belt c.loop.work c.next-in-loop.new.self c.put.new.pass c.in-Given.lot c.in-Err.back c.loop.invariant.ready c.in-Given.ensures.pass c.in-Given.ensures.number c.in-Given.ensures.own c.put.ensures.made_here c.put.ensures.number c.in-Err.ensures.unchanged c.in-Err.ensures.handed_back;
  keeps = was_kept g.C.Child.seen c.args.work c.loop.work c.next-in-loop.new.self c.put.new.pass c.in-Given.lot c.in-Err.back c.loop.invariant.keeps c.in-Given.ensures.pass c.in-Given.ensures.kept c.in-Given.ensures.first c.in-Given.ensures.gives c.put.ensures.number c.in-Err.ensures.unchanged c.in-Err.ensures.handed_back;
}

pub put-requires-clause-packets : goal.put-requires-clause-packets
put-requires-clause-packets g c = own_whole _ _ c.in-Given.ensures.own

pub loop-preserved-in-Read : goal.loop-preserved-in-Read
loop-preserved-in-Read g c = record {
  ready = ready_read c.args.shared.now.belt c.loop.work c.next-in-loop.new.self c.loop.invariant.ready c.in-Read.ensures.pass c.in-Read.ensures.number c.in-Read.ensures.kept;
  keeps = was_read g.C.Child.seen c.args.work c.loop.work c.next-in-loop.new.self c.loop.invariant.keeps c.in-Read.ensures.pass c.in-Read.ensures.kept c.in-Read.ensures.first c.in-Read.ensures.gives;
}
