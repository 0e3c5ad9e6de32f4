use Rattle.std.proofs.Common.{◌∙◌, ◌++◌, ap, sym, subst, take, arith}
use Rattle.std.proofs.KnownBytes.{Consumes-trans}
use Rattle.std.proofs.lemmas.List.{length-append}
use Rattle.stream_reader.proofs.FrontLemmas.{are_both}
use Rattle.run_shelf.proofs.DraftLemmas.{goes_grown_then}
use Rattle.worker_lane.specs.Scribing.{Recording}
use Rattle.command_steps.specs.Outside.{fed}
use Rattle.command_steps.specs.Recording.{NoneFailed, ReadsFew, ReadsTooMany}
use Rattle.command_steps.proofs.HearLemmas.{hears_then, stops_then, stops_behind}
use Rattle.command_steps.proofs.Resting.{same_then}
use Rattle.command_steps.proofs.RecordLemmas.{told_longer, write_cause, caused_by}
use Rattle.command_steps.proofs.input_recorder.record_pieces.Goals as goal

pub loop-count-preserved : goal.loop-count-preserved
loop-count-preserved g c =
    let (bytes, read, size, run, recording, heard, are, written) = c.loop-count.invariant.read in
    let piece = take c.in_ok-count.count c.read.new.buf in
    let more = c.in_ok-write_packets.ensures.written in
    let packets = more.run in
    let held = c.feed.ensures.recording bytes run recording in
    let given = more.given in
    record {
      read = (
        bytes ++ piece,
        Consumes-trans _ _ _ bytes piece read c.in_ok-count.ensures.bytes.0,
        omega (arith, size, c.in_ok-count.ensures.bound.1, length-append bytes piece),
        run ++ packets,
        subst (λ l. Recording (bytes ++ piece) c.write_packets.new.scribe (run ++ l)) (sym given.new_is) (given.recording (bytes ++ piece) run held),
        hears_then g.L.Listener.heard _ _ _ run packets heard more.was_heard,
        are_both run packets are more.are_bytes,
        goes_grown_then _ _ _ run packets written more.written,
      );
      few = omega (arith, c.if-total-gt-MOST_BYTES.false);
      draft = c.in_ok-write_packets.ensures.draft;
      going_on = given.ended ∙ ap (λ s. s.held.ended) c.feed.ensures.ok;
      held = c.in_ok-write_packets.ensures.held (given.ended ∙ ap (λ s. s.held.ended) c.feed.ensures.ok);
      lane = given.lane ∙ ap (λ s. s.lane) c.feed.ensures.ok ∙ c.loop-count.invariant.lane;
      empty = c.in_ok-write_packets.ensures.empty;
      rests = same_then _ _ _ c.loop-count.invariant.rests c.in_ok-write_packets.ensures.rests;
      counts = record { folder = more.count ∙ c.loop-count.invariant.counts.folder; input = c.in_ok-count.ensures.cause.done ∙ c.loop-count.invariant.counts.input };
    }

pub returns-then-total-gt-MOST_BYTES-clause-refused : goal.returns-then-total-gt-MOST_BYTES-clause-refused
returns-then-total-gt-MOST_BYTES-clause-refused g c =
    let (bytes, read, size, run, recording, heard, are, written) = c.loop-count.invariant.read in
    let piece = take c.in_ok-count.count c.read.new.buf in
    let reads : ReadsTooMany (g.I.Source.seen c.args.input.now).told (g.I.Source.seen c.read.new.self).told = record {
      bytes = bytes ++ piece;
      read = Consumes-trans _ _ _ bytes piece read c.in_ok-count.ensures.bytes.0;
      many = omega (arith, size, c.if-total-gt-MOST_BYTES.true, c.in_ok-count.ensures.bound.1, length-append bytes piece);
      few = omega (arith, size, c.loop-count.invariant.few, c.in_ok-count.ensures.bound.0, c.in_ok-count.ensures.bound.1, length-append bytes piece);
    } in
    let counts : NoneFailed (fed (g.H.Shelf.seen c.args.shelf.now) (g.I.Source.seen c.args.input.now)) (fed (g.H.Shelf.seen c.loop-count.shelf) (g.I.Source.seen c.read.new.self)) = record { folder = c.loop-count.invariant.counts.folder; input = c.in_ok-count.ensures.cause.done ∙ c.loop-count.invariant.counts.input } in
    (told_longer _ _ reads, counts, reads)

pub returns-in_err-write_packets-clause-refused : goal.returns-in_err-write_packets-clause-refused
returns-in_err-write_packets-clause-refused g c =
    let (bytes, read, size, run, recording, heard, are, written) = c.loop-count.invariant.read in
    let piece = take c.in_ok-count.count c.read.new.buf in
    let reads : ReadsFew (g.I.Source.seen c.args.input.now).told (g.I.Source.seen c.read.new.self).told = record {
      bytes = bytes ++ piece;
      read = Consumes-trans _ _ _ bytes piece read c.in_ok-count.ensures.bytes.0;
      few = omega (arith, size, c.if-total-gt-MOST_BYTES.false, c.in_ok-count.ensures.bound.1, length-append bytes piece);
    } in
    let counts : NoneFailed (fed (g.H.Shelf.seen c.args.shelf.now) (g.I.Source.seen c.args.input.now)) (fed (g.H.Shelf.seen c.loop-count.shelf) (g.I.Source.seen c.read.new.self)) = record { folder = c.loop-count.invariant.counts.folder; input = c.in_ok-count.ensures.cause.done ∙ c.loop-count.invariant.counts.input } in
    caused_by _ _ _ _ c.from_residual-in_err-write_packets.ensures.1 (write_cause _ _ _ _ _ counts c.in_err-write_packets.ensures.refused reads)

pub returns-in_err-count-clause-stops : goal.returns-in_err-count-clause-stops
returns-in_err-count-clause-stops g c =
    let (bytes, read, size, run, recording, heard, are, written) = c.loop-count.invariant.read in
    stops_behind g.L.Listener.heard g.L.Listener.keeps _ _ run heard

pub returns-then-count-eq0-clause-stops : goal.returns-then-count-eq0-clause-stops
returns-then-count-eq0-clause-stops g c =
    let (bytes, read, size, run, recording, heard, are, written) = c.loop-count.invariant.read in
    stops_behind g.L.Listener.heard g.L.Listener.keeps _ _ run heard

pub returns-then-total-gt-MOST_BYTES-clause-stops : goal.returns-then-total-gt-MOST_BYTES-clause-stops
returns-then-total-gt-MOST_BYTES-clause-stops g c =
    let (bytes, read, size, run, recording, heard, are, written) = c.loop-count.invariant.read in
    stops_behind g.L.Listener.heard g.L.Listener.keeps _ _ run heard

pub returns-in_err-write_packets-clause-stops : goal.returns-in_err-write_packets-clause-stops
returns-in_err-write_packets-clause-stops g c =
    let (bytes, read, size, run, recording, heard, are, written) = c.loop-count.invariant.read in
    stops_then g.L.Listener.heard g.L.Listener.keeps _ _ _ run heard c.write_packets.ensures.stops
