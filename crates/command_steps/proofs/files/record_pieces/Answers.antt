use Rattle.std.proofs.Common.{◌∙◌, ◌++◌, ◌<◌, ap, sym, subst, take, length, length-append, arith}
use Rattle.std.proofs.lemmas.List.{length-take-le}
use Rattle.stream_reader.proofs.FrontLemmas.{are_both}
use Rattle.run_shelf.proofs.DraftLemmas.{goes_grown_then}
use Rattle.worker_lane.specs.Scribing.{Recording}
use Rattle.command_steps.proofs.HearLemmas.{hears_then, stops_then, stops_behind}
use Rattle.command_steps.proofs.Resting.{same_then}
use Rattle.command_steps.proofs.FilesLemmas.{front_next, front_end, fits_count}
use Rattle.command_steps.proofs.files.record_pieces.Goals as goal

pub loop-found-preserved : goal.loop-found-preserved
loop-found-preserved g c =
    let (bytes, front, size, run, recording, heard, are, written) = c.loop-found.invariant.read in
    let piece = take c.in-Read.count c.read_at.new.buf in
    let fits = fits_count c.read_at.new.buf c.in-Ok.found c.in-Read.count c.in-Read.is c.in-Ok.ensures.bound in
    let next = front_next c.args.name.now _ _ bytes c.read_at.new.buf c.loop-found.total c.in-Read.count c.in-Ok.found c.loop-found.invariant.files size c.in-Read.is front c.in-Ok.ensures.found in
    let more = c.in_ok-write_packets.ensures.written in
    let given = more.given in
    record {
      read = (
        bytes ++ piece,
        next,
        omega (arith, size, length-take-le c.in-Read.count c.read_at.new.buf fits, length-append bytes piece),
        run ++ more.run,
        subst (λ l. Recording (bytes ++ piece) c.write_packets.new.scribe (run ++ l)) (sym given.new_is) (given.recording (bytes ++ piece) run (c.feed.ensures.recording bytes run recording)),
        hears_then g.L.Listener.heard _ _ _ run more.run heard more.was_heard,
        are_both run more.run are more.are_bytes,
        goes_grown_then _ _ _ run more.run written more.written,
      );
      few = omega (arith, c.if-total-gt-MOST_BYTES.false);
      draft = c.in_ok-write_packets.ensures.draft;
      going_on = given.ended ∙ ap (λ s. s.held.ended) c.feed.ensures.ok;
      held = c.in_ok-write_packets.ensures.held (given.ended ∙ ap (λ s. s.held.ended) c.feed.ensures.ok);
      lane = given.lane ∙ ap (λ s. s.lane) c.feed.ensures.ok ∙ c.loop-found.invariant.lane;
      empty = c.in_ok-write_packets.ensures.empty;
      rests = same_then _ _ _ c.loop-found.invariant.rests c.in_ok-write_packets.ensures.rests;
      counts = record { folder = more.count ∙ c.loop-found.invariant.counts.folder; site = c.in-Ok.ensures.cause.done ∙ c.loop-found.invariant.counts.site };
      files = c.in-Ok.ensures.same ∙ c.loop-found.invariant.files;
    }

pub returns-then-count-eq0-clause-recorded : goal.returns-then-count-eq0-clause-recorded
returns-then-count-eq0-clause-recorded g c =
    let (bytes, front, size, run, recording, heard, are, written) = c.loop-found.invariant.read in
    let some : 0 < length c.read_at.new.buf = grind arith in
    record {
      bytes = bytes;
      whole = front_end c.args.name.now _ _ bytes c.read_at.new.buf c.loop-found.total c.in-Read.count c.in-Ok.found c.loop-found.invariant.files size c.in-Read.is (omega (arith, c.if-count-eq0.true)) some front c.in-Ok.ensures.found;
      size = omega (arith, size, c.loop-found.invariant.few);
      run = run;
      recording = recording;
      was_heard = heard;
      are_bytes = are;
      written = written;
      counts = record { folder = c.loop-found.invariant.counts.folder; site = c.in-Ok.ensures.cause.done ∙ c.loop-found.invariant.counts.site };
      files = c.in-Ok.ensures.same ∙ c.loop-found.invariant.files;
    }

pub returns-then-count-eq0-clause-stops : goal.returns-then-count-eq0-clause-stops
returns-then-count-eq0-clause-stops g c =
    let (bytes, front, size, run, recording, heard, are, written) = c.loop-found.invariant.read in
    stops_behind g.L.Listener.heard g.L.Listener.keeps _ _ run heard

pub returns-then-total-gt-MOST_BYTES-clause-stops : goal.returns-then-total-gt-MOST_BYTES-clause-stops
returns-then-total-gt-MOST_BYTES-clause-stops g c =
    let (bytes, front, size, run, recording, heard, are, written) = c.loop-found.invariant.read in
    stops_behind g.L.Listener.heard g.L.Listener.keeps _ _ run heard

pub returns-in_default-clause-stops : goal.returns-in_default-clause-stops
returns-in_default-clause-stops g c =
    let (bytes, front, size, run, recording, heard, are, written) = c.loop-found.invariant.read in
    stops_behind g.L.Listener.heard g.L.Listener.keeps _ _ run heard

pub returns-in_default-found-clause-stops : goal.returns-in_default-found-clause-stops
returns-in_default-found-clause-stops g c =
    let (bytes, front, size, run, recording, heard, are, written) = c.loop-found.invariant.read in
    stops_behind g.L.Listener.heard g.L.Listener.keeps _ _ run heard

pub returns-in_err-write_packets-clause-stops : goal.returns-in_err-write_packets-clause-stops
returns-in_err-write_packets-clause-stops g c =
    let (bytes, front, size, run, recording, heard, are, written) = c.loop-found.invariant.read in
    stops_then g.L.Listener.heard g.L.Listener.keeps _ _ _ run heard c.write_packets.ensures.stops
