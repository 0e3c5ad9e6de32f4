use Rattle.std.proofs.Common.{◌+◌, refl, ◌<◌, [], ◌++◌, length, take, inl, inr, ◌∙◌, arith, length-append, append-nil}
use Rattle.std.proofs.KnownBytes.{Consumes-trans}
use Rattle.edge_io.specs.Limits.{most_bytes}
use Rattle.filter_cli.proofs.PipeLemmas.{rose_later, took_none, text_is, wrote_all, wrote_part, told_longer}
use Rattle.filter_cli.proofs.FileLemmas.{rest_begun, rest_there, there_as, refused_says, read_refused, stopped_says, stopped_file}
use Rattle.filter_cli.proofs.file_loop.pump_file.Goals as goal

pub returns-in-Err : goal.returns-in-Err
returns-in-Err g c input =
    let inv = c.loop-count.invariant in
    let (fed, shown, took, wrote, size, has) = inv.read in
    let first = g.S.Site.seen c.args.site.now in
    let before = g.S.Site.seen c.loop-count.site in
    let after = g.S.Site.seen c.read_on.new.site in
    record {
      rest = rest_begun _ _ _ refl (c.read_on.ensures.files ∙ inv.files) inv.begun;
      found = refused_says c.args.name.now first before after c.in-Err.fault c.in-Err.ensures.refused inv.files;
      place = c.loop-count.total;
      fed = read_refused g.F.Filter.inside c.args.name.now (g.F.Filter.seen c.args.filter) (g.F.Filter.whole c.args.filter) first before after _ _ c.loop-count.total fed shown c.in-Err.fault c.in-Err.ensures.refused c.read_on.ensures.files inv.site took wrote (omega (arith, size, inv.few)) (inv.seen fed shown (g.met.F.Filter.is_seen c.loop-count.filter fed shown has)) inv.out;
    }

pub returns-then-total-gt-MOST_BYTES : goal.returns-then-total-gt-MOST_BYTES
returns-then-total-gt-MOST_BYTES g c input =
    let inv = c.loop-count.invariant in
    let (fed, shown, took, wrote, size, has) = inv.read in
    let there = there_as _ _ _ inv.files c.in-Ok.ensures.read.there in
    let piece = take c.in-Ok.count c.read_on.new.buf in
    let all = Consumes-trans _ _ _ fed piece took c.in-Ok.ensures.read.took in
    let longer : most_bytes < length (fed ++ piece) = omega (arith, size, c.if-total-gt-MOST_BYTES.true, c.in-Ok.ensures.bound.1, length-append fed piece) in
    record {
      rest = rest_there _ _ _ refl (c.read_on.ensures.files ∙ inv.files) there;
      found = there;
      place = c.loop-count.total + c.in-Ok.count;
      fed = record {
        stops = record {
          front = fed;
          few = omega (arith, size, inv.few);
          piece = piece;
          short = omega (arith, c.in-Ok.ensures.bound.1, c.in-Ok.ensures.bound.0);
          text = shown;
          moved = record { took = all; wrote = wrote };
          seen = inv.seen fed shown (g.met.F.Filter.is_seen c.loop-count.filter fed shown has);
          faults = record { input = c.in-Ok.ensures.count ∙ inv.site; out = inv.out };
        };
        longer = longer;
        told = told_longer _ _ (fed ++ piece) most_bytes longer all;
      };
    }

pub returns-in_default : goal.returns-in_default
returns-in_default g c input =
    let inv = c.loop-count.invariant in
    let (fed, shown, took, wrote, size, has) = inv.read in
    let there = there_as _ _ _ inv.files c.in-Ok.ensures.read.there in
    let piece = take c.in-Ok.count c.read_on.new.buf in
    record {
      rest = rest_there _ _ _ refl (c.read_on.ensures.files ∙ inv.files) there;
      found = there;
      place = c.loop-count.total + c.in-Ok.count;
      fed = record {
        front = fed;
        few = omega (arith, size, inv.few);
        piece = piece;
        short = omega (arith, c.in-Ok.ensures.bound.1, c.in-Ok.ensures.bound.0);
        text = shown;
        moved = record { took = Consumes-trans _ _ _ fed piece took c.in-Ok.ensures.read.took; wrote = wrote };
        seen = inv.seen fed shown (g.met.F.Filter.is_seen c.loop-count.filter fed shown has);
        faults = record { input = c.in-Ok.ensures.count ∙ inv.site; out = inv.out };
      };
    }

pub returns-in_default-write_whole : goal.returns-in_default-write_whole
returns-in_default-write_whole g c input =
    let inv = c.loop-count.invariant in
    let (fed, shown, took, wrote, size, has) = inv.read in
    let there = there_as _ _ _ inv.files c.in-Ok.ensures.read.there in
    let piece = take c.in-Ok.count c.read_on.new.buf in
    let adds = c.in-Ok-feed.ensures.ok fed shown has in
    let text = text_is _ _ c.deref.result.now adds.more inv.empty adds.grown c.deref.ensures.value in
    let part = c.write_whole.ensures.prefix in
    record {
      rest = rest_there _ _ _ refl (c.read_on.ensures.files ∙ inv.files) there;
      found = there;
      place = c.loop-count.total + c.in-Ok.count;
      fed = record {
        front = fed;
        piece = piece;
        short = omega (arith, c.in-Ok.ensures.bound.1, c.in-Ok.ensures.bound.0);
        size = omega (arith, size, c.if-total-gt-MOST_BYTES.false, c.in-Ok.ensures.bound.1, length-append fed piece);
        shown = shown;
        seen = inv.seen fed shown (g.met.F.Filter.is_seen c.loop-count.filter fed shown has);
        more = adds.more;
        due = inl (inv.seen _ _ (c.in-Ok-feed.ensures.seen _ _ (g.met.F.Filter.is_seen c.feed.new.self (fed ++ piece) (shown ++ adds.more) adds.holds)));
        count = part.0;
        moved = record { took = Consumes-trans _ _ _ fed piece took c.in-Ok.ensures.read.took; wrote = wrote_part _ _ _ shown c.deref.result.now adds.more part.0 text wrote part.2 };
        rose = rose_later _ _ _ inv.out c.in_default-write_whole.ensures.cause.failed;
        input = c.in-Ok.ensures.count ∙ inv.site;
      };
    }

pub loop-count-preserved : goal.loop-count-preserved
loop-count-preserved g c =
    let inv = c.loop-count.invariant in
    let (fed, shown, took, wrote, size, has) = inv.read in
    let piece = take c.in-Ok.count c.read_on.new.buf in
    let adds = c.in-Ok-feed.ensures.ok fed shown has in
    let text = text_is _ _ c.deref.result.now adds.more inv.empty adds.grown c.deref.ensures.value in
    record {
      read = (
        fed ++ piece,
        shown ++ adds.more,
        Consumes-trans _ _ _ fed piece took c.in-Ok.ensures.read.took,
        wrote_all _ _ _ shown c.deref.result.now adds.more text wrote c.in-Ok-write_whole.ensures.whole,
        omega (arith, size, c.in-Ok.ensures.bound.1, length-append fed piece),
        adds.holds,
      );
      seen = λ bytes text sees. inv.seen bytes text (c.in-Ok-feed.ensures.seen bytes text sees);
      whole = λ bytes all status ends. inv.whole bytes all status (c.in-Ok-feed.ensures.whole bytes all status ends);
      ready = c.in-Ok-feed.ensures.ready;
      few = omega (arith, c.if-total-gt-MOST_BYTES.false);
      empty = c.clear.ensures.items;
      files = c.read_on.ensures.files ∙ inv.files;
      begun = inr (there_as _ _ _ inv.files c.in-Ok.ensures.read.there);
      site = c.in-Ok.ensures.count ∙ inv.site;
      out = c.in-Ok-write_whole.ensures.cause.done ∙ inv.out;
    }

pub returns-in_err-end : goal.returns-in_err-end
returns-in_err-end g c input =
    let inv = c.loop-count.invariant in
    let (fed, shown, took, wrote, size, has) = inv.read in
    let there = there_as _ _ _ inv.files c.in-Ok.ensures.read.there in
    let all = took_none _ _ _ fed _ c.in-Ok.count c.if-count-eq0.true took c.in-Ok.ensures.read.took in
    record {
      rest = rest_there _ _ _ refl (c.read_on.ensures.files ∙ inv.files) there;
      found = stopped_says _ _ _ c.from_residual.ensures.1 there;
      place = c.loop-count.total + c.in-Ok.count;
      fed = stopped_file g.F.Filter.inside _ _ _ _ _ c.from_residual.ensures.1 (record {
        front = fed;
        few = omega (arith, size, inv.few);
        piece = [];
        short = omega arith;
        text = shown;
        moved = record { took = rw append-nil all; wrote = wrote };
        seen = inv.seen fed shown (g.met.F.Filter.is_seen c.loop-count.filter fed shown has);
        faults = record { input = c.in-Ok.ensures.count ∙ inv.site; out = inv.out };
      });
    }

pub returns-in_default-write_whole-2 : goal.returns-in_default-write_whole-2
returns-in_default-write_whole-2 g c input =
    let inv = c.loop-count.invariant in
    let (fed, shown, took, wrote, size, has) = inv.read in
    let there = there_as _ _ _ inv.files c.in-Ok.ensures.read.there in
    let all = took_none _ _ _ fed _ c.in-Ok.count c.if-count-eq0.true took c.in-Ok.ensures.read.took in
    let adds = c.in_ok-end.ensures.text fed shown has in
    let text = text_is _ _ c.deref-2.result.now adds.more inv.empty adds.grown c.deref-2.ensures.value in
    let part = c.write_whole-2.ensures.prefix in
    record {
      rest = rest_there _ _ _ refl (c.read_on.ensures.files ∙ inv.files) there;
      found = there;
      place = c.loop-count.total + c.in-Ok.count;
      fed = record {
        front = fed;
        piece = [];
        short = omega arith;
        size = rw append-nil (omega (arith, size, inv.few));
        shown = shown;
        seen = inv.seen fed shown (g.met.F.Filter.is_seen c.loop-count.filter fed shown has);
        more = adds.more;
        due = rw append-nil (inr (c.in_ok-end.end.status, c.in-Ok.ensures.read.ends c.if-count-eq0.true (omega arith), inv.whole _ _ _ adds.holds));
        count = part.0;
        moved = record { took = rw append-nil all; wrote = wrote_part _ _ _ shown c.deref-2.result.now adds.more part.0 text wrote part.2 };
        rose = rose_later _ _ _ inv.out c.in_default-write_whole-2.ensures.cause.failed;
        input = c.in-Ok.ensures.count ∙ inv.site;
      };
    }

pub returns : goal.returns
returns g c input =
    let inv = c.loop-count.invariant in
    let (fed, shown, took, wrote, size, has) = inv.read in
    let there = there_as _ _ _ inv.files c.in-Ok.ensures.read.there in
    let adds = c.in_ok-end.ensures.text fed shown has in
    let text = text_is _ _ c.deref-2.result.now adds.more inv.empty adds.grown c.deref-2.ensures.value in
    record {
      rest = rest_there _ _ _ refl (c.read_on.ensures.files ∙ inv.files) there;
      found = there;
      place = c.loop-count.total + c.in-Ok.count;
      fed = record {
        all = record {
          bytes = fed;
          text = shown ++ adds.more;
          moved = record {
            took = took_none _ _ _ fed _ c.in-Ok.count c.if-count-eq0.true took c.in-Ok.ensures.read.took;
            wrote = wrote_all _ _ _ shown c.deref-2.result.now adds.more text wrote c.in-Ok-write_whole-2.ensures.whole;
          };
          at_end = c.in-Ok.ensures.read.ends c.if-count-eq0.true (omega arith);
          size = omega (arith, size, inv.few);
          whole = inv.whole _ _ _ adds.holds;
          faults = record { input = c.in-Ok.ensures.count ∙ inv.site; out = c.in-Ok-write_whole-2.ensures.cause.done ∙ inv.out };
        };
        told = c.in_ok-end.ensures.inside fed shown has;
      };
    }
