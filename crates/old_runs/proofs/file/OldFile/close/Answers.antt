use Rattle.std.proofs.Common.{refl}
use Rattle.old_runs.proofs.FileLemmas.{fed_lines, fed_stream, lines_events, lines_damaged, stream_events, stream_damaged}
use Rattle.old_runs.proofs.file.OldFile.close.Goals as goal

pub returns-in_ok-verdict-in-Lines-clause-events : goal.returns-in_ok-verdict-in-Lines-clause-events
returns-in_ok-verdict-in-Lines-clause-events c bytes given h =
    let fed = fed_lines c.args.self c.in-Lines.lines bytes given c.in-Lines.is h in
    lines_events bytes _ _ given c.in_ok-verdict-in-Lines.verdict.told fed.0 (c.in_ok-verdict-in-Lines.ensures.events bytes given fed.1)

pub returns-in_ok-verdict-in-Lines-clause-damaged : goal.returns-in_ok-verdict-in-Lines-clause-damaged
returns-in_ok-verdict-in-Lines-clause-damaged c bytes given h =
    let fed = fed_lines c.args.self c.in-Lines.lines bytes given c.in-Lines.is h in
    lines_damaged c.args.self bytes _ _ given c.in_ok-verdict-in-Lines.verdict.told c.in_ok-verdict-in-Lines.verdict.open_parts c.is_damaged.result fed.0 h
    (c.in_ok-verdict-in-Lines.ensures.events bytes given fed.1) (c.in_ok-verdict-in-Lines.ensures.open_parts bytes given fed.1) c.is_damaged.ensures

pub returns-in_ok-told-in-Stream-clause-events : goal.returns-in_ok-told-in-Stream-clause-events
returns-in_ok-told-in-Stream-clause-events c bytes given h =
    let fed = fed_stream c.args.self c.in-Stream.stream bytes given c.in-Stream.is h in
    stream_events bytes _ _ given c.in_ok-told-in-Stream.told fed.0 (c.in_ok-told-in-Stream.ensures bytes given fed.1)

pub returns-in_ok-told-in-Stream-clause-damaged : goal.returns-in_ok-told-in-Stream-clause-damaged
returns-in_ok-told-in-Stream-clause-damaged c bytes given h =
    let fed = fed_stream c.args.self c.in-Stream.stream bytes given c.in-Stream.is h in
    stream_damaged bytes _ _ given c.in_ok-told-in-Stream.told _ h.are_bytes fed.0 (c.in_ok-told-in-Stream.ensures bytes given fed.1) refl
