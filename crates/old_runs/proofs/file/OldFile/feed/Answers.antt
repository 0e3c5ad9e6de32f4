use Rattle.std.proofs.Common.{◌<◌, ◌++◌, drop, length, refl, rules}
use Rattle.old_runs.proofs.FileLemmas.{first_is, file_more}
use Rattle.old_runs.proofs.file.OldFile.feed.Goals as goal

pub returns-clause-fed : goal.returns-clause-fed
returns-clause-fed c bytes given h =
    let piece = c.args.piece.now in
    let some : 0 < length piece = search rules in
    file_more c.begin.new.self _ bytes piece _ (drop 1 piece) given _ _ (first_is piece _ _ some refl) c.are_bytes.ensures c.in_ok-feed.ensures.ready refl c.in_ok-feed.ensures.fed (c.in_ok-begin.ensures.begun bytes given h)

pub returns-clause-going_on : goal.returns-clause-going_on
returns-clause-going_on c =
    let (bytes, given, h) = c.requires.going_on in
    let fed = returns-clause-fed c bytes given h in
    (bytes ++ c.args.piece.now, given ++ fed.more, fed.holds)
