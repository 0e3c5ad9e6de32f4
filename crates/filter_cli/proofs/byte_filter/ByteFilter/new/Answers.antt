use Rattle.std.proofs.Common.{ap, sym, subst, List, [], ℕ}
use Rattle.stream_reader.specs.Stream.{Held}
use Rattle.filter_cli.specs.Noted.{HasFiltered}
use Rattle.filter_cli.proofs.NotedLemmas.{filtered_none}
use Rattle.filter_cli.proofs.byte_filter.ByteFilter.new.Goals as goal

pub returns-clause-has : goal.returns-clause-has
returns-clause-has g c =
    let none = ap (λ (h : Held). h.bytes) c.in-Ok.ensures in
    rw (c.none.ensures) (subst (λ (l : List ℕ). HasFiltered (g.F.NoteFilter.has c.args.filter) (g.F.NoteFilter.plan c.args.filter) 0 l [] []) (sym none) (filtered_none _ _ c.requires.has))
