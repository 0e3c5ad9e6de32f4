use Rattle.std.proofs.Common.{◌++◌, subst}
use Rattle.filter_cli.specs.Streams.{writing_of, sees_by, ends_by}
use Rattle.filter_cli.specs.declared.request.Asked.{Asked}
use Rattle.filter_cli.proofs.BadLemmas.{same_asked}
use Rattle.filter_cli.proofs.StatusLemmas.{status_at_most}
use Rattle.filter_cli.proofs.WritingLaws.{by_front, by_one, by_one_seen, by_some, by_some_seen}
use Rattle.filter_cli.proofs.laws.filtered_streams.Goals as goal

pub returns-clause-some : goal.returns-clause-some
returns-clause-some c = λ words asked asks bytes.
    let (all, status, whole) = by_some (writing_of asked) bytes in
    (all, status, status_at_most asked bytes all status whole, record { asked = asked; asks = asks; whole = whole })

pub returns-clause-some_seen : goal.returns-clause-some_seen
returns-clause-some_seen c = λ words asked asks bytes are.
    let (text, seen) = by_some_seen (writing_of asked) bytes are in
    (text, record { asked = asked; asks = asks; seen = seen })

pub returns-clause-one : goal.returns-clause-one
returns-clause-one c = λ words bytes all other status another are e f.
    by_one (writing_of e.asked) bytes all other status another are e.whole (subst (λ (x : Asked). ends_by (writing_of x) bytes other another) (same_asked words f.asked e.asked f.asks.named e.asks.named) f.whole)

pub returns-clause-one_seen : goal.returns-clause-one_seen
returns-clause-one_seen c = λ words bytes shown other are s t.
    by_one_seen (writing_of s.asked) bytes shown other are s.seen (subst (λ (x : Asked). sees_by (writing_of x) bytes other) (same_asked words t.asked s.asked t.asks.named s.asks.named) t.seen)

pub returns-clause-first : goal.returns-clause-first
returns-clause-first c = λ words bytes more shown all status are s e.
    by_front (writing_of s.asked) bytes more shown all status are s.seen (subst (λ (x : Asked). ends_by (writing_of x) (bytes ++ more) all status) (same_asked words e.asked s.asked e.asks.named s.asks.named) e.whole)
