use Rattle.std.proofs.lemmas.Result.{IfOk-weaker}
use Rattle.edge_io.specs.Kept.{lookup}
use Rattle.edge_io.specs.Names.{AreNamesOf, ListsInOrder}
use Rattle.edge_io.proofs.NamesLemmas.{listed_names}
use Rattle.edge_io.proofs.names.names_of.Goals as goal

pub returns-clause-names : goal.returns-clause-names
returns-clause-names c =
    let files = lookup c.args.files.now in
    let found = c.in_ok-found.found in
    IfOk-weaker c.in_order.result (λ names. ListsInOrder found names.items) (λ names. AreNamesOf files names.items) (λ names list. listed_names files found names.items c.in_ok-found.ensures.names list) c.in_order.ensures.names
