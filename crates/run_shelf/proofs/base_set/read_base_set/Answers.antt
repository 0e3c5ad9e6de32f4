use Rattle.std.proofs.Common.{◌≡◌, List, ℕ, Option, IfSome, subst}
use Rattle.run_shelf.specs.Bases.{Base, base_name, IsBase}
use Rattle.run_shelf.specs.Repository.{LacksBaseForm}
use Rattle.run_shelf.specs.Looking.{seen_base}
use Rattle.run_shelf.proofs.BaseLemmas.{reads_base, lacks_base, lacks_file}
use Rattle.run_shelf.proofs.LookSteps.{goes_known}
use Rattle.run_shelf.proofs.base_set.read_base_set.Goals as goal

pub returns-in_default-clause-refused : goal.returns-in_default-clause-refused
returns-in_default-clause-refused g c =
    let state = (g.H.Shelf.seen c.args.shelf.now).told in
    let there = subst (λ (o : Option (List ℕ)). IfSome state (λ s. o ≡ s.disk.published base_name)) c.in_default.is c.in-Ok.ensures.found in
    goes_known state _ c.in-Ok.ensures.same (λ s. LacksBaseForm s.disk.published) (lacks_file state c.requires there)

pub returns-in-Ok-Some-clause-found : goal.returns-in-Ok-Some-clause-found
returns-in-Ok-Some-clause-found g c =
    let state = (g.H.Shelf.seen c.args.shelf.now).told in
    let there = subst (λ (o : Option (List ℕ)). IfSome state (λ s. o ≡ s.disk.published base_name)) c.in-Some.is c.in-Ok.ensures.found in
    reads_base state c.in-Some.bytes c.in-Ok-Some.base c.requires there (subst (λ (l : List ℕ). IsBase l (seen_base c.in-Ok-Some.base)) c.bytes-2.ensures (rw c.in-Ok-Some.field-0-is at c.in-Ok-Some.ensures.some))

pub returns-in-Ok-None-clause-refused : goal.returns-in-Ok-None-clause-refused
returns-in-Ok-None-clause-refused g c =
    let state = (g.H.Shelf.seen c.args.shelf.now).told in
    let there = subst (λ (o : Option (List ℕ)). IfSome state (λ s. o ≡ s.disk.published base_name)) c.in-Some.is c.in-Ok.ensures.found in
    goes_known state _ c.in-Ok.ensures.same (λ s. LacksBaseForm s.disk.published)
    (lacks_base state c.in-Some.bytes c.requires there (subst (λ (l : List ℕ). (base : Base) → IsBase l base → ⊥) c.bytes-2.ensures (rw c.in-Ok-None.field-0-is at c.in-Ok-None.ensures.none)))
