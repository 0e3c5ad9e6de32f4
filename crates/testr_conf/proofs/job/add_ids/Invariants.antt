use Rattle.std.proofs.Common.{◌≡◌, ◌∷◌, ◌++◌, take}
use Rattle.std.specs.List.{flat_map}
use Rattle.sub_number.specs.Texts.{IsText}
use Rattle.testr_conf.proofs.job.add_ids.Given as goal

abbrev pub invariant-loop-id : goal.invariant-loop-id
invariant-loop-id l = record {
  value : l.list.items ≡ l.fn.list.items ++ flat_map (λ id. 32 ∷ id) (take l.id-index l.ids);
  text : IsText l.list.items;
}
