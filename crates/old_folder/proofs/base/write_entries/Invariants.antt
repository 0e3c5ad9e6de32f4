use Rattle.std.proofs.Common.{◌≡◌, ◌++◌, take, All}
use Rattle.std.specs.List.{flat_map}
use Rattle.sub_number.specs.Texts.{IsShortText}
use Rattle.run_shelf.specs.IdFiles.{with_zero}
use Rattle.old_folder.proofs.base.write_entries.Given as goal

-- the entries so far, whose ids are texts
abbrev pub invariant-loop-id : goal.invariant-loop-id
invariant-loop-id l = record {
  bytes : l.bytes.items ≡ l.fn.bytes.items ++ flat_map with_zero (take l.id-index l.ids);
  texts : All IsShortText (take l.id-index l.ids);
}
