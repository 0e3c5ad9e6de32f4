use Rattle.std.proofs.Common.{◌≡◌, [], map}
use Rattle.std.specs.List.{AllByRecursion, range_with_len}
use Rattle.crossbeam_queue.specs.Passes.{view, IsPassOf}
use Rattle.worker_mux.specs.declared.knowledge.Knowledge.TheVariants.{Taker}
use Rattle.worker_mux.specs.Passes.{IsFresh, number_of}
use Rattle.worker_mux.proofs.belt.Belt.new.Given as goal

abbrev pub invariant-loop-number : goal.invariant-loop-number
invariant-loop-number l = record {
  made_here : IsPassOf l.queue l.pass;
  knows : view l.pass ≡ Taker l.number [] [];
  numbers : map number_of l.passes.items ≡ range_with_len 0 l.number;
  fresh : AllByRecursion (IsFresh (record { queue = l.queue })) l.passes.items;
}
