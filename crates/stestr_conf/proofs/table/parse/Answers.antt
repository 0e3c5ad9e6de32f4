use Rattle.std.proofs.Common.{inl, ap}
use Rattle.stestr_conf.specs.Table.{document_by}
use Rattle.stestr_conf.proofs.TableLemmas.{not_memory}
use Rattle.stestr_conf.proofs.table.parse.Goals as goal

pub returns-else-is_memory-clause-refused : goal.returns-else-is_memory-clause-refused
returns-else-is_memory-clause-refused c = inl (ap document_by (c.in-Err.ensures.refused (not_memory c.is_memory.result c.in-Err.error c.is_memory.ensures c.if-is_memory.false)))
