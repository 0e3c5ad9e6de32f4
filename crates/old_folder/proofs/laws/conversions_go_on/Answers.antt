use Rattle.std.proofs.Common.{arith}
use Rattle.old_folder.proofs.OldLemmas.{none_converted, one_more, all_converted, upgraded}
use Rattle.old_folder.proofs.laws.conversions_go_on.Goals as goal

pub returns-clause-none : goal.returns-clause-none
returns-clause-none c files = none_converted files

pub returns-clause-more : goal.returns-clause-more
returns-clause-more c count runs files now bytes was less has = one_more runs files now bytes (omega (arith, less, was.counted.few)) has

pub returns-clause-all : goal.returns-clause-all
returns-clause-all c runs files now was has = all_converted runs files now was has

pub returns-clause-taken : goal.returns-clause-taken
returns-clause-taken c runs ids bytes files now image was has tells adopted = upgraded runs files now was has ids bytes image tells adopted
