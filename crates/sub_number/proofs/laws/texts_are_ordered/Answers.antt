use Rattle.std.specs.Cmp.Lexicographic.{nat_list_cmp_total}
use Rattle.std.specs.FinMap.{nat_cmp-IsAntisymmetric, slice_cmp-IsAntisymmetric}
use Rattle.sub_number.proofs.laws.texts_are_ordered.Goals as goal

pub returns-clause-total : goal.returns-clause-total
returns-clause-total c = nat_list_cmp_total

pub returns-clause-exact : goal.returns-clause-exact
returns-clause-exact c = slice_cmp-IsAntisymmetric nat_cmp-IsAntisymmetric
