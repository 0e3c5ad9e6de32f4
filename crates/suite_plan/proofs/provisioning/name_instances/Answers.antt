use Rattle.std.proofs.Common.{rules, ◌≡◌, pos, to_z, of_z, w32}
use Rattle.suite_plan.proofs.InstanceLemmas.{names_told, names_of_child, otherwise_told, otherwise_of_child}
use Rattle.suite_plan.proofs.provisioning.name_instances.Goals as goal
