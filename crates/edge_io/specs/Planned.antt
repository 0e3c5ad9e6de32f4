-- What the children, the spawner and the files in memory show (docs/DISK.md, the forms in memory).
use Rattle.std.specs.Prelude.{◌≡◌, ◌⊎◌, ℕ, List, [], map, drop, Contains, Result, IsErr, OnOk, OnErr}
use Rattle.edge_io.specs.Causes.{one_more}
use Rattle.edge_io.specs.Children.{Output}
use Rattle.edge_io.specs.Disk.{Files}
use Rattle.edge_io.specs.Kept.{lookup}
use Rattle.edge_io.specs.Plans.{Course, course_of}
use Rattle.edge_io.specs.Spawners.{Spawning}
use Rattle.edge_io.specs.declared.map_site.MapSite.{MapSite}
use Rattle.edge_io.specs.declared.plan_child.PlanChild.{PlanChild}
use Rattle.edge_io.specs.declared.plan_spawner.Plan.{Plan}
use Rattle.edge_io.specs.declared.plan_spawner.PlanSpawner.{PlanSpawner}

-- the bytes that the child's reads have not given yet, and its end
abbrev pub child_output : PlanChild → Output
child_output child = record { bytes = drop child.start child.bytes; finish = child.finish }

-- at most so many bytes come at once
abbrev pub child_piece : PlanChild → ℕ
child_piece child = child.piece

-- how many calls of the child failed
abbrev pub child_faults : PlanChild → ℕ
child_faults child = child.faults

-- the output that a plan gives its child
abbrev pub planned_output : Plan → Output
planned_output plan = record { bytes = plan.output; finish = plan.finish }

-- the outputs that are left, and the jobs that were started
abbrev pub spawning_of : PlanSpawner → Spawning
spawning_of spawner = record { outputs = map planned_output spawner.plans.items; started = spawner.jobs.items }

-- which starts of the spawner are to fail, and how many calls there were
abbrev pub spawner_course : PlanSpawner → Course
spawner_course spawner = course_of spawner.plan

-- how many starts failed
abbrev pub spawner_faults : PlanSpawner → ℕ
spawner_faults spawner = spawner.plan.faults

-- it is a listed call, or no output is left
abbrev pub IsToFail : List Output → Course → Type 0
IsToFail outputs course = Contains course.fails course.calls ⊎ (outputs ≡ [])

-- One start. It fails where it is listed and where no output is left, and else only for want of memory; that raises
-- `short`, and nothing else does.
pub record SpawnsAsListed {T E : Type 0} (outputs : List Output) (old new : Course) (result : Result T E) : Type 0 where
  pub fails : new.fails ≡ old.fails
  pub calls : new.calls ≡ one_more old.calls
  pub listed : IsToFail outputs old → IsErr result
  pub other : OnErr result ((IsToFail outputs old × (new.short ≡ old.short)) ⊎ ((IsToFail outputs old → ⊥) × (new.short ≡ one_more old.short)))
  pub done : OnOk result (new.short ≡ old.short)

-- the absolute path of the folder that the files stand in, or nothing
abbrev pub site_folder : MapSite → List ℕ
site_folder site = site.folder.bytes.items

-- the last file of a name counts
abbrev pub site_files : MapSite → Files
site_files site = lookup site.files.items

-- which calls of the site are to fail, and how many there were
abbrev pub site_course : MapSite → Course
site_course site = course_of site.plan

-- how many calls of the site failed
abbrev pub site_faults : MapSite → ℕ
site_faults site = site.plan.faults
