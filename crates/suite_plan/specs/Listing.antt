-- The tests that a project's listing tells of (docs/FORMATS.md, "Listings").
use Rattle.std.specs.Prelude.{◌≡◌, ◌⊎◌, ⊤, ℕ, ℤ, Bool, true, false, pos, Option, None, Result, Ok, Err, IsOk, IsErr, IfOk, IfErr, List}
use Rattle.std.specs.List.{filter_map, IsDistinct}
use Rattle.std.specs.Str.{bytes_eq}
use Rattle.packet_codec.specs.declared.event.Event.{Event}
use Rattle.packet_codec.specs.declared.status.Status.{Status}
use Rattle.packet_codec.specs.declared.status.Status.TheVariants.{Unset, Exists, InProgress, Success, UxSuccess, Skip, Fail, XFail}
use Rattle.edge_io.specs.Causes.{RisesExactlyIf}
use Rattle.edge_io.specs.Children.{Output}
use Rattle.edge_io.specs.Seen.{Seen}
use Rattle.edge_io.specs.Spawners.{Spawning}
use Rattle.edge_io.specs.Steps.{Goes, Stays}
use Rattle.edge_io.specs.declared.child.Finish.TheVariants.{Exit}
use Rattle.edge_io.specs.declared.job.Job.{Job}
use Rattle.stream_reader.specs.Notes.{HasEvents}
use Rattle.testr_conf.specs.Jobs.{list_job_of}
use Rattle.testr_conf.specs.Settings.{Settings}
use Rattle.suite_plan.specs.Children.{StartsFor, IsBroken}
use Rattle.suite_plan.specs.Firsts.{firsts}
use Rattle.suite_plan.specs.Saying.{TellsListing}
use Rattle.suite_plan.specs.declared.test_listing.ListingRefusal.{ListingRefusal}
use Rattle.suite_plan.specs.declared.test_listing.ListingRefusal.TheVariants.{NoListOption, Spawn, Child, Failed, NoMemory}

-- the id of a test that is there, where the event tells of one
abbrev pub id_where : Status → Option (List ℕ) → Option (List ℕ)
id_where Exists id = id
id_where Unset id = None
id_where InProgress id = None
id_where Success id = None
id_where UxSuccess id = None
id_where Skip id = None
id_where Fail id = None
id_where XFail id = None

-- the id of a test that the event says to exist
abbrev pub listed_id : Event → Option (List ℕ)
listed_id event = id_where event.status event.id

-- the ids of the events of status exists, in order, of repeats the first
abbrev pub listed_of : List Event → List (List ℕ)
listed_of events = firsts (filter_map listed_id events)

-- an output of these bytes lists these ids
pub record Lists (ids : List (List ℕ)) (bytes : List ℕ) : Type 0 where
  pub events : List Event
  pub told : HasEvents bytes events
  pub ids_are : ids ≡ listed_of events

-- the list job was started, its child ended with 0, and its output lists these ids
pub record ListsSo (settings : Settings) (ids : List (List ℕ)) (s t : Spawning) : Type 0 where
  pub job : Job
  pub job_is : list_job_of settings ≡ Ok job
  pub output : Output
  pub started : StartsFor job output s t
  pub ended : output.finish ≡ Exit (pos 0)
  pub lists : Lists ids output.bytes

-- the list job was started, and its child has an output that meets this
pub record StartsListing (settings : Settings) (Meets : Output → Type 0) (s t : Spawning) : Type 0 where
  pub job : Job
  pub job_is : list_job_of settings ≡ Ok job
  pub output : Output
  pub started : StartsFor job output s t
  pub meets : Meets output

-- the child ended with this status, which is not 0, and this is told of its output
pub record HasFailed (status : ℤ) (said : List ℕ) (output : Output) : Type 0 where
  pub ended : output.finish ≡ Exit status
  pub other : status ≡ pos 0 → ⊥
  pub says : TellsListing said output.bytes

-- why nothing is listed, and what was done by then
abbrev pub HasListingCause : Settings → ListingRefusal → Spawning → Spawning → Type 0
HasListingCause settings NoListOption s t = IsErr (list_job_of settings) × Stays s t
HasListingCause settings Spawn s t = IsOk (list_job_of settings) × Stays s t
HasListingCause settings Child s t = StartsListing settings (λ output. IsBroken output.finish) s t
HasListingCause settings (Failed status said) s t = StartsListing settings (HasFailed status said) s t
HasListingCause settings NoMemory s t = Stays s t ⊎ StartsListing settings (λ output. ⊤) s t

-- the tests were not listed since a start failed
abbrev pub listing_failed : Result (List (List ℕ)) ListingRefusal → Bool
listing_failed (Ok ids) = false
listing_failed (Err NoListOption) = false
listing_failed (Err Spawn) = true
listing_failed (Err Child) = false
listing_failed (Err (Failed status said)) = false
listing_failed (Err NoMemory) = false

-- The step of a listing. Without a list job nothing is started: so it is exactly then, and but for want of memory.
pub record ListsTests (settings : Settings) (before after : Seen Spawning) (result : Result (List (List ℕ)) ListingRefusal) : Type 0 where
  pub listed : IfOk result (λ ids. Goes before.told after.told (ListsSo settings ids))
  pub refused : IfErr result (λ refusal. Goes before.told after.told (HasListingCause settings refusal))
  pub jobless : result ≡ Err NoListOption → IsErr (list_job_of settings)
  pub exactly : IsErr (list_job_of settings) → (result ≡ Err NoListOption) ⊎ (result ≡ Err NoMemory)
  pub count : RisesExactlyIf before.faults after.faults (listing_failed result)
  pub distinct : IfOk result (IsDistinct bytes_eq)
