-- The laws of what is written, by what the input is cut into.
use Rattle.std.proofs.Common.{◌≡◌, ℕ, List, ◌++◌, refl, sym, ◌∙◌}
use Rattle.packet_codec.specs.Grammar.{AreBytes}
use Rattle.packet_codec.specs.Canonical.{packets_of}
use Rattle.filter_cli.specs.PlanLaws.{plan_front, plan_one, plan_one_seen, plan_some, plan_some_seen}
use Rattle.filter_cli.specs.Script.{given_by}
use Rattle.std.specs.List.{filter}
use Rattle.sub_export.specs.Output.{output_events, pieces_of}
use Rattle.sub_export.specs.declared.job.Job.{Job}
use Rattle.filter_cli.specs.Attached.{events_of_pieces, IsOutputSeen}
use Rattle.filter_cli.specs.AttachedLaws.{attached_front, attached_one}
use Rattle.filter_cli.specs.Tap.{is_full}
use Rattle.filter_cli.specs.HeadedLaws.{below_front, below_one}
use Rattle.filter_cli.specs.Plan.{IsSeen, IsFiltered}
use Rattle.filter_cli.specs.Streams.{Writing, of_notes, of_tap_lines, of_v1_lines, below_head, of_job, sees_by, ends_by}
use Rattle.filter_cli.proofs.BelowLemmas.{below_one_seen, below_some, below_some_seen}
use Rattle.filter_cli.specs.V1Laws.{v1_front, v1_one, v1_one_seen, v1_some, v1_some_seen}
use Rattle.filter_cli.specs.TapLaws.{tap_front, tap_one, tap_one_seen, tap_some, tap_some_seen}

pub by_front : (writing : Writing) (bytes more shown all : List ℕ) (status : ℕ) → AreBytes (bytes ++ more) → sees_by writing bytes shown → ends_by writing (bytes ++ more) all status → (rest : List ℕ) × (all ≡ shown ++ rest)
by_front (of_notes plan) = plan_front plan
by_front of_tap_lines = tap_front
by_front of_v1_lines = v1_front
by_front (below_head head plan) = below_front head (IsSeen plan) (IsFiltered plan) (plan_front plan)
by_front (of_job job) = attached_front job

pub by_one : (writing : Writing) (bytes all other : List ℕ) (status another : ℕ) → AreBytes bytes → ends_by writing bytes all status → ends_by writing bytes other another → (all ≡ other) × (status ≡ another)
by_one (of_notes plan) = plan_one plan
by_one of_tap_lines = tap_one
by_one of_v1_lines = v1_one
by_one (below_head head plan) = below_one head (IsFiltered plan) (plan_one plan)
by_one (of_job job) = attached_one job

job_one_seen : (job : Job) (bytes shown other : List ℕ) → AreBytes bytes → IsOutputSeen job bytes shown → IsOutputSeen job bytes other → shown ≡ other
job_one_seen job bytes shown other are s t = s ∙ sym t

pub by_one_seen : (writing : Writing) (bytes shown other : List ℕ) → AreBytes bytes → sees_by writing bytes shown → sees_by writing bytes other → shown ≡ other
by_one_seen (of_notes plan) = plan_one_seen plan
by_one_seen of_tap_lines = tap_one_seen
by_one_seen of_v1_lines = v1_one_seen
by_one_seen (below_head head plan) = below_one_seen head plan
by_one_seen (of_job job) = job_one_seen job

pub by_some : (writing : Writing) (bytes : List ℕ) → (all : List ℕ) × (status : ℕ) × ends_by writing bytes all status
by_some (of_notes plan) bytes = let (notes, whole) = plan_some plan bytes in (given_by plan notes ++ plan.at_end notes, plan.status notes, whole)
by_some of_tap_lines bytes = let (all, whole) = tap_some bytes in (all, 0, whole)
by_some of_v1_lines bytes = let (all, whole) = v1_some bytes in (all, 0, whole)
by_some (below_head head plan) bytes = below_some head plan bytes
by_some (of_job job) bytes = (packets_of (output_events job bytes), 0, (refl, refl))

pub by_some_seen : (writing : Writing) (bytes : List ℕ) → AreBytes bytes → (text : List ℕ) × sees_by writing bytes text
by_some_seen (of_notes plan) bytes are = plan_some_seen plan bytes are
by_some_seen of_tap_lines bytes are = tap_some_seen bytes
by_some_seen of_v1_lines bytes are = v1_some_seen bytes
by_some_seen (below_head head plan) bytes are = below_some_seen head plan bytes are
by_some_seen (of_job job) bytes are = (packets_of (events_of_pieces job (filter is_full (pieces_of bytes))), refl)
