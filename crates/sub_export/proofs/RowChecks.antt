-- The definitions at the worked rows.
use Rattle.std.proofs.Common.{◌≡◌, ℕ, true, false, None, Some, List, [], ◌∷◌, ◌++◌, refl, arith}
use Rattle.std.specs.Prelude.{codes, Option, not}
use Rattle.outcome_fold.specs.Answers.{row_fails}
use Rattle.command_words.specs.Items.{valued}
use Rattle.sub_export.specs.declared.job.Attachment.{Attachment}
use Rattle.packet_codec.specs.declared.event.Event.{Event}
use Rattle.packet_codec.specs.declared.stamp.Stamp.{Stamp}
use Rattle.packet_codec.specs.declared.status.Status.{Status}
use Rattle.packet_codec.specs.declared.status.Status.TheVariants as status
use Rattle.packet_codec.specs.Canonical.{canonical_fields}
use Rattle.instants.specs.Calendar.{day_of}
use Rattle.instants.specs.Instants.{instant_text}
use Rattle.sub_export.specs.Records.{csv_row_of, csv_head_text, kept_parts_so_far}
use Rattle.sub_export.specs.Output.{job_of, job_if, told_by, last_event, longest_bytes}
use Rattle.csv.specs.Writing.{fields_text, is_blank, escaped}

abbrev says : List ℕ → Status → Option Stamp → Event
says id how stamp = record { stamp = stamp; id = Some id; tags = None; runnable = true; status = how; mime = None; file = None; eof = false; route = None }

head : csv_head_text ≡ codes "test,status,start_time,stop_time" ++ 10 ∷ []
unfolding fields_text is_blank
head = refl

quoted : csv_row_of (says (codes "a,b") status.Success None ∷ []) ≡ 34 ∷ codes "a,b" ++ 34 ∷ codes ",success,," ++ 10 ∷ []
unfolding fields_text is_blank escaped
quoted = refl

instants : instant_text 101500000000 ≡ codes "1970-01-01 00:01:41.500000"
unfolding instant_text day_of
instants = refl

leap : instant_text 951782400000001999 ≡ codes "2000-02-29 00:00:00.000001"
unfolding instant_text day_of
leap = refl

plain_job : job_of (codes "--success=foo" ∷ []) ≡ Some (record { stamp = None; id = Some (codes "foo"); status = status.Success; tags = []; attachment = None })
unfolding canonical_fields
plain_job = refl

tagged_job : job_of (codes "--success=foo" ∷ codes "--tag=foo" ∷ []) ≡ Some (record { stamp = None; id = Some (codes "foo"); status = status.Success; tags = codes "foo" ∷ []; attachment = None })
unfolding canonical_fields
tagged_job = refl

no_words : job_of [] ≡ None
no_words = refl

two_statuses : job_of (codes "--fail=a" ∷ codes "--skip=a" ∷ []) ≡ None
two_statuses = refl

tag_alone : job_of (codes "--tag=x" ∷ codes "--attach-file=-" ∷ []) ≡ None
tag_alone = refl

-- the events of a test that passed, and of one that failed
abbrev begun : Event
begun = says (codes "foo") status.InProgress (Some (record { seconds = 100; nanos = 0; nanos_fit = omega arith }))

abbrev passed : Event
passed = says (codes "foo") status.Success (Some (record { seconds = 101; nanos = 500000000; nanos_fit = omega arith }))

whole_row : csv_row_of (begun ∷ passed ∷ []) ≡ codes "foo,success,1970-01-01 00:01:40.000000+00:00,1970-01-01 00:01:41.500000+00:00" ++ 10 ∷ []
unfolding fields_text is_blank instant_text day_of
whole_row = refl

one_part : kept_parts_so_far (λ row. true) (begun ∷ passed ∷ []) ≡ (begun ∷ passed ∷ []) ∷ []
one_part = refl

without_failures : kept_parts_so_far (λ row. not (row_fails row)) (says (codes "a,b") status.Success None ∷ says (codes "c") status.Fail None ∷ []) ≡ (says (codes "a,b") status.Success None ∷ []) ∷ []
without_failures = refl

last_of_empty_file : (a : Attachment) → last_event (record { stamp = None; id = None; status = status.Unset; tags = []; attachment = Some a }) ≡ record { stamp = None; id = None; tags = None; runnable = true; status = status.Unset; mime = None; file = None; eof = true; route = None }
last_of_empty_file a = refl

attached : job_if (told_by (valued (codes "--attach-file") (codes "-") ∷ []) None) ≡ Some (record { stamp = None; id = None; status = status.Unset; tags = []; attachment = Some (record { path = None; name = codes "stdin"; mime = None }) })
unfolding canonical_fields longest_bytes
attached = refl

attached_by_name : job_if (told_by (valued (codes "--attach-file") (codes "log") ∷ []) None) ≡ Some (record { stamp = None; id = None; status = status.Unset; tags = []; attachment = Some (record { path = Some (codes "log"); name = codes "log"; mime = None }) })
unfolding canonical_fields longest_bytes
attached_by_name = refl
