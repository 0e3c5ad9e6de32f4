-- Which filter words ask for, and which file it reads (docs/COMMANDS.md, "Filters").
use Rattle.std.specs.Prelude.{◌≡◌, ℕ, Bool, true, false, Option, Some, None, List, [], ◌∷◌, codes, if◌then◌else◌, Result, Ok, Err}
use Rattle.std.specs.List.{list_any, flat_map, before_first, after_first}
use Rattle.std.specs.Option.{option_map, option_and_then, option_to_list}
use Rattle.std.specs.Str.{bytes_eq}
use Rattle.sub_number.specs.declared.memory.NoMemory.{NoMemory}
use Rattle.command_words.specs.Items.{Item, is_text, items_of, has_flag, name_of}
use Rattle.sub_export.specs.declared.job.Job.{Job}
use Rattle.sub_export.specs.Output.{job_of, attached_path}
use Rattle.filter_cli.specs.declared.ls.Listing.{Listing}
use Rattle.filter_cli.specs.declared.stats.Counting.{Counting}
use Rattle.filter_cli.specs.declared.tool.Tool.{Tool}
use Rattle.filter_cli.specs.declared.tool.Tool.TheVariants as tool
use Rattle.filter_cli.specs.declared.request.Asked.{Asked}
use Rattle.filter_cli.specs.declared.request.Asked.TheVariants.{Filter, Tags, Ls, Stats, FromTap, ToTap, ToCsv, ToJunit, Output, FromV1, ToV1, Tracing}
use Rattle.filter_cli.specs.declared.request.Request.{Request}
use Rattle.filter_cli.specs.Letters.{all_spelled_out}
use Rattle.filter_cli.specs.Tracing.{trace_of}
use Rattle.filter_cli.specs.Tools.{tool_of, tool_named, kind_in}
use Rattle.filter_cli.specs.Selecting.{selection_of, csv_selection_of}
use Rattle.filter_cli.specs.Retagging.{retagging_of}

-- the words that are no options, in their order
abbrev pub plain_words_in : List Item → List (List ℕ)
plain_words_in items = flat_map (λ item. option_to_list (name_of item)) items

-- there may be one name or none; two and more are refused
abbrev pub only_of : List (List ℕ) → Option (Option (List ℕ))
only_of [] = Some None
only_of (file ∷ []) = Some (Some file)
only_of (file ∷ another ∷ more) = None

-- the file of a name, where there is one; a name that is no text is refused
abbrev pub text_named : Option (List ℕ) → Option (Option (List ℕ))
text_named None = Some None
text_named (Some file) = if is_text file then Some (Some file) else None

-- the same, where names may have been refused
abbrev pub text_of_only : Option (Option (List ℕ)) → Option (Option (List ℕ))
text_of_only only = option_and_then text_named only

-- the file that names tell
abbrev pub file_named : List (List ℕ) → Option (Option (List ℕ))
file_named names = text_of_only (only_of names)

-- a filter and the file that names tell, where both are told
abbrev pub with_named_file : Option Asked → Option (Option (List ℕ)) → Option Request
with_named_file asked file = option_and_then (λ a. option_map (λ f. record { asked = a; file = f }) file) asked

-- how the flags of `subunit-ls` have tests listed: with times or not, and whether also those that are only known to
-- exist; and whether output of no test is hidden
abbrev pub listing_of : List Item → Listing
listing_of items = record {
  times = has_flag (codes "--times") items;
  exists = has_flag (codes "--exists") items;
  hidden = has_flag (codes "--no-passthrough") items;
}

-- how the options of `subunit-stats` have tests counted
abbrev pub counting_of : List Item → Counting
counting_of items = record { hidden = has_flag (codes "--no-passthrough") items }

-- what a filter is asked by options alone; the words of `subunit-tags` are none, and those of `subunit-output` stand for events
abbrev pub asked_by_items : Tool → List Item → Option Asked
asked_by_items tool.Filter items = Some (Filter (selection_of items))
asked_by_items tool.Tags items = None
asked_by_items tool.Ls items = Some (Ls (listing_of items))
asked_by_items tool.Stats items = Some (Stats (counting_of items))
asked_by_items tool.FromTap items = Some FromTap
asked_by_items tool.ToTap items = Some ToTap
asked_by_items tool.ToCsv items = Some (ToCsv (csv_selection_of items))
asked_by_items tool.ToJunit items = Some ToJunit
asked_by_items tool.Output items = None
asked_by_items tool.FromV1 items = Some FromV1
asked_by_items tool.ToV1 items = Some ToV1
asked_by_items tool.Trace items = option_map Tracing (trace_of items)

-- a filter that has options has one name at most, of the file that it reads
abbrev pub asked_with : Tool → List Item → Option Request
asked_with t items = with_named_file (asked_by_items t items) (file_named (plain_words_in items))

-- the word behind which a file's name stands
abbrev pub is_separator : List ℕ → Bool
is_separator word = bytes_eq word (codes "--")

-- the change of tags that words ask for
abbrev pub asked_change : List (List ℕ) → Option Asked
asked_change words = option_map Tags (retagging_of words)

-- tags up to the first separator, and behind it the name of a file
abbrev pub asked_tags : List (List ℕ) → Option Request
asked_tags words = with_named_file (asked_change (before_first is_separator words)) (file_named (after_first is_separator words))

-- a job reads the file that it attaches by its path, and else the input, where it attaches that
abbrev pub job_request : Job → Request
job_request job = record { asked = Output job; file = attached_path job }

-- what the words of `subunit-output` ask for: the job that they tell, with the file that it reads, if any
abbrev pub asked_output : List (List ℕ) → Option Request
asked_output words = option_map job_request (job_of words)

-- what a filter is asked by words that are options of its own, if it has any, and at most one name of a file
abbrev pub asked_by_options : Tool → List (List ℕ) → Option Request
asked_by_options t words = option_and_then (asked_with t) (items_of (kind_in t) words)

-- of `subunit-filter`, which has options of one letter, too
abbrev pub asked_by_letters : List (List ℕ) → Option Request
asked_by_letters words = asked_by_options tool.Filter (all_spelled_out words)

-- what a filter is asked by the words behind its name; those of `subunit-tags` are no options
abbrev pub asked_by_tool : Tool → List (List ℕ) → Option Request
asked_by_tool tool.Filter words = asked_by_letters words
asked_by_tool tool.Tags words = asked_tags words
asked_by_tool tool.Ls words = asked_by_options tool.Ls words
asked_by_tool tool.Stats words = asked_by_options tool.Stats words
asked_by_tool tool.FromTap words = asked_by_options tool.FromTap words
asked_by_tool tool.ToTap words = asked_by_options tool.ToTap words
asked_by_tool tool.ToCsv words = asked_by_options tool.ToCsv words
asked_by_tool tool.ToJunit words = asked_by_options tool.ToJunit words
asked_by_tool tool.Output words = asked_output words
asked_by_tool tool.FromV1 words = asked_by_options tool.FromV1 words
asked_by_tool tool.ToV1 words = asked_by_options tool.ToV1 words
asked_by_tool tool.Trace words = asked_by_options tool.Trace words

-- what the words ask for: a filter, and the file that it reads
abbrev pub request_of : List (List ℕ) → Option Request
request_of [] = None
request_of (first ∷ words) = option_and_then (λ t. asked_by_tool t words) (tool_named first)

-- the filter that the words ask for
abbrev pub asked_by_words : List (List ℕ) → Option Asked
asked_by_words words = option_map (λ (r : Request). r.asked) (request_of words)

-- the file that it reads in place of the input
abbrev pub input_file_in : List (List ℕ) → Option (List ℕ)
input_file_in words = option_and_then (λ (r : Request). r.file) (request_of words)

-- the words are read; memory can be wanting only where the first one names a filter
abbrev pub ReadsRequest : List (List ℕ) → Result (Option Request) NoMemory → Type 0
ReadsRequest words (Ok request) = request ≡ request_of words
ReadsRequest words (Err none) = tool_of words ≡ None → ⊥
