-- The ways in which a filter ends, over what it reads: the input, or a file by its name.
use Rattle.std.proofs.Common.{◌≡◌, ◌⊎◌, inl, inr, ℕ, Bool, Option, None, Some, IfSome, Result, Ok, Err, List, refl, sym, ap, subst, ◌∙◌}
use Rattle.sub_number.specs.declared.memory.NoMemory.{NoMemory}
use Rattle.filter_cli.specs.Steps.{stops, goes_on}
use Rattle.edge_io.specs.Disk.{Files}
use Rattle.filter_cli.specs.FileReads.{left_of_file, file_pipe, IsAbsent, SaysWhether, SaysMissing, FiltersFile, LeavesRest, FeedsFile}
use Rattle.filter_cli.specs.Pipe.{Pipe}
use Rattle.filter_cli.specs.Outside.{Reach}
use Rattle.filter_cli.specs.Tools.{tool_of}
use Rattle.filter_cli.specs.Words.{request_of, asked_by_words, input_file_in}
use Rattle.filter_cli.specs.Streams.{writing_of, unread_with, text_unread, inside_by, sees_by, ends_by, AsksFor, HasBadPattern}
use Rattle.filter_cli.specs.Refusals.{usage_fault, file_exit_status, filter_exit_status}
use Rattle.filter_cli.specs.Program.{FeedsNamed, MakesAndFeeds, FiltersFrom, FilterPerforms, Filters}
use Rattle.filter_cli.specs.declared.request.Asked.{Asked}
use Rattle.filter_cli.specs.declared.request.Request.{Request}
use Rattle.filter_cli.specs.declared.patterns.PatternsFault.TheVariants as patterns_fault
use Rattle.filter_cli.specs.declared.file_loop.FileFault.{FileFault}
use Rattle.filter_cli.specs.declared.file_loop.FileFault.TheVariants as file_fault
use Rattle.filter_cli.specs.declared.filter.StreamEnd.{StreamEnd}
use Rattle.filter_cli.specs.declared.refusal.Refusal.{Refusal}
use Rattle.filter_cli.specs.declared.refusal.Refusal.TheVariants.{Memory, File}
use Rattle.filter_cli.proofs.BadLemmas.{asks_no_bad}
use Rattle.filter_cli.proofs.UnreadLemmas.{asked_is, file_is, unread_is, file_none, asked_none, asks_tool}
use Rattle.filter_cli.proofs.FileLemmas.{absent_untold, rest_begun, none_there, none_written}
use Rattle.filter_cli.proofs.Ways.{Ways, by_usage, by_memory, by_bad, by_want, passed, by_file_read, by_file_length, by_file_output, by_file_room, by_no_file, checked_ways}

-- what a filter does that reads the file of this name
pub record FileWays (words : List (List ℕ)) (name : List ℕ) (r s : Reach) (outcome : Result StreamEnd Refusal) : Type 0 where
  pub rest : LeavesRest name r s
  pub missing : IfSome r.site.told (λ files. files name ≡ None → SaysMissing r.site s.site (filter_exit_status outcome))
  pub nothing : HasBadPattern words → s ≡ r
  pub place : ℕ
  pub ways : Ways words (IsAbsent name r.site.told) (file_pipe name 0 r) (file_pipe name place s) outcome

pub data FilterCourse (words : List (List ℕ)) (r s : Reach) (outcome : Result StreamEnd Refusal) : Type 0 where
  by_pipe : input_file_in words ≡ None → s.site ≡ r.site → Ways words ⊥ r.pipe s.pipe outcome → FilterCourse words r s outcome
  by_name : (name : List ℕ) → input_file_in words ≡ Some name → FileWays words name r s outcome → FilterCourse words r s outcome

-- what a fault says of a file that is not there
file_missing : {inside : List ℕ → Bool} (name : List ℕ) (r s : Reach) (sees : List ℕ → List ℕ → Type 0) (ends : List ℕ → List ℕ → ℕ → Type 0) (fault : FileFault) → FeedsFile name inside sees ends r s (Err fault) → IfSome r.site.told (λ files. files name ≡ None → SaysMissing r.site s.site (file_exit_status fault))
file_missing name r s sees ends file_fault.Read step = none_written name r.site.told _ (inr (inl (refl, step.fed.rose)))
file_missing name r s sees ends file_fault.NoFile step = none_written name r.site.told _ (inl refl)
file_missing name r s sees ends file_fault.TooLong step = none_there name r.site.told _ step.found
file_missing name r s sees ends file_fault.Output step = none_there name r.site.told _ step.found
file_missing name r s sees ends file_fault.NoMemory step = none_there name r.site.told _ step.found

rest_same : (name : List ℕ) (r s : Reach) → s ≡ r → LeavesRest name r s
rest_same name r s same = subst (LeavesRest name r) (sym same) (rest_begun name r r refl refl (inl refl))

-- what a chain that touched nothing left
module _ (words : List (List ℕ)) (name : List ℕ) (r s : Reach) (outcome : Result StreamEnd Refusal) where
  same_ways : s ≡ r → SaysMissing r.site s.site (filter_exit_status outcome) → Ways words (IsAbsent name r.site.told) (file_pipe name 0 r) (file_pipe name 0 s) outcome → FileWays words name r s outcome
  same_ways same says ways = record {
    rest = rest_same name r s same;
    missing = none_written name r.site.told _ says;
    nothing = λ bad. same;
    place = 0;
    ways = ways;
  }

module _ (words : List (List ℕ)) (r s : Reach) (outcome : Result StreamEnd Refusal) where
  memory_ways : (name : List ℕ) (none : NoMemory) → outcome ≡ Err (Memory none) → (tool_of words ≡ None → ⊥) → s ≡ r → FileWays words name r s outcome
  memory_ways name none err some same = same_ways words name r s outcome same (inr (inr (ap filter_exit_status err))) (by_memory none err some (ap (file_pipe name 0) same))

  memory_course : (file : Option (List ℕ)) → input_file_in words ≡ file → (none : NoMemory) → outcome ≡ Err (Memory none) → (tool_of words ≡ None → ⊥) → s ≡ r → FilterCourse words r s outcome
  memory_course None is none err some same = by_pipe is (ap (λ (x : Reach). x.site) same) (by_memory none err some (ap (λ (x : Reach). x.pipe) same))
  memory_course (Some name) is none err some same = by_name name is (memory_ways name none err some same)

  file_ways : (a b : Pipe) (asked : Asked) (name : List ℕ) (told : Option Files) (fault : FileFault) → a.input.told ≡ left_of_file name 0 told → AsksFor words asked → text_unread words ≡ None → outcome ≡ Err (File name fault)
      → SaysWhether name told (Err fault) → FiltersFile (inside_by (writing_of asked)) (sees_by (writing_of asked)) (ends_by (writing_of asked)) a b (Err fault) → Ways words (IsAbsent name told) a b outcome
  file_ways a b asked name told file_fault.Read left asks reads is found p = by_file_read asked name is asks reads p
  file_ways a b asked name told file_fault.NoFile left asks reads is found p = by_no_file asked name is asks reads p (left ∙ absent_untold name told 0 found) found
  file_ways a b asked name told file_fault.TooLong left asks reads is found p = by_file_length asked name is asks reads p
  file_ways a b asked name told file_fault.Output left asks reads is found p = by_file_output asked name is asks reads p
  file_ways a b asked name told file_fault.NoMemory left asks reads is found p = by_file_room asked name is asks reads p

  -- the patterns are good, and the filter is made
  fed_ways : (asked : Asked) (name : List ℕ) → AsksFor words asked → text_unread words ≡ None → FeedsNamed name (inside_by (writing_of asked)) (sees_by (writing_of asked)) (ends_by (writing_of asked)) r s outcome → FileWays words name r s outcome
  fed_ways asked name asks reads (stops fault err step) = record {
    rest = step.rest;
    missing = subst (λ (n : ℕ). IfSome r.site.told (λ files. files name ≡ None → SaysMissing r.site s.site n)) (sym (ap filter_exit_status err)) (file_missing name r s _ _ fault step);
    nothing = λ bad. absurd (asks_no_bad words asked asks bad);
    place = step.place;
    ways = file_ways (file_pipe name 0 r) (file_pipe name step.place s) asked name r.site.told fault refl asks reads err step.found step.fed;
  }
  fed_ways asked name asks reads (goes_on end between step next) =
      let fed : FeedsFile name (inside_by (writing_of asked)) (sees_by (writing_of asked)) (ends_by (writing_of asked)) r s (Ok end) =
      subst (λ (x : Reach). FeedsFile name (inside_by (writing_of asked)) (sees_by (writing_of asked)) (ends_by (writing_of asked)) r x (Ok end)) (sym next.same) step in
      record {
        rest = fed.rest;
        missing = none_there name r.site.told _ fed.found;
        nothing = λ bad. absurd (asks_no_bad words asked asks bad);
        place = fed.place;
        ways = passed asked end next.answer asks reads fed.fed;
      }

  made_ways : (asked : Asked) (name : List ℕ) → AsksFor words asked → text_unread words ≡ None → (tool_of words ≡ None → ⊥) → MakesAndFeeds name (inside_by (writing_of asked)) (sees_by (writing_of asked)) (ends_by (writing_of asked)) r s outcome → FileWays words name r s outcome
  made_ways asked name asks reads some (stops none err step) = memory_ways name none err some step.same
  made_ways asked name asks reads some (goes_on value between step next) =
      fed_ways asked name asks reads (subst (λ (x : Reach). FeedsNamed name (inside_by (writing_of asked)) (sees_by (writing_of asked)) (ends_by (writing_of asked)) x s outcome) step.same next)

  file_course : (asked : Asked) (name : List ℕ) → asked_by_words words ≡ Some asked → text_unread words ≡ None → (tool_of words ≡ None → ⊥) → FiltersFrom (Some name) asked r s outcome → FileWays words name r s outcome
  file_course asked name named reads some (stops (patterns_fault.Bad text) err step) =
      same_ways words name r s outcome step.same (inl (ap filter_exit_status err)) (by_bad text err (record { asked = asked; named = named; text = text; bad = step.says }) (ap (file_pipe name 0) step.same))
  file_course asked name named reads some (stops patterns_fault.NoMemory err step) =
      same_ways words name r s outcome step.same (inr (inr (ap filter_exit_status err))) (by_want asked err named (ap (file_pipe name 0) step.same))
  file_course asked name named reads some (goes_on value between step next) =
      made_ways asked name (record { named = named; good = step.says }) reads some (subst (λ (x : Reach). MakesAndFeeds name (inside_by (writing_of asked)) (sees_by (writing_of asked)) (ends_by (writing_of asked)) x s outcome) step.same next)

  takes_course : (file : Option (List ℕ)) (asked : Asked) → asked_by_words words ≡ Some asked → input_file_in words ≡ file → text_unread words ≡ unread_with file asked → FiltersFrom file asked r s outcome → FilterCourse words r s outcome
  takes_course None asked named is own step =
      by_pipe is (ap (λ (x : Reach). x.site) step.rest) (checked_ways words ⊥ r.pipe s.pipe outcome asked named own step.at)
  takes_course (Some name) asked named is own step = by_name name is (file_course asked name named own (asks_tool words asked named) step)

  performs_course : (request : Option Request) → request_of words ≡ request → FilterPerforms (usage_fault words) request r s outcome → FilterCourse words r s outcome
  performs_course None named done =
      by_pipe (file_none words named) (ap (λ (x : Reach). x.site) done.same) (by_usage done.usage (asked_none words named) (ap (λ (x : Reach). x.pipe) done.same))
  performs_course (Some q) named done = takes_course q.file q.asked (asked_is words q named) (file_is words q named) (unread_is words q named) done

  pub filters_course : Filters words r s outcome → FilterCourse words r s outcome
  filters_course (stops none is step) = memory_course (input_file_in words) refl none is step.says step.same
  filters_course (goes_on request between step next) =
      performs_course request (sym step.says) (subst (λ (x : Reach). FilterPerforms (usage_fault words) request x s outcome) step.same next)
