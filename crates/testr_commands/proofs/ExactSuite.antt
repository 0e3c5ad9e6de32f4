-- Where the cause of a named refusal of a step of `run` or `list-tests` is there, it comes.
use Rattle.suite_run.specs.NoneLost.{AreAllShort}
use Rattle.command_steps.specs.declared.work_plan.LongId.{LongId}
use Rattle.std.proofs.Common.{◌≡◌, ◌⊎◌, inl, inr, ℕ, ℤ, ◌<◌, ◌≤◌, pos, true, Option, None, Some, IfSome, IsSome, IsSomeAnd, IfOk, IfErr, IsOk, IsErr, All, Result, Ok, Err, List, [], ◌∷◌, ◌++◌, length, slice_index_or, refl, sym, ap, subst, ◌∙◌, arith}
use Rattle.edge_io.specs.Children.{Output}
use Rattle.edge_io.specs.Disk.{Files}
use Rattle.edge_io.specs.Seen.{Seen}
use Rattle.edge_io.specs.Spawners.{Spawning}
use Rattle.edge_io.specs.Steps.{Goes}
use Rattle.edge_io.specs.declared.child.Finish.{Finish}
use Rattle.edge_io.specs.declared.child.Finish.TheVariants.{Exit}
use Rattle.edge_io.specs.declared.job.Job.{Job}
use Rattle.isolation_bisect.specs.declared.found.Found.{Found}
use Rattle.suite_causes.specs.Analysis.{UsesNoBroken}
use Rattle.suite_causes.specs.Searching.{Searches, SearchesSo, probe_job}
use Rattle.suite_causes.specs.declared.cause_search.SearchFault.{SearchFault}
use Rattle.suite_causes.specs.declared.cause_search.SearchFault.TheVariants as search_fault
use Rattle.suite_causes.proofs.AnalysisLemmas.{none_broken}
use Rattle.suite_plan.specs.Calling.{TellsNumber, TellsNone, CallsSo, HasCallCause, CallsOut}
use Rattle.suite_plan.specs.Children.{IsBroken, StartsFor}
use Rattle.suite_plan.specs.Choosing.{Ids}
use Rattle.testr_words.specs.Suites.{Project}
use Rattle.suite_plan.specs.ConfFile.{GivesSettings, HasConfCause, ReadsConf, conf_in}
use Rattle.suite_plan.specs.LaneJobs.{lane_jobs}
use Rattle.suite_plan.specs.Patterns.{Compiles, IsFirstBadText, IsBadRegex}
use Rattle.suite_plan.specs.declared.patterns.Compiled.{Compiled}
use Rattle.suite_plan.specs.declared.patterns.PatternRefusal.{PatternRefusal}
use Rattle.suite_plan.specs.declared.patterns.PatternRefusal.TheVariants as pattern
use Rattle.partition_times.specs.Patterns.{IsPattern, IsBadPattern, IsFirstBad}
use Rattle.testr_commands.proofs.PatternLemmas.{good_not_bad}
use Rattle.std.proofs.lemmas.Bool.{cases_lt}
use Rattle.suite_plan.proofs.ToldLemmas.{one_text}
use Rattle.suite_plan.specs.Listing.{ListsSo, HasFailed, HasListingCause, ListsTests}
use Rattle.suite_plan.specs.LoadList.{IsLoadList, HasNoId, HasListCause, NamesList, ReadsLoadList}
use Rattle.suite_plan.specs.PatternList.{IsPatternList, HasOtherLine, HasBadLine, HasPatternsCause, NamesPatterns, ReadsPatternList}
use Rattle.suite_plan.specs.declared.pattern_list.PatternListRefusal.{PatternListRefusal}
use Rattle.suite_plan.specs.declared.pattern_list.PatternListRefusal.TheVariants as pattern_list
use Rattle.suite_plan.specs.Processors.{GivesProcessors, CountsProcessors, table_name}
use Rattle.suite_plan.specs.Texts.{most_text, HasTooMuch}
use Rattle.suite_plan.specs.declared.count_command.CallRefusal.{CallRefusal}
use Rattle.suite_plan.specs.declared.count_command.CallRefusal.TheVariants as call
use Rattle.suite_plan.specs.declared.conf_file.ConfRefusal.{ConfRefusal}
use Rattle.suite_plan.specs.declared.conf_file.ConfRefusal.TheVariants as conf
use Rattle.suite_plan.specs.declared.test_listing.ListingRefusal.{ListingRefusal}
use Rattle.suite_plan.specs.declared.test_listing.ListingRefusal.TheVariants as listing
use Rattle.suite_plan.specs.declared.load_list.ListRefusal.{ListRefusal}
use Rattle.suite_plan.specs.declared.load_list.ListRefusal.TheVariants as load_list
use Rattle.suite_plan.specs.declared.processors.TableRefusal.{TableRefusal}
use Rattle.suite_plan.specs.declared.processors.TableRefusal.TheVariants as table
use Rattle.testr_conf.specs.Jobs.{count_job_of, list_job_of}
use Rattle.testr_conf.specs.ListedIds.{ids_in, patterns_in, line_of_pattern}
use Rattle.testr_conf.specs.Settings.{Settings}
use Rattle.testr_conf.specs.declared.fault.JobFault.{JobFault}
use Rattle.testr_conf.specs.declared.fault.JobFault.TheVariants as job_fault
use Rattle.testr_conf.specs.declared.ids.IdsFault.{IdsFault}
use Rattle.testr_conf.specs.declared.ids.IdsFault.TheVariants.{NotText}
use Rattle.testr_commands.specs.ExactSuite.{Comes, NextMeets, IsNamedBad, ListEnds, IsListAbsent, IsListTooLong, IsNoId, PatternsEnd, IsPatternsAbsent, IsPatternsTooLong, IsNoText, IsBadLine, TimesEnd, IsTimesAbsent, IsTimesTooLong, IsNotTimes}
use Rattle.run_ledger.specs.Caches.{IsTimesCache}
use Rattle.command_steps.specs.Selecting.{HandsIds, MakesJobs, NamesIds, TimesById, ids_of_shares}
use Rattle.command_steps.specs.TimesFile.{IsTimesFile, HasNoTimes, HasTooManyTimes, HasTimesCause, NamesTimes, ReadsTimes}
use Rattle.command_steps.specs.declared.times_file.TheConstants.{MOST_TIMES}
use Rattle.command_steps.specs.declared.times_file.TimesRefusal.{TimesRefusal}
use Rattle.command_steps.specs.declared.times_file.TimesRefusal.TheVariants as times_file
use Rattle.testr_commands.proofs.FolderLemmas.{none_or_some}
use Rattle.testr_commands.proofs.FurtherLaws.{not_too_many}
use Rattle.testr_commands.proofs.SuiteCauses.{from_both, not_too_much, same_text, not_refused, regex_never, not_ok}
use Rattle.testr_commands.proofs.SuiteNever.{no_number}

-- ---- files

-- a file that is missing has no text
not_there : {X : Type 0} (file : Option (List ℕ)) (text : List ℕ) → file ≡ None → file ≡ Some text → X
not_there file text none there =
    let both : None ≡ Some text = sym none ∙ there in
    absurd cc

-- nor too much of it
not_long : {X : Type 0} (most : ℕ) (file : Option (List ℕ)) → file ≡ None → IsSomeAnd file (λ text. most < length text) → X
not_long most None none long = absurd long
not_long most (Some text) none long = absurd cc

-- ---- the configuration

-- it is refused so, where it is
refused_so : (said : Result Settings ConfRefusal) (refusal other : ConfRefusal) → said ≡ Err refusal → said ≡ Err other → ◌≡◌ {A = Result Settings ConfRefusal} (Err other) (Err refusal)
refused_so said refusal other one two = sym two ∙ one

pub bad_conf : (project : Project) (before after : Seen Files) (result : Result Settings ConfRefusal) → ReadsConf project before after result
    → (refusal : ConfRefusal) → IsSomeAnd before.told (λ files. conf_in project files ≡ Err refusal) → Comes refusal conf.Site conf.NoMemory result
bad_conf project before after result reads refusal there = by before.told result there reads.conf reads.refused
  where
    by : (told : Option Files) (result : Result Settings ConfRefusal) → IsSomeAnd told (λ files. conf_in project files ≡ Err refusal) → IfOk result (λ settings. IfSome told (GivesSettings project settings)) → IfErr result (λ other. IfSome told (λ files. HasConfCause (conf_in project files) other)) → Comes refusal conf.Site conf.NoMemory result
    by None result bad gives cause = absurd bad
    by (Some files) (Ok settings) bad gives cause = absurd (not_refused (conf_in project files) settings refusal gives bad)
    by (Some files) (Err conf.Site) bad gives cause = inr (inl refl)
    by (Some files) (Err conf.Absent) bad gives cause = inl (refused_so (conf_in project files) refusal _ bad cause)
    by (Some files) (Err (conf.Bad file why)) bad gives cause = inl (refused_so (conf_in project files) refusal _ bad cause)
    by (Some files) (Err conf.NoMemory) bad gives cause = inr (inr refl)

-- ---- the list of ids

module _ (name : List ℕ) (before after : Seen Files) (result : Result Ids ListRefusal) (reads : ReadsLoadList name before after result) where
  abbrev Listed : Option Files → Result Ids ListRefusal → Type 0
  Listed told result = IfOk result (λ ids. IfSome told (IsLoadList name ids))

  abbrev Refused : Option Files → Result Ids ListRefusal → Type 0
  Refused told result = IfErr result (λ refusal. IfSome told (HasListCause name refusal))

  pub no_list : IsSomeAnd before.told (λ files. files name ≡ None) → IsListAbsent name result ⊎ ListEnds result
  no_list there = by before.told result there reads.ids reads.refused reads.named
    where
      by : (told : Option Files) (result : Result Ids ListRefusal) → IsSomeAnd told (λ files. files name ≡ None) → Listed told result → Refused told result → IfErr result (NamesList name) → IsListAbsent name result ⊎ ListEnds result
      by None result none lists cause named = absurd none
      by (Some files) (Ok ids) none lists cause named = not_there (files name) lists.text none lists.has.there
      by (Some files) (Err load_list.Site) none lists cause named = inr (inl refl)
      by (Some files) (Err (load_list.TooLong given)) none lists cause named = not_long most_text (files name) none cause
      by (Some files) (Err (load_list.Absent given)) none lists cause named = inl named
      by (Some files) (Err (load_list.NotId given number)) none lists cause named = not_there (files name) cause.text none cause.has.there
      by (Some files) (Err load_list.NoMemory) none lists cause named = inr (inr refl)

  pub list_too_long : IsSomeAnd before.told (λ files. HasTooMuch files name) → IsListTooLong name result ⊎ ListEnds result
  list_too_long there = by before.told result there reads.ids reads.refused reads.named
    where
      by : (told : Option Files) (result : Result Ids ListRefusal) → IsSomeAnd told (λ files. HasTooMuch files name) → Listed told result → Refused told result → IfErr result (NamesList name) → IsListTooLong name result ⊎ ListEnds result
      by None result long lists cause named = absurd long
      by (Some files) (Ok ids) long lists cause named = absurd (not_too_much (files name) lists.text lists.has.there lists.has.short long)
      by (Some files) (Err load_list.Site) long lists cause named = inr (inl refl)
      by (Some files) (Err (load_list.TooLong given)) long lists cause named = inl named
      by (Some files) (Err (load_list.Absent given)) long lists cause named = not_long most_text (files name) cause long
      by (Some files) (Err (load_list.NotId given number)) long lists cause named = absurd (not_too_much (files name) cause.text cause.has.there cause.has.short long)
      by (Some files) (Err load_list.NoMemory) long lists cause named = inr (inr refl)

  pub no_id : (number : ℕ) → IsSomeAnd before.told (HasNoId name number) → IsNoId name number result ⊎ ListEnds result
  no_id number there = by before.told result there reads.ids reads.refused reads.named
    where
      same_line : (line : ℕ) (files : Files) → HasNoId name number files → HasNoId name line files → line ≡ number
      same_line line files first second =
          let same : second.text ≡ first.text = same_text (files name) second.text first.text second.has.there first.has.there in
          let both : ◌≡◌ {A = Result Ids IdsFault} (Err (NotText line)) (Err (NotText number)) = sym second.says ∙ ap ids_in same ∙ first.says in
          cc

      no_ids : (ids : Ids) (files : Files) → HasNoId name number files → IsLoadList name ids files → ⊥
      no_ids ids files bad lists =
          let same : lists.text ≡ bad.text = same_text (files name) lists.text bad.text lists.has.there bad.has.there in
          let both : ◌≡◌ {A = Result Ids IdsFault} (Ok ids) (Err (NotText number)) = sym lists.says ∙ ap ids_in same ∙ bad.says in
          cc

      by : (told : Option Files) (result : Result Ids ListRefusal) → IsSomeAnd told (HasNoId name number) → Listed told result → Refused told result → IfErr result (NamesList name) → IsNoId name number result ⊎ ListEnds result
      by None result bad lists cause named = absurd bad
      by (Some files) (Ok ids) bad lists cause named = absurd (no_ids ids files bad lists)
      by (Some files) (Err load_list.Site) bad lists cause named = inr (inl refl)
      by (Some files) (Err (load_list.TooLong given)) bad lists cause named = absurd (not_too_much (files name) bad.text bad.has.there bad.has.short cause)
      by (Some files) (Err (load_list.Absent given)) bad lists cause named = not_there (files name) bad.text cause bad.has.there
      by (Some files) (Err (load_list.NotId given line)) bad lists cause named = inl (named, same_line line files bad cause)
      by (Some files) (Err load_list.NoMemory) bad lists cause named = inr (inr refl)

-- ---- a file of times

module _ (name : List ℕ) (before after : Seen Files) (result : Result TimesById TimesRefusal) (reads : ReadsTimes name before after result) where
  abbrev Timed : Option Files → Result TimesById TimesRefusal → Type 0
  Timed told result = IfOk result (λ times. IfSome told (IsTimesFile name times))

  abbrev Untimed : Option Files → Result TimesById TimesRefusal → Type 0
  Untimed told result = IfErr result (λ refusal. IfSome told (HasTimesCause name refusal))

  pub no_times : IsSomeAnd before.told (λ files. files name ≡ None) → IsTimesAbsent name result ⊎ TimesEnd result
  no_times there = by before.told result there reads.times reads.refused reads.named
    where
      by : (told : Option Files) (result : Result TimesById TimesRefusal) → IsSomeAnd told (λ files. files name ≡ None) → Timed told result → Untimed told result → IfErr result (NamesTimes name) → IsTimesAbsent name result ⊎ TimesEnd result
      by None result none gives cause named = absurd none
      by (Some files) (Ok times) none gives cause named = not_there (files name) gives.bytes none gives.has.there
      by (Some files) (Err times_file.Site) none gives cause named = inr (inl refl)
      by (Some files) (Err (times_file.TooLong given)) none gives cause named = not_long MOST_TIMES (files name) none cause
      by (Some files) (Err (times_file.Absent given)) none gives cause named = inl named
      by (Some files) (Err (times_file.NotTimes given)) none gives cause named = not_there (files name) cause.bytes none cause.has.there
      by (Some files) (Err times_file.NoMemory) none gives cause named = inr (inr refl)

  pub times_too_long : IsSomeAnd before.told (HasTooManyTimes name) → IsTimesTooLong name result ⊎ TimesEnd result
  times_too_long there = by before.told result there reads.times reads.refused reads.named
    where
      by : (told : Option Files) (result : Result TimesById TimesRefusal) → IsSomeAnd told (HasTooManyTimes name) → Timed told result → Untimed told result → IfErr result (NamesTimes name) → IsTimesTooLong name result ⊎ TimesEnd result
      by None result long gives cause named = absurd long
      by (Some files) (Ok times) long gives cause named = absurd (not_too_many (files name) gives.bytes gives.has.there gives.has.short long)
      by (Some files) (Err times_file.Site) long gives cause named = inr (inl refl)
      by (Some files) (Err (times_file.TooLong given)) long gives cause named = inl named
      by (Some files) (Err (times_file.Absent given)) long gives cause named = not_long MOST_TIMES (files name) cause long
      by (Some files) (Err (times_file.NotTimes given)) long gives cause named = absurd (not_too_many (files name) cause.bytes cause.has.there cause.has.short long)
      by (Some files) (Err times_file.NoMemory) long gives cause named = inr (inr refl)

  pub not_times : IsSomeAnd before.told (HasNoTimes name) → IsNotTimes name result ⊎ TimesEnd result
  not_times there = by before.told result there reads.times reads.refused reads.named
    where
      of_form : (files : Files) (times : TimesById) → HasNoTimes name files → IsTimesFile name times files → ⊥
      of_form files times bad gives =
          let same : gives.bytes ≡ bad.bytes = same_text (files name) gives.bytes bad.bytes gives.has.there bad.has.there in
          bad.other gives.covers times (subst (λ (bytes : List ℕ). IsTimesCache bytes gives.covers times) same gives.form)

      by : (told : Option Files) (result : Result TimesById TimesRefusal) → IsSomeAnd told (HasNoTimes name) → Timed told result → Untimed told result → IfErr result (NamesTimes name) → IsNotTimes name result ⊎ TimesEnd result
      by None result bad gives cause named = absurd bad
      by (Some files) (Ok times) bad gives cause named = absurd (of_form files times bad gives)
      by (Some files) (Err times_file.Site) bad gives cause named = inr (inl refl)
      by (Some files) (Err (times_file.TooLong given)) bad gives cause named = absurd (not_too_many (files name) bad.bytes bad.has.there bad.has.short cause)
      by (Some files) (Err (times_file.Absent given)) bad gives cause named = not_there (files name) bad.bytes cause bad.has.there
      by (Some files) (Err (times_file.NotTimes given)) bad gives cause named = inl named
      by (Some files) (Err times_file.NoMemory) bad gives cause named = inr (inr refl)

-- ---- the table of processors

pub table_too_long : (before after : Seen Files) (result : Result ℕ TableRefusal) → CountsProcessors before after result → IsSomeAnd before.told (λ files. HasTooMuch files table_name) → Comes table.TooLong table.Site table.NoMemory result
table_too_long before after result counts there = by before.told result there counts.number
  where
    short : (file : Option (List ℕ)) → IfSome file (λ text. length text ≤ most_text) → IsSomeAnd file (λ text. most_text < length text) → ⊥
    short None few long = long
    short (Some text) few long = omega (arith, few, long)

    by : (told : Option Files) (result : Result ℕ TableRefusal) → IsSomeAnd told (λ files. HasTooMuch files table_name) → IfOk result (λ number. IfSome told (GivesProcessors number)) → Comes table.TooLong table.Site table.NoMemory result
    by None result long gives = absurd long
    by (Some files) (Ok number) long gives = absurd (short (files table_name) gives.short long)
    by (Some files) (Err table.Site) long gives = inr (inl refl)
    by (Some files) (Err table.TooLong) long gives = inl refl
    by (Some files) (Err table.NoMemory) long gives = inr (inr refl)

-- ---- patterns

-- there is one index of a first bad pattern
same_index : (patterns : Ids) (one other : ℕ) → IsFirstBad patterns one → IsFirstBad patterns other → other ≡ one
same_index patterns one other a b = elim (cases_lt one other) [
  | inl less ↦ absurd (good_not_bad _ (b.good_before one less) a.bad)
  | inr rest ↦ elim (cases_lt other one) [
    | inl less ↦ absurd (good_not_bad _ (a.good_before other less) b.bad)
    | inr also ↦ omega (arith, rest, also)
  ]
]

-- there is one first bad pattern
same_bad : (patterns : Ids) (one other : List ℕ) → IsFirstBadText patterns one → IsFirstBadText patterns other → other ≡ one
same_bad patterns one other a b = b.there ∙ ap (λ i. slice_index_or patterns i []) (same_index patterns a.index b.index a.first b.first) ∙ sym a.there

not_all_good : (patterns : Ids) (text : List ℕ) → IsFirstBadText patterns text → All IsPattern patterns → ⊥
not_all_good patterns text bad good = good_not_bad _ (good bad.index [] bad.first.in_range) bad.first.bad

same_regex : (regex : Option (List ℕ)) (one other : List ℕ) → IsBadRegex regex one → IsBadRegex regex other → other ≡ one
same_regex None one other a b = absurd a
same_regex (Some regex) one other a b = b.0 ∙ sym a.0

module _ (including excluding : Ids) (regex : Option (List ℕ)) (text : List ℕ) where
  pub bad_pattern : (result : Result Compiled PatternRefusal) → Compiles including excluding regex result → IsFirstBadText (including ++ excluding) text → IsNamedBad text result ⊎ (result ≡ Err pattern.NoMemory)
  bad_pattern (Ok compiled) compiles bad = absurd (not_all_good (including ++ excluding) text bad compiles.good)
  bad_pattern (Err (pattern.Bad given)) (inl first) bad = inl (same_bad (including ++ excluding) text given.now bad first)
  bad_pattern (Err (pattern.Bad given)) (inr (all, second)) bad = absurd (not_all_good (including ++ excluding) text bad all)
  bad_pattern (Err pattern.NoMemory) compiles bad = inr refl

  pub bad_regex : (result : Result Compiled PatternRefusal) → Compiles including excluding regex result → All IsPattern (including ++ excluding) → IsBadRegex regex text → IsNamedBad text result ⊎ (result ≡ Err pattern.NoMemory)
  bad_regex (Ok compiled) compiles good bad = absurd (regex_never regex text compiles.good_regex bad)
  bad_regex (Err (pattern.Bad given)) (inl first) good bad = absurd (not_all_good (including ++ excluding) given.now first good)
  bad_regex (Err (pattern.Bad given)) (inr (all, second)) good bad = inl (same_regex regex text given.now bad second)
  bad_regex (Err pattern.NoMemory) compiles good bad = inr refl

-- ---- a list of patterns

module _ (name : List ℕ) (before after : Seen Files) (result : Result Ids PatternListRefusal) (reads : ReadsPatternList name before after result) where
  abbrev Given : Option Files → Result Ids PatternListRefusal → Type 0
  Given told result = IfOk result (λ patterns. IfSome told (IsPatternList name patterns))

  abbrev Why : Option Files → Result Ids PatternListRefusal → Type 0
  Why told result = IfErr result (λ refusal. IfSome told (HasPatternsCause name refusal))

  pub no_patterns : IsSomeAnd before.told (λ files. files name ≡ None) → IsPatternsAbsent name result ⊎ PatternsEnd result
  no_patterns there = by before.told result there reads.patterns reads.refused reads.named
    where
      by : (told : Option Files) (result : Result Ids PatternListRefusal) → IsSomeAnd told (λ files. files name ≡ None) → Given told result → Why told result → IfErr result (NamesPatterns name) → IsPatternsAbsent name result ⊎ PatternsEnd result
      by None result none lists cause named = absurd none
      by (Some files) (Ok ids) none lists cause named = not_there (files name) lists.text none lists.has.there
      by (Some files) (Err (pattern_list.List load_list.Site)) none lists cause named = inr (inl refl)
      by (Some files) (Err (pattern_list.List (load_list.TooLong given))) none lists cause named = not_long most_text (files name) none cause
      by (Some files) (Err (pattern_list.List (load_list.Absent given))) none lists cause named = inl named
      by (Some files) (Err (pattern_list.List (load_list.NotId given number))) none lists cause named = not_there (files name) cause.text none cause.has.there
      by (Some files) (Err (pattern_list.List load_list.NoMemory)) none lists cause named = inr (inr refl)
      by (Some files) (Err (pattern_list.Bad line)) none lists cause named = not_there (files name) cause.text none cause.has.there

  pub patterns_too_long : IsSomeAnd before.told (λ files. HasTooMuch files name) → IsPatternsTooLong name result ⊎ PatternsEnd result
  patterns_too_long there = by before.told result there reads.patterns reads.refused reads.named
    where
      by : (told : Option Files) (result : Result Ids PatternListRefusal) → IsSomeAnd told (λ files. HasTooMuch files name) → Given told result → Why told result → IfErr result (NamesPatterns name) → IsPatternsTooLong name result ⊎ PatternsEnd result
      by None result long lists cause named = absurd long
      by (Some files) (Ok ids) long lists cause named = absurd (not_too_much (files name) lists.text lists.has.there lists.has.short long)
      by (Some files) (Err (pattern_list.List load_list.Site)) long lists cause named = inr (inl refl)
      by (Some files) (Err (pattern_list.List (load_list.TooLong given))) long lists cause named = inl named
      by (Some files) (Err (pattern_list.List (load_list.Absent given))) long lists cause named = not_long most_text (files name) cause long
      by (Some files) (Err (pattern_list.List (load_list.NotId given number))) long lists cause named = absurd (not_too_much (files name) cause.text cause.has.there cause.has.short long)
      by (Some files) (Err (pattern_list.List load_list.NoMemory)) long lists cause named = inr (inr refl)
      by (Some files) (Err (pattern_list.Bad line)) long lists cause named = absurd (not_too_much (files name) cause.text cause.has.there cause.has.short long)

  -- what the text of the list says is one thing
  one_saying : (files : Files) (one other : List ℕ) (x y : Result Ids IdsFault) → files name ≡ Some one → files name ≡ Some other → patterns_in one ≡ x → patterns_in other ≡ y → x ≡ y
  one_saying files one other x y first second says_one says_other = sym says_one ∙ ap patterns_in (same_text (files name) one other first second) ∙ says_other

  pub no_text : (number : ℕ) → IsSomeAnd before.told (HasOtherLine name number) → IsNoText name number result ⊎ PatternsEnd result
  no_text number there = by before.told result there reads.patterns reads.refused reads.named
    where
      by : (told : Option Files) (result : Result Ids PatternListRefusal) → IsSomeAnd told (HasOtherLine name number) → Given told result → Why told result → IfErr result (NamesPatterns name) → IsNoText name number result ⊎ PatternsEnd result
      by None result bad lists cause named = absurd bad
      by (Some files) (Ok ids) bad lists cause named =
          let both = one_saying files bad.text lists.text (Err (NotText number)) (Ok ids) bad.has.there lists.has.there bad.says lists.says in
          cc
      by (Some files) (Err (pattern_list.List load_list.Site)) bad lists cause named = inr (inl refl)
      by (Some files) (Err (pattern_list.List (load_list.TooLong given))) bad lists cause named = absurd (not_too_much (files name) bad.text bad.has.there bad.has.short cause)
      by (Some files) (Err (pattern_list.List (load_list.Absent given))) bad lists cause named = not_there (files name) bad.text cause bad.has.there
      by (Some files) (Err (pattern_list.List (load_list.NotId given line))) bad lists cause named =
          let both = one_saying files bad.text cause.text (Err (NotText number)) (Err (NotText line)) bad.has.there cause.has.there bad.says cause.says in
          let same : line ≡ number = cc in
          inl (named, same)
      by (Some files) (Err (pattern_list.List load_list.NoMemory)) bad lists cause named = inr (inr refl)
      by (Some files) (Err (pattern_list.Bad line)) bad lists cause named =
          let both = one_saying files bad.text cause.text (Err (NotText number)) (Ok cause.patterns) bad.has.there cause.has.there bad.says cause.says in
          cc

  pub bad_line : (number : ℕ) (pattern : List ℕ) → IsSomeAnd before.told (HasBadLine name number pattern) → IsBadLine name number pattern result ⊎ PatternsEnd result
  bad_line number pattern there = by before.told result there reads.patterns reads.refused reads.named
    where
      same_line : (files : Files) (line : ℕ) (text : List ℕ) → HasBadLine name number pattern files → HasBadLine name line text files → (line ≡ number) × (text ≡ pattern)
      same_line files line text one other =
          let texts : other.text ≡ one.text = same_text (files name) other.text one.text other.has.there one.has.there in
          let both : ◌≡◌ {A = Result Ids IdsFault} (Ok other.patterns) (Ok one.patterns) = one_saying files other.text one.text (Ok other.patterns) (Ok one.patterns) other.has.there one.has.there other.says one.says in
          let patterns : other.patterns ≡ one.patterns = cc in
          let index : other.index ≡ one.index = same_index one.patterns one.index other.index one.first (subst (λ (p : Ids). IsFirstBad p other.index) patterns other.first) in (
            other.line ∙ ap (λ t. line_of_pattern t other.index) texts ∙ ap (λ i. line_of_pattern one.text i) index ∙ sym one.line,
            other.there ∙ ap (λ p. slice_index_or p other.index []) patterns ∙ ap (λ i. slice_index_or one.patterns i []) index ∙ sym one.there,
          )

      by : (told : Option Files) (result : Result Ids PatternListRefusal) → IsSomeAnd told (HasBadLine name number pattern) → Given told result → Why told result → IfErr result (NamesPatterns name) → IsBadLine name number pattern result ⊎ PatternsEnd result
      by None result bad lists cause named = absurd bad
      by (Some files) (Ok ids) bad lists cause named =
          let both : ◌≡◌ {A = Result Ids IdsFault} (Ok bad.patterns) (Ok ids) = one_saying files bad.text lists.text (Ok bad.patterns) (Ok ids) bad.has.there lists.has.there bad.says lists.says in
          let same : bad.patterns ≡ ids = cc in
          absurd (good_not_bad _ (lists.good bad.index [] (subst (λ (p : Ids). bad.index < length p) same bad.first.in_range)) (subst (λ (p : Ids). IsBadPattern (slice_index_or p bad.index [])) same bad.first.bad))
      by (Some files) (Err (pattern_list.List load_list.Site)) bad lists cause named = inr (inl refl)
      by (Some files) (Err (pattern_list.List (load_list.TooLong given))) bad lists cause named = absurd (not_too_much (files name) bad.text bad.has.there bad.has.short cause)
      by (Some files) (Err (pattern_list.List (load_list.Absent given))) bad lists cause named = not_there (files name) bad.text cause bad.has.there
      by (Some files) (Err (pattern_list.List (load_list.NotId given line))) bad lists cause named =
          let both = one_saying files bad.text cause.text (Ok bad.patterns) (Err (NotText line)) bad.has.there cause.has.there bad.says cause.says in
          cc
      by (Some files) (Err (pattern_list.List load_list.NoMemory)) bad lists cause named = inr (inr refl)
      by (Some files) (Err (pattern_list.Bad line)) bad lists cause named =
          let same = same_line files line.number line.pattern bad cause in
          inl (named, same.0, same.1)

-- ---- children

-- the child that was started is the first
first_is : (s t : Spawning) (job : Job) (output first : Output) (later : List Output) → s.outputs ≡ first ∷ later → StartsFor job output s t → output ≡ first
first_is s t job output first later is starts =
    let both : output ∷ t.outputs ≡ first ∷ later = sym starts.first ∙ is in
    cc

-- a child that ends with a status is not broken
not_broken : (finish : Finish) (status : ℤ) → finish ≡ Exit status → IsBroken finish → ⊥
not_broken finish status ended (inl broken) =
    let both : Exit status ≡ _ = sym ended ∙ broken in
    cc
not_broken finish status ended (inr broken) =
    let both : Exit status ≡ _ = sym ended ∙ broken in
    cc

-- the child that comes next can't be read to its end, or not be waited for
abbrev Broken : Output → Type 0
Broken output = IsBroken output.finish

abbrev Next : (Output → Type 0) → Spawning → Type 0
Next Meets s = (output : Output) × (later : List Output) × (s.outputs ≡ output ∷ later) × Meets output

module _ (settings : Settings) (before after : Seen Spawning) (result : Result (Option ℕ) CallRefusal) (calls : CallsOut settings before after result) where
  pub bad_number : (said : List ℕ) → IsSome (count_job_of settings) → NextMeets (TellsNone said) before → Comes (call.NoNumber said) call.Spawn call.NoMemory result
  bad_number said some next = by before.told after.told result next calls.told calls.refused calls.jobless
    where
      by : (x y : Option Spawning) (result : Result (Option ℕ) CallRefusal) → IsSomeAnd x (Next (TellsNone said)) → IfOk result (λ number. Goes x y (CallsSo settings number)) → IfErr result (λ refusal. Goes x y (HasCallCause settings refusal)) → (result ≡ Ok None → count_job_of settings ≡ None) → Comes (call.NoNumber said) call.Spawn call.NoMemory result
      by None y result next gives cause jobless = absurd next
      by (Some s) y (Ok None) next gives cause jobless = absurd (none_or_some (count_job_of settings) (jobless refl) some)
      by (Some s) None (Ok (Some number)) next gives cause jobless = absurd gives
      by (Some s) (Some t) (Ok (Some number)) next gives cause jobless =
          let same : gives.output ≡ next.0 = first_is s t gives.job gives.output next.0 next.1 next.2 gives.started in
          absurd (no_number number said next.0 (subst (TellsNumber number) same gives.meets) next.3)
      by (Some s) y (Err call.Spawn) next gives cause jobless = inr (inl refl)
      by (Some s) None (Err call.Child) next gives cause jobless = absurd cause
      by (Some s) (Some t) (Err call.Child) next gives cause jobless =
          let same : cause.output ≡ next.0 = first_is s t cause.job cause.output next.0 next.1 next.2 cause.started in
          absurd (not_broken next.0.finish next.3.status next.3.ended (subst (λ (o : Output). IsBroken o.finish) same cause.meets))
      by (Some s) None (Err (call.NoNumber other)) next gives cause jobless = absurd cause
      by (Some s) (Some t) (Err (call.NoNumber other)) next gives cause jobless =
          let same : cause.output ≡ next.0 = first_is s t cause.job cause.output next.0 next.1 next.2 cause.started in
          let meets : TellsNone other next.0 = subst (TellsNone other) same cause.meets in
          inl (ap (λ (text : List ℕ). Err (call.NoNumber text)) (meets.says ∙ sym next.3.says))
      by (Some s) y (Err call.NoMemory) next gives cause jobless = inr (inr refl)

  pub count_broken : IsSome (count_job_of settings) → NextMeets Broken before → Comes call.Child call.Spawn call.NoMemory result
  count_broken some next = by before.told after.told result next calls.told calls.refused calls.jobless
    where
      by : (x y : Option Spawning) (result : Result (Option ℕ) CallRefusal) → IsSomeAnd x (Next Broken) → IfOk result (λ number. Goes x y (CallsSo settings number)) → IfErr result (λ refusal. Goes x y (HasCallCause settings refusal)) → (result ≡ Ok None → count_job_of settings ≡ None) → Comes call.Child call.Spawn call.NoMemory result
      by None y result next gives cause jobless = absurd next
      by (Some s) y (Ok None) next gives cause jobless = absurd (none_or_some (count_job_of settings) (jobless refl) some)
      by (Some s) None (Ok (Some number)) next gives cause jobless = absurd gives
      by (Some s) (Some t) (Ok (Some number)) next gives cause jobless =
          let same : gives.output ≡ next.0 = first_is s t gives.job gives.output next.0 next.1 next.2 gives.started in
          absurd (not_broken gives.output.finish (pos 0) gives.meets.ended (subst Broken (sym same) next.3))
      by (Some s) y (Err call.Spawn) next gives cause jobless = inr (inl refl)
      by (Some s) y (Err call.Child) next gives cause jobless = inl refl
      by (Some s) None (Err (call.NoNumber said)) next gives cause jobless = absurd cause
      by (Some s) (Some t) (Err (call.NoNumber said)) next gives cause jobless =
          let same : cause.output ≡ next.0 = first_is s t cause.job cause.output next.0 next.1 next.2 cause.started in
          absurd (not_broken cause.output.finish cause.meets.status cause.meets.ended (subst Broken (sym same) next.3))
      by (Some s) y (Err call.NoMemory) next gives cause jobless = inr (inr refl)

module _ (settings : Settings) (before after : Seen Spawning) (result : Result Ids ListingRefusal) (lists : ListsTests settings before after result) where
  pub no_list_option : IsErr (list_job_of settings) → (result ≡ Err listing.NoListOption) ⊎ (result ≡ Err listing.NoMemory)
  no_list_option jobless = lists.exactly jobless

  pub listing_failed : (status : ℤ) (said : List ℕ) → IsOk (list_job_of settings) → NextMeets (HasFailed status said) before → Comes (listing.Failed status said) listing.Spawn listing.NoMemory result
  listing_failed status said job next = by before.told after.told result next lists.listed lists.refused lists.jobless
    where
      same_status : (other : ℤ) (text : List ℕ) (output : Output) → HasFailed status said output → HasFailed other text output → ◌≡◌ {A = Result Ids ListingRefusal} (Err (listing.Failed other text)) (Err (listing.Failed status said))
      same_status other text output one two =
          let both : Exit other ≡ Exit status = sym two.ended ∙ one.ended in
          let texts : text ≡ said = one_text output.bytes text said two.says one.says in
          cc

      by : (x y : Option Spawning) (result : Result Ids ListingRefusal) → IsSomeAnd x (Next (HasFailed status said)) → IfOk result (λ ids. Goes x y (ListsSo settings ids)) → IfErr result (λ refusal. Goes x y (HasListingCause settings refusal)) → (result ≡ Err listing.NoListOption → IsErr (list_job_of settings)) → Comes (listing.Failed status said) listing.Spawn listing.NoMemory result
      by None y result next gives cause jobless = absurd next
      by (Some s) None (Ok ids) next gives cause jobless = absurd gives
      by (Some s) (Some t) (Ok ids) next gives cause jobless =
          let same : gives.output ≡ next.0 = first_is s t gives.job gives.output next.0 next.1 next.2 gives.started in
          let both : Exit status ≡ Exit (pos 0) = sym next.3.ended ∙ ap (λ (o : Output). o.finish) (sym same) ∙ gives.ended in
          absurd (next.3.other cc)
      by (Some s) y (Err listing.NoListOption) next gives cause jobless = absurd (not_ok (list_job_of settings) job (jobless refl))
      by (Some s) y (Err listing.Spawn) next gives cause jobless = inr (inl refl)
      by (Some s) None (Err listing.Child) next gives cause jobless = absurd cause
      by (Some s) (Some t) (Err listing.Child) next gives cause jobless =
          let same : cause.output ≡ next.0 = first_is s t cause.job cause.output next.0 next.1 next.2 cause.started in
          absurd (not_broken next.0.finish status next.3.ended (subst (λ (o : Output). IsBroken o.finish) same cause.meets))
      by (Some s) None (Err (listing.Failed other text)) next gives cause jobless = absurd cause
      by (Some s) (Some t) (Err (listing.Failed other text)) next gives cause jobless =
          let same : cause.output ≡ next.0 = first_is s t cause.job cause.output next.0 next.1 next.2 cause.started in
          inl (same_status other text next.0 next.3 (subst (HasFailed other text) same cause.meets))
      by (Some s) y (Err listing.NoMemory) next gives cause jobless = inr (inr refl)

  pub listing_broken : IsOk (list_job_of settings) → NextMeets Broken before → Comes listing.Child listing.Spawn listing.NoMemory result
  listing_broken job next = by before.told after.told result next lists.listed lists.refused lists.jobless
    where
      by : (x y : Option Spawning) (result : Result Ids ListingRefusal) → IsSomeAnd x (Next Broken) → IfOk result (λ ids. Goes x y (ListsSo settings ids)) → IfErr result (λ refusal. Goes x y (HasListingCause settings refusal)) → (result ≡ Err listing.NoListOption → IsErr (list_job_of settings)) → Comes listing.Child listing.Spawn listing.NoMemory result
      by None y result next gives cause jobless = absurd next
      by (Some s) None (Ok ids) next gives cause jobless = absurd gives
      by (Some s) (Some t) (Ok ids) next gives cause jobless =
          let same : gives.output ≡ next.0 = first_is s t gives.job gives.output next.0 next.1 next.2 gives.started in
          absurd (not_broken gives.output.finish (pos 0) gives.ended (subst Broken (sym same) next.3))
      by (Some s) y (Err listing.NoListOption) next gives cause jobless = absurd (not_ok (list_job_of settings) job (jobless refl))
      by (Some s) y (Err listing.Spawn) next gives cause jobless = inr (inl refl)
      by (Some s) y (Err listing.Child) next gives cause jobless = inl refl
      by (Some s) None (Err (listing.Failed status said)) next gives cause jobless = absurd cause
      by (Some s) (Some t) (Err (listing.Failed status said)) next gives cause jobless =
          let same : cause.output ≡ next.0 = first_is s t cause.job cause.output next.0 next.1 next.2 cause.started in
          absurd (not_broken cause.output.finish status cause.meets.ended (subst Broken (sym same) next.3))
      by (Some s) y (Err listing.NoMemory) next gives cause jobless = inr (inr refl)

-- ---- the jobs

pub long_id : (shares : Option (List Ids)) (result : Result (Unit {0}) LongId) → NamesIds shares result → (AreAllShort (ids_of_shares shares) → ⊥) → IsErr result
long_id shares (Ok done) names long = absurd (long names.named)
long_id shares (Err fault) names long = refl

pub no_option : (settings : Settings) (shares : Option (List Ids)) (fault : JobFault) (result : Result (List Job) JobFault) → MakesJobs settings shares result → lane_jobs settings shares ≡ Err fault → (result ≡ Err fault) ⊎ (result ≡ Err job_fault.NoMemory)
no_option settings shares fault result makes refused = by result makes.jobs makes.refused
  where
    same_fault : (other : JobFault) → lane_jobs settings shares ≡ Err other → ◌≡◌ {A = Result (List Job) JobFault} (Err other) (Err fault)
    same_fault other is = sym is ∙ refused

    told : (other : JobFault) → (lane_jobs settings shares ≡ Err other) ⊎ (other ≡ job_fault.NoMemory) → (◌≡◌ {A = Result (List Job) JobFault} (Err other) (Err fault)) ⊎ ◌≡◌ {A = Result (List Job) JobFault} (Err other) (Err job_fault.NoMemory)
    told other (inl is) = inl (same_fault other is)
    told other (inr is) = inr (ap Err is)

    by : (result : Result (List Job) JobFault) → IfOk result (λ jobs. lane_jobs settings shares ≡ Ok jobs) → IfErr result (λ fault. (lane_jobs settings shares ≡ Err fault) ⊎ (fault ≡ job_fault.NoMemory)) → (result ≡ Err fault) ⊎ (result ≡ Err job_fault.NoMemory)
    by (Ok jobs) is cause =
        let both : ◌≡◌ {A = Result (List Job) JobFault} (Ok jobs) (Err fault) = sym is ∙ refused in
        absurd cc
    by (Err other) is cause = told other cause

pub no_id_option : (settings : Settings) (fault : JobFault) (result : Result (Unit {0}) JobFault) → HandsIds true settings result → probe_job settings [] ≡ Err fault → (result ≡ Err fault) ⊎ (result ≡ Err job_fault.NoMemory)
no_id_option settings fault result hands refused = subst (λ (job : Result Job JobFault). IfErr job (λ f. (result ≡ Err f) ⊎ (result ≡ Err job_fault.NoMemory))) refused (hands.exactly refl)

-- ---- the search for causes

pub probe_broken : (settings : Settings) (candidates : Ids) (test : List ℕ) (before after : Seen Spawning) (result : Result Found SearchFault) → Searches settings candidates test before after result → IsSomeAnd before.told (λ s. UsesNoBroken test candidates s.outputs → ⊥) → Comes search_fault.Child search_fault.Spawn search_fault.NoMemory result
probe_broken settings candidates test before after (Ok found) searches broken = absurd (from_both before.told after.told (λ s. UsesNoBroken test candidates s.outputs → ⊥) (SearchesSo settings candidates test found) broken searches.found (λ s t never so. never (none_broken settings candidates test found s t so)))
probe_broken settings candidates test before after (Err search_fault.Spawn) searches broken = inr (inl refl)
probe_broken settings candidates test before after (Err search_fault.Child) searches broken = inl refl
probe_broken settings candidates test before after (Err search_fault.NoMemory) searches broken = inr (inr refl)
