-- An answer keeps all that is promised.
use Rattle.std.proofs.Common.{◌≡◌, ◌⊎◌, inl, inr, ℕ, ◌≤◌, Bool, Option, None, Some, Result, Ok, Err, List, ◌∷◌, refl, sym, ap, subst, ◌∙◌, IsTrue, true, false, arith}
use Rattle.edge_io.specs.Disk.{Folder, IsImage}
use Rattle.edge_io.specs.Steps.{Goes, Stays}
use Rattle.edge_io.proofs.Going.{goes_weaker}
use Rattle.edge_io.proofs.Passing.{passes_weaker}
use Rattle.run_ledger.specs.Refreshing.{KeepsSound}
use Rattle.run_shelf.specs.Images.{PassesOld, PassesFormat, HasFormatBeside}
use Rattle.sub_number.specs.declared.memory.NoMemory.{NoMemory}
use Rattle.testr_commands.specs.Answer.{load_has_kept, run_has_kept, has_kept, may_have_kept, is_copied, may_have_printed, IsChildFault}
use Rattle.testr_commands.specs.Stored.{Stores}
use Rattle.command_steps.specs.Refusals.{refusal_exit_status, exit_status, fault_place_in}
use Rattle.command_steps.specs.Outside.{Outside, Work, work_of, shown, work_out, Place, SomeRose, SameCounts, RisesAt}
use Rattle.testr_commands.specs.Printed.{PrintsInPart}
use Rattle.run_ledger.proofs.SoundLemmas.{sound_without}
use Rattle.old_upgrade.specs.Upgrading.{PassesUpgrade, StaysOrNot, IsEither}
use Rattle.testr_commands.specs.Upgrade.{DidUpgrade, KeepsWithoutCaches}
use Rattle.testr_commands.proofs.UpgradeLaws.{upgrade_refuses, upgrade_counts, upgrade_moments, upgrade_sound, upgrade_repository, upgrade_keeps, upgrade_prints, upgrade_did, upgrade_never}
use Rattle.testr_commands.specs.Program.{Performs, Does, CanPerform, Leaves, KeepsWithoutRun, KeepsSoundFor, StartsPrograms, SomeFailed, IsPerformed, GivesUp, Answers, Promises, AnswersQuestion}
use Rattle.command_steps.specs.Runs.{KeepsFiles, KeepsRepository, KeepsRuns}
use Rattle.testr_commands.specs.Stops.{PassesTask, PassesLoad, HasLoadedRun}
use Rattle.testr_commands.specs.SuiteStops.{PassesSuiteRun}
use Rattle.testr_words.specs.Tasks.{Task, init, load, ask, list, run, selftest, upgrade}
use Rattle.command_steps.specs.Verdicts.{verdict_exit_status}
use Rattle.command_steps.specs.declared.answer.Verdict.{Verdict}
use Rattle.command_steps.specs.declared.answer.Verdict.TheVariants.{Passed, Failed}
use Rattle.command_steps.specs.declared.answer.Refusal.{Refusal}
use Rattle.command_steps.specs.declared.answer.Refusal.TheVariants.{Memory}
use Rattle.testr_words.specs.declared.command.Question.{Question}
use Rattle.testr_words.specs.declared.selftest_words.SelfTestWords.{SelfTestWords}
use Rattle.testr_commands.proofs.CauseLaws.{init_never, load_never, ask_never}
use Rattle.testr_commands.proofs.ChainLemmas.{IsRefused}
use Rattle.testr_commands.proofs.CommandLaws.{load_refuses, load_counts, load_beside, ask_refuses, ask_counts, ask_quiet, init_refuses, init_counts}
use Rattle.testr_commands.proofs.DoneLaws.{init_made, init_passed, load_did, ask_did}
use Rattle.testr_commands.proofs.KeepLemmas.{keeps_runs, init_keeps, init_repository, load_keeps}
use Rattle.testr_commands.proofs.KeepingLaws.{MovesSoundly, quiet_moves}
use Rattle.testr_commands.proofs.MomentLaws.{init_moves, init_sound, load_moves}
use Rattle.testr_commands.proofs.PrintedLaws.{load_prints, ask_prints, list_prints, selftest_prints, load_silent, ask_silent, list_silent, selftest_silent, upgrade_silent}
use Rattle.testr_commands.proofs.StoredLaws.{load_stores}
use Rattle.testr_commands.proofs.RefusalLemmas.{codes, IsFault, of_part, of_child, faults, some_rose}
use Rattle.command_steps.proofs.Resting.{KeepsReads, rests_same}
use Rattle.testr_commands.proofs.SelfTestLaws.{selftest_beside, selftest_failed, selftest_never, selftest_did}
use Rattle.command_steps.proofs.SoundLemmas.{rests_repository, rests_sound}
use Rattle.testr_commands.proofs.StepLaws.{still_counts}
use Rattle.testr_commands.proofs.ListCauses.{list_never}
use Rattle.testr_commands.proofs.SuiteCauses.{NoCause}
use Rattle.testr_commands.proofs.SuiteDone.{list_did, run_did}
use Rattle.testr_commands.proofs.SuiteKeeps.{run_keeps}
use Rattle.testr_commands.proofs.SuiteLaws.{list_refused, list_counted, run_refused, run_counted, selftest_refused, selftest_counted}
use Rattle.testr_commands.proofs.SuiteLeaves.{RunsMoves, run_leaves, run_silent, run_stores, run_suite_moves}
use Rattle.testr_commands.proofs.SuiteNever.{run_never}
use Rattle.testr_commands.proofs.SuiteQuiet.{list_same}
use Rattle.testr_commands.proofs.SuiteReach.{same_few}

verdicts : (v : Verdict) → verdict_exit_status v ≤ 1
verdicts Passed = omega arith
verdicts Failed = omega arith

stays : (x y : Option Folder) → y ≡ x → Goes x y Stays
stays None None same = tt
stays None (Some t) same = cc
stays (Some s) None same = cc
stays (Some s) (Some t) same = cc

-- a fault is that of a part, whose count rose, or that of a child
by_fault : (Starts : Type 0) (r : Refusal) (a b : Work) → IsRefused Starts r a b → IsFault r → SomeRose a b ⊎ (Starts × IsChildFault (Err r))
by_fault Starts r a b is (of_part place at) = inl (some_rose place a b (subst (λ (p : Option Place). RisesAt p a b) at is.counts))
by_fault Starts r a b is (of_child child) = inr (is.child child, child)

-- no cause is left but want of memory
by_code : (answer code : ℕ) → answer ≡ code → 3 ≤ code → code ≤ 5 → (code ≡ 3 → ⊥) → (code ≡ 4 → ⊥) → answer ≡ 5
by_code answer code same least most three four = omega arith

-- it is so, unless this is
not_other : {X : Type 0} {may : Bool} → X ⊎ (may ≡ true) → may ≡ false → X
not_other (inl holds) not = holds
not_other (inr is) not = absurd cc

-- where memory was wanting no run was kept
memory_early : {X : Type 0} (asked : Option Task) (outcome : Result Verdict Refusal) (fault : NoMemory) → outcome ≡ Err (Memory fault) → has_kept asked outcome ≡ true → X
memory_early (Some (load options names)) outcome fault is has =
    let both : true ≡ false = sym has ∙ ap load_has_kept is in
    absurd cc
memory_early (Some (run options)) outcome fault is has =
    let both : true ≡ false = sym has ∙ ap run_has_kept is in
    absurd cc
memory_early asked outcome fault is has = absurd cc

no_fault : {A B C : Type 0} → (A → ⊥) → (C → ⊥) → A ⊎ (B × C) → ⊥
no_fault none child (inl rose) = none rose
no_fault none child (inr given) = child given.1

-- ---- where the folder is as it was

module _ (a b : Work) (same : b.folder ≡ a.folder) where
  same_quiet : Goes a.folder.told b.folder.told KeepsReads
  same_quiet = rests_same a.folder.told b.folder.told (λ i. (same i).told)

  same_sound : Goes a.folder.told b.folder.told KeepsSound
  same_sound = goes_weaker a.folder.told b.folder.told KeepsReads KeepsSound same_quiet rests_sound

  same_sound_for : (asked : Option Task) → Goes a.folder.told b.folder.told (KeepsSoundFor asked)
  same_sound_for (Some upgrade) =
      goes_weaker a.folder.told b.folder.told KeepsSound KeepsWithoutCaches same_sound
      (λ s t keeps lacks. keeps (λ image left. let none = lacks image left in sound_without image none.failing none.times))
  same_sound_for asked = same_sound

  same_repository : Goes a.folder.told b.folder.told KeepsRepository
  same_repository = goes_weaker a.folder.told b.folder.told KeepsReads KeepsRepository same_quiet rests_repository

  same_keeps : (asked : Option Task) → Goes a.folder.told b.folder.told (KeepsWithoutRun asked)
  same_keeps (Some init) = goes_weaker a.folder.told b.folder.told KeepsReads KeepsRuns same_quiet keeps_runs
  same_keeps (Some upgrade) = goes_weaker a.folder.told b.folder.told KeepsReads StaysOrNot same_quiet (λ s t rests. inl rests.files)
  same_keeps asked = goes_weaker a.folder.told b.folder.told KeepsReads KeepsFiles same_quiet (λ s t rests. rests.files)

  same_moments : (asked : Option Task) → Goes a.folder.told b.folder.told (PassesTask asked a b)
  same_moments (Some init) = goes_weaker a.folder.told b.folder.told KeepsReads PassesFormat same_quiet (λ s t rests. passes_weaker (IsImage s.disk) (λ image. IsImage s.disk image ⊎ HasFormatBeside s.disk.published image) (λ image left. inl left) s t rests.old)
  same_moments (Some (load options names)) = goes_weaker a.folder.told b.folder.told (MovesSoundly (HasLoadedRun options.partial names a.site.told a.input.told)) (PassesLoad options.partial names a.site.told a.input.told) (quiet_moves (HasLoadedRun options.partial names a.site.told a.input.told) a.folder.told b.folder.told same_quiet) (λ s t moves. moves.stops)
  same_moments (Some (ask question)) = goes_weaker a.folder.told b.folder.told KeepsReads PassesOld same_quiet (λ s t rests. rests.old)
  same_moments (Some (run options)) = goes_weaker a.folder.told b.folder.told KeepsReads (PassesSuiteRun options a b) same_quiet (λ s t rests. inl rests.old)
  same_moments (Some upgrade) = goes_weaker a.folder.told b.folder.told KeepsReads PassesUpgrade same_quiet (λ s t rests. passes_weaker (IsImage s.disk) (λ image. IsImage s.disk image ⊎ IsEither s.disk.published image) (λ image left. inl left) s t rests.old)
  same_moments asked = stays a.folder.told b.folder.told (λ i. (same i).told)

-- ---- from the chains: a line for each task

module _ (a b : Work) where
  refused : (task : Task) (r : Refusal) → Performs (Some task) a b (Err r) → IsRefused (StartsPrograms (Some task)) r a b
  refused init r done = subst (λ (w : Work). IsRefused ⊥ r a w) (sym done.rest) (init_refuses a.site a.spawner a.input a.out a.folder b.folder r done.at)
  refused (load options names) r done = load_refuses options names a b r done
  refused (ask question) r done = subst (λ (w : Work). IsRefused ⊥ r a w) (sym done.rest) (ask_refuses a.site a.spawner a.input question (shown a.folder a.out) (shown b.folder b.out) r done.at)
  refused (list options) r done = list_refused options a b r done
  refused (run options) r done = run_refused options a b r done
  refused (selftest drawing) r done = selftest_refused drawing a b r done
  refused upgrade r done = subst (λ (w : Work). IsRefused ⊥ r a w) (sym done.rest) (upgrade_refuses a.site a.spawner a.input (shown a.folder a.out) (shown b.folder b.out) r done.at)

  counted : (task : Task) (v : Verdict) → Performs (Some task) a b (Ok v) → SameCounts a b
  counted init v done = subst (SameCounts a) (sym done.rest) (init_counts a.site a.spawner a.input a.out a.folder b.folder v done.at)
  counted (load options names) v done = load_counts options names a b v done
  counted (ask question) v done = subst (SameCounts a) (sym done.rest) (ask_counts a.site a.spawner a.input question (shown a.folder a.out) (shown b.folder b.out) v done.at)
  counted (list options) v done = list_counted options a b v done
  counted (run options) v done = run_counted options a b v done
  counted (selftest drawing) v done = selftest_counted drawing a b v done
  counted upgrade v done = subst (SameCounts a) (sym done.rest) (upgrade_counts a.site a.spawner a.input (shown a.folder a.out) (shown b.folder b.out) v done.at)

  failed : (task : Task) (r : Refusal) → Performs (Some task) a b (Err r) → refusal_exit_status r ≡ 4 → SomeFailed (Some task) a b ⊎ (StartsPrograms (Some task) × IsChildFault (Err r))
  failed (selftest drawing) r done four = inl (selftest_failed drawing a b r done four)
  failed task r done four = by_fault (StartsPrograms (Some task)) r a b (refused task r done) (faults r four)

  asked_rests : (question : Question) (outcome : Result Verdict Refusal) → Performs (Some (ask question)) a b outcome → Goes a.folder.told b.folder.told KeepsReads
  asked_rests question outcome done = ask_quiet a.site a.spawner a.input question (shown a.folder a.out) (shown b.folder b.out) outcome done.at

  tested : (drawing : SelfTestWords) (outcome : Result Verdict Refusal) → Performs (Some (selftest drawing)) a b outcome → work_out.put b a.out ≡ work_out.put a a.out
  tested drawing outcome done = selftest_beside a.out drawing a b outcome done

  moments_of : (asked : Option Task) (outcome : Result Verdict Refusal) → Performs asked a b outcome → Goes a.folder.told b.folder.told (PassesTask asked a b)
  moments_of None outcome done = same_moments a b (λ i. (done.same i).folder) None
  moments_of (Some init) outcome done = init_moves a.folder b.folder outcome done.at
  moments_of (Some (load options names)) outcome done = goes_weaker a.folder.told b.folder.told (MovesSoundly (HasLoadedRun options.partial names a.site.told a.input.told)) (PassesLoad options.partial names a.site.told a.input.told) (load_moves options names a b outcome done) (λ s t moves. moves.stops)
  moments_of (Some (ask question)) outcome done = goes_weaker a.folder.told b.folder.told KeepsReads PassesOld (asked_rests question outcome done) (λ s t rests. rests.old)
  moments_of (Some (list options)) outcome done = same_moments a b (list_same options a b outcome done) (Some (list options))
  moments_of (Some (run options)) outcome done = goes_weaker a.folder.told b.folder.told (RunsMoves options a b) (PassesSuiteRun options a b) (run_suite_moves options a b outcome done) (λ s t moves. moves.stops)
  moments_of (Some (selftest drawing)) outcome done = same_moments a b (λ i. (tested drawing outcome done i).folder) (Some (selftest drawing))
  moments_of (Some upgrade) outcome done = upgrade_moments (shown a.folder a.out) (shown b.folder b.out) outcome done.at

  sound_of : (asked : Option Task) (outcome : Result Verdict Refusal) → Performs asked a b outcome → Goes a.folder.told b.folder.told (KeepsSoundFor asked)
  sound_of None outcome done = same_sound a b (λ i. (done.same i).folder)
  sound_of (Some init) outcome done = init_sound a.folder b.folder outcome done.at
  sound_of (Some (load options names)) outcome done = goes_weaker a.folder.told b.folder.told (MovesSoundly (HasLoadedRun options.partial names a.site.told a.input.told)) KeepsSound (load_moves options names a b outcome done) (λ s t moves. moves.sound)
  sound_of (Some (ask question)) outcome done = goes_weaker a.folder.told b.folder.told KeepsReads KeepsSound (asked_rests question outcome done) rests_sound
  sound_of (Some (list options)) outcome done = same_sound a b (list_same options a b outcome done)
  sound_of (Some (run options)) outcome done = goes_weaker a.folder.told b.folder.told (RunsMoves options a b) KeepsSound (run_suite_moves options a b outcome done) (λ s t moves. moves.sound)
  sound_of (Some (selftest drawing)) outcome done = same_sound a b (λ i. (tested drawing outcome done i).folder)
  sound_of (Some upgrade) outcome done = upgrade_sound (shown a.folder a.out) (shown b.folder b.out) outcome done.at

  repository_of : (asked : Option Task) (outcome : Result Verdict Refusal) → Performs asked a b outcome → Goes a.folder.told b.folder.told KeepsRepository
  repository_of None outcome done = same_repository a b (λ i. (done.same i).folder)
  repository_of (Some init) outcome done = init_repository a.folder b.folder outcome done.at
  repository_of (Some (load options names)) outcome done = goes_weaker a.folder.told b.folder.told (MovesSoundly (HasLoadedRun options.partial names a.site.told a.input.told)) KeepsRepository (load_moves options names a b outcome done) (λ s t moves. moves.repository)
  repository_of (Some (ask question)) outcome done = goes_weaker a.folder.told b.folder.told KeepsReads KeepsRepository (asked_rests question outcome done) rests_repository
  repository_of (Some (list options)) outcome done = same_repository a b (list_same options a b outcome done)
  repository_of (Some (run options)) outcome done = goes_weaker a.folder.told b.folder.told (RunsMoves options a b) KeepsRepository (run_suite_moves options a b outcome done) (λ s t moves. moves.repository)
  repository_of (Some (selftest drawing)) outcome done = same_repository a b (λ i. (tested drawing outcome done i).folder)
  repository_of (Some upgrade) outcome done = upgrade_repository (shown a.folder a.out) (shown b.folder b.out) outcome done.at

  kept_of : (asked : Option Task) (outcome : Result Verdict Refusal) → Performs asked a b outcome → may_have_kept asked outcome ≡ false → Goes a.folder.told b.folder.told (KeepsWithoutRun asked)
  kept_of None outcome done not = same_keeps a b (λ i. (done.same i).folder) None
  kept_of (Some init) outcome done not = init_keeps a.folder b.folder outcome done.at
  kept_of (Some (load options names)) (Ok v) done not = cc
  kept_of (Some (load options names)) (Err r) done not = load_keeps options names a b r done not
  kept_of (Some (ask question)) outcome done not = goes_weaker a.folder.told b.folder.told KeepsReads KeepsFiles (asked_rests question outcome done) (λ s t rests. rests.files)
  kept_of (Some (list options)) outcome done not = same_keeps a b (list_same options a b outcome done) (Some (list options))
  kept_of (Some (run options)) (Ok v) done not = cc
  kept_of (Some (run options)) (Err r) done not = run_keeps options a b r done not
  kept_of (Some (selftest drawing)) outcome done not = same_keeps a b (λ i. (tested drawing outcome done i).folder) (Some (selftest drawing))
  kept_of (Some upgrade) outcome done not = upgrade_keeps (shown a.folder a.out) (shown b.folder b.out) outcome done.at not

  did_of : (task : Task) (v : Verdict) → Performs (Some task) a b (Ok v) → Does (Some task) a b (verdict_exit_status v)
  did_of init v done = (init_made a.folder b.folder v done.at, init_passed a.folder b.folder v done.at)
  did_of (load options names) v done = load_did options names a b v done
  did_of (ask question) v done = subst (λ (w : Work). AnswersQuestion question a w (verdict_exit_status v)) (sym done.rest) (ask_did question a.site a.spawner a.input (shown a.folder a.out) (shown b.folder b.out) v done.at)
  did_of (list options) v done = list_did options a b v done
  did_of (run options) v done = run_did options a b v done
  did_of (selftest drawing) v done = selftest_did drawing a b v done
  did_of upgrade v done = upgrade_did a b v done.at

  printed_of : (asked : Option Task) (outcome : Result Verdict Refusal) → Performs asked a b outcome → PrintsInPart asked a b
  printed_of None outcome done = inl (λ i. (done.same i).out.told)
  printed_of (Some init) outcome done = inl (λ i. (done.rest i).out.told)
  printed_of (Some (load options names)) outcome done = load_prints options names a b outcome done
  printed_of (Some (ask question)) outcome done = subst (PrintsInPart (Some (ask question)) a) (sym done.rest) (ask_prints question a.site a.spawner a.input (shown a.folder a.out) (shown b.folder b.out) outcome done.at)
  printed_of (Some (list options)) outcome done = list_prints options a b outcome done
  printed_of (Some (run options)) outcome done = (run_leaves options a b outcome done).printed
  printed_of (Some (selftest drawing)) outcome done = selftest_prints drawing a b outcome done
  printed_of (Some upgrade) outcome done = upgrade_prints a b outcome done.at

  unprinted_of : (asked : Option Task) (outcome : Result Verdict Refusal) → Performs asked a b outcome → may_have_printed (is_copied asked) outcome ≡ false → b.out.told ≡ a.out.told
  unprinted_of None outcome done not = λ i. (done.same i).out.told
  unprinted_of (Some init) outcome done not = λ i. (done.rest i).out.told
  unprinted_of (Some (load options names)) outcome done not = not_other (load_silent options names a b outcome done) not
  unprinted_of (Some (ask question)) outcome done not = not_other (ask_silent question (shown a.folder a.out) (shown b.folder b.out) outcome done.at) not
  unprinted_of (Some (list options)) outcome done not = not_other (list_silent options a b outcome done) not
  unprinted_of (Some (run options)) outcome done not = not_other (run_silent options a b outcome done) not
  unprinted_of (Some (selftest drawing)) outcome done not = not_other (selftest_silent drawing a b outcome done) not
  unprinted_of (Some upgrade) outcome done not = not_other (upgrade_silent (shown a.folder a.out) (shown b.folder b.out) outcome done.at) not

  stored_of : (asked : Option Task) (outcome : Result Verdict Refusal) → Performs asked a b outcome → has_kept asked outcome ≡ true → Stores asked a b
  stored_of (Some (load options names)) outcome done has = load_stores options names a b outcome done has
  stored_of (Some (run options)) outcome done has = run_stores options a b outcome done has
  stored_of asked outcome done has = cc

  -- a task that starts no program has no fault of one
  no_child : (task : Task) (r : Refusal) → (StartsPrograms (Some task) → ⊥) → Performs (Some task) a b (Err r) → IsChildFault (Err r) → ⊥
  no_child task r starts done child = starts ((refused task r done).child child)

  never_of : (task : Task) (r : Refusal) → Performs (Some task) a b (Err r) → CanPerform (Some task) a → NoCause r
  never_of init r done can =
      let four = init_never a.folder b.folder r done.at can in
      ((λ three. omega (arith, four, three)), no_child init r (λ starts. starts) done)
  never_of (load options names) r done can = (load_never options names a b r done can, no_child (load options names) r (λ starts. starts) done)
  never_of (ask question) r done can = (ask_never question a.site a.spawner a.input (shown a.folder a.out) (shown b.folder b.out) r done.at can, no_child (ask question) r (λ starts. starts) done)
  never_of (list options) r done can = list_never options a b r done can
  never_of (run options) r done can = run_never options a b r done can
  never_of upgrade r done can = (upgrade_never a b r done.at can, no_child upgrade r (λ starts. starts) done)
  never_of (selftest drawing) r done can = (selftest_never drawing a b r done, no_child (selftest drawing) r (λ starts. starts) done)

  -- ---- from these: once for all

  counts_of : (asked : Option Task) (outcome : Result Verdict Refusal) → Performs asked a b outcome → RisesAt (fault_place_in outcome) a b
  counts_of None outcome done = subst (λ (r : Result Verdict Refusal). RisesAt (fault_place_in r) a b) (sym done.usage) (still_counts a b done.same)
  counts_of (Some task) (Ok v) done = counted task v done
  counts_of (Some task) (Err r) done = (refused task r done).counts

  module _ (answer : ℕ) where
    usage_of : (asked : Option Task) (outcome : Result Verdict Refusal) → Performs asked a b outcome → answer ≡ exit_status outcome → (answer ≡ 2 → asked ≡ None) × (asked ≡ None → answer ≡ 2)
    usage_of None outcome done code = (λ two. refl, λ none. code ∙ ap exit_status done.usage)
    usage_of (Some task) (Ok v) done code = (λ two. absurd (omega (arith, verdicts v, code, two)), λ none. cc)
    usage_of (Some task) (Err r) done code = (λ two. absurd (omega (arith, code, two, (codes r (refused task r done).named).least)), λ none. cc)

    fault_of : (asked : Option Task) (outcome : Result Verdict Refusal) → Performs asked a b outcome → answer ≡ exit_status outcome → answer ≡ 4 → SomeFailed asked a b ⊎ (StartsPrograms asked × IsChildFault outcome)
    fault_of None outcome done code four =
        let two : answer ≡ 2 = code ∙ ap exit_status done.usage in
        absurd (omega (arith, two, four))
    fault_of (Some task) (Ok v) done code four = absurd (omega (arith, verdicts v, code, four))
    fault_of (Some task) (Err r) done code four = failed task r done (sym code ∙ four)

    did_at : (asked : Option Task) (outcome : Result Verdict Refusal) → Performs asked a b outcome → answer ≡ exit_status outcome → answer ≤ 1 → Does asked a b answer
    did_at None outcome done code few =
        let two : answer ≡ 2 = code ∙ ap exit_status done.usage in
        omega (arith, two, few)
    did_at (Some task) (Ok v) done code few = subst (λ (n : ℕ). Does (Some task) a b n) (sym code) (did_of task v done)
    did_at (Some task) (Err r) done code few = absurd (omega (arith, code, few, (codes r (refused task r done).named).least))

    few_or_five : (task : Task) (outcome : Result Verdict Refusal) → Performs (Some task) a b outcome → answer ≡ exit_status outcome → CanPerform (Some task) a → (SomeFailed (Some task) a b → ⊥) → (answer ≤ 1) ⊎ (answer ≡ 5)
    few_or_five task (Ok v) done code can none = inl (omega (arith, verdicts v, code))
    few_or_five task (Err r) done code can none =
        let is = codes r (refused task r done).named in
        let never = never_of task r done can in
        inr (by_code answer (refusal_exit_status r) code is.least is.most never.0 (λ four. no_fault none never.1 (failed task r done four)))

    complete_of : (asked : Option Task) (outcome : Result Verdict Refusal) → Performs asked a b outcome → answer ≡ exit_status outcome → CanPerform asked a → (SomeFailed asked a b → ⊥) → IsPerformed asked answer
    complete_of None outcome done code can none = can
    complete_of (Some init) (Ok v) done code can none = code ∙ init_passed a.folder b.folder v done.at
    complete_of (Some init) (Err r) done code can none = absurd (no_fault none (no_child init r (λ starts. starts) done) (failed init r done (init_never a.folder b.folder r done.at can)))
    complete_of (Some task) outcome done code can none = few_or_five task outcome done code can none

-- ---- what stays

leaves_of : (before after : Outside) (asked : Option Task) (outcome : Result Verdict Refusal) → Performs asked (work_of before) (work_of after) outcome → Leaves asked before after
leaves_of before after None outcome done = λ i. (done.same i).spawner
leaves_of before after (Some init) outcome done = λ i. (done.rest i).spawner
leaves_of before after (Some (load options names)) outcome done = load_beside options names (work_of before) (work_of after) outcome done
leaves_of before after (Some (ask question)) outcome done = λ i. (done.rest i).spawner
leaves_of before after (Some (list options)) outcome done = tt
leaves_of before after (Some (run options)) outcome done = run_leaves options (work_of before) (work_of after) outcome done
leaves_of before after (Some upgrade) outcome done = λ i. (done.rest i).spawner
leaves_of before after (Some (selftest drawing)) outcome done =
    let same = tested (work_of before) (work_of after) drawing outcome done in
    record { folder = λ i. (same i).folder; site = λ i. (same i).site; spawner = λ i. (same i).spawner; input = λ i. (same i).input }

leaves_all : (before after : Outside) (asked : Option Task) → work_of after ≡ work_of before → Leaves asked before after
leaves_all before after (Some (list options)) same = tt
leaves_all before after (Some (run options)) same = record { started = inl (same_few 2 before.spawner.told after.spawner.told (λ i. (same i).spawner.told)); printed = inl (λ i. (same i).out.told) }
leaves_all before after (Some (selftest drawing)) same = record { folder = λ i. (same i).folder; site = λ i. (same i).site; spawner = λ i. (same i).spawner; input = λ i. (same i).input }
leaves_all before after asked same = λ i. (same i).spawner

-- ---- the promises

module _ (reading : Bool) (asked : Option Task) (before after : Outside) (answer : ℕ) where
  abbrev a : Work
  a = work_of before

  abbrev b : Work
  b = work_of after

  performed : (answers : Answers reading asked before after answer) → Performs asked a b answers.outcome → Promises reading asked before after answer
  performed answers done =
      let outcome = answers.outcome in
      let code = answers.told.code in
      record {
        answers = answers;
        counts = counts_of a b asked outcome done;
        usage = (usage_of a b answer asked outcome done code).0;
        no_command = λ none. inl ((usage_of a b answer asked outcome done code).1 none);
        fault = fault_of a b answer asked outcome done code;
        leaves = leaves_of before after asked outcome done;
        prints = printed_of a b asked outcome done;
        unprinted = unprinted_of a b asked outcome done;
        stored = stored_of a b asked outcome done;
        kept = kept_of a b asked outcome done;
        repository = repository_of a b asked outcome done;
        any_moment = moments_of a b asked outcome done;
        sound = sound_of a b asked outcome done;
        did = did_at a b answer asked outcome done code;
        completeness = λ can none. inl (complete_of a b answer asked outcome done code can none);
      }

  -- where memory was wanting for the words
  gave_up : (answers : Answers reading asked before after answer) → IsTrue reading → GivesUp a b answers.outcome → Promises reading asked before after answer
  gave_up answers reads gives =
      let five : answer ≡ 5 = answers.told.code ∙ ap exit_status gives.memory in
      let same : b.folder ≡ a.folder = λ i. (gives.same i).folder in
      record {
        answers = answers;
        counts = subst (λ (r : Result Verdict Refusal). RisesAt (fault_place_in r) a b) (sym gives.memory) (still_counts a b gives.same);
        usage = λ two. absurd (omega (arith, five, two));
        no_command = λ none. inr (reads, five);
        fault = λ four. absurd (omega (arith, five, four));
        leaves = leaves_all before after asked gives.same;
        prints = inl (λ i. (gives.same i).out.told);
        unprinted = λ not i. (gives.same i).out.told;
        stored = λ has. memory_early asked answers.outcome gives.fault gives.memory has;
        kept = λ not. same_keeps a b same asked;
        repository = same_repository a b same;
        any_moment = same_moments a b same asked;
        sound = same_sound_for a b same asked;
        did = λ few. absurd (omega (arith, five, few));
        completeness = λ can none. inr (reads, five);
      }

  pub promises : Answers reading asked before after answer → Promises reading asked before after answer
  promises answers = elim answers.done [
    | inl done ↦ performed answers done
    | inr given ↦ gave_up answers given.0 given.1
  ]

-- ---- from one call to the next

-- what was asked for is this
pub asked_as : {reading : Bool} {read asked : Option Task} → read ≡ asked → (before after : Outside) (answer : ℕ) → Answers reading read before after answer → Answers reading asked before after answer
asked_as {reading = reading} is before after answer answers = subst (λ (o : Option Task). Answers reading o before after answer) is answers

-- what is answered without a reading of words is answered with one
pub with_reading : {asked : Option Task} {before after : Outside} {answer : ℕ} → Answers false asked before after answer → Answers true asked before after answer
with_reading answers = record {
  outcome = answers.outcome;
  done = only answers.done;
  told = answers.told;
}
  where
    only : {A B : Type 0} → A ⊎ (IsTrue false × B) → A ⊎ (IsTrue true × B)
    only (inl done) = inl done
    only (inr given) = absurd (cc)
