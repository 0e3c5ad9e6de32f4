-- What stands in front of a command whose project may ask for instances, beneath all that is promised of the whole call.
use Rattle.std.proofs.Common.{◌≡◌, ◌⊎◌, inl, inr, ℕ, ◌≤◌, Bool, true, false, Option, None, Some, Ok, List, refl, sym, ap, subst, ◌∙◌}
use Rattle.edge_io.specs.Disk.{Files, Folder}
use Rattle.edge_io.specs.Seen.{Seen}
use Rattle.edge_io.specs.Steps.{Goes}
use Rattle.edge_io.proofs.Going.{goes_then}
use Rattle.run_shelf.specs.Repository.{format_name}
use Rattle.command_steps.specs.Outside.{Outside, Work, work_of}
use Rattle.command_steps.specs.Store.{MakesWhereNone}
use Rattle.testr_words.specs.Tasks.{Task, forces_for}
use Rattle.testr_words.specs.declared.live_kind.LiveKind.{LiveKind}
use Rattle.testr_commands.specs.Endings.{Ending, Readied}
use Rattle.testr_commands.specs.Forced.{ready_with, ready_files, ReadsReady, IsMadeReady, PromisesBy}
use Rattle.testr_commands.specs.Spoken.{nowhere, packets_for}
use Rattle.testr_commands.specs.WholeCall.{without_out, PromisesEnding, PromisesHiding, PromisesSaying}
use Rattle.testr_commands.proofs.EndLemmas.{adding_to, adding_none, ready_readied}
use Rattle.testr_commands.proofs.ForceLemmas.{forced_on, made_ready, reads_ready}
use Rattle.testr_commands.proofs.SpokenLemmas.{saying_to, saying_none, no_packets}

-- ---- a repository was made first

-- files that are ready are so as they are
ready_again : (files : Files) → ready_files (ready_files files) ≡ ready_files files
ready_again files = by (files format_name) refl
  where
    by : (found : Option (List ℕ)) → files format_name ≡ found → ready_files (ready_with found files) ≡ ready_with found files
    by None is = refl
    by (Some bytes) is = ap (λ (o : Option (List ℕ)). ready_with o files) is

reads_twice : (a m b : Option Folder) → Goes a m ReadsReady → Goes m b ReadsReady → Goes a b ReadsReady
reads_twice a m b first second = goes_then a m b ReadsReady ReadsReady ReadsReady first second (λ s t u one two. two ∙ ap ready_files one ∙ ready_again s.disk.published)

-- what is left to tell at an end, from where the folder was made ready
readied_before : (before ready : Outside) → IsMadeReady before ready → (e : Ending) (folder : Option Folder) (text : List ℕ) (fails : Bool) → Readied e (work_of ready) folder text fails → Readied e (work_of before) folder text fails
readied_before before ready is e folder text fails (inl given) = ready_readied before ready is e folder text fails given
readied_before before ready is e folder text fails (inr (again, rest, reads, given)) =
    inr (again, rest ∙ ap (λ (w : Work). record w { folder = again.folder }) (ap work_of is.rest), reads_twice before.folder.told ready.folder.told again.folder.told (reads_ready before ready is) reads, given)

module _ (force : Bool) (asked : Option Task) (forced : forces_for force asked ≡ true) (m : Seen Folder) where
  ending_forced : (before after : Outside) (answer : ℕ) → MakesWhereNone before.folder m (Ok tt) → PromisesEnding false false None asked (record before { folder = m }) after answer → PromisesEnding (forces_for force asked) false None asked before after answer
  ending_forced before after answer makes given =
      let is : IsMadeReady before (record before { folder = m }) = made_ready before (record before { folder = m }) makes refl in
      adding_to Readied Readied (PromisesBy false false asked) (PromisesBy (forces_for force asked) false asked) (record before { folder = m }) before after after answer
      (λ told inner promised. forced_on force asked before (record before { folder = m }) (record after { errors = told }) inner forced promised is)
      (λ e text fails left. readied_before before (record before { folder = m }) is e after.folder.told text fails left)
      refl None asked given

  hiding_forced : (hide : Bool) (before after : Outside) (answer : ℕ) → MakesWhereNone before.folder m (Ok tt) → PromisesHiding hide false false None asked (record before { folder = m }) after answer → PromisesHiding hide (forces_for force asked) false None asked before after answer
  hiding_forced true before after answer makes given = record { out = given.out; rest = ending_forced (without_out before) (without_out after) answer makes given.rest }
  hiding_forced false before after answer makes given = ending_forced before after answer makes given

  -- it was made, and all else went on
  pub forced_saying : (stream : Bool) (kind : LiveKind) (hide : Bool) (before after : Outside) (answer : ℕ) → MakesWhereNone before.folder m (Ok tt) → PromisesSaying stream kind hide false false None asked (record before { folder = m }) after answer → PromisesSaying stream kind hide (forces_for force asked) false None asked before after answer
  forced_saying true kind hide before after answer makes given = record {
    inner = given.inner;
    told = given.told;
    rest =
        let b : Outside = without_out before in
        let a : Outside = record after { out = nowhere; errors = given.told } in
        saying_to (PromisesEnding false false None asked) (PromisesEnding (forces_for force asked) false None asked) (record b { folder = m }) b a a given.inner
        (λ errors told promised. ending_forced (record b { errors = errors }) (record a { errors = told }) given.inner makes promised)
        kind asked refl refl refl given.rest;
    failed = given.failed;
    silent = given.silent;
    silent_is = given.silent_is;
    heard_is = given.heard_is;
    printed = given.printed;
    ends = given.ends;
  }
  forced_saying false kind hide before after answer makes given =
      saying_to (PromisesHiding hide false false None asked) (PromisesHiding hide (forces_for force asked) false None asked) (record before { folder = m }) before after after answer
      (λ errors told promised. hiding_forced hide (record before { errors = errors }) (record after { errors = told }) answer makes promised)
      kind asked refl refl refl given

-- ---- it was refused in front, and nothing was said or printed

module _ (force : Bool) (asked : Option Task) (before after : Outside) (answer : ℕ) (other : answer ≤ 1 → ⊥) (out : after.out ≡ before.out) (each : (o : Seen (List ℕ)) → PromisesBy force false asked (record before { out = o }) (record after { out = o }) answer) where
  ending_stopped : (o : Seen (List ℕ)) → PromisesEnding force false None asked (record before { out = o }) (record after { out = o }) answer
  ending_stopped o = adding_none Readied None asked (PromisesBy force false asked) (record before { out = o }) (record after { out = o }) answer other (each o)

  hiding_stopped : (hide : Bool) → PromisesHiding hide force false None asked before after answer
  hiding_stopped true = record { out = out; rest = ending_stopped nowhere }
  hiding_stopped false = subst (λ (o : Seen (List ℕ)). PromisesEnding force false None asked before (record after { out = o }) answer) (sym out) (ending_stopped before.out)

  pub stopped_saying : (stream : Bool) (kind : LiveKind) (hide : Bool) → PromisesSaying stream kind hide force false None asked before after answer
  stopped_saying true kind hide = record {
    inner = answer;
    told = after.errors;
    rest = saying_none kind asked (PromisesEnding force false None asked) (without_out before) (without_out after) answer other (ending_stopped nowhere);
    failed = false;
    silent = false;
    silent_is = λ never. cc;
    heard_is = λ heard small. absurd (other small);
    printed = subst (λ (o : Seen (List ℕ)). packets_for asked answer after.folder.told before.out o false) (sym out) (no_packets asked answer after.folder.told before.out other);
    ends = record {
      refused = λ two. (refl, refl);
      done = λ small well. absurd (other small);
      code = λ small failed. absurd (other small);
      line = λ small failed heard. absurd (other small);
      no_line = λ never. refl;
    };
  }
  stopped_saying false kind hide = saying_none kind asked (PromisesHiding hide force false None asked) before after answer other (hiding_stopped hide)
