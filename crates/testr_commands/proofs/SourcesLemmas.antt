-- What was recorded of the sources, whether of the input or of files.
use Rattle.std.proofs.Common.{◌≡◌, ℕ, ◌+◌, ◌≤◌, Option, List, [], ◌∷◌, All, Ok, refl, sym, append-nil, length, arith}
use Rattle.std.proofs.lemmas.List.Elements.{All-nil, All-cons}
use Rattle.edge_io.specs.Disk.{Files}
use Rattle.edge_io.specs.Steps.{Goes, Grown}
use Rattle.packet_codec.specs.Grammar.{AreBytes}
use Rattle.packet_codec.specs.declared.event.Event.{Event}
use Rattle.outcome_fold.specs.declared.row.Row.{Row}
use Rattle.run_ledger.specs.Reading.{AreRowsOf}
use Rattle.command_steps.specs.Files.{AreSources, HasRecordedInTurn, RecordsSources}
use Rattle.command_steps.specs.Outside.{Work}
use Rattle.testr_commands.specs.Program.{ReadsInputFor}
use Rattle.command_steps.specs.Runs.{run_bytes}
use Rattle.testr_commands.proofs.ReadLemmas.{told_all}

-- the run is what is recorded of all sources
pub record IsRunOf (names : List (List ℕ)) (told : Option Files) (left : Option (List ℕ)) (run : List ℕ) : Type 0 where
  pub sources : List (List ℕ)
  pub few : 0 + length sources ≤ 64
  pub are_sources : AreSources names told left sources
  pub are_bytes : All AreBytes sources
  pub events : List Event
  pub recorded : HasRecordedInTurn 0 sources events
  pub packets : run ≡ run_bytes events

-- it was written behind the draft, and these are its rows
pub record WritesRun (names : List (List ℕ)) (rows : List Row) (a b : Work) : Type 0 where
  pub run : List ℕ
  pub is : IsRunOf names a.site.told a.input.told run
  pub run_is : AreBytes run
  pub rows_are : AreRowsOf run rows
  pub written : Goes a.folder.told b.folder.told (Grown run)
  pub at_end : ReadsInputFor names a.input b.input

pub writes_run : (names : List (List ℕ)) (rows : List Row) (a b : Work) → RecordsSources names a b (Ok rows) → WritesRun names rows a b
writes_run [] rows a b step =
    let all = step.at.recorded in
    let (bytes, reads, recorded) = all.recorded in
    record {
      run = all.run;
      is = record {
        sources = bytes ∷ [];
        few = omega arith;
        are_sources = (bytes, refl, told_all (λ given. given ≡ bytes) a.input.told b.input.told bytes reads.read reads.at_end refl);
        are_bytes = All-cons AreBytes bytes [] reads.are_bytes (All-nil AreBytes);
        events = recorded.events;
        recorded = (recorded.events, [], sym (append-nil recorded.events), recorded.has, refl);
        packets = recorded.packets;
      };
      run_is = all.are_bytes;
      rows_are = all.rows_are;
      written = all.written;
      at_end = reads.at_end;
    }
writes_run (name ∷ names) rows a b step =
    let all = step.at.recorded in
    let turn = all.recorded in
    record {
      run = all.run;
      is = record {
        sources = turn.sources;
        few = omega (arith, turn.few, turn.are_files.count);
        are_sources = turn.are_files;
        are_bytes = turn.are_bytes;
        events = turn.events;
        recorded = turn.recorded;
        packets = turn.packets;
      };
      run_is = turn.run_is;
      rows_are = all.rows_are;
      written = turn.written;
      at_end = λ i. (step.rest i).input;
    }
