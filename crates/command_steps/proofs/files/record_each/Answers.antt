use Rattle.std.proofs.Common.{◌≡◌, ◌∷◌, ◌++◌, ◌+◌, [], inl, take, drop, get_or, sym, ap, subst, ◌∙◌, length, arith}
use Rattle.std.proofs.lemmas.List.{take_more, take-append-drop, at_drop_more, length-take-le}
use Rattle.command_steps.specs.Files.{RecordsInTurn}
use Rattle.command_steps.specs.Outside.{filed}
use Rattle.command_steps.proofs.HearLemmas.{hears_then, stops_then, stops_behind}
use Rattle.command_steps.proofs.Resting.{same_then}
use Rattle.command_steps.proofs.FilesLemmas.{caused_in, records_more}
use Rattle.command_steps.proofs.files.record_each.Goals as goal

pub loop-name-preserved : goal.loop-name-preserved
loop-name-preserved g c =
    let names = c.args.names.now in
    let index = c.loop-name.name-index in
    let name = c.name_of.result.now in
    let here : name ≡ get_or names index c.name-item.result = c.name_of.ensures ∙ c.name-item.is in
    let (run, turn, has) = c.loop-name.invariant.done in
    let file = c.in_ok-record_file.ensures.recorded in
    let count : length (take index names) ≡ index = length-take-le index names (grind arith) in
    let before = filed (g.H.Shelf.seen c.args.shelf.now) (g.F.Site.seen c.args.site.now) in
    let after = filed (g.H.Shelf.seen c.record_file.new.shelf) (g.F.Site.seen c.record_file.new.site) in
    record {
      done = (
        run ++ file.run,
        subst (λ l. RecordsInTurn l before after (run ++ file.run)) (ap (λ n. take index names ++ n ∷ []) here ∙ sym (take_more names index c.name-item.result (grind arith)))
            (records_more (take index names) name before _ after run _ turn c.loop-name.lane (c.loop-name.invariant.lane ∙ sym count) file (omega (arith, count, c.requires.few, c.loop-name-test.true))),
        hears_then g.L.Listener.heard _ _ _ run file.run has file.was_heard,
      );
      lane = omega (arith, c.loop-name.invariant.lane);
      draft = c.in_ok-record_file.ensures.draft;
      empty = c.in_ok-record_file.ensures.empty;
      rests = same_then _ _ _ c.loop-name.invariant.rests c.in_ok-record_file.ensures.rests;
      files = c.in_ok-record_file.ensures.files ∙ c.loop-name.invariant.files;
    }

pub returns-in_err-record_file-clause-refused : goal.returns-in_err-record_file-clause-refused
returns-in_err-record_file-clause-refused g c =
    let names = c.args.names.now in
    let index = c.loop-name.name-index in
    let name = c.name_of.result.now in
    let here : name ≡ get_or names index c.name-item.result = c.name_of.ensures ∙ c.name-item.is in
    let (run, turn, has) = c.loop-name.invariant.done in
    caused_in names _ _ _ _ c.from_residual.ensures.1 (inl (record {
      done = take index names;
      name = name;
      rest = drop (index + 1) names;
      names_are = sym (take-append-drop index names) ∙ ap (λ l. take index names ++ l) (at_drop_more (λ l. l) names index c.name-item.result (grind arith)) ∙ ap (λ n. take index names ++ n ∷ drop (index + 1) names) (sym here);
      between = _;
      run = run;
      recorded = turn;
      cause = c.in_err-record_file.ensures.refused;
    }))

pub returns-in_err-record_file-clause-stops : goal.returns-in_err-record_file-clause-stops
returns-in_err-record_file-clause-stops g c =
    let (run, turn, has) = c.loop-name.invariant.done in
    stops_then g.L.Listener.heard g.L.Listener.keeps _ _ _ run has c.record_file.ensures.stops

pub returns-clause-stops : goal.returns-clause-stops
returns-clause-stops g c =
    let (run, turn, has) = c.loop-name.invariant.done in
    stops_behind g.L.Listener.heard g.L.Listener.keeps _ _ run has
