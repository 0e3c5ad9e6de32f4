-- A line of details that is taken where the open test stands.
use Rattle.std.proofs.Common.{◌≡◌, ℕ, Bool, true, false, cond, Option, Some, List, Result, Ok, Err, IfOk, sym, ap, ◌∙◌}
use Rattle.v1_bridge.specs.declared.details_stage.Stage.{Stage}
use Rattle.v1_bridge.specs.declared.details_stage.Details.{Details}
use Rattle.v1_bridge.specs.declared.details_stage.OpenTest.{OpenTest}
use Rattle.v1_bridge.specs.Stages.{stage_line, ends_details, held_part}
use Rattle.v1_bridge.specs.Reading.{State, with_test, detailed, ending_part, complete, go_on, line_within, line_step}

-- The details are then where the line leads, and the test is open.
stays_open : (s : State) (t : OpenTest) (d : Details) (line : List ℕ) (stage : Stage) → t.details ≡ Some d → ends_details d.stage line ≡ false → stage ≡ (stage_line t.id d.how d.stage line).stage
    → Some (detailed t d.how stage) ≡ (line_within s t t.details line).state.open_test
stays_open s t d line stage is goes_on told =
    ap (λ (x : Stage). Some (detailed t d.how x)) told
    ∙ ap (λ (b : Bool). (cond b (complete s t d.how (ending_part (held_part d.stage))) (go_on s t d.how (stage_line t.id d.how d.stage line))).state.open_test) (sym goes_on)
    ∙ ap (λ (o : Option Details). (line_within s t o line).state.open_test) (sym is)

pub test_in_place : {E : Type 0} (taken : Result Bool E) (s : State) (t : OpenTest) (d : Details) (line : List ℕ) (stage : Stage) → t.details ≡ Some d
    → IfOk taken (λ taken. taken ≡ true → ends_details d.stage line ≡ false)
    → IfOk taken (λ taken. taken ≡ true → stage ≡ (stage_line t.id d.how d.stage line).stage)
    → IfOk taken (λ taken. taken ≡ true → Some (detailed t d.how stage) ≡ (line_within s t t.details line).state.open_test)
test_in_place (Ok taken) s t d line stage is goes_on told = λ yes. stays_open s t d line stage is (goes_on yes) (told yes)
test_in_place (Err fault) s t d line stage is goes_on told = tt

-- All else that is known stays.
pub state_in_place : {E : Type 0} (taken : Result Bool E) (s : State) (open_test : Option OpenTest) (t after : OpenTest) (line : List ℕ) → open_test ≡ Some t
    → IfOk taken (λ taken. taken ≡ true → Some after ≡ (line_within s t t.details line).state.open_test)
    → IfOk taken (λ taken. taken ≡ true → s.last ≡ (line_within s t t.details line).state.last)
    → IfOk taken (λ taken. taken ≡ true → s.tags ≡ (line_within s t t.details line).state.tags)
    → IfOk taken (λ taken. taken ≡ true → with_test s (Some after) ≡ (line_step s open_test line).state)
state_in_place (Ok taken) s open_test t after line is test last tags = λ yes.
    let at = test yes in
    let time = last yes in
    let names = tags yes in
    (λ i. record { last = time i; tags = names i; open_test = at i })
    ∙ ap (λ (o : Option OpenTest). (line_step s o line).state) (sym is)
state_in_place (Err fault) s open_test t after line is test last tags = tt
