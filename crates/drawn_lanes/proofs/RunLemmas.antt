-- Draws, tests and lanes one after another.
use Rattle.std.proofs.Common.{◌≡◌, ℕ, zero, suc, ◌+◌, ◌*◌, ◌<◌, ◌≤◌, List, [], ◌∷◌, ◌++◌, map, refl, sym, ◌∙◌, ap, subst, arith, append-nil, add-one}
use Rattle.std.specs.Prelude.{All, pos}
use Rattle.std.specs.List.{flat_map, range_with_len}
use Rattle.std.proofs.lemmas.Grind.{flat_map-append}
use Rattle.std.proofs.lemmas.List.{map-append}
use Rattle.std.proofs.lemmas.List.Elements.{All-nil, All-cons, All-append}
use Rattle.packet_codec.specs.Canonical.{canonical}
use Rattle.packet_codec.specs.declared.event.Event.{Event}
use Rattle.packet_codec.specs.declared.status.Status.TheVariants.{InProgress}
use Rattle.edge_io.specs.Children.{Output}
use Rattle.edge_io.specs.Planned.{planned_output}
use Rattle.edge_io.specs.declared.child.Finish.TheVariants.{Exit}
use Rattle.edge_io.specs.declared.plan_spawner.Plan.{Plan}
use Rattle.drawn_lanes.specs.Draws.{seed_state, next_state, drawn_number, state_after, drawn}
use Rattle.drawn_lanes.specs.Outputs.{drawn_status, drawn_nanos, drawn_nanos_fit, none_fit, drawn_event, test_events, lane_events, drawn_output, HasLanePacket}
use Rattle.drawn_lanes.proofs.EventLemmas.{test_has_packet}

-- ---- draws

none_more : (n : ℕ) → 0 + n ≡ n
none_more n = omega arith

suc_more : (m n : ℕ) → suc m + n ≡ suc (m + n)
suc_more m n = omega arith

pub after_more : (more draws state : ℕ) → state_after (more + draws) state ≡ state_after more (state_after draws state)
after_more zero draws state = ap (λ n. state_after n state) (none_more draws)
after_more (suc more) draws state = ap (λ n. state_after n state) (suc_more more draws) ∙ ap next_state (after_more more draws state)

next_is : (lane tests next : ℕ) → next ≡ (lane + 1) * tests → tests + lane * tests ≡ next
next_is lane tests next is = grind (arith, is)

pub lane_behind : (lane tests next state : ℕ) → next ≡ (lane + 1) * tests → state_after tests (state_after (lane * tests) state) ≡ state_after next state
lane_behind lane tests next state is = sym (after_more tests (lane * tests) state) ∙ ap (λ n. state_after n state) (next_is lane tests next is)

-- ---- tests and lanes

range_more : (a n : ℕ) → range_with_len a (suc n) ≡ range_with_len a n ++ (a + n) ∷ []
range_more a zero = ap (λ k. k ∷ []) (omega arith)
range_more a (suc n) = ap (λ l. a ∷ l) (range_more (a + 1) n ∙ ap (λ k. range_with_len (a + 1) n ++ k ∷ []) (omega arith))

one_more : (n : ℕ) → range_with_len 0 (n + 1) ≡ range_with_len 0 n ++ n ∷ []
one_more n = ap (range_with_len 0) (add-one n) ∙ range_more 0 n ∙ ap (λ k. range_with_len 0 n ++ k ∷ []) (none_more n)

test_more : (lane tests state : ℕ) → lane_events lane (tests + 1) state ≡ lane_events lane tests state ++ test_events lane tests (drawn tests state)
test_more lane tests state =
    ap (flat_map (λ test. test_events lane test (drawn test state))) (one_more tests)
    ∙ flat_map-append (λ test. test_events lane test (drawn test state)) (range_with_len 0 tests) (tests ∷ [])
    ∙ ap (λ l. lane_events lane tests state ++ l) (append-nil (test_events lane tests (drawn tests state)))

pub packets_more : (lane tests state : ℕ) (old new : List ℕ) → old ≡ flat_map canonical (lane_events lane tests state) → new ≡ old ++ flat_map canonical (test_events lane tests (drawn tests state)) → new ≡ flat_map canonical (lane_events lane (tests + 1) state)
packets_more lane tests state old new is more =
    more ∙ ap (λ l. l ++ flat_map canonical (test_events lane tests (drawn tests state))) is
    ∙ sym (flat_map-append canonical (lane_events lane tests state) (test_events lane tests (drawn tests state)))
    ∙ ap (flat_map canonical) (sym (test_more lane tests state))

pub state_drawn : (tests state before next : ℕ) → before ≡ state_after tests state → next ≡ next_state before → next ≡ state_after (tests + 1) state
state_drawn tests state before next is one = one ∙ ap next_state is ∙ ap (λ n. state_after n state) (sym (add-one tests))

pub packets_drawn : (lane tests state before next number : ℕ) (old new : List ℕ) → old ≡ flat_map canonical (lane_events lane tests state) → before ≡ state_after tests state → next ≡ next_state before → number ≡ drawn_number next → new ≡ old ++ flat_map canonical (test_events lane tests number) → new ≡ flat_map canonical (lane_events lane (tests + 1) state)
packets_drawn lane tests state before next number old new is stood one drew more =
    let number_is : number ≡ drawn tests state = drew ∙ ap drawn_number (one ∙ ap next_state stood) in
    packets_more lane tests state old new is (more ∙ ap (λ n. old ++ flat_map canonical (test_events lane tests n)) number_is)

pub outputs_more : (seed tests lane : ℕ) (old : List Output) (output : Output) → old ≡ map (drawn_output seed tests) (range_with_len 0 lane) → output ≡ drawn_output seed tests lane → old ++ output ∷ [] ≡ map (drawn_output seed tests) (range_with_len 0 (lane + 1))
outputs_more seed tests lane old output is one =
    (λ i. is i ++ one i ∷ [])
    ∙ sym (map-append (drawn_output seed tests) (range_with_len 0 lane) (lane ∷ []))
    ∙ ap (map (drawn_output seed tests)) (sym (one_more lane))

pub plans_more : (seed tests lane state : ℕ) (old new : List Plan) (plan : Plan) → new ≡ old ++ plan ∷ [] → map planned_output old ≡ map (drawn_output seed tests) (range_with_len 0 lane) → state ≡ state_after (lane * tests) (seed_state seed) → planned_output plan ≡ record { bytes = flat_map canonical (lane_events lane tests state); finish = Exit (pos 0) }
    → map planned_output new ≡ map (drawn_output seed tests) (range_with_len 0 (lane + 1))
plans_more seed tests lane state old new plan more is stood planned =
    ap (map planned_output) more ∙ map-append planned_output old (plan ∷ [])
    ∙ outputs_more seed tests lane (map planned_output old) (planned_output plan) is (planned ∙ ap (λ n. record { bytes = flat_map canonical (lane_events lane tests n); finish = Exit (pos 0) }) stood)

pub pieces_more : (old new : List Plan) (plan : Plan) → new ≡ old ++ plan ∷ [] → All (λ plan. plan.piece ≡ 65536) old → plan.piece ≡ 65536 → All (λ plan. plan.piece ≡ 65536) new
pieces_more old new plan more are one = subst (All (λ plan. plan.piece ≡ 65536)) (sym more) (All-append (λ plan. plan.piece ≡ 65536) old (plan ∷ []) are (All-cons (λ plan. plan.piece ≡ 65536) plan [] one (All-nil (λ plan. plan.piece ≡ 65536))))

pub state_behind : (seed tests lane before next : ℕ) → before ≡ state_after (lane * tests) (seed_state seed) → next ≡ state_after tests before → next ≡ state_after ((lane + 1) * tests) (seed_state seed)
state_behind seed tests lane before next stood drew = drew ∙ ap (state_after tests) stood ∙ lane_behind lane tests ((lane + 1) * tests) (seed_state seed) refl

-- ---- packets

test_packets : (lane test number : ℕ) → lane < 64 → test < 1000000 → All (HasLanePacket lane) (test_events lane test number)
test_packets lane test number small few =
    let begun : Event = drawn_event lane test InProgress 0 none_fit in
    let ended : Event = drawn_event lane test (drawn_status number) (drawn_nanos number) (drawn_nanos_fit number) in
    let last = All-cons (HasLanePacket lane) ended [] (test_has_packet lane test (drawn_status number) (drawn_nanos number) (drawn_nanos_fit number) small few) (All-nil (HasLanePacket lane)) in
    All-cons (HasLanePacket lane) begun (ended ∷ []) (test_has_packet lane test InProgress 0 none_fit small few) last

pub lane_has_packets : (lane tests state : ℕ) → lane < 64 → tests ≤ 1000000 → All (HasLanePacket lane) (lane_events lane tests state)
lane_has_packets lane zero state small few = All-nil (HasLanePacket lane)
lane_has_packets lane (suc tests) state small few =
    let number = drawn tests state in
    let front = lane_has_packets lane tests state small (omega (arith, few)) in
    subst (All (HasLanePacket lane)) (sym (test_more lane tests state) ∙ ap (λ n. lane_events lane n state) (add-one tests)) (All-append (HasLanePacket lane) (lane_events lane tests state) (test_events lane tests number) front (test_packets lane tests number small (omega (arith, few))))
