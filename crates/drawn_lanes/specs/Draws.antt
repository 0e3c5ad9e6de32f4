-- The draws of a linear congruence (docs/FORMATS.md, "Generated outputs").
use Rattle.std.specs.Prelude.{ℕ, zero, suc, ◌+◌, ◌*◌, ◌/◌, ◌%◌, ◌^◌}

-- the state that a seed begins with
abbrev pub seed_state : (seed : ℕ) → ℕ
seed_state seed = seed % 2 ^ 31

-- a draw puts this state in the place of another
abbrev pub next_state : ℕ → ℕ
next_state state = (state * 1103515245 + 12345) % 2 ^ 31

-- and gives this number, of the state that it leaves
abbrev pub drawn_number : ℕ → ℕ
drawn_number state = state / 65536

-- the state after so many draws
abbrev pub state_after : (draws : ℕ) → ℕ → ℕ
state_after zero state = state
state_after (suc draws) state = next_state (state_after draws state)

-- the number of the draw before which there were so many
abbrev pub drawn : (before : ℕ) → ℕ → ℕ
drawn before state = drawn_number (state_after (suc before) state)
