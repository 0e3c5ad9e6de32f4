use Rattle.std.specs.Prelude.{ℕ, ◌^◌}

-- how many bytes a read gives at most
abbrev pub most_at_once : ℕ
most_at_once = 65536

-- how many bytes an input may have
abbrev pub most_bytes : ℕ
most_bytes = 2 ^ 60
