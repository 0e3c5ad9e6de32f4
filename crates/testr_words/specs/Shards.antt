-- A shard of a build's tests (docs/FORMATS.md, "Shards").
use Rattle.std.specs.Prelude.{ℕ, ◌&&◌, ◌==◌, Bool, nat_le, Option, Some, None, if◌then◌else◌}
use Rattle.testr_words.specs.declared.shard.TheConstants.{MOST_SHARDS}

-- the shard of this number, which is counted from 1, of so many
pub record NumberedShard : Type 0 where
  pub number : ℕ
  pub count : ℕ

-- there is such a shard
abbrev pub has_shard : (number count : ℕ) → Bool
has_shard number count = nat_le 1 number && (nat_le number count && nat_le count MOST_SHARDS)

-- that shard, where there is one
abbrev pub part_of : (number count : ℕ) → Option NumberedShard
part_of number count = if has_shard number count then Some (record { number = number; count = count }) else None

-- the byte that parts the number from the count
abbrev pub slash : ℕ → Bool
slash byte = byte == 47
