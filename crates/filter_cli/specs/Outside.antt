-- The outside at one moment.
use Rattle.std.specs.Prelude.{◌⊎◌, ℕ, List, refl}
use Rattle.edge_io.specs.Causes.{Rose}
use Rattle.edge_io.specs.Chains.{Part}
use Rattle.edge_io.specs.Disk.{Files}
use Rattle.edge_io.specs.Seen.{Seen}
use Rattle.filter_cli.specs.Pipe.{Pipe, pipe}

-- what is seen of all that a filter's call is given: files that are only read, the input, the output, and the errors'
-- sink
pub record FilterOutside : Type 0 where
  pub site : Seen Files
  pub input : Seen (List ℕ)
  pub out : Seen (List ℕ)
  pub errors : Seen (List ℕ)

-- the outside of which these four parts are seen
abbrev pub filter_outside : Seen Files → Seen (List ℕ) → Seen (List ℕ) → Seen (List ℕ) → FilterOutside
filter_outside site input out errors = record { site = site; input = input; out = out; errors = errors }

-- all but the errors' sink: what a filter may touch
pub record Reach : Type 0 where
  pub site : Seen Files
  pub pipe : Pipe

-- the reach of which these parts are seen: files, input and output
abbrev pub reach : Seen Files → Seen (List ℕ) → Seen (List ℕ) → Reach
reach site input out = record { site = site; pipe = pipe input out }

-- what a filter may touch of this outside
abbrev pub reach_of : FilterOutside → Reach
reach_of w = reach w.site w.input w.out

-- the input and the output
abbrev pub reach_pipe : Part Reach Pipe
reach_pipe = record {
  of = λ r. r.pipe;
  put = λ r part. record { site = r.site; pipe = part };
  of_put = λ r part. refl;
}

-- a count of faults rose
abbrev pub PipeRose : Pipe → Pipe → Type 0
PipeRose before after = Rose before.input.faults after.input.faults ⊎ Rose before.out.faults after.out.faults
