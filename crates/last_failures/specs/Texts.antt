-- What is printed of last failures (docs/COMMANDS.md, "Failing ids").
use Rattle.std.specs.Prelude.{ℕ, Option, None, Some, List, [], ◌++◌, codes, length}
use Rattle.std.specs.FinMap as fin
use Rattle.std.specs.FinMap.{FinMap}
use Rattle.std.specs.Fmt.{decimal}
use Rattle.std.specs.List.{flat_map}
use Rattle.outcome_fold.specs.declared.row.Ended.TheVariants.{Fail}
use Rattle.outcome_fold.specs.declared.row.Row.{Row}
use Rattle.outcome_fold.specs.Order.{text_cmp}
use Rattle.outcome_fold.specs.Lines.{newline}
use Rattle.sub_text.specs.Texts.{failure_of}
use Rattle.last_failures.specs.declared.failures.Failure.{Failure}

-- a row of this id that failed without a text
abbrev pub bare_row : List ℕ → Row
bare_row id = record { id = id; route = None; ended = Fail; tags = []; nanos = None; text = []; reason = [] }

-- the row that was found of the id, or else the bare one
abbrev pub row_or_bare : List ℕ → Option Failure → Row
row_or_bare id None = bare_row id
row_or_bare id (Some failure) = failure.row

-- the block of an id, as it stands in a report
abbrev pub block_of : FinMap text_cmp Failure → List ℕ → List ℕ
block_of found id = failure_of (row_or_bare id (fin.get found id))

-- the block of each of the ids, in their order, and then their number
abbrev pub failures_text : List (List ℕ) → FinMap text_cmp Failure → List ℕ
failures_text ids found = flat_map (block_of found) ids ++ codes "failures=" ++ decimal (length ids) ++ newline

-- the packets that were found, where some were
abbrev pub packets_or_none : Option Failure → List ℕ
packets_or_none None = []
packets_or_none (Some failure) = failure.packets

-- the packets of the last failure of each of the ids, in their order
abbrev pub packets_text : List (List ℕ) → FinMap text_cmp Failure → List ℕ
packets_text ids found = flat_map (λ id. packets_or_none (fin.get found id)) ids
