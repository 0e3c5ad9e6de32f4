-- The parts of a line that are kept.
use Rattle.std.specs.Prelude.{ℕ, ◌≤◌, length}
use Rattle.sub_number.specs.Texts.{IsText}
use Rattle.testr_conf.specs.Lines.{ConfLine, bad, skipped, more, section, setting}

-- what is kept of the line is a text of at most so many bytes
abbrev pub FitsWithin : ConfLine → ℕ → Type 0
FitsWithin bad size = Unit {0}
FitsWithin skipped size = Unit {0}
FitsWithin (more depth text line) size = (IsText text × (length text ≤ size)) × (IsText line × (length line ≤ size))
FitsWithin (section name) size = Unit {0}
FitsWithin (setting key own) size = IsText own × (length own ≤ size)
