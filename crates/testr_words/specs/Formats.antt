-- In which form words ask for what stands behind a report (docs/COMMANDS.md, "Words").
use Rattle.std.specs.Prelude.{ℕ, Option, Some, None, List, codes, if◌then◌else◌}
use Rattle.std.specs.List.{fold}
use Rattle.std.specs.Str.{bytes_eq}
use Rattle.command_words.specs.Items.{Item, flag, valued, name}
use Rattle.testr_words.specs.declared.format.FormatKind.{FormatKind}
use Rattle.testr_words.specs.declared.format.FormatKind.TheVariants.{Plain, Github}

-- the option that tells the kind of format
abbrev pub format_word : List ℕ
format_word = codes "--format"

-- the kind of format that a word names
abbrev pub format_named : List ℕ → Option FormatKind
format_named word =
    if bytes_eq word (codes "text") then Some Plain
    else (if bytes_eq word (codes "github") then Some Github
    else None)

-- the kind behind an option with this value
abbrev pub format_with : FormatKind → (option value : List ℕ) → Option FormatKind
format_with kind option value = if bytes_eq option format_word then format_named value else Some kind

-- the kind behind one item more: a value that names none spoils it for good
abbrev pub format_behind : Option FormatKind → Item → Option FormatKind
format_behind None item = None
format_behind (Some kind) (flag given) = Some kind
format_behind (Some kind) (valued option value) = format_with kind option value
format_behind (Some kind) (name word) = Some kind

-- the kind that the options ask for: the last stands, and where there is none, it is plain text
abbrev pub format_in : List Item → Option FormatKind
format_in items = fold format_behind (Some Plain) items
