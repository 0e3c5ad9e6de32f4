-- Which lines words ask for of the tests of a run, while it goes on (docs/COMMANDS.md, "Live lines").
use Rattle.std.specs.Prelude.{ℕ, Option, Some, None, List, codes, if◌then◌else◌}
use Rattle.std.specs.List.{fold}
use Rattle.std.specs.Str.{bytes_eq}
use Rattle.command_words.specs.Items.{Item, flag, valued, name}
use Rattle.testr_words.specs.declared.live_kind.LiveKind.{LiveKind}
use Rattle.testr_words.specs.declared.live_kind.LiveKind.TheVariants.{Nothing, Tests, Failures, Dots}

-- the option that tells the kind of lines
abbrev pub live_word : List ℕ
live_word = codes "--live"

-- the kind of lines that a word names
abbrev pub live_kind_named : List ℕ → Option LiveKind
live_kind_named word =
    if bytes_eq word (codes "none") then Some Nothing
    else (if bytes_eq word (codes "tests") then Some Tests
    else (if bytes_eq word (codes "failures") then Some Failures
    else (if bytes_eq word (codes "dots") then Some Dots
    else None)))

-- the kind behind an option with this value
abbrev pub live_kind_with : LiveKind → (option value : List ℕ) → Option LiveKind
live_kind_with kind option value = if bytes_eq option live_word then live_kind_named value else Some kind

-- the kind behind one item more: a value that names none spoils it for good
abbrev pub live_kind_behind : Option LiveKind → Item → Option LiveKind
live_kind_behind None item = None
live_kind_behind (Some kind) (flag given) = Some kind
live_kind_behind (Some kind) (valued option value) = live_kind_with kind option value
live_kind_behind (Some kind) (name word) = Some kind

-- the kind that the options ask for: the last stands, and where there is none, nothing is printed
abbrev pub live_in : List Item → Option LiveKind
live_in items = fold live_kind_behind (Some Nothing) items
