-- What the options of `subunit-filter` and `subunit2csv` ask for (docs/COMMANDS.md, "subunit-filter", "subunit2csv").
use Rattle.std.specs.Prelude.{ℕ, Bool, true, false, ◌||◌, Option, Some, None, List, codes, if◌then◌else◌}
use Rattle.std.specs.List.{flat_map, fold}
use Rattle.std.specs.Option.{option_to_list}
use Rattle.std.specs.Str.{bytes_eq}
use Rattle.command_words.specs.Items.{Item, flag, valued, name}
use Rattle.filter_cli.specs.declared.selection.Selection.{Selection}
use Rattle.filter_cli.specs.declared.selection.Switch.{Switch}
use Rattle.filter_cli.specs.declared.selection.Switch.TheVariants as switch
use Rattle.filter_cli.specs.declared.selection.Added.{Added}
use Rattle.filter_cli.specs.declared.selection.Added.TheVariants as added

-- ---- switches

-- a flag that turns a switch on or off, or neither
abbrev pub set_by : (on off : Bool) → Option Bool
set_by on off = if on then Some true else (if off then Some false else None)

-- this flag, or that for genuine failures alone
abbrev pub is_or_genuine : (given key : List ℕ) → Bool
is_or_genuine given key = bytes_eq given key || bytes_eq given (codes "--only-genuine-failures")

-- how a flag sets a switch
abbrev pub says : Switch → List ℕ → Option Bool
says switch.Success given = set_by (bytes_eq given (codes "--success")) (is_or_genuine given (codes "--no-success"))
says switch.Failure given = set_by (bytes_eq given (codes "--failure")) (bytes_eq given (codes "--no-failure"))
says switch.Skip given = set_by false (is_or_genuine given (codes "--no-skip"))
says switch.XFail given = set_by (bytes_eq given (codes "--xfail")) (is_or_genuine given (codes "--no-xfail"))
says switch.Hidden given = set_by (is_or_genuine given (codes "--no-passthrough")) false

-- how an item sets a switch: only a flag can, and no value or name
abbrev pub said : Switch → Item → Option Bool
said s (flag given) = says s given
said s (valued option value) = None
said s (name word) = None

-- what the items say of a switch, in their order
abbrev pub said_of_switch : Switch → List Item → List Bool
said_of_switch s items = flat_map (λ item. option_to_list (said s item)) items

-- the last of the values, or this one where there are none
abbrev pub last_or : (first : Bool) → List Bool → Bool
last_or first values = fold (λ before now. now) first values

-- A switch stands as the last item says that speaks of it. Where none does, it stands as at first.
abbrev pub stands : Switch → (first : Bool) → List Item → Bool
stands s first items = last_or first (said_of_switch s items)

-- ---- values

-- which options add to this; the patterns are those of both kinds
abbrev pub adds_to : Added → List ℕ → Bool
adds_to added.WithTag option = bytes_eq option (codes "--with-tag")
adds_to added.WithoutTag option = bytes_eq option (codes "--without-tag")
adds_to added.WithId option = bytes_eq option (codes "--with-id")
adds_to added.WithoutId option = bytes_eq option (codes "--without-id")
adds_to added.Pattern option = bytes_eq option (codes "--with-id") || bytes_eq option (codes "--without-id")

-- the value that the item adds to this
abbrev pub value_added : Added → Item → Option (List ℕ)
value_added a (flag given) = None
value_added a (valued option value) = if adds_to a option then Some value else None
value_added a (name word) = None

-- the values that the items add to this, in their order
abbrev pub values_added : Added → List Item → List (List ℕ)
values_added a items = flat_map (λ item. option_to_list (value_added a item)) items

-- the patterns of both kinds, in the order of the words, which is the order in which they are checked
abbrev pub patterns_asked : List Item → List (List ℕ)
patterns_asked items = values_added added.Pattern items

-- ---- all of it

-- what the items ask for, where at first tests that passed are kept or not, and output of no test is hidden or not
abbrev pub selection_from : (success hidden : Bool) → List Item → Selection
selection_from success hidden items = record {
  success = stands switch.Success success items;
  failure = stands switch.Failure true items;
  skip = stands switch.Skip true items;
  xfail = stands switch.XFail true items;
  hidden = stands switch.Hidden hidden items;
  with_tags = values_added added.WithTag items;
  without_tags = values_added added.WithoutTag items;
  with_ids = values_added added.WithId items;
  without_ids = values_added added.WithoutId items;
  patterns = patterns_asked items;
}

-- of `subunit-filter`: at first all but tests that passed are kept, and output of no test is passed on
abbrev pub selection_of : List Item → Selection
selection_of items = selection_from false false items

-- of `subunit2csv`: at first all tests are kept, and foreign bytes are dropped
abbrev pub csv_selection_of : List Item → Selection
csv_selection_of items = selection_from true true items
