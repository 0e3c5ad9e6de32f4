-- What the table `tool.stestr` of a `pyproject.toml` says (docs/FORMATS.md, "`.stestr.conf` and `pyproject.toml`").
use Rattle.std.specs.Prelude.{ℕ, Bool, true, false, ◌&&◌, Option, None, Some, Result, Ok, Err, List, codes, option_and_then, if◌then◌else◌}
use Rattle.std.specs.Str.{is_utf8}
use Rattle.command_words.specs.Items.{is_text}
use Rattle.testr_conf.specs.Settings.{unless_empty}
use Rattle.testr_conf.specs.declared.stestr.StestrValues.{StestrValues}
use Rattle.toml.specs.Data.{Data, Members, get, get_member, as_str, as_bool, as_table}
use Rattle.toml.specs.Parse.{parse_document}
use Rattle.sub_number.specs.Quotes.{is_path}
use Rattle.stestr_conf.specs.declared.table.TableFault.{TableFault}
use Rattle.stestr_conf.specs.declared.table.TableFault.TheVariants.{NotToml, NotTable, BadValue}
use Rattle.stestr_conf.specs.declared.table.TableKey.{TableKey}
use Rattle.stestr_conf.specs.declared.table.TableKey.TheVariants.{TestPath, TopDir, GroupRegex, ParallelClass}

-- the key of each kind
abbrev pub table_key : TableKey → List ℕ
table_key TestPath = codes "test_path"
table_key TopDir = codes "top_dir"
table_key GroupRegex = codes "group_regex"
table_key ParallelClass = codes "parallel_class"

-- a string that the key takes, if it is a text
abbrev pub takes : TableKey → List ℕ → Bool
takes TestPath value = is_path value
takes TopDir value = is_path value
takes GroupRegex value = true
takes ParallelClass value = true

-- A string that the key may have. A string of TOML is UTF-8 as it comes.
abbrev pub is_fit : TableKey → List ℕ → Bool
is_fit key value = takes key value && is_text value

-- the string of a key of strings, where it is one; an empty one is none
abbrev pub string_by : TableKey → Option (List ℕ) → Result (Option (List ℕ)) TableFault
string_by key None = Err (BadValue key)
string_by key (Some value) = if is_fit key value then Ok (unless_empty (Some value)) else Err (BadValue key)

-- the value of a key of strings, where it is set
abbrev pub string_value_by : TableKey → Option Data → Result (Option (List ℕ)) TableFault
string_value_by key None = Ok None
string_value_by key (Some value) = string_by key (as_str value)

-- whether tests of a class stay together, where the value is true or false
abbrev pub truth_by : Option Bool → Result Bool TableFault
truth_by None = Err (BadValue ParallelClass)
truth_by (Some value) = Ok value

-- the same, where the value is set
abbrev pub class_by : Option Data → Result Bool TableFault
class_by None = Ok false
class_by (Some value) = truth_by (as_bool value)

-- the second answer is made of the first, where that is no fault
abbrev pub and_next : {A B : Type 0} → Result A TableFault → (A → Result B TableFault) → Result B TableFault
and_next (Ok value) next = next value
and_next (Err fault) next = Err fault

-- the value that the members give to this key
abbrev pub string_value_at : TableKey → Members → Result (Option (List ℕ)) TableFault
string_value_at key members = string_value_by key (get_member (table_key key) members)

-- the values that the members give to the keys
abbrev pub member_values : Members → Result StestrValues TableFault
member_values members =
    and_next (string_value_at TestPath members) (λ test_path.
    and_next (string_value_at TopDir members) (λ top_dir.
    and_next (string_value_at GroupRegex members) (λ group_regex.
    and_next (class_by (get_member (table_key ParallelClass) members)) (λ parallel_class.
    Ok (record { test_path = test_path; top_dir = top_dir; group_regex = group_regex; parallel_class = parallel_class })))))

-- what a table says, where it is one
abbrev pub table_by : Option Members → Result (Option StestrValues) TableFault
table_by None = Err NotTable
table_by (Some members) = and_next (member_values members) (λ values. Ok (Some values))

-- what is said where the member `stestr` is this; none where there is none
abbrev pub values_by : Option Data → Result (Option StestrValues) TableFault
values_by None = Ok None
values_by (Some value) = table_by (as_table value)

-- what a document says, where the text is one
abbrev pub document_by : Option Members → Result (Option StestrValues) TableFault
document_by None = Err NotToml
document_by (Some members) = values_by (option_and_then (get (codes "stestr")) (get_member (codes "tool") members))

-- what the text says
abbrev pub table_of : List ℕ → Result (Option StestrValues) TableFault
table_of text = if is_utf8 text then document_by (parse_document text) else Err NotToml
