-- The lines one after another, as the code reads them.
use Rattle.std.specs.Prelude.{◌≡◌, ℕ, Bool, false, Option, None, Some, is_some, List, [], Result, Ok, Err, if◌then◌else◌}
use Rattle.testr_conf.specs.Lines.{ConfLine, bad, skipped, more, section, setting}
use Rattle.testr_conf.specs.Settings.{Setting, Settings, section_of, is_default, value_above, or_later, fault_if, unless_empty, words_in}
use Rattle.testr_conf.specs.Names.{named}
use Rattle.testr_conf.specs.Values.{is_unfit}
use Rattle.testr_conf.specs.Keys.{found_value, with_value, found_of}
use Rattle.testr_conf.specs.declared.fault.ConfFault.{ConfFault}
use Rattle.testr_conf.specs.declared.fault.ConfFault.TheVariants.{BadLine, NoSection, Repeated, NoCommand}
use Rattle.testr_conf.specs.declared.name.Dialect.{Dialect}
use Rattle.testr_conf.specs.declared.name.Name.{Name}
use Rattle.testr_conf.specs.declared.found_values.Found.{Found}
use Rattle.testr_conf.specs.declared.line_reader.Place.{Place}
use Rattle.testr_conf.specs.declared.line_reader.Place.TheVariants.{Nowhere, Default, Elsewhere}
use Rattle.testr_conf.specs.declared.line_reader.Reading.{Reading}

-- where a line stands that comes behind this section line
abbrev pub place_in_section : Option (List ℕ) → Place
place_in_section None = Nowhere
place_in_section (Some name) = if is_default (Some name) then Default else Elsewhere

-- what is known behind these lines, whose settings are these
abbrev pub reading_of : Dialect → List ConfLine → List Setting → Reading
reading_of dialect before settings =
    record { dialect = dialect; place = place_in_section (section_of before); found = found_of dialect settings }

-- a key that is used has its value already
abbrev pub is_taken : Option Name → Found → Bool
is_taken None found = false
is_taken (Some name) found = is_some (found_value name found)

-- the fault of a setting in this place, by its line, whether its key was taken before, and whether it may not have its value
abbrev pub setting_fault : Place → ℕ → (taken unfit : Bool) → Option ConfFault
setting_fault Nowhere number taken unfit = Some (NoSection number)
setting_fault Default number taken unfit = or_later (fault_if taken (Repeated number)) (fault_if unfit (BadLine number))
setting_fault Elsewhere number taken unfit = None

-- why the line is refused in front of these, where so much is known
abbrev pub fault_at : Reading → ℕ → ConfLine → (below : List ConfLine) → Option ConfFault
fault_at reading number (section name) below = None
fault_at reading number (setting key own) below =
    setting_fault reading.place number (is_taken (named reading.dialect key) reading.found) (is_unfit (named reading.dialect key) (value_above own below))
fault_at reading number (more depth text line) below = None
fault_at reading number skipped below = None
fault_at reading number bad below = Some (BadLine number)

-- what is found behind a setting in this place
abbrev pub kept : Place → Option Name → List ℕ → Found → Found
kept Nowhere name value found = found
kept Elsewhere name value found = found
kept Default None value found = found
kept Default (Some name) value found = with_value name value found

-- what is known behind the line then, in front of these lines
abbrev pub known_after : Reading → ConfLine → List ConfLine → Reading
known_after reading (section name) below = record reading { place = place_in_section (Some name) }
known_after reading (setting key own) below =
    record reading { found = kept reading.place (named reading.dialect key) (value_above own below) reading.found }
known_after reading (more depth text line) below = reading
known_after reading skipped below = reading
known_after reading bad below = reading

-- the line is not refused, and this is what is known behind it
pub record TakesConfLine (old new : Reading) (number : ℕ) (line : ConfLine) (below : List ConfLine) : Type 0 where
  pub fine : fault_at old number line below ≡ None
  pub known : new ≡ known_after old line below

-- What the values that were found come to.

-- the settings of what was found, where there is this command
abbrev pub settled_with : Option (List ℕ) → Found → Result Settings ConfFault
settled_with None found = Err NoCommand
settled_with (Some command) found = Ok (record {
  folder = [];
  command = command;
  id_option = unless_empty found.id_option;
  list_option = unless_empty found.list_option;
  id_list = unless_empty found.id_list;
  concurrency = unless_empty found.concurrency;
  group_regex = unless_empty found.group_regex;
  filter_tags = words_in (unless_empty found.filter_tags);
  arguments = [];
  provision = unless_empty found.provision;
  execute = unless_empty found.execute;
  dispose = unless_empty found.dispose;
  instances = [];
})

-- the settings of what was found
abbrev pub settled : Found → Result Settings ConfFault
settled found = settled_with (unless_empty found.command) found
