-- The filters' names, and the options that each has (docs/COMMANDS.md, "Filters").
use Rattle.std.specs.Prelude.{ℕ, Bool, ◌||◌, Option, Some, None, List, [], ◌∷◌, codes, if◌then◌else◌}
use Rattle.std.specs.Str.{bytes_eq}
use Rattle.command_words.specs.declared.table.Kind.{Kind}
use Rattle.command_words.specs.declared.table.Kind.TheVariants.{Flag, Valued}
use Rattle.filter_cli.specs.declared.tool.Tool.{Tool}
use Rattle.filter_cli.specs.declared.tool.Tool.TheVariants as tool

-- the filter of this name that reads or writes version 1
abbrev pub v1_tool_named : List ℕ → Option Tool
v1_tool_named name =
    if bytes_eq name (codes "subunit-1to2") then Some tool.FromV1
    else (if bytes_eq name (codes "subunit-2to1") then Some tool.ToV1
    else None)

-- the filter of this name that reads or writes another form than Subunit, or its version 1
abbrev pub converter_named : List ℕ → Option Tool
converter_named name =
    if bytes_eq name (codes "tap2subunit") then Some tool.FromTap
    else (if bytes_eq name (codes "subunit2tap") then Some tool.ToTap
    else (if bytes_eq name (codes "subunit2csv") then Some tool.ToCsv
    else (if bytes_eq name (codes "subunit2junitxml") then Some tool.ToJunit
    else (if bytes_eq name (codes "subunit-output") then Some tool.Output
    else v1_tool_named name))))

-- the filter of this name, of all that there are
abbrev pub tool_named : List ℕ → Option Tool
tool_named name =
    if bytes_eq name (codes "subunit-filter") then Some tool.Filter
    else (if bytes_eq name (codes "subunit-tags") then Some tool.Tags
    else (if bytes_eq name (codes "subunit-ls") then Some tool.Ls
    else (if bytes_eq name (codes "subunit-stats") then Some tool.Stats
    else (if bytes_eq name (codes "subunit-trace") then Some tool.Trace
    else converter_named name))))

-- the filter that the first word names
abbrev pub tool_of : List (List ℕ) → Option Tool
tool_of [] = None
tool_of (name ∷ words) = tool_named name

-- the flags of `subunit-filter`, of which `--no-error` changes nothing: a stream tells of no errors beside failures
abbrev pub is_switch : List ℕ → Bool
is_switch name =
    bytes_eq name (codes "--success")
    || (bytes_eq name (codes "--no-success")
    || (bytes_eq name (codes "--failure")
    || (bytes_eq name (codes "--no-failure")
    || (bytes_eq name (codes "--no-error")
    || (bytes_eq name (codes "--no-skip")
    || (bytes_eq name (codes "--xfail")
    || (bytes_eq name (codes "--no-xfail")
    || (bytes_eq name (codes "--only-genuine-failures")
    || bytes_eq name (codes "--no-passthrough")))))))))

-- its options with a value, which `subunit2csv` has too
abbrev pub is_addition : List ℕ → Bool
is_addition name =
    bytes_eq name (codes "--with-tag")
    || (bytes_eq name (codes "--without-tag")
    || (bytes_eq name (codes "--with-id")
    || bytes_eq name (codes "--without-id")))

-- the options of `subunit-filter`: its flags, and those with a value
abbrev pub filter_kind : List ℕ → Option Kind
filter_kind name = if is_switch name then Some Flag else (if is_addition name then Some Valued else None)

-- the options of `subunit-ls`, which are all flags
abbrev pub ls_kind : List ℕ → Option Kind
ls_kind name = if bytes_eq name (codes "--times") || (bytes_eq name (codes "--exists") || bytes_eq name (codes "--no-passthrough")) then Some Flag else None

-- the flags of `subunit2csv`
abbrev pub is_csv_switch : List ℕ → Bool
is_csv_switch name =
    bytes_eq name (codes "--no-success")
    || (bytes_eq name (codes "--no-failure")
    || (bytes_eq name (codes "--no-skip")
    || bytes_eq name (codes "--no-xfail")))

-- the options of `subunit2csv`: its flags, and the options with a value of `subunit-filter`
abbrev pub csv_kind : List ℕ → Option Kind
csv_kind name = if is_csv_switch name then Some Flag else (if is_addition name then Some Valued else None)

-- the one flag of `subunit-stats` and `subunit2junitxml`, which changes nothing of the second
abbrev pub hiding_kind : List ℕ → Option Kind
hiding_kind name = if bytes_eq name (codes "--no-passthrough") then Some Flag else None

-- the options of `subunit-trace`
abbrev pub trace_kind : List ℕ → Option Kind
trace_kind name = if bytes_eq name (codes "--live") then Some Valued else (if bytes_eq name (codes "--no-summary") then Some Flag else None)

-- How an option of a filter is written; none where the filter has no such option. The words of `subunit-output` are read
-- where their events are made.
abbrev pub kind_in : Tool → List ℕ → Option Kind
kind_in tool.Filter name = filter_kind name
kind_in tool.Tags name = None
kind_in tool.Ls name = ls_kind name
kind_in tool.Stats name = hiding_kind name
kind_in tool.FromTap name = None
kind_in tool.ToTap name = None
kind_in tool.ToCsv name = csv_kind name
kind_in tool.ToJunit name = hiding_kind name
kind_in tool.Output name = None
kind_in tool.FromV1 name = None
kind_in tool.ToV1 name = None
kind_in tool.Trace name = trace_kind name
