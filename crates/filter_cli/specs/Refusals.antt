-- The refusals, each of one step, with its status and its line, and the line of an input that ends inside a packet
-- (docs/COMMANDS.md, "Refusals").
use Rattle.std.specs.Prelude.{ℕ, Option, None, Some, List, [], ◌∷◌, ◌++◌, codes, Result, Ok, Err}
use Rattle.filter_cli.specs.declared.refusal.UsageFault.{UsageFault}
use Rattle.filter_cli.specs.declared.refusal.UsageFault.TheVariants.{Tool, Words}
use Rattle.filter_cli.specs.declared.refusal.Refusal.{Refusal}
use Rattle.filter_cli.specs.declared.refusal.Refusal.TheVariants.{Usage, Memory, Patterns, Pump, File}
use Rattle.filter_cli.specs.declared.pump_loop.PumpFault.{PumpFault}
use Rattle.filter_cli.specs.declared.pump_loop.PumpFault.TheVariants as pump_fault
use Rattle.filter_cli.specs.declared.file_loop.FileFault.{FileFault}
use Rattle.filter_cli.specs.declared.file_loop.FileFault.TheVariants as file_fault
use Rattle.filter_cli.specs.declared.tool.Tool.{Tool as ATool}
use Rattle.filter_cli.specs.declared.filter.StreamEnd.{StreamEnd}
use Rattle.filter_cli.specs.Tools.{tool_of}
use Rattle.filter_cli.specs.Patterns.{patterns_exit_status, patterns_text}

-- why words are no filter: the first one names none, or those behind it are wrong
abbrev pub usage_with : Option ATool → UsageFault
usage_with None = Tool
usage_with (Some t) = Words

-- why these words are no filter, by the filter that the first one names, if it names one
abbrev pub usage_fault : List (List ℕ) → UsageFault
usage_fault words = usage_with (tool_of words)

-- a line begins with the filter's name, which is the first word; where that names no filter, the line has none
abbrev pub filter_name_in : List (List ℕ) → List ℕ
filter_name_in [] = []
filter_name_in (name ∷ words) = name

-- the whole line of wrong usage, which has the filter's name only where the first word names a filter
abbrev pub usage_line : (name : List ℕ) → UsageFault → List ℕ
usage_line name Tool = codes "usage: testr COMMAND or a subunit filter\n"
usage_line name Words = name ++ codes ": wrong usage\n"

-- the exit status where a pump stopped: 3 for an input that is too long, 4 where a call failed, 5 where memory was
-- wanting
abbrev pub pump_exit_status : PumpFault → ℕ
pump_exit_status pump_fault.Input = 4
pump_exit_status pump_fault.TooLong = 3
pump_exit_status pump_fault.Output = 4
pump_exit_status pump_fault.NoMemory = 5

-- what the line of that refusal says behind the filter's name
abbrev pub pump_text : PumpFault → List ℕ
pump_text pump_fault.Input = codes ": fault reading standard input\n"
pump_text pump_fault.TooLong = codes ": standard input is too long\n"
pump_text pump_fault.Output = codes ": fault writing output\n"
pump_text pump_fault.NoMemory = codes ": out of memory\n"

-- the exit status where a named file was not filtered whole: 3 where it is not there or too long, 4 where a call failed,
-- 5 where memory was wanting
abbrev pub file_exit_status : FileFault → ℕ
file_exit_status file_fault.Read = 4
file_exit_status file_fault.NoFile = 3
file_exit_status file_fault.TooLong = 3
file_exit_status file_fault.Output = 4
file_exit_status file_fault.NoMemory = 5

-- what the line of that refusal says behind the filter's name; a file that is not there or too long is named
abbrev pub file_text : (file : List ℕ) → FileFault → List ℕ
file_text file file_fault.Read = codes ": fault reading a file\n"
file_text file file_fault.NoFile = codes ": no file " ++ (file ++ codes "\n")
file_text file file_fault.TooLong = codes ": " ++ (file ++ codes " is too long\n")
file_text file file_fault.Output = codes ": fault writing output\n"
file_text file file_fault.NoMemory = codes ": out of memory\n"

-- the exit status of a refusal: 2 for wrong usage, 3 for a pattern, input or file that is not taken, 4 where a call
-- failed, 5 for want of memory
abbrev pub filter_refusal_exit_status : Refusal → ℕ
filter_refusal_exit_status (Usage fault) = 2
filter_refusal_exit_status (Memory fault) = 5
filter_refusal_exit_status (Patterns fault) = patterns_exit_status fault
filter_refusal_exit_status (Pump fault) = pump_exit_status fault
filter_refusal_exit_status (File file fault) = file_exit_status fault

-- the whole line of a refusal, which begins with the filter's name where the words name a filter
abbrev pub filter_refusal_line : (name : List ℕ) → Refusal → List ℕ
filter_refusal_line name (Usage fault) = usage_line name fault
filter_refusal_line name (Memory fault) = name ++ codes ": out of memory\n"
filter_refusal_line name (Patterns fault) = name ++ patterns_text fault
filter_refusal_line name (Pump fault) = name ++ pump_text fault
filter_refusal_line name (File file fault) = name ++ file_text file fault

-- the line that tells that what was read ends inside a packet; it is no refusal
abbrev pub inside_line : (name : List ℕ) → List ℕ
inside_line name = name ++ codes ": the input ends inside a packet\n"

-- the exit status of an outcome: the filter's own, or that of the refusal
abbrev pub filter_exit_status : Result StreamEnd Refusal → ℕ
filter_exit_status (Ok end) = end.status
filter_exit_status (Err refusal) = filter_refusal_exit_status refusal
