-- A text with variables, as the code goes through it.
use Rattle.std.specs.Prelude.{◌≡◌, ◌≤◌, ◌+◌, ℕ, List, ◌∷◌, ◌++◌, length, take, drop, map}
use Rattle.sub_number.specs.Texts.{IsText}
use Rattle.testr_conf.specs.Variables as spec
use Rattle.testr_conf.specs.declared.variable.Template.{Template}
use Rattle.testr_conf.specs.declared.variable.Variable.{Variable}
use Rattle.testr_conf.specs.declared.variable.TestValues.{TestValues}
use Rattle.testr_conf.specs.declared.variable.ExecuteValues.{ExecuteValues}
use Rattle.testr_conf.specs.declared.variable.Values.{Values}
use Rattle.testr_conf.specs.declared.variable.Values.TheVariants as values

-- the values that the code's values of a test command stand for
abbrev pub seen_test : TestValues → spec.TestValues
seen_test v = record { id_option = v.id_option.now; id_file = v.id_file.now; id_list = v.id_list.now; list_option = v.list_option.now }

-- the same of a text that runs a command on an instance
abbrev pub seen_execute : ExecuteValues → spec.ExecuteValues
seen_execute v = record { instance = v.instance.now; files = v.files.now; command = v.command.now }

-- the same of each setting
abbrev pub seen_values : Values → spec.Values
seen_values (values.Test v) = spec.of_test (seen_test v)
seen_values (values.Provision count) = spec.of_provision count.now
seen_values (values.Execute v) = spec.of_execute (seen_execute v)
seen_values (values.Dispose instances) = spec.of_dispose instances.now

-- each of the values of a test command is a text
pub record AreTestTexts (values : spec.TestValues) : Type 0 where
  pub id_option : IsText values.id_option
  pub id_file : IsText values.id_file
  pub id_list : IsText values.id_list
  pub list_option : IsText values.list_option

-- each of those of a text that runs a command on an instance is one
pub record AreExecuteTexts (values : spec.ExecuteValues) : Type 0 where
  pub instance : IsText values.instance
  pub files : IsText values.files
  pub command : IsText values.command

-- each of the values is a text
abbrev pub AreTextValues : spec.Values → Type 0
AreTextValues (spec.of_test values) = AreTestTexts values
AreTextValues (spec.of_provision count) = IsText count
AreTextValues (spec.of_execute values) = AreExecuteTexts values
AreTextValues (spec.of_dispose instances) = IsText instances

-- the first variable of the text is this one, and its name begins at this place; what stands in front of it and behind
-- it are texts where the text is one
pub record FirstVariable (template : Template) (text : List ℕ) (place : ℕ) (v : Variable) : Type 0 where
  pub in_range : place + length (spec.variable_name v) ≤ length text
  pub pieces : spec.command_pieces template text
      ≡ map spec.byte (take place text) ++ spec.variable v ∷ spec.command_pieces template (drop (place + length (spec.variable_name v)) text)
  pub texts : IsText text → IsText (take place text) × IsText (drop (place + length (spec.variable_name v)) text)
