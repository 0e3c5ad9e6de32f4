-- The variables of the settings, and what stands in their place (docs/FORMATS.md, "Jobs" and "Instances").
use Rattle.std.specs.Prelude.{ℕ, zero, suc, ◌-◌, Bool, false, nat_eq, Option, None, Some, List, [], ◌∷◌, length, codes}
use Rattle.std.specs.List.{find, starts_with, list_any, flat_map}
use Rattle.std.specs.Str.{bytes_eq}
use Rattle.testr_conf.specs.declared.variable.Template.{Template}
use Rattle.testr_conf.specs.declared.variable.Template.TheVariants.{Test, Provision, Execute, Dispose}
use Rattle.testr_conf.specs.declared.variable.Variable.{Variable}
use Rattle.testr_conf.specs.declared.variable.Variable.TheVariants.{IdOption, IdFile, IdList, ListOption, InstanceCount, InstanceId, Files, Command, InstanceIds}

-- how a variable is written
abbrev pub variable_name : Variable → List ℕ
variable_name IdOption = codes "$IDOPTION"
variable_name IdFile = codes "$IDFILE"
variable_name IdList = codes "$IDLIST"
variable_name ListOption = codes "$LISTOPT"
variable_name InstanceCount = codes "$INSTANCE_COUNT"
variable_name InstanceId = codes "$INSTANCE_ID"
variable_name Files = codes "$FILES"
variable_name Command = codes "$COMMAND"
variable_name InstanceIds = codes "$INSTANCE_IDS"

-- Those of each setting that has some. Of these no name begins with another one, so their order does not matter.
abbrev pub variables : Template → List Variable
variables Test = IdOption ∷ IdFile ∷ IdList ∷ ListOption ∷ []
variables Provision = InstanceCount ∷ []
variables Execute = InstanceId ∷ Files ∷ Command ∷ []
variables Dispose = InstanceIds ∷ []

-- the variable of such a setting with whose name the text begins, if any
abbrev pub variable_at : Template → List ℕ → Option Variable
variable_at template text = find (λ v. starts_with nat_eq text (variable_name v)) (variables template)

-- a variable, or a byte that is left as it is
pub data CommandPiece : Type 0 where
  variable : Variable → CommandPiece
  byte : ℕ → CommandPiece

-- the variable that begins here, or the byte that stands here
abbrev pub command_piece_at : Option Variable → ℕ → CommandPiece
command_piece_at (Some v) b = variable v
command_piece_at None b = byte b

-- how many bytes of its name stand behind the first
abbrev pub rest_of_name : Option Variable → ℕ
rest_of_name (Some v) = length (variable_name v) - 1
rest_of_name None = 0

-- the pieces of a text from left to right, where its first bytes, so many, end a name that was found
abbrev pub pieces_behind : Template → ℕ → List ℕ → List CommandPiece
pieces_behind template skip [] = []
pieces_behind template (suc skip) (b ∷ text) = pieces_behind template skip text
pieces_behind template zero (b ∷ text) =
    command_piece_at (variable_at template (b ∷ text)) b ∷ pieces_behind template (rest_of_name (variable_at template (b ∷ text))) text

-- the command as its variables and the bytes between them
abbrev pub command_pieces : Template → List ℕ → List CommandPiece
command_pieces template text = pieces_behind template 0 text

-- the piece is this variable
abbrev pub is_variable : Variable → CommandPiece → Bool
is_variable v (variable w) = bytes_eq (variable_name v) (variable_name w)
is_variable v (byte b) = false

-- whether the variable is found in the text of a test command
abbrev pub has_variable : Variable → List ℕ → Bool
has_variable v text = list_any (is_variable v) (command_pieces Test text)

-- what stands in place of each variable of a test command
pub record TestValues : Type 0 where
  pub id_option : List ℕ
  pub id_file : List ℕ
  pub id_list : List ℕ
  pub list_option : List ℕ

-- what stands in place of each variable of a text that runs a command on an instance
pub record ExecuteValues : Type 0 where
  pub instance : List ℕ
  pub files : List ℕ
  pub command : List ℕ

-- what stands in place of the variables of a setting
pub data Values : Type 0 where
  of_test : TestValues → Values
  of_provision : (count : List ℕ) → Values
  of_execute : ExecuteValues → Values
  of_dispose : (instances : List ℕ) → Values

-- the setting that has these variables
abbrev pub template_of : Values → Template
template_of (of_test values) = Test
template_of (of_provision count) = Provision
template_of (of_execute values) = Execute
template_of (of_dispose instances) = Dispose

-- the value of a variable of a test command; of any other nothing
abbrev pub test_value : TestValues → Variable → List ℕ
test_value values IdOption = values.id_option
test_value values IdFile = values.id_file
test_value values IdList = values.id_list
test_value values ListOption = values.list_option
test_value values v = []

-- the value of a variable of a text that provisions; of any other nothing
abbrev pub provision_value : List ℕ → Variable → List ℕ
provision_value count InstanceCount = count
provision_value count v = []

-- the value of a variable of a text that runs a command on an instance; of any other nothing
abbrev pub execute_value : ExecuteValues → Variable → List ℕ
execute_value values InstanceId = values.instance
execute_value values Files = values.files
execute_value values Command = values.command
execute_value values v = []

-- the value of a variable of a text that disposes of instances; of any other nothing
abbrev pub dispose_value : List ℕ → Variable → List ℕ
dispose_value instances InstanceIds = instances
dispose_value instances v = []

-- the value of a variable
abbrev pub variable_value : Values → Variable → List ℕ
variable_value (of_test values) v = test_value values v
variable_value (of_provision count) v = provision_value count v
variable_value (of_execute values) v = execute_value values v
variable_value (of_dispose instances) v = dispose_value instances v

-- the bytes that stand in the place of a piece
abbrev pub in_place : Values → CommandPiece → List ℕ
in_place values (variable v) = variable_value values v
in_place values (byte b) = b ∷ []

-- The text with each variable of its setting replaced, once. What comes in its place is not read again.
abbrev pub filled : Values → List ℕ → List ℕ
filled values text = flat_map (in_place values) (command_pieces (template_of values) text)
