-- Where a named refusal of a step of `run` or `list-tests` has its cause, it comes, but for a call that failed or want of
-- memory.
use Rattle.std.specs.Prelude.{◌≡◌, ◌⊎◌, ℕ, IsSomeAnd, List, ◌∷◌, Result, Ok, Err}
use Rattle.edge_io.specs.Children.{Output}
use Rattle.edge_io.specs.Seen.{Seen}
use Rattle.edge_io.specs.Spawners.{Spawning}
use Rattle.suite_plan.specs.declared.patterns.PatternRefusal.{PatternRefusal}
use Rattle.suite_plan.specs.declared.patterns.PatternRefusal.TheVariants as pattern
use Rattle.suite_plan.specs.declared.pattern_list.PatternListRefusal.{PatternListRefusal}
use Rattle.suite_plan.specs.declared.pattern_list.PatternListRefusal.TheVariants.{List as Unlisted, Bad}
use Rattle.suite_plan.specs.declared.load_list.ListRefusal.{ListRefusal}
use Rattle.suite_plan.specs.declared.load_list.ListRefusal.TheVariants.{Site, TooLong, Absent, NotId, NoMemory}
use Rattle.command_steps.specs.declared.times_file.TimesRefusal.{TimesRefusal}
use Rattle.command_steps.specs.declared.times_file.TimesRefusal.TheVariants as times_file

-- this refusal comes, unless a call failed or memory was wanting
abbrev pub Comes : {T E : Type 0} → (named failed short : E) → Result T E → Type 0
Comes named failed short result = (result ≡ Err named) ⊎ ((result ≡ Err failed) ⊎ (result ≡ Err short))

-- the next child to be started has an output that meets this
abbrev pub NextMeets : (Output → Type 0) → Seen Spawning → Type 0
NextMeets Meets before = IsSomeAnd before.told (λ s. (output : Output) × (later : List Output) × (s.outputs ≡ output ∷ later) × Meets output)

-- this pattern was named as a bad one
abbrev pub IsNamedBad : {T : Type 0} → List ℕ → Result T PatternRefusal → Type 0
IsNamedBad text (Ok value) = ⊥
IsNamedBad text (Err (pattern.Bad given)) = given.now ≡ text
IsNamedBad text (Err pattern.NoMemory) = ⊥

-- ---- a list, whose refusals name it

-- a read of the list failed, or memory was wanting
abbrev pub ListEnds : {T : Type 0} → Result T ListRefusal → Type 0
ListEnds result = (result ≡ Err Site) ⊎ (result ≡ Err NoMemory)

-- the list of this name was refused as one that is missing
abbrev pub IsListAbsent : {T : Type 0} → List ℕ → Result T ListRefusal → Type 0
IsListAbsent name (Ok value) = ⊥
IsListAbsent name (Err Site) = ⊥
IsListAbsent name (Err (TooLong given)) = ⊥
IsListAbsent name (Err (Absent given)) = given.now ≡ name
IsListAbsent name (Err (NotId given number)) = ⊥
IsListAbsent name (Err NoMemory) = ⊥

-- it was refused as one that is too long
abbrev pub IsListTooLong : {T : Type 0} → List ℕ → Result T ListRefusal → Type 0
IsListTooLong name (Ok value) = ⊥
IsListTooLong name (Err Site) = ⊥
IsListTooLong name (Err (TooLong given)) = given.now ≡ name
IsListTooLong name (Err (Absent given)) = ⊥
IsListTooLong name (Err (NotId given number)) = ⊥
IsListTooLong name (Err NoMemory) = ⊥

-- it was refused at this line
abbrev pub IsNoId : {T : Type 0} → List ℕ → ℕ → Result T ListRefusal → Type 0
IsNoId name number (Ok value) = ⊥
IsNoId name number (Err Site) = ⊥
IsNoId name number (Err (TooLong given)) = ⊥
IsNoId name number (Err (Absent given)) = ⊥
IsNoId name number (Err (NotId given line)) = (given.now ≡ name) × (line ≡ number)
IsNoId name number (Err NoMemory) = ⊥

-- ---- a list of patterns, whose refusals name it, too

-- a read of the list failed, or memory was wanting
abbrev pub PatternsEnd : {T : Type 0} → Result T PatternListRefusal → Type 0
PatternsEnd result = (result ≡ Err (Unlisted Site)) ⊎ (result ≡ Err (Unlisted NoMemory))

-- the list of this name was refused as one that is missing
abbrev pub IsPatternsAbsent : {T : Type 0} → List ℕ → Result T PatternListRefusal → Type 0
IsPatternsAbsent name (Ok value) = ⊥
IsPatternsAbsent {T = T} name (Err (Unlisted refusal)) = IsListAbsent {T = T} name (Err refusal)
IsPatternsAbsent name (Err (Bad line)) = ⊥

-- it was refused as one that is too long
abbrev pub IsPatternsTooLong : {T : Type 0} → List ℕ → Result T PatternListRefusal → Type 0
IsPatternsTooLong name (Ok value) = ⊥
IsPatternsTooLong {T = T} name (Err (Unlisted refusal)) = IsListTooLong {T = T} name (Err refusal)
IsPatternsTooLong name (Err (Bad line)) = ⊥

-- it was refused at this line, which is no text
abbrev pub IsNoText : {T : Type 0} → List ℕ → ℕ → Result T PatternListRefusal → Type 0
IsNoText name number (Ok value) = ⊥
IsNoText {T = T} name number (Err (Unlisted refusal)) = IsNoId {T = T} name number (Err refusal)
IsNoText name number (Err (Bad line)) = ⊥

-- it was refused at this line, as this bad pattern
abbrev pub IsBadLine : {T : Type 0} → List ℕ → ℕ → (pattern : List ℕ) → Result T PatternListRefusal → Type 0
IsBadLine name number pattern (Ok value) = ⊥
IsBadLine name number pattern (Err (Unlisted refusal)) = ⊥
IsBadLine name number pattern (Err (Bad line)) = (line.name.now ≡ name) × (line.number ≡ number) × (line.pattern ≡ pattern)

-- ---- a file of times, whose refusals name it, too

-- a read of the file failed, or memory was wanting
abbrev pub TimesEnd : {T : Type 0} → Result T TimesRefusal → Type 0
TimesEnd result = (result ≡ Err times_file.Site) ⊎ (result ≡ Err times_file.NoMemory)

-- the file of this name was refused as one that is missing
abbrev pub IsTimesAbsent : {T : Type 0} → List ℕ → Result T TimesRefusal → Type 0
IsTimesAbsent name (Ok value) = ⊥
IsTimesAbsent name (Err times_file.Site) = ⊥
IsTimesAbsent name (Err (times_file.TooLong given)) = ⊥
IsTimesAbsent name (Err (times_file.Absent given)) = given.now ≡ name
IsTimesAbsent name (Err (times_file.NotTimes given)) = ⊥
IsTimesAbsent name (Err times_file.NoMemory) = ⊥

-- it was refused as one that is too long
abbrev pub IsTimesTooLong : {T : Type 0} → List ℕ → Result T TimesRefusal → Type 0
IsTimesTooLong name (Ok value) = ⊥
IsTimesTooLong name (Err times_file.Site) = ⊥
IsTimesTooLong name (Err (times_file.TooLong given)) = given.now ≡ name
IsTimesTooLong name (Err (times_file.Absent given)) = ⊥
IsTimesTooLong name (Err (times_file.NotTimes given)) = ⊥
IsTimesTooLong name (Err times_file.NoMemory) = ⊥

-- it was refused as one of another form
abbrev pub IsNotTimes : {T : Type 0} → List ℕ → Result T TimesRefusal → Type 0
IsNotTimes name (Ok value) = ⊥
IsNotTimes name (Err times_file.Site) = ⊥
IsNotTimes name (Err (times_file.TooLong given)) = ⊥
IsNotTimes name (Err (times_file.Absent given)) = ⊥
IsNotTimes name (Err (times_file.NotTimes given)) = given.now ≡ name
IsNotTimes name (Err times_file.NoMemory) = ⊥
