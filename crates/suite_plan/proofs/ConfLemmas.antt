-- The ends of the reading of the configuration.
use Rattle.std.specs.Prelude.{⊤}
use Rattle.std.proofs.Common.{◌≡◌, ◌⊎◌, ⊎_elim, ◌≤◌, ◌<◌, ℕ, nat_lt, Bool, true, cond, List, length, Option, None, Some, IfSome, IsSomeAnd, IfOk, IfErr, Result, Ok, Err, false, true≢false, refl, sym, ap, subst, ◌∙◌, lt-ltb, le-ltb}
use Rattle.std.proofs.lemmas.Bool.{cond-true, cond-false}
use Rattle.edge_io.specs.Causes.{RisesExactlyIf}
use Rattle.edge_io.specs.Disk.{Files}
use Rattle.edge_io.specs.Files.{IsFileOf, IsTooLong, CountsFailed}
use Rattle.edge_io.specs.Seen.{Seen}
use Rattle.edge_io.specs.declared.whole_file.ReadFault.{ReadFault}
use Rattle.edge_io.specs.declared.whole_file.ReadFault.TheVariants as read
use Rattle.stestr_conf.specs.Command.{settled_values}
use Rattle.stestr_conf.specs.Table.{table_of}
use Rattle.stestr_conf.specs.declared.settled_values.SettleFault.{SettleFault}
use Rattle.stestr_conf.specs.declared.settled_values.SettleFault.TheVariants as settle
use Rattle.stestr_conf.specs.declared.table.TableFault.{TableFault}
use Rattle.stestr_conf.specs.declared.table.TableFault.TheVariants as table
use Rattle.suite_plan.specs.Texts.{most_text}
use Rattle.suite_plan.specs.ConfFile.{conf_file_name, file_by, file_says, text_says, lines_say, stestr_says, table_says, values_say, settings_say, or_next, required, project_settings, settings_for, unless_elsewhere, placed_on, said_there, conf_failed, unread_conf, refused_lines, HasConfCause, ReadsSaid}
use Rattle.suite_plan.specs.declared.conf_file.BadConf.TheVariants.{TooLong, NoInstances}
use Rattle.suite_plan.specs.declared.conf_file.ConfFile.{ConfFile}
use Rattle.suite_plan.specs.declared.conf_file.ConfFile.TheVariants.{TestrConf, StestrConf, PyProject}
use Rattle.suite_plan.specs.declared.conf_file.ConfRefusal.{ConfRefusal}
use Rattle.suite_plan.specs.declared.conf_file.ConfRefusal.TheVariants as conf
use Rattle.testr_conf.specs.Settings.{Settings, asks_instances, conf_of}
use Rattle.testr_conf.specs.Stestr.{stestr_of}
use Rattle.testr_conf.specs.declared.fault.ConfFault.{ConfFault}
use Rattle.testr_conf.specs.declared.fault.ConfFault.TheVariants as fault
use Rattle.testr_conf.specs.declared.stestr.StestrValues.{StestrValues}
use Rattle.testr_words.specs.Suites.{Project}
use Rattle.testr_words.specs.declared.command.ProjectWords.{ProjectWords}
use Rattle.suite_plan.proofs.TextLemmas.{stands, if_told, where_told}

-- what is said is refused so
cause_of : {T : Type 0} (said : Result T ConfRefusal) (refusal : ConfRefusal) → said ≡ Err refusal → HasConfCause said refusal
cause_of said conf.Site is = tt
cause_of said conf.Absent is = is
cause_of said (conf.Bad file why) is = is
cause_of said conf.NoMemory is = tt

-- and what is made of it where it is refused alike
cause_under : {T U : Type 0} (f : Result T ConfRefusal → Result U ConfRefusal) → ((refusal : ConfRefusal) → f (Err refusal) ≡ Err refusal)
    → (said : Result T ConfRefusal) (refusal : ConfRefusal) → HasConfCause said refusal → HasConfCause (f said) refusal
cause_under f keeps said conf.Site is = tt
cause_under f keeps said conf.Absent is = ap f is ∙ keeps conf.Absent
cause_under f keeps said (conf.Bad file why) is = ap f is ∙ keeps (conf.Bad file why)
cause_under f keeps said conf.NoMemory is = tt

module _ {T : Type 0} (said : Files → Result T ConfRefusal) (before after : Seen Files) (same : after.told ≡ before.told) where
  -- an end without a fault, which is what the files say
  pub said_end : (result : Result T ConfRefusal) → after.faults ≡ before.faults → conf_failed result ≡ false → IfSome before.told (λ files. said files ≡ result) → ReadsSaid said before after result
  said_end (Ok value) count fine is = record { conf = is; refused = tt; same = same; count = stands before.faults after.faults count }
  said_end (Err refusal) count fine is = record {
    conf = tt;
    refused = where_told before.told (λ files. said files ≡ Err refusal) (λ files. HasConfCause (said files) refusal) (λ files. cause_of (said files) refusal) is;
    same = same;
    count = subst (λ b. RisesExactlyIf before.faults after.faults b) (sym fine) (stands before.faults after.faults count);
  }

  pub memory_end : after.faults ≡ before.faults → ReadsSaid said before after (Err conf.NoMemory)
  memory_end count = record { conf = tt; refused = if_told before.told (λ files. ⊤) (λ files. tt); same = same; count = stands before.faults after.faults count }

-- One file.

module _ (words : ProjectWords) (file : ConfFile) (before after : Seen Files) (same : after.told ≡ before.told) where
  -- it was not read whole
  unread_end : (T : Type 0) (fault : ReadFault) → IsTooLong {T = T} before.told (conf_file_name file) most_text (Err fault) → CountsFailed {T = T} before.faults after.faults (Err fault)
      → ReadsSaid (file_says words file) before after (Err (unread_conf file fault))
  unread_end T read.Failed long count = record {
    conf = tt;
    refused = if_told before.told (λ files. ⊤) (λ files. tt);
    same = same;
    count = record { later = count.0; rose = λ is. count.1; stands = λ is. absurd (true≢false is) };
  }
  unread_end T read.TooLong long count = said_end (file_says words file) before after same (Err (conf.Bad file TooLong)) count refl
      (where_told before.told (λ files. IsSomeAnd (files (conf_file_name file)) (λ text. most_text < length text)) (λ files. file_says words file files ≡ Err (conf.Bad file TooLong))
      (λ files. too_long (files (conf_file_name file))) long)
    where
      too_long : (o : Option (List ℕ)) → IsSomeAnd o (λ text. most_text < length text) → file_by words file o ≡ Err (conf.Bad file TooLong)
      too_long None long = absurd long
      too_long (Some text) long = cond-true (nat_lt most_text (length text)) (Err (conf.Bad file TooLong)) (text_says words file text) (lt-ltb most_text (length text) long)
  unread_end T read.NoMemory long count = memory_end (file_says words file) before after same count

  pub unread_as : {T : Type 0} (answer : Result T ReadFault) (fault : ReadFault) → answer ≡ Err fault → IsTooLong before.told (conf_file_name file) most_text answer → CountsFailed before.faults after.faults answer
      → ReadsSaid (file_says words file) before after (Err (unread_conf file fault))
  unread_as {T = T} answer fault is long count =
      unread_end T fault (subst (λ (r : Result T ReadFault). IsTooLong before.told (conf_file_name file) most_text r) is long) (subst (λ (r : Result T ReadFault). CountsFailed before.faults after.faults r) is count)

  -- there is none
  pub absent_end : IsFileOf before.told (conf_file_name file) None → after.faults ≡ before.faults → ReadsSaid (file_says words file) before after (Ok None)
  absent_end is count = said_end (file_says words file) before after same (Ok None) count refl
      (where_told before.told (λ files. files (conf_file_name file) ≡ None) (λ files. file_says words file files ≡ Ok None) (λ files none. ap (file_by words file) none) is)

  fits : (text : List ℕ) → length text ≤ most_text → file_by words file (Some text) ≡ text_says words file text
  fits text short = cond-false (nat_lt most_text (length text)) (Err (conf.Bad file TooLong)) (text_says words file text) (le-ltb most_text (length text) short)

-- no text is refused for a read that failed
lines_fine : (file : ConfFile) (why : ConfFault) → conf_failed {T = Option Settings} (Err (refused_lines file why)) ≡ false
lines_fine file (fault.BadLine number) = refl
lines_fine file (fault.NoSection number) = refl
lines_fine file (fault.Repeated number) = refl
lines_fine file fault.NoCommand = refl
lines_fine file fault.NoMemory = refl

testr_fine : (told : Result Settings ConfFault) → conf_failed (lines_say told) ≡ false
testr_fine (Ok settings) = refl
testr_fine (Err why) = lines_fine TestrConf why

settings_fine : (file : ConfFile) (told : Result Settings SettleFault) → conf_failed (settings_say file told) ≡ false
settings_fine file (Ok settings) = refl
settings_fine file (Err settle.NoTestPath) = refl
settings_fine file (Err settle.NoMemory) = refl

values_fine : (words : ProjectWords) (file : ConfFile) (values : StestrValues) → conf_failed (values_say words file values) ≡ false
values_fine words file values = settings_fine file (settled_values words.test_path words.top_dir values)

stestr_fine : (words : ProjectWords) (told : Result StestrValues ConfFault) → conf_failed (stestr_says words told) ≡ false
stestr_fine words (Ok values) = values_fine words StestrConf values
stestr_fine words (Err why) = lines_fine StestrConf why

table_fine : (words : ProjectWords) (told : Result (Option StestrValues) TableFault) → conf_failed (table_says words told) ≡ false
table_fine words (Ok None) = refl
table_fine words (Ok (Some values)) = values_fine words PyProject values
table_fine words (Err table.NotToml) = refl
table_fine words (Err table.NotTable) = refl
table_fine words (Err (table.BadValue key)) = refl
table_fine words (Err table.NoMemory) = refl

text_fine : (words : ProjectWords) (file : ConfFile) (text : List ℕ) → conf_failed (text_says words file text) ≡ false
text_fine words TestrConf text = testr_fine (conf_of text)
text_fine words StestrConf text = stestr_fine words (stestr_of text)
text_fine words PyProject text = table_fine words (table_of text)

-- its text was read
pub text_end : (words : ProjectWords) (file : ConfFile) (before after : Seen Files) → after.told ≡ before.told → (text : List ℕ) (result : Result (Option Settings) ConfRefusal)
    → IsFileOf before.told (conf_file_name file) (Some text) → length text ≤ most_text → after.faults ≡ before.faults
    → (text_says words file text ≡ result) ⊎ (result ≡ Err conf.NoMemory) → ReadsSaid (file_says words file) before after result
text_end words file before after same text result is short count ends = ⊎_elim
    (λ says. said_end (file_says words file) before after same result count (ap conf_failed (sym says) ∙ text_fine words file text)
    (where_told before.told (λ files. files (conf_file_name file) ≡ Some text) (λ files. file_says words file files ≡ result)
    (λ files there. ap (file_by words file) there ∙ fits words file before after same text short ∙ says) is))
    (λ memory. subst (ReadsSaid (file_says words file) before after) (sym memory) (memory_end (file_says words file) before after same count))
    ends

-- One file after another.

both_told : {S : Type 0} (a b : Option S) (P Q R : S → Type 0) → b ≡ a → ((s : S) → P s → Q s → R s) → IfSome a P → IfSome b Q → IfSome a R
both_told None b P Q R same both p q = tt
both_told (Some s) b P Q R same both p q = both s p (subst (λ o. IfSome o Q) same q)

module _ (first next : Files → Result (Option Settings) ConfRefusal) where
  -- what is said by the first, or else by the next
  abbrev pub either_says : Files → Result (Option Settings) ConfRefusal
  either_says files = or_next (first files) (next files)

  pub first_says : (before after : Seen Files) (settings : Settings) → ReadsSaid first before after (Ok (Some settings)) → ReadsSaid either_says before after (Ok (Some settings))
  first_says before after settings reads = record {
    conf = where_told before.told (λ files. first files ≡ Ok (Some settings)) (λ files. either_says files ≡ Ok (Some settings)) (λ files is. ap (λ r. or_next r (next files)) is) reads.conf;
    refused = tt;
    same = reads.same;
    count = reads.count;
  }

  pub first_refuses : (before after : Seen Files) (refusal : ConfRefusal) → ReadsSaid first before after (Err refusal) → ReadsSaid either_says before after (Err refusal)
  first_refuses before after refusal reads = record {
    conf = tt;
    refused = where_told before.told (λ files. HasConfCause (first files) refusal) (λ files. HasConfCause (either_says files) refusal)
        (λ files. cause_under (λ r. or_next r (next files)) (λ r. refl) (first files) refusal) reads.refused;
    same = reads.same;
    count = reads.count;
  }

  module _ (before between after : Seen Files) (none : ReadsSaid first before between (Ok None)) where
    quiet : between.faults ≡ before.faults
    quiet = none.count.stands refl

    pub next_says : (result : Result (Option Settings) ConfRefusal) → ReadsSaid next between after result → ReadsSaid either_says before after result
    next_says (Ok value) reads = record {
      conf = both_told before.told between.told (λ files. first files ≡ Ok None) (λ files. next files ≡ Ok value) (λ files. either_says files ≡ Ok value) none.same
          (λ files absent is. ap (λ r. or_next r (next files)) absent ∙ is) none.conf reads.conf;
      refused = tt;
      same = reads.same ∙ none.same;
      count = subst (λ n. RisesExactlyIf n after.faults false) quiet reads.count;
    }
    next_says (Err refusal) reads = record {
      conf = tt;
      refused = both_told before.told between.told (λ files. first files ≡ Ok None) (λ files. HasConfCause (next files) refusal) (λ files. HasConfCause (either_says files) refusal) none.same
          (λ files absent. subst (λ (r : Result (Option Settings) ConfRefusal). HasConfCause r refusal) (sym (ap (λ r. or_next r (next files)) absent))) none.conf reads.refused;
      same = reads.same ∙ none.same;
      count = subst (λ n. RisesExactlyIf n after.faults (conf_failed {T = Option Settings} (Err refusal))) quiet reads.count;
    }

-- What is said of the project.

module _ (project : Project) (said : Files → Result (Option Settings) ConfRefusal) (before after : Seen Files) where
  -- what is said, where something has to be
  abbrev pub project_said : Files → Result Settings ConfRefusal
  project_said files = settings_for project (required (said files))

  pub project_says : (settings : Settings) → ReadsSaid said before after (Ok (Some settings)) → ReadsSaid project_said before after (Ok (project_settings project.folder project.words settings))
  project_says settings reads = record {
    conf = where_told before.told (λ files. said files ≡ Ok (Some settings)) (λ files. project_said files ≡ Ok (project_settings project.folder project.words settings))
        (λ files is. ap (λ r. settings_for project (required r)) is) reads.conf;
    refused = tt;
    same = reads.same;
    count = reads.count;
  }

  pub project_short : (settings : Settings) → ReadsSaid said before after (Ok (Some settings)) → ReadsSaid project_said before after (Err conf.NoMemory)
  project_short settings reads = record { conf = tt; refused = if_told before.told (λ files. ⊤) (λ files. tt); same = reads.same; count = reads.count }

  pub project_absent : ReadsSaid said before after (Ok None) → ReadsSaid project_said before after (Err conf.Absent)
  project_absent reads = record {
    conf = tt;
    refused = where_told before.told (λ files. said files ≡ Ok None) (λ files. project_said files ≡ Err conf.Absent) (λ files is. ap (λ r. settings_for project (required r)) is) reads.conf;
    same = reads.same;
    count = reads.count;
  }

  pub project_refuses : (refusal : ConfRefusal) → ReadsSaid said before after (Err refusal) → ReadsSaid project_said before after (Err refusal)
  project_refuses refusal reads = record {
    conf = tt;
    refused = where_told before.told (λ files. HasConfCause (said files) refusal) (λ files. HasConfCause (project_said files) refusal)
        (λ files. cause_under (λ r. settings_for project (required r)) (λ r. refl) (said files) refusal) reads.refused;
    same = reads.same;
    count = reads.count;
  }

  pub project_end : (settings : Settings) → ReadsSaid said before after (Ok (Some settings)) → (result : Result Settings ConfRefusal)
      → IfOk result (λ given. given ≡ project_settings project.folder project.words settings) → IfErr result (λ refusal. refusal ≡ conf.NoMemory) → ReadsSaid project_said before after result
  project_end settings reads (Ok given) is short = subst (λ (s : Settings). ReadsSaid project_said before after (Ok s)) (sym is) (project_says settings reads)
  project_end settings reads (Err refusal) is short = subst (λ (r : ConfRefusal). ReadsSaid project_said before after (Err r)) (sym short) (project_short settings reads)

-- Where its jobs run.

here_fine : (asks : Bool) (settings : Settings) → conf_failed (cond asks (Err (conf.Bad TestrConf NoInstances)) (Ok settings)) ≡ false
here_fine true settings = refl
here_fine false settings = refl

placed_fine : (instances : Option (List (List ℕ))) (settings : Settings) → conf_failed (placed_on instances settings) ≡ false
placed_fine None settings = here_fine (asks_instances settings) settings
placed_fine (Some names) settings = refl

module _ (instances : Option (List (List ℕ))) (own : Files → Result Settings ConfRefusal) (before after : Seen Files) where
  -- what is said there or here
  abbrev pub there : Files → Result Settings ConfRefusal
  there files = said_there instances (own files)

  pub there_refuses : (refusal : ConfRefusal) → ReadsSaid own before after (Err refusal) → ReadsSaid there before after (Err refusal)
  there_refuses refusal reads = record {
    conf = tt;
    refused = where_told before.told (λ files. HasConfCause (own files) refusal) (λ files. HasConfCause (there files) refusal)
        (λ files. cause_under (said_there instances) (λ r. refl) (own files) refusal) reads.refused;
    same = reads.same;
    count = reads.count;
  }

  pub there_end : (settings : Settings) → ReadsSaid own before after (Ok settings) → (result : Result Settings ConfRefusal)
      → (placed_on instances settings ≡ result) ⊎ (result ≡ Err conf.NoMemory) → ReadsSaid there before after result
  there_end settings reads result ends = ⊎_elim
      (λ placed. said_end there before after reads.same result (reads.count.stands refl) (ap conf_failed (sym placed) ∙ placed_fine instances settings)
      (where_told before.told (λ files. own files ≡ Ok settings) (λ files. there files ≡ result) (λ files is. ap (said_there instances) is ∙ placed) reads.conf))
      (λ memory. subst (ReadsSaid there before after) (sym memory) (memory_end there before after reads.same (reads.count.stands refl)))
      ends
