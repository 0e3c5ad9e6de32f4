-- What is known behind some lines.
use Rattle.std.proofs.Common.{◌≡◌, ◌<◌, ◌≤◌, ◌+◌, ℕ, Bool, true, false, cond, ◌&&◌, Option, Some, None, is_none, is_some, List, [], ◌∷◌, ◌++◌, length, map, refl, sym, ap, subst, ◌∙◌, ◌⊎◌, ⊎_elim, inl, inr, arith, append_assoc}
use Rattle.std.specs.List.{fold, list_any}
use Rattle.std.specs.Str.{bytes_eq}
use Rattle.std.proofs.lemmas.List.{append-nil, map-append, length-map, length_push}
use Rattle.std.proofs.lemmas.List.Sums.{fold_push}
use Rattle.bstr.specs.Text.{lines_of}
use Rattle.bstr.proofs.lemmas.LengthLemmas.{length-lines_of}
use Rattle.testr_conf.specs.Lines.{ConfLine, bad, skipped, more, section, setting, conf_lines, ended_line_of, placed_line, depth_behind, placed_lines, lines_below}
use Rattle.testr_conf.specs.Settings.{Setting, section_after, section_of, is_default, settings_from, settings_of, value_above, has_key, fault_if, fault_of, first_fault, or_later}
use Rattle.testr_conf.specs.Names.{named}
use Rattle.testr_conf.specs.Values.{is_unfit}
use Rattle.testr_conf.specs.Keys.{found_of}
use Rattle.testr_conf.specs.Steps.{place_in_section, reading_of, is_taken, setting_fault, fault_at, kept, known_after, TakesConfLine}
use Rattle.testr_conf.specs.declared.fault.ConfFault.{ConfFault}
use Rattle.testr_conf.specs.declared.fault.ConfFault.TheVariants.{BadLine, NoSection, Repeated, NoMemory}
use Rattle.testr_conf.specs.declared.name.Dialect.{Dialect}
use Rattle.testr_conf.specs.declared.line_reader.Place.TheVariants.{Default, Elsewhere}
use Rattle.testr_conf.specs.declared.line_reader.Reading.{Reading}
use Rattle.testr_conf.proofs.SettingLemmas.{taken_is, has_by_keys, kept_default}

-- The settings of one more line.

abbrev pub setting_if : Bool → Setting → List Setting
setting_if b s = cond b (s ∷ []) []

abbrev pub new_settings : Option (List ℕ) → ConfLine → List ConfLine → List Setting
new_settings last (section name) below = []
new_settings last (setting key own) below = setting_if (is_default last) (record { key = key; value = value_above own below })
new_settings last (more depth text line) below = []
new_settings last skipped below = []
new_settings last bad below = []

front_if : (b : Bool) (s : Setting) (rest : List Setting) → cond b (s ∷ rest) rest ≡ setting_if b s ++ rest
front_if true s rest = refl
front_if false s rest = refl

settings_step : (last : Option (List ℕ)) (line : ConfLine) (rest : List ConfLine) → settings_from last (line ∷ rest) ≡ new_settings last line rest ++ settings_from (section_after last line) rest
settings_step last (section name) rest = refl
settings_step last (setting key own) rest = front_if (is_default last) (record { key = key; value = value_above own rest }) (settings_from last rest)
settings_step last (more depth text line) rest = refl
settings_step last skipped rest = refl
settings_step last bad rest = refl

abbrev keys_of : List Setting → List (List ℕ)
keys_of settings = map (λ s. s.key) settings

same_key : (b : Bool) (key v w : List ℕ) → keys_of (setting_if b (record { key = key; value = v })) ≡ keys_of (setting_if b (record { key = key; value = w }))
same_key true key v w = refl
same_key false key v w = refl

-- what stands below a line does not change its key
new_keys : (last : Option (List ℕ)) (line : ConfLine) (a b : List ConfLine) → keys_of (new_settings last line a) ≡ keys_of (new_settings last line b)
new_keys last (section name) a b = refl
new_keys last (setting key own) a b = same_key (is_default last) key (value_above own a) (value_above own b)
new_keys last (more depth text line) a b = refl
new_keys last skipped a b = refl
new_keys last bad a b = refl

keys_push : (last : Option (List ℕ)) (xs : List ConfLine) (line : ConfLine) (below : List ConfLine)
    → keys_of (settings_from last (xs ++ line ∷ [])) ≡ keys_of (settings_from last xs) ++ keys_of (new_settings (fold section_after last xs) line below)
keys_push last [] line below =
    ap keys_of (settings_step last line [] ∙ append-nil (new_settings last line [])) ∙ new_keys last line [] below
keys_push last (x ∷ xs) line below =
    ap keys_of (settings_step last x (xs ++ line ∷ []))
    ∙ map-append (λ s. s.key) (new_settings last x (xs ++ line ∷ [])) (settings_from (section_after last x) (xs ++ line ∷ []))
    ∙ ap (λ k. k ++ keys_of (settings_from (section_after last x) (xs ++ line ∷ []))) (new_keys last x (xs ++ line ∷ []) xs)
    ∙ ap (λ k. keys_of (new_settings last x xs) ++ k) (keys_push (section_after last x) xs line below)
    ∙ sym (append_assoc (keys_of (new_settings last x xs)) (keys_of (settings_from (section_after last x) xs)) (keys_of (new_settings (fold section_after (section_after last x) xs) line below)))
    ∙ ap (λ k. k ++ keys_of (new_settings (fold section_after (section_after last x) xs) line below))
    (sym (ap keys_of (settings_step last x xs) ∙ map-append (λ s. s.key) (new_settings last x xs) (settings_from (section_after last x) xs)))

-- What is known behind one more line.

free_if : (taken unfit : Bool) (number : ℕ) → setting_fault Default number taken unfit ≡ None → taken ≡ false
free_if true unfit number fine = let other : Some (Repeated number) ≡ None = fine in cc
free_if false unfit number fine = refl

module _ (dialect : Dialect) (done : List Setting) (s : Setting) (number : ℕ) where
  kept_if : (b : Bool) → setting_fault (cond b Default Elsewhere) number (is_taken (named dialect s.key) (found_of dialect done)) (is_unfit (named dialect s.key) s.value) ≡ None
      → kept (cond b Default Elsewhere) (named dialect s.key) s.value (found_of dialect done) ≡ found_of dialect (done ++ setting_if b s)
  kept_if true fine =
      kept_default done s dialect (named dialect s.key) refl
      (free_if (is_taken (named dialect s.key) (found_of dialect done)) (is_unfit (named dialect s.key) s.value) number fine)
  kept_if false fine = ap (found_of dialect) (sym (append-nil done))

  kept_is : (last : Option (List ℕ)) → setting_fault (place_in_section last) number (is_taken (named dialect s.key) (found_of dialect done)) (is_unfit (named dialect s.key) s.value) ≡ None
      → kept (place_in_section last) (named dialect s.key) s.value (found_of dialect done) ≡ found_of dialect (done ++ setting_if (is_default last) s)
  kept_is None fine = ap (found_of dialect) (sym (append-nil done))
  kept_is (Some name) fine = kept_if (is_default (Some name)) fine

-- one more line, which is not refused
module _ (dialect : Dialect) (before : List ConfLine) (done : List Setting) (number : ℕ) (line : ConfLine) (rest : List ConfLine) where
  known_parts : (l : ConfLine) → fault_at (reading_of dialect before done) number l rest ≡ None
      → place_in_section (section_after (section_of before) l) ≡ place_in_section (section_of (before ++ line ∷ []))
      → known_after (reading_of dialect before done) l rest ≡ reading_of dialect (before ++ line ∷ []) (done ++ new_settings (section_of before) l rest)
  known_parts (section name) fine place = λ i. record { dialect = dialect; place = place i; found = found_of dialect (sym (append-nil done) i) }
  known_parts (setting key own) fine place = λ i. record {
    dialect = dialect;
    place = place i;
    found = kept_is dialect done (record { key = key; value = value_above own rest }) number (section_of before) fine i;
  }
  known_parts (more depth text l) fine place = λ i. record { dialect = dialect; place = place i; found = found_of dialect (sym (append-nil done) i) }
  known_parts skipped fine place = λ i. record { dialect = dialect; place = place i; found = found_of dialect (sym (append-nil done) i) }
  known_parts bad fine place = λ i. record { dialect = dialect; place = place i; found = found_of dialect (sym (append-nil done) i) }

  known_step : fault_at (reading_of dialect before done) number line rest ≡ None
      → known_after (reading_of dialect before done) line rest ≡ reading_of dialect (before ++ line ∷ []) (done ++ new_settings (section_of before) line rest)
  known_step fine =
      known_parts line fine (ap place_in_section (sym (fold_push section_after None before line)))

-- The refusals.

module _ (number : ℕ) (taken used has unfit : Bool) (is : taken ≡ (used && has)) where
  repeated_if : (b : Bool) → setting_fault (cond b Default Elsewhere) number taken unfit ≡ or_later (fault_if (b && used && has) (Repeated number)) (fault_if (b && unfit) (BadLine number))
  repeated_if true = ap (λ t. or_later (fault_if t (Repeated number)) (fault_if unfit (BadLine number))) is
  repeated_if false = refl

  setting_same : (last : Option (List ℕ)) → setting_fault (place_in_section last) number taken unfit
      ≡ cond (is_none last) (Some (NoSection number)) (or_later (fault_if (is_default last && used && has) (Repeated number)) (fault_if (is_default last && unfit) (BadLine number)))
  setting_same None = refl
  setting_same (Some name) = repeated_if (is_default (Some name))

fault_same : (dialect : Dialect) (before : List ConfLine) (done : List Setting) (line : ConfLine) (below : List ConfLine) → keys_of done ≡ keys_of (settings_of before)
    → fault_at (reading_of dialect before done) (length before + 1) line below ≡ fault_of dialect before line below
fault_same dialect before done (section name) below keys = refl
fault_same dialect before done (setting key own) below keys =
    setting_same (length before + 1) (is_taken (named dialect key) (found_of dialect done)) (is_some (named dialect key)) (has_key key (settings_of before))
    (is_unfit (named dialect key) (value_above own below))
    (taken_is dialect key done ∙ ap (λ h. is_some (named dialect key) && h) (has_by_keys key done ∙ ap (list_any (λ k. bytes_eq k key)) keys ∙ sym (has_by_keys key (settings_of before))))
    (section_of before)
fault_same dialect before done (more depth text line) below keys = refl
fault_same dialect before done skipped below keys = refl
fault_same dialect before done bad below keys = refl

-- The lines one after another.

-- behind some lines, in front of the rest
pub record StandsBetween (dialect : Dialect) (all rest : List ConfLine) (number : ℕ) (reading : Reading) : Type 0 where
  pub before : List ConfLine
  pub done : List Setting
  pub known : reading ≡ reading_of dialect before done
  pub count : number ≡ length before
  pub faults : first_fault dialect [] all ≡ first_fault dialect before rest
  pub settings : settings_of all ≡ done ++ settings_from (section_of before) rest
  pub keys : map (λ s. s.key) done ≡ map (λ s. s.key) (settings_of before)
  pub size : number + length rest ≡ length all

pub stands_begin : (dialect : Dialect) (all : List ConfLine) → StandsBetween dialect all all 0 (reading_of dialect [] [])
stands_begin dialect all = record { before = []; done = []; known = refl; count = refl; faults = refl; settings = refl; keys = refl; size = omega arith }

pub stands_start : (dialect : Dialect) (text : List ℕ) (lines : List (List ℕ)) (reading : Reading) → lines ≡ lines_of text → reading ≡ reading_of dialect [] []
    → StandsBetween dialect (conf_lines text) (placed_lines None (map ended_line_of lines)) 0 reading
stands_start dialect text lines reading lines_are is =
    subst (λ l. StandsBetween dialect (conf_lines text) (placed_lines None (map ended_line_of l)) 0 reading) (sym lines_are)
    (subst (StandsBetween dialect (conf_lines text) (conf_lines text) 0) (sym is) (stands_begin dialect (conf_lines text)))

length_behind : (above : Option ℕ) (lines : List ConfLine) → length (placed_lines above lines) ≡ length lines
length_behind above [] = refl
length_behind above (line ∷ lines) = omega (arith, length_behind (depth_behind above line) lines)

pub number_fits : (dialect : Dialect) (text : List ℕ) (line : ConfLine) (rest : List ConfLine) (number : ℕ) (reading : Reading) → StandsBetween dialect (conf_lines text) (line ∷ rest) number reading
    → length text ≤ 16777216 → number < 16777216
number_fits dialect text line rest number reading s short =
    omega (arith, s.size, length_behind None (map ended_line_of (lines_of text)), length-map (lines_of text) ended_line_of, length-lines_of text)

module _ (dialect : Dialect) (all : List ConfLine) (line : ConfLine) (rest : List ConfLine) (number : ℕ) (reading : Reading) (s : StandsBetween dialect all (line ∷ rest) number reading) where
  this_fault : fault_at reading (number + 1) line rest ≡ fault_of dialect s.before line rest
  this_fault =
      ap (λ r. fault_at r (number + 1) line rest) s.known ∙ ap (λ n. fault_at (reading_of dialect s.before s.done) (n + 1) line rest) s.count
      ∙ fault_same dialect s.before s.done line rest s.keys

  pub stands_next : (next : Reading) → TakesConfLine reading next (number + 1) line rest → StandsBetween dialect all rest (number + 1) next
  stands_next next takes = record {
    before = s.before ++ line ∷ [];
    done = s.done ++ new_settings (section_of s.before) line rest;
    known =
        takes.known ∙ ap (λ r. known_after r line rest) s.known
        ∙ known_step dialect s.before s.done (number + 1) line rest (ap (λ r. fault_at r (number + 1) line rest) (sym s.known) ∙ takes.fine);
    count = omega (arith, s.count, length_push s.before line);
    faults = s.faults ∙ ap (λ f. or_later f (first_fault dialect (s.before ++ line ∷ []) rest)) (sym this_fault ∙ takes.fine);
    settings =
        s.settings ∙ ap (λ t. s.done ++ t) (settings_step (section_of s.before) line rest)
        ∙ sym (append_assoc s.done (new_settings (section_of s.before) line rest) (settings_from (section_after (section_of s.before) line) rest))
        ∙ ap (λ o. (s.done ++ new_settings (section_of s.before) line rest) ++ settings_from o rest) (sym (fold_push section_after None s.before line));
    keys =
        map-append (λ x. x.key) s.done (new_settings (section_of s.before) line rest)
        ∙ ap (λ k. k ++ keys_of (new_settings (section_of s.before) line rest)) s.keys
        ∙ sym (keys_push None s.before line rest);
    size = omega (arith, s.size);
  }

  pub stands_fault : (fault : ConfFault) → fault_at reading (number + 1) line rest ≡ Some fault → first_fault dialect [] all ≡ Some fault
  stands_fault fault is = s.faults ∙ ap (λ f. or_later f (first_fault dialect (s.before ++ line ∷ []) rest)) (sym this_fault ∙ is)

-- the same with the lines as they stand in the text, where the setting above them stands so deep
module _ (dialect : Dialect) (text : List ℕ) (above : Option ℕ) (lines rest : List (List ℕ)) (line : List ℕ) (number : ℕ) (reading : Reading) (first : lines ≡ line ∷ rest)
    (s : StandsBetween dialect (conf_lines text) (placed_lines above (map ended_line_of lines)) number reading) where
  abbrev others : List ConfLine
  others = placed_lines (depth_behind above (ended_line_of line)) (map ended_line_of rest)

  here : StandsBetween dialect (conf_lines text) (placed_line above (ended_line_of line) ∷ others) number reading
  here = subst (λ l. StandsBetween dialect (conf_lines text) (placed_lines above (map ended_line_of l)) number reading) first s

  pub line_fits : length text ≤ 16777216 → number < 16777216
  line_fits short = number_fits dialect text (placed_line above (ended_line_of line)) others number reading here short

  pub line_next : (next : Reading) (kind : ConfLine) (depth : Option ℕ) (below : List ℕ) → kind ≡ placed_line above (ended_line_of line) → depth ≡ depth_behind above (ended_line_of line)
      → lines_of below ≡ rest → TakesConfLine reading next (number + 1) kind (lines_below depth below)
      → StandsBetween dialect (conf_lines text) (placed_lines depth (map ended_line_of rest)) (number + 1) next
  line_next next kind depth below kind_is depth_is below_is takes =
      subst (λ d. StandsBetween dialect (conf_lines text) (placed_lines d (map ended_line_of rest)) (number + 1) next) (sym depth_is)
      (stands_next dialect (conf_lines text) (placed_line above (ended_line_of line)) others number reading here next
      (subst (λ k. TakesConfLine reading next (number + 1) k others) kind_is
      (subst (λ d. TakesConfLine reading next (number + 1) kind (placed_lines d (map ended_line_of rest))) depth_is
      (subst (λ l. TakesConfLine reading next (number + 1) kind (placed_lines depth (map ended_line_of l))) below_is takes))))

  module _ (kind : ConfLine) (depth : Option ℕ) (below : List ℕ) (kind_is : kind ≡ placed_line above (ended_line_of line)) (depth_is : depth ≡ depth_behind above (ended_line_of line))
      (below_is : lines_of below ≡ rest) where
    others_are : lines_below depth below ≡ others
    others_are = ap (λ d. lines_below d below) depth_is ∙ ap (λ l. placed_lines (depth_behind above (ended_line_of line)) (map ended_line_of l)) below_is

    pub line_fault : (fault : ConfFault) → fault_at reading (number + 1) kind (lines_below depth below) ≡ Some fault → first_fault dialect [] (conf_lines text) ≡ Some fault
    line_fault fault is =
        stands_fault dialect (conf_lines text) (placed_line above (ended_line_of line)) others number reading here fault
        (ap (λ k. fault_at reading (number + 1) k others) (sym kind_is) ∙ ap (fault_at reading (number + 1) kind) (sym others_are) ∙ is)

    pub line_refused : (fault : ConfFault) → (fault_at reading (number + 1) kind (lines_below depth below) ≡ Some fault) ⊎ (fault ≡ NoMemory)
        → (first_fault dialect [] (conf_lines text) ≡ Some fault) ⊎ (fault ≡ NoMemory)
    line_refused fault h = ⊎_elim (λ is. inl (line_fault fault is)) (λ is. inr is) h
