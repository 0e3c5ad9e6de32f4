-- The pieces of a text with variables.
use Rattle.std.proofs.Common.{◌≡◌, ◌<◌, ◌≤◌, ◌+◌, ◌-◌, ℕ, zero, suc, Bool, true, false, ◌||◌, nat_eq, Some, None, List, [], ◌∷◌, ◌++◌, length, take, drop, map, get_or, refl, sym, ap, subst, ◌∙◌, cond, ⊎_elim, arith, take-add, append_assoc}
use Rattle.std.specs.List.{list_any, flat_map, find, starts_with}
use Rattle.std.specs.Str.{bytes_eq}
use Rattle.std.proofs.lemmas.List.{append-nil, take_rest, take_all, drop_all, drop-drop, take-append-drop, drop_more, take_more, map-append, get_or-take, get_or-drop, length-take-le, length-drop}
use Rattle.std.proofs.lemmas.List.Concat.{flat_map-append}
use Rattle.std.proofs.lemmas.Bool.{ne_eqb, eqb-true, cases_Bool}
use Rattle.std.proofs.lemmas.Bool.Decides.{Decides-eqb}
use Rattle.std.proofs.lemmas.Slice.Eq.{starts_is}
use Rattle.std.proofs.lemmas.List.Prefix.{front_reads}
use Rattle.memchr.specs.Find.{IsFirstByte, is_byte}
use Rattle.sub_number.specs.Texts.{IsText}
use Rattle.testr_conf.specs.declared.variable.Template.{Template}
use Rattle.testr_conf.specs.declared.variable.Template.TheVariants.{Test, Provision, Execute, Dispose}
use Rattle.testr_conf.specs.declared.variable.Variable.{Variable}
use Rattle.testr_conf.specs.declared.variable.Variable.TheVariants.{IdOption, IdFile, IdList, ListOption, InstanceCount, InstanceId, Files, Command, InstanceIds}
use Rattle.testr_conf.specs.Variables.{CommandPiece, byte, variable, variable_name, variables, variable_at, command_piece_at, rest_of_name, pieces_behind, command_pieces, is_variable, has_variable, Values, of_test, of_provision, of_execute, of_dispose, template_of, variable_value, in_place, filled}
use Rattle.testr_conf.specs.Filled.{FirstVariable, AreTextValues}
use Rattle.testr_conf.proofs.TextLemmas.{text_before, text_behind, text_append, text_nil}

-- each name begins with `$`
no_name : (template : Template) (b : ℕ) (text : List ℕ) → nat_eq 36 b ≡ false → variable_at template (b ∷ text) ≡ None
no_name Test b text other = rw other refl
no_name Provision b text other = rw other refl
no_name Execute b text other = rw other refl
no_name Dispose b text other = rw other refl

plain_byte : (template : Template) (b : ℕ) (text : List ℕ) → variable_at template (b ∷ text) ≡ None → command_pieces template (b ∷ text) ≡ byte b ∷ command_pieces template text
plain_byte template b text none = ap (λ v. command_piece_at v b ∷ pieces_behind template (rest_of_name v) text) none

plain_front : (template : Template) (xs ys : List ℕ) → ((k : ℕ) → k < length xs → get_or xs k 0 ≡ 36 → ⊥) → command_pieces template (xs ++ ys) ≡ map byte xs ++ command_pieces template ys
plain_front template [] ys none = refl
plain_front template (x ∷ xs) ys none =
    plain_byte template x (xs ++ ys) (no_name template x (xs ++ ys) (ne_eqb 36 x (λ e. none 0 (omega arith) (sym e))))
    ∙ ap (λ ps. byte x ∷ ps) (plain_front template xs ys (λ k below. none (suc k) (omega arith)))

skipped : (template : Template) (n : ℕ) (text : List ℕ) → pieces_behind template n text ≡ command_pieces template (drop n text)
skipped template zero text = refl
skipped template (suc n) [] = refl
skipped template (suc n) (b ∷ text) = skipped template n text

drop_name : (v : Variable) (b : ℕ) (text : List ℕ) → drop (length (variable_name v) - 1) text ≡ drop (length (variable_name v)) (b ∷ text)
drop_name IdOption b text = refl
drop_name IdFile b text = refl
drop_name IdList b text = refl
drop_name ListOption b text = refl
drop_name InstanceCount b text = refl
drop_name InstanceId b text = refl
drop_name Files b text = refl
drop_name Command b text = refl
drop_name InstanceIds b text = refl

variable_front : (template : Template) (b : ℕ) (text : List ℕ) (v : Variable) → variable_at template (b ∷ text) ≡ Some v
    → command_pieces template (b ∷ text) ≡ variable v ∷ command_pieces template (drop (length (variable_name v)) (b ∷ text))
variable_front template b text v some =
    ap (λ o. command_piece_at o b ∷ pieces_behind template (rest_of_name o) text) some
    ∙ ap (λ ps. variable v ∷ ps) (skipped template (length (variable_name v) - 1) text ∙ ap (command_pieces template) (drop_name v b text))

name_long : (v : Variable) → 0 < length (variable_name v)
name_long IdOption = omega arith
name_long IdFile = omega arith
name_long IdList = omega arith
name_long ListOption = omega arith
name_long InstanceCount = omega arith
name_long InstanceId = omega arith
name_long Files = omega arith
name_long Command = omega arith
name_long InstanceIds = omega arith

last_small : (v : Variable) → get_or (variable_name v) (length (variable_name v) - 1) 0 < 128
last_small IdOption = omega arith
last_small IdFile = omega arith
last_small IdList = omega arith
last_small ListOption = omega arith
last_small InstanceCount = omega arith
last_small InstanceId = omega arith
last_small Files = omega arith
last_small Command = omega arith
last_small InstanceIds = omega arith

find_passes : {X : Type 0} (p : X → Bool) (xs : List X) (v : X) → find p xs ≡ Some v → p v ≡ true
find_passes p [] v e = let other : None ≡ Some v = e in cc
find_passes p (x ∷ xs) v e =
    ⊎_elim
    (λ passes.
    let found : Some x ≡ Some v = subst (λ b. cond b (Some x) (find p xs) ≡ Some v) passes e in
    let same : x ≡ v = cc in
    subst (λ y. p y ≡ true) same passes)
    (λ fails. find_passes p xs v (subst (λ b. cond b (Some x) (find p xs) ≡ Some v) fails e))
    (cases_Bool (p x))

-- the text begins with the name
name_begins : (template : Template) (text : List ℕ) (v : Variable) → variable_at template text ≡ Some v → text ≡ variable_name v ++ drop (length (variable_name v)) text
name_begins template text v some =
    (starts_is Decides-eqb text (variable_name v) (starts_with nat_eq text (variable_name v)) refl).0
    (find_passes (λ v. starts_with nat_eq text (variable_name v)) (variables template) v some)

-- a text of which so many bytes are read, and no `$` in the next ones
module _ (template : Template) (text : List ℕ) (at count : ℕ) (read : command_pieces template text ≡ map byte (take at text) ++ command_pieces template (drop at text)) (room : at + count ≤ length text)
    (none : (k : ℕ) → k < count → get_or (drop at text) k 0 ≡ 36 → ⊥) where
  plain_part : command_pieces template (drop at text) ≡ map byte (take count (drop at text)) ++ command_pieces template (drop (at + count) text)
  plain_part =
      let size : length (take count (drop at text)) ≡ count = length-take-le count (drop at text) (omega (arith, length-drop at text)) in
      ap (command_pieces template) (sym (take-append-drop count (drop at text)))
      ∙ plain_front template (take count (drop at text)) (drop count (drop at text)) (λ k below is. none k (omega arith) (sym (get_or-take count (drop at text) k 0 (omega arith)) ∙ is))
      ∙ ap (λ ys. map byte (take count (drop at text)) ++ command_pieces template ys) (drop-drop count at text)

  pub plain_more : command_pieces template text ≡ map byte (take (at + count) text) ++ command_pieces template (drop (at + count) text)
  plain_more =
      read ∙ ap (λ ps. map byte (take at text) ++ ps) plain_part
      ∙ sym (append_assoc (map byte (take at text)) (map byte (take count (drop at text))) (command_pieces template (drop (at + count) text)))
      ∙ ap (λ bs. bs ++ command_pieces template (drop (at + count) text)) (sym (map-append byte (take at text) (take count (drop at text))) ∙ ap (map byte) (sym (take-add at count text)))

-- a search for the next `$`
module _ (template : Template) (text : List ℕ) (at : ℕ) (in_range : at ≤ length text) (read : command_pieces template text ≡ map byte (take at text) ++ command_pieces template (drop at text)) where
  is_sign_of : (k : ℕ) → get_or (take (length text - at) (drop at text)) k 0 ≡ get_or (drop at text) k 0
  is_sign_of k = ap (λ l. get_or l k 0) (take_rest text at)

  rest_size : length (take (length text - at) (drop at text)) ≡ length text - at
  rest_size = ap length (take_rest text at) ∙ length-drop at text

  sign_test : (k : ℕ) → get_or (drop at text) k 0 ≡ 36 → is_byte 36 (get_or (take (length text - at) (drop at text)) k 0) ≡ true
  sign_test k is = ap (is_byte 36) (is_sign_of k ∙ is)

  pub none_left : IsFirstByte (is_byte 36) (take (length text - at) (drop at text)) None → command_pieces template text ≡ map byte text
  none_left none =
      let room : at + (length text - at) ≡ length text = omega arith in
      let all : command_pieces template text ≡ map byte (take (at + (length text - at)) text) ++ command_pieces template (drop (at + (length text - at)) text) =
      plain_more template text at (length text - at) read (omega arith) (λ k below is. none k (omega arith) (omega (arith, rest_size)) (sign_test k is)) in
      all ∙ ap (λ n. map byte (take n text) ++ command_pieces template (drop n text)) room
      ∙ ap (λ bs. map byte bs ++ command_pieces template (drop (length text) text)) (take_all (length text) text (omega arith))
      ∙ ap (λ bs. map byte text ++ command_pieces template bs) (drop_all (length text) text (omega arith)) ∙ append-nil (map byte text)

  module _ (count : ℕ) (found : IsFirstByte (is_byte 36) (take (length text - at) (drop at text)) (Some count)) where
    place_fits : at + count < length text
    place_fits = omega (arith, found.0.high, rest_size)

    to_place : command_pieces template text ≡ map byte (take (at + count) text) ++ command_pieces template (drop (at + count) text)
    to_place = plain_more template text at count read (omega (arith, place_fits)) (λ k below is. found.0.before k (omega arith) below (sign_test k is))

    sign_is : get_or text (at + count) 0 ≡ 36
    sign_is = sym (get_or-drop at text count 0) ∙ sym (is_sign_of count) ∙ eqb-true (get_or (take (length text - at) (drop at text)) count 0) 36 found.1

    place_is : drop (at + count) text ≡ get_or text (at + count) 0 ∷ drop (at + count + 1) text
    place_is = drop_more text (at + count) 0 place_fits

    rest_is : take (length text - (at + count)) (drop (at + count) text) ≡ get_or text (at + count) 0 ∷ drop (at + count + 1) text
    rest_is = take_rest text (at + count) ∙ place_is

    pub plain_sign : None ≡ variable_at template (take (length text - (at + count)) (drop (at + count) text))
        → command_pieces template text ≡ map byte (take (at + count + 1) text) ++ command_pieces template (drop (at + count + 1) text)
    plain_sign none =
        let one : command_pieces template (drop (at + count) text) ≡ byte (get_or text (at + count) 0) ∷ command_pieces template (drop (at + count + 1) text) =
        ap (command_pieces template) place_is ∙ plain_byte template (get_or text (at + count) 0) (drop (at + count + 1) text) (sym (none ∙ ap (variable_at template) rest_is)) in
        to_place ∙ ap (λ ps. map byte (take (at + count) text) ++ ps) one
        ∙ sym (append_assoc (map byte (take (at + count) text)) (byte (get_or text (at + count) 0) ∷ []) (command_pieces template (drop (at + count + 1) text)))
        ∙ ap (λ bs. bs ++ command_pieces template (drop (at + count + 1) text))
        (sym (map-append byte (take (at + count) text) (get_or text (at + count) 0 ∷ [])) ∙ ap (map byte) (sym (take_more text (at + count) 0 place_fits)))

    pub sign_fits : at + count + 1 ≤ length text
    sign_fits = omega (arith, place_fits)

    module _ (v : Variable) (some : Some v ≡ variable_at template (take (length text - (at + count)) (drop (at + count) text)))
        (fits : length (variable_name v) ≤ length (take (length text - (at + count)) (drop (at + count) text))) where
      name_at : variable_at template (drop (at + count) text) ≡ Some v
      name_at = sym (some ∙ ap (variable_at template) (take_rest text (at + count)))

      name_fits : at + count + length (variable_name v) ≤ length text
      name_fits = omega (arith, place_fits, fits, ap length (take_rest text (at + count)), length-drop (at + count) text)

      last_byte : get_or text (at + count + (length (variable_name v) - 1)) 0 < 128
      last_byte =
          let read : get_or (drop (at + count) text) (length (variable_name v) - 1) 0 ≡ get_or (variable_name v) (length (variable_name v) - 1) 0 =
          front_reads 0 (drop (at + count) text) (variable_name v) (drop (length (variable_name v)) (drop (at + count) text)) (name_begins template (drop (at + count) text) v name_at) (length (variable_name v) - 1) (omega (arith, name_long v)) in
          omega (arith, last_small v, read, get_or-drop (at + count) text (length (variable_name v) - 1) 0)

      behind_is : (at + count + (length (variable_name v) - 1)) + 1 ≡ at + count + length (variable_name v)
      behind_is = omega (arith, name_long v)

      pub first_found : FirstVariable template text (at + count) v
      first_found = record {
        in_range = name_fits;
        pieces =
            to_place ∙ ap (λ ps. map byte (take (at + count) text) ++ ps)
            (ap (command_pieces template) place_is ∙ variable_front template (get_or text (at + count) 0) (drop (at + count + 1) text) v (ap (variable_at template) (sym place_is) ∙ name_at)
            ∙ ap (λ xs. variable v ∷ command_pieces template (drop (length (variable_name v)) xs)) (sym place_is)
            ∙ ap (λ xs. variable v ∷ command_pieces template xs) (drop-drop (length (variable_name v)) (at + count) text));
        texts = λ t. (
          text_before text (at + count) t place_fits (omega (arith, sign_is)),
          subst (λ n. IsText (drop n text)) behind_is
              (text_behind text (at + count + (length (variable_name v) - 1)) t (omega (arith, name_fits, name_long v)) last_byte),
        );
      }

-- What the pieces come to.

module _ (wanted : Variable) where
  any_bytes : (xs : List ℕ) (ps : List CommandPiece) → list_any (is_variable wanted) (map byte xs ++ ps) ≡ list_any (is_variable wanted) ps
  any_bytes [] ps = refl
  any_bytes (x ∷ xs) ps = any_bytes xs ps

  pub has_none : (text : List ℕ) → command_pieces Test text ≡ map byte text → has_variable wanted text ≡ false
  has_none text plain = ap (list_any (is_variable wanted)) (plain ∙ sym (append-nil (map byte text))) ∙ any_bytes text []

  module _ (text : List ℕ) (place : ℕ) (v : Variable) (first : FirstVariable Test text place v) where
    has_first : has_variable wanted text ≡ (bytes_eq (variable_name wanted) (variable_name v) || has_variable wanted (drop (place + length (variable_name v)) text))
    has_first = ap (list_any (is_variable wanted)) first.pieces ∙ any_bytes (take place text) (variable v ∷ command_pieces Test (drop (place + length (variable_name v)) text))

    pub has_later : bytes_eq (variable_name wanted) (variable_name v) ≡ false → has_variable wanted text ≡ has_variable wanted (drop (place + length (variable_name v)) text)
    has_later other = has_first ∙ ap (λ e. e || has_variable wanted (drop (place + length (variable_name v)) text)) other

    -- the rest as a slice of the text, with the names as they were read
    pub has_behind : (all : List ℕ) (w n m : List ℕ) (same : Bool) → w ≡ variable_name wanted → n ≡ variable_name v → m ≡ variable_name v → same ≡ bytes_eq w n → same ≡ false
        → has_variable wanted all ≡ has_variable wanted text → has_variable wanted all ≡ has_variable wanted (take (length text - (place + length m)) (drop (place + length m) text))
    has_behind all w n m same w_is n_is m_is test other read =
        read ∙ has_later (sym (ap (λ x. bytes_eq x n) w_is ∙ ap (bytes_eq (variable_name wanted)) n_is) ∙ sym test ∙ other)
        ∙ ap (λ x. has_variable wanted (drop (place + length x) text)) (sym m_is) ∙ ap (has_variable wanted) (sym (take_rest text (place + length m)))

-- each value is a text
value_text : (values : Values) → AreTextValues values → (v : Variable) → IsText (variable_value values v)
value_text (of_test values) texts IdOption = texts.id_option
value_text (of_test values) texts IdFile = texts.id_file
value_text (of_test values) texts IdList = texts.id_list
value_text (of_test values) texts ListOption = texts.list_option
value_text (of_test values) texts InstanceCount = text_nil
value_text (of_test values) texts InstanceId = text_nil
value_text (of_test values) texts Files = text_nil
value_text (of_test values) texts Command = text_nil
value_text (of_test values) texts InstanceIds = text_nil
value_text (of_provision count) text IdOption = text_nil
value_text (of_provision count) text IdFile = text_nil
value_text (of_provision count) text IdList = text_nil
value_text (of_provision count) text ListOption = text_nil
value_text (of_provision count) text InstanceCount = text
value_text (of_provision count) text InstanceId = text_nil
value_text (of_provision count) text Files = text_nil
value_text (of_provision count) text Command = text_nil
value_text (of_provision count) text InstanceIds = text_nil
value_text (of_execute values) texts IdOption = text_nil
value_text (of_execute values) texts IdFile = text_nil
value_text (of_execute values) texts IdList = text_nil
value_text (of_execute values) texts ListOption = text_nil
value_text (of_execute values) texts InstanceCount = text_nil
value_text (of_execute values) texts InstanceId = texts.instance
value_text (of_execute values) texts Files = texts.files
value_text (of_execute values) texts Command = texts.command
value_text (of_execute values) texts InstanceIds = text_nil
value_text (of_dispose instances) text IdOption = text_nil
value_text (of_dispose instances) text IdFile = text_nil
value_text (of_dispose instances) text IdList = text_nil
value_text (of_dispose instances) text ListOption = text_nil
value_text (of_dispose instances) text InstanceCount = text_nil
value_text (of_dispose instances) text InstanceId = text_nil
value_text (of_dispose instances) text Files = text_nil
value_text (of_dispose instances) text Command = text_nil
value_text (of_dispose instances) text InstanceIds = text

module _ (values : Values) where
  fill_bytes : (xs : List ℕ) → flat_map (in_place values) (map byte xs) ≡ xs
  fill_bytes [] = refl
  fill_bytes (x ∷ xs) = ap (λ ys. x ∷ ys) (fill_bytes xs)

  pub filled_plain : (text : List ℕ) → command_pieces (template_of values) text ≡ map byte text → filled values text ≡ text
  filled_plain text plain = ap (flat_map (in_place values)) plain ∙ fill_bytes text

  pub filled_first : (text : List ℕ) (place : ℕ) (v : Variable) → FirstVariable (template_of values) text place v
      → filled values text ≡ take place text ++ (variable_value values v ++ filled values (drop (place + length (variable_name v)) text))
  filled_first text place v first =
      ap (flat_map (in_place values)) first.pieces
      ∙ flat_map-append (in_place values) (map byte (take place text)) (variable v ∷ command_pieces (template_of values) (drop (place + length (variable_name v)) text))
      ∙ ap (λ xs. xs ++ (variable_value values v ++ filled values (drop (place + length (variable_name v)) text))) (fill_bytes (take place text))

  pub filled_end : (all text out new : List ℕ) → filled values all ≡ out ++ filled values text → command_pieces (template_of values) text ≡ map byte text → new ≡ out ++ text → new ≡ filled values all
  filled_end all text out new read plain end = end ∙ ap (λ t. out ++ t) (sym (filled_plain text plain)) ∙ sym read

  module _ (all text out first part second name : List ℕ) (place : ℕ) (v : Variable) (found : FirstVariable (template_of values) text place v)
      (first_is : first ≡ out ++ take place text) (part_is : part ≡ variable_value values v) (second_is : second ≡ first ++ part) (name_is : name ≡ variable_name v) where
    pub filled_more : filled values all ≡ out ++ filled values text
        → filled values all ≡ second ++ filled values (take (length text - (place + length name)) (drop (place + length name) text))
    filled_more read =
        read ∙ ap (λ t. out ++ t) (filled_first text place v found)
        ∙ sym (append_assoc out (take place text) (variable_value values v ++ filled values (drop (place + length (variable_name v)) text)))
        ∙ ap (λ t. t ++ (variable_value values v ++ filled values (drop (place + length (variable_name v)) text))) (sym first_is)
        ∙ ap (λ t. first ++ (t ++ filled values (drop (place + length (variable_name v)) text))) (sym part_is)
        ∙ sym (append_assoc first part (filled values (drop (place + length (variable_name v)) text)))
        ∙ ap (λ t. t ++ filled values (drop (place + length (variable_name v)) text)) (sym second_is)
        ∙ ap (λ t. second ++ filled values (drop (place + length t) text)) (sym name_is)
        ∙ ap (λ t. second ++ filled values t) (sym (take_rest text (place + length name)))

    pub rest_text : IsText text → IsText (take (length text - (place + length name)) (drop (place + length name) text))
    rest_text t =
        subst IsText (ap (λ x. drop (place + length x) text) (sym name_is) ∙ sym (take_rest text (place + length name))) (found.texts t).1

    pub out_text : AreTextValues values → IsText out → IsText text → IsText second
    out_text texts o t =
        let front : IsText first = subst IsText (sym first_is) (text_append out (take place text) o (found.texts t).0) in
        let middle : IsText part = subst IsText (sym part_is) (value_text values texts v) in
        subst IsText (sym second_is) (text_append first part front middle)
