-- What is exported, read back.
use Rattle.std.proofs.Common.{◌≡◌, ◌⊎◌, ℕ, Bool, Option, None, Some, List, [], ◌∷◌, ◌++◌, map, refl, sym, ap, subst, ◌∙◌, inl, inr}
use Rattle.std.specs.List.{filter_map, flat_map, cons_option}
use Rattle.std.specs.Option.{option_map}
use Rattle.csv.specs.Machine.{Read, next_record}
use Rattle.csv.specs.Reading.{AreRecords, NextIs, Reached, ReadsHeader, ReadsNext, default_config, source_of, strip_bom}
use Rattle.csv.specs.declared.reader.Reader.{Reader}
use Rattle.csv.specs.Writing.{default_writer, fields_text, is_blank, read_back, row_text}
use Rattle.csv.specs.declared.parser.State.{State}
use Rattle.csv.specs.declared.parser.State.TheVariants as st
use Rattle.csv.proofs.RoundTrip.{read-write, rows_text}
use Rattle.packet_codec.specs.declared.event.Event.{Event}
use Rattle.outcome_fold.specs.declared.row.Row.{Row}
use Rattle.outcome_fold.specs.Parts.{start_of}
use Rattle.sub_export.specs.Records.{head_fields, csv_head_text, csv_row_of, row_if, record_of, record_with, id_of, status_word, end_by, stop_by, last_of_part, kept_parts, csv_records, csv_text}

-- a row stands at the front of the text, and the rest behind it
next_row : (row : List (List ℕ)) (rows : List (List (List ℕ))) → next_record default_config st.StartRecord [] [] (rows_text (row ∷ rows)) ≡ Some (read_back row, st.StartRecord, rows_text rows)
unfolding rows_text
next_row row rows = read-write row (rows_text rows)

not_none : {A : Type 0} → (x : A) (o : Option A) → o ≡ Some x → o ≡ None → ⊥
not_none x o some none = cc (sym some ∙ none)

abbrev read_of : Read → Option Read → Read
read_of other None = other
read_of other (Some p) = p

same_read : (p q : Read) → Some p ≡ Some q → p ≡ q
same_read p q e = ap (read_of p) e

none_left : next_record default_config st.StartRecord [] [] (rows_text []) ≡ None
unfolding next_record rows_text
none_left = refl

-- behind a record stand the records of the rest
rest_read : (row : List (List ℕ)) (rows read : List (List (List ℕ))) (p : Read) (s2 : State) (ys : List ℕ) → next_record default_config st.StartRecord [] [] (rows_text (row ∷ rows)) ≡ Some p → Reached default_config p.1 p.2 read s2 ys → Reached default_config st.StartRecord (rows_text rows) read s2 ys
rest_read row rows read p s2 ys next reached =
    let is : (read_back row, st.StartRecord, rows_text rows) ≡ p = same_read (read_back row, st.StartRecord, rows_text rows) p (sym (next_row row rows) ∙ next) in
    subst (λ (q : Read). Reached default_config q.1 q.2 read s2 ys) (sym is) reached

first_read : (row : List (List ℕ)) (rows : List (List (List ℕ))) (p : Read) → next_record default_config st.StartRecord [] [] (rows_text (row ∷ rows)) ≡ Some p → p.0 ≡ read_back row
first_read row rows p next = sym (ap (λ (q : Read). q.0) (same_read (read_back row, st.StartRecord, rows_text rows) p (sym (next_row row rows) ∙ next)))

-- all records of the text of some rows
all_read : (rows read : List (List (List ℕ))) (s2 : State) (ys : List ℕ) → Reached default_config st.StartRecord (rows_text rows) read s2 ys → next_record default_config s2 [] [] ys ≡ None → read ≡ map read_back rows
unfolding Reached
all_read [] [] s2 ys reached ended = refl
all_read [] (r ∷ rs) s2 ys reached ended = absurd (not_none reached.0 (next_record default_config st.StartRecord [] [] (rows_text [])) reached.1 none_left)
all_read (row ∷ rows) [] s2 ys reached ended =
    let here : next_record default_config st.StartRecord [] [] (rows_text (row ∷ rows)) ≡ None = rw (reached.0, reached.1) ended in
    absurd (not_none (read_back row, st.StartRecord, rows_text rows) _ (next_row row rows) here)
all_read (row ∷ rows) (r ∷ rs) s2 ys reached ended =
    let more = all_read rows rs s2 ys (rest_read row rows rs reached.0 s2 ys reached.1 reached.3) ended in
    let first = reached.2 ∙ first_read row rows reached.0 reached.1 in
    λ i. first i ∷ more i

-- ---- what is exported

row_joined : (given : Option (List (List ℕ))) (rest : List ℕ) (more : List (List (List ℕ))) → rest ≡ rows_text more → row_if given ++ rest ≡ rows_text (cons_option given more)
unfolding rows_text
row_joined None rest more is = is
row_joined (Some fields) rest more is = ap (λ (t : List ℕ). row_text default_writer fields ++ t) is

rows_joined : (parts : List (List Event)) → flat_map csv_row_of parts ≡ rows_text (filter_map record_of parts)
unfolding rows_text
rows_joined [] = refl
rows_joined (p ∷ ps) = row_joined (record_of p) (flat_map csv_row_of ps) (filter_map record_of ps) (rows_joined ps)

-- a record has a field, so it is read back as it is
record_back : (id word : Option (List ℕ)) (start stop : Option ℕ) → option_map read_back (record_with id word start stop) ≡ record_with id word start stop
record_back None word start stop = refl
record_back (Some id) None start stop = refl
record_back (Some id) (Some word) start stop = refl

abbrev fields_or : List (List ℕ) → Option (List (List ℕ)) → List (List ℕ)
fields_or other None = other
fields_or other (Some fields) = fields

one_back : (given : Option (List (List ℕ))) (more : List (List (List ℕ))) → option_map read_back given ≡ given → map read_back more ≡ more → map read_back (cons_option given more) ≡ cons_option given more
one_back None more here rest = rest
one_back (Some fields) more here rest =
    let first : read_back fields ≡ fields = ap (fields_or fields) here in
    λ i. first i ∷ rest i

all_back : (parts : List (List Event)) → map read_back (filter_map record_of parts) ≡ filter_map record_of parts
all_back [] = refl
all_back (p ∷ ps) = one_back (record_of p) (filter_map record_of ps) (record_back (id_of p) (status_word (end_by (last_of_part p))) (start_of p) (stop_by (last_of_part p))) (all_back ps)

pub exported_rows : (kept : Row → Bool) (es : List Event) → csv_text kept es ≡ rows_text (head_fields ∷ csv_records kept es)
unfolding rows_text
exported_rows kept es = ap (λ (t : List ℕ). csv_head_text ++ t) (rows_joined (kept_parts kept es))

-- the head begins with no byte order mark
head_plain : (rest : List ℕ) → strip_bom (csv_head_text ++ rest) ≡ csv_head_text ++ rest
unfolding strip_bom fields_text is_blank
head_plain rest = refl

export_plain : (kept : Row → Bool) (es : List Event) → strip_bom (csv_text kept es) ≡ rows_text (head_fields ∷ csv_records kept es)
export_plain kept es = head_plain (flat_map csv_row_of (kept_parts kept es)) ∙ exported_rows kept es

abbrev below : List (List (List ℕ)) → List (List (List ℕ))
below [] = []
below (x ∷ xs) = xs

records_back : (kept : Row → Bool) (es : List Event) (names : List (List ℕ)) (read : List (List (List ℕ))) → AreRecords default_config st.StartRecord (rows_text (head_fields ∷ csv_records kept es)) (names ∷ read) → read ≡ csv_records kept es
records_back kept es names read are =
    ap below (all_read (head_fields ∷ csv_records kept es) (names ∷ read) are.0 are.1 are.2 are.3) ∙ all_back (kept_parts kept es)

pub export_read : (kept : Row → Bool) (es : List Event) (text : List ℕ) (read : List (List (List ℕ))) → text ≡ csv_text kept es
    → (next_record default_config st.StartRecord [] [] (strip_bom text) ≡ None) ⊎ ((names : List (List ℕ)) × AreRecords default_config st.StartRecord (strip_bom text) (names ∷ read))
    → read ≡ csv_records kept es
export_read kept es text read is (inl none) =
    let plain : strip_bom text ≡ rows_text (head_fields ∷ csv_records kept es) = ap strip_bom is ∙ export_plain kept es in
    absurd (not_none _ _ (next_row head_fields (csv_records kept es)) (rw plain at none))
export_read kept es text read is (inr are) =
    let plain : strip_bom text ≡ rows_text (head_fields ∷ csv_records kept es) = ap strip_bom is ∙ export_plain kept es in
    records_back kept es are.0 read (subst (λ (t : List ℕ). AreRecords default_config st.StartRecord t (are.0 ∷ read)) plain are.1)

-- ---- the names of the fields

first_fields : (xs : List ℕ) (p : Read) (left : Option (List ℕ)) (found : Bool) (fields : List (List ℕ)) (s : State) → next_record default_config st.StartRecord [] [] xs ≡ Some p → ReadsNext default_config st.StartRecord (Some xs) left found fields s → fields ≡ p.0
first_fields xs p None found fields s next read = absurd read
first_fields xs p (Some ys) found fields s next read =
    let is : NextIs (Some p) found fields s ys = subst (λ (o : Option Read). NextIs o found fields s ys) next read in
    is.1

pub names_read : {R : Type 0} (rem : R → Option (List ℕ)) (reader : Reader R) (kept : Row → Bool) (es : List Event) (text : List ℕ) (fields : List (List ℕ)) → text ≡ csv_text kept es
    → reader.config ≡ default_config → reader.state ≡ st.StartRecord → source_of rem reader ≡ Some (strip_bom text) → ReadsHeader rem reader fields → fields ≡ head_fields
names_read rem reader kept es text fields is config state source read =
    let plain : strip_bom text ≡ rows_text (head_fields ∷ csv_records kept es) = ap strip_bom is ∙ export_plain kept es in
    let next : next_record default_config st.StartRecord [] [] (strip_bom text) ≡ Some (read_back head_fields, st.StartRecord, rows_text (csv_records kept es)) =
    ap (λ (t : List ℕ). next_record default_config st.StartRecord [] [] t) plain ∙ next_row head_fields (csv_records kept es) in
    let here : ReadsNext default_config st.StartRecord (Some (strip_bom text)) read.0 read.1 fields read.2 = rw (config, state, source) at read.3 in
    first_fields (strip_bom text) (read_back head_fields, st.StartRecord, rows_text (csv_records kept es)) read.0 read.1 fields read.2 next here
