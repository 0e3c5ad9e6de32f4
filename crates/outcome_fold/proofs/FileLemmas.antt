-- The files of text that are kept, with one piece more.
use Rattle.std.proofs.Common.{◌≡◌, ℕ, Bool, true, false, not, ◌&&◌, cond, List, [], ◌∷◌, ◌++◌, Option, Some, None, map, take, length, refl, sym, ◌∙◌, ap, append_assoc, true≢false, ◌==◌, arith}
use Rattle.std.specs.List.{filter, flat_map}
use Rattle.std.specs.Option.{unwrap_or}
use Rattle.std.specs.Str.{bytes_eq}
use Rattle.std.proofs.lemmas.Bool.{eqb-true}
use Rattle.std.proofs.lemmas.Slice.Eq.{bytes_eq-Decides}
use Rattle.packet_codec.specs.declared.event.FilePart.{FilePart}
use Rattle.packet_codec.specs.declared.event.Event.{Event}
use Rattle.outcome_fold.specs.declared.files.KeptFiles.{KeptFiles}
use Rattle.outcome_fold.specs.Parts.{text_in, text_limit}
use Rattle.outcome_fold.specs.Files.{name_in, piece_in, has_any_byte, text_pieces_of, is_traceback, tracebacks_in, other_files_in, frame_head, frame_end, between, run_on, are_one_file, last_name, kept_files_of, files_by, files_of, no_files, is_current, shown_by, text_shown, with_other, with_bytes, with_piece}
use Rattle.outcome_fold.proofs.FoldLemmas.{filter_push, append_none}
use Rattle.outcome_fold.proofs.TextLemmas.{take_again, cut_then, four_tied}

-- ---- lists with one piece more

map_push : (es : List Event) (e : Event) → map piece_in (es ++ e ∷ []) ≡ map piece_in es ++ piece_in e ∷ []
map_push [] e = refl
map_push (x ∷ es) e = ap (λ l. piece_in x ∷ l) (map_push es e)

bytes_push : (ps : List FilePart) (p : FilePart) → flat_map (λ p. p.bytes) (ps ++ p ∷ []) ≡ flat_map (λ p. p.bytes) ps ++ p.bytes
bytes_push [] p = append_none p.bytes
bytes_push (q ∷ ps) p = ap (λ l. q.bytes ++ l) (bytes_push ps p) ∙ sym (append_assoc q.bytes (flat_map (λ p. p.bytes) ps) p.bytes)

last_push : (name : List ℕ) (ps : List FilePart) (p : FilePart) → last_name name (ps ++ p ∷ []) ≡ p.name
last_push name [] p = refl
last_push name (q ∷ ps) p = last_push q.name ps p

and_true : (b : Bool) → (b && true) ≡ b
and_true true = refl
and_true false = refl

and_assoc : (a b c : Bool) → (a && (b && c)) ≡ ((a && b) && c)
and_assoc true b c = refl
and_assoc false b c = refl

one_push : (name : List ℕ) (ps : List FilePart) (p : FilePart) → are_one_file name (ps ++ p ∷ []) ≡ (are_one_file name ps && bytes_eq name p.name)
one_push name [] p = and_true (bytes_eq name p.name)
one_push name (q ∷ ps) p = ap (λ b. bytes_eq name q.name && b) (one_push name ps p) ∙ and_assoc (bytes_eq name q.name) (are_one_file name ps) (bytes_eq name p.name)

run_push : (name text : List ℕ) (ps : List FilePart) (p : FilePart) → run_on name text (ps ++ p ∷ []) ≡ run_on name text ps ++ between (last_name name ps) (run_on name text ps) p.name ++ p.bytes
run_push name text [] p = refl
run_push name text (q ∷ ps) p = run_push q.name (text ++ between name text q.name ++ q.bytes) ps p

-- ---- names

is_name : (a b : List ℕ) → bytes_eq a b ≡ true → a ≡ b
is_name a b is = (bytes_eq-Decides a b).0 is

same_name : (a : List ℕ) → bytes_eq a a ≡ true
same_name a = (bytes_eq-Decides a a).1 refl

both : (a b : Bool) → (a && b) ≡ true → (a ≡ true) × (b ≡ true)
both true b is = (refl, is)
both false b is = absurd (true≢false (sym is))

one_last : (name : List ℕ) (ps : List FilePart) → are_one_file name ps ≡ true → last_name name ps ≡ name
one_last name [] all = refl
one_last name (p ∷ ps) all =
    let two = both (bytes_eq name p.name) (are_one_file name ps) all in
    let same = is_name name p.name two.0 in
    one_last p.name ps (ap (λ n. are_one_file n ps) (sym same) ∙ two.1) ∙ sym same

current_is : (one : Bool) (first last : List ℕ) → (one ≡ true → last ≡ first) → unwrap_or (cond one None (Some last)) first ≡ last
current_is true first last own = sym (own refl)
current_is false first last own = refl

later_same : (one : Bool) (first last name : List ℕ) → (one ≡ true → last ≡ first) → bytes_eq last name ≡ true → ◌≡◌ {A = Option (List ℕ)} (cond (one && bytes_eq first name) None (Some name)) (cond one None (Some last))
later_same true first last name own same = ap (λ b. cond b None (Some name)) (ap (λ n. bytes_eq n name) (sym (own refl)) ∙ same)
later_same false first last name own same = ap Some (sym (is_name last name same))

later_other : (one : Bool) (first last name : List ℕ) → (one ≡ true → last ≡ first) → bytes_eq last name ≡ false → ◌≡◌ {A = Option (List ℕ)} (cond (one && bytes_eq first name) None (Some name)) (Some name)
later_other true first last name own other = ap (λ b. cond b None (Some name)) (ap (λ n. bytes_eq n name) (sym (own refl)) ∙ other)
later_other false first last name own other = refl

-- ---- what is kept, with one piece more

abbrev goes_on : List ℕ → Option (List ℕ) → List ℕ → List ℕ → List ℕ → KeptFiles
goes_on first later others traceback bytes = record { first = Some first; later = later; others = take text_limit (others ++ bytes); traceback = traceback }

abbrev begins : List ℕ → List ℕ → List ℕ → List ℕ → List ℕ → KeptFiles
begins first others traceback name bytes = record { first = Some first; later = Some name; others = take text_limit (others ++ frame_end others ++ frame_head name ++ bytes); traceback = traceback }

module _ (o : FilePart) (os : List FilePart) (traceback : List ℕ) (p : FilePart) where
  abbrev one : Bool
  one = are_one_file o.name os

  abbrev last : List ℕ
  last = last_name o.name os

  abbrev run : List ℕ
  run = run_on o.name o.bytes os

  abbrev later : Option (List ℕ)
  later = cond one None (Some last)

  named : ◌≡◌ {A = Option (List ℕ)} (cond (are_one_file o.name (os ++ p ∷ [])) None (Some (last_name o.name (os ++ p ∷ [])))) (cond (one && bytes_eq o.name p.name) None (Some p.name))
  named = λ i. cond (one_push o.name os p i) None (Some (last_push o.name os p i))

  step_is : (s : Bool) → bytes_eq last p.name ≡ s → with_other (Some o.name) later (take text_limit run) traceback p.name p.bytes ≡ cond s (goes_on o.name later (take text_limit run) traceback p.bytes) (begins o.name (take text_limit run) traceback p.name p.bytes)
  step_is s is = ap (λ b. cond b (goes_on o.name later (take text_limit run) traceback p.bytes) (begins o.name (take text_limit run) traceback p.name p.bytes)) (ap (λ n. bytes_eq n p.name) (current_is one o.name last (one_last o.name os)) ∙ is)

  one_more : (s : Bool) → bytes_eq last p.name ≡ s → kept_files_of (o ∷ os ++ p ∷ []) traceback ≡ with_other (Some o.name) later (take text_limit run) traceback p.name p.bytes
  one_more true same =
      let name = named ∙ later_same one o.name last p.name (one_last o.name os) same in
      let bytes : take text_limit (run_on o.name o.bytes (os ++ p ∷ [])) ≡ take text_limit (take text_limit run ++ p.bytes) =
      ap (take text_limit) (run_push o.name o.bytes os p ∙ ap (λ b. run ++ cond b [] (frame_end run ++ frame_head p.name) ++ p.bytes) same ∙ ap (λ l. l ++ p.bytes) (append_none run)) ∙ sym (take_again text_limit run p.bytes) in
      (λ i. record { first = Some o.name; later = name i; others = bytes i; traceback = traceback }) ∙ sym (step_is true same)
  one_more false other =
      let name = named ∙ later_other one o.name last p.name (one_last o.name os) other in
      let bytes : take text_limit (run_on o.name o.bytes (os ++ p ∷ [])) ≡ take text_limit (take text_limit run ++ frame_end (take text_limit run) ++ frame_head p.name ++ p.bytes) =
      ap (take text_limit) (run_push o.name o.bytes os p ∙ ap (λ b. run ++ cond b [] (frame_end run ++ frame_head p.name) ++ p.bytes) other ∙ append_assoc run (frame_end run ++ frame_head p.name) p.bytes)
      ∙ sym (cut_then text_limit run (λ text. frame_end text ++ frame_head p.name ++ p.bytes))
      ∙ ap (take text_limit) (sym (four_tied (take text_limit run) (frame_end (take text_limit run)) (frame_head p.name) p.bytes)) in
      (λ i. record { first = Some o.name; later = name i; others = bytes i; traceback = traceback }) ∙ sym (step_is false other)

others_push : (os : List FilePart) (traceback : List ℕ) (p : FilePart) → kept_files_of (os ++ p ∷ []) traceback ≡ with_other (kept_files_of os traceback).first (kept_files_of os traceback).later (kept_files_of os traceback).others (kept_files_of os traceback).traceback p.name p.bytes
others_push [] traceback p = refl
others_push (o ∷ os) traceback p = one_more o os traceback p (bytes_eq (last_name o.name os) p.name) refl

other_traceback : (os : List FilePart) (old new : List ℕ) → kept_files_of os new ≡ record { first = (kept_files_of os old).first; later = (kept_files_of os old).later; others = (kept_files_of os old).others; traceback = new }
other_traceback [] old new = refl
other_traceback (o ∷ os) old new = refl

old_traceback : (os : List FilePart) (old : List ℕ) → (kept_files_of os old).traceback ≡ old
old_traceback [] old = refl
old_traceback (o ∷ os) old = refl

abbrev traceback_of : List FilePart → List ℕ
traceback_of ps = take text_limit (flat_map (λ p. p.bytes) (tracebacks_in ps))

abbrev by : Bool → KeptFiles → List ℕ → List ℕ → KeptFiles
by t files name bytes =
    cond t (record { first = files.first; later = files.later; others = files.others; traceback = take text_limit (files.traceback ++ bytes) })
    (with_other files.first files.later files.others files.traceback name bytes)

push_bytes : (ps : List FilePart) (p : FilePart) (t : Bool) → is_traceback p.name ≡ t → files_by (ps ++ p ∷ []) ≡ with_bytes (files_by ps) p.name p.bytes
push_bytes ps p true is =
    let others : other_files_in (ps ++ p ∷ []) ≡ other_files_in ps =
    filter_push (λ p. not (is_traceback p.name)) ps p ∙ ap (λ b. other_files_in ps ++ cond (not b) (p ∷ []) []) is ∙ append_none (other_files_in ps) in
    let tracebacks : tracebacks_in (ps ++ p ∷ []) ≡ tracebacks_in ps ++ p ∷ [] =
    filter_push (λ p. is_traceback p.name) ps p ∙ ap (λ b. tracebacks_in ps ++ cond b (p ∷ []) []) is in
    let bytes : traceback_of (ps ++ p ∷ []) ≡ take text_limit ((files_by ps).traceback ++ p.bytes) =
    ap (λ l. take text_limit (flat_map (λ p. p.bytes) l)) tracebacks ∙ ap (take text_limit) (bytes_push (tracebacks_in ps) p)
    ∙ sym (take_again text_limit (flat_map (λ p. p.bytes) (tracebacks_in ps)) p.bytes)
    ∙ ap (λ l. take text_limit (l ++ p.bytes)) (sym (old_traceback (other_files_in ps) (traceback_of ps))) in
    (λ i. kept_files_of (others i) (bytes i)) ∙ other_traceback (other_files_in ps) (traceback_of ps) (take text_limit ((files_by ps).traceback ++ p.bytes))
    ∙ sym (ap (λ t. by t (files_by ps) p.name p.bytes) is)
push_bytes ps p false is =
    let others : other_files_in (ps ++ p ∷ []) ≡ other_files_in ps ++ p ∷ [] =
    filter_push (λ p. not (is_traceback p.name)) ps p ∙ ap (λ b. other_files_in ps ++ cond (not b) (p ∷ []) []) is in
    let tracebacks : tracebacks_in (ps ++ p ∷ []) ≡ tracebacks_in ps =
    filter_push (λ p. is_traceback p.name) ps p ∙ ap (λ b. tracebacks_in ps ++ cond b (p ∷ []) []) is ∙ append_none (tracebacks_in ps) in
    (λ i. kept_files_of (others i) (take text_limit (flat_map (λ p. p.bytes) (tracebacks i)))) ∙ others_push (other_files_in ps) (traceback_of ps) p
    ∙ sym (ap (λ t. by t (files_by ps) p.name p.bytes) is)

push_piece : (ps : List FilePart) (p : FilePart) (b : Bool) → has_any_byte p.bytes ≡ b → files_by (ps ++ cond b (p ∷ []) []) ≡ cond b (with_bytes (files_by ps) p.name p.bytes) (files_by ps)
push_piece ps p true some = push_bytes ps p (is_traceback p.name) refl
push_piece ps p false none = ap files_by (append_none ps)

-- the files of a part with one event more
pub files_push : (part : List Event) (e : Event) → files_of (part ++ e ∷ []) ≡ with_piece (files_of part) (name_in e.file) (text_in e.mime e.file)
unfolding files_of with_piece
files_push part e =
    let pieces : text_pieces_of (part ++ e ∷ []) ≡ text_pieces_of part ++ cond (has_any_byte (text_in e.mime e.file)) (piece_in e ∷ []) [] =
    ap (filter (λ p. has_any_byte p.bytes)) (map_push part e) ∙ filter_push (λ p. has_any_byte p.bytes) (map piece_in part) (piece_in e) in
    ap files_by pieces ∙ push_piece (text_pieces_of part) (piece_in e) (has_any_byte (text_in e.mime e.file)) refl

pub files_none : files_of [] ≡ no_files
unfolding files_of
files_none = refl

-- ---- a piece without bytes, and one with some

some_at : (byte : ℕ) (bytes : List ℕ) (b : Bool) → (length (byte ∷ bytes) == 0) ≡ b → not b ≡ true
some_at byte bytes true is =
    let none : length (byte ∷ bytes) ≡ 0 = eqb-true (length (byte ∷ bytes)) 0 is in
    absurd (omega (arith, none))
some_at byte bytes false is = refl

cons_piece : (files : KeptFiles) (name : List ℕ) (byte : ℕ) (bytes : List ℕ) → with_piece files name (byte ∷ bytes) ≡ with_bytes files name (byte ∷ bytes)
unfolding with_piece
cons_piece files name byte bytes = ap (λ b. cond b (with_bytes files name (byte ∷ bytes)) files) (some_at byte bytes (length (byte ∷ bytes) == 0) refl)

no_bytes : (files : KeptFiles) (name : List ℕ) → with_piece files name [] ≡ files
unfolding with_piece
no_bytes files name = refl

pub no_piece : (files : KeptFiles) (name bytes : List ℕ) → length bytes ≡ 0 → files ≡ with_piece files name bytes
no_piece files name [] none = sym (no_bytes files name)
no_piece files name (x ∷ bytes) none = absurd (omega (arith, none))

pub some_piece : (files : KeptFiles) (name bytes : List ℕ) → (length bytes ≡ 0 → ⊥) → with_bytes files name bytes ≡ with_piece files name bytes
some_piece files name [] some = absurd (some refl)
some_piece files name (x ∷ bytes) some = sym (cons_piece files name x bytes)

-- ---- a piece in two halves

module _ (first : List ℕ) (later : Option (List ℕ)) (others traceback name a b : List ℕ) where
  abbrev step : Bool → List ℕ → KeptFiles
  step s bytes = cond s (goes_on first later others traceback bytes) (begins first others traceback name bytes)

  twice : (s : Bool) → is_current first later name ≡ s → by false (with_other (Some first) later others traceback name a) name b ≡ with_other (Some first) later others traceback name (a ++ b)
  twice true is =
      let cut : take text_limit (take text_limit (others ++ a) ++ b) ≡ take text_limit (others ++ (a ++ b)) = take_again text_limit (others ++ a) b ∙ ap (take text_limit) (append_assoc others a b) in
      let kept = take text_limit (others ++ a) in
      ap (λ s. by false (step s a) name b) is
      ∙ ap (λ s. cond s (goes_on first later kept traceback b) (begins first kept traceback name b)) is
      ∙ (λ i. record { first = Some first; later = later; others = cut i; traceback = traceback })
      ∙ sym (ap (λ s. step s (a ++ b)) is)
  twice false is =
      let kept = take text_limit (others ++ frame_end others ++ frame_head name ++ a) in
      let cut : take text_limit (kept ++ b) ≡ take text_limit (others ++ frame_end others ++ frame_head name ++ (a ++ b)) =
      take_again text_limit (others ++ frame_end others ++ frame_head name ++ a) b
      ∙ ap (take text_limit) (append_assoc (others ++ frame_end others ++ frame_head name) a b) in
      ap (λ s. by false (step s a) name b) is
      ∙ ap (λ s. cond s (goes_on first (Some name) kept traceback b) (begins first kept traceback name b)) (same_name name)
      ∙ (λ i. record { first = Some first; later = Some name; others = cut i; traceback = traceback })
      ∙ sym (ap (λ s. step s (a ++ b)) is)

others_twice : (first later : Option (List ℕ)) (others traceback name a b : List ℕ) → by false (with_other first later others traceback name a) name b ≡ with_other first later others traceback name (a ++ b)
others_twice None later others traceback name a b =
    let cut : take text_limit (take text_limit (others ++ a) ++ b) ≡ take text_limit (others ++ (a ++ b)) = take_again text_limit (others ++ a) b ∙ ap (take text_limit) (append_assoc others a b) in
    let kept = take text_limit (others ++ a) in
    ap (λ s. cond s (goes_on name None kept traceback b) (begins name kept traceback name b)) (same_name name)
    ∙ (λ i. record { first = Some name; later = None; others = cut i; traceback = traceback })
others_twice (Some first) later others traceback name a b = twice first later others traceback name a b (is_current first later name) refl

bytes_twice : (files : KeptFiles) (name a b : List ℕ) (t : Bool) → is_traceback name ≡ t → with_bytes (with_bytes files name a) name b ≡ with_bytes files name (a ++ b)
bytes_twice files name a b true is =
    let cut : take text_limit (take text_limit (files.traceback ++ a) ++ b) ≡ take text_limit (files.traceback ++ (a ++ b)) = take_again text_limit (files.traceback ++ a) b ∙ ap (take text_limit) (append_assoc files.traceback a b) in
    (λ i. by (is i) (by (is i) files name a) name b)
    ∙ (λ i. record { first = files.first; later = files.later; others = files.others; traceback = cut i })
    ∙ sym (λ i. by (is i) files name (a ++ b))
bytes_twice files name a b false is =
    (λ i. by (is i) (by (is i) files name a) name b)
    ∙ others_twice files.first files.later files.others files.traceback name a b
    ∙ sym (λ i. by (is i) files name (a ++ b))

-- a piece that comes in two says the same
pub piece_twice : (files : KeptFiles) (name a b : List ℕ) → with_piece (with_piece files name a) name b ≡ with_piece files name (a ++ b)
piece_twice files name [] b = ap (λ k. with_piece k name b) (no_bytes files name)
piece_twice files name (x ∷ a) [] = no_bytes (with_piece files name (x ∷ a)) name ∙ ap (with_piece files name) (sym (append_none (x ∷ a)))
piece_twice files name (x ∷ a) (y ∷ b) =
    cons_piece (with_piece files name (x ∷ a)) name y b ∙ ap (λ k. with_bytes k name (y ∷ b)) (cons_piece files name x a)
    ∙ bytes_twice files name (x ∷ a) (y ∷ b) (is_traceback name) refl
    ∙ sym (cons_piece files name x (a ++ y ∷ b))

-- ---- the text that shows them

pub shown_some : (files : KeptFiles) (first : List ℕ) → files.first ≡ Some first → text_shown files ≡ shown_by (Some first) files.later files.others files.traceback
unfolding text_shown
shown_some files first is = ap (λ f. shown_by f files.later files.others files.traceback) is

pub shown_none : (files : KeptFiles) → files.first ≡ None → text_shown files ≡ files.traceback
unfolding text_shown
shown_none files is = ap (λ f. shown_by f files.later files.others files.traceback) is
