-- What one more file and one more moment change.
use Rattle.std.proofs.Common.{◌≡◌, inl, inr, ℕ, zero, suc, ◌+◌, ◌<◌, ◌≤◌, Bool, true, false, Option, Some, None, IsSome, List, [], ◌∷◌, ◌++◌, length, length-append, get_or, take, map, All, string_bytes, nat_lt, nat_le, nat_eq, refl, sym, ap, ◌∙◌, subst, arith}
use Rattle.std.specs.Prelude.{if◌then◌else◌}
use Rattle.std.specs.Str.{bytes_eq}
use Rattle.std.proofs.lemmas.Bool.{cond-true, cond-false, ltb-true, lt-ltb, le-ltb, le-leb, lt-leb, cases_lt}
use Rattle.std.proofs.lemmas.List.{take-append-le, take_more, take_all, map-append}
use Rattle.std.proofs.lemmas.List.Elements.{All-head, All-tail, All-push, All-same, All-weaker}
use Rattle.edge_io.specs.declared.published_files.File.{File}
use Rattle.edge_io.specs.declared.published_files.Mark.{Mark}
use Rattle.edge_io.specs.Disk.{Files, put, Draft, Folder, IsImage, at_rest}
use Rattle.edge_io.specs.Steps.{CanPublish, placed, moved}
use Rattle.edge_io.specs.MemState.{begins_with, image_of}
use Rattle.edge_io.specs.Kept.{bytes_or_else, latest, mark_in_force, first_mark, disk_counts, lookup, nth, disk_with, pending_file, disk_at, KnowsFirst}

or_if : (b : Bool) (v : List ℕ) (o other : Option (List ℕ)) → bytes_or_else (if b then Some v else o) other ≡ (if b then Some v else bytes_or_else o other)
or_if true v o other = refl
or_if false v o other = refl

lookup_push_at : (files : List File) (file : File) (q : List ℕ) → lookup (files ++ file ∷ []) q ≡ put (lookup files) (string_bytes file.name) file.bytes.items q
lookup_push_at [] file q = refl
lookup_push_at (f ∷ files) file q =
    let last = if bytes_eq q (string_bytes f.name) then Some f.bytes.items else None in
    ap (λ (o : Option (List ℕ)). bytes_or_else o last) (lookup_push_at files file q) ∙ or_if (bytes_eq q (string_bytes file.name)) file.bytes.items (lookup files q) last

pub lookup-push : (files : List File) (file : File) → lookup (files ++ file ∷ []) ≡ put (lookup files) (string_bytes file.name) file.bytes.items
lookup-push files file = λ i q. lookup_push_at files file q i

nth_push_last : (files : List File) (file : File) (n : ℕ) → n ≡ length files → nth (files ++ file ∷ []) n ≡ Some file
nth_push_last [] file zero e = refl
nth_push_last [] file (suc n) e = absurd (omega arith)
nth_push_last (f ∷ files) file zero e = absurd (omega arith)
nth_push_last (f ∷ files) file (suc n) e = nth_push_last files file n (omega arith)

nth_push_below : (files : List File) (file : File) (n : ℕ) → n < length files → nth (files ++ file ∷ []) n ≡ nth files n
nth_push_below [] file n lt = absurd (omega arith)
nth_push_below (f ∷ files) file zero lt = refl
nth_push_below (f ∷ files) file (suc n) lt = nth_push_below files file n (omega arith)

pub nth_take : (files : List File) (n : ℕ) (file : File) → nth files n ≡ Some file → take (suc n) files ≡ take n files ++ file ∷ []
nth_take [] n file e = cc
nth_take (f ∷ files) zero file e = let same : f ≡ file = cc in (λ i. same i ∷ [])
nth_take (f ∷ files) (suc n) file e = ap (λ (l : List File). f ∷ l) (nth_take files n file e)

if_same : (b : Bool) (x y z : Option File) → (b ≡ true → x ≡ y) → (if b then x else z) ≡ (if b then y else z)
if_same true x y z f = f refl
if_same false x y z f = refl

pending_push : (files : List File) (file : File) (mark : Mark) → mark.published ≤ length files → pending_file (files ++ file ∷ []) mark ≡ pending_file files mark
pending_push files file mark within =
    if_same (nat_lt mark.settled mark.published) _ _ None (λ lt. nth_push_below files file mark.settled (omega (arith, ltb-true mark.settled mark.published lt)))

settled_within : (files : List File) (mark : Mark) → KnowsFirst (length files) mark → mark.settled ≤ length files
settled_within files mark within = omega (arith, within.first, within.published)

pub disk_at_push : (files : List File) (file : File) (mark : Mark) → KnowsFirst (length files) mark → disk_at (files ++ file ∷ []) mark ≡ disk_at files mark
disk_at_push files file mark within =
    λ i. disk_with (lookup (take-append-le mark.settled files (file ∷ []) (settled_within files mark within) i)) (pending_push files file mark within.published i) mark.whole

pub past_push : (files : List File) (file : File) (marks : List Mark) → All (KnowsFirst (length files)) marks → map (disk_at (files ++ file ∷ [])) marks ≡ map (disk_at files) marks
past_push files file [] within = refl
past_push files file (m ∷ marks) within =
    λ i. disk_at_push files file m (All-head (KnowsFirst (length files)) m marks within) i ∷ past_push files file marks (All-tail (KnowsFirst (length files)) m marks within) i

module _ (files : List File) (i : ℕ) (file : File) (here : file ≡ get_or files i file) (within : i < length files) (q : List ℕ) where
  lookup_more : lookup (take (i + 1) files) q ≡ put (lookup (take i files)) (string_bytes file.name) file.bytes.items q
  lookup_more =
      ap (λ (l : List File). lookup l q) (take_more files i file within ∙ (λ j. take i files ++ sym here j ∷ []))
      ∙ lookup_push_at (take i files) file q

  pub found_here : bytes_eq q (string_bytes file.name) ≡ true → Some file.bytes.items ≡ lookup (take (i + 1) files) q
  found_here hit = sym (lookup_more ∙ cond-true _ _ _ hit)

  pub found_before : bytes_eq q (string_bytes file.name) ≡ false → lookup (take i files) q ≡ lookup (take (i + 1) files) q
  found_before miss = sym (lookup_more ∙ cond-false _ _ _ miss)

some_is : (a b : File) → Some a ≡ Some b → a ≡ b
some_is a b e = cc

nth_there : (files : List File) (n : ℕ) → n < length files → (file : File) × (nth files n ≡ Some file)
nth_there [] n lt = absurd (omega arith)
nth_there (f ∷ files) zero lt = (f, refl)
nth_there (f ∷ files) (suc n) lt = nth_there files n (omega arith)

pending_none : (stable : Files) (o : Option File) (whole : Bool) → (disk_with stable o whole).pending ≡ None → o ≡ None
pending_none stable None whole e = refl
pending_none stable (Some file) whole e = cc

-- of the files in order, all but the last are on the disk for good, or all
module _ (files : List File) (mark : Mark) (first : mark.settled ≤ mark.published) (one : mark.published ≤ mark.settled + 1) (all : mark.published ≡ length files) where
  pub published_all : (disk_at files mark).published ≡ lookup files
  published_all = elim (cases_lt mark.settled mark.published) [
    | inl lt ↦
        let there = nth_there files mark.settled (omega arith) in
        let at : pending_file files mark ≡ Some there.0 = cond-true _ _ _ (lt-ltb mark.settled mark.published lt) ∙ there.1 in
        ap (λ (o : Option File). (disk_with (lookup (take mark.settled files)) o mark.whole).published) at
        ∙ sym (lookup-push (take mark.settled files) there.0)
        ∙ ap lookup (sym (nth_take files mark.settled there.0 there.1) ∙ take_all (suc mark.settled) files (omega arith))
    | inr le ↦
        let at : pending_file files mark ≡ None = cond-false _ _ _ (le-ltb mark.settled mark.published le) in
        ap (λ (o : Option File). (disk_with (lookup (take mark.settled files)) o mark.whole).published) at
        ∙ ap lookup (take_all mark.settled files (omega arith))
  ]

  pub none_pending : (disk_at files mark).pending ≡ None → pending_file files mark ≡ None
  none_pending none = pending_none (lookup (take mark.settled files)) (pending_file files mark) mark.whole none

  pub settled_all : (disk_at files mark).pending ≡ None → mark.settled ≡ length files
  settled_all none = elim (cases_lt mark.settled mark.published) [
    | inl lt ↦
        let there = nth_there files mark.settled (omega arith) in
        let at : pending_file files mark ≡ Some there.0 = cond-true _ _ _ (lt-ltb mark.settled mark.published lt) ∙ there.1 in
        let clash : Some there.0 ≡ None = sym at ∙ none_pending none in cc
    | inr le ↦ omega arith
  ]

-- the folder that these stand for
abbrev pub folder_at_mark : List File → Mark → Option Draft → List Mark → Folder
folder_at_mark files mark draft past = record { disk = disk_at files mark; draft = draft; past = map (disk_at files) past }

known_draft : (b : Bool) (draft : Draft) → IsSome (if b then Some draft else None) → (if b then Some draft else None) ≡ Some draft
known_draft true draft there = refl
known_draft false draft there = cc

-- the disks of the moments before one file more
moments_later : (files later : List File) (now : Mark) (past marks : List Mark) (file : File)
    → now.settled ≤ now.published → now.published ≤ now.settled + 1 → now.published ≡ length files → All (KnowsFirst (length files)) past
    → later ≡ files ++ file ∷ [] → marks ≡ past ++ now ∷ []
    → map (disk_at later) marks ≡ map (disk_at files) past ++ disk_at files now ∷ []
moments_later files later now past marks file first one all within more longer =
    (λ i. map (disk_at (more i)) (longer i))
    ∙ past_push files file (past ++ now ∷ []) (All-push (KnowsFirst (length files)) past now within (record { first = first; one = one; published = omega arith }))
    ∙ map-append (disk_at files) past (now ∷ [])

-- a folder in which all is settled
pub at_rest_with : (files : List File) (n : ℕ) (since : ℕ) → n ≡ length files → disk_at files (record { settled = n; published = n; whole = true; since = since }) ≡ at_rest (lookup files)
at_rest_with files n since count =
    let none : pending_file files (record { settled = n; published = n; whole = true; since = since }) ≡ None = cond-false _ _ _ (le-ltb n n (omega arith)) in
    (λ i. disk_with (lookup (take_all n files (omega arith) i)) (none i) true)

-- a publish: one file more, which is pending
pub publish_step : (files later : List File) (now : Mark) (past marks : List Mark) (drafting : Bool) (draft : Draft) (file : File) (whole : Bool) (since : ℕ)
    → now.settled ≤ now.published → now.published ≤ now.settled + 1 → now.published ≡ length files → All (KnowsFirst (length files)) past
    → CanPublish (folder_at_mark files now (if drafting then Some draft else None) past)
    → file.bytes.items ≡ draft.bytes → whole ≡ nat_eq draft.synced (length draft.bytes) → later ≡ files ++ file ∷ [] → marks ≡ past ++ now ∷ []
    → folder_at_mark later (record { settled = now.settled; published = now.settled + 1; whole = whole; since = since }) None marks
    ≡ moved (folder_at_mark files now (if drafting then Some draft else None) past) (placed (string_bytes file.name) (disk_at files now) (if drafting then Some draft else None)) None
publish_step files later now past marks drafting draft file whole since first one all within can same is_whole more longer =
    let n = now.settled in
    let mark : Mark = record { settled = n; published = n + 1; whole = whole; since = since } in
    let name = string_bytes file.name in
    let stable = lookup (take n files) in
    let none = none_pending files now first one all can.settled in
    let count : n ≡ length files = settled_all files now first one all can.settled in
    let at : pending_file (files ++ file ∷ []) mark ≡ Some file = cond-true _ _ _ (lt-ltb n (n + 1) (omega arith)) ∙ nth_push_last files file n count in
    let new : disk_at later mark ≡ disk_with stable (Some file) whole =
    ap (λ (l : List File). disk_at l mark) more
    ∙ (λ i. disk_with (lookup (take-append-le n files (file ∷ []) (omega arith) i)) (at i) whole) in
    let old : disk_at files now ≡ at_rest stable = ap (λ (o : Option File). disk_with stable o now.whole) none in
    let known = known_draft drafting draft can.draft in
    let written : disk_with stable (Some file) whole ≡ placed name (at_rest stable) (Some draft) =
    λ i. record { published = put stable name (same i); stable = stable; pending = Some (record { name = name; whole = is_whole i }) } in
    let disk : disk_at later mark ≡ placed name (disk_at files now) (if drafting then Some draft else None) =
    new ∙ written ∙ (λ i. placed name (sym old i) (sym known i)) in
    let moments : map (disk_at later) marks ≡ map (disk_at files) past ++ disk_at files now ∷ [] =
    moments_later files later now past marks file first one all within more longer in
    (λ i. record { disk = disk i; draft = None; past = moments i })

-- a file put for good: one file more, with nothing pending
pub put_step : (files later : List File) (now : Mark) (past marks : List Mark) (draft : Option Draft) (file : File) (since : ℕ)
    → now.settled ≤ now.published → now.published ≤ now.settled + 1 → now.published ≡ length files → All (KnowsFirst (length files)) past
    → (disk_at files now).pending ≡ None → later ≡ files ++ file ∷ [] → marks ≡ past ++ now ∷ []
    → folder_at_mark later (record { settled = now.settled + 1; published = now.settled + 1; whole = true; since = since }) draft marks
    ≡ moved (folder_at_mark files now draft past) (at_rest (put (disk_at files now).published (string_bytes file.name) file.bytes.items)) draft
put_step files later now past marks draft file since first one all within none more longer =
    let n = now.settled in
    let name = string_bytes file.name in
    let count : n ≡ length files = settled_all files now first one all none in
    let size : n + 1 ≡ length later = omega (arith, count, ap length more, length-append files (file ∷ [])) in
    let disk : disk_at later (record { settled = n + 1; published = n + 1; whole = true; since = since }) ≡ at_rest (put (disk_at files now).published name file.bytes.items) =
    at_rest_with later (n + 1) since size
    ∙ ap at_rest (ap lookup more ∙ lookup-push files file ∙ ap (λ (f : Files). put f name file.bytes.items) (sym (published_all files now first one all))) in
    let moments : map (disk_at later) marks ≡ map (disk_at files) past ++ disk_at files now ∷ [] =
    moments_later files later now past marks file first one all within more longer in
    (λ i. record { disk = disk i; draft = draft; past = moments i })

-- a sync of the folder
pub sync_step : (files : List File) (now : Mark) (past marks : List Mark) (draft : Option Draft) (since : ℕ)
    → now.settled ≤ now.published → now.published ≤ now.settled + 1 → now.published ≡ length files → marks ≡ past ++ now ∷ []
    → folder_at_mark files (record { settled = now.published; published = now.published; whole = true; since = since }) draft marks
    ≡ moved (folder_at_mark files now draft past) (at_rest (disk_at files now).published) draft
sync_step files now past marks draft since first one all longer =
    let n = now.published in
    let mark : Mark = record { settled = n; published = n; whole = true; since = since } in
    let at : pending_file files mark ≡ None = cond-false _ _ _ (le-ltb n n (omega arith)) in
    let disk : disk_at files mark ≡ at_rest (disk_at files now).published =
    (λ i. disk_with (lookup (take_all n files (omega arith) i)) (at i) true) ∙ ap at_rest (sym (published_all files now first one all)) in
    let moments : map (disk_at files) marks ≡ map (disk_at files) past ++ disk_at files now ∷ [] =
    ap (map (disk_at files)) longer ∙ map-append (disk_at files) past (now ∷ []) in
    (λ i. record { disk = disk i; draft = draft; past = moments i })

-- what stays true of the files and the moments after a publish
module _ (files later : List File) (now : Mark) (past marks : List Mark) (file : File) (first : now.settled ≤ now.published) (one : now.published ≤ now.settled + 1) (all : now.published ≡ length files) (more : later ≡ files ++ file ∷ []) where
  pub length_later : length later ≡ length files + 1
  length_later = ap length more ∙ length-append files (file ∷ [])

  pub all_published_later : (disk_at files now).pending ≡ None → now.settled + 1 ≡ length later
  all_published_later none = omega (arith, settled_all files now first one all none, length_later)

  pub past_within_later : All (KnowsFirst (length files)) past → marks ≡ past ++ now ∷ [] → All (KnowsFirst (length later)) marks
  past_within_later within longer =
      All-same (KnowsFirst (length later)) marks (past ++ now ∷ []) longer
      (All-weaker (KnowsFirst (length files)) (KnowsFirst (length later)) (λ m w. record { first = w.first; one = w.one; published = omega (arith, w.published, length_later) }) (past ++ now ∷ [])
      (All-push (KnowsFirst (length files)) past now within (record { first = first; one = one; published = omega arith })))

pub latest_push : (found mark : Mark) (marks : List Mark) (moment : ℕ) → latest found (marks ++ mark ∷ []) moment ≡ (if nat_le mark.since moment then mark else latest found marks moment)
latest_push found mark [] moment = refl
latest_push found mark (m ∷ marks) moment = latest_push (if nat_le m.since moment then m else found) mark marks moment

choose_within : (n : ℕ) (b : Bool) (x y : Mark) → KnowsFirst n x → KnowsFirst n y → KnowsFirst n (if b then x else y)
choose_within n true x y p q = p
choose_within n false x y p q = q

pub latest_within : (n : ℕ) (marks : List Mark) (found : Mark) (moment : ℕ) → KnowsFirst n found → All (KnowsFirst n) marks → KnowsFirst n (latest found marks moment)
latest_within n [] found moment here within = here
latest_within n (m ∷ marks) found moment here within =
    latest_within n marks (if nat_le m.since moment then m else found) moment (choose_within n (nat_le m.since moment) m found (All-head (KnowsFirst n) m marks within) here) (All-tail (KnowsFirst n) m marks within)

module _ (files : List File) (i : ℕ) (file : File) (here : file ≡ get_or files i file) (within : i < length files) (copies : List File) (copy : File) where
  -- one copy more
  pub copies_more : lookup copies ≡ lookup (take i files) → string_bytes copy.name ≡ string_bytes file.name → copy.bytes.items ≡ file.bytes.items → lookup (copies ++ copy ∷ []) ≡ lookup (take (i + 1) files)
  copies_more same name bytes =
      lookup-push copies copy
      ∙ (λ j. put (same j) (name j) (bytes j))
      ∙ sym (lookup-push (take i files) file)
      ∙ ap lookup (sym (take_more files i file within ∙ (λ j. take i files ++ sym here j ∷ [])))

pub latest_more : (past : List Mark) (i : ℕ) (d : Mark) (moment : ℕ) (found : Mark) → i < length past → found ≡ mark_in_force (take i past) moment → (if nat_le (get_or past i d).since moment then get_or past i d else found) ≡ mark_in_force (take (i + 1) past) moment
latest_more past i d moment found within is =
    ap (λ (m : Mark). if nat_le (get_or past i d).since moment then get_or past i d else m) is
    ∙ sym (latest_push first_mark (get_or past i d) (take i past) moment)
    ∙ ap (λ (l : List Mark). mark_in_force l moment) (sym (take_more past i d within))

-- a moment's published files are the first ones
pub published_front : (files : List File) (mark : Mark) → KnowsFirst (length files) mark → (disk_at files mark).published ≡ lookup (take mark.published files)
published_front files mark within = elim (cases_lt mark.settled mark.published) [
  | inl lt ↦
      let there = nth_there files mark.settled (omega (arith, within.published)) in
      let at : pending_file files mark ≡ Some there.0 = cond-true _ _ _ (lt-ltb mark.settled mark.published lt) ∙ there.1 in
      let next : suc mark.settled ≡ mark.published = omega (arith, within.one) in
      ap (λ (o : Option File). (disk_with (lookup (take mark.settled files)) o mark.whole).published) at
      ∙ sym (lookup-push (take mark.settled files) there.0)
      ∙ ap lookup (sym (nth_take files mark.settled there.0 there.1) ∙ ap (λ (n : ℕ). take n files) next)
  | inr le ↦
      let at : pending_file files mark ≡ None = cond-false _ _ _ (le-ltb mark.settled mark.published le) in
      let same : mark.settled ≡ mark.published = omega (arith, within.first) in
      ap (λ (o : Option File). (disk_with (lookup (take mark.settled files)) o mark.whole).published) at
      ∙ ap (λ (n : ℕ). lookup (take n files)) same
]

stable_is : (stable : Files) (pending : Option File) (whole : Bool) → (disk_with stable pending whole).stable ≡ stable
stable_is stable None whole = refl
stable_is stable (Some file) whole = refl

-- the first files are what either choice leaves
pub front_is : (files : List File) (mark : Mark) (choice : Bool) → KnowsFirst (length files) mark → lookup (take (if choice then mark.published else mark.settled) files) ≡ image_of (disk_at files mark) choice
front_is files mark true within = sym (published_front files mark within)
front_is files mark false within = sym (stable_is (lookup (take mark.settled files)) (pending_file files mark) mark.whole)

-- both choices are images
pub choice_counts : (stable : Files) (pending : Option File) (whole : Bool) (choice : Bool) → IsImage (disk_with stable pending whole) (image_of (disk_with stable pending whole) choice)
choice_counts stable pending whole true = disk_counts stable pending whole
choice_counts stable pending whole false = inl refl

pub count_within : (n : ℕ) (mark : Mark) (choice : Bool) → KnowsFirst n mark → (if choice then mark.published else mark.settled) ≤ n
count_within n mark true within = within.published
count_within n mark false within = omega (arith, within.first, within.published)

first_within : (n : ℕ) → KnowsFirst n first_mark
first_within n = record { first = omega arith; one = omega arith; published = omega arith }

-- each moment that a shelf has passed knows only its files
pub force_within : (files : List File) (past : List Mark) (current : Mark) (moment : ℕ) → current.settled ≤ current.published → current.published ≤ current.settled + 1 → current.published ≡ length files → All (KnowsFirst (length files)) past → KnowsFirst (length files) (mark_in_force (past ++ current ∷ []) moment)
force_within files past current moment first one all within =
    latest_within (length files) (past ++ current ∷ []) first_mark moment (first_within (length files))
    (All-push (KnowsFirst (length files)) past current within (record { first = first; one = one; published = omega arith }))

pub latest_all : (past : List Mark) (i : ℕ) (mark : Mark) (moment : ℕ) (found : Mark) → length past ≤ i → found ≡ mark_in_force (take i past) moment → (if nat_le mark.since moment then mark else found) ≡ mark_in_force (past ++ mark ∷ []) moment
latest_all past i mark moment found all is =
    ap (λ (m : Mark). if nat_le mark.since moment then mark else m) (is ∙ ap (λ (l : List Mark). mark_in_force l moment) (take_all i past all))
    ∙ sym (latest_push first_mark mark past moment)

-- no moment before a new mark changes by it, nor by one file more
module _ (files : List File) (past marks : List Mark) (current mark : Mark) (moment : ℕ) (longer : marks ≡ past ++ current ∷ []) (before : moment < mark.since) where
  forces : mark_in_force (marks ++ mark ∷ []) moment ≡ mark_in_force (past ++ current ∷ []) moment
  forces =
      latest_push first_mark mark marks moment
      ∙ cond-false _ _ _ (lt-leb mark.since moment before)
      ∙ ap (λ (l : List Mark). mark_in_force l moment) longer

  pub remembers : disk_at files (mark_in_force (marks ++ mark ∷ []) moment) ≡ disk_at files (mark_in_force (past ++ current ∷ []) moment)
  remembers = ap (disk_at files) forces

  pub remembers_more : (later : List File) (file : File) → later ≡ files ++ file ∷ []
      → current.settled ≤ current.published → current.published ≤ current.settled + 1 → current.published ≡ length files → All (KnowsFirst (length files)) past
      → disk_at later (mark_in_force (marks ++ mark ∷ []) moment) ≡ disk_at files (mark_in_force (past ++ current ∷ []) moment)
  remembers_more later file more first one all within =
      (λ i. disk_at (more i) (forces i))
      ∙ disk_at_push files file _ (force_within files past current moment first one all within)

-- the last mark is in force from its call on
pub forces_now : (files : List File) (past : List Mark) (current : Mark) (moment : ℕ) → current.since ≤ moment → disk_at files (mark_in_force (past ++ current ∷ []) moment) ≡ disk_at files current
forces_now files past current moment come = ap (disk_at files) (latest_push first_mark current past moment ∙ cond-true _ _ _ (le-leb current.since moment come))

-- what a stop at a moment leaves, as a list of the first files
module _ (files : List File) (past : List Mark) (current : Mark) (moment : ℕ) (first : current.settled ≤ current.published) (one : current.published ≤ current.settled + 1) (all : current.published ≡ length files) (within : All (KnowsFirst (length files)) past)
    (read : List Mark) (is_read : read ≡ past) (mark : Mark) (is_mark : mark ≡ mark_in_force (read ++ current ∷ []) moment) (choice : Bool) (count : ℕ) (is_count : count ≡ (if choice then mark.published else mark.settled)) where
  in_force : mark ≡ mark_in_force (past ++ current ∷ []) moment
  in_force = is_mark ∙ ap (λ (l : List Mark). mark_in_force (l ++ current ∷ []) moment) is_read

  mark_within : KnowsFirst (length files) mark
  mark_within = subst (KnowsFirst (length files)) (sym in_force) (force_within files past current moment first one all within)

  pub few : count ≤ length files
  few = subst (λ n. n ≤ length files) (sym is_count) (count_within (length files) mark choice mark_within)

  pub image_folder : (copies : List File) (none : List Mark) → lookup copies ≡ lookup (take count files) → count ≡ length copies → none ≡ [] → (since : ℕ)
      → folder_at_mark copies (record { settled = count; published = count; whole = true; since = since }) None none
      ≡ begins_with (image_of (disk_at files (mark_in_force (past ++ current ∷ []) moment)) choice)
  image_folder copies none same size empty since =
      let image : lookup copies ≡ image_of (disk_at files (mark_in_force (past ++ current ∷ []) moment)) choice =
      same
      ∙ ap (λ (n : ℕ). lookup (take n files)) is_count
      ∙ front_is files mark choice mark_within
      ∙ ap (λ (m : Mark). image_of (disk_at files m) choice) in_force in
      let disk = at_rest_with copies count since size ∙ ap at_rest image in
      (λ i. record { disk = disk i; draft = None; past = map (disk_at copies) (empty i) })
