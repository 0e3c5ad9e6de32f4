-- What the calls of a shelf do to its folder (docs/DISK.md, the table of the shelf's calls).
use Rattle.std.specs.Prelude.{◌≡◌, ◌⊎◌, ℕ, ◌<◌, ◌≤◌, ◌^◌, ⊤, Option, Some, None, IfSome, IsSome, List, [], ◌∷◌, ◌++◌, length, take, drop, ◌==◌}
use Rattle.std.specs.Option.{option_map}
use Rattle.edge_io.specs.Causes.{one_more}
use Rattle.edge_io.specs.Disk.{put, Disk, Draft, Folder, at_rest}

-- a known state takes this step, and an unknown one stays unknown
abbrev pub Goes : {S : Type 0} → Option S → Option S → (S → S → Type 0) → Type 0
Goes None None step = ⊤
Goes None (Some t) step = ⊥
Goes (Some s) None step = ⊥
Goes (Some s) (Some t) step = step s t

-- nothing changes
abbrev pub Stays : {S : Type 0} → S → S → Type 0
Stays s t = t ≡ s

-- one call more, up to the last value of a counter
abbrev pub Ticks : ℕ → ℕ → Type 0
Ticks before now = now ≡ one_more before

-- where the folder is told, there is a draft
abbrev pub HasDraft : Option Folder → Type 0
HasDraft state = IfSome state (λ s. IsSome s.draft)

-- a draft has fewer than 2^63 bytes
abbrev pub DraftFits : Option Folder → Type 0
DraftFits state = IfSome state (λ s. IfSome s.draft (λ draft. length draft.bytes < 2 ^ 63))

-- there is a draft, and nothing is pending
pub record CanPublish (s : Folder) : Type 0 where
  pub draft : IsSome s.draft
  pub settled : s.disk.pending ≡ None

-- where the folder is told, its draft can be published
abbrev pub CanPublishIfTold : Option Folder → Type 0
CanPublishIfTold state = IfSome state CanPublish

-- where the folder is told, this is the length of the published file, none where there is no such name
abbrev pub FindsLength : Option Folder → List ℕ → Option ℕ → Type 0
FindsLength state name found = IfSome state (λ s. found ≡ option_map length (s.disk.published name))

-- there is a published file of this name
abbrev pub HasFile : Option Folder → List ℕ → Type 0
HasFile state name = IfSome state (λ s. IsSome (s.disk.published name))

-- the first `count` bytes of the buffer are as many of these, from that place on, as are there and fit
pub record IsPart (bytes : List ℕ) (place : ℕ) (buf : List ℕ) (count : ℕ) : Type 0 where
  pub fits : count ≤ length buf
  pub same : take count buf ≡ take (length buf) (drop place bytes)

-- where the folder is told and has the file, this is the part of it from the place on
abbrev pub ReadsPart : Option Folder → List ℕ → ℕ → List ℕ → ℕ → Type 0
ReadsPart state name place buf count = IfSome state (λ s. IfSome (s.disk.published name) (λ bytes. IsPart bytes place buf count))

-- there is an empty draft, whatever draft there was
abbrev pub Opened : Folder → Folder → Type 0
Opened s t = t ≡ record s { draft = Some (record { bytes = []; synced = 0 }) }

-- there is no draft any more
abbrev pub Dropped : Folder → Folder → Type 0
Dropped s t = t ≡ record s { draft = None }

-- the draft with these bytes behind its own
abbrev pub grown : List ℕ → Draft → Draft
grown piece draft = record { bytes = draft.bytes ++ piece; synced = draft.synced }

-- these bytes came behind the draft
abbrev pub Grown : List ℕ → Folder → Folder → Type 0
Grown piece s t = t ≡ record s { draft = option_map (grown piece) s.draft }

-- some of the first of these bytes came behind the draft
abbrev pub GrownInPart : List ℕ → Folder → Folder → Type 0
GrownInPart piece s t = (n : ℕ) × (n ≤ length piece) × Grown (take n piece) s t

-- the draft, all of whose bytes are on the disk
abbrev pub synced : Draft → Draft
synced draft = record { bytes = draft.bytes; synced = length draft.bytes }

-- all bytes of the draft are on the disk
abbrev pub Synced : Folder → Folder → Type 0
Synced s t = t ≡ record s { draft = option_map synced s.draft }

-- the disk after this draft was published
abbrev pub placed : List ℕ → Disk → Option Draft → Disk
placed name disk None = disk
placed name disk (Some draft) = record {
  published = put disk.published name draft.bytes;
  stable = disk.stable;
  pending = Some (record { name = name; whole = draft.synced == length draft.bytes });
}

-- the disk becomes this one
abbrev pub moved : Folder → Disk → Option Draft → Folder
moved s disk draft = record { disk = disk; draft = draft; past = s.past ++ s.disk ∷ [] }

-- the draft has this name, and is no draft any more
abbrev pub Placed : List ℕ → Folder → Folder → Type 0
Placed name s t = t ≡ moved s (placed name s.disk s.draft) None

-- the draft has this name, or was dropped
abbrev pub PlacedOrNot : List ℕ → Folder → Folder → Type 0
PlacedOrNot name s t = Placed name s t ⊎ Dropped s t

-- all that reads give is there for good
abbrev pub Settled : Folder → Folder → Type 0
Settled s t = t ≡ moved s (at_rest s.disk.published) s.draft
