-- The fields of a packet, each as a relation between a whole list of bytes and a value (the Subunit README, "Packet format").
use Rattle.std.specs.Prelude.{◌≡◌, ℕ, ◌<◌, ◌^◌, Option, Some, None, List, [], ◌∷◌, ◌++◌, length}
use Rattle.std.specs.Int.{w32, to_be_bytes}
use Rattle.sub_number.specs.Numbers.{SpellsNumber}
use Rattle.sub_number.specs.Texts.{SpellsText}
use Rattle.packet_codec.specs.declared.stamp.Stamp.{Stamp}
use Rattle.packet_codec.specs.declared.event.FilePart.{FilePart}
use Rattle.packet_codec.specs.declared.event.Event.{Event}

-- a field that is there is spelled, and one that is not has no bytes
abbrev pub SpellsOptional : {A : Type 0} → (List ℕ → A → Type 0) → List ℕ → Option A → Type 0
SpellsOptional Spells bytes None = bytes ≡ []
SpellsOptional Spells bytes (Some value) = Spells bytes value

-- the seconds in four bytes, and the nanoseconds as a number
pub record SpellsStamp (bytes : List ℕ) (stamp : Stamp) : Type 0 where
  pub nanos : List ℕ
  pub parts : bytes ≡ to_be_bytes w32 stamp.seconds ++ nanos
  pub seconds_fit : stamp.seconds < 2 ^ 32
  pub nanos_spelled : SpellsNumber nanos stamp.nanos

-- the texts, one after another
abbrev pub SpellsTexts : List ℕ → List (List ℕ) → Type 0
SpellsTexts bytes [] = bytes ≡ []
SpellsTexts bytes (text ∷ texts) = (front : List ℕ) × (rest : List ℕ) × (bytes ≡ front ++ rest) × SpellsText front text × SpellsTexts rest texts

-- how many tags there are, and the tags
pub record SpellsTags (bytes : List ℕ) (tags : List (List ℕ)) : Type 0 where
  pub count : List ℕ
  pub texts : List ℕ
  pub parts : bytes ≡ count ++ texts
  pub count_spelled : SpellsNumber count (length tags)
  pub texts_spelled : SpellsTexts texts tags

-- the name, how many bytes there are, and the bytes
pub record SpellsFile (bytes : List ℕ) (file : FilePart) : Type 0 where
  pub name : List ℕ
  pub count : List ℕ
  pub parts : bytes ≡ name ++ count ++ file.bytes
  pub name_spelled : SpellsText name file.name
  pub count_spelled : SpellsNumber count (length file.bytes)

-- all fields, in the order of a packet
pub record SpellsFields (bytes : List ℕ) (e : Event) : Type 0 where
  pub stamp : List ℕ
  pub id : List ℕ
  pub tags : List ℕ
  pub mime : List ℕ
  pub file : List ℕ
  pub route : List ℕ
  pub parts : bytes ≡ stamp ++ id ++ tags ++ mime ++ file ++ route
  pub stamp_spelled : SpellsOptional SpellsStamp stamp e.stamp
  pub id_spelled : SpellsOptional SpellsText id e.id
  pub tags_spelled : SpellsOptional SpellsTags tags e.tags
  pub mime_spelled : SpellsOptional SpellsText mime e.mime
  pub file_spelled : SpellsOptional SpellsFile file e.file
  pub route_spelled : SpellsOptional SpellsText route e.route
