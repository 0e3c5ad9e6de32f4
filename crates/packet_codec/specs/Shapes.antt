-- The fields of a packet as their lengths tell, whatever the bytes of a text are.
use Rattle.std.specs.Prelude.{◌≡◌, ◌≤◌, ◌+◌, take, drop, ◌-◌, slice_index_or, All, IfSome, option_map, Some, None, ℕ, ◌/◌, ◌%◌, ◌==◌, Bool, Option, List, [], ◌∷◌, ◌++◌, length}
use Rattle.std.specs.Borrow.{Bor}
use Rattle.packet_codec.specs.Grammar.{SpellsFront, Pair, Counted, Flagged}
use Rattle.packet_codec.specs.Fields.{SpellsStamp}
use Rattle.sub_number.specs.Numbers.{SpellsNumber}
use Rattle.packet_codec.specs.Packet.{signature}
use Rattle.packet_codec.specs.declared.header.Header.{Header}
use Rattle.packet_codec.specs.declared.status.Status.{Status}
use Rattle.packet_codec.specs.declared.status.Status.TheVariants.{Unset, Exists, InProgress, Success, UxSuccess, Skip, Fail, XFail}
use Rattle.packet_codec.specs.declared.parts.RunList.{RunList}
use Rattle.packet_codec.specs.declared.parts.FileBytes.{FileBytes}
use Rattle.packet_codec.specs.declared.parts.Parts.{Parts}
use Rattle.sub_number.specs.Texts.{IsText, IsShortText}
use Rattle.packet_codec.specs.declared.stamp.Stamp.{Stamp}
use Rattle.packet_codec.specs.declared.event.FilePart.{FilePart}
use Rattle.packet_codec.specs.declared.event.Event.{Event}

-- so many bytes
abbrev pub ByteRun : List ℕ → List ℕ → Type 0
ByteRun = Counted length (λ bytes run. bytes ≡ run)

-- the runs, one after another
abbrev pub ByteRuns : List ℕ → List (List ℕ) → Type 0
ByteRuns bytes [] = bytes ≡ []
ByteRuns bytes (run ∷ runs) = (front : List ℕ) × (rest : List ℕ) × (bytes ≡ front ++ rest) × ByteRun front run × ByteRuns rest runs

-- so many runs
abbrev pub CountedRuns : List ℕ → List (List ℕ) → Type 0
CountedRuns = Counted length ByteRuns

-- a name and some bytes
abbrev pub NamedRun : List ℕ → (List ℕ × List ℕ) → Type 0
NamedRun = Pair ByteRun ByteRun

-- whether the flag of this weight is set
abbrev pub bit : ℕ → ℕ → Bool
bit flags weight = flags / weight % 2 == 1

-- the values of all fields, in the order of a packet
abbrev pub Contents : Type 0
Contents = Option Stamp × (Option (List ℕ) × (Option (List (List ℕ)) × (Option (List ℕ) × (Option (List ℕ × List ℕ) × Option (List ℕ)))))

-- each of them by its name
abbrev pub the_stamp : Contents → Option Stamp
the_stamp (stamp, (id, (tags, (mime, (file, route))))) = stamp

-- the id among the values
abbrev pub the_id : Contents → Option (List ℕ)
the_id (stamp, (id, (tags, (mime, (file, route))))) = id

-- the tags among the values
abbrev pub the_tags : Contents → Option (List (List ℕ))
the_tags (stamp, (id, (tags, (mime, (file, route))))) = tags

-- the type of the file's bytes among the values
abbrev pub the_mime : Contents → Option (List ℕ)
the_mime (stamp, (id, (tags, (mime, (file, route))))) = mime

-- the file among the values, its name and its bytes
abbrev pub the_file : Contents → Option (List ℕ × List ℕ)
the_file (stamp, (id, (tags, (mime, (file, route))))) = file

-- the route among the values
abbrev pub the_route : Contents → Option (List ℕ)
the_route (stamp, (id, (tags, (mime, (file, route))))) = route

-- each field, there where its flag is set
abbrev pub StampShape : ℕ → List ℕ → Option Stamp → Type 0
StampShape first = Flagged (bit first 2) SpellsStamp

-- an id, where its flag is set
abbrev pub IdShape : ℕ → List ℕ → Option (List ℕ) → Type 0
IdShape first = Flagged (bit first 8) ByteRun

-- tags, where their flag is set
abbrev pub TagsShape : ℕ → List ℕ → Option (List (List ℕ)) → Type 0
TagsShape second = Flagged (bit second 128) CountedRuns

-- the type of the file's bytes, where its flag is set
abbrev pub MimeShape : ℕ → List ℕ → Option (List ℕ) → Type 0
MimeShape second = Flagged (bit second 32) ByteRun

-- a file's name and bytes, where their flag is set
abbrev pub FileShape : ℕ → List ℕ → Option (List ℕ × List ℕ) → Type 0
FileShape second = Flagged (bit second 64) NamedRun

-- a route, where its flag is set
abbrev pub RouteShape : ℕ → List ℕ → Option (List ℕ) → Type 0
RouteShape first = Flagged (bit first 4) ByteRun

-- the fields from one on, in the order of a packet
abbrev pub FromFile : ℕ → ℕ → List ℕ → (Option (List ℕ × List ℕ) × Option (List ℕ)) → Type 0
FromFile first second = Pair (FileShape second) (RouteShape first)

-- the fields from the type of the file's bytes on
abbrev pub FromMime : ℕ → ℕ → List ℕ → (Option (List ℕ) × (Option (List ℕ × List ℕ) × Option (List ℕ))) → Type 0
FromMime first second = Pair (MimeShape second) (FromFile first second)

-- the fields from the tags on
abbrev pub FromTags : ℕ → ℕ → List ℕ → (Option (List (List ℕ)) × (Option (List ℕ) × (Option (List ℕ × List ℕ) × Option (List ℕ)))) → Type 0
FromTags first second = Pair (TagsShape second) (FromMime first second)

-- the fields from the id on
abbrev pub FromId : ℕ → ℕ → List ℕ → (Option (List ℕ) × (Option (List (List ℕ)) × (Option (List ℕ) × (Option (List ℕ × List ℕ) × Option (List ℕ))))) → Type 0
FromId first second = Pair (IdShape first) (FromTags first second)

-- all fields that the flags tell of
abbrev pub FieldShapes : ℕ → ℕ → List ℕ → Contents → Type 0
FieldShapes first second = Pair (StampShape first) (FromId first second)

-- the bytes begin with so many runs
pub record BeginsWithRuns (bytes : List ℕ) (count : ℕ) (runs : List (List ℕ)) (rest : List ℕ) : Type 0 where
  pub size : length runs ≡ count
  pub found : SpellsFront ByteRuns bytes runs rest

-- the runs that stand there
abbrev pub ShowsRuns : ℕ → List ℕ → List (List ℕ) → Type 0
ShowsRuns count bytes runs = (rest : List ℕ) × BeginsWithRuns bytes count runs rest

-- a value there where something shows it
abbrev pub ShowsOptional : {A B : Type 0} → (A → B → Type 0) → Option A → Option B → Type 0
ShowsOptional Shows None None = Unit {0}
ShowsOptional Shows None (Some value) = ⊥
ShowsOptional Shows (Some shown) None = ⊥
ShowsOptional Shows (Some shown) (Some value) = Shows shown value

-- the bytes that were found are these tags, where there are tags
abbrev pub ShowsTags : Option RunList → Option (List (List ℕ)) → Type 0
ShowsTags = ShowsOptional (λ list tags. ShowsRuns list.count list.bytes.now tags)

-- the bytes of a run that is there
abbrev pub bytes_of : Option (Bor (List ℕ)) → Option (List ℕ)
bytes_of run = option_map (λ bytes. bytes.now) run

-- the name and the bytes of a file that was found
abbrev pub file_of : Option FileBytes → Option (List ℕ × List ℕ)
file_of file = option_map (λ part. (part.name.now, part.bytes.now)) file

-- what is read from the front of some bytes: what it tells, how bytes spell that, and what shows where it stands
pub record Form (Field : Type 0) : Type 1 where
  pub Told : Type 0
  pub spells : List ℕ → Told → Type 0
  pub shows : Field → Told → Type 0

-- where the values of the fields stand
pub record ShowsParts (parts : Parts) (contents : Contents) : Type 0 where
  pub stamp : parts.stamp ≡ the_stamp contents
  pub id : bytes_of parts.id ≡ the_id contents
  pub tags : ShowsTags parts.tags (the_tags contents)
  pub mime : bytes_of parts.mime ≡ the_mime contents
  pub file : file_of parts.file ≡ the_file contents
  pub route : bytes_of parts.route ≡ the_route contents

-- the texts among them are texts
pub record AreTexts (contents : Contents) : Type 0 where
  pub id : IfSome (the_id contents) IsText
  pub tags : IfSome (the_tags contents) (All IsText)
  pub mime : IfSome (the_mime contents) IsText
  pub file : IfSome (the_file contents) (λ file. IsText file.0)
  pub route : IfSome (the_route contents) IsText

-- and short enough for their lengths to be spelled
pub record AreShortTexts (contents : Contents) : Type 0 where
  pub id : IfSome (the_id contents) IsShortText
  pub tags : IfSome (the_tags contents) (All IsShortText)
  pub mime : IfSome (the_mime contents) IsShortText
  pub file : IfSome (the_file contents) (λ file. IsShortText file.0)
  pub route : IfSome (the_route contents) IsShortText

-- The front of a packet as it is, whatever follows: its flag bytes, and the size that it tells.
pub record HeaderShape (bytes : List ℕ) (value : ℕ × (ℕ × ℕ)) : Type 0 where
  pub number : List ℕ
  pub parts : bytes ≡ signature ∷ value.0 ∷ value.1.0 ∷ number
  pub version : value.0 / 16 ≡ 2
  pub zero_bit : value.1.0 / 8 % 2 ≡ 0
  pub size_spelled : SpellsNumber number value.1.1
  pub size_short : length number ≤ 3
  pub room : length bytes + 4 ≤ value.1.1

-- the header that the bytes begin with
pub record HeaderStands (bytes : List ℕ) (header : Header) : Type 0 where
  pub in_range : header.start ≤ length bytes
  pub spelled : HeaderShape (take header.start bytes) (header.first, (header.second, header.size))

-- the fields of a packet, between its header and its checksum
abbrev pub fields_at : Header → List ℕ → List ℕ
fields_at header bytes = drop header.start (take (length bytes - 4) bytes)

-- the status of this number
abbrev pub status_from : ℕ → Status
status_from n = slice_index_or (Unset ∷ Exists ∷ InProgress ∷ Success ∷ UxSuccess ∷ Skip ∷ Fail ∷ []) n XFail

-- a file of this name and these bytes
abbrev pub file_from : List ℕ × List ℕ → FilePart
file_from file = record { name = file.0; bytes = file.1 }

-- the event with these flags and fields
abbrev pub event_from : ℕ → ℕ → Contents → Event
event_from first second contents = record {
  stamp = the_stamp contents;
  id = the_id contents;
  tags = the_tags contents;
  runnable = bit first 1;
  status = status_from (second % 8);
  mime = the_mime contents;
  file = option_map file_from (the_file contents);
  eof = bit second 16;
  route = the_route contents;
}

-- the fields of an event
abbrev pub contents_of : Event → Contents
contents_of e = (e.stamp, (e.id, (e.tags, (e.mime, (option_map (λ file. (file.name, file.bytes)) e.file, e.route)))))
