-- A filter of notes at work.
use Rattle.std.proofs.Common.{◌≡◌, ℕ, Option, ◌<◌, length, length-append, Bool, true, false, List, [], ◌∷◌, ◌++◌, take, refl, sym, ap, subst, ◌∙◌, append_assoc, append-nil, arith}
use Rattle.std.proofs.lemmas.List.Elements.{All-nil}
use Rattle.packet_codec.specs.Grammar.{AreBytes}
use Rattle.packet_codec.specs.Header.{BeginsWithPacket}
use Rattle.packet_codec.specs.Packet.{SpellsEvent}
use Rattle.packet_codec.specs.declared.event.Event.{Event}
use Rattle.stream_reader.specs.declared.note.Note.{Note}
use Rattle.stream_reader.specs.declared.note.Note.TheVariants as note
use Rattle.stream_reader.specs.declared.first_note.First.{First}
use Rattle.stream_reader.specs.declared.first_note.First.TheVariants as found
use Rattle.stream_reader.specs.First.{FirstIs, IsMadeBy}
use Rattle.stream_reader.specs.Stream.{Held, HasGiven, GivesNote, IsSpent}
use Rattle.stream_reader.proofs.TurnLemmas.{notes_none, notes_more, begin_more, whole_at_end, gives_none}
use Rattle.stream_reader.proofs.GivingLemmas.{spent_empty}
use Rattle.stream_reader.proofs.FrontLemmas.{are_behind, are_both}
use Rattle.stream_end.specs.Character.{missing_after_note}
use Rattle.stream_end.specs.Inside.{ends_inside, ends_inside_behind}
use Rattle.stream_end.proofs.InsideLemmas.{given_alike}
use Rattle.filter_cli.specs.Pipe.{Adds}
use Rattle.filter_cli.specs.Plan.{Plan, IsSeen, IsFiltered}
use Rattle.filter_cli.specs.Script.{given_by}
use Rattle.filter_cli.specs.Noted.{EndsAsHeld, HasFiltered, TakesFirstNote, TakesNext, TakesNotes}
use Rattle.filter_cli.specs.ScriptLaws.{given_more}

-- ---- how the bytes fed and those held end

ends_same : (missing : ℕ) (bytes : List ℕ) → AreBytes bytes → EndsAsHeld missing bytes missing bytes
ends_same missing bytes are = record { are = are; left = are; alike = λ more are_more. refl }

ends_then : (m : ℕ) (a : List ℕ) (n : ℕ) (b : List ℕ) (o : ℕ) (c : List ℕ) → EndsAsHeld m a n b → EndsAsHeld n b o c → EndsAsHeld m a o c
ends_then m a n b o c first second = record { are = first.are; left = second.left; alike = λ more are_more. first.alike more are_more ∙ second.alike more are_more }

ends_fed : (missing : ℕ) (fed held piece : List ℕ) → AreBytes piece → EndsAsHeld 0 fed missing held → EndsAsHeld 0 (fed ++ piece) missing (held ++ piece)
ends_fed missing fed held piece are e = record {
  are = are_both fed piece e.are are;
  left = are_both held piece e.left are;
  alike = λ more are_more.
      ap ends_inside (append_assoc fed piece more)
      ∙ e.alike (piece ++ more) (are_both piece more are are_more)
      ∙ ap (ends_inside_behind missing) (sym (append_assoc held piece more));
}

-- a note was given
ends_given : (before after : Held) (missing now : ℕ) (note : Note) → GivesNote before note after → now ≡ missing_after_note missing note → before.ended ≡ false → AreBytes before.bytes → EndsAsHeld missing before.bytes now after.bytes
ends_given before after missing now note g heard going_on are =
    let first : HasGiven false before.bytes (note ∷ []) after.bytes = rw going_on at g.first in
    let parted : AreBytes (g.front ++ after.bytes) = rw (g.parts) at are in
    record {
      are = are;
      left = are_behind g.front after.bytes parted;
      alike = λ more are_more.
          ap (λ (l : List ℕ). ends_inside_behind missing (l ++ more)) g.parts
          ∙ given_alike missing g.front after.bytes more note g.made (rw (g.parts) at first) parted are_more
          ∙ ap (λ (n : ℕ). ends_inside_behind n (after.bytes ++ more)) (sym heard);
    }

-- all bytes end as those do that are held
pub held_tells : (missing : ℕ) (fed held : List ℕ) → EndsAsHeld 0 fed missing held → ends_inside_behind missing held ≡ ends_inside fed
held_tells missing fed held e = ap (ends_inside_behind missing) (sym (append-nil held)) ∙ sym (e.alike [] (All-nil (λ byte. byte < 256))) ∙ ap ends_inside (append-nil fed)

-- ---- its notes

pub filtered_none : (takes : List Note → Type 0) (plan : Plan) → takes [] → HasFiltered takes plan 0 [] [] []
filtered_none takes plan none = record { notes = []; taken = none; begins = gives_none false []; spent = spent_empty false [] (omega arith); ends = ends_same 0 [] (All-nil (λ byte. byte < 256)); made = refl }

-- of no bytes nothing is decided
pub seen_none : (plan : Plan) → IsSeen plan [] []
seen_none plan = record { notes = []; decided = spent_empty false [] (omega arith); made = refl }

pub takes_none : (takes : List Note → Type 0) (plan : Plan) (notes : List Note) (held : Held) (missing : ℕ) (text : List ℕ) → takes notes → TakesNotes takes plan notes held held missing missing text text
takes_none takes plan notes held missing text taken = record {
  all = notes;
  given = notes_none held notes;
  taken = taken;
  ends = λ going_on are. ends_same missing held.bytes are;
  more = [];
  grown = sym (append-nil text);
  made = sym (append-nil (given_by plan notes));
}

pub takes_more : (takes later : List Note → Type 0) (plan now : Plan) (notes : List Note) (before held after : Held) (missing between last : ℕ) (old mid new : List ℕ) (note : Note)
    → now ≡ plan → TakesNotes takes plan notes before held missing between old mid → GivesNote held note after → last ≡ missing_after_note between note → after.ended ≡ held.ended
    → ((all : List Note) → takes all → later (all ++ note ∷ [])) → ((all : List Note) → takes all → new ≡ mid ++ now.gives all note)
    → TakesNotes later plan notes before after missing last old new
takes_more takes later plan now notes before held after missing between last old mid new note same t step heard ended goes_on writes =
    let piece = plan.gives t.all note in
    let is : now.gives t.all note ≡ piece = ap (λ (p : Plan). p.gives t.all note) same in
    record {
      all = t.all ++ note ∷ [];
      given = notes_more before held after notes t.all note t.given step ended;
      taken = goes_on t.all t.taken;
      ends = λ going_on are. let so_far = t.ends going_on are in ends_then missing before.bytes between held.bytes last after.bytes so_far (ends_given held after between last note step heard (t.given.ended ∙ going_on) so_far.left);
      more = t.more ++ piece;
      grown = writes t.all t.taken ∙ ap (λ (l : List ℕ). mid ++ l) is ∙ ap (λ (l : List ℕ). l ++ piece) t.grown ∙ append_assoc old t.more piece;
      made = given_more plan t.all note ∙ ap (λ (l : List ℕ). l ++ piece) t.made ∙ append_assoc (given_by plan notes) t.more piece;
    }

shown_more : (plan : Plan) (notes all : List Note) (shown more : List ℕ) → shown ≡ given_by plan notes → given_by plan all ≡ given_by plan notes ++ more → shown ++ more ≡ given_by plan all
shown_more plan notes all shown more is made = ap (λ (l : List ℕ). l ++ more) is ∙ sym made

pub filtered_more : (takes later : List Note → Type 0) (plan now : Plan) (missing last : ℕ) (rest piece fed shown : List ℕ) (held after : Held) (old new : List ℕ)
    → now ≡ plan → AreBytes piece → held ≡ record { bytes = rest ++ piece; ended = false } → (h : HasFiltered takes plan missing rest fed shown)
    → TakesNotes later plan h.notes held after missing last old new → IsSpent after.ended after.bytes → after.ended ≡ held.ended
    → Adds old new (λ more. HasFiltered later now last after.bytes (fed ++ piece) (shown ++ more))
filtered_more takes later plan now missing last rest piece fed shown held after old new same are is h t spent ended =
    let going_on : after.ended ≡ false = ended ∙ ap (λ (s : Held). s.ended) is in
    record {
      more = t.more;
      grown = t.grown;
      holds = subst (λ (p : Plan). HasFiltered later p last after.bytes (fed ++ piece) (shown ++ t.more)) (sym same) (record {
        notes = t.all;
        taken = t.taken;
        begins = begin_more fed piece rest h.notes t.all held after are h.begins is t.given;
        spent = subst (λ (e : Bool). IsSpent e after.bytes) going_on spent;
        ends =
            let fed_so : EndsAsHeld 0 (fed ++ piece) missing (rest ++ piece) = ends_fed missing fed rest piece are h.ends in
            let held_is : held.bytes ≡ rest ++ piece = ap (λ (s : Held). s.bytes) is in
            let at_held : EndsAsHeld 0 (fed ++ piece) missing held.bytes = subst (EndsAsHeld 0 (fed ++ piece) missing) (sym held_is) fed_so in
            ends_then 0 (fed ++ piece) missing held.bytes last after.bytes at_held (t.ends (ap (λ (s : Held). s.ended) is) at_held.left);
        made = shown_more plan h.notes t.all shown t.more h.made t.made;
      });
    }

pub filtered_all : (takes later : List Note → Type 0) (plan now : Plan) (missing last : ℕ) (rest fed shown : List ℕ) (held after : Held) (old mid new : List ℕ) (status : ℕ)
    → now ≡ plan → held ≡ record { bytes = rest; ended = true } → (h : HasFiltered takes plan missing rest fed shown)
    → TakesNotes later plan h.notes held after missing last old mid → IsSpent after.ended after.bytes
    → ((all : List Note) → later all → new ≡ mid ++ now.at_end all) → ((all : List Note) → later all → status ≡ now.status all)
    → Adds old new (λ more. IsFiltered plan fed (shown ++ more) status)
filtered_all takes later plan now missing last rest fed shown held after old mid new status same is h t spent writes answers =
    let at_end = plan.at_end t.all in
    record {
      more = t.more ++ at_end;
      grown = writes t.all t.taken ∙ ap (λ (p : Plan). mid ++ p.at_end t.all) same ∙ ap (λ (l : List ℕ). l ++ at_end) t.grown ∙ append_assoc old t.more at_end;
      holds = record {
        notes = t.all;
        told = whole_at_end fed rest h.notes t.all held after h.begins is t.given spent;
        made = sym (append_assoc shown t.more at_end) ∙ ap (λ (l : List ℕ). l ++ at_end) (shown_more plan h.notes t.all shown t.more h.made t.made);
        status = answers t.all t.taken ∙ ap (λ (p : Plan). p.status t.all) same;
      };
    }

-- ---- what is first

-- the packet that is first was taken, whichever event it spells
pub takes_packet : (takes later : List Note → Type 0) (plan : Plan) (bytes packet : List ℕ) (first : First) (size : ℕ) (old new : List ℕ)
    → first ≡ found.Packet size → BeginsWithPacket bytes size → packet ≡ take size bytes
    → ((event : Event) → SpellsEvent packet event → (notes : List Note) → takes notes → later (notes ++ note.Event event ∷ []))
    → ((event : Event) → SpellsEvent packet event → (notes : List Note) → takes notes → new ≡ old ++ plan.gives notes (note.Event event))
    → TakesFirstNote takes later plan bytes first old new
takes_packet takes later plan bytes packet first size old new form begins same goes_on writes =
    let event = begins.packet.0 in
    let spells : SpellsEvent packet event = subst (λ (l : List ℕ). SpellsEvent l event) (sym same) begins.packet.1 in
    record {
      note = note.Event event;
      made = subst (λ (f : First). IsMadeBy bytes f (note.Event event)) (sym form) begins.packet.1;
      taken = goes_on event spells;
      grown = writes event spells;
    }

-- what is first was given and taken
pub takes_next : (takes later : List Note → Type 0) (plan : Plan) (before after : Held) (missing now : ℕ) (first : First) (old new : List ℕ)
    → TakesFirstNote takes later plan before.bytes first old new → ((note : Note) → IsMadeBy before.bytes first note → GivesNote before note after)
    → ((note : Note) → IsMadeBy before.bytes first note → now ≡ missing_after_note missing note)
    → TakesNext takes later plan before after missing now old new
takes_next takes later plan before after missing now first old new t gives hears = record { note = t.note; given = gives t.note t.made; heard = hears t.note t.made; taken = t.taken; grown = t.grown }

pub run_made : (bytes run : List ℕ) (first : First) (size : ℕ) (behind : Option ℕ) → first ≡ found.Foreign size behind → run ≡ take size bytes → IsMadeBy bytes first (note.Foreign run)
run_made bytes run first size behind form same = subst (λ (f : First). IsMadeBy bytes f (note.Foreign run)) (sym form) same

pub spent_at : (before now : Held) (first : First) → FirstIs before.ended before.bytes first → now ≡ before → first ≡ found.Nothing → IsSpent now.ended now.bytes
spent_at before now first is same none = subst (λ (h : Held). IsSpent h.ended h.bytes) (sym same) (subst (FirstIs before.ended before.bytes) none is)

pub given_shorter : (before after : Held) (given : Note) → GivesNote before given after → length after.bytes < length before.bytes
given_shorter before after given g = omega (arith, g.some, ap length g.parts, length-append g.front after.bytes)
