-- An answer keeps all that is promised.
use Rattle.std.proofs.Common.{◌≡◌, ◌⊎◌, inl, inr, ℕ, ◌<◌, ◌≤◌, Option, None, Some, IfSome, IsSomeAnd, Result, Ok, Err, List, length, sym, ap, subst, ◌∙◌, arith}
use Rattle.std.proofs.KnownBytes.{Appends-nil}
use Rattle.packet_codec.specs.Grammar.{AreBytes}
use Rattle.edge_io.specs.Bytes.{AppendsPrefix}
use Rattle.edge_io.specs.Seen.{Seen}
use Rattle.edge_io.specs.Limits.{most_bytes}
use Rattle.filter_cli.specs.Pipe.{Pipe, NoFault}
use Rattle.filter_cli.specs.Pumping.{PumpsAll, PumpsToEnd, ReadFails, WriteFails, IsDue, IsTooLongInput, Pumps}
use Rattle.filter_cli.specs.Tools.{tool_of}
use Rattle.filter_cli.specs.Words.{asked_by_words, input_file_in}
use Rattle.filter_cli.specs.Streams.{writing_of, unread_text, text_unread, inside_by, inside_asked, is_inside_for, sees_by, ends_by, AsksFor, HasBadPattern, IsSeenBy, IsFilteredBy}
use Rattle.filter_cli.specs.FileReads.{file_pipe, IsAbsent}
use Rattle.filter_cli.specs.Outside.{FilterOutside, Reach, reach_of, PipeRose}
use Rattle.filter_cli.specs.Refusals.{filter_exit_status, filter_name_in}
use Rattle.filter_cli.specs.Program.{FilterAnswers, LeavesUnread, TellsInside}
use Rattle.filter_cli.specs.Promises.{CanFilter, FaultsOf, IsDone, OutputFails, GivesAll, GivesFirst, GiveFails, feed_of, Rests, IsMissing, RefusesMissing, Feeds, FilterPromises}
use Rattle.filter_cli.specs.declared.request.Asked.{Asked}
use Rattle.filter_cli.specs.declared.refusal.Refusal.{Refusal}
use Rattle.filter_cli.specs.declared.filter.StreamEnd.{StreamEnd}
use Rattle.filter_cli.specs.declared.pump_loop.PumpFault.{PumpFault}
use Rattle.filter_cli.specs.declared.pump_loop.PumpFault.TheVariants as pump_fault
use Rattle.filter_cli.proofs.PumpLemmas.{pumped_prefix, if_told}
use Rattle.filter_cli.proofs.BadLemmas.{same_asked, asks_no_bad}
use Rattle.filter_cli.proofs.EndLemmas.{passed_inside, gave_inside, told_inside}
use Rattle.filter_cli.proofs.StatusLemmas.{status_at_most}
use Rattle.filter_cli.proofs.UnreadLemmas.{unread_own, named_asks, unread_whole, gives_first, gives_none, gives_all}
use Rattle.filter_cli.proofs.WritingLaws.{by_front, by_one}
use Rattle.filter_cli.proofs.Courses.{FilterCourse, FileWays, by_pipe, by_name, filters_course}
use Rattle.filter_cli.proofs.Ways.{Ways, by_usage, by_memory, by_bad, by_want, passed, by_input, by_file_read, by_length, by_file_length, by_output, by_file_output, by_room, by_file_room, by_no_file, gave, by_sink, by_space}

-- ---- of a filter, and of words that ask for it

module _ (words : List (List ℕ)) (asked : Asked) (asks : AsksFor words asked) (a b : Pipe) where
  all_as : (status : ℕ) → PumpsAll (ends_by (writing_of asked)) a b status → PumpsAll (IsFilteredBy words) a b status
  all_as status p = record {
    bytes = p.bytes;
    text = p.text;
    moved = p.moved;
    at_end = p.at_end;
    size = p.size;
    whole = record { asked = asked; asks = asks; whole = p.whole };
    faults = p.faults;
  }

  reads_as : ReadFails (sees_by (writing_of asked)) a b → ReadFails (IsSeenBy words) a b
  reads_as p = record {
    bytes = p.bytes;
    text = p.text;
    moved = p.moved;
    size = p.size;
    seen = record { asked = asked; asks = asks; seen = p.seen };
    rose = p.rose;
    out = p.out;
  }

  due_as : (left : Option (List ℕ)) (bytes text : List ℕ) → IsDue (sees_by (writing_of asked)) (ends_by (writing_of asked)) left bytes text → IsDue (IsSeenBy words) (IsFilteredBy words) left bytes text
  due_as left bytes text (inl seen) = inl (record { asked = asked; asks = asks; seen = seen })
  due_as left bytes text (inr (status, ends, whole)) = inr (status, ends, record { asked = asked; asks = asks; whole = whole })

  writes_as : WriteFails (sees_by (writing_of asked)) (ends_by (writing_of asked)) a b → WriteFails (IsSeenBy words) (IsFilteredBy words) a b
  writes_as p = record {
    front = p.front;
    piece = p.piece;
    short = p.short;
    size = p.size;
    shown = p.shown;
    seen = record { asked = asked; asks = asks; seen = p.seen };
    more = p.more;
    due = due_as _ _ _ p.due;
    count = p.count;
    moved = p.moved;
    rose = p.rose;
    input = p.input;
  }

  first_of : (result : Result StreamEnd PumpFault) → Pumps (inside_by (writing_of asked)) (sees_by (writing_of asked)) (ends_by (writing_of asked)) a b result → (bytes : List ℕ) → a.input.told ≡ Some bytes → AreBytes bytes → (text : List ℕ) (status : ℕ) → IsFilteredBy words bytes text status → AppendsPrefix a.out.told b.out.told text
  first_of result pumps bytes told are text status e =
      let whole = subst (λ (x : Asked). ends_by (writing_of x) bytes text status) (same_asked words e.asked asked e.asks.named asks.named) e.whole in
      pumped_prefix (inside_by (writing_of asked)) _ _ (by_front (writing_of asked)) (by_one (writing_of asked)) a b result bytes text status told are whole pumps

  -- of words that leave the input unread
  alone_of : (shown : List ℕ) (result : Result StreamEnd PumpFault) → text_unread words ≡ Some shown → LeavesUnread shown a b result → (bytes text : List ℕ) (status : ℕ) → IsFilteredBy words bytes text status → AppendsPrefix a.out.told b.out.told text
  alone_of shown result leaves p bytes text status e =
      let whole = subst (λ (x : Asked). ends_by (writing_of x) bytes text status) (same_asked words e.asked asked e.asks.named asks.named) e.whole in
      let own = unread_own words asked shown asks.named leaves in
      subst (AppendsPrefix a.out.told b.out.told) (sym (unread_whole asked shown bytes text status own whole)) (gives_first shown a b result p).wrote

-- ---- of the text that words write where they leave the input unread

not_reads : (words : List (List ℕ)) (text : List ℕ) → text_unread words ≡ Some text → text_unread words ≡ None → ⊥
not_reads words text some none = let both : Some text ≡ None = sym some ∙ none in cc

same_text : (words : List (List ℕ)) (text shown : List ℕ) → text_unread words ≡ Some text → text_unread words ≡ Some shown → text ≡ shown
same_text words text shown one other = let both : Some text ≡ Some shown = sym one ∙ other in cc

done_as : (words : List (List ℕ)) (unread : Option (List ℕ)) (a b : Pipe) (answer : ℕ) → text_unread words ≡ unread → IsDone words unread a b answer → IsDone words (text_unread words) a b answer
done_as words unread a b answer is done = subst (λ (o : Option (List ℕ)). IsDone words o a b answer) (sym is) done

fails_as : (words : List (List ℕ)) (unread : Option (List ℕ)) (a b : Pipe) → text_unread words ≡ unread → OutputFails words unread a b → OutputFails words (text_unread words) a b
fails_as words unread a b is fails = subst (λ (o : Option (List ℕ)). OutputFails words o a b) (sym is) fails

give_fails : (text : List ℕ) (a b : Pipe) → LeavesUnread text a b (Err pump_fault.Output) → GiveFails text a b
give_fails text a b p = record { part = gives_first text a b (Err pump_fault.Output) p; rose = p.written.1 }

none_first : (a b : Pipe) (text : List ℕ) → b ≡ a → AppendsPrefix a.out.told b.out.told text
none_first a b text same = subst (λ (w : Pipe). AppendsPrefix a.out.told w.out.told text) (sym same) (0, omega arith, Appends-nil a.out.told)

none_fault : (a b : Pipe) → b ≡ a → NoFault a b
none_fault a b same = record { input = ap (λ (w : Pipe). w.input.faults) same; out = ap (λ (w : Pipe). w.out.faults) same }

not_too_long : (told : Option (List ℕ)) → IsSomeAnd told (λ bytes. length bytes ≤ most_bytes) → IfSome told (λ bytes. most_bytes < length bytes) → ⊥
not_too_long None short long = short
not_too_long (Some bytes) short long = omega (arith, short, long)

not_untold : (told : Option (List ℕ)) → IsSomeAnd told (λ bytes. length bytes ≤ most_bytes) → told ≡ None → ⊥
not_untold None short none = short
not_untold (Some bytes) short none = cc

asked_not_none : (words : List (List ℕ)) (asked : Asked) → asked_by_words words ≡ Some asked → asked_by_words words ≡ None → ⊥
asked_not_none words asked some none = let both : Some asked ≡ None = sym some ∙ none in cc

-- ---- the promises

module _ (words : List (List ℕ)) (missing : Type 0) (a b : Pipe) (answer : ℕ) (outcome : Result StreamEnd Refusal) (code : answer ≡ filter_exit_status outcome) where
  same_end : (end other : StreamEnd) → outcome ≡ Ok end → outcome ≡ Ok other → end ≡ other
  same_end end other one another = let both : Ok end ≡ Ok other = sym one ∙ another in cc

  no_end : (refusal : Refusal) (end : StreamEnd) → outcome ≡ Err refusal → outcome ≡ Ok end → ⊥
  no_end refusal end err done = let both : Err refusal ≡ Ok end = sym err ∙ done in cc

  few : (asked : Asked) (end : StreamEnd) → outcome ≡ Ok end → PumpsToEnd (inside_by (writing_of asked)) (ends_by (writing_of asked)) a b end → answer ≤ 1
  few asked end is p =
      let same : answer ≡ end.status = code ∙ ap filter_exit_status is in
      omega (arith, same, status_at_most asked p.all.bytes p.all.text end.status p.all.whole)

  most_of : Ways words missing a b outcome → answer ≤ 5
  most_of (by_usage is named same) = let two = code ∙ ap filter_exit_status is in omega (arith, two)
  most_of (by_memory none is some same) = let five = code ∙ ap filter_exit_status is in omega (arith, five)
  most_of (by_bad text is bad same) = let three = code ∙ ap filter_exit_status is in omega (arith, three)
  most_of (by_want asked is named same) = let five = code ∙ ap filter_exit_status is in omega (arith, five)
  most_of (passed asked end is asks reads p) = omega (arith, few asked end is p)
  most_of (by_input asked is asks reads p) = let four = code ∙ ap filter_exit_status is in omega (arith, four)
  most_of (by_file_read asked name is asks reads p) = let four = code ∙ ap filter_exit_status is in omega (arith, four)
  most_of (by_length asked is asks reads p) = let three = code ∙ ap filter_exit_status is in omega (arith, three)
  most_of (by_file_length asked name is asks reads p) = let three = code ∙ ap filter_exit_status is in omega (arith, three)
  most_of (by_output asked is asks reads p) = let four = code ∙ ap filter_exit_status is in omega (arith, four)
  most_of (by_file_output asked name is asks reads p) = let four = code ∙ ap filter_exit_status is in omega (arith, four)
  most_of (by_room asked is asks reads p) = let five = code ∙ ap filter_exit_status is in omega (arith, five)
  most_of (by_file_room asked name is asks reads p) = let five = code ∙ ap filter_exit_status is in omega (arith, five)
  most_of (by_no_file asked name is asks reads p untold none) = let three = code ∙ ap filter_exit_status is in omega (arith, three)
  most_of (gave asked text end is asks leaves p) = let zero_is = code ∙ ap filter_exit_status is ∙ ap (λ (e : StreamEnd). e.status) p.written.0 in omega (arith, zero_is)
  most_of (by_sink asked text is asks leaves p) = let four = code ∙ ap filter_exit_status is in omega (arith, four)
  most_of (by_space asked text is asks leaves p) = let five = code ∙ ap filter_exit_status is in omega (arith, five)

  done_of : Ways words missing a b outcome → answer ≤ 1 → IsDone words (text_unread words) a b answer
  done_of (by_usage is named same) le = let two = code ∙ ap filter_exit_status is in absurd (omega (arith, two, le))
  done_of (by_memory none is some same) le = let five = code ∙ ap filter_exit_status is in absurd (omega (arith, five, le))
  done_of (by_bad text is bad same) le = let three = code ∙ ap filter_exit_status is in absurd (omega (arith, three, le))
  done_of (by_want asked is named same) le = let five = code ∙ ap filter_exit_status is in absurd (omega (arith, five, le))
  done_of (passed asked end is asks reads p) le =
      let same : answer ≡ end.status = code ∙ ap filter_exit_status is in
      done_as words None a b answer reads (subst (PumpsAll (IsFilteredBy words) a b) (sym same) (all_as words asked asks a b end.status p.all))
  done_of (by_input asked is asks reads p) le = let four = code ∙ ap filter_exit_status is in absurd (omega (arith, four, le))
  done_of (by_file_read asked name is asks reads p) le = let four = code ∙ ap filter_exit_status is in absurd (omega (arith, four, le))
  done_of (by_length asked is asks reads p) le = let three = code ∙ ap filter_exit_status is in absurd (omega (arith, three, le))
  done_of (by_file_length asked name is asks reads p) le = let three = code ∙ ap filter_exit_status is in absurd (omega (arith, three, le))
  done_of (by_output asked is asks reads p) le = let four = code ∙ ap filter_exit_status is in absurd (omega (arith, four, le))
  done_of (by_file_output asked name is asks reads p) le = let four = code ∙ ap filter_exit_status is in absurd (omega (arith, four, le))
  done_of (by_room asked is asks reads p) le = let five = code ∙ ap filter_exit_status is in absurd (omega (arith, five, le))
  done_of (by_file_room asked name is asks reads p) le = let five = code ∙ ap filter_exit_status is in absurd (omega (arith, five, le))
  done_of (by_no_file asked name is asks reads p untold none) le = let three = code ∙ ap filter_exit_status is in absurd (omega (arith, three, le))
  done_of (gave asked text end is asks leaves p) le =
      let same : answer ≡ end.status = code ∙ ap filter_exit_status is in
      done_as words (Some text) a b answer leaves (subst (GivesAll text a b) (sym same) (gives_all text a b end p))
  done_of (by_sink asked text is asks leaves p) le = let four = code ∙ ap filter_exit_status is in absurd (omega (arith, four, le))
  done_of (by_space asked text is asks leaves p) le = let five = code ∙ ap filter_exit_status is in absurd (omega (arith, five, le))

  unread_of : Ways words missing a b outcome → (text : List ℕ) → text_unread words ≡ Some text → GivesFirst text a b
  unread_of (by_usage is named same) text some = gives_none text a b same
  unread_of (by_memory none is some_tool same) text some = gives_none text a b same
  unread_of (by_bad bad_one is bad same) text some = gives_none text a b same
  unread_of (by_want asked is named same) text some = gives_none text a b same
  unread_of (passed asked end is asks reads p) text some = absurd (not_reads words text some reads)
  unread_of (by_input asked is asks reads p) text some = absurd (not_reads words text some reads)
  unread_of (by_file_read asked name is asks reads p) text some = absurd (not_reads words text some reads)
  unread_of (by_length asked is asks reads p) text some = absurd (not_reads words text some reads)
  unread_of (by_file_length asked name is asks reads p) text some = absurd (not_reads words text some reads)
  unread_of (by_output asked is asks reads p) text some = absurd (not_reads words text some reads)
  unread_of (by_file_output asked name is asks reads p) text some = absurd (not_reads words text some reads)
  unread_of (by_room asked is asks reads p) text some = absurd (not_reads words text some reads)
  unread_of (by_file_room asked name is asks reads p) text some = absurd (not_reads words text some reads)
  unread_of (by_no_file asked name is asks reads p untold none) text some = absurd (not_reads words text some reads)
  unread_of (gave asked shown end is asks leaves p) text some = subst (λ (t : List ℕ). GivesFirst t a b) (same_text words shown text leaves some) (gives_first shown a b (Ok end) p)
  unread_of (by_sink asked shown is asks leaves p) text some = subst (λ (t : List ℕ). GivesFirst t a b) (same_text words shown text leaves some) (gives_first shown a b (Err pump_fault.Output) p)
  unread_of (by_space asked shown is asks leaves p) text some = subst (λ (t : List ℕ). GivesFirst t a b) (same_text words shown text leaves some) (gives_first shown a b (Err pump_fault.NoMemory) p)

  prefix_of : Ways words missing a b outcome → (bytes : List ℕ) → a.input.told ≡ Some bytes → AreBytes bytes → (text : List ℕ) (status : ℕ) → IsFilteredBy words bytes text status → AppendsPrefix a.out.told b.out.told text
  prefix_of (by_usage is named same) bytes told are text status e = none_first a b text same
  prefix_of (by_memory none is some same) bytes told are text status e = none_first a b text same
  prefix_of (by_bad bad_one is bad same) bytes told are text status e = none_first a b text same
  prefix_of (by_want asked is named same) bytes told are text status e = none_first a b text same
  prefix_of (passed asked end is asks reads p) bytes told are text status e = first_of words asked asks a b (Ok end) p bytes told are text status e
  prefix_of (by_input asked is asks reads p) bytes told are text status e = first_of words asked asks a b (Err pump_fault.Input) p bytes told are text status e
  prefix_of (by_file_read asked name is asks reads p) bytes told are text status e = first_of words asked asks a b (Err pump_fault.Input) p bytes told are text status e
  prefix_of (by_length asked is asks reads p) bytes told are text status e = first_of words asked asks a b (Err pump_fault.TooLong) p bytes told are text status e
  prefix_of (by_file_length asked name is asks reads p) bytes told are text status e = first_of words asked asks a b (Err pump_fault.TooLong) p bytes told are text status e
  prefix_of (by_output asked is asks reads p) bytes told are text status e = first_of words asked asks a b (Err pump_fault.Output) p bytes told are text status e
  prefix_of (by_file_output asked name is asks reads p) bytes told are text status e = first_of words asked asks a b (Err pump_fault.Output) p bytes told are text status e
  prefix_of (by_room asked is asks reads p) bytes told are text status e = first_of words asked asks a b (Err pump_fault.NoMemory) p bytes told are text status e
  prefix_of (by_file_room asked name is asks reads p) bytes told are text status e = first_of words asked asks a b (Err pump_fault.NoMemory) p bytes told are text status e
  prefix_of (by_no_file asked name is asks reads p untold none) bytes told are text status e = first_of words asked asks a b (Err pump_fault.NoMemory) p bytes told are text status e
  prefix_of (gave asked shown another is asks leaves p) bytes told are text status e = alone_of words asked asks a b shown (Ok another) leaves p bytes text status e
  prefix_of (by_sink asked shown is asks leaves p) bytes told are text status e = alone_of words asked asks a b shown (Err pump_fault.Output) leaves p bytes text status e
  prefix_of (by_space asked shown is asks leaves p) bytes told are text status e = alone_of words asked asks a b shown (Err pump_fault.NoMemory) leaves p bytes text status e

  no_text : (asked : Asked) → AsksFor words asked → (asked_by_words words ≡ None) ⊎ HasBadPattern words → ⊥
  no_text asked asks (inl none) = asked_not_none words asked asks.named none
  no_text asked asks (inr bad) = asks_no_bad words asked asks bad

  nothing_of : Ways words missing a b outcome → (asked_by_words words ≡ None) ⊎ HasBadPattern words → b ≡ a
  nothing_of (by_usage is named same) none = same
  nothing_of (by_memory want is some same) none = same
  nothing_of (by_bad text is bad same) none = same
  nothing_of (by_want asked is named same) none = same
  nothing_of (passed asked end is asks reads p) none = absurd (no_text asked asks none)
  nothing_of (by_input asked is asks reads p) none = absurd (no_text asked asks none)
  nothing_of (by_file_read asked name is asks reads p) none = absurd (no_text asked asks none)
  nothing_of (by_length asked is asks reads p) none = absurd (no_text asked asks none)
  nothing_of (by_file_length asked name is asks reads p) none = absurd (no_text asked asks none)
  nothing_of (by_output asked is asks reads p) none = absurd (no_text asked asks none)
  nothing_of (by_file_output asked name is asks reads p) none = absurd (no_text asked asks none)
  nothing_of (by_room asked is asks reads p) none = absurd (no_text asked asks none)
  nothing_of (by_file_room asked name is asks reads p) none = absurd (no_text asked asks none)
  nothing_of (by_no_file asked name is asks reads p untold absent) none = absurd (no_text asked asks none)
  nothing_of (gave asked text end is asks leaves p) none = absurd (no_text asked asks none)
  nothing_of (by_sink asked text is asks leaves p) none = absurd (no_text asked asks none)
  nothing_of (by_space asked text is asks leaves p) none = absurd (no_text asked asks none)

  usage_of : Ways words missing a b outcome → answer ≡ 2 → asked_by_words words ≡ None
  usage_of (by_usage is named same) two = named
  usage_of (by_memory none is some same) two = let five = code ∙ ap filter_exit_status is in absurd (omega (arith, five, two))
  usage_of (by_bad text is bad same) two = let three = code ∙ ap filter_exit_status is in absurd (omega (arith, three, two))
  usage_of (by_want asked is named same) two = let five = code ∙ ap filter_exit_status is in absurd (omega (arith, five, two))
  usage_of (passed asked end is asks reads p) two = absurd (omega (arith, two, few asked end is p))
  usage_of (by_input asked is asks reads p) two = let four = code ∙ ap filter_exit_status is in absurd (omega (arith, four, two))
  usage_of (by_file_read asked name is asks reads p) two = let four = code ∙ ap filter_exit_status is in absurd (omega (arith, four, two))
  usage_of (by_length asked is asks reads p) two = let three = code ∙ ap filter_exit_status is in absurd (omega (arith, three, two))
  usage_of (by_file_length asked name is asks reads p) two = let three = code ∙ ap filter_exit_status is in absurd (omega (arith, three, two))
  usage_of (by_output asked is asks reads p) two = let four = code ∙ ap filter_exit_status is in absurd (omega (arith, four, two))
  usage_of (by_file_output asked name is asks reads p) two = let four = code ∙ ap filter_exit_status is in absurd (omega (arith, four, two))
  usage_of (by_room asked is asks reads p) two = let five = code ∙ ap filter_exit_status is in absurd (omega (arith, five, two))
  usage_of (by_file_room asked name is asks reads p) two = let five = code ∙ ap filter_exit_status is in absurd (omega (arith, five, two))
  usage_of (by_no_file asked name is asks reads p untold none) two = let three = code ∙ ap filter_exit_status is in absurd (omega (arith, three, two))
  usage_of (gave asked text end is asks leaves p) two = let zero_is = code ∙ ap filter_exit_status is ∙ ap (λ (e : StreamEnd). e.status) p.written.0 in absurd (omega (arith, zero_is, two))
  usage_of (by_sink asked text is asks leaves p) two = let four = code ∙ ap filter_exit_status is in absurd (omega (arith, four, two))
  usage_of (by_space asked text is asks leaves p) two = let five = code ∙ ap filter_exit_status is in absurd (omega (arith, five, two))

  refused_of : Ways words missing a b outcome → asked_by_words words ≡ None → (answer ≡ 2) ⊎ ((answer ≡ 5) × (tool_of words ≡ None → ⊥))
  refused_of (by_usage is named same) none = inl (code ∙ ap filter_exit_status is)
  refused_of (by_memory want is some same) none = inr (code ∙ ap filter_exit_status is, some)
  refused_of (by_bad text is bad same) none = absurd (asked_not_none words bad.asked bad.named none)
  refused_of (by_want asked is named same) none = absurd (asked_not_none words asked named none)
  refused_of (passed asked end is asks reads p) none = absurd (asked_not_none words asked asks.named none)
  refused_of (by_input asked is asks reads p) none = absurd (asked_not_none words asked asks.named none)
  refused_of (by_file_read asked name is asks reads p) none = absurd (asked_not_none words asked asks.named none)
  refused_of (by_length asked is asks reads p) none = absurd (asked_not_none words asked asks.named none)
  refused_of (by_file_length asked name is asks reads p) none = absurd (asked_not_none words asked asks.named none)
  refused_of (by_output asked is asks reads p) none = absurd (asked_not_none words asked asks.named none)
  refused_of (by_file_output asked name is asks reads p) none = absurd (asked_not_none words asked asks.named none)
  refused_of (by_room asked is asks reads p) none = absurd (asked_not_none words asked asks.named none)
  refused_of (by_file_room asked name is asks reads p) none = absurd (asked_not_none words asked asks.named none)
  refused_of (by_no_file asked name is asks reads p untold absent) none = absurd (asked_not_none words asked asks.named none)
  refused_of (gave asked text end is asks leaves p) none = absurd (asked_not_none words asked asks.named none)
  refused_of (by_sink asked text is asks leaves p) none = absurd (asked_not_none words asked asks.named none)
  refused_of (by_space asked text is asks leaves p) none = absurd (asked_not_none words asked asks.named none)

  named_of : Ways words missing a b outcome → answer ≡ 3 → HasBadPattern words ⊎ ((text_unread words ≡ None) × (IsTooLongInput a ⊎ missing))
  named_of (by_usage is named same) three = let two = code ∙ ap filter_exit_status is in absurd (omega (arith, two, three))
  named_of (by_memory none is some same) three = let five = code ∙ ap filter_exit_status is in absurd (omega (arith, five, three))
  named_of (by_bad text is bad same) three = inl bad
  named_of (by_want asked is named same) three = let five = code ∙ ap filter_exit_status is in absurd (omega (arith, five, three))
  named_of (passed asked end is asks reads p) three = absurd (omega (arith, three, few asked end is p))
  named_of (by_input asked is asks reads p) three = let four = code ∙ ap filter_exit_status is in absurd (omega (arith, four, three))
  named_of (by_file_read asked name is asks reads p) three = let four = code ∙ ap filter_exit_status is in absurd (omega (arith, four, three))
  named_of (by_length asked is asks reads p) three = inr (reads, inl p.told)
  named_of (by_file_length asked name is asks reads p) three = inr (reads, inl p.told)
  named_of (by_output asked is asks reads p) three = let four = code ∙ ap filter_exit_status is in absurd (omega (arith, four, three))
  named_of (by_file_output asked name is asks reads p) three = let four = code ∙ ap filter_exit_status is in absurd (omega (arith, four, three))
  named_of (by_room asked is asks reads p) three = let five = code ∙ ap filter_exit_status is in absurd (omega (arith, five, three))
  named_of (by_file_room asked name is asks reads p) three = let five = code ∙ ap filter_exit_status is in absurd (omega (arith, five, three))
  named_of (by_no_file asked name is asks reads p untold none) three = inr (reads, inr none)
  named_of (gave asked text end is asks leaves p) three = let zero_is = code ∙ ap filter_exit_status is ∙ ap (λ (e : StreamEnd). e.status) p.written.0 in absurd (omega (arith, zero_is, three))
  named_of (by_sink asked text is asks leaves p) three = let four = code ∙ ap filter_exit_status is in absurd (omega (arith, four, three))
  named_of (by_space asked text is asks leaves p) three = let five = code ∙ ap filter_exit_status is in absurd (omega (arith, five, three))

  faults_as : (known : Result StreamEnd Refusal) → outcome ≡ known → FaultsOf words known a b → FaultsOf words outcome a b
  faults_as known is faults = subst (λ (o : Result StreamEnd Refusal). FaultsOf words o a b) (sym is) faults

  faults_of : Ways words missing a b outcome → FaultsOf words outcome a b
  faults_of (by_usage is named same) = faults_as _ is (none_fault a b same)
  faults_of (by_memory none is some same) = faults_as _ is (none_fault a b same)
  faults_of (by_bad text is bad same) = faults_as _ is (none_fault a b same)
  faults_of (by_want asked is named same) = faults_as _ is (none_fault a b same)
  faults_of (passed asked end is asks reads p) = faults_as _ is p.all.faults
  faults_of (by_input asked is asks reads p) = faults_as _ is (reads_as words asked asks a b p)
  faults_of (by_file_read asked name is asks reads p) = faults_as _ is (reads_as words asked asks a b p)
  faults_of (by_length asked is asks reads p) = faults_as _ is p.stops.faults
  faults_of (by_file_length asked name is asks reads p) = faults_as _ is p.stops.faults
  faults_of (by_output asked is asks reads p) = faults_as _ is (fails_as words None a b reads (writes_as words asked asks a b p))
  faults_of (by_file_output asked name is asks reads p) = faults_as _ is (fails_as words None a b reads (writes_as words asked asks a b p))
  faults_of (by_room asked is asks reads p) = faults_as _ is p.faults
  faults_of (by_file_room asked name is asks reads p) = faults_as _ is p.faults
  faults_of (by_no_file asked name is asks reads p untold none) = faults_as _ is p.faults
  faults_of (gave asked text end is asks leaves p) = faults_as _ is (gives_all text a b end p).faults
  faults_of (by_sink asked text is asks leaves p) = faults_as _ is (fails_as words (Some text) a b leaves (give_fails text a b p))
  faults_of (by_space asked text is asks leaves p) = faults_as _ is (record { input = ap (λ (s : Seen (List ℕ)). s.faults) p.unread; out = ap (λ (s : Seen (List ℕ)). s.faults) p.written })

  fault_of : Ways words missing a b outcome → answer ≡ 4 → ((text_unread words ≡ None) × ReadFails (IsSeenBy words) a b) ⊎ OutputFails words (text_unread words) a b
  fault_of (by_usage is named same) four = let two = code ∙ ap filter_exit_status is in absurd (omega (arith, two, four))
  fault_of (by_memory none is some same) four = let five = code ∙ ap filter_exit_status is in absurd (omega (arith, five, four))
  fault_of (by_bad text is bad same) four = let three = code ∙ ap filter_exit_status is in absurd (omega (arith, three, four))
  fault_of (by_want asked is named same) four = let five = code ∙ ap filter_exit_status is in absurd (omega (arith, five, four))
  fault_of (passed asked end is asks reads p) four = absurd (omega (arith, four, few asked end is p))
  fault_of (by_input asked is asks reads p) four = inl (reads, reads_as words asked asks a b p)
  fault_of (by_file_read asked name is asks reads p) four = inl (reads, reads_as words asked asks a b p)
  fault_of (by_length asked is asks reads p) four = let three = code ∙ ap filter_exit_status is in absurd (omega (arith, three, four))
  fault_of (by_file_length asked name is asks reads p) four = let three = code ∙ ap filter_exit_status is in absurd (omega (arith, three, four))
  fault_of (by_output asked is asks reads p) four = inr (fails_as words None a b reads (writes_as words asked asks a b p))
  fault_of (by_file_output asked name is asks reads p) four = inr (fails_as words None a b reads (writes_as words asked asks a b p))
  fault_of (by_room asked is asks reads p) four = let five = code ∙ ap filter_exit_status is in absurd (omega (arith, five, four))
  fault_of (by_file_room asked name is asks reads p) four = let five = code ∙ ap filter_exit_status is in absurd (omega (arith, five, four))
  fault_of (by_no_file asked name is asks reads p untold none) four = let three = code ∙ ap filter_exit_status is in absurd (omega (arith, three, four))
  fault_of (gave asked text end is asks leaves p) four = let zero_is = code ∙ ap filter_exit_status is ∙ ap (λ (e : StreamEnd). e.status) p.written.0 in absurd (omega (arith, zero_is, four))
  fault_of (by_sink asked text is asks leaves p) four = inr (fails_as words (Some text) a b leaves (give_fails text a b p))
  fault_of (by_space asked text is asks leaves p) four = let five = code ∙ ap filter_exit_status is in absurd (omega (arith, five, four))

  complete_of : Ways words missing a b outcome → CanFilter words a → (PipeRose a b → ⊥) → (answer ≤ 1) ⊎ (answer ≡ 5)
  complete_of (by_usage is named same) can still = absurd (asked_not_none words can.asked can.asks.named named)
  complete_of (by_memory none is some same) can still = inr (code ∙ ap filter_exit_status is)
  complete_of (by_bad text is bad same) can still = absurd (asks_no_bad words can.asked can.asks bad)
  complete_of (by_want asked is named same) can still = inr (code ∙ ap filter_exit_status is)
  complete_of (passed asked end is asks reads p) can still = inl (few asked end is p)
  complete_of (by_input asked is asks reads p) can still = absurd (still (inl p.rose))
  complete_of (by_file_read asked name is asks reads p) can still = absurd (still (inl p.rose))
  complete_of (by_length asked is asks reads p) can still = absurd (not_too_long a.input.told (can.short reads) p.told)
  complete_of (by_file_length asked name is asks reads p) can still = absurd (not_too_long a.input.told (can.short reads) p.told)
  complete_of (by_output asked is asks reads p) can still = absurd (still (inr p.rose))
  complete_of (by_file_output asked name is asks reads p) can still = absurd (still (inr p.rose))
  complete_of (by_room asked is asks reads p) can still = inr (code ∙ ap filter_exit_status is)
  complete_of (by_file_room asked name is asks reads p) can still = inr (code ∙ ap filter_exit_status is)
  complete_of (by_no_file asked name is asks reads p untold none) can still = absurd (not_untold a.input.told (can.short reads) untold)
  complete_of (gave asked text end is asks leaves p) can still = let zero_is = code ∙ ap filter_exit_status is ∙ ap (λ (e : StreamEnd). e.status) p.written.0 in inl (omega (arith, zero_is))
  complete_of (by_sink asked text is asks leaves p) can still = absurd (still (inr p.written.1))
  complete_of (by_space asked text is asks leaves p) can still = inr (code ∙ ap filter_exit_status is)

  -- at an end it is told whether what was read ends inside a packet
  inside_of : Ways words missing a b outcome → (bytes : List ℕ) → a.input.told ≡ Some bytes → (end : StreamEnd) → outcome ≡ Ok end → end.inside ≡ is_inside_for words bytes
  inside_of (passed asked other is asks reads p) bytes told end done = ap (λ (e : StreamEnd). e.inside) (same_end end other done is) ∙ passed_inside words asked a b other bytes asks p told
  inside_of (gave asked text other is asks leaves p) bytes told end done = ap (λ (e : StreamEnd). e.inside) (same_end end other done is) ∙ gave_inside words asked text a b other bytes asks leaves p
  inside_of (by_usage is named same) bytes told end done = absurd (no_end _ end is done)
  inside_of (by_memory none is some same) bytes told end done = absurd (no_end _ end is done)
  inside_of (by_bad text is bad same) bytes told end done = absurd (no_end _ end is done)
  inside_of (by_want asked is named same) bytes told end done = absurd (no_end _ end is done)
  inside_of (by_input asked is asks reads p) bytes told end done = absurd (no_end _ end is done)
  inside_of (by_file_read asked name is asks reads p) bytes told end done = absurd (no_end _ end is done)
  inside_of (by_length asked is asks reads p) bytes told end done = absurd (no_end _ end is done)
  inside_of (by_file_length asked name is asks reads p) bytes told end done = absurd (no_end _ end is done)
  inside_of (by_output asked is asks reads p) bytes told end done = absurd (no_end _ end is done)
  inside_of (by_file_output asked name is asks reads p) bytes told end done = absurd (no_end _ end is done)
  inside_of (by_room asked is asks reads p) bytes told end done = absurd (no_end _ end is done)
  inside_of (by_file_room asked name is asks reads p) bytes told end done = absurd (no_end _ end is done)
  inside_of (by_no_file asked name is asks reads p untold none) bytes told end done = absurd (no_end _ end is done)
  inside_of (by_sink asked text is asks leaves p) bytes told end done = absurd (no_end _ end is done)
  inside_of (by_space asked text is asks leaves p) bytes told end done = absurd (no_end _ end is done)

module _ (words : List (List ℕ)) (answer : ℕ) (outcome : Result StreamEnd Refusal) (code : answer ≡ filter_exit_status outcome) where
  feeds_of : (missing : Type 0) (a b : Pipe) → Ways words missing a b outcome → Feeds words outcome a b answer
  feeds_of missing a b ways = record {
    done = done_of words missing a b answer outcome code ways;
    prefix = if_told a.input.told (λ bytes. AreBytes bytes → (text : List ℕ) (status : ℕ) → IsFilteredBy words bytes text status → AppendsPrefix a.out.told b.out.told text) (prefix_of words missing a b answer outcome code ways);
    unread = unread_of words missing a b answer outcome code ways;
    faults = faults_of words missing a b answer outcome code ways;
    fault = fault_of words missing a b answer outcome code ways;
    completeness = complete_of words missing a b answer outcome code ways;
  }

  -- all that is promised beside the answer, of words that read this file, or the input
  record Rest (file : Option (List ℕ)) (before after : FilterOutside) : Type 0 where
    most : answer ≤ 5
    place : ℕ
    feeds : Feeds words outcome (feed_of file 0 before) (feed_of file place after) answer
    rests : Rests file before after
    ends : (bytes : List ℕ) → (feed_of file 0 before).input.told ≡ Some bytes → (end : StreamEnd) → outcome ≡ Ok end → end.inside ≡ is_inside_for words bytes
    missing : RefusesMissing file before after answer
    nothing : (asked_by_words words ≡ None) ⊎ HasBadPattern words → reach_of after ≡ reach_of before
    usage : answer ≡ 2 → asked_by_words words ≡ None
    refused : asked_by_words words ≡ None → (answer ≡ 2) ⊎ ((answer ≡ 5) × (tool_of words ≡ None → ⊥))
    named : answer ≡ 3 → HasBadPattern words ⊎ ((text_unread words ≡ None) × (IsTooLongInput (feed_of file 0 before) ⊎ IsMissing file before.site.told))

  same_reach : (before after : FilterOutside) → after.site ≡ before.site → (reach_of after).pipe ≡ (reach_of before).pipe → reach_of after ≡ reach_of before
  same_reach before after site pipe = λ i. record { site = site i; pipe = pipe i }

  rest_of_pipe : (before after : FilterOutside) → after.site ≡ before.site → Ways words ⊥ (reach_of before).pipe (reach_of after).pipe outcome → Rest None before after
  rest_of_pipe before after site ways =
      let a = (reach_of before).pipe in
      let b = (reach_of after).pipe in
      record {
        most = most_of words ⊥ a b answer outcome code ways;
        place = 0;
        feeds = feeds_of ⊥ a b ways;
        rests = site;
        ends = inside_of words ⊥ a b answer outcome code ways;
        missing = tt;
        nothing = λ none. same_reach before after site (nothing_of words ⊥ a b answer outcome code ways none);
        usage = usage_of words ⊥ a b answer outcome code ways;
        refused = refused_of words ⊥ a b answer outcome code ways;
        named = named_of words ⊥ a b answer outcome code ways;
      }

  -- a bad pattern touches nothing, and words that name a file ask for a filter
  nothing_named : (name : List ℕ) → input_file_in words ≡ Some name → (r s : Reach) → FileWays words name r s outcome → (asked_by_words words ≡ None) ⊎ HasBadPattern words → s ≡ r
  nothing_named name is r s w (inl none) = absurd (named_asks words name is none)
  nothing_named name is r s w (inr bad) = w.nothing bad

  rest_of_file : (before after : FilterOutside) (name : List ℕ) → input_file_in words ≡ Some name → FileWays words name (reach_of before) (reach_of after) outcome → Rest (Some name) before after
  rest_of_file before after name is w =
      let a = file_pipe name 0 (reach_of before) in
      let b = file_pipe name w.place (reach_of after) in
      let absent = IsAbsent name before.site.told in
      record {
        most = most_of words absent a b answer outcome code w.ways;
        place = w.place;
        feeds = feeds_of absent a b w.ways;
        rests = w.rest;
        ends = inside_of words absent a b answer outcome code w.ways;
        missing = subst (λ (n : ℕ). RefusesMissing (Some name) before after n) (sym code) w.missing;
        nothing = nothing_named name is (reach_of before) (reach_of after) w;
        usage = usage_of words absent a b answer outcome code w.ways;
        refused = refused_of words absent a b answer outcome code w.ways;
        named = named_of words absent a b answer outcome code w.ways;
      }

  rest_of : (before after : FilterOutside) → FilterCourse words (reach_of before) (reach_of after) outcome → Rest (input_file_in words) before after
  rest_of before after (by_pipe is site ways) = subst (λ (o : Option (List ℕ)). Rest o before after) (sym is) (rest_of_pipe before after site ways)
  rest_of before after (by_name name is ways) = subst (λ (o : Option (List ℕ)). Rest o before after) (sym is) (rest_of_file before after name is ways)

pub promises : (words : List (List ℕ)) (before after : FilterOutside) (answer : ℕ) → FilterAnswers words before after answer → FilterPromises words before after answer
promises words before after answer answers =
    let o = answers.outcome in
    let rest = rest_of words answer o answers.told.code before after (filters_course words (reach_of before) (reach_of after) o answers.done) in
    record {
      answers = answers;
      most = rest.most;
      place = rest.place;
      feeds = rest.feeds;
      rests = rest.rests;
      inside = λ le. if_told (feed_of (input_file_in words) 0 before).input.told (λ bytes. TellsInside (filter_name_in words) (is_inside_for words bytes) before.errors after.errors)
          (λ bytes told. told_inside (filter_name_in words) o before.errors after.errors answer (is_inside_for words bytes) answers.told.line answers.told.code le (rest.ends bytes told));
      missing = rest.missing;
      nothing = rest.nothing;
      usage = rest.usage;
      refused = rest.refused;
      named = rest.named;
    }
