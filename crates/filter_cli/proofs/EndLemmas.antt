-- What is told where what was read ends inside a packet.
use Rattle.std.proofs.Common.{◌≡◌, ℕ, ◌≤◌, Bool, false, Option, None, Some, Result, Ok, Err, List, refl, sym, ap, subst, ◌∙◌, arith}
use Rattle.edge_io.specs.Seen.{Seen}
use Rattle.filter_cli.specs.Pipe.{Pipe}
use Rattle.filter_cli.specs.Program.{LeavesUnread, TellsInside, FilterTellsLine}
use Rattle.filter_cli.specs.Pumping.{PumpsToEnd}
use Rattle.filter_cli.specs.Refusals.{filter_refusal_exit_status, filter_exit_status}
use Rattle.filter_cli.specs.Streams.{writing_of, unread_text, text_unread, inside_by, inside_asked, is_inside_for, ends_by, AsksFor}
use Rattle.filter_cli.specs.declared.request.Asked.{Asked}
use Rattle.filter_cli.specs.declared.request.Asked.TheVariants.{Filter, Tags, Ls, Stats, FromTap, ToTap, ToCsv, ToJunit, Output, FromV1, ToV1, Tracing}
use Rattle.filter_cli.specs.declared.file_loop.FileFault.TheVariants as file_fault
use Rattle.filter_cli.specs.declared.filter.StreamEnd.{StreamEnd}
use Rattle.filter_cli.specs.declared.pump_loop.PumpFault.TheVariants as pump_fault
use Rattle.filter_cli.specs.declared.patterns.PatternsFault.TheVariants as patterns_fault
use Rattle.filter_cli.specs.declared.refusal.Refusal.{Refusal}
use Rattle.filter_cli.specs.declared.refusal.Refusal.TheVariants.{Usage, Memory, Patterns, Pump, File}
use Rattle.filter_cli.proofs.PipeLemmas.{told_all}
use Rattle.filter_cli.proofs.UnreadLemmas.{unread_own}

-- a filter that leaves its input unread ends inside no packet
unread_outside : (asked : Asked) (text bytes : List ℕ) → unread_text asked ≡ Some text → inside_by (writing_of asked) bytes ≡ false
unread_outside (Filter selection) text bytes is = absurd (cc)
unread_outside (Tags retagging) text bytes is = absurd (cc)
unread_outside (Ls listing) text bytes is = absurd (cc)
unread_outside (Stats counting) text bytes is = absurd (cc)
unread_outside FromTap text bytes is = absurd (cc)
unread_outside ToTap text bytes is = absurd (cc)
unread_outside (ToCsv selection) text bytes is = absurd (cc)
unread_outside ToJunit text bytes is = absurd (cc)
unread_outside (Output job) text bytes is = refl
unread_outside FromV1 text bytes is = absurd (cc)
unread_outside ToV1 text bytes is = absurd (cc)
unread_outside (Tracing trace) text bytes is = absurd (cc)

asked_inside : (words : List (List ℕ)) (asked : Asked) (bytes : List ℕ) → AsksFor words asked → inside_by (writing_of asked) bytes ≡ is_inside_for words bytes
asked_inside words asked bytes asks = ap (λ (o : Option Asked). inside_asked o bytes) (sym asks.named)

-- all was read, and it is told
pub passed_inside : (words : List (List ℕ)) (asked : Asked) (a b : Pipe) (end : StreamEnd) (bytes : List ℕ) → AsksFor words asked → PumpsToEnd (inside_by (writing_of asked)) (ends_by (writing_of asked)) a b end → a.input.told ≡ Some bytes → end.inside ≡ is_inside_for words bytes
passed_inside words asked a b end bytes asks p told =
    p.told ∙ ap (inside_by (writing_of asked)) (sym (told_all _ _ bytes p.all.bytes told p.all.moved.took p.all.at_end)) ∙ asked_inside words asked bytes asks

-- nothing was read
pub gave_inside : (words : List (List ℕ)) (asked : Asked) (text : List ℕ) (a b : Pipe) (end : StreamEnd) (bytes : List ℕ) → AsksFor words asked → text_unread words ≡ Some text → LeavesUnread text a b (Ok end) → end.inside ≡ is_inside_for words bytes
gave_inside words asked text a b end bytes asks leaves p =
    ap (λ (e : StreamEnd). e.inside) p.written.0
    ∙ sym (unread_outside asked text bytes (unread_own words asked text asks.named leaves))
    ∙ asked_inside words asked bytes asks

-- the status of a refusal is 2 at least
refusal_least : (refusal : Refusal) → 2 ≤ filter_refusal_exit_status refusal
refusal_least (Usage fault) = omega arith
refusal_least (Memory none) = omega arith
refusal_least (Patterns (patterns_fault.Bad text)) = omega arith
refusal_least (Patterns patterns_fault.NoMemory) = omega arith
refusal_least (Pump pump_fault.Input) = omega arith
refusal_least (Pump pump_fault.TooLong) = omega arith
refusal_least (Pump pump_fault.Output) = omega arith
refusal_least (Pump pump_fault.NoMemory) = omega arith
refusal_least (File name file_fault.Read) = omega arith
refusal_least (File name file_fault.NoFile) = omega arith
refusal_least (File name file_fault.TooLong) = omega arith
refusal_least (File name file_fault.Output) = omega arith
refusal_least (File name file_fault.NoMemory) = omega arith

-- the line of the end is told where it was done
pub told_inside : (name : List ℕ) (outcome : Result StreamEnd Refusal) (before after : Seen (List ℕ)) (answer : ℕ) (inside : Bool) → FilterTellsLine name outcome before after → answer ≡ filter_exit_status outcome → answer ≤ 1 → ((end : StreamEnd) → outcome ≡ Ok end → end.inside ≡ inside) → TellsInside name inside before after
told_inside name (Ok end) before after answer inside told code le is = subst (λ (b : Bool). TellsInside name b before after) (is end refl) told
told_inside name (Err refusal) before after answer inside told code le is = absurd (omega (arith, le, code, refusal_least refusal))
