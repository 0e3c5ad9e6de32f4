-- Parts that are printed through a buffer.
use Rattle.std.proofs.Common.{◌≡◌, ℕ, ◌+◌, List, [], ◌++◌, append_assoc, append-nil, length, length-append, take, drop, take-append-drop, ◌<◌, get_or, Option, Result, Ok, Err, refl, sym, ap, subst, ◌∙◌, arith}
use Rattle.std.proofs.lemmas.List.{take_at, take_more, flat_map_more}
use Rattle.std.proofs.lemmas.List.Concat.{flat_map-append}
use Rattle.std.specs.List.{flat_map}
use Rattle.std.specs.Io.KnownBytes.{Appends}
use Rattle.std.proofs.KnownBytes.{Appends-trans}
use Rattle.edge_io.specs.Bytes.{AppendsPrefix}
use Rattle.edge_io.specs.Causes.{HasCause}
use Rattle.edge_io.specs.Seen.{Seen}
use Rattle.command_steps.specs.declared.run_report.PrintFault.{PrintFault}
use Rattle.command_steps.specs.Reporting.{Prints}
use Rattle.command_steps.specs.Printing.{PrintsBehindHeld}

-- one behind another
pub passes_then : {p q held mid kept : List ℕ} {a b c : Seen (List ℕ)} {r : Result (Unit {0}) PrintFault} → PrintsBehindHeld p held a mid b (Ok tt) → PrintsBehindHeld q mid b kept c r → PrintsBehindHeld (p ++ q) held a kept c r
passes_then {p = p} {q = q} {held = held} {mid = mid} {a = a} {b = b} {c = c} {r = r} first second = record {
  taken = first.taken ++ second.taken;
  rest = second.rest;
  parts =
      append_assoc first.taken second.taken second.rest ∙ ap (λ (l : List ℕ). first.taken ++ l) second.parts ∙ sym (append_assoc first.taken mid q)
      ∙ ap (λ (l : List ℕ). (first.taken ++ l) ++ q) first.keeps ∙ ap (λ (l : List ℕ). l ++ q) first.parts ∙ append_assoc held p q;
  grows = Appends-trans a.told b.told c.told first.taken second.taken first.grows second.grows;
  keeps = second.keeps;
  count = subst (λ (n : ℕ). HasCause n c.faults r) (first.count.done) second.count;
}

-- where a write failed, nothing of what is behind is taken
pub passes_not : {p held mid kept : List ℕ} (q : List ℕ) {a b : Seen (List ℕ)} {fault : PrintFault} → PrintsBehindHeld p held a mid b (Err fault) → PrintsBehindHeld (p ++ q) held a kept b (Err fault)
passes_not {p = p} {held = held} q fails = record {
  taken = fails.taken;
  rest = fails.rest ++ q;
  parts = sym (append_assoc fails.taken fails.rest q) ∙ ap (λ (l : List ℕ). l ++ q) fails.parts ∙ append_assoc held p q;
  grows = fails.grows;
  keeps = tt;
  count = fails.count;
}

-- what is held was not written whole
pub passes_stopped : {part held kept text : List ℕ} {a b : Seen (List ℕ)} {fault : PrintFault} → text ≡ held → Prints text a b (Err fault) → PrintsBehindHeld part held a kept b (Err fault)
passes_stopped {part = part} {held = held} {text = text} is prints =
    let n = prints.prefix.0 in
    record {
      taken = take n text;
      rest = drop n text ++ part;
      parts = sym (append_assoc (take n text) (drop n text) part) ∙ ap (λ (l : List ℕ). l ++ part) (take-append-drop n text ∙ is);
      grows = prints.prefix.2;
      keeps = tt;
      count = prints.count;
    }

-- what is held is written, and none is held
passes_flushed : {held text : List ℕ} {a b : Seen (List ℕ)} → text ≡ held → Prints text a b (Ok tt) → PrintsBehindHeld [] held a [] b (Ok tt)
passes_flushed {held = held} {text = text} is prints = record {
  taken = text;
  rest = [];
  parts = ap (λ (l : List ℕ). l ++ []) is;
  grows = prints.whole;
  keeps = refl;
  count = prints.count;
}

-- a part is written by itself
passes_alone : (part : List ℕ) (a b : Seen (List ℕ)) (r : Result (Unit {0}) PrintFault) → Prints part a b r → PrintsBehindHeld part [] a [] b r
passes_alone part a b (Ok _) prints = record {
  taken = part;
  rest = [];
  parts = append-nil part;
  grows = prints.whole;
  keeps = refl;
  count = prints.count;
}
passes_alone part a b (Err fault) prints =
    let n = prints.prefix.0 in
    record {
      taken = take n part;
      rest = drop n part;
      parts = take-append-drop n part;
      grows = prints.prefix.2;
      keeps = tt;
      count = prints.count;
    }

-- what does not fit behind what is held
pub passes_past : {part held kept text : List ℕ} {a b c : Seen (List ℕ)} {r : Result (Unit {0}) PrintFault} → text ≡ held → Prints text a b (Ok tt) → kept ≡ [] → Prints part b c r → PrintsBehindHeld part held a kept c r
passes_past {part = part} {held = held} {a = a} {b = b} {c = c} {r = r} is first none second =
    subst (λ (l : List ℕ). PrintsBehindHeld part held a l c r) (sym none) (passes_then (passes_flushed is first) (passes_alone part b c r second))

-- one of a list more
pub passes_more : {X : Type 0} {held mid kept : List ℕ} {a b c : Seen (List ℕ)} (bytes : X → List ℕ) (xs : List X) (i : ℕ) (x : X) → i < length xs → PrintsBehindHeld (flat_map bytes (take i xs)) held a mid b (Ok tt) → PrintsBehindHeld (bytes (get_or xs i x)) mid b kept c (Ok tt) → PrintsBehindHeld (flat_map bytes (take (i + 1) xs)) held a kept c (Ok tt)
passes_more {held = held} {kept = kept} {a = a} {c = c} bytes xs i x below first second =
    subst (λ (l : List ℕ). PrintsBehindHeld l held a kept c (Ok tt)) (flat_map_more bytes [] (take i xs) (get_or xs i x) ∙ ap (flat_map bytes) (sym (take_more xs i x below))) (passes_then first second)

-- the others are not reached
pub passes_failed : {X : Type 0} {held mid kept left : List ℕ} {a b c : Seen (List ℕ)} {fault : PrintFault} (bytes : X → List ℕ) (xs : List X) (i : ℕ) (x : X) → i < length xs → PrintsBehindHeld (flat_map bytes (take i xs)) held a mid b (Ok tt) → PrintsBehindHeld (bytes (get_or xs i x)) mid b kept c (Err fault) → PrintsBehindHeld (flat_map bytes xs) held a left c (Err fault)
passes_failed {held = held} {kept = kept} {left = left} {a = a} {c = c} {fault = fault} bytes xs i x below first second =
    let front = flat_map bytes (take (i + 1) xs) in
    let more : flat_map bytes (take i xs) ++ bytes (get_or xs i x) ≡ front = flat_map_more bytes [] (take i xs) (get_or xs i x) ∙ ap (flat_map bytes) (sym (take_more xs i x below)) in
    let whole : front ++ flat_map bytes (drop (i + 1) xs) ≡ flat_map bytes xs = sym (flat_map-append bytes (take (i + 1) xs) (drop (i + 1) xs)) ∙ ap (flat_map bytes) (take-append-drop (i + 1) xs) in
    subst (λ (l : List ℕ). PrintsBehindHeld l held a left c (Err fault)) whole
    (passes_not (flat_map bytes (drop (i + 1) xs)) (subst (λ (l : List ℕ). PrintsBehindHeld l held a kept c (Err fault)) more (passes_then first second)))

-- ---- the end

pub passes_as : {given part held kept : List ℕ} {a b : Seen (List ℕ)} {r : Result (Unit {0}) PrintFault} → given ≡ part → PrintsBehindHeld given held a kept b r → PrintsBehindHeld part held a kept b r
passes_as {held = held} {kept = kept} {a = a} {b = b} {r = r} is passes = subst (λ (l : List ℕ). PrintsBehindHeld l held a kept b r) is passes

prefix_of : (part taken rest : List ℕ) (a b : Option (List ℕ)) → taken ++ rest ≡ part → Appends a b taken → AppendsPrefix a b part
prefix_of part taken rest a b is grows =
    let front : take (length taken) part ≡ taken = ap (take (length taken)) (sym is) ∙ take_at taken rest (length taken) refl in
    (length taken, omega (arith, ap length is, length-append taken rest), subst (Appends a b) (sym front) grows)

pub prints_stopped : {part kept : List ℕ} {a b : Seen (List ℕ)} {fault : PrintFault} → PrintsBehindHeld part [] a kept b (Err fault) → Prints part a b (Err fault)
prints_stopped {part = part} {a = a} {b = b} fails = record {
  whole = tt;
  prefix = prefix_of part fails.taken fails.rest a.told b.told fails.parts fails.grows;
  count = fails.count;
}

prints_ended : {part : List ℕ} {a b : Seen (List ℕ)} → PrintsBehindHeld part [] a [] b (Ok tt) → Prints part a b (Ok tt)
prints_ended {part = part} {a = a} {b = b} passes = record {
  whole = subst (Appends a.told b.told) (sym (append-nil passes.taken) ∙ ap (λ (l : List ℕ). passes.taken ++ l) passes.keeps ∙ passes.parts) passes.grows;
  prefix = prefix_of part passes.taken passes.rest a.told b.told passes.parts passes.grows;
  count = passes.count;
}

-- what is held is written at last
pub prints_all : {part kept text : List ℕ} {a b c : Seen (List ℕ)} (r : Result (Unit {0}) PrintFault) → PrintsBehindHeld part [] a kept b (Ok tt) → text ≡ kept → Prints text b c r → Prints part a c r
prints_all {part = part} (Ok _) passes is prints = prints_ended (passes_as (append-nil part) (passes_then passes (passes_flushed is prints)))
prints_all {part = part} {kept = kept} (Err fault) passes is prints = prints_stopped (passes_as (append-nil part) (passes_then passes (passes_stopped {kept = kept} is prints)))
