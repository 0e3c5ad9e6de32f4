-- Prefixes of what is written in several parts.
use Rattle.std.proofs.Common.{ℕ, ◌+◌, List, ◌++◌, length, Option, sym, subst, arith}
use Rattle.std.proofs.Math.Seq.{take-append-add, take-length}
use Rattle.std.proofs.lemmas.List.{take-append-le, length-append}
use Rattle.std.proofs.KnownBytes.{Appends-trans}
use Rattle.std.specs.Io.KnownBytes.{Appends}
use Rattle.edge_io.specs.Bytes.{AppendsPrefix}

-- a prefix of the first part is one of the whole
pub prefix_of_front : (a b : Option (List ℕ)) (xs ys : List ℕ) → AppendsPrefix a b xs → AppendsPrefix a b (xs ++ ys)
prefix_of_front a b xs ys (n, few, appends) =
    (n, omega (arith, few, length-append xs ys), subst (Appends a b) (sym (take-append-le n xs ys few)) appends)

-- so is the first part and a prefix of the second
pub prefix_behind : (a b c : Option (List ℕ)) (xs ys : List ℕ) → Appends a b xs → AppendsPrefix b c ys → AppendsPrefix a c (xs ++ ys)
prefix_behind a b c xs ys first (n, few, appends) =
    (length xs + n, omega (arith, few, length-append xs ys), subst (Appends a c) (sym (take-append-add xs ys n)) (Appends-trans a b c _ _ first appends))

-- and the whole
pub prefix_all : (a b : Option (List ℕ)) (xs : List ℕ) → Appends a b xs → AppendsPrefix a b xs
prefix_all a b xs appends = (length xs, omega arith, subst (Appends a b) (sym (take-length xs)) appends)
