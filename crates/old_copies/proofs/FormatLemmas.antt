-- What one file `format` tells excludes what another one would.
use Rattle.std.proofs.Common.{◌≡◌, inl, inr, None, Some, List, ℕ, length, refl, sym, ap, ◌∙◌, arith}
use Rattle.edge_io.specs.Disk.{Files}
use Rattle.run_shelf.specs.Adoption.{IsOld, old_format_bytes}
use Rattle.run_shelf.specs.Repository.{format_name, format_bytes, based_format_bytes, HasFormat, HasOtherFormat}

-- no file is there, and one is
not_there : (files : Files) (bytes : List ℕ) → files format_name ≡ None → files format_name ≡ Some bytes → ⊥
not_there files bytes none there =
    let both : None ≡ Some bytes = sym none ∙ there in
    cc

pub no_format : (files : Files) → files format_name ≡ None → HasFormat files → ⊥
no_format files none (inl first) = not_there files format_bytes none first
no_format files none (inr second) = not_there files based_format_bytes none second

pub no_old : (files : Files) → files format_name ≡ None → IsOld files → ⊥
no_old files none old = not_there files old_format_bytes none old

pub no_other : (files : Files) → files format_name ≡ None → HasOtherFormat files → ⊥
no_other files none (bytes, there, first, second) = not_there files bytes none there

pub two_formats : (files : Files) → HasOtherFormat files → HasFormat files → ⊥
two_formats files (bytes, there, first, second) (inl format) =
    let same : Some bytes ≡ Some format_bytes = sym there ∙ format in
    first cc
two_formats files (bytes, there, first, second) (inr format) =
    let same : Some bytes ≡ Some based_format_bytes = sym there ∙ format in
    second cc

some_bytes : (one other : List ℕ) → Some one ≡ Some other → one ≡ other
some_bytes one other is = cc

old_size : length old_format_bytes ≡ 2
old_size = refl

first_size : length format_bytes ≡ 16
first_size = refl

second_size : length based_format_bytes ≡ 16
second_size = refl

pub not_both : (files : Files) → IsOld files → HasFormat files → ⊥
not_both files old (inl first) = omega (arith, ap length (some_bytes old_format_bytes format_bytes (sym old ∙ first)), old_size, first_size)
not_both files old (inr second) = omega (arith, ap length (some_bytes old_format_bytes based_format_bytes (sym old ∙ second)), old_size, second_size)
