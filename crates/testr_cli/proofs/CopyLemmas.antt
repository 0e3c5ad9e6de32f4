-- Where files can be copied they are not refused but for a fault or want of memory.
use Rattle.std.proofs.Common.{◌≡◌, ◌⊎◌, inl, inr, ℕ, Option, None, Some, IfSome, IsSomeAnd, Result, Ok, Err, List, refl, sym, subst, ◌∙◌, arith}
use Rattle.edge_io.specs.Causes.{Rose}
use Rattle.edge_io.specs.Disk.{Files, Folder}
use Rattle.edge_io.specs.Seen.{Seen}
use Rattle.edge_io.specs.Steps.{Goes}
use Rattle.run_shelf.specs.Adoption.{old_format_bytes}
use Rattle.run_shelf.specs.Repository.{format_name, HasFormat, HasOtherFormat}
use Rattle.old_copies.specs.Copying.{places, folder_in, IsCopiedFirst, CopyFails, CopiesOld}
use Rattle.old_copies.specs.declared.faults.OldCopyFault.{OldCopyFault}
use Rattle.old_copies.specs.declared.faults.OldCopyFault.TheVariants.{Here, OldHere, StrangeHere, NoStore, NotOld, UnknownFormat, BadCount, OtherFiles, Site, Shelf, NoMemory}
use Rattle.testr_commands.proofs.UpgradeLaws.{not_both}
use Rattle.testr_cli.specs.From.{copy_exit_status, MayCopy, CanCopy}

not_there : (files : Files) (bytes : List ℕ) → files format_name ≡ None → files format_name ≡ Some bytes → ⊥
not_there files bytes none there =
    let both : None ≡ Some bytes = sym none ∙ there in
    cc

no_format : (files : Files) → files format_name ≡ None → HasFormat files → ⊥
no_format files none (inl first) = not_there files _ none first
no_format files none (inr second) = not_there files _ none second

no_other : (files : Files) → files format_name ≡ None → HasOtherFormat files → ⊥
no_other files none (bytes, there, first, second) = not_there files bytes none there

same_number : (one other : ℕ) (told : Option ℕ) → told ≡ Some one → told ≡ Some other → one ≡ other
same_number one other told is also =
    let both : Some one ≡ Some other = sym is ∙ also in
    cc

-- none of the causes is there
no_cause : (old : Files) (s t : Folder) (fault : OldCopyFault) → MayCopy old s.disk.published → CopyFails old fault s t → copy_exit_status fault ≡ 3 → ⊥
no_cause old s t Here may cause three = no_format s.disk.published may.free cause.0
no_cause old s t OldHere may cause three = not_there s.disk.published old_format_bytes may.free cause.0
no_cause old s t StrangeHere may cause three = no_other s.disk.published may.free cause.0.other
no_cause old s t NoStore may cause three = not_there old old_format_bytes cause.1 may.is_old.is
no_cause old s t NotOld may cause three = not_both old may.is_old.is cause.1
no_cause old s t UnknownFormat may cause three = cause.1.not_old may.is_old.is
no_cause old s t BadCount may cause three =
    let both : None ≡ Some may.count = sym cause.1.none ∙ may.is_old.next in
    cc
no_cause old s t OtherFiles may cause three =
    let found = cause.1 in
    let alone = may.alone found.name found.there in
    found.other (subst (λ (n : ℕ). IsCopiedFirst n found.name) (same_number may.count found.count _ may.is_old.next found.is_old.next) alone.0) alone.1
no_cause old s t Site may cause three = omega (arith, three)
no_cause old s t (Shelf call) may cause three = omega (arith, three)
no_cause old s t NoMemory may cause three = omega (arith, three)

never : (from : List ℕ) (site : Option Files) (a b : Option Folder) (fault : OldCopyFault) → CanCopy from site a → IfSome site (λ files. Goes a b (CopyFails (folder_in from files) fault)) → copy_exit_status fault ≡ 3 → ⊥
never from None a b fault can fails three = can
never from (Some files) None b fault can fails three = can
never from (Some files) (Some s) None fault can fails three = fails
never from (Some files) (Some s) (Some t) fault can fails three = no_cause (folder_in from files) s t fault can fails three

pub copy_complete : (from : List ℕ) (folder folder' : Seen Folder) (site site' : Seen Files) (fault : OldCopyFault) (answer : ℕ) → CopiesOld from (places folder site) (places folder' site') (Err fault) → answer ≡ copy_exit_status fault
    → CanCopy from site.told folder.told → (Rose folder.faults folder'.faults → ⊥) → (Rose site.faults site'.faults → ⊥) → answer ≡ 5
copy_complete from folder folder' site site' fault answer copies code can folder_stands site_stands = by fault copies code
  where
    refused : (fault : OldCopyFault) → CopiesOld from (places folder site) (places folder' site') (Err fault) → copy_exit_status fault ≡ 3 → answer ≡ 5
    refused fault copies three = absurd (never from site.told folder.told folder'.told fault can copies.refused three)

    by : (fault : OldCopyFault) → CopiesOld from (places folder site) (places folder' site') (Err fault) → answer ≡ copy_exit_status fault → answer ≡ 5
    by Here copies code = refused Here copies refl
    by OldHere copies code = refused OldHere copies refl
    by StrangeHere copies code = refused StrangeHere copies refl
    by NoStore copies code = refused NoStore copies refl
    by NotOld copies code = refused NotOld copies refl
    by UnknownFormat copies code = refused UnknownFormat copies refl
    by BadCount copies code = refused BadCount copies refl
    by OtherFiles copies code = refused OtherFiles copies refl
    by Site copies code = absurd (site_stands (copies.site.rose refl))
    by (Shelf call) copies code = absurd (folder_stands (copies.folder.rose refl))
    by NoMemory copies code = code
