-- What an upgrade leaves is sound, where no cache stands there.
use Rattle.std.proofs.Common.{◌≡◌, ℕ, ◌<◌, ◌≤◌, true, List, length, sym, ◌∙◌, arith}
use Rattle.edge_io.specs.Disk.{Files}
use Rattle.run_shelf.specs.Adoption.{SameButNew}
use Rattle.run_shelf.specs.Repository.{partial_name, most_runs}
use Rattle.run_shelf.specs.Sides.{cache_file_name}
use Rattle.run_shelf.specs.declared.cache_file.CacheFile.{CacheFile}
use Rattle.run_shelf.specs.declared.cache_file.CacheFile.TheVariants.{Failing, Times}
use Rattle.run_shelf.proofs.NameLemmas.{base_no_side, side_differs, side_no_format}
use Rattle.run_ledger.specs.Caches.{IsSound}
use Rattle.run_ledger.proofs.SoundLemmas.{sound_without}
use Rattle.old_folder.specs.Converting.{StaysOld, IsUpgraded}
use Rattle.old_upgrade.specs.Upgrading.{BecomesOne, LacksCaches}

no_run : (side : CacheFile) (count number : ℕ) → count ≤ most_runs → number < count → cache_file_name side ≡ partial_name number → ⊥
no_run side count number few less same = side_differs side number true (omega (arith, less, few)) (sym same)

side_stays : (count : ℕ) (files image : Files) (side : CacheFile) → count ≤ most_runs → SameButNew count files image → image (cache_file_name side) ≡ files (cache_file_name side)
side_stays count files image side few same = same.each (cache_file_name side) (λ e. base_no_side side (sym e)) (λ number less e. no_run side count number few less e)

pub stays_sound : (files image : Files) → StaysOld files image → LacksCaches files → IsSound image
stays_sound files image stays lacks =
    sound_without image (side_stays stays.count files image Failing stays.was.counted.few stays.but ∙ lacks.failing) (side_stays stays.count files image Times stays.was.counted.few stays.but ∙ lacks.times)

side_kept : (runs ids : List (List ℕ)) (files image : Files) (side : CacheFile) → IsUpgraded runs ids files image → image (cache_file_name side) ≡ files (cache_file_name side)
side_kept runs ids files image side is =
    is.others (cache_file_name side) (λ e. side_no_format side (sym e)) (λ e. base_no_side side (sym e)) (λ number less e. no_run side (length runs) number is.was.counted.few less e)

pub becomes_sound : (files image : Files) → BecomesOne files image → LacksCaches files → IsSound image
becomes_sound files image becomes lacks =
    let is = becomes.1 in
    sound_without image (side_kept is.runs is.ids files image Failing is.upgraded ∙ lacks.failing) (side_kept is.runs is.ids files image Times is.upgraded ∙ lacks.times)
