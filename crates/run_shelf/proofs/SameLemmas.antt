-- Files that differ in the files of the caches alone.
use Rattle.std.proofs.Common.{◌≡◌, ℕ, ◌<◌, IsSome, List, Bool, refl, sym, ap, ◌∙◌, subst, arith, true, false}
use Rattle.std.specs.Option.{option_map}
use Rattle.edge_io.specs.Disk.{Files, put}
use Rattle.run_shelf.specs.Bases.{base_name}
use Rattle.run_shelf.specs.Repository.{Run, base_of, run_at, run_name, most_runs, Shows, HasKinds, IsRepository, format_name}
use Rattle.run_shelf.specs.Sides.{cache_file_name, SameButCaches}
use Rattle.run_shelf.specs.declared.cache_file.CacheFile.{CacheFile}
use Rattle.run_shelf.specs.declared.cache_file.CacheFile.TheVariants.{Failing, Times}
use Rattle.run_shelf.proofs.BaseLemmas.{format_still, base_still, good_still, run_still}
use Rattle.run_shelf.proofs.NameLemmas.{side_differs, side_no_format, base_no_side}
use Rattle.run_shelf.proofs.RunLemmas.{put_other}

module _ (files image : Files) (same : SameButCaches files image) where
  file_stays : (k : ℕ) (partial : Bool) → k < most_runs → image (run_name k partial) ≡ files (run_name k partial)
  file_stays k partial few = same.each (run_name k partial) (side_differs Failing k partial (omega (arith, few))) (side_differs Times k partial (omega (arith, few)))

  format_stays : image format_name ≡ files format_name
  format_stays = same.each format_name (side_no_format Failing) (side_no_format Times)

  base_stays : image base_name ≡ files base_name
  base_stays = same.each base_name (base_no_side Failing) (base_no_side Times)

  pub base_same : base_of image ≡ base_of files
  base_same = base_still files image format_stays base_stays

  pub run_stays : (k : ℕ) → k < most_runs → run_at image k ≡ run_at files k
  run_stays k few = run_still files image format_stays base_stays k (file_stays k false few) (file_stays k true few)

  pub shows_still : (runs : List Run) → Shows files runs → Shows image runs
  shows_still runs shows = record { few = shows.few; each = λ k few. run_stays k few ∙ shows.each k few }

  pub kinds_still : (kinds : List Bool) → HasKinds files kinds → HasKinds image kinds
  kinds_still kinds has = record { few = has.few; each = λ k few. ap (option_map (λ (r : Run). r.partial)) (run_stays k few) ∙ has.each k few }

  pub repository_still : IsRepository files → IsRepository image
  repository_still repository = record {
    format = format_still files image format_stays repository.format;
    base = good_still files image format_stays base_stays (λ k few some. subst IsSome (sym (file_stays k true few)) some) repository.base;
    no_gap = λ k other less few some. subst IsSome (sym (run_stays k (omega (arith, less, few)))) (repository.no_gap k other less few (subst IsSome (run_stays other few) some));
  }

pub same_put : (files : Files) (side : CacheFile) (bytes : List ℕ) → SameButCaches files (put files (cache_file_name side) bytes)
same_put files Failing bytes = record { each = λ name failing times. put_other files (cache_file_name Failing) bytes name failing }
same_put files Times bytes = record { each = λ name failing times. put_other files (cache_file_name Times) bytes name times }

pub same_itself : (files : Files) → SameButCaches files files
same_itself files = record { each = λ name failing times. refl }

pub same_then : (files middle image : Files) → SameButCaches files middle → SameButCaches middle image → SameButCaches files image
same_then files middle image first second = record { each = λ name failing times. second.each name failing times ∙ first.each name failing times }
