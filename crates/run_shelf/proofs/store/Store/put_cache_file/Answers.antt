use Rattle.run_shelf.specs.Stores.{store_kinds}
use Rattle.run_shelf.proofs.SideLemmas.{goes_fits_side}
use Rattle.run_shelf.proofs.store.Store.put_cache_file.Goals as goal

pub returns-in-Ok-clause-fits : goal.returns-in-Ok-clause-fits
returns-in-Ok-clause-fits g c unbroken =
    goes_fits_side (store_kinds c.args.self.now) c.args.side c.args.bytes.now _ _ (c.requires.fits unbroken) c.in-Ok.ensures.kept
