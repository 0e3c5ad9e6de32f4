use Rattle.command_steps.proofs.TellLemmas.{fits_done, ledger_fails}
use Rattle.command_steps.proofs.cache_refresh.refresh_store.Goals as goal

pub returns-in-Ok-clause-step : goal.returns-in-Ok-clause-step
returns-in-Ok-clause-step g c = λ filter_tags rows sums. record {
  refreshed = c.in-Ok.ensures.refreshed filter_tags rows sums;
  others = c.refresh_behind.ensures.others;
  any_moment = c.refresh_behind.ensures.any_moment;
  sound = c.refresh_behind.ensures.sound filter_tags rows sums;
  count = c.in-Ok.ensures.cause;
}

pub returns-in-Err-clause-step : goal.returns-in-Err-clause-step
returns-in-Err-clause-step g c = λ filter_tags rows sums. record {
  refreshed = tt;
  others = c.refresh_behind.ensures.others;
  any_moment = c.refresh_behind.ensures.any_moment;
  sound = c.refresh_behind.ensures.sound filter_tags rows sums;
  count = ledger_fails _ _ _ _ c.refresh_behind.result c.in-Err.fault c.ledger_refusal.result c.in-Err.is c.ledger_refusal.ensures c.requires.unbroken c.refresh_behind.ensures.closes c.refresh_behind.ensures.cause;
}

pub returns-in-Ok-clause-fits : goal.returns-in-Ok-clause-fits
returns-in-Ok-clause-fits g c = fits_done _ _ _ _ c.refresh_behind.result _ _ c.in-Ok.is c.requires.unbroken c.refresh_behind.ensures.closes c.refresh_behind.ensures.kinds c.refresh_behind.ensures.fits
