use Rattle.instants.specs.Dates.{day_told}
use Rattle.instants.proofs.SecondLemmas.{shown, shown_positive}
use Rattle.instants.proofs.instant.seconds_with.Goals as goal

pub seconds_at-requires : goal.seconds_at-requires
seconds_at-requires c = shown_positive (day_told c.args.told) c.args.told.hour c.args.told.minute c.args.told.second c.in_ok-date_time.field-0 c.if-told-lt1970.false c.in_ok-date_time.ensures.some.0 c.in_ok-date_time.ensures.some.1

pub returns : goal.returns
returns c = shown (day_told c.args.told) c.args.told.hour c.args.told.minute c.args.told.second c.in_ok-date_time.field-0 c.seconds_at.result c.if-told-lt1970.false c.in_ok-date_time.ensures.some.0 c.in_ok-date_time.ensures.some.1 c.seconds_at.ensures.some c.seconds_at.ensures.none
