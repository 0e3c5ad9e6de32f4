use Rattle.partition_times.proofs.NameLemmas.{regex_searches}
use Rattle.partition_times.proofs.groups.Groups.matcher.Goals as goal

pub returns-in_ok-matcher-in-Some : goal.returns-in_ok-matcher-in-Some
returns-in_ok-matcher-in-Some c = regex_searches c.args.self.now c.self.inside.regex c.in-Some.regex _ c.in-Some.is c.self.view_is c.self.invariant c.in_ok-matcher-in-Some.ensures.pattern
