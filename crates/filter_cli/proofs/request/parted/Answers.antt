use Rattle.filter_cli.proofs.SeparatorLemmas.{front_some, behind_some, front_none, behind_none}
use Rattle.filter_cli.proofs.request.parted.Goals as goal

pub returns-in-Some-clause-front : goal.returns-in-Some-clause-front
returns-in-Some-clause-front c = front_some c.args.words.now _ c.in-Some.place c.place_of_separator.ensures c.in-Some.is

pub returns-in-Some-clause-behind : goal.returns-in-Some-clause-behind
returns-in-Some-clause-behind c = behind_some c.args.words.now _ c.in-Some.place c.place_of_separator.ensures c.in-Some.is

pub returns-in-None-clause-front : goal.returns-in-None-clause-front
returns-in-None-clause-front c = front_none c.args.words.now _ c.place_of_separator.ensures c.in-None.is

pub returns-in-None-clause-behind : goal.returns-in-None-clause-behind
returns-in-None-clause-behind c = behind_none c.args.words.now _ c.place_of_separator.ensures c.in-None.is
