use Rattle.stream_reader.proofs.TurnLemmas.{begin_then, begin_fed, begin_decided, begin_ended, end_then, end_whole, given_first, given_decided}
use Rattle.stream_reader.proofs.laws.notes_in_turn.Goals as goal

pub returns-clause-more : goal.returns-clause-more
returns-clause-more c = begin_then

pub returns-clause-fed : goal.returns-clause-fed
returns-clause-fed c = begin_fed

pub returns-clause-decided : goal.returns-clause-decided
returns-clause-decided c = begin_decided

pub returns-clause-ended : goal.returns-clause-ended
returns-clause-ended c = begin_ended

pub returns-clause-more_ended : goal.returns-clause-more_ended
returns-clause-more_ended c = end_then

pub returns-clause-whole : goal.returns-clause-whole
returns-clause-whole c = end_whole

pub returns-clause-given_first : goal.returns-clause-given_first
returns-clause-given_first c = given_first

pub returns-clause-given_decided : goal.returns-clause-given_decided
returns-clause-given_decided c = given_decided
