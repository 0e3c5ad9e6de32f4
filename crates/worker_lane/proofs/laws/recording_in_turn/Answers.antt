use Rattle.packet_codec.specs.Canonical.{canonical}
use Rattle.worker_lane.proofs.RecordingLemmas.{recording_as_before, recording_given, packets_then, recording_decided, recording_whole}
use Rattle.worker_lane.proofs.laws.recording_in_turn.Goals as goal

pub returns-clause-as_before : goal.returns-clause-as_before
returns-clause-as_before c = λ fed written before after r same. recording_as_before fed written before after same r

pub returns-clause-packet : goal.returns-clause-packet
returns-clause-packet c = λ fed written old new before after r g. (canonical g.event, g.new_is, recording_given fed written before after g.event g.given r)

pub returns-clause-packets : goal.returns-clause-packets
returns-clause-packets c = λ old middle new before between after g h. packets_then before between after old middle new g h

pub returns-clause-decided : goal.returns-clause-decided
returns-clause-decided c = λ fed written scribe r going_on none. recording_decided fed written scribe going_on none r

pub returns-clause-whole : goal.returns-clause-whole
returns-clause-whole c = λ fed written scribe r ended none. recording_whole fed written scribe ended none r
