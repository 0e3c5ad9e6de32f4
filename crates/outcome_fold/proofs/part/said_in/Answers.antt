use Rattle.outcome_fold.proofs.part.said_in.Goals as goal

pub returns : goal.returns
returns c = λ e s. record {
  instant = c.instant_in.ensures e s;
  tags = c.in_ok-tags.ensures e s;
  name = c.file_name_heard.ensures e s;
  text = c.text_heard.ensures e s;
  reason = c.reason_heard.ensures e s;
}
