use Rattle.chr_run_text.proofs.running.run_posted.Goals as goal

pub returns : goal.returns
returns g c = record {
  calls = c.in_ok-solo.solo.calls;
  solo = c.in_ok-solo.ensures.solo;
  headline = c.in_ok-solo.ensures.headline;
  quiet = c.in_ok-solo.ensures.end;
}
