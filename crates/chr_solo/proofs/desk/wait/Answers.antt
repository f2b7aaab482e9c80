use Rattle.std.proofs.Common.{ℕ, subst}
use Rattle.chr_solo.specs.Solo.{IsSolo}
use Rattle.chr_solo.specs.SoloSteps.{seat}
use Rattle.chr_solo.proofs.desk.wait.Goals as goal

pub returns-in-Quiet : goal.returns-in-Quiet
returns-in-Quiet g c =
    let quiet = c.in-Ok.ensures.end.0 c.in-Quiet.is in
    let solo = subst (λ (k : ℕ). IsSolo seat k c.args.book.now c.in-Ok.solo.calls c.solo_steps.new.book) c.from.ensures c.in-Ok.ensures.solo in
    (record { calls = c.in-Ok.solo.calls; solo = solo; headline = c.in-Ok.ensures.headline }, quiet, c.in-Ok.ensures.headline.final quiet)
