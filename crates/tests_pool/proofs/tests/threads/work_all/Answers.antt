use Rattle.std.proofs.Common.{sym, ap, ◌∙◌, arith}
use Rattle.chr_pool.specs.Hands.{hand_id}
use Rattle.tests_pool.proofs.Maps.{map_by_each}
use Rattle.tests_pool.proofs.tests.threads.work_all.Goals as goal

pub returns : goal.returns
returns g c =
    let done = c.in_ok-back.ensures in
    map_by_each hand_id c.args.hands.items c.in_ok-back.back.items (let n = done.len in omega (arith, n, c.args.hands.ok.0, c.in_ok-back.back.ok.0))
    (λ i d within. let job = (done.each i d within).1 in job.call.met ∙ ap hand_id (sym (job.job_is d)))
