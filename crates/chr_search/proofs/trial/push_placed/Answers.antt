use Rattle.std.proofs.Common.{◌≡◌, length, arith}
use Rattle.std.proofs.lemmas.Result.{on_ok_weaker}
use Rattle.chr_search.proofs.Making.{push_set}
use Rattle.chr_search.proofs.trial.push_placed.Goals as goal

pub returns : goal.returns
returns g c =
    let at : c.len-last.result ≡ length c.args.placed.now.items = omega (arith, c.len-last.ensures, c.args.placed.now.ok.0) in
    on_ok_weaker c.become_copy.result
    (λ same. push_set c.args.placed.now.items c.push.new.self.items _ c.index_mut.result.now c.len-last.result c.become_copy.new.self c.args.atom.now c.in_ok-push.ensures.items at c.index_mut.ensures.value same)
    c.become_copy.ensures.ok
