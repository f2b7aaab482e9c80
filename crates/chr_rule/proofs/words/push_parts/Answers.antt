use Rattle.std.proofs.Common.{◌++◌, map, sym, ap, ◌∙◌, flat_map, append-nil, take_all}
use Rattle.chr_rule.specs.Words.{words}
use Rattle.chr_rule.proofs.Written.{pushed_more}
use Rattle.chr_rule.proofs.words.push_parts.Goals as goal

pub loop-part-init : goal.loop-part-init
loop-part-init g c = sym (append-nil (words c.args.words.now.items))

pub loop-part-preserved : goal.loop-part-preserved
loop-part-preserved g c =
    pushed_more g.P.Written.spelled g.P.Written.said c.args.parts.now c.loop-part.part-index _ (words c.args.words.now.items) (words c.loop-part.words.items) (words c.push_to.new.words.items) c.loop-part-test.true c.part-item.is c.loop-part.invariant c.in_ok-push_to.ensures

pub returns : goal.returns
returns g c = c.loop-part.invariant ∙ ap (λ xs. words c.args.words.now.items ++ flat_map g.P.Written.spelled (map g.P.Written.said xs)) (take_all c.loop-part.part-index c.args.parts.now c.loop-part-test.false)
