use Rattle.std.proofs.Common.{◌<◌, length, ap, ◌∙◌, arith}
use Rattle.std.proofs.lemmas.List.{length_push}
use Rattle.chr_guard.specs.Settled.{mark_of}
use Rattle.chr_guard.proofs.Steps.{marks_more, marks_all}
use Rattle.chr_guard.proofs.binding.Binding.settled.Goals as goal

pub loop-variable-preserved : goal.loop-variable-preserved
loop-variable-preserved g c =
    let here : c.loop-variable.variable < length c.args.self.now = omega (arith, c.loop-variable-test.true, c.variables-variable-end.ensures.count) in
    record {
      marks = marks_more c.args.self.now c.loop-variable.variable c.loop-variable.marks.items c.push.new.self.items c.of.result here (c.of.ensures ∙ ap mark_of c.at.ensures) c.in_ok-push.ensures.items c.loop-variable.invariant.marks;
      count = omega (arith, ap length c.in_ok-push.ensures.items ∙ length_push c.loop-variable.marks.items c.of.result, c.loop-variable.invariant.count);
    }

pub returns : goal.returns
returns g c = c.loop-variable.invariant.marks ∙ marks_all c.args.self.now c.loop-variable.variable (omega (arith, c.loop-variable-test.false, c.variables-variable-end.ensures.count))
