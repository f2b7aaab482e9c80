use Rattle.std.proofs.Common.{◌<◌, length, get_or, pos, Some, arith, sym, ◌∙◌}
use Rattle.chr_value.specs.Atoms.{Int, said}
use Rattle.chr_rule.specs.Parts.{argument}
use Rattle.chr_guard.specs.Values.{term_under}
use Rattle.chr_guard.proofs.Steps.{read_end, read_there}
use Rattle.chr_guard.proofs.Matched.{not_variable, take_each, taking_known, taking_more, term_put, term_within, value_there}
use Rattle.chr_guard.proofs.matching.bind_own.Goals as goal
use Rattle.chr_guard.proofs.matching.bind_own.Goals.{in-Var, in_default}

pub put-requires : goal.put-requires
put-requires g c =
    let values = c.args.atom.now.args in
    let value = said c.own_arg_at.result in
    let count = take_each c.args.binding.now c.args.terms.now values c.requires.values in
    let known = taking_known c.args.terms.now values c.loop-i.i c.index-terms-i.result value c.args.binding.now c.loop-i.binding c.loop-i-test.true (omega (arith, count)) c.index-terms-i.is (value_there values c.loop-i.i value c.own_arg_at.ensures.value) c.requires.known c.loop-i.invariant in
    (omega arith, (term_within c.loop-i.binding c.index-terms-i.result c.in-Var.x c.in-Var.is known, c.own_arg_at.ensures.within))

pub loop-i-preserved : goal.loop-i-preserved
loop-i-preserved g c =
    let values = c.args.atom.now.args in
    let old = c.args.binding.now in
    let mid = c.loop-i.binding in
    let term = c.index-terms-i.result in
    let count = take_each old c.args.terms.now values c.requires.values in
    let right : c.loop-i.i < length values = omega (arith, count) in
    elim c.match-terms-i.branch [
      | in-Var w ↦
          let value = said w.own_arg_at.result in
          taking_more c.args.terms.now values c.loop-i.i term value old mid c.loop-i-test.true right c.index-terms-i.is (value_there values c.loop-i.i value w.own_arg_at.ensures.value) c.requires.known c.loop-i.invariant c.match-terms-i.binding
          (w.binding-is ∙ term_put mid term value w.in-Var.x w.put.new.self w.in-Var.is w.put.ensures)
      | in_default w ↦
          let value = get_or values c.loop-i.i (Int (pos 0)) in
          taking_more c.args.terms.now values c.loop-i.i term value old mid c.loop-i-test.true right c.index-terms-i.is (read_there values c.loop-i.i (Int (pos 0)) right) c.requires.known c.loop-i.invariant c.match-terms-i.binding
          (w.binding-is ∙ sym (not_variable mid term value w.in_default.not-Var))
    ]

pub returns : goal.returns
returns g c =
    let count = take_each c.args.binding.now c.args.terms.now c.args.atom.now.args c.requires.values in
    read_end term_under argument (λ t. Some t) c.args.terms.now c.args.atom.now.args c.loop-i.i c.args.binding.now c.loop-i.binding c.loop-i-test.false (omega (arith, count)) c.loop-i.invariant.narrows
