use Rattle.std.proofs.Common.{◌++◌, true, false, refl, sym, ap, ◌∙◌, map, append_assoc}
use Rattle.std.proofs.lemmas.List.{append-nil, map_push}
use Rattle.chr_rule.specs.Parts.{argument}
use Rattle.chr_text.specs.Terms.{inside}
use Rattle.chr_text.specs.Trees.{from_top}
use Rattle.chr_text.proofs.Numbered.{is_told, top_taken, none_taken}
use Rattle.chr_text.proofs.trees.take_inside.Goals as goal

pub loop-stack-init : goal.loop-stack-init
loop-stack-init g c = record { taken = ap (λ l. map argument l ++ inside c.args.depth (from_top c.args.stack.now.items)) c.new-terms.ensures.items; left = refl }

pub loop-stack-preserved : goal.loop-stack-preserved
loop-stack-preserved g c =
    let at = c.loop-stack in
    let deeper = is_told c.args.depth at.stack.items c.deref.result.now c.is_deeper.result true c.deref.ensures.value c.is_deeper.ensures c.loop-stack-test.true in
    let top = top_taken c.args.depth at.stack.items c.pop.new.self.items c.in-Some.top c.in-Some.ensures.items deeper in record {
      taken = rw (c.in_ok-push.ensures.items, map_push, append_assoc, ← top.0) at.invariant.taken;
      left = sym top.1 ∙ at.invariant.left;
    }

pub returns : goal.returns
returns g c =
    let ends = is_told c.args.depth c.loop-stack.stack.items c.deref.result.now c.is_deeper.result false c.deref.ensures.value c.is_deeper.ensures c.loop-stack-test.false in
    let none = none_taken c.args.depth (from_top c.loop-stack.stack.items) ends in
    record { taken = rw (none.0, append-nil) at c.loop-stack.invariant.taken; left = sym none.1 ∙ c.loop-stack.invariant.left }
