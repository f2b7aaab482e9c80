use Rattle.std.proofs.Common.{◌≡◌, ◌<◌, length, get_or, sym, ap, subst, ◌∙◌, arith}
use Rattle.std.proofs.lemmas.Bool.{false≢true}
use Rattle.chr_value.specs.Atoms.{ground, grounds}
use Rattle.chr_value.proofs.Places.{same-at, same-more}
use Rattle.chr_value.proofs.ArgumentLaws.{same-not, same-length}
use Rattle.chr_value.proofs.value.+same.Goals as goal
use Rattle.chr_value.proofs.value.+same.Goals.{Comp::same-then-self-other-via-then-self-other, Comp::same-then-self-other-via-else-self-other+then-len}

pub Comp::same-returns-then-self-other : goal.Comp::same-returns-then-self-other
Comp::same-returns-then-self-other g t c =
    let b = c.args.other.now in
    same-not c.args.self.now b (λ functors args. elim c.then-self-other.branch [
      | Comp::same-then-self-other-via-then-self-other w ↦ w.if-self-other.true functors
      | Comp::same-then-self-other-via-else-self-other+then-len w ↦ w.if-len.true (omega (arith, w.len.ensures, w.len-else-self-other.ensures, same-length c.args.self.now.args.list.items b.args.list.items args))
    ])

pub Comp::same-returns-then-not-same : goal.Comp::same-returns-then-not-same
Comp::same-returns-then-not-same g t c =
    same-not c.args.self.now c.args.other.now (λ functors args.
    false≢true (sym c.if-not-same.true ∙ c.same.ensures.1 (same-at ground c.deref-value-items.result.now c.args.other.now.args.list.items c.loop-i.i _ _ c.loop-i-test.true c.value-item.is (subst (λ zs. c.index-deref-i.result ≡ get_or zs c.loop-i.i c.index-deref-i.result) c.deref.ensures c.index-deref-i.is) (ap grounds c.deref-value-items.ensures ∙ args))))

pub Comp::same-loop-i-preserved : goal.Comp::same-loop-i-preserved
Comp::same-loop-i-preserved g t c =
    let b = c.args.other.now in
    let there : c.loop-i.i < length b.args.list.items = omega (arith, c.loop-i-test.true, ap length c.deref-value-items.ensures, c.if-len.false, c.len.ensures, c.len-else-self-other.ensures) in
    same-more ground c.deref-value-items.result.now b.args.list.items c.loop-i.i _ _ c.loop-i-test.true there c.value-item.is (subst (λ zs. c.index-deref-i.result ≡ get_or zs c.loop-i.i c.index-deref-i.result) c.deref.ensures c.index-deref-i.is) (c.same.ensures.0 c.if-not-same.false) c.loop-i.invariant
