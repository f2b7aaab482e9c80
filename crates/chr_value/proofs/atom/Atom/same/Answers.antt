use Rattle.std.proofs.Common.{◌++◌, ◌∷◌, [], sym, ap₂, ◌∙◌}
use Rattle.chr_value.specs.Atoms.{said}
use Rattle.chr_value.proofs.Places.{got-more}
use Rattle.chr_value.proofs.atom.Atom.same.Goals as goal

pub loop-index-preserved : goal.loop-index-preserved
loop-index-preserved g c =
    let i = c.loop-index.index in
    got-more c.args.self.now.args i (said c.arg_at.result) c.arg_at.ensures.value ∙ ap₂ (λ vs v. vs ++ v ∷ []) c.loop-index.invariant (c.same.ensures.0 c.if-not-same.false) ∙ sym (got-more c.args.other.now.args i (said c.arg_at-in-loop-index.result) c.arg_at-in-loop-index.ensures.value)
