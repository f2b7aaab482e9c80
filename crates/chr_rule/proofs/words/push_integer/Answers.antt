use Rattle.std.proofs.Common.{to_z-of_z}
use Rattle.chr_rule.proofs.Written.{below_zero, from_zero}
use Rattle.chr_rule.proofs.words.push_integer.Goals as goal

pub returns-then-n-lt0 : goal.returns-then-n-lt0
returns-then-n-lt0 g c =
    let z = to_z-of_z c.ranges.n in
    rw (← below_zero c.args.n c.unsigned_abs.result (simp z at c.if-n-lt0.true) (simp z at c.unsigned_abs.ensures.value)) c.push_words.ensures

pub returns : goal.returns
returns g c =
    let z = to_z-of_z c.ranges.n in
    rw (← from_zero c.args.n c.unsigned_abs-2.result (simp z at c.if-n-lt0.false) (simp z at c.unsigned_abs-2.ensures.value)) c.push_words-2.ensures
