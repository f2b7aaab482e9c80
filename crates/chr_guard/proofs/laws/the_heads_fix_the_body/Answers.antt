use Rattle.chr_guard.proofs.Fixed.{body_fixed}
use Rattle.chr_guard.proofs.laws.the_heads_fix_the_body.Goals as goal

pub returns : goal.returns
returns c = body_fixed
