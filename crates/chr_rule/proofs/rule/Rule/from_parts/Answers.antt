use Rattle.std.proofs.Common.{arith}
use Rattle.chr_rule.proofs.Judged.{kept_within}
use Rattle.chr_rule.proofs.rule.Rule.from_parts.Goals as goal

pub split_at-requires : goal.split_at-requires
split_at-requires g c = rw c.deref.ensures.value (omega (arith, kept_within _ c.args.heads.items _ c.args.guard.items c.args.body.items c.requires))

pub invariant_of-result : goal.invariant_of-result
invariant_of-result g c = (c.requires, rw (c.split_at.ensures.front, c.split_at.ensures.back, c.deref.ensures.value, c.deref-2.ensures.value, c.deref-3.ensures.value) at c.words_of-words.ensures)
