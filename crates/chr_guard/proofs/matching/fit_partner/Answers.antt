use Rattle.std.proofs.Common.{map, ap}
use Rattle.chr_rule.specs.Parts.{shape, argument}
use Rattle.chr_guard.proofs.Matched.{told_head}
use Rattle.chr_guard.proofs.matching.fit_partner.Goals as goal

pub returns-then-len-le-OWN_ARGS-clause-narrows : goal.returns-then-len-le-OWN_ARGS-clause-narrows
returns-then-len-le-OWN_ARGS-clause-narrows g c =
    told_head c.fit_own.result (shape c.args.head.now) c.args.atom.now (map argument c.deref.result.now) c.args.binding.now c.fit_own.new.binding c.requires.name (ap (map argument) c.deref.ensures.value) c.fit_own.ensures.narrows

pub returns-else-len-le-OWN_ARGS-clause-narrows : goal.returns-else-len-le-OWN_ARGS-clause-narrows
returns-else-len-le-OWN_ARGS-clause-narrows g c =
    told_head c.fit_many.result (shape c.args.head.now) c.args.atom.now (map argument c.deref-else-len-le-OWN_ARGS.result.now) c.args.binding.now c.fit_many.new.binding c.requires.name (ap (map argument) c.deref-else-len-le-OWN_ARGS.ensures.value) c.fit_many.ensures.narrows
