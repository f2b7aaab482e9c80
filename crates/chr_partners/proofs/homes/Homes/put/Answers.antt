use Rattle.std.proofs.Common.{arith}
use Rattle.std.proofs.lemmas.Grind.{common_steps}
use Rattle.chr_partners.proofs.homes.Homes.put.Goals as goal

pub returns-in_err-put-clause-all : goal.returns-in_err-put-clause-all
returns-in_err-put-clause-all g c hash l j = grind (arith, common_steps, c.put.ensures.all l)

pub returns-clause-all : goal.returns-clause-all
returns-clause-all g c hash l j = grind (arith, common_steps, c.put.ensures.all l)
