use Rattle.std.proofs.Common.{length, length-append, ap, arith}
use Rattle.chr_sheet.proofs.Words.{listed}
use Rattle.chr_sheet.proofs.judging.Judgements.len.Goals as goal

pub returns-in-None : goal.returns-in-None
returns-in-None g c = omega (arith, ap (λ w. length (listed w)) c.in-None.ensures.whole, length-append c.args.self.now.others (listed c.args.self.now.whole))

pub overflow_add-result : goal.overflow_add-result
overflow_add-result g c = omega (arith, ap (λ w. length (listed w)) c.in-Some.ensures.whole, length-append c.args.self.now.others (listed c.args.self.now.whole))

pub returns-in-Some : goal.returns-in-Some
returns-in-Some g c = omega (arith, ap (λ w. length (listed w)) c.in-Some.ensures.whole, length-append c.args.self.now.others (listed c.args.self.now.whole))
