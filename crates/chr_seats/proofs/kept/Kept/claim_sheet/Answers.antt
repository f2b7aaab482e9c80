use Rattle.chr_calls.specs.Batches.{claimed_of}
use Rattle.chr_seats.proofs.Alike.{all_claimed}
use Rattle.chr_seats.proofs.kept.Kept.claim_sheet.Goals as goal

pub returns-clause-known : goal.returns-clause-known
returns-clause-known g c = all_claimed (λ k. k.version) (λ k. k.search) claimed_of c.args.self.now c.hold_known.new.self c.args.seat.now c.hold_known.new.seat c.args.ticket c.args.most c.hold_known.result c.hold_known.ensures.hold c.hold_known.ensures.known
