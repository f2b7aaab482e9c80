use Rattle.chr_shared_desk.proofs.shared_desk.post.Goals as goal

pub returns-in-Ok-Ok-clause-replies : goal.returns-in-Ok-Ok-clause-replies
returns-in-Ok-Ok-clause-replies g c = rw c.in-Ok-Ok.field-0-is at c.in-Ok-Ok.ensures.hold
