use Rattle.std.proofs.Common.{◌≡◌, ℕ, List, [], sym, subst, ◌∙◌}
use Rattle.chr_session.specs.Devices.{Comes}
use Rattle.chr_session.proofs.Passed.{next_taken, refilled, held_met}
use Rattle.chr_session.proofs.buffer.Buffer.next.Goals as goal

pub returns-clause-byte : goal.returns-clause-byte
returns-clause-byte g c = λ input comes.
    let none : c.args.self.now ≡ [] = sym c.self.view_is ∙ held_met _ _ _ c.self.invariant.0 c.if-self.false in
    next_taken c.take_first-2.result input c.take_first-2.ensures
    (refilled c.in_ok-n.n c.read.new.into (g.S.Source.left c.args.source.now) (g.S.Source.left c.read.new.self) input (subst (λ (held : List ℕ). Comes held (g.S.Source.left c.args.source.now) input) none comes) c.in_ok-n.ensures.bytes)
