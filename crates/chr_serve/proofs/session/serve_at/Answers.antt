use Rattle.std.proofs.Common.{ap, sym}
use Rattle.chr_serve.specs.Sessions.{SharedStep}
use Rattle.chr_serve.proofs.Lent.{served_seen, served_between, broken_seen, broken_between, ok_seen}
use Rattle.chr_serve.proofs.session.serve_at.Goals as goal

pub returns-clause-served : goal.returns-clause-served
returns-clause-served g c =
    let seat = sym c.end-seat.ensures.seat in
    let inlet = sym c.end-seat.ensures.inlet in
    ok_seen _ _ c.serve-ended.result (λ how run input left. served_between SharedStep _ _ _ _ _ _ how input (ap (λ (d : _). (d.0, d.1)) c.new-desk.ensures) (λ i. (seat i, inlet i)) (served_seen c.new-desk.result c.serve-ended.new.desk _ SharedStep (λ d. (d.0, d.1)) (λ a command reply b step. (step.0, step.1)) _ _ how input (run input left))) c.serve-ended.ensures.served

pub returns-clause-broken : goal.returns-clause-broken
returns-clause-broken g c =
    let seat = sym c.end-seat.ensures.seat in
    let inlet = sym c.end-seat.ensures.inlet in
    λ device input left. broken_between SharedStep _ _ _ _ _ _ input (ap (λ (d : _). (d.0, d.1)) c.new-desk.ensures) (λ i. (seat i, inlet i)) (broken_seen c.new-desk.result c.serve-ended.new.desk _ SharedStep (λ d. (d.0, d.1)) (λ a command reply b step. (step.0, step.1)) _ _ input (c.serve-ended.ensures.broken device input left))
