use Rattle.chr_pool.specs.Inlets.{inlet_id}
use Rattle.chr_serve.specs.Sessions.{SharedStep}
use Rattle.chr_serve.proofs.Lent.{served_seen, broken_seen, ok_seen, err_seen}
use Rattle.chr_serve.proofs.session.serve_lent.Goals as goal

pub returns-clause-served : goal.returns-clause-served
returns-clause-served g c =
    ok_seen _ _ c.serve_in.result (λ how run input left. served_seen c.args.desk.now c.serve_in.new.desk _ SharedStep (λ d. (d.seat.now, inlet_id d.inlet.now)) (λ a command reply b step. (step.0, step.1)) _ _ how input (run input left)) c.serve_in.ensures.served

pub returns-clause-broken : goal.returns-clause-broken
returns-clause-broken g c =
    err_seen _ _ c.serve_in.result (λ run input left. broken_seen c.args.desk.now c.serve_in.new.desk _ SharedStep (λ d. (d.seat.now, inlet_id d.inlet.now)) (λ a command reply b step. (step.0, step.1)) _ _ input (run input left)) c.serve_in.ensures.broken
