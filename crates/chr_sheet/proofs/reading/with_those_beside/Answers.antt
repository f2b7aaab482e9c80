use Rattle.std.proofs.Common.{sym, subst, arith}
use Rattle.chr_sheet.proofs.Words.{Space, IsTrial, space_in, position, trials_at, AreInTurn}
use Rattle.chr_search.proofs.Making.{next_trial}
use Rattle.chr_sheet.proofs.NextBeside.{together, active_low}
use Rattle.chr_sheet.proofs.reading.with_those_beside.Goals as goal

pub in_turn-requires : goal.in_turn-requires
in_turn-requires g c =
    let s : Space = space_in c.args.setting.now c.args.search.now.label in
    let first = subst (λ l. IsTrial (space_in c.args.setting.now l) (position c.args.first)) (sym c.label.ensures) (next_trial s c.args.search.now.place (position c.args.first) c.requires.first.0) in
    (omega arith, (c.requires.program, (c.requires.plans, (c.requires.some, (first, c.requires.first.1)))))

pub go_behind-requires-clause-low : goal.go_behind-requires-clause-low
go_behind-requires-clause-low g c =
    let s : Space = space_in c.args.setting.now c.args.search.now.label in
    active_low s c.args.first (next_trial s c.args.search.now.place (position c.args.first) c.requires.first.0) c.placed-placed.ensures.formed

pub returns-clause-trials : goal.returns-clause-trials
returns-clause-trials g c =
    let s : Space = space_in c.args.setting.now c.args.search.now.label in
    let ts = trials_at c.in_ok-trials.trials in
    together s c.args.most c.args.search.now.place c.go_behind.new.search.place c.args.first ts c.requires.first
    (subst (λ l. AreInTurn (space_in c.args.setting.now l) c.args.most c.args.first ts) c.label.ensures c.in_ok-trials.ensures.turn)
    c.go_behind.ensures.place
