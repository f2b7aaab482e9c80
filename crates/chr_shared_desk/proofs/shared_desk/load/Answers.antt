use Rattle.chr_shared_desk.proofs.shared_desk.load.Goals as goal

pub returns-in-Ok : goal.returns-in-Ok
returns-in-Ok g c =
    let read = c.in-Ok.ensures.read in
    (read.0, record { book = read.1.book; is = read.1.is; headline = read.1.headline; counts = read.1.counts; says = tt })
