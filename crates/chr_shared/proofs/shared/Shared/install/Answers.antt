use Rattle.std.proofs.Common.{Some, refl}
use Rattle.chr_shared.proofs.shared.Shared.install.Goals as goal

pub returns-in-Ok : goal.returns-in-Ok
returns-in-Ok g c =
    let read = c.in-Ok.ensures in
    (c.deref.result.now.kept, c.deref.result.now.kept, (record { book = read.book; is = read.is; headline = read.headline; counts = read.counts; says = tt }, refl, refl))

pub returns : goal.returns
returns g c = (c.deref.result.now.kept, Some c.args.book, (rw c.in-Err-NoBook.field-0-is at c.in-Err-NoBook.ensures, refl))
