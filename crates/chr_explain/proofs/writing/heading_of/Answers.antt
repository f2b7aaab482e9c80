use Rattle.std.proofs.Common.{◌≡◌, ◌-◌, slice_get, subst, arith}
use Rattle.std.specs.Borrow.{Bor}
use Rattle.std.specs.Option.{option_map}
use Rattle.chr_explain.specs.declared.headings.Heading.{Heading as CodeHeading}
use Rattle.chr_explain.proofs.Known.{looked, heading_looked}
use Rattle.chr_explain.proofs.writing.heading_of.Goals as goal

pub returns : goal.returns
returns c =
    let found = looked c.args.headings.now (c.from.result - 1) c.get.result c.get.ensures.lookup.1 c.get.ensures.lookup.3 in
    heading_looked c.args.headings.now c.args.rule c.get.result (omega arith)
    (subst (λ n. option_map (λ (h : Bor CodeHeading). h.now) c.get.result ≡ slice_get c.args.headings.now (n - 1)) c.from.ensures found)
