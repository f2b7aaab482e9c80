use Rattle.std.proofs.Common.{◌≡◌, ◌∙◌, ap, sym, subst, arith}
use Rattle.std.proofs.lemmas.Bool.Decides.{nat_tests}
use mathlib.Core.List.{IsPrefix}
use Rattle.chr_versions.specs.Kept.{last_of}
use Rattle.chr_versions.proofs.Adding.{prefixes_same}
use Rattle.chr_versions.proofs.versions.Versions.is_last.Goals as goal

pub returns : goal.returns
returns g c equal =
    let count : c.version.inside.number ≡ c.self.inside.count = grind (arith, nat_tests, equal) in
    let own = subst (λ s. IsPrefix s.log c.learn.new.self.log) c.again-both.ensures c.learn.ensures.2 in
    let same = prefixes_same c.version.inside.seen.log c.self.inside.seen.log c.learn.new.self.log c.learn.ensures.3 own (sym c.version.invariant.0 ∙ (count ∙ c.self.invariant.0)) in
    sym c.version.view_is ∙ (ap last_of same ∙ c.self.view_is)
