use Rattle.std.proofs.Common.{◌≡◌, ◌∙◌, length, ap, sym, arith}
use Rattle.std.proofs.lemmas.Bool.Decides.{nat_tests}
use Rattle.std.proofs.lemmas.List.{nil_from_length}
use Rattle.chr_versions.specs.Kept.{last_of}
use Rattle.chr_versions.proofs.Adding.{no_last}
use Rattle.chr_versions.proofs.versions.Versions.is_empty.Goals as goal

pub returns : goal.returns
returns g c =
    let log = c.self.inside.seen.log in
    let count = c.self.invariant.0 in (
      λ t. let none : length log ≡ 0 = grind (arith, nat_tests, count, t) in sym c.self.view_is ∙ ap last_of (nil_from_length log none),
      λ e. let none : length log ≡ 0 = no_last log (c.self.view_is ∙ e) in grind (arith, nat_tests, count, none),
    )
