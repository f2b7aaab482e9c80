use Rattle.std.proofs.Common.{length, sym, ap, ◌∙◌}
use Rattle.std.proofs.lemmas.List.{length-take-le}
use Rattle.chr_search.specs.Wholes.{WholeTrial}
use Rattle.chr_search.proofs.whole.Whole.kept.Goals as goal

pub returns : goal.returns
returns c = sym (length-take-le c.self.inside.kept c.self.inside.labels.items c.self.invariant) ∙ ap (λ (w : WholeTrial). length w.kept) c.self.view_is
