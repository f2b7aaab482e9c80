use Rattle.std.proofs.Common.{◌++◌, sym, ap, ◌∙◌}
use Rattle.std.proofs.lemmas.List.{take-append-drop}
use Rattle.chr_search.specs.Wholes.{WholeTrial}
use Rattle.chr_search.proofs.whole.Whole.labels.Goals as goal

pub returns : goal.returns
returns c = sym (take-append-drop c.self.inside.kept c.self.inside.labels.items) ∙ ap (λ (w : WholeTrial). w.kept ++ w.removed) c.self.view_is
