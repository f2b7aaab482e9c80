use Rattle.std.proofs.Common.{◌++◌, List, ℕ, ap, ◌∙◌}
use Rattle.chr_run_text.specs.Output.{shown}
use Rattle.chr_run_text.proofs.ran.Ran.shown.Goals as goal

pub returns : goal.returns
returns g c = c.in_ok-write_shown.ensures ∙ ap (λ (xs : List ℕ). xs ++ shown c.args.show c.args.self.now.end c.args.self.now.book) c.new-bytes.ensures.items
