use Rattle.std.proofs.Common.{Option, Bor, ℕ, None, sym, ap, ◌∙◌, option_copied, unwrap_or}
use Rattle.chr_store.proofs.Table.{looked_at}
use Rattle.chr_store.proofs.Marks.{mark_got}
use Rattle.chr_store.proofs.chosen.mark_at.Goals as goal

pub returns-in-None : goal.returns-in-None
returns-in-None c = sym (mark_got c.args.marks.now c.args.index ∙ ap (λ (o : Option (Option ℕ)). unwrap_or o None) (looked_at c.args.marks.now c.args.index c.get.result c.get.ensures.lookup) ∙ ap (λ (r : Option (Bor (Option ℕ))). unwrap_or (option_copied r) None) c.in-None.is)

pub returns-in-Some : goal.returns-in-Some
returns-in-Some c = sym (mark_got c.args.marks.now c.args.index ∙ ap (λ (o : Option (Option ℕ)). unwrap_or o None) (looked_at c.args.marks.now c.args.index c.get.result c.get.ensures.lookup) ∙ ap (λ (r : Option (Bor (Option ℕ))). unwrap_or (option_copied r) None) c.in-Some.is)
