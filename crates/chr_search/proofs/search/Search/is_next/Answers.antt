use Rattle.std.proofs.Common.{Some, sym, subst, ◌∙◌, refl, true≢false}
use Rattle.chr_search.specs.Trials.{older}
use Rattle.chr_search.specs.Answers.{IsToldNext}
use Rattle.chr_search.proofs.After.{told_of, told_other}
use Rattle.chr_search.proofs.search.Search.is_next.Goals as goal

pub returns-then-is_of : goal.returns-then-is_of
returns-then-is_of g c = told_of _ _ _ _ c.args.trial.now _ c.requires c.rules-rules.ensures.valid refl c.next_label-given.ensures.labelled c.if-not-find_to.ensures (c.is_of.ensures.0 c.if-is_of.true) c.stands_in.ensures

pub returns-else-is_of : goal.returns-else-is_of
returns-else-is_of g c =
    subst (λ b. IsToldNext (older c.args.program.now c.args.plans.now c.args.store.now.entries c.args.self.now.label) c.args.self.now.place c.args.trial.now (Some b)) (sym c.if-is_of.false)
    (told_other _ _ _ _ c.args.trial.now c.requires c.rules-rules.ensures.valid refl c.next_label-given.ensures.labelled c.if-not-find_to.ensures (λ e i. true≢false (sym (c.is_of.ensures.1 e) ∙ c.if-is_of.false)))
