use Rattle.std.proofs.Common.{◌≡◌, ◌∷◌, [], List, ℕ, Some, refl, sym, ap, subst, ◌∙◌, arith}
use Rattle.chr_value.specs.Stores.{atom_at}
use Rattle.chr_store.specs.Labels.{entered}
use Rattle.chr_store.specs.Views.{Seen, IsSeen}
use Rattle.chr_store.proofs.Views.{seen_active}
use Rattle.chr_search.specs.Passing.{PassesFrom}
use Rattle.chr_search.specs.Reach.{SearchState}
use Rattle.chr_search.specs.Trials.{older}
use Rattle.chr_search.proofs.Ending.{passes_to}
use Rattle.chr_search.proofs.search.Search.pass_over_before.Goals.{After-with-view}
use Rattle.chr_search.proofs.search.Search.pass_over_before.Goals as goal

-- the atom is under its label in the view
live : (g : _) (c : After-with-view g) → atom_at c.with-view.result.store.entries c.args.self.now.label ≡ Some c.args.atom.now
live g c =
    let s = c.args.store.now in
    let a = c.args.atom.now in
    let l = c.args.self.now.label in
    let seen : IsSeen s (Some a) s.next = record { labelled = c.next_label-next.ensures.labelled; next = (refl, c.requires.room) } in
    subst (λ (v : Seen). atom_at v.store.entries l ≡ Some a) (sym c.with-view.ensures) (sym (seen_active s (Some a) a s.next l seen refl c.requires.label))

pub pass_plans-requires : goal.pass_plans-requires
pass_plans-requires g c =
    let active = ap (λ (v : Seen). v.active) c.with-view.ensures ∙ sym c.requires.label in
    let ahead = c.first-walk.ensures.ahead (older c.args.program.now c.args.plans.now c.with-view.result.store.entries c.args.self.now.label) refl (live g (goal.at.pass_plans-requires g c).After-with-view) in
    (omega arith, (omega (arith, c.if-most-eq0.false), (c.requires.plans, (active, (ahead, c.set_alone.ensures ∙ ap (λ (x : ℕ). x ∷ []) (ap (λ (s : SearchState). s.label) c.self.view_is ∙ sym active))))))

pub returns-clause-passed : goal.returns-clause-passed
returns-clause-passed g c =
    let passed = c.pass_plans in
    let l = c.args.self.now.label in
    passes_to _ _ _ _ _ _
    (subst (λ (p : List ℕ). PassesFrom (older c.args.program.now c.args.plans.now (entered c.args.store.now c.args.atom.now).entries l) p passed.result passed.new.instance passed.new.bound c.args.self.now.place passed.new.self.place) (c.first-walk.ensures.begins ∙ sym c.requires.place)
    (subst (λ (v : Seen). PassesFrom (older c.args.program.now c.args.plans.now v.store.entries l) (c.first-walk.result.rule ∷ c.first-walk.result.head ∷ []) passed.result passed.new.instance passed.new.bound c.args.self.now.place passed.new.self.place) c.with-view.ensures passed.ensures.passed))
