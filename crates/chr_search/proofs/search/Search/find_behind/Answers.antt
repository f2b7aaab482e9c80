use Rattle.std.proofs.Common.{◌≡◌, ◌≤◌, ◌∷◌, ℕ, List, length, sym, ap, subst, ◌∙◌, arith, refl, true≢false}
use Rattle.chr_store.specs.Views.{Seen}
use Rattle.chr_search.specs.Positions.{past}
use Rattle.chr_search.specs.Trials.{older, IsNext}
use Rattle.chr_search.specs.Joined.{join_of}
use Rattle.chr_search.specs.PlanByPlan.{IsUnplanned, IsJoinOf}
use Rattle.chr_search.specs.Reach.{SearchState}
use Rattle.chr_search.specs.Verdicts.{position}
use Rattle.chr_search.proofs.Judging.{labels_length}
use Rattle.chr_search.proofs.Behind.{none_unplanned, none_in_plan, next_in_join, none_behind}
use Rattle.chr_search.proofs.search.Search.find_behind.Goals.{After-of-view, After-as_slice, Else-not-find}
use Rattle.chr_search.proofs.search.Search.find_behind.Goals as goal

-- the view is that of the store, for the search's label
seen : (g : _) (c : After-of-view g) → c.of-view.result ≡ record { store = c.args.store.now; active = c.args.self.now.label }
seen g c = c.of-view.ensures ∙ ap (λ (x : SearchState). record { store = c.args.store.now; active = x.label }) c.self.view_is

-- a trial has a label
deep : (g : _) (c : After-of-view g) → 3 ≤ length (position c.args.trial.now)
deep g c = let some : 1 ≤ length c.args.trial.now.placed = c.placed-placed.ensures.formed.some in omega (arith, labels_length c.args.trial.now)

-- the join in which the next one is looked for, and from where
join : (g : _) (c : After-as_slice g) → c.of-view.result ≡ record { store = c.args.store.now; active = c.args.self.now.label } → IsJoinOf (older c.args.program.now c.args.plans.now c.args.store.now.entries c.args.self.now.label) c.past.inside.rule c.past.inside.head (join_of c.in-Some.join)
join g c seen = subst (λ (v : Seen). IsJoinOf (older c.args.program.now c.args.plans.now v.store.entries v.active) c.past.inside.rule c.past.inside.head (join_of c.in-Some.join)) seen c.in-Some.ensures

from : (g : _) (c : After-as_slice g) → c.past.inside.rule ∷ c.past.inside.head ∷ c.as_slice.result.now ≡ past (position c.args.trial.now)
from g c = ap (λ (ls : List ℕ). c.past.inside.rule ∷ c.past.inside.head ∷ ls) c.as_slice.ensures.value ∙ c.past.view_is ∙ c.become_past.ensures

next : (g : _) (c : Else-not-find g) → IsJoinOf (older c.args.program.now c.args.plans.now c.args.store.now.entries c.args.self.now.label) c.past.inside.rule c.past.inside.head (join_of c.in-Some.join)
    → c.past.inside.rule ∷ c.past.inside.head ∷ c.as_slice.result.now ≡ past (position c.args.trial.now)
    → IsNext (older c.args.program.now c.args.plans.now c.args.store.now.entries c.args.self.now.label) (past (position c.args.trial.now)) (c.past.inside.rule ∷ c.past.inside.head ∷ c.find.new.labels.items)
next g c join from = next_in_join _ _ _ _ _ _ join from c.find.new.labels.items c.if-not-find.ensures

pub returns-in_default : goal.returns-in_default
returns-in_default g c =
    let at = goal.at.returns-in_default g c in
    let none = subst (λ (v : Seen). IsUnplanned (older c.args.program.now c.args.plans.now v.store.entries v.active) c.past.inside.rule c.past.inside.head) (seen g at.After-of-view) c.in_default.ensures in
    none_unplanned _ (position c.args.trial.now) _ _ c.past.inside.labels.items none (deep g at.After-of-view) (c.past.view_is ∙ c.become_past.ensures)

pub returns-then-not-find : goal.returns-then-not-find
returns-then-not-find g c =
    let at = goal.at.returns-then-not-find g c in
    none_in_plan _ (position c.args.trial.now) _ _ _ _ (join g at.After-as_slice (seen g at.After-of-view)) c.if-not-find.ensures (deep g at.After-of-view) (from g at.After-as_slice)

pub returns-then-not-is_beside : goal.returns-then-not-is_beside
returns-then-not-is_beside g c =
    let at = goal.at.returns-then-not-is_beside g c in
    let next = next g at.Else-not-find (join g at.After-as_slice (seen g at.After-of-view)) (from g at.After-as_slice) in
    none_behind _ (position c.args.trial.now) _ (deep g at.After-of-view) next (λ e. true≢false (sym (c.if-not-is_beside.ensures.beside.1 e)))

pub returns : goal.returns
returns g c =
    let at = goal.at.returns g c in
    (next g at.Else-not-find (join g at.After-as_slice (seen g at.After-of-view)) (from g at.After-as_slice), c.if-not-is_beside.ensures.beside.0 refl)
