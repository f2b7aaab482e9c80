-- The next trial of a search: there is one at most, and one that is the least of those that end so.
use Rattle.chr_sheet.proofs.Words.{map_push, AllByRecursion, Simpagation, rule_at, Space, join_in, IsPlanned, Placed, Trial, position, labels, heads, IsFormed, IsTrialOf, lengthened, IsNextTrial}
use Rattle.std.proofs.Common.{◌≡◌, ℕ, List, [], ◌∷◌, ◌++◌, map, length, take, Some, refl, sym, ◌∙◌, ap, ap₂, subst}
use Rattle.chr_model.specs.Stores.{Store, atom_at}
use Rattle.chr_plan.specs.Plans.{PlanList, plan_at}
use Rattle.chr_plan.specs.declared.order.Step.{Step}
use Rattle.chr_value.proofs.Chosen.{some_is}
use Rattle.chr_search.specs.Passing.{IsTrialIn}
use Rattle.chr_search.proofs.Same.{same_count}
use Rattle.chr_search.proofs.Tree.{least_same}

placed_is : (p q : Placed) → p.head ≡ q.head → p.label ≡ q.label → p.atom ≡ q.atom → p ≡ q
placed_is p q head label atom = ap (λ x. record { head = x; label = p.label; atom = p.atom }) head ∙ ap (λ x. record { head = q.head; label = x; atom = p.atom }) label ∙ ap (λ x. record { head = q.head; label = q.label; atom = x }) atom

trial_is : (s t : Trial) → s.rule ≡ t.rule → s.number ≡ t.number → s.head ≡ t.head → s.placed ≡ t.placed → s ≡ t
trial_is s t rule number head placed =
    ap (λ x. record { rule = x; number = s.number; head = s.head; placed = s.placed }) rule
    ∙ ap (λ x. record { rule = t.rule; number = x; head = s.head; placed = s.placed }) number
    ∙ ap (λ x. record { rule = t.rule; number = t.number; head = x; placed = s.placed }) head
    ∙ ap (λ x. record { rule = t.rule; number = t.number; head = t.head; placed = x }) placed

-- labels, heads and a store fix what is placed
placed_same : (store : Store) (ps qs : List Placed) → map (λ (p : Placed). p.label) ps ≡ map (λ (p : Placed). p.label) qs → map (λ (p : Placed). p.head) ps ≡ map (λ (p : Placed). p.head) qs → AllByRecursion (λ p. atom_at store p.label ≡ Some p.atom) ps → AllByRecursion (λ p. atom_at store p.label ≡ Some p.atom) qs → ps ≡ qs
placed_same store [] [] e f h k = refl
placed_same store (p ∷ ps) (q ∷ qs) e f h k =
    let label : p.label ≡ q.label = cc in
    let head : p.head ≡ q.head = cc in
    let atom : p.atom ≡ q.atom = some_is p.atom q.atom (sym h.0 ∙ ap (atom_at store) label ∙ k.0) in
    ap₂ (λ x xs. x ∷ xs) (placed_is p q head label atom) (placed_same store ps qs (cc) (cc) h.1 k.1)
placed_same store ps qs e f h k = absurd (cc)

-- a position fixes the trial over a store
pub trial_same : (rules : List (Simpagation ℕ)) (plans : PlanList) (store : Store) (s t : Trial) → IsTrialOf rules plans store s → IsTrialOf rules plans store t → position s ≡ position t → s ≡ t
trial_same rules plans store s t i j e =
    let number : s.number ≡ t.number = cc in
    let head : s.head ≡ t.head = cc in
    let ls : labels s ≡ labels t = cc in
    let rule : s.rule ≡ t.rule = some_is s.rule t.rule (sym i.rule_is ∙ ap (rule_at rules) number ∙ j.rule_is) in
    let order : i.order ≡ j.order = some_is i.order j.order (sym i.order_is ∙ ap₂ (plan_at plans) number head ∙ j.order_is) in
    let count : length s.placed ≡ length t.placed = same_count (λ (p : Placed). p.label) s.placed t.placed ls in
    let hs : heads s ≡ heads t = i.heads_are ∙ ap₂ (λ n (o : List Step). take n (map (λ step. step.head) o)) count order ∙ sym j.heads_are in
    let placed : s.placed ≡ t.placed = placed_same store s.placed t.placed ls hs i.live j.live in
    trial_is s t rule number head placed

pub next_same : (s : Space) (place : List ℕ) (t u : Trial) → IsNextTrial s place t → IsNextTrial s place u → t ≡ u
next_same s place t u h k = trial_same s.rules s.plans s.store t u h.1 k.1 (least_same _ _ _ _ (position t) (position u) h.0 k.0)

-- the position of a trial with one label more
pub longer_position : (part : Trial) (p : Placed) → position (lengthened part p) ≡ position part ++ p.label ∷ []
longer_position part p = ap (λ ls. part.number ∷ part.head ∷ ls) (map_push (λ (x : Placed). x.label) part.placed p)

-- a trial of a plan is one of its join
pub trial_in : (s : Space) (t : Trial) (rule : Simpagation ℕ) (order : List Step) → IsTrialOf s.rules s.plans s.store t → IsPlanned s t.number t.head rule order → IsFormed t → IsTrialIn (join_in s rule order) (labels t) t
trial_in s t rule order i p formed = record {
  rule_is = some_is t.rule rule (sym i.rule_is ∙ p.rule_is);
  labels_are = refl;
  heads_are = subst (λ (o : List Step). heads t ≡ take (length t.placed) (map (λ (step : Step). step.head) o)) (some_is i.order order (sym i.order_is ∙ p.order_is)) i.heads_are;
  live = i.live;
  formed = formed;
}
