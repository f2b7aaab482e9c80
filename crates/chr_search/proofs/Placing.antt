-- Placed labels against an order and a store.
use Rattle.std.proofs.Common.{◌≡◌, ◌↔◌, Decides, Bool, IsTrue, ℕ, zero, suc, ◌+◌, ◌<◌, ◌≤◌, List, [], ◌∷◌, ◌++◌, map, take, length, Some, get_or, sym, ◌∙◌, ap, subst, arith}
use Rattle.std.specs.List.{AllByRecursion}
use Rattle.std.proofs.lemmas.List.{length-map, take_all}
use Rattle.std.proofs.lemmas.Option.{slice_get-get_or}
use Rattle.chr_rule.specs.Rules.{Simpagation, rule_at}
use Rattle.chr_model.specs.Stores.{Store, atom_at}
use Rattle.chr_plan.specs.Plans.{PlanList, plan_at}
use Rattle.chr_plan.specs.declared.order.Step.{Step}
use Rattle.chr_search.specs.Placed.{ArePlacedIn}
use Rattle.chr_search.specs.Verdicts.{Placed, Trial, labels, position, IsTrialOf}
use Rattle.chr_search.proofs.Plans.{heads_in}
use Rattle.chr_search.proofs.Making.{map_twice, take_next, read_more, all_more, all_map, heads_read}

-- what they say of each
pub placed_at : {X : Type 0} (f : X → Placed) (order : List Step) (store : Store) (xs : List X) (i : ℕ) (x : X) (d : Step) → ArePlacedIn order store (map f xs) → i < length xs → x ≡ get_or xs i x → ((f x).head ≡ (get_or order i d).head) × (atom_at store (f x).label ≡ Some (f x).atom)
placed_at f order store [] i x d a h e = absurd (omega arith)
placed_at f [] store (y ∷ xs) i x d a h e = absurd (let z : (f y).head ∷ map (λ (p : Placed). p.head) (map f xs) ≡ [] = a.heads in cc)
placed_at f (s ∷ order) store (y ∷ xs) zero x d a h e =
    let z : (f y).head ∷ map (λ (p : Placed). p.head) (map f xs) ≡ s.head ∷ take (length (map f xs)) (heads_in order) = a.heads in
    let first : (f y).head ≡ s.head = cc in
    subst (λ y. ((f y).head ≡ s.head) × (atom_at store (f y).label ≡ Some (f y).atom)) (sym e) (first, a.live.0)
placed_at f (s ∷ order) store (y ∷ xs) (suc i) x d a h e =
    let z : (f y).head ∷ map (λ (p : Placed). p.head) (map f xs) ≡ s.head ∷ take (length (map f xs)) (heads_in order) = a.heads in
    placed_at f order store xs i x d (record { heads = cc; live = a.live.1 }) (omega arith) e

-- one more
pub record ArePlacedBefore {X : Type 0} (f : X → Placed) (order : List Step) (store : Store) (xs : List X) (i : ℕ) : Type 0 where
  pub heads : map (λ x. (f x).head) (take i xs) ≡ take i (heads_in order)
  pub live : AllByRecursion (λ x. atom_at store (f x).label ≡ Some (f x).atom) (take i xs)

pub placed_more : {X : Type 0} (f : X → Placed) (order : List Step) (store : Store) (xs : List X) (i : ℕ) (x : X) (d : Step) → ArePlacedBefore f order store xs i → i < length xs → i < length order → x ≡ get_or xs i x → (f x).head ≡ (get_or order i d).head → atom_at store (f x).label ≡ Some (f x).atom → ArePlacedBefore f order store xs (i + 1)
placed_more f order store xs i x d a h k e head live =
    let next : take (i + 1) xs ≡ take i xs ++ x ∷ [] = take_next xs i x (slice_get-get_or xs i x h ∙ ap (λ y. Some y) (sym e)) in
    record {
      heads = read_more (λ x. (f x).head) (take i xs) (take (i + 1) xs) x (heads_in order) i (get_or order i d).head a.heads next head (heads_read order i d k);
      live = all_more (λ x. atom_at store (f x).label ≡ Some (f x).atom) (take i xs) (take (i + 1) xs) x a.live next live;
    }

-- all
pub placed_all : {X : Type 0} (f : X → Placed) (order : List Step) (store : Store) (xs : List X) (i : ℕ) → ArePlacedBefore f order store xs i → length xs ≤ i → i ≤ length xs → ArePlacedIn order store (map f xs)
placed_all f order store xs i a past within =
    let all : take i xs ≡ xs = take_all i xs past in
    let count : i ≡ length (map f xs) = omega (arith, length-map xs f) in
    record {
      heads = map_twice f (λ (p : Placed). p.head) xs ∙ ap (map (λ x. (f x).head)) (sym all) ∙ a.heads ∙ ap (λ n. take n (heads_in order)) count;
      live = all_map (λ p. atom_at store p.label ≡ Some p.atom) f xs (subst (AllByRecursion (λ x. atom_at store (f x).label ≡ Some (f x).atom)) all a.live);
    }

-- those that were read
pub placed_read : {X : Type 0} (f : X → Placed) (order : List Step) (store : Store) (xs : List X) (i : ℕ) (ls : List ℕ) → map (λ x. (f x).head) xs ≡ take i (heads_in order) → map (λ x. (f x).label) xs ≡ take i ls → AllByRecursion (λ x. atom_at store (f x).label ≡ Some (f x).atom) xs → length ls ≤ i → i ≤ length ls → (map (λ x. (f x).label) xs ≡ ls) × ArePlacedIn order store (map f xs)
placed_read f order store xs i ls hs lbs live past within =
    let all : map (λ x. (f x).label) xs ≡ ls = lbs ∙ take_all i ls past in
    let read : length ls ≡ length xs = ap length (sym all) ∙ length-map xs (λ x. (f x).label) in
    let count : i ≡ length (map f xs) = omega (arith, length-map xs f) in (
      all,
      record {
        heads = map_twice f (λ (p : Placed). p.head) xs ∙ hs ∙ ap (λ n. take n (heads_in order)) count;
        live = all_map (λ p. atom_at store p.label ≡ Some p.atom) f xs live;
      },
    )

-- of the rule, a trial of the space
pub stands : (rules : List (Simpagation ℕ)) (plans : PlanList) (store : Store) (t : Trial) (order : List Step) (rule : Simpagation ℕ) (told : Bool) → rule_at rules t.number ≡ Some rule → plan_at plans t.number t.head ≡ Some order → ArePlacedIn order store t.placed → Decides told (rule ≡ t.rule) → IsTrue told ↔ IsTrialOf rules plans store t
stands rules plans store t order rule told ri oi a d = (
  λ e. record { rule_is = ri ∙ ap (λ x. Some x) (d.0 e); order = order; order_is = oi; heads_are = a.heads; live = a.live },
  λ i. d.1 (let z : Some rule ≡ Some t.rule = sym ri ∙ i.rule_is in cc),
)

-- a position of the same labels
pub of_trial : {X : Type 0} (f : X → Placed) (p : List ℕ) (r h : ℕ) (ls : List ℕ) (xs : List X) (t : Trial) (told : Bool) → r ∷ h ∷ ls ≡ p → r ≡ t.number → h ≡ t.head → map f xs ≡ t.placed → Decides told (ls ≡ map (λ x. (f x).label) xs) → IsTrue told ↔ (p ≡ position t)
of_trial f p r h ls xs t told view number head placed d =
    let all : map (λ x. (f x).label) xs ≡ labels t = sym (map_twice f (λ (p : Placed). p.label) xs) ∙ ap (map (λ (p : Placed). p.label)) placed in (
      λ e. let same : ls ≡ labels t = d.0 e ∙ all in cc,
      λ e. d.1 (let z : r ∷ h ∷ ls ≡ t.number ∷ t.head ∷ labels t = view ∙ e in let same : ls ≡ labels t = cc in same ∙ sym all),
    )
