-- What a verdict says of the reach.
use Rattle.chr_value.proofs.Chosen.{some_is}
use Rattle.std.proofs.Common.{◌≡◌, ℕ, ◌<◌, true, false, ◌==◌, List, [], ◌∷◌, ◌++◌, map, take, length, Some, None, refl, sym, ◌∙◌, ap, ap₂, subst, arith, true-eqb}
use Rattle.std.specs.List.{AllByRecursion}
use Rattle.std.specs.Option.{option_map}
use Rattle.std.proofs.lemmas.Bool.Decides.{nat_tests}
use Rattle.std.proofs.lemmas.List.{length-map, map-append, take_at}
use Rattle.chr_value.specs.Atoms.{Atom}
use Rattle.chr_rule.specs.Rules.{Simpagation, rule_at}
use Rattle.chr_guard.specs.Values.{Valuation}
use Rattle.chr_guard.specs.Instances.{atom_under}
use Rattle.chr_guard.specs.Matching.{IsAtHead, AreAtHeads}
use Rattle.chr_model.specs.Stores.{Store, atom_at, among, Distinct}
use Rattle.chr_plan.specs.Orders.{heads_of}
use Rattle.chr_plan.specs.Plans.{plan_at, ArePlans}
use Rattle.chr_plan.specs.declared.order.Step.{Step}
use Rattle.chr_search.specs.Positions.{begins}
use Rattle.chr_search.specs.Tree.{Grows}
use Rattle.chr_search.specs.Trials.{Join, MayFollow, Space, join_in}
use Rattle.chr_search.specs.Reach.{label_of, labels_in, Reach}
use Rattle.chr_search.specs.Verdicts.{Placed, Trial, heads, labels, position, at_heads, IsFormed, IsPart, IsWhole, IsTrialOf, WasTrialOf}
use Rattle.chr_search.proofs.Plans.{heads_in, IsWithin}
use Rattle.chr_search.proofs.Reaches.{Stands, distinct_front}
use Rattle.chr_search.proofs.Shrinking.{branch, reached}
use Rattle.chr_search.proofs.Wholes.{places}

-- a beginning of the labels of an instance
begun_front : (f : Step → ℕ) (ls : List ℕ) (steps : List Step) → begins ls (map f steps) ≡ true → (front : List Step) × (rest : List Step) × (steps ≡ front ++ rest) × (ls ≡ map f front)
begun_front f [] steps b = ([], steps, refl, refl)
begun_front f (l ∷ ls) [] b = absurd (cc)
begun_front f (l ∷ ls) (x ∷ steps) b =
    let more = begun_front f ls steps (grind (arith, nat_tests)) in
    let same : l ≡ f x = grind (arith, nat_tests) in
    (x ∷ more.0, more.1, ap (λ z. x ∷ z) more.2, ap₂ (λ y ys. y ∷ ys) same more.3)

within_front : (n : ℕ) (front rest : List Step) → AllByRecursion (IsWithin n) (front ++ rest) → AllByRecursion (IsWithin n) front
within_front n [] rest w = tt
within_front n (x ∷ front) rest w = (w.0, within_front n front rest w.1)

placed_fit : (rule : Simpagation ℕ) (store : Store) (v : Valuation) (ls : List ℕ) → Stands rule store v ls → (ps : List Placed) (front : List Step) → map (λ (p : Placed). p.head) ps ≡ heads_in front → map (λ (p : Placed). p.label) ps ≡ labels_in ls front → AllByRecursion (IsWithin (length (heads_of rule))) front
    → AllByRecursion (λ p. (a : Atom ℕ) → atom_at store p.label ≡ Some a → a ≡ p.atom) ps → AreAtHeads rule (places ps) v
placed_fit rule store v ls s [] front hs lbs w a = tt
placed_fit rule store v ls s (p ∷ ps) [] hs lbs w a = absurd (cc)
placed_fit rule store v ls s (p ∷ ps) (x ∷ front) hs lbs w a =
    let h : p.head ≡ x.head = cc in
    let l : p.label ≡ label_of ls x.head = cc in
    let at = s.at x.head w.0.0 w.0.1 in
    let atom : at.2.atom ≡ p.atom = a.0 at.2.atom (ap (atom_at store) l ∙ at.2.live) in
    let here : IsAtHead rule v (x.head, at.2.atom) = ap (option_map (atom_under v)) at.1 ∙ ap (λ o. Some o) at.2.under in
    (subst (λ n. IsAtHead rule v (n, p.atom)) (sym h) (subst (λ y. IsAtHead rule v (x.head, y)) atom here), placed_fit rule store v ls s ps front (cc) (cc) w.1 a.1)

-- what a trial of the reach has in common with one that it begins with
record Common (s : Space) (t : Trial) (u : List ℕ) (k : Reach s u) : Type 0 where
  pub same_rule : k.rule ≡ t.number
  pub same_head : k.head ≡ t.head
  pub rule : Simpagation ℕ
  pub rule_same : rule ≡ t.rule
  pub valuation : Valuation
  pub distinct : Distinct (labels t)
  pub fits : AreAtHeads t.rule (at_heads t) valuation
  pub guard : AllByRecursion (Rattle.chr_guard.specs.Values.Holds valuation) t.rule.guard
  pub right : AllByRecursion (Rattle.chr_guard.specs.Instances.IsRight valuation) t.rule.body
  pub body_is : Rattle.chr_guard.specs.Instances.AreMadeUnder valuation (Rattle.chr_guard.specs.Instances.added t.rule.body) k.body

common : (s : Space) (t : Trial) → ArePlans s.rules s.plans → WasTrialOf s.rules s.plans s.store t → (u : List ℕ) (k : Reach s u) → begins (position t) u ≡ true → Common s t u k
common s t ps w u k b =
    let all : begins (t.number ∷ t.head ∷ labels t) (k.rule ∷ k.head ∷ labels_in (k.kept ++ k.removed) k.order) ≡ true = subst (λ z. begins (position t) z ≡ true) k.is b in
    let rs : k.rule ≡ t.number = grind (arith, nat_tests) in
    let hs : k.head ≡ t.head = grind (arith, nat_tests) in
    let lss : begins (labels t) (labels_in (k.kept ++ k.removed) k.order) ≡ true = grind (arith, nat_tests) in
    let r = reached s ps u k in
    let rule_same : r.rule ≡ t.rule = some_is r.rule t.rule (sym r.planned.rule_is ∙ ap (rule_at s.rules) rs ∙ w.rule_is) in
    let order_same : k.order ≡ w.order = some_is k.order w.order (sym k.order_is ∙ ap₂ (plan_at s.plans) rs hs ∙ w.order_is) in
    let f = begun_front (λ (x : Step). label_of (k.kept ++ k.removed) x.head) (labels t) k.order lss in
    let n : ℕ = length (heads_of r.rule) in
    let within = subst (AllByRecursion (IsWithin n)) f.2 r.order.within in
    let many : length t.placed ≡ length f.0 = sym (length-map t.placed (λ (p : Placed). p.label)) ∙ ap length f.3 ∙ length-map f.0 (λ (x : Step). label_of (k.kept ++ k.removed) x.head) in
    let front : heads t ≡ heads_in f.0 = w.heads_are ∙ ap₂ (λ m (o : List Step). take m (heads_in o)) many (sym order_same ∙ f.2) ∙ ap (take (length f.0)) (map-append (λ (x : Step). x.head) f.0 f.1) ∙ take_at (heads_in f.0) (heads_in f.1) (length f.0) (length-map f.0 (λ (x : Step). x.head)) in
    record {
      same_rule = rs;
      same_head = hs;
      rule = r.rule;
      rule_same = rule_same;
      valuation = r.valuation;
      distinct = subst Distinct (sym f.3) (distinct_front n (k.kept ++ k.removed) r.stands.distinct r.stands.count f.0 f.1 within (subst (λ z. Distinct (heads_in z)) f.2 r.order.distinct));
      fits = subst (λ x. AreAtHeads x (at_heads t) r.valuation) rule_same (placed_fit r.rule s.store r.valuation (k.kept ++ k.removed) r.stands t.placed f.0 front f.3 (within_front n f.0 f.1 within) w.atoms);
      guard = subst (λ (x : Simpagation ℕ). AllByRecursion (Rattle.chr_guard.specs.Values.Holds r.valuation) x.guard) rule_same r.guard;
      right = subst (λ (x : Simpagation ℕ). AllByRecursion (Rattle.chr_guard.specs.Instances.IsRight r.valuation) x.body) rule_same r.right;
      body_is = subst (λ (x : Simpagation ℕ). Rattle.chr_guard.specs.Instances.AreMadeUnder r.valuation (Rattle.chr_guard.specs.Instances.added x.body) k.body) rule_same r.body_is;
    }

-- a misfit begins nothing in the reach
pub misfit_none : (s : Space) (t : Trial) → ArePlans s.rules s.plans → WasTrialOf s.rules s.plans s.store t → IsFormed t → (IsWhole t → ⊥) → (IsPart t → ⊥) → (u : List ℕ) → Reach s u → begins (position t) u ≡ true → ⊥
misfit_none s t ps w f nw np u k b =
    let c = common s t ps w u k b in
    let part : length t.placed < length (heads_of t.rule) → ⊥ = λ less. np (record { left = less; distinct = c.distinct; valuation = c.valuation; fits = c.fits }) in
    nw (record { full = (let few = f.few in grind arith); distinct = c.distinct; valuation = c.valuation; fits = c.fits; guard = c.guard; right = c.right; body = k.body; body_is = c.body_is })

-- a part isn't in the reach
pub part_none : (s : Space) (t : Trial) → ArePlans s.rules s.plans → WasTrialOf s.rules s.plans s.store t → IsPart t → Reach s (position t) → ⊥
part_none s t ps w p k =
    let same : t.number ∷ t.head ∷ labels t ≡ k.rule ∷ k.head ∷ labels_in (k.kept ++ k.removed) k.order = k.is in
    let rs : k.rule ≡ t.number = cc in
    let lss : labels t ≡ labels_in (k.kept ++ k.removed) k.order = cc in
    let r = reached s ps (position t) k in
    let rule_same : r.rule ≡ t.rule = some_is r.rule t.rule (sym r.planned.rule_is ∙ ap (rule_at s.rules) rs ∙ w.rule_is) in
    let count : length k.order ≡ length (heads_of t.rule) = r.order.count ∙ ap (λ (x : Simpagation ℕ). length (heads_of x)) rule_same in
    omega (arith, count, p.left, length-map t.placed (λ (x : Placed). x.label), ap length lss, length-map k.order (λ (x : Step). label_of (k.kept ++ k.removed) x.head))

-- a trial with a label that has left the store begins nothing in the reach
live_among : (j : Join) (before more : List ℕ) → Grows (MayFollow j) before more → (l : ℕ) → among more l ≡ true → (a : Atom ℕ) × (atom_at j.store l ≡ Some a)
live_among j before [] g l i = absurd (cc)
live_among j before (x ∷ more) g l i =
    elim (x == l) as (λ b. (x == l ≡ b) → (a : Atom ℕ) × (atom_at j.store l ≡ Some a)) [
      | true ↦ λ e. (g.0.atom, subst (λ z. atom_at j.store z ≡ Some g.0.atom) (true-eqb x l (sym e)) g.0.live)
      | false ↦ λ e. live_among j (before ++ x ∷ []) more g.1 l (grind (arith, nat_tests))
    ] refl

among_begun : (xs ys : List ℕ) (l : ℕ) → begins xs ys ≡ true → among xs l ≡ true → among ys l ≡ true
among_begun (x ∷ xs) (y ∷ ys) l b i = let r = among_begun xs ys l in grind (arith, nat_tests, r)
among_begun xs ys l b i = absurd (grind arith)

pub gone_none : (s : Space) (t : Trial) (l : ℕ) → among (labels t) l ≡ true → atom_at s.store l ≡ None → (u : List ℕ) → Reach s u → begins (position t) u ≡ true → ⊥
gone_none s t l i gone u k b =
    let n = branch s u k.trial in
    let all : begins (t.number ∷ t.head ∷ labels t) (n.r ∷ n.h ∷ n.labels) ≡ true = subst (λ z. begins (position t) z ≡ true) n.is b in
    let lss : begins (labels t) n.labels ≡ true = grind (arith, nat_tests) in
    let live = live_among (join_in s n.rule n.order) [] n.labels n.grows l (among_begun (labels t) n.labels l lss i) in
    let z : None ≡ Some live.0 = sym gone ∙ live.1 in
    absurd (cc)

-- an admissible trial was one
was : (store : Store) (ps : List Placed) → AllByRecursion (λ p. atom_at store p.label ≡ Some p.atom) ps → AllByRecursion (λ p. (a : Atom ℕ) → atom_at store p.label ≡ Some a → a ≡ p.atom) ps
was store [] a = tt
was store (p ∷ ps) a = (λ b e. some_is b p.atom (sym e ∙ a.0), was store ps a.1)

pub was_trial : (s : Space) (t : Trial) → IsTrialOf s.rules s.plans s.store t → WasTrialOf s.rules s.plans s.store t
was_trial s t i = record { rule_is = i.rule_is; order = i.order; order_is = i.order_is; heads_are = i.heads_are; atoms = was s.store t.placed i.live }
