-- A store that has no more than another gives no more trials.
use Rattle.std.proofs.Common.{◌≡◌, ℕ, ◌<◌, ◌≤◌, true, List, [], ◌∷◌, ◌++◌, length, append_assoc, Some, refl, sym, subst, arith, ◌⊎◌, inl, inr, suc}
use Rattle.std.proofs.lemmas.Bool.Decides.{nat_tests}
use Rattle.chr_value.specs.Atoms.{Atom}
use Rattle.chr_rule.specs.Rules.{Simpagation}
use Rattle.std.specs.List.{AllByRecursion}
use Rattle.std.proofs.lemmas.List.{append-nil}
use Rattle.chr_guard.specs.Values.{Valuation, Holds}
use Rattle.chr_guard.specs.Instances.{AreMadeUnder, IsRight, added}
use Rattle.chr_model.specs.Stores.{Store, atom_at, drop_label, among}
use Rattle.chr_model.specs.Programs.{Instances}
use Rattle.chr_model.proofs.Stores.{among-itself, among-more, atom_at-old, atom_at-drop, Labelled-move}
use Rattle.chr_plan.specs.Plans.{ArePlans}
use Rattle.chr_plan.specs.Orders.{heads_of}
use Rattle.chr_plan.specs.declared.order.Step.{Step}
use Rattle.chr_search.specs.Tree.{Grows}
use Rattle.chr_search.specs.Trials.{Join, Fit, IsInTurn, MayFollow, Space, join_in, IsPlanned, Child, IsTrial}
use Rattle.chr_search.specs.Reach.{label_of, labels_in, Reach, MayHave, HasNoMore, over}
use Rattle.chr_search.proofs.Plans.{among_push, heads_in, planned_order, IsOrder}
use Rattle.chr_search.proofs.Descents.{grows_in, trial_of}
use Rattle.chr_search.proofs.Following.{follows_live}
use Rattle.chr_search.proofs.Reaches.{Stands, stands, head_of, reach_of}

-- the labels that trials of a join may have
abbrev pub AllSeen : Join → List ℕ → Type 0
AllSeen j ls = (l : ℕ) → among ls l ≡ true → (l ≡ j.active) ⊎ (l < j.bound)

turn_seen : (j : Join) (before : List ℕ) (l : ℕ) → IsInTurn j before l → (l ≡ j.active) ⊎ (l < j.bound)
turn_seen j [] l t = inl t
turn_seen j (x ∷ before) l t = inr t

seen_push : (j : Join) (before : List ℕ) (x : ℕ) → AllSeen j before → (x ≡ j.active) ⊎ (x < j.bound) → AllSeen j (before ++ x ∷ [])
seen_push j before x a s l i = let old = a l in let more = among_push before x l in grind (arith, nat_tests)

pub grows_seen : (j : Join) (before more : List ℕ) → AllSeen j before → Grows (MayFollow j) before more → AllSeen j (before ++ more)
grows_seen j before [] a g = subst (AllSeen j) (sym (append-nil before)) a
grows_seen j before (x ∷ more) a g =
    subst (AllSeen j) (append_assoc before (x ∷ []) more) (grows_seen j (before ++ x ∷ []) more (seen_push j before x a (turn_seen j before x g.0.turn)) g.1)

abbrev pub with_store : Join → Store → Join
with_store j store = record j { store = store }

fit_shrunk : (j : Join) (new : Store) → ((l : ℕ) (a : Atom ℕ) → (l ≡ j.active) ⊎ (l < j.bound) → atom_at new l ≡ Some a → atom_at j.store l ≡ Some a)
    → (v : Valuation) (steps : List Step) (ls : List ℕ) → AllSeen j ls → Fit (with_store j new) v steps ls → Fit j v steps ls
fit_shrunk j new f v steps [] s h = tt
fit_shrunk j new f v [] (l ∷ ls) s h = h
fit_shrunk j new f v (x ∷ steps) (l ∷ ls) s h = (
  record { atom = h.0.atom; live = f l h.0.atom (s l (among-itself l ls)) h.0.live; fits = h.0.fits },
  fit_shrunk j new f v steps ls (λ k i. s k (among-more l ls k i)) h.1,
)

turn_same : (j : Join) (new : Store) (before : List ℕ) (l : ℕ) → IsInTurn (with_store j new) before l → IsInTurn j before l
turn_same j new [] l t = t
turn_same j new (x ∷ before) l t = t

pub grows_shrunk : (j : Join) (new : Store) → ((l : ℕ) (a : Atom ℕ) → (l ≡ j.active) ⊎ (l < j.bound) → atom_at new l ≡ Some a → atom_at j.store l ≡ Some a)
    → (before more : List ℕ) → AllSeen j before → Grows (MayFollow (with_store j new)) before more → Grows (MayFollow j) before more
grows_shrunk j new f before [] s g = tt
grows_shrunk j new f before (x ∷ more) s g =
    let m = g.0 in
    let turn : IsInTurn j before x = turn_same j new before x m.turn in
    let seen = turn_seen j before x turn in (
      follows_live j before x turn m.distinct m.valuation (fit_shrunk j new f m.valuation j.order before s m.fits) m.step m.step_is (record { head = m.head; head_is = m.head_is; atom = m.atom; live = f x m.atom seen m.live; pred = m.pred }) m.key,
      grows_shrunk j new f (before ++ x ∷ []) more (seen_push j before x s seen) g.1,
    )

-- the labels of a trial, with its plan
pub record Branch (s : Space) (t : List ℕ) : Type 0 where
  pub r : ℕ
  pub h : ℕ
  pub labels : List ℕ
  pub is : t ≡ r ∷ h ∷ labels
  pub some : 1 ≤ length labels
  pub rule : Simpagation ℕ
  pub order : List Step
  pub planned : IsPlanned s r h rule order
  pub grows : Grows (MayFollow (join_in s rule order)) [] labels

pub branch : (s : Space) (t : List ℕ) → IsTrial s t → Branch s t
branch s (r ∷ h ∷ labels) i =
    let c = i.grows.1.0 in
    record { r = r; h = h; labels = labels; is = refl; some = omega (arith, i.deep); rule = c.0; order = c.1; planned = c.2; grows = grows_in s r h c.0 c.1 c.2 [] labels i.grows.1.1 }
branch s t i = absurd (omega (arith, i.deep))

none_seen : (j : Join) → AllSeen j []
none_seen j l i = absurd (cc)

pub trial_shrunk : (s : Space) (new : Store) → HasNoMore s new → (t : List ℕ) → IsTrial (over s new) t → IsTrial s t
trial_shrunk s new f t i =
    let b = branch (over s new) t i in
    let p : IsPlanned s b.r b.h b.rule b.order = record { rule_is = b.planned.rule_is; order_is = b.planned.order_is } in
    subst (IsTrial s) (sym b.is) (trial_of s b.r b.h b.labels b.rule b.order p b.some (grows_shrunk (join_in s b.rule b.order) new f [] b.labels (none_seen (join_in s b.rule b.order)) b.grows))

-- the labels of a trial that has all of an instance
pub among_named : (ls : List ℕ) (steps : List Step) (j : ℕ) → among (heads_in steps) j ≡ true → among (labels_in ls steps) (label_of ls j) ≡ true
among_named ls [] j h = absurd (cc)
among_named ls (x ∷ steps) j h = let more = among_named ls steps j in grind (arith, nat_tests)

-- what a trial of the reach has
pub record Reached (s : Space) (t : List ℕ) (k : Reach s t) : Type 0 where
  pub rule : Simpagation ℕ
  pub valuation : Valuation
  pub planned : IsPlanned s k.rule k.head rule k.order
  pub order : IsOrder (heads_of rule) k.head k.order
  pub stands : Stands rule s.store valuation (k.kept ++ k.removed)
  pub grows : Grows (MayFollow (join_in s rule k.order)) [] (labels_in (k.kept ++ k.removed) k.order)
  pub guard : AllByRecursion (Holds valuation) rule.guard
  pub right : AllByRecursion (IsRight valuation) rule.body
  pub body_is : AreMadeUnder valuation (added rule.body) k.body

pub reached : (s : Space) → ArePlans s.rules s.plans → (t : List ℕ) (k : Reach s t) → Reached s t k
reached s ps t k =
    let rule = k.instance.instance.0 in
    let p : IsPlanned s k.rule k.head rule k.order = record { rule_is = k.instance.instance.1; order_is = k.order_is } in
    let g : Grows (Child s) [] (k.rule ∷ k.head ∷ labels_in (k.kept ++ k.removed) k.order) = subst (Grows (Child s) []) k.is k.trial.grows in
    record {
      rule = rule;
      valuation = (k.instance.instance.2).valuation;
      planned = p;
      order = planned_order s.rules s.plans ps k.rule k.head rule k.order p.rule_is p.order_is;
      stands = stands rule s.store k.kept k.removed k.instance.kept_atoms k.instance.removed_atoms k.body k.instance.instance.2 k.instance.distinct k.instance.kept_there k.instance.removed_there;
      grows = grows_in s k.rule k.head rule k.order p [] (labels_in (k.kept ++ k.removed) k.order) g.1.1;
      guard = (k.instance.instance.2).guard;
      right = (k.instance.instance.2).right;
      body_is = (k.instance.instance.2).body_is;
    }

pub reach_named : (s : Space) (ps : ArePlans s.rules s.plans) (t : List ℕ) (k : Reach s t) → (l : ℕ) → among (k.kept ++ k.removed) l ≡ true → among (labels_in (k.kept ++ k.removed) k.order) l ≡ true
reach_named s ps t k l i =
    let r = reached s ps t k in
    let h = head_of (k.kept ++ k.removed) l i in
    subst (λ z. among (labels_in (k.kept ++ k.removed) k.order) z ≡ true) h.2 (among_named (k.kept ++ k.removed) k.order (suc h.0) (r.order.named (suc h.0) (omega arith) (omega (arith, h.1, r.stands.count))))

pub reach_seen : (s : Space) (ps : ArePlans s.rules s.plans) (t : List ℕ) (k : Reach s t) → (l : ℕ) → among (k.kept ++ k.removed) l ≡ true → MayHave s l
reach_seen s ps t k l i =
    let r = reached s ps t k in
    grows_seen (join_in s r.rule k.order) [] (labels_in (k.kept ++ k.removed) k.order) (none_seen (join_in s r.rule k.order)) r.grows l (reach_named s ps t k l i)

pub reach_shrunk : (s : Space) → ArePlans s.rules s.plans → (new : Store) → HasNoMore s new → (t : List ℕ) → Reach (over s new) t → Reach s t
reach_shrunk s ps new f t k =
    let i = Labelled-move (Instances s.rules) new s.store k.rule k.kept k.removed k.body (λ l a i at. f l a (reach_seen (over s new) ps t k l i) at) k.instance in
    subst (Reach s) (sym k.is) (reach_of s k.rule k.head k.order k.order_is k.kept k.removed k.body i (subst (IsTrial s) k.is (trial_shrunk s new f t k.trial)))

-- what others do to the store
pub removed_no_more : (s : Space) (l : ℕ) → HasNoMore s (drop_label l s.store)
removed_no_more s l m a seen at = grind (arith, nat_tests, atom_at-drop s.store l m)

pub inserted_no_more : (s : Space) (l : ℕ) (a : Atom ℕ) → s.active < l → s.bound ≤ l → HasNoMore s (s.store ++ (l, a) ∷ [])
inserted_no_more s l a over_active over_bound m b (inl seen) at = atom_at-old s.store l a m b (λ e. absurd (omega arith)) at
inserted_no_more s l a over_active over_bound m b (inr seen) at = atom_at-old s.store l a m b (λ e. absurd (omega arith)) at
