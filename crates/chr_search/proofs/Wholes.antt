-- Trials whose heads are all tried.
use Rattle.std.proofs.Common.{◌≡◌, ◌↔◌, ℕ, zero, suc, ◌+◌, ◌<◌, ◌≤◌, Bool, true, false, ◌==◌, if◌then◌else◌, List, [], ◌∷◌, map, drop, length, Option, Some, None, MatchOption, slice_get, refl, ◌∙◌, ap, ap₂, subst, arith}
use Rattle.std.specs.List.{AllByRecursion}
use Rattle.std.specs.Option.{option_map}
use Rattle.std.proofs.lemmas.Bool.Decides.{nat_tests}
use Rattle.std.proofs.lemmas.List.{length-map}
use Rattle.chr_value.specs.Atoms.{Value, Atom}
use Rattle.chr_rule.specs.Rules.{RuleAtom, Simpagation}
use Rattle.chr_guard.specs.Values.{Valuation}
use Rattle.chr_guard.specs.Instances.{atom_under, IsInstance, NoInstance}
use Rattle.chr_guard.specs.Matching.{IsAtHead, AreAtHeads, HeadsAre, IsFit, IsInstanceUnder}
use Rattle.chr_guard.proofs.Under.{under_parts}
use Rattle.chr_guard.proofs.Whole.{heads_of as instance_heads}
use Rattle.chr_model.specs.Stores.{among, Distinct}
use Rattle.chr_plan.specs.Orders.{heads_of}
use Rattle.chr_search.specs.Verdicts.{Placed, Trial, labels, at_heads, IsFormed, IsPart, IsWhole, IsWholeUnder}

-- the atom at a head, and the atoms at the next n heads
abbrev pub atom_of : List Placed → ℕ → Atom ℕ
atom_of [] h = record { name = 0; args = [] }
atom_of (p ∷ ps) h = if p.head == h then p.atom else atom_of ps h

abbrev pub atoms_from : List Placed → ℕ → ℕ → List (Atom ℕ)
atoms_from ps h zero = []
atoms_from ps h (suc n) = atom_of ps h ∷ atoms_from ps (suc h) n

abbrev pub in_head_order : Trial → List (Atom ℕ)
in_head_order t = atoms_from t.placed 1 (length (heads_of t.rule))

abbrev pub places : List Placed → List (ℕ × Atom ℕ)
places ps = map (λ p. (p.head, p.atom)) ps

at_head : (rule : Simpagation ℕ) (v : Valuation) (ps : List Placed) → AreAtHeads rule (places ps) v → (h : ℕ) → among (map (λ (p : Placed). p.head) ps) h ≡ true → IsAtHead rule v (h, atom_of ps h)
at_head rule v [] a h i = absurd (cc)
at_head rule v (p ∷ ps) a h i = let rest = at_head rule v ps a.1 h in grind (arith, nat_tests, a.0)

under_from : (v : Valuation) (ps : List Placed) (hs : List (RuleAtom ℕ)) (h : ℕ) → ((i : ℕ) → i < length hs → option_map (atom_under v) (slice_get hs i) ≡ Some (Some (atom_of ps (h + i)))) → map (atom_under v) hs ≡ map (λ a. Some a) (atoms_from ps h (length hs))
under_from v ps [] h f = refl
under_from v ps (x ∷ hs) h f =
    let first : Some (atom_under v x) ≡ Some (Some (atom_of ps h)) = subst (λ n. Some (atom_under v x) ≡ Some (Some (atom_of ps n))) (let q : h + 0 ≡ h = omega arith in q) (f 0 (omega arith)) in
    let one : atom_under v x ≡ Some (atom_of ps h) = cc in
    ap₂ (λ y ys. y ∷ ys) one (under_from v ps hs (suc h) (λ i less. subst (λ n. option_map (atom_under v) (slice_get hs i) ≡ Some (Some (atom_of ps n))) (let q : h + suc i ≡ suc h + i = omega arith in q) (f (suc i) (omega arith))))

from_under : (v : Valuation) (ps : List Placed) (hs : List (RuleAtom ℕ)) (h : ℕ) → map (atom_under v) hs ≡ map (λ a. Some a) (atoms_from ps h (length hs)) → (i : ℕ) → i < length hs → option_map (atom_under v) (slice_get hs i) ≡ Some (Some (atom_of ps (h + i)))
from_under v ps [] h e i less = absurd (omega arith)
from_under v ps (x ∷ hs) h e zero less =
    let one : atom_under v x ≡ Some (atom_of ps h) = cc in
    ap (λ o. Some o) one ∙ ap (λ n. Some (Some (atom_of ps n))) (let q : h ≡ h + 0 = omega arith in q)
from_under v ps (x ∷ hs) h e (suc i) less =
    from_under v ps hs (suc h) (cc) i (omega arith) ∙ ap (λ n. Some (Some (atom_of ps n))) (let q : suc h + i ≡ h + suc i = omega arith in q)

-- what is at the head of each of them is its own
others_apart : (ps : List Placed) (h : ℕ) → among (map (λ (p : Placed). p.head) ps) h ≡ false → AllByRecursion (λ q. (h == q.head) ≡ false) ps
others_apart [] h e = tt
others_apart (p ∷ ps) h e = ((grind (arith, nat_tests)), others_apart ps h (grind (arith, nat_tests)))

module _ {X : Type 0} (f : Placed → X) (at : List Placed → ℕ → X) (more : (p : Placed) (ps : List Placed) (h : ℕ) → at (p ∷ ps) h ≡ (if p.head == h then f p else at ps h)) where
  past_first : (p : Placed) (ps qs : List Placed) → AllByRecursion (λ q. (p.head == q.head) ≡ false) qs → AllByRecursion (λ q. at ps q.head ≡ f q) qs → AllByRecursion (λ q. at (p ∷ ps) q.head ≡ f q) qs
  past_first p ps [] a b = tt
  past_first p ps (q ∷ qs) a b = (more p ps q.head ∙ ap (λ (c : Bool). if c then f p else at ps q.head) a.0 ∙ b.0, past_first p ps qs a.1 b.1)

  pub own : (ps : List Placed) → Distinct (map (λ (p : Placed). p.head) ps) → AllByRecursion (λ p. at ps p.head ≡ f p) ps
  own [] d = tt
  own (p ∷ ps) d =
      let here : (p.head == p.head) ≡ true = grind (arith, nat_tests) in
      (more p ps p.head ∙ ap (λ (c : Bool). if c then f p else at ps p.head) here, past_first p ps ps (others_apart ps p.head d.0) (own ps d.1))

own_atoms : (ps : List Placed) → Distinct (map (λ (p : Placed). p.head) ps) → AllByRecursion (λ p. atom_of ps p.head ≡ p.atom) ps
own_atoms = own (λ p. p.atom) atom_of (λ p ps h. refl)

back_at : (rule : Simpagation ℕ) (v : Valuation) (all ps : List Placed) → HeadsAre rule (atoms_from all 1 (length (heads_of rule))) v → AllByRecursion (λ p. (1 ≤ p.head) × (p.head ≤ length (heads_of rule)) × (p.label ≤ 4294967295)) ps → AllByRecursion (λ p. atom_of all p.head ≡ p.atom) ps → AreAtHeads rule (places ps) v
back_at rule v all [] e w o = tt
back_at rule v all (p ∷ ps) e w o = (by_number p.head w.0.0 w.0.1 p.atom o.0, back_at rule v all ps e w.1 o.1)
  where
    by_number : (h : ℕ) → 1 ≤ h → h ≤ length (heads_of rule) → (a : Atom ℕ) → atom_of all h ≡ a → IsAtHead rule v (h, a)
    by_number zero low high a s = absurd (omega arith)
    by_number (suc i) low high a s =
        from_under v all (heads_of rule) 1 e i (omega arith) ∙ ap (λ x. Some (Some x)) (ap (atom_of all) (let q : 1 + i ≡ suc i = omega arith in q) ∙ s)

-- all heads are tried: the labels' atoms in head order are the heads'
pub all_heads : (t : Trial) → IsFormed t → length t.placed ≡ length (heads_of t.rule) → (v : Valuation) → AreAtHeads t.rule (at_heads t) v ↔ HeadsAre t.rule (in_head_order t) v
all_heads t f full v = (
  λ a. under_from v t.placed (heads_of t.rule) 1 (λ i less.
      subst (λ n. option_map (atom_under v) (slice_get (heads_of t.rule) i) ≡ Some (Some (atom_of t.placed n))) (let q : suc i ≡ 1 + i = omega arith in q)
      (at_head t.rule v t.placed a (suc i) (f.full full (suc i) (omega arith) (omega arith)))),
  λ e. back_at t.rule v t.placed t.placed e f.within (own_atoms t.placed f.distinct),
)

pub full_fit : (t : Trial) → IsFormed t → length t.placed ≡ length (heads_of t.rule) → (binding : List (Option (Value ℕ))) → IsFit t.rule (AreAtHeads t.rule (at_heads t)) binding → IsFit t.rule (HeadsAre t.rule (in_head_order t)) binding
full_fit t f full binding b = record {
  places = b.places;
  exactly = λ v. (λ e. (all_heads t f full v).0 ((b.exactly v).0 e), λ h. (b.exactly v).1 ((all_heads t f full v).1 h));
}

pub is_whole : (t : Trial) → IsFormed t → length t.placed ≡ length (heads_of t.rule) → Distinct (labels t) → (binding : List (Option (Value ℕ))) → IsInstanceUnder t.rule (in_head_order t) binding → IsWhole t
is_whole t f full d binding i = record {
  full = full;
  distinct = d;
  valuation = i.instance.valuation;
  fits = (all_heads t f full i.instance.valuation).1 (instance_heads t.rule (in_head_order t) i.body i.instance);
  guard = i.instance.guard;
  right = i.instance.right;
  body = i.body;
  body_is = i.instance.body_is;
}

pub whole_instance : (t : Trial) → IsFormed t → (w : IsWhole t) → IsInstance t.rule (in_head_order t) w.body
whole_instance t f w =
    let parts = under_parts w.valuation t.rule.kept t.rule.removed (in_head_order t) ((all_heads t f w.full w.valuation).0 w.fits) in
    record {
      valuation = w.valuation;
      guard = w.guard;
      right = w.right;
      kept_are = parts.0;
      removed_are = parts.1;
      some_removed = λ e. absurd (omega (arith, length-map t.rule.removed (atom_under w.valuation), ap length parts.1, length-map (drop (length t.rule.kept) (in_head_order t)) (λ a. Some a), ap length e, f.scoped.limits.removed));
      body_is = w.body_is;
    }

-- the verdicts
pub never_distinct : (t : Trial) → (Distinct (labels t) → ⊥) → (IsWhole t → ⊥) × (IsPart t → ⊥)
never_distinct t n = (λ w. n w.distinct, λ p. n p.distinct)

pub never_fits : (t : Trial) → ((v : Valuation) → AreAtHeads t.rule (at_heads t) v → ⊥) → (IsWhole t → ⊥) × (IsPart t → ⊥)
never_fits t n = (λ w. n w.valuation w.fits, λ p. n p.valuation p.fits)

pub no_instance : (t : Trial) → IsFormed t → length t.placed ≡ length (heads_of t.rule) → NoInstance t.rule (in_head_order t) → IsWhole t → ⊥
no_instance t f full n w = n w.body (whole_instance t f w)

-- the binding that is found, or none
pub completed : (t : Trial) → IsFormed t → length t.placed ≡ length (heads_of t.rule) → Distinct (labels t) → (found : Option (List (Option (Value ℕ)))) → MatchOption found (NoInstance t.rule (in_head_order t)) (IsInstanceUnder t.rule (in_head_order t)) → MatchOption found (IsWhole t → ⊥) (IsWholeUnder t)
unfolding is_whole
completed t f full d None m = no_instance t f full m
completed t f full d (Some binding) m = record { whole = is_whole t f full d binding m; body_is = m.body_is }
