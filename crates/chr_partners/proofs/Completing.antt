-- Listed labels at the homes of their keys.
use Rattle.std.proofs.Common.{◌≡◌, ◌≢◌, ◌↔◌, ◌⊎◌, inl, inr, ℕ, zero, suc, ◌+◌, ◌<◌, ◌≤◌, ◌++◌, ◌==◌, if◌then◌else◌, Bool, true, false, List, [], ◌∷◌, Option, Some, None, Result, Ok, Err, OnOk, OnErr, IsSome, refl, sym, ap, subst, ◌∙◌, arith, length}
use Rattle.std.proofs.lemmas.Bool.{cases_eq, false≢true}
use Rattle.std.proofs.lemmas.Bool.Decides.{nat_tests}
use Rattle.std.proofs.lemmas.Option.{slice_get_within}
use Rattle.chr_value.specs.Atoms.{Value, Atom}
use Rattle.chr_value.specs.Stores.{Store, atom_at, drop_label}
use Rattle.chr_partners.specs.Partners.{ListedStore, IsIn, IsListed, with_atom, without_label, arg_at}
use Rattle.chr_partners.specs.declared.atoms.Held.{Held}
use Rattle.chr_partners.specs.Atoms.{IsHeld}
use Rattle.chr_partners.specs.Hashes.{hash, value_word, found_word, atom_hash}
use Rattle.chr_partners.specs.Homes.{Lists, labels_at, HasAll, HasLive, is_kept, IsEntered, HoldsOfListed, HasListed, IsComplete}
use Rattle.chr_partners.proofs.Holding.{in_dropped}

atom_pushed : (k n : ℕ) (a : Atom ℕ) (es : Store) → k ≢ n → atom_at (es ++ (n, a) ∷ []) k ≡ atom_at es k
atom_pushed k n a [] d = grind (arith, nat_tests, d)
atom_pushed k n a (e ∷ es) d = ap (λ (o : Option (Atom ℕ)). if e.0 == k then Some e.1 else o) (atom_pushed k n a es d)

atom_dropped : (k n : ℕ) (es : Store) → k ≢ n → atom_at (drop_label n es) k ≡ atom_at es k
atom_dropped k n [] d = refl
atom_dropped k n (e ∷ es) d = grind (arith, nat_tests, atom_dropped k n es d, d)

in_pushed : (k i : ℕ) (ms : List ℕ) → IsIn k (ms ++ i ∷ []) → (k ≡ i) ⊎ IsIn k ms
in_pushed k i [] j = elim j [ inl e ↦ inl (sym e) | inr n ↦ elim n [ ] ]
in_pushed k i (m ∷ ms) j = elim j [
  | inl e ↦ inr (inl e)
  | inr n ↦ elim (in_pushed k i ms n) [ inl e ↦ inl e | inr o ↦ inr (inr o) ]
]

one_atom : (x y : Atom ℕ) → Some x ≡ Some y → x ≡ y
one_atom x y h = cc

none_some : (x : Atom ℕ) → None ≡ Some x → ⊥
none_some x h = absurd (cc)

-- ---- what holds of each listed label, after a change

module _ (Holds : ℕ → Atom ℕ → Type 0) where
  holds_pushed : (s : ListedStore) (a : Atom ℕ) → (IsIn s.next s.listed → ⊥) → HoldsOfListed s Holds → HoldsOfListed (with_atom a s) Holds
  holds_pushed s a fresh h k b listed = elim (cases_eq k s.next) [
    | inl e ↦ absurd (fresh (subst (λ (n : ℕ). IsIn n s.listed) e listed.listed))
    | inr d ↦ h k b (record { there = sym (atom_pushed k s.next a s.store d) ∙ listed.there; listed = listed.listed })
  ]

  -- after an atom was put under the next label, or not
  pub holds_after_push : {X E : Type 0} (r : Result X E) (s new : ListedStore) (a : Atom ℕ) → OnOk r (new ≡ with_atom a s) → OnErr r (new ≡ s) → OnOk r (IsIn s.next s.listed → ⊥) → HoldsOfListed s Holds → HoldsOfListed new Holds
  holds_after_push (Ok x) s new a ok err fresh h = subst (λ (z : ListedStore). HoldsOfListed z Holds) (sym ok) (holds_pushed s a fresh h)
  holds_after_push (Err x) s new a ok err fresh h = subst (λ (z : ListedStore). HoldsOfListed z Holds) (sym err) h

  -- without a label
  pub holds_without : (l : ℕ) (s new : ListedStore) → new ≡ without_label l s → HoldsOfListed s Holds → HoldsOfListed new Holds
  holds_without l s new e h = subst (λ (z : ListedStore). HoldsOfListed z Holds) (sym e) (λ k a listed.
      let r = in_dropped l k s.listed listed.listed in
      h k a (record { there = sym (atom_dropped k l s.store r.0) ∙ listed.there; listed = r.1 }))

  -- with a label more that is listed
  pub holds_listed : (l : ℕ) (a : Atom ℕ) (s new : ListedStore) → atom_at s.store l ≡ Some a → Holds l a → new.store ≡ s.store → ((k : ℕ) → k ≢ l → IsIn k new.listed ↔ IsIn k s.listed) → HoldsOfListed s Holds → HoldsOfListed new Holds
  holds_listed l a s new there own same others h k b listed =
      let found : atom_at s.store k ≡ Some b = ap (λ (es : Store). atom_at es k) (sym same) ∙ listed.there in
      elim (cases_eq k l) [
        | inl e ↦ (
            let is : a ≡ b = one_atom a b (sym there ∙ ap (atom_at s.store) (sym e) ∙ found) in
            subst (λ (z : Atom ℕ). Holds k z) is (subst (λ (n : ℕ). Holds n a) (sym e) own))
        | inr d ↦ h k b (record { there = found; listed = (others k d).0 listed.listed })
      ]

-- a label that is listed has an atom
listed_some : (s : ListedStore) (k : ℕ) (a : Atom ℕ) → IsListed s k a → IsSome (atom_at s.store k)
listed_some s k a listed = subst (λ (o : Option (Atom ℕ)). IsSome o) (sym listed.there) refl

-- where labels without atoms have gone
pub has_left : (s : ListedStore) (old new : List ℕ) → ((l : ℕ) → IsIn l old → IsSome (atom_at s.store l) → IsIn l new) → HasListed s old → HasListed s new
has_left s old new live h k a listed = live k (h k a listed) (listed_some s k a listed)

-- where labels have come
pub has_all : (s : ListedStore) (old new : List ℕ) → ((l : ℕ) → IsIn l old → IsIn l new) → HasListed s old → HasListed s new
has_all s old new all h k a listed = all k (h k a listed)

module _ (places : List Bool) where
  pub complete_left : (s : ListedStore) (old new : Lists) → HasLive s.store old new → IsComplete s places old → IsComplete s places new
  complete_left s old new live h k a listed place within kept = live (atom_hash a place) k (h k a listed place within kept) (listed_some s k a listed)

  pub complete_all : (s : ListedStore) (old new : Lists) → HasAll old new → IsComplete s places old → IsComplete s places new
  complete_all s old new all h k a listed place within kept = all (atom_hash a place) k (h k a listed place within kept)

  -- ---- place by place, and label by label

  -- the label is at the homes of the keys of the places below one
  module _ (label : ℕ) (a : Atom ℕ) where
    abbrev pub AreEntered : Lists → ℕ → Type 0
    AreEntered lists i = (p : ℕ) → p < i → is_kept places a.name p ≡ true → IsIn label (labels_at lists (atom_hash a p))

    pub next_place : (i : ℕ) (old new : Lists) → HasAll old new → AreEntered old i → (is_kept places a.name i ≡ true → IsIn label (labels_at new (atom_hash a i))) → AreEntered new (i + 1)
    next_place i old new all h own p lt kept = elim (cases_eq p i) [
      | inl e ↦ subst (λ (q : ℕ). IsIn label (labels_at new (atom_hash a q))) (sym e) (own (ap (is_kept places a.name) (sym e) ∙ kept))
      | inr d ↦ all (atom_hash a p) label (h p (omega arith) kept)
    ]

  -- the listed ones of these labels are at the homes of their keys
  module _ (s : ListedStore) where
    abbrev pub AreComplete : Lists → List ℕ → Type 0
    AreComplete lists labels = (k : ℕ) (a : Atom ℕ) → IsIn k labels → IsListed s k a → IsEntered places lists k a

    pub next_label : (labels : List ℕ) (i : ℕ) (old new : Lists) → HasAll old new → AreComplete old labels → ((a : Atom ℕ) → IsListed s i a → IsEntered places new i a) → AreComplete new (labels ++ i ∷ [])
    next_label labels i old new all h own k a j listed = elim (in_pushed k i labels j) [
      | inl e ↦ subst (λ (n : ℕ). IsEntered places new n a) (sym e) (own a (subst (λ (n : ℕ). IsListed s n a) e listed))
      | inr m ↦ λ place within kept. all (atom_hash a place) k (h k a m listed place within kept)
    ]

    module _ {A : Type 0} (lists : Lists) (i : ℕ) (h : Held A) (is : IsHeld s i h) where
      pub own_entered : IsEntered places lists h.label h.atom → (a : Atom ℕ) → IsListed s i a → IsEntered places lists i a
      own_entered entered a listed = (
          let same : h.atom ≡ a = one_atom h.atom a (sym is.atom ∙ listed.there) in
          subst (λ (z : Atom ℕ). IsEntered places lists i z) same (subst (λ (n : ℕ). IsEntered places lists n h.atom) is.label entered))

      pub unlisted : h.listed ≡ false → (a : Atom ℕ) → IsListed s i a → IsEntered places lists i a
      unlisted f a listed = absurd (false≢true (sym f ∙ is.listed.1 listed.listed))

    pub no_atom : (lists : Lists) (i : ℕ) → atom_at s.store i ≡ None → (a : Atom ℕ) → IsListed s i a → IsEntered places lists i a
    no_atom lists i e a listed = absurd (none_some a (sym e ∙ listed.there))

  -- ---- what is found

  module _ (s : ListedStore) (lists : Lists) (h : IsComplete s places lists) (name l : ℕ) (a : Atom ℕ) (listed : IsListed s l a) (is : a.name ≡ name) where
    pub named : IsIn l (labels_at lists (hash name 0 0))
    named = subst (λ (n : ℕ). IsIn l (labels_at lists (hash n 0 0))) is (h l a listed 0 (omega arith) refl)

    within : (place : ℕ) (v : Value ℕ) → arg_at a place ≡ Some v → place ≤ length a.args
    within zero v e = omega arith
    within (suc i) v e = let lt = slice_get_within a.args i v e in omega arith

    pub keyed : (place : ℕ) (v : Value ℕ) → arg_at a place ≡ Some v → true ≡ is_kept places name place → IsIn l (labels_at lists (hash name place (value_word v)))
    keyed place v e kept =
        subst (λ (w : ℕ). IsIn l (labels_at lists (hash name place w))) (ap found_word e)
        (subst (λ (n : ℕ). IsIn l (labels_at lists (hash n place (found_word (arg_at a place))))) is
        (h l a listed place (within place v e) (ap (λ (n : ℕ). is_kept places n place) is ∙ sym kept)))
