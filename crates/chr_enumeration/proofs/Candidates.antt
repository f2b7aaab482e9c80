-- Which labels are candidates for a head.
use Rattle.std.proofs.Common.{◌≡◌, ◌<◌, ℕ, suc, List, map, length, get_or, Option, Some, None, refl, sym, ap, ◌∙◌}
use Rattle.std.specs.Prelude.{slice_get}
use Rattle.std.specs.Option.{option_map}
use Rattle.std.proofs.lemmas.Option.{slice_get-map, slice_get_read}
use Rattle.chr_value.specs.Atoms.{Value, Atom}
use Rattle.chr_value.proofs.Chosen.{some_is}
use Rattle.chr_model.specs.Stores.{Store}
use Rattle.chr_rule.specs.Rules.{Term, Var, Given, Open, RuleAtom, Simpagation, head_at}
use Rattle.chr_guard.specs.Values.{Valuation, term_under, key_under}
use Rattle.chr_guard.specs.Bindings.{Extends, bound_at}
use Rattle.chr_guard.proofs.Under.{atom_is}
use Rattle.chr_enumeration.specs.Partners.{HasAllBut, IsNamed, HasAt, argument_at}
use Rattle.chr_enumeration.specs.Picks.{MayBeHead}
use Rattle.chr_enumeration.proofs.Wholes.{head_is}

key_stands : (binding : List (Option (Value ℕ))) (v : Valuation) (t : Term ℕ) (value : Value ℕ) → Extends v binding → key_under (bound_at binding) t ≡ Some value → term_under v t ≡ Some value
key_stands binding v (Var x) value extends key = extends x value key
key_stands binding v (Given u) value extends key = key
key_stands binding v (Open s ts) value extends key = let z : None ≡ Some value = key in absurd (cc)

argument_there : (v : Valuation) (ts : List (Term ℕ)) (values : List (Value ℕ)) (i : ℕ) (t : Term ℕ) (value : Value ℕ) → map (term_under v) ts ≡ map (λ u. Some u) values → slice_get ts i ≡ Some t → term_under v t ≡ Some value → slice_get values i ≡ Some value
argument_there v ts values i t value all at is =
    let both : option_map (λ (u : Value ℕ). Some u) (slice_get values i) ≡ Some (Some value) =
    sym (slice_get-map (λ (u : Value ℕ). Some u) values i) ∙ ap (λ us. slice_get us i) (sym all) ∙ slice_get-map (term_under v) ts i ∙ ap (option_map (term_under v)) at ∙ ap (λ o. Some o) is in
    elim (slice_get values i) as (λ o. option_map (λ (u : Value ℕ). Some u) o ≡ Some (Some value) → o ≡ Some value) [
      | None ↦ λ e. let z : None ≡ Some (Some value) = e in absurd (cc)
      | Some u ↦ λ e. some_is (Some u) (Some value) e
    ] both

-- a list that has more has these
pub has_all_as : (own : ℕ) (store : Store) (Such Other : Atom ℕ → Type 0) (labels : List ℕ) → ((a : Atom ℕ) → Such a → Other a) → HasAllBut own store Other labels → HasAllBut own store Such labels
has_all_as own store Such Other labels f h l a at away such = h l a at away (f a such)

module _ (rule : Simpagation ℕ) (n : ℕ) (binding : List (Option (Value ℕ))) (s : RuleAtom ℕ) (head : head_at rule n ≡ Some s) where
  pub named_head : (a : Atom ℕ) → MayBeHead rule n binding a → IsNamed s.name a
  named_head a m = sym ((atom_is m.0 s a).0 ((head_is rule n s a head m.0).1 m.2)).0

  pub known_at_head : (place i : ℕ) (t : Term ℕ) (value : Value ℕ) → place ≡ suc i → slice_get s.args i ≡ Some t → key_under (bound_at binding) t ≡ Some value → (a : Atom ℕ) → MayBeHead rule n binding a → HasAt s.name place value a
  known_at_head place i t value next at key a m =
      let are = (atom_is m.0 s a).0 ((head_is rule n s a head m.0).1 m.2) in
      (sym are.0, ap (λ p. argument_at p a) next ∙ argument_there m.0 s.args a.args i t value are.1 at (key_stands binding m.0 t value m.1 key))

pub read_map : {X Y : Type 0} (f : X → Y) (xs : List X) (i : ℕ) (x : X) → i < length xs → x ≡ get_or xs i x → slice_get (map f xs) i ≡ Some (f x)
read_map f xs i x within is = slice_get-map f xs i ∙ ap (option_map f) (slice_get_read xs (length xs) i x refl within is)
