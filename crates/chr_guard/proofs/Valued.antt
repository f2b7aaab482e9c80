-- Expressions and comparisons whose variables are bound.
use Rattle.std.proofs.Common.{◌≡◌, ◌<◌, ℕ, ℤ, true, List, [], ◌∷◌, Option, Some, None, IsSome, IfSome, refl, sym, ap, subst, ◌∙◌, arith}
use Rattle.std.specs.List.{AllByRecursion, list_all}
use Rattle.std.proofs.lemmas.Bool.{and_parts, ltb-true}
use Rattle.std.proofs.lemmas.Bool.Decides.{nat_tests}
use Rattle.chr_value.specs.Atoms.{Value, Int, Sym, Comp}
use Rattle.chr_value.specs.Limits.{IsWithin}
use Rattle.chr_rule.specs.Rules.{Term, Var, Given, Open, RuleAtom, Expression, Number, Variable, Operation, Comparison, Compared, Same, Differ, Add}
use Rattle.chr_rule.specs.Scope.{argument_known, expression_known, test_known}
use Rattle.chr_rule.specs.Terms.{IsPlain, HasPlainArguments}
use Rattle.chr_guard.specs.Values.{value_of, number_in, computed, compares, term_under, within_limits, value_under, Holds}
use Rattle.chr_guard.specs.Bindings.{bound_at, AllBound, IsBound, PartsBound, SidesBound}
use Rattle.chr_guard.specs.Instances.{all_values, made_under}
use Rattle.chr_guard.proofs.Under.{both_parts, limited, some_atom, some_is_some}

-- the first n variables are bound
abbrev pub AreBound : ℕ → List (Option (Value ℕ)) → Type 0
AreBound n binding = (x : ℕ) → x < n → IsSome (bound_at binding x)

-- what variables are bound to is within the limits
abbrev pub AreWithin : List (Option (Value ℕ)) → Type 0
AreWithin binding = (x : ℕ) → IfSome (bound_at binding x) (λ a. IsWithin a)

within_some : (o : Option (Value ℕ)) → IsSome o → IfSome o (λ a. IsWithin a) → IsSome (within_limits o)
within_some (Some a) some within = grind (arith, nat_tests, within.depth, within.size)
within_some None some within = absurd (cc)

-- an expression that has a value
pub value_bound : (binding : List (Option (Value ℕ))) (e : Expression) (n : ℤ) → value_of (bound_at binding) e ≡ Some n → AllBound binding e
value_bound binding (Number z) n h = tt
value_bound binding (Variable x) n h = elim (bound_at binding x) as (λ o. number_in o ≡ Some n → IsSome o) [ Some t ↦ λ k. refl | None ↦ λ k. absurd (cc) ] h
value_bound binding (Operation o a b) n h =
    let p = both_parts (computed o) (value_of (bound_at binding) a) (value_of (bound_at binding) b) n h in
    (value_bound binding a p.0 p.2, value_bound binding b p.1 p.3)

-- terms that have values
term_bound : (binding : List (Option (Value ℕ))) (t : Term ℕ) (a : Value ℕ) → value_under (bound_at binding) t ≡ Some a → IsBound binding t
term_bound binding t a e x is = subst (λ o. IsSome o) (sym (subst (λ u. term_under (bound_at binding) u ≡ Some a) is (limited (term_under (bound_at binding) t) a e).0)) refl

pub terms_bound : (binding : List (Option (Value ℕ))) (ts : List (Term ℕ)) → IsSome (all_values (value_under (bound_at binding)) ts) → AllByRecursion (IsBound binding) ts
terms_bound binding [] some = tt
terms_bound binding (t ∷ ts) some =
    let value = value_under (bound_at binding) in
    let vs = some_is_some (all_values value (t ∷ ts)) some in
    let p = both_parts (λ x xs. Some (x ∷ xs)) (value t) (all_values value ts) vs.0 vs.1 in
    (term_bound binding t p.0 p.2, terms_bound binding ts (subst (λ o. IsSome o) (sym p.3) refl))

-- variables that are bound, numbers and symbols have values
plain_value : (binding : List (Option (Value ℕ))) (t : Term ℕ) → AreWithin binding → IsBound binding t → IsPlain t → IsSome (value_under (bound_at binding) t)
plain_value binding (Var x) within bound plain = within_some (bound_at binding x) (bound x refl) (within x)
plain_value binding (Given (Int z)) within bound plain = refl
plain_value binding (Given (Sym s)) within bound plain = refl
plain_value binding (Given (Comp s vs)) within bound plain = absurd plain
plain_value binding (Open s ts) within bound plain = absurd plain

plain_values : (binding : List (Option (Value ℕ))) (ts : List (Term ℕ)) → AreWithin binding → AllByRecursion (IsBound binding) ts → AllByRecursion IsPlain ts → IsSome (all_values (value_under (bound_at binding)) ts)
plain_values binding [] within bound plain = refl
plain_values binding (t ∷ ts) within bound plain =
    let a = some_is_some (value_under (bound_at binding) t) (plain_value binding t within bound.0 plain.0) in
    let vs = some_is_some (all_values (value_under (bound_at binding)) ts) (plain_values binding ts within bound.1 plain.1) in
    rw (a.1, vs.1) refl

pub plain_made : (binding : List (Option (Value ℕ))) (s : RuleAtom ℕ) → AreWithin binding → PartsBound binding (Add s) → HasPlainArguments (Add s) → IsSome (made_under (bound_at binding) s)
plain_made binding s within bound plain = (some_atom (value_under (bound_at binding)) s).0 (plain_values binding s.args within bound plain)

-- a comparison that holds
pub holds_bound : (binding : List (Option (Value ℕ))) (t : Comparison ℕ) → Holds (bound_at binding) t → SidesBound binding t
holds_bound binding (Compared r a b) h =
    let p = both_parts (λ m n. Some (compares r m n)) (value_of (bound_at binding) a) (value_of (bound_at binding) b) true h in
    (value_bound binding a p.0 p.2, value_bound binding b p.1 p.3)
holds_bound binding (Same s t) h = tt
holds_bound binding (Differ s t) h = tt

-- an expression and a comparison whose variables are among the first, which are bound
pub known_bound : (binding : List (Option (Value ℕ))) (n : ℕ) (e : Expression) → AreBound n binding → expression_known n e ≡ true → AllBound binding e
known_bound binding n (Number z) are k = tt
known_bound binding n (Variable x) are k = are x (ltb-true x n k)
known_bound binding n (Operation o a b) are k =
    let two = and_parts (expression_known n a) (expression_known n b) k in
    (known_bound binding n a are two.0, known_bound binding n b are two.1)

-- terms among whose variables only the first are
pub known_terms : (binding : List (Option (Value ℕ))) (n : ℕ) (ts : List (Term ℕ)) → AreBound n binding → list_all (argument_known n) ts ≡ true → AllByRecursion (IsBound binding) ts
known_terms binding n [] are k = tt
known_terms binding n (t ∷ ts) are k =
    let two = and_parts (argument_known n t) (list_all (argument_known n) ts) k in
    (λ x is. are x (ltb-true x n (ap (argument_known n) (sym is) ∙ two.0)), known_terms binding n ts are two.1)

known_sides : (binding : List (Option (Value ℕ))) (n : ℕ) (t : Comparison ℕ) → AreBound n binding → test_known n t ≡ true → SidesBound binding t
known_sides binding n (Compared r a b) are k =
    let two = and_parts (expression_known n a) (expression_known n b) k in
    (known_bound binding n a are two.0, known_bound binding n b are two.1)
known_sides binding n (Same s t) are k = tt
known_sides binding n (Differ s t) are k = tt

pub known_guard : (binding : List (Option (Value ℕ))) (n : ℕ) (ts : List (Comparison ℕ)) → AreBound n binding → list_all (test_known n) ts ≡ true → AllByRecursion (SidesBound binding) ts
known_guard binding n [] are k = tt
known_guard binding n (t ∷ ts) are k =
    let two = and_parts (test_known n t) (list_all (test_known n) ts) k in
    (known_sides binding n t are two.0, known_guard binding n ts are two.1)
