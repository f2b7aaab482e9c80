-- The atoms that constraints of a rule are under a valuation.
use Rattle.std.proofs.Common.{◌≡◌, ◌↔◌, ℕ, ◌+◌, ◌<◌, suc, List, [], ◌∷◌, ◌++◌, length, take, drop, map, get_or, Option, Some, None, IsSome, ℤ, subst, refl, sym, ap, ap₂, ◌∙◌, arith, zero, option_map, ◌≤◌, Box, subst₂}
use Rattle.std.specs.List.{AllByRecursion}
use Rattle.std.proofs.lemmas.Bool.Decides.{nat_tests}
use Rattle.std.proofs.lemmas.List.{map-append, map_more, length-map, map_push, drop_all}
use Rattle.chr_value.specs.Atoms.{Value, Comp, Args, Cons, Atom, Nil, args_of, ground, ground_comp, grounds}
use Rattle.chr_value.specs.Bounds.{most_depth, most_size}
use Rattle.chr_value.specs.Limits.{IsWithin, depth, size, args_depth, args_size}
use Rattle.chr_value.proofs.Chosen.{some_is}
use Rattle.chr_rule.specs.Rules.{Term, Var, Given, Open, Terms, End, And, RuleAtom, Expression, Number, Variable, Operation, BodyItem, Is, Add, terms_of}
use Rattle.chr_rule.specs.Scope.{known_after_term, known_after_terms, known_after_args, known_after_heads}
use Rattle.chr_guard.specs.Values.{Valuation, value_of, number_in, computed, both, term_under, terms_under, within_limits, value_under, WhereBoth}
use Rattle.chr_guard.specs.Instances.{all_values, atom_by, atom_under, made_under, AreUnder, AreMadeUnder, added}
use Rattle.chr_guard.proofs.Scoped.{variable_known, and_known, arg_known, head_known}
use Rattle.std.proofs.lemmas.Simd.{map-map}
use Rattle.chr_value.specs.declared.value.Value.{Value as CodeValue}
use Rattle.chr_value.specs.declared.value.Comp.{Comp as CodeComp}
use Rattle.chr_value.proofs.Left.{left-more, left-none}
use Rattle.chr_rule.specs.declared.term.Term.{Term as CodeTerm}
use Rattle.chr_rule.specs.Parts.{argument}
use Rattle.chr_rule.proofs.Levels.{argument-parts}
use Rattle.chr_rule.specs.declared.term.Open.{Open as CodeOpen}
use Rattle.chr_rule.proofs.Places.{map-left}
use Rattle.chr_guard.specs.Terms.{left_under, left_under_all}
use Rattle.chr_rule.specs.declared.term.Term as code

-- lists of values are equal where they are equal as answers
pub somes : {A : Type 0} (xs ys : List A) → map (λ x. Some x) xs ≡ map (λ x. Some x) ys → xs ≡ ys
somes [] [] e = refl
somes (x ∷ xs) (y ∷ ys) e = let rest = somes xs ys (cc) in cc
somes xs ys e = absurd (cc)

-- two answers put together
pub both_parts : {A B C : Type 0} (f : A → B → Option C) (o : Option A) (p : Option B) (c : C) → both f o p ≡ Some c → (a : A) × (b : B) × (o ≡ Some a) × (p ≡ Some b) × (f a b ≡ Some c)
both_parts f (Some a) (Some b) c e = (a, b, refl, refl, e)
both_parts f o p c e = absurd (cc)

-- the arguments of a functor, and a first argument before others
pub open_parts : (s : ℕ) (o : Option (Args ℕ)) (a : Value ℕ) → option_map (Comp s) o ≡ Some a → (us : Args ℕ) × (o ≡ Some us) × (Comp s us ≡ a)
open_parts s (Some us) a e = (us, refl, some_is (Comp s us) a e)
open_parts s None a e = absurd (cc)

pub cons_parts : (o : Option (Value ℕ)) (p : Option (Args ℕ)) (us : Args ℕ) → both (λ x xs. Some (Cons x xs)) o p ≡ Some us → (a : Value ℕ) × (as' : Args ℕ) × (o ≡ Some a) × (p ≡ Some as') × (Cons a as' ≡ us)
cons_parts o p us e = let t = both_parts (λ x xs. Some (Cons x xs)) o p us e in (t.0, t.1, t.2, t.3, some_is (Cons t.0 t.1) us t.4)

pub some_is_some : {A : Type 0} (o : Option A) → IsSome o → (a : A) × (o ≡ Some a)
some_is_some (Some a) h = (a, refl)
some_is_some None h = absurd (cc)

pub none_is_none : {A : Type 0} (o : Option A) → (IsSome o → ⊥) → o ≡ None
none_is_none (Some a) h = absurd (h refl)
none_is_none None h = refl

-- a value within the limits
pub limited : (o : Option (Value ℕ)) (a : Value ℕ) → within_limits o ≡ Some a → (o ≡ Some a) × IsWithin a
limited o a e = grind (arith, nat_tests)

-- the arguments of a functor within the limits are within them
args_within : (vs : List (Value ℕ)) → args_depth (args_of vs) ≤ most_depth → args_size (args_of vs) ≤ most_size → AllByRecursion IsWithin vs
args_within [] deep large = tt
args_within (v ∷ vs) deep large = (record { depth = grind (arith, deep); size = omega (arith, large) }, args_within vs (grind (arith, deep)) (omega (arith, large)))

pub comp_within : {A : Type 0} (c : CodeComp A) (vs : List (CodeValue A)) → vs ≡ c.args.list.items → IsWithin (ground_comp c) → AllByRecursion IsWithin (grounds vs)
comp_within c vs is w =
    subst (λ us. AllByRecursion IsWithin (grounds us)) (sym is)
    (let deep = w.depth in let large = w.size in args_within (grounds c.args.list.items) (omega (arith, deep)) (omega (arith, large)))

values_are : (value : Term ℕ → Option (Value ℕ)) (args : List (Term ℕ)) (vs : List (Value ℕ)) → (all_values value args ≡ Some vs) ↔ (map value args ≡ map (λ t. Some t) vs)
values_are value [] [] = grind arith
values_are value [] (x ∷ vs) = grind arith
values_are value (t ∷ ts) [] = grind arith
values_are value (t ∷ ts) (x ∷ vs) = grind (arith, values_are value ts vs)

-- the values of one argument more
pub values_more : {A : Type 0} (f : A → Term ℕ) (value : Term ℕ → Option (Value ℕ)) (xs : List A) (i : ℕ) (x : A) (vs : List (Value ℕ)) (y : Value ℕ) → i < length xs → x ≡ get_or xs i x → all_values value (map f (take i xs)) ≡ Some vs → value (f x) ≡ Some y → all_values value (map f (take (i + 1) xs)) ≡ Some (vs ++ y ∷ [])
values_more f value xs i x vs y h is e k =
    rw (map_more f xs i x h, ← is)
    ((values_are value (map f (take i xs) ++ f x ∷ []) (vs ++ y ∷ [])).1
    (rw (map_push, map_push, (values_are value (map f (take i xs)) vs).0 e, k)))

-- the same where there are some values
pub some_values_more : {A : Type 0} (f : A → Term ℕ) (value : Term ℕ → Option (Value ℕ)) (xs : List A) (i : ℕ) (x : A) → i < length xs → x ≡ get_or xs i x → IsSome (all_values value (map f (take i xs))) → IsSome (value (f x)) → IsSome (all_values value (map f (take (i + 1) xs)))
some_values_more f value xs i x h is some one =
    let vs = some_is_some (all_values value (map f (take i xs))) some in
    let y = some_is_some (value (f x)) one in
    subst (λ o. IsSome o) (sym (values_more f value xs i x vs.0 y.0 h is vs.1 y.1)) refl

-- an argument without a value
pub no_values : {A : Type 0} (f : A → Term ℕ) (value : Term ℕ → Option (Value ℕ)) (xs : List A) (i : ℕ) (x : A) → i < length xs → x ≡ get_or xs i x → value (f x) ≡ None → all_values value (map f xs) ≡ None
no_values f value [] i x h is none = absurd (omega arith)
no_values f value (z ∷ xs) zero x h is none = grind arith
no_values f value (z ∷ xs) (suc i) x h is none = let rest = no_values f value xs i x (omega arith) is none in grind arith

-- which atom a constraint is
pub atom_by_is : (value : Term ℕ → Option (Value ℕ)) (s : RuleAtom ℕ) (a : Atom ℕ) → (atom_by value s ≡ Some a) ↔ ((s.name ≡ a.name) × (map value s.args ≡ map (λ t. Some t) a.args))
atom_by_is value s a = grind (arith, values_are value s.args a.args)

pub atom_by_values : (value : Term ℕ → Option (Value ℕ)) (s : RuleAtom ℕ) (a : Atom ℕ) → s.name ≡ a.name → all_values value s.args ≡ Some a.args → atom_by value s ≡ Some a
atom_by_values value s a n e = grind arith

pub atom_is : (v : Valuation) (s : RuleAtom ℕ) (a : Atom ℕ) → (atom_under v s ≡ Some a) ↔ ((s.name ≡ a.name) × (map (term_under v) s.args ≡ map (λ t. Some t) a.args))
atom_is v s a = atom_by_is (term_under v) s a

-- a constraint stands for an atom where its arguments have values
pub some_atom : (value : Term ℕ → Option (Value ℕ)) (s : RuleAtom ℕ) → IsSome (all_values value s.args) ↔ IsSome (atom_by value s)
some_atom value s = grind arith

-- constraints joined, and taken apart, whatever each stands for, as heads and as those of a body
pub atoms_append : (f : RuleAtom ℕ → Option (Atom ℕ)) (xs ys : List (RuleAtom ℕ)) (as' bs : List (Atom ℕ)) → map f xs ≡ map (λ a. Some a) as' → map f ys ≡ map (λ a. Some a) bs → map f (xs ++ ys) ≡ map (λ a. Some a) (as' ++ bs)
atoms_append f xs ys as' bs e g = map-append f xs ys ∙ ap₂ (λ l m. l ++ m) e g ∙ sym (map-append (λ a. Some a) as' bs)

pub under_append : (v : Valuation) (xs ys : List (RuleAtom ℕ)) (as' bs : List (Atom ℕ)) → AreUnder v xs as' → AreUnder v ys bs → AreUnder v (xs ++ ys) (as' ++ bs)
under_append v xs ys as' bs e f = atoms_append (atom_under v) xs ys as' bs e f

atoms_parts : (f : RuleAtom ℕ → Option (Atom ℕ)) (xs ys : List (RuleAtom ℕ)) (as' : List (Atom ℕ)) → map f (xs ++ ys) ≡ map (λ a. Some a) as' → (map f xs ≡ map (λ a. Some a) (take (length xs) as')) × (map f ys ≡ map (λ a. Some a) (drop (length xs) as'))
atoms_parts f [] ys as' e = (refl, e)
atoms_parts f (x ∷ xs) ys [] e = absurd (cc)
atoms_parts f (x ∷ xs) ys (a ∷ as') e = let rest = atoms_parts f xs ys as' (cc) in (cc, rest.1)

pub under_parts : (v : Valuation) (xs ys : List (RuleAtom ℕ)) (as' : List (Atom ℕ)) → AreUnder v (xs ++ ys) as' → AreUnder v xs (take (length xs) as') × AreUnder v ys (drop (length xs) as')
under_parts v xs ys as' e = atoms_parts (atom_under v) xs ys as' e

pub made_parts : (v : Valuation) (xs ys : List (RuleAtom ℕ)) (as' : List (Atom ℕ)) → AreMadeUnder v (xs ++ ys) as' → AreMadeUnder v xs (take (length xs) as') × AreMadeUnder v ys (drop (length xs) as')
made_parts v xs ys as' e = atoms_parts (made_under v) xs ys as' e

atoms_length : (f : RuleAtom ℕ → Option (Atom ℕ)) (xs : List (RuleAtom ℕ)) (as' : List (Atom ℕ)) → map f xs ≡ map (λ a. Some a) as' → length as' ≡ length xs
atoms_length f xs as' e = sym (length-map as' (λ a. Some a)) ∙ sym (ap length e) ∙ length-map xs f

pub under_length : (v : Valuation) (xs : List (RuleAtom ℕ)) (as' : List (Atom ℕ)) → AreUnder v xs as' → length as' ≡ length xs
under_length v xs as' e = atoms_length (atom_under v) xs as' e

pub made_length : (v : Valuation) (xs : List (RuleAtom ℕ)) (as' : List (Atom ℕ)) → AreMadeUnder v xs as' → length as' ≡ length xs
made_length v xs as' e = atoms_length (made_under v) xs as' e

one_atom : (f : RuleAtom ℕ → Option (Atom ℕ)) (x : RuleAtom ℕ) (as' : List (Atom ℕ)) → map f (x ∷ []) ≡ map (λ a. Some a) as' → (a : Atom ℕ) × (as' ≡ a ∷ []) × (f x ≡ Some a)
one_atom f x (a ∷ []) e = (a, refl, cc)
one_atom f x as' e = absurd (cc)

pub one_under : (v : Valuation) (x : RuleAtom ℕ) (as' : List (Atom ℕ)) → AreUnder v (x ∷ []) as' → (a : Atom ℕ) × (as' ≡ a ∷ []) × (atom_under v x ≡ Some a)
one_under v x as' e = one_atom (atom_under v) x as' e

pub one_made : (v : Valuation) (x : RuleAtom ℕ) (as' : List (Atom ℕ)) → AreMadeUnder v (x ∷ []) as' → (a : Atom ℕ) × (as' ≡ a ∷ []) × (made_under v x ≡ Some a)
one_made v x as' e = one_atom (made_under v) x as' e

-- a constraint without a value among others
no_atom : (f : RuleAtom ℕ → Option (Atom ℕ)) (xs ys : List (RuleAtom ℕ)) (s : RuleAtom ℕ) (as' : List (Atom ℕ)) → f s ≡ None → map f (xs ++ s ∷ ys) ≡ map (λ a. Some a) as' → ⊥
no_atom f [] ys s (a ∷ as') none e = grind arith
no_atom f (x ∷ xs) ys s (a ∷ as') none e = no_atom f xs ys s as' none (cc)
no_atom f xs ys s as' none e = absurd (cc)

pub none_made : (v : Valuation) (xs ys : List (RuleAtom ℕ)) (s : RuleAtom ℕ) (as' : List (Atom ℕ)) → made_under v s ≡ None → AreMadeUnder v (xs ++ s ∷ ys) as' → ⊥
none_made v xs ys s as' none e = no_atom (made_under v) xs ys s as' none e

-- the constraints of a body joined
pub added_append : (ms ns : List (BodyItem ℕ)) → added (ms ++ ns) ≡ added ms ++ added ns
added_append [] ns = refl
added_append (Is x e ∷ ms) ns = added_append ms ns
added_append (Add s ∷ ms) ns = ap (λ l. s ∷ l) (added_append ms ns)

-- the values of expressions, of terms and of constraints stay where more variables have values
abbrev pub Grows : Valuation → Valuation → Type 0
Grows v w = (x : ℕ) (t : Value ℕ) → v x ≡ Some t → w x ≡ Some t

pub value_grows : (v w : Valuation) → Grows v w → (e : Expression) (n : ℤ) → value_of v e ≡ Some n → value_of w e ≡ Some n
value_grows v w g (Number z) n h = h
value_grows v w g (Variable x) n h = elim (v x) as (λ o. v x ≡ o → number_in o ≡ Some n → number_in (w x) ≡ Some n) [ Some t ↦ λ e k. rw (g x t e) k | None ↦ λ e k. absurd (cc) ] refl h
value_grows v w g (Operation o a b) n h =
    let p = both_parts (computed o) (value_of v a) (value_of v b) n h in
    rw (value_grows v w g a p.0 p.2, value_grows v w g b p.1 p.3) p.4

mutual
  term_grows : (v w : Valuation) → Grows v w → (t : Term ℕ) (a : Value ℕ) → term_under v t ≡ Some a → term_under w t ≡ Some a
  term_grows v w g (Var x) a e = g x a e
  term_grows v w g (Given t) a e = e
  term_grows v w g (Open s ts) a e =
      let p = open_parts s (terms_under v ts) a e in
      ap (option_map (Comp s)) (terms_grow v w g ts p.0 p.1) ∙ ap (λ y. Some y) p.2

  terms_grow : (v w : Valuation) → Grows v w → (ts : Terms ℕ) (us : Args ℕ) → terms_under v ts ≡ Some us → terms_under w ts ≡ Some us
  terms_grow v w g End us e = e
  terms_grow v w g (And t ts) us e =
      let p = cons_parts (term_under v t) (terms_under v ts) us e in
      ap₂ (both (λ x xs. Some (Cons x xs))) (term_grows v w g t p.0 p.2) (terms_grow v w g ts p.1 p.3) ∙ ap (λ y. Some y) p.4

limited_grows : (v w : Valuation) → Grows v w → (t : Term ℕ) (a : Value ℕ) → value_under v t ≡ Some a → value_under w t ≡ Some a
limited_grows v w g t a e =
    let there = (limited (term_under v t) a e).0 in
    ap within_limits (term_grows v w g t a there ∙ sym there) ∙ e

-- lists too
all_grow : {X Y : Type 0} (f g : X → Option Y) → ((x : X) (y : Y) → f x ≡ Some y → g x ≡ Some y) → (xs : List X) (ys : List Y) → map f xs ≡ map (λ y. Some y) ys → map g xs ≡ map (λ y. Some y) ys
all_grow f g grows [] ys e = e
all_grow f g grows (x ∷ xs) [] e = absurd (cc)
all_grow f g grows (x ∷ xs) (y ∷ ys) e = ap₂ (λ z zs. z ∷ zs) (grows x y (cc)) (all_grow f g grows xs ys (cc))

made_atom_grows : (v w : Valuation) → Grows v w → (s : RuleAtom ℕ) (a : Atom ℕ) → made_under v s ≡ Some a → made_under w s ≡ Some a
made_atom_grows v w g s a e =
    let p = (atom_by_is (value_under v) s a).0 e in
    (atom_by_is (value_under w) s a).1 (p.0, all_grow (value_under v) (value_under w) (limited_grows v w g) s.args a.args p.1)

pub made_grows : (v w : Valuation) → Grows v w → (xs : List (RuleAtom ℕ)) (as' : List (Atom ℕ)) → AreMadeUnder v xs as' → AreMadeUnder w xs as'
made_grows v w g xs as' e = all_grow (made_under v) (made_under w) (made_atom_grows v w g) xs as' e

-- What holds of no variables, and of one more where two valuations give it one value, holds of those
-- of heads that are the same atoms under both.
abbrev Steps : Valuation → Valuation → (ℕ → Type 0) → Type 0
Steps v w P = (n : ℕ) (a : Value ℕ) → v n ≡ Some a → w n ≡ Some a → P n → P (suc n)

mutual
  term_walk : (v w : Valuation) (P : ℕ → Type 0) → Steps v w P → (n m : ℕ) (t : Term ℕ) (u : Value ℕ) → known_after_term n t ≡ Some m → term_under v t ≡ Some u → term_under w t ≡ Some u → P n → P m
  term_walk v w P next n m (Var x) u k e f p = variable_known n m x k (λ _ j. subst P j p) (λ s j. subst P j (next n u (ap v (sym s) ∙ e) (ap w (sym s) ∙ f) p))
  term_walk v w P next n m (Given t) u k e f p = subst P (some_is n m k) p
  term_walk v w P next n m (Open s ts) u k e f p =
      let a = open_parts s (terms_under v ts) u e in
      let b = open_parts s (terms_under w ts) u f in
      terms_walk v w P next n m ts a.0 k a.1 (cc) p

  terms_walk : (v w : Valuation) (P : ℕ → Type 0) → Steps v w P → (n m : ℕ) (ts : Terms ℕ) (us : Args ℕ) → known_after_terms n ts ≡ Some m → terms_under v ts ≡ Some us → terms_under w ts ≡ Some us → P n → P m
  terms_walk v w P next n m End us k e f p = subst P (some_is n m k) p
  terms_walk v w P next n m (And t ts) us k e f p =
      let a = cons_parts (term_under v t) (terms_under v ts) us e in
      let b = cons_parts (term_under w t) (terms_under w ts) us f in
      and_known n m t ts k (λ z i j. terms_walk v w P next z m ts a.1 j a.3 (cc) (term_walk v w P next n z t a.0 i a.2 (cc) p))

args_walk : (v w : Valuation) (P : ℕ → Type 0) → Steps v w P → (n m : ℕ) (args : List (Term ℕ)) (vs : List (Value ℕ)) → known_after_args n args ≡ Some m → map (term_under v) args ≡ map (λ t. Some t) vs → map (term_under w) args ≡ map (λ t. Some t) vs → P n → P m
args_walk v w P next n m [] vs k e f p = subst P (some_is n m k) p
args_walk v w P next n m (t ∷ args) [] k e f p = absurd (cc)
args_walk v w P next n m (t ∷ args) (x ∷ vs) k e f p = arg_known n m t args k (λ z i j. args_walk v w P next z m args vs j (cc) (cc) (term_walk v w P next n z t x i (cc) (cc) p))

pub heads_walk : (v w : Valuation) (P : ℕ → Type 0) → Steps v w P → (n m : ℕ) (hs : List (RuleAtom ℕ)) (atoms : List (Atom ℕ)) → known_after_heads n hs ≡ Some m → AreUnder v hs atoms → AreUnder w hs atoms → P n → P m
heads_walk v w P next n m [] atoms k e f p = subst P (some_is n m k) p
heads_walk v w P next n m (h ∷ hs) [] k e f p = absurd (cc)
heads_walk v w P next n m (h ∷ hs) (x ∷ atoms) k e f p =
    head_known n m h hs k (λ z i j. heads_walk v w P next z m hs atoms j (cc) (cc) (args_walk v w P next n z h.args x.args i ((atom_is v h x).0 (cc)).1 ((atom_is w h x).0 (cc)).1 p))

-- the variables of heads that are atoms have values
abbrev pub AreSome : Valuation → ℕ → Type 0
AreSome v n = (x : ℕ) → x < n → IsSome (v x)

next_some : (v : Valuation) → Steps v v (AreSome v)
next_some v n a e f b z l = grind (arith, b z)

pub heads_bound : (v : Valuation) (n m : ℕ) (hs : List (RuleAtom ℕ)) (atoms : List (Atom ℕ)) → known_after_heads n hs ≡ Some m → AreUnder v hs atoms → AreSome v n → AreSome v m
heads_bound v n m hs atoms k e b = heads_walk v v (AreSome v) (next_some v) n m hs atoms k e e b

-- ---- arguments of functors under a valuation, as loops go over them: how much they weigh, what they stand for, and the room that it leaves

-- how much of an expression is left to compute, and how much of a term to match
abbrev pub weight : Expression → ℕ
weight (Number n) = 0
weight (Variable x) = 0
weight (Operation o a b) = suc (weight a + weight b)

abbrev mutual
  pub term_weight : Term ℕ → ℕ
  term_weight (Var x) = 0
  term_weight (Given v) = 0
  term_weight (Open s ts) = suc (terms_weight ts)

  pub terms_weight : Terms ℕ → ℕ
  terms_weight End = 0
  terms_weight (And t ts) = term_weight t + terms_weight ts

abbrev pub weights : List (Term ℕ) → ℕ
weights [] = 0
weights (t ∷ ts) = term_weight t + weights ts

pub weights-terms : (ts : List (Term ℕ)) → terms_weight (terms_of ts) ≡ weights ts
weights-terms [] = refl
weights-terms (t ∷ ts) = ap (λ (n : ℕ). term_weight t + n) (weights-terms ts)

weight-there : {A : Type 0} (ts : List (CodeTerm A)) (i : ℕ) (d : CodeTerm A) → i < length ts → term_weight (argument (get_or ts i d)) ≤ weights (map argument ts)
weight-there [] i d lt = absurd (omega arith)
weight-there (t ∷ ts) zero d lt = omega arith
weight-there (t ∷ ts) (suc i) d lt = omega (arith, weight-there ts i d (omega arith))

pub weight-at : {A : Type 0} (ts : List (CodeTerm A)) (i : ℕ) (t : CodeTerm A) → i < length ts → t ≡ get_or ts i t → term_weight (argument t) ≤ weights (map argument ts)
weight-at ts i t lt e = subst (λ u. term_weight (argument u) ≤ weights (map argument ts)) (sym e) (weight-there ts i t lt)

-- a functor with terms weighs more than they do
pub weight-parts : {A : Type 0} (term : CodeTerm A) (o : Box (CodeOpen A) A) (ts : List (CodeTerm A)) → term ≡ code.Open o → ts ≡ o.value.args.list.items → term_weight (argument term) ≡ suc (weights (map argument ts))
weight-parts term o ts is e = ap term_weight (argument-parts term o ts is e) ∙ ap suc (weights-terms (map argument ts))

-- the values of arguments are those of the list
under-terms : (v : Valuation) (ts : List (Term ℕ)) (ws : List (Value ℕ)) → (terms_under v (terms_of ts) ≡ Some (args_of ws)) ↔ (map (term_under v) ts ≡ map (λ w. Some w) ws)
under-terms v [] [] = grind arith
under-terms v [] (w ∷ ws) = grind arith
under-terms v (t ∷ ts) [] = grind arith
under-terms v (t ∷ ts) (w ∷ ws) = grind (arith, under-terms v ts ws)

some-open : (f g : ℕ) (o : Option (Args ℕ)) (us : Args ℕ) → f ≡ g → (option_map (Comp f) o ≡ Some (Comp g us)) ↔ (o ≡ Some us)
some-open f g o us e = grind arith

-- a functor with terms is one with values where their arguments are
pub under-open : {A : Type 0} (v : Valuation) (term : CodeTerm A) (o : Box (CodeOpen A) A) (c : CodeComp A) (ts : List (CodeTerm A)) (ws : List (CodeValue A))
    → term ≡ code.Open o → o.value.functor.number ≡ c.functor.number → ts ≡ o.value.args.list.items → ws ≡ c.args.list.items
    → (map (term_under v) (map argument ts) ≡ map (λ t. Some (ground t)) ws) ↔ (term_under v (argument term) ≡ Some (ground_comp c))
under-open v term o c ts ws is functors ts-are ws-are =
    let l : term_under v (argument term) ≡ option_map (Comp o.value.functor.number) (terms_under v (terms_of (map argument ts))) = ap (term_under v) (argument-parts term o ts is ts-are) in
    let r : ground_comp c ≡ Comp c.functor.number (args_of (grounds ws)) = ap (λ us. Comp c.functor.number (args_of (grounds us))) (sym ws-are) in
    let s = some-open o.value.functor.number c.functor.number (terms_under v (terms_of (map argument ts))) (args_of (grounds ws)) functors in
    let u = under-terms v (map argument ts) (grounds ws) in (
      λ h. l ∙ s.1 (u.1 (h ∙ sym (map-map (λ w. Some w) ground ws))) ∙ ap (λ x. Some x) (sym r),
      λ h. u.0 (s.0 (sym l ∙ h ∙ ap (λ x. Some x) r)) ∙ map-map (λ w. Some w) ground ws,
    )

-- the terms that are left, one term less
pub terms-left : {A : Type 0} (v : Valuation) (ts : List (CodeTerm A)) (i : ℕ) (t : CodeTerm A) → i < length ts → t ≡ get_or ts i t
    → terms_under v (terms_of (map argument (drop i ts))) ≡ both (λ x xs. Some (Cons x xs)) (term_under v (argument t)) (terms_under v (terms_of (map argument (drop (i + 1) ts))))
terms-left v ts i t lt e = ap (λ us. terms_under v (terms_of us)) (map-left argument ts i t lt e)

-- after one value that leaves some room, what others leave
cons-left : (d room r : ℕ) (a : Option (Value ℕ)) (b : Option (Args ℕ)) → left_under d room a ≡ Some r → left_under_all d room (both (λ x xs. Some (Cons x xs)) a b) ≡ left_under_all d r b
cons-left d room r (Some x) (Some xs) h = left-more d room (depth x) (size x) (args_depth xs) (args_size xs) r h
cons-left d room r a b h = grind arith

cons-none : (d room : ℕ) (a : Option (Value ℕ)) (b : Option (Args ℕ)) → left_under d room a ≡ None → left_under_all d room (both (λ x xs. Some (Cons x xs)) a b) ≡ None
cons-none d room (Some x) (Some xs) h = left-none d room (depth x) (size x) (args_depth xs) (args_size xs) h
cons-none d room a b h = refl

pub left-next : {A : Type 0} (v : Valuation) (d room r : ℕ) (ts : List (CodeTerm A)) (i : ℕ) (t : CodeTerm A) → i < length ts → t ≡ get_or ts i t → left_under d room (term_under v (argument t)) ≡ Some r
    → left_under_all d room (terms_under v (terms_of (map argument (drop i ts)))) ≡ left_under_all d r (terms_under v (terms_of (map argument (drop (i + 1) ts))))
left-next v d room r ts i t lt e h = ap (left_under_all d room) (terms-left v ts i t lt e) ∙ cons-left d room r (term_under v (argument t)) (terms_under v (terms_of (map argument (drop (i + 1) ts)))) h

pub left-stop : {A : Type 0} (v : Valuation) (d room : ℕ) (ts : List (CodeTerm A)) (i : ℕ) (t : CodeTerm A) → i < length ts → t ≡ get_or ts i t → left_under d room (term_under v (argument t)) ≡ None
    → left_under_all d room (terms_under v (terms_of (map argument (drop i ts)))) ≡ None
left-stop v d room ts i t lt e h = ap (left_under_all d room) (terms-left v ts i t lt e) ∙ cons-none d room (term_under v (argument t)) (terms_under v (terms_of (map argument (drop (i + 1) ts)))) h

pub left-end : {A : Type 0} (v : Valuation) (d room : ℕ) (ts : List (CodeTerm A)) (i : ℕ) → length ts ≤ i → Some room ≡ left_under_all d room (terms_under v (terms_of (map argument (drop i ts))))
left-end v d room ts i le = rw (drop_all i ts le) (grind (arith, nat_tests))

-- values before arguments
abbrev pub before : List (Value ℕ) → Args ℕ → Args ℕ
before [] us = us
before (w ∷ ws) us = Cons w (before ws us)

-- the values made, before those of the terms that are left
abbrev pub so_far : {A : Type 0} → Valuation → List (CodeValue A) → List (CodeTerm A) → Option (Args ℕ)
so_far v made left = option_map (before (grounds made)) (terms_under v (terms_of (map argument left)))

before-nil : (ws : List (Value ℕ)) → before ws Nil ≡ args_of ws
before-nil [] = refl
before-nil (w ∷ ws) = ap (λ us. Cons w us) (before-nil ws)

before-push : (ws : List (Value ℕ)) (w : Value ℕ) (us : Args ℕ) → before (ws ++ w ∷ []) us ≡ before ws (Cons w us)
before-push [] w us = refl
before-push (x ∷ ws) w us = ap (λ r. Cons x r) (before-push ws w us)

first-some : (ws : List (Value ℕ)) (a : Option (Value ℕ)) (w : Value ℕ) (b : Option (Args ℕ)) → Some w ≡ a → option_map (before (ws ++ w ∷ [])) b ≡ option_map (before ws) (both (λ x xs. Some (Cons x xs)) a b)
first-some ws a w b e = grind (arith, before-push ws w)

first-none : (ws : List (Value ℕ)) (a : Option (Value ℕ)) (b : Option (Args ℕ)) → None ≡ a → None ≡ option_map (before ws) (both (λ x xs. Some (Cons x xs)) a b)
first-none ws a b e = ap (λ o. option_map (before ws) (both (λ x xs. Some (Cons x xs)) o b)) e

-- one value more
pub made-more : {A : Type 0} (v : Valuation) (ts : List (CodeTerm A)) (i : ℕ) (t : CodeTerm A) (vs new : List (CodeValue A)) (x : CodeValue A) → i < length ts → t ≡ get_or ts i t
    → Some (ground x) ≡ term_under v (argument t) → new ≡ vs ++ x ∷ [] → so_far v new (drop (i + 1) ts) ≡ so_far v vs (drop i ts)
made-more v ts i t vs new x lt e is pushed =
    ap (λ us. option_map (before us) (terms_under v (terms_of (map argument (drop (i + 1) ts))))) (ap grounds pushed ∙ map_push ground vs x)
    ∙ first-some (grounds vs) (term_under v (argument t)) (ground x) (terms_under v (terms_of (map argument (drop (i + 1) ts)))) is
    ∙ ap (option_map (before (grounds vs))) (sym (terms-left v ts i t lt e))

-- a term without a value
pub made-none : {A : Type 0} (v : Valuation) (ts : List (CodeTerm A)) (i : ℕ) (t : CodeTerm A) (vs : List (CodeValue A)) → i < length ts → t ≡ get_or ts i t → None ≡ term_under v (argument t) → None ≡ so_far v vs (drop i ts)
made-none v ts i t vs lt e is =
    first-none (grounds vs) (term_under v (argument t)) (terms_under v (terms_of (map argument (drop (i + 1) ts)))) is ∙ ap (option_map (before (grounds vs))) (sym (terms-left v ts i t lt e))

-- all values
pub made-all : {A : Type 0} (v : Valuation) (ts : List (CodeTerm A)) (i : ℕ) (vs : List (CodeValue A)) → length ts ≤ i → Some (args_of (grounds vs)) ≡ so_far v vs (drop i ts)
made-all v ts i vs le = ap (λ r. Some r) (sym (before-nil (grounds vs))) ∙ ap (λ us. so_far v vs us) (sym (drop_all i ts le))

-- two answers are there, and the same
abbrev pub AreSame : {V : Type 0} → Option V → Option V → Type 0
AreSame o p = WhereBoth (λ a b. a ≡ b) o p

-- a first argument and those behind it
same-cons : (a b : Option (Value ℕ)) (as' bs : Option (Args ℕ)) → AreSame (both (λ x xs. Some (Cons x xs)) a as') (both (λ x xs. Some (Cons x xs)) b bs) ↔ (AreSame a b × AreSame as' bs)
same-cons a b as' bs = grind arith

same-functors : (s t : ℕ) (o p : Option (Args ℕ)) → s ≡ t → AreSame (option_map (Comp s) o) (option_map (Comp t) p) ↔ AreSame o p
same-functors s t o p e = grind arith

-- lists of terms, from a place on
abbrev pub SameFrom : {A : Type 0} → Valuation → List (CodeTerm A) → List (CodeTerm A) → ℕ → Type 0
SameFrom v ts us i = AreSame (terms_under v (terms_of (map argument (drop i ts)))) (terms_under v (terms_of (map argument (drop i us))))

module _ {A : Type 0} (v : Valuation) (ts us : List (CodeTerm A)) (i : ℕ) (t u : CodeTerm A) (lt : i < length ts) (lu : i < length us) (et : t ≡ get_or ts i t) (eu : u ≡ get_or us i u) where
  at-place : SameFrom v ts us i ↔ (AreSame (term_under v (argument t)) (term_under v (argument u)) × SameFrom v ts us (i + 1))
  at-place =
      subst₂ (λ x y. AreSame x y ↔ (AreSame (term_under v (argument t)) (term_under v (argument u)) × SameFrom v ts us (i + 1))) (sym (terms-left v ts i t lt et)) (sym (terms-left v us i u lu eu))
      (same-cons (term_under v (argument t)) (term_under v (argument u)) (terms_under v (terms_of (map argument (drop (i + 1) ts)))) (terms_under v (terms_of (map argument (drop (i + 1) us)))))

  pub same-next : (Q : Type 0) → AreSame (term_under v (argument t)) (term_under v (argument u)) → SameFrom v ts us i ↔ Q → SameFrom v ts us (i + 1) ↔ Q
  same-next Q h k = (λ s. k.0 (at-place.1 (h, s)), λ q. (at-place.0 (k.1 q)).1)

  pub same-stop : (Q : Type 0) → (AreSame (term_under v (argument t)) (term_under v (argument u)) → ⊥) → SameFrom v ts us i ↔ Q → Q → ⊥
  same-stop Q ne k q = ne (at-place.0 (k.1 q)).0

pub same-end : {A : Type 0} (v : Valuation) (ts us : List (CodeTerm A)) (i : ℕ) → length ts ≤ i → length us ≤ i → SameFrom v ts us i
same-end v ts us i lt lu = subst₂ (λ xs ys. AreSame (terms_under v (terms_of (map argument xs))) (terms_under v (terms_of (map argument ys)))) (sym (drop_all i ts lt)) (sym (drop_all i us lu)) refl

-- as many terms
args-count : (v : Valuation) (ts us : List (Term ℕ)) → AreSame (terms_under v (terms_of ts)) (terms_under v (terms_of us)) → length ts ≡ length us
args-count v [] [] h = refl
args-count v [] (u ∷ us) h = grind arith
args-count v (t ∷ ts) [] h = grind arith
args-count v (t ∷ ts) (u ∷ us) h = ap suc (args-count v ts us ((same-cons (term_under v t) (term_under v u) (terms_under v (terms_of ts)) (terms_under v (terms_of us))).0 h).1)

pub same-count : {A : Type 0} (v : Valuation) (ts us : List (CodeTerm A)) → AreSame (terms_under v (terms_of (map argument ts))) (terms_under v (terms_of (map argument us))) → length ts ≡ length us
same-count v ts us h = sym (length-map ts argument) ∙ args-count v (map argument ts) (map argument us) h ∙ length-map us argument

-- two functors with terms
module _ {A : Type 0} (v : Valuation) (s t : CodeTerm A) (o p : Box (CodeOpen A) A) (is-s : s ≡ code.Open o) (is-t : t ≡ code.Open p) where
  pub same-opens : (ts us : List (CodeTerm A)) → ts ≡ o.value.args.list.items → us ≡ p.value.args.list.items → o.value.functor.number ≡ p.value.functor.number
      → AreSame (terms_under v (terms_of (map argument ts))) (terms_under v (terms_of (map argument us))) ↔ AreSame (term_under v (argument s)) (term_under v (argument t))
  same-opens ts us are-ts are-us functors =
      let k = same-functors o.value.functor.number p.value.functor.number (terms_under v (terms_of (map argument ts))) (terms_under v (terms_of (map argument us))) functors in
      subst₂ (λ x y. AreSame (terms_under v (terms_of (map argument ts))) (terms_under v (terms_of (map argument us))) ↔ AreSame (term_under v x) (term_under v y)) (sym (argument-parts s o ts is-s are-ts)) (sym (argument-parts t p us is-t are-us))
      (k.1, k.0)
