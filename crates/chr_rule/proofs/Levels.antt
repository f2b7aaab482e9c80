-- A term, level by level.
use Rattle.std.proofs.Common.{◌≡◌, ◌↔◌, ◌<◌, ◌+◌, ◌-◌, ◌≤◌, ℕ, zero, get_or, subst, Bool, true, false, ◌&&◌, IsTrue, List, length, map, Box, rules, sym, ap, ◌∙◌, arith, ◌||◌, [], ◌∷◌, Some, None, refl, ap₂, suc}
use Rattle.std.specs.List.{AllByRecursion, list_all, list_any}
use Rattle.std.proofs.lemmas.Bool.Decides.{nat_tests}
use Rattle.std.proofs.lemmas.List.{length-map}
use Rattle.chr_value.specs.Atoms.{ground}
use Rattle.chr_value.specs.declared.value.Value.{Value as CodeValue}
use Rattle.chr_rule.specs.Rules.{Var, Given, Open, terms_of, Term}
use Rattle.chr_rule.specs.Parts.{argument}
use Rattle.chr_rule.specs.Scope.{known_after_term, known_after_args, argument_known, known_then, known_after_terms, arguments_known}
use Rattle.chr_rule.specs.Terms.{IsCanonical, is_open, left_after_term, left_after_terms, has_variable, have_variable, terms_count, AreCanonical, term_size, terms_size}
use Rattle.chr_rule.specs.declared.term.Term.{Term as CodeTerm, the_lemmas}
use Rattle.chr_rule.specs.declared.term.Open.{Open as CodeOpen}
use Rattle.chr_rule.specs.declared.term.Term as terms

terms_of-injective : {N : Type 0} (ts us : List (Term N)) → terms_of ts ≡ terms_of us → ts ≡ us
terms_of-injective [] [] h = refl
terms_of-injective (t ∷ ts) (u ∷ us) h = let rest = terms_of-injective ts us (cc) in cc
terms_of-injective ts us h = absurd (cc)

-- two open terms are equal where their functors and their lists of arguments are
pub same-Open : (s t : ℕ) (us vs : List (Term ℕ)) → (Open s (terms_of us) ≡ Open t (terms_of vs)) ↔ ((s ≡ t) × (us ≡ vs))
same-Open s t us vs =
    (λ h. ((cc), terms_of-injective us vs (cc)), λ h. ap₂ (λ (f : ℕ) (ws : List (Term ℕ)). Open f (terms_of ws)) h.0 h.1)

-- the variables of arguments are those of the list
pub known-terms : (n : ℕ) (ts : List (Term ℕ)) → arguments_known n (terms_of ts) ≡ list_all (argument_known n) ts
known-terms n [] = refl
known-terms n (t ∷ ts) = ap (λ (b : Bool). argument_known n t && b) (known-terms n ts)

pub known_after-terms : (n : ℕ) (ts : List (Term ℕ)) → known_after_terms n (terms_of ts) ≡ known_after_args n ts
known_after-terms n [] = refl
known_after-terms n (t ∷ ts) =
    elim (known_after_term n t) as (λ o. known_then o (λ m. known_after_terms m (terms_of ts)) ≡ known_then o (λ m. known_after_args m ts)) [ None ↦ refl | Some m ↦ known_after-terms m ts ]

pub count-terms : (ts : List (Term ℕ)) → terms_count (terms_of ts) ≡ length ts
count-terms [] = refl
count-terms (t ∷ ts) = ap suc (count-terms ts)

pub canonical-terms : (ts : List (Term ℕ)) → AreCanonical (terms_of ts) ↔ AllByRecursion IsCanonical ts
canonical-terms [] = (λ h. h, λ h. h)
canonical-terms (t ∷ ts) = let rest = canonical-terms ts in (λ h. (h.0, rest.0 h.1), λ h. (h.0, rest.1 h.1))

-- a canonical term has a variable where it isn't a value
variable_where_open : (t : Term ℕ) → IsCanonical t → has_variable t ≡ is_open t
variable_where_open (Var x) h = refl
variable_where_open (Given v) h = refl
variable_where_open (Open s ts) h = h.1

pub variables_where_open : (ts : List (Term ℕ)) → AllByRecursion IsCanonical ts → have_variable (terms_of ts) ≡ list_any is_open ts
variables_where_open [] h = refl
variables_where_open (t ∷ ts) h = ap₂ (λ (a b : Bool). a || b) (variable_where_open t h.0) (variables_where_open ts h.1)

-- none of several terms is larger than all together
size-there : {X : Type 0} (f : X → Term ℕ) (xs : List X) (i : ℕ) (d : X) → i < length xs → term_size (f (get_or xs i d)) ≤ terms_size (terms_of (map f xs))
size-there f [] i d lt = absurd (omega arith)
size-there f (x ∷ xs) zero d lt = omega arith
size-there f (x ∷ xs) (suc i) d lt = omega (arith, size-there f xs i d (omega arith))

pub term-size-at : {X : Type 0} (f : X → Term ℕ) (xs : List X) (i : ℕ) (x : X) → i < length xs → x ≡ get_or xs i x → term_size (f x) ≤ terms_size (terms_of (map f xs))
term-size-at f xs i x lt e = subst (λ y. term_size (f y) ≤ terms_size (terms_of (map f xs))) (sym e) (size-there f xs i x lt)

pub argument-Var : (A : Type 0) (x : ℕ) → argument {A = A} (terms.Var x) ≡ Var x
argument-Var A x = search (rules, the_lemmas)

pub argument-Given : {A : Type 0} (v : CodeValue A) → argument (terms.Given v) ≡ Given (ground v)
argument-Given v = search (rules, the_lemmas)

argument-Open : {A : Type 0} (o : Box (CodeOpen A) A) → argument (terms.Open o) ≡ Open o.value.functor.number (terms_of (map argument o.value.args.list.items))
argument-Open o = search (rules, the_lemmas)

-- what an open term says, by its functor and its arguments
pub argument-parts : {A : Type 0} (term : CodeTerm A) (o : Box (CodeOpen A) A) (ts : List (CodeTerm A)) → term ≡ terms.Open o → ts ≡ o.value.args.list.items → argument term ≡ Open o.value.functor.number (terms_of (map argument ts))
argument-parts term o ts is e = ap argument is ∙ argument-Open o ∙ ap (λ us. Open o.value.functor.number (terms_of (map argument us))) (sym e)

module _ {A : Type 0} (self : CodeTerm A) (o : Box (CodeOpen A) A) (ts : List (CodeTerm A)) (is : self ≡ terms.Open o) (are : ts ≡ o.value.args.list.items) where
  pub known-parts : (n : ℕ) → list_all (argument_known n) (map argument ts) ≡ argument_known n (argument self)
  known-parts n = sym (known-terms n (map argument ts)) ∙ sym (ap (argument_known n) (argument-parts self o ts is are))

  pub known_after-parts : (n : ℕ) → known_after_args n (map argument ts) ≡ known_after_term n (argument self)
  known_after-parts n = sym (known_after-terms n (map argument ts)) ∙ sym (ap (known_after_term n) (argument-parts self o ts is are))

  -- what arguments leave below a functor, and what the term leaves
  pub left-parts : (d room rest : ℕ) → 0 < d → rest + 1 ≡ room → left_after_terms (d - 1) rest (map argument ts) ≡ left_after_term d room (argument self)
  left-parts d room rest h e = rw (argument-parts self o ts is are) (grind (arith, nat_tests))

  -- what is told of the arguments is told of the term
  pub canonical-told : (opens told : Bool) → opens ≡ list_any is_open (map argument ts) → opens ≡ true
      → IsTrue told ↔ AllByRecursion IsCanonical (map argument ts) → IsTrue told ↔ IsCanonical (argument self)
  canonical-told opens told is-open so means =
      rw (argument-parts self o ts is are) (grind (arith, variables_where_open (map argument ts), canonical-terms (map argument ts), length-map ts argument, count-terms (map argument ts), ap length are, o.value.args.few))

  pub canonical-not : (opens : Bool) → opens ≡ list_any is_open (map argument ts) → opens ≡ false → IsTrue opens ↔ IsCanonical (argument self)
  canonical-not opens is-open so =
      rw (argument-parts self o ts is are) (grind (arith, variables_where_open (map argument ts), canonical-terms (map argument ts), length-map ts argument, count-terms (map argument ts), ap length are, o.value.args.few))

pub same-told : {A : Type 0} (self other : CodeTerm A) (a b : Box (CodeOpen A) A) (xs ys : List (CodeTerm A)) (told : Bool) → self ≡ terms.Open a → other ≡ terms.Open b
    → a.value.functor.number ≡ b.value.functor.number → xs ≡ a.value.args.list.items → ys ≡ b.value.args.list.items → IsTrue told ↔ (map argument xs ≡ map argument ys) → IsTrue told ↔ (argument self ≡ argument other)
same-told self other a b xs ys told is-a is-b functors xs-are ys-are means =
    let l = argument-parts self a xs is-a xs-are in
    let r = argument-parts other b ys is-b ys-are in
    let s = same-Open a.value.functor.number b.value.functor.number (map argument xs) (map argument ys) in
    (λ t. l ∙ s.1 (functors, means.0 t) ∙ sym r, λ h. means.1 (s.0 (sym l ∙ h ∙ r)).1)
