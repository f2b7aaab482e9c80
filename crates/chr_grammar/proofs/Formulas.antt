-- What is read as an expression is spelled so, and what is spelled so is read.
use Rattle.std.proofs.Common.{◌≡◌, ◌≤◌, ◌<◌, ℕ, zero, suc, true, List, [], ◌∷◌, ◌++◌, refl, sym, ap, subst, ◌∙◌, arith, append_assoc, Option, Some, ◌+◌, ◌-◌, false, if◌then◌else◌, nat_eq, max, None, Ok, Err}
use Rattle.std.proofs.lemmas.Bool.{cond_both, eqb-true, eqb-false}
use Rattle.chr_value.proofs.Chosen.{both}
use Rattle.chr_lex.specs.declared.mark.Mark.TheVariants as mark
use Rattle.chr_lex.specs.declared.mark.Mark.TheVariants.{Open, Close}
use Rattle.chr_lex.specs.Reading.{◌>>=◌}
use Rattle.chr_lex.specs.Tokens as word
use Rattle.chr_lex.specs.Tokens.{Lexeme, OfWord, OfMark}
use Rattle.chr_rule.specs.declared.expression.Operator.{Operator}
use Rattle.chr_rule.specs.declared.expression.Operator.TheVariants as operator
use Rattle.chr_value.specs.Bounds.{most_expression_depth}
use Rattle.chr_grammar.specs.Parsed.{ParsedExpression, Group, Operation}
use Rattle.chr_grammar.specs.Parsing.{Front, is_mark, sum_operator, product_operator, enclosed, fits, factor_at, chain_at, level_at, product_at, sum_at, expression_at}
use Rattle.chr_grammar.specs.Spelling.{operator_sign, formula_spelled, binds, holds, depth, IsGrouped, IsExpression, EndsExpression}
use Rattle.chr_grammar.proofs.Fronts.{IfRead, then_read, either_both, FrontRead, mark_is}
use Rattle.chr_lex.specs.declared.fault.Kind.{Kind}
use Rattle.chr_lex.specs.declared.fault.Kind.TheVariants.{Syntax}

-- the expression holds together so tightly, and stands at the front
abbrev pub Taken : ℕ → List Lexeme → ParsedExpression → List Lexeme → Type 0
Taken k ts f r = IsGrouped f × (k ≤ holds f) × (ts ≡ formula_spelled f ++ r)

abbrev pub FormulaRead : ℕ → List Lexeme → Front ParsedExpression → Type 0
FormulaRead k ts = IfRead (λ (x : ParsedExpression × List Lexeme). Taken k ts x.0 x.1)

closed_found : (ts : List Lexeme) (f : ParsedExpression) (r : List Lexeme) → Taken 1 ts f r → FormulaRead 3 (OfMark Open ∷ ts) (enclosed (Group f) r)
closed_found ts f [] h = refl
closed_found ts f (s ∷ r) h =
    cond_both (is_mark Close s) _ _ (FormulaRead 3 (OfMark Open ∷ ts))
    (λ c.
    let at : ts ≡ formula_spelled f ++ (OfMark Close ∷ r) = h.2 ∙ ap (λ (s : Lexeme). formula_spelled f ++ (s ∷ r)) (mark_is Close s c) in
    (h.0, omega arith, ap (λ (x : List Lexeme). OfMark Open ∷ x) (at ∙ sym (append_assoc (formula_spelled f) (OfMark Close ∷ []) r))))
    (λ c. refl)

factor_found : (inner : List Lexeme → Front ParsedExpression) → ((ts : List Lexeme) → FormulaRead 1 ts (inner ts)) → (ts : List Lexeme) → FormulaRead 3 ts (factor_at inner ts)
factor_found inner h (OfWord (word.Variable x) ∷ ts) = (tt, omega arith, refl)
factor_found inner h (OfWord (word.Number negative digits) ∷ ts) = (tt, omega arith, refl)
factor_found inner h (OfMark m ∷ ts) =
    cond_both (is_mark Open (OfMark m)) _ _ (FormulaRead 3 (OfMark m ∷ ts))
    (λ o. subst (λ (s : Lexeme). FormulaRead 3 (s ∷ ts) (inner ts >>= λ x. enclosed (Group x.0) x.1)) (sym (mark_is Open (OfMark m) o)) (then_read _ _ (inner ts) _ (h ts) (λ x k. closed_found ts x.0 x.1 k)))
    (λ o. refl)
factor_found inner h _ = refl

-- the operators of a level
abbrev pub OfLevel : ℕ → (Lexeme → Option Operator) → Type 0
OfLevel k operator = (s : Lexeme) (o : Operator) → operator s ≡ Some o → (binds o ≡ k) × (s ≡ operator_sign o)

joined_found : (k : ℕ) (ts us : List Lexeme) (f g : ParsedExpression) (o : Operator) (s : Lexeme) (r : List Lexeme) → (binds o ≡ k) × (s ≡ operator_sign o) → Taken k ts f (s ∷ us) → Taken (suc k) us g r → Taken k ts (Operation o f g) r
joined_found k ts us f g o s r is left right =
    let at : ts ≡ formula_spelled f ++ (operator_sign o ∷ (formula_spelled g ++ r)) = left.2 ∙ ap (λ (s : Lexeme). formula_spelled f ++ (s ∷ us)) is.1 ∙ ap (λ (x : List Lexeme). formula_spelled f ++ (operator_sign o ∷ x)) right.2 in
    let l : binds o ≤ holds f = omega (arith, is.0, left.1) in
    let t : binds o < holds g = omega (arith, is.0, right.1) in
    let w : k ≤ binds o = omega (arith, is.0) in
    ((l, t, left.0, right.0), w, at ∙ sym (append_assoc (formula_spelled f) (operator_sign o ∷ formula_spelled g) r))

chain_found : (k : ℕ) (operator : Lexeme → Option Operator) (side : List Lexeme → Front ParsedExpression) → OfLevel k operator → ((us : List Lexeme) → FormulaRead (suc k) us (side us))
    → (n : ℕ) (ts : List Lexeme) (f : ParsedExpression) (r : List Lexeme) → Taken k ts f r → FormulaRead k ts (chain_at operator side n f r)
chain_found k operator side level each zero ts f [] h = h
chain_found k operator side level each (suc n) ts f [] h = h
chain_found k operator side level each zero ts f (s ∷ us) h = either_both (operator s) _ _ (FormulaRead k ts) h (λ o is. refl)
chain_found k operator side level each (suc n) ts f (s ∷ us) h =
    either_both (operator s) _ _ (FormulaRead k ts) h
    (λ o is. then_read _ _ (side us) _ (each us) (λ x g. chain_found k operator side level each n ts (Operation o f x.0) x.1 (joined_found k ts us f x.0 o s x.1 (level s o is) h g)))

pub sums : OfLevel 1 sum_operator
sums (OfMark mark.Plus) o h = let e : operator.Add ≡ o = cc in subst (λ (o : Operator). (binds o ≡ 1) × (OfMark mark.Plus ≡ operator_sign o)) e (refl, refl)
sums (OfMark mark.Minus) o h = let e : operator.Sub ≡ o = cc in subst (λ (o : Operator). (binds o ≡ 1) × (OfMark mark.Minus ≡ operator_sign o)) e (refl, refl)
sums _ o h = absurd cc

pub products : OfLevel 2 product_operator
products (OfMark mark.Star) o h = let e : operator.Mul ≡ o = cc in subst (λ (o : Operator). (binds o ≡ 2) × (OfMark mark.Star ≡ operator_sign o)) e (refl, refl)
products (OfMark mark.Quotient) o h = let e : operator.Quot ≡ o = cc in subst (λ (o : Operator). (binds o ≡ 2) × (OfMark mark.Quotient ≡ operator_sign o)) e (refl, refl)
products (OfMark mark.Rem) o h = let e : operator.Rem ≡ o = cc in subst (λ (o : Operator). (binds o ≡ 2) × (OfMark mark.Rem ≡ operator_sign o)) e (refl, refl)
products (OfMark mark.Mod) o h = let e : operator.Mod ≡ o = cc in subst (λ (o : Operator). (binds o ≡ 2) × (OfMark mark.Mod ≡ operator_sign o)) e (refl, refl)
products _ o h = absurd cc

level_found : (k : ℕ) (operator : Lexeme → Option Operator) (side : List Lexeme → Front ParsedExpression) → OfLevel k operator → ((us : List Lexeme) → FormulaRead (suc k) us (side us)) → (ts : List Lexeme) → FormulaRead k ts (level_at operator side ts)
level_found k operator side level each ts =
    then_read _ _ (side ts) _ (each ts) (λ x h. chain_found k operator side level each 15 ts x.0 x.1 (h.0, omega (arith, h.1), h.2))

product_found : (inner : List Lexeme → Front ParsedExpression) → ((ts : List Lexeme) → FormulaRead 1 ts (inner ts)) → (ts : List Lexeme) → FormulaRead 2 ts (product_at inner ts)
product_found inner h = level_found 2 product_operator (factor_at inner) products (factor_found inner h)

sum_found : (n : ℕ) (ts : List Lexeme) → FormulaRead 1 ts (sum_at n ts)
unfolding sum_at
sum_found zero ts = refl
sum_found (suc n) ts = level_found 1 sum_operator (product_at (sum_at n)) sums (product_found (sum_at n) (sum_found n)) ts

-- ---- depth

pub fits_depth : (n : ℕ) (f : ParsedExpression) → fits n f ≡ true → depth f ≤ n
fits_depth zero f h = absurd cc
fits_depth (suc n) (Group f) h = let d = fits_depth n f h in omega arith
fits_depth (suc n) (Operation o f g) h =
    let b = both (fits n f) (fits n g) h in
    let d = fits_depth n f b.0 in
    let e = fits_depth n g b.1 in
    omega arith
fits_depth (suc n) _ h = omega arith

abbrev pub ExpressionRead : List Lexeme → Front ParsedExpression → Type 0
ExpressionRead = FrontRead IsExpression formula_spelled

pub expression_found : (ts : List Lexeme) → ExpressionRead ts (expression_at ts)
unfolding expression_at
expression_found ts =
    then_read _ _ (sum_at most_expression_depth ts) _ (sum_found most_expression_depth ts)
    (λ x h. cond_both (fits most_expression_depth x.0) _ _ (ExpressionRead ts) (λ d. ((h.0, fits_depth most_expression_depth x.0 d), h.2)) (λ d. refl))

-- ---- what is spelled so is read

-- no operator stands in front
abbrev pub NoOperator : (Lexeme → Option Operator) → List Lexeme → Type 0
NoOperator operator [] = Unit {0}
NoOperator operator (s ∷ ts) = operator s ≡ None

chain_end : (operator : Lexeme → Option Operator) (side : List Lexeme → Front ParsedExpression) (n : ℕ) (f : ParsedExpression) (rest : List Lexeme) → NoOperator operator rest → chain_at operator side n f rest ≡ Ok (f, rest)
chain_end operator side zero f [] h = refl
chain_end operator side (suc n) f [] h = refl
chain_end operator side zero f (s ∷ ts) h = rw h refl
chain_end operator side (suc n) f (s ∷ ts) h = rw h refl

-- how many operators of the level stand one after the other
abbrev operators : ℕ → ParsedExpression → ℕ
operators k (Operation o f g) = if nat_eq (binds o) k then suc (operators k f) else 0
operators k _ = 0

operators_few : (k : ℕ) (f : ParsedExpression) → operators k f < depth f
operators_few k (Operation o f g) =
    let h = operators_few k f in
    elim (nat_eq (binds o) k) as (λ b. (if b then suc (operators k f) else 0) < suc (max (depth f) (depth g))) [ true ↦ omega (arith, h) | false ↦ omega arith ]
operators_few k _ = omega arith

-- a level: its operators, and its sides
record Level (k : ℕ) (operator : Lexeme → Option Operator) (side : List Lexeme → Front ParsedExpression) (Stops : List Lexeme → Type 0) (d : ℕ) : Type 0 where
  known : (o : Operator) → binds o ≡ k → operator (operator_sign o) ≡ Some o
  stops : (o : Operator) (ts : List Lexeme) → binds o ≡ k → Stops (operator_sign o ∷ ts)
  reads : (g : ParsedExpression) (rest : List Lexeme) → IsGrouped g → suc k ≤ holds g → depth g ≤ d → Stops rest → side (formula_spelled g ++ rest) ≡ Ok (g, rest)

abbrev reading : (Lexeme → Option Operator) → (List Lexeme → Front ParsedExpression) → ℕ → List Lexeme → Front ParsedExpression
reading operator side n ts = side ts >>= λ x. chain_at operator side n x.0 x.1

module _ (k : ℕ) (operator : Lexeme → Option Operator) (side : List Lexeme → Front ParsedExpression) (Stops : List Lexeme → Type 0) (d : ℕ) (lt : k < 3) (level : Level k operator side Stops d) where
  alone : (f : ParsedExpression) (m n : ℕ) (rest : List Lexeme) → IsGrouped f → suc k ≤ holds f → depth f ≤ d → 0 + m ≡ n → Stops rest → reading operator side n (formula_spelled f ++ rest) ≡ chain_at operator side m f rest
  alone f m n rest grouped tight deep e stops = let same : n ≡ m = omega (arith, e) in rw (level.reads f rest grouped tight deep stops, same) refl

  spine : (f : ParsedExpression) (m n : ℕ) (rest : List Lexeme) → IsGrouped f → k ≤ holds f → depth f ≤ d → operators k f + m ≡ n → Stops rest → reading operator side n (formula_spelled f ++ rest) ≡ chain_at operator side m f rest
  spine (Operation o f g) m n rest grouped tight deep e stops =
      (elim (nat_eq (binds o) k) as (λ b. nat_eq (binds o) k ≡ b → (if b then suc (operators k f) else 0) + m ≡ n → reading operator side n (formula_spelled (Operation o f g) ++ rest) ≡ chain_at operator side m (Operation o f g) rest) [
        | true ↦ λ is e.
            let same : binds o ≡ k = eqb-true (binds o) k is in
            let behind = formula_spelled g ++ rest in
            let right : side behind ≡ Ok (g, rest) = level.reads g rest grouped.3 (omega (arith, same, grouped.1)) (omega (arith, deep)) stops in
            ap (reading operator side n) (append_assoc (formula_spelled f) (operator_sign o ∷ formula_spelled g) rest)
            ∙ spine f (suc m) n (operator_sign o ∷ behind) grouped.2 (omega (arith, same, grouped.0)) (omega (arith, deep)) (omega (arith, e)) (level.stops o behind same)
            ∙ rw (level.known o same, right) refl
        | false ↦ λ is e.
            let other = eqb-false (binds o) k is in
            alone (Operation o f g) m n rest grouped (omega (arith, other, tight)) deep e stops
      ]) refl e
  spine f m n rest grouped tight deep e stops = alone f m n rest grouped (omega (arith, lt)) deep e stops

  -- the whole level
  level_again : (n : ℕ) → d ≤ suc n → (f : ParsedExpression) (rest : List Lexeme) → IsGrouped f → k ≤ holds f → depth f ≤ d → Stops rest → NoOperator operator rest → reading operator side n (formula_spelled f ++ rest) ≡ Ok (f, rest)
  level_again n room f rest grouped tight deep stops none =
      let few = operators_few k f in
      let e : operators k f + (n - operators k f) ≡ n = omega (arith, few, deep, room) in
      spine f (n - operators k f) n rest grouped tight deep e stops ∙ chain_end operator side (n - operators k f) f rest none

-- ---- the two levels

abbrev pub InnerAgain : ℕ → (List Lexeme → Front ParsedExpression) → Type 0
InnerAgain n inner = (f : ParsedExpression) (rest : List Lexeme) → IsGrouped f → depth f ≤ n → NoOperator product_operator rest → NoOperator sum_operator rest → inner (formula_spelled f ++ rest) ≡ Ok (f, rest)

one_or_two : (o : Operator) → (1 ≤ binds o) × (binds o ≤ 2)
one_or_two operator.Add = (omega arith, omega arith)
one_or_two _ = (omega arith, omega arith)

holds_some : (f : ParsedExpression) → 1 ≤ holds f
holds_some (Operation o f g) = (one_or_two o).0
holds_some _ = omega arith

factor_again : (n : ℕ) (inner : List Lexeme → Front ParsedExpression) → InnerAgain n inner → (g : ParsedExpression) (rest : List Lexeme) → IsGrouped g → 3 ≤ holds g → depth g ≤ suc n → factor_at inner (formula_spelled g ++ rest) ≡ Ok (g, rest)
factor_again n inner again (Group f) rest grouped tight deep =
    let split : (formula_spelled f ++ OfMark Close ∷ []) ++ rest ≡ formula_spelled f ++ (OfMark Close ∷ rest) = append_assoc (formula_spelled f) (OfMark Close ∷ []) rest in
    let inside : inner (formula_spelled f ++ (OfMark Close ∷ rest)) ≡ Ok (f, OfMark Close ∷ rest) = again f (OfMark Close ∷ rest) grouped (omega (arith, deep)) refl refl in
    rw (split, inside) refl
factor_again n inner again (Operation o f g) rest grouped tight deep = let h : binds o ≤ 2 = (one_or_two o).1 in absurd (omega (arith, h, tight))
factor_again n inner again _ rest grouped tight deep = refl

-- how the sign of an operator that binds so tightly is read
abbrev SignRead : ℕ → Operator → Type 0
SignRead zero o = Unit {0}
SignRead (suc zero) o = (sum_operator (operator_sign o) ≡ Some o) × (product_operator (operator_sign o) ≡ None)
SignRead (suc (suc k)) o = product_operator (operator_sign o) ≡ Some o

sign_read : (o : Operator) → SignRead (binds o) o
sign_read operator.Add = (refl, refl)
sign_read operator.Sub = (refl, refl)
sign_read _ = refl

read_so : (k : ℕ) (o : Operator) → binds o ≡ k → SignRead k o
read_so k o h = subst (λ (n : ℕ). SignRead n o) h (sign_read o)

abbrev Anything : List Lexeme → Type 0
Anything ts = Unit {0}

products_level : (n : ℕ) (inner : List Lexeme → Front ParsedExpression) → InnerAgain n inner → Level 2 product_operator (factor_at inner) Anything (suc n)
products_level n inner again = record { known = read_so 2; stops = λ o ts h. tt; reads = λ g rest grouped tight deep stops. factor_again n inner again g rest grouped tight deep }

product_again : (n : ℕ) (inner : List Lexeme → Front ParsedExpression) → suc n ≤ 16 → InnerAgain n inner → (g : ParsedExpression) (rest : List Lexeme) → IsGrouped g → 2 ≤ holds g → depth g ≤ suc n → NoOperator product_operator rest → product_at inner (formula_spelled g ++ rest) ≡ Ok (g, rest)
product_again n inner room again g rest grouped tight deep none =
    level_again 2 product_operator (factor_at inner) Anything (suc n) (omega arith) (products_level n inner again) 15 room g rest grouped tight deep tt none

sums_level : (n : ℕ) (inner : List Lexeme → Front ParsedExpression) → suc n ≤ 16 → InnerAgain n inner → Level 1 sum_operator (product_at inner) (NoOperator product_operator) (suc n)
sums_level n inner room again = record { known = λ o h. (read_so 1 o h).0; stops = λ o ts h. (read_so 1 o h).1; reads = product_again n inner room again }

sum_again : (n : ℕ) → n ≤ 16 → InnerAgain n (sum_at n)
unfolding sum_at
sum_again zero room f rest grouped deep no_products no_sums = let h = operators_few 1 f in absurd (omega (arith, h, deep))
sum_again (suc n) room f rest grouped deep no_products no_sums =
    level_again 1 sum_operator (product_at (sum_at n)) (NoOperator product_operator) (suc n) (omega arith) (sums_level n (sum_at n) room (sum_again n (omega (arith, room)))) 15 room f rest grouped (holds_some f) deep no_products no_sums

depth_fits : (n : ℕ) (f : ParsedExpression) → depth f ≤ n → fits n f ≡ true
depth_fits zero f h = let few = operators_few 1 f in absurd (omega (arith, few, h))
depth_fits (suc n) (Group f) h = depth_fits n f (omega (arith, h))
depth_fits (suc n) (Operation o f g) h =
    let a = depth_fits n f (omega (arith, h)) in
    let b = depth_fits n g (omega (arith, h)) in
    rw (a, b) refl
depth_fits (suc n) _ h = refl

pub expression_again : (f : ParsedExpression) (rest : List Lexeme) → IsExpression f → NoOperator product_operator rest → NoOperator sum_operator rest → expression_at (formula_spelled f ++ rest) ≡ Ok (f, rest)
unfolding expression_at
expression_again f rest stands no_products no_sums =
    let read : sum_at most_expression_depth (formula_spelled f ++ rest) ≡ Ok (f, rest) = sum_again most_expression_depth (omega arith) f rest stands.0 stands.1 no_products no_sums in
    let enough : fits most_expression_depth f ≡ true = depth_fits most_expression_depth f stands.1 in
    rw (read, enough) refl

no_sign : (k : ℕ) (operator : Lexeme → Option Operator) (s : Lexeme) (o : Option Operator) → OfLevel k operator → operator s ≡ o → ((p : Operator) → s ≡ operator_sign p → ⊥) → operator s ≡ None
no_sign k operator s None level h other = h
no_sign k operator s (Some o) level h other = absurd (other o (level s o h).1)

pub read_before : (f : ParsedExpression) (rest : List Lexeme) → IsExpression f → EndsExpression rest → expression_at (formula_spelled f ++ rest) ≡ Ok (f, rest)
read_before f [] stands ends = expression_again f [] stands tt tt
read_before f (s ∷ ts) stands ends = expression_again f (s ∷ ts) stands (no_sign 2 product_operator s _ products refl ends) (no_sign 1 sum_operator s _ sums refl ends)

pub are_expressions : (ts rest : List Lexeme) (f : ParsedExpression) → expression_at ts ≡ Ok (f, rest) → IsExpression f × (ts ≡ formula_spelled f ++ rest)
are_expressions ts rest f h = subst (ExpressionRead ts) h (expression_found ts)

pub no_expressions : (ts : List Lexeme) (k : Kind) → expression_at ts ≡ Err k → (k ≡ Syntax) × ((f : ParsedExpression) (rest : List Lexeme) → IsExpression f → EndsExpression rest → ts ≡ formula_spelled f ++ rest → ⊥)
no_expressions ts k h = (subst (ExpressionRead ts) h (expression_found ts), λ f rest stands ends is. let x = read_before f rest stands ends in let y = ap expression_at is in cc)
