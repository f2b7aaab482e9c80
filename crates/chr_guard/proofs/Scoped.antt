-- What the scoping of a rule says of its parts.
use Rattle.std.proofs.Common.{◌≡◌, ℕ, suc, ◌<◌, ◌≤◌, Bool, true, false, ◌&&◌, ◌==◌, nat_lt, if◌then◌else◌, List, [], ◌∷◌, ◌++◌, Option, Some, None, refl, sym, arith, true-eqb}
use Rattle.std.specs.List.{AllByRecursion, list_all}
use Rattle.std.proofs.lemmas.Bool.{and_parts}
use Rattle.std.proofs.lemmas.Bool.Decides.{nat_tests}
use Rattle.chr_value.proofs.Chosen.{some_is}
use Rattle.chr_rule.specs.Rules.{Term, Var, Given, Open, Terms, End, And, RuleAtom, Expression, BodyItem, Is, Add, Simpagation}
use Rattle.chr_rule.specs.Scope.{known_after_variable, known_after_term, known_after_terms, known_after_args, known_after_heads, known_after_body, known_then, argument_known, arguments_known, expression_known, test_known, IsRule}

if_known : {A P : Type 0} (b : Bool) (o : Option A) (m : A) → (if b then o else None) ≡ Some m → (b ≡ true → o ≡ Some m → P) → P
if_known b o m e f = grind arith

then_known : {A P : Type 0} (o : Option ℕ) (f : ℕ → Option A) (m : A) → known_then o f ≡ Some m → ((k : ℕ) → o ≡ Some k → f k ≡ Some m → P) → P
then_known o f m e g = grind arith

-- a variable in a head is known already, or it is the next one
pub variable_known : {P : Type 0} (n m x : ℕ) → known_after_variable n x ≡ Some m → (x < n → n ≡ m → P) → (x ≡ n → suc n ≡ m → P) → P
variable_known {P} n m x k old new =
    elim (nat_lt x n) as (λ b. (nat_lt x n ≡ b) → (if b then Some n else (if x == n then Some (suc n) else None)) ≡ Some m → P) [
      | true ↦ λ t j. old (grind (arith, nat_tests)) (some_is n m j)
      | false ↦ λ _ j. if_known (x == n) (Some (suc n)) m j (λ t i. new (true-eqb x n (sym t)) (some_is (suc n) m i))
    ] refl k

-- a term before others
pub and_known : {P : Type 0} (n m : ℕ) (t : Term ℕ) (ts : Terms ℕ) → known_after_terms n (And t ts) ≡ Some m → ((k : ℕ) → known_after_term n t ≡ Some k → known_after_terms k ts ≡ Some m → P) → P
and_known n m t ts k f = then_known (known_after_term n t) (λ z. known_after_terms z ts) m k f

pub arg_known : {P : Type 0} (n m : ℕ) (t : Term ℕ) (ts : List (Term ℕ)) → known_after_args n (t ∷ ts) ≡ Some m → ((k : ℕ) → known_after_term n t ≡ Some k → known_after_args k ts ≡ Some m → P) → P
arg_known n m t ts k f = then_known (known_after_term n t) (λ z. known_after_args z ts) m k f

pub head_known : {P : Type 0} (n m : ℕ) (h : RuleAtom ℕ) (hs : List (RuleAtom ℕ)) → known_after_heads n (h ∷ hs) ≡ Some m → ((k : ℕ) → known_after_args n h.args ≡ Some k → known_after_heads k hs ≡ Some m → P) → P
head_known n m h hs k f = then_known (known_after_args n h.args) (λ z. known_after_heads z hs) m k f

pub is_known : {P : Type 0} (n m x : ℕ) (e : Expression) (ms : List (BodyItem ℕ)) → known_after_body n (Is x e ∷ ms) ≡ Some m → (x ≡ n → expression_known n e ≡ true → known_after_body (suc n) ms ≡ Some m → P) → P
is_known n m x e ms k f =
    if_known ((x == n) && expression_known n e) (known_after_body (suc n) ms) m k (λ t j. let two = and_parts (x == n) (expression_known n e) t in f (true-eqb x n (sym two.0)) two.1 j)

pub add_known : {P : Type 0} (n m : ℕ) (s : RuleAtom ℕ) (ms : List (BodyItem ℕ)) → known_after_body n (Add s ∷ ms) ≡ Some m → (list_all (argument_known n) s.args ≡ true → known_after_body n ms ≡ Some m → P) → P
add_known n m s ms k f = if_known (list_all (argument_known n) s.args) (known_after_body n ms) m k f

-- how many variables the heads of a rule have, and what the guard and the body use of them
pub record Scoped (rule : Simpagation ℕ) : Type 0 where
  pub count : ℕ
  pub heads : known_after_heads 0 (rule.kept ++ rule.removed) ≡ Some count
  pub guard : list_all (test_known count) rule.guard ≡ true
  pub body : known_after_body count rule.body ≡ Some rule.variables

pub scoped : (rule : Simpagation ℕ) → IsRule rule → Scoped rule
scoped rule r =
    then_known (known_after_heads 0 (rule.kept ++ rule.removed)) (λ n. if list_all (test_known n) rule.guard then known_after_body n rule.body else None) rule.variables r.scoped
    (λ n k j. if_known (list_all (test_known n) rule.guard) (known_after_body n rule.body) rule.variables j (λ g b. record { count = n; heads = k; guard = g; body = b }))

-- what is known stays known
mutual
  pub argument_later : (n m : ℕ) (t : Term ℕ) → n ≤ m → argument_known n t ≡ true → argument_known m t ≡ true
  argument_later n m (Var x) h k = grind (arith, nat_tests)
  argument_later n m (Given v) h k = refl
  argument_later n m (Open s ts) h k = arguments_later n m ts h k

  arguments_later : (n m : ℕ) (ts : Terms ℕ) → n ≤ m → arguments_known n ts ≡ true → arguments_known m ts ≡ true
  arguments_later n m End h k = refl
  arguments_later n m (And t ts) h k = grind (arith, argument_later n m t h, arguments_later n m ts h)

pub args_later : (n m : ℕ) (args : List (Term ℕ)) → n ≤ m → list_all (argument_known n) args ≡ true → list_all (argument_known m) args ≡ true
args_later n m [] h k = refl
args_later n m (a ∷ args) h k = grind (arith, argument_later n m a h, args_later n m args h)

-- a term of a head is known after it
mutual
  term_below : (n m : ℕ) (t : Term ℕ) → known_after_term n t ≡ Some m → (n ≤ m) × (argument_known m t ≡ true)
  term_below n m (Var x) k = grind (arith, nat_tests)
  term_below n m (Given v) k = grind arith
  term_below n m (Open s ts) k = terms_below n m ts k

  terms_below : (n m : ℕ) (ts : Terms ℕ) → known_after_terms n ts ≡ Some m → (n ≤ m) × (arguments_known m ts ≡ true)
  terms_below n m End k = grind arith
  terms_below n m (And t ts) k =
      and_known n m t ts k (λ z i j. let one = term_below n z t i in let rest = terms_below z m ts j in grind (arith, argument_later z m t))

pub args_below : (n m : ℕ) (args : List (Term ℕ)) → known_after_args n args ≡ Some m → (n ≤ m) × (list_all (argument_known m) args ≡ true)
args_below n m [] k = grind arith
args_below n m (t ∷ args) k =
    arg_known n m t args k (λ z i j. let one = term_below n z t i in let rest = args_below z m args j in grind (arith, argument_later z m t))

-- the variables of each head are known after all of them
abbrev pub IsPlaced : ℕ → RuleAtom ℕ → Type 0
IsPlaced n h = list_all (argument_known n) h.args ≡ true

pub heads_below : (n m : ℕ) (hs : List (RuleAtom ℕ)) → known_after_heads n hs ≡ Some m → (n ≤ m) × AllByRecursion (IsPlaced m) hs
heads_below n m [] k = grind arith
heads_below n m (h ∷ hs) k =
    head_known n m h hs k (λ z i j. let one = args_below n z h.args i in let rest = heads_below z m hs j in (omega arith, (args_later z m h.args (omega arith) one.1, rest.1)))

pub body_below : (n m : ℕ) (ms : List (BodyItem ℕ)) → known_after_body n ms ≡ Some m → n ≤ m
body_below n m [] k = grind arith
body_below n m (Is x e ∷ ms) k = grind (arith, body_below (suc n) m ms)
body_below n m (Add s ∷ ms) k = grind (arith, body_below n m ms)
