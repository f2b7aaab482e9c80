-- An instance of a rule over atoms that a log can hold adds such atoms.
use Rattle.std.proofs.Common.{◌≡◌, ℕ, suc, ◌+◌, ◌<◌, ◌≤◌, ◌^◌, ◌==◌, ℤ, pos, negsuc, Bool, true, false, int_le, List, [], ◌∷◌, ◌++◌, length, take, map, Option, Some, None, refl, sym, ap, ap₂, subst, ◌∙◌, arith, lit<, max, inl, inr, true-eqb, if◌then◌else◌, ◌+ℤ◌, ◌-ℤ◌, ◌*ℤ◌, int_div, int_rem}
use Rattle.std.specs.List.{AllByRecursion, list_all}
use Rattle.std.proofs.lemmas.Bool.{and_parts, leb-true}
use Rattle.std.proofs.lemmas.Bool.Decides.{nat_tests}
use Rattle.chr_value.specs.Atoms.{Value, Int, Sym, Comp, Args, Nil, Cons, args_count, Atom, renamed, args_renamed, text_of, by_texts}
use Rattle.chr_value.specs.Limits.{depth, args_depth, size, args_size, IsWithin}
use Rattle.chr_value.specs.Naming.{Table}
use Rattle.chr_value.specs.Spelling.{is_control, IsName, FitsTerm, ArgsFit, FitsAtom}
use Rattle.chr_value.proofs.Chosen.{chosen, some_is}
use Rattle.chr_value.proofs.Back.{within_same}
use Rattle.chr_value.proofs.Inside.{atom_inside, atom_kept}
use Rattle.chr_rule.specs.declared.expression.Operator.{Operator}
use Rattle.chr_rule.specs.declared.expression.Operator.TheVariants as operators
use Rattle.chr_rule.specs.Rules.{Term, Var, Given, Open, Terms, End, And, RuleAtom, Expression, Number, Variable, Operation, BodyItem, Is, Add, Simpagation}
use Rattle.chr_rule.specs.Scope.{known_after_term, known_after_terms, known_after_args, known_after_heads, known_after_body, argument_known, arguments_known, expression_known, IsRule}
use Rattle.chr_rule.specs.Terms.{IsTerm, term_depth, terms_depth, term_size, terms_size}
use Rattle.chr_grammar.proofs.Members_again.{all_append}
use Rattle.chr_guard.specs.Values.{Valuation, in_range, is_zero, int_mod, computed, number_in, value_of, term_under, terms_under, value_under}
use Rattle.chr_guard.specs.Instances.{atom_under, made_under, AreUnder, AreMadeUnder, IsRight, added, Instance}
use Rattle.chr_guard.proofs.Scoped.{variable_known, and_known, arg_known, head_known, is_known, add_known, scoped}
use Rattle.chr_guard.proofs.Under.{both_parts, open_parts, cons_parts, limited, atom_by_is, atom_is, under_append, under_length, made_length}
use Rattle.chr_text.specs.Writable.{AreWritable, CanHold, term_with, terms_with, atom_with}

-- ---- numbers

-- the numbers of an expression have 64 bits with sign
abbrev pub NumbersFit : Expression → Type 0
NumbersFit (Number n) = FitsTerm (Int n)
NumbersFit (Variable x) = Unit {0}
NumbersFit (Operation o a b) = NumbersFit a × NumbersFit b

bounds_fit : (n : ℤ) → int_le (negsuc 9223372036854775807) n ≡ true → int_le n (pos 9223372036854775807) ≡ true → FitsTerm (Int n)
bounds_fit (pos k) low high = let le : k ≤ 9223372036854775807 = leb-true _ _ high in let lit : 9223372036854775807 < 2 ^ 63 = lit< tt in omega (arith, le, lit)
bounds_fit (negsuc k) low high = let le : k ≤ 9223372036854775807 = leb-true _ _ low in let lit : 9223372036854775807 < 2 ^ 63 = lit< tt in omega (arith, le, lit)

in_range_fits : (n z : ℤ) → in_range n ≡ Some z → FitsTerm (Int z)
in_range_fits n z h =
    elim (chosen _ (Some n) None (Some z) h) [
      | inl p ↦
          let two = and_parts (int_le (negsuc 9223372036854775807) n) (int_le n (pos 9223372036854775807)) p.0 in
          subst (λ (k : ℤ). FitsTerm (Int k)) (some_is n z p.1) (bounds_fit n two.0 two.1)
      | inr p ↦ absurd (let k = p.1 in cc)
    ]

divided_fits : (b : Bool) (n z : ℤ) → (let o : Option ℤ = if b then None else in_range n in o) ≡ Some z → FitsTerm (Int z)
divided_fits true n z h = absurd cc
divided_fits false n z h = in_range_fits n z h

computed_fits : (o : Operator) (a b z : ℤ) → computed o a b ≡ Some z → FitsTerm (Int z)
computed_fits operators.Add a b z h = in_range_fits (a +ℤ b) z h
computed_fits operators.Sub a b z h = in_range_fits (a -ℤ b) z h
computed_fits operators.Mul a b z h = in_range_fits (a *ℤ b) z h
computed_fits operators.Quot a b z h = divided_fits (is_zero b) (int_div a b) z h
computed_fits operators.Rem a b z h = divided_fits (is_zero b) (int_rem a b) z h
computed_fits operators.Mod a b z h = divided_fits (is_zero b) (int_mod a b) z h

-- ---- valuations

-- a log can hold the values of the first n variables
abbrev HeldBelow : Table → Valuation → ℕ → Type 0
HeldBelow table v n = (x : ℕ) (t : Value ℕ) → x < n → v x ≡ Some t → CanHold table t

-- the arguments of a functor that it can hold
abbrev CanHoldAll : Table → Args ℕ → Type 0
CanHoldAll table vs = ArgsFit (args_renamed (text_of table) vs)

held_next : (table : Table) (v : Valuation) (n x : ℕ) (t : Value ℕ) → HeldBelow table v n → x ≡ n → v x ≡ Some t → CanHold table t → HeldBelow table v (suc n)
held_next table v n x t held at is holds y u lt there =
    elim (y == n) as (λ b. (y == n ≡ b) → CanHold table u) [
      | true ↦ λ q.
          let place : y ≡ x = true-eqb y n (sym q) ∙ sym at in
          let same : Some t ≡ Some u = sym is ∙ ap v (sym place) ∙ there in
          subst (CanHold table) (some_is t u same) holds
      | false ↦ λ q. held y u (grind (arith, nat_tests)) there
    ] refl

mutual
  term_held : (table : Table) (v : Valuation) (n m : ℕ) (t : Term ℕ) (a : Value ℕ) → known_after_term n t ≡ Some m → term_under v t ≡ Some a → CanHold table a → HeldBelow table v n → HeldBelow table v m
  term_held table v n m (Var x) a k e fits held =
      variable_known n m x k
      (λ _ j. subst (HeldBelow table v) j held)
      (λ s j. subst (HeldBelow table v) j (held_next table v n x a held s e fits))
  term_held table v n m (Given t) a k e fits held = subst (HeldBelow table v) (some_is n m k) held
  term_held table v n m (Open s ts) a k e fits held =
      let p = open_parts s (terms_under v ts) a e in
      let parts : CanHold table (Comp s p.0) = subst (CanHold table) (sym p.2) fits in
      terms_held table v n m ts p.0 k p.1 parts.3 held

  terms_held : (table : Table) (v : Valuation) (n m : ℕ) (ts : Terms ℕ) (us : Args ℕ) → known_after_terms n ts ≡ Some m → terms_under v ts ≡ Some us → CanHoldAll table us → HeldBelow table v n → HeldBelow table v m
  terms_held table v n m End us k e fits held = subst (HeldBelow table v) (some_is n m k) held
  terms_held table v n m (And t ts) us k e fits held =
      let p = cons_parts (term_under v t) (terms_under v ts) us e in
      let parts : CanHoldAll table (Cons p.0 p.1) = subst (CanHoldAll table) (sym p.4) fits in
      and_known n m t ts k (λ z i j. terms_held table v z m ts p.1 j p.3 parts.1 (term_held table v n z t p.0 i p.2 parts.0 held))

args_held : (table : Table) (v : Valuation) (n m : ℕ) (args : List (Term ℕ)) (vs : List (Value ℕ)) → known_after_args n args ≡ Some m → map (term_under v) args ≡ map (λ t. Some t) vs → AllByRecursion FitsTerm (map (renamed (text_of table)) vs) → HeldBelow table v n → HeldBelow table v m
args_held table v n m [] vs k e all held = subst (HeldBelow table v) (some_is n m k) held
args_held table v n m (t ∷ args) [] k e all held = absurd (cc)
args_held table v n m (t ∷ args) (x ∷ vs) k e all held =
    let one : term_under v t ≡ Some x = cc in
    let rest : map (term_under v) args ≡ map (λ t. Some t) vs = cc in
    arg_known n m t args k (λ z i j. args_held table v z m args vs j rest all.1 (term_held table v n z t x i one all.0 held))

heads_held : (table : Table) (v : Valuation) (n m : ℕ) (hs : List (RuleAtom ℕ)) (atoms : List (Atom ℕ)) → known_after_heads n hs ≡ Some m → AreUnder v hs atoms → AreWritable table atoms → HeldBelow table v n → HeldBelow table v m
heads_held table v n m [] atoms k e all held = subst (HeldBelow table v) (some_is n m k) held
heads_held table v n m (h ∷ hs) [] k e all held = absurd (cc)
heads_held table v n m (h ∷ hs) (x ∷ atoms) k e all held =
    let one : atom_under v h ≡ Some x = cc in
    let rest : AreUnder v hs atoms = cc in
    head_known n m h hs k (λ z i j. heads_held table v z m hs atoms j rest all.1 (args_held table v n z h.args x.args i ((atom_is v h x).0 one).1 all.0.args held))

number_is : (o : Option (Value ℕ)) (z : ℤ) → number_in o ≡ Some z → o ≡ Some (Int z)
number_is (Some (Int n)) z h = ap (λ (k : ℤ). Some (Int k)) (some_is n z h)
number_is (Some (Sym s)) z h = absurd cc
number_is (Some (Comp s vs)) z h = absurd cc
number_is None z h = absurd cc

below : (x n : ℕ) → argument_known {N = ℕ} n (Var x) ≡ true → x < n
below x n k = grind (arith, nat_tests)

value_fits : (table : Table) (v : Valuation) (n : ℕ) (e : Expression) (z : ℤ) → HeldBelow table v n → expression_known n e ≡ true → NumbersFit e → value_of v e ≡ Some z → FitsTerm (Int z)
value_fits table v n (Number k) z held known fits h = subst (λ (i : ℤ). FitsTerm (Int i)) (some_is k z h) fits
value_fits table v n (Variable x) z held known fits h = held x (Int z) (below x n known) (number_is (v x) z h)
value_fits table v n (Operation o a b) z held known fits h =
    let p = both_parts (computed o) (value_of v a) (value_of v b) z h in
    computed_fits o p.0 p.1 z p.4

-- ---- atoms of a body

-- 0 in place of each variable
abbrev pub zeros : ℕ → Value ℕ
zeros x = Int (pos 0)

-- a number is as deep and as large as a variable is taken to be
mutual
  zeros_count : (t : Term ℕ) → (depth (term_with zeros t) ≡ term_depth t) × (size (term_with zeros t) ≡ term_size t)
  zeros_count (Var x) = (refl, refl)
  zeros_count (Given a) = (refl, refl)
  zeros_count (Open s ts) = let all = all_zeros_count ts in (ap suc all.0, ap suc all.1)

  all_zeros_count : (ts : Terms ℕ) → (args_depth (terms_with zeros ts) ≡ terms_depth ts) × (args_size (terms_with zeros ts) ≡ terms_size ts)
  all_zeros_count End = (refl, refl)
  all_zeros_count (And t ts) =
      let first = zeros_count t in
      let rest = all_zeros_count ts in
      (ap₂ max first.0 rest.0, ap₂ (λ (m n : ℕ). m + n) first.1 rest.1)

pub zeros_within : (ts : List (Term ℕ)) → AllByRecursion IsTerm ts → AllByRecursion IsWithin (map (term_with zeros) ts)
zeros_within [] all = tt
zeros_within (t ∷ ts) all =
    let deep = all.0.depth in
    let large = all.0.size in
    let zero_is = zeros_count t in
    (record { depth = omega (arith, deep, zero_is.0); size = omega (arith, large, zero_is.1) }, zeros_within ts all.1)

-- an atom of a rule, where its variables are numbers
abbrev pub AtomHeld : Table → RuleAtom ℕ → Type 0
AtomHeld table s = FitsAtom (by_texts table (atom_with zeros s))

abbrev pub ItemHeld : Table → BodyItem ℕ → Type 0
ItemHeld table (Is x e) = NumbersFit e
ItemHeld table (Add s) = AtomHeld table s

pub items_kept : (old new : Table) (ms : List (BodyItem ℕ)) → take (length old) new ≡ old → AllByRecursion (ItemHeld old) ms → AllByRecursion (ItemHeld new) ms
items_kept old new [] keeps all = tt
items_kept old new (Is x e ∷ ms) keeps all = (all.0, items_kept old new ms keeps all.1)
items_kept old new (Add s ∷ ms) keeps all =
    let a = atom_with zeros s in
    (subst FitsAtom (sym (atom_kept old new a keeps (atom_inside old a all.0))) all.0, items_kept old new ms keeps all.1)

-- how many arguments a functor has
abbrev written_count : Table → Args ℕ → ℕ
written_count table vs = args_count (args_renamed (text_of table) vs)

mutual
  term_filled : (table : Table) (v : Valuation) (n : ℕ) (t : Term ℕ) (a : Value ℕ) → term_under v t ≡ Some a → argument_known n t ≡ true → HeldBelow table v n → CanHold table (term_with zeros t) → CanHold table a
  term_filled table v n (Var x) a e known held fits = held x a (below x n known) e
  term_filled table v n (Given u) a e known held fits = subst (CanHold table) (some_is u a e) fits
  term_filled table v n (Open s ts) a e known held fits =
      let p = open_parts s (terms_under v ts) a e in
      let rest = terms_filled table v n ts p.0 p.1 known held fits.3 in
      let some = fits.1 in
      let few = fits.2 in
      let same = rest.1 in
      subst (CanHold table) p.2 (fits.0, omega (arith, some, same), omega (arith, few, same), rest.0)

  terms_filled : (table : Table) (v : Valuation) (n : ℕ) (ts : Terms ℕ) (us : Args ℕ) → terms_under v ts ≡ Some us → arguments_known n ts ≡ true → HeldBelow table v n → CanHoldAll table (terms_with zeros ts)
      → CanHoldAll table us × (written_count table (terms_with zeros ts) ≡ written_count table us)
  terms_filled table v n End us e known held fits =
      subst (λ (ws : Args ℕ). CanHoldAll table ws × (0 ≡ written_count table ws)) (some_is Nil us e) (tt, refl)
  terms_filled table v n (And t ts) us e known held fits =
      let p = cons_parts (term_under v t) (terms_under v ts) us e in
      let two = and_parts (argument_known n t) (arguments_known n ts) known in
      let first = term_filled table v n t p.0 p.2 two.0 held fits.0 in
      let rest = terms_filled table v n ts p.1 p.3 two.1 held fits.1 in
      subst (λ (ws : Args ℕ). CanHoldAll table ws × (suc (written_count table (terms_with zeros ts)) ≡ written_count table ws)) p.4 ((first, rest.0), ap suc rest.1)

-- values in place of the arguments of an atom of a rule
record AreFilled (table : Table) (args : List (Term ℕ)) (vs : List (Value ℕ)) : Type 0 where
  fit : AllByRecursion FitsTerm (map (renamed (text_of table)) vs)
  within : AllByRecursion IsWithin (map (renamed (text_of table)) vs)
  as_many : length (map (renamed (text_of table)) vs) ≡ length (map (renamed (text_of table)) (map (term_with zeros) args))
  plain : (t : List ℕ) → is_control t (map (renamed (text_of table)) (map (term_with zeros) args)) ≡ false → is_control t (map (renamed (text_of table)) vs) ≡ false

args_filled : (table : Table) (v : Valuation) (n : ℕ) (args : List (Term ℕ)) (vs : List (Value ℕ)) → map (value_under v) args ≡ map (λ t. Some t) vs → list_all (argument_known n) args ≡ true → HeldBelow table v n
    → AllByRecursion FitsTerm (map (renamed (text_of table)) (map (term_with zeros) args)) → AreFilled table args vs
args_filled table v n [] [] e k held all = record { fit = tt; within = tt; as_many = refl; plain = λ t h. h }
args_filled table v n [] (x ∷ vs) e k held all = absurd (cc)
args_filled table v n (t ∷ args) [] e k held all = absurd (cc)
args_filled table v n (t ∷ args) (x ∷ vs) e k held all =
    let one : value_under v t ≡ Some x = cc in
    let is = limited (term_under v t) x one in
    let two = and_parts (argument_known n t) (list_all (argument_known n) args) k in
    let rest = args_filled table v n args vs (cc) two.1 held all.1 in
    record {
      fit = (term_filled table v n t x is.0 two.0 held all.0, rest.fit);
      within = (within_same (text_of table) x is.1, rest.within);
      as_many = ap suc rest.as_many;
      plain = λ name h. refl;
    }

atom_filled : (table : Table) (v : Valuation) (n : ℕ) (s : RuleAtom ℕ) (a : Atom ℕ) → AtomHeld table s → list_all (argument_known n) s.args ≡ true → HeldBelow table v n → made_under v s ≡ Some a → FitsAtom (by_texts table a)
atom_filled table v n s a fits known held h =
    let is = (atom_by_is (value_under v) s a).0 h in
    let args = args_filled table v n s.args a.args is.1 known held fits.args in
    record {
      name = subst (λ (k : ℕ). IsName (text_of table k)) is.0 fits.name;
      args = args.fit;
      within = args.within;
      few = omega (arith, args.as_many, fits.few);
      plain = args.plain (text_of table a.name) (subst (λ (k : ℕ). is_control (text_of table k) (map (renamed (text_of table)) (map (term_with zeros) s.args)) ≡ false) is.0 fits.plain);
    }

body_fits : (table : Table) (v : Valuation) (n m : ℕ) (ms : List (BodyItem ℕ)) (atoms : List (Atom ℕ)) → known_after_body n ms ≡ Some m → AllByRecursion (IsRight v) ms → AllByRecursion (ItemHeld table) ms → HeldBelow table v n → AreMadeUnder v (added ms) atoms → AreWritable table atoms
body_fits table v n m [] [] k right all held e = tt
body_fits table v n m [] (a ∷ atoms) k right all held e = absurd (cc)
body_fits table v n m (Is x f ∷ ms) atoms k right all held e =
    is_known n m x f ms k (λ s known j.
    let fits = value_fits table v n f right.0.0 held known all.0 right.0.1 in
    body_fits table v (suc n) m ms atoms j right.1 all.1 (held_next table v n x (Int right.0.0) held s right.0.2 fits) e)
body_fits table v n m (Add s ∷ ms) [] k right all held e = absurd (cc)
body_fits table v n m (Add s ∷ ms) (a ∷ atoms) k right all held e =
    let one : made_under v s ≡ Some a = cc in
    let rest : AreMadeUnder v (added ms) atoms = cc in
    add_known n m s ms k (λ known j. (atom_filled table v n s a all.0 known held one, body_fits table v n m ms atoms j right.1 all.1 held rest))

pub instance_fits : (table : Table) (rule : Simpagation ℕ) (kept removed body : List (Atom ℕ)) → IsRule rule → AllByRecursion (ItemHeld table) rule.body → Instance rule kept removed body → AreWritable table kept → AreWritable table removed → AreWritable table body
instance_fits table rule kept removed body whole all i k r =
    let s = scoped rule whole in
    let under = under_append i.valuation rule.kept rule.removed kept removed i.kept_are i.removed_are in
    let held = heads_held table i.valuation 0 s.count (rule.kept ++ rule.removed) (kept ++ removed) s.heads under (all_append (λ a. FitsAtom (by_texts table a)) kept removed k r) (λ x t h. absurd (omega arith)) in
    body_fits table i.valuation s.count rule.variables rule.body body s.body i.right all held i.body_is

-- ---- how many atoms

added_length : (ms : List (BodyItem ℕ)) → length (added ms) ≤ length ms
added_length [] = omega arith
added_length (Is x e ∷ ms) = let le = added_length ms in omega (arith, le)
added_length (Add s ∷ ms) = let le = added_length ms in omega (arith, le)

pub body_few : (rule : Simpagation ℕ) (kept removed body : List (Atom ℕ)) → IsRule rule → Instance rule kept removed body → length body ≤ 16
body_few rule kept removed body whole i =
    let e = made_length i.valuation (added rule.body) body i.body_is in
    let le = added_length rule.body in
    let most = whole.limits.body in
    omega (arith, e, le, most)

pub heads_few : (rule : Simpagation ℕ) (kept removed body : List (Atom ℕ)) → IsRule rule → Instance rule kept removed body → (length kept + length removed ≤ 6) × (0 < length removed)
heads_few rule kept removed body whole i =
    let k = under_length i.valuation rule.kept kept i.kept_are in
    let r = under_length i.valuation rule.removed removed i.removed_are in
    let most = whole.limits.heads in
    let some = whole.limits.removed in
    (omega (arith, k, r, most), omega (arith, r, some))
