-- The parts of a rule that are numbered say the same by the table after it, which has their names, and keep the same limits.
use Rattle.std.proofs.Common.{◌≡◌, ◌<◌, ◌≤◌, ℕ, List, [], ◌∷◌, length, take, map, Option, Some, refl, ap, ap₂, subst, ◌∙◌, arith, ◌+◌, suc, max, Bool, cond, ◌&&◌, ◌||◌, ◌++◌, None, sym}
use Rattle.std.specs.List.{AllByRecursion, list_all}
use Rattle.std.proofs.Math.Seq.{take-length}
use Rattle.chr_value.specs.Atoms.{Value, TermIsNamed, AtomIsNamed, renamed, text_of, by_texts, Int, Sym, Comp, Args, Nil, Cons, args_renamed}
use Rattle.chr_value.specs.Naming.{◌>>=◌, Table, number_name, numbered_value, number_terms, numbered_atom}
use Rattle.chr_value.proofs.Chosen.{bind_some, some_is}
use Rattle.chr_value.proofs.NameLaws.{keeps-then}
use Rattle.chr_value.proofs.Inside.{atom_kept as fact_kept}
use Rattle.chr_value.proofs.Said.{text_kept, name_says as text_says, as_long, term_later, term_kept, term_says}
use Rattle.chr_rule.specs.Rules.{Term, Var, Given, Open, Terms, End, And, RuleAtom, Comparison, Compared, Same, Differ, BodyItem, Is, Add, Simpagation, of_parts}
use Rattle.chr_text.specs.Named.{ArgumentIsNamed, ArgumentsAreNamed, RuleAtomIsNamed, ComparisonIsNamed, BodyItemIsNamed, RuleIsNamed}
use Rattle.chr_text.proofs.Lists.{IfThere, there, if_there, then_there, each_so, each_from}
use Rattle.chr_text.specs.Numbering.{each, numbered_term, numbered_terms, numbered_rule_atom, number_test, number_member, number_rule}
use Rattle.std.proofs.lemmas.List.{length-map, map-append}
use Rattle.chr_value.specs.Limits.{depth, args_depth, size, args_size}
use Rattle.chr_rule.specs.Scope.{known_then, known_after_term, known_after_terms, known_after_args, known_after_heads, known_after_body, argument_known, arguments_known, test_known, variable_count, IsRule}
use Rattle.chr_rule.specs.Terms.{has_variable, have_variable, terms_count, IsCanonical, AreCanonical, term_depth, terms_depth, term_size, terms_size, IsTerm, IsRuleAtom, IsComparison, IsBodyItem}

-- ---- by the texts of a table

abbrev pub value_by : Table → Value ℕ → Value (List ℕ)
value_by table v = renamed (text_of table) v

abbrev mutual
  pub argument_by : Table → Term ℕ → Term (List ℕ)
  argument_by table (Var x) = Var x
  argument_by table (Given v) = Given (value_by table v)
  argument_by table (Open s ts) = Open (text_of table s) (arguments_by table ts)

  pub arguments_by : Table → Terms ℕ → Terms (List ℕ)
  arguments_by table End = End
  arguments_by table (And t ts) = And (argument_by table t) (arguments_by table ts)

abbrev pub rule_atom_by : Table → RuleAtom ℕ → RuleAtom (List ℕ)
rule_atom_by table s = record { name = text_of table s.name; args = map (argument_by table) s.args }

abbrev pub test_by : Table → Comparison ℕ → Comparison (List ℕ)
test_by table (Compared r a b) = Compared r a b
test_by table (Same s t) = Same (argument_by table s) (argument_by table t)
test_by table (Differ s t) = Differ (argument_by table s) (argument_by table t)

abbrev pub item_by : Table → BodyItem ℕ → BodyItem (List ℕ)
item_by table (Is x e) = Is x e
item_by table (Add s) = Add (rule_atom_by table s)

abbrev pub rule_by : Table → Simpagation ℕ → Simpagation (List ℕ)
rule_by table r = of_parts r.variables (map (rule_atom_by table) r.kept) (map (rule_atom_by table) r.removed) (map (test_by table) r.guard) (map (item_by table) r.body)

-- ---- a longer table has the same names and texts

-- What a table has, each longer one has, and each that begins so says the same of it.
pub record Lasts {A B : Type 0} (by : Table → B → A) (Has : ℕ → B → Type 0) : Type 0 where
  pub later : (m n : ℕ) (b : B) → m ≤ n → Has m b → Has n b
  pub kept : (old new : Table) (b : B) → take (length old) new ≡ old → Has (length old) b → by new b ≡ by old b

abbrev pub each_by : {A B : Type 0} → (Table → B → A) → Table → List B → List A
each_by by table bs = map (by table) bs

abbrev pub EachHas : {B : Type 0} → (ℕ → B → Type 0) → ℕ → List B → Type 0
EachHas Has n bs = AllByRecursion (Has n) bs

pub each_lasts : {A B : Type 0} {by : Table → B → A} {Has : ℕ → B → Type 0} → Lasts by Has → Lasts (each_by by) (EachHas Has)
each_lasts {A} {B} {by} {Has} lasts = record { later = λ m n bs le. each_so (Has m) (Has n) (λ b. lasts.later m n b le) bs; kept = kept }
  where
    kept : (old new : Table) (bs : List B) → take (length old) new ≡ old → EachHas Has (length old) bs → each_by by new bs ≡ each_by by old bs
    kept old new [] keeps all = refl
    kept old new (b ∷ bs) keeps all = ap₂ (λ (x : A) xs. x ∷ xs) (lasts.kept old new b keeps all.0) (kept old new bs keeps all.1)

-- a name's number is within the table
abbrev pub Below : ℕ → ℕ → Type 0
Below n k = k < n

names_last : Lasts text_of Below
names_last = record { later = λ m n k le h. omega (arith, h, le); kept = λ old new k keeps h. text_kept old new k keeps h }

values_last : Lasts value_by TermIsNamed
values_last = record { later = term_later; kept = term_kept }

mutual
  argument_later : (m n : ℕ) (t : Term ℕ) → m ≤ n → ArgumentIsNamed m t → ArgumentIsNamed n t
  argument_later m n (Var x) le h = tt
  argument_later m n (Given v) le h = term_later m n v le h
  argument_later m n (Open s ts) le h = (names_last.later m n s le h.0, arguments_later m n ts le h.1)

  arguments_later : (m n : ℕ) (ts : Terms ℕ) → m ≤ n → ArgumentsAreNamed m ts → ArgumentsAreNamed n ts
  arguments_later m n End le h = tt
  arguments_later m n (And t ts) le h = (argument_later m n t le h.0, arguments_later m n ts le h.1)

mutual
  argument_kept : (a b : Table) (t : Term ℕ) → take (length a) b ≡ a → ArgumentIsNamed (length a) t → argument_by b t ≡ argument_by a t
  argument_kept a b (Var x) h i = refl
  argument_kept a b (Given v) h i = ap (λ w. Given w) (term_kept a b v h i)
  argument_kept a b (Open s ts) h i = ap₂ (λ (w : List ℕ) ws. Open w ws) (text_kept a b s h i.0) (arguments_kept a b ts h i.1)

  arguments_kept : (a b : Table) (ts : Terms ℕ) → take (length a) b ≡ a → ArgumentsAreNamed (length a) ts → arguments_by b ts ≡ arguments_by a ts
  arguments_kept a b End h i = refl
  arguments_kept a b (And t ts) h i = ap₂ (λ w ws. And w ws) (argument_kept a b t h i.0) (arguments_kept a b ts h i.1)

argument_lasts : Lasts argument_by ArgumentIsNamed
argument_lasts = record { later = argument_later; kept = argument_kept }

args_last : Lasts (each_by argument_by) (EachHas ArgumentIsNamed)
args_last = each_lasts argument_lasts

atom_lasts : Lasts rule_atom_by RuleAtomIsNamed
atom_lasts = record {
  later = λ m n s le h. record { name = names_last.later m n s.name le h.name; args = args_last.later m n s.args le h.args };
  kept = λ a b s h i. ap₂ (λ (w : List ℕ) (ws : List (Term (List ℕ))). record { name = w; args = ws }) (text_kept a b s.name h i.name) (args_last.kept a b s.args h i.args);
}

test_lasts : Lasts test_by ComparisonIsNamed
test_lasts = record { later = later; kept = kept }
  where
    later : (m n : ℕ) (t : Comparison ℕ) → m ≤ n → ComparisonIsNamed m t → ComparisonIsNamed n t
    later m n (Compared r a b) le h = tt
    later m n (Same s t) le h = (argument_later m n s le h.0, argument_later m n t le h.1)
    later m n (Differ s t) le h = (argument_later m n s le h.0, argument_later m n t le h.1)

    kept : (a b : Table) (t : Comparison ℕ) → take (length a) b ≡ a → ComparisonIsNamed (length a) t → test_by b t ≡ test_by a t
    kept a b (Compared r x y) h i = refl
    kept a b (Same s t) h i = ap₂ (λ w v. Same w v) (argument_kept a b s h i.0) (argument_kept a b t h i.1)
    kept a b (Differ s t) h i = ap₂ (λ w v. Differ w v) (argument_kept a b s h i.0) (argument_kept a b t h i.1)

item_lasts : Lasts item_by BodyItemIsNamed
item_lasts = record { later = later; kept = kept }
  where
    later : (m n : ℕ) (b : BodyItem ℕ) → m ≤ n → BodyItemIsNamed m b → BodyItemIsNamed n b
    later m n (Is x e) le h = tt
    later m n (Add s) le h = atom_lasts.later m n s le h

    kept : (a b : Table) (m : BodyItem ℕ) → take (length a) b ≡ a → BodyItemIsNamed (length a) m → item_by b m ≡ item_by a m
    kept a b (Is x e) h i = refl
    kept a b (Add s) h i = ap (λ w. Add w) (atom_lasts.kept a b s h i)

pub rule_lasts : Lasts rule_by RuleIsNamed
rule_lasts = record {
  later = λ m n r le h. record {
    kept = heads.later m n r.kept le h.kept;
    removed = heads.later m n r.removed le h.removed;
    guard = tests.later m n r.guard le h.guard;
    body = items.later m n r.body le h.body;
  };
  kept = λ a b r h i. rw (heads.kept a b r.kept h i.kept, heads.kept a b r.removed h i.removed, tests.kept a b r.guard h i.guard, items.kept a b r.body h i.body) refl;
}
  where
    heads : Lasts (each_by rule_atom_by) (EachHas RuleAtomIsNamed)
    heads = each_lasts atom_lasts

    tests : Lasts (each_by test_by) (EachHas ComparisonIsNamed)
    tests = each_lasts test_lasts

    items : Lasts (each_by item_by) (EachHas BodyItemIsNamed)
    items = each_lasts item_lasts

pub facts_last : Lasts by_texts AtomIsNamed
facts_last = record {
  later = λ m n a le h. record { name = names_last.later m n a.name le h.name; args = (each_lasts values_last).later m n a.args le h.args };
  kept = fact_kept;
}

-- ---- numbering

-- What is numbered says the same by the table after it, which has its names and begins with the one before.
abbrev pub Says : {A B : Type 0} → (Table → B → A) → (ℕ → B → Type 0) → Table → A → B × Table → Type 0
Says by Has table a x = (by x.1 x.0 ≡ a) × Has (length x.1) x.0 × (take (length table) x.1 ≡ table)

abbrev pub Numbers : {A B : Type 0} → (Table → A → Option (B × Table)) → (Table → B → A) → (ℕ → B → Type 0) → Type 0
Numbers {A} f by Has = (table : Table) (a : A) → IfThere (Says by Has table a) (f table a)

-- by each table that begins with that one too
says_still : {A B : Type 0} {by : Table → B → A} {Has : ℕ → B → Type 0} → Lasts by Has → (table mid new : Table) (a : A) (b : B) → Says by Has table a (b, mid) → take (length mid) new ≡ mid → Says by Has table a (b, new)
says_still lasts table mid new a b says keeps =
    (lasts.kept mid new b keeps says.1 ∙ says.0, lasts.later (length mid) (length new) b (as_long mid new keeps) says.1, keeps-then table mid new says.2 keeps)

-- two, one after the other
then_says : {A B C D E F : Type 0} {by : Table → B → A} {Has : ℕ → B → Type 0} → Lasts by Has → (by' : Table → D → C) (Has' : ℕ → D → Type 0) (by'' : Table → F → E) (Has'' : ℕ → F → Type 0) (table : Table) (a : A) (c : C) (e : E) (make : B → D → F) (o : Option (B × Table)) (g : Table → Option (D × Table))
    → IfThere (Says by Has table a) o → ((mid : Table) → IfThere (Says by' Has' mid c) (g mid))
    → ((x : B) (y : D) (new : Table) → by new x ≡ a → by' new y ≡ c → by'' new (make x y) ≡ e) → ((n : ℕ) (x : B) (y : D) → Has n x → Has' n y → Has'' n (make x y))
    → IfThere (Says by'' Has'' table e) (o >>= λ x. g x.1 >>= λ y. Some (make x.0 y.0, y.1))
then_says {by = by} {Has = Has} lasts by' Has' by'' Has'' table a c e make o g first second same named =
    then_there (Says by Has table a) (Says by'' Has'' table e) o (λ x. g x.1 >>= λ y. Some (make x.0 y.0, y.1)) first
    (λ x s. then_there (Says by' Has' x.1 c) (Says by'' Has'' table e) (g x.1) (λ y. Some (make x.0 y.0, y.1)) (second x.1)
    (λ y t. let still = says_still lasts table x.1 y.1 a x.0 s t.2 in (same x.0 y.0 y.1 still.0 t.0, named (length y.1) x.0 y.0 still.1 t.1, still.2)))

pub each_says : {A B : Type 0} (f : Table → A → Option (B × Table)) {by : Table → B → A} {Has : ℕ → B → Type 0} → Lasts by Has → Numbers f by Has → Numbers (each f) (each_by by) (EachHas Has)
each_says f lasts one table [] = (refl, tt, take-length table)
each_says {A} {B} f {by} {Has} lasts one table (a ∷ as') =
    then_says lasts (each_by by) (EachHas Has) (each_by by) (EachHas Has) table a as' (a ∷ as') (λ (x : B) xs. x ∷ xs) (f table a) (λ mid. each f mid as') (one table a) (λ mid. each_says f lasts one mid as') (λ x xs new p q. ap₂ (λ (w : A) ws. w ∷ ws) p q) (λ n x xs p q. (p, q))

name_says : Numbers number_name text_of Below
name_says table t = if_there (Says text_of Below table t) (number_name table t) (λ x e. text_says table t x.0 x.1 e)

value_says : Numbers numbered_value value_by TermIsNamed
value_says table v = if_there (Says value_by TermIsNamed table v) (numbered_value table v) (λ x e. term_says table v x.0 x.1 e)

mutual
  pub argument_says : Numbers numbered_term argument_by ArgumentIsNamed
  argument_says table (Var x) = (refl, tt, take-length table)
  argument_says table (Given v) =
      then_there (Says value_by TermIsNamed table v) (Says argument_by ArgumentIsNamed table (Given v)) (numbered_value table v) (λ x. Some (Given x.0, x.1)) (value_says table v) (λ x s. (ap (λ w. Given w) s.0, s.1, s.2))
  argument_says table (Open t ts) =
      then_says names_last arguments_by ArgumentsAreNamed argument_by ArgumentIsNamed table t ts (Open t ts) Open (number_name table t) (λ mid. numbered_terms mid ts) (name_says table t) (λ mid. arguments_say mid ts) (λ n xs new p q. ap₂ (λ (w : List ℕ) ws. Open w ws) p q) (λ n s xs p q. (p, q))

  arguments_say : Numbers numbered_terms arguments_by ArgumentsAreNamed
  arguments_say table End = (refl, tt, take-length table)
  arguments_say table (And t ts) =
      then_says argument_lasts arguments_by ArgumentsAreNamed arguments_by ArgumentsAreNamed table t ts (And t ts) And (numbered_term table t) (λ mid. numbered_terms mid ts) (argument_says table t) (λ mid. arguments_say mid ts) (λ x xs new p q. ap₂ (λ w ws. And w ws) p q) (λ n x xs p q. (p, q))

atom_says : Numbers numbered_rule_atom rule_atom_by RuleAtomIsNamed
atom_says table s =
    then_says names_last (each_by argument_by) (EachHas ArgumentIsNamed) rule_atom_by RuleAtomIsNamed table s.name s.args s (λ n xs. record { name = n; args = xs }) (number_name table s.name) (λ mid. each numbered_term mid s.args) (name_says table s.name) (λ mid. each_says numbered_term argument_lasts argument_says mid s.args)
    (λ n xs new p q. ap₂ (λ (w : List ℕ) (ws : List (Term (List ℕ))). record { name = w; args = ws }) p q) (λ n k xs p q. record { name = p; args = q })

test_says : Numbers number_test test_by ComparisonIsNamed
test_says table (Compared r a b) = (refl, tt, take-length table)
test_says table (Same s t) =
    then_says argument_lasts argument_by ArgumentIsNamed test_by ComparisonIsNamed table s t (Same s t) Same (numbered_term table s) (λ mid. numbered_term mid t) (argument_says table s) (λ mid. argument_says mid t) (λ x y new p q. ap₂ (λ w v. Same w v) p q) (λ n x y p q. (p, q))
test_says table (Differ s t) =
    then_says argument_lasts argument_by ArgumentIsNamed test_by ComparisonIsNamed table s t (Differ s t) Differ (numbered_term table s) (λ mid. numbered_term mid t) (argument_says table s) (λ mid. argument_says mid t) (λ x y new p q. ap₂ (λ w v. Differ w v) p q) (λ n x y p q. (p, q))

item_says : Numbers number_member item_by BodyItemIsNamed
item_says table (Is x e) = (refl, tt, take-length table)
item_says table (Add s) =
    then_there (Says rule_atom_by RuleAtomIsNamed table s) (Says item_by BodyItemIsNamed table (Add s)) (numbered_rule_atom table s) (λ x. Some (Add x.0, x.1)) (atom_says table s) (λ x says. (ap (λ w. Add w) says.0, says.1, says.2))

pub rule_says : (table new : Table) (r : Simpagation (List ℕ)) (n : Simpagation ℕ) → number_rule table r ≡ Some (n, new) → Says rule_by RuleIsNamed table r (n, new)
rule_says table new r n h =
    let a = bind_some (each numbered_rule_atom table r.kept) _ (n, new) h in
    let b = bind_some (each numbered_rule_atom a.0.1 r.removed) _ (n, new) a.2 in
    let c = bind_some (each number_test b.0.1 r.guard) _ (n, new) b.2 in
    let d = bind_some (each number_member c.0.1 r.body) _ (n, new) c.2 in
    let heads = each_says numbered_rule_atom atom_lasts atom_says in
    let body = there _ _ _ (each_says number_member item_lasts item_says c.0.1 r.body) d.1 in
    let guard = says_still (each_lasts test_lasts) b.0.1 c.0.1 d.0.1 r.guard c.0.0 (there _ _ _ (each_says number_test test_lasts test_says b.0.1 r.guard) c.1) body.2 in
    let removed = says_still (each_lasts atom_lasts) a.0.1 b.0.1 d.0.1 r.removed b.0.0 (there _ _ _ (heads a.0.1 r.removed) b.1) guard.2 in
    let kept = says_still (each_lasts atom_lasts) table a.0.1 d.0.1 r.kept a.0.0 (there _ _ _ (heads table r.kept) a.1) removed.2 in
    let made : Simpagation ℕ = of_parts r.variables a.0.0 b.0.0 c.0.0 d.0.0 in
    let same : rule_by d.0.1 made ≡ r = rw (kept.0, removed.0, guard.0, body.0) (refl {a = r}) in
    let named : RuleIsNamed (length d.0.1) made = record { kept = kept.1; removed = removed.1; guard = guard.1; body = body.1 } in
    subst (Says rule_by RuleIsNamed table r) (some_is {A = Simpagation ℕ × Table} (made, d.0.1) (n, new) d.2) (same, named, kept.2)

terms_say : Numbers number_terms (each_by value_by) (EachHas TermIsNamed)
unfolding number_terms
terms_say table [] = (refl, tt, take-length table)
terms_say table (v ∷ vs) =
    then_says values_last (each_by value_by) (EachHas TermIsNamed) (each_by value_by) (EachHas TermIsNamed) table v vs (v ∷ vs) (λ (x : Value ℕ) xs. x ∷ xs) (numbered_value table v) (λ mid. number_terms mid vs) (value_says table v) (λ mid. terms_say mid vs)
    (λ x xs new p q. ap₂ (λ (w : Value (List ℕ)) ws. w ∷ ws) p q) (λ n x xs p q. (p, q))

pub facts_say : Numbers numbered_atom by_texts AtomIsNamed
unfolding numbered_atom
facts_say table a =
    then_says names_last (each_by value_by) (EachHas TermIsNamed) by_texts AtomIsNamed table a.name a.args a (λ n xs. record { name = n; args = xs }) (number_name table a.name) (λ mid. number_terms mid a.args) (name_says table a.name) (λ mid. terms_say mid a.args)
    (λ n xs new p q. ap₂ (λ (w : List ℕ) (ws : List (Value (List ℕ))). record { name = w; args = ws }) p q) (λ n k xs p q. record { name = p; args = q })

-- ---- values

mutual
  value_same : {M N : Type 0} (f : M → N) (v : Value M) → (depth (renamed f v) ≡ depth v) × (size (renamed f v) ≡ size v)
  value_same f (Int z) = (refl, refl)
  value_same f (Sym s) = (refl, refl)
  value_same f (Comp s vs) = let h = args_same f vs in (ap suc h.0, ap suc h.1)

  args_same : {M N : Type 0} (f : M → N) (vs : Args M) → (args_depth (args_renamed f vs) ≡ args_depth vs) × (args_size (args_renamed f vs) ≡ args_size vs)
  args_same f Nil = (refl, refl)
  args_same f (Cons v vs) = let a = value_same f v in let b = args_same f vs in (ap₂ max a.0 b.0, ap₂ (λ (m n : ℕ). m + n) a.1 b.1)

-- ---- terms

pub then_same : {A : Type 0} (o p : Option ℕ) (f g : ℕ → Option A) → o ≡ p → ((n : ℕ) → f n ≡ g n) → known_then o f ≡ known_then p g
then_same None p f g e h = rw (← e) refl
then_same (Some n) p f g e h = rw (← e) (h n)

mutual
  term_same : (table : Table) (t : Term ℕ) → let u = argument_by table t in
      (term_depth u ≡ term_depth t) × (term_size u ≡ term_size t) × (has_variable u ≡ has_variable t) × ((n : ℕ) → known_after_term n u ≡ known_after_term n t) × ((n : ℕ) → argument_known n u ≡ argument_known n t) × (IsCanonical u → IsCanonical t)
  term_same table (Var x) = (refl, refl, refl, λ n. refl, λ n. refl, λ h. h)
  term_same table (Given v) = let h = value_same (text_of table) v in (h.0, h.1, refl, λ n. refl, λ n. refl, λ h. h)
  term_same table (Open s ts) = let h = terms_same table ts in let few = h.6 in (ap suc h.0, ap suc h.1, h.2, h.3, h.4, λ c. (rw (← few) c.0, sym h.2 ∙ c.1, h.5 c.2))

  terms_same : (table : Table) (ts : Terms ℕ) → let us = arguments_by table ts in
      (terms_depth us ≡ terms_depth ts) × (terms_size us ≡ terms_size ts) × (have_variable us ≡ have_variable ts) × ((n : ℕ) → known_after_terms n us ≡ known_after_terms n ts) × ((n : ℕ) → arguments_known n us ≡ arguments_known n ts) × (AreCanonical us → AreCanonical ts) × (terms_count us ≡ terms_count ts)
  terms_same table End = (refl, refl, refl, λ n. refl, λ n. refl, λ h. h, refl)
  terms_same table (And t ts) =
      let a = term_same table t in
      let b = terms_same table ts in (
        ap₂ max a.0 b.0,
        ap₂ (λ (m n : ℕ). m + n) a.1 b.1,
        ap₂ (λ (p q : Bool). p || q) a.2 b.2,
        λ n. then_same _ _ (λ m. known_after_terms m (arguments_by table ts)) (λ m. known_after_terms m ts) (a.3 n) b.3,
        λ n. ap₂ (λ (p q : Bool). p && q) (a.4 n) (b.4 n),
        λ c. (a.5 c.0, b.5 c.1),
        ap suc b.6,
      )

-- what a rule may have by other names, it may have
pub term_stays : (table : Table) (t : Term ℕ) → IsTerm (argument_by table t) → IsTerm t
term_stays table t is =
    let same = term_same table t in
    record { canonical = same.5 is.canonical; depth = omega (arith, is.depth, same.0); size = omega (arith, is.size, same.1) }

-- ---- the parts of a rule

all_same : {A B : Type 0} (f : B → A) (p : A → Bool) (q : B → Bool) → ((b : B) → p (f b) ≡ q b) → (bs : List B) → list_all p (map f bs) ≡ list_all q bs
all_same f p q h [] = refl
all_same f p q h (b ∷ bs) = ap₂ (λ (x y : Bool). x && y) (h b) (all_same f p q h bs)

args_after : (table : Table) (n : ℕ) (ts : List (Term ℕ)) → known_after_args n (map (argument_by table) ts) ≡ known_after_args n ts
args_after table n [] = refl
args_after table n (t ∷ ts) = then_same _ _ (λ m. known_after_args m (map (argument_by table) ts)) (λ m. known_after_args m ts) ((term_same table t).3 n) (λ m. args_after table m ts)

heads_after : (table : Table) (n : ℕ) (hs : List (RuleAtom ℕ)) → known_after_heads n (map (rule_atom_by table) hs) ≡ known_after_heads n hs
heads_after table n [] = refl
heads_after table n (h ∷ hs) = then_same _ _ (λ m. known_after_heads m (map (rule_atom_by table) hs)) (λ m. known_after_heads m hs) (args_after table n h.args) (λ m. heads_after table m hs)

test_same : (table : Table) (n : ℕ) (t : Comparison ℕ) → test_known n (test_by table t) ≡ test_known n t
test_same table n (Compared r a b) = refl
test_same table n (Same s t) = ap₂ (λ (p q : Bool). p && q) ((term_same table s).4 n) ((term_same table t).4 n)
test_same table n (Differ s t) = ap₂ (λ (p q : Bool). p && q) ((term_same table s).4 n) ((term_same table t).4 n)

body_after : (table : Table) (n : ℕ) (ms : List (BodyItem ℕ)) → known_after_body n (map (item_by table) ms) ≡ known_after_body n ms
body_after table n [] = refl
body_after table n (Is x e ∷ ms) = rw (body_after table (suc n) ms) refl
body_after table n (Add s ∷ ms) = rw (all_same (argument_by table) (argument_known n) (argument_known n) (λ t. (term_same table t).4 n) s.args, body_after table n ms) refl

atom_stays : (table : Table) (s : RuleAtom ℕ) → IsRuleAtom (rule_atom_by table s) → IsRuleAtom s
atom_stays table s all = each_from IsTerm IsTerm (argument_by table) (term_stays table) s.args all

test_stays : (table : Table) (t : Comparison ℕ) → IsComparison (test_by table t) → IsComparison t
test_stays table (Same s t) is = (term_stays table s is.0, term_stays table t is.1)
test_stays table (Differ s t) is = (term_stays table s is.0, term_stays table t is.1)
test_stays table _ is = tt

item_stays : (table : Table) (m : BodyItem ℕ) → IsBodyItem (item_by table m) → IsBodyItem m
item_stays table (Is x e) is = tt
item_stays table (Add s) is = atom_stays table s is

-- ---- a rule

count_same : (table : Table) (r : Simpagation ℕ) → let s = rule_by table r in variable_count (s.kept ++ s.removed) s.guard s.body ≡ variable_count (r.kept ++ r.removed) r.guard r.body
count_same table r =
    let heads : known_after_heads 0 (map (rule_atom_by table) r.kept ++ map (rule_atom_by table) r.removed) ≡ known_after_heads 0 (r.kept ++ r.removed)
    = ap (known_after_heads 0) (sym (map-append (rule_atom_by table) r.kept r.removed)) ∙ heads_after table 0 (r.kept ++ r.removed) in
    then_same _ _ (λ n. cond (list_all (test_known n) (map (test_by table) r.guard)) (known_after_body n (map (item_by table) r.body)) None) (λ n. cond (list_all (test_known n) r.guard) (known_after_body n r.body) None) heads
    (λ n. ap₂ (λ (b : Bool) (o : Option ℕ). cond b o None) (all_same (test_by table) (test_known n) (test_known n) (test_same table n) r.guard) (body_after table n r.body))

pub rule_stays : (table : Table) (r : Simpagation ℕ) → IsRule (rule_by table r) → IsRule r
rule_stays table r is = record {
  scoped = sym (count_same table r) ∙ is.scoped;
  limits = record {
    variables = is.limits.variables;
    removed = omega (arith, is.limits.removed, length-map r.removed (rule_atom_by table));
    heads = omega (arith, is.limits.heads, length-map r.kept (rule_atom_by table), length-map r.removed (rule_atom_by table));
    guard = omega (arith, is.limits.guard, length-map r.guard (test_by table));
    body = omega (arith, is.limits.body, length-map r.body (item_by table));
  };
  terms = record {
    kept = each_from IsRuleAtom IsRuleAtom (rule_atom_by table) (atom_stays table) r.kept is.terms.kept;
    removed = each_from IsRuleAtom IsRuleAtom (rule_atom_by table) (atom_stays table) r.removed is.terms.removed;
    guard = each_from IsComparison IsComparison (test_by table) (test_stays table) r.guard is.terms.guard;
    body = each_from IsBodyItem IsBodyItem (item_by table) (item_stays table) r.body is.terms.body;
  };
}
