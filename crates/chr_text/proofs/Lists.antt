-- Lists whose elements all have a property, what is there of an option, and numbering one part after another.
use Rattle.std.proofs.Common.{◌≡◌, List, [], ◌∷◌, length, map, Option, Some, None, refl, ap, subst, suc, ◌≤◌, ◌<◌, ◌+◌, ℕ, drop, get_or, zero, sym, ◌∙◌, add-one, arith, drop-cons, length-drop, take, ◌++◌, Ok, Err, append_assoc}
use Rattle.std.specs.List.{AllByRecursion}
use Rattle.chr_value.specs.Naming.{◌>>=◌, Table, number_name, numbered_value, number_terms, number_more, numbered_atom}
use Rattle.chr_text.specs.Translation.{somes, argument, test, given}
use Rattle.chr_text.specs.Variables.{Seen, in_turn}
use Rattle.std.proofs.lemmas.List.{nil_from_length, append-nil, map_push}
use Rattle.std.proofs.Math.Seq.{take-length}
use Rattle.chr_value.proofs.NameLaws.{keeps-then}
use Rattle.chr_text.specs.Tables.{Keeps}
use Rattle.chr_lex.specs.declared.fault.Kind.{Kind}
use Rattle.chr_lex.specs.declared.fault.Kind.TheVariants.{NamesFull}
use Rattle.chr_lex.specs.declared.fault.ItemError.{ItemError}
use Rattle.chr_lex.specs.declared.fault.ItemError.TheVariants as item_errors
use Rattle.chr_lex.specs.Reading.{Fails}
use Rattle.chr_value.proofs.Chosen.{bind_some, some_is}
use Rattle.chr_rule.specs.Rules.{Term, RuleAtom, Comparison, Same, Differ}
use Rattle.chr_grammar.specs.Parsed as parsed
use Rattle.chr_grammar.specs.Parsed.{ParsedTerm}
use Rattle.chr_text.specs.Numbering.{or_full, each, more, maybe, numbered_term, numbered_rule_atom, number_test, put}
use Rattle.chr_value.specs.Atoms.{Value, Atom}
use Rattle.std.specs.Option.{option_map}

-- what is there is so
abbrev pub IfThere : {A : Type 0} → (A → Type 0) → Option A → Type 0
IfThere P None = Unit {0}
IfThere P (Some x) = P x

pub there : {A : Type 0} (P : A → Type 0) (o : Option A) (x : A) → IfThere P o → o ≡ Some x → P x
there P o x h e = subst (IfThere P) e h

pub if_there : {A : Type 0} (P : A → Type 0) (o : Option A) → ((x : A) → o ≡ Some x → P x) → IfThere P o
if_there P None h = tt
if_there P (Some x) h = h x refl

pub then_there : {A B : Type 0} (P : A → Type 0) (Q : B → Type 0) (o : Option A) (f : A → Option B) → IfThere P o → ((x : A) → P x → IfThere Q (f x)) → IfThere Q (o >>= f)
then_there P Q None f h k = tt
then_there P Q (Some x) f h k = k x h

-- ---- lists

pub each_so : {A : Type 0} (P Q : A → Type 0) → ((a : A) → P a → Q a) → (as' : List A) → AllByRecursion P as' → AllByRecursion Q as'
each_so P Q h [] all = tt
each_so P Q h (a ∷ as') all = (h a all.0, each_so P Q h as' all.1)

pub each_made : {A B : Type 0} (P : A → Type 0) (Q : B → Type 0) (f : A → B) → ((a : A) → P a → Q (f a)) → (as' : List A) → AllByRecursion P as' → AllByRecursion Q (map f as')
each_made P Q f h [] all = tt
each_made P Q f h (a ∷ as') all = (h a all.0, each_made P Q f h as' all.1)

pub each_from : {A B : Type 0} (P : B → Type 0) (Q : A → Type 0) (f : A → B) → ((a : A) → P (f a) → Q a) → (as' : List A) → AllByRecursion P (map f as') → AllByRecursion Q as'
each_from P Q f h [] all = tt
each_from P Q f h (a ∷ as') all = (h a all.0, each_from P Q f h as' all.1)

pub each_both : {A : Type 0} (P Q R : A → Type 0) → ((a : A) → P a → Q a → R a) → (as' : List A) → AllByRecursion P as' → AllByRecursion Q as' → AllByRecursion R as'
each_both P Q R h [] ps qs = tt
each_both P Q R h (a ∷ as') ps qs = (h a ps.0 qs.0, each_both P Q R h as' ps.1 qs.1)

pub each_split : {A : Type 0} (P : A → Type 0) (xs ys : List A) → AllByRecursion P (xs ++ ys) → AllByRecursion P xs × AllByRecursion P ys
each_split P [] ys all = (tt, all)
each_split P (x ∷ xs) ys all = let rest = each_split P xs ys all.1 in ((all.0, rest.0), rest.1)

-- ---- what is made of each in its turn

pub turns_so : {A B : Type 0} (P : A → Type 0) (Q : B → Type 0) (g : Seen → A → B × Seen) → ((seen : Seen) (a : A) → P a → Q (g seen a).0) → (seen : Seen) (as' : List A) → AllByRecursion P as' → AllByRecursion Q (in_turn g seen as').0
turns_so P Q g h seen [] all = tt
turns_so P Q g h seen (a ∷ as') all = (h seen a all.0, turns_so P Q g h (g seen a).1 as' all.1)

somes_so : {B : Type 0} (Q : B → Type 0) (os : List (Option B)) → AllByRecursion (IfThere Q) os → AllByRecursion Q (somes os)
somes_so Q [] all = tt
somes_so Q (None ∷ os) all = somes_so Q os all.1
somes_so Q (Some x ∷ os) all = (all.0, somes_so Q os all.1)

-- the same where some give nothing
pub some_turns_so : {A B : Type 0} (P : A → Type 0) (Q : B → Type 0) (g : Seen → A → Option B × Seen) → ((seen : Seen) (a : A) → P a → IfThere Q (g seen a).0) → (seen : Seen) (as' : List A) → AllByRecursion P as' → AllByRecursion Q (somes (in_turn g seen as').0)
some_turns_so P Q g h seen as' all = somes_so Q (in_turn g seen as').0 (turns_so P (IfThere Q) g h seen as' all)

pub turns_count : {A B : Type 0} (g : Seen → A → B × Seen) (seen : Seen) (as' : List A) → length (in_turn g seen as').0 ≡ length as'
turns_count g seen [] = refl
turns_count g seen (a ∷ as') = ap suc (turns_count g (g seen a).1 as')

pub drop_from : {A : Type 0} (xs : List A) (i : ℕ) (x : A) → i < length xs → x ≡ get_or xs i x → drop i xs ≡ x ∷ drop (i + 1) xs
drop_from xs i x lt is = let e : drop i xs ≡ get_or xs i x ∷ drop (i + 1) xs = rw (add-one, drop-cons xs i x) refl in e ∙ ap (λ y. y ∷ drop (i + 1) xs) (sym is)

pub map_from : {A B : Type 0} (f : A → B) (xs : List A) (i : ℕ) (x : A) → i < length xs → x ≡ get_or xs i x → map f (drop i xs) ≡ f x ∷ map f (drop (i + 1) xs)
map_from f xs i x lt is = ap (map f) (drop_from xs i x lt is)

-- the same, where the place is read with a default
pub map_at : {A B : Type 0} (f : A → B) (xs : List A) (i : ℕ) (d : A) → i < length xs → map f (drop i xs) ≡ f (get_or xs i d) ∷ map f (drop (i + 1) xs)
map_at f xs i d lt = let e : drop i xs ≡ get_or xs i d ∷ drop (i + 1) xs = rw (add-one, drop-cons xs i d) refl in ap (map f) e

pub map_end : {A B : Type 0} (f : A → B) (xs : List A) (i : ℕ) → length xs ≤ i → map f (drop i xs) ≡ []
map_end f xs i le = ap (map f) (nil_from_length (drop i xs) (omega (arith, length-drop i xs)))

pub all_at : {A B : Type 0} (P : B → Type 0) (f : A → B) (xs : List A) (i : ℕ) (d : A) → AllByRecursion P (map f xs) → i < length xs → P (f (get_or xs i d))
all_at P f [] i d all lt = absurd (omega arith)
all_at P f (x ∷ xs) zero d all lt = all.0
all_at P f (x ∷ xs) (suc i) d all lt = all_at P f xs i d all.1 (omega arith)

pub all_from : {A B : Type 0} (P : B → Type 0) (f : A → B) (xs : List A) (i : ℕ) (x : A) → AllByRecursion P (map f xs) → i < length xs → x ≡ get_or xs i x → P (f x)
all_from P f xs i x all lt is = subst (λ y. P (f y)) (sym is) (all_at P f xs i x all lt)

pub keeps_same : (t : Table) → Keeps t t
unfolding Keeps
keeps_same t = take-length t

pub keeps_more : (t old new : Table) → take (length old) new ≡ old → Keeps t old → Keeps t new
unfolding Keeps
keeps_more t old new step h = keeps-then t old new h step

pub keeps_back : (old new : Table) → ((t : Table) → Keeps t old → Keeps t new) → take (length old) new ≡ old
unfolding Keeps
keeps_back old new h = h old (take-length old)

pub numbered_is : {A : Type 0} (r : Option A) (x : A) → or_full r ≡ Ok x → r ≡ Some x
numbered_is None x e = absurd cc
numbered_is (Some y) x e = cc

-- What would have succeeded with another fails with it.
pub fails_as : {A B : Type 0} (e : ItemError) (r : Option A) (s : Option B) → ((y : B) → s ≡ Some y → (x : A) × (r ≡ Some x)) → Fails e (or_full r) → Fails e (or_full s)
fails_as item_errors.Memory r s h k = tt
fails_as (item_errors.Fault k) None None h is = let kind : NamesFull ≡ k = cc in ap (λ (j : Kind). Err j) kind
fails_as (item_errors.Fault k) None (Some y) h is = let x = (h y refl).1 in absurd cc
fails_as (item_errors.Fault k) (Some x) s h is = absurd cc

-- What fails first fails.
pub fails_then : {A B : Type 0} (e : ItemError) (r : Option A) (f : A → Option B) → Fails e (or_full r) → Fails e (or_full (r >>= f))
fails_then e r f h = fails_as e r (r >>= f) (λ y is. let x = bind_some r f y is in (x.0, x.1)) h

pub fails_back : {A B : Type 0} (e : ItemError) (r : Option A) (f : A → B) → Fails e (or_full (r >>= λ x. Some (f x))) → Fails e (or_full r)
fails_back e r f h = fails_as e (r >>= λ x. Some (f x)) r (λ x is. (f x, rw is refl)) h

-- ---- each in turn

-- the first, and those behind it
pub uncons : {A B : Type 0} (f : Table → A → Option (B × Table)) (table new : Table) (a : A) (as' : List A) (bs : List B) → each f table (a ∷ as') ≡ Some (bs, new) → (x : B × Table) × (xs : List B) × (f table a ≡ Some x) × (each f x.1 as' ≡ Some (xs, new)) × (x.0 ∷ xs ≡ bs)
uncons {B = B} f table new a as' bs h =
    let x = bind_some (f table a) (λ x. each f x.1 as' >>= λ xs. Some (x.0 ∷ xs.0, xs.1)) (bs, new) h in
    let y = bind_some (each f x.0.1 as') (λ xs. Some (x.0.0 ∷ xs.0, xs.1)) (bs, new) x.2 in
    let e = some_is {A = List B × Table} (x.0.0 ∷ y.0.0, y.0.1) (bs, new) y.2 in
    (x.0, y.0.0, x.1, y.1 ∙ ap (λ (n : Table). Some (y.0.0, n)) (ap (λ (p : List B × Table). p.1) e), ap (λ (p : List B × Table). p.0) e)

pub each_end : {A B : Type 0} (f : Table → A → Option (B × Table)) (table new : Table) (bs : List B) → each f table [] ≡ Some (bs, new) → ([] ≡ bs) × (table ≡ new)
each_end {B = B} f table new bs h = let e = some_is {A = List B × Table} ([], table) (bs, new) h in (ap (λ (p : List B × Table). p.0) e, ap (λ (p : List B × Table). p.1) e)

pub each_fails : {A B : Type 0} (f : Table → A → Option (B × Table)) (e : ItemError) (front : List B) (table : Table) (a : A) (as' all : List A) (total : Option (List B × Table))
    → all ≡ a ∷ as' → Fails e (or_full (f table a)) → more front (each f table all) ≡ total → Fails e (or_full total)
each_fails f e front table a as' all total is h so_far =
    rw (← so_far, is) (fails_then e (f table a >>= λ x. each f x.1 as' >>= λ xs. Some (x.0 ∷ xs.0, xs.1)) (λ x. Some (front ++ x.0, x.1)) (fails_then e (f table a) (λ x. each f x.1 as' >>= λ xs. Some (x.0 ∷ xs.0, xs.1)) h))

regroup : {B : Type 0} (front : List B) (y : B) (rest : Option (List B × Table)) → more front (rest >>= λ xs. Some (y ∷ xs.0, xs.1)) ≡ more (front ++ y ∷ []) rest
regroup front y (Some x) = ap (λ (w : List _). Some (w, x.1)) (sym (append_assoc front (y ∷ []) x.0))
regroup front y None = refl

pub each_more : {A B : Type 0} (f : Table → A → Option (B × Table)) (front : List B) (table new : Table) (a : A) (as' all : List A) (y : B) (total : Option (List B × Table))
    → all ≡ a ∷ as' → f table a ≡ Some (y, new) → more front (each f table all) ≡ total → more (front ++ y ∷ []) (each f new as') ≡ total
each_more f front table new a as' all y total is h so_far =
    let here : more front (each f table all) ≡ more front (each f new as' >>= λ xs. Some (y ∷ xs.0, xs.1)) = rw (is, h) refl in
    sym (regroup front y (each f new as')) ∙ sym here ∙ so_far

pub each_done : {A B : Type 0} (f : Table → A → Option (B × Table)) (front : List B) (table : Table) (all : List A) (total : Option (List B × Table))
    → all ≡ [] → more front (each f table all) ≡ total → total ≡ Some (front, table)
each_done f front table all total is so_far =
    let here : more front (each f table all) ≡ Some (front ++ [], table) = rw is refl in
    sym so_far ∙ here ∙ ap (λ (w : List _). Some (w, table)) (append-nil front)

-- ---- two terms that are compared

pub first_fails : (e : ItemError) (table : Table) (s t : Term (List ℕ)) → Fails e (or_full (numbered_term table s)) → Fails e (or_full (each numbered_term table (s ∷ t ∷ [])))
first_fails e table s t h = fails_then e (numbered_term table s) (λ x. each numbered_term x.1 (t ∷ []) >>= λ xs. Some (x.0 ∷ xs.0, xs.1)) h

pub second_fails : (e : ItemError) (table new : Table) (s t : Term (List ℕ)) (x : Term ℕ) → or_full (numbered_term table s) ≡ Ok (x, new) → Fails e (or_full (numbered_term new t)) → Fails e (or_full (each numbered_term table (s ∷ t ∷ [])))
second_fails e table new s t x h k =
    rw (numbered_is _ _ h) (fails_then e (each numbered_term new (t ∷ [])) (λ xs. Some (x ∷ xs.0, xs.1)) (fails_then e (numbered_term new t) (λ y. Some (y.0 ∷ [], y.1)) k))

pub pair_numbered : (table mid new : Table) (s t : Term (List ℕ)) (x y : Term ℕ) → numbered_term table s ≡ Some (x, mid) → numbered_term mid t ≡ Some (y, new) → each numbered_term table (s ∷ t ∷ []) ≡ Some (x ∷ y ∷ [], new)
pair_numbered table mid new s t x y h k = rw (h, k) refl

abbrev both_sides : Seen → ParsedTerm → ParsedTerm → List (Term (List ℕ))
both_sides seen s t = (in_turn argument seen (s ∷ t ∷ [])).0

abbrev sides : (Term ℕ → Term ℕ → Comparison ℕ) → Table → Term (List ℕ) → Term (List ℕ) → Option (Option (Comparison ℕ) × Table)
sides make table s t = let both : Option (Comparison ℕ × Table) = numbered_term table s >>= λ x. numbered_term x.1 t >>= λ y. Some (make x.0 y.0, y.1) in both >>= λ z. Some (Some z.0, z.1)

side_fails : (make : Term ℕ → Term ℕ → Comparison ℕ) (e : ItemError) (table : Table) (s t : Term (List ℕ)) → Fails e (or_full (each numbered_term table (s ∷ t ∷ []))) → Fails e (or_full (sides make table s t))
side_fails make e table s t h =
    fails_as e (each numbered_term table (s ∷ t ∷ [])) (sides make table s t)
    (λ z is.
    let whole = bind_some (numbered_term table s >>= λ x. numbered_term x.1 t >>= λ y. Some (make x.0 y.0, y.1)) (λ z. Some (Some z.0, z.1)) z is in
    let x = bind_some (numbered_term table s) (λ x. numbered_term x.1 t >>= λ y. Some (make x.0 y.0, y.1)) whole.0 whole.1 in
    let y = bind_some (numbered_term x.0.1 t) (λ y. Some (make x.0.0 y.0, y.1)) whole.0 x.2 in
    ((x.0.0 ∷ y.0.0 ∷ [], y.0.1), pair_numbered table x.0.1 y.0.1 s t x.0.0 y.0.0 x.1 y.1))
    h

pub sides_fail : (e : ItemError) (table : Table) (seen : Seen) (s t : ParsedTerm) → Fails e (or_full (each numbered_term table (both_sides seen s t)))
    → Fails e (or_full (maybe number_test table (test seen (parsed.Same s t)).0)) × Fails e (or_full (maybe number_test table (test seen (parsed.Differ s t)).0))
sides_fail e table seen s t h =
    let left = argument seen s in
    let right = argument left.1 t in
    (side_fails Same e table left.0 right.0 h, side_fails Differ e table left.0 right.0 h)

pub sides_numbered : (table new : Table) (seen : Seen) (s t : ParsedTerm) (x y : Term ℕ) → or_full (each numbered_term table (both_sides seen s t)) ≡ Ok (x ∷ y ∷ [], new)
    → (or_full (maybe number_test table (test seen (parsed.Same s t)).0) ≡ Ok (Some (Same x y), new)) × (or_full (maybe number_test table (test seen (parsed.Differ s t)).0) ≡ Ok (Some (Differ x y), new))
sides_numbered table new seen s t x y h =
    let left = argument seen s in
    let right = argument left.1 t in
    let a = uncons numbered_term table new left.0 (right.0 ∷ []) (x ∷ y ∷ []) (numbered_is _ _ h) in
    let b = uncons numbered_term a.0.1 new right.0 [] a.1 a.3 in
    let first : a.0.0 ≡ x = (let l = a.4 in cc) in
    let second : b.0.0 ≡ y = (let k = b.4 in let l = a.4 in cc) in
    let last = (each_end numbered_term b.0.1 new b.1 b.3).1 in
    rw (a.2, b.2, first, second, last) (refl, refl)

-- a constraint: its name, and then its arguments
pub name_fails : (e : ItemError) (table : Table) (s : RuleAtom (List ℕ)) → Fails e (or_full (number_name table s.name)) → Fails e (or_full (numbered_rule_atom table s))
name_fails e table s h = fails_then e (number_name table s.name) (λ n. each numbered_term n.1 s.args >>= λ xs. Some (record { name = n.0; args = xs.0 }, xs.1)) h

pub args_fail : (e : ItemError) (table new : Table) (s : RuleAtom (List ℕ)) (n : ℕ) → or_full (number_name table s.name) ≡ Ok (n, new) → Fails e (or_full (each numbered_term new s.args)) → Fails e (or_full (numbered_rule_atom table s))
args_fail e table new s n h k = rw (numbered_is _ _ h) (fails_then e (each numbered_term new s.args) (λ xs. Some (record { name = n; args = xs.0 }, xs.1)) k)

pub atom_numbered : (table new last : Table) (s : RuleAtom (List ℕ)) (n : ℕ) (xs : List (Term ℕ)) → or_full (number_name table s.name) ≡ Ok (n, new) → or_full (each numbered_term new s.args) ≡ Ok (xs, last) → or_full (numbered_rule_atom table s) ≡ Ok (record { name = n; args = xs }, last)
atom_numbered table new last s n xs h k = rw (numbered_is _ _ h, numbered_is _ _ k) refl

-- ---- the atoms of posts

pub fact_fails : (e : ItemError) (table : Table) (a : Atom (List ℕ)) → Fails e (or_full (number_name table a.name)) → Fails e (or_full (numbered_atom table a))
unfolding numbered_atom
fact_fails e table a h = fails_then e (number_name table a.name) (λ n. number_more n.0 [] (number_terms n.1 a.args)) h

pub terms_fail : (e : ItemError) (name : ℕ) (front : List (Value ℕ)) (table : Table) (t : Value (List ℕ)) (ts all : List (Value (List ℕ))) (total : Option (Atom ℕ × Table))
    → all ≡ t ∷ ts → Fails e (or_full (numbered_value table t)) → number_more name front (number_terms table all) ≡ total → Fails e (or_full total)
unfolding number_terms
terms_fail e name front table t ts all total is h so_far =
    rw (← so_far, is) (fails_then e (numbered_value table t >>= λ x. number_terms x.1 ts >>= λ xs. Some (x.0 ∷ xs.0, xs.1)) (λ x. Some (record { name = name; args = front ++ x.0 }, x.1)) (fails_then e (numbered_value table t) (λ x. number_terms x.1 ts >>= λ xs. Some (x.0 ∷ xs.0, xs.1)) h))

-- ---- one more in its turn

more_nothing : {B : Type 0} (rest : Option (List B × Table)) → more [] rest ≡ rest
more_nothing None = refl
more_nothing (Some x) = refl

in_turn_grows : {A B : Type 0} (g : Seen → A → B × Seen) → ((seen : Seen) (a : A) → length seen ≤ length (g seen a).1) → (seen : Seen) (as' : List A) → length seen ≤ length (in_turn g seen as').1
in_turn_grows g h seen [] = omega arith
in_turn_grows g h seen (a ∷ as') = omega (arith, h seen a, in_turn_grows g h (g seen a).1 as')

pub turn_room : {A B : Type 0} (g : Seen → A → B × Seen) → ((seen : Seen) (a : A) → length seen ≤ length (g seen a).1) → (seen last : Seen) (a : A) (as' all : List A) → all ≡ a ∷ as' → (in_turn g seen all).1 ≡ last → length last ≤ 24 → length (g seen a).1 ≤ 24
turn_room g grows seen last a as' all is so_far room =
    let e : (in_turn g (g seen a).1 as').1 ≡ last = ap (λ l. (in_turn g seen l).1) (sym is) ∙ so_far in
    omega (arith, in_turn_grows g grows (g seen a).1 as', ap length e)

-- ---- lists of which a front had its turn

-- the numbers of those that give something
abbrev pub each_some : {A B : Type 0} → (Table → A → Option (B × Table)) → Table → List (Option A) → Option (List B × Table)
each_some f table os = each f table (somes os)

-- What is made of the front, with what is made of the rest, is what the whole gives.
pub record Turned {A B C : Type 0} (f : Table → B → Option (C × Table)) (g : Seen → A → Option B × Seen) (start : Table) (first : Seen) (all : List A) (front : List C) (table : Table) (met : Seen) (rest : List A) : Type 0 where
  pub gives : more front (each_some f table (in_turn g met rest).0) ≡ each_some f start (in_turn g first all).0
  pub seen : (in_turn g met rest).1 ≡ (in_turn g first all).1
  pub keeps : (t : Table) → Keeps t start → Keeps t table

pub turned_first : {A B C : Type 0} (f : Table → B → Option (C × Table)) (g : Seen → A → Option B × Seen) (start : Table) (first : Seen) (all : List A) (front : List C) → front ≡ [] → Turned f g start first all front start first all
turned_first f g start first all front none = record { gives = rw none (more_nothing (each_some f start (in_turn g first all).0)); seen = refl; keeps = λ t h. h }

pub turned_last : {A B C : Type 0} (f : Table → B → Option (C × Table)) (g : Seen → A → Option B × Seen)
    → {start table : Table} {first seen : Seen} {all rest : List A} {front : List C} → rest ≡ [] → Turned f g start first all front table seen rest → (or_full (each_some f start (in_turn g first all).0) ≡ Ok (front, table)) × (seen ≡ (in_turn g first all).1)
turned_last f g {table = table} {seen = seen} {front = front} is so_far = (
  ap or_full (sym so_far.gives ∙ ap (λ l. more front (each_some f table (in_turn g seen l).0)) is ∙ ap (λ l. Some (l, table)) (append-nil front)),
  ap (λ l. (in_turn g seen l).1) (sym is) ∙ so_far.seen,
)

-- ---- where some give nothing

map_put : {C D : Type 0} (f : C → D) (xs : List C) (o : Option C) → map f (xs ++ put o) ≡ map f xs ++ put (option_map f o)
map_put f xs None = ap (map f) (append-nil xs) ∙ sym (append-nil (map f xs))
map_put f xs (Some x) = map_push f xs x

abbrev with_some : {C : Type 0} → C × Table → Option (Option C × Table)
with_some x = Some (Some x.0, x.1)

given_one : {C : Type 0} (r : Option (C × Table)) (y : Option C) (new : Table) → (r >>= with_some) ≡ Some (y, new) → (c : C) × (y ≡ Some c) × (r ≡ Some (c, new))
given_one None y new h = absurd cc
given_one {C = C} (Some x) y new h =
    let e = some_is {A = Option C × Table} (Some x.0, x.1) (y, new) h in
    (x.0, sym (ap (λ (p : Option C × Table). p.0) e), ap (λ (t : Table). Some (x.0, t)) (ap (λ (p : Option C × Table). p.1) e))

some_step : {B C : Type 0} (f : Table → B → Option (C × Table)) (front : List C) (table new : Table) (o : Option B) (os : List (Option B)) (y : Option C) (total : Option (List C × Table))
    → maybe f table o ≡ Some (y, new) → more front (each f table (somes (o ∷ os))) ≡ total → more (front ++ put y) (each f new (somes os)) ≡ total
some_step {C = C} f front table new None os y total h so_far =
    let e = some_is {A = Option C × Table} (None, table) (y, new) h in
    let p : None ≡ y = ap (λ (p : Option C × Table). p.0) e in
    let q : table ≡ new = ap (λ (p : Option C × Table). p.1) e in
    rw (← p, ← q, append-nil) so_far
some_step f front table new (Some b) os y total h so_far =
    let e = given_one (f table b) y new h in
    rw e.1 (each_more f front table new b (somes os) (somes (Some b ∷ os)) e.0 total refl e.2 so_far)

some_fails : {B C : Type 0} (f : Table → B → Option (C × Table)) (error : ItemError) (front : List C) (table : Table) (o : Option B) (os : List (Option B)) (total : Option (List C × Table))
    → Fails error (or_full (maybe f table o)) → more front (each f table (somes (o ∷ os))) ≡ total → Fails error (or_full total)
some_fails f error front table None os total h so_far = fails_as error (Some (None, table)) total (λ y e. ((None, table), refl)) h
some_fails f error front table (Some b) os total h so_far = each_fails f error front table b (somes os) (somes (Some b ∷ os)) total refl (fails_back error (f table b) (λ x. (Some x.0, x.1)) h) so_far

pub turned_fails : {A B C : Type 0} (f : Table → B → Option (C × Table)) (g : Seen → A → Option B × Seen) (error : ItemError)
    → {start table : Table} {first seen : Seen} {all rest as' : List A} {a : A} {front : List C} → rest ≡ a ∷ as' → Fails error (or_full (maybe f table (g seen a).0)) → Turned f g start first all front table seen rest → Fails error (or_full (each_some f start (in_turn g first all).0))
turned_fails f g error {table = table} {seen = seen} {as' = as'} {a = a} {front = front} is h so_far =
    some_fails f error front table (g seen a).0 (in_turn g (g seen a).1 as').0 _ h (ap (λ l. more front (each_some f table (in_turn g seen l).0)) (sym is) ∙ so_far.gives)

pub turned_next : {X A B C : Type 0} (view : X → C) (f : Table → B → Option (C × Table)) (g : Seen → A → Option B × Seen) (made : List X) (o : Option X)
    → {start table new : Table} {first seen after : Seen} {all rest as' : List A} {a : A} {grown : List X} → rest ≡ a ∷ as' → grown ≡ made ++ put o → or_full (maybe f table (g seen a).0) ≡ Ok (option_map view o, new) → after ≡ (g seen a).1 → ((t : Table) → Keeps t table → Keeps t new)
    → Turned f g start first all (map view made) table seen rest → Turned f g start first all (map view grown) new after as'
turned_next view f g made o {table = table} {new = new} {seen = seen} {as' = as'} {a = a} is grows numbered e keeps so_far = record {
  gives = rw (grows, map_put view made o, e) (some_step f (map view made) table new (g seen a).0 (in_turn g (g seen a).1 as').0 (option_map view o) _ (numbered_is _ _ numbered) (ap (λ l. more (map view made) (each_some f table (in_turn g seen l).0)) (sym is) ∙ so_far.gives));
  seen = rw e (ap (λ l. (in_turn g seen l).1) (sym is) ∙ so_far.seen);
  keeps = λ t h. keeps t (so_far.keeps t h);
}

-- ---- where each gives something

pub given_somes : {A B : Type 0} (g : Seen → A → B × Seen) (seen : Seen) (as' : List A) → somes (in_turn (given g) seen as').0 ≡ (in_turn g seen as').0
given_somes g seen [] = refl
given_somes g seen (a ∷ as') = ap (λ l. (g seen a).0 ∷ l) (given_somes g (g seen a).1 as')

pub given_seen : {A B : Type 0} (g : Seen → A → B × Seen) (seen : Seen) (as' : List A) → (in_turn (given g) seen as').1 ≡ (in_turn g seen as').1
given_seen g seen [] = refl
given_seen g seen (a ∷ as') = given_seen g (g seen a).1 as'

-- one that gives something
pub given_one_fails : {A B : Type 0} (f : Table → A → Option (B × Table)) (e : ItemError) (table : Table) (a : A) → Fails e (or_full (f table a)) → Fails e (or_full (maybe f table (Some a)))
given_one_fails f e table a h = fails_then e (f table a) (λ x. Some (Some x.0, x.1)) h

pub given_numbered : {A B : Type 0} (f : Table → A → Option (B × Table)) (table new : Table) (a : A) (x : B) → or_full (f table a) ≡ Ok (x, new) → or_full (maybe f table (Some a)) ≡ Ok (Some x, new)
given_numbered f table new a x h = rw (numbered_is _ _ h) refl
