-- Heads, atoms and the bindings that make them equal.
use Rattle.std.proofs.lemmas.List.Elements.{All-from_recursion, recursion_from_All}
use Rattle.std.proofs.lemmas.Option.{get_or_from_slice_get, slice_get_within}
use Rattle.std.proofs.Common.{get_or-append-add, ◌≡◌, ◌↔◌, ℕ, zero, suc, ◌≤◌, ◌+◌, ◌<◌, Bool, true, false, List, [], ◌∷◌, ◌++◌, length, take, drop, map, replicate, get_or, Option, Some, None, IsSome, refl, sym, subst, ap, ap₂, ◌∙◌, arith, slice_get, slice_set, option_map, MatchOption, ℤ, inl, inr, subst₂, nat_lt, rules}
use Rattle.std.specs.List.{AllByRecursion, list_all}
use Rattle.std.proofs.lemmas.List.{get_or_append_left, length-replicate, length-append, map-append, length-map, take_at, drop_at, drop_more, take_all, take_more, take-append-drop, append-nil, set-get_or}
use Rattle.std.proofs.lemmas.Simd.{map-map}
use Rattle.chr_value.specs.Atoms.{Value, Atom, Int}
use Rattle.chr_value.proofs.Chosen.{some_is}
use Rattle.chr_rule.specs.declared.term.Term.{Term as CodeTerm, the_lemmas}
use Rattle.chr_rule.specs.declared.term.Term as code
use Rattle.chr_rule.proofs.Levels.{argument-Var, argument-Given}
use Rattle.chr_rule.specs.Parts.{argument}
use Rattle.chr_rule.specs.Rules.{Term, Var, Given, Open, RuleAtom, Simpagation, head_at, Expression, BodyItem, Is, Add}
use Rattle.chr_rule.specs.Scope.{argument_known, IsRule, known_after_heads, known_after_body}
use Rattle.chr_guard.specs.Values.{Valuation, term_under, value_of, value_under}
use Rattle.chr_guard.specs.Bindings.{bound_at, Extends, Narrows, NoneUnder, NarrowsIf, PartsBound}
use Rattle.chr_guard.specs.Instances.{atom_under, made_under, AreMadeUnder, IsRight, added}
use Rattle.chr_guard.specs.Matching.{IsAtHead, AreAtHeads, HeadsAre, IsFit, IsOfHeads, Completes, IsBody, BindsIf, IsCompleted, with_term, TakesValue, TakeValues, TermsAre}
use Rattle.chr_guard.proofs.Scoped.{scoped, IsPlaced, heads_below, body_below, args_later, is_known, add_known}
use Rattle.chr_guard.proofs.Under.{atom_is, heads_bound, value_grows, made_grows, atoms_append, none_made, added_append, none_is_none, some_is_some, some_atom}
use Rattle.chr_guard.proofs.Valued.{AreBound, value_bound, terms_bound, known_bound, known_terms}
use Rattle.chr_guard.proofs.Bindings.{narrows_both, narrows_as, none_after, free_extends, extends_itself, narrows_nothing, others_stay, bound_settled, stays_bound, told_new, told_bound}
use Rattle.chr_guard.proofs.Steps.{all_more, all_at, halves, SoFar, known_read, map_read, read_more}
use Rattle.std.proofs.lemmas.Bool.{and_parts, cases_lt, cases_eq}
use Rattle.std.proofs.lemmas.Bool.Decides.{nat_tests}
use Rattle.chr_guard.proofs.Fixed.{Agree, value_agrees, made_agrees}

pub told_as : (P Q : Valuation → Type 0) (told : Bool) (old new : List (Option (Value ℕ))) → ((v : Valuation) → P v ↔ Q v) → NarrowsIf P told old new → NarrowsIf Q told old new
told_as P Q true old new e n = narrows_as P Q old new e n
told_as P Q false old new e n = λ v h q. n v h ((e v).1 q)

-- the arguments of a head and of an atom of that name
pub told_head : (told : Bool) (s : RuleAtom ℕ) (a : Atom ℕ) (ts : List (Term ℕ)) (old new : List (Option (Value ℕ))) → s.name ≡ a.name → ts ≡ s.args → NarrowsIf (TermsAre ts a.args) told old new → NarrowsIf (λ v. atom_under v s ≡ Some a) told old new
told_head told s a ts old new name are n =
    told_as (TermsAre ts a.args) (λ v. atom_under v s ≡ Some a) told old new
    (λ v. (λ h. (atom_is v s a).1 (name, subst (λ us. TermsAre us a.args v) are h), λ h. subst (λ us. TermsAre us a.args v) (sym are) ((atom_is v s a).0 h).1)) n

-- a term that takes a value is that value from then on
term_taken : (old : List (Option (Value ℕ))) (t : Term ℕ) (a : Value ℕ) → argument_known (length old) t ≡ true → TakesValue old t a → Narrows (λ v. term_under v t ≡ Some a) old (with_term old t a)
term_taken old (Var x) a known (inl free) = let within : x < length old = grind (arith, nat_tests) in told_new old x a within free
term_taken old (Var x) a known (inr bound) =
    let same : slice_set old x (Some a) ≡ old = ap (slice_set old x) (sym bound) ∙ set-get_or old x None in
    subst (Narrows (λ v. v x ≡ Some a) old) (sym same) (told_bound true old x a (subst (λ o. IsSome o) (sym bound) refl) (λ h. bound, λ h. refl))
term_taken old (Given b) a known is = narrows_nothing (λ v. Some b ≡ Some a) old (λ v. ap (λ c. Some c) is)
term_taken old (Open s ts) a known none = absurd none

take_count : (binding : List (Option (Value ℕ))) (ts : List (Term ℕ)) (values : List (Value ℕ)) → TakeValues binding ts values → length ts ≡ length values
take_count binding [] [] take = refl
take_count binding (t ∷ ts) (a ∷ values) take = ap suc (take_count (with_term binding t a) ts values take.1)
take_count binding (t ∷ ts) [] take = absurd take
take_count binding [] (a ∷ values) take = absurd take

-- there are as many values as terms of the code
pub take_each : {A : Type 0} (binding : List (Option (Value ℕ))) (ts : List (CodeTerm A)) (values : List (Value ℕ)) → TakeValues binding (map argument ts) values → length ts ≡ length values
take_each binding ts values take = sym (length-map ts argument) ∙ take_count binding (map argument ts) values take

-- a term that is no variable binds none
pub not_variable : {A : Type 0} (binding : List (Option (Value ℕ))) (t : CodeTerm A) (a : Value ℕ) → ((x : ℕ) → t ≡ code.Var x → ⊥) → with_term binding (argument t) a ≡ binding
not_variable binding (code.Var x) a other = absurd (other x refl)
not_variable binding (code.Given b) a other = ap (λ u. with_term binding u a) (argument-Given b)
not_variable binding (code.Open' p s n row) a other = search (rules, the_lemmas)

-- a term of the code that is a variable
pub term_within : {A : Type 0} (old : List (Option (Value ℕ))) (t : CodeTerm A) (x : ℕ) → t ≡ code.Var x → argument_known (length old) (argument t) ≡ true → x < length old
term_within {A} old t x e here = let known : nat_lt x (length old) ≡ true = ap (argument_known (length old)) (sym (ap argument e ∙ argument-Var A x)) ∙ here in grind (arith, nat_tests)

pub term_put : {A : Type 0} (old : List (Option (Value ℕ))) (t : CodeTerm A) (a : Value ℕ) (x : ℕ) (new : List (Option (Value ℕ))) → t ≡ code.Var x → new ≡ slice_set old x (Some a) → new ≡ with_term old (argument t) a
term_put {A} old t a x new e put = put ∙ sym (ap (λ u. with_term old u a) (ap argument e ∙ argument-Var A x))

-- a value that is read at a place
pub value_there : (values : List (Value ℕ)) (i : ℕ) (a : Value ℕ) → Some a ≡ slice_get values i → a ≡ get_or values i a
value_there values i a read = sym (get_or_from_slice_get values i a a (sym read))

-- terms that take their values one after another are these values under some valuation
all_taken : (old : List (Option (Value ℕ))) (ts : List (Term ℕ)) (values : List (Value ℕ)) → list_all (argument_known (length old)) ts ≡ true → TakeValues old ts values → (new : List (Option (Value ℕ))) × Narrows (TermsAre ts values) old new
all_taken old [] [] known take = (old, narrows_nothing (TermsAre [] []) old (λ v. refl))
all_taken old (t ∷ ts) (a ∷ values) known take =
    let two = and_parts (argument_known (length old) t) (list_all (argument_known (length old)) ts) known in
    let here = term_taken old t a two.0 take.0 in
    let rest = all_taken (with_term old t a) ts values (subst (λ n. list_all (argument_known n) ts ≡ true) (sym here.places) two.1) take.1 in (
      rest.0,
      narrows_as (λ v. (term_under v t ≡ Some a) × TermsAre ts values v) (TermsAre (t ∷ ts) (a ∷ values)) old rest.0 (λ v. (λ h. ap₂ (λ b bs. b ∷ bs) h.0 h.1, λ h. (cc h, cc h)))
          (narrows_both (λ v. term_under v t ≡ Some a) (TermsAre ts values) old (with_term old t a) rest.0 here rest.1),
    )
all_taken old (t ∷ ts) [] known take = absurd take
all_taken old [] (a ∷ values) known take = absurd take

-- so the answer is yes
pub taken_surely : (told : Bool) (old new : List (Option (Value ℕ))) (ts : List (Term ℕ)) (values : List (Value ℕ)) → list_all (argument_known (length old)) ts ≡ true → TakeValues old ts values → NarrowsIf (TermsAre ts values) told old new → Narrows (TermsAre ts values) old new
taken_surely true old new ts values known take n = n
taken_surely false old new ts values known take none =
    let all = all_taken old ts values known take in
    let both = (all.1.exactly (bound_at all.0)).0 (extends_itself all.0) in
    absurd (none (bound_at all.0) both.0 both.1)

-- the binding once the first i terms equal their values, which those that are left take
pub record Taking (ts : List (Term ℕ)) (values : List (Value ℕ)) (i : ℕ) (old new : List (Option (Value ℕ))) : Type 0 where
  pub narrows : Narrows (SoFar term_under ts (map (λ t. Some t) values) i) old new
  pub rest : TakeValues new (drop i ts) (drop i values)

-- one term of the code more
module _ {A : Type 0} (ts : List (CodeTerm A)) (values : List (Value ℕ)) (i : ℕ) (t : CodeTerm A) (a : Value ℕ) (old mid : List (Option (Value ℕ))) (left : i < length ts) (right : i < length values) (is : t ≡ get_or ts i t) (at : a ≡ get_or values i a) (known : list_all (argument_known (length old)) (map argument ts) ≡ true) (so_far : Taking (map argument ts) values i old mid) where
  pub taking_known : argument_known (length mid) (argument t) ≡ true
  taking_known = ap (λ m. argument_known m (argument t)) so_far.narrows.places ∙ known_read (argument_known (length old)) argument ts i t left is known

  takes_on : TakeValues mid (argument t ∷ drop (i + 1) (map argument ts)) (a ∷ drop (i + 1) values)
  takes_on =
      subst₂ (TakeValues mid) (drop_more (map argument ts) i (argument t) (rw length-map left) ∙ ap (λ u. u ∷ drop (i + 1) (map argument ts)) (sym (map_read argument ts i t left is)))
      (drop_more values i a right ∙ ap (λ b. b ∷ drop (i + 1) values) (sym at)) so_far.rest

  pub taking_more : (new : List (Option (Value ℕ))) → new ≡ with_term mid (argument t) a → Taking (map argument ts) values (i + 1) old new
  taking_more new put = subst (Taking (map argument ts) values (i + 1) old) (sym put) (record {
    narrows = read_more term_under argument (λ b. Some b) ts values i t a left right is at old mid (with_term mid (argument t) a) so_far.narrows (term_taken mid (argument t) a taking_known takes_on.0);
    rest = takes_on.1;
  })

placed_in : (hs : List (RuleAtom ℕ)) (n j : ℕ) (s : RuleAtom ℕ) → AllByRecursion (IsPlaced n) hs → slice_get hs j ≡ Some s → list_all (argument_known n) s.args ≡ true
placed_in hs n j s a e = subst (IsPlaced n) (get_or_from_slice_get hs j s s e) (All-from_recursion (IsPlaced n) hs a j s (slice_get_within hs j s e))

all_later : (n m : ℕ) (hs : List (RuleAtom ℕ)) → n ≤ m → AllByRecursion (IsPlaced n) hs → AllByRecursion (IsPlaced m) hs
all_later n m [] h a = tt
all_later n m (s ∷ hs) h a = (args_later n m s.args h a.0, all_later n m hs h a.1)

-- the variables of the heads have places in a binding of the rule's variables
pub all_placed : (rule : Simpagation ℕ) → IsRule rule → AllByRecursion (IsPlaced rule.variables) (rule.kept ++ rule.removed)
all_placed rule r =
    let k = scoped rule r in
    all_later k.count rule.variables (rule.kept ++ rule.removed) (body_below k.count rule.variables rule.body k.body) (heads_below 0 k.count (rule.kept ++ rule.removed) k.heads).1

pub head_placed : (rule : Simpagation ℕ) → IsRule rule → (number : ℕ) (s : RuleAtom ℕ) → head_at rule number ≡ Some s → IsPlaced rule.variables s
head_placed rule r zero s e = let z : None ≡ Some s = e in absurd (cc)
head_placed rule r (suc j) s e = placed_in (rule.kept ++ rule.removed) rule.variables j s (all_placed rule r) e

all_front : {X : Type 0} (P : X → Type 0) (xs ys : List X) → AllByRecursion P (xs ++ ys) → AllByRecursion P xs × AllByRecursion P ys
all_front P xs ys a = let all = All-from_recursion P (xs ++ ys) a in (recursion_from_All P xs (λ k d l. subst P (get_or_append_left xs ys d k l) (all k d (omega (arith, l, length-append xs ys)))), recursion_from_All P ys (λ k d l. subst P (get_or-append-add xs ys k d) (all (length xs + k) d (omega (arith, l, length-append xs ys)))))

pub both_placed : (rule : Simpagation ℕ) → IsRule rule → AllByRecursion (IsPlaced rule.variables) rule.kept × AllByRecursion (IsPlaced rule.variables) rule.removed
both_placed rule r = all_front (IsPlaced rule.variables) rule.kept rule.removed (all_placed rule r)

-- what a binding narrowed from all free says
pub fit_from_free : (rule : Simpagation ℕ) (P : Valuation → Type 0) (new : List (Option (Value ℕ))) → Narrows P (replicate rule.variables None) new → IsFit rule P new
fit_from_free rule P new n = record {
  places = n.places ∙ length-replicate rule.variables None;
  exactly = λ v. (λ h. ((n.exactly v).0 h).1, λ p. (n.exactly v).1 (free_extends v rule.variables, p));
}

pub none_from_free : (P : Valuation → Type 0) (n : ℕ) → NoneUnder P (replicate n None) → (v : Valuation) → P v → ⊥
none_from_free P n none v p = none v (free_extends v n) p

stands_is : (rule : Simpagation ℕ) (v : Valuation) (p : ℕ × Atom ℕ) (s : RuleAtom ℕ) → head_at rule p.0 ≡ Some s → IsAtHead rule v p ↔ (atom_under v s ≡ Some p.1)
stands_is rule v p s at = (λ e. some_is (atom_under v s) (Some p.1) (sym (ap (option_map (atom_under v)) at) ∙ e), λ e. ap (option_map (atom_under v)) at ∙ ap (λ a. Some a) e)

-- one head more of a list of heads with their atoms
pub stands_more : (rule : Simpagation ℕ) (places : List (ℕ × Atom ℕ)) (i : ℕ) (p : ℕ × Atom ℕ) (s : RuleAtom ℕ) (old mid new : List (Option (Value ℕ))) → i < length places → p ≡ get_or places i p → head_at rule p.0 ≡ Some s
    → Narrows (AreAtHeads rule (take i places)) old mid → Narrows (λ v. atom_under v s ≡ Some p.1) mid new → Narrows (AreAtHeads rule (take (i + 1) places)) old new
stands_more rule places i p s old mid new h e at n m =
    narrows_as (λ v. AreAtHeads rule (take i places) v × (atom_under v s ≡ Some p.1)) (AreAtHeads rule (take (i + 1) places)) old new
    (λ v. let step = all_more (IsAtHead rule v) places i p h e in
    (λ a. step.1 (a.0, (stands_is rule v p s at).1 a.1), λ a. let two = step.0 a in (two.0, (stands_is rule v p s at).0 two.1)))
    (narrows_both (AreAtHeads rule (take i places)) (λ v. atom_under v s ≡ Some p.1) old mid new n m)

pub stands_stop : (rule : Simpagation ℕ) (places : List (ℕ × Atom ℕ)) (i : ℕ) (p : ℕ × Atom ℕ) (s : RuleAtom ℕ) (old mid : List (Option (Value ℕ))) → i < length places → p ≡ get_or places i p → head_at rule p.0 ≡ Some s
    → Narrows (AreAtHeads rule (take i places)) old mid → NoneUnder (λ v. atom_under v s ≡ Some p.1) mid → NoneUnder (AreAtHeads rule places) old
stands_stop rule places i p s old mid h e at n none =
    none_after (AreAtHeads rule (take i places)) (λ v. atom_under v s ≡ Some p.1) (AreAtHeads rule places) old mid n none
    (λ v a. let two = all_at (IsAtHead rule v) places i p h e a in (two.0, (stands_is rule v p s at).0 two.1))

-- a number that no head has
pub stands_nowhere : (rule : Simpagation ℕ) (places : List (ℕ × Atom ℕ)) (i : ℕ) (p : ℕ × Atom ℕ) → i < length places → p ≡ get_or places i p → head_at rule p.0 ≡ None → (v : Valuation) → AreAtHeads rule places v → ⊥
stands_nowhere rule places i p h e at v a = absurd (cc (sym (ap (option_map (atom_under v)) at) ∙ ((all_at (IsAtHead rule v) places i p h e a).1)))

same_halves : {X : Type 0} (a b c d : List X) → length a ≡ length c → a ++ b ≡ c ++ d → (a ≡ c) × (b ≡ d)
same_halves a b c d len e = (
  sym (take_at a b (length c) len) ∙ ap (take (length c)) e ∙ take_at c d (length c) refl,
  sym (drop_at a b (length c) len) ∙ ap (drop (length c)) e ∙ drop_at c d (length c) refl,
)

-- a binding of all heads binds each of their variables
pub fit_binds : (rule : Simpagation ℕ) (atoms : List (Atom ℕ)) (binding : List (Option (Value ℕ))) → IsFit rule (HeadsAre rule atoms) binding → (x : ℕ) → IsOfHeads rule x → IsSome (bound_at binding x)
fit_binds rule atoms binding f x h =
    heads_bound (bound_at binding) 0 h.0 (rule.kept ++ rule.removed) atoms h.1 ((f.exactly (bound_at binding)).0 (extends_itself binding)) (λ y l. absurd (omega arith)) x h.2

-- kept heads, then removed ones: the atoms in two parts
pub record InParts (rule : Simpagation ℕ) (facts : List (Atom ℕ)) (kept removed : List (RuleAtom ℕ)) (first rest : List (Option (Atom ℕ))) : Type 0 where
  pub kept_are : kept ≡ rule.kept
  pub removed_are : removed ≡ rule.removed
  pub both : map (λ a. Some a) facts ≡ first ++ rest
  pub front : length first ≡ length kept

pub in_parts : {X : Type 0} (f : X → Atom ℕ) (rule : Simpagation ℕ) (atoms first rest : List X) (kept removed : List (RuleAtom ℕ)) (n : ℕ) → kept ≡ rule.kept → removed ≡ rule.removed → n ≡ length kept → first ≡ take n atoms → rest ≡ drop n atoms → length first ≡ n → InParts rule (map f atoms) kept removed (map (λ a. Some (f a)) first) (map (λ a. Some (f a)) rest)
in_parts f rule atoms first rest kept removed n k r is front back len = record {
  kept_are = k;
  removed_are = r;
  both = map-map (λ x. Some x) f atoms ∙ halves (λ a. Some (f a)) atoms first rest n front back;
  front = length-map first (λ a. Some (f a)) ∙ len ∙ is;
}

parts_iff : (rule : Simpagation ℕ) (facts : List (Atom ℕ)) (first rest : List (Option (Atom ℕ))) (kept removed : List (RuleAtom ℕ)) → InParts rule facts kept removed first rest
    → (v : Valuation) → ((map (atom_under v) kept ≡ first) × (map (atom_under v) removed ≡ rest)) ↔ HeadsAre rule facts v
parts_iff rule facts first rest kept removed p v =
    let heads = ap₂ (λ a b. map (atom_under v) (a ++ b)) (sym p.kept_are) (sym p.removed_are) ∙ map-append (atom_under v) kept removed in (
      λ h. heads ∙ ap₂ (λ a b. a ++ b) h.0 h.1 ∙ sym p.both,
      λ h. same_halves (map (atom_under v) kept) (map (atom_under v) removed) first rest (length-map kept (atom_under v) ∙ sym p.front) (sym heads ∙ h ∙ p.both),
    )

pub fit_both : (rule : Simpagation ℕ) (facts : List (Atom ℕ)) (first rest : List (Option (Atom ℕ))) (kept removed : List (RuleAtom ℕ)) (start mid new : List (Option (Value ℕ))) → InParts rule facts kept removed first rest → start ≡ replicate rule.variables None
    → Narrows (λ v. map (atom_under v) kept ≡ first) start mid → Narrows (λ v. map (atom_under v) removed ≡ rest) mid new → IsFit rule (HeadsAre rule facts) new
fit_both rule facts first rest kept removed start mid new p s n m =
    fit_from_free rule (HeadsAre rule facts) new
    (subst (λ old. Narrows (HeadsAre rule facts) old new) s
    (narrows_as (λ v. (map (atom_under v) kept ≡ first) × (map (atom_under v) removed ≡ rest)) (HeadsAre rule facts) start new (parts_iff rule facts first rest kept removed p)
    (narrows_both (λ v. map (atom_under v) kept ≡ first) (λ v. map (atom_under v) removed ≡ rest) start mid new n m)))

pub no_kept : (rule : Simpagation ℕ) (facts : List (Atom ℕ)) (first rest : List (Option (Atom ℕ))) (kept : List (RuleAtom ℕ)) (start : List (Option (Value ℕ))) → InParts rule facts kept rule.removed first rest → start ≡ replicate rule.variables None
    → NoneUnder (λ v. map (atom_under v) kept ≡ first) start → (v : Valuation) → HeadsAre rule facts v → ⊥
no_kept rule facts first rest kept start p s none v h =
    none v (subst (Extends v) (sym s) (free_extends v rule.variables)) ((parts_iff rule facts first rest kept rule.removed p v).1 h).0

pub no_removed : (rule : Simpagation ℕ) (facts : List (Atom ℕ)) (first rest : List (Option (Atom ℕ))) (kept removed : List (RuleAtom ℕ)) (start mid : List (Option (Value ℕ))) → InParts rule facts kept removed first rest → start ≡ replicate rule.variables None
    → Narrows (λ v. map (atom_under v) kept ≡ first) start mid → NoneUnder (λ v. map (atom_under v) removed ≡ rest) mid → (v : Valuation) → HeadsAre rule facts v → ⊥
no_removed rule facts first rest kept removed start mid p s n none v h =
    let two = (parts_iff rule facts first rest kept removed p v).1 h in
    none v ((n.exactly v).1 (subst (Extends v) (sym s) (free_extends v rule.variables), two.0)) two.1

-- fewer atoms than kept heads
pub too_few : (rule : Simpagation ℕ) (facts : List (Atom ℕ)) → length facts < length rule.kept → (v : Valuation) → HeadsAre rule facts v → ⊥
too_few rule facts h v e =
    absurd (omega (arith, sym (length-map facts (λ a. Some a)) ∙ sym (ap length e) ∙ length-map (rule.kept ++ rule.removed) (atom_under v) ∙ length-append rule.kept rule.removed))

-- ---- left sides of `is` bound one after another

-- the binding once the first i members are done
pub record Completing (rule : Simpagation ℕ) (i : ℕ) (old new : List (Option (Value ℕ))) : Type 0 where
  pub first : ℕ
  pub of_heads : known_after_heads 0 (rule.kept ++ rule.removed) ≡ Some first
  pub known : ℕ
  pub later : first ≤ known
  pub rest : known_after_body known (drop i rule.body) ≡ Some rule.variables
  pub bound : (x : ℕ) → first ≤ x → x < known → IsSome (bound_at new x)
  pub heads : (x : ℕ) → x < first → bound_at new x ≡ bound_at old x
  pub places : rule.variables ≤ length new
  pub narrows : Narrows (λ v. AllByRecursion (IsRight v) (take i rule.body)) old new
  pub made : List (Atom ℕ)
  pub made_is : AreMadeUnder (bound_at new) (added (take i rule.body)) made

-- the constraints among the first members, with one member more
added_next : (ms : List (BodyItem ℕ)) (i : ℕ) (m : BodyItem ℕ) → i < length ms → m ≡ get_or ms i m → added (take (i + 1) ms) ≡ added (take i ms) ++ added (m ∷ [])
added_next ms i m h is = ap added (take_more ms i m h ∙ ap (λ y. take i ms ++ y ∷ []) (sym is)) ∙ added_append (take i ms) (m ∷ [])

-- a constraint of the body is among those added
added_there : (ms : List (BodyItem ℕ)) (i : ℕ) (s : RuleAtom ℕ) → i < length ms → Add s ≡ get_or ms i (Add s) → added ms ≡ added (take i ms) ++ (s ∷ added (drop (i + 1) ms))
added_there ms i s h is =
    ap added (sym (take-append-drop i ms) ∙ ap (λ l. take i ms ++ l) (drop_more ms i (Add s) h ∙ ap (λ y. y ∷ drop (i + 1) ms) (sym is)))
    ∙ added_append (take i ms) (Add s ∷ drop (i + 1) ms)

pub completing_start : (rule : Simpagation ℕ) (old : List (Option (Value ℕ))) → IsRule rule → rule.variables ≤ length old → Completing rule 0 old old
completing_start rule old r len =
    let s = scoped rule r in
    record {
      first = s.count;
      of_heads = s.heads;
      known = s.count;
      later = omega arith;
      rest = s.body;
      bound = λ x from to. absurd (omega arith);
      heads = λ x h. refl;
      places = len;
      narrows = narrows_nothing (λ v. AllByRecursion (IsRight v) (take 0 rule.body)) old (λ v. tt);
      made = [];
      made_is = refl;
    }

-- what completes the old binding agrees with the new one on the variables known by then
agrees : (rule : Simpagation ℕ) (i : ℕ) (old mid : List (Option (Value ℕ))) (done : Completing rule i old mid) (v : Valuation) → Completes rule old v → Extends v mid → Agree v (bound_at mid) done.known
agrees rule i old mid done v c h y l = elim (cases_lt y done.first) [
  | inl below ↦ c.heads y (done.first, done.of_heads, below) ∙ sym (done.heads y below)
  | inr from ↦ bound_settled mid y v (done.bound y from l) h
]

module _ (rule : Simpagation ℕ) (i x : ℕ) (e : Expression) (old mid : List (Option (Value ℕ))) (within : i < length rule.body) (there : Is x e ≡ get_or rule.body i (Is x e)) (done : Completing rule i old mid) where
  turn : known_after_body done.known (Is x e ∷ drop (i + 1) rule.body) ≡ Some rule.variables
  turn = subst (λ ms. known_after_body done.known ms ≡ Some rule.variables) (drop_more rule.body i (Is x e) within ∙ ap (λ m. m ∷ drop (i + 1) rule.body) (sym there)) done.rest

  pub is_place : x < length mid
  is_place = is_known done.known rule.variables x e (drop (i + 1) rule.body) turn (λ same _ later. let le : suc done.known ≤ rule.variables = body_below (suc done.known) rule.variables (drop (i + 1) rule.body) later in let len : rule.variables ≤ length mid = done.places in omega arith)

  parts : (v : Valuation) → Completes rule old v → Extends v mid × IsRight v (Is x e)
  parts v c = let two = all_at (IsRight v) rule.body i (Is x e) within there c.right in ((done.narrows.exactly v).1 (c.extends, two.0), two.1)

  pub is_valueless : value_of (bound_at mid) e ≡ None → (made : List (Atom ℕ)) → IsBody rule old made → ⊥
  is_valueless none made b =
      let p = parts b.valuation b.completes in
      is_known done.known rule.variables x e (drop (i + 1) rule.body) turn
      (λ _ k _. let z : None ≡ Some p.1.0 = sym none ∙ sym (value_agrees b.valuation (bound_at mid) done.known e (agrees rule i old mid done b.valuation b.completes p.0) k) ∙ p.1.1 in absurd (cc))

  pub is_otherwise : (n : ℤ) → value_of (bound_at mid) e ≡ Some n → NoneUnder (λ v. v x ≡ Some (Int n)) mid → (made : List (Atom ℕ)) → IsBody rule old made → ⊥
  is_otherwise n val none made b =
      let p = parts b.valuation b.completes in
      none b.valuation p.0 (p.1.2 ∙ ap (λ z. Some (Int z)) (sym (some_is n p.1.0 (sym (value_grows (bound_at mid) b.valuation p.0 e n val) ∙ p.1.1))))

  bound_more : (n : ℤ) (new : List (Option (Value ℕ))) → Narrows (λ v. v x ≡ Some (Int n)) mid new → x ≡ done.known → (y : ℕ) → done.first ≤ y → y < suc done.known → IsSome (bound_at new y)
  bound_more n new m same y from l = elim (cases_eq y x) [
    | inl z ↦ subst (λ o. IsSome o) (sym (ap (bound_at new) z ∙ ((m.exactly (bound_at new)).0 (extends_itself new)).1)) refl
    | inr ne ↦ stays_bound (λ v. v x ≡ Some (Int n)) mid new y m (done.bound y from (omega arith))
  ]

  pub is_more : (n : ℤ) (new : List (Option (Value ℕ))) → value_of (bound_at mid) e ≡ Some n → Narrows (λ v. v x ≡ Some (Int n)) mid new → Completing rule (i + 1) old new
  is_more n new val m =
      is_known done.known rule.variables x e (drop (i + 1) rule.body) turn (λ same _ later. record {
        first = done.first;
        of_heads = done.of_heads;
        known = suc done.known;
        later = (let le : done.first ≤ done.known = done.later in omega arith);
        rest = later;
        bound = bound_more n new m same;
        heads = λ y h. (let le : done.first ≤ done.known = done.later in others_stay mid new x y (Int n) m (λ z. absurd (omega arith))) ∙ done.heads y h;
        places = subst (λ k. rule.variables ≤ k) (sym m.places) done.places;
        narrows = record {
          places = m.places ∙ done.narrows.places;
          exactly = λ v. (
            λ h.
                let p = (m.exactly v).0 h in
                let o = (done.narrows.exactly v).0 p.0 in
                (o.0, (all_more (IsRight v) rule.body i (Is x e) within there).1 (o.1, (n, value_grows (bound_at mid) v p.0 e n val, p.1))),
            λ h.
                let two = (all_more (IsRight v) rule.body i (Is x e) within there).0 h.1 in
                let p = (done.narrows.exactly v).1 (h.0, two.0) in
                (m.exactly v).1 (p, two.1.2 ∙ ap (λ z. Some (Int z)) (sym (some_is n two.1.0 (sym (value_grows (bound_at mid) v p e n val) ∙ two.1.1)))),
          );
        };
        made = done.made;
        made_is = subst (λ ss. AreMadeUnder (bound_at new) ss done.made) (sym (added_next rule.body i (Is x e) within there ∙ append-nil (added (take i rule.body))))
            (made_grows (bound_at mid) (bound_at new) ((m.exactly (bound_at new)).0 (extends_itself new)).0 (added (take i rule.body)) done.made done.made_is);
      })

module _ (rule : Simpagation ℕ) (i : ℕ) (s : RuleAtom ℕ) (old mid : List (Option (Value ℕ))) (within : i < length rule.body) (there : Add s ≡ get_or rule.body i (Add s)) (done : Completing rule i old mid) where
  add_turn : known_after_body done.known (Add s ∷ drop (i + 1) rule.body) ≡ Some rule.variables
  add_turn = subst (λ ms. known_after_body done.known ms ≡ Some rule.variables) (drop_more rule.body i (Add s) within ∙ ap (λ m. m ∷ drop (i + 1) rule.body) (sym there)) done.rest

  pub add_valueless : made_under (bound_at mid) s ≡ None → (made : List (Atom ℕ)) → IsBody rule old made → ⊥
  add_valueless none made b =
      let v = b.valuation in
      add_known done.known rule.variables s (drop (i + 1) rule.body) add_turn
      (λ k _. none_made v (added (take i rule.body)) (added (drop (i + 1) rule.body)) s made
      (made_agrees v (bound_at mid) done.known s (agrees rule i old mid done v b.completes ((done.narrows.exactly v).1 (b.completes.extends, (all_at (IsRight v) rule.body i (Add s) within there b.completes.right).0))) k ∙ none)
      (subst (λ ss. AreMadeUnder v ss made) (added_there rule.body i s within there) b.body_is))

  pub add_more : (a : Atom ℕ) → made_under (bound_at mid) s ≡ Some a → Completing rule (i + 1) old mid
  add_more a is =
      add_known done.known rule.variables s (drop (i + 1) rule.body) add_turn (λ _ later. record {
        first = done.first;
        of_heads = done.of_heads;
        known = done.known;
        later = done.later;
        rest = later;
        bound = done.bound;
        heads = done.heads;
        places = done.places;
        narrows = narrows_as (λ v. AllByRecursion (IsRight v) (take i rule.body)) (λ v. AllByRecursion (IsRight v) (take (i + 1) rule.body)) old mid
            (λ v. let step = all_more (IsRight v) rule.body i (Add s) within there in (λ a. step.1 (a, tt), λ a. (step.0 a).0)) done.narrows;
        made = done.made ++ a ∷ [];
        made_is = subst (λ ss. AreMadeUnder (bound_at mid) ss (done.made ++ a ∷ [])) (sym (added_next rule.body i (Add s) within there))
            (atoms_append (made_under (bound_at mid)) (added (take i rule.body)) (s ∷ []) done.made (a ∷ []) done.made_is (ap (λ o. o ∷ []) is));
      })

-- a member of the body, whichever it is
module _ (rule : Simpagation ℕ) (i : ℕ) (old mid : List (Option (Value ℕ))) (within : i < length rule.body) (done : Completing rule i old mid) where
  pub item_place : (m : BodyItem ℕ) → m ≡ get_or rule.body i m → (x : ℕ) (e : Expression) → m ≡ Is x e → x < length mid
  item_place m there x e is = is_place rule i x e old mid within (subst (λ k. k ≡ get_or rule.body i k) is there) done

  known_here : ((x : ℕ) → IsOfHeads rule x → IsSome (bound_at old x)) → AreBound done.known mid
  known_here heads y l = elim (cases_lt y done.first) [
    | inl below ↦ subst (λ o. IsSome o) (sym (done.heads y below)) (heads y (done.first, done.of_heads, below))
    | inr from ↦ done.bound y from l
  ]

  pub item_ready : (m : BodyItem ℕ) → m ≡ get_or rule.body i m → ((x : ℕ) → IsOfHeads rule x → IsSome (bound_at old x)) → PartsBound mid m
  item_ready (Is x e) there heads = is_known done.known rule.variables x e (drop (i + 1) rule.body) (turn rule i x e old mid within there done) (λ _ k _. known_bound mid done.known e (known_here heads) k)
  item_ready (Add s) there heads = add_known done.known rule.variables s (drop (i + 1) rule.body) (add_turn rule i s old mid within there done) (λ k _. known_terms mid done.known s.args (known_here heads) k)

  pub item_unready : (m : BodyItem ℕ) → m ≡ get_or rule.body i m → (PartsBound mid m → ⊥) → (made : List (Atom ℕ)) → IsBody rule old made → ⊥
  item_unready (Is x e) there not made b =
      is_valueless rule i x e old mid within there done (none_is_none (value_of (bound_at mid) e) (λ some. (let n = some_is_some (value_of (bound_at mid) e) some in not (value_bound mid e n.0 n.1)))) made b
  item_unready (Add s) there not made b =
      add_valueless rule i s old mid within there done (none_is_none (made_under (bound_at mid) s) (λ some. not (terms_bound mid s.args ((some_atom (value_under (bound_at mid)) s).1 some)))) made b

  pub item_more : (m : BodyItem ℕ) → m ≡ get_or rule.body i m → (new : List (Option (Value ℕ))) → BindsIf m true mid new → Completing rule (i + 1) old new
  item_more (Is x e) there new binds =
      elim (value_of (bound_at mid) e) as (λ o. value_of (bound_at mid) e ≡ o → MatchOption o (true ≡ false) (λ n. Narrows (λ v. v x ≡ Some (Int n)) mid new) → Completing rule (i + 1) old new) [
        | Some n ↦ λ val narrows. is_more rule i x e old mid within there done n new val narrows
        | None ↦ λ val no. absurd (cc)
      ] refl binds
  item_more (Add s) there new binds =
      let a = some_is_some (made_under (bound_at mid) s) (binds.0.0 refl) in
      subst (Completing rule (i + 1) old) (sym binds.1) (add_more rule i s old mid within there done a.0 a.1)

  pub item_stop : (m : BodyItem ℕ) → m ≡ get_or rule.body i m → (new : List (Option (Value ℕ))) → BindsIf m false mid new → (made : List (Atom ℕ)) → IsBody rule old made → ⊥
  item_stop (Is x e) there new binds made b =
      elim (value_of (bound_at mid) e) as (λ o. value_of (bound_at mid) e ≡ o → MatchOption o (false ≡ false) (λ n. NoneUnder (λ v. v x ≡ Some (Int n)) mid) → ⊥) [
        | Some n ↦ λ val none. is_otherwise rule i x e old mid within there done n val none made b
        | None ↦ λ val no. is_valueless rule i x e old mid within there done val made b
      ] refl binds
  item_stop (Add s) there new binds made b =
      add_valueless rule i s old mid within there done (none_is_none (made_under (bound_at mid) s) (λ some. (let z : false ≡ true = binds.0.1 some in absurd (cc)))) made b

pub completing_end : (rule : Simpagation ℕ) (i : ℕ) (old new : List (Option (Value ℕ))) → length rule.body ≤ i → Completing rule i old new → IsCompleted rule old new
completing_end rule i old new past done = record {
  narrows = subst (λ ms. Narrows (λ v. AllByRecursion (IsRight v) ms) old new) (take_all i rule.body past) done.narrows;
  heads = λ x h. done.heads x (subst (λ n. x < n) (some_is h.0 done.first (sym h.1 ∙ done.of_heads)) h.2);
  body = done.made;
  body_is = subst (λ ms. AreMadeUnder (bound_at new) (added ms) done.made) (take_all i rule.body past) done.made_is;
}
