-- Rules told by their words.
use Rattle.std.proofs.Common.{◌≡◌, ◌↔◌, ◌<◌, ◌≤◌, ◌+◌, ℕ, ℤ, pos, unsigned_abs, int_lt, Bool, true, false, ◌&&◌, eqb, IsTrue, List, [], ◌∷◌, ◌++◌, append_assoc, length, take, get_or, map, Option, Some, None, IsSome, IfSome, refl, sym, ap, ap₂, ◌∙◌, arith, flat_map}
use Rattle.std.specs.List.{AllByRecursion}
use Rattle.std.proofs.lemmas.Bool.Decides.{nat_tests}
use Rattle.std.proofs.lemmas.Grind.{common_steps}
use Rattle.std.proofs.lemmas.List.{append-nil, flat_map_more}
use Rattle.chr_value.specs.Atoms.{Int, Sym, Comp}
use Rattle.chr_rule.specs.declared.expression.Operator.{Operator}
use Rattle.chr_rule.specs.declared.expression.Relation.{Relation}
use Rattle.chr_rule.specs.Code.{number_of}
use Rattle.chr_rule.specs.Rules.{Term, Var, Given, Open, Number, Variable, Operation, Compared, Same, Differ, BodyItem, Is, Add, Simpagation}
use Rattle.chr_rule.specs.Terms.{IsPlain, HasPlainArguments, HasPlainBody}
use Rattle.chr_rule.specs.Words.{RuleWord, words, natural_kind, negative_kind, add_kind, sizes, integer_words, term_words, atom_words, expression_words, relation_number, test_words, member_words, rule_words, IsWritten}
use Rattle.chr_rule.proofs.Places.{map-more}

-- The words of two parts begin lists that are equal: the parts are equal, and so is what comes after them.
abbrev pub AreSame : {X : Type 0} → X → X → List RuleWord → List RuleWord → Type 0
AreSame x y r s = (x ≡ y) × (r ≡ s)

abbrev pub Tells : {X : Type 0} → (X → List RuleWord) → Type 0
Tells {X} f = (x y : X) (r s : List RuleWord) → f x ++ r ≡ f y ++ s → AreSame x y r s

terms_tell : Tells term_words
terms_tell t u r s e = grind arith

-- of two parts, one after the other
both_tell : {X Y : Type 0} (f : X → List RuleWord) (g : Y → List RuleWord) → Tells f → Tells g → (x u : X) (y v : Y) (r s : List RuleWord) → (f x ++ g y) ++ r ≡ (f u ++ g v) ++ s → (x ≡ u) × (y ≡ v) × (r ≡ s)
both_tell f g f_tells g_tells x u y v r s e =
    let one = f_tells x u (g y ++ r) (g v ++ s) (sym (append_assoc (f x) (g y) r) ∙ e ∙ append_assoc (f u) (g v) s) in
    let other = g_tells y v r s one.1 in
    (one.0, other.0, other.1)

-- of lists of the same length
all_tell : {X : Type 0} (f : X → List RuleWord) → Tells f → (xs ys : List X) (r s : List RuleWord) → length xs ≡ length ys → flat_map f xs ++ r ≡ flat_map f ys ++ s → AreSame xs ys r s
all_tell f tells [] [] r s l e = (refl, e)
all_tell f tells [] (y ∷ ys) r s l e = absurd (omega arith)
all_tell f tells (x ∷ xs) [] r s l e = absurd (omega arith)
all_tell f tells (x ∷ xs) (y ∷ ys) r s l e =
    let first = tells x y (flat_map f xs ++ r) (flat_map f ys ++ s) (sym (append_assoc (f x) (flat_map f xs) r) ∙ e ∙ append_assoc (f y) (flat_map f ys) s) in
    let rest = all_tell f tells xs ys r s (omega arith) first.1 in
    (ap₂ (λ z zs. z ∷ zs) first.0 rest.0, rest.1)

atoms_tell : Tells atom_words
atoms_tell a b r s e = grind (arith, all_tell term_words terms_tell a.args b.args r s (cc) (cc))

same_operators : (o p : Operator) → number_of o ≡ number_of p → o ≡ p
same_operators o p e = grind arith

same_relations : (r q : Relation) → relation_number r ≡ relation_number q → r ≡ q
same_relations r q e = grind arith

expressions_tell : Tells expression_words
expressions_tell (Operation o a b) (Operation p c d) r s e =
    let left = expressions_tell a c (expression_words b ++ r) (expression_words d ++ s) (sym (append_assoc (expression_words a) (expression_words b) r) ∙ (cc) ∙ append_assoc (expression_words c) (expression_words d) s) in
    let right = expressions_tell b d r s left.1 in
    (cc (same_operators o p (cc)), right.1)
expressions_tell (Number m) (Number n) r s e = grind arith
expressions_tell (Variable x) (Variable y) r s e = (cc, cc)
expressions_tell x y r s e = grind arith

tests_tell : Tells test_words
tests_tell (Compared o a b) (Compared q c d) r s e =
    let same = both_tell expression_words expression_words expressions_tell expressions_tell a c b d r s (cc) in
    (cc (same_relations o q (cc)), same.2)
tests_tell (Same t u) (Same v w) r s e =
    let same = both_tell term_words term_words terms_tell terms_tell t v u w r s (cc) in
    (cc, same.2)
tests_tell (Differ t u) (Differ v w) r s e =
    let same = both_tell term_words term_words terms_tell terms_tell t v u w r s (cc) in
    (cc, same.2)
tests_tell x y r s e = absurd (cc)

members_tell : Tells member_words
members_tell (Is x a) (Is y b) r s e = let same = expressions_tell a b r s (cc) in (cc, same.1)
members_tell (Add a) (Add b) r s e = let same = atoms_tell a b r s (cc) in (cc, same.1)
members_tell x y r s e = absurd (cc)

rules_tell : (a b : Simpagation ℕ) → rule_words a ≡ rule_words b → a ≡ b
rules_tell a b e =
    let guard_on : (c : Simpagation ℕ) → List RuleWord = λ c. flat_map test_words c.guard ++ flat_map member_words c.body in
    let removed_on : (c : Simpagation ℕ) → List RuleWord = λ c. flat_map atom_words c.removed ++ guard_on c in
    let kept = all_tell atom_words atoms_tell a.kept b.kept (removed_on a) (removed_on b) (cc) (cc) in
    let removed = all_tell atom_words atoms_tell a.removed b.removed (guard_on a) (guard_on b) (cc) kept.1 in
    let guard = all_tell test_words tests_tell a.guard b.guard (flat_map member_words a.body) (flat_map member_words b.body) (cc) removed.1 in
    grind (arith, all_tell member_words members_tell a.body b.body [] [] (cc) (append-nil (flat_map member_words a.body) ∙ guard.1 ∙ sym (append-nil (flat_map member_words b.body))))

-- equal words are those of equal numbers
same_numbers : (ns ms : List ℕ) → words ns ≡ words ms → ns ≡ ms
same_numbers [] [] e = refl
same_numbers (n ∷ ns) (m ∷ ms) e = let rest = same_numbers ns ms (cc) in cc
same_numbers ns ms e = absurd (cc)

pub written_same : (a b : Simpagation ℕ) (ns ms : List ℕ) (told : Bool) → IsWritten a ns → IsWritten b ms → IsTrue told ↔ (ns ≡ ms) → IsTrue told ↔ (a ≡ b)
written_same a b ns ms told w v means = (
  λ t. rules_tell a b (sym w ∙ ap words (means.0 t) ∙ v),
  λ e. means.1 (same_numbers ns ms (w ∙ ap rule_words e ∙ sym v)),
)

-- words that numbers stand for
abbrev AreNumbers : List RuleWord → Type 0
AreNumbers ws = (ns : List ℕ) × (words ns ≡ ws)

-- words before others are so, and so are the others
parted : (ws rest : List RuleWord) (ns : List ℕ) → words ns ≡ ws ++ rest → AreNumbers ws × AreNumbers rest
parted [] rest ns e = (([], refl), (ns, e))
parted (w ∷ ws) rest [] e = absurd (cc)
parted (w ∷ ws) rest (n ∷ ns) e = let r = parted ws rest ns (cc) in ((n ∷ r.0.0, cc r.0.1), r.1)

-- a property of each part that numbers stand for
all_written : {X : Type 0} (f : X → List RuleWord) (P : X → Type 0) → ((x : X) → AreNumbers (f x) → P x) → (xs : List X) → AreNumbers (flat_map f xs) → AllByRecursion P xs
all_written f P each [] are = tt
all_written f P each (x ∷ xs) are = let two = parted (f x) (flat_map f xs) are.0 are.1 in (each x two.0, all_written f P each xs two.1)

plain_term : (t : Term ℕ) → AreNumbers (term_words t) → IsPlain t
plain_term (Var x) are = tt
plain_term (Given (Int z)) are = tt
plain_term (Given (Sym s)) are = tt
plain_term (Given (Comp s vs)) ([], e) = absurd (cc)
plain_term (Given (Comp s vs)) (n ∷ ns, e) = absurd (cc)
plain_term (Open s ts) ([], e) = absurd (cc)
plain_term (Open s ts) (n ∷ ns, e) = absurd (cc)

plain_member : (m : BodyItem ℕ) → AreNumbers (member_words m) → HasPlainArguments m
plain_member (Is x e) are = tt
plain_member (Add a) are =
    let args = parted (words (add_kind ∷ a.name ∷ length a.args ∷ [])) (flat_map term_words a.args) are.0 are.1 in
    all_written term_words IsPlain plain_term a.args args.1

-- the body of a rule that has words
written_plain : (a : Simpagation ℕ) (ns : List ℕ) → IsWritten a ns → HasPlainBody a
written_plain a ns w =
    let heads = parted (words (sizes a)) _ ns w in
    let removed = parted (flat_map atom_words a.kept) _ heads.1.0 heads.1.1 in
    let guard = parted (flat_map atom_words a.removed) _ removed.1.0 removed.1.1 in
    let body = parted (flat_map test_words a.guard) _ guard.1.0 guard.1.1 in
    all_written member_words HasPlainArguments plain_member a.body body.1

pub plain_body : {A : Type 0} (numbers : A → List ℕ) (a : Simpagation ℕ) (o : Option A) → IfSome o (λ written. IsWritten a (numbers written)) → IsSome o → HasPlainBody a
plain_body numbers a (Some written) w some = written_plain a (numbers written) w
plain_body numbers a None w some = absurd (cc)

-- one part more after those so far
pub pushed_more : {X Y : Type 0} (f : Y → List RuleWord) (g : X → Y) (xs : List X) (i : ℕ) (x : X) (old mid new : List RuleWord) → i < length xs → x ≡ get_or xs i x → mid ≡ old ++ flat_map f (map g (take i xs)) → new ≡ mid ++ f (g x) → new ≡ old ++ flat_map f (map g (take (i + 1) xs))
pushed_more f g xs i x old mid new lt is so_far pushed =
    pushed ∙ ap (λ ws. ws ++ f (g x)) so_far ∙ flat_map_more f old (map g (take i xs)) (g x) ∙ ap (λ ys. old ++ flat_map f ys) (sym (map-more g xs i x lt is))

-- an integer by its sign and its absolute value
pub below_zero : (z : ℤ) (n : ℕ) → int_lt z (pos 0) ≡ true → n ≡ unsigned_abs z → words (negative_kind ∷ n ∷ []) ≡ integer_words z
below_zero z n lt e = grind arith

pub from_zero : (z : ℤ) (n : ℕ) → int_lt z (pos 0) ≡ false → n ≡ unsigned_abs z → words (natural_kind ∷ n ∷ []) ≡ integer_words z
from_zero z n le e = grind arith

-- Whether lists are equal so far. Of equal lists it is told.
abbrev pub TellsSoFar : Bool → List ℕ → List ℕ → ℕ → Type 0
TellsSoFar told xs ys i = (IsTrue told → take i xs ≡ take i ys) × (xs ≡ ys → IsTrue told)

pub told_more : (told : Bool) (xs ys : List ℕ) (i : ℕ) → i < length xs → i < length ys → TellsSoFar told xs ys i → TellsSoFar (told && eqb (get_or xs i 0) (get_or ys i 0)) xs ys (i + 1)
told_more told xs ys i lx ly so_far = grind (arith, nat_tests, common_steps)

pub told_all : (told : Bool) (xs ys : List ℕ) (i : ℕ) → length xs ≤ i → length ys ≤ i → TellsSoFar told xs ys i → IsTrue told ↔ (xs ≡ ys)
told_all told xs ys i lx ly h = grind (arith, common_steps)
