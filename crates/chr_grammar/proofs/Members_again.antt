-- What is read as a member of a guard, of a body or of a declaration is spelled so, and what is spelled so is read.
use Rattle.std.proofs.Common.{◌≡◌, false, List, [], ◌∷◌, ◌++◌, refl, ap, ℕ, Bool, true, sym, subst, ◌∙◌, append_assoc, Option, Some, None, Ok, Err, ◌<◌, length, length-append, arith}
use Rattle.chr_lex.specs.declared.mark.Mark.TheVariants as mark
use Rattle.chr_lex.specs.Tokens as word
use Rattle.chr_lex.specs.Tokens.{Lexeme, OfWord, OfMark}
use Rattle.chr_grammar.specs.Parsed.{Declared, ParsedExpression, ParsedTerm, GuardMember, BodyMember, Number, Variable, Group, Operation, Always, Compared, Same, Differ, Nothing, Is, Add}
use Rattle.chr_grammar.specs.Parsing.{declared_of, declared_at, Front, is_true, is_mark, equality, equal, relation_at, compared_at, other_side_at, sides_at, test_by, plain_test_at, test_at, term_at, added_at, is_member_at, last_member_at, member_at, phrase_at, expression_at, named, sum_operator, product_operator}
use Rattle.chr_grammar.specs.Spelling.{declared_spelled, term_spelled, IsParsedTerm, formula_spelled, test_spelled, member_spelled, relation_sign, true_word, IsExpression, IsGuardMember, IsBodyMember, operator_sign, arguments, IsUnreserved}
use Rattle.chr_grammar.proofs.Fronts.{mark_is, IfRead, then_read, FrontRead, either_both, Again, Ends}
use Rattle.std.specs.Prelude.{codes, ◌||◌}
use Rattle.std.proofs.lemmas.Bool.{cond_both}
use Rattle.std.proofs.lemmas.Slice.Eq.{bytes_eq-Decides}
use Rattle.chr_rule.specs.declared.expression.Relation.{Relation}
use Rattle.chr_rule.specs.declared.expression.Relation.TheVariants as relation
use Rattle.chr_grammar.specs.Parsing as parsing
use Rattle.chr_grammar.proofs.Formulas.{expression_found, NoOperator, expression_again}
use Rattle.chr_grammar.proofs.Terms.{TermRead, term_found, Shut, term_again, phrase_found, phrase_again}
use Rattle.std.specs.List.{AllByRecursion}
use Rattle.std.specs.Str.{bytes_eq}
use Rattle.chr_value.proofs.Texts.{neither}
use Rattle.chr_value.specs.Spelling.{is_reserved}
use Rattle.chr_rule.specs.declared.expression.Operator.{Operator}
use Rattle.chr_rule.specs.declared.expression.Operator.TheVariants as operator

abbrev pub AnyDeclared : Declared → Type 0
AnyDeclared d = Unit {0}

declared_is : (n s d : Lexeme) → IfRead (λ e. n ∷ s ∷ d ∷ [] ≡ declared_spelled e) (declared_of n s d)
declared_is (OfWord (word.Name name)) (OfMark mark.Slash) (OfWord (word.Number false digits)) = refl
declared_is _ _ _ = refl

pub declared_found : (ts : List Lexeme) → FrontRead AnyDeclared declared_spelled ts (declared_at ts)
declared_found (a ∷ b ∷ c ∷ ts) = then_read _ _ (declared_of a b c) _ (declared_is a b c) (λ d h. (tt, ap (λ (x : List Lexeme). x ++ ts) h))
declared_found _ = refl

abbrev pub TestRead : List Lexeme → Front GuardMember → Type 0
TestRead = FrontRead IsGuardMember test_spelled

pub true_is : (s : Lexeme) → is_true s ≡ true → s ≡ true_word
true_is (OfWord (word.Name w)) h = ap (λ (w : List ℕ). OfWord (word.Name w)) ((bytes_eq-Decides w (codes "true")).0 h)
true_is _ h = absurd cc

-- the sign of what was read, or the token itself
abbrev sign_or : {A : Type 0} → (A → Lexeme) → Lexeme → Option A → Lexeme
sign_or sign s None = s
sign_or sign s (Some a) = sign a

relation_is : (s : Lexeme) (r : Relation) → parsing.relation s ≡ Some r → s ≡ relation_sign r
relation_is (OfMark mark.Less) r h = ap (sign_or relation_sign (OfMark mark.Less)) h
relation_is s r h = ap (sign_or relation_sign s) h

-- the sign of `==` or `\==`
abbrev equality_sign : Bool → Lexeme
equality_sign true = OfMark mark.Equals
equality_sign false = OfMark mark.Differs

equality_is : (s : Lexeme) (b : Bool) → equality s ≡ Some b → s ≡ equality_sign b
equality_is (OfMark mark.Equals) b h = ap (sign_or equality_sign (OfMark mark.Equals)) h
equality_is s b h = ap (sign_or equality_sign s) h

relation_found : (ts r : List Lexeme) (f : ParsedExpression) → IsExpression f → ts ≡ formula_spelled f ++ r → TestRead ts (relation_at f r)
relation_found ts [] f stands at = refl
relation_found ts (s ∷ us) f stands at =
    either_both (parsing.relation s) _ _ (TestRead ts) refl
    (λ r is. then_read _ _ (expression_at us) _ (expression_found us) (λ x h.
    let there : ts ≡ formula_spelled f ++ (relation_sign r ∷ (formula_spelled x.0 ++ x.1)) = at ∙ ap (λ (s : Lexeme). formula_spelled f ++ (s ∷ us)) (relation_is s r is) ∙ ap (λ (y : List Lexeme). formula_spelled f ++ (relation_sign r ∷ y)) h.1 in
    ((stands, h.0), there ∙ sym (append_assoc (formula_spelled f) (relation_sign r ∷ formula_spelled x.0) x.1))))

compared_found : (ts : List Lexeme) → TestRead ts (compared_at ts)
compared_found ts = then_read _ _ (expression_at ts) _ (expression_found ts) (λ x h. relation_found ts x.1 x.0 h.0 h.1)

plain_test_found : (ts : List Lexeme) → TestRead ts (plain_test_at ts)
plain_test_found [] = compared_found []
plain_test_found (s ∷ ts) =
    cond_both (is_true s) _ _ (TestRead (s ∷ ts)) (λ h. (tt, ap (λ (s : Lexeme). s ∷ ts) (true_is s h))) (λ h. compared_found (s ∷ ts))

equal_is : (same : Bool) (t u : ParsedTerm) → IsParsedTerm t → IsParsedTerm u → IsGuardMember (equal same t u) × (test_spelled (equal same t u) ≡ term_spelled t ++ equality_sign same ∷ term_spelled u)
equal_is true t u left right = ((left, right), refl)
equal_is false t u left right = ((left, right), refl)

other_side_found : (same : Bool) (t : ParsedTerm) (ts us : List Lexeme) → IsParsedTerm t → ts ≡ term_spelled t ++ (equality_sign same ∷ us) → TestRead ts (other_side_at same t us)
other_side_found same t ts us stands at =
    then_read _ _ (term_at us) _ (term_found us) (λ x h.
    let is = equal_is same t x.0 stands h.0 in
    let there : ts ≡ term_spelled t ++ (equality_sign same ∷ (term_spelled x.0 ++ x.1)) = at ∙ ap (λ (y : List Lexeme). term_spelled t ++ (equality_sign same ∷ y)) h.1 in
    (is.0, there ∙ sym (append_assoc (term_spelled t) (equality_sign same ∷ term_spelled x.0) x.1) ∙ ap (λ (y : List Lexeme). y ++ x.1) (sym is.1)))

sides_found : (ts : List Lexeme) (t : ParsedTerm) (us : List Lexeme) → IsParsedTerm t → ts ≡ term_spelled t ++ us → TestRead ts (sides_at ts t us)
sides_found ts t [] stands at = plain_test_found ts
sides_found ts t (e ∷ us) stands at =
    either_both (equality e) _ _ (TestRead ts) (plain_test_found ts)
    (λ same is. other_side_found same t ts us stands (at ∙ ap (λ (e : Lexeme). term_spelled t ++ (e ∷ us)) (equality_is e same is)))

by_found : (ts : List Lexeme) (read : Front ParsedTerm) → TermRead ts read → TestRead ts (test_by ts read)
by_found ts (Ok x) h = sides_found ts x.0 x.1 h.0 h.1
by_found ts (Err k) h = plain_test_found ts

pub test_found : (ts : List Lexeme) → TestRead ts (test_at ts)
test_found ts = by_found ts (term_at ts) (term_found ts)

-- ---- bodies

abbrev pub MemberRead : List Lexeme → Front BodyMember → Type 0
MemberRead = FrontRead IsBodyMember member_spelled

added_found : (ts : List Lexeme) → MemberRead ts (added_at ts)
added_found ts = then_read _ _ (phrase_at ts) _ (phrase_found ts) (λ x h. h)

last_member_found : (ts : List Lexeme) → MemberRead ts (last_member_at ts)
last_member_found [] = refl
last_member_found (s ∷ ts) =
    cond_both (is_true s) _ _ (MemberRead (s ∷ ts)) (λ h. (tt, ap (λ (s : Lexeme). s ∷ ts) (true_is s h))) (λ h. added_found (s ∷ ts))

is_member_found : (s : Lexeme) (ts : List Lexeme) → MemberRead (s ∷ OfMark mark.Is ∷ ts) (is_member_at s ts)
is_member_found (OfWord (word.Variable x)) ts =
    then_read _ _ (expression_at ts) _ (expression_found ts) (λ e h. (h.0, ap (λ (y : List Lexeme). OfWord (word.Variable x) ∷ OfMark mark.Is ∷ y) h.1))
is_member_found _ ts = refl

pub member_found : (ts : List Lexeme) → MemberRead ts (member_at ts)
member_found (s ∷ e ∷ ts) =
    cond_both (is_mark mark.Is e) _ _ (MemberRead (s ∷ e ∷ ts))
    (λ h. subst (λ (e : Lexeme). MemberRead (s ∷ e ∷ ts) (is_member_at s ts)) (sym (mark_is mark.Is e h)) (is_member_found s ts))
    (λ h. cond_both (is_mark mark.Open e) _ _ (MemberRead (s ∷ e ∷ ts)) (λ h. added_found (s ∷ e ∷ ts)) (λ h. last_member_found (s ∷ e ∷ ts)))
member_found ts = last_member_found ts

-- ---- what is spelled so is read

pub all_append : {A : Type 0} (P : A → Type 0) (xs ys : List A) → AllByRecursion P xs → AllByRecursion P ys → AllByRecursion P (xs ++ ys)
all_append P [] ys a b = b
all_append P (x ∷ xs) ys a b = (a.0, all_append P xs ys a.1 b)

pub formula_some : (f : ParsedExpression) → 0 < length (formula_spelled f)
formula_some (Operation o f g) = omega (arith, length-append (formula_spelled f) (operator_sign o ∷ formula_spelled g))
formula_some _ = omega arith

-- ---- expressions before something else

ends_each : (rest : List Lexeme) → Ends rest → NoOperator product_operator rest × NoOperator sum_operator rest × Shut rest
ends_each [] h = (tt, tt, tt)
ends_each (s ∷ ts) h = (rw h refl, rw h refl, rw h refl)

last_expression : (f : ParsedExpression) (rest : List Lexeme) → IsExpression f → Ends rest → expression_at (formula_spelled f ++ rest) ≡ Ok (f, rest)
last_expression f rest stands ends = expression_again f rest stands (ends_each rest ends).0 (ends_each rest ends).1

-- ---- a comparison is no equality, and has no names

abbrev Compares : Lexeme → Type 0
Compares s = (equality s ≡ None) × (named s ≡ None)

-- a comparison is read as itself, and as no operator
relation_reads : (r : Relation) → Compares (relation_sign r) × (parsing.relation (relation_sign r) ≡ Some r) × (product_operator (relation_sign r) ≡ None) × (sum_operator (relation_sign r) ≡ None)
relation_reads relation.Less = ((refl, refl), refl, refl, refl)
relation_reads _ = ((refl, refl), refl, refl, refl)

operator_compares : (o : Operator) → Compares (operator_sign o)
operator_compares operator.Add = (refl, refl)
operator_compares _ = (refl, refl)

formula_compares : (f : ParsedExpression) → AllByRecursion Compares (formula_spelled f)
formula_compares (Number negative digits) = ((refl, refl), tt)
formula_compares (Variable x) = ((refl, refl), tt)
formula_compares (Group f) = ((refl, refl), all_append Compares (formula_spelled f) (OfMark mark.Close ∷ []) (formula_compares f) ((refl, refl), tt))
formula_compares (Operation o f g) = all_append Compares (formula_spelled f) (operator_sign o ∷ formula_spelled g) (formula_compares f) (operator_compares o, formula_compares g)

compares : (x : Lexeme) (s : Lexeme) (ts : List Lexeme) → Compares x → equality s ≡ None → test_at (x ∷ s ∷ ts) ≡ compared_at (x ∷ s ∷ ts)
compares (OfWord (word.Name x)) s ts this other = let none = this.1 in absurd cc
compares (OfWord (word.Variable x)) s ts this other = rw other refl
compares (OfWord (word.Number negative digits)) s ts this other = rw other refl
compares (OfMark m) s ts this other = refl

comparison : (xs : List Lexeme) (s : Lexeme) (ys : List Lexeme) → 0 < length xs → AllByRecursion Compares xs → Compares s → test_at (xs ++ s ∷ ys) ≡ compared_at (xs ++ s ∷ ys)
comparison [] s ys some all this = absurd (omega (arith, some))
comparison (x ∷ []) s ys some all this = compares x s ys all.0 this.0
comparison (x ∷ y ∷ xs) s ys some all this = compares x y (xs ++ s ∷ ys) all.0 all.1.0.0

compared_again : (r : Relation) (f g : ParsedExpression) (rest : List Lexeme) → IsExpression f → IsExpression g → Ends rest → compared_at (formula_spelled f ++ (relation_sign r ∷ (formula_spelled g ++ rest))) ≡ Ok (Compared r f g, rest)
compared_again r f g rest left right ends =
    let one : expression_at (formula_spelled f ++ (relation_sign r ∷ (formula_spelled g ++ rest))) ≡ Ok (f, relation_sign r ∷ (formula_spelled g ++ rest)) =
    expression_again f (relation_sign r ∷ (formula_spelled g ++ rest)) left (relation_reads r).2 (relation_reads r).3 in
    let two : expression_at (formula_spelled g ++ rest) ≡ Ok (g, rest) = last_expression g rest right ends in
    let known : parsing.relation (relation_sign r) ≡ Some r = (relation_reads r).1 in
    rw (one, known, two) refl

sides_again : (same : Bool) (e : Lexeme) (t u : ParsedTerm) (rest : List Lexeme) → equality e ≡ Some same → IsParsedTerm t → IsParsedTerm u → Shut (e ∷ []) → Shut rest → test_at ((term_spelled t ++ e ∷ term_spelled u) ++ rest) ≡ Ok (equal same t u, rest)
sides_again same e t u rest is left right sign shut =
    let all = (term_spelled t ++ e ∷ term_spelled u) ++ rest in
    let behind = term_spelled u ++ rest in
    let one : term_at all ≡ Ok (t, e ∷ behind) = ap term_at (append_assoc (term_spelled t) (e ∷ term_spelled u) rest) ∙ term_again t (e ∷ behind) left sign in
    let two : term_at behind ≡ Ok (u, rest) = term_again u rest right shut in
    let other : other_side_at same t behind ≡ Ok (equal same t u, rest) = rw two refl in
    let sides : sides_at all t (e ∷ behind) ≡ other_side_at same t behind = rw is refl in
    ap (test_by all) one ∙ sides ∙ other

pub test_again : Again IsGuardMember test_spelled test_at
test_again Always [] stands ends = refl
test_again Always (s ∷ rest) stands ends = rw ends refl
test_again (Compared r f g) rest stands ends =
    let split : (formula_spelled f ++ relation_sign r ∷ formula_spelled g) ++ rest ≡ formula_spelled f ++ (relation_sign r ∷ (formula_spelled g ++ rest)) = append_assoc (formula_spelled f) (relation_sign r ∷ formula_spelled g) rest in
    ap test_at split ∙ comparison (formula_spelled f) (relation_sign r) (formula_spelled g ++ rest) (formula_some f) (formula_compares f) (relation_reads r).0 ∙ compared_again r f g rest stands.0 stands.1 ends
test_again (Same t u) rest stands ends = sides_again true (OfMark mark.Equals) t u rest refl stands.0 stands.1 refl (ends_each rest ends).2
test_again (Differ t u) rest stands ends = sides_again false (OfMark mark.Differs) t u rest refl stands.0 stands.1 refl (ends_each rest ends).2

pub test_some : (t : GuardMember) → IsGuardMember t → 0 < length (test_spelled t)
test_some Always stands = omega arith
test_some (Compared r f g) stands = omega (arith, length-append (formula_spelled f) (relation_sign r ∷ formula_spelled g))
test_some (Same t u) stands = omega (arith, length-append (term_spelled t) (OfMark mark.Equals ∷ term_spelled u))
test_some (Differ t u) stands = omega (arith, length-append (term_spelled t) (OfMark mark.Differs ∷ term_spelled u))

-- ---- members of a body

not_true : (name : List ℕ) → is_reserved name ≡ false → bytes_eq name (codes "true") ≡ false
not_true name h =
    (neither (bytes_eq name (codes "true")) (bytes_eq name (codes "fail")) (neither (bytes_eq name (codes "true") || bytes_eq name (codes "fail")) (bytes_eq name (codes "false")) h).0).0

member_atom : (name : List ℕ) (ws : List ParsedTerm) (rest : List Lexeme) → IsUnreserved name ws → Ends rest → phrase_at (OfWord (word.Name name) ∷ (arguments ws ++ rest)) ≡ Ok (record { name = name; args = ws }, rest)
    → member_at (OfWord (word.Name name) ∷ (arguments ws ++ rest)) ≡ Ok (Add (record { name = name; args = ws }), rest)
member_atom name (w ∷ ws) rest stands ends read = rw read refl
member_atom name [] [] stands ends read = rw (stands, not_true name stands) refl
member_atom name [] (s ∷ rest) stands ends read = rw (ends, stands, not_true name stands) refl

pub member_again : Again IsBodyMember member_spelled member_at
member_again Nothing [] stands ends = refl
member_again Nothing (s ∷ rest) stands ends = rw ends refl
member_again (Is x f) rest stands ends = rw (last_expression f rest stands ends) refl
member_again (Add p) rest stands ends = member_atom p.name p.args rest stands.unreserved ends (phrase_again p rest stands ends)

pub member_some : (m : BodyMember) → IsBodyMember m → 0 < length (member_spelled m)
member_some Nothing stands = omega arith
member_some _ stands = omega arith

-- ---- declarations

pub declared_again : Again AnyDeclared declared_spelled declared_at
declared_again d rest stands ends = refl

pub declared_some : (d : Declared) → AnyDeclared d → 0 < length (declared_spelled d)
declared_some d stands = omega arith
