-- The variables of a rule: what is seen after each part, the number of each, and whether each has a value where it is used.
use Rattle.std.proofs.Common.{◌≡◌, ◌≤◌, ℕ, Bool, true, false, cond, List, [], ◌∷◌, ◌++◌, length, flat_map, refl, sym, ap, ◌∙◌, arith, ◌↔◌, ◌<◌, ◌+◌, zero, suc, not, ◌||◌, eqb, inl, inr, Option, Some, None, ap₂, ◌&&◌, ltb, length-append, subst}
use Rattle.std.specs.List.{position_or_len, AllByRecursion, list_any, list_all}
use Rattle.std.specs.Str.{bytes_eq}
use Rattle.chr_lex.specs.Tokens as words
use Rattle.chr_grammar.specs.Parsed as parsed
use Rattle.chr_limits.specs.Variables.{is_seen, seen_from, seen, word_variables, term_variables, formula_variables, phrase_variables, test_variables, member_variables, head_variables, variables_of, is_blank}
use Rattle.chr_limits.proofs.Meeting.{met_from_append, met_from_longer, met_from_seen, still_all_seen}
use Rattle.chr_text.specs.Translation.{word_term, placed_word, argument, rule_atom, expression, test, member, after_kept, after_heads, after_guard, after_body, somes, rule}
use Rattle.chr_text.specs.Fitting.{FormulaFits, ExpressionFits}
use Rattle.chr_text.specs.Variables.{Seen, number_variable, in_turn, numbers}
use Rattle.std.specs.Prelude.{slice_get}
use Rattle.std.proofs.lemmas.Grind.{flat_map-append}
use Rattle.std.proofs.lemmas.Slice.Eq.{bytes_eq-Decides}
use Rattle.std.proofs.lemmas.Bool.{cases_order, not-true, lt-ltb, ltb-true}
use Rattle.std.proofs.lemmas.List.Folds.{position_or_len_push, list_all-append, list_any-append}
use Rattle.std.proofs.lemmas.Option.{slice_get_within}
use Rattle.chr_value.specs.Atoms.{Value, Comp, Args, Nil, Cons}
use Rattle.chr_value.proofs.Chosen.{both}
use Rattle.chr_value.proofs.Texts.{none-number, none-place}
use Rattle.chr_rule.specs.Rules.{Term, Var, Given, Open, Terms, End, And, RuleAtom, Expression, Number, Variable, Operation, Comparison, Compared, Same, Differ}
use Rattle.chr_lex.specs.Tokens.{Word}
use Rattle.chr_grammar.specs.Spelling.{IsParsedTerm, IsParsedRule}
use Rattle.chr_text.specs.Terms.{Placed, value_words, args_words, words_of, terms_words}
use Rattle.chr_text.specs.Places.{term_places, terms_places, atom_places, expression_places, comparison_places, item_places, places}
use Rattle.chr_text.proofs.Limited.{AtomNests, TestNests, MemberNests, RuleNests, rule_nests, term_words}
use Rattle.std.proofs.lemmas.List.{append-nil}
use Rattle.std.proofs.Math.Bool.{and-true}
use Rattle.chr_rule.specs.Scope.{known_then, known_after_variable, known_after_term, known_after_terms, known_after_args, known_after_heads, known_after_body, argument_known, arguments_known, expression_known, test_known, variable_count}
use Rattle.chr_limits.specs.Scope.{are_seen, body_in_scope, is_in_scope}
use Rattle.chr_text.proofs.Said.{then_same}

-- after each, those are seen that stand in it
abbrev pub Meets : {A B : Type 0} → (Seen → A → B × Seen) → (A → List (List ℕ)) → Type 0
Meets {A} g v = (m : Seen) (a : A) → (g m a).1 ≡ seen_from m (v a)

then_meets : (m : Seen) (xs ys : List (List ℕ)) {n k : Seen} → n ≡ seen_from m xs → k ≡ seen_from n ys → k ≡ seen_from m (xs ++ ys)
then_meets m xs ys first second = second ∙ ap (λ l. seen_from l ys) first ∙ sym (met_from_append m xs ys)

-- a variable that was seen has its place for a number, and a new one the next number
pub number_elim : (P : ℕ × Seen → Type 0) (m : Seen) (x : List ℕ) → (is_seen m x ≡ true → P (position_or_len (bytes_eq x) m, m)) → (is_seen m x ≡ false → P (length m, m ++ x ∷ [])) → P (number_variable m x)
number_elim P m x old new = by (is_seen m x) refl
  where
    by : (b : Bool) → is_seen m x ≡ b → P (cond b (position_or_len (bytes_eq x) m, m) (length m, m ++ x ∷ []))
    by true h = old h
    by false h = new h

pub variable_meets : Meets number_variable (λ x. x ∷ [])
variable_meets m x = number_elim (λ v. v.1 ≡ seen_from m (x ∷ [])) m x (λ h. rw h refl) (λ h. rw h refl)

pub word_meets : Meets word_term word_variables
word_meets m (words.Variable x) = variable_meets m x
word_meets m _ = refl

pub turn_meets : {A B : Type 0} (g : Seen → A → B × Seen) (v : A → List (List ℕ)) → Meets g v → Meets (in_turn g) (flat_map v)
turn_meets g v h m [] = refl
turn_meets g v h m (a ∷ as') = then_meets m (v a) (flat_map v as') (h m a) (turn_meets g v h (g m a).1 as')

pub argument_meets : Meets argument term_variables
argument_meets m t = turn_meets placed_word (λ n. word_variables n.word) (λ m n. word_meets m n.word) m t

pub shape_meets : Meets rule_atom phrase_variables
shape_meets m p = turn_meets argument term_variables argument_meets m p.args

pub expression_meets : Meets expression formula_variables
expression_meets m (parsed.Number negative ds) = refl
expression_meets m (parsed.Variable x) = variable_meets m x
expression_meets m (parsed.Group e) = expression_meets m e
expression_meets m (parsed.Operation o e f) = then_meets m (formula_variables e) (formula_variables f) (expression_meets m e) (expression_meets (expression m e).1 f)

pub test_meets : Meets test test_variables
test_meets m parsed.Always = refl
test_meets m (parsed.Compared r e f) = then_meets m (formula_variables e) (formula_variables f) (expression_meets m e) (expression_meets (expression m e).1 f)
test_meets m (parsed.Same s t) = then_meets m (term_variables s) (term_variables t) (argument_meets m s) (argument_meets (argument m s).1 t)
test_meets m (parsed.Differ s t) = then_meets m (term_variables s) (term_variables t) (argument_meets m s) (argument_meets (argument m s).1 t)

pub member_meets : Meets member member_variables
member_meets m parsed.Nothing = refl
member_meets m (parsed.Is x e) = then_meets m (x ∷ []) (formula_variables e) (variable_meets m x) (expression_meets (number_variable m x).1 e)
member_meets m (parsed.Add p) = shape_meets m p

pub heads_meet : (r : parsed.ParsedRule) → after_heads r ≡ seen (head_variables r)
heads_meet r =
    let each = turn_meets rule_atom phrase_variables shape_meets in
    then_meets [] (flat_map phrase_variables r.kept) (flat_map phrase_variables r.removed) (each [] r.kept) (each (after_kept r) r.removed)

pub guard_meets : (r : parsed.ParsedRule) → after_guard r ≡ seen (head_variables r ++ flat_map test_variables r.guard)
guard_meets r = then_meets [] (head_variables r) (flat_map test_variables r.guard) (heads_meet r) (turn_meets test test_variables test_meets (after_heads r) r.guard)

pub all_seen : (r : parsed.ParsedRule) → after_body r ≡ seen (variables_of r)
all_seen r =
    then_meets [] (head_variables r ++ flat_map test_variables r.guard) (flat_map member_variables r.body) (guard_meets r) (turn_meets member member_variables member_meets (after_guard r) r.body)

-- ---- what is seen stays so

pub grows : {A B : Type 0} (g : Seen → A → B × Seen) (v : A → List (List ℕ)) → Meets g v → (m : Seen) (a : A) → length m ≤ length (g m a).1
grows g v meets m a = rw (meets m a) (met_from_longer m (v a))

more_seen : (m : Seen) (e : parsed.ParsedExpression) → length m ≤ length (expression m e).1
more_seen m e = grows expression formula_variables expression_meets m e

pub expression_fits : (m : Seen) (e : parsed.ParsedExpression) → FormulaFits e → length (expression m e).1 ≤ 24 → ExpressionFits m e
expression_fits m (parsed.Number negative ds) fits room = fits
expression_fits m (parsed.Variable x) fits room = room
expression_fits m (parsed.Group e) fits room = expression_fits m e fits room
expression_fits m (parsed.Operation o a b) fits room = (expression_fits m a fits.0 (omega (arith, more_seen (expression m a).1 b)), expression_fits (expression m a).1 b fits.1 room)

-- room for `x is e` is room for x
pub is_room : (m : Seen) (x : List ℕ) (e : parsed.ParsedExpression) → length (expression (number_variable m x).1 e).1 ≤ 24 → length (number_variable m x).1 ≤ 24
is_room m x e h = omega (arith, more_seen (number_variable m x).1 e)

-- room for two, one after the other, is room for the first
pub first_room : (m : Seen) (a b : parsed.ParsedTerm) → length (argument (argument m a).1 b).1 ≤ 24 → length (argument m a).1 ≤ 24
first_room m a b h = omega (arith, grows argument term_variables argument_meets (argument m a).1 b)

pub left_fits : (m : Seen) (a b : parsed.ParsedExpression) → FormulaFits a → length (expression (expression m a).1 b).1 ≤ 24 → ExpressionFits m a
left_fits m a b fits h = expression_fits m a fits (omega (arith, more_seen (expression m a).1 b))

-- a rule has no more variables in a part than in the whole
pub guard_room : (r : parsed.ParsedRule) → length (after_body r) ≤ 24 → length (after_guard r) ≤ 24
guard_room r h = omega (arith, grows (in_turn member) (flat_map member_variables) (turn_meets member member_variables member_meets) (after_guard r) r.body)

pub heads_room : (r : parsed.ParsedRule) → length (after_body r) ≤ 24 → length (after_heads r) ≤ 24
heads_room r h = omega (arith, guard_room r h, grows (in_turn test) (flat_map test_variables) (turn_meets test test_variables test_meets) (after_heads r) r.guard)

pub kept_room : (r : parsed.ParsedRule) → length (after_body r) ≤ 24 → length (after_kept r) ≤ 24
kept_room r h = omega (arith, heads_room r h, grows (in_turn rule_atom) (flat_map phrase_variables) (turn_meets rule_atom phrase_variables shape_meets) (after_kept r) r.removed)

-- ---- the places of a term are those of its words

abbrev words_places : {N : Type 0} → List (Placed N) → List ℕ
words_places ws = flat_map (λ w. term_places w.1) ws

both_places : {N : Type 0} (vs ws : List (Placed N)) {xs ys : List ℕ} → words_places vs ≡ xs → words_places ws ≡ ys → words_places (vs ++ ws) ≡ xs ++ ys
both_places vs ws e f = flat_map-append (λ w. term_places w.1) vs ws ∙ ap₂ (λ (xs ys : List ℕ). xs ++ ys) e f

mutual
  value_places : {N : Type 0} (d : ℕ) (v : Value N) → words_places (value_words d v) ≡ []
  value_places d (Comp s vs) = args_places (suc d) vs
  value_places d _ = refl

  args_places : {N : Type 0} (d : ℕ) (vs : Args N) → words_places (args_words d vs) ≡ []
  args_places d Nil = refl
  args_places d (Cons v vs) = both_places (value_words d v) (args_words d vs) (value_places d v) (args_places d vs)

mutual
  words_of_places : {N : Type 0} (d : ℕ) (t : Term N) → words_places (words_of d t) ≡ term_places t
  words_of_places d (Var x) = refl
  words_of_places d (Given v) = value_places d v
  words_of_places d (Open s ts) = words_of_all (suc d) ts

  words_of_all : {N : Type 0} (d : ℕ) (ts : Terms N) → words_places (terms_words d ts) ≡ terms_places ts
  words_of_all d End = refl
  words_of_all d (And t ts) = both_places (words_of d t) (terms_words d ts) (words_of_places d t) (words_of_all d ts)

-- ---- the numbers of names

abbrev pub numbers_from : Seen → List (List ℕ) → List ℕ
numbers_from m names = (in_turn number_variable m names).0

seen_first : (m : Seen) (x : List ℕ) (xs : List (List ℕ)) → seen_from (number_variable m x).1 xs ≡ seen_from m (x ∷ xs)
seen_first m x xs = ap (λ l. seen_from l xs) (variable_meets m x) ∙ sym (met_from_append m (x ∷ []) xs)

numbers_append : (m : Seen) (xs ys : List (List ℕ)) → numbers_from m xs ++ numbers_from (seen_from m xs) ys ≡ numbers_from m (xs ++ ys)
numbers_append m [] ys = refl
numbers_append m (x ∷ xs) ys =
    let next = (number_variable m x).1 in
    ap (λ l. numbers_from m (x ∷ xs) ++ numbers_from l ys) (sym (seen_first m x xs)) ∙ ap (λ (ns : List ℕ). (number_variable m x).0 ∷ ns) (numbers_append next xs ys)

then_numbered : (m : Seen) (xs ys : List (List ℕ)) {n : Seen} {ns ms : List ℕ} → n ≡ seen_from m xs → ns ≡ numbers_from m xs → ms ≡ numbers_from n ys → ns ++ ms ≡ numbers_from m (xs ++ ys)
then_numbered m xs ys seen first second = ap₂ (λ (ns ms : List ℕ). ns ++ ms) first (second ∙ ap (λ l. numbers_from l ys) seen) ∙ numbers_append m xs ys

-- what is made of each has the numbers of its names at its places
abbrev pub Numbers : {A B : Type 0} → (A → Type 0) → (Seen → A → B × Seen) → (A → List (List ℕ)) → (B → List ℕ) → Type 0
Numbers {A} P g v w = (m : Seen) (a : A) → P a → w (g m a).0 ≡ numbers_from m (v a)

pub turn_numbered : {A B : Type 0} (P : A → Type 0) (g : Seen → A → B × Seen) (v : A → List (List ℕ)) (w : B → List ℕ) → Meets g v → Numbers P g v w → Numbers (AllByRecursion P) (in_turn g) (flat_map v) (flat_map w)
turn_numbered P g v w meets h m [] all = refl
turn_numbered P g v w meets h m (a ∷ as') all = then_numbered m (v a) (flat_map v as') (meets m a) (h m a all.0) (turn_numbered P g v w meets h (g m a).1 as' all.1)

-- ---- a rule

nodes_numbered : (m : Seen) (ns : List parsed.TermNode) → words_places (in_turn placed_word m ns).0 ≡ numbers_from m (term_variables ns)
nodes_numbered m [] = refl
nodes_numbered m (n ∷ ns) = then_numbered m (word_variables n.word) (term_variables ns) (word_meets m n.word) (word n.word) (nodes_numbered (placed_word m n).1 ns)
  where
    word : (w : Word) → term_places (word_term m w).0 ≡ numbers_from m (word_variables w)
    word (words.Variable x) = refl
    word _ = refl

pub term_numbered : Numbers IsParsedTerm argument term_variables term_places
term_numbered m t nested = sym (words_of_places 0 (argument m t).0) ∙ ap words_places (term_words m t nested) ∙ nodes_numbered m t

pub atom_numbered : Numbers AtomNests rule_atom phrase_variables atom_places
atom_numbered m p nested = turn_numbered IsParsedTerm argument term_variables term_places argument_meets term_numbered m p.args nested

pub expression_numbered : (m : Seen) (e : parsed.ParsedExpression) → expression_places (expression m e).0 ≡ numbers_from m (formula_variables e)
expression_numbered m (parsed.Number negative ds) = refl
expression_numbered m (parsed.Variable x) = refl
expression_numbered m (parsed.Group e) = expression_numbered m e
expression_numbered m (parsed.Operation o e f) =
    then_numbered m (formula_variables e) (formula_variables f) (expression_meets m e) (expression_numbered m e) (expression_numbered (expression m e).1 f)

abbrev if_some : {B : Type 0} → (B → List ℕ) → Option B → List ℕ
if_some w None = []
if_some w (Some x) = w x

somes_places : {B : Type 0} (w : B → List ℕ) (os : List (Option B)) → flat_map w (somes os) ≡ flat_map (if_some w) os
somes_places w [] = refl
somes_places w (None ∷ os) = somes_places w os
somes_places w (Some x ∷ os) = ap (λ (l : List ℕ). w x ++ l) (somes_places w os)

test_numbered : Numbers TestNests test test_variables (if_some comparison_places)
test_numbered m parsed.Always nested = refl
test_numbered m (parsed.Compared r e f) nested =
    then_numbered m (formula_variables e) (formula_variables f) (expression_meets m e) (expression_numbered m e) (expression_numbered (expression m e).1 f)
test_numbered m (parsed.Same s t) nested =
    then_numbered m (term_variables s) (term_variables t) (argument_meets m s) (term_numbered m s nested.0) (term_numbered (argument m s).1 t nested.1)
test_numbered m (parsed.Differ s t) nested =
    then_numbered m (term_variables s) (term_variables t) (argument_meets m s) (term_numbered m s nested.0) (term_numbered (argument m s).1 t nested.1)

pub tests_numbered : (m : Seen) (ts : List parsed.GuardMember) → AllByRecursion TestNests ts → flat_map comparison_places (somes (in_turn test m ts).0) ≡ numbers_from m (flat_map test_variables ts)
tests_numbered m ts nested = somes_places comparison_places (in_turn test m ts).0 ∙ turn_numbered TestNests test test_variables (if_some comparison_places) test_meets test_numbered m ts nested

member_numbered : Numbers MemberNests member member_variables (if_some item_places)
member_numbered m parsed.Nothing nested = refl
member_numbered m (parsed.Is x e) nested = then_numbered m (x ∷ []) (formula_variables e) (variable_meets m x) refl (expression_numbered (number_variable m x).1 e)
member_numbered m (parsed.Add p) nested = atom_numbered m p nested

pub heads_numbered : (r : parsed.ParsedRule) → RuleNests r → flat_map atom_places (rule r).kept ++ flat_map atom_places (rule r).removed ≡ numbers (head_variables r)
heads_numbered r nested =
    let meets = turn_meets rule_atom phrase_variables shape_meets in
    let each = turn_numbered AtomNests rule_atom phrase_variables atom_places shape_meets atom_numbered in
    then_numbered [] (flat_map phrase_variables r.kept) (flat_map phrase_variables r.removed) (meets [] r.kept) (each [] r.kept nested.kept) (each (after_kept r) r.removed nested.removed)

pub rule_places : (r : parsed.ParsedRule) → IsParsedRule r → places (rule r) ≡ numbers (variables_of r)
rule_places r is =
    let nested = rule_nests r is in
    let guard = tests_numbered (after_heads r) r.guard nested.guard in
    let members = turn_numbered MemberNests member member_variables (if_some item_places) member_meets member_numbered (after_guard r) r.body nested.body in
    let body = somes_places item_places (in_turn member (after_guard r) r.body).0 ∙ members in
    then_numbered [] (head_variables r ++ flat_map test_variables r.guard) (flat_map member_variables r.body) (guard_meets r)
    (then_numbered [] (head_variables r) (flat_map test_variables r.guard) (heads_meet r) (heads_numbered r nested) guard) body

-- ---- a number and its name

get_front : {A : Type 0} (xs ys : List A) (n : ℕ) (x : A) → slice_get xs n ≡ Some x → slice_get (xs ++ ys) n ≡ Some x
get_front [] ys n x h = absurd cc
get_front (y ∷ xs) ys zero x h = h
get_front (y ∷ xs) ys (suc n) x h = get_front xs ys n x h

get_last : {A : Type 0} (xs : List A) (x : A) → slice_get (xs ++ x ∷ []) (length xs) ≡ Some x
get_last [] x = refl
get_last (y ∷ xs) x = get_last xs x

-- what is seen stands at its place
found_there : (x : List ℕ) (xs : List (List ℕ)) → list_any (bytes_eq x) xs ≡ true → slice_get xs (position_or_len (bytes_eq x) xs) ≡ Some x
found_there x [] h = absurd cc
found_there x (y ∷ ys) h = by (bytes_eq x y) refl h (found_there x ys)
  where
    by : (b : Bool) → bytes_eq x y ≡ b → b || list_any (bytes_eq x) ys ≡ true → (list_any (bytes_eq x) ys ≡ true → slice_get ys (position_or_len (bytes_eq x) ys) ≡ Some x)
        → slice_get (y ∷ ys) (cond (not b) (1 + position_or_len (bytes_eq x) ys) 0) ≡ Some x
    by true is h f = let e = (bytes_eq-Decides x y).0 is in cc
    by false is h f = let e : 1 + position_or_len (bytes_eq x) ys ≡ suc (position_or_len (bytes_eq x) ys) = omega arith in rw e (f h)

-- what isn't seen has no place
unseen : (m : Seen) (x : List ℕ) → is_blank x ≡ false → is_seen m x ≡ false → position_or_len (bytes_eq x) m ≡ length m
unseen m x named h = none-number (bytes_eq x) m (none-place (bytes_eq x) m (rw named at h))

-- a name's number: its place, which is the first where it is not `_`
record Stands (m : Seen) (a : ℕ) (x : List ℕ) : Type 0 where
  there : slice_get m a ≡ Some x
  first : is_blank x ≡ false → position_or_len (bytes_eq x) m ≡ a

stands_new : (m : Seen) (x : List ℕ) → Stands (number_variable m x).1 (number_variable m x).0 x
stands_new m x =
    let last : eqb (length m) (length m) ≡ true = grind arith in
    number_elim (λ v. Stands v.1 v.0 x) m x (λ h. record { there = found_there x m (both (not (is_blank x)) (list_any (bytes_eq x) m) h).1; first = λ named. refl })
    (λ h. record { there = get_last m x; first = λ named. rw (position_or_len_push (bytes_eq x) m x, unseen m x named h, last, (bytes_eq-Decides x x).1 refl) (omega arith) })

stands_later : (m : Seen) (a : ℕ) (x y : List ℕ) → Stands m a x → Stands (number_variable m y).1 a x
stands_later m a x y s =
    let lt = slice_get_within m a x s.there in
    let before : eqb a (length m) ≡ false = grind arith in
    number_elim (λ v. Stands v.1 a x) m y (λ h. s) (λ h. record { there = get_front m (y ∷ []) a x s.there; first = λ named. rw (position_or_len_push (bytes_eq x) m y, s.first named, before) refl })

abbrev Alike : ℕ → ℕ → List ℕ → List ℕ → Type 0
Alike a b x y = (a ≡ b) ↔ ((x ≡ y) × (is_blank x ≡ false))

same_number : (m : Seen) (a : ℕ) (x y : List ℕ) → Stands m a x → Alike a (number_variable m y).0 x y
same_number m a x y s = number_elim (λ v. Alike a v.0 x y) m y old new
  where
    old : is_seen m y ≡ true → Alike a (position_or_len (bytes_eq y) m) x y
    old h =
        let p = both (not (is_blank y)) (list_any (bytes_eq y) m) h in
        let at = found_there y m p.1 in
        let there = s.there in (
          λ e. let same : x ≡ y = cc in (same, rw same (not-true (is_blank y) p.0)),
          λ k. sym (s.first k.1) ∙ ap (λ z. position_or_len (bytes_eq z) m) k.0,
        )

    new : is_seen m y ≡ false → Alike a (length m) x y
    new h =
        let lt = slice_get_within m a x s.there in (
          λ e. absurd (omega (arith, e, lt)),
          λ k. let same = k.0 in let first = s.first k.1 in absurd (omega (arith, lt, first, ap (λ z. position_or_len (bytes_eq z) m) same, unseen m y (rw (← same) k.1) h)),
        )

apart : (m : Seen) (names : List (List ℕ)) (j a b : ℕ) (x y : List ℕ) → Stands m a x → slice_get names j ≡ Some y → slice_get (numbers_from m names) j ≡ Some b → Alike a b x y
apart m [] j a b x y s h k = absurd cc
apart m (z ∷ zs) zero a b x y s h k =
    let same : z ≡ y = cc in
    let number : (number_variable m z).0 ≡ b = cc in
    rw (← same, ← number) (same_number m a x z s)
apart m (z ∷ zs) (suc j) a b x y s h k = apart (number_variable m z).1 zs j a b x y (stands_later m a x z s) h k

in_order : (m : Seen) (names : List (List ℕ)) (i j : ℕ) (x y : List ℕ) (a b : ℕ) → i < j → slice_get names i ≡ Some x → slice_get names j ≡ Some y → slice_get (numbers_from m names) i ≡ Some a → slice_get (numbers_from m names) j ≡ Some b → Alike a b x y
in_order m [] i j x y a b lt hx hy ha hb = absurd cc
in_order m (z ∷ zs) i zero x y a b lt hx hy ha hb = absurd (omega (arith, lt))
in_order m (z ∷ zs) zero (suc j) x y a b lt hx hy ha hb =
    let same : z ≡ x = cc in
    let number : (number_variable m z).0 ≡ a = cc in
    rw (← same, ← number) (apart (number_variable m z).1 zs j (number_variable m z).0 b z y (stands_new m z) hy hb)
in_order m (z ∷ zs) (suc i) (suc j) x y a b lt hx hy ha hb = in_order (number_variable m z).1 zs i j x y a b (omega (arith, lt)) hx hy ha hb

pub one_number : (names : List (List ℕ)) (i j : ℕ) (x y : List ℕ) (a b : ℕ) → (i ≡ j → ⊥) → slice_get names i ≡ Some x → slice_get names j ≡ Some y → slice_get (numbers names) i ≡ Some a → slice_get (numbers names) j ≡ Some b
    → (a ≡ b) ↔ ((x ≡ y) × (is_blank x ≡ false))
one_number names i j x y a b other hx hy ha hb =
    elim (cases_order i j) as (λ v. Alike a b x y) [
      | inl e ↦ absurd (other e)
      | inr (inl lt) ↦ in_order [] names i j x y a b lt hx hy ha hb
      | inr (inr lt) ↦
          let h = in_order [] names j i y x b a lt hy hx hb ha in
          (λ e. let k = h.0 (sym e) in let same = sym k.0 in (same, rw same k.1), λ k. let same = k.0 in sym (h.1 (sym same, rw (← same) k.1)))
    ]

-- ---- what is known, by the places of variables

abbrev are_below : ℕ → List ℕ → Bool
are_below n xs = list_all (λ x. ltb x n) xs

both_below : (n : ℕ) (xs ys : List ℕ) {a b : Bool} → a ≡ are_below n xs → b ≡ are_below n ys → (a && b) ≡ are_below n (xs ++ ys)
both_below n xs ys e f = ap₂ (λ (a b : Bool). a && b) e f ∙ sym (list_all-append (λ x. ltb x n) xs ys)

mutual
  argument_below : {N : Type 0} (n : ℕ) (t : Term N) → argument_known n t ≡ are_below n (term_places t)
  argument_below n (Var x) = sym (and-true (ltb x n))
  argument_below n (Given v) = refl
  argument_below n (Open s ts) = arguments_below n ts

  arguments_below : {N : Type 0} (n : ℕ) (ts : Terms N) → arguments_known n ts ≡ are_below n (terms_places ts)
  arguments_below n End = refl
  arguments_below n (And t ts) = both_below n (term_places t) (terms_places ts) (argument_below n t) (arguments_below n ts)

expression_below : (n : ℕ) (e : Expression) → expression_known n e ≡ are_below n (expression_places e)
expression_below n (Number z) = refl
expression_below n (Variable x) = sym (and-true (ltb x n))
expression_below n (Operation o a b) = both_below n (expression_places a) (expression_places b) (expression_below n a) (expression_below n b)

test_below : {N : Type 0} (n : ℕ) (t : Comparison N) → test_known n t ≡ are_below n (comparison_places t)
test_below n (Compared r a b) = both_below n (expression_places a) (expression_places b) (expression_below n a) (expression_below n b)
test_below n (Same s t) = both_below n (term_places s) (term_places t) (argument_below n s) (argument_below n t)
test_below n (Differ s t) = both_below n (term_places s) (term_places t) (argument_below n s) (argument_below n t)

all_below : {A : Type 0} (n : ℕ) (p : A → Bool) (w : A → List ℕ) → ((a : A) → p a ≡ are_below n (w a)) → (as' : List A) → list_all p as' ≡ are_below n (flat_map w as')
all_below n p w h [] = refl
all_below n p w h (a ∷ as') = both_below n (w a) (flat_map w as') (h a) (all_below n p w h as')

-- how many are known after places
abbrev known_after : ℕ → List ℕ → Option ℕ
known_after n [] = Some n
known_after n (x ∷ xs) = known_then (known_after_variable n x) (λ m. known_after m xs)

after_append : (n : ℕ) (xs ys : List ℕ) → known_after n (xs ++ ys) ≡ known_then (known_after n xs) (λ m. known_after m ys)
after_append n [] ys = refl
after_append n (x ∷ xs) ys = by (known_after_variable n x) (λ m. after_append m xs ys)
  where
    by : (o : Option ℕ) → ((m : ℕ) → known_after m (xs ++ ys) ≡ known_then (known_after m xs) (λ k. known_after k ys))
        → known_then o (λ m. known_after m (xs ++ ys)) ≡ known_then (known_then o (λ m. known_after m xs)) (λ m. known_after m ys)
    by None h = refl
    by (Some m) h = h m

then_after : (n : ℕ) (xs ys : List ℕ) {o : Option ℕ} (f : ℕ → Option ℕ) → o ≡ known_after n xs → ((m : ℕ) → f m ≡ known_after m ys) → known_then o f ≡ known_after n (xs ++ ys)
then_after n xs ys {o} f e h = then_same o (known_after n xs) f (λ m. known_after m ys) e h ∙ sym (after_append n xs ys)

mutual
  term_after : {N : Type 0} (n : ℕ) (t : Term N) → known_after_term n t ≡ known_after n (term_places t)
  term_after n (Var x) = elim (known_after_variable n x) as (λ o. o ≡ known_then o (λ m. Some m)) [ None ↦ refl | Some m ↦ refl ]
  term_after n (Given v) = refl
  term_after n (Open s ts) = terms_after n ts

  terms_after : {N : Type 0} (n : ℕ) (ts : Terms N) → known_after_terms n ts ≡ known_after n (terms_places ts)
  terms_after n End = refl
  terms_after n (And t ts) = then_after n (term_places t) (terms_places ts) (λ m. known_after_terms m ts) (term_after n t) (λ m. terms_after m ts)

args_after : {N : Type 0} (n : ℕ) (ts : List (Term N)) → known_after_args n ts ≡ known_after n (flat_map term_places ts)
args_after n [] = refl
args_after n (t ∷ ts) = then_after n (term_places t) (flat_map term_places ts) (λ m. known_after_args m ts) (term_after n t) (λ m. args_after m ts)

heads_after : {N : Type 0} (n : ℕ) (hs : List (RuleAtom N)) → known_after_heads n hs ≡ known_after n (flat_map atom_places hs)
heads_after n [] = refl
heads_after n (h ∷ hs) = then_after n (atom_places h) (flat_map atom_places hs) (λ m. known_after_heads m hs) (args_after n h.args) (λ m. heads_after m hs)

-- ---- names that were seen have the numbers that are known

one_up : (m n : ℕ) → ltb (1 + m) (suc n) ≡ ltb m n
one_up m n = grind arith

before_end : {A : Type 0} (p : A → Bool) (xs ys : List A) → ltb (position_or_len p (xs ++ ys)) (length xs) ≡ list_any p xs
before_end p [] ys = grind arith
before_end p (x ∷ xs) ys = by (p x) (before_end p xs ys)
  where
    by : (b : Bool) → ltb (position_or_len p (xs ++ ys)) (length xs) ≡ list_any p xs → ltb (cond (not b) (1 + position_or_len p (xs ++ ys)) 0) (suc (length xs)) ≡ (b || list_any p xs)
    by true h = grind arith
    by false h = one_up (position_or_len p (xs ++ ys)) (length xs) ∙ h

-- also where more is seen after them
number_below : (m k : Seen) (x : List ℕ) → ltb (number_variable (m ++ k) x).0 (length m) ≡ is_seen m x
number_below m k x =
    let past : ltb (length (m ++ k)) (length m) ≡ false = (let e = length-append m k in grind arith) in
    rw (list_any-append (bytes_eq x) m k) (by (not (is_blank x)) (list_any (bytes_eq x) m) (list_any (bytes_eq x) k) (before_end (bytes_eq x) m k) past)
  where
    by : (named here later : Bool) → ltb (position_or_len (bytes_eq x) (m ++ k)) (length m) ≡ here → ltb (length (m ++ k)) (length m) ≡ false
        → ltb (let v : ℕ × Seen = cond (named && (here || later)) (position_or_len (bytes_eq x) (m ++ k), m ++ k) (length (m ++ k), (m ++ k) ++ x ∷ []) in v.0) (length m) ≡ (named && here)
    by false here later h past = past
    by true true later h past = h
    by true false true h past = h
    by true false false h past = past

number_stays : (m k : Seen) (x : List ℕ) → is_seen m x ≡ true → (number_variable (m ++ k) x).1 ≡ m ++ k
number_stays m k x h =
    let p = both (not (is_blank x)) (list_any (bytes_eq x) m) h in
    rw (list_any-append (bytes_eq x) m k, p.0, p.1) refl

numbers_below : (m k : Seen) (names : List (List ℕ)) → are_below (length m) (numbers_from (m ++ k) names) ≡ are_seen m names
numbers_below m k [] = refl
numbers_below m k (x ∷ xs) = by (is_seen m x) refl (numbers_below m k xs)
  where
    by : (b : Bool) → is_seen m x ≡ b → are_below (length m) (numbers_from (m ++ k) xs) ≡ are_seen m xs
        → (ltb (number_variable (m ++ k) x).0 (length m) && are_below (length m) (numbers_from (number_variable (m ++ k) x).1 xs)) ≡ (b && are_seen m xs)
    by true e h = rw (number_below m k x, e, number_stays m k x e) h
    by false e h = rw (number_below m k x, e) refl

still_below : (m : Seen) (names : List (List ℕ)) → are_below (length m) (numbers_from m names) ≡ are_seen m names
still_below m names = rw append-nil at (numbers_below m [] names)

itself : (n : ℕ) → (ltb n n ≡ false) × (eqb n n ≡ true)
itself n = (grind arith, grind arith)

one_more : (m : Seen) (x : List ℕ) → suc (length m) ≡ length (m ++ x ∷ [])
one_more m x = omega (arith, length-append m (x ∷ []))

-- what was seen has a number below that of a new one
seen_place : (m : Seen) (x : List ℕ) → is_seen m x ≡ true → position_or_len (bytes_eq x) m < length m
seen_place m x h = ltb-true _ _ (rw append-nil at (before_end (bytes_eq x) m []) ∙ (both (not (is_blank x)) (list_any (bytes_eq x) m) h).1)

-- each name in turn is known, or a new one with the next number
numbers_after : (m : Seen) (names : List (List ℕ)) → known_after (length m) (numbers_from m names) ≡ Some (length (seen_from m names))
numbers_after m [] = refl
numbers_after m (x ∷ xs) = by (is_seen m x) refl (numbers_after m xs) (numbers_after (m ++ x ∷ []) xs)
  where
    by : (b : Bool) → is_seen m x ≡ b → known_after (length m) (numbers_from m xs) ≡ Some (length (seen_from m xs))
        → known_after (length (m ++ x ∷ [])) (numbers_from (m ++ x ∷ []) xs) ≡ Some (length (seen_from (m ++ x ∷ []) xs)) → known_after (length m) (numbers_from m (x ∷ xs)) ≡ Some (length (seen_from m (x ∷ xs)))
    by true e h k = rw (e, lt-ltb _ _ (seen_place m x e)) h
    by false e h k = rw (e, (itself (length m)).0, (itself (length m)).1, one_more m x) k

-- ---- a rule

-- an expression behind `x is` is known where its names were seen before x
value_known : (m : Seen) (x : List ℕ) (e : parsed.ParsedExpression) → expression_known (length m) (expression (m ++ x ∷ []) e).0 ≡ are_seen m (formula_variables e)
value_known m x e =
    expression_below (length m) (expression (m ++ x ∷ []) e).0 ∙ ap (are_below (length m)) (expression_numbered (m ++ x ∷ []) e) ∙ numbers_below m (x ∷ []) (formula_variables e)

value_met : (m : Seen) (x : List ℕ) (e : parsed.ParsedExpression) → are_seen m (formula_variables e) ≡ true → (expression (m ++ x ∷ []) e).1 ≡ m ++ x ∷ []
value_met m x e h = expression_meets (m ++ x ∷ []) e ∙ met_from_seen (m ++ x ∷ []) (formula_variables e) (still_all_seen m x (formula_variables e) h)

added_known : (m : Seen) (p : parsed.ParsedAtom) → AtomNests p → list_all (argument_known (length m)) (rule_atom m p).0.args ≡ are_seen m (phrase_variables p)
added_known m p nested =
    all_below (length m) (argument_known (length m)) term_places (argument_below (length m)) (rule_atom m p).0.args ∙ ap (are_below (length m)) (atom_numbered m p nested) ∙ still_below m (phrase_variables p)

abbrev Counted : Seen → List parsed.BodyMember → Type 0
Counted m ms = known_after_body (length m) (somes (in_turn member m ms).0) ≡ cond (body_in_scope m ms) (Some (length (in_turn member m ms).1)) None

body_counted : (m : Seen) (ms : List parsed.BodyMember) → AllByRecursion MemberNests ms → Counted m ms
body_counted m [] nested = refl
body_counted m (parsed.Nothing ∷ ms) nested = body_counted m ms nested.1
body_counted m (parsed.Is x e ∷ ms) nested = by (is_seen m x) (are_seen m (formula_variables e)) refl refl (body_counted (m ++ x ∷ []) ms nested.1)
  where
    by : (b c : Bool) → is_seen m x ≡ b → are_seen m (formula_variables e) ≡ c → Counted (m ++ x ∷ []) ms → Counted m (parsed.Is x e ∷ ms)
    by true c hb hc h = let lt = seen_place m x hb in let old : eqb (position_or_len (bytes_eq x) m) (length m) ≡ false = grind arith in rw (hb, old) refl
    by false false hb hc h = rw (hb, (itself (length m)).1, value_known m x e, hc) refl
    by false true hb hc h = rw (hb, (itself (length m)).1, value_known m x e, hc, value_met m x e hc, one_more m x) h
body_counted m (parsed.Add p ∷ ms) nested = by (are_seen m (phrase_variables p)) refl (body_counted m ms nested.1)
  where
    by : (b : Bool) → are_seen m (phrase_variables p) ≡ b → Counted m ms → Counted m (parsed.Add p ∷ ms)
    by true is h = rw (added_known m p nested.0, is, shape_meets m p, met_from_seen m (phrase_variables p) is) h
    by false is h = rw (added_known m p nested.0, is) refl

heads_counted : (r : parsed.ParsedRule) → RuleNests r → known_after_heads 0 ((rule r).kept ++ (rule r).removed) ≡ Some (length (after_heads r))
heads_counted r nested =
    heads_after 0 ((rule r).kept ++ (rule r).removed) ∙ ap (known_after 0) (flat_map-append atom_places (rule r).kept (rule r).removed ∙ heads_numbered r nested)
    ∙ numbers_after [] (head_variables r) ∙ ap (λ l. Some (length l)) (sym (heads_meet r))

-- how many variables the rule has by their numbers, where it is in scope
rule_counted : (r : parsed.ParsedRule) → RuleNests r → variable_count ((rule r).kept ++ (rule r).removed) (rule r).guard (rule r).body ≡ cond (is_in_scope r) (Some (rule r).variables) None
rule_counted r nested = rw (heads_counted r nested, ← heads_meet r, guard) (by (are_seen m (flat_map test_variables r.guard)) refl)
  where
    m : Seen
    m = after_heads r

    guard : list_all (test_known (length m)) (rule r).guard ≡ are_seen m (flat_map test_variables r.guard)
    guard =
        all_below (length m) (test_known (length m)) comparison_places (test_below (length m)) (rule r).guard ∙ ap (are_below (length m)) (tests_numbered m r.guard nested.guard)
        ∙ still_below m (flat_map test_variables r.guard)

    by : (b : Bool) → are_seen m (flat_map test_variables r.guard) ≡ b
        → cond b (known_after_body (length m) (rule r).body) None ≡ cond (b && body_in_scope m r.body) (Some (length (after_body r))) None
    by true is =
        let same : after_guard r ≡ m = turn_meets test test_variables test_meets m r.guard ∙ met_from_seen m (flat_map test_variables r.guard) is in
        subst (λ l. known_after_body (length m) (somes (in_turn member l r.body).0) ≡ cond (body_in_scope m r.body) (Some (length (in_turn member l r.body).1)) None) (sym same) (body_counted m r.body nested.body)
    by false is = refl

pub rule_known : (r : parsed.ParsedRule) → RuleNests r → is_in_scope r ≡ true → variable_count ((rule r).kept ++ (rule r).removed) (rule r).guard (rule r).body ≡ Some (rule r).variables
rule_known r nested h = rule_counted r nested ∙ rw h refl

pub scope_counted : (r : parsed.ParsedRule) → IsParsedRule r → (is_in_scope r ≡ true) ↔ (variable_count ((rule r).kept ++ (rule r).removed) (rule r).guard (rule r).body ≡ Some (rule r).variables)
scope_counted r is = let nested = rule_nests r is in (rule_known r nested, λ h. by (is_in_scope r) (sym (rule_counted r nested) ∙ h))
  where
    by : (b : Bool) → cond b (Some (rule r).variables) None ≡ Some (rule r).variables → b ≡ true
    by true h = refl
    by false h = absurd cc
