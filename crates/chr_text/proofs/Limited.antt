-- Words in text order as they nest, the terms that they make, and how deep and large these are.
use Rattle.std.proofs.Common.{◌≡◌, ◌<◌, ◌≤◌, ℕ, suc, Bool, true, false, cond, ltb, List, [], ◌∷◌, ◌++◌, append_assoc, refl, sym, ap, ◌∙◌, arith, ◌+◌, max, eqb, leb, ◌||◌, length, length-append, filter, ap₂}
use Rattle.std.specs.List.{AllByRecursion, list_any, take_while}
use Rattle.std.proofs.lemmas.Bool.{ltb-true, ltb-false, leb-false}
use Rattle.std.proofs.lemmas.List.{append-nil}
use Rattle.chr_value.specs.Atoms.{Int, Sym, Comp, args_of, Value, Args, Nil, Cons}
use Rattle.chr_rule.specs.Rules.{Term, Var, Given, Open, terms_of, Terms, End, And}
use Rattle.chr_rule.specs.Terms.{is_open, has_variable, have_variable, terms_count, IsCanonical, AreCanonical, term_depth, terms_depth, term_size, terms_size, IsTerm}
use Rattle.chr_lex.specs.Tokens.{Word}
use Rattle.chr_lex.specs.Tokens as words
use Rattle.chr_grammar.specs.Parsed as parsed
use Rattle.chr_grammar.specs.Parsed.{TermNode, ParsedTerm, ParsedAtom, GuardMember, BodyMember, ParsedRule, is_name}
use Rattle.chr_grammar.specs.Spelling.{AreNodes, IsParsedTerm, IsParsedAtom, IsGuardMember, IsBodyMember, IsParsedRule}
use Rattle.chr_text.specs.Fitting.{TermPlain, PhrasePlain, TestOf, MemberOf, RuleOf, TestPlain, MemberPlain, RulePlain}
use Rattle.chr_text.specs.Terms.{Placed, inside, behind, values, with_args, terms_of_words, term_of_words, value_words, args_words, words_of, terms_words}
use Rattle.chr_text.specs.Translation.{word_term, placed_word, argument}
use Rattle.chr_text.specs.Variables.{Seen, in_turn}
use Rattle.chr_text.proofs.Lists.{each_so, each_split, turns_count}
use Rattle.std.proofs.lemmas.List.Sums.{take_while-cons}
use Rattle.chr_value.specs.Limits.{depth, args_depth, size, args_size}
use Rattle.chr_limits.specs.Limits.{is_deep, arguments_behind, has_wide_functor, is_large_term}
use Rattle.chr_value.proofs.Texts.{neither}

-- ---- words behind words

-- a word: a variable, a number or a name
abbrev pub IsWord : {N : Type 0} → Term N → Type 0
IsWord (Var x) = Unit {0}
IsWord (Given (Int z)) = Unit {0}
IsWord (Given (Sym s)) = Unit {0}
IsWord (Given (Comp s vs)) = ⊥
IsWord (Open s ts) = ⊥

-- only a name can be a functor
abbrev pub can_open : {N : Type 0} → Term N → Bool
can_open (Given (Sym s)) = true
can_open _ = false

-- A word behind another stands in one parenthesis more at most, and in more only behind a name.
pub record Follows {N : Type 0} (w v : Placed N) : Type 0 where
  pub word : IsWord v.1
  pub inside : 0 < v.0
  pub stepwise : v.0 ≤ suc w.0
  pub functor : w.0 < v.0 → can_open w.1 ≡ true

abbrev pub AreBehind : {N : Type 0} → Placed N → List (Placed N) → Type 0
AreBehind w [] = Unit {0}
AreBehind w (v ∷ vs) = Follows w v × AreBehind v vs

-- the words of a term
abbrev pub AreWords : {N : Type 0} → List (Placed N) → Type 0
AreWords [] = ⊥
AreWords (w ∷ ws) = IsWord w.1 × (w.0 ≡ 0) × AreBehind w ws

-- ---- terms one behind another stand in fewer and fewer parentheses

-- each in as many parentheses as the one before it at most, and the first in n at most
abbrev pub Falls : {N : Type 0} → ℕ → List (Placed N) → Type 0
Falls n [] = Unit {0}
Falls n (t ∷ ts) = (t.0 ≤ n) × Falls t.0 ts

-- the terms at the front are inside, or the first of them isn't
pub front_elim : {N : Type 0} (P : List (Term N) → List (Placed N) → Type 0) (d : ℕ) (t : Placed N) (ts : List (Placed N)) → (d < t.0 → P (t.1 ∷ inside d ts) (behind d ts)) → (t.0 ≤ d → P [] (t ∷ ts)) → P (inside d (t ∷ ts)) (behind d (t ∷ ts))
front_elim P d t ts deeper not = by (ltb d t.0) refl
  where
    by : (b : Bool) → ltb d t.0 ≡ b → P (cond b (t.1 ∷ inside d ts) []) (cond b (behind d ts) (t ∷ ts))
    by true is = deeper (ltb-true d t.0 is)
    by false is = not (ltb-false d t.0 is)

-- those behind the terms inside
pub fall_behind : {N : Type 0} (d n : ℕ) (ts : List (Placed N)) → Falls n ts → Falls d (behind d ts)
fall_behind d n [] all = tt
fall_behind d n (t ∷ ts) all = front_elim (λ us vs. Falls d vs) d t ts (λ lt. fall_behind d t.0 ts all.1) (λ le. (le, all.1))

pub terms_fall : {N : Type 0} (w : Placed N) (ws : List (Placed N)) → AreBehind w ws → Falls (suc w.0) (terms_of_words ws)
terms_fall w [] all = tt
terms_fall w (v ∷ ws) all = (all.0.stepwise, fall_behind v.0 (suc v.0) (terms_of_words ws) (terms_fall v ws all.1))

pub falls_up : {N : Type 0} (m n : ℕ) (ts : List (Placed N)) → m ≤ n → Falls m ts → Falls n ts
falls_up m n [] le all = tt
falls_up m n (t ∷ ts) le all = let h = all.0 in (omega (arith, h, le), all.1)

pub all_behind : {N : Type 0} (P : Placed N → Type 0) (d : ℕ) (ts : List (Placed N)) → AllByRecursion P ts → AllByRecursion P (behind d ts)
all_behind P d [] all = tt
all_behind P d (t ∷ ts) all = front_elim (λ us vs. AllByRecursion P vs) d t ts (λ lt. all_behind P d ts all.1) (λ le. all)

-- ---- the words of terms

-- the words of terms, one term after another
abbrev pub all_words : {N : Type 0} → List (Placed N) → List (Placed N)
all_words [] = []
all_words (t ∷ ts) = words_of t.0 t.1 ++ all_words ts

inside_words : {N : Type 0} (d : ℕ) (ts : List (Placed N)) → Falls (suc d) ts → terms_words (suc d) (terms_of (inside d ts)) ++ all_words (behind d ts) ≡ all_words ts
inside_words d [] all = refl
inside_words d (t ∷ ts) all =
    front_elim (λ us vs. terms_words (suc d) (terms_of us) ++ all_words vs ≡ all_words (t ∷ ts)) d t ts (deeper (inside_words d ts (falls_up t.0 (suc d) ts all.0 all.1))) (λ le. refl)
  where
    deeper : terms_words (suc d) (terms_of (inside d ts)) ++ all_words (behind d ts) ≡ all_words ts → d < t.0 → terms_words (suc d) (terms_of (t.1 ∷ inside d ts)) ++ all_words (behind d ts) ≡ all_words (t ∷ ts)
    deeper rest lt =
        let le = all.0 in
        let e : t.0 ≡ suc d = omega (arith, le, lt) in
        append_assoc (words_of (suc d) t.1) (terms_words (suc d) (terms_of (inside d ts))) (all_words (behind d ts)) ∙ ap (λ l. words_of (suc d) t.1 ++ l) rest ∙ ap (λ (k : ℕ). words_of k t.1 ++ all_words ts) (sym e)

values_words : {N : Type 0} (d : ℕ) (ts : List (Term N)) → list_any is_open ts ≡ false → args_words d (args_of (values ts)) ≡ terms_words d (terms_of ts)
values_words d [] none = refl
values_words d (Given v ∷ ts) none = ap (λ l. value_words d v ++ l) (values_words d ts none)
values_words d (_ ∷ ts) none = absurd cc

functor_words : {N : Type 0} (d : ℕ) (s : N) (ts : List (Term N)) (b : Bool) → list_any is_open ts ≡ b
    → words_of d (cond b (Open s (terms_of ts)) (Given (Comp s (args_of (values ts))))) ≡ (d, Given (Sym s)) ∷ terms_words (suc d) (terms_of ts)
functor_words d s ts true is = refl
functor_words d s ts false is = ap (λ l. (d, Given (Sym s)) ∷ l) (values_words (suc d) ts is)

word_words : {N : Type 0} (d : ℕ) (w : Term N) (ts : List (Term N)) → IsWord w → (can_open w ≡ false → ts ≡ []) → words_of d (with_args w ts) ≡ (d, w) ∷ terms_words (suc d) (terms_of ts)
word_words d (Var x) ts word shut = let e = shut refl in rw e refl
word_words d (Given (Int z)) ts word shut = let e = shut refl in rw e refl
word_words d (Given (Sym s)) [] word shut = refl
word_words d (Given (Sym s)) (t ∷ ts) word shut = functor_words d s (t ∷ ts) (list_any is_open (t ∷ ts)) refl
word_words d (Given (Comp s vs)) ts word shut = absurd word
word_words d (Open s us) ts word shut = absurd word

-- no term is inside a word that can't be a functor
pub none_inside : {N : Type 0} (w : Placed N) (ws : List (Placed N)) → AreBehind w ws → can_open w.1 ≡ false → inside w.0 (terms_of_words ws) ≡ []
none_inside w [] all shut = refl
none_inside w (v ∷ ws) all shut =
    front_elim (λ us vs. us ≡ []) w.0 (v.0, with_args v.1 (inside v.0 (terms_of_words ws))) (behind v.0 (terms_of_words ws)) (λ lt. let open_word = all.0.functor lt in absurd cc) (λ le. refl)

word_again : {N : Type 0} (w : Placed N) (ws : List (Placed N)) → IsWord w.1 → AreBehind w ws → all_words (terms_of_words ws) ≡ ws → all_words (terms_of_words (w ∷ ws)) ≡ w ∷ ws
word_again w ws word all rest =
    ap (λ l. l ++ all_words (behind w.0 (terms_of_words ws))) (word_words w.0 w.1 (inside w.0 (terms_of_words ws)) word (none_inside w ws all))
    ∙ ap (λ l. w ∷ l) (inside_words w.0 (terms_of_words ws) (terms_fall w ws all) ∙ rest)

words_again : {N : Type 0} (w : Placed N) (ws : List (Placed N)) → AreBehind w ws → all_words (terms_of_words ws) ≡ ws
words_again w [] all = refl
words_again w (v ∷ ws) all = word_again v ws all.0.word all.1 (words_again v ws all.1)

-- ---- a term

all_deeper : {N : Type 0} (w : Placed N) (ws : List (Placed N)) → AreBehind w ws → AllByRecursion (λ t. 0 < t.0) (terms_of_words ws)
all_deeper w [] all = tt
all_deeper w (v ∷ ws) all = (all.0.inside, all_behind (λ t. 0 < t.0) v.0 (terms_of_words ws) (all_deeper v ws all.1))

-- nothing is behind the terms inside a term
none_left : {N : Type 0} (ts : List (Placed N)) → AllByRecursion (λ t. 0 < t.0) ts → behind 0 ts ≡ []
none_left [] all = refl
none_left (t ∷ ts) all = let lt = all.0 in front_elim (λ us vs. vs ≡ []) 0 t ts (λ more. none_left ts all.1) (λ le. absurd (omega (arith, lt, le)))

pub none_behind : {N : Type 0} (w : Placed N) (ws : List (Placed N)) → AreBehind w ws → behind 0 (terms_of_words ws) ≡ []
none_behind w ws all = none_left (terms_of_words ws) (all_deeper w ws all)

pub term_again : {N : Type 0} (ws : List (Placed N)) → AreWords ws → words_of 0 (term_of_words ws) ≡ ws
term_again [] all = absurd all
term_again (w ∷ ws) all =
    let top = all.1 in
    let one : terms_of_words (w ∷ ws) ≡ (0, term_of_words (w ∷ ws)) ∷ [] = rw (top, none_behind w ws all.2) refl in
    sym (append-nil (words_of 0 (term_of_words (w ∷ ws)))) ∙ sym (ap all_words one) ∙ word_again w ws all.0 all.2 (words_again w ws all.2)

-- ---- words as they are written

is_word : (seen : Seen) (w : Word) → IsWord (word_term seen w).0
is_word seen (words.Variable x) = tt
is_word seen _ = tt

opens : (seen : Seen) (w : Word) → can_open (word_term seen w).0 ≡ is_name w
opens seen (words.Variable x) = refl
opens seen _ = refl

nodes_behind : (seen : Seen) (before : Seen) (n : TermNode) (ns : List TermNode) → AreNodes n ns → AreBehind (placed_word before n).0 (in_turn placed_word seen ns).0
nodes_behind seen before n [] all = tt
nodes_behind seen before n (m ∷ ns) all =
    let follows = all.0 in (
      record { word = is_word seen m.word; inside = follows.inside; stepwise = follows.stepwise; functor = λ lt. opens before n.word ∙ follows.functor lt },
      nodes_behind (placed_word seen m).1 seen m ns all.1,
    )

pub nodes_words : (seen : Seen) (ns : ParsedTerm) → IsParsedTerm ns → AreWords (in_turn placed_word seen ns).0
nodes_words seen [] all = absurd all
nodes_words seen (n ∷ ns) all = (is_word seen n.word, all.0, nodes_behind (placed_word seen n).1 seen n ns all.1)

pub term_words : (seen : Seen) (t : ParsedTerm) → IsParsedTerm t → words_of 0 (argument seen t).0 ≡ (in_turn placed_word seen t).0
term_words seen t is = term_again (in_turn placed_word seen t).0 (nodes_words seen t is)

-- ---- terms of a rule

abbrev pub AtomNests : ParsedAtom → Type 0
AtomNests p = AllByRecursion IsParsedTerm p.args

abbrev pub TestNests : GuardMember → Type 0
TestNests t = TestOf IsParsedTerm t

abbrev pub MemberNests : BodyMember → Type 0
MemberNests m = MemberOf AtomNests m

-- each term of a rule is one by the grammar
abbrev pub RuleNests : ParsedRule → Type 0
RuleNests r = RuleOf IsParsedTerm AtomNests r

test_nests : (t : GuardMember) → IsGuardMember t → TestNests t
test_nests (parsed.Same t u) is = is
test_nests (parsed.Differ t u) is = is
test_nests _ is = tt

member_nests : (m : BodyMember) → IsBodyMember m → MemberNests m
member_nests (parsed.Add p) is = is.terms
member_nests _ is = tt

pub rule_nests : (r : ParsedRule) → IsParsedRule r → RuleNests r
rule_nests r is = record {
  kept = each_so IsParsedAtom AtomNests (λ p h. h.terms) r.kept is.kept;
  removed = each_so IsParsedAtom AtomNests (λ p h. h.terms) r.removed is.removed;
  guard = each_so IsGuardMember TestNests test_nests r.guard is.guard;
  body = each_so IsBodyMember MemberNests member_nests r.body is.body;
}

phrase_nests : (p : ParsedAtom) → PhrasePlain p → AtomNests p
phrase_nests p plain = each_so TermPlain IsParsedTerm (λ t h. h.0) p.args plain.1

plain_test_nests : (t : GuardMember) → TestPlain t → TestNests t
plain_test_nests (parsed.Same t u) plain = (plain.0.0, plain.1.0)
plain_test_nests (parsed.Differ t u) plain = (plain.0.0, plain.1.0)
plain_test_nests _ plain = tt

plain_member_nests : (m : BodyMember) → MemberPlain m → MemberNests m
plain_member_nests (parsed.Add p) plain = phrase_nests p plain
plain_member_nests _ plain = tt

pub plain_nests : (r : ParsedRule) → RulePlain r → RuleNests r
plain_nests r plain = record {
  kept = each_so PhrasePlain AtomNests phrase_nests r.kept plain.kept;
  removed = each_so PhrasePlain AtomNests phrase_nests r.removed plain.removed;
  guard = each_so TestPlain TestNests plain_test_nests r.guard plain.guard;
  body = each_so MemberPlain MemberNests plain_member_nests r.body plain.body;
}

-- ---- the size is the number of words, and the depth that of the word that stands deepest

-- each word stands in fewer parentheses
abbrev AreBelow : {N : Type 0} → ℕ → List (Placed N) → Type 0
AreBelow n ws = AllByRecursion (λ w. w.0 < n) ws

-- so large and so deep are words that begin in d parentheses
abbrev Measures : {N : Type 0} → ℕ → ℕ → List (Placed N) → ℕ → ℕ → Type 0
Measures n d ws large deep = (length ws ≡ large) × (d ≤ n → AreBelow n ws → d + deep ≤ n)

both_measured : {N : Type 0} (n d : ℕ) (xs ys : List (Placed N)) (k m : ℕ) {a b : ℕ} → Measures n d xs a k → Measures n d ys b m → Measures n d (xs ++ ys) (a + b) (max k m)
both_measured n d xs ys k m first second =
    (length-append xs ys ∙ ap₂ (λ (a b : ℕ). a + b) first.0 second.0, λ le all. let parts = each_split (λ (w : Placed _). w.0 < n) xs ys all in by (first.1 le parts.0) (second.1 le parts.1))
  where
    by : d + k ≤ n → d + m ≤ n → d + max k m ≤ n
    by h i = grind arith

-- a functor, and the words of its arguments
functor_measured : {N : Type 0} (n d : ℕ) (t : Term N) (ws : List (Placed N)) (k : ℕ) {a : ℕ} → Measures n (suc d) ws a k → Measures n d ((d, t) ∷ ws) (suc a) (suc k)
functor_measured n d t ws k args = (ap suc args.0, λ le all. let lt = all.0 in let rest = args.1 (omega (arith, lt)) all.1 in omega (arith, rest))

one_measured : {N : Type 0} (n d : ℕ) (t : Term N) → Measures n d ((d, t) ∷ []) 1 1
one_measured n d t = (refl, λ le all. let lt = all.0 in omega (arith, lt))

mutual
  value_measured : {N : Type 0} (n d : ℕ) (v : Value N) → Measures n d (value_words d v) (size v) (depth v)
  value_measured {N} n d (Int z) = one_measured {N = N} n d (Given (Int z))
  value_measured {N} n d (Sym s) = one_measured {N = N} n d (Given (Sym s))
  value_measured {N} n d (Comp s vs) = functor_measured {N = N} n d (Given (Sym s)) (args_words (suc d) vs) (args_depth vs) (args_measured n (suc d) vs)

  args_measured : {N : Type 0} (n d : ℕ) (vs : Args N) → Measures n d (args_words d vs) (args_size vs) (args_depth vs)
  args_measured n d Nil = (refl, λ le all. omega (arith, le))
  args_measured n d (Cons v vs) = both_measured n d (value_words d v) (args_words d vs) (depth v) (args_depth vs) (value_measured n d v) (args_measured n d vs)

mutual
  term_measured : {N : Type 0} (n d : ℕ) (t : Term N) → Measures n d (words_of d t) (term_size t) (term_depth t)
  term_measured {N} n d (Var x) = one_measured {N = N} n d (Var x)
  term_measured n d (Given v) = value_measured n d v
  term_measured {N} n d (Open s ts) = functor_measured {N = N} n d (Given (Sym s)) (terms_words (suc d) ts) (terms_depth ts) (terms_measured n (suc d) ts)

  terms_measured : {N : Type 0} (n d : ℕ) (ts : Terms N) → Measures n d (terms_words d ts) (terms_size ts) (terms_depth ts)
  terms_measured n d End = (refl, λ le all. omega (arith, le))
  terms_measured n d (And t ts) = both_measured n d (words_of d t) (terms_words d ts) (term_depth t) (terms_depth ts) (term_measured n d t) (terms_measured n d ts)

nodes_below : (seen : Seen) (ns : List TermNode) → is_deep ns ≡ false → AreBelow 8 (in_turn placed_word seen ns).0
nodes_below seen [] h = tt
nodes_below seen (n ∷ ns) h =
    let parts = neither (leb 8 n.depth) (is_deep ns) h in
    (leb-false 8 n.depth parts.0, nodes_below (placed_word seen n).1 ns parts.1)

-- ---- how many arguments a functor has

-- how many stand in one parenthesis more than d, up to the first that isn't deeper
abbrev one_deeper : {N : Type 0} → ℕ → List (Placed N) → ℕ
one_deeper d [] = 0
one_deeper d (t ∷ ts) = cond (ltb d t.0) (cond (eqb t.0 (suc d)) (suc (one_deeper d ts)) (one_deeper d ts)) 0

-- those in more than k parentheses don't count
dropped : {N : Type 0} (d k : ℕ) (ts : List (Placed N)) → d < k → one_deeper d (behind k ts) ≡ one_deeper d ts
dropped d k [] lt = refl
dropped d k (t ∷ ts) lt = front_elim (λ us vs. one_deeper d vs ≡ one_deeper d (t ∷ ts)) k t ts (deeper (dropped d k ts lt)) (λ le. refl)
  where
    deeper : one_deeper d (behind k ts) ≡ one_deeper d ts → k < t.0 → one_deeper d (behind k ts) ≡ one_deeper d (t ∷ ts)
    deeper rest more =
        let deep : ltb d t.0 ≡ true = grind arith in
        let other : eqb t.0 (suc d) ≡ false = grind arith in
        rest ∙ rw (deep, other) refl

words_deeper : {N : Type 0} (d : ℕ) (ws : List (Placed N)) → one_deeper d (terms_of_words ws) ≡ one_deeper d ws
words_deeper d [] = refl
words_deeper d (w ∷ ws) = by (ltb d w.0) refl (words_deeper d ws)
  where
    by : (b : Bool) → ltb d w.0 ≡ b → one_deeper d (terms_of_words ws) ≡ one_deeper d ws
        → cond b (cond (eqb w.0 (suc d)) (suc (one_deeper d (behind w.0 (terms_of_words ws)))) (one_deeper d (behind w.0 (terms_of_words ws)))) 0 ≡ cond b (cond (eqb w.0 (suc d)) (suc (one_deeper d ws)) (one_deeper d ws)) 0
    by true is rest = ap (λ (k : ℕ). cond (eqb w.0 (suc d)) (suc k) k) (dropped d w.0 (terms_of_words ws) (ltb-true d w.0 is) ∙ rest)
    by false is rest = refl

inside_count : {N : Type 0} (d : ℕ) (ts : List (Placed N)) → Falls (suc d) ts → length (inside d ts) ≡ one_deeper d ts
inside_count d [] all = refl
inside_count d (t ∷ ts) all = front_elim (λ us vs. length us ≡ one_deeper d (t ∷ ts)) d t ts (deeper (inside_count d ts (falls_up t.0 (suc d) ts all.0 all.1))) not
  where
    deeper : length (inside d ts) ≡ one_deeper d ts → d < t.0 → suc (length (inside d ts)) ≡ one_deeper d (t ∷ ts)
    deeper rest lt =
        let le = all.0 in
        let deep : ltb d t.0 ≡ true = grind arith in
        let same : eqb t.0 (suc d) ≡ true = grind arith in
        rw (deep, same) (ap suc rest)

    not : t.0 ≤ d → 0 ≡ one_deeper d (t ∷ ts)
    not le = let shut : ltb d t.0 ≡ false = grind arith in rw shut refl

counted_one : (b : Bool) (n : TermNode) (ns : List TermNode) (k : ℕ) → length ns ≡ k → length (cond b (n ∷ ns) ns) ≡ cond b (suc k) k
counted_one true n ns k h = ap suc h
counted_one false n ns k h = h

nodes_deeper : (seen : Seen) (d : ℕ) (ns : List TermNode) → arguments_behind d ns ≡ one_deeper d (in_turn placed_word seen ns).0
nodes_deeper seen d [] = refl
nodes_deeper seen d (n ∷ ns) =
    ap (λ ms. length (filter (λ m. eqb m.depth (suc d)) ms)) (take_while-cons (λ m. ltb d m.depth) n ns) ∙ by (one_deeper d (in_turn placed_word (placed_word seen n).1 ns).0) (ltb d n.depth) (nodes_deeper (placed_word seen n).1 d ns)
  where
    by : (k : ℕ) (a : Bool) → arguments_behind d ns ≡ k → length (filter (λ m. eqb m.depth (suc d)) (cond a (n ∷ take_while (λ m. ltb d m.depth) ns) [])) ≡ cond a (cond (eqb n.depth (suc d)) (suc k) k) 0
    by k true rest = counted_one (eqb n.depth (suc d)) n (filter (λ m. eqb m.depth (suc d)) (take_while (λ m. ltb d m.depth) ns)) k rest
    by k false rest = refl

-- no word has more than 8 arguments
abbrev pub AreNarrow : {N : Type 0} → List (Placed N) → Type 0
AreNarrow [] = Unit {0}
AreNarrow (w ∷ ws) = (one_deeper w.0 ws ≤ 8) × AreNarrow ws

pub nodes_narrow : (seen : Seen) (ns : List TermNode) → has_wide_functor ns ≡ false → AreNarrow (in_turn placed_word seen ns).0
nodes_narrow seen [] h = tt
nodes_narrow seen (n ∷ ns) h =
    let parts = neither (ltb 8 (arguments_behind n.depth ns)) (has_wide_functor ns) h in
    let e = nodes_deeper (placed_word seen n).1 n.depth ns in
    (rw (← e) (ltb-false 8 (arguments_behind n.depth ns) parts.0), nodes_narrow (placed_word seen n).1 ns parts.1)

-- ---- what holds of a word with its arguments holds of a term

abbrev pub Holds : {N : Type 0} → (Term N → Type 0) → (Term N → Type 0) → Type 0
Holds {N} P Q = (w : Term N) (ts : List (Term N)) → IsWord w → Q w → AllByRecursion P ts → length ts ≤ 8 → (can_open w ≡ false → ts ≡ []) → P (with_args w ts)

all_inside : {N : Type 0} (P : Term N → Type 0) (d : ℕ) (ts : List (Placed N)) → AllByRecursion (λ t. P t.1) ts → AllByRecursion P (inside d ts)
all_inside P d [] all = tt
all_inside P d (t ∷ ts) all = front_elim (λ us vs. AllByRecursion P us) d t ts (λ lt. (all.0, all_inside P d ts all.1)) (λ le. tt)

pub few_inside : {N : Type 0} (w : Placed N) (ws : List (Placed N)) → AreBehind w ws → one_deeper w.0 ws ≤ 8 → length (inside w.0 (terms_of_words ws)) ≤ 8
few_inside w ws all few = let e = inside_count w.0 (terms_of_words ws) (terms_fall w ws all) ∙ words_deeper w.0 ws in rw e few

terms_all : {N : Type 0} (P Q : Term N → Type 0) → Holds P Q → (w : Placed N) (ws : List (Placed N)) → AreBehind w ws → AreNarrow ws → AllByRecursion (λ v. Q v.1) ws → AllByRecursion (λ t. P t.1) (terms_of_words ws)
terms_all P Q h w [] all narrow fits = tt
terms_all P Q h w (v ∷ ws) all narrow fits =
    let rest = terms_all P Q h v ws all.1 narrow.1 fits.1 in
    (h v.1 (inside v.0 (terms_of_words ws)) all.0.word fits.0 (all_inside P v.0 (terms_of_words ws) rest) (few_inside v ws all.1 narrow.0) (none_inside v ws all.1), all_behind (λ t. P t.1) v.0 (terms_of_words ws) rest)

pub term_all : {N : Type 0} (P Q : Term N → Type 0) → Holds P Q → (ws : List (Placed N)) → AreWords ws → AreNarrow ws → AllByRecursion (λ v. Q v.1) ws → P (term_of_words ws)
term_all P Q h [] all narrow fits = absurd all
term_all P Q h (w ∷ ws) all narrow fits =
    h w.1 (inside w.0 (terms_of_words ws)) all.0 fits.0 (all_inside P w.0 (terms_of_words ws) (terms_all P Q h w ws all.2 narrow.1 fits.1)) (few_inside w ws all.2 narrow.0) (none_inside w ws all.2)

-- ---- a term is canonical

pub count_terms : {N : Type 0} (ts : List (Term N)) → terms_count (terms_of ts) ≡ length ts
count_terms [] = refl
count_terms (t ∷ ts) = ap suc (count_terms ts)

canonical_all : {N : Type 0} (ts : List (Term N)) → AllByRecursion IsCanonical ts → AreCanonical (terms_of ts)
canonical_all [] all = tt
canonical_all (t ∷ ts) all = (all.0, canonical_all ts all.1)

variable_where_open : {N : Type 0} (t : Term N) → IsCanonical t → has_variable t ≡ is_open t
variable_where_open (Open s ts) h = h.1
variable_where_open _ h = refl

variables_where_open : {N : Type 0} (ts : List (Term N)) → AllByRecursion IsCanonical ts → have_variable (terms_of ts) ≡ list_any is_open ts
variables_where_open [] h = refl
variables_where_open (t ∷ ts) h = ap₂ (λ (a b : Bool). a || b) (variable_where_open t h.0) (variables_where_open ts h.1)

functor_canonical : {N : Type 0} (s : N) (ts : List (Term N)) (b : Bool) → list_any is_open ts ≡ b → AllByRecursion IsCanonical ts → length ts ≤ 8 → IsCanonical (cond b (Open s (terms_of ts)) (Given (Comp s (args_of (values ts)))))
functor_canonical s ts true is all few = let n = count_terms ts in (rw n few, variables_where_open ts all ∙ is, canonical_all ts all)
functor_canonical s ts false is all few = tt

abbrev Whatever : {N : Type 0} → Term N → Type 0
Whatever t = Unit {0}

anything : {N : Type 0} (ws : List (Placed N)) → AllByRecursion (λ v. Whatever v.1) ws
anything [] = tt
anything (w ∷ ws) = (tt, anything ws)

word_canonical : {N : Type 0} (w : Term N) (ts : List (Term N)) → IsWord w → Whatever w → AllByRecursion IsCanonical ts → length ts ≤ 8 → (can_open w ≡ false → ts ≡ []) → IsCanonical (with_args w ts)
word_canonical (Given (Sym s)) (t ∷ ts) word q all few shut = functor_canonical s (t ∷ ts) (list_any is_open (t ∷ ts)) refl all few
word_canonical (Open s us) ts word q all few shut = absurd word
word_canonical _ _ word q all few shut = tt

-- ---- a term that is judged

pub record IsSmall (t : ParsedTerm) : Type 0 where
  pub few : length t ≤ 64
  pub shallow : is_deep t ≡ false
  pub narrow : has_wide_functor t ≡ false

pub small : (t : ParsedTerm) → is_large_term t ≡ false → IsSmall t
small t h =
    let a = neither (ltb 64 (length t) || is_deep t) (has_wide_functor t) h in
    let b = neither (ltb 64 (length t)) (is_deep t) a.0 in
    record { few = ltb-false 64 (length t) b.0; shallow = b.1; narrow = a.1 }

pub is_term : (seen : Seen) (t : ParsedTerm) → is_large_term t ≡ false → IsParsedTerm t → IsTerm (argument seen t).0
is_term seen t h nested =
    let is = small t h in
    let made = (argument seen t).0 in
    let words = term_words seen t nested in
    let measured = term_measured 8 0 made in
    let count : term_size made ≡ length t = sym measured.0 ∙ ap length words ∙ turns_count placed_word seen t in
    let below : AreBelow 8 (words_of 0 made) = rw words (nodes_below seen t is.shallow) in
    record {
      canonical = term_all IsCanonical Whatever word_canonical (in_turn placed_word seen t).0 (nodes_words seen t nested) (nodes_narrow seen t is.narrow) (anything (in_turn placed_word seen t).0);
      depth = omega (arith, measured.1 (omega arith) below);
      size = rw count is.few;
    }
