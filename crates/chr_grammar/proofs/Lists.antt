-- What the loops read: lists by commas, terms and operators, one member after the other, and tokens by their places.
use Rattle.std.proofs.Common.{◌≡◌, ◌≤◌, ◌<◌, ℕ, suc, ◌+◌, ◌-◌, get_or, List, [], ◌∷◌, ◌++◌, length, take, drop, refl, sym, ap, ◌∙◌, arith, Ok, Err, append_assoc, map, zero, true, false, length-drop, Bool, not, cond, if◌then◌else◌, None, Option, Some}
use Rattle.std.proofs.lemmas.List.{drop_more, drop_all, drop-map, get_or-map, length-map, take_rest, drop-drop, take_all}
use Rattle.chr_lex.specs.declared.fault.Kind.TheVariants.{Syntax}
use Rattle.chr_lex.specs.declared.fault.ItemError.{ItemError}
use Rattle.chr_lex.specs.declared.fault.ItemError.TheVariants as errors
use Rattle.chr_lex.specs.declared.token.Token.{Token}
use Rattle.chr_lex.specs.Reading.{◌>>=◌, Fails}
use Rattle.chr_lex.specs.declared.mark.Mark.TheVariants.{Comma, Close, At}
use Rattle.chr_lex.specs.Tokens.{lexeme, Lexeme, OfMark, word, Word, OfWord}
use Rattle.chr_grammar.specs.Parsing.{Front, NoComma, behind, members_at, several_at, is_mark, next_at, is_functor, behind_word_at, with_node, nodes_at, term_at, before, from_first, IsCut, is_module, is_library, named_rule_of, rule_of, last_member_at, member_at, a_rule, statement_of, sum_operator, chain_at, level_at, product_at, sum_at}
use Rattle.chr_lex.specs.declared.mark.Mark.{Mark}
use Rattle.chr_lex.specs.declared.token.Token.TheVariants as tokens
use Rattle.chr_lex.specs.declared.token.Word.{Word as CodeWord}
use Rattle.chr_grammar.specs.Parsed.{TermNode, ParsedTerm, ParsedExpression, Operation}
use Rattle.std.specs.List.{take_while}
use Rattle.std.proofs.lemmas.List.Sums.{take_while-cons}
use Rattle.std.proofs.lemmas.Grind.{common_steps}
use Rattle.chr_rule.specs.declared.expression.Operator.{Operator}
use Rattle.chr_grammar.specs.declared.expression.Level.{Level}
use Rattle.chr_grammar.specs.declared.expression.Level.TheVariants as level

-- what was read before, and what is still read
abbrev pub front_with : {A : Type 0} → List A → Front (List A) → Front (List A)
front_with front read = read >>= λ x. Ok (front ++ x.0, x.1)

pub regroup : {A : Type 0} (front : List A) (a : A) (read : Front (List A)) → front_with front (read >>= λ x. Ok (a ∷ x.0, x.1)) ≡ front_with (front ++ a ∷ []) read
regroup {A} front a (Ok x) = ap (λ (y : List A). Ok (y, x.1)) (sym (append_assoc front (a ∷ []) x.0))
regroup front a (Err k) = refl

pub none_before : {A : Type 0} (read : Front (List A)) → front_with [] read ≡ read
none_before (Ok x) = refl
none_before (Err k) = refl

pub first_members : {A : Type 0} (member : List Lexeme → Front A) (ts : List Lexeme) → front_with [] (members_at member (length ts - 0) ts) ≡ several_at member ts
first_members member ts =
    let all : length ts - 0 ≡ length ts = omega arith in
    none_before (members_at member (length ts - 0) ts) ∙ ap (λ (k : ℕ). members_at member k ts) all

pub members_fail : {A : Type 0} (member : List Lexeme → Front A) (e : ItemError) (front : List A) (n i : ℕ) (ts : List Lexeme) (total : Front (List A)) → i < n → Fails e (member ts)
    → front_with front (members_at member (n - i) ts) ≡ total → Fails e total
members_fail member errors.Memory front n i ts total lt h so_far = tt
members_fail member (errors.Fault k) front n i ts total lt h so_far = let e : n - i ≡ suc (n - (i + 1)) = omega arith in sym so_far ∙ rw (e, h) refl

pub behind_last : {A : Type 0} (a : A) (ts : List Lexeme) (others : Front (List A)) → NoComma ts → behind a ts others ≡ Ok (a ∷ [], ts)
behind_last a [] others none = refl
behind_last a (s ∷ ts) others none = rw none refl

pub members_done : {A : Type 0} (member : List Lexeme → Front A) (front : List A) (n i : ℕ) (ts after : List Lexeme) (a : A) (total : Front (List A)) → i < n → member ts ≡ Ok (a, after) → NoComma after
    → front_with front (members_at member (n - i) ts) ≡ total → total ≡ Ok (front ++ a ∷ [], after)
members_done member front n i ts after a total lt h none so_far =
    let e : n - i ≡ suc (n - (i + 1)) = omega arith in
    let one : front_with front (members_at member (n - i) ts) ≡ front_with front (behind a after (members_at member (n - (i + 1)) (drop 1 after))) = rw (e, h) refl in
    sym so_far ∙ one ∙ ap (front_with front) (behind_last a after (members_at member (n - (i + 1)) (drop 1 after)) none)

pub members_go_on : {A : Type 0} (member : List Lexeme → Front A) (front : List A) (n i : ℕ) (ts after r : List Lexeme) (a : A) (total : Front (List A)) → i < n → member ts ≡ Ok (a, after) → after ≡ OfMark Comma ∷ r
    → front_with front (members_at member (n - i) ts) ≡ total → front_with (front ++ a ∷ []) (members_at member (n - (i + 1)) r) ≡ total
members_go_on member front n i ts after r a total lt h comma so_far =
    let others = members_at member (n - (i + 1)) r in
    let e : n - i ≡ suc (n - (i + 1)) = omega arith in
    let one : front_with front (members_at member (n - i) ts) ≡ front_with front (others >>= λ x. Ok (a ∷ x.0, x.1)) = rw (e, h, comma) refl in
    sym (one ∙ regroup front a others) ∙ so_far

pub members_none : {A : Type 0} (member : List Lexeme → Front A) (front : List A) (n i : ℕ) (ts : List Lexeme) (total : Front (List A)) → n ≤ i → front_with front (members_at member (n - i) ts) ≡ total → total ≡ Err Syntax
members_none member front n i ts total le so_far = let e : n - i ≡ 0 = omega arith in sym so_far ∙ rw e refl

-- ---- tokens by their places

pub token_there : (ts : List Token) (n : ℕ) (d : Token) → n < length ts → drop n (map lexeme ts) ≡ lexeme (get_or ts n d) ∷ drop (n + 1) (map lexeme ts)
token_there ts n d lt =
    drop_more (map lexeme ts) n (lexeme d) (omega (arith, length-map ts lexeme)) ∙ ap (λ (t : Lexeme). t ∷ drop (n + 1) (map lexeme ts)) (get_or-map lexeme ts n d (lexeme d) lt)

pub tokens_past : (ts : List Token) (n : ℕ) → n ≡ length ts → drop n (map lexeme ts) ≡ []
tokens_past ts n is = drop_all n (map lexeme ts) (omega (arith, length-map ts lexeme))

pub tokens_from_place : (ts : List Token) (n : ℕ) → map lexeme (take (length ts - n) (drop n ts)) ≡ drop n (map lexeme ts)
tokens_from_place ts n = ap (map lexeme) (take_rest ts n) ∙ sym (drop-map lexeme n ts)

-- ---- the next argument

pub next_none : (o : ℕ) (ts : List Lexeme) (total : Front ℕ) → 0 < o → ts ≡ [] → next_at o ts ≡ total → total ≡ Err Syntax
next_none zero ts total some is so_far = absurd (omega (arith, some))
next_none (suc o) ts total some is so_far = sym so_far ∙ ap (next_at (suc o)) is

pub next_comma : (o n : ℕ) (ts : List Token) (d : Token) (total : Front ℕ) → 0 < o → n < length ts → true ≡ is_mark Comma (lexeme (get_or ts n d)) → next_at o (drop n (map lexeme ts)) ≡ total → total ≡ Ok (o, drop (n + 1) (map lexeme ts))
next_comma zero n ts d total some lt comma so_far = absurd (omega (arith, some))
next_comma (suc o) n ts d total some lt comma so_far = sym so_far ∙ rw (token_there ts n d lt, ← comma) refl

pub next_stop : (o n : ℕ) (ts : List Token) (d : Token) (total : Front ℕ) → 0 < o → n < length ts → false ≡ is_mark Comma (lexeme (get_or ts n d)) → false ≡ is_mark Close (lexeme (get_or ts n d))
    → next_at o (drop n (map lexeme ts)) ≡ total → total ≡ Err Syntax
next_stop zero n ts d total some lt comma close so_far = absurd (omega (arith, some))
next_stop (suc o) n ts d total some lt comma close so_far = sym so_far ∙ rw (token_there ts n d lt, ← comma, ← close) refl

pub next_closes : (o n : ℕ) (ts : List Token) (d : Token) (total : Front ℕ) → 0 < o → n < length ts → false ≡ is_mark Comma (lexeme (get_or ts n d)) → true ≡ is_mark Close (lexeme (get_or ts n d))
    → next_at o (drop n (map lexeme ts)) ≡ total → next_at (o - 1) (drop (n + 1) (map lexeme ts)) ≡ total
next_closes zero n ts d total some lt comma close so_far = absurd (omega (arith, some))
next_closes (suc o) n ts d total some lt comma close so_far =
    let less : suc o - 1 ≡ o = omega arith in
    let one : next_at (suc o) (drop n (map lexeme ts)) ≡ next_at o (drop (n + 1) (map lexeme ts)) = rw (token_there ts n d lt, ← comma, ← close) refl in
    rw (less, ← one) so_far

-- a token at a place, before those behind it
pub word_there : (ts : List Token) (n : ℕ) (d : Token) (w : CodeWord) → n < length ts → get_or ts n d ≡ tokens.Word w → drop n (map lexeme ts) ≡ OfWord (word w) ∷ drop (n + 1) (map lexeme ts)
word_there ts n d w lt is = token_there ts n d lt ∙ ap (λ (t : Token). lexeme t ∷ drop (n + 1) (map lexeme ts)) is

pub mark_there : (ts : List Token) (n : ℕ) (d : Token) (m : Mark) → n < length ts → get_or ts n d ≡ tokens.Mark m → drop n (map lexeme ts) ≡ OfMark m ∷ drop (n + 1) (map lexeme ts)
mark_there ts n d m lt is = token_there ts n d lt ∙ ap (λ (t : Token). lexeme t ∷ drop (n + 1) (map lexeme ts)) is

-- the tokens from a place on
pub from_place : {A : Type 0} (f : List Lexeme → A) (ts : List Token) (n : ℕ) (a : A) → a ≡ f (map lexeme (take (length ts - n) (drop n ts))) → f (drop n (map lexeme ts)) ≡ a
from_place f ts n a h = ap f (sym (tokens_from_place ts n)) ∙ sym h

pub behind_opened : (w : Word) (d n : ℕ) (ts : List Lexeme) → is_functor w (drop n ts) ≡ true → behind_word_at w d (drop n ts) ≡ Ok (d + 1, drop (n + 1) ts)
behind_opened w d n ts h =
    let next : suc d ≡ d + 1 = omega arith in
    let one : behind_word_at w d (drop n ts) ≡ Ok (suc d, drop 1 (drop n ts)) = rw h refl in
    one ∙ ap (λ (x : List Lexeme). Ok (suc d, x)) (drop-drop 1 n ts) ∙ ap (λ (k : ℕ). Ok (k, drop (n + 1) ts)) next

-- ---- nodes

pub first_nodes : (ts : List Token) (n : ℕ) → front_with [] (nodes_at (length ts - n - 0) 0 (drop n (map lexeme ts))) ≡ term_at (drop n (map lexeme ts))
first_nodes ts n =
    let whole : length (map lexeme ts) ≡ length ts = length-map ts lexeme in
    let all : length ts - n - 0 ≡ length (drop n (map lexeme ts)) = omega (arith, whole, length-drop n (map lexeme ts)) in
    none_before (nodes_at (length ts - n - 0) 0 (drop n (map lexeme ts))) ∙ ap (λ (k : ℕ). nodes_at k 0 (drop n (map lexeme ts))) all

pub nodes_fail : (e : ItemError) (front : List TermNode) (n i d : ℕ) (ts r : List Lexeme) (w : Word) (total : Front ParsedTerm) → i < n → ts ≡ OfWord w ∷ r → Fails e (behind_word_at w d r)
    → front_with front (nodes_at (n - i) d ts) ≡ total → Fails e total
nodes_fail errors.Memory front n i d ts r w total lt is h so_far = tt
nodes_fail (errors.Fault k) front n i d ts r w total lt is h so_far = let e : n - i ≡ suc (n - (i + 1)) = omega arith in sym so_far ∙ rw (e, is, h) refl

pub nodes_done : (front : List TermNode) (n i d : ℕ) (ts r u : List Lexeme) (w : Word) (e : ℕ) (total : Front ParsedTerm) → i < n → ts ≡ OfWord w ∷ r → behind_word_at w d r ≡ Ok (e, u) → e ≡ 0
    → front_with front (nodes_at (n - i) d ts) ≡ total → total ≡ Ok (front ++ record { depth = d; word = w } ∷ [], u)
nodes_done front n i d ts r u w e total lt is h none so_far = let less : n - i ≡ suc (n - (i + 1)) = omega arith in sym so_far ∙ rw (less, is, h, none) refl

others_behind : (front : List TermNode) (n : TermNode) (e : ℕ) (u : List Lexeme) (others : Front ParsedTerm) → 0 < e → front_with front (with_node n e u others) ≡ front_with (front ++ n ∷ []) others
others_behind front n zero u others some = absurd (omega (arith, some))
others_behind front n (suc e) u others some = regroup front n others

pub nodes_go_on : (front : List TermNode) (n i d : ℕ) (ts r u : List Lexeme) (w : Word) (e : ℕ) (total : Front ParsedTerm) → i < n → ts ≡ OfWord w ∷ r → behind_word_at w d r ≡ Ok (e, u) → 0 < e
    → front_with front (nodes_at (n - i) d ts) ≡ total → front_with (front ++ record { depth = d; word = w } ∷ []) (nodes_at (n - (i + 1)) e u) ≡ total
nodes_go_on front n i d ts r u w e total lt is h some so_far =
    let node : TermNode = record { depth = d; word = w } in
    let less : n - i ≡ suc (n - (i + 1)) = omega arith in
    let one : front_with front (nodes_at (n - i) d ts) ≡ front_with front (with_node node e u (nodes_at (n - (i + 1)) e u)) = rw (less, is, h) refl in
    sym (one ∙ others_behind front node e u (nodes_at (n - (i + 1)) e u) some) ∙ so_far

-- how many tokens come before the first such sign
abbrev pub count_before : (Lexeme → Bool) → List Token → ℕ
count_before p ts = length (take_while (λ t. not (p (lexeme t))) ts)

count_step : (p : Lexeme → Bool) (t : Token) (ts : List Token) → count_before p (t ∷ ts) ≡ (if p (lexeme t) then 0 else suc (count_before p ts))
count_step p t ts =
    let w = take_while (λ t. not (p (lexeme t))) ts in
    ap (length {A = Token}) (take_while-cons (λ t. not (p (lexeme t))) t ts)
    ∙ elim (p (lexeme t)) as (λ b. length (cond (not b) (t ∷ w) []) ≡ (if b then 0 else suc (length w))) [ true ↦ refl | false ↦ refl ]

before_map : (p : Lexeme → Bool) (ts : List Token) → before p (map lexeme ts) ≡ map lexeme (take (count_before p ts) ts)
before_map p [] = refl
before_map p (t ∷ ts) =
    elim (p (lexeme t)) as (λ b. (if b then [] else lexeme t ∷ before p (map lexeme ts)) ≡ map lexeme (take (if b then 0 else suc (count_before p ts)) (t ∷ ts))) [ true ↦ refl | false ↦ ap (λ (x : List Lexeme). lexeme t ∷ x) (before_map p ts) ]
    ∙ ap (λ (k : ℕ). map lexeme (take k (t ∷ ts))) (sym (count_step p t ts))

from_map : (p : Lexeme → Bool) (ts : List Token) → from_first p (map lexeme ts) ≡ drop (count_before p ts) (map lexeme ts)
from_map p [] = refl
from_map p (t ∷ ts) =
    elim (p (lexeme t)) as (λ b. (if b then lexeme t ∷ map lexeme ts else from_first p (map lexeme ts)) ≡ drop (if b then 0 else suc (count_before p ts)) (map lexeme (t ∷ ts))) [ true ↦ refl | false ↦ from_map p ts ]
    ∙ ap (λ (k : ℕ). drop k (map lexeme (t ∷ ts))) (sym (count_step p t ts))

-- no such sign
pub uncut : (p : Lexeme → Bool) (ts : List Token) (n : ℕ) → n ≡ count_before p ts → n ≡ length ts → IsCut p (map lexeme ts) (map lexeme ts) []
uncut p ts n is all = record {
  front = before_map p ts ∙ ap (λ (k : ℕ). map lexeme (take k ts)) (sym is) ∙ ap (map lexeme) (take_all n ts (omega arith));
  back = from_map p ts ∙ ap (λ (k : ℕ). drop k (map lexeme ts)) (sym is) ∙ tokens_past ts n all;
}

pub cut_at : (p : Lexeme → Bool) (ts : List Token) (n : ℕ) (d : Token) → n ≡ count_before p ts → n < length ts → IsCut p (map lexeme ts) (map lexeme (take n ts)) (lexeme (get_or ts n d) ∷ map lexeme (take (length ts - (n + 1)) (drop (n + 1) ts)))
cut_at p ts n d is lt = record {
  front = before_map p ts ∙ ap (λ (k : ℕ). map lexeme (take k ts)) (sym is);
  back = from_map p ts ∙ ap (λ (k : ℕ). drop k (map lexeme ts)) (sym is) ∙ token_there ts n d lt ∙ ap (λ (x : List Lexeme). lexeme (get_or ts n d) ∷ x) (sym (tokens_from_place ts (n + 1)));
}

-- ---- too few tokens

pub short_member : (ts : List Token) → length ts < 2 → member_at (map lexeme ts) ≡ last_member_at (map lexeme ts)
short_member (t ∷ u ∷ ts) lt = absurd (omega arith)
short_member _ lt = refl

pub short_rule : (ts : List Token) → length ts < 2 → rule_of (map lexeme ts) ≡ named_rule_of None (map lexeme ts)
short_rule (t ∷ u ∷ ts) lt = absurd (omega arith)
short_rule _ lt = refl

pub nameless : (ts : List Token) (d : Token) → 2 ≤ length ts → false ≡ is_mark At (lexeme (get_or ts 1 d)) → rule_of (map lexeme ts) ≡ named_rule_of None (map lexeme ts)
nameless (t ∷ u ∷ ts) d le h = let e : is_mark At (lexeme u) ≡ false = sym h in rw e refl
nameless _ d le h = absurd (omega arith)

pub short_statement : (ts : List Token) → length ts < 2 → statement_of (map lexeme ts) ≡ a_rule (map lexeme ts)
short_statement (t ∷ u ∷ ts) lt = absurd (omega arith)
short_statement _ lt = refl

pub short_library : (ts : List Token) → length ts < 2 → false ≡ is_library (map lexeme ts)
short_library (t ∷ u ∷ ts) lt = absurd (omega arith)
short_library _ lt = refl

pub short_module : (ts : List Token) → length ts < 4 → false ≡ is_module (map lexeme ts)
short_module (a ∷ b ∷ c ∷ d ∷ ts) lt = absurd (omega arith)
short_module _ lt = refl

pub long_module : (ts : List Token) → 5 ≤ length ts → false ≡ is_module (map lexeme ts)
long_module (a ∷ b ∷ c ∷ d ∷ e ∷ ts) le = refl
long_module _ le = absurd (omega arith)

-- Sums stand above products in the order of what calls what.
abbrev pub rank : Level → ℕ
rank level.Sums = 18
rank level.Products = 0

pub sum_steps : (n : ℕ) (ts : List Lexeme) → (n ≡ 0 → ⊥) → sum_at n ts ≡ level_at sum_operator (product_at (sum_at (n - 1))) ts
unfolding sum_at
sum_steps zero ts some = absurd (some refl)
sum_steps (suc n) ts some =
    let e : n ≡ suc n - 1 = omega arith in
    ap (λ (m : ℕ). level_at sum_operator (product_at (sum_at m)) ts) e

whole : (ts : List Token) → take (suc (length ts) - 1) ts ≡ ts
whole ts = grind (arith, common_steps)

pub chain_steps : (operator : Lexeme → Option Operator) (side : List Lexeme → Front ParsedExpression) (n : ℕ) (left right both : ParsedExpression) (o : Operator) (ts : List Token) (d : Token) (rest : List Lexeme) → (n ≡ 0 → ⊥) → 1 ≤ length ts
    → Some o ≡ operator (lexeme (get_or ts 0 d)) → side (map lexeme (take (length ts - 1) (drop 1 ts))) ≡ Ok (right, rest) → both ≡ Operation o left right
    → chain_at operator side n left (map lexeme ts) ≡ chain_at operator side (n - 1) both rest
chain_steps operator side n left right both o [] d rest some long is found joined = absurd (omega arith)
chain_steps operator side zero left right both o (t ∷ ts) d rest some long is found joined = absurd (some refl)
chain_steps operator side (suc n) left right both o (t ∷ ts) d rest some long is found joined =
    let e : suc n - 1 ≡ n = omega arith in
    let there : side (map lexeme ts) ≡ Ok (right, rest) = ap (λ (x : List Token). side (map lexeme x)) (sym (whole ts)) ∙ found in
    rw (← is, there, e, joined) refl
