-- Rules and atoms as they are written, by the texts of their names: variables have their numbers,
-- and `true` and parentheses are gone.
use Rattle.std.specs.Prelude.{ℕ, ℤ, pos, Bool, true, false, List, [], ◌∷◌, map, length, Option, Some, None}
use Rattle.chr_value.specs.Atoms.{Value, Int, Sym, Atom}
use Rattle.chr_rule.specs.Rules.{Term, Var, Given, Open, RuleAtom, Expression, Number, Variable, Operation, Comparison, Compared, Same, Differ, BodyItem, Is, Add, Simpagation, of_parts}
use Rattle.chr_lex.specs.Tokens.{Word}
use Rattle.chr_lex.specs.Tokens as words
use Rattle.chr_grammar.specs.Parsed as parsed
use Rattle.chr_limits.specs.Numbers.{decimal_from, minus}
use Rattle.chr_text.specs.Terms.{Placed, term_of_words}
use Rattle.chr_text.specs.Variables.{Seen, number_variable, in_turn}

-- the number that a sign and digits spell
abbrev pub spelled : Bool → List ℕ → ℤ
spelled false ds = pos (decimal_from 0 ds)
spelled true ds = minus (decimal_from 0 ds)

-- ---- terms

abbrev pub word_term : Seen → Word → Term (List ℕ) × Seen
word_term seen (words.Name t) = (Given (Sym t), seen)
word_term seen (words.Variable x) = (Var (number_variable seen x).0, (number_variable seen x).1)
word_term seen (words.Number negative ds) = (Given (Int (spelled negative ds)), seen)

-- in as many parentheses as before
abbrev pub placed_word : Seen → parsed.TermNode → Placed (List ℕ) × Seen
placed_word seen n = ((n.depth, (word_term seen n.word).0), (word_term seen n.word).1)

abbrev pub argument : Seen → parsed.ParsedTerm → Term (List ℕ) × Seen
argument seen t = (term_of_words (in_turn placed_word seen t).0, (in_turn placed_word seen t).1)

-- ---- posts

-- the value that a term without variables is
abbrev pub value_in : Term (List ℕ) → Value (List ℕ)
value_in (Given v) = v
value_in (Var x) = Sym []
value_in (Open s ts) = Sym []

-- a term of a post, in which no variable stands
abbrev pub value : parsed.ParsedTerm → Value (List ℕ)
value t = value_in (argument [] t).0

abbrev pub atom_by_texts : parsed.ParsedAtom → Atom (List ℕ)
atom_by_texts p = record { name = p.name; args = map value p.args }

-- ---- rules

abbrev pub rule_atom : Seen → parsed.ParsedAtom → RuleAtom (List ℕ) × Seen
rule_atom seen p = (
  record { name = p.name; args = (in_turn argument seen p.args).0 },
  (in_turn argument seen p.args).1,
)

abbrev pub expression : Seen → parsed.ParsedExpression → Expression × Seen
expression seen (parsed.Number negative ds) = (Number (spelled negative ds), seen)
expression seen (parsed.Variable x) =
    (Variable (number_variable seen x).0, (number_variable seen x).1)
expression seen (parsed.Group e) = expression seen e
expression seen (parsed.Operation o a b) = (
  Operation o (expression seen a).0 (expression (expression seen a).1 b).0,
  (expression (expression seen a).1 b).1,
)

-- nothing for `true`
abbrev pub test : Seen → parsed.GuardMember → Option (Comparison (List ℕ)) × Seen
test seen parsed.Always = (None, seen)
test seen (parsed.Compared r a b) = (
  Some (Compared r (expression seen a).0 (expression (expression seen a).1 b).0),
  (expression (expression seen a).1 b).1,
)
test seen (parsed.Same s t) = (
  Some (Same (argument seen s).0 (argument (argument seen s).1 t).0),
  (argument (argument seen s).1 t).1,
)
test seen (parsed.Differ s t) = (
  Some (Differ (argument seen s).0 (argument (argument seen s).1 t).0),
  (argument (argument seen s).1 t).1,
)

abbrev pub member : Seen → parsed.BodyMember → Option (BodyItem (List ℕ)) × Seen
member seen parsed.Nothing = (None, seen)
member seen (parsed.Is x e) = (
  Some (Is (number_variable seen x).0 (expression (number_variable seen x).1 e).0),
  (expression (number_variable seen x).1 e).1,
)
member seen (parsed.Add p) = (Some (Add (rule_atom seen p).0), (rule_atom seen p).1)

-- the same, as something that is there
abbrev pub given : {A B : Type 0} → (Seen → A → B × Seen) → Seen → A → Option B × Seen
given f seen a = (Some (f seen a).0, (f seen a).1)

abbrev pub somes : {A : Type 0} → List (Option A) → List A
somes [] = []
somes (None ∷ xs) = somes xs
somes (Some x ∷ xs) = x ∷ somes xs

-- what is seen after the kept heads, after all heads, after the guard and after the body
abbrev pub after_kept : parsed.ParsedRule → Seen
after_kept r = (in_turn rule_atom [] r.kept).1

abbrev pub after_heads : parsed.ParsedRule → Seen
after_heads r = (in_turn rule_atom (after_kept r) r.removed).1

abbrev pub after_guard : parsed.ParsedRule → Seen
after_guard r = (in_turn test (after_heads r) r.guard).1

abbrev pub after_body : parsed.ParsedRule → Seen
after_body r = (in_turn member (after_guard r) r.body).1

-- the rule: its variables are numbered in the order of its text
abbrev pub rule : parsed.ParsedRule → Simpagation (List ℕ)
rule r = of_parts (length (after_body r)) (in_turn rule_atom [] r.kept).0
    (in_turn rule_atom (after_kept r) r.removed).0 (somes (in_turn test (after_heads r) r.guard).0)
    (somes (in_turn member (after_guard r) r.body).0)
