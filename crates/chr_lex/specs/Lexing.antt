-- The tokens of an item, as the grammar has them.
use Rattle.std.specs.Prelude.{◌≡◌, ℕ, ◌≤◌, Bool, true, false, List, [], ◌∷◌, ◌++◌, length, ◌==◌, ◌||◌}
use Rattle.std.specs.Char.{is_ascii_digit, is_ascii_lowercase, is_ascii_uppercase}
use Rattle.std.specs.List.{list_all}
use Rattle.chr_value.specs.Spelling.{is_name_byte, is_operator}
use Rattle.chr_lex.specs.declared.mark.Mark.{Mark}
use Rattle.chr_lex.specs.Items.{is_gap}
use Rattle.chr_lex.specs.Marks.{spelling}
use Rattle.chr_lex.specs.Tokens.{Name, Variable, Number, Lexeme, OfWord, OfMark, is_operand}

-- The bytes spell the token, where the token before it is an operand or not.
pub data Spells : Bool → Lexeme → List ℕ → Type 0 where
  a_name : (op : Bool) (b : ℕ) (bs : List ℕ) → is_ascii_lowercase b ≡ true →
      list_all is_name_byte bs ≡ true → is_operator (b ∷ bs) ≡ false →
      Spells op (OfWord (Name (b ∷ bs))) (b ∷ bs)
  a_variable : (op : Bool) (b : ℕ) (bs : List ℕ) → (is_ascii_uppercase b || (b == 95)) ≡ true →
      list_all is_name_byte bs ≡ true → Spells op (OfWord (Variable (b ∷ bs))) (b ∷ bs)
  a_number : (op : Bool) (b : ℕ) (bs : List ℕ) → list_all is_ascii_digit (b ∷ bs) ≡ true →
      Spells op (OfWord (Number false (b ∷ bs))) (b ∷ bs)
  below_zero : (b : ℕ) (bs : List ℕ) → list_all is_ascii_digit (b ∷ bs) ≡ true →
      Spells false (OfWord (Number true (b ∷ bs))) (45 ∷ b ∷ bs)
  a_mark : (op : Bool) (m : Mark) → Spells op (OfMark m) (spelling m)

-- The bytes w spell the token, and no longer beginning of w and the rest spells one.
pub record Longest (op : Bool) (t : Lexeme) (w rest : List ℕ) : Type 0 where
  pub spelled : Spells op t w
  pub longest : (u : Lexeme) (v more : List ℕ) → w ++ rest ≡ v ++ more → Spells op u v →
      length v ≤ length w

-- The bytes are these tokens with layout and comments between, where the token before them is an
-- operand or not.
pub data Tokens : Bool → List ℕ → List Lexeme → Type 0 where
  no_more : (op : Bool) → Tokens op [] []
  blank : (op : Bool) (b : ℕ) (bs : List ℕ) (ts : List Lexeme) → is_gap b ≡ true → Tokens op bs ts →
      Tokens op (b ∷ bs) ts
  token : (op : Bool) (t : Lexeme) (w rest : List ℕ) (ts : List Lexeme) → Longest op t w rest →
      Tokens (is_operand t) rest ts → Tokens op (w ++ rest) (t ∷ ts)
