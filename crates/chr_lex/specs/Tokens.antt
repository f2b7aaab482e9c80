-- The tokens of an item.
use Rattle.std.specs.Prelude.{ℕ, zero, suc, ◌+◌, ◌-◌, Bool, true, false, not, List, [], ◌∷◌, length, nat_eq, ◌==◌, ◌&&◌, ◌||◌, if◌then◌else◌, Option, Some, None, Result, Ok, Err, find}
use Rattle.std.specs.Char.{is_ascii_digit, is_ascii_lowercase, is_ascii_uppercase}
use Rattle.std.specs.List.{starts_with, take_while}
use Rattle.std.specs.Str.{bytes_eq}
use Rattle.chr_value.specs.Spelling.{is_name_byte}
use Rattle.chr_lex.specs.declared.fault.Kind.{Kind}
use Rattle.chr_lex.specs.declared.fault.Kind.TheVariants.{Syntax}
use Rattle.chr_lex.specs.declared.mark.Mark.{Mark}
use Rattle.chr_lex.specs.declared.mark.Mark.TheVariants as mark
use Rattle.chr_lex.specs.declared.token.Word.{Word as CodeWord}
use Rattle.chr_lex.specs.declared.token.Word.TheVariants as written
use Rattle.chr_lex.specs.declared.token.Token.{Token}
use Rattle.chr_lex.specs.declared.token.Token.TheVariants as token
use Rattle.chr_lex.specs.Items.{is_gap}
use Rattle.chr_lex.specs.Marks.{spelling, marks, word_marks}
use Rattle.chr_lex.specs.Reading.{◌>>=◌}

-- a name, a variable or a number without where it lies in memory
pub data Word : Type 0 where
  Name : List ℕ → Word
  Variable : List ℕ → Word
  Number : Bool → List ℕ → Word

pub data Lexeme : Type 0 where
  OfWord : Word → Lexeme
  OfMark : Mark → Lexeme

abbrev pub word : CodeWord → Word
word (written.Name bytes) = Name bytes.now
word (written.Variable bytes) = Variable bytes.now
word (written.Number negative digits) = Number negative digits.now

abbrev pub lexeme : Token → Lexeme
lexeme (token.Word t) = OfWord (word t)
lexeme (token.Mark m) = OfMark m

abbrev pub begins_with_digit : List ℕ → Bool
begins_with_digit [] = false
begins_with_digit (b ∷ bs) = is_ascii_digit b

abbrev closes_operand : Mark → Bool
closes_operand mark.Close = true
closes_operand _ = false

-- whether a minus after it is an operator
abbrev pub is_operand : Lexeme → Bool
is_operand (OfWord w) = true
is_operand (OfMark m) = closes_operand m

-- An operator that is a word is no name.
abbrev pub named : List ℕ → Option Mark → Lexeme
named bytes None = OfWord (Name bytes)
named bytes (Some m) = OfMark m

abbrev pub lower_word : List ℕ → Lexeme
lower_word bytes = named bytes (find (λ m. bytes_eq bytes (spelling m)) word_marks)

abbrev pub signed : Option Mark → Option (Lexeme × ℕ)
signed None = None
signed (Some m) = Some (OfMark m, length (spelling m))

-- A minus directly before a digit belongs to the number, but after an operand it is an operator.
abbrev pub signed_at : Bool → List ℕ → Option (Lexeme × ℕ)
signed_at after_operand [] = None
signed_at after_operand (b ∷ bs) =
    if (b == 45) && not after_operand && begins_with_digit bs
    then Some (
      OfWord (Number true (take_while is_ascii_digit bs)),
      1 + length (take_while is_ascii_digit bs),
    )
    else signed (find (λ m. starts_with nat_eq (b ∷ bs) (spelling m)) marks)

-- The longest token at the front, and how many bytes it takes.
abbrev pub token_at : Bool → List ℕ → Option (Lexeme × ℕ)
token_at after_operand [] = None
token_at after_operand (b ∷ bs) =
    if is_ascii_lowercase b
    then Some
    (lower_word (take_while is_name_byte (b ∷ bs)), length (take_while is_name_byte (b ∷ bs)))
    else (if is_ascii_uppercase b || (b == 95)
    then Some (
      OfWord (Variable (take_while is_name_byte (b ∷ bs))),
      length (take_while is_name_byte (b ∷ bs)),
    )
    else (if is_ascii_digit b
    then Some (
      OfWord (Number false (take_while is_ascii_digit (b ∷ bs))),
      length (take_while is_ascii_digit (b ∷ bs)),
    )
    else signed_at after_operand (b ∷ bs)))

abbrev pub token_or_fault : Option (Lexeme × ℕ) → Result (Lexeme × ℕ) Kind
token_or_fault None = Err Syntax
token_or_fault (Some t) = Ok t

-- The tokens, where the first `skip` bytes belong to the token before.
abbrev pub tokens_from : ℕ → Bool → List ℕ → Result (List Lexeme) Kind
tokens_from skip after_operand [] = Ok []
tokens_from (suc skip) after_operand (b ∷ bs) = tokens_from skip after_operand bs
tokens_from zero after_operand (b ∷ bs) =
    if is_gap b then tokens_from zero after_operand bs
    else (token_or_fault (token_at after_operand (b ∷ bs))
    >>= λ t. tokens_from (t.1 - 1) (is_operand t.0) bs >>= λ ts. Ok (t.0 ∷ ts))

abbrev pub tokens_of : List ℕ → Result (List Lexeme) Kind
tokens_of = tokens_from zero false
