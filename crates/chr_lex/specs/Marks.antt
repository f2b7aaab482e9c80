-- The operators and marks.
use Rattle.std.specs.Prelude.{ℕ, List, [], ◌∷◌}
use Rattle.chr_lex.specs.declared.mark.Mark.{Mark}
use Rattle.chr_lex.specs.declared.mark.Mark.TheVariants.{Simplify, Propagate, SameValue, OtherValue, Differs, Declares, Equals, AtMost, AtLeast, Quotient, Less, Greater, Open, Close, Comma, Bar, At, Backslash, Slash, Plus, Minus, Star, Is, Mod, Rem}

abbrev pub spelling : Mark → List ℕ
spelling Simplify = 60 ∷ 61 ∷ 62 ∷ []  -- <=>
spelling Propagate = 61 ∷ 61 ∷ 62 ∷ []  -- ==>
spelling SameValue = 61 ∷ 58 ∷ 61 ∷ []  -- =:=
spelling OtherValue = 61 ∷ 92 ∷ 61 ∷ []  -- =\=
spelling Differs = 92 ∷ 61 ∷ 61 ∷ []  -- \==
spelling Declares = 58 ∷ 45 ∷ []  -- :-
spelling Equals = 61 ∷ 61 ∷ []  -- ==
spelling AtMost = 61 ∷ 60 ∷ []  -- =<
spelling AtLeast = 62 ∷ 61 ∷ []  -- >=
spelling Quotient = 47 ∷ 47 ∷ []  -- //
spelling Less = 60 ∷ []  -- <
spelling Greater = 62 ∷ []  -- >
spelling Open = 40 ∷ []  -- (
spelling Close = 41 ∷ []  -- )
spelling Comma = 44 ∷ []  -- ,
spelling Bar = 124 ∷ []  -- |
spelling At = 64 ∷ []  -- @
spelling Backslash = 92 ∷ []  -- \
spelling Slash = 47 ∷ []  -- /
spelling Plus = 43 ∷ []  -- +
spelling Minus = 45 ∷ []  -- -
spelling Star = 42 ∷ []  -- *
spelling Is = 105 ∷ 115 ∷ []  -- is
spelling Mod = 109 ∷ 111 ∷ 100 ∷ []  -- mod
spelling Rem = 114 ∷ 101 ∷ 109 ∷ []  -- rem

-- a longer one before a shorter one
abbrev pub marks : List Mark
marks = Simplify ∷ Propagate ∷ SameValue ∷ OtherValue ∷ Differs ∷ Declares ∷ Equals ∷ AtMost ∷
    AtLeast ∷ Quotient ∷ Less ∷ Greater ∷ Open ∷ Close ∷ Comma ∷ Bar ∷ At ∷ Backslash ∷ Slash ∷
    Plus ∷ Minus ∷ Star ∷ []

abbrev pub word_marks : List Mark
word_marks = Is ∷ Mod ∷ Rem ∷ []
