-- The parts of a key that contracts see.
use Rattle.std.specs.Prelude.{ℕ, ℤ}
use Rattle.std.specs.Int.{w64, cast_signed, cast_unsigned}
use Rattle.chr_value.specs.declared.names.Name.{Name}
use Rattle.chr_index.specs.declared.table.Kind.{Kind}
use Rattle.chr_index.specs.declared.table.Kind.TheVariants as kinds

-- a number or a symbol, or the digest of a compound value, which others may have too
pub data KeyValue : Type 0 where
  Int : ℤ → KeyValue
  Sym : ℕ → KeyValue
  Digest : ℕ → KeyValue

-- a predicate, and what stands for a value at a place
pub record Key : Type 0 where
  pub name : Name
  pub arity : ℕ
  pub place : ℕ
  pub value : KeyValue

-- what a kind and a word of 64 bits stand for
abbrev pub value_of : Kind → ℕ → KeyValue
value_of kinds.Int w = Int (cast_signed w64 w)
value_of kinds.Sym w = Sym w
value_of kinds.Digest w = Digest w

-- the kind and the word
abbrev pub kind_of : KeyValue → Kind
kind_of (Int z) = kinds.Int
kind_of (Sym s) = kinds.Sym
kind_of (Digest d) = kinds.Digest

abbrev pub word_of : KeyValue → ℕ
word_of (Int z) = cast_unsigned w64 z
word_of (Sym s) = s
word_of (Digest d) = d
