-- What the numbered words of a term say.
use Rattle.std.specs.Prelude.{ℕ}
use Rattle.chr_value.specs.Atoms.{Int, Sym}
use Rattle.chr_rule.specs.Rules.{Term, Var, Given}
use Rattle.chr_text.specs.declared.words.NumberedWord.{NumberedWord}
use Rattle.chr_text.specs.declared.words.NumberedWord.TheVariants as numbered
use Rattle.chr_text.specs.declared.words.NumberedNode.{NumberedNode}
use Rattle.chr_text.specs.Terms.{Placed}

abbrev pub word_term : NumberedWord → Term ℕ
word_term (numbered.Variable x) = Var x
word_term (numbered.Name s) = Given (Sym s.number)
word_term (numbered.Number z) = Given (Int z)

abbrev pub placed_word : NumberedNode → Placed ℕ
placed_word n = (n.depth, word_term n.word)
