-- Terms as trees of words, and their nodes in text order.
use Rattle.std.specs.Prelude.{◌≡◌, ℕ, suc, ℤ, pos, negsuc, true, false, decimal, ◌≤◌, List, [], ◌∷◌, ◌++◌}
use Rattle.chr_value.specs.Atoms.{Value, Int, Sym, Comp, Args, Nil, Cons, args_count}
use Rattle.chr_value.specs.Bounds.{most_arguments}
use Rattle.chr_lex.specs.Tokens.{Word, Number}
use Rattle.chr_grammar.specs.Parsed.{TermNode}

-- the word that spells a number
abbrev pub number_word : ℤ → Word
number_word (pos n) = Number false (decimal n)
number_word (negsuc n) = Number true (decimal (suc n))

abbrev pub node_of : ℕ → Word → TermNode
node_of d w = record { depth = d; word = w }

-- The nodes of a term that stands in d parentheses. A word alone is a symbol, or a number; a functor
-- comes before its arguments, which stand in one parenthesis more.
abbrev mutual
  pub nodes_of : ℕ → Value Word → List TermNode
  nodes_of d (Int z) = node_of d (number_word z) ∷ []
  nodes_of d (Sym w) = node_of d w ∷ []
  nodes_of d (Comp w vs) = node_of d w ∷ args_nodes (suc d) vs

  pub args_nodes : ℕ → Args Word → List TermNode
  args_nodes d Nil = []
  args_nodes d (Cons v vs) = nodes_of d v ++ args_nodes d vs

-- the nodes are those of a tree
pub record IsTree (ns : List TermNode) : Type 0 where
  pub tree : Value Word
  pub nodes : ns ≡ nodes_of 0 tree

-- each functor has at most most_arguments arguments
abbrev mutual
  pub HasNarrowFunctors : {N : Type 0} → Value N → Type 0
  HasNarrowFunctors (Int z) = Unit {0}
  HasNarrowFunctors (Sym s) = Unit {0}
  HasNarrowFunctors (Comp s vs) = (args_count vs ≤ most_arguments) × HaveNarrowFunctors vs

  pub HaveNarrowFunctors : {N : Type 0} → Args N → Type 0
  HaveNarrowFunctors Nil = Unit {0}
  HaveNarrowFunctors (Cons v vs) = HasNarrowFunctors v × HaveNarrowFunctors vs
