-- What may be in a program and among posts.
use Rattle.std.specs.Prelude.{◌≡◌, ◌<◌, ◌≤◌, ◌+◌, true, false, List, length, filter}
use Rattle.std.specs.List.{list_any}
use Rattle.chr_value.specs.Bounds.{most_comparisons, most_heads, most_items, most_variables}
use Rattle.chr_lex.specs.Tokens.{Name, Number}
use Rattle.chr_grammar.specs.Parsed.{Declared, ParsedAtom, ParsedRule}
use Rattle.chr_limits.specs.Words.{is_out_of_range, is_long, is_variable, phrase_has, rule_has}
use Rattle.chr_limits.specs.Limits.{has_many_args, has_wide_atom, has_large_args, has_large_term, is_comparison, is_item}
use Rattle.chr_limits.specs.Variables.{variables_of, seen}
use Rattle.chr_limits.specs.Scope.{is_in_scope}

-- a rule that may be in a program
pub record IsAllowedRule (r : ParsedRule) : Type 0 where
  pub removes : 0 < length r.removed
  pub numbers : rule_has is_out_of_range r ≡ false
  pub names : rule_has is_long r ≡ false
  pub args : has_wide_atom r ≡ false
  pub terms : has_large_term r ≡ false
  pub heads : length r.kept + length r.removed ≤ most_heads
  pub comparisons : length (filter is_comparison r.guard) ≤ most_comparisons
  pub items : length (filter is_item r.body) ≤ most_items
  pub variables : length (seen (variables_of r)) ≤ most_variables
  pub scoped : is_in_scope r ≡ true

-- names with numbers that may be declared
pub record AreAllowedDeclarations (all : List Declared) : Type 0 where
  pub numbers : list_any (λ d. is_out_of_range (Number false d.digits)) all ≡ false
  pub names : list_any (λ d. is_long (Name d.name)) all ≡ false

-- atoms that may be posted
pub record AreAllowedPosts (atoms : List ParsedAtom) : Type 0 where
  pub numbers : list_any (phrase_has is_out_of_range) atoms ≡ false
  pub names : list_any (phrase_has is_long) atoms ≡ false
  pub args : list_any has_many_args atoms ≡ false
  pub terms : list_any has_large_args atoms ≡ false
  pub no_variables : list_any (phrase_has is_variable) atoms ≡ false
