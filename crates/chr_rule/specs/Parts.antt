-- What the parts of a rule say, wherever they lie in memory.
use Rattle.std.specs.Prelude.{ℕ, List, map, take, drop}
use Rattle.chr_value.specs.Atoms.{ground}
use Rattle.chr_rule.specs.declared.term.Term.{Term as CodeTerm, fold-Term}
use Rattle.chr_rule.specs.declared.term.Term.TheOpen.{Term-F, Open-F}
use Rattle.chr_rule.specs.declared.rule_atom.RuleAtom.{RuleAtom as CodeRuleAtom}
use Rattle.chr_rule.specs.declared.expression.Expr.{Expr}
use Rattle.chr_rule.specs.declared.expression.Expr.TheVariants as exprs
use Rattle.chr_rule.specs.declared.expression.Comparison.{Comparison as CodeComparison}
use Rattle.chr_rule.specs.declared.expression.Comparison.TheVariants as comparisons
use Rattle.chr_rule.specs.declared.expression.BodyItem.{BodyItem as CodeBodyItem}
use Rattle.chr_rule.specs.declared.expression.BodyItem.TheVariants as items
use Rattle.chr_rule.specs.Rules.{Term, Var, Given, Open, terms_of, RuleAtom, Expression, Number, Variable, Operation, Comparison, Compared, Same, Differ, BodyItem, Is, Add, Simpagation, of_parts}

-- one level of a term, with the terms in it already seen as what they say
abbrev pub argument_step : {A : Type 0} → Term-F A (Term ℕ) (Term ℕ) → Term ℕ
argument_step (Term-F.Var x) = Var x
argument_step (Term-F.Given v) = Given (ground v)
argument_step (Term-F.Open o) = o.value

abbrev pub open_step : {A : Type 0} → Open-F A (Term ℕ) (Term ℕ) → Term ℕ
open_step o = Open o.functor.number (terms_of o.args.list.items)

abbrev pub argument : {A : Type 0} → CodeTerm A → Term ℕ
argument {A} = fold-Term A (Term ℕ) (Term ℕ) argument_step open_step

abbrev pub shape : {A : Type 0} → CodeRuleAtom A → RuleAtom ℕ
shape p = record { name = p.name.number; args = map argument p.terms.items }

abbrev pub expression : {Z : Type 0} → Expr Z → Expression
expression (exprs.Number n) = Number n
expression (exprs.Var x) = Variable x
expression (exprs.Operation' o p a q b) = Operation o (expression a) (expression b)

abbrev pub comparison : {Z : Type 0} → CodeComparison Z → Comparison ℕ
comparison (comparisons.Numbers r a b) = Compared r (expression a) (expression b)
comparison (comparisons.Same s t) = Same (argument s) (argument t)
comparison (comparisons.Differ s t) = Differ (argument s) (argument t)

abbrev pub member : {Z : Type 0} → CodeBodyItem Z → BodyItem ℕ
member (items.Is x e) = Is x (expression e)
member (items.Add p) = Add (shape p)

-- the rule of these parts, where the first so many heads are kept
abbrev pub rule_of : {Z : Type 0} → ℕ → List (CodeRuleAtom Z) → ℕ → List (CodeComparison Z) →
    List (CodeBodyItem Z) → Simpagation ℕ
rule_of n heads kept guard body =
    of_parts n (map shape (take kept heads)) (map shape (drop kept heads)) (map comparison guard)
    (map member body)
