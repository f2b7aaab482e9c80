-- The variables of a term and those of its arguments.
use Rattle.std.proofs.Common.{◌≡◌, ◌||◌, ℕ, Bool, List, [], ◌∷◌, map, Box, refl, sym, ap, ◌∙◌}
use Rattle.chr_rule.specs.Rules.{Term, terms_of}
use Rattle.chr_rule.specs.Parts.{argument}
use Rattle.chr_rule.specs.declared.term.Term as terms
use Rattle.chr_rule.specs.declared.term.Term.{Term as CodeTerm}
use Rattle.chr_rule.specs.declared.term.Open.{Open as CodeOpen}
use Rattle.chr_rule.proofs.Levels.{argument-parts}
use Rattle.chr_plan.specs.Orders.{stands_in, stands_among, has_variable}

among-terms : (x : ℕ) (ts : List (Term ℕ)) → stands_among x (terms_of ts) ≡ has_variable x ts
among-terms x [] = refl
among-terms x (t ∷ ts) = ap (λ (b : Bool). stands_in x t || b) (among-terms x ts)

pub stands-parts : {A : Type 0} (term : CodeTerm A) (o : Box (CodeOpen A) A) (ts : List (CodeTerm A)) → term ≡ terms.Open o → ts ≡ o.value.args.list.items → (x : ℕ)
    → has_variable x (map argument ts) ≡ stands_in x (argument term)
stands-parts term o ts is e x = sym (ap (stands_in x) (argument-parts term o ts is e) ∙ among-terms x (map argument ts))
