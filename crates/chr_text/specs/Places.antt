-- The variables at the places of a rule, in the order of its text.
use Rattle.std.specs.Prelude.{ℕ, List, [], ◌∷◌, ◌++◌, flat_map}
use Rattle.chr_rule.specs.Rules.{Term, Var, Given, Open, Terms, End, And, RuleAtom, Expression, Number, Variable, Operation, Comparison, Compared, Same, Differ, BodyItem, Is, Add, Simpagation}

abbrev mutual
  pub term_places : {N : Type 0} → Term N → List ℕ
  term_places (Var x) = x ∷ []
  term_places (Given t) = []
  term_places (Open s ts) = terms_places ts

  pub terms_places : {N : Type 0} → Terms N → List ℕ
  terms_places End = []
  terms_places (And t ts) = term_places t ++ terms_places ts

abbrev pub atom_places : {N : Type 0} → RuleAtom N → List ℕ
atom_places s = flat_map term_places s.args

abbrev pub expression_places : Expression → List ℕ
expression_places (Number z) = []
expression_places (Variable x) = x ∷ []
expression_places (Operation o a b) = expression_places a ++ expression_places b

abbrev pub comparison_places : {N : Type 0} → Comparison N → List ℕ
comparison_places (Compared r a b) = expression_places a ++ expression_places b
comparison_places (Same s t) = term_places s ++ term_places t
comparison_places (Differ s t) = term_places s ++ term_places t

abbrev pub item_places : {N : Type 0} → BodyItem N → List ℕ
item_places (Is x e) = x ∷ expression_places e
item_places (Add s) = atom_places s

abbrev pub places : {N : Type 0} → Simpagation N → List ℕ
places r =
    flat_map atom_places r.kept ++ flat_map atom_places r.removed ++
    flat_map comparison_places r.guard ++ flat_map item_places r.body
