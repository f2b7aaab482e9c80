-- The explanation of a label.
use Rattle.std.specs.Prelude.{◌≡◌, ℕ, List, [], ◌∷◌, ◌++◌, flat_map, map, codes}
use Rattle.std.specs.List.{AllByRecursion}
use Rattle.chr_value.specs.Atoms.{Atom}
use Rattle.chr_rule.specs.Rules.{Simpagation}
use Rattle.chr_causes.specs.Causes.{AreCauses}
use Rattle.chr_explain.specs.declared.explanation.Form.{Form}
use Rattle.chr_explain.specs.declared.explanation.Form.TheVariants.{Text, Dot}
use Rattle.chr_explain.specs.declared.explanation.Question.{Question}
use Rattle.chr_explain.specs.Atoms.{AreAtoms}
use Rattle.chr_explain.specs.Reasons.{Reason, IsReason}
use Rattle.chr_explain.specs.Lines.{Recorded, cause_line}
use Rattle.chr_explain.specs.Graphs.{node}

-- a line for each cause, or the node of each in a graph
abbrev pub explanation_text : Form → Recorded → List Reason → List ℕ
explanation_text Text r reasons = flat_map (λ reason. cause_line r reason ++ 10 ∷ []) reasons
explanation_text Dot r reasons =
    codes "digraph causes {\n  node [shape=box];\n" ++ (flat_map (node r) reasons ++ codes "}\n")

-- The explanation of a label: exactly its causes are shown, each once, by rising label, with their
-- reasons.
pub record IsExplanation (rules : List (Simpagation ℕ)) (r : Recorded) (question : Question)
    (out : List ℕ) : Type 0 where
  pub atoms : List (Atom ℕ)
  pub known : AreAtoms rules r.log atoms
  pub reasons : List Reason
  pub causes : AreCauses rules r.log question.label (map (λ reason. reason.cause) reasons)
  pub each : AllByRecursion (IsReason rules r.log atoms question.gone) reasons
  pub text : out ≡ explanation_text question.form r reasons
