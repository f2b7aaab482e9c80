-- A cause in a graph, in the language of Graphviz.
use Rattle.std.specs.Prelude.{ℕ, List, [], ◌∷◌, ◌++◌, flat_map, codes, Option, Some, None, slice_get, ◌==◌, ◌||◌, if◌then◌else◌}
use Rattle.std.specs.Fmt.{decimal}
use Rattle.chr_log.specs.Events.{Event, Post, Activate, Fire, Drop}
use Rattle.chr_explain.specs.Reasons.{Reason}
use Rattle.chr_explain.specs.Lines.{Recorded, cause_line}

-- a quote and a backslash have a backslash before them
abbrev pub escaped : ℕ → List ℕ
escaped b = if (b == 34) || (b == 92) then 92 ∷ b ∷ [] else b ∷ []

abbrev pub quoted : List ℕ → List ℕ
quoted bytes = 34 ∷ (flat_map escaped bytes ++ 34 ∷ [])

-- the arrow from a label to another, with what follows it
abbrev pub arrow : ℕ → List ℕ → ℕ → List ℕ
arrow to end from = codes "  " ++ (decimal from ++ (codes " -> " ++ (decimal to ++ end)))

abbrev pub firing_arrows : ℕ → List ℕ → List ℕ → List ℕ
firing_arrows to kept removed =
    flat_map (arrow to (codes " [style=dashed];\n")) kept ++
    flat_map (arrow to (codes ";\n")) removed

-- the arrows to a label from the heads of its firing: dashed from a kept head
abbrev pub arrows : ℕ → Option (Event ℕ) → List ℕ
arrows to (Some (Fire t r kept removed)) = firing_arrows to kept removed
arrows to (Some (Post t a)) = []
arrows to (Some (Activate t l)) = []
arrows to (Some (Drop t)) = []
arrows to None = []

-- the node of a cause, with its line as label, and the arrows to it
abbrev pub node : Recorded → Reason → List ℕ
node r reason =
    codes "  " ++
    (decimal reason.cause.label ++
    (codes " [label=" ++
    (quoted (cause_line r reason) ++
    (codes "];\n" ++ arrows reason.cause.label (slice_get r.log reason.cause.origin.made)))))
