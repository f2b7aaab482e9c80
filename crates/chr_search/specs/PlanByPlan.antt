-- Searches that pass over trials plan by plan.
use Rattle.std.specs.Prelude.{◌≡◌, ℕ, zero, suc, ◌==◌, ◌≤◌, true, ◌&&◌, if◌then◌else◌, List, [], ◌∷◌, length, take, Option, Some, None}
use Rattle.chr_value.specs.Atoms.{Atom}
use Rattle.chr_value.specs.declared.atom.Pred.{Pred}
use Rattle.chr_rule.specs.Rules.{Simpagation}
use Rattle.chr_rule.specs.Occurrences.{HeadsFrom, AreHeadsFrom}
use Rattle.chr_model.specs.Stores.{atom_at}
use Rattle.chr_plan.specs.declared.order.Step.{Step}
use Rattle.chr_search.specs.declared.passing.End.{End}
use Rattle.chr_search.specs.declared.passing.End.TheVariants as ends
use Rattle.chr_search.specs.declared.search.Then.{Then as CodeThen}
use Rattle.chr_search.specs.declared.search.Then.TheVariants as thens
use Rattle.chr_search.specs.Positions.{at_or_after, past}
use Rattle.chr_search.specs.Trials.{Join, MayFollow, Space, join_in, IsPlanned, IsTrial}
use Rattle.chr_search.specs.Partners.{HasPlan}
use Rattle.chr_search.specs.Wholes.{WholeTrial}

-- the label at a head, of labels in a plan's order, 0 where there is none; and the labels at the
-- next n heads
abbrev pub label_at_head : List Step → List ℕ → ℕ → ℕ
label_at_head order [] h = 0
label_at_head [] (l ∷ ls) h = 0
label_at_head (step ∷ order) (l ∷ ls) h = if step.head == h then l else label_at_head order ls h

abbrev pub labels_at_heads : List Step → List ℕ → ℕ → ℕ → List ℕ
labels_at_heads order ls h zero = []
labels_at_heads order ls h (suc n) = label_at_head order ls h ∷ labels_at_heads order ls (suc h) n

-- what the join of a plan is, and that there is no plan
pub record IsJoinOf (s : Space) (r h : ℕ) (j : Join) : Type 0 where
  pub planned : IsPlanned s r h j.rule j.order
  pub is : j ≡ join_in s j.rule j.order
  pub plan : HasPlan j

abbrev pub IsUnplanned : Space → ℕ → ℕ → Type 0
IsUnplanned s r h = (rule : Simpagation ℕ) (order : List Step) → IsPlanned s r h rule order → ⊥

-- what it is where the active atom has that head's predicate
pub record IsJoinAt (s : Space) (r h : ℕ) (j : Join) : Type 0 where
  pub planned : IsPlanned s r h j.rule j.order
  pub is : j ≡ join_in s j.rule j.order
  pub plan : HasPlan j
  pub begins : MayFollow j [] j.active

-- where a place stands in the plan of a rule and a head: its labels, none where it is a place of
-- another plan
abbrev pub labels_in : List ℕ → ℕ → ℕ → List ℕ
labels_in [] r h = []
labels_in (x ∷ []) r h = []
labels_in (x ∷ y ∷ ls) r h = if (x == r) && (y == h) then ls else []

-- A search with this place has come to the plan of a rule and a head: it is at its place or a later
-- one, and no admissible trial from the place on lies before it.
pub record HasComeTo (s : Space) (place : List ℕ) (r h : ℕ) : Type 0 where
  pub later : at_or_after (take 2 place) (r ∷ h ∷ []) ≡ true
  pub none : (t : List ℕ) → IsTrial s t → at_or_after place t ≡ true →
      at_or_after (r ∷ h ∷ []) t ≡ true

-- from one rule and head on, the join of the next plan whose head has the active atom's predicate
pub record IsNextJoin (s : Space) (r h x y : ℕ) (j : Join) : Type 0 where
  pub come : HasComeTo s (r ∷ h ∷ []) x y
  pub join : IsJoinAt s x y j

-- the predicate of the active atom
pub record IsActive (s : Space) (p : Pred) : Type 0 where
  pub atom : Atom ℕ
  pub live : atom_at s.store s.active ≡ Some atom
  pub name : p.name.number ≡ atom.name
  pub arity : p.arity ≡ length atom.args

-- these are the heads of the active atom's predicate at or after a rule and a head
pub record AreAhead (s : Space) (r h : ℕ) (heads : HeadsFrom) : Type 0 where
  pub active : IsActive s heads.pred
  pub listed : AreHeadsFrom s.rules heads r h

-- this is the trial of these labels, one for each head, by the plan of a rule and a head
pub record IsWholeAt (j : Join) (r h : ℕ) (ls : List ℕ) (w : WholeTrial) : Type 0 where
  pub number_is : w.number ≡ r
  pub kept_are : w.kept ≡ labels_at_heads j.order ls 1 (length j.rule.kept)
  pub removed_are : w.removed ≡
      labels_at_heads j.order ls (suc (length j.rule.kept)) (length j.rule.removed)
  pub label_is : w.past.label ≡ j.active
  pub past_is : h ≤ length j.rule.kept → w.past.place ≡ past (r ∷ h ∷ ls)

-- what comes once trials of the plan of a rule and a head were passed over, and where the search
-- stands then: nothing, where none of them is left; perhaps more, from these labels on; or the
-- trial of these labels, which is whole
abbrev pub IsThenAfter : Join → ℕ → ℕ → List ℕ → End → Option CodeThen → WholeTrial → List ℕ →
    List ℕ → Type 0
IsThenAfter j r h ls ends.NoneLeft found w stood here = (found ≡ None) × (here ≡ stood)
IsThenAfter j r h ls ends.Enough found w stood here =
    (found ≡ Some thens.More) × (here ≡ r ∷ h ∷ ls)
IsThenAfter j r h ls ends.Whole found w stood here =
    (found ≡ Some thens.Whole) × (here ≡ stood) × IsWholeAt j r h ls w
