-- What the search for partners answers.
use Rattle.std.specs.Prelude.{◌≡◌, ◌↔◌, ℕ, zero, suc, ◌+◌, ◌-◌, ◌≤◌, IsTrue, Bool, true, false, List, length, Option, Some, None, slice_get}
use Rattle.std.specs.Option.{MatchOption}
use Rattle.chr_value.specs.Atoms.{Value}
use Rattle.chr_rule.specs.Parts.{shape}
use Rattle.chr_rule.specs.Rules.{Term, RuleAtom, head_at}
use Rattle.chr_rule.specs.Scope.{IsRule}
use Rattle.chr_guard.specs.Values.{Valuation, key_under}
use Rattle.chr_guard.specs.Bindings.{bound_at}
use Rattle.chr_guard.specs.Matching.{IsFit}
use Rattle.chr_plan.specs.Orders.{heads_of, IsPlan}
use Rattle.chr_plan.specs.declared.order.Step.{Step}
use Rattle.chr_model.specs.Stores.{Distinct}
use Rattle.chr_index.specs.Buckets.{IsLeastBetween}
use Rattle.chr_store.specs.Keys.{key_of}
use Rattle.chr_search.specs.declared.join.Asked.{Asked}
use Rattle.chr_search.specs.declared.join.LastHead.{LastHead}
use Rattle.chr_search.specs.Tree.{Least, NoneBeyond, LeastFrom, NoneFrom}
use Rattle.chr_search.specs.Trials.{Join, Fit, MayFollow}

-- the order is the plan of one of the rule's heads
pub record HasPlan (j : Join) : Type 0 where
  pub head : ℕ
  pub from : 1 ≤ head
  pub to : head ≤ length (heads_of j.rule)
  pub plan : IsPlan (heads_of j.rule) head j.order
  pub scoped : IsRule j.rule

-- labels that are distinct and fit, by this binding of their heads' variables
pub record IsReady (j : Join) (labels : List ℕ) (binding : List (Option (Value ℕ))) : Type 0 where
  pub distinct : Distinct labels
  pub fit : IsFit j.rule (λ v. Fit j v j.order labels) binding

-- where a label stands that comes after these: the next head, and whether it is the rule's last
pub record IsLastHead {Z : Type 0} (j : Join) (labels : List ℕ) (at : LastHead Z) : Type 0 where
  pub step_is : slice_get j.order (length labels) ≡ Some at.step
  pub head_is : head_at j.rule at.step.head ≡ Some (shape at.head.now)
  pub last : IsTrue at.is_last ↔ (length j.rule.kept + length j.rule.removed ≤ length labels + 1)

-- what a head has at a place, places being numbered from 1, where that may be a key
abbrev pub key_value : Valuation → Option (Term ℕ) → Option (Value ℕ)
key_value v None = None
key_value v (Some t) = key_under v t

abbrev pub keyed_at : Valuation → RuleAtom ℕ → ℕ → Option (Value ℕ)
keyed_at v head zero = None
keyed_at v head (suc i) = key_value v (slice_get head.args i)

-- the key that is asked for: the head's value at the plan's place, or none where the plan has none
abbrev pub KeyIs : Valuation → RuleAtom ℕ → Option ℕ → Option (ℕ × Value ℕ) → Type 0
KeyIs v head None key = key ≡ None
KeyIs v head (Some place) key =
    (value : Value ℕ) × (keyed_at v head place ≡ Some value) × (key ≡ Some (place, value))

abbrev pub key_in : {Z : Type 0} → Asked Z → Option (ℕ × Value ℕ)
key_in asked = key_of asked.key

-- what is asked for the label after these: the predicate of the next head, and its value at the
-- plan's place
pub record IsAskedFor {Z : Type 0} (j : Join) (labels : List ℕ)
    (binding : List (Option (Value ℕ))) (asked : Asked Z) : Type 0 where
  pub step : Step
  pub step_is : slice_get j.order (length labels) ≡ Some step
  pub head : RuleAtom ℕ
  pub head_is : head_at j.rule step.head ≡ Some head
  pub name : asked.pred.name.number ≡ head.name
  pub arity : asked.pred.arity ≡ length head.args
  pub key : KeyIs (bound_at binding) head step.key (key_in asked)

-- the least label from one on that may be tried after these, or none
abbrev pub IsPartnerFrom : Join → List ℕ → ℕ → Option ℕ → Type 0
IsPartnerFrom j labels from found =
    MatchOption found (NoneFrom (MayFollow j labels) from) (LeastFrom (MayFollow j labels) from)

-- the least of these numbers that lies below the bound, from one on, is the label that may be tried
-- after these labels
abbrev pub GivePartners : Join → List ℕ → List ℕ → Type 0
GivePartners j labels among =
    (from : ℕ) (found : Option ℕ) → IsLeastBetween among (from - 1) j.bound found →
    IsPartnerFrom j labels from found

-- where the answer is yes the labels are lengthened to the least at or after a place, and where it
-- is no there are none
abbrev pub LengthenedIf : Join → List ℕ → Bool → List ℕ → List ℕ → Type 0
LengthenedIf j place true old new = Least (MayFollow j) 1 old place new
LengthenedIf j place false old new = NoneBeyond (MayFollow j) 1 old place × (new ≡ old)
