-- When a label may follow others.
use Rattle.std.proofs.Common.{◌≡◌, ℕ, List, [], ◌∷◌, length, Option, Some, None, slice_get, refl, sym, ◌∙◌, ap, subst, arith}
use Rattle.std.proofs.lemmas.List.{length-map}
use Rattle.chr_value.specs.Atoms.{Value, Atom}
use Rattle.chr_value.proofs.Chosen.{some_is}
use Rattle.chr_rule.specs.Rules.{RuleAtom, head_at}
use Rattle.chr_guard.specs.Values.{Valuation, term_under}
use Rattle.chr_guard.specs.Instances.{atom_under}
use Rattle.chr_guard.proofs.Under.{atom_is}
use Rattle.chr_model.specs.Stores.{atom_at, Distinct}
use Rattle.chr_plan.specs.Orders.{heads_of, first_step, IsPlan}
use Rattle.chr_plan.specs.declared.order.Step.{Step}
use Rattle.chr_search.specs.Trials.{IsLiveFor, Join, StandsAt, Fit, HasHeadPred, given_at, HasKeyValue, IsInTurn, MayFollow}
use Rattle.chr_search.proofs.Plans.{given_is, stands_head, step_key_given}

-- a live label whose atom has the key's value
pub follows_live : (j : Join) (ls : List ℕ) (l : ℕ) → IsInTurn j ls l → Distinct ls → (v : Valuation) → Fit j v j.order ls → (step : Step) → slice_get j.order (length ls) ≡ Some step → (i : IsLiveFor j step l) → HasKeyValue v i.head step.key i.atom → MayFollow j ls l
follows_live j ls l turn distinct v fits step step_is i key = record { turn = turn; distinct = distinct; valuation = v; fits = fits; step = step; step_is = step_is; here = i; key = key }

-- an atom of a head has its predicate
has_pred : (v : Valuation) (head : RuleAtom ℕ) (atom : Atom ℕ) → atom_under v head ≡ Some atom → HasHeadPred head atom
has_pred v head atom e =
    let u = (atom_is v head atom).0 e in
    (sym u.0, sym (length-map atom.args (λ x. Some x)) ∙ ap length (sym u.1) ∙ length-map head.args (term_under v))

-- an atom of a head has the key's value, where the head has one
has_key : (v : Valuation) (head : RuleAtom ℕ) (atom : Atom ℕ) → atom_under v head ≡ Some atom → (key : Option ℕ) → ((place : ℕ) → key ≡ Some place → (value : Value ℕ) × (given_at v head place ≡ Some value)) → HasKeyValue v head key atom
has_key v head atom e None f = tt
has_key v head atom e (Some place) f = let g = f place refl in (g.0, g.1, sym (given_is v head atom e place) ∙ g.1)

-- a label that stands at the next step of a plan
pub follows_at : (j : Join) (h : ℕ) → IsPlan (heads_of j.rule) h j.order → (v : Valuation) (ls : List ℕ) (l : ℕ) → IsInTurn j ls l → Distinct ls → (step : Step) → slice_get j.order (length ls) ≡ Some step → Fit j v j.order ls → StandsAt j v step l → MayFollow j ls l
follows_at j h p v ls l turn d step at f s =
    let head = stands_head j v step l s in
    follows_live j ls l turn d v f step at (record { head = head.0; head_is = head.1; atom = s.atom; live = s.live; pred = has_pred v head.0 s.atom head.2 }) (has_key v head.0 s.atom head.2 step.key (known ls f at head.0 head.1))
  where
    known : (before : List ℕ) → Fit j v j.order before → slice_get j.order (length before) ≡ Some step → (head : RuleAtom ℕ) → head_at j.rule step.head ≡ Some head → (place : ℕ) → step.key ≡ Some place → (value : Value ℕ) × (given_at v head place ≡ Some value)
    known [] g at head is place k =
        let first : step ≡ first_step (heads_of j.rule) h = some_is step (first_step (heads_of j.rule) h) (sym at ∙ ap (λ (z : List Step). slice_get z 0) p.first) in
        let n : None ≡ Some place = sym (ap (λ (y : Step). y.key) first) ∙ k in
        absurd (cc)
    known (y ∷ before) g at head is place k = step_key_given j h v (y ∷ before) step head place p (omega arith) g at is k

-- the atom of a label that may follow has the predicate of the next head
pub pred_follows : (j : Join) (ls : List ℕ) (l : ℕ) → MayFollow j ls l → (step : Step) → slice_get j.order (length ls) ≡ Some step → (head : RuleAtom ℕ) → head_at j.rule step.head ≡ Some head → (atom : Atom ℕ) → atom_at j.store l ≡ Some atom → HasHeadPred head atom
pred_follows j ls l m step at head is atom live =
    let here : m.step ≡ step = some_is m.step step (sym m.step_is ∙ at) in
    let same : m.head ≡ head = some_is m.head head (sym m.head_is ∙ ap (λ (x : Step). head_at j.rule x.head) here ∙ is) in
    subst (λ h. HasHeadPred h atom) same (subst (HasHeadPred m.head) (some_is m.atom atom (sym m.live ∙ live)) m.pred)
