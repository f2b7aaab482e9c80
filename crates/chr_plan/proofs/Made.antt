-- Plans, rule by rule and head by head.
use Rattle.std.proofs.Common.{◌≡◌, ℕ, ◌+◌, ◌<◌, ◌≤◌, List, [], ◌∷◌, ◌++◌, map, length, Some, None, slice_get, slice_index_or, refl, sym, ap, subst, ◌∙◌, arith, inl, inr, length-append}
use Rattle.std.specs.Option.{option_map}
use Rattle.std.proofs.lemmas.List.{length-map}
use Rattle.std.proofs.lemmas.Option.{slice_get-map, slice_get_read}
use Rattle.chr_rule.specs.Rules.{Simpagation}
use Rattle.chr_plan.specs.Plans.{PlanList, AreOrders, ArePlans}
use Rattle.chr_plan.specs.declared.order.Step.{Step}
use Rattle.chr_plan.proofs.Lists.{get_pushed}

-- plans for the first n rules
pub record PlansSoFar (rules : List (Simpagation ℕ)) (n : ℕ) (plans : PlanList) : Type 0 where
  pub count : length plans ≡ n
  pub each : (i : ℕ) (rule : Simpagation ℕ) (orders : List (List Step)) → slice_get rules i ≡ Some rule → slice_get plans i ≡ Some orders → AreOrders rule orders

pub plans_start : (rules : List (Simpagation ℕ)) → PlansSoFar rules 0 []
plans_start rules = record { count = refl; each = λ i rule orders g h. let z : None ≡ Some orders = h in absurd (cc) }

pub plans_more : (rules : List (Simpagation ℕ)) (n : ℕ) (plans : PlanList) (this : Simpagation ℕ) (o : List (List Step)) → PlansSoFar rules n plans → slice_get rules n ≡ Some this → AreOrders this o → PlansSoFar rules (n + 1) (plans ++ o ∷ [])
plans_more rules n plans this o h r p = record {
  count = (let c = h.count in let l = length-append plans (o ∷ []) in omega (arith, c, l));
  each = λ i rule orders g k. elim (get_pushed plans o orders i k) [
    | inl q ↦ h.each i rule orders g q
    | inr e ↦
        let here : slice_get rules i ≡ Some this = ap (slice_get rules) (e.0 ∙ h.count) ∙ r in
        let same : this ≡ rule = cc in
        subst (AreOrders rule) e.1 (subst (λ (s : Simpagation ℕ). AreOrders s o) same p)
  ];
}

pub rule_here : {B : Type 0} (f : B → Simpagation ℕ) (xs : List B) (rules : List (Simpagation ℕ)) (n : ℕ) (x : B) → map f xs ≡ rules → n < length xs → x ≡ slice_index_or xs n x → slice_get rules n ≡ Some (f x)
rule_here f xs rules n x e h is = ap (λ z. slice_get z n) (sym e) ∙ slice_get-map f xs n ∙ ap (option_map f) (slice_get_read xs (length xs) n x refl h is)

pub plans_end : {B : Type 0} (f : B → Simpagation ℕ) (xs : List B) (rules : List (Simpagation ℕ)) (n : ℕ) (plans : PlanList) → map f xs ≡ rules → length xs ≤ n → n ≤ length xs → PlansSoFar rules n plans → ArePlans rules plans
plans_end f xs rules n plans e low high h =
    let same : length rules ≡ length xs = sym (ap length e) ∙ length-map xs f in
    let c : length plans ≡ n = h.count in
    record { count = omega arith; each = h.each }
