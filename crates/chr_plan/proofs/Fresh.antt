-- Which arguments of a head are new, one at a time.
use Rattle.std.proofs.Common.{◌≡◌, ℕ, suc, ◌+◌, ◌<◌, ◌≤◌, Bool, true, false, ◌||◌, ◌&&◌, List, length, map, drop, drop-cons, Option, slice_index_or, sym, ap, ap₂, ◌∙◌, add-one}
use Rattle.std.proofs.lemmas.List.{drop_all}
use Rattle.chr_rule.specs.Parts.{argument}
use Rattle.chr_rule.specs.declared.term.Term.{Term as CodeTerm}
use Rattle.chr_plan.specs.Orders.{stands_in, is_new, is_key, are_new}

-- whether the arguments from an index on are new
abbrev pub new_from : {A : Type 0} → (ℕ → Bool) → Option ℕ → List (CodeTerm A) → ℕ → Bool
new_from bound key ts i = are_new bound key (suc i) (map argument (drop i ts))

here : {A : Type 0} (bound : ℕ → Bool) (key : Option ℕ) (ts : List (CodeTerm A)) (i : ℕ) (t : CodeTerm A) → i < length ts → t ≡ slice_index_or ts i t → new_from bound key ts i ≡ ((is_key key (suc i) || is_new bound (argument t)) && new_from (λ x. stands_in x (argument t) || bound x) key ts (suc i))
here bound key ts i t u is =
    ap (λ z. are_new bound key (suc i) (map argument z)) (drop-cons ts i t u)
    ∙ ap (λ z. (is_key key (suc i) || is_new bound (argument z)) && new_from (λ x. stands_in x (argument z) || bound x) key ts (suc i)) (sym is)

pub new_next : {A : Type 0} (old new : ℕ → Bool) (key : Option ℕ) (ts : List (CodeTerm A)) (i : ℕ) (t : CodeTerm A) → i < length ts → t ≡ slice_index_or ts i t → ((x : ℕ) → new x ≡ (stands_in x (argument t) || old x)) → (is_key key (i + 1) || is_new old (argument t)) ≡ true → new_from new key ts (i + 1) ≡ new_from old key ts i
new_next old new key ts i t u is more met =
    let grown : new ≡ (λ x. stands_in x (argument t) || old x) = λ k x. more x k in
    ap (new_from new key ts) (add-one i) ∙ ap (λ b. new_from b key ts (suc i)) grown
    ∙ sym (here old key ts i t u is ∙ ap (λ b. b && new_from (λ x. stands_in x (argument t) || old x) key ts (suc i)) (ap (λ n. is_key key n || is_new old (argument t)) (sym (add-one i)) ∙ met))

pub none_new : {A : Type 0} (bound : ℕ → Bool) (key : Option ℕ) (ts : List (CodeTerm A)) (i : ℕ) (t : CodeTerm A) → i < length ts → t ≡ slice_index_or ts i t → is_key key (i + 1) ≡ false → is_new bound (argument t) ≡ false → false ≡ new_from bound key ts i
none_new bound key ts i t u is k n =
    let neither : (is_key key (suc i) || is_new bound (argument t)) ≡ false = ap₂ (λ a b. a || b) (ap (is_key key) (sym (add-one i)) ∙ k) n in
    sym (here bound key ts i t u is ∙ ap (λ b. b && new_from (λ x. stands_in x (argument t) || bound x) key ts (suc i)) neither)

pub new_end : {A : Type 0} (bound : ℕ → Bool) (key : Option ℕ) (ts : List (CodeTerm A)) (i : ℕ) → length ts ≤ i → true ≡ new_from bound key ts i
new_end bound key ts i u = ap (λ z. are_new bound key (suc i) (map argument z)) (sym (drop_all i ts u))
