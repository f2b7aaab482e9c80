-- How many elements pass a test, and how many arguments a word has, one element more.
use Rattle.std.proofs.Common.{◌≡◌, ◌<◌, ℕ, suc, ◌+◌, ◌-◌, Bool, true, false, List, ◌∷◌, length, filter, cond, nat_eq, nat_lt, map, drop, get_or, refl, ap, ◌∙◌, arith, ◌≤◌, ◌*◌, []}
use Rattle.std.specs.List.{take_while}
use Rattle.std.proofs.lemmas.Bool.{cond-true, lt-ltb, eq-eqb, ne_eqb}
use Rattle.std.proofs.lemmas.List.{at_drop_more}
use Rattle.std.proofs.lemmas.List.Sums.{take_while-cons}
use Rattle.chr_grammar.specs.Parsed as parsed
use Rattle.chr_grammar.specs.declared.term.TermNode.{TermNode}
use Rattle.chr_grammar.specs.Views.{node}
use Rattle.chr_limits.specs.Limits.{arguments_behind}
use Rattle.chr_limits.specs.Numbers.{decimal_from}

pub counted : {X W : Type 0} (p : W → Bool) (v : X → W) (k total : ℕ) (xs : List X) (i : ℕ) (d : X) → i < length xs → k + length (filter p (map v (drop i xs))) ≡ total
    → cond (p (v (get_or xs i d))) (k + 1) k + length (filter p (map v (drop (i + 1) xs))) ≡ total
counted {X} p v k total xs i d lt so_far = by (p (v (get_or xs i d))) (at_drop_more (λ (l : List X). length (filter p (map v l))) xs i d lt)
  where
    by : (b : Bool) → length (filter p (map v (drop i xs))) ≡ length (cond b (v (get_or xs i d) ∷ filter p (map v (drop (i + 1) xs))) (filter p (map v (drop (i + 1) xs)))) → cond b (k + 1) k + length (filter p (map v (drop (i + 1) xs))) ≡ total
    by true e = omega (arith, e, so_far)
    by false e = omega (arith, e, so_far)

-- ---- arguments

abbrev inside : ℕ → List parsed.TermNode → List parsed.TermNode
inside d ns = take_while (λ n. nat_lt d n.depth) ns

abbrev direct : ℕ → List parsed.TermNode → ℕ
direct d ns = length (filter (λ n. nat_eq n.depth (suc d)) ns)

deeper_more : (d : ℕ) (n : parsed.TermNode) (ns : List parsed.TermNode) → d < n.depth → arguments_behind d (n ∷ ns) ≡ direct d (n ∷ inside d ns)
deeper_more d n ns h = ap (direct d) (take_while-cons (λ n. nat_lt d n.depth) n ns ∙ cond-true (nat_lt d n.depth) _ _ (lt-ltb d n.depth h))

-- ---- at a step of a loop

there : (d : ℕ) (ns : List TermNode) (i : ℕ) (e : TermNode) → i < length ns → arguments_behind d (map node (drop i ns)) ≡ arguments_behind d (node (get_or ns i e) ∷ map node (drop (i + 1) ns))
there d ns i e lt = at_drop_more (λ (l : List TermNode). arguments_behind d (map node l)) ns i e lt

pub counted_one : (d k total : ℕ) (ns : List TermNode) (i : ℕ) (e : TermNode) → i < length ns → d < (get_or ns i e).depth → (get_or ns i e).depth - d ≡ 1 → k + arguments_behind d (map node (drop i ns)) ≡ total
    → k + 1 + arguments_behind d (map node (drop (i + 1) ns)) ≡ total
counted_one d k total ns i e lt deeper by_one so_far =
    let is : (get_or ns i e).depth ≡ suc d = omega arith in
    let one : direct d (node (get_or ns i e) ∷ inside d (map node (drop (i + 1) ns))) ≡ suc (arguments_behind d (map node (drop (i + 1) ns))) = rw (eq-eqb (get_or ns i e).depth (suc d) is) refl in
    let more = there d ns i e lt ∙ deeper_more d (node (get_or ns i e)) (map node (drop (i + 1) ns)) deeper ∙ one in
    omega (arith, more, so_far)

pub counted_none : (d k total : ℕ) (ns : List TermNode) (i : ℕ) (e : TermNode) → i < length ns → d < (get_or ns i e).depth → ((get_or ns i e).depth - d ≡ 1 → ⊥) → k + arguments_behind d (map node (drop i ns)) ≡ total
    → k + arguments_behind d (map node (drop (i + 1) ns)) ≡ total
counted_none d k total ns i e lt deeper other so_far =
    let none : direct d (node (get_or ns i e) ∷ inside d (map node (drop (i + 1) ns))) ≡ arguments_behind d (map node (drop (i + 1) ns)) = rw (ne_eqb (get_or ns i e).depth (suc d) (λ h. other (omega (arith, h)))) refl in
    let same = there d ns i e lt ∙ deeper_more d (node (get_or ns i e)) (map node (drop (i + 1) ns)) deeper ∙ none in
    omega (arith, same, so_far)

pub decimal_least : (n : ℕ) (ds : List ℕ) → n ≤ decimal_from n ds
decimal_least n [] = omega arith
decimal_least n (d ∷ ds) = let h = decimal_least (n * 10 + (d - 48)) ds in omega (arith, h)
