-- How deep, how large and how wide a tree is, by its nodes in text order.
use Rattle.std.proofs.Common.{◌≡◌, ◌<◌, ◌≤◌, ◌↔◌, ℕ, suc, ◌+◌, max, Bool, true, false, cond, eqb, ltb, leb, ◌||◌, List, [], ◌∷◌, ◌++◌, length, filter, append_assoc, length-append, refl, sym, ap, ap₂, ◌∙◌, arith, leb-false, ltb-false, ltb-true, le-ltb}
use Rattle.std.specs.List.{AllByRecursion, take_while}
use Rattle.std.proofs.lemmas.List.{append-nil}
use Rattle.std.proofs.lemmas.List.Sums.{take_while-cons}
use Rattle.std.proofs.lemmas.Bool.{or_from}
use Rattle.std.proofs.lemmas.Bool.Decides.{nat_tests}
use Rattle.chr_value.specs.Atoms.{Value, Int, Sym, Comp, Args, Nil, Cons, args_count}
use Rattle.chr_value.specs.Limits.{depth, args_depth, size, args_size}
use Rattle.chr_value.proofs.Texts.{neither}
use Rattle.chr_lex.specs.Tokens.{Word}
use Rattle.chr_grammar.specs.Parsed.{TermNode, ParsedTerm}
use Rattle.chr_grammar.specs.Spelling.{AreNodes, IsParsedTerm}
use Rattle.chr_grammar.proofs.Members_again.{all_append}
use Rattle.chr_limits.specs.Limits.{is_deep, arguments_behind, has_wide_functor, is_large_term}
use Rattle.chr_limits.specs.Trees.{number_word, node_of, nodes_of, args_nodes, IsTree, HasNarrowFunctors, HaveNarrowFunctors}

-- ---- the size is the number of nodes

mutual
  counted : (d : ℕ) (v : Value Word) → length (nodes_of d v) ≡ size v
  counted d (Int z) = refl
  counted d (Sym w) = refl
  counted d (Comp w vs) = ap suc (args_counted (suc d) vs)

  args_counted : (d : ℕ) (vs : Args Word) → length (args_nodes d vs) ≡ args_size vs
  args_counted d Nil = refl
  args_counted d (Cons v vs) = length-append (nodes_of d v) (args_nodes d vs) ∙ ap₂ (λ (m n : ℕ). m + n) (counted d v) (args_counted d vs)

-- ---- the depth is that of the deepest node

-- each node stands in fewer parentheses
abbrev AreBelow : ℕ → List TermNode → Type 0
AreBelow m ns = AllByRecursion (λ n. n.depth < m) ns

front_below : (m : ℕ) (ns ms : List TermNode) → AreBelow m (ns ++ ms) → AreBelow m ns × AreBelow m ms
front_below m [] ms all = (tt, all)
front_below m (n ∷ ns) ms all = let rest = front_below m ns ms all.1 in ((all.0, rest.0), rest.1)

mutual
  reached : (m d : ℕ) (v : Value Word) → (d + depth v ≤ m) ↔ AreBelow m (nodes_of d v)
  reached m d (Int z) = (λ le. (omega (arith, le), tt), λ all. let lt = all.0 in omega (arith, lt))
  reached m d (Sym w) = (λ le. (omega (arith, le), tt), λ all. let lt = all.0 in omega (arith, lt))
  reached m d (Comp w vs) = (
    λ le. (omega (arith, le), (args_reached m (suc d) vs (omega (arith, le))).0 (omega (arith, le))),
    λ all. let lt = all.0 in let rest = (args_reached m (suc d) vs (omega (arith, lt))).1 all.1 in omega (arith, rest),
  )

  args_reached : (m d : ℕ) (vs : Args Word) → d ≤ m → (d + args_depth vs ≤ m) ↔ AreBelow m (args_nodes d vs)
  args_reached m d Nil le = (λ h. tt, λ all. omega (arith, le))
  args_reached m d (Cons v vs) le = (
    λ h. all_append (λ (n : TermNode). n.depth < m) (nodes_of d v) (args_nodes d vs) ((reached m d v).0 (left (depth v) (args_depth vs) h)) ((args_reached m d vs le).0 (right (depth v) (args_depth vs) h)),
    λ all. let parts = front_below m (nodes_of d v) (args_nodes d vs) all in both (depth v) (args_depth vs) ((reached m d v).1 parts.0) ((args_reached m d vs le).1 parts.1),
  )
    where
      left : (a b : ℕ) → d + max a b ≤ m → d + a ≤ m
      left a b h = grind arith

      right : (a b : ℕ) → d + max a b ≤ m → d + b ≤ m
      right a b h = grind arith

      both : (a b : ℕ) → d + a ≤ m → d + b ≤ m → d + max a b ≤ m
      both a b h i = grind arith

below : (ns : List TermNode) → is_deep ns ≡ false → AreBelow 8 ns
below [] h = tt
below (n ∷ ns) h = let parts = neither (leb 8 n.depth) (is_deep ns) h in (leb-false 8 n.depth parts.0, below ns parts.1)

not_deep : (ns : List TermNode) → AreBelow 8 ns → is_deep ns ≡ false
not_deep [] all = refl
not_deep (n ∷ ns) all = let lt = all.0 in let shallow : leb 8 n.depth ≡ false = grind (arith, nat_tests) in or_from (leb 8 n.depth) (is_deep ns) shallow (not_deep ns all.1)

-- ---- how many arguments a functor has

counted_node : (b : Bool) (n : TermNode) (ns : List TermNode) (k : ℕ) → length ns ≡ k → length (cond b (n ∷ ns) ns) ≡ cond b (suc k) k
counted_node true n ns k h = ap suc h
counted_node false n ns k h = h

-- a node more in front of those behind a functor
one_more : (d : ℕ) (n : TermNode) (ns : List TermNode) → arguments_behind d (n ∷ ns) ≡ cond (ltb d n.depth) (cond (eqb n.depth (suc d)) (suc (arguments_behind d ns)) (arguments_behind d ns)) 0
one_more d n ns = ap (λ ms. length (filter (λ m. eqb m.depth (suc d)) ms)) (take_while-cons (λ m. ltb d m.depth) n ns) ∙ by (ltb d n.depth)
  where
    by : (a : Bool) → length (filter (λ m. eqb m.depth (suc d)) (cond a (n ∷ take_while (λ m. ltb d m.depth) ns) [])) ≡ cond a (cond (eqb n.depth (suc d)) (suc (arguments_behind d ns)) (arguments_behind d ns)) 0
    by true = counted_node (eqb n.depth (suc d)) n (filter (λ m. eqb m.depth (suc d)) (take_while (λ m. ltb d m.depth) ns)) (arguments_behind d ns) refl
    by false = refl

argument_more : (d : ℕ) (w : Word) (ns : List TermNode) → arguments_behind d (node_of (suc d) w ∷ ns) ≡ suc (arguments_behind d ns)
argument_more d w ns =
    let deeper : ltb d (suc d) ≡ true = grind arith in
    let direct : eqb (suc d) (suc d) ≡ true = grind arith in
    one_more d (node_of (suc d) w) ns ∙ rw (deeper, direct) refl

further_more : (d e : ℕ) (w : Word) (ns : List TermNode) → suc d < e → arguments_behind d (node_of e w ∷ ns) ≡ arguments_behind d ns
further_more d e w ns lt =
    let deeper : ltb d e ≡ true = grind arith in
    let other : eqb e (suc d) ≡ false = grind arith in
    one_more d (node_of e w) ns ∙ rw (deeper, other) refl

-- what stands deeper than the arguments does not count
mutual
  passed : (d e : ℕ) (v : Value Word) (rest : List TermNode) → suc d < e → arguments_behind d (nodes_of e v ++ rest) ≡ arguments_behind d rest
  passed d e (Int z) rest lt = further_more d e _ rest lt
  passed d e (Sym w) rest lt = further_more d e w rest lt
  passed d e (Comp w vs) rest lt = further_more d e w (args_nodes (suc e) vs ++ rest) lt ∙ args_passed d (suc e) vs rest (omega (arith, lt))

  args_passed : (d e : ℕ) (vs : Args Word) (rest : List TermNode) → suc d < e → arguments_behind d (args_nodes e vs ++ rest) ≡ arguments_behind d rest
  args_passed d e Nil rest lt = refl
  args_passed d e (Cons v vs) rest lt =
      ap (arguments_behind d) (append_assoc (nodes_of e v) (args_nodes e vs) rest) ∙ passed d e v (args_nodes e vs ++ rest) lt ∙ args_passed d e vs rest lt

argument : (d : ℕ) (v : Value Word) (rest : List TermNode) → arguments_behind d (nodes_of (suc d) v ++ rest) ≡ suc (arguments_behind d rest)
argument d (Int z) rest = argument_more d _ rest
argument d (Sym w) rest = argument_more d w rest
argument d (Comp w vs) rest = argument_more d w (args_nodes (suc (suc d)) vs ++ rest) ∙ ap suc (args_passed d (suc (suc d)) vs rest (omega arith))

arguments : (d : ℕ) (vs : Args Word) (rest : List TermNode) → arguments_behind d (args_nodes (suc d) vs ++ rest) ≡ args_count vs + arguments_behind d rest
arguments d Nil rest = omega arith
arguments d (Cons v vs) rest =
    let first : arguments_behind d (args_nodes (suc d) (Cons v vs) ++ rest) ≡ suc (arguments_behind d (args_nodes (suc d) vs ++ rest)) = ap (arguments_behind d) (append_assoc (nodes_of (suc d) v) (args_nodes (suc d) vs) rest) ∙ argument d v (args_nodes (suc d) vs ++ rest) in
    let more = arguments d vs rest in
    omega (arith, first, more)

-- ---- functors with few arguments

-- the first node is not deeper
abbrev Ends : ℕ → List TermNode → Type 0
Ends d [] = Unit {0}
Ends d (n ∷ ns) = n.depth ≤ d

none_behind : (d : ℕ) (rest : List TermNode) → Ends d rest → arguments_behind d rest ≡ 0
none_behind d [] ends = refl
none_behind d (n ∷ ns) ends = let shut : ltb d n.depth ≡ false = grind (arith, nat_tests) in one_more d n ns ∙ rw shut refl

ends_up : (d : ℕ) (rest : List TermNode) → Ends d rest → Ends (suc d) rest
ends_up d [] ends = tt
ends_up d (n ∷ ns) ends = omega (arith, ends)

args_end : (d : ℕ) (vs : Args Word) (rest : List TermNode) → Ends d rest → Ends d (args_nodes d vs ++ rest)
args_end d Nil rest ends = ends
args_end d (Cons (Int z) vs) rest ends = omega arith
args_end d (Cons (Sym w) vs) rest ends = omega arith
args_end d (Cons (Comp w us) vs) rest ends = omega arith

alone : (d : ℕ) (w : Word) (rest : List TermNode) → Ends d rest → (has_wide_functor (node_of d w ∷ rest) ≡ false) ↔ (Unit {0} × (has_wide_functor rest ≡ false))
alone d w rest ends =
    let none = none_behind d rest ends in
    let few : ltb 8 (arguments_behind d rest) ≡ false = rw none refl in
    (λ h. (tt, (neither (ltb 8 (arguments_behind d rest)) (has_wide_functor rest) h).1), λ h. or_from (ltb 8 (arguments_behind d rest)) (has_wide_functor rest) few h.1)

-- no functor is wide, in front of what is not wide either
mutual
  narrow : (d : ℕ) (v : Value Word) (rest : List TermNode) → Ends d rest → (has_wide_functor (nodes_of d v ++ rest) ≡ false) ↔ (HasNarrowFunctors v × (has_wide_functor rest ≡ false))
  narrow d (Int z) rest ends = alone d (number_word z) rest ends
  narrow d (Sym w) rest ends = alone d w rest ends
  narrow d (Comp w vs) rest ends = (
    λ h. let parts = neither (ltb 8 (arguments_behind d behind)) (has_wide_functor behind) h in let more = (args_narrow (suc d) vs rest (ends_up d rest ends)).0 parts.1 in ((rw (← many) (ltb-false 8 (arguments_behind d behind) parts.0), more.0), more.1),
    λ h. or_from (ltb 8 (arguments_behind d behind)) (has_wide_functor behind) (le-ltb _ _ (rw many h.0.0)) ((args_narrow (suc d) vs rest (ends_up d rest ends)).1 (h.0.1, h.1)),
  )
    where
      behind : List TermNode
      behind = args_nodes (suc d) vs ++ rest

      many : arguments_behind d (args_nodes (suc d) vs ++ rest) ≡ args_count vs
      many = let none = none_behind d rest ends in let all = arguments d vs rest in omega (arith, none, all)

  args_narrow : (d : ℕ) (vs : Args Word) (rest : List TermNode) → Ends d rest → (has_wide_functor (args_nodes d vs ++ rest) ≡ false) ↔ (HaveNarrowFunctors vs × (has_wide_functor rest ≡ false))
  args_narrow d Nil rest ends = (λ h. (tt, h), λ h. h.1)
  args_narrow d (Cons v vs) rest ends = (
    λ h. let first = (narrow d v (args_nodes d vs ++ rest) (args_end d vs rest ends)).0 (ap has_wide_functor (sym (append_assoc (nodes_of d v) (args_nodes d vs) rest)) ∙ h) in let more = (args_narrow d vs rest ends).0 first.1 in ((first.0, more.0), more.1),
    λ h. ap has_wide_functor (append_assoc (nodes_of d v) (args_nodes d vs) rest) ∙ (narrow d v (args_nodes d vs ++ rest) (args_end d vs rest ends)).1 (h.0.0, (args_narrow d vs rest ends).1 (h.0.1, h.1)),
  )

-- ---- a term within the limits

pub within : (t : Value Word) → (is_large_term (nodes_of 0 t) ≡ false) ↔ ((depth t ≤ 8) × (size t ≤ 64) × HasNarrowFunctors t)
within t =
    let ns = nodes_of 0 t in
    let whole = append-nil ns in (
      λ h.
          let first = neither (ltb 64 (length ns) || is_deep ns) (has_wide_functor ns) h in
          let parts = neither (ltb 64 (length ns)) (is_deep ns) first.0 in (
            omega (arith, (reached 8 0 t).1 (below ns parts.1)),
            rw (← counted 0 t) (ltb-false 64 (length ns) parts.0),
            ((narrow 0 t [] tt).0 (rw whole first.1)).0,
          ),
      λ h.
          or_from (ltb 64 (length ns) || is_deep ns) (has_wide_functor ns) (or_from (ltb 64 (length ns)) (is_deep ns) (le-ltb _ _ (rw (counted 0 t) h.1)) (not_deep ns ((reached 8 0 t).0 (let le = h.0 in omega (arith, le)))))
          (rw whole at ((narrow 0 t [] tt).1 (h.2, refl))),
    )

-- ---- each term that the grammar has is a tree

-- trees, each in as many parentheses as the one before it at most, and the first in d at most
abbrev Falls : ℕ → List (ℕ × Value Word) → Type 0
Falls d [] = Unit {0}
Falls d (t ∷ ts) = (0 < t.0) × (t.0 ≤ d) × Falls t.0 ts

falls_up : (d e : ℕ) (ts : List (ℕ × Value Word)) → d ≤ e → Falls d ts → Falls e ts
falls_up d e [] le falls = tt
falls_up d e (t ∷ ts) le falls = let h = falls.1 in (falls.0, omega (arith, h, le), falls.2)

none_inside : (d : ℕ) (ts : List (ℕ × Value Word)) → d ≡ 0 → Falls d ts → ts ≡ []
none_inside d [] top falls = refl
none_inside d (t ∷ ts) top falls = let lt = falls.0 in let le = falls.1 in absurd (omega (arith, lt, le, top))

abbrev all_nodes : List (ℕ × Value Word) → List TermNode
all_nodes [] = []
all_nodes (t ∷ ts) = nodes_of t.0 t.1 ++ all_nodes ts

-- the trees at the front that are arguments of a word in d parentheses, and those behind them
record Taken (d : ℕ) (ts : List (ℕ × Value Word)) : Type 0 where
  args : Args Word
  left : List (ℕ × Value Word)
  falls : Falls d left
  nodes : args_nodes (suc d) args ++ all_nodes left ≡ all_nodes ts

taken : (d : ℕ) (ts : List (ℕ × Value Word)) → Falls (suc d) ts → Taken d ts
taken d [] falls = record { args = Nil; left = []; falls = tt; nodes = refl }
taken d (t ∷ ts) falls = by (ltb d t.0) refl (taken d ts (falls_up t.0 (suc d) ts falls.1 falls.2))
  where
    by : (b : Bool) → ltb d t.0 ≡ b → Taken d ts → Taken d (t ∷ ts)
    by false is rest = record { args = Nil; left = t ∷ ts; falls = (falls.0, ltb-false d t.0 is, falls.2); nodes = refl }
    by true is rest =
        let lt = ltb-true d t.0 is in
        let le = falls.1 in
        let direct : suc d ≡ t.0 = omega (arith, lt, le) in
        record {
          args = Cons t.1 rest.args;
          left = rest.left;
          falls = rest.falls;
          nodes = append_assoc (nodes_of (suc d) t.1) (args_nodes (suc d) rest.args) (all_nodes rest.left) ∙ ap (λ l. nodes_of (suc d) t.1 ++ l) rest.nodes ∙ ap (λ (k : ℕ). nodes_of k t.1 ++ all_nodes ts) direct;
        }

-- the trees of the nodes behind one in d parentheses
record Grown (d : ℕ) (ns : List TermNode) : Type 0 where
  trees : List (ℕ × Value Word)
  falls : Falls (suc d) trees
  nodes : all_nodes trees ≡ ns

grown_behind : (n : TermNode) (ns : List TermNode) → AreNodes n ns → Grown n.depth ns
grown_behind n [] all = record { trees = []; falls = tt; nodes = refl }
grown_behind n (m ∷ ns) all =
    let rest = grown_behind m ns all.1 in
    let front = taken m.depth rest.trees rest.falls in
    record {
      trees = (m.depth, Comp m.word front.args) ∷ front.left;
      falls = (all.0.inside, all.0.stepwise, front.falls);
      nodes = ap (λ l. m ∷ l) (front.nodes ∙ rest.nodes);
    }

pub grown : (ns : ParsedTerm) → IsParsedTerm ns → IsTree ns
grown [] is = absurd is
grown (n ∷ ns) is =
    let rest = grown_behind n ns is.1 in
    let front = taken n.depth rest.trees rest.falls in
    let behind = args_nodes (suc n.depth) front.args in
    let none = none_inside n.depth front.left is.0 front.falls in
    let whole : behind ≡ ns = sym (append-nil behind) ∙ ap (λ l. behind ++ all_nodes l) (sym none) ∙ front.nodes ∙ rest.nodes in
    record { tree = Comp n.word front.args; nodes = ap (λ l. n ∷ l) (sym whole) ∙ ap (λ (k : ℕ). nodes_of k (Comp n.word front.args)) is.0 }
