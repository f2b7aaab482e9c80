use Rattle.std.proofs.Common.{◌≡◌, ◌++◌, ℕ, [], length, map, All, sym, ap, ◌∙◌, subst, arith}
use Rattle.std.specs.List.{flat_map}
use Rattle.std.proofs.lemmas.List.{length-map}
use Rattle.std.proofs.lemmas.List.FromFn.{length-range_with_len}
use Rattle.chr_pool.specs.Handles.{queue_shape}
use Rattle.chr_pool.specs.Hands.{hand_number, hand_pushed, hand_taken}
use Rattle.chr_pool.specs.NewDeques.{new_deque, new_capacity, IsNewHand}
use Rattle.chr_pool.proofs.Rules.{begins}
use Rattle.std.proofs.lemmas.List.Elements.{All-map}
use Rattle.chr_pool.proofs.Settles.{flat_none}
use Rattle.chr_pool.proofs.Makings.{new_pool}
use Rattle.chr_pool.proofs.making.make.Goals as goal

pub new_as-requires : goal.new_as-requires
new_as-requires g c = begins g.T.Numbered.number

pub returns-clause-one : goal.returns-clause-one
returns-clause-one g c =
    let hs = c.in_ok-made.made.items in
    let is = c.in_ok-inlets.inlets.items in
    let deques = c.all_rows.new.deques.items in
    let made = c.in_ok-made.ensures in
    let ends = c.in_ok-inlets.ensures in
    let new = c.in_ok-deques.ensures in
    let same : length deques ≡ length c.in_ok-deques.deques.items = sym (length-map deques new_deque) ∙ (ap length c.in_ok-rows.ensures.deques ∙ length-map c.in_ok-deques.deques.items new_deque) in
    let many : length hs ≡ length deques = sym (length-map hs hand_number) ∙ (ap length made.numbers ∙ length-range_with_len 0 (length deques)) in
    new_pool hs is (map new_deque deques) (queue_shape c.all_hands.new.first).0 (length deques) made.deques many (omega (arith, same, new.0, c.requires.hands)) (omega (arith, same, new.0, c.requires.hands)) (omega (arith, ends.count, c.requires.inlets))
    (subst (λ q. All (IsNewHand (map new_deque deques) q (length deques)) hs) (sym made.first.0) made.hands) ends.queues (omega (arith, made.first.1, ends.parts))

pub returns-clause-capacity : goal.returns-clause-capacity
returns-clause-capacity g c =
    let P : ℕ → Type 0 = λ n. n ≡ c.args.capacity in
    let deques = c.in_ok-deques.deques.items in
    subst (All P) (sym (c.in_ok-made.ensures.capacities ∙ c.in_ok-rows.ensures.capacities)) (All-map P new_capacity deques (λ k d within. (c.in_ok-deques.ensures.1 k d within).1))

pub returns-clause-empty : goal.returns-clause-empty
returns-clause-empty g c =
    let hs = c.in_ok-made.made.items in
    let new = c.in_ok-made.ensures.hands in
    let a : flat_map hand_pushed hs ≡ [] = flat_none hand_pushed hs (λ k d within. (new k d within).4) in
    let b : flat_map hand_taken hs ≡ [] = flat_none hand_taken hs (λ k d within. (new k d within).5) in
    let e = c.in_ok-inlets.ensures.empty in
    λ k. (a k ++ e k) ++ b k
