-- What the pool of a run counts.
use Rattle.std.proofs.Common.{◌≡◌, ℕ, List, [], ◌++◌, ◌∙◌, ap, subst}
use Rattle.std.specs.Prelude.{IsPermutation}
use Rattle.std.specs.List.{flat_map}
use Rattle.std.proofs.lemmas.List.{append-nil}
use Rattle.std.proofs.lemmas.List.Sorted.{IsPermutation-trans, length_permutation}
use Rattle.chr_calls.specs.Tickets.{Ticket}
use Rattle.chr_pool.specs.declared.hand.Hand.{Hand}
use Rattle.chr_pool.specs.declared.inlet.Inlet.{Inlet}
use Rattle.chr_pool.specs.declared.pool.Tally.{Tally}
use Rattle.chr_pool.specs.Hands.{hand_pushed}
use Rattle.chr_pool.specs.Inlets.{inlet_pushed}
use Rattle.chr_pool.specs.Pools.{pool_pushed}
use Rattle.chr_crew.specs.Pools.{AreFree, HavePushed, IsTallyOf, IsTallied}

-- a tally of tickets is one of them in another order
in_order : (xs ys : List ℕ) (tally : Tally ℕ) → IsPermutation xs ys → IsTallyOf ys tally → IsTallyOf xs tally
in_order xs ys tally same is = record {
  count = is.count ∙ length_permutation xs ys same;
  taken = is.taken;
  count_taken = is.count_taken;
  each = IsPermutation-trans xs ys (is.taken ++ tally.left.items) same is.each;
}

-- the tally of a pool on whose hands the free tickets were dealt, and into which no inlet has pushed
pub tallied : (tickets : List Ticket) (dealt : List ℕ) (hands : List (Hand ℕ)) (inlets : List (Inlet ℕ)) (tally : Tally ℕ) → AreFree tickets dealt → HavePushed dealt hands → flat_map inlet_pushed inlets ≡ [] → IsTallyOf (pool_pushed hands inlets) tally → IsTallied tickets tally
tallied tickets dealt hands inlets tally free pushed none is =
    let all : pool_pushed hands inlets ≡ flat_map hand_pushed hands = ap (λ xs. flat_map hand_pushed hands ++ xs) none ∙ append-nil (flat_map hand_pushed hands) in
    record {
      dealt = dealt;
      are_free = free;
      fired = pushed.0;
      all = in_order (dealt ++ pushed.0) (flat_map hand_pushed hands) tally pushed.1 (subst (λ xs. IsTallyOf xs tally) all is);
    }
