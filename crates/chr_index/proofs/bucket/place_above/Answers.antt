use Rattle.std.proofs.Common.{ℕ, ◌<◌, ◌≤◌, List, arith, leb, leb-true, leb-false, le-leb, rules, get_or}
use Rattle.chr_index.specs.declared.bucket.Slot.{Slot}
use Rattle.chr_index.specs.Buckets.{SlotsRise}
use Rattle.chr_index.proofs.Slots.{all_front, all_rest, rise_at}
use Rattle.chr_index.proofs.bucket.place_above.Goals as goal
use Rattle.std.specs.List.Sorted.{IsPartitionedBy}
use Rattle.std.proofs.lemmas.List.Sorted.{IsPartitionPoint-from_clause}

parted : (ss : List Slot) (l : ℕ) → SlotsRise ss → IsPartitionedBy (λ s. leb s.label l) ss
parted ss l r = λ i j d u v t. le-leb _ _ (let a : (get_or ss i d).label ≤ (get_or ss j d).label = rise_at ss i j d r u v in let b : (get_or ss j d).label ≤ l = leb-true _ _ t in omega arith)

pub returns-clause-front : goal.returns-clause-front
returns-clause-front c =
    let point = IsPartitionPoint-from_clause (λ s. leb s.label c.args.label) c.args.slots.now _ c.partition_point.ensures.partitioned (parted c.args.slots.now c.args.label c.requires) (λ a r q k. search rules) in
    all_front (λ s. s.label ≤ c.args.label) c.args.slots.now c.partition_point.result c.partition_point.ensures.bound (λ k d l u. leb-true _ _ (point.0 k d l u))

pub returns-clause-later : goal.returns-clause-later
returns-clause-later c =
    let point = IsPartitionPoint-from_clause (λ s. leb s.label c.args.label) c.args.slots.now _ c.partition_point.ensures.partitioned (parted c.args.slots.now c.args.label c.requires) (λ a r q k. search rules) in
    all_rest (λ s. c.args.label < s.label) c.args.slots.now c.partition_point.result (λ k d l u. leb-false _ _ (point.1 k d l u))
