use Rattle.std.proofs.Common.{◌≡◌, ◌++◌, ℕ, map, ap, ◌∙◌, arith}
use Rattle.std.specs.List.{sum_by}
use Rattle.std.proofs.lemmas.List.{length-map}
use Rattle.chr_pool.specs.Handles.{pushed_of, taken_of}
use Rattle.std.proofs.lemmas.List.Sums.{sum_by-append}
use Rattle.chr_pool.specs.Inlets.{inlet_queue}
use Rattle.chr_pool.specs.OwnDeques.{accounts}
use Rattle.chr_pool.specs.Pools.{pool_pushed, pool_taken}
use Rattle.chr_pool.proofs.Rules.{ones}
use Rattle.chr_pool.proofs.Settles.{same_accounts, everyone_pushed, everyone_taken, pushed_counted, taken_counted}
use Rattle.chr_pool.proofs.Makings.{rows_fit, parts_fit, queues_fit, queue_parts_fit}
use Rattle.chr_pool.proofs.ViewLists.{permutes}
use Rattle.chr_pool.proofs.pool.gather.Given.{Over}
use Rattle.chr_pool.proofs.pool.gather.Goals as goal
use Rattle.chr_pool.proofs.pool.gather.Goals.{After-add_queue_handles}

-- the accounts of all passes, as of hands and inlets
known : (g : Over) (c : After-add_queue_handles g) (h : ℕ → ℕ) → (sum_by h (pushed_of (accounts c.take_apart.new.owns c.take_apart.new.rows c.add_queue_handles.new.queue_handles)) ≡ sum_by h (pool_pushed c.args.hands.items c.args.inlets.items))
    × (sum_by h (taken_of (accounts c.take_apart.new.owns c.take_apart.new.rows c.add_queue_handles.new.queue_handles)) ≡ sum_by h (pool_taken c.args.hands.items))
known g c h =
    let hs = c.args.hands.items in
    let is = c.args.inlets.items in
    let t = c.take_apart.ensures in
    let same = same_accounts c.take_apart.new.owns c.take_apart.new.rows c.add_queue_handles.new.queue_handles hs is t.accounts t.rows (c.add_queue_handles.ensures ∙ ap (λ l. l ++ map inlet_queue is) t.queue_handles.0) in
    (ap (λ l. sum_by h (pushed_of l)) same ∙ everyone_pushed h hs is, ap (λ l. sum_by h (taken_of l)) same ∙ everyone_taken h hs is)

pub settle-left-requires-clause-room : goal.settle-left-requires-clause-room
settle-left-requires-clause-room g c =
    let hs = c.args.hands.items in
    let is = c.args.inlets.items in
    let all = accounts c.take_apart.new.owns c.take_apart.new.rows c.add_queue_handles.new.queue_handles in
    let k = known g (goal.at.settle-left-requires-clause-room g c).After-add_queue_handles (λ x. 1) in
    omega (arith, k.0, k.1, c.count_hands-from_hands.ensures, c.count_inlets.ensures, c.saturating_sub.ensures, c.in-Ok-with_capacity-3.ensures.capacity, ones (pushed_of all), ones (taken_of all), ones (pool_pushed hs is), ones (pool_taken hs), pushed_counted (λ x. 1) hs is, taken_counted (λ x. 1) hs is)

pub settle-left-requires-clause-rows : goal.settle-left-requires-clause-rows
settle-left-requires-clause-rows g c = rw (c.take_apart.ensures.deques, c.take_apart.ensures.rows) (rows_fit c.args.hands.items c.args.inlets.items c.requires)

pub settle-left-requires-clause-parts : goal.settle-left-requires-clause-parts
settle-left-requires-clause-parts g c = rw (c.take_apart.ensures.accounts, c.take_apart.ensures.rows) (parts_fit c.args.hands.items c.args.inlets.items c.requires)

pub settle-left-requires-clause-queue : goal.settle-left-requires-clause-queue
settle-left-requires-clause-queue g c =
    (c.requires.queue, rw (c.add_queue_handles.ensures, c.take_apart.ensures.queue_handles.0) (queues_fit c.args.hands.items c.args.inlets.items c.requires))

pub settle-left-requires-clause-queue_parts : goal.settle-left-requires-clause-queue_parts
settle-left-requires-clause-queue_parts g c = rw (c.add_queue_handles.ensures, c.take_apart.ensures.queue_handles.0) (queue_parts_fit c.args.hands.items c.args.inlets.items c.requires)

pub returns-clause-account : goal.returns-clause-account
returns-clause-account g c =
    let hs = c.args.hands.items in
    let left = map g.T.Numbered.number c.settle-left.result.items in
    permutes (pool_pushed hs c.args.inlets.items) (pool_taken hs ++ left) (λ h.
    let k = known g (goal.at.returns-clause-account g c).After-add_queue_handles h in
    omega (arith, k.0, k.1, c.settle-left.ensures h, sum_by-append h (pool_taken hs) left))

pub returns-clause-counts : goal.returns-clause-counts
returns-clause-counts g c =
    let f = g.T.Numbered.number in
    let hs = c.args.hands.items in
    let is = c.args.inlets.items in
    let left = c.settle-left.result in
    let k = known g (goal.at.returns-clause-counts g c).After-add_queue_handles (λ x. 1) in
    omega (arith, k.0, k.1, c.count_hands-from_hands.ensures, c.count_inlets.ensures, c.settle-left.ensures (λ x. 1), left.ok.0, ones (map f left.items), length-map left.items f, ones (pool_pushed hs is), ones (pool_taken hs), pushed_counted (λ x. 1) hs is, taken_counted (λ x. 1) hs is)
