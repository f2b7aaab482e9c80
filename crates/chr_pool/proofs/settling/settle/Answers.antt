use Rattle.std.proofs.Common.{◌≡◌, ◌+◌, ℕ, length, map, All, refl, sym, ap, ◌∙◌, subst, arith}
use Rattle.std.specs.List.{sum_by}
use Rattle.std.proofs.lemmas.List.{length-map}
use Rattle.chr_pool.specs.Handles.{queue_account, taken_of, pushed_of}
use Rattle.chr_pool.specs.Hands.{row_accounts}
use Rattle.chr_pool.specs.OwnDeques.{own_account, accounts}
use Rattle.chr_pool.proofs.Rules.{ones}
use Rattle.chr_pool.proofs.Settles.{Few, all_few, settled, own_whole, queue_settled}
use Rattle.chr_pool.proofs.settling.settle.Given.{Over}
use Rattle.chr_pool.proofs.settling.settle.Goals as goal
use Rattle.chr_pool.proofs.settling.settle.Goals.{After-absorb_queue_handles}

known : (g : Over) (c : After-absorb_queue_handles g) (h : ℕ → ℕ) → (sum_by h (pushed_of (accounts c.args.owns c.args.rows c.args.queue_handles)) ≡ sum_by h (pushed_of (map own_account c.absorb_rows.new.owns.items)) + sum_by h (queue_account c.absorb_queue_handles.new.first).pushed)
    × (sum_by h (taken_of (accounts c.args.owns c.args.rows c.args.queue_handles)) ≡ sum_by h (taken_of (map own_account c.absorb_rows.new.owns.items)) + sum_by h (queue_account c.absorb_queue_handles.new.first).taken)
known g c h =
    let s = settled c.args.queue_handles c.pop.new.self.items c.in-Some.queue_handle _ c.in-Some.ensures.items c.absorb_queue_handles.ensures c.args.owns c.args.rows _ c.requires.rows c.absorb_rows.ensures.rule in
    (s (λ v. v.pushed) (λ a b. refl) h, s (λ v. v.taken) (λ a b. refl) h)

pub look_all-requires : goal.look_all-requires
look_all-requires g c = own_whole row_accounts c.args.rows.items (map own_account c.args.owns.items) _ c.absorb_rows.ensures.rule c.requires.parts

pub drain-requires-clause-whole : goal.drain-requires-clause-whole
drain-requires-clause-whole g c =
    sym (queue_settled c.args.queue_handles c.pop.new.self.items c.in-Some.queue_handle _ c.in-Some.ensures.items c.absorb_queue_handles.ensures (λ v. v.parts) (λ a b. refl)) ∙ c.requires.queue_parts

pub drain-requires-clause-room : goal.drain-requires-clause-room
drain-requires-clause-room g c =
    let us = map own_account c.absorb_rows.new.owns.items in
    let v = queue_account c.absorb_queue_handles.new.first in
    let all = accounts c.args.owns c.args.rows c.args.queue_handles in
    let s = known g (goal.at.drain-requires-clause-room g c).After-absorb_queue_handles (λ x. 1) in
    omega (arith, s.0, s.1, all_few us c.look_all.ensures.rule, ap length c.requires.empty, c.args.left.ok.0, c.requires.room, ones (pushed_of all), ones (pushed_of us), ones v.pushed, ones (taken_of all), ones (taken_of us), ones v.taken)

pub drain_all-requires-clause-whole : goal.drain_all-requires-clause-whole
drain_all-requires-clause-whole g c =
    own_whole row_accounts c.args.rows.items (map own_account c.args.owns.items) _ (c.look_all.ensures.same ∙ c.absorb_rows.ensures.rule) c.requires.parts

pub drain_all-requires-clause-few : goal.drain_all-requires-clause-few
drain_all-requires-clause-few g c = subst (All Few) (sym c.look_all.ensures.same) c.look_all.ensures.rule

pub drain_all-requires-clause-room : goal.drain_all-requires-clause-room
drain_all-requires-clause-room g c =
    let us = map own_account c.look_all.new.owns.items in
    let all = accounts c.args.owns c.args.rows c.args.queue_handles in
    let k = known g (goal.at.drain_all-requires-clause-room g c).After-absorb_queue_handles (λ x. 1) in
    let rest = rw (← c.look_all.ensures.same) at k in
    omega (arith, rest.0, rest.1, ap length c.requires.empty, c.drain.ensures.rule (λ x. 1), c.drain.new.left.ok.0, c.drain.ensures.capacity, c.requires.room, ones (pushed_of all), ones (pushed_of us), ones (taken_of all), ones (taken_of us), ones (map g.T.Numbered.number c.drain.new.left.items), ones (map g.T.Numbered.number c.args.left.items), length-map c.drain.new.left.items g.T.Numbered.number, length-map c.args.left.items g.T.Numbered.number)

pub returns : goal.returns
returns g c h =
    let k = known g (goal.at.returns g c).After-absorb_queue_handles h in
    let rest = rw (← c.look_all.ensures.same) at k in
    omega (arith, rest.0, rest.1, ap (λ l. sum_by h (map g.T.Numbered.number l)) c.requires.empty, c.drain.ensures.rule h, c.drain_all.ensures h)
