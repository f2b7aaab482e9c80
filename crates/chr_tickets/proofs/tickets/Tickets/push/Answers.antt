use Rattle.std.proofs.Common.{◌≡◌, ◌<◌, ◌+◌, ◌++◌, ◌∷◌, [], ℕ, List, drop, sym, ap, subst, ◌∙◌, arith}
use Rattle.std.specs.Vec.{vec_len, vec_capacity}
use Rattle.chr_calls.specs.Tickets.{Ticket}
use Rattle.chr_tickets.specs.Listed.{Slot, listed, AreSlots}
use Rattle.chr_tickets.specs.declared.tickets.Tickets.TheInside.{Inside}
use Rattle.chr_tickets.proofs.Changes.{length_shown}
use Rattle.chr_tickets.proofs.Ends.{Went, listed_went, slots_went, pushed, slots_push}
use Rattle.chr_tickets.proofs.tickets.Tickets.push.Goals as goal
use Rattle.chr_tickets.proofs.tickets.Tickets.push.Goals.{After-push_reserved, then-len-capacity+in_ok-went, else-len-capacity}

pub push_reserved-requires : goal.push_reserved-requires
push_reserved-requires g c = elim c.if-len-capacity.branch [
  | then-len-capacity+in_ok-went w ↦ subst (λ (s : Inside g.row.A.Denot). vec_len s.slots < vec_capacity s.slots) (sym w.self-inside-is) w.in_ok-went.ensures.room
  | else-len-capacity w ↦ subst (λ (s : Inside g.row.A.Denot). vec_len s.slots < vec_capacity s.slots) (sym w.self-inside-is) (let ok = c.self.inside.slots.ok in let full = w.if-len-capacity.false in omega arith)
]

-- how many slots went, where there was no room
went : (g : _) (c : After-push_reserved g) → (n : ℕ) × Went c.self.inside.first c.self.inside.gone n c.if-len-capacity.self-inside.first c.if-len-capacity.self-inside.gone c.self.inside.slots.items c.if-len-capacity.self-inside.slots.items × (c.if-len-capacity.self-inside.unmarked ≡ c.self.inside.unmarked)
went g c = elim c.if-len-capacity.branch [
  | then-len-capacity+in_ok-went w ↦ (
    w.in_ok-went.went,
    record {
      some = w.in_ok-went.ensures.ok.0;
      slots_are = ap (λ (s : Inside g.row.A.Denot). s.slots.items) w.self-inside-is ∙ w.in_ok-went.ensures.ok.1;
      start_is = ap (λ (s : Inside g.row.A.Denot). s.first) w.self-inside-is;
      left_is = ap (λ (s : Inside g.row.A.Denot). s.gone) w.self-inside-is;
    },
    ap (λ (s : Inside g.row.A.Denot). s.unmarked) w.self-inside-is,
  )
  | else-len-capacity w ↦ (
    0,
    record {
      some = omega arith;
      slots_are = ap (λ (s : Inside g.row.A.Denot). s.slots.items) w.self-inside-is;
      start_is = (let e = ap (λ (s : Inside g.row.A.Denot). s.first) w.self-inside-is in omega arith);
      left_is = (let e = ap (λ (s : Inside g.row.A.Denot). s.gone) w.self-inside-is in omega arith);
    },
    ap (λ (s : Inside g.row.A.Denot). s.unmarked) w.self-inside-is,
  )
]

pub invariant_of-self-2 : goal.invariant_of-self-2
invariant_of-self-2 g c =
    let w = went g c in
    let kept = slots_went w.1 c.self.invariant in
    let long = length_shown kept (listed_went w.1 ∙ c.self.view_is) in
    let full = c.if-next.false in
    let next = c.next.ensures.value in
    subst (λ m. AreSlots c.if-len-capacity.self-inside.first c.if-len-capacity.self-inside.gone c.push_reserved.new.self.items m) (sym w.2)
    (subst (λ (slots : List (Slot g.row.A.Denot)). AreSlots c.if-len-capacity.self-inside.first c.if-len-capacity.self-inside.gone slots c.self.inside.unmarked) (sym c.push_reserved.ensures.items)
    (slots_push c.waiting.result kept (omega arith) (ap (λ (x : Ticket). x.stray) c.waiting.ensures)))

pub returns-clause-ok : goal.returns-clause-ok
returns-clause-ok g c =
    let w = went g c in
    ap (λ (slots : List (Slot g.row.A.Denot)). listed (c.if-len-capacity.self-inside.first + c.if-len-capacity.self-inside.gone) (drop c.if-len-capacity.self-inside.gone slots)) c.push_reserved.ensures.items
    ∙ pushed c.waiting.result (slots_went w.1 c.self.invariant) (listed_went w.1 ∙ c.self.view_is)
    ∙ ap (λ (x : Ticket). c.args.self.now ++ x ∷ []) c.waiting.ensures
