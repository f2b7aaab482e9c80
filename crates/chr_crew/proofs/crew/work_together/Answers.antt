use Rattle.std.proofs.Common.{◌≡◌, ◌≤◌, ◌<◌, ◌+◌, ℕ, List, length, map, get_or, ap, ◌∙◌, sym, subst, arith, length-append}
use Rattle.std.proofs.lemmas.List.{length-map}
use Rattle.chr_calls.specs.Books.{BookState}
use Rattle.std.specs.Prelude.{Option, IsTrue}
use Rattle.chr_pool.specs.declared.hand.Hand.{Hand}
use Rattle.chr_pool.specs.Hands.{hand_id}
use Rattle.chr_seats.specs.Accounts.{SeatState, log_of, counts_in}
use Rattle.chr_crew.specs.declared.worker.Worker.{Worker}
use Rattle.chr_crew.specs.Pools.{HaveRoom, HavePushed}
use Rattle.chr_crew.proofs.Hands.{have_pushed}
use Rattle.chr_crew.proofs.Lists.{numbers_of, same_map, take_first}
use Rattle.chr_crew.proofs.crew.work_together.Goals as goal

pub count-right-requires-clause-numbers : goal.count-right-requires-clause-numbers
count-right-requires-clause-numbers g c =
    let W : Type 0 = Worker g.row.L1.Denot g.row.L2.Denot in
    let seat : W → SeatState = λ w. w.seat in
    let joined : List W = c.join_all.new.workers.items in
    let worked : List W = c.work_all.new.workers in
    let few : length joined ≤ 16 = subst (λ n. n ≤ 16) (sym (c.join_all.ensures.count ∙ c.deal.ensures.count)) c.requires.some.1 in
    let now : c.deref-2.result.now ≡ worked = c.deref-2.ensures.value ∙ take_first worked _ c.join_all.new.workers.len (c.work_all.auto.workers ∙ c.deref_mut.ensures.len) in
    subst (λ (ws : List W). (k : ℕ) (d : W) → k < length ws → (get_or ws k d).seat.number ≡ k + 1) (sym now)
    (λ k d below.
    let lent : k < length c.deref_mut.result.now = subst (λ n. k < n) c.work_all.auto.workers below in
    c.work_all.ensures.numbers k d lent ∙ ap (λ (ws : List W). (get_or ws k d).seat.number) c.deref_mut.ensures.value
    ∙ numbers_of seat c.requires.workers.0 joined _ _ c.join_all.ensures.seats c.requires.workers.1 few k d (subst (λ (ws : List W). k < length ws) c.deref_mut.ensures.value lent))

pub deal-requires-clause-room : goal.deal-requires-clause-room
deal-requires-clause-room g c = subst (λ (ts : List ℕ). HaveRoom (length ts) c.args.room.now.hands.items) (sym c.deref.ensures.value) c.requires.room_for_all

pub returns-clause-all : goal.returns-clause-all
returns-clause-all g c = λ right.
    let W : Type 0 = Worker g.row.L1.Denot g.row.L2.Denot in
    let worked : List W = c.work_all.new.workers in
    let now : c.deref-2.result.now ≡ worked = c.deref-2.ensures.value ∙ take_first worked _ c.join_all.new.workers.len (c.work_all.auto.workers ∙ c.deref_mut.ensures.len) in
    c.count-right.ensures.all right ∙ ap length now ∙ c.work_all.auto.workers ∙ ap length c.deref_mut.ensures.value ∙ c.join_all.ensures.count ∙ c.deal.ensures.count

pub returns-clause-each : goal.returns-clause-each
returns-clause-each g c = λ right k d below.
    let W : Type 0 = Worker g.row.L1.Denot g.row.L2.Denot in
    let worked : List W = c.work_all.new.workers in
    let now : c.deref-2.result.now ≡ worked = c.deref-2.ensures.value ∙ take_first worked _ c.join_all.new.workers.len (c.work_all.auto.workers ∙ c.deref_mut.ensures.len) in
    let len = ap length now ∙ c.work_all.auto.workers ∙ ap length c.deref_mut.ensures.value ∙ c.join_all.ensures.count ∙ c.deal.ensures.count in
    c.count-right.ensures.each right k d (subst (λ n. k < n) (sym len) below) ∙ ap (λ (kept : Option BookState). counts_in (log_of kept) (k + 1)) c.let_go-book.ensures.book

pub returns-clause-hands : goal.returns-clause-hands
returns-clause-hands g c =
    let W : Type 0 = Worker g.row.L1.Denot g.row.L2.Denot in
    let hands : List W → List (Hand ℕ) = map (λ (w : W). w.hand) in
    let worked : List W = c.work_all.new.workers in
    let whole = take_first worked _ c.join_all.new.workers.len (c.work_all.auto.workers ∙ c.deref_mut.ensures.len) in
    ap (map hand_id) (c.let_go-book.ensures.hands ∙ ap hands whole)
    ∙ same_map hand_id (λ (w : W). w.hand) c.deref_mut.result.now worked c.work_all.auto.workers c.work_all.ensures.hands
    ∙ ap (map hand_id) (ap hands c.deref_mut.ensures.value ∙ c.join_all.ensures.hands) ∙ c.deal.ensures.same

pub returns-clause-pushed : goal.returns-clause-pushed
returns-clause-pushed g c =
    let W : Type 0 = Worker g.row.L1.Denot g.row.L2.Denot in
    let hands : List W → List (Hand ℕ) = map (λ (w : W). w.hand) in
    let worked : List W = c.work_all.new.workers in
    let whole = take_first worked _ c.join_all.new.workers.len (c.work_all.auto.workers ∙ c.deref_mut.ensures.len) in
    subst (λ tickets. HavePushed tickets c.let_go-book.new.hands.items) c.deref.ensures.value
    (have_pushed (λ (w : W). w.hand) c.deref.result.now c.deal.new.hands.items c.let_go-book.new.hands.items c.deref_mut.result.now worked c.deal.ensures.dealt
    (ap hands c.deref_mut.ensures.value ∙ c.join_all.ensures.hands) (c.let_go-book.ensures.hands ∙ ap hands whole) c.work_all.auto.workers c.work_all.ensures.pushed)

pub let_go-book-requires-clause-all : goal.let_go-book-requires-clause-all
let_go-book-requires-clause-all g c =
    let W : Type 0 = Worker g.row.L1.Denot g.row.L2.Denot in
    let joined : List W = c.join_all.new.workers.items in
    let seat : W → SeatState = λ w. w.seat in (
      omega (
        arith,
        ap length c.join_all.ensures.seats,
        length-append (map seat joined) c.join_all.new.seats.items,
        length-map joined seat,
        c.requires.workers.1.all,
      ),
      c.requires.sessions,
    )

pub let_go-book-requires-clause-worked : goal.let_go-book-requires-clause-worked
let_go-book-requires-clause-worked g c =
    let W : Type 0 = Worker g.row.L1.Denot g.row.L2.Denot in
    let worked : List W = c.work_all.new.workers in
    let whole = take_first worked _ c.join_all.new.workers.len (c.work_all.auto.workers ∙ c.deref_mut.ensures.len) in
    subst (λ (ws : List W). (k : ℕ) (d : W) → k < length ws → IsTrue (get_or ws k d).has_worked) (sym whole)
    (λ k d below. c.work_all.ensures.worked k d (subst (λ n. k < n) c.work_all.auto.workers below))
