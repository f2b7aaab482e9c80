use Rattle.std.proofs.Common.{◌≡◌, ◌-◌, ◌≤◌, ℕ, take, refl, sym, ap, subst, ◌∙◌, arith}
use Rattle.std.specs.Arc.{arc_value}
use Rattle.chr_store.specs.Labels.{entered}
use Rattle.chr_search.specs.Positions.{beginning}
use Rattle.chr_search.specs.Reach.{SearchState}
use Rattle.chr_search.specs.Trials.{older}
use Rattle.chr_search.specs.Wholes.{WholeTrial}
use Rattle.chr_calls.specs.Headline.{IsKept}
use Rattle.chr_calls.specs.Books.{BookState}
use Rattle.chr_book.specs.Books.{book_of}
use Rattle.chr_book.specs.Passed.{StartsRounds, StartsFewer}
use Rattle.chr_book.proofs.GoingOn.{finds, is_lent, waits_before, started, started_fewer, stays_as_is, starts_keep, starts_fewer_keep, starts_show, stays_limit}
use Rattle.chr_book.proofs.book.Book.start_rounds.Given.{Over}
use Rattle.chr_book.proofs.book.Book.start_rounds.Goals as goal
use Rattle.chr_book.proofs.book.Book.start_rounds.Goals.{After-take_back, In-Ok-end_start, After-take_back-in_default-end_start}

-- ---- what has been made

none : (g : Over) (c : After-take_back g) → StartsFewer c.args.seat c.args.ticket c.args.most (book_of (arc_value c.self.inside.program) c.self.inside.plans c.self.inside.names c.self.inside.log c.self.inside.store c.self.inside.tickets) (book_of (arc_value c.self.inside.program) c.self.inside.plans c.self.inside.names c.self.inside.log c.self.inside.store c.take_back.new.tickets)
none g c =
    let x = c.self.inside in
    let out = is_lent x.tickets c.take_waiting.new.self c.args.ticket c.take_waiting.new.other x.started c.take_waiting.result c.if-not-take_waiting.false c.take_waiting.ensures.waits c.take_waiting.ensures.atom c.take_waiting.ensures.tickets in
    stays_as_is (arc_value x.program) x.plans x.names x.log x.store x.tickets c.take_waiting.new.self c.pass_over_before.new.tickets c.take_back.new.tickets c.args.seat c.args.ticket c.args.most c.next-first.result c.take_waiting.new.other out c.in_default.ensures.err c.next-first.ensures.value c.take_back.ensures.waits

made : (g : Over) (c : In-Ok-end_start g) → StartsRounds c.args.seat c.args.ticket (record { passed = c.in-Ok.come.count; last = c.in-Ok-end_start.last }) (book_of (arc_value c.self.inside.program) c.self.inside.plans c.self.inside.names c.self.inside.log c.self.inside.store c.self.inside.tickets) (book_of (arc_value c.self.inside.program) c.self.inside.plans c.self.inside.names c.end_start.new.log c.end_start.new.store c.end_start.new.tickets)
made g c =
    let x = c.self.inside in
    let out = is_lent x.tickets c.take_waiting.new.self c.args.ticket c.take_waiting.new.other x.started c.take_waiting.result c.if-not-take_waiting.false c.take_waiting.ensures.waits c.take_waiting.ensures.atom c.take_waiting.ensures.tickets in
    subst (λ rules. StartsRounds c.args.seat c.args.ticket (record { passed = c.in-Ok.come.count; last = c.in-Ok-end_start.last }) (book_of rules x.plans x.names x.log x.store x.tickets) (book_of rules x.plans x.names c.end_start.new.log c.end_start.new.store c.end_start.new.tickets)) c.deref.ensures
    (started c.deref.result.now x.plans x.names x.log c.end_start.new.log x.store c.end_start.new.store x.tickets c.take_waiting.new.self c.pass_over_before.new.tickets c.end_start.new.tickets c.args.seat c.args.ticket c.take_waiting.new.other c.restart.new.self c.pass_over_before.new.search.place c.in-Ok.come c.pass_over_before.new.instance c.whole.result.now c.in-Ok-end_start.last
    (record { kept = subst (λ rules. IsKept (book_of rules x.plans x.names x.log x.store x.tickets)) (sym c.deref.ensures) c.self.invariant.0; waits = out.waits; atom = out.atom; room = subst (λ (b : BookState). b.next ≤ b.limit) (sym c.self.view_is) c.requires.room })
    out
    (c.restart.ensures ∙ ap (λ (l : ℕ). record { label = l; place = beginning }) c.next_label.ensures.value)
    c.in-Ok.ensures.ok c.whole.ensures c.in-Ok-end_start.ensures.ok)

cut : (g : Over) (c : After-take_back-in_default-end_start g) → StartsFewer c.args.seat c.args.ticket c.args.most (book_of (arc_value c.self.inside.program) c.self.inside.plans c.self.inside.names c.self.inside.log c.self.inside.store c.self.inside.tickets) (book_of (arc_value c.self.inside.program) c.self.inside.plans c.self.inside.names c.end_start.new.log c.end_start.new.store c.take_back-in_default-end_start.new.tickets)
cut g c =
    let x = c.self.inside in
    let out = is_lent x.tickets c.take_waiting.new.self c.args.ticket c.take_waiting.new.other x.started c.take_waiting.result c.if-not-take_waiting.false c.take_waiting.ensures.waits c.take_waiting.ensures.atom c.take_waiting.ensures.tickets in
    subst (λ rules. StartsFewer c.args.seat c.args.ticket c.args.most (book_of rules x.plans x.names x.log x.store x.tickets) (book_of rules x.plans x.names c.end_start.new.log c.end_start.new.store c.take_back-in_default-end_start.new.tickets)) c.deref.ensures
    (started_fewer c.deref.result.now x.plans x.names x.log c.end_start.new.log x.store c.end_start.new.store x.tickets c.take_waiting.new.self c.pass_over_before.new.tickets c.end_start.new.tickets (take c.next-first.result c.end_start.new.tickets) c.take_back-in_default-end_start.new.tickets c.args.seat c.args.ticket c.args.most c.next-first.result c.take_waiting.new.other c.restart.new.self c.pass_over_before.new.search.place c.in-Ok.come c.pass_over_before.new.instance
    (record { kept = subst (λ rules. IsKept (book_of rules x.plans x.names x.log x.store x.tickets)) (sym c.deref.ensures) c.self.invariant.0; waits = out.waits; atom = out.atom; room = subst (λ (b : BookState). b.next ≤ b.limit) (sym c.self.view_is) c.requires.room })
    out
    (c.restart.ensures ∙ ap (λ (l : ℕ). record { label = l; place = beginning }) c.next_label.ensures.value)
    c.in-Ok.ensures.ok (omega (arith, c.in-Ok.ensures.few, c.requires.some)) c.in_default-end_start.ensures.err refl c.next-first.ensures.value c.take_back-in_default-end_start.ensures.waits c.take_back-in_default-end_start.ensures.other)

-- ---- the goals

pub invariant_of-self-in_default : goal.invariant_of-self-in_default
invariant_of-self-in_default g c = (starts_fewer_keep _ _ _ _ _ (none g c) c.self.invariant.0, c.self.invariant.1)

pub returns-in_default-clause-err : goal.returns-in_default-clause-err
returns-in_default-clause-err g c = rw c.self.view_is at (none g c)

pub end_start-requires-clause-waiting : goal.end_start-requires-clause-waiting
end_start-requires-clause-waiting g c =
    let x = c.self.inside in
    let out = is_lent x.tickets c.take_waiting.new.self c.args.ticket c.take_waiting.new.other x.started c.take_waiting.result c.if-not-take_waiting.false c.take_waiting.ensures.waits c.take_waiting.ensures.atom c.take_waiting.ensures.tickets in
    let found = c.in-Ok.ensures.ok in
    waits_before found.more c.pass_over_before.new.tickets out found.tickets

pub invariant_of-self-in-Ok-end_start : goal.invariant_of-self-in-Ok-end_start
invariant_of-self-in-Ok-end_start g c = (
  starts_keep _ _ _ _ _ (made g c) c.self.invariant.0,
  (starts_show c.args.seat c.args.ticket c.pass_over_before.new.search.place c.take_waiting.new.other c.in-Ok.come.then c.whole.result.now c.in-Ok-end_start.last c.pass_over_before.new.tickets c.self.inside.log c.self.inside.store c.end_start.new.tickets c.end_start.new.log c.end_start.new.store c.in-Ok-end_start.ensures.ok).0 ∙ c.self.invariant.1,
)

pub invariant_of-self-in_default-end_start : goal.invariant_of-self-in_default-end_start
invariant_of-self-in_default-end_start g c = (
  starts_fewer_keep _ _ _ _ _ (cut g c) c.self.invariant.0,
  stays_limit c.args.seat c.args.ticket c.pass_over_before.new.search.place c.take_waiting.new.other c.pass_over_before.new.tickets c.self.inside.log c.self.inside.store c.end_start.new.tickets c.end_start.new.log c.end_start.new.store c.in_default-end_start.ensures.err ∙ c.self.invariant.1,
)

pub returns-in_default-end_start-clause-err : goal.returns-in_default-end_start-clause-err
returns-in_default-end_start-clause-err g c = rw c.self.view_is at (cut g c)

pub returns-clause-ok : goal.returns-clause-ok
returns-clause-ok g c = rw c.self.view_is at (made g (goal.at.returns-clause-ok g c).In-Ok-end_start)

pub returns-clause-all : goal.returns-clause-all
returns-clause-all g c = λ passed.
    let all : c.in-Ok.come.count ≡ c.args.most - 1 = c.in-Ok.ensures.more ((starts_show c.args.seat c.args.ticket c.pass_over_before.new.search.place c.take_waiting.new.other c.in-Ok.come.then c.whole.result.now c.in-Ok-end_start.last c.pass_over_before.new.tickets c.self.inside.log c.self.inside.store c.end_start.new.tickets c.end_start.new.log c.end_start.new.store c.in-Ok-end_start.ensures.ok).1 passed) in
    omega arith

pub end_start-requires-clause-found : goal.end_start-requires-clause-found
end_start-requires-clause-found g c =
    let x = c.self.inside in
    let found = c.in-Ok.ensures.ok in λ is.
    ap (λ (w : WholeTrial). w.past.label) c.whole.ensures
    ∙ (finds (older c.deref.result.now x.plans (entered x.store c.take_waiting.new.other).entries c.restart.new.self.label) found.over.after c.in-Ok.come.then c.pass_over_before.new.instance found.binding found.over.next is).1
    ∙ ap (λ (z : SearchState). z.label) c.restart.ensures ∙ c.next_label.ensures.value
