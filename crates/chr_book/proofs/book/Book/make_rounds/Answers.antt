use Rattle.std.proofs.Common.{◌≡◌, ◌-◌, sym, ap, ◌∙◌, subst, arith}
use Rattle.std.specs.Arc.{arc_value}
use Rattle.chr_store.specs.Labels.{LabelledStore}
use Rattle.chr_calls.specs.Headline.{IsKept}
use Rattle.chr_calls.specs.Books.{BookState}
use Rattle.chr_calls.specs.Calls.{HoldsLive}
use Rattle.chr_book.specs.Books.{book_of}
use Rattle.chr_book.specs.Passed.{MakesRounds, MakesFewer}
use Rattle.chr_book.proofs.GoingOn.{whole_goal, makes_rounds, cut_rounds, rounds_keep, fewer_keep, ends_show}
use Rattle.chr_book.proofs.book.Book.make_rounds.Given.{Over}
use Rattle.chr_book.proofs.book.Book.make_rounds.Goals as goal
use Rattle.chr_book.proofs.book.Book.make_rounds.Goals.{After-pass_over, After-truncate, In-Ok}

-- ---- what has been made

-- the seat's goal is live in the book with the rules that were lent
live : (g : Over) (c : After-pass_over g) → (let x = c.self.inside in HoldsLive (book_of c.deref.result.now x.plans x.names x.log x.store x.tickets) c.args.seat c.args.ticket c.requires.held.0)
live g c =
    let x = c.self.inside in
    subst (λ (b : BookState). HoldsLive b c.args.seat c.args.ticket c.requires.held.0) (sym (ap (λ rules. book_of rules x.plans x.names x.log x.store x.tickets) c.deref.ensures ∙ c.self.view_is)) c.requires.held.1

made : (g : Over) (c : In-Ok g) → (let x = c.self.inside in HoldsLive (book_of c.deref.result.now x.plans x.names x.log x.store x.tickets) c.args.seat c.args.ticket c.requires.held.0) → MakesRounds c.args.seat c.args.ticket (record { passed = c.in_ok-come.come.count; last = c.in-Ok.last }) (book_of (arc_value c.self.inside.program) c.self.inside.plans c.self.inside.names c.self.inside.log c.self.inside.store c.self.inside.tickets) (book_of (arc_value c.self.inside.program) c.self.inside.plans c.self.inside.names c.end_rounds.new.log c.end_rounds.new.store c.end_rounds.new.tickets)
made g c live =
    let x = c.self.inside in
    let l = c.requires.held.0 in
    subst (λ rules. MakesRounds c.args.seat c.args.ticket (record { passed = c.in_ok-come.come.count; last = c.in-Ok.last }) (book_of rules x.plans x.names x.log x.store x.tickets) (book_of rules x.plans x.names c.end_rounds.new.log c.end_rounds.new.store c.end_rounds.new.tickets)) c.deref.ensures
    (makes_rounds c.deref.result.now x.plans x.names x.log c.end_rounds.new.log x.store c.end_rounds.new.store x.tickets c.pass_over.new.tickets c.end_rounds.new.tickets c.args.seat c.args.ticket l c.in_ok-come.come c.pass_over.new.instance c.whole.result.now c.in-Ok.last
    (subst (λ rules. IsKept (book_of rules x.plans x.names x.log x.store x.tickets)) (sym c.deref.ensures) c.self.invariant.0) live (c.in_ok-come.ensures.ok l live.holds.goal) c.whole.ensures c.in-Ok.ensures.ok)

cut : (g : Over) (c : After-truncate g) → (let x = c.self.inside in HoldsLive (book_of c.deref.result.now x.plans x.names x.log x.store x.tickets) c.args.seat c.args.ticket c.requires.held.0) → MakesFewer c.args.seat c.args.ticket c.args.most (book_of (arc_value c.self.inside.program) c.self.inside.plans c.self.inside.names c.self.inside.log c.self.inside.store c.self.inside.tickets) (book_of (arc_value c.self.inside.program) c.self.inside.plans c.self.inside.names c.end_rounds.new.log c.end_rounds.new.store c.truncate.new.self)
cut g c live =
    let x = c.self.inside in
    let l = c.requires.held.0 in
    subst (λ rules. MakesFewer c.args.seat c.args.ticket c.args.most (book_of rules x.plans x.names x.log x.store x.tickets) (book_of rules x.plans x.names c.end_rounds.new.log c.end_rounds.new.store c.truncate.new.self)) c.deref.ensures
    (cut_rounds c.deref.result.now x.plans x.names x.log c.end_rounds.new.log x.store c.end_rounds.new.store x.tickets c.pass_over.new.tickets c.end_rounds.new.tickets c.truncate.new.self c.args.seat c.args.ticket l c.next-first.result c.args.most c.in_ok-come.come c.pass_over.new.instance
    live (c.in_ok-come.ensures.ok l live.holds.goal) (omega (arith, c.in_ok-come.ensures.few, c.requires.some)) c.in_default.ensures.tickets c.truncate.ensures c.next-first.ensures.value c.in_default.ensures.log c.in_default.ensures.store)

-- ---- the goals

pub end_rounds-requires : goal.end_rounds-requires
end_rounds-requires g c =
    let x = c.self.inside in
    let l = c.requires.held.0 in
    let live = live g (goal.at.end_rounds-requires g c).After-pass_over in
    whole_goal (book_of c.deref.result.now x.plans x.names x.log x.store x.tickets) c.pass_over.new.tickets c.args.seat c.args.ticket l c.in_ok-come.come c.pass_over.new.instance c.whole.result.now live (c.in_ok-come.ensures.ok l live.holds.goal) c.whole.ensures

pub invariant_of-self-in-Ok-1 : goal.invariant_of-self-in-Ok-1
invariant_of-self-in-Ok-1 g c = (
  rounds_keep _ _ _ _ _ (made g c (live g (goal.at.invariant_of-self-in-Ok-1 g c).After-pass_over)) c.self.invariant.0,
  (ends_show c.args.seat c.args.ticket c.in_ok-come.come.then c.whole.result.now c.in-Ok.last c.pass_over.new.tickets c.self.inside.log c.self.inside.store c.end_rounds.new.tickets c.end_rounds.new.log c.end_rounds.new.store c.in-Ok.ensures.ok).0 ∙ c.self.invariant.1,
)

pub invariant_of-self-in_default : goal.invariant_of-self-in_default
invariant_of-self-in_default g c = (fewer_keep _ _ _ _ _ (cut g c (live g (goal.at.invariant_of-self-in_default g c).After-pass_over)) c.self.invariant.0, ap (λ (z : LabelledStore). z.limit) c.in_default.ensures.store ∙ c.self.invariant.1)

pub returns-in_default-clause-err : goal.returns-in_default-clause-err
returns-in_default-clause-err g c = rw c.self.view_is at (cut g c (live g (goal.at.returns-in_default-clause-err g c).After-pass_over))

pub returns-clause-ok : goal.returns-clause-ok
returns-clause-ok g c = rw c.self.view_is at (made g c (live g (goal.at.returns-clause-ok g c).After-pass_over))

pub returns-clause-all : goal.returns-clause-all
returns-clause-all g c = λ passed.
    let all : c.in_ok-come.come.count ≡ c.args.most - 1 = c.in_ok-come.ensures.more ((ends_show c.args.seat c.args.ticket c.in_ok-come.come.then c.whole.result.now c.in-Ok.last c.pass_over.new.tickets c.self.inside.log c.self.inside.store c.end_rounds.new.tickets c.end_rounds.new.log c.end_rounds.new.store c.in-Ok.ensures.ok).1 passed) in
    omega arith
