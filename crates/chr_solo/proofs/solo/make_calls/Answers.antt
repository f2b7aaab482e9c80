use Rattle.std.proofs.Common.{◌≡◌, ◌-◌, ◌/◌, sym, subst, arith, MatchOption, Err}
use Rattle.chr_calls.specs.declared.answers.ClaimFault.TheVariants as claim
use Rattle.chr_calls.specs.Tickets.{NoneFor, IsLeastFor}
use Rattle.chr_calls.specs.Books.{BookState}
use Rattle.chr_calls.specs.Calls.{Claims}
use Rattle.chr_solo.specs.Solo.{SoloCall, IsCutShort}
use Rattle.chr_solo.specs.SoloCode.{known_of, SoloSoFar}
use Rattle.chr_solo.proofs.SoloRuns.{begins, goes_on, ends_full, ends_none, ends_spent, cut_short, cut_start, none_of, on_err}
use Rattle.chr_solo.proofs.solo.make_calls.Goals as goal
use Rattle.chr_solo.proofs.solo.make_calls.Goals.{Else-made-gt0}

-- where no round was made, the calls made so far led to the book, and the ticket is the next one
stays : (g : _) (c : Else-made-gt0 g) → SoloSoFar c.args.seat c.args.book.now c.loop-calls.calls c.make_rounds.new.book (known_of c.loop-calls.known) × IsLeastFor c.make_rounds.new.book.tickets c.args.seat c.in-Some.ticket
stays g c =
    let same : c.make_rounds.new.book ≡ c.loop-calls.book = c.in_ok-made.ensures.none (omega (arith, c.if-made-gt0.false)) in (
      subst (λ (b : BookState). SoloSoFar c.args.seat c.args.book.now c.loop-calls.calls b (known_of c.loop-calls.known)) (sym same) c.loop-calls.invariant.0,
      subst (λ (b : BookState). IsLeastFor b.tickets c.args.seat c.in-Some.ticket) (sym same) c.in-Some.ensures,
    )

pub loop-calls-init : goal.loop-calls-init
loop-calls-init g c = (begins c.args.seat c.args.book.now, omega arith)

pub returns-in_err-made-clause-cut_short : goal.returns-in_err-made-clause-cut_short
returns-in_err-made-clause-cut_short g c =
    let left = c.args.most - c.loop-calls.calls in
    on_err (IsCutShort c.args.seat c.args.most c.args.book.now c.make_rounds.new.book) c.from_residual.result
    (cut_start c.args.seat c.in-Some.ticket c.args.most c.loop-calls.calls ((left - 1) / 2) (left / 2) c.args.book.now c.loop-calls.book c.make_rounds.new.book (known_of c.loop-calls.known) c.loop-calls.invariant.0 c.in_err-made.ensures.nothing c.in-Some.ensures c.in_err-made.ensures.err c.if-calls-most.true (omega (arith, c.if-calls-most.true)) (omega (arith, c.if-calls-most.true)))

pub call_for-requires-clause-free : goal.call_for-requires-clause-free
call_for-requires-clause-free g c = (stays g (goal.at.call_for-requires-clause-free g c).Else-made-gt0).1.free

pub call_for-requires-clause-aware : goal.call_for-requires-clause-aware
call_for-requires-clause-aware g c = let so = stays g (goal.at.call_for-requires-clause-aware g c).Else-made-gt0 in so.0.aware c.in-Some.ticket so.1

pub returns-in_err-next-clause-cut_short : goal.returns-in_err-next-clause-cut_short
returns-in_err-next-clause-cut_short g c =
    on_err (IsCutShort c.args.seat c.args.most c.args.book.now c.call_for.new.book) c.from_residual-in_err-next.result
    (cut_short c.args.seat c.args.most c.loop-calls.calls c.args.book.now c.make_rounds.new.book (known_of c.loop-calls.known) c.call_for.new.book (stays g (goal.at.returns-in_err-next-clause-cut_short g c).Else-made-gt0).0 c.if-calls-most.true c.in_err-next.ensures.err)

pub loop-calls-preserved : goal.loop-calls-preserved
loop-calls-preserved g c =
    let b = c.make_rounds.new.book in
    let n = c.call_for.new.book in
    let known = known_of c.loop-calls.known in
    let so = stays g (goal.at.loop-calls-preserved g c).Else-made-gt0 in
    let made = subst (λ o. MatchOption o (Claims b c.args.seat c.in-Some.ticket (Err claim.LabelsSpent) n) (λ after. SoloCall c.args.seat c.in-Some.ticket b known n (known_of after))) c.in-Some-2.is c.in_ok-next.ensures.ok in
    (goes_on c.args.seat c.loop-calls.calls c.in-Some.ticket c.args.book.now b known n (known_of c.in-Some-2.next) so.0 so.1 made, omega (arith, c.if-calls-most.true))

pub returns-else-calls-most-clause-solo : goal.returns-else-calls-most-clause-solo
returns-else-calls-most-clause-solo g c =
    ends_full c.args.seat c.args.most c.loop-calls.calls c.args.book.now c.loop-calls.book (known_of c.loop-calls.known) c.loop-calls.invariant.0 c.loop-calls.invariant.1 (omega (arith, c.if-calls-most.false))

pub returns-in_default-clause-solo : goal.returns-in_default-clause-solo
returns-in_default-clause-solo g c =
    ends_none c.args.seat c.args.most c.loop-calls.calls c.args.book.now c.loop-calls.book (known_of c.loop-calls.known) c.loop-calls.invariant.0 c.loop-calls.invariant.1
    (none_of (NoneFor c.loop-calls.book.tickets c.args.seat) (IsLeastFor c.loop-calls.book.tickets c.args.seat) c.next_for.result c.next_for.ensures c.in_default.not-Some)

pub returns-in_default-2-clause-solo : goal.returns-in_default-2-clause-solo
returns-in_default-2-clause-solo g c =
    let b = c.make_rounds.new.book in
    let n = c.call_for.new.book in
    let so = stays g (goal.at.returns-in_default-2-clause-solo g c).Else-made-gt0 in
    ends_spent c.args.seat c.args.most c.loop-calls.calls c.in-Some.ticket c.args.book.now b (known_of c.loop-calls.known) n so.0 c.if-calls-most.true so.1
    (none_of (Claims b c.args.seat c.in-Some.ticket (Err claim.LabelsSpent) n) (λ after. SoloCall c.args.seat c.in-Some.ticket b (known_of c.loop-calls.known) n (known_of after)) c.in_ok-next.field-0 c.in_ok-next.ensures.ok c.in_default-2.not-Some)
