use Rattle.std.proofs.Common.{◌+◌, ℕ, List, [], ◌∷◌, length, take, map, ap, subst, sym, ◌∙◌, arith}
use Rattle.std.proofs.lemmas.List.{length-append, take_all}
use Rattle.chr_run_calls.specs.declared.calls.SeatCall.{SeatCall}
use Rattle.chr_run_calls.specs.declared.calls.Answer.{Answer}
use Rattle.chr_run_calls.specs.CallLists.{Answers, AnswersAre}
use Rattle.chr_run_calls.specs.Code.{call_of, seat_call_of, answer_of, said_by}
use Rattle.chr_run_calls.proofs.Said.{next_answered}
use Rattle.chr_run_calls.proofs.run.make_calls.Goals as goal

pub loop-by-preserved : goal.loop-by-preserved
loop-by-preserved g c =
    let at = c.loop-by.invariant in
    let items = c.push_reserved.ensures.items in
    let by = c.by-item.result in
    let it = c.make_call-answer in
    record {
      made = subst (λ (xs : List (Answer g.row.A.Denot)). AnswersAre c.args.book.now (map seat_call_of (take (c.loop-by.by-index + 1) c.args.calls.now)) (map answer_of xs) it.new.book) (sym items)
          (next_answered c.args.book.now c.loop-by.book it.new.book c.args.calls.now c.loop-by.answers.items c.loop-by.by-index by it.result c.loop-by-test.true (sym at.many) c.by-item.is at.made
          (subst (λ (xs : List (Answer g.row.A.Denot)). Answers c.loop-by.book (said_by c.args.calls.now xs) by.seat (call_of by.call) (answer_of it.result) it.new.book) c.deref.ensures.value it.ensures));
      many = ap length items ∙ length-append c.loop-by.answers.items (it.result ∷ []) ∙ ap (λ (k : ℕ). k + 1) at.many;
      room = omega (arith, at.room, c.push_reserved.ensures.capacity);
    }

pub returns-clause-ok : goal.returns-clause-ok
returns-clause-ok g c =
    subst (λ (xs : List (SeatCall g.row.A.Denot)). AnswersAre c.args.book.now (map seat_call_of xs) (map answer_of c.loop-by.answers.items) c.loop-by.book) (take_all c.loop-by.by-index c.args.calls.now c.loop-by-test.false) c.loop-by.invariant.made
