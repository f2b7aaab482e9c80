use Rattle.std.proofs.Common.{rules, ◌≡◌, ◌<◌, ◌-◌, List, [], ◌∷◌, ◌++◌, length, ap, ◌∙◌}
use Rattle.chr_search.specs.Verdicts.{Trial}
use Rattle.chr_calls.specs.Books.{space_of}
use Rattle.chr_calls.specs.Batches.{IsNextBeside, NoneBeside}
use Rattle.chr_book.specs.Books.{book_of}
use Rattle.chr_book.proofs.Sheets.{behind_told, together_first, together_next, together_end, together_full, last_there}
use Rattle.chr_book.proofs.book.Book.with_those_behind.Goals.{else-loop-program-test, then-loop-program-test+in_ok-next+in_default}
use Rattle.chr_book.proofs.book.Book.with_those_behind.Goals as goal

pub loop-program-preserved : goal.loop-program-preserved
loop-program-preserved g c =
    let x = c.self.inside in
    let l = c.args.search.now.label in
    let s = space_of c.args.self.now l in
    let trials = c.loop-program.trials.items in
    let last = c.index-last.result.now in
    let less : length trials < 16 = search rules in
    let there = last_there (IsNextBeside s) (NoneBeside s) 16 c.args.first trials (16 - length trials) c.loop-program.invariant last in
    let is : last ≡ c.loop-program.invariant.last = search rules in
    let same = ap (λ rules. book_of rules x.plans x.names x.log x.store x.tickets) c.deref.ensures ∙ c.self.view_is in
    let next = behind_told _ _ same l last c.in_ok-next.ensures c.in-Trial.is in
    together_next (IsNextBeside s) (NoneBeside s) 16 c.args.first last c.in-Trial.next trials c.push-in-loop-program.new.self.items less c.loop-program.invariant is next (search rules)

pub returns : goal.returns
returns g c =
    let x = c.self.inside in
    let l = c.args.search.now.label in
    let s = space_of c.args.self.now l in
    let trials = c.loop-program.trials.items in
    elim c.loop-program-test.branch [
      | else-loop-program-test w ↦ together_full (IsNextBeside s) (NoneBeside s) 16 c.args.first trials (search rules) c.loop-program.invariant
      | then-loop-program-test+in_ok-next+in_default w ↦
          let last = w.index-last.result.now in
          let less : length trials < 16 = search rules in
          let there = last_there (IsNextBeside s) (NoneBeside s) 16 c.args.first trials (16 - length trials) c.loop-program.invariant last in
          let is : last ≡ c.loop-program.invariant.last = search rules in
          together_end (IsNextBeside s) (NoneBeside s) 16 c.args.first last trials less c.loop-program.invariant is (behind_told _ _ (ap (λ rules. book_of rules x.plans x.names x.log x.store x.tickets) w.deref.ensures ∙ c.self.view_is) l last w.in_ok-next.ensures w.in_default.is)
    ]

pub loop-program-init : goal.loop-program-init
loop-program-init g c =
    let s = space_of c.args.self.now c.args.search.now.label in
    together_first (IsNextBeside s) (NoneBeside s) 16 c.args.first c.push.new.self.items (c.in_ok-push.ensures.items ∙ ap (λ (trials : List Trial). trials ++ c.args.first ∷ []) c.in_ok-trials.ensures.items)
