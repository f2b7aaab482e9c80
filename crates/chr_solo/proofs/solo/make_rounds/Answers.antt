use Rattle.std.proofs.Common.{◌≡◌, ◌+◌, ◌*◌, MatchOption, sym, ap, subst}
use Rattle.chr_calls.specs.Books.{BookState}
use Rattle.chr_book.specs.Passed.{MakesRounds, StartsRounds}
use Rattle.chr_solo.specs.Solo.{Nothing}
use Rattle.chr_solo.specs.SoloCode.{known_of, SoloSoFar}
use Rattle.chr_solo.proofs.SoloRuns.{start_two, rounds_two, none_of}
use Rattle.chr_solo.proofs.solo.make_rounds.Goals as goal

pub returns-in-Some-clause-so_far : goal.returns-in-Some-clause-so_far
returns-in-Some-clause-so_far g c = λ first calls so.
    let seat = c.args.seat in
    let old = c.args.book.now in
    let new = c.start.new.self in
    let none : known_of c.args.known.now ≡ Nothing = ap known_of c.in-Nothing.is in
    let starts = subst (λ o. MatchOption o (new ≡ old) (λ rounds. StartsRounds seat c.args.ticket rounds old new)) c.in-Some.is c.in_ok-rounds.ensures.ok in
    subst (λ known. SoloSoFar seat first (calls + (1 + 2 * c.count.result)) new known) (sym none)
    (subst (λ k. SoloSoFar seat first (calls + (1 + 2 * k)) new Nothing) (sym c.count.ensures)
    (start_two seat c.args.ticket calls c.in-Some.rounds first old new starts c.requires.least (subst (SoloSoFar seat first calls old) none so)))

pub returns-clause-so_far : goal.returns-clause-so_far
returns-clause-so_far g c = λ first calls so.
    let seat = c.args.seat in
    let old = c.args.book.now in
    let new = c.go_on.new.self in
    let none : known_of c.args.known.now ≡ Nothing = ap known_of c.in-Nothing.is in
    let same : c.start.new.self ≡ old = none_of (c.start.new.self ≡ old) (λ rounds. StartsRounds seat c.args.ticket rounds old c.start.new.self) c.in_ok-rounds.field-0 c.in_ok-rounds.ensures.ok c.in_default-2.not-Some in
    subst (λ known. SoloSoFar seat first (calls + 2 * c.count-2.result) new known) (sym none)
    (subst (λ k. SoloSoFar seat first (calls + 2 * k) new Nothing) (sym c.count-2.ensures)
    (rounds_two seat c.args.ticket calls c.in_ok-rounds-2.rounds first old new (subst (λ (m : BookState). MakesRounds seat c.args.ticket c.in_ok-rounds-2.rounds m new) same c.in_ok-rounds-2.ensures.ok) c.requires.least (subst (SoloSoFar seat first calls old) none so)))
