use Rattle.std.proofs.Common.{rules, ◌≡◌, suc, ◌-◌, slice_get, Some, None, refl, arith}
use Rattle.chr_search.specs.Verdicts.{IsFormed}
use Rattle.chr_sheet.specs.Kept.{trials_in}
use Rattle.chr_calls.specs.Books.{space_of}
use Rattle.chr_calls.specs.Batches.{AreTogether, IsNextAfter, NoneAfter}
use Rattle.chr_book.specs.Given.{ComesNext}
use Rattle.chr_book.specs.Asked.{IsLiveSearch}
use Rattle.chr_book.proofs.Sheets.{given, sheet_comes, sheet_done}
use Rattle.chr_book.proofs.Turns.{found_as}
use Rattle.chr_book.proofs.book.Book.sheet.Goals as goal
use Rattle.chr_book.proofs.book.Book.sheet.Goals.{In-Ok-first, In-Some}

-- the search of the goal, which is live
live : (g : _) (c : In-Some g) → IsLiveSearch c.args.self.now c.args.seat c.args.ticket c.in-Some.search.now
live g c = found_as c.args.self.now c.args.seat c.args.ticket c.in_ok-search.ensures c.in-Some.is

-- its next trial, and those after it
comes : (g : _) (c : In-Ok-first g) → IsFormed c.in-Ok-first.candidate → ComesNext c.args.self.now c.args.seat c.args.ticket c.in-Ok-first.candidate × (let s = space_of c.args.self.now c.in-Some.search.now.label in AreTogether (IsNextAfter s) (NoneAfter s) (c.args.most - 1) c.in-Ok-first.candidate (trials_in c.in-Ok.trials.items))
comes g c formed =
    let live = found_as c.args.self.now c.args.seat c.args.ticket c.in_ok-search.ensures c.in-Some.is in
    let one : c.max.result ≡ suc (c.args.most - 1) = omega arith in
    let at : slice_get c.in-Ok.trials.items 0 ≡ Some c.in-Some-first.first.now = search rules in
    sheet_comes _ _ c.self.view_is c.args.seat c.args.ticket c.max.result (c.args.most - 1) c.in-Some.search.now c.in-Ok.trials.items c.in-Some-first.first.now c.in-Ok-first.candidate one live c.in-Ok.ensures at c.in-Ok-first.ensures formed

pub returns-in_default-first : goal.returns-in_default-first
returns-in_default-first g c =
    let one : c.max.result ≡ suc (c.args.most - 1) = omega arith in
    let at : slice_get c.in-Ok.trials.items 0 ≡ None = search rules in
    let done = sheet_done _ _ c.self.view_is c.args.seat c.args.ticket c.max.result (c.args.most - 1) c.in-Some.search.now c.in-Ok.trials.items one (live g (goal.at.returns-in_default-first g c).In-Some) c.in-Ok.ensures at in
    (done.0, done.1, done.2, c.forget_candidate-in_default-first.ensures)

pub set_candidate-requires : goal.set_candidate-requires
set_candidate-requires g c = (c.args.seat, (comes g (goal.at.set_candidate-requires g c).In-Ok-first c.placed-placed.ensures.formed).0)

pub returns : goal.returns
returns g c =
    let at = goal.at.returns g c in
    let next = comes g at.In-Ok-first c.placed-placed.ensures.formed in
    given IsNextAfter NoneAfter (c.args.most - 1) c.args.self.now c.args.self.now c.set_candidate.new.self refl c.args.seat c.args.ticket c.in-Some.search.now.label c.in-Ok-first.candidate (trials_in c.in-Ok.trials.items) (live g at.In-Some).holds
    (next.0.label, next.0.holds, next.0.is, c.set_candidate.ensures) next.1

pub forget_candidate-requires : goal.forget_candidate-requires
forget_candidate-requires g c =
    let gone = found_as c.args.self.now c.args.seat c.args.ticket c.in_ok-search.ensures c.in_default.is in
    (gone.label, gone.holds.goal)

pub returns-in_default : goal.returns-in_default
returns-in_default g c =
    let gone = found_as c.args.self.now c.args.seat c.args.ticket c.in_ok-search.ensures c.in_default.is in
    (gone.label, gone.holds, gone.gone, c.forget_candidate.ensures)

pub returns-in_default-read : goal.returns-in_default-read
returns-in_default-read g c = (c.in-Some.search.now.label, (live g (goal.at.returns-in_default-read g c).In-Some).holds, refl)

pub forget_candidate-requires-in_default-first : goal.forget_candidate-requires-in_default-first
forget_candidate-requires-in_default-first g c = (c.in-Some.search.now.label, (live g (goal.at.forget_candidate-requires-in_default-first g c).In-Some).holds.holds.goal)

pub returns-in_default-first-2 : goal.returns-in_default-first-2
returns-in_default-first-2 g c = (c.in-Some.search.now.label, (live g (goal.at.returns-in_default-first-2 g c).In-Some).holds, refl)
