use Rattle.std.proofs.Common.{◌≤◌, ◌+◌, ◌∷◌, ◌++◌, [], ℕ, List, length, take, sym, ap, ◌∙◌, arith}
use Rattle.std.proofs.Math.Seq.{take-length}
use Rattle.std.proofs.lemmas.List.{take-take}
use Rattle.chr_search.specs.Positions.{past}
use Rattle.chr_search.proofs.Positions.{past_last}
use Rattle.chr_search.proofs.Judging.{last_small}
use Rattle.chr_search.proofs.position.set_past.Goals as goal

pub overflow_add-last : goal.overflow_add-last
overflow_add-last c = omega (arith, last_small c.requires.0 c.requires.1 c.in-Some.before.now c.in-Some.last.now (sym (c.requires.2 ∙ c.in-Some.ensures.cases.0)))

pub returns : goal.returns
returns c =
    let before = c.in-Some.before.now in
    let n = length before in
    let all : n ≤ c.loop-i.i = c.loop-i-test.false in
    c.put_at.ensures
    ∙ ap (λ (ls : List ℕ). ls ++ (c.in-Some.last.now + 1) ∷ []) (sym (take-take n c.loop-i.i c.loop-i.after.items all) ∙ ap (take n) c.loop-i.invariant ∙ take-take n c.loop-i.i before all ∙ take-length before)
    ∙ sym (past_last before c.in-Some.last.now) ∙ ap past (sym c.in-Some.ensures.cases.0)
