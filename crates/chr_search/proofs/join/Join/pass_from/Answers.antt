use Rattle.std.proofs.Common.{◌≡◌, ◌<◌, ◌≤◌, false, List, ℕ, ◌∷◌, ◌++◌, [], length, refl, sym, ap, subst, ◌∙◌, arith}
use Rattle.chr_search.specs.Tree.{Grows, NoneBeyond}
use Rattle.chr_search.specs.Trials.{MayFollow}
use Rattle.chr_search.specs.Joined.{join_of}
use Rattle.chr_search.specs.Partners.{IsReady}
use Rattle.chr_search.specs.Passing.{PassesBelow}
use Rattle.chr_search.proofs.Asking.{free_ready}
use Rattle.chr_search.proofs.Below.{above_done, behind_first, below_passed, below_same}
use Rattle.chr_search.proofs.Partners.{none_below, active_more}
use Rattle.chr_search.proofs.join.Join.pass_from.Goals.{In-Some-split_first}
use Rattle.chr_search.proofs.join.Join.pass_from.Goals as goal

-- no label above the active one comes first
pub returns-then-first-active-clause-passes : goal.returns-then-first-active-clause-passes
returns-then-first-active-clause-passes g c =
    let j = join_of c.args.self.now in
    let done = above_done j [] c.args.place.now c.in-Some.first.now c.in-Some.below.now refl c.in-Some.ensures.cases.0 (subst (λ x. x < c.in-Some.first.now) c.active.ensures.value c.if-first-active.true) in
    record { after = c.args.place.now; passes = refl; ends = subst (NoneBeyond (MayFollow j) 1 []) (sym done.is) done.none }

-- so the active one does
first : (g : _) (c : In-Some-split_first g) → c.in-Some.first.now ≡ c.args.self.now.view.active
first g c =
    behind_first c.args.place.now c.in-Some.first.now c.args.self.now.view.active c.in-Some.below.now c.in-Some.ensures.cases.0 c.requires.behind
    (omega (arith, c.if-first-active.false, c.active.ensures.value))

pub narrow_by-requires : goal.narrow_by-requires
narrow_by-requires g c = (omega arith, (c.requires.begins.plan, free_ready _ _ _ c.variables.ensures.count c.reset.ensures))

-- after which perhaps none may be tried
pub returns-then-not-narrow_by-clause-passes : goal.returns-then-not-narrow_by-clause-passes
returns-then-not-narrow_by-clause-passes g c =
    let j = join_of c.args.self.now in
    let first = first g (goal.at.returns-then-not-narrow_by-clause-passes g c).In-Some-split_first in
    let begins = c.requires.begins.begins in
    let x = c.in-Some.first.now in
    let below = c.in-Some-split_first.next.now ∷ c.in-Some-split_first.rest.now in
    let none = none_below j [] x c.in-Some-split_first.next.now c.in-Some-split_first.rest.now (c.if-not-narrow_by.ensures.narrowed (subst (MayFollow j []) (sym first) begins)) in
    record {
      after = c.args.place.now;
      passes = refl;
      ends = active_more j begins (j.active ∷ []) refl c.args.place.now x c.in-Some.below.now c.in-Some.ensures.cases.0 first false (j.active ∷ [])
          (subst (NoneBeyond (MayFollow j) 1 (j.active ∷ [])) (sym c.in-Some-split_first.ensures.cases.0) (subst (λ y. NoneBeyond (MayFollow j) 1 (y ∷ []) below) first none), refl);
    }

pub pass_on-requires : goal.pass_on-requires
pass_on-requires g c =
    let j = join_of c.args.self.now in
    let first = first g (goal.at.pass_on-requires g c).In-Some-split_first in
    let alone = sym c.requires.alone in
    let grows = subst (Grows (MayFollow j) []) alone (c.requires.begins.begins, tt) in
    let ready = subst (λ ls. IsReady j ls c.narrow_by.new.narrowed) (ap (λ x. x ∷ []) first ∙ alone) c.if-not-narrow_by.ensures.narrowed.1 in
    (omega arith, (c.requires.some, (c.requires.begins, (subst (λ (ls : List ℕ). 1 ≤ length ls) alone (omega arith), (grows, ready)))))

pub returns-clause-passes : goal.returns-clause-passes
returns-clause-passes g c =
    let j = join_of c.args.self.now in
    let labels = c.pass_on.new.instance.labels.items in
    let first = first g (goal.at.returns-clause-passes g c).In-Some-split_first in
    let rest = c.in-Some-split_first.next.now ∷ c.in-Some-split_first.rest.now in
    let place : c.args.instance.now.labels.items ++ rest ≡ c.args.place.now =
    ap (λ (ls : List ℕ). ls ++ rest) c.requires.alone ∙ ap (λ x. x ∷ rest) (sym first)
    ∙ ap (λ (ls : List ℕ). c.in-Some.first.now ∷ ls) (sym c.in-Some-split_first.ensures.cases.0) ∙ sym c.in-Some.ensures.cases.0 in
    below_passed j j.active c.requires.begins.begins _ c.requires.alone c.args.place.now c.pass_on.result labels c.pass_on.new.binding
    (subst (λ p. PassesBelow j c.args.instance.now.labels.items p c.pass_on.result labels c.pass_on.new.binding) place c.pass_on.ensures.passes)

pub returns-clause-alone : goal.returns-clause-alone
returns-clause-alone g c = λ none. below_same _ _ _ c.pass_on.result _ _ c.pass_on.ensures.passes none ∙ c.requires.alone
