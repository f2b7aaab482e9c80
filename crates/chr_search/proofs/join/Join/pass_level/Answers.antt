use Rattle.std.proofs.Common.{◌≡◌, ◌<◌, ◌≤◌, ℕ, max, List, [], ◌∷◌, ◌++◌, length, refl, sym, ap, subst, ◌∙◌, arith}
use Rattle.arrayvec.specs.ArrayVec.{ArrayVec}
use Rattle.chr_search.specs.declared.passing.Next.{Next}
use Rattle.chr_search.specs.declared.passing.Next.TheVariants.{Part, Whole, NoneLeft, Enough}
use Rattle.chr_search.specs.Tree.{Least}
use Rattle.chr_search.specs.Trials.{MayFollow}
use Rattle.chr_search.specs.Joined.{join_of}
use Rattle.chr_search.specs.Passing.{AreWhole, ComesNext, IsBelow}
use Rattle.chr_search.proofs.Asking.{room, follows_low}
use Rattle.chr_search.proofs.Below.{HasRun, below_later, misfits_passed, misfits_enough, misfits_rise, misfits_room, below_least, below_done, part_passed}
use Rattle.chr_search.proofs.join.Join.pass_level.Goals.{After-pass_run-run}
use Rattle.chr_search.proofs.join.Join.pass_level.Goals as goal

-- to look from 0 and from 1 are the same
from_one : (g : _) (c : After-pass_run-run g) (place : List ℕ) → IsBelow (join_of c.args.self.now) c.args.instance.now.labels.items place c.args.from → IsBelow (join_of c.args.self.now) c.args.instance.now.labels.items place (max 1 c.args.from)
from_one g c place = below_later _ _ place c.args.from (max 1 c.args.from) (omega arith) (λ x m low. omega (arith, follows_low _ _ c.active-given.ensures.labelled.given _ x m))

-- the run of misfits
run : (g : _) (c : After-pass_run-run g) (place : List ℕ) → IsBelow (join_of c.args.self.now) c.args.instance.now.labels.items place c.args.from → HasRun (join_of c.args.self.now) c.args.instance.now.labels.items place c.pass_run-run.result.count c.pass_run-run.result.next
run g c place b = misfits_passed _ _ _ _ _ _ (from_one g c place b) c.pass_run-run.ensures.misfits

-- what comes after it
comes : (g : _) (c : After-pass_run-run g) (next : Next) → c.pass_run-run.result.then ≡ next → ComesNext (join_of c.args.self.now) c.args.instance.now.labels.items c.pass_run-run.result.count c.args.most c.pass_run-run.result.next next c.pass_run-run.new.binding
comes g c next is = subst (λ t. ComesNext (join_of c.args.self.now) c.args.instance.now.labels.items c.pass_run-run.result.count c.args.most c.pass_run-run.result.next t c.pass_run-run.new.binding) is c.pass_run-run.ensures.then

pub push-requires : goal.push-requires
push-requires g c =
    let r = room _ c.requires.begins.plan _ c.in-Whole.label (comes g (goal.at.push-requires g c).After-pass_run-run (Whole c.in-Whole.label) c.in-Whole.is).1.holds in
    (omega arith, subst (λ (v : ArrayVec ℕ). length v.items < 6) (sym c.pass_run-run.ensures.labels) r)

pub push-requires-in-Enough : goal.push-requires-in-Enough
push-requires-in-Enough g c =
    let many : c.pass_run-run.result.count ≡ c.args.most = comes g (goal.at.push-requires-in-Enough g c).After-pass_run-run Enough c.in-Enough.is in
    let r : length c.args.instance.now.labels.items < 6 = misfits_room _ c.requires.begins.plan _ _ (max 1 c.args.from) _ c.pass_run-run.ensures.misfits (omega (arith, c.requires.some)) in
    (omega arith, subst (λ (v : ArrayVec ℕ). length v.items < 6) (sym c.pass_run-run.ensures.labels) r)

-- after a part
pub returns-in-Part-clause-passes : goal.returns-in-Part-clause-passes
returns-in-Part-clause-passes g c = λ place below.
    let at = (goal.at.returns-in-Part-clause-passes g c).After-pass_run-run in
    let path = c.args.instance.now.labels.items in
    let label = c.in-Part.label in
    let run = run g at place below in
    let part = comes g at (Part label) c.in-Part.is in
    let low : c.args.from ≤ c.pass_run-run.result.next = omega (arith, misfits_rise _ _ _ (max 1 c.args.from) _ c.pass_run-run.ensures.misfits) in
    let there : c.pass_run-run.result.next ≤ label = part.1.there in
    record {
      after = (path ++ label ∷ []) ++ 0 ∷ [];
      passes = part_passed _ path place _ run.at _ label run.passes run.below part.1 part.2.0;
      stops = (ap (λ (v : ArrayVec ℕ). v.items) c.pass_run-run.ensures.labels, omega arith, record { follows = part.1.holds; tried = part.2; place_is = refl });
    }

-- before a trial that is whole
pub returns-in-Whole-clause-passes : goal.returns-in-Whole-clause-passes
returns-in-Whole-clause-passes g c = λ place below.
    let at = (goal.at.returns-in-Whole-clause-passes g c).After-pass_run-run in
    let run = run g at place below in
    let whole = comes g at (Whole c.in-Whole.label) c.in-Whole.is in
    let pushed : c.push.new.self.items ≡ c.args.instance.now.labels.items ++ c.in-Whole.label ∷ [] = c.push.ensures.items ∙ ap (λ (v : ArrayVec ℕ). v.items ++ c.in-Whole.label ∷ []) c.pass_run-run.ensures.labels in
    record {
      after = run.at;
      passes = run.passes;
      stops = (
        subst (Least (MayFollow (join_of c.args.self.now)) 1 [] run.at) (sym pushed) (below_least _ _ _ _ c.in-Whole.label run.below whole.1),
        subst (λ ls. AreWhole (join_of c.args.self.now) ls c.pass_run-run.new.binding) (sym pushed) whole.2,
      );
    }

-- where none is left
pub returns-in-NoneLeft-clause-passes : goal.returns-in-NoneLeft-clause-passes
returns-in-NoneLeft-clause-passes g c = λ place below.
    let at = (goal.at.returns-in-NoneLeft-clause-passes g c).After-pass_run-run in
    let run = run g at place below in
    let none = comes g at NoneLeft c.in-NoneLeft.is in
    record { after = run.at; passes = run.passes; stops = (ap (λ (v : ArrayVec ℕ). v.items) c.pass_run-run.ensures.labels, below_done _ _ _ _ run.below none.1) }

-- after misfits that are as many as were asked for
pub returns-in-Enough-clause-passes : goal.returns-in-Enough-clause-passes
returns-in-Enough-clause-passes g c = λ place below.
    let at = (goal.at.returns-in-Enough-clause-passes g c).After-pass_run-run in
    let many : c.pass_run-run.result.count ≡ c.args.most = comes g at Enough c.in-Enough.is in
    record {
      after = c.args.instance.now.labels.items ++ c.pass_run-run.result.next ∷ [];
      passes = misfits_enough _ _ place _ _ _ (from_one g at place below) c.pass_run-run.ensures.misfits (omega (arith, c.requires.some));
      stops = c.push-in-Enough.ensures.items ∙ ap (λ (v : ArrayVec ℕ). v.items ++ c.pass_run-run.result.next ∷ []) c.pass_run-run.ensures.labels;
    }
