use Rattle.std.proofs.Common.{◌≡◌, ◌+◌, ◌-◌, ◌<◌, ℕ, List, [], ◌∷◌, ◌++◌, length, length-append, refl, sym, ap, subst, ◌∙◌, arith}
use Rattle.chr_guard.specs.Bindings.{AreKnown, Keeps}
use Rattle.chr_guard.proofs.Bindings.{keeps_both, keeps_itself}
use Rattle.chr_search.specs.Tree.{Grows}
use Rattle.chr_search.specs.declared.passing.Level.{Level as CodeLevel}
use Rattle.chr_search.specs.Trials.{MayFollow}
use Rattle.chr_search.specs.Joined.{join_of}
use Rattle.chr_search.specs.Partners.{IsReady}
use Rattle.chr_search.specs.Passing.{IsCounted, IsLevel, IsBelow, IsDone, EndsBelow, PassesBelow}
use Rattle.chr_search.proofs.Tree.{grows_more}
use Rattle.chr_search.proofs.Asking.{room, front}
use Rattle.chr_search.proofs.PassingOver.{label_small, room_below}
use Rattle.chr_search.proofs.Below.{below_at, below_done, done_below, passes_more, counted_more, passed_more, deeper_passed, nearer, beside_ends, HasStopped, beside_stops, part_below}
use Rattle.chr_search.proofs.join.Join.+pass_below.Goals.{In-Part, After-push, After-pass_below-below, After-pop, After-return_to}
use Rattle.chr_search.proofs.join.Join.+pass_below.Goals as goal

-- no label may be tried after these
pub returns-in_default-clause-passes : goal.returns-in_default-clause-passes
returns-in_default-clause-passes g t c = λ place below. record {
  after = place;
  passes = refl;
  ends = (refl, below_done _ _ _ _ below (λ x m low. c.in_default.ensures x (subst (λ ls. MayFollow (join_of c.args.self.now) ls x) (sym c.as_slice.ensures.value) m)));
}

pub returns-in_default-clause-keeps : goal.returns-in_default-clause-keeps
returns-in_default-clause-keeps g t c = keeps_itself c.args.binding.now

-- the level ends
pub returns-in-End-clause-passes : goal.returns-in-End-clause-passes
returns-in-End-clause-passes g t c = λ place below.
    beside_ends _ c.args.instance.now.labels.items c.loop-label.instance.labels.items place _ _ _ c.pass_level-beside.result.stop _ _ c.loop-label.invariant.labels (c.loop-label.invariant.passes place below) c.pass_level-beside.ensures.passes c.in-End.end c.in-End.is

-- or it stops at a part
part : (g : _) (t : _) (c : In-Part g t) (place : List ℕ) → IsBelow (join_of c.args.self.now) c.args.instance.now.labels.items place c.args.from
    → HasStopped (join_of c.args.self.now) c.args.instance.now.labels.items c.loop-label.from place (c.loop-label.count + c.pass_level-beside.result.count) c.in-Part.label c.pass_level-beside.new.instance.labels.items c.pass_level-beside.new.binding
part g t c place below =
    beside_stops _ c.args.instance.now.labels.items c.loop-label.instance.labels.items place _ _ _ c.pass_level-beside.result.stop _ _ c.loop-label.invariant.labels (c.loop-label.invariant.passes place below) c.pass_level-beside.ensures.passes c.in-Part.label c.in-Part.is

here : (g : _) (t : _) (c : In-Part g t)
    → HasStopped (join_of c.args.self.now) c.args.instance.now.labels.items c.loop-label.from (c.args.instance.now.labels.items ++ c.args.from ∷ []) (c.loop-label.count + c.pass_level-beside.result.count) c.in-Part.label c.pass_level-beside.new.instance.labels.items c.pass_level-beside.new.binding
here g t c = part g t c (c.args.instance.now.labels.items ++ c.args.from ∷ []) (below_at _ _ _ c.args.from c.requires.grows refl)

-- whose label is added
pushed : (g : _) (t : _) (c : After-push g t) → c.pass_level-beside.new.instance.labels.items ≡ c.args.instance.now.labels.items → c.push.new.self.items ≡ c.args.instance.now.labels.items ++ c.in-Part.label ∷ []
pushed g t c same = c.push.ensures.items ∙ ap (λ ls. ls ++ c.in-Part.label ∷ []) same

pub push-requires : goal.push-requires
push-requires g t c =
    let here = here g t (goal.at.push-requires g t c).In-Part in
    (omega arith, subst (λ (xs : List ℕ). length xs < 6) (sym here.same) (room (join_of c.args.self.now) c.requires.begins.plan c.args.instance.now.labels.items c.in-Part.label here.part.follows))

-- where it is the last that was asked for
pub push-requires-then-count-most : goal.push-requires-then-count-most
push-requires-then-count-most g t c =
    let at = goal.at.push-requires-then-count-most g t c in
    let here = here g t at.In-Part in
    let ls = c.args.instance.now.labels.items ++ c.in-Part.label ∷ [] in
    let t = c.requires.begins.trials ls (omega (arith, length-append c.args.instance.now.labels.items (c.in-Part.label ∷ []))) (grows_more _ [] _ c.in-Part.label c.requires.grows here.part.follows) in
    (omega arith, subst (λ (xs : List ℕ). length xs < 6) (sym (pushed g _ at.After-push here.same)) (room_below _ ls t.0 t.1 (here.part.tried.0 t.0 t.1)))

pub returns-then-count-most-clause-passes : goal.returns-then-count-most-clause-passes
returns-then-count-most-clause-passes g t c = λ place below.
    let at = goal.at.returns-then-count-most-clause-passes g t c in
    let part = part g t at.In-Part place below in
    record {
      after = part.after;
      passes = part.passes;
      ends = c.push-then-count-most.ensures.items ∙ ap (λ ls. ls ++ 0 ∷ []) (pushed g t at.After-push part.same) ∙ sym part.part.place_is;
    }

-- what is passed over deeper
pub pass_below-below-requires : goal.pass_below-below-requires
pass_below-below-requires g t c κs within =
    let at = goal.at.pass_below-below-requires g t c in
    let path = c.args.instance.now.labels.items in
    let label = c.in-Part.label in
    let here = here g t at.In-Part in
    let pushed = pushed g t at.After-push here.same in
    let grown = grows_more _ [] path label c.requires.grows here.part.follows in
    let less : 6 - length c.push.new.self.items < 6 - length c.args.instance.now.labels.items = omega (arith, ap length pushed, length-append path (label ∷ []), room _ c.requires.begins.plan path label here.part.follows) in (
      subst (λ n. 6 - length c.push.new.self.items < n) c.decreases less,
      (within, (omega arith, (omega (arith, c.pass_level-beside.ensures.few, c.loop-label.invariant.less, c.if-count-most.false), (c.requires.begins, (omega (arith, ap length pushed, length-append path (label ∷ [])), (subst (Grows (MayFollow (join_of c.args.self.now)) []) (sym pushed) grown, subst (λ ls. IsReady (join_of c.args.self.now) ls c.pass_level-beside.new.binding) (sym pushed) here.part.tried.1)))))),
    )

deeper : (g : _) (t : _) (c : After-pass_below-below g t) (after : List ℕ) → IsBelow (join_of c.args.self.now) c.push.new.self.items after 0 → PassesBelow (join_of c.args.self.now) c.push.new.self.items after c.pass_below-below.result c.pass_below-below.new.instance.labels.items c.pass_below-below.new.binding
deeper g t c after below = c.pass_below-below.ensures.passes after below

counted : (g : _) (t : _) (c : After-pass_below-below g t) → IsCounted c.args.most (record { count = c.loop-label.count + c.pass_level-beside.result.count + c.pass_below-below.result.count; end = c.pass_below-below.result.end })
counted g t c = counted_more c.args.most (c.loop-label.count + c.pass_level-beside.result.count) c.pass_below-below.result (omega (arith, c.pass_level-beside.ensures.few, c.loop-label.invariant.less)) c.pass_below-below.ensures.counted

kept : (g : _) (t : _) (c : After-pass_below-below g t) → Keeps c.loop-label.binding c.pass_below-below.new.binding
kept g t c = keeps_both c.loop-label.binding c.pass_level-beside.new.binding c.pass_below-below.new.binding c.pass_level-beside.ensures.keeps c.pass_below-below.ensures.keeps

-- some are left there
pub returns-in_default-end-clause-counted : goal.returns-in_default-end-clause-counted
returns-in_default-end-clause-counted g t c = counted g t (goal.at.returns-in_default-end-clause-counted g t c).After-pass_below-below

pub returns-in_default-end-clause-passes : goal.returns-in_default-end-clause-passes
returns-in_default-end-clause-passes g t c = λ place below.
    let at = goal.at.returns-in_default-end-clause-passes g t c in
    let j = join_of c.args.self.now in
    let path = c.args.instance.now.labels.items in
    let part = part g t at.In-Part place below in
    let deeper = deeper g t at.After-pass_below-below part.after (part_below j path _ part.after _ _ c.requires.grows part.part (pushed g t at.After-push part.same)) in
    passed_more j path _ place part.after c.pass_below-below.result _ _ part.passes (deeper_passed j c.push.new.self.items path part.after c.pass_below-below.result _ _ c.in_default-end.not-NoneLeft deeper)

pub returns-in_default-end-clause-keeps : goal.returns-in_default-end-clause-keeps
returns-in_default-end-clause-keeps g t c = subst (λ b. Keeps b c.pass_below-below.new.binding) c.loop-label.invariant.binding (kept g t (goal.at.returns-in_default-end-clause-keeps g t c).After-pass_below-below)

-- or none is, and the label is taken away
left : (g : _) (t : _) (c : After-pop g t) → c.push.new.self.items ≡ c.args.instance.now.labels.items ++ c.in-Part.label ∷ [] → (after : List ℕ) → EndsBelow (join_of c.args.self.now) c.push.new.self.items after c.pass_below-below.result.end c.pass_below-below.new.instance.labels.items c.pass_below-below.new.binding
    → (c.pop.new.self.items ≡ c.args.instance.now.labels.items) × IsDone (join_of c.args.self.now) (c.args.instance.now.labels.items ++ c.in-Part.label ∷ []) after
left g t c pushed after ends =
    let done = subst (λ e. EndsBelow (join_of c.args.self.now) c.push.new.self.items after e c.pass_below-below.new.instance.labels.items c.pass_below-below.new.binding) c.in-NoneLeft.is ends in
    (front c.args.instance.now.labels.items c.in-Part.label c.pop.new.self.items c.pass_below-below.new.instance.labels.items (done.0 ∙ pushed) c.pop.ensures.rest, subst (λ ls. IsDone (join_of c.args.self.now) ls after) pushed done.1)

known : (g : _) (t : _) (c : After-pass_below-below g t) → AreKnown c.pass_level-beside.new.level.known c.loop-label.binding
known g t c = subst (λ (l : CodeLevel _). AreKnown l.known c.loop-label.binding) (sym c.pass_level-beside.ensures.same) c.loop-label.invariant.level.known

returned : (g : _) (t : _) (c : After-return_to g t) → AreKnown c.pass_level-beside.new.level.known c.loop-label.binding → Keeps c.loop-label.binding c.pass_below-below.new.binding → c.return_to.new.self ≡ c.loop-label.binding
returned g t c = c.return_to.ensures c.loop-label.binding

pub return_to-requires : goal.return_to-requires
return_to-requires g t c =
    let at = goal.at.return_to-requires g t c in
    (omega arith, (c.loop-label.binding, known g t at.After-pass_below-below, kept g t at.After-pass_below-below))

pub overflow_add-from : goal.overflow_add-from
overflow_add-from g t c =
    let path = c.args.instance.now.labels.items in
    let label = c.in-Part.label in
    let follows = (here g t (goal.at.overflow_add-from g t c).In-Part).part.follows in
    let t = c.requires.begins.trials (path ++ label ∷ []) (omega (arith, length-append path (label ∷ []))) (grows_more _ [] path label c.requires.grows follows) in
    omega (arith, label_small _ path label t.0 t.1)

pub loop-label-smaller : goal.loop-label-smaller
loop-label-smaller g t c = let here = here g t (goal.at.loop-label-smaller g t c).In-Part in nearer _ refl _ _ _ here.part.follows here.low

pub loop-label-preserved : goal.loop-label-preserved
loop-label-preserved g t c =
    let at = goal.at.loop-label-preserved g t c in
    let j = join_of c.args.self.now in
    let i = c.loop-label.invariant in
    let path = c.args.instance.now.labels.items in
    let here = here g t at.In-Part in
    let pushed = pushed g t at.After-push here.same in
    let found = deeper g t at.After-pass_below-below here.after (part_below j path _ here.after _ _ c.requires.grows here.part pushed) in
    let same : c.pop.new.self.items ≡ path = (left g t at.After-pop pushed found.after found.ends).0 in
    let back = returned g t at.After-return_to (known g t at.After-pass_below-below) (kept g t at.After-pass_below-below) ∙ i.binding in
    let still : c.pop.new.self.items ≡ c.loop-label.instance.labels.items = same ∙ sym i.labels in
    record {
      less = (counted g t at.After-pass_below-below).less c.in-NoneLeft.is;
      passes = λ place below.
          let part = part g t at.In-Part place below in
          let deeper = deeper g t at.After-pass_below-below part.after (part_below j path _ part.after _ _ c.requires.grows part.part pushed) in
          record {
            at = deeper.after;
            passes = passes_more j _ _ place part.after deeper.after part.passes deeper.passes;
            below = done_below j path deeper.after c.in-Part.label c.requires.grows (left g t at.After-pop pushed deeper.after deeper.ends).1;
          };
      labels = same;
      binding = back;
      grows = subst (Grows (MayFollow j) []) (sym same) c.requires.grows;
      ready = subst (IsReady j c.pop.new.self.items) (sym back) (subst (λ ls. IsReady j ls c.args.binding.now) (sym same) c.requires.ready);
      level = subst (λ b. IsLevel j c.pop.new.self.items b c.pass_level-beside.new.level) (sym back) (subst (λ b. IsLevel j c.pop.new.self.items b c.pass_level-beside.new.level) i.binding (subst (IsLevel j c.pop.new.self.items c.loop-label.binding) (sym c.pass_level-beside.ensures.same) (subst (λ ls. IsLevel j ls c.loop-label.binding c.loop-label.level) (sym still) i.level)));
    }
