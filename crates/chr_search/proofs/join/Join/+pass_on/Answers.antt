use Rattle.std.proofs.Common.{◌≡◌, ◌+◌, ◌<◌, ◌≤◌, ℕ, [], ◌∷◌, ◌++◌, length, length-append, refl, sym, ap, subst, ◌∙◌, arith}
use Rattle.std.proofs.lemmas.List.{nil_from_length}
use Rattle.chr_guard.specs.Bindings.{Keeps}
use Rattle.chr_guard.proofs.Bindings.{keeps_both, keeps_itself}
use Rattle.chr_search.specs.declared.search.Instance.{Instance}
use Rattle.chr_search.specs.Tree.{Grows, NoneBeyond}
use Rattle.chr_search.specs.Trials.{MayFollow}
use Rattle.chr_search.specs.Joined.{join_of}
use Rattle.chr_search.specs.Partners.{IsReady}
use Rattle.chr_search.specs.Passing.{PassesIn, IsBelow, IsDone, EndsBelow, PassesBelow}
use Rattle.chr_search.proofs.Tree.{grows_more}
use Rattle.chr_search.proofs.Asking.{room, front}
use Rattle.chr_search.proofs.PassingOver.{label_small}
use Rattle.chr_search.proofs.Partners.{none_below as none_fits}
use Rattle.chr_search.proofs.Below.{IsLeft, below_at, above_done, none_below, done_below, counted_more, passed_more, deeper_place, deeper_passed}
use Rattle.chr_search.proofs.join.Join.+pass_on.Goals.{then-narrow_by+in-NoneLeft, else-narrow_by, After-push, After-return_to}
use Rattle.chr_search.proofs.join.Join.+pass_on.Goals as goal

-- the place has one label more
pub returns-in_default-clause-passes : goal.returns-in_default-clause-passes
returns-in_default-clause-passes g t c =
    let path = c.args.instance.now.labels.items in
    c.pass_below.ensures.passes (path ++ c.args.first ∷ c.args.below.now)
    (below_at (join_of c.args.self.now) path (path ++ c.args.first ∷ c.args.below.now) c.args.first c.requires.grows (ap (λ ls. path ++ c.args.first ∷ ls) (nil_from_length c.args.below.now c.in_default.ensures.cases)))

-- no label may follow that is as great
pub returns-then-first-active-clause-passes : goal.returns-then-first-active-clause-passes
returns-then-first-active-clause-passes g t c =
    let path = c.args.instance.now.labels.items in
    record {
      after = path ++ c.args.first ∷ c.args.below.now;
      passes = refl;
      ends = (refl, above_done (join_of c.args.self.now) path _ c.args.first c.args.below.now refl refl (subst (λ x. x < c.args.first) c.active.ensures.value c.if-first-active.true));
    }

pub returns-then-first-active-clause-keeps : goal.returns-then-first-active-clause-keeps
returns-then-first-active-clause-keeps g t c = keeps_itself c.args.binding.now

-- the place's first label may follow
follows : (g : _) (t : _) (c : After-push g t) → MayFollow (join_of c.args.self.now) c.args.instance.now.labels.items c.args.first
follows g t c = subst (λ ls. MayFollow (join_of c.args.self.now) ls c.args.first) c.as_slice.ensures.value c.if-narrow_by.ensures.narrowed.0

pub push-requires : goal.push-requires
push-requires g t c =
    (omega arith, room _ c.requires.begins.plan _ _ (subst (λ ls. MayFollow (join_of c.args.self.now) ls c.args.first) c.as_slice.ensures.value c.if-narrow_by.ensures.narrowed.0))

pub pass_on-deeper-requires : goal.pass_on-deeper-requires
pass_on-deeper-requires g t c κs within =
    let j = join_of c.args.self.now in
    let path = c.args.instance.now.labels.items in
    let first = c.args.first in
    let m = follows g t (goal.at.pass_on-deeper-requires g t c).After-push in
    let pushed : c.push.new.self.items ≡ path ++ first ∷ [] = c.push.ensures.items in
    let ready = subst (λ ls. IsReady j (ls ++ first ∷ []) c.narrow_by.new.narrowed) c.as_slice.ensures.value c.if-narrow_by.ensures.narrowed.1 in
    let grown = grows_more (MayFollow j) [] path first c.requires.grows m in
    let less : length c.in-Some.rest.now < length c.args.below.now = (let e = ap length c.in-Some.ensures.cases.0 in omega arith) in (
      subst (λ n. length c.in-Some.rest.now < n) c.decreases less,
      (within, (omega arith, (c.requires.some, (c.requires.begins, (omega (arith, ap length pushed, length-append path (first ∷ [])), (subst (Grows (MayFollow j) []) (sym pushed) grown, subst (λ ls. IsReady j ls c.narrow_by.new.narrowed) (sym pushed) ready)))))),
    )

-- the place below it
pub returns-in_default-end-clause-passes : goal.returns-in_default-end-clause-passes
returns-in_default-end-clause-passes g t c =
    let path = c.args.instance.now.labels.items in
    let deeper = c.in-Some.next.now ∷ c.in-Some.rest.now in
    let is : c.push.new.self.items ++ deeper ≡ path ++ c.args.first ∷ c.args.below.now = deeper_place path c.args.first deeper c.args.below.now c.push.new.self.items c.push.ensures.items c.in-Some.ensures.cases.0 in
    deeper_passed (join_of c.args.self.now) c.push.new.self.items path _ c.pass_on-deeper.result _ _ c.in_default-end.not-NoneLeft
    (subst (λ p. PassesBelow (join_of c.args.self.now) c.push.new.self.items p c.pass_on-deeper.result c.pass_on-deeper.new.instance.labels.items c.pass_on-deeper.new.binding) is c.pass_on-deeper.ensures.passes)

pub returns-in_default-end-clause-keeps : goal.returns-in_default-end-clause-keeps
returns-in_default-end-clause-keeps g t c = keeps_both c.args.binding.now c.narrow_by.new.narrowed c.pass_on-deeper.new.binding c.narrow_by.ensures.keeps c.pass_on-deeper.ensures.keeps

-- and where none is
left : (g : _) (t : _) (c : After-return_to g t) → IsLeft (join_of c.args.self.now) c.args.instance.now.labels.items c.args.first c.args.most c.if-narrow_by.count (c.args.instance.now.labels.items ++ c.args.first ∷ c.args.below.now) c.if-narrow_by.instance.labels.items
left g t c =
    let j = join_of c.args.self.now in
    let path = c.args.instance.now.labels.items in
    let first = c.args.first in
    let place = path ++ first ∷ c.args.below.now in
    elim c.if-narrow_by.branch [
      | then-narrow_by+in-NoneLeft w ↦
          let pushed : w.push.new.self.items ≡ path ++ first ∷ [] = w.push.ensures.items in
          let p = w.pass_on-deeper.ensures.passes in
          let is = deeper_place path first (c.in-Some.next.now ∷ c.in-Some.rest.now) c.args.below.now w.push.new.self.items pushed c.in-Some.ensures.cases.0 in
          let done = subst (λ e. EndsBelow j w.push.new.self.items p.after e w.pass_on-deeper.new.instance.labels.items w.pass_on-deeper.new.binding) w.in-NoneLeft.is p.ends in
          record {
            less = subst (λ n. n < c.args.most) (sym w.count-is) (w.pass_on-deeper.ensures.counted.less w.in-NoneLeft.is);
            after = p.after;
            passes = subst (λ n. PassesIn j n place p.after) (sym w.count-is) (subst (λ z. PassesIn j w.pass_on-deeper.result.count z p.after) is p.passes);
            same = ap (λ (i : Instance). i.labels.items) w.instance-is ∙ front path first w.pop.new.self.items w.pass_on-deeper.new.instance.labels.items (done.0 ∙ pushed) w.pop.ensures.rest;
            below = done_below j path p.after first c.requires.grows (subst (λ ls. IsDone j ls p.after) pushed done.1);
          }
      | else-narrow_by w ↦
          let none = λ (m : MayFollow j path first).
          subst (NoneBeyond (MayFollow j) 1 (path ++ first ∷ [])) (sym c.in-Some.ensures.cases.0)
          (none_fits j path first c.in-Some.next.now c.in-Some.rest.now (subst (λ ls. (x : ℕ) → MayFollow j (ls ++ first ∷ []) x → ⊥) c.as_slice.ensures.value (w.if-narrow_by.ensures.narrowed (subst (λ ls. MayFollow j ls first) (sym c.as_slice.ensures.value) m)))) in
          record {
            less = subst (λ n. n < c.args.most) (sym w.count-is) (omega (arith, c.requires.some));
            after = place;
            passes = subst (λ n. PassesIn j n place place) (sym w.count-is) refl;
            same = ap (λ (i : Instance). i.labels.items) w.instance-is;
            below = none_below j path place first c.args.below.now c.requires.grows refl none;
          }
    ]

pub return_to-requires : goal.return_to-requires
return_to-requires g t c =
    let kept : Keeps c.args.binding.now c.if-narrow_by.binding = elim c.if-narrow_by.branch [
      | then-narrow_by+in-NoneLeft w ↦ subst (Keeps c.args.binding.now) (sym w.binding-is) (keeps_both c.args.binding.now c.narrow_by.new.narrowed w.pass_on-deeper.new.binding c.narrow_by.ensures.keeps w.pass_on-deeper.ensures.keeps)
      | else-narrow_by w ↦ subst (Keeps c.args.binding.now) (sym w.binding-is) c.narrow_by.ensures.keeps
    ] in
    (omega arith, (c.args.binding.now, c.known-known.ensures, kept))

returned : (g : _) (t : _) (c : After-return_to g t) → c.return_to.new.self ≡ c.args.binding.now
returned g t c = c.return_to.ensures c.args.binding.now c.known-known.ensures (elim c.if-narrow_by.branch [
  | then-narrow_by+in-NoneLeft w ↦ subst (Keeps c.args.binding.now) (sym w.binding-is) (keeps_both c.args.binding.now c.narrow_by.new.narrowed w.pass_on-deeper.new.binding c.narrow_by.ensures.keeps w.pass_on-deeper.ensures.keeps)
  | else-narrow_by w ↦ subst (Keeps c.args.binding.now) (sym w.binding-is) c.narrow_by.ensures.keeps
])

pub overflow_add-first : goal.overflow_add-first
overflow_add-first g t c =
    let t = c.requires.begins.trials (c.args.self.now.view.active ∷ []) (omega arith) (c.requires.begins.begins, tt) in
    let under : c.args.first ≤ c.args.self.now.view.active = subst (λ x. c.args.first ≤ x) c.active.ensures.value c.if-first-active.false in
    omega (arith, label_small _ [] c.args.self.now.view.active t.0 t.1)

pub pass_below-beside-requires : goal.pass_below-beside-requires
pass_below-beside-requires g t c =
    let at = goal.at.pass_below-beside-requires g t c in
    let j = join_of c.args.self.now in
    let left = left g t at.After-return_to in
    let ready = subst (IsReady j c.args.instance.now.labels.items) (sym (returned g t at.After-return_to)) c.requires.ready in
    (omega arith, (omega (arith, left.less), (c.requires.begins, (subst (λ ls. 1 ≤ length ls) (sym left.same) c.requires.path, (subst (Grows (MayFollow j) []) (sym left.same) c.requires.grows, subst (λ ls. IsReady j ls c.return_to.new.self) (sym left.same) ready)))))

pub returns-clause-counted : goal.returns-clause-counted
returns-clause-counted g t c =
    let left = left g t (goal.at.returns-clause-counted g t c).After-return_to in
    counted_more c.args.most c.if-narrow_by.count c.pass_below-beside.result (omega (arith, left.less)) c.pass_below-beside.ensures.counted

pub returns-clause-passes : goal.returns-clause-passes
returns-clause-passes g t c =
    let j = join_of c.args.self.now in
    let left = left g t (goal.at.returns-clause-passes g t c).After-return_to in
    let beside = c.pass_below-beside.ensures.passes left.after (subst (λ ls. IsBelow j ls left.after (c.args.first + 1)) (sym left.same) left.below) in
    passed_more j c.args.instance.now.labels.items _ _ left.after c.pass_below-beside.result _ _ left.passes
    (subst (λ ls. PassesBelow j ls left.after c.pass_below-beside.result c.pass_below-beside.new.instance.labels.items c.pass_below-beside.new.binding) left.same beside)

pub returns-clause-keeps : goal.returns-clause-keeps
returns-clause-keeps g t c = subst (λ b. Keeps b c.pass_below-beside.new.binding) (returned g t (goal.at.returns-clause-keeps g t c).After-return_to) c.pass_below-beside.ensures.keeps
