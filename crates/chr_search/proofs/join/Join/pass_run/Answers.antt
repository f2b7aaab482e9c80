use Rattle.std.proofs.Common.{◌≡◌, suc, ◌+◌, ◌^◌, ◌<◌, ◌≤◌, max, length, refl, ℕ, List, [], ◌∷◌, ◌++◌, sym, ap, drop, subst, ◌∙◌, length-append, arith}
use Rattle.chr_guard.specs.Bindings.{Keeps}
use Rattle.chr_search.specs.declared.passing.Next.TheVariants.{Part, Whole}
use Rattle.chr_search.specs.Joined.{join_of}
use Rattle.chr_search.specs.Partners.{IsReady}
use Rattle.chr_search.specs.Passing.{AreMisfits, ComesNext, IsLevel}
use Rattle.chr_search.specs.Tree.{Grows, NoneFrom}
use Rattle.chr_search.specs.Trials.{MayFollow}
use Rattle.chr_search.proofs.Tree.{grows_more}
use Rattle.chr_search.proofs.PassingOver.{label_small}
use Rattle.chr_search.proofs.join.Join.pass_run.Goals.{In-Some, After-next_atom_after}
use Rattle.chr_search.proofs.join.Join.pass_run.Goals as goal

-- the level, and the binding that it goes with
level : (g : _) (c : After-next_atom_after g) → IsLevel (join_of c.args.self.now) c.of-path.result.labels.now c.args.binding.now c.next_atom_after.new.level
level g c =
    subst (IsLevel (join_of c.args.self.now) c.of-path.result.labels.now c.args.binding.now) (sym (c.next_atom_after.ensures.same ∙ c.loop-count.invariant.same)) (subst (λ ls. IsLevel (join_of c.args.self.now) ls c.args.binding.now c.args.level.now) (sym (c.of-path.ensures.labels ∙ c.as_slice.ensures.value)) c.requires.level)

pub next_atom_after-requires : goal.next_atom_after-requires
next_atom_after-requires g c =
    let j = join_of c.args.self.now in
    let seen = sym (c.of-path.ensures.labels ∙ c.as_slice.ensures.value) in
    let ready = subst (IsReady j c.of-path.result.labels.now) (sym c.loop-count.invariant.binding) (subst (λ ls. IsReady j ls c.args.binding.now) seen c.requires.ready) in
    let level = subst (IsLevel j c.of-path.result.labels.now c.loop-count.binding) (sym c.loop-count.invariant.same) (subst (λ b. IsLevel j c.of-path.result.labels.now b c.args.level.now) (sym c.loop-count.invariant.binding) (subst (λ ls. IsLevel j ls c.args.binding.now c.args.level.now) seen c.requires.level)) in
    (omega arith, (c.loop-count.invariant.small, (subst (λ ls. 1 ≤ length ls) seen c.requires.path, (c.requires.begins.plan, (ready, level)))))

pub judge_at-requires : goal.judge_at-requires
judge_at-requires g c =
    let j = join_of c.args.self.now in
    let labels = c.of-path.result.labels.now in
    let label = c.in-Some.label in
    let seen = sym (c.of-path.ensures.labels ∙ c.as_slice.ensures.value) in
    let ready = subst (IsReady j labels) (sym c.loop-count.invariant.binding) (subst (λ ls. IsReady j ls c.args.binding.now) seen c.requires.ready) in
    let grows = subst (Grows (MayFollow j) []) seen c.requires.grows in
    let follows = c.in-Some.ensures.least.holds in
    let grown = grows_more (MayFollow j) [] labels label grows follows in
    let others = c.of-path.ensures.others ∙ ap (drop 1) (sym c.of-path.ensures.labels) in
    (omega arith, (refl, (others, (c.requires.begins.plan, ((level g (goal.at.judge_at-requires g c).After-next_atom_after).at, (ready, (grows, (follows, (c.in-Some.ensures.atom, c.requires.begins.trials (labels ++ label ∷ []) (omega (arith, length-append labels (label ∷ []))) grown)))))))))

pub return_to-requires : goal.return_to-requires
return_to-requires g c =
    (omega arith, (c.args.binding.now, (level g (goal.at.return_to-requires g c).After-next_atom_after).known, subst (λ b. Keeps b c.judge_at.new.narrowed) c.loop-count.invariant.binding c.judge_at.ensures.keeps))

-- the label is far from the greatest number
small : (g : _) (c : In-Some g) → c.in-Some.label + 1 < 2 ^ 64
small g c =
    let labels = c.of-path.result.labels.now in
    let label = c.in-Some.label in
    let t = c.requires.begins.trials (labels ++ label ∷ []) (omega (arith, length-append labels (label ∷ [])))
    (grows_more _ [] labels label (subst (Grows (MayFollow (join_of c.args.self.now)) []) (sym (c.of-path.ensures.labels ∙ c.as_slice.ensures.value)) c.requires.grows) c.in-Some.ensures.least.holds) in
    omega (arith, label_small _ labels label t.0 t.1)

pub loop-count-preserved : goal.loop-count-preserved
loop-count-preserved g c =
    let more : suc c.loop-count.count ≡ c.loop-count.count + 1 = omega arith in
    record {
      few = omega arith;
      small = small g (goal.at.loop-count-preserved g c).In-Some;
      misfits = subst (λ n. AreMisfits (join_of c.args.self.now) c.of-path.result.labels.now n (max 1 c.args.from) (c.in-Some.label + 1)) more ((c.loop-count.after + 1), c.in-Some.label, c.loop-count.invariant.misfits, c.in-Some.ensures.least, c.in-Misfit.ensures.tried, refl);
      same = c.next_atom_after.ensures.same ∙ c.loop-count.invariant.same;
      binding = c.return_to.ensures c.args.binding.now (level g (goal.at.loop-count-preserved g c).After-next_atom_after).known (subst (λ b. Keeps b c.judge_at.new.narrowed) c.loop-count.invariant.binding c.judge_at.ensures.keeps);
    }

pub returns-in-Whole-clause-then : goal.returns-in-Whole-clause-then
returns-in-Whole-clause-then g c =
    subst (λ (ls : List ℕ). ComesNext (join_of c.args.self.now) ls c.loop-count.count c.args.most (c.loop-count.after + 1) (Whole c.in-Some.label) c.judge_at.new.narrowed) (c.of-path.ensures.labels ∙ c.as_slice.ensures.value)
    (c.loop-count-test.true, c.in-Some.ensures.least, c.in-Whole.ensures.tried)

pub returns-in_default-clause-then : goal.returns-in_default-clause-then
returns-in_default-clause-then g c =
    (c.loop-count-test.true, subst (λ (ls : List ℕ). NoneFrom (MayFollow (join_of c.args.self.now) ls) (c.loop-count.after + 1)) (c.of-path.ensures.labels ∙ c.as_slice.ensures.value) c.in_default.ensures.least)

pub returns-in-Part-clause-then : goal.returns-in-Part-clause-then
returns-in-Part-clause-then g c =
    subst (λ (ls : List ℕ). ComesNext (join_of c.args.self.now) ls c.loop-count.count c.args.most (c.loop-count.after + 1) (Part c.in-Some.label) c.judge_at.new.narrowed) (c.of-path.ensures.labels ∙ c.as_slice.ensures.value)
    (c.loop-count-test.true, c.in-Some.ensures.least, c.in-Part.ensures.tried)
