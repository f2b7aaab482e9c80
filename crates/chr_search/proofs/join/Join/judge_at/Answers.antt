use Rattle.std.proofs.Common.{◌≡◌, true, false, Some, length, [], ◌∷◌, ◌++◌, refl, sym, subst, ◌∙◌, arith, length-append}
use Rattle.chr_rule.specs.Parts.{shape}
use Rattle.chr_rule.specs.Scope.{IsRule}
use Rattle.chr_guard.specs.Bindings.{Keeps, Narrows}
use Rattle.chr_guard.specs.Instances.{NoInstance, atom_under}
use Rattle.chr_guard.specs.Matching.{IsFit, HeadsAre, IsInstanceUnder}
use Rattle.chr_guard.proofs.Bindings.{keeps_both}
use Rattle.chr_guard.proofs.Scoped.{IsPlaced}
use Rattle.chr_guard.proofs.Matched.{head_placed, told_as}
use Rattle.chr_model.specs.Stores.{Distinct}
use Rattle.chr_plan.specs.Orders.{heads_of}
use Rattle.chr_search.specs.Joined.{join_of}
use Rattle.chr_search.specs.Partners.{IsReady}
use Rattle.chr_search.specs.Passing.{IsTrialIn}
use Rattle.chr_search.specs.Trials.{HasHeadPred}
use Rattle.chr_search.specs.Verdicts.{Trial}
use Rattle.chr_search.proofs.Asking.{told_among, stands_is}
use Rattle.chr_search.proofs.Following.{pred_follows}
use Rattle.chr_search.proofs.Fresh.{takes_values}
use Rattle.chr_search.proofs.Partners.{ready_more}
use Rattle.chr_search.proofs.Wholes.{in_head_order, completed}
use Rattle.chr_search.proofs.PassingOver.{repeats, stands_nowhere, is_part, is_full, heads_fit, misfit_here}
use Rattle.chr_search.proofs.join.Join.judge_at.Goals.{After-is_among, Joined-at, then-at, else-at+else-not-fit_partner}
use Rattle.chr_search.proofs.join.Join.judge_at.Goals as goal

pub returns-then-is_among-clause-tried : goal.returns-then-is_among-clause-tried
returns-then-is_among-clause-tried g c = repeats _ _ _ (told_among (join_of c.args.self.now) refl c.args.path.labels.now c.args.path.others.now c.args.label c.requires.grows c.requires.follows c.requires.others c.is_among.result c.is_among.ensures ∙ c.if-is_among.true)

-- the variables of the head have places, and its atom has its predicate
known : (g : _) (c : After-is_among g) → IsPlaced (length c.args.narrowed.now) (shape c.args.at.head.now)
known g c =
    let i = c.requires.trial.1 in
    let s = shape c.args.at.head.now in
    subst (λ n. IsPlaced n s) (sym c.requires.ready.fit.places) (head_placed c.args.self.now.rule.now (subst IsRule i.rule_is i.formed.scoped) c.args.at.step.head s c.requires.at.head_is)

pred : (g : _) (c : After-is_among g) → HasHeadPred (shape c.args.at.head.now) c.args.atom.now
pred g c =
    pred_follows (join_of c.args.self.now) c.args.path.labels.now c.args.label c.requires.follows c.args.at.step c.requires.at.step_is (shape c.args.at.head.now) c.requires.at.head_is c.args.atom.now c.requires.live

pub bind_partner-requires : goal.bind_partner-requires
bind_partner-requires g c =
    let at = (goal.at.bind_partner-requires g c).After-is_among in
    let values = takes_values (join_of c.args.self.now) c.requires.plan c.args.path.labels.now c.args.narrowed.now c.requires.ready c.args.at.step c.requires.at.step_is c.if-at.true (shape c.args.at.head.now) c.requires.at.head_is c.args.label c.requires.follows c.args.atom.now c.requires.live in
    (omega arith, (known g at, (sym (pred g at).0, values)))

pub fit_partner-requires : goal.fit_partner-requires
fit_partner-requires g c =
    let at = (goal.at.fit_partner-requires g c).After-is_among in
    (omega arith, (known g at, (sym (pred g at).0, sym (pred g at).1)))

pub returns-then-not-fit_partner-clause-tried : goal.returns-then-not-fit_partner-clause-tried
returns-then-not-fit_partner-clause-tried g c =
    let j = join_of c.args.self.now in
    let stands = stands_is j c.args.at.step c.args.label (shape c.args.at.head.now) c.args.atom.now c.requires.at.head_is c.requires.live in
    stands_nowhere j _ c.args.narrowed.now c.args.at.step _ c.requires.ready c.requires.at.step_is (told_as _ _ false c.args.narrowed.now c.fit_partner.new.binding stands c.if-not-fit_partner.ensures.narrows)

-- by either way the head is the atom
narrowed : (g : _) (c : Joined-at g) → Narrows (λ v. atom_under v (shape c.args.at.head.now) ≡ Some c.args.atom.now) c.args.narrowed.now c.if-at.narrowed
narrowed g c =
    let P = Narrows (λ v. atom_under v (shape c.args.at.head.now) ≡ Some c.args.atom.now) c.args.narrowed.now in
    elim c.if-at.branch [
      | then-at w ↦ subst P (sym w.narrowed-is) w.bind_partner.ensures.narrows
      | else-at+else-not-fit_partner w ↦ subst P (sym w.narrowed-is) w.if-not-fit_partner.ensures.narrows
    ]

kept : (g : _) (c : Joined-at g) → Keeps c.args.narrowed.now c.if-at.narrowed
kept g c = elim c.if-at.branch [
  | then-at w ↦ subst (Keeps c.args.narrowed.now) (sym w.narrowed-is) w.bind_partner.ensures.keeps
  | else-at+else-not-fit_partner w ↦ subst (Keeps c.args.narrowed.now) (sym w.narrowed-is) w.fit_partner.ensures.keeps
]

-- its atom fits
ready : (g : _) (c : Joined-at g) → IsReady (join_of c.args.self.now) (c.args.path.labels.now ++ c.args.label ∷ []) c.if-at.narrowed
ready g c =
    let j = join_of c.args.self.now in
    let away = told_among (join_of c.args.self.now) refl c.args.path.labels.now c.args.path.others.now c.args.label c.requires.grows c.requires.follows c.requires.others c.is_among.result c.is_among.ensures ∙ c.if-is_among.false in
    let stands = stands_is j c.args.at.step c.args.label (shape c.args.at.head.now) c.args.atom.now c.requires.at.head_is c.requires.live in
    ready_more j _ _ _ c.args.at.step _ c.requires.ready c.requires.at.step_is away (told_as _ _ true c.args.narrowed.now c.if-at.narrowed stands (narrowed g c))

pub returns-then-not-at-clause-tried : goal.returns-then-not-at-clause-tried
returns-then-not-at-clause-tried g c =
    let ready = ready g (goal.at.returns-then-not-at-clause-tried g c).Joined-at in
    let last = c.requires.at.last.1 in
    (is_part _ _ _ ready (grind (arith, length-append c.args.path.labels.now (c.args.label ∷ []))), ready)

-- no head is left
full : (g : _) (c : Joined-at g) → (t : Trial) → IsTrialIn (join_of c.args.self.now) (c.args.path.labels.now ++ c.args.label ∷ []) t → c.args.at.is_last ≡ true → length t.placed ≡ length (heads_of t.rule)
full g c t i last = is_full _ _ t i (omega (arith, c.requires.at.last.0 last, length-append c.args.path.labels.now (c.args.label ∷ [])))

heads : (g : _) (c : Joined-at g) → (t : Trial) → IsTrialIn (join_of c.args.self.now) (c.args.path.labels.now ++ c.args.label ∷ []) t → c.args.at.is_last ≡ true → IsFit c.args.rule.now (HeadsAre c.args.rule.now (in_head_order t)) c.if-at.narrowed
heads g c t i last = subst (λ r. IsFit r (HeadsAre r (in_head_order t)) c.if-at.narrowed) (sym c.requires.rule) (heads_fit _ _ t i (full g c t i last) _ (ready g c).fit)

pub becomes_instance-requires : goal.becomes_instance-requires
becomes_instance-requires g c = (omega arith, (c.guard.ensures.tests, (in_head_order c.requires.trial.0, heads g (goal.at.becomes_instance-requires g c).Joined-at _ c.requires.trial.1 c.if-not-at.false)))

pub returns-then-not-at-clause-keeps : goal.returns-then-not-at-clause-keeps
returns-then-not-at-clause-keeps g c = kept g (goal.at.returns-then-not-at-clause-keeps g c).Joined-at

pub returns-then-becomes_instance-clause-keeps : goal.returns-then-becomes_instance-clause-keeps
returns-then-becomes_instance-clause-keeps g c = keeps_both c.args.narrowed.now c.if-at.narrowed c.becomes_instance.new.binding (kept g (goal.at.returns-then-becomes_instance-clause-keeps g c).Joined-at) c.becomes_instance.ensures.keeps

pub returns-clause-keeps : goal.returns-clause-keeps
returns-clause-keeps g c = keeps_both c.args.narrowed.now c.if-at.narrowed c.becomes_instance.new.binding (kept g (goal.at.returns-clause-keeps g c).Joined-at) c.becomes_instance.ensures.keeps

pub returns-then-becomes_instance-clause-tried : goal.returns-then-becomes_instance-clause-tried
returns-then-becomes_instance-clause-tried g c = λ t i.
    let at = (goal.at.returns-then-becomes_instance-clause-tried g c).Joined-at in
    completed t i.formed (full g at t i c.if-not-at.false) (subst Distinct (sym i.labels_are) (ready g at).distinct) (Some c.becomes_instance.new.binding)
    (subst (λ x. IsInstanceUnder x (in_head_order t) c.becomes_instance.new.binding) (c.requires.rule ∙ sym i.rule_is) (c.if-becomes_instance.ensures.instance (in_head_order t) (heads g at t i c.if-not-at.false)))

pub returns-clause-tried : goal.returns-clause-tried
returns-clause-tried g c = λ t i.
    let at = (goal.at.returns-clause-tried g c).Joined-at in
    misfit_here _ _ t i (full g at t i c.if-not-at.false)
    (subst (λ x. NoInstance x (in_head_order t)) c.requires.rule (c.if-becomes_instance.ensures.instance (in_head_order t) (heads g at t i c.if-not-at.false)))
