use Rattle.std.proofs.Common.{◌≡◌, ◌≤◌, ℕ, List, [], ◌∷◌, ◌++◌, length, refl, sym, subst, ap, ◌∙◌, arith}
use Rattle.arrayvec.specs.ArrayVec.{ArrayVec}
use Rattle.chr_guard.specs.Bindings.{Keeps}
use Rattle.chr_guard.proofs.Bindings.{keeps_both, keeps_itself}
use Rattle.chr_search.specs.Tree.{Least, NoneBeyond}
use Rattle.chr_search.specs.Trials.{MayFollow}
use Rattle.chr_search.specs.Joined.{join_of}
use Rattle.chr_search.specs.Partners.{IsReady}
use Rattle.chr_search.proofs.Partners.{lengthened_none, lengthened_at, none_from_bound, on_past, none_below}
use Rattle.chr_search.proofs.Asking.{room, front}
use Rattle.chr_search.proofs.join.Join.+lengthen.Goals.{then-narrow_by+else-lengthen, else-narrow_by, After-return_to}
use Rattle.chr_search.proofs.join.Join.+lengthen.Goals as goal

pub returns-then-first-active-clause-found : goal.returns-then-first-active-clause-found
returns-then-first-active-clause-found g t c =
    let high : c.args.self.now.view.active ≤ c.args.first = subst (λ x. x ≤ c.args.first) c.active.ensures.value c.if-first-active.true in
    (lengthened_none (join_of c.args.self.now) _ _ _ (none_from_bound (join_of c.args.self.now) _ _ c.requires.some high), refl)

pub returns-then-first-active-clause-keeps : goal.returns-then-first-active-clause-keeps
returns-then-first-active-clause-keeps g t c = keeps_itself c.args.binding.now

pub push-requires : goal.push-requires
push-requires g t c = (omega arith, room _ c.requires.plan _ _ (subst (λ ls. MayFollow (join_of c.args.self.now) ls c.args.first) c.as_slice.ensures.value c.if-narrow_by.ensures.narrowed.0))

pub returns-then-lengthen-clause-found : goal.returns-then-lengthen-clause-found
returns-then-lengthen-clause-found g t c =
    let j = join_of c.args.self.now in
    lengthened_at j c.args.labels.now.items c.args.first c.args.below.now c.lengthen.new.labels.items (subst (λ ls. MayFollow j ls c.args.first) c.as_slice.ensures.value c.if-narrow_by.ensures.narrowed.0)
    (subst (λ b. Least (MayFollow j) 1 (c.args.labels.now.items ++ c.args.first ∷ []) b c.lengthen.new.labels.items) (sym c.in-Some.ensures.cases.0)
    (subst (λ ls. Least (MayFollow j) 1 ls (c.in-Some.next.now ∷ c.in-Some.rest.now) c.lengthen.new.labels.items) c.push.ensures.items c.if-lengthen.ensures.found))

pub returns-then-lengthen-clause-keeps : goal.returns-then-lengthen-clause-keeps
returns-then-lengthen-clause-keeps g t c = keeps_both _ _ _ c.narrow_by.ensures.keeps c.lengthen.ensures.keeps

-- what is left where none was found below the place's label
same : (g : _) (t : _) (c : After-return_to g t) → c.if-narrow_by.labels.items ≡ c.args.labels.now.items
same g t c = elim c.if-narrow_by.branch [
  | then-narrow_by+else-lengthen w ↦ ap (λ (v : ArrayVec ℕ). v.items) w.labels-is ∙ front c.args.labels.now.items c.args.first w.pop.new.self.items w.lengthen.new.labels.items (w.if-lengthen.ensures.found.1 ∙ w.push.ensures.items) w.pop.ensures.rest
  | else-narrow_by w ↦ ap (λ (v : ArrayVec ℕ). v.items) w.labels-is
]

returned : (g : _) (t : _) (c : After-return_to g t) → c.return_to.new.self ≡ c.args.binding.now
returned g t c = c.return_to.ensures c.args.binding.now c.known-known.ensures (elim c.if-narrow_by.branch [
  | then-narrow_by+else-lengthen w ↦ subst (Keeps c.args.binding.now) (sym w.binding-is) (keeps_both c.args.binding.now c.narrow_by.new.narrowed w.lengthen.new.binding c.narrow_by.ensures.keeps w.lengthen.ensures.keeps)
  | else-narrow_by w ↦ subst (Keeps c.args.binding.now) (sym w.binding-is) c.narrow_by.ensures.keeps
])

none : (g : _) (t : _) (c : After-return_to g t) → MayFollow (join_of c.args.self.now) c.args.labels.now.items c.args.first → NoneBeyond (MayFollow (join_of c.args.self.now)) 1 (c.args.labels.now.items ++ c.args.first ∷ []) c.args.below.now
none g t c m =
    let j = join_of c.args.self.now in
    let labels = c.args.labels.now.items in
    subst (NoneBeyond (MayFollow j) 1 (labels ++ c.args.first ∷ [])) (sym c.in-Some.ensures.cases.0) (elim c.if-narrow_by.branch [
      | then-narrow_by+else-lengthen w ↦ subst (λ ls. NoneBeyond (MayFollow j) 1 ls (c.in-Some.next.now ∷ c.in-Some.rest.now)) w.push.ensures.items w.if-lengthen.ensures.found.0
      | else-narrow_by w ↦ none_below j labels c.args.first c.in-Some.next.now c.in-Some.rest.now (subst (λ (ls : List ℕ). (x : ℕ) → MayFollow j (ls ++ c.args.first ∷ []) x → ⊥) c.as_slice.ensures.value (w.if-narrow_by.ensures.narrowed (subst (λ ls. MayFollow j ls c.args.first) (sym c.as_slice.ensures.value) m)))
    ])

pub push_next-requires-2 : goal.push_next-requires-2
push_next-requires-2 g t c =
    let at = goal.at.push_next-requires-2 g t c in
    let same = same g t at.After-return_to in
    let ready = subst (IsReady (join_of c.args.self.now) c.args.labels.now.items) (sym (returned g t at.After-return_to)) c.requires.ready in
    (omega arith, (subst (λ ls. 1 ≤ length ls) (sym same) c.requires.some, (c.requires.plan, subst (λ ls. IsReady (join_of c.args.self.now) ls c.return_to.new.self) (sym same) ready)))

pub returns-clause-found : goal.returns-clause-found
returns-clause-found g t c =
    let at = goal.at.returns-clause-found g t c in
    on_past (join_of c.args.self.now) c.args.labels.now.items c.if-narrow_by.labels.items c.args.first c.args.below.now (none g t at.After-return_to) (same g t at.After-return_to) c.push_next-2.result c.push_next-2.new.labels.items c.push_next-2.ensures

pub returns-clause-keeps : goal.returns-clause-keeps
returns-clause-keeps g t c = subst (Keeps c.args.binding.now) (sym (returned g t (goal.at.returns-clause-keeps g t c).After-return_to)) (keeps_itself c.args.binding.now)
