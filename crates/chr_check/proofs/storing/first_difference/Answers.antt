use Rattle.std.proofs.Common.{◌≡◌, ◌<◌, [], ℕ, Some, length, sym, ap, ap₂, ◌∙◌, refl, arith, true≢false}
use Rattle.std.specs.Prelude.{slice_get}
use Rattle.std.proofs.lemmas.Bool.Decides.{nat_tests}
use Rattle.std.proofs.lemmas.Option.{slice_get-get_or, slice_get_read}
use Rattle.chr_value.specs.Atoms.{Atom}
use Rattle.chr_model.specs.Stores.{Store}
use Rattle.chr_check.proofs.Compared.{left_first, left_none, own_longer, given_longer, other_entry, same_entry, all_same}
use Rattle.chr_check.proofs.storing.first_difference.Goals as goal
use Rattle.chr_check.proofs.storing.first_difference.Goals.{then-label-other-via-then-label-other, then-label-other-via-else-label-other+then-not-same}

pub returns-in_default-clause-place : goal.returns-in_default-clause-place
returns-in_default-clause-place g c =
    let here = left_first c.args.own.now.store c.loop-label.place _ _ (c.loop-label.invariant.rest ∙ c.in-Some.ensures.steps) in
    own_longer c.args.own.now.store c.args.given.now c.loop-label.place _ c.loop-label.invariant.same here.0 (grind (arith, nat_tests, c.in_default.ensures.lookup))

pub returns-then-label-other-clause-place : goal.returns-then-label-other-clause-place
returns-then-label-other-clause-place g c =
    let place = c.loop-label.place in
    let given : Store = c.args.given.now in
    let here = left_first c.args.own.now.store place _ _ (c.loop-label.invariant.rest ∙ c.in-Some.ensures.steps) in
    let within : place < length given = grind (arith, nat_tests, c.in-Some-get.ensures.lookup.0) in
    let there : slice_get given place ≡ Some c.in-Some-get.other.now = slice_get_read given (length given) place c.in-Some-get.other.now refl within c.in-Some-get.ensures.lookup.1 in
    other_entry c.args.own.now.store given place (c.in-Some.label, c.in-Some.atom.now) c.in-Some-get.other.now c.loop-label.invariant.same here.0 there
    (λ e. elim c.then-label-other.branch [
      | then-label-other-via-then-label-other w ↦ w.if-label-other.true (ap (λ (x : ℕ × Atom ℕ). x.0) e)
      | then-label-other-via-else-label-other+then-not-same w ↦ true≢false (sym (w.same.ensures.1 (ap (λ (x : ℕ × Atom ℕ). x.1) e)) ∙ w.if-not-same.true)
    ])

pub loop-label-preserved : goal.loop-label-preserved
loop-label-preserved g c =
    let place = c.loop-label.place in
    let given : Store = c.args.given.now in
    let here = left_first c.args.own.now.store place _ _ (c.loop-label.invariant.rest ∙ c.in-Some.ensures.steps) in
    let within : place < length given = grind (arith, nat_tests, c.in-Some-get.ensures.lookup.0) in
    let there : slice_get given place ≡ Some c.in-Some-get.other.now = slice_get_read given (length given) place c.in-Some-get.other.now refl within c.in-Some-get.ensures.lookup.1 in
    record {
      within = omega (arith, within);
      inside = omega (arith, here.2);
      same = same_entry c.args.own.now.store given place (c.in-Some.label, c.in-Some.atom.now) c.in-Some-get.other.now c.loop-label.invariant.same here.0 there (ap₂ (λ (l : ℕ) (a : Atom ℕ). (l, a)) c.if-label-other.false (c.same.ensures.0 c.if-not-same.false));
      rest = here.1;
    }

pub returns-then-place-given-clause-place : goal.returns-then-place-given-clause-place
returns-then-place-given-clause-place g c =
    let d : ℕ × Atom ℕ = (0, record { name = 0; args = [] }) in
    given_longer c.args.own.now.store c.args.given.now c.loop-label.place _ c.loop-label.invariant.same (slice_get-get_or c.args.given.now c.loop-label.place d c.if-place-given.true) (left_none c.args.own.now.store c.loop-label.place (c.loop-label.invariant.rest ∙ c.in-None.ensures.steps.0))

pub returns-clause-place : goal.returns-clause-place
returns-clause-place g c = all_same c.args.own.now.store c.args.given.now c.loop-label.place c.loop-label.invariant.same (left_none c.args.own.now.store c.loop-label.place (c.loop-label.invariant.rest ∙ c.in-None.ensures.steps.0)) (omega (arith, c.if-place-given.false))
