use Rattle.std.proofs.Common.{◌≡◌, ◌<◌, ℕ, ◌+◌, true, false, None, Some, Bor, slice_set, length, length-set, sym, ap, subst, ◌∙◌, arith, lit<}
use Rattle.std.specs.Option.{option_map}
use Rattle.std.specs.List.{AllByRecursion}
use Rattle.std.proofs.lemmas.List.{take_all}
use Rattle.chr_value.specs.Atoms.{Atom}
use Rattle.chr_model.specs.Stores.{among, labels, atom_at}
use Rattle.chr_guard.specs.Bindings.{Keeps}
use Rattle.chr_guard.proofs.Bindings.{keeps_both, keeps_itself}
use Rattle.chr_enumeration.specs.Picks.{Picks, picks, picked, Fills, IsPartial, IsMatch, NoMatch}
use Rattle.chr_enumeration.proofs.Wholes.{left, left_less, no_repeat, no_fit_more, partial_more, match_less, no_more, picks_set, picks_back, tried_more, tried_one, Tried, picked_own, slots_within}
use Rattle.chr_enumeration.proofs.slots.+find_match.Goals as goal

pub loop-candidate-preserved-then-is_picked : goal.loop-candidate-preserved-then-is_picked
loop-candidate-preserved-then-is_picked g t c =
    let ps = picks c.args.slots.now in
    let label = c.from-label.result in
    let there : among (labels (picked ps)) label ≡ true = ap (λ (qs : Picks). among (labels (picked qs)) label) (sym c.loop-candidate.invariant.same) ∙ sym c.is_picked.ensures ∙ c.if-is_picked.true in
    record {
      same = c.loop-candidate.invariant.same;
      binding = c.loop-candidate.invariant.binding;
      none = tried_more (Tried c.args.rule.now (g.P.Partners.store c.args.partners.now) ps c.in-Some.place) c.in-Some.labels.now c.loop-candidate.candidate-index label c.loop-candidate-test.true c.from-label.ensures c.loop-candidate.invariant.none
          (λ a at. no_repeat c.args.rule.now (g.P.Partners.store c.args.partners.now) ps c.in-Some.place (label, a) c.in-Some.ensures.is_open there);
    }

pub loop-candidate-preserved-in_default-atom : goal.loop-candidate-preserved-in_default-atom
loop-candidate-preserved-in_default-atom g t c =
    let store = g.P.Partners.store c.args.partners.now in
    let label = c.from-label.result in
    let none = c.atom.ensures in
    record {
      same = c.loop-candidate.invariant.same;
      binding = c.loop-candidate.invariant.binding;
      none = tried_more (Tried c.args.rule.now store (picks c.args.slots.now) c.in-Some.place) c.in-Some.labels.now c.loop-candidate.candidate-index label c.loop-candidate-test.true c.from-label.ensures c.loop-candidate.invariant.none
          (λ a at. (let z : None ≡ Some a = ap (option_map (λ (b : Bor (Atom ℕ)). b.now)) (sym c.in_default-atom.is) ∙ c.atom.ensures ∙ at in absurd (cc)));
    }

pub fit_next-requires : goal.fit_next-requires
fit_next-requires g t c = (omega arith, ap length c.loop-candidate.invariant.binding ∙ c.requires.partial.fit.places)

pub return_to-requires : goal.return_to-requires
return_to-requires g t c = (
  omega arith,
  (c.args.binding.now, c.known-known.ensures, subst (λ b. Keeps b c.fit_next.new.binding) c.loop-candidate.invariant.binding c.if-not-fit_next.ensures.keeps),
)

pub loop-candidate-preserved-then-not-fit_next : goal.loop-candidate-preserved-then-not-fit_next
loop-candidate-preserved-then-not-fit_next g t c =
    let rule = c.args.rule.now in
    let store = g.P.Partners.store c.args.partners.now in
    let ps = picks c.args.slots.now in
    let label = c.from-label.result in
    let partial = subst (IsPartial rule store ps) (sym c.loop-candidate.invariant.binding) c.requires.partial in
    let stored : atom_at store label ≡ Some c.in-Some-atom.atom.now = sym c.atom.ensures ∙ ap (option_map (λ (b : Bor (Atom ℕ)). b.now)) c.in-Some-atom.is in
    record {
      same = c.loop-candidate.invariant.same;
      binding = c.return_to.ensures c.args.binding.now c.known-known.ensures (subst (λ b. Keeps b c.fit_next.new.binding) c.loop-candidate.invariant.binding c.if-not-fit_next.ensures.keeps);
      none = tried_more (Tried rule store ps c.in-Some.place) c.in-Some.labels.now c.loop-candidate.candidate-index label c.loop-candidate-test.true c.from-label.ensures c.loop-candidate.invariant.none
          (tried_one rule store ps c.in-Some.place label c.in-Some-atom.atom.now stored (no_fit_more rule store ps c.in-Some.place (label, c.in-Some-atom.atom.now) c.loop-candidate.binding partial c.in-Some.ensures.is_open (c.in-Some.place + 1) (omega arith) c.if-not-fit_next.ensures.narrows));
    }

pub bounds-slots-place : goal.bounds-slots-place
bounds-slots-place g t c = slots_within c.loop-candidate.slots (picks c.args.slots.now) c.in-Some.place c.loop-candidate.invariant.same c.in-Some.ensures.is_open

pub find_match-requires : goal.find_match-requires
find_match-requires g t c κs within =
    let rule = c.args.rule.now in
    let store = g.P.Partners.store c.args.partners.now in
    let own = g.P.Partners.own c.args.partners.now in
    let ps = picks c.args.slots.now in
    let place = c.in-Some.place in
    let label = c.from-label.result in
    let e : ℕ × Atom ℕ = (label, c.in-Some-atom.atom.now) in
    let next = picks_set c.loop-candidate.slots ps place (label, c.in-Some-atom.atom) c.loop-candidate.invariant.same in
    let away : among (labels (picked ps)) label ≡ false = ap (λ (qs : Picks). among (labels (picked qs)) label) (sym c.loop-candidate.invariant.same) ∙ sym c.is_picked.ensures ∙ c.if-is_picked.false in
    let partial = subst (IsPartial rule store ps) (sym c.loop-candidate.invariant.binding) c.requires.partial in
    let there : atom_at store label ≡ Some c.in-Some-atom.atom.now = sym c.atom.ensures ∙ ap (option_map (λ (b : Bor (Atom ℕ)). b.now)) c.in-Some-atom.is in (
      subst (λ n. left (picks (slice_set c.loop-candidate.slots place (Some (label, c.in-Some-atom.atom)))) < n) c.decreases (subst (λ qs. left qs < left ps) (sym next) (left_less ps place e c.in-Some.ensures.is_open.within c.in-Some.ensures.is_open.none)),
      (
        within.0,
        (
          within.1,
          (
            lit< tt,
            (
              lit< tt,
              (
                subst (λ qs. IsPartial rule store qs c.fit_next.new.binding) (sym next) (partial_more rule store ps place e c.loop-candidate.binding c.fit_next.new.binding partial c.in-Some.ensures.is_open away there (place + 1) (omega arith) c.if-not-fit_next.ensures.narrows),
                subst (λ (qs : Picks). among (labels (picked qs)) own ≡ true) (sym next) (picked_own ps place own e c.in-Some.ensures.is_open.within c.in-Some.ensures.is_open.none c.requires.own),
              ),
            ),
          ),
        ),
      ),
    )

pub returns-in-Some-find_match-clause-found : goal.returns-in-Some-find_match-clause-found
returns-in-Some-find_match-clause-found g t c =
    let rule = c.args.rule.now in
    let store = g.P.Partners.store c.args.partners.now in
    let ps = picks c.args.slots.now in
    let e : ℕ × Atom ℕ = (c.from-label.result, c.in-Some-atom.atom.now) in
    let next = picks_set c.loop-candidate.slots ps c.in-Some.place (c.from-label.result, c.in-Some-atom.atom) c.loop-candidate.invariant.same in
    match_less rule store ps c.in-Some.place e c.in-Some-find_match.found c.in-Some.ensures.is_open (subst (λ qs. IsMatch rule store (Fills qs) c.in-Some-find_match.found) next c.in-Some-find_match.ensures.found)

pub returns-in-Some-find_match-clause-keeps : goal.returns-in-Some-find_match-clause-keeps
returns-in-Some-find_match-clause-keeps g t c =
    subst (λ b. Keeps b c.find_match.new.binding) c.loop-candidate.invariant.binding (keeps_both c.loop-candidate.binding c.fit_next.new.binding c.find_match.new.binding c.if-not-fit_next.ensures.keeps c.in-Some-find_match.ensures.keeps)

pub return_to-requires-in-loop-candidate : goal.return_to-requires-in-loop-candidate
return_to-requires-in-loop-candidate g t c = (
  omega arith,
  (
    c.args.binding.now,
    c.known-known.ensures,
    subst (λ b. Keeps b c.find_match.new.binding) c.loop-candidate.invariant.binding (keeps_both c.loop-candidate.binding c.fit_next.new.binding c.find_match.new.binding c.if-not-fit_next.ensures.keeps c.in_default-find_match.ensures.keeps),
  ),
)

pub bounds-slots-place-in-loop-candidate : goal.bounds-slots-place-in-loop-candidate
bounds-slots-place-in-loop-candidate g t c =
    let ps = picks c.args.slots.now in
    let next = picks_set c.loop-candidate.slots ps c.in-Some.place (c.from-label.result, c.in-Some-atom.atom) c.loop-candidate.invariant.same in
    let back = picks_back c.find_match.new.slots ps c.in-Some.place (c.from-label.result, c.in-Some-atom.atom.now) (c.in_default-find_match.ensures.found.0 ∙ next) c.in-Some.ensures.is_open.none in
    subst (λ n. c.in-Some.place < n) (length-set c.find_match.new.slots c.in-Some.place None) (slots_within (slice_set c.find_match.new.slots c.in-Some.place None) ps c.in-Some.place back c.in-Some.ensures.is_open)

pub loop-candidate-preserved : goal.loop-candidate-preserved
loop-candidate-preserved g t c =
    let rule = c.args.rule.now in
    let store = g.P.Partners.store c.args.partners.now in
    let ps = picks c.args.slots.now in
    let place = c.in-Some.place in
    let label = c.from-label.result in
    let next = picks_set c.loop-candidate.slots ps place (label, c.in-Some-atom.atom) c.loop-candidate.invariant.same in
    let stored : atom_at store label ≡ Some c.in-Some-atom.atom.now = sym c.atom.ensures ∙ ap (option_map (λ (b : Bor (Atom ℕ)). b.now)) c.in-Some-atom.is in
    record {
      same = picks_back c.find_match.new.slots ps place (label, c.in-Some-atom.atom.now) (c.in_default-find_match.ensures.found.0 ∙ next) c.in-Some.ensures.is_open.none;
      binding = c.return_to-in-loop-candidate.ensures c.args.binding.now c.known-known.ensures (subst (λ b. Keeps b c.find_match.new.binding) c.loop-candidate.invariant.binding (keeps_both c.loop-candidate.binding c.fit_next.new.binding c.find_match.new.binding c.if-not-fit_next.ensures.keeps c.in_default-find_match.ensures.keeps));
      none = tried_more (Tried rule store ps place) c.in-Some.labels.now c.loop-candidate.candidate-index label c.loop-candidate-test.true c.from-label.ensures c.loop-candidate.invariant.none
          (tried_one rule store ps place label c.in-Some-atom.atom.now stored (subst (λ qs. NoMatch rule store (Fills qs)) next c.in_default-find_match.ensures.found.1));
    }

pub returns-clause-found : goal.returns-clause-found
returns-clause-found g t c =
    let rule = c.args.rule.now in
    let store = g.P.Partners.store c.args.partners.now in
    let ps = picks c.args.slots.now in
    let place = c.in-Some.place in
    let items = c.in-Some.labels.now in (
      c.loop-candidate.invariant.same,
      no_more rule store (g.P.Partners.own c.args.partners.now) ps place (place + 1) c.args.binding.now items c.requires.partial c.in-Some.ensures.is_open (omega arith) c.requires.own c.in-Some.ensures.has (subst (AllByRecursion (Tried rule store ps place)) (take_all c.loop-candidate.candidate-index items c.loop-candidate-test.false) c.loop-candidate.invariant.none),
    )

pub returns-clause-keeps : goal.returns-clause-keeps
returns-clause-keeps g t c = subst (Keeps c.args.binding.now) (sym c.loop-candidate.invariant.binding) (keeps_itself c.args.binding.now)
