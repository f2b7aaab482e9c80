use Rattle.std.proofs.Common.{◌≡◌, ◌+◌, Some, map, sym, ap, subst, ◌∙◌, arith}
use Rattle.std.specs.Prelude.{slice_get}
use Rattle.std.specs.Option.{option_map}
use Rattle.chr_value.specs.Atoms.{said}
use Rattle.chr_rule.specs.Parts.{argument, shape}
use Rattle.chr_guard.specs.Values.{key_under}
use Rattle.chr_guard.specs.Bindings.{bound_at}
use Rattle.chr_enumeration.specs.Partners.{HasAllBut, IsNamed, HasAt}
use Rattle.chr_enumeration.specs.Picks.{MayBeHead}
use Rattle.chr_enumeration.proofs.Candidates.{has_all_as, named_head, known_at_head, read_map}
use Rattle.chr_enumeration.proofs.slots.candidates.Goals as goal
use Rattle.chr_enumeration.proofs.slots.candidates.Goals.{in-Some-key+in-Some-labels_at+then-labels-shortest, in-Some-key+in-Some-labels_at+else-labels-shortest, in-Some-key+in_default-labels_at, in_default-key}

pub loop-index-init : goal.loop-index-init
loop-index-init g c =
    let s = shape c.in-Some.head.now in
    has_all_as (g.P.Partners.own c.args.partners.now) (g.P.Partners.store c.args.partners.now) (MayBeHead c.args.rule.now c.args.number c.args.binding.now) (IsNamed s.name) c.labels-shortest.result.now
    (named_head c.args.rule.now c.args.number c.args.binding.now s (sym c.in-Some.ensures.head)) c.labels-shortest.ensures

pub loop-index-preserved : goal.loop-index-preserved
loop-index-preserved g c =
    let s = shape c.in-Some.head.now in
    let i = c.loop-index.index in
    let term = c.term-item.result in
    let Such = MayBeHead c.args.rule.now c.args.number c.args.binding.now in
    let own = g.P.Partners.own c.args.partners.now in
    let store = g.P.Partners.store c.args.partners.now in
    let there : slice_get s.args i ≡ Some (argument term) =
    ap (λ ts. slice_get (map argument ts) i) (sym c.deref-term-items.ensures.value) ∙ read_map argument c.deref-term-items.result.now i term c.loop-index-test.true c.term-item.is in
    elim c.match-key.branch [
      | in-Some-key+in-Some-labels_at+then-labels-shortest w ↦
          let key : key_under (bound_at c.args.binding.now) (argument term) ≡ Some (said w.in-Some-key.value) = sym c.key.ensures ∙ ap (option_map said) w.in-Some-key.is in
          subst (λ labels. HasAllBut own store Such labels.now) (sym w.shortest-is)
          (has_all_as own store Such (HasAt s.name (i + 1) (said w.in-Some-key.value)) w.in-Some-labels_at.labels.now (known_at_head c.args.rule.now c.args.number c.args.binding.now s (sym c.in-Some.ensures.head) (i + 1) i (argument term) (said w.in-Some-key.value) (omega arith) there key) w.in-Some-labels_at.ensures)
      | in-Some-key+in-Some-labels_at+else-labels-shortest w ↦ subst (λ labels. HasAllBut own store Such labels.now) (sym w.shortest-is) c.loop-index.invariant
      | in-Some-key+in_default-labels_at w ↦ subst (λ labels. HasAllBut own store Such labels.now) (sym w.shortest-is) c.loop-index.invariant
      | in_default-key w ↦ subst (λ labels. HasAllBut own store Such labels.now) (sym w.shortest-is) c.loop-index.invariant
    ]
