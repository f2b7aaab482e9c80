use Rattle.std.proofs.Common.{◌≡◌, ◌+◌, ◌++◌, ◌∷◌, [], rules, None, length, map, take, sym, ap, ◌∙◌, subst, arith}
use Rattle.std.proofs.lemmas.List.{append-nil, length_push, length-map, take_all}
use Rattle.chr_rule.specs.Parts.{shape, member}
use Rattle.chr_guard.specs.Bindings.{bound_at}
use Rattle.chr_guard.specs.Instances.{made_under, AreMadeUnder, added}
use Rattle.chr_guard.proofs.Whole.{added_more, not_made}
use Rattle.chr_guard.proofs.body.added_atoms.Goals as goal
use Rattle.chr_guard.proofs.body.added_atoms.Goals.{in-Is, in-Add+in_ok-atom-in-Add+in-Some}

pub returns-in_default : goal.returns-in_default
returns-in_default g c made all =
    let none : made_under (bound_at c.args.binding.now) (shape c.in-Add.pattern) ≡ None = sym c.in_ok-atom-in-Add.ensures ∙ c.in_default.is in
    not_made (member {Z = g.row.A.Denot}) (bound_at c.args.binding.now) c.body-item-items.result.now c.loop-item.item-index c.item-item.result (shape c.in-Add.pattern) made c.loop-item-test.true c.item-item.is (ap (member {Z = g.row.A.Denot}) c.in-Add.is) none
    (subst (λ ms. AreMadeUnder (bound_at c.args.binding.now) (added ms) made) (sym c.body-item-items.ensures.members) all)

pub push-requires : goal.push-requires
push-requires g c =
    (search rules, omega (arith, sym (length-map c.body-item-items.result.now (member {Z = g.row.A.Denot})) ∙ ap length c.body-item-items.ensures.members, c.loop-item-test.true, c.body-item-items.ensures.valid.limits.body, c.loop-item.invariant.few))

pub loop-item-preserved : goal.loop-item-preserved
loop-item-preserved g c =
    let v = bound_at c.args.binding.now in
    let f = member {Z = g.row.A.Denot} in
    elim c.match-item.branch [
      | in-Is w ↦
          let same : c.match-item.atoms.items ≡ c.loop-item.atoms.items = ap (λ a. a.items) w.atoms-is in
          let none : AreMadeUnder v (added (f c.item-item.result ∷ [])) [] = ap (λ m. map (made_under v) (added (m ∷ []))) (ap f w.in-Is.is) in
          record {
            items = subst (AreMadeUnder v (added (map f (take (c.loop-item.item-index + 1) c.body-item-items.result.now)))) (append-nil c.loop-item.atoms.items ∙ sym same)
                (added_more f v c.body-item-items.result.now c.loop-item.item-index c.item-item.result c.loop-item.atoms.items [] c.loop-item-test.true c.item-item.is c.loop-item.invariant.items none);
            few = omega (arith, ap length same, c.loop-item.invariant.few);
          }
      | in-Add+in_ok-atom-in-Add+in-Some w ↦
          let a = w.in-Some.atom in
          let more : c.match-item.atoms.items ≡ c.loop-item.atoms.items ++ a ∷ [] = ap (λ a. a.items) w.atoms-is ∙ w.push.ensures.items in
          let one : AreMadeUnder v (added (f c.item-item.result ∷ [])) (a ∷ []) = ap (λ m. map (made_under v) (added (m ∷ []))) (ap f w.in-Add.is) ∙ ap (λ o. o ∷ []) (sym w.in_ok-atom-in-Add.ensures ∙ w.in-Some.is) in
          record {
            items = subst (AreMadeUnder v (added (map f (take (c.loop-item.item-index + 1) c.body-item-items.result.now)))) (sym more)
                (added_more f v c.body-item-items.result.now c.loop-item.item-index c.item-item.result c.loop-item.atoms.items (a ∷ []) c.loop-item-test.true c.item-item.is c.loop-item.invariant.items one);
            few = omega (arith, ap length more ∙ length_push c.loop-item.atoms.items _, c.loop-item.invariant.few);
          }
    ]

pub returns : goal.returns
returns g c =
    let f = member {Z = g.row.A.Denot} in
    subst (λ ms. AreMadeUnder (bound_at c.args.binding.now) (added ms) c.loop-item.atoms.items) (ap (map f) (take_all c.loop-item.item-index c.body-item-items.result.now c.loop-item-test.false) ∙ c.body-item-items.ensures.members) c.loop-item.invariant.items
