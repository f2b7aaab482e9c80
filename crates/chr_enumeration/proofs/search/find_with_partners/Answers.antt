use Rattle.std.proofs.Common.{◌≤◌, ◌+◌, ℕ, length, sym, ap, subst, refl, ◌∙◌, arith}
use Rattle.std.specs.List.{AllByRecursion}
use Rattle.std.specs.Arc.{arc_value}
use Rattle.std.proofs.lemmas.List.{take_all, length-map}
use Rattle.chr_model.specs.Stores.{atom_at}
use Rattle.chr_rule.specs.Rules.{Simpagation}
use Rattle.chr_guard.proofs.Steps.{all_more, read_as}
use Rattle.chr_enumeration.specs.Picks.{Has, NoMatch}
use Rattle.chr_enumeration.proofs.Wholes.{none_there, none_found, is_found, numbered_at}
use Rattle.chr_enumeration.proofs.search.find_with_partners.Goals as goal

pub returns-in_err-atom : goal.returns-in_err-atom
returns-in_err-atom g c = rw c.from_residual.ensures (none_there c.args.program.now (g.P.Partners.store c.args.partners.now) (g.P.Partners.own c.args.partners.now) (ap (atom_at (g.P.Partners.store c.args.partners.now)) (sym c.own.ensures) ∙ sym c.in_err-atom.ensures))

pub returns-in-Some : goal.returns-in-Some
returns-in-Some g c =
    let at = read_as arc_value c.rules-rules.result.now c.args.program.now c.loop-place.place c.index-rules-place.result c.deref.result.now c.rules-rules.ensures.rules c.loop-place-test.true c.index-rules-place.is (sym c.deref.ensures) in
    is_found c.args.program.now (g.P.Partners.store c.args.partners.now) (g.P.Partners.own c.args.partners.now) c.deref.result.now c.in-Some.found _ (numbered_at c.args.program.now (c.loop-place.place + 1) c.loop-place.place c.deref.result.now (omega arith) at.0 at.1) refl refl refl c.in-Some.ensures

pub loop-place-preserved : goal.loop-place-preserved
loop-place-preserved g c =
    let P = λ (rule : Simpagation ℕ). NoMatch rule (g.P.Partners.store c.args.partners.now) (Has (g.P.Partners.own c.args.partners.now)) in
    let at = read_as arc_value c.rules-rules.result.now c.args.program.now c.loop-place.place c.index-rules-place.result c.deref.result.now c.rules-rules.ensures.rules c.loop-place-test.true c.index-rules-place.is (sym c.deref.ensures) in
    (all_more P c.args.program.now c.loop-place.place c.deref.result.now at.0 at.1).1 (c.loop-place.invariant, c.in_default.ensures)

pub returns : goal.returns
returns g c =
    let P = λ (rule : Simpagation ℕ). NoMatch rule (g.P.Partners.store c.args.partners.now) (Has (g.P.Partners.own c.args.partners.now)) in
    let past : length c.rules-rules.result.now ≤ c.loop-place.place = c.loop-place-test.false in
    let long : length c.args.program.now ≤ c.loop-place.place = subst (λ xs. length xs ≤ c.loop-place.place) c.rules-rules.ensures.rules (rw length-map past) in
    none_found c.args.program.now (g.P.Partners.store c.args.partners.now) (g.P.Partners.own c.args.partners.now) (subst (AllByRecursion P) (take_all c.loop-place.place c.args.program.now long) c.loop-place.invariant)
