use Rattle.std.proofs.Common.{◌≡◌, ◌+◌, ◌++◌, ◌∷◌, [], ℕ, map, take, sym, ap, subst, ◌∙◌}
use Rattle.std.proofs.lemmas.List.{map_push}
use Rattle.chr_value.specs.Names.{number_of}
use Rattle.chr_value.specs.Atoms.{Value, Atom, ground, renamed}
use Rattle.chr_value.specs.Limits.{IsWithin}
use Rattle.chr_value.specs.Spelling.{FitsTerm}
use Rattle.chr_value.specs.TextAtoms.{text_value, text_values}
use Rattle.chr_value.proofs.Back.{within_same}
use Rattle.chr_value.proofs.Lists.{atom}
use Rattle.chr_value.proofs.Places.{all-at, front-more}
use Rattle.chr_value.proofs.naming.make_atom.Goals as goal

pub make_value-requires : goal.make_value-requires
make_value-requires g c =
    all-at text_value FitsTerm c.deref-value-items.result.now c.loop-value.value-index c.value-item.result c.loop-value-test.true c.value-item.is (rw c.deref-value-items.ensures.value c.requires.args)

pub push-requires-clause-within : goal.push-requires-clause-within
push-requires-clause-within g c =
    let within = all-at text_value IsWithin c.deref-value-items.result.now c.loop-value.value-index c.value-item.result c.loop-value-test.true c.value-item.is (rw c.deref-value-items.ensures.value c.requires.within) in
    subst IsWithin (sym c.in_ok-make_value.ensures) (within_same (number_of c.args.names.now) (text_value c.value-item.result) within)

pub loop-value-preserved : goal.loop-value-preserved
loop-value-preserved g c =
    let items = c.deref-value-items.result.now in
    let i = c.loop-value.value-index in
    let x = c.value-item.result in
    let v = ground c.in_ok-make_value.field-0 in
    let named = renamed (number_of c.args.names.now) in
    let front = map named (text_values (take i items)) in
    let more : front ++ v ∷ [] ≡ map named (text_values (take (i + 1) items)) =
    ap (λ (w : Value ℕ). front ++ w ∷ []) c.in_ok-make_value.ensures ∙ sym (ap (map named) (front-more text_value items i x c.loop-value-test.true c.value-item.is) ∙ map_push named (text_values (take i items)) (text_value x)) in
    c.in_ok-push.ensures.ok ∙ ap (λ (a : Atom ℕ). atom a.name (a.args ++ v ∷ [])) c.loop-value.invariant ∙ ap (atom (number_of c.args.names.now c.args.text.now.name.now)) more
