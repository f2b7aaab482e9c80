use Rattle.std.proofs.Common.{◌≡◌, ◌<◌, Some, ap, ◌∙◌, arith, slice_index_or}
use Rattle.std.proofs.lemmas.Grind.{common_steps}
use Rattle.std.specs.Int.{bit_at}
use Rattle.chr_value.specs.Atoms.{said}
use Rattle.chr_guard.proofs.Bindings.{filler, known_bits, known_place, told_one}
use Rattle.chr_guard.proofs.binding.Binding.bound.Goals as goal

pub returns : goal.returns
returns g c =
    let bits = c.self.inside.known.bits in
    let n = c.self.inside.variables in
    let x = c.args.variable in
    let one : bit_at bits x ≡ 1 = (known_bits bits n c.self.inside.bound.items c.args.self.now c.self.invariant c.self.view_is x).1 c.requires in
    let within : x < n = known_place c.self.invariant x one in
    let found : c.index-deref-from.result ≡ slice_index_or c.self.inside.bound.items x filler = grind (arith, common_steps) in
    ap (λ v. Some (said v)) found ∙ told_one bits n x c.self.inside.bound.items c.args.self.now c.self.invariant c.self.view_is one
