use Rattle.std.proofs.Common.{Some, subst, rules, arith, ◌≡◌}
use Rattle.std.proofs.lemmas.Grind.{common_steps}
use Rattle.std.proofs.lemmas.Int.{to_z-of_z}
use Rattle.chr_value.specs.Atoms.{Int}
use Rattle.chr_guard.specs.Bindings.{NarrowsIf}
use Rattle.chr_guard.proofs.binding.Binding.bind_number.Goals as goal

pub returns-clause-narrows : goal.returns-clause-narrows
returns-clause-narrows g c =
    subst (λ z. NarrowsIf (λ v. v c.args.variable ≡ Some (Int z)) c.hold.result c.args.self.now c.hold.new.self) (first_of (search rules, grind (arith, common_steps, to_z-of_z))) c.hold.ensures.narrows
