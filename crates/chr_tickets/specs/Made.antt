-- Tickets of the atoms that constraints of a body stand for.
use Rattle.std.specs.Prelude.{◌≡◌, ℕ, List, [], Option, Some}
use Rattle.chr_value.specs.Atoms.{Value, Atom}
use Rattle.chr_rule.specs.declared.rule_atom.RuleAtom.{RuleAtom as CodeRuleAtom}
use Rattle.chr_rule.specs.Parts.{shape}
use Rattle.chr_guard.specs.Bindings.{bound_at}
use Rattle.chr_guard.specs.Instances.{made_under}
use Rattle.chr_calls.specs.Tickets.{Ticket, waiting}

-- the atom that a constraint stands for under a binding, where its arguments have values
abbrev pub atom_under : {Z : Type 0} → CodeRuleAtom Z → List (Option (Value ℕ)) → Option (Atom ℕ)
atom_under pattern binding = made_under (bound_at binding) (shape pattern)

-- a ticket whose atom has the constraint's name, and no arguments yet
abbrev pub waiting_bare : {Z : Type 0} → CodeRuleAtom Z → Ticket
waiting_bare pattern = waiting (record { name = (shape pattern).name; args = [] })

-- the ticket waits with the atom that the constraint stands for
abbrev pub WaitsMade : {Z : Type 0} → CodeRuleAtom Z → List (Option (Value ℕ)) → Ticket → Type 0
WaitsMade pattern binding x =
    (atom : Atom ℕ) × (atom_under pattern binding ≡ Some atom) × (x ≡ waiting atom)
