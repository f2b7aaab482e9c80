use Rattle.std.proofs.Common.{◌≡◌, true, Ok, Some, ℕ, sym, ap, ◌∙◌}
use Rattle.std.proofs.lemmas.Result.{err_from_is_err_and}
use Rattle.std.specs.List.{AllByRecursion}
use Rattle.chr_value.specs.Names.{has_text}
use Rattle.chr_value.specs.Atoms.{Atom}
use Rattle.chr_value.specs.Naming.{TermIsKnown, table_after, number_name, number_terms, numbered_atom}
use Rattle.chr_value.specs.TextAtoms.{text_values, text_atom}
use Rattle.chr_value.proofs.Again.{read_again}
use Rattle.chr_value.proofs.Back.{atom_back}
use Rattle.chr_value.proofs.Chosen.{made-no-fault}
use Rattle.chr_value.proofs.Said.{fact_says, entered-fails, none_after, some_after, atom-after, atom-none}
use Rattle.chr_value.proofs.naming.number_atom.Given.{Over}
use Rattle.chr_value.proofs.naming.number_atom.Goals as goal
use Rattle.chr_value.proofs.naming.number_atom.Goals.{After-make_atom}

pub returns-in_err-enter_name-clause-gives : goal.returns-in_err-enter_name-clause-gives
returns-in_err-enter_name-clause-gives g c =
    let p = err_from_is_err_and c.from_residual.result c.from_residual.ensures.1 in
    let old = c.args.names.now in
    let text = text_atom c.args.text.now in
    rw (p.1, p.2) (entered-fails (Unit {0}) (λ table. has_text table text.name ≡ true) (λ (a : Atom ℕ). a) c.in_err-enter_name.field-0.0 (number_name old text.name) (numbered_atom old text) c.enter_name.new.names (atom-none old text) c.in_err-enter_name.ensures.enters)

pub returns-in_err-enter_name-clause-again : goal.returns-in_err-enter_name-clause-again
returns-in_err-enter_name-clause-again g c = λ a apart named is. read_again (λ b. b) c.args.names.now c.enter_name.new.names (text_atom c.args.text.now) c.from_residual.result a (returns-in_err-enter_name-clause-gives g c) apart named is

pub returns-in_err-enter_values-clause-gives : goal.returns-in_err-enter_values-clause-gives
returns-in_err-enter_values-clause-gives g c =
    let p = err_from_is_err_and c.from_residual-in_err-enter_values.result c.from_residual-in_err-enter_values.ensures.1 in
    let text = text_atom c.args.text.now in
    let terms = text_values c.deref.result.now in
    let after = atom-after c.args.names.now c.enter_name.new.names text c.in_ok-enter_name.ensures.enters ∙ ap (λ ts. table_after (number_terms c.enter_name.new.names (text_values ts))) (sym c.deref.ensures.value) in
    rw (p.1, p.2) (entered-fails (Unit {0}) (λ table. AllByRecursion (TermIsKnown table) terms) (λ (a : Atom ℕ). a) c.in_err-enter_values.field-0.0 (number_terms c.enter_name.new.names terms) (numbered_atom c.args.names.now text) c.enter_values.new.names
    (λ none. none_after (numbered_atom c.args.names.now text) (after ∙ ap table_after none)) c.in_err-enter_values.ensures.enters)

pub returns-in_err-enter_values-clause-again : goal.returns-in_err-enter_values-clause-again
returns-in_err-enter_values-clause-again g c = λ a apart named is. read_again (λ b. b) c.args.names.now c.enter_values.new.names (text_atom c.args.text.now) c.from_residual-in_err-enter_values.result a (returns-in_err-enter_values-clause-gives g c) apart named is

-- the atom by numbers, once all names are entered
entered : (g : Over) (c : After-make_atom g) → (a : Atom ℕ) × (numbered_atom c.args.names.now (text_atom c.args.text.now) ≡ Some (a, c.enter_values.new.names))
entered g c =
    let text = text_atom c.args.text.now in
    some_after (numbered_atom c.args.names.now text) c.enter_values.new.names
    (atom-after c.args.names.now c.enter_name.new.names text c.in_ok-enter_name.ensures.enters ∙ ap (λ ts. table_after (number_terms c.enter_name.new.names (text_values ts))) (sym c.deref.ensures.value) ∙ c.in_ok-enter_values.ensures.enters)

pub returns-in-Ok-clause-gives : goal.returns-in-Ok-clause-gives
returns-in-Ok-clause-gives g c =
    let made = entered g (goal.at.returns-in-Ok-clause-gives g c).After-make_atom in
    made.1 ∙ ap (λ (a : Atom ℕ). Some (a, c.enter_values.new.names)) (sym (c.in-Ok.ensures.gives ∙ (atom_back c.args.names.now (text_atom c.args.text.now) made.0 c.enter_values.new.names made.1 c.in-Ok.ensures.distinct).0))

pub returns-in-Ok-clause-full : goal.returns-in-Ok-clause-full
returns-in-Ok-clause-full g c =
    (λ is. absurd (made-no-fault _ _ is), λ h. absurd (h.1 (atom_back c.args.names.now (text_atom c.args.text.now) c.in-Ok.atom c.enter_values.new.names (returns-in-Ok-clause-gives g c) c.in-Ok.ensures.distinct).1))

pub returns-in-Ok-clause-says : goal.returns-in-Ok-clause-says
returns-in-Ok-clause-says g c = (fact_says c.args.names.now (text_atom c.args.text.now) c.in-Ok.atom c.enter_values.new.names (returns-in-Ok-clause-gives g c)).0

pub returns-in-Ok-clause-again : goal.returns-in-Ok-clause-again
returns-in-Ok-clause-again g c = λ a apart named is. read_again (λ b. b) c.args.names.now c.enter_values.new.names (text_atom c.args.text.now) (Ok c.in-Ok.atom) a (returns-in-Ok-clause-gives g c) apart named is

pub returns-in-Err-clause-full : goal.returns-in-Err-clause-full
returns-in-Err-clause-full g c =
    let made = entered g (goal.at.returns-in-Err-clause-full g c).After-make_atom in
    (λ is. absurd cc, λ h. absurd (h.1 (atom_back c.args.names.now (text_atom c.args.text.now) made.0 c.enter_values.new.names made.1 c.in-Err.ensures.distinct).1))
