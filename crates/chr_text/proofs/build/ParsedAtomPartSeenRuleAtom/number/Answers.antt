use Rattle.std.proofs.Common.{refl, ap, map, arith}
use Rattle.std.proofs.lemmas.List.{length-map}
use Rattle.std.proofs.lemmas.Result.{err_from_is_err_and}
use Rattle.chr_grammar.specs.Views as by_texts
use Rattle.chr_limits.specs.Views.{names as texts}
use Rattle.chr_limits.specs.Variables.{term_variables}
use Rattle.chr_rule.specs.Parts.{argument}
use Rattle.chr_text.specs.Numbering.{or_full, numbered_term, numbered_rule_atom}
use Rattle.chr_text.specs.Translation as raw
use Rattle.chr_text.proofs.InScope.{grows, argument_meets}
use Rattle.chr_text.proofs.Lists.{turns_count, given_one_fails, given_numbered, name_fails, args_fail, atom_numbered}
use Rattle.chr_text.proofs.Numbered.{given_room, given_done, given_fails, each_count}
use Rattle.chr_text.proofs.build.ParsedAtomPartSeenRuleAtom.number.Goals as goal

pub number_parts-requires-clause-room : goal.number_parts-requires-clause-room
number_parts-requires-clause-room g c = given_room raw.argument refl (ap (map (by_texts.term {Z = g.row.A.Denot})) c.deref.ensures.value) c.requires.room

pub returns-in_err-name-clause-gives : goal.returns-in_err-name-clause-gives
returns-in_err-name-clause-gives g c =
    let p = err_from_is_err_and c.from_residual.result c.from_residual.ensures.1 in
    let atom = (raw.rule_atom (texts c.args.seen.now.items) (by_texts.phrase {Z = g.row.A.Denot} c.args.self.now)).0 in
    rw (p.1, p.2) (given_one_fails numbered_rule_atom c.in_err-name.field-0.0 c.args.names.now atom (name_fails c.in_err-name.field-0.0 c.args.names.now atom c.in_err-name.ensures.gives))

pub returns-in_err-terms-clause-gives : goal.returns-in_err-terms-clause-gives
returns-in_err-terms-clause-gives g c =
    let p = err_from_is_err_and c.from_residual-in_err-terms.result c.from_residual-in_err-terms.ensures.1 in
    let atom = (raw.rule_atom (texts c.args.seen.now.items) (by_texts.phrase {Z = g.row.A.Denot} c.args.self.now)).0 in
    rw (p.1, p.2) (given_one_fails numbered_rule_atom c.in_err-terms.field-0.0 c.args.names.now atom (args_fail c.in_err-terms.field-0.0 c.args.names.now c.number_name.new.names atom c.in_ok-name.name.number c.in_ok-name.ensures.gives (given_fails numbered_term raw.argument c.in_err-terms.field-0.0 c.number_name.new.names refl (ap (map (by_texts.term {Z = g.row.A.Denot})) c.deref.ensures.value) c.in_err-terms.ensures.gives)))

pub returns-clause-gives : goal.returns-clause-gives
returns-clause-gives g c =
    let atom = (raw.rule_atom (texts c.args.seen.now.items) (by_texts.phrase {Z = g.row.A.Denot} c.args.self.now)).0 in
    given_numbered numbered_rule_atom c.args.names.now c.number_parts.new.names atom _ (atom_numbered c.args.names.now c.number_name.new.names c.number_parts.new.names atom c.in_ok-name.name.number _ c.in_ok-name.ensures.gives (ap or_full (given_done numbered_term raw.argument refl (ap (map (by_texts.term {Z = g.row.A.Denot})) c.deref.ensures.value) c.in_ok-terms.ensures.gives c.in_ok-terms.ensures.seen).is))

pub returns-clause-seen : goal.returns-clause-seen
returns-clause-seen g c = (given_done numbered_term raw.argument refl (ap (map (by_texts.term {Z = g.row.A.Denot})) c.deref.ensures.value) c.in_ok-terms.ensures.gives c.in_ok-terms.ensures.seen).seen

pub number_parts-requires-clause-grows : goal.number_parts-requires-clause-grows
number_parts-requires-clause-grows g c = grows raw.argument term_variables argument_meets

pub invariant_of-result : goal.invariant_of-result
invariant_of-result g c =
    let made = given_done numbered_term raw.argument refl (ap (map (by_texts.term {Z = g.row.A.Denot})) c.deref.ensures.value) c.in_ok-terms.ensures.gives c.in_ok-terms.ensures.seen in
    let few = c.requires.fits.few in
    let atom = (raw.rule_atom (texts c.args.seen.now.items) (by_texts.phrase {Z = g.row.A.Denot} c.args.self.now)).0 in
    let count = turns_count raw.argument (texts c.args.seen.now.items) (map (by_texts.term {Z = g.row.A.Denot}) c.args.self.now.args.items) in
    omega (arith, few, c.in_ok-terms.terms.ok.0, length-map c.in_ok-terms.terms.items (argument {A = g.row.A.Denot}), each_count numbered_term c.number_name.new.names c.number_parts.new.names atom.args (map argument c.in_ok-terms.terms.items) made.is, count)
