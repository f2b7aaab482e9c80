use Rattle.std.proofs.Common.{Some, sym, subst, ap, ◌∙◌, slice_get}
use Rattle.std.specs.Option.{option_map}
use Rattle.std.proofs.lemmas.Option.{slice_get-map}
use Rattle.chr_value.specs.Atoms.{Value, Atom}
use Rattle.chr_value.specs.Limits.{IsWithin}
use Rattle.chr_value.specs.Slots.{all_slots, comps_of, value_in, HasPlace}
use Rattle.chr_value.proofs.ArgumentLaws.{lies-behind}
use Rattle.chr_value.proofs.Places.{got, got-all}
use Rattle.chr_value.proofs.atom.Atom.further_arg_at.Goals as goal

pub value_at-requires : goal.value_at-requires
value_at-requires g c =
    let cs = comps_of c.self.inside.beside in
    let ss = all_slots c.self.inside.front c.self.inside.beside in
    let at = lies-behind c.self.inside.front c.self.inside.beside c.args.self.now c.args.index c.further_at.result c.self.invariant.0 c.self.view_is c.requires.further c.requires.within c.further_at.ensures in
    got (HasPlace cs) ss c.args.index c.further_at.result at c.self.invariant.1.places

pub returns-clause-value : goal.returns-clause-value
returns-clause-value g c =
    let cs = comps_of c.self.inside.beside in
    let ss = all_slots c.self.inside.front c.self.inside.beside in
    let at = lies-behind c.self.inside.front c.self.inside.beside c.args.self.now c.args.index c.further_at.result c.self.invariant.0 c.self.view_is c.requires.further c.requires.within c.further_at.ensures in
    ap (λ (v : Value _). Some v) c.value_at.ensures ∙ ap (option_map (value_in cs)) at ∙ sym (slice_get-map (value_in cs) ss c.args.index) ∙ ap (λ (a : Atom _). slice_get a.args c.args.index) c.self.view_is

pub returns-clause-within : goal.returns-clause-within
returns-clause-within g c =
    let cs = comps_of c.self.inside.beside in
    let ss = all_slots c.self.inside.front c.self.inside.beside in
    let at = lies-behind c.self.inside.front c.self.inside.beside c.args.self.now c.args.index c.further_at.result c.self.invariant.0 c.self.view_is c.requires.further c.requires.within c.further_at.ensures in
    subst IsWithin (sym c.value_at.ensures) (got-all (value_in cs) IsWithin ss c.args.index c.further_at.result at c.self.invariant.1.within)
