use Rattle.std.proofs.Common.{◌≡◌, ◌∙◌, ◌<◌, ◌^◌, ℕ, List, length, sym, ap, subst, arith}
use Rattle.std.specs.List.{filter}
use Rattle.std.specs.Vec.{with_items}
use Rattle.std.proofs.lemmas.List.{with_items_is}
use Rattle.chr_index.specs.declared.table.Entry.{Entry}
use Rattle.chr_index.specs.declared.table.Key.{Key}
use Rattle.chr_index.specs.declared.table.Kind.TheVariants as kinds
use Rattle.chr_index.specs.Chains.{Chained, IsTable, has_labels, link_in, place_of}
use Rattle.chr_index.proofs.Chaining.{chained, absent_renewed, links_renewed, table_renewed}
use Rattle.chr_index.proofs.table.Table.make_room.Goals as goal

abbrev none : Key
none = record { word = 0; kind = kinds.Int }

pub invariant_of-self : goal.invariant_of-self
invariant_of-self g c =
    let chains = with_items_is c.in_ok-chains.chains c.chain_all.new.chains (c.chain_all.ensures.count ∙ c.deref_mut.ensures.len) in
    let entries = with_items_is c.shrink_to.new.self c.chain_all.new.entries (c.chain_all.ensures.entry_count ∙ c.deref_mut-2.ensures.len) in
    let kept : c.deref_mut-2.result.now ≡ filter has_labels c.self.inside.entries.items = c.deref_mut-2.ensures.value ∙ c.shrink_to.ensures.items ∙ c.keep_used.ensures.used in
    let few : length c.chain_all.new.entries < 2 ^ 32 =
    omega (arith, c.chain_all.ensures.entry_count, ap (λ (es : List Entry). length es) (c.deref_mut-2.ensures.value ∙ c.shrink_to.ensures.items), c.keep_used.ensures.count, c.self.invariant.places) in
    subst (λ (es : List Entry). IsTable (chained (with_items c.in_ok-chains.chains c.chain_all.new.chains).items es c.shift_for-shift.result)) (sym entries)
    (subst (λ (hs : List ℕ). IsTable (chained hs c.chain_all.new.entries c.shift_for-shift.result)) (sym chains)
    (table_renewed (chained c.self.inside.chains.items c.self.inside.entries.items c.self.inside.shift) c.chain_all.new.chains c.shift_for-shift.result c.deref_mut-2.result.now c.chain_all.new.entries kept c.chain_all.ensures.same c.self.invariant
    c.shift_for-shift.ensures.within few (λ k. omega (arith, c.in_ok-chains.ensures.homes k, c.chain_all.ensures.count, ap (λ (hs : List ℕ). length hs) c.deref_mut.ensures.value)) c.chain_all.ensures.chained))

pub returns-clause-chains : goal.returns-clause-chains
returns-clause-chains g c =
    let chains = with_items_is c.in_ok-chains.chains c.chain_all.new.chains (c.chain_all.ensures.count ∙ c.deref_mut.ensures.len) in
    subst (λ (hs : List ℕ). 0 < length hs) (sym chains) (omega (arith, c.in_ok-chains.ensures.homes none, c.chain_all.ensures.count, ap (λ (hs : List ℕ). length hs) c.deref_mut.ensures.value))

pub returns-clause-absent : goal.returns-clause-absent
returns-clause-absent g c = λ k absent.
    let entries = with_items_is c.shrink_to.new.self c.chain_all.new.entries (c.chain_all.ensures.entry_count ∙ c.deref_mut-2.ensures.len) in
    let kept : c.deref_mut-2.result.now ≡ filter has_labels c.self.inside.entries.items = c.deref_mut-2.ensures.value ∙ c.shrink_to.ensures.items ∙ c.keep_used.ensures.used in
    ap (λ (es : List Entry). place_of (chained c.chain_all.new.chains es c.shift_for-shift.result) k) entries
    ∙ absent_renewed (chained c.self.inside.chains.items c.self.inside.entries.items c.self.inside.shift) c.chain_all.new.chains c.shift_for-shift.result c.deref_mut-2.result.now c.chain_all.new.entries kept c.chain_all.ensures.same c.self.invariant k
    (ap (λ (t : Chained). place_of t k) c.self.view_is ∙ absent)

pub returns-clause-links : goal.returns-clause-links
returns-clause-links g c = λ k.
    let entries = with_items_is c.shrink_to.new.self c.chain_all.new.entries (c.chain_all.ensures.entry_count ∙ c.deref_mut-2.ensures.len) in
    let kept : c.deref_mut-2.result.now ≡ filter has_labels c.self.inside.entries.items = c.deref_mut-2.ensures.value ∙ c.shrink_to.ensures.items ∙ c.keep_used.ensures.used in
    ap (λ (es : List Entry). link_in (chained c.chain_all.new.chains es c.shift_for-shift.result) k) entries
    ∙ links_renewed (chained c.self.inside.chains.items c.self.inside.entries.items c.self.inside.shift) c.chain_all.new.chains c.shift_for-shift.result c.deref_mut-2.result.now c.chain_all.new.entries kept c.chain_all.ensures.same c.self.invariant k
    ∙ ap (λ (t : Chained). link_in t k) c.self.view_is
