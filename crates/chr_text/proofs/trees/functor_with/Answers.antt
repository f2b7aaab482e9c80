use Rattle.std.proofs.Common.{◌≡◌, false, sym, ap, ◌∙◌, map, length, Vec, arith}
use Rattle.std.specs.List.{list_any}
use Rattle.std.proofs.lemmas.List.{length-map}
use Rattle.chr_value.specs.Atoms.{ground, grounds}
use Rattle.chr_value.specs.declared.value.Comp.{Comp as CodeComp}
use Rattle.chr_rule.specs.Parts.{argument}
use Rattle.chr_rule.specs.Terms.{is_open}
use Rattle.chr_text.proofs.Numbered.{value_made, values_count}
use Rattle.chr_text.proofs.trees.functor_with.Goals as goal

pub new-args-requires-2 : goal.new-args-requires-2
new-args-requires-2 g c =
    let ts = map argument c.args.args.items in
    let none : list_any is_open ts ≡ false = ap (λ l. list_any is_open (map argument l)) (sym c.deref.ensures.value) ∙ sym c.any_open.ensures ∙ c.if-any_open.false in
    let made = c.in_ok-values.field-0 in
    let count : length made.items ≡ length c.args.args.items = sym (length-map made.items ground) ∙ ap length c.in_ok-values.ensures ∙ values_count ts none ∙ length-map c.args.args.items argument in
    record { some = omega (arith, count, made.ok.0, c.args.args.ok.0, c.requires.some); few = omega (arith, count, made.ok.0, c.args.args.ok.0, c.requires.few) }

pub returns : goal.returns
returns g c =
    let none : list_any is_open (map argument c.args.args.items) ≡ false = ap (λ l. list_any is_open (map argument l)) (sym c.deref.ensures.value) ∙ sym c.any_open.ensures ∙ c.if-any_open.false in
    let are = ap (λ (l : Vec _ _). grounds l.items) c.new-args-2.ensures ∙ c.in_ok-values.ensures in
    value_made c.in_ok-new-2.field-0 c.args.functor.number (map argument c.args.args.items) (ap (λ (k : CodeComp _). k.functor.number) c.in_ok-new-2.ensures.ok) (ap (λ (k : CodeComp _). grounds k.args.list.items) c.in_ok-new-2.ensures.ok ∙ are) none
