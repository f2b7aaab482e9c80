use Rattle.std.proofs.Common.{◌≡◌, length, None, sym, ap, subst, ◌∙◌, arith}
use Rattle.std.proofs.lemmas.List.{length-map, length-replicate}
use Rattle.chr_guard.specs.Settled.{mark_view, IsFilled}
use Rattle.chr_guard.proofs.Steps.{plain_again}
use Rattle.chr_guard.proofs.settled.Settled.plain.Goals as goal

pub fill-requires : goal.fill-requires
fill-requires g c =
    let marks : length c.args.self.now ≡ c.len.result = sym (ap length c.self.view_is) ∙ length-map c.self.inside.marks.items mark_view ∙ sym (c.len.ensures ∙ c.self.inside.marks.ok.0) in
    let places : length c.free-binding.result ≡ c.len.result = ap length c.free-binding.ensures ∙ length-replicate c.len.result None in
    (omega arith, omega arith)

pub returns : goal.returns
returns g c binding is =
    let count : c.len.result ≡ length c.args.self.now = sym (sym (ap length c.self.view_is) ∙ length-map c.self.inside.marks.items mark_view ∙ sym (c.len.ensures ∙ c.self.inside.marks.ok.0)) in
    plain_again binding c.args.self.now c.len.result c.fill.new.binding is count (sym c.if-has_compound.ensures) (subst (λ old. IsFilled c.args.self.now old c.fill.new.binding) c.free-binding.ensures c.fill.ensures)
