use Rattle.std.proofs.Common.{◌≡◌, ℕ, List, Option, length, sym, ap, subst, ◌∙◌, arith}
use Rattle.std.proofs.lemmas.List.{length-map}
use Rattle.chr_value.specs.Atoms.{Value}
use Rattle.chr_rule.specs.Parts.{shape}
use Rattle.chr_guard.specs.Matching.{IsInstanceUnder}
use Rattle.chr_model.specs.Stores.{atoms}
use Rattle.chr_enumeration.specs.Picks.{picks, picked}
use Rattle.chr_enumeration.proofs.Wholes.{fit_whole, no_whole, is_match, labels_taken, labels_dropped}
use Rattle.chr_enumeration.proofs.slots.whole.Goals as goal

pub becomes_instance-requires : goal.becomes_instance-requires
becomes_instance-requires g c =
    let ps = picks c.args.slots.now in (
      omega arith,
      (c.guard.ensures.tests, (atoms (picked ps), fit_whole c.args.rule.now (g.P.Partners.store c.args.partners.now) ps c.args.binding.now c.requires.partial c.requires.all)),
    )

pub returns-then-not-becomes_instance-clause-found : goal.returns-then-not-becomes_instance-clause-found
returns-then-not-becomes_instance-clause-found g c =
    let ps = picks c.args.slots.now in
    let fit = fit_whole c.args.rule.now (g.P.Partners.store c.args.partners.now) ps c.args.binding.now c.requires.partial c.requires.all in
    no_whole c.args.rule.now (g.P.Partners.store c.args.partners.now) ps c.args.binding.now c.requires.partial c.requires.all (c.if-not-becomes_instance.ensures.instance (atoms (picked ps)) fit)

pub returns-clause-found : goal.returns-clause-found
returns-clause-found g c =
    let ps = picks c.args.slots.now in
    let fit = fit_whole c.args.rule.now (g.P.Partners.store c.args.partners.now) ps c.args.binding.now c.requires.partial c.requires.all in
    let len : length c.kept.result.now ≡ length c.args.rule.now.kept = sym (length-map c.kept.result.now shape) ∙ ap length c.kept.ensures.heads in
    let under = subst (λ (b : List (Option (Value ℕ))). IsInstanceUnder c.args.rule.now (atoms (picked ps)) b) (sym c.copy.ensures) (c.if-not-becomes_instance.ensures.instance (atoms (picked ps)) fit) in
    is_match c.args.rule.now (g.P.Partners.store c.args.partners.now) ps c.args.binding.now (record { kept = c.labels_of.result; removed = c.labels_of-2.result; binding = c.copy.result }) c.requires.partial c.requires.all under
    (c.labels_of.ensures ∙ labels_taken c.args.slots.now c.split_at.result.0.now (length c.kept.result.now) (length c.args.rule.now.kept) c.split_at.ensures.front len)
    (c.labels_of-2.ensures ∙ labels_dropped c.args.slots.now c.split_at.result.1.now (length c.kept.result.now) (length c.args.rule.now.kept) c.split_at.ensures.back len)
