use Rattle.std.proofs.Common.{rules, ◌∙◌, ℕ, zero, List, Option, map, sym, ap, subst, arith}
use Rattle.std.specs.List.{AllByRecursion, flat_map}
use Rattle.chr_value.specs.Atoms.{Atom}
use Rattle.chr_lex.specs.Items.{items}
use Rattle.chr_log.specs.Events.{events_of}
use Rattle.chr_causes.specs.declared.causes.Cause.{Cause}
use Rattle.chr_explain.specs.Headings.{heading_view, item_heading, headings_of}
use Rattle.chr_explain.specs.Reasons.{reason_of, HasRemovals, IsReason}
use Rattle.chr_explain.proofs.ExplainedTexts.{explained}
use Rattle.chr_causes.specs.Origins.{IsOrigin}
use Rattle.chr_explain.specs.Atoms.{AreAtoms}
use Rattle.chr_explain.proofs.explanation.explanation.Goals as goal

pub returns : goal.returns
returns g c =
    let rules = c.args.program.now in
    let log = events_of c.args.events.now in
    let asked = c.args.question in
    let causes = c.in-Some.list.items in
    let reasons = c.in_ok-reasons.reasons.items in
    let has = subst (λ (cs : List Cause). HasRemovals asked.gone log cs c.deref-4.result.now) (c.deref-2.ensures.value ∙ sym c.deref-5.ensures.value)
    (subst (λ (rs : List (Option ℕ)). HasRemovals asked.gone log c.deref-2.result.now rs) (sym c.deref-4.ensures.value) c.in_ok-removals.ensures) in
    let each = subst (λ (as' : List (Atom ℕ)). AllByRecursion (IsReason rules log as' asked.gone) (map reason_of reasons)) c.deref-3.ensures.value (c.in_ok-reasons.ensures.each asked.gone has) in
    let heads = ap (map heading_view) c.deref-7.ensures.value ∙ c.in_ok-headings.ensures ∙ ap (λ (t : List ℕ). flat_map item_heading (items zero 1 t)) (c.deref-6.ensures.value ∙ c.in_ok-plain.ensures.same) in
    explained rules c.args.names.now (map heading_view c.deref-7.result.now) (headings_of c.args.text.now) log asked c.in_ok-atoms.atoms.items reasons causes c.deref-8.result.now c.in_ok-out.out.items
    c.in_ok-atoms.ensures
    (c.in_ok-reasons.ensures.causes ∙ c.deref-5.ensures.value)
    (rw c.in-Some.is at c.in_ok-list.ensures)
    each heads c.deref-8.ensures.value c.in_ok-out.ensures

pub returns-in_default : goal.returns-in_default
returns-in_default g c = rw c.in_default.is at c.in_ok-list.ensures

pub asked_removals-requires : goal.asked_removals-requires
asked_removals-requires g c =
    let rules = c.args.program.now in
    let log = events_of c.args.events.now in
    let are = rw c.in-Some.is at c.in_ok-list.ensures in
    record {
      atoms = subst (AreAtoms rules log) (sym c.deref.ensures.value) c.in_ok-atoms.ensures;
      origins = subst (λ (cs : List Cause). AllByRecursion (λ x. IsOrigin rules log x.label x.origin) cs) (sym c.deref-2.ensures.value) are.origins;
    }

pub reasons-requires : goal.reasons-requires
reasons-requires g c =
    let program = c.args.program.now in
    let log = events_of c.args.events.now in
    let are = rw c.in-Some.is at c.in_ok-list.ensures in (
      search rules,
      (
        subst (AreAtoms program log) (sym c.deref-3.ensures.value) c.in_ok-atoms.ensures,
        subst (λ (cs : List Cause). AllByRecursion (λ x. IsOrigin program log x.label x.origin) cs) (sym c.deref-5.ensures.value) are.origins,
      ),
    )
