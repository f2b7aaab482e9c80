use Rattle.std.proofs.Common.{length, map, None, replicate, arith, refl, sym, ap, ◌∙◌, Bor, ℕ}
use Rattle.std.proofs.lemmas.List.{length-map, length-replicate}
use Rattle.chr_value.specs.Atoms.{Atom}
use Rattle.chr_rule.specs.Parts.{shape}
use Rattle.chr_guard.proofs.Matched.{in_parts, both_placed, fit_both, no_kept, no_removed, too_few}
use Rattle.chr_guard.proofs.matching.fit_all.Goals as goal

pub fit_heads-requires : goal.fit_heads-requires
fit_heads-requires g c =
    (omega arith, rw (ap length c.free-binding.ensures ∙ length-replicate c.variables.result None ∙ c.variables.ensures.count, c.kept-kept.ensures.heads) (both_placed c.args.rule.now c.kept-kept.ensures.valid).0)

pub fit_heads-requires-2 : goal.fit_heads-requires-2
fit_heads-requires-2 g c =
    (omega arith, rw (c.if-not-fit_heads.ensures.places ∙ ap length c.free-binding.ensures ∙ length-replicate c.variables.result None ∙ c.variables.ensures.count, c.removed-removed.ensures.heads) (both_placed c.args.rule.now c.kept-kept.ensures.valid).1)

pub returns : goal.returns
returns g c =
    let parts = in_parts (λ (a : Bor (Atom ℕ)). a.now) c.args.rule.now c.args.atoms.now c.split_at.result.0.now c.split_at.result.1.now (map shape c.kept-kept.result.now) (map shape c.removed-removed.result.now) (length c.kept-kept.result.now) c.kept-kept.ensures.heads c.removed-removed.ensures.heads (sym (length-map c.kept-kept.result.now shape)) c.split_at.ensures.front c.split_at.ensures.back c.split_at.ensures.front_len in
    fit_both c.args.rule.now _ _ _ _ _ c.free-binding.result c.fit_heads.new.binding c.fit_heads-2.new.binding parts (c.free-binding.ensures ∙ ap (λ n. replicate n None) c.variables.ensures.count) c.if-not-fit_heads.ensures c.if-not-fit_heads-2.ensures

pub returns-then-not-fit_heads : goal.returns-then-not-fit_heads
returns-then-not-fit_heads g c =
    let parts = in_parts (λ (a : Bor (Atom ℕ)). a.now) c.args.rule.now c.args.atoms.now c.split_at.result.0.now c.split_at.result.1.now (map shape c.kept-kept.result.now) c.args.rule.now.removed (length c.kept-kept.result.now) c.kept-kept.ensures.heads refl (sym (length-map c.kept-kept.result.now shape)) c.split_at.ensures.front c.split_at.ensures.back c.split_at.ensures.front_len in
    no_kept c.args.rule.now _ _ _ _ c.free-binding.result parts (c.free-binding.ensures ∙ ap (λ n. replicate n None) c.variables.ensures.count) c.if-not-fit_heads.ensures

pub returns-then-not-fit_heads-2 : goal.returns-then-not-fit_heads-2
returns-then-not-fit_heads-2 g c =
    let parts = in_parts (λ (a : Bor (Atom ℕ)). a.now) c.args.rule.now c.args.atoms.now c.split_at.result.0.now c.split_at.result.1.now (map shape c.kept-kept.result.now) (map shape c.removed-removed.result.now) (length c.kept-kept.result.now) c.kept-kept.ensures.heads c.removed-removed.ensures.heads (sym (length-map c.kept-kept.result.now shape)) c.split_at.ensures.front c.split_at.ensures.back c.split_at.ensures.front_len in
    no_removed c.args.rule.now _ _ _ _ _ c.free-binding.result c.fit_heads.new.binding parts (c.free-binding.ensures ∙ ap (λ n. replicate n None) c.variables.ensures.count) c.if-not-fit_heads.ensures c.if-not-fit_heads-2.ensures

pub returns-then-atoms-kept : goal.returns-then-atoms-kept
returns-then-atoms-kept g c =
    too_few c.args.rule.now (map (λ a. a.now) c.args.atoms.now)
    (omega (arith, c.if-atoms-kept.true, length-map c.args.atoms.now (λ a. a.now), ap length c.kept-kept.ensures.heads, length-map c.kept-kept.result.now shape))
