use Rattle.std.proofs.Common.{◌≡◌, ℕ, ap, ◌∙◌, arith}
use Rattle.chr_value.specs.Atoms.{args_of, args_count, ground, grounds}
use Rattle.chr_store.specs.Digests.{digest_after_all}
use Rattle.std.proofs.lemmas.List.{length-map}
use Rattle.chr_value.proofs.Lists.{count-args}
use Rattle.chr_store.proofs.keys.+digest.Goals as goal

pub with_comp-loop-value-init : goal.with_comp-loop-value-init
with_comp-loop-value-init g t c =
    let comp = c.args.comp.now in
    let count : c.len.result ≡ args_count (args_of (grounds comp.args.list.items)) = omega (arith, count-args (grounds comp.args.list.items), length-map comp.args.list.items ground) in
    ap (λ us. digest_after_all c.mixed-all.result (args_of (grounds us))) c.deref-value-items.ensures
    ∙ ap (λ (d : ℕ). digest_after_all d (args_of (grounds comp.args.list.items))) (cc (c.mixed-all.ensures, c.mixed-functor.ensures, c.from.ensures, count))
