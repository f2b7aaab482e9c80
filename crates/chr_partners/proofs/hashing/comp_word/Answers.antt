use Rattle.std.proofs.Common.{ℕ, ◌+◌, ◌∷◌, drop, ap, sym, ◌∙◌}
use Rattle.std.proofs.lemmas.List.{drop_more}
use Rattle.chr_value.specs.Atoms.{args_of, grounds}
use Rattle.chr_partners.specs.Hashes.{mixed, args_word}
use Rattle.chr_partners.proofs.hashing.comp_word.Goals as goal

pub loop-value-preserved : goal.loop-value-preserved
loop-value-preserved g c =
    let items = c.deref-value-items.result.now in
    let i = c.loop-value.value-index in
    let value = c.value-item.result in
    let word = c.loop-value.word in
    ap (λ (w : ℕ). args_word w (args_of (grounds (drop (i + 1) items)))) (c.mixed-word.ensures ∙ ap (mixed word) c.plain_word.ensures)
    ∙ sym (ap (λ us. args_word word (args_of (grounds us))) (drop_more items i value c.loop-value-test.true ∙ ap (λ v. v ∷ drop (i + 1) items) (sym c.value-item.is)))
    ∙ c.loop-value.invariant
