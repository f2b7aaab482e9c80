use Rattle.std.proofs.Common.{◌≡◌, ◌<◌, suc, ◌+◌, ◌++◌, ◌∷◌, [], ℕ, length, take, slice_set, ap, ◌∙◌, arith}
use Rattle.chr_value.specs.Slots.{slot_of, slots_of}
use Rattle.chr_value.specs.declared.slots.Kind.{Kind}
use Rattle.chr_value.specs.declared.slots.Slot.{Slot}
use Rattle.chr_value.proofs.ArgumentLaws.{one-more}
use Rattle.chr_value.proofs.slots.put_slot.Goals as goal

pub returns : goal.returns
returns g c =
    let ks = c.args.kinds.now in
    let ws = c.args.words.now in
    let i = c.args.index in
    let k = c.kind_of.result in
    let w = c.word_of.result in
    let lk : i < length ks = omega (arith, c.requires, c.told-kinds) in
    let lw : i < length ws = omega (arith, c.requires, c.told-words) in
    let slot : slot_of k w ≡ c.args.slot = ap (λ (j : Kind). slot_of j w) c.kind_of.ensures ∙ c.word_of.ensures in
    let more : i + 1 ≡ suc i = omega arith in
    ap (λ (m : ℕ). slots_of (slice_set ks i k) (take m (slice_set ws i w))) more ∙ one-more ks ws i k w lk lw ∙ ap (λ (s : Slot). slots_of ks (take i ws) ++ s ∷ []) slot
