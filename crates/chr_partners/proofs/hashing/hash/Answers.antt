use Rattle.std.proofs.Common.{◌≡◌, ℕ, ◌+◌, ◌*◌, ◌/◌, ap, ap₂, ◌∙◌}
use Rattle.chr_partners.specs.Hashes.{mixed, hash}
use Rattle.chr_partners.proofs.hashing.hash.Goals as goal

pub returns : goal.returns
unfolding hash
returns c =
    let key : c.from.result * 256 + c.from-2.result ≡ c.args.name.number * 256 + c.args.place = ap₂ (λ (n p : ℕ). n * 256 + p) c.from.ensures c.from-2.ensures in
    ap (λ (w : ℕ). w / 4294967296) (c.mixed-2.ensures ∙ ap (λ (w : ℕ). mixed w 0) (c.mixed.ensures ∙ ap (λ (k : ℕ). mixed k c.args.word) key))
