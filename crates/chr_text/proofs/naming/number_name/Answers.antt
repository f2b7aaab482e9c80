use Rattle.std.proofs.Common.{◌≡◌, ℕ, zero, suc, ◌<◌, true, List, [], ◌∷◌, get_or, arith}
use Rattle.std.specs.List.{list_all}
use Rattle.std.specs.Str.{IsUtf8}
use Rattle.std.proofs.lemmas.Grind.{common_steps}
use Rattle.std.proofs.lemmas.Str.{IsUtf8-from_ascii}
use Rattle.chr_value.specs.Spelling.{is_name_byte, IsName}
use Rattle.chr_value.proofs.Chosen.{both}
use Rattle.chr_text.proofs.naming.number_name.Goals as goal

word_small : (b : ℕ) → is_name_byte b ≡ true → b < 128
word_small b e = grind (arith, common_steps)

words_small : (bs : List ℕ) (i : ℕ) → list_all is_name_byte bs ≡ true → get_or bs i 0 < 128
words_small [] i e = omega arith
words_small (b ∷ bs) zero e = word_small b (both _ _ e).0
words_small (b ∷ bs) (suc i) e = words_small bs i (both _ _ e).1

name_utf8 : (t : List ℕ) → IsName t → IsUtf8 t
name_utf8 t fits = IsUtf8-from_ascii t (λ i. words_small t i fits.bytes)

pub unreachable-requires : goal.unreachable-requires
unreachable-requires g c = c.in_default.ensures.cases.0 (name_utf8 c.args.name.now c.requires)
