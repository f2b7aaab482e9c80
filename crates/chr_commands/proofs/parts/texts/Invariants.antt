use Rattle.std.proofs.Common.{◌≡◌, map, take}
use Rattle.chr_commands.proofs.parts.texts.Given as goal

abbrev pub invariant-loop-source : goal.invariant-loop-source
invariant-loop-source l =
    map (λ text. text.now) l.texts.items ≡
    map (λ source. source.bytes.now) (take l.source-index l.sources)
