use Rattle.std.proofs.Common.{◌≡◌, map, take}
use Rattle.chr_commands.specs.Parts.{CountFrom}
use Rattle.chr_commands.proofs.Counting.{counted_all}
use Rattle.chr_commands.proofs.parts.sources.Given as goal

abbrev pub invariant-loop-i : goal.invariant-loop-i
invariant-loop-i l = record {
  kinds : map (λ source. source.text) l.sources.items ≡ map (λ path. path.0) (take l.i l.paths);
  bytes : map (λ source. source.bytes.now) l.sources.items ≡
      map (λ file. file.items) (take l.i l.files);
  counts : CountFrom 0 l.sources.items;
  before : l.before ≡ counted_all 0 l.sources.items;
}
