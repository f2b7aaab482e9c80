use Rattle.std.proofs.Common.{◌≡◌, ◌++◌, take, drop}
use Rattle.chr_session.specs.Parsing.{word_of, rest_of}
use Rattle.chr_session.proofs.parsing.split_word.Given as goal

abbrev pub invariant-loop-i : goal.invariant-loop-i
invariant-loop-i l = record {
  word : word_of l.text ≡ take l.i l.text ++ word_of (drop l.i l.text);
  rest : rest_of l.text ≡ rest_of (drop l.i l.text);
}
