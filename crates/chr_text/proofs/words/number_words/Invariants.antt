use Rattle.std.proofs.Common.{◌≡◌, length, drop, map}
use Rattle.chr_grammar.specs.Views.{node}
use Rattle.chr_limits.specs.Views.{names as texts}
use Rattle.chr_text.specs.Numbering.{each, more, numbered_word}
use Rattle.chr_text.specs.Translation as raw
use Rattle.chr_text.specs.Variables.{in_turn}
use Rattle.chr_text.specs.Words.{placed_word}
use Rattle.chr_text.specs.Tables.{Table, Keeps}
use Rattle.chr_text.proofs.words.number_words.Given as goal

abbrev pub invariant-loop-node : goal.invariant-loop-node
invariant-loop-node g l = record {
  gives : more (map placed_word l.words.items) (each numbered_word l.names (in_turn raw.placed_word (texts l.seen.items) (map node (drop l.node-index l.nodes))).0) ≡ each numbered_word l.fn.names (in_turn raw.placed_word (texts l.fn.seen.items) (map node l.nodes)).0;
  seen : (in_turn raw.placed_word (texts l.seen.items) (map node (drop l.node-index l.nodes))).1 ≡ (in_turn raw.placed_word (texts l.fn.seen.items) (map node l.nodes)).1;
  few : length l.words.items ≡ l.node-index;
  keeps : (t : Table) → Keeps t l.fn.names → Keeps t l.names;
}
