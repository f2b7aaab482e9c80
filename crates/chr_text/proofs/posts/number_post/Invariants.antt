use Rattle.std.proofs.Common.{◌≡◌, length, drop, map}
use Rattle.chr_grammar.specs.Views as by_texts
use Rattle.chr_value.specs.Naming.{number_terms, number_more, numbered_atom}
use Rattle.chr_text.specs.Translation.{value, atom_by_texts}
use Rattle.chr_text.specs.Tables.{Table, Keeps}
use Rattle.chr_text.proofs.posts.number_post.Given as goal

abbrev pub invariant-loop-term : goal.invariant-loop-term
invariant-loop-term g l = record {
  gives : number_more l.atom.name l.atom.args (number_terms l.names (map value (map by_texts.term (drop l.term-index l.phrase.args.items)))) ≡ numbered_atom l.fn.names (atom_by_texts (by_texts.phrase l.phrase));
  few : length l.atom.args ≡ l.term-index;
  keeps : (t : Table) → Keeps t l.fn.names → Keeps t l.names;
}
