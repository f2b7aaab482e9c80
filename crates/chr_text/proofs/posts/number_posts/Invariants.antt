use Rattle.std.proofs.Common.{◌≡◌, drop, map}
use Rattle.chr_grammar.specs.Views as by_texts
use Rattle.chr_value.specs.Naming.{numbered_atom}
use Rattle.chr_text.specs.Numbering.{each, more}
use Rattle.chr_text.specs.Translation.{atom_by_texts}
use Rattle.chr_text.specs.Tables.{Table, Keeps}
use Rattle.chr_text.proofs.posts.number_posts.Given as goal

abbrev pub invariant-loop-phrase : goal.invariant-loop-phrase
invariant-loop-phrase g l = record {
  gives : more l.atoms.items (each numbered_atom l.names (map atom_by_texts (map by_texts.phrase (drop l.phrase-index l.phrases)))) ≡ more l.fn.atoms.items (each numbered_atom l.fn.names (map atom_by_texts (map by_texts.phrase l.phrases)));
  keeps : (t : Table) → Keeps t l.fn.names → Keeps t l.names;
}
