use Rattle.indexmap.proofs.SetLemmas.{keys_insert_entry}
use Rattle.std.proofs.Common.{ap, ◌∙◌}
use Rattle.std.specs.Map.{keys_of}
use Rattle.chr_value.proofs.Texts.{entered, same}
use Rattle.chr_value.proofs.names.Names.copy.Goals as goal

pub loop-key-preserved : goal.loop-key-preserved
loop-key-preserved g c = entered c.as_slice-keys.result.now _ _ c.loop-key.key-index c.key-item.result (rw (c.as_slice-keys.ensures, c.keys.ensures.rest) c.keys.ensures.unique) c.loop-key-test.true c.key-item.is (ap keys_of c.in_ok-insert.ensures.entries ∙ keys_insert_entry same c.loop-key.map.entries c.key-item.result tt) c.loop-key.invariant
