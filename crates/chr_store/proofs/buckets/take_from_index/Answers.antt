use Rattle.std.proofs.Common.{refl, arith}
use Rattle.chr_index.specs.Buckets.{drop_number}
use Rattle.chr_store.proofs.Keeping.{index_put, index_past_taken}
use Rattle.chr_store.proofs.buckets.take_from_index.Goals as goal

pub returns-then-number-len : goal.returns-then-number-len
returns-then-number-len g c =
    index_put (drop_number c.args.label) c.args.indexes.now.items c.args.number _ c.take.new.self c.args.key.now.value c.in_index.result c.in_index.ensures.key (omega (arith, c.if-number-len.true, c.len.ensures, c.args.indexes.now.ok.0)) c.in_index.ensures.word (rw c.index_mut.ensures.value at c.take.ensures)

pub returns-else-number-len : goal.returns-else-number-len
returns-else-number-len g c = index_past_taken (drop_number c.args.label) c.args.indexes.now.items c.args.number c.args.key.now.value refl (omega (arith, c.if-number-len.false, c.len.ensures, c.args.indexes.now.ok.0))
