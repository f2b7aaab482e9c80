use Rattle.std.proofs.Common.{List, ap, ◌∙◌}
use Rattle.chr_index.specs.Indexed.{Indexed}
use Rattle.chr_store.specs.KeyLabels.{index_at}
use Rattle.chr_store.proofs.Keeping.{index_pushed}
use Rattle.chr_store.proofs.buckets.make_index.Goals as goal

pub loop-alloc-preserved : goal.loop-alloc-preserved
loop-alloc-preserved g c = λ n v. ap (λ (is : List Indexed). index_at is n v) c.in_ok-push.ensures.items ∙ index_pushed c.loop-alloc.indexes.items c.new.result n v c.new.ensures ∙ c.loop-alloc.invariant n v
