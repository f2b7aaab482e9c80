use Rattle.std.proofs.Common.{◌≡◌, ◌++◌, map}
use Rattle.chr_store.specs.Table.{shown}
use Rattle.chr_store.specs.KeyLabels.{IsIndexOf}
use Rattle.chr_store.proofs.store.Store.copy.Given as goal

-- the atoms so far are in the index, and come before those that are left
abbrev pub invariant-loop-label : goal.invariant-loop-label
invariant-loop-label g l = record {
  whole : map shown l.yielded ++ l.label-iterator ≡ l.self-inside.atoms.entries;
  index : IsIndexOf l.self-inside.buckets.places (map shown l.yielded) l.buckets;
  places : l.buckets.places ≡ l.self-inside.buckets.places;
}
