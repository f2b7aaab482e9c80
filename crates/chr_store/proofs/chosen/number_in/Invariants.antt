use Rattle.std.proofs.Common.{◌≡◌, drop}
use Rattle.std.specs.List.{position_from}
use Rattle.chr_store.specs.Index.{is_place}
use Rattle.chr_store.proofs.chosen.number_in.Given as goal

-- the place is looked for among the rest
abbrev pub invariant-loop-number : goal.invariant-loop-number
invariant-loop-number l = position_from (is_place l.pred l.place) l.number (drop l.number l.places) ≡ position_from (is_place l.pred l.place) 0 l.places
