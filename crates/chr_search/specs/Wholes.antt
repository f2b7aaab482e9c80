-- What is whole.
use Rattle.std.specs.Prelude.{ℕ, List}
use Rattle.chr_search.specs.Reach.{SearchState}

-- a trial that is whole: its labels at the kept and at the removed heads, in head order, the search
-- past it, and the number of its rule
pub record WholeTrial : Type 0 where
  pub kept : List ℕ
  pub removed : List ℕ
  pub past : SearchState
  pub number : ℕ
