-- The makers of goals, by their tickets: that of ticket t is at place t - 1.
use Rattle.std.specs.Prelude.{◌≡◌, ℕ, ◌+◌, ◌<◌, ◌⊎◌, List, length, Some, slice_get}
use Rattle.chr_causes.specs.declared.origins.Maker.{Maker}

-- the maker is that of the entry at a place, after so many others
pub record IsNew (made count before place : ℕ) (maker : Maker) : Type 0 where
  pub made_is : maker.made ≡ made
  pub within : maker.nth < count
  pub place_is : place ≡ before + maker.nth

-- one entry has made so many goals more
pub record HasMade (made count : ℕ) (old new : List Maker) : Type 0 where
  pub places : length new ≡ length old + count
  pub each : (k : ℕ) (maker : Maker) → slice_get new k ≡ Some maker →
      (slice_get old k ≡ Some maker) ⊎ IsNew made count (length old) k maker
