-- How the parts of a rule are numbered.
use Rattle.std.specs.Prelude.{Option}
use Rattle.chr_value.specs.Naming.{Table}
use Rattle.chr_text.specs.Variables.{Seen}

-- What a part of the code says, and what fits. What it stands for by the texts of its names, or
-- nothing; and the same by their numbers, over a table of names, as the code has it.
pub record Way (Part Code : Type 0) : Type 1 where
  pub Said : Type 0
  pub Raw : Type 0
  pub Made : Type 0
  pub said : Part → Said
  pub fits : Said → Type 0
  pub raw : Seen → Said → Option Raw × Seen
  pub numbered : Table → Raw → Option (Made × Table)
  pub made : Code → Made

abbrev pub way : {Part Code Said Raw Made : Type 0} → (Part → Said) → (Said → Type 0)
    → (Seen → Said → Option Raw × Seen) → (Table → Raw → Option (Made × Table)) → (Code → Made) →
    Way Part Code
way {Said = Said} {Raw = Raw} {Made = Made} said fits raw numbered made = record {
  Said = Said;
  Raw = Raw;
  Made = Made;
  said = said;
  fits = fits;
  raw = raw;
  numbered = numbered;
  made = made;
}
