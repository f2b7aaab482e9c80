-- What a search looks through, as contracts see it.
use Rattle.std.specs.Prelude.{ℕ}
use Rattle.chr_plan.specs.Plans.{ArePlans}
use Rattle.chr_search.specs.Trials.{Space, older}
use Rattle.chr_sheet.specs.declared.setting.Setting.{Setting as CodeSetting}

-- for an active label
abbrev pub space_in : {Z : Type 0} → CodeSetting Z → ℕ → Space
space_in s label = older s.program.now s.plans.now s.store.now.entries label

-- the plans are the program's
abbrev pub HasPlans : {Z : Type 0} → CodeSetting Z → Type 0
HasPlans s = ArePlans s.program.now s.plans.now
