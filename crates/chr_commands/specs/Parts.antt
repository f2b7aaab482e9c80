-- The parts of a log.
use Rattle.std.specs.Prelude.{◌≡◌, ℕ, ◌+◌, ◌-◌, ◌^◌, ◌<◌, ◌≤◌, ◌⊎◌, min, nat_eq, List, [], ◌∷◌, ◌++◌, All, Option, Some, None, count_by}
use Rattle.std.specs.Option.{unwrap_or}
use Rattle.chr_commands.specs.declared.message.Source.{Source}
use Rattle.chr_commands.specs.declared.message.Text.{Text}
use Rattle.chr_commands.specs.declared.message.Text.TheVariants as texts

-- how many lines end in some bytes: each LF ends one
abbrev pub line_ends : List ℕ → ℕ
line_ends bytes = count_by (λ b. nat_eq b 10) bytes

-- how many lines are counted before those of a text
abbrev pub lines_before : Source → ℕ
lines_before source = unwrap_or source.part 0

-- The part of a log that has the line of a number: the last one with fewer lines before it, or the
-- first where there is none.
pub record HasLine (log : List Source) (line : ℕ) (part : Source) : Type 0 where
  pub earlier : List Source
  pub later : List Source
  pub among : log ≡ earlier ++ part ∷ later
  pub reached : (earlier ≡ []) ⊎ (lines_before part < line)
  pub last : All (λ source. line ≤ lines_before source) later

abbrev pub IsPartWith : List Source → ℕ → Option Source → Type 0
IsPartWith log line (Some part) = HasLine log line part
IsPartWith log line None = log ≡ []

-- the lines counted before what comes after a text: only a log's lines count
abbrev pub counted_after : ℕ → Text → List ℕ → ℕ
counted_after before texts.Log bytes = min (before + line_ends bytes) (2 ^ 64 - 1)
counted_after before other bytes = before

-- each text is the only one of its kind, or has the lines of the logs before it counted
abbrev pub CountFrom : ℕ → List Source → Type 0
CountFrom before [] = Unit {0}
CountFrom before (source ∷ more) =
    ((source.part ≡ None) ⊎ (source.part ≡ Some before)) ×
    CountFrom (counted_after before source.text source.bytes.now) more
