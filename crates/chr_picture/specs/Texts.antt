-- From the bytes of two texts to the bytes of a picture.
use Rattle.std.specs.Prelude.{◌≡◌, ◌≢◌, ℕ, ◌-◌, ◌<◌, min, List, [], length, Result, Ok, Err, Vec}
use Rattle.chr_log.specs.Events.{Event}
use Rattle.chr_log.specs.declared.events.Version.{Version}
use Rattle.chr_log_text.specs.Texts.{HasLogFault, LogOf}
use Rattle.chr_log_text.specs.declared.fault.TextFault.TheVariants.{NoMemory}
use Rattle.chr_model.specs.Abstract.{Rules}
use Rattle.chr_model.specs.Goals.{State}
use Rattle.chr_model.specs.Logs.{Lawful}
use Rattle.chr_model.specs.Programs.{Instances}
use Rattle.chr_text.specs.Reading.{program_of, RulesOf}
use Rattle.chr_check.specs.Faults.{IsLogFault}
use Rattle.chr_check.specs.declared.fault.Place.TheVariants.{Log as InLog}
use Rattle.chr_picture.specs.declared.picture.Picture.{Picture}
use Rattle.chr_picture.specs.declared.text.Range.{Range}
use Rattle.chr_picture.specs.declared.text.PictureFault.{PictureFault}
use Rattle.chr_picture.specs.declared.text.PictureFault.TheVariants as faults
use Rattle.chr_picture.specs.Layouts.{most_rows}
use Rattle.chr_picture.specs.Svg.{picture_text}
use Rattle.chr_picture.specs.Parts.{IsPicture}

-- how many entries of a log a range has drawn: as far as the log goes, and at most 2,000
abbrev pub drawn : Range → ℕ → ℕ
drawn range len = min (min range.to len - (range.from - 1)) 2000

-- the picture of the range
abbrev pub IsOfRange : {Z : Type 0} → Version → Rules → List (Event ℕ) → Range → Picture Z → Type 0
IsOfRange v I log range picture =
    IsPicture v I log (range.from - 1) (drawn range (length log)) picture

-- what is drawn of a log, or why nothing is
abbrev pub IsDrawn : {Z : Type 0} → Version → Rules → List (Event ℕ) → List (List ℕ) → Range →
    Result (Vec ℕ Z) PictureFault → Type 0
IsDrawn {Z} v I log table range (Ok text) =
    (picture : Picture Z) × IsOfRange v I log range picture × (0 < drawn range (length log)) ×
    (text.items ≡ picture_text table picture)
IsDrawn v I log table range (Err (faults.Refused f)) =
    (f.place ≡ InLog) × IsLogFault v I log f.line f.kind
IsDrawn v I log table range (Err (faults.NoEntry n)) =
    (n ≡ length log) × (drawn range (length log) ≡ 0) × (last : State) × Lawful v I log last
IsDrawn {Z} v I log table range (Err faults.TooManyRows) =
    (picture : Picture Z) × IsOfRange v I log range picture ×
    (most_rows < length picture.rows.items)
IsDrawn v I log table range (Err faults.Memory) = Unit {0}
IsDrawn v I log table range (Err other) = ⊥

-- What is drawn of two texts, which are read with one table of names, or why nothing is: the fault
-- of the first that can't be read, or that of the log by the rules.
abbrev pub IsDrawText : {Z : Type 0} → List ℕ → List ℕ → Range → Result (Vec ℕ Z) PictureFault →
    Type 0
IsDrawText program log range (Err (faults.Program f)) = program_of [] program ≡ Err f
IsDrawText program log range (Err (faults.Log f)) =
    (f ≢ NoMemory) × (read : RulesOf program) × HasLogFault read.table log f
IsDrawText program log range (Err faults.Memory) = Unit {0}
IsDrawText program log range result =
    (read : RulesOf program) × (logged : LogOf read.table log) ×
    IsDrawn logged.version (Instances read.rules) logged.events logged.names range result
