-- What the status of a check, an explanation and a picture says.
use Rattle.std.specs.Prelude.{◌≡◌, ◌≢◌, ℕ, List, [], ◌∷◌, ◌⊎◌, Result, Ok, Err, Vec}
use Rattle.std.specs.declared.alloc.Global.{Global}
use Rattle.chr_check.specs.Faults.{IsFirstFault, IsRun}
use Rattle.chr_check.specs.declared.fault.CheckFault.{CheckFault}
use Rattle.chr_check_text.specs.CheckTexts.{StoreOf}
use Rattle.chr_check_text.specs.CheckParts.{LogPartsOf, IsPartsUnread}
use Rattle.chr_check_text.specs.declared.checked.CheckPartsFault.{CheckPartsFault}
use Rattle.chr_check_text.specs.declared.checked.CheckPartsFault.TheVariants as parts
use Rattle.chr_explain.specs.ExplainTexts.{IsExplainText}
use Rattle.chr_explain.specs.declared.text.ExplainFault.{ExplainFault}
use Rattle.chr_explain.specs.declared.text.ExplainFault.TheVariants as explain
use Rattle.chr_explain.specs.declared.explanation.Question.{Question}
use Rattle.chr_model.specs.Programs.{Instances}
use Rattle.chr_picture.specs.Texts.{IsDrawText}
use Rattle.chr_picture.specs.declared.text.PictureFault.{PictureFault}
use Rattle.chr_picture.specs.declared.text.PictureFault.TheVariants as picture
use Rattle.chr_picture.specs.declared.text.Range.{Range}
use Rattle.chr_text.specs.Reading.{RulesOf}

-- the texts of a check: the rules, the parts of the log, and the store, which are read with one table
pub record ReadTexts (program first : List ℕ) (more : List (List ℕ)) (store : List ℕ) :
    Type 0 where
  pub read : RulesOf program
  pub logged : LogPartsOf read.table first more
  pub stored : StoreOf logged.names store

-- the log is that of a run of the rules which ends in the store
abbrev pub IsLawful : List ℕ → List (List ℕ) → List ℕ → Type 0
IsLawful program [] store = ⊥
IsLawful program (first ∷ more) store =
    (t : ReadTexts program first more store) ×
    IsRun t.logged.version (Instances t.read.rules) t.logged.events t.stored.entries

-- a text has a fault, or the log is none of a run that ends in the store
abbrev pub IsRefused : List ℕ → List (List ℕ) → List ℕ → Type 0
IsRefused program [] store = ⊥
IsRefused program (first ∷ more) store =
    ((fault : CheckPartsFault) × (fault ≢ parts.Memory) ×
    IsPartsUnread program first more store fault) ⊎
    ((t : ReadTexts program first more store) × (fault : CheckFault) ×
    IsFirstFault t.logged.version (Instances t.read.rules) t.logged.events t.stored.entries fault)

-- the explanation that is asked for, or a fault for which there is none
abbrev pub IsExplained : List ℕ → List ℕ → Question → Type 0
IsExplained program log question = (out : List ℕ) × IsExplainText program log question (Ok out)

abbrev pub IsUnexplained : List ℕ → List ℕ → Question → Type 0
IsUnexplained program log question =
    (fault : ExplainFault) × (fault ≢ explain.Memory) ×
    IsExplainText program log question (Err fault)

-- the picture that is asked for, or a fault for which there is none
abbrev pub IsDrawn : List ℕ → List ℕ → Range → Type 0
IsDrawn program log range = (out : Vec ℕ Global) × IsDrawText program log range (Ok out)

abbrev pub IsUndrawn : List ℕ → List ℕ → Range → Type 0
IsUndrawn program log range =
    (fault : PictureFault) × (fault ≢ picture.Memory) ×
    IsDrawText {Z = Global} program log range (Err fault)
