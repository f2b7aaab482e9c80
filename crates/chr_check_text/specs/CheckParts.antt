-- From the bytes of the texts, where the log comes in parts, to the line of an answer.
use Rattle.std.specs.Prelude.{◌≡◌, ◌≢◌, ℕ, List, [], Result, Ok, Err}
use Rattle.chr_log.specs.Events.{Event}
use Rattle.chr_log.specs.declared.events.Version.{Version}
use Rattle.chr_log_text.specs.Texts.{HasStoreFault}
use Rattle.chr_log_text.specs.Parts.{IsLogInParts, HasLogPartFault}
use Rattle.chr_log_text.specs.declared.fault.PartFault.{PartFault}
use Rattle.chr_log_text.specs.declared.fault.TextFault.{TextFault}
use Rattle.chr_log_text.specs.declared.fault.TextFault.TheVariants.{NoMemory}
use Rattle.chr_model.specs.Programs.{Instances}
use Rattle.chr_text.specs.Reading.{program_of, RulesOf}
use Rattle.chr_check_text.specs.CheckTexts.{StoreOf, IsTold}
use Rattle.chr_check_text.specs.declared.checked.Checked.{Checked}
use Rattle.chr_check_text.specs.declared.checked.CheckPartsFault.{CheckPartsFault}
use Rattle.chr_check_text.specs.declared.checked.CheckPartsFault.TheVariants as faults
use Rattle.chr_check_text.specs.declared.checked.CheckTextFault.{CheckTextFault}
use Rattle.chr_check_text.specs.declared.checked.CheckTextFault.TheVariants as whole

-- a log in parts, whose names are entered into that table: the version of its header, the events of
-- all parts, and the table of the names so far
pub record LogPartsOf (table : List (List ℕ)) (first : List ℕ) (more : List (List ℕ)) : Type 0 where
  pub version : Version
  pub events : List (Event ℕ)
  pub names : List (List ℕ)
  pub reads : IsLogInParts table first more version events names

-- the fault of a log in parts, and of a text of a store, which is never want of memory
abbrev pub fault_of : PartFault → TextFault → CheckPartsFault
fault_of part NoMemory = faults.Memory
fault_of part fault = faults.Log part

abbrev pub log_fault : PartFault → CheckPartsFault
log_fault part = fault_of part part.fault

abbrev pub store_fault : TextFault → CheckPartsFault
store_fault NoMemory = faults.Memory
store_fault fault = faults.Store fault

-- the same fault where the log is one text
abbrev pub whole_fault : CheckPartsFault → CheckTextFault
whole_fault (faults.Program fault) = whole.Program fault
whole_fault (faults.Log part) = whole.Log part.fault
whole_fault (faults.Store fault) = whole.Store fault
whole_fault faults.Memory = whole.Memory

-- all texts are read, and this is what the one log and the store are by the rules
pub record IsPartsChecked {Z : Type 0} (program first : List ℕ) (more : List (List ℕ))
    (store : List ℕ) (made : Checked Z) : Type 0 where
  pub read : RulesOf program
  pub logged : LogPartsOf read.table first more
  pub stored : StoreOf logged.names store
  pub told : IsTold logged.version (Instances read.rules) logged.events stored.entries made

-- the first text that has a fault has this one
abbrev pub IsPartsUnread : List ℕ → List ℕ → List (List ℕ) → List ℕ → CheckPartsFault → Type 0
IsPartsUnread program first more store (faults.Program fault) = program_of [] program ≡ Err fault
IsPartsUnread program first more store (faults.Log part) =
    (part.fault ≢ NoMemory) × (read : RulesOf program) ×
    HasLogPartFault read.table first more part.part part.fault
IsPartsUnread program first more store (faults.Store fault) =
    (fault ≢ NoMemory) × (read : RulesOf program) × (logged : LogPartsOf read.table first more) ×
    HasStoreFault logged.names store fault
IsPartsUnread program first more store faults.Memory = Unit {0}

-- The check of texts of which the log comes in parts. They are read with one table of names, first
-- the rules, then the parts of the log in order, then the store; and what is checked is the one log
-- that the parts make.
abbrev pub IsCheckParts : {Z : Type 0} → List ℕ → List ℕ → List (List ℕ) → List ℕ →
    Result (Checked Z) CheckPartsFault → Type 0
IsCheckParts program first more store (Ok made) = IsPartsChecked program first more store made
IsCheckParts program first more store (Err fault) = IsPartsUnread program first more store fault
