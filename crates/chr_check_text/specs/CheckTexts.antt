-- From the bytes of three texts to the line of an answer.
use Rattle.std.specs.Prelude.{◌≡◌, ◌≢◌, ℕ, ◌↔◌, List, [], Result, Ok, Err, IsOk}
use Rattle.chr_log.specs.Events.{Event, labelled_atoms}
use Rattle.chr_log.specs.declared.events.Version.{Version}
use Rattle.chr_log_text.specs.Texts.{IsStoreText, HasLogFault, HasStoreFault, LogOf}
use Rattle.chr_log_text.specs.declared.fault.TextFault.TheVariants.{NoMemory}
use Rattle.chr_model.specs.Abstract.{Rules}
use Rattle.chr_model.specs.Stores.{Store}
use Rattle.chr_model.specs.Programs.{Instances}
use Rattle.chr_text.specs.Reading.{program_of, RulesOf}
use Rattle.chr_check.specs.declared.checking.Verdict.{Verdict}
use Rattle.chr_check.specs.declared.checking.Verdict.TheVariants.{RunAndFinal}
use Rattle.chr_check.specs.declared.fault.CheckFault.{CheckFault}
use Rattle.chr_check.specs.declared.fault.CheckError.{CheckError}
use Rattle.chr_check.specs.declared.fault.CheckError.TheVariants.{NotARun}
use Rattle.chr_check.specs.Faults.{IsFirstFault, IsRun, IsFinalRun}
use Rattle.chr_check_text.specs.declared.checked.Checked.{Checked}
use Rattle.chr_check_text.specs.declared.checked.CheckTextFault.{CheckTextFault}
use Rattle.chr_check_text.specs.declared.checked.CheckTextFault.TheVariants as faults
use Rattle.chr_check_text.specs.Output.{answer_line}

-- what a check says that had memory
abbrev pub check_of : Result Verdict CheckFault → Result Verdict CheckError
check_of (Ok verdict) = Ok verdict
check_of (Err fault) = Err (NotARun fault)

-- What is answered of a log and a store: that the log is a run that ends in the store, exactly
-- where it is one; that this run is final, exactly where it is; and a fault exactly where it is the
-- first one.
pub record IsAnswer (v : Version) (I : Rules) (log : List (Event ℕ)) (store : Store)
    (answer : Result Verdict CheckFault) : Type 0 where
  pub run : IsOk answer ↔ IsRun v I log store
  pub final_run : (answer ≡ Ok RunAndFinal) ↔ IsFinalRun v I log store
  pub fault : (f : CheckFault) → ((answer ≡ Err f) ↔ IsFirstFault v I log store f)

-- the answer, and the line that tells it
pub record IsTold {Z : Type 0} (v : Version) (I : Rules) (log : List (Event ℕ)) (store : Store)
    (made : Checked Z) : Type 0 where
  pub answer : IsAnswer v I log store made.answer
  pub line : made.line.items ≡ answer_line made.answer

-- a text of a store, whose names are entered into that table: the labels with their atoms, and the
-- table of all names
pub record StoreOf (table : List (List ℕ)) (text : List ℕ) : Type 0 where
  pub entries : Store
  pub names : List (List ℕ)
  pub reads : IsStoreText table text (labelled_atoms entries) names

-- all three texts are read, and this is what the log and the store are by the rules
pub record IsChecked {Z : Type 0} (program log store : List ℕ) (made : Checked Z) : Type 0 where
  pub read : RulesOf program
  pub logged : LogOf read.table log
  pub stored : StoreOf logged.names store
  pub told : IsTold logged.version (Instances read.rules) logged.events stored.entries made

-- the first text that has a fault has this one
abbrev pub IsUnread : List ℕ → List ℕ → List ℕ → CheckTextFault → Type 0
IsUnread program log store (faults.Program fault) = program_of [] program ≡ Err fault
IsUnread program log store (faults.Log fault) =
    (fault ≢ NoMemory) × (read : RulesOf program) × HasLogFault read.table log fault
IsUnread program log store (faults.Store fault) =
    (fault ≢ NoMemory) × (read : RulesOf program) × (logged : LogOf read.table log) ×
    HasStoreFault logged.names store fault
IsUnread program log store faults.Memory = Unit {0}

-- The check of three texts. They are read with one table of names, first the rules, then the log,
-- then the store.
abbrev pub IsCheckText : {Z : Type 0} → List ℕ → List ℕ → List ℕ →
    Result (Checked Z) CheckTextFault → Type 0
IsCheckText program log store (Ok made) = IsChecked program log store made
IsCheckText program log store (Err fault) = IsUnread program log store fault
