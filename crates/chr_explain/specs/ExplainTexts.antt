-- From the bytes of a text of rules and of a text of a log to the bytes of an explanation.
use Rattle.std.specs.Prelude.{◌≡◌, ◌≢◌, ℕ, List, [], Result, Ok, Err, Option, Some, None}
use Rattle.chr_rule.specs.Rules.{Simpagation}
use Rattle.chr_log.specs.Events.{Event}
use Rattle.chr_log.specs.declared.events.Version.{Version}
use Rattle.chr_log_text.specs.Texts.{HasLogFault, LogOf}
use Rattle.chr_log_text.specs.declared.fault.TextFault.TheVariants.{NoMemory}
use Rattle.chr_model.specs.Abstract.{Rules}
use Rattle.chr_model.specs.Goals.{State}
use Rattle.chr_model.specs.Logs.{Lawful}
use Rattle.chr_model.specs.Programs.{Instances}
use Rattle.chr_text.specs.Reading.{program_of, RulesOf}
use Rattle.chr_check.specs.declared.fault.Place.{Place}
use Rattle.chr_check.specs.declared.fault.Place.TheVariants.{Log, Store}
use Rattle.chr_check.specs.declared.fault.CheckFault.{CheckFault}
use Rattle.chr_check.specs.Faults.{IsLogFault}
use Rattle.chr_causes.specs.Origins.{Gives}
use Rattle.chr_explain.specs.declared.explanation.Question.{Question}
use Rattle.chr_explain.specs.Headings.{headings_of}
use Rattle.chr_explain.specs.Explanations.{IsExplanation}
use Rattle.chr_explain.specs.declared.text.ExplainFault.{ExplainFault}
use Rattle.chr_explain.specs.declared.text.ExplainFault.TheVariants as faults

-- a log's first fault, or none where it is lawful
abbrev pub IsLogAnswer : Version → Rules → List (Event ℕ) → Option CheckFault → Type 0
IsLogAnswer v I log (Some fault) = (fault.place ≡ Log) × IsLogFault v I log fault.line fault.kind
IsLogAnswer v I log None = (last : State) × Lawful v I log last

abbrev pub at_log : Place → CheckFault → Option CheckFault
at_log Log fault = Some fault
at_log Store fault = None

-- a fault, if it is one of the log
abbrev pub fault_of_log : CheckFault → Option CheckFault
fault_of_log fault = at_log fault.place fault

-- what is explained of a log by the rules, whose text this is
abbrev pub IsAnswer : List ℕ → List (Simpagation ℕ) → List (List ℕ) → Version → List (Event ℕ) →
    Question → Result (List ℕ) ExplainFault → Type 0
IsAnswer program rules names v log question (Ok out) =
    ((last : State) × Lawful v (Instances rules) log last) ×
    IsExplanation rules (record { names = names; headings = headings_of program; log = log })
    question out
IsAnswer program rules names v log question (Err (faults.Program fault)) = ⊥
IsAnswer program rules names v log question (Err (faults.Log fault)) = ⊥
IsAnswer program rules names v log question (Err (faults.Refused fault)) =
    IsLogAnswer v (Instances rules) log (Some fault)
IsAnswer program rules names v log question (Err faults.NotGiven) =
    ((last : State) × Lawful v (Instances rules) log last) × (Gives log question.label → ⊥)
IsAnswer program rules names v log question (Err faults.Memory) = Unit {0}

-- both texts are read, with one table of names, and this is what is answered of the log
pub record IsRead (program log : List ℕ) (question : Question)
    (answer : Result (List ℕ) ExplainFault) : Type 0 where
  pub read : RulesOf program
  pub logged : LogOf read.table log
  pub answered : IsAnswer program read.rules logged.names logged.version logged.events question
      answer

-- The explanation of a label of a log, by the bytes of a text of rules and of a text of the log.
-- Where a text can't be read, the fault of the first such text is told.
abbrev pub IsExplainText : List ℕ → List ℕ → Question → Result (List ℕ) ExplainFault → Type 0
IsExplainText program log question (Ok out) = IsRead program log question (Ok out)
IsExplainText program log question (Err (faults.Program fault)) = program_of [] program ≡ Err fault
IsExplainText program log question (Err (faults.Log fault)) =
    (fault ≢ NoMemory) × (read : RulesOf program) × HasLogFault read.table log fault
IsExplainText program log question (Err (faults.Refused fault)) =
    IsRead program log question (Err (faults.Refused fault))
IsExplainText program log question (Err faults.NotGiven) =
    IsRead program log question (Err faults.NotGiven)
IsExplainText program log question (Err faults.Memory) = Unit {0}

-- the bytes of an answer of the code
abbrev pub bytes_of : {A B : Type 0} → (A → B) → {E : Type 0} → Result A E → Result B E
bytes_of f (Ok out) = Ok (f out)
bytes_of f (Err e) = Err e
