-- The line that tells what a check answered.
use Rattle.std.specs.Prelude.{ℕ, List, [], ◌∷◌, ◌++◌, codes, Result, Ok, Err}
use Rattle.std.specs.Fmt.{decimal}
use Rattle.chr_check.specs.declared.checking.Verdict.{Verdict}
use Rattle.chr_check.specs.declared.checking.Verdict.TheVariants.{Run, RunAndFinal}
use Rattle.chr_check.specs.declared.fault.Place.{Place}
use Rattle.chr_check.specs.declared.fault.Place.TheVariants.{Log, Store}
use Rattle.chr_check.specs.declared.fault.Kind.{Kind}
use Rattle.chr_check.specs.declared.fault.Kind.TheVariants.{BadTicket, BadLabel, NoInstance, StillApplies, StoreDiffers}
use Rattle.chr_check.specs.declared.fault.CheckFault.{CheckFault}

abbrev pub place_word : Place → List ℕ
place_word Log = codes "log"
place_word Store = codes "store"

abbrev pub kind_word : Kind → List ℕ
kind_word BadTicket = codes "BadTicket"
kind_word BadLabel = codes "BadLabel"
kind_word NoInstance = codes "NoInstance"
kind_word StillApplies = codes "StillApplies"
kind_word StoreDiffers = codes "StoreDiffers"

-- the text, the line and the kind of a fault
abbrev pub fault_line : CheckFault → List ℕ
fault_line f =
    codes "refused E16 " ++
    (place_word f.place ++ (32 ∷ decimal f.line ++ (32 ∷ kind_word f.kind ++ 10 ∷ [])))

abbrev pub answer_line : Result Verdict CheckFault → List ℕ
answer_line (Ok RunAndFinal) = codes "run final\n"
answer_line (Ok Run) = codes "run\n"
answer_line (Err f) = fault_line f
