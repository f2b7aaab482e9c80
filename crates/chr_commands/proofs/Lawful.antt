-- What a check of texts says of the sources that have them.
use Rattle.std.proofs.Common.{◌≡◌, ◌≢◌, ℕ, ◌-◌, ◌≤◌, Bor, List, [], ◌∷◌, map, length, get_or, take, drop, inl, inr, Result, Ok, Err, refl, subst, ap, ◌∙◌, take_all, arith}
use Rattle.std.proofs.lemmas.Bool.{false≢true}
use Rattle.std.specs.Prelude.{IsOk, IsErr}
use Rattle.chr_check.specs.declared.checking.Verdict.{Verdict}
use Rattle.chr_check.specs.declared.fault.CheckFault.{CheckFault}
use Rattle.chr_check_text.specs.CheckParts.{IsPartsChecked, IsPartsUnread, IsCheckParts}
use Rattle.chr_check_text.specs.declared.checked.Checked.{Checked}
use Rattle.chr_check_text.specs.declared.checked.CheckPartsFault.{CheckPartsFault}
use Rattle.chr_check_text.specs.declared.checked.CheckPartsFault.TheVariants as parts
use Rattle.chr_commands.specs.Checks.{IsLawful, IsRefused}

-- the log in these parts is lawful, where the check answers that it is a run
pub lawful_with : {Z : Type 0} (program first : List ℕ) (more log : List (List ℕ)) (store : List ℕ)
    (made : Checked Z) → first ∷ more ≡ log → IsOk made.answer →
    IsPartsChecked program first more store made → IsLawful program log store
lawful_with program first more log store made same ok checked =
    subst (λ l. IsLawful program l store) same (
      record { read = checked.read; logged = checked.logged; stored = checked.stored },
      checked.told.answer.run.0 ok,
    )

fault_in : (answer : Result Verdict CheckFault) → IsErr answer → (f : CheckFault) × (answer ≡ Err f)
fault_in (Ok verdict) h = absurd (false≢true h)
fault_in (Err f) h = (f, refl)

pub refused_with : {Z : Type 0} (program first : List ℕ) (more log : List (List ℕ)) (store : List ℕ)
    (made : Checked Z) → first ∷ more ≡ log → IsErr made.answer →
    IsPartsChecked program first more store made → IsRefused program log store
refused_with program first more log store made same err checked =
    let found = fault_in made.answer err in
    subst (λ l. IsRefused program l store) same
    (inr (
      record { read = checked.read; logged = checked.logged; stored = checked.stored },
      found.0,
      (checked.told.answer.fault found.0).0 found.1,
    ))

pub unread_with : (program first : List ℕ) (more log : List (List ℕ)) (store : List ℕ)
    (fault : CheckPartsFault) → first ∷ more ≡ log → fault ≢ parts.Memory →
    IsPartsUnread program first more store fault → IsRefused program log store
unread_with program first more log store fault same real unread =
    subst (λ l. IsRefused program l store) same (inl (fault, real, unread))

read_all : (f : Bor (List ℕ) → List ℕ) (xs : List (Bor (List ℕ))) (d : Bor (List ℕ)) → 1 ≤ length xs →
    f (get_or xs 0 d) ∷ map f (take (length xs - 1) (drop 1 xs)) ≡ map f xs
read_all f [] d h = absurd (omega arith)
read_all f (x ∷ xs) d h =
    ap (λ (ys : List (Bor (List ℕ))). f x ∷ map f ys) (take_all (length (x ∷ xs) - 1) xs (omega arith))

-- the first text and the others are all texts
pub parts_are : (xs items : List (Bor (List ℕ))) (d : Bor (List ℕ)) (log : List (List ℕ)) →
    1 ≤ length xs → xs ≡ items → map (λ (text : Bor (List ℕ)). text.now) items ≡ log →
    (get_or xs 0 d).now ∷ map (λ (text : Bor (List ℕ)). text.now) (take (length xs - 1) (drop 1 xs)) ≡
    log
parts_are xs items d log some same texts =
    read_all (λ (text : Bor (List ℕ)). text.now) xs d some ∙
    (ap (map (λ (text : Bor (List ℕ)). text.now)) same ∙ texts)

pub checked_as : {Z : Type 0} (program first : List ℕ) (more : List (List ℕ)) (store : List ℕ)
    (answer : Result (Checked Z) CheckPartsFault) (made : Checked Z) → answer ≡ Ok made →
    IsCheckParts program first more store answer → IsPartsChecked program first more store made
checked_as program first more store answer made is checked =
    subst (λ r. IsCheckParts program first more store r) is checked
