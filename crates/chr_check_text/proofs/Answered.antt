-- What the check of three texts answers.
use Rattle.std.proofs.Common.{◌≡◌, ◌≢◌, ℕ, zero, suc, List, [], Result, Ok, Err, IsOk, refl, sym, ap, subst, ◌∙◌, arith}
use Rattle.std.proofs.lemmas.Option.{slice_get_within}
use Rattle.chr_value.specs.Naming.{Table}
use Rattle.chr_value.specs.Atoms.{Atom}
use Rattle.chr_rule.specs.Rules.{Simpagation}
use Rattle.chr_log.specs.Events.{Event, labelled_atoms}
use Rattle.chr_log.specs.declared.events.Version.{Version}
use Rattle.chr_log_text.specs.Texts.{IsLogText, IsStoreText, HasLogFault, HasStoreFault}
use Rattle.chr_log_text.specs.Parts.{IsLogInParts, HasLogPartFault}
use Rattle.chr_log_text.specs.declared.fault.PartFault.{PartFault}
use Rattle.chr_log_text.specs.declared.fault.TextFault.{TextFault}
use Rattle.chr_log_text.specs.declared.fault.TextFault.TheVariants as text_faults
use Rattle.chr_model.specs.Stores.{Store}
use Rattle.chr_model.specs.Programs.{Instances}
use Rattle.chr_text.specs.Reading.{program_of}
use Rattle.chr_check.specs.declared.checking.Verdict.{Verdict}
use Rattle.chr_check.specs.declared.checking.Verdict.TheVariants.{RunAndFinal}
use Rattle.chr_check.specs.declared.fault.CheckFault.{CheckFault}
use Rattle.chr_check.specs.declared.fault.CheckError.{CheckError}
use Rattle.chr_check.specs.declared.fault.CheckError.TheVariants.{NoMemory, NotARun}
use Rattle.chr_check.proofs.Checked.{Answers}
use Rattle.chr_check_text.specs.declared.checked.Checked.{Checked}
use Rattle.chr_check_text.specs.CheckTexts.{check_of, IsAnswer, IsTold, IsChecked, IsUnread}
use Rattle.chr_check_text.specs.CheckParts.{fault_of, log_fault, store_fault, whole_fault, IsPartsChecked, IsPartsUnread}
use Rattle.chr_check_text.specs.declared.checked.CheckPartsFault.{CheckPartsFault}
use Rattle.chr_check_text.specs.declared.checked.CheckPartsFault.TheVariants as parts_faults

abbrev said : Verdict → Result Verdict CheckError
said verdict = Ok verdict

abbrev refusal : CheckFault → Result Verdict CheckError
refusal f = Err (NotARun f)

-- what a check answers, where it had memory
answered : (v : Version) (rules : List (Simpagation ℕ)) (log : List (Event ℕ)) (store : Store) (answer : Result Verdict CheckFault) → Answers v rules log store (check_of answer) → IsAnswer v (Instances rules) log store answer
answered v rules log store (Ok verdict) a =
    let had_memory : check_of (Ok verdict) ≢ Err NoMemory = λ e. absurd (cc) in
    record {
      run = a.run had_memory;
      final_run = (
        λ e. (let same : verdict ≡ RunAndFinal = cc in (a.final_run had_memory).0 (ap said same)),
        λ r. (let e : said verdict ≡ said RunAndFinal = (a.final_run had_memory).1 r in cc),
      );
      fault = λ f. (λ e. absurd (cc), λ h. (let e : said verdict ≡ refusal f = (a.fault f had_memory).1 h in absurd (cc)));
    }
answered v rules log store (Err f) a =
    let had_memory : refusal f ≢ Err NoMemory = λ e. absurd (cc) in
    record {
      run = (λ ok. absurd (cc), λ r. (let ok : IsOk (refusal f) = (a.run had_memory).1 r in absurd (cc)));
      final_run = (λ e. absurd (cc), λ r. (let e : refusal f ≡ said RunAndFinal = (a.final_run had_memory).1 r in absurd (cc)));
      fault = λ g. (
        λ e. (let same : f ≡ g = cc in (a.fault g had_memory).0 (ap refusal same)),
        λ h. (let e : refusal f ≡ refusal g = (a.fault g had_memory).1 h in cc),
      );
    }

pub answered_by : (v : Version) (rules : List (Simpagation ℕ)) (log : List (Event ℕ)) (store : Store) (answer : Result Verdict CheckFault) (checked : Result Verdict CheckError) → checked ≡ check_of answer → Answers v rules log store checked → IsAnswer v (Instances rules) log store answer
answered_by v rules log store answer checked is a = answered v rules log store answer (subst (Answers v rules log store) is a)

-- the log has a fault
fault_unread : (program first : List ℕ) (more : List (List ℕ)) (store : List ℕ) (part : PartFault) (fault : TextFault) (rules : List (Simpagation ℕ)) (table : List (List ℕ)) → part.fault ≡ fault → program_of [] program ≡ Ok (rules, table) → HasLogPartFault table first more part.part part.fault
    → IsPartsUnread program first more store (fault_of part fault)
fault_unread program first more store part text_faults.NoMemory rules table is p h = tt
fault_unread program first more store part text_faults.TooLong rules table is p h = (λ e. absurd (let k = sym is ∙ e in cc), record { rules = rules; table = table; reads = p }, h)
fault_unread program first more store part (text_faults.BadEntry n) rules table is p h = (λ e. absurd (let k = sym is ∙ e in cc), record { rules = rules; table = table; reads = p }, h)
fault_unread program first more store part (text_faults.NamesFull n) rules table is p h = (λ e. absurd (let k = sym is ∙ e in cc), record { rules = rules; table = table; reads = p }, h)

pub log_unread : (program first : List ℕ) (more : List (List ℕ)) (store : List ℕ) (part : PartFault) (rules : List (Simpagation ℕ)) (table : List (List ℕ)) → program_of [] program ≡ Ok (rules, table) → HasLogPartFault table first more part.part part.fault → IsPartsUnread program first more store (log_fault part)
log_unread program first more store part rules table p h = fault_unread program first more store part part.fault rules table refl p h

-- the text of the store has a fault
pub store_unread : (program first : List ℕ) (more : List (List ℕ)) (store : List ℕ) (fault : TextFault) (rules : List (Simpagation ℕ)) (table : List (List ℕ)) (v : Version) (es : List (Event ℕ)) (names : List (List ℕ)) → program_of [] program ≡ Ok (rules, table) → IsLogInParts table first more v es names → HasStoreFault names store fault
    → IsPartsUnread program first more store (store_fault fault)
store_unread program first more store text_faults.NoMemory rules table v es names p q h = tt
store_unread program first more store text_faults.TooLong rules table v es names p q h = (λ e. absurd (cc), record { rules = rules; table = table; reads = p }, record { version = v; events = es; names = names; reads = q }, h)
store_unread program first more store (text_faults.BadEntry n) rules table v es names p q h = (λ e. absurd (cc), record { rules = rules; table = table; reads = p }, record { version = v; events = es; names = names; reads = q }, h)
store_unread program first more store (text_faults.NamesFull n) rules table v es names p q h = (λ e. absurd (cc), record { rules = rules; table = table; reads = p }, record { version = v; events = es; names = names; reads = q }, h)

-- all are read
pub is_checked : {Z : Type 0} (program first : List ℕ) (more : List (List ℕ)) (store : List ℕ) (made : Checked Z) (rules : List (Simpagation ℕ)) (table : List (List ℕ)) (v : Version) (es : List (Event ℕ)) (names : List (List ℕ)) (entries : List (ℕ × Atom ℕ)) (all : List (List ℕ)) → program_of [] program ≡ Ok (rules, table)
    → IsLogInParts table first more v es names → IsStoreText names store (labelled_atoms entries) all → IsTold v (Instances rules) es entries made → IsPartsChecked program first more store made
is_checked program first more store made rules table v es names entries all p q r told = record {
  read = record { rules = rules; table = table; reads = p };
  logged = record { version = v; events = es; names = names; reads = q };
  stored = record { entries = entries; names = all; reads = r };
  told = told;
}

-- ---- a log that is one text

one_part : (table : Table) (log : List ℕ) (v : Version) (es : List (Event ℕ)) (names : Table) → IsLogInParts table log [] v es names → IsLogText table log v es names
one_part table log v es names is =
    subst (λ (xs : List (Event ℕ)). IsLogText table log v xs names) (sym is.goes_on.0) (subst (λ (t : Table). IsLogText table log v is.own t) (sym is.goes_on.1) is.begins)

first_fault : (table : Table) (log : List ℕ) (part : ℕ) (fault : TextFault) → HasLogPartFault table log [] part fault → HasLogFault table log fault
first_fault table log zero fault has = has
first_fault table log (suc part) fault has = (let past = slice_get_within [] part has.4.text has.4.is in absurd (omega (arith, past)))

pub one_checked : {Z : Type 0} (program log store : List ℕ) (made : Checked Z) → IsPartsChecked program log [] store made → IsChecked program log store made
one_checked program log store made is = record {
  read = is.read;
  logged = record { version = is.logged.version; events = is.logged.events; names = is.logged.names; reads = one_part is.read.table log is.logged.version is.logged.events is.logged.names is.logged.reads };
  stored = is.stored;
  told = is.told;
}

pub one_unread : (program log store : List ℕ) (fault : CheckPartsFault) → IsPartsUnread program log [] store fault → IsUnread program log store (whole_fault fault)
one_unread program log store (parts_faults.Program fault) is = is
one_unread program log store (parts_faults.Log part) is = (is.0, is.1, first_fault is.1.table log part.part part.fault is.2)
one_unread program log store (parts_faults.Store fault) is =
    (is.0, is.1, record { version = is.2.version; events = is.2.events; names = is.2.names; reads = one_part is.1.table log is.2.version is.2.events is.2.names is.2.reads }, is.3)
one_unread program log store parts_faults.Memory is = tt
