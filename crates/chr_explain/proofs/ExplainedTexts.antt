-- Reasons of causes, one after another.
use Rattle.std.proofs.Common.{◌≡◌, ℕ, zero, suc, ◌+◌, ◌-◌, ◌<◌, ◌≤◌, Bool, true, false, List, [], ◌∷◌, ◌++◌, map, length, take, get_or, slice_get, Option, Some, None, Result, Ok, Err, IfOk, refl, sym, ◌∙◌, ap, subst, arith, ◌≢◌, ◌↔◌, IsOk}
use Rattle.std.proofs.lemmas.List.{length-map, map_push, take_more}
use Rattle.std.specs.List.{AllByRecursion}
use Rattle.std.proofs.lemmas.Option.{slice_get_within, slice_get_read}
use Rattle.chr_value.specs.Atoms.{Atom}
use Rattle.chr_rule.specs.Rules.{Simpagation}
use Rattle.chr_log.specs.declared.events.Event.{Event as CodeEvent}
use Rattle.chr_log.specs.Events.{Event, event_of, events_of}
use Rattle.chr_causes.specs.declared.causes.Cause.{Cause}
use Rattle.chr_causes.specs.Origins.{IsOrigin}
use Rattle.chr_explain.specs.Atoms.{AreAtoms}
use Rattle.chr_explain.specs.declared.reasons.Reason.{Reason as CodeReason}
use Rattle.chr_explain.specs.Reasons.{reason_of, AreValues, IsRemoval, HasRemovals, TellsRemoval, IsReason, Reason, AreRemovals}
use Rattle.chr_causes.specs.Causes.{AreCauses}
use Rattle.chr_explain.specs.declared.explanation.Question.{Question}
use Rattle.chr_explain.specs.Headings.{Heading}
use Rattle.chr_explain.specs.Lines.{Recorded}
use Rattle.chr_explain.specs.Explanations.{explanation_text, IsExplanation}
use Rattle.chr_log.specs.declared.events.Version.{Version}
use Rattle.chr_log_text.specs.Texts.{IsLogText}
use Rattle.chr_model.specs.Stores.{Store}
use Rattle.chr_model.specs.Programs.{Instances}
use Rattle.chr_text.specs.Reading.{program_of}
use Rattle.chr_check.specs.declared.checking.Verdict.{Verdict}
use Rattle.chr_check.specs.declared.fault.Place.{Place}
use Rattle.chr_check.specs.declared.fault.CheckFault.{CheckFault}
use Rattle.chr_check.specs.declared.fault.CheckError.{CheckError}
use Rattle.chr_check.specs.declared.fault.CheckError.TheVariants.{NoMemory, NotARun}
use Rattle.chr_check.specs.Faults.{IsFirstFault, IsFaultIn, IsRun}
use Rattle.chr_explain.specs.declared.text.ExplainFault.{ExplainFault}
use Rattle.chr_explain.specs.ExplainTexts.{IsLogAnswer, at_log, fault_of_log, IsAnswer, IsExplainText}
use Rattle.chr_check.specs.declared.fault.Place.TheVariants as places
use Rattle.chr_explain.specs.declared.text.ExplainFault.TheVariants as faults

all_get : {X : Type 0} (P : X → Type 0) (xs : List X) (i : ℕ) (d : X) → i < length xs → AllByRecursion P xs → P (get_or xs i d)
all_get P [] i d lt all = absurd (omega arith)
all_get P (y ∷ ys) zero d lt all = all.0
all_get P (y ∷ ys) (suc i) d lt all = all_get P ys i d (omega arith) all.1

all_push : {X : Type 0} (P : X → Type 0) (xs : List X) (x : X) → AllByRecursion P xs → P x → AllByRecursion P (xs ++ x ∷ [])
all_push P [] x all h = (h, tt)
all_push P (y ∷ ys) x all h = (all.0, all_push P ys x all.1 h)

-- the label of a cause was given, and so has an atom
pub has_atom : (rules : List (Simpagation ℕ)) (log : List (Event ℕ)) (atoms : List (Atom ℕ)) (c : Cause) → AreAtoms rules log atoms → IsOrigin rules log c.label c.origin → (0 < c.label) × (c.label < length atoms + 1)
has_atom rules log atoms c are from = are.all c.label (record { place = c.origin.activated; ticket = from.ticket; gives = from.gives })

-- the same of one of some causes
module _ (rules : List (Simpagation ℕ)) (causes : List Cause) (i : ℕ) (d : Cause) (lt : i < length causes) where
  module _ (log : List (Event ℕ)) (atoms : List (Atom ℕ)) (are : AreAtoms rules log atoms) (from : AllByRecursion (λ c. IsOrigin rules log c.label c.origin) causes) where
    here : IsOrigin rules log (get_or causes i d).label (get_or causes i d).origin
    here = all_get (λ c. IsOrigin rules log c.label c.origin) causes i d lt from

    pub label_from_one : 1 ≤ (get_or causes i d).label
    label_from_one = let b = has_atom rules log atoms (get_or causes i d) are here in omega (arith, b.0)

    pub label_within : (get_or causes i d).label - 1 < length atoms
    label_within = let b = has_atom rules log atoms (get_or causes i d) are here in omega (arith, b.0, b.1)

  -- and an entry made its goal
  pub entry_within : {Z : Type 0} (events : List (CodeEvent Z)) → AllByRecursion (λ c. IsOrigin rules (events_of events) c.label c.origin) causes → (get_or causes i d).origin.made < length events
  entry_within events from =
      let o : IsOrigin rules (events_of events) (get_or causes i d).label (get_or causes i d).origin = all_get (λ c. IsOrigin rules (events_of events) c.label c.origin) causes i d lt from in
      let w : (get_or causes i d).origin.made < length (events_of events) = slice_get_within (events_of events) (get_or causes i d).origin.made o.makes.event o.makes.there in
      omega (arith, w, length-map events event_of)

abbrev no_place : Option ℕ
no_place = None

told_removal : (gone : Bool) (log : List (Event ℕ)) (causes : List Cause) (removals : List (Option ℕ)) (i : ℕ) (c d : Cause) (removal : Option ℕ) → i < length causes → c ≡ get_or causes i d → removal ≡ get_or removals (c.label - 1) None → HasRemovals gone log causes removals → TellsRemoval gone log c.label removal
told_removal true log causes removals i c d removal lt is at has =
    subst (IsRemoval log c.label) (sym at) (subst (λ (x : Cause). IsRemoval log x.label (get_or removals (x.label - 1) None)) (sym is) (all_get (λ x. IsRemoval log x.label (get_or removals (x.label - 1) None)) causes i d lt has))
told_removal false log causes removals i c d removal lt is at has = at ∙ ap (λ xs. get_or xs (c.label - 1) None) has ∙ no_removal (c.label - 1)
  where
    no_removal : (k : ℕ) → get_or [] k no_place ≡ no_place
    no_removal zero = refl
    no_removal (suc k) = refl

-- one reason more
module _ {Z : Type 0} (causes : List Cause) (i : ℕ) (d : Cause) (old new : List (CodeReason Z)) (r : CodeReason Z) (pushed : new ≡ old ++ r ∷ []) (lt : i < length causes) (is : r.cause ≡ get_or causes i d) where
  pub causes_more : map (λ (r : CodeReason Z). r.cause) old ≡ take i causes → map (λ (r : CodeReason Z). r.cause) new ≡ take (i + 1) causes
  causes_more h =
      ap (map (λ (r : CodeReason Z). r.cause)) pushed ∙ map_push (λ (r : CodeReason Z). r.cause) old r ∙ ap (λ (cs : List Cause). cs ++ r.cause ∷ []) h ∙ ap (λ (c : Cause). take i causes ++ c ∷ []) is ∙ sym (take_more causes i d lt)

  pub reasons_more : (rules : List (Simpagation ℕ)) (log : List (Event ℕ)) (atoms : List (Atom ℕ)) (removals : List (Option ℕ)) (event : Event ℕ) → slice_get log r.cause.origin.made ≡ Some event → r.atom.now ≡ get_or atoms (r.cause.label - 1) r.atom.now → r.cause.label - 1 < length atoms → AreValues rules atoms event r.values → r.removed ≡ get_or removals (r.cause.label - 1) None
      → (gone : Bool) → HasRemovals gone log causes removals → AllByRecursion (IsReason rules log atoms gone) (map reason_of old) → AllByRecursion (IsReason rules log atoms gone) (map reason_of new)
  reasons_more rules log atoms removals event there at within values removed gone has h =
      let told : IsReason rules log atoms gone (reason_of r) = record {
        event = event;
        there = there;
        atom = slice_get_read atoms (length atoms) (r.cause.label - 1) r.atom.now refl within at;
        values = values;
        removed = told_removal gone log causes removals i r.cause d r.removed lt is removed has;
      } in
      subst (λ (rs : List (CodeReason Z)). AllByRecursion (IsReason rules log atoms gone) (map reason_of rs)) (sym pushed)
      (subst (AllByRecursion (IsReason rules log atoms gone)) (sym (map_push reason_of old r)) (all_push (IsReason rules log atoms gone) (map reason_of old) (reason_of r) h told))

-- what holds of an Ok
pub if_ok : {X E : Type 0} (result : Result X E) (P Q : X → Type 0) → ((x : X) → P x → Q x) → IfOk result P → IfOk result Q
if_ok (Ok x) P Q f h = f x h
if_ok (Err e) P Q f h = tt

-- ---- the parts of an explanation

-- all causes have their removals among those of all labels
all_removals : (rules : List (Simpagation ℕ)) (log : List (Event ℕ)) (atoms : List (Atom ℕ)) (list : List (Option ℕ)) (causes : List Cause) → AreAtoms rules log atoms → AreRemovals log (length atoms) list → AllByRecursion (λ c. IsOrigin rules log c.label c.origin) causes
    → AllByRecursion (λ c. IsRemoval log c.label (get_or list (c.label - 1) None)) causes
all_removals rules log atoms list [] are removed from = tt
all_removals rules log atoms list (c ∷ cs) are removed from =
    let b = has_atom rules log atoms c are from.0 in
    let same : c.label - 1 + 1 ≡ c.label = omega (arith, b.0) in
    (subst (λ l. IsRemoval log l (get_or list (c.label - 1) None)) same (removed.each (c.label - 1) (omega (arith, b.0, b.1))), all_removals rules log atoms list cs are removed from.1)

causes_told : {Z : Type 0} (reasons : List (CodeReason Z)) → map (λ (r : Reason). r.cause) (map reason_of reasons) ≡ map (λ (r : CodeReason Z). r.cause) reasons
causes_told [] = refl
causes_told (r ∷ rs) = ap (λ (cs : List Cause). r.cause ∷ cs) (causes_told rs)

-- the removals that are asked for
pub asked : (rules : List (Simpagation ℕ)) (log : List (Event ℕ)) (atoms : List (Atom ℕ)) (list : List (Option ℕ)) (causes : List Cause) (gone : Bool) → gone ≡ true → AreAtoms rules log atoms → AllByRecursion (λ c. IsOrigin rules log c.label c.origin) causes → AreRemovals log (length atoms) list → HasRemovals gone log causes list
asked rules log atoms list causes gone is are from removed = subst (λ b. HasRemovals b log causes list) (sym is) (all_removals rules log atoms list causes are removed from)

abbrev from_parts : List (List ℕ) → List (Event ℕ) → List Heading → Recorded
from_parts names log headings = record { names = names; headings = headings; log = log }

pub explained : {Z : Type 0} (rules : List (Simpagation ℕ)) (names : List (List ℕ)) (headings given : List Heading) (log : List (Event ℕ)) (question : Question) (atoms : List (Atom ℕ)) (reasons : List (CodeReason Z)) (causes : List Cause) (others : List (CodeReason Z)) (out : List ℕ) → AreAtoms rules log atoms → map (λ (r : CodeReason Z). r.cause) reasons ≡ causes
    → AreCauses rules log question.label causes → AllByRecursion (IsReason rules log atoms question.gone) (map reason_of reasons) → headings ≡ given → others ≡ reasons → out ≡ explanation_text question.form (record { names = names; headings = headings; log = log }) (map reason_of others)
    → IsExplanation rules (record { names = names; headings = given; log = log }) question out
explained {Z = Z} rules names headings given log question atoms reasons causes others out known told are each heads same text = record {
  atoms = atoms;
  known = known;
  reasons = map reason_of reasons;
  causes = subst (AreCauses rules log question.label) (sym (causes_told reasons ∙ told)) are;
  each = each;
  text = text ∙ ap (λ (rs : List (CodeReason Z)). explanation_text question.form (from_parts names log headings) (map reason_of rs)) same ∙ ap (λ hs. explanation_text question.form (from_parts names log hs) (map reason_of reasons)) heads;
}

-- ---- what is explained of a log

abbrev verdict : Verdict → Result Verdict CheckError
verdict v = Ok v

abbrev answer : CheckError → Result Verdict CheckError
answer e = Err e

-- a run is lawful
pub run_lawful : (v : Version) (rules : List (Simpagation ℕ)) (log : List (Event ℕ)) (store : Store) (said : Verdict) → (verdict said ≢ Err NoMemory → (IsOk (verdict said) ↔ IsRun v (Instances rules) log store)) → IsLogAnswer v (Instances rules) log None
run_lawful v rules log store said run =
    let r : IsRun v (Instances rules) log store = (run (λ e. absurd (cc))).0 refl in
    (r.last, r.lawful)

by_place : (v : Version) (rules : List (Simpagation ℕ)) (log : List (Event ℕ)) (store : Store) (f : CheckFault) (p : Place) → f.place ≡ p → IsFaultIn v (Instances rules) log store p f.line f.kind → IsLogAnswer v (Instances rules) log (at_log p f)
by_place v rules log store f places.Log at h = (at, h)
by_place v rules log store f places.Store at h = (h.1.last, h.1.lawful)

pub refused_answer : (v : Version) (rules : List (Simpagation ℕ)) (log : List (Event ℕ)) (store : Store) (error : CheckError) (f : CheckFault) (found : Option CheckFault) → error ≡ NotARun f → ((g : CheckFault) → answer error ≢ Err NoMemory → ((answer error ≡ Err (NotARun g)) ↔ IsFirstFault v (Instances rules) log store g)) → found ≡ fault_of_log f → IsLogAnswer v (Instances rules) log found
refused_answer v rules log store error f found is fault found_is =
    let same : answer error ≡ Err (NotARun f) = ap answer is in
    let had : answer error ≢ Err NoMemory = λ e. (let k : NotARun f ≡ NoMemory = (let z : answer (NotARun f) ≡ Err NoMemory = sym same ∙ e in cc) in absurd (cc)) in
    subst (IsLogAnswer v (Instances rules) log) (sym found_is) (by_place v rules log store f f.place refl ((fault f had).0 same))

-- an answer of a log that is read
pub read_answer : (program log : List ℕ) (question : Question) (rules : List (Simpagation ℕ)) (table names : List (List ℕ)) (v : Version) (es : List (Event ℕ)) (made : Result (List ℕ) ExplainFault) → program_of [] program ≡ Ok (rules, table) → IsLogText table log v es names → IsAnswer program rules names v es question made → IsExplainText program log question made
read_answer program log question rules table names v es (Ok out) p q is = record { read = record { rules = rules; table = table; reads = p }; logged = record { version = v; events = es; names = names; reads = q }; answered = is }
read_answer program log question rules table names v es (Err (faults.Refused fault)) p q is = record { read = record { rules = rules; table = table; reads = p }; logged = record { version = v; events = es; names = names; reads = q }; answered = is }
read_answer program log question rules table names v es (Err faults.NotGiven) p q is = record { read = record { rules = rules; table = table; reads = p }; logged = record { version = v; events = es; names = names; reads = q }; answered = is }
read_answer program log question rules table names v es (Err faults.Memory) p q is = tt
read_answer program log question rules table names v es result p q is = grind arith
