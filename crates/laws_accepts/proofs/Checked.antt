-- What the check of the texts of a book answers, and so of a run, also of one of several texts of posts.
use Rattle.std.proofs.Common.{◌≡◌, ℕ, ◌↔◌, ◌≤◌, List, [], ◌∷◌, length, Result, Ok, Err, refl, sym, ap, ap₂, subst, ◌∙◌, arith, ◌++◌, append_assoc}
use Rattle.std.specs.List.{AllByRecursion}
use Rattle.chr_lex.specs.declared.fault.ReadFault.{ReadFault}
use Rattle.chr_value.specs.Atoms.{Atom}
use Rattle.chr_value.specs.Naming.{Table}
use Rattle.chr_rule.specs.Rules.{Simpagation}
use Rattle.chr_rule.specs.Scope.{IsRule}
use Rattle.chr_log.specs.Events.{Event, LabelledAtom, labelled_atom, labelled_atoms}
use Rattle.chr_log.specs.declared.events.Version.{Version}
use Rattle.chr_log.specs.declared.events.Version.TheVariants.{One, Two}
use Rattle.chr_log_text.specs.Writable.{most_bytes}
use Rattle.chr_log_text.specs.Texts.{IsLogText, IsStoreText}
use Rattle.chr_log_text.proofs.Whole.{log_once, store_once}
use Rattle.chr_model.specs.Logs.{Lawful, posted_by, strict}
use Rattle.chr_model.specs.Programs.{Instances}
use Rattle.chr_model.specs.Stores.{Store}
use Rattle.chr_text.specs.Reading.{Program, program_of, RulesOf, Posts, posts_of}
use Rattle.chr_calls.specs.Tickets.{AreQuiet}
use Rattle.chr_calls.specs.Books.{BookState, goal_state, events}
use Rattle.chr_calls.proofs.Tickets.{posted_strict}
use Rattle.chr_solo.specs.declared.solo.End.{End}
use Rattle.chr_solo.specs.declared.solo.End.TheVariants.{Quiet}
use Rattle.chr_check.specs.declared.checking.Verdict.{Verdict}
use Rattle.chr_check.specs.declared.checking.Verdict.TheVariants.{RunAndFinal}
use Rattle.chr_check.specs.declared.fault.CheckFault.{CheckFault}
use Rattle.chr_run_text.specs.Output.{shown}
use Rattle.chr_run_text.specs.declared.output.Show.TheVariants as show
use Rattle.chr_run_text.specs.RunText.{IsRunOf}
use Rattle.chr_check_text.specs.Output.{answer_line}
use Rattle.chr_check_text.specs.CheckTexts.{IsAnswer, IsCheckText}
use Rattle.chr_check_text.specs.declared.checked.Checked.{Checked}
use Rattle.chr_check_text.specs.declared.checked.CheckTextFault.{CheckTextFault}
use Rattle.chr_check_text.specs.declared.checked.CheckTextFault.TheVariants as faults
use Rattle.laws_writable.proofs.Rules.{program_held, rules_whole}
use Rattle.laws_accepts.specs.Accepted.{IsTextRun, verdict_of, IsAnswered}
use Rattle.laws_accepts.proofs.ReadBack.{AreRead, text_read, none_read, both_read, log_read, store_read, log_no_fault, store_no_fault}
use Rattle.laws_accepts.proofs.Runs.{run_kept, lawful_is, strict_is, whole_answer, strict_answer}
use Rattle.std.proofs.lemmas.List.{append-nil}
use Rattle.chr_run_text.specs.Texts.{with_posts}
use Rattle.chr_run_text.specs.RunTexts.{IsRunOfTexts}
use Rattle.chr_text.proofs.Texts.{ok_is, bind_ok}

-- ---- the check of texts that are read

same_entry : (x y : ℕ × Atom ℕ) → labelled_atom x ≡ labelled_atom y → x ≡ y
same_entry x y e = ap (λ (z : LabelledAtom ℕ). (z.label, z.atom)) e

same_entries : (xs ys : Store) → labelled_atoms xs ≡ labelled_atoms ys → xs ≡ ys
same_entries [] [] e = refl
same_entries [] (y ∷ ys) e = absurd cc
same_entries (x ∷ xs) [] e = absurd cc
same_entries (x ∷ xs) (y ∷ ys) e =
    let one : labelled_atom x ≡ labelled_atom y = cc in
    let rest : labelled_atoms xs ≡ labelled_atoms ys = cc in
    ap₂ (λ (z : ℕ × Atom ℕ) (zs : Store). z ∷ zs) (same_entry x y one) (same_entries xs ys rest)

pub same_ok : {A : Type 0} (p q : A) (r : Result A ReadFault) → r ≡ Ok p → r ≡ Ok q → p ≡ q
same_ok {A} p q r e f = let both : (let o : Result A ReadFault = Ok p in o) ≡ Ok q = sym e ∙ f in cc

pub texts_answered : {Z : Type 0} (program log store : List ℕ) (rules : List (Simpagation ℕ)) (table names : Table) (v : Version) (es : List (Event ℕ)) (st : Store) (verdict : Verdict) (result : Result (Checked Z) CheckTextFault)
    → program_of [] program ≡ Ok (rules, table) → IsLogText table log v es names → IsStoreText names store (labelled_atoms st) names
    → ((answer : Result Verdict CheckFault) → IsAnswer v (Instances rules) es st answer → answer ≡ Ok verdict)
    → IsCheckText program log store result → IsAnswered verdict result
texts_answered program log store rules table names v es st verdict (Ok made) p l s answers is =
    let same = same_ok {A = Program} (is.read.rules, is.read.table) (rules, table) (program_of [] program) is.read.reads p in
    let rules_same : is.read.rules ≡ rules = ap (λ (q : Program). q.0) same in
    let table_same : is.read.table ≡ table = ap (λ (q : Program). q.1) same in
    let logged = subst (λ (t : Table). IsLogText t log is.logged.version is.logged.events is.logged.names) table_same is.logged.reads in
    let one = log_once table log is.logged.version v is.logged.events es is.logged.names names logged l in
    let stored = subst (λ (t : Table). IsStoreText t store (labelled_atoms is.stored.entries) is.stored.names) one.2 is.stored.reads in
    let two = store_once names store (labelled_atoms is.stored.entries) (labelled_atoms st) is.stored.names names stored s in
    let entries : is.stored.entries ≡ st = same_entries is.stored.entries st two.0 in
    let a = subst (λ (x : Version). IsAnswer x (Instances is.read.rules) is.logged.events is.stored.entries made.answer) one.0 is.told.answer in
    let b = subst (λ (x : List (Simpagation ℕ)). IsAnswer v (Instances x) is.logged.events is.stored.entries made.answer) rules_same a in
    let c = subst (λ (x : List (Event ℕ)). IsAnswer v (Instances rules) x is.stored.entries made.answer) one.1 b in
    let d = subst (λ (x : Store). IsAnswer v (Instances rules) es x made.answer) entries c in
    let answer = answers made.answer d in
    (answer, is.told.line ∙ ap answer_line answer)
texts_answered program log store rules table names v es st verdict (Err (faults.Program fault)) p l s answers is = (let clash : (let o : Result Program ReadFault = Err fault in o) ≡ Ok (rules, table) = sym is ∙ p in absurd cc)
texts_answered program log store rules table names v es st verdict (Err (faults.Log fault)) p l s answers (not, read, has) =
    let same = same_ok {A = Program} (read.rules, read.table) (rules, table) (program_of [] program) read.reads p in
    let table_same : table ≡ read.table = sym (ap (λ (q : Program). q.1) same) in
    absurd (not (log_no_fault read.table log v es names fault (subst (λ (t : Table). IsLogText t log v es names) table_same l) has))
texts_answered program log store rules table names v es st verdict (Err (faults.Store fault)) p l s answers (not, read, logged, has) =
    let same = same_ok {A = Program} (read.rules, read.table) (rules, table) (program_of [] program) read.reads p in
    let table_same : read.table ≡ table = ap (λ (q : Program). q.1) same in
    let other = subst (λ (t : Table). IsLogText t log logged.version logged.events logged.names) table_same logged.reads in
    let one = log_once table log logged.version v logged.events es logged.names names other l in
    absurd (not (store_no_fault logged.names store (labelled_atoms st) names fault (subst (λ (t : Table). IsStoreText t store (labelled_atoms st) names) (sym one.2) s) has))
texts_answered program log store rules table names v es st verdict (Err faults.Memory) p l s answers is = refl

-- ---- the texts of a book

pub are_rules : (program : List ℕ) (read : RulesOf program) → AllByRecursion IsRule read.rules
are_rules program read = rules_whole read.table read.rules (program_held [] program (read.rules, read.table) read.reads).0

-- a lawful book by the rules of a text, whose posts were read over the names of that text
pub record IsReadable (program : List ℕ) (read : RulesOf program) (b : BookState) : Type 0 where
  pub posted : AreRead read.table b.names (posted_by (events b))
  pub lawful : Lawful Two (Instances read.rules) (events b) (goal_state b)
  pub room : b.next ≤ 4294967296

module _ (program : List ℕ) (read : RulesOf program) (b : BookState) (r : IsReadable program read b) where
  pub log_is_read : (end : End) → length (shown show.Log end b) ≤ most_bytes → IsLogText read.table (shown show.Log end b) Two (events b) b.names
  log_is_read end short = log_read program read.rules read.table b.names (posted_by (events b)) Two (events b) (goal_state b) read.reads r.posted refl r.lawful r.room short

  pub strict_log_is_read : AreQuiet b.tickets → length (shown show.Strict Quiet b) ≤ most_bytes → IsLogText read.table (shown show.Strict Quiet b) One (strict (events b)) b.names
  strict_log_is_read quiet short =
      log_read program read.rules read.table b.names (posted_by (events b)) One (strict (events b)) (goal_state b) read.reads r.posted (posted_strict (events b)) (strict_is read.rules b r.lawful quiet) r.room short

  pub store_is_read : (end : End) → length (shown show.Store end b) ≤ most_bytes → IsStoreText b.names (shown show.Store end b) (labelled_atoms b.store) b.names
  store_is_read end short = store_read program read.rules read.table b.names (posted_by (events b)) Two (events b) (goal_state b) read.reads r.posted refl r.lawful r.room short

  pub accepted : {Z : Type 0} (end : End) (result : Result (Checked Z) CheckTextFault) → ((end ≡ Quiet) ↔ AreQuiet b.tickets)
      → length (shown show.Log end b) ≤ most_bytes → length (shown show.Store end b) ≤ most_bytes → IsCheckText program (shown show.Log end b) (shown show.Store end b) result → IsAnswered (verdict_of end) result
  accepted end result quiet log_short store_short is =
      texts_answered program (shown show.Log end b) (shown show.Store end b) read.rules read.table b.names Two (events b) b.store (verdict_of end) result read.reads
      (log_is_read end log_short) (store_is_read end store_short)
      (λ answer. whole_answer read.rules b end answer (are_rules program read) r.lawful quiet) is

  pub strict_accepted : {Z : Type 0} (result : Result (Checked Z) CheckTextFault) → AreQuiet b.tickets
      → length (shown show.Strict Quiet b) ≤ most_bytes → length (shown show.Store Quiet b) ≤ most_bytes → IsCheckText program (shown show.Strict Quiet b) (shown show.Store Quiet b) result → IsAnswered RunAndFinal result
  strict_accepted result quiet log_short store_short is =
      texts_answered program (shown show.Strict Quiet b) (shown show.Store Quiet b) read.rules read.table b.names One (strict (events b)) b.store RunAndFinal result read.reads
      (strict_log_is_read quiet log_short) (store_is_read Quiet store_short)
      (λ answer. strict_answer read.rules b answer r.lawful quiet) is

-- ---- runs

pub run_readable : (program : List ℕ) (read : RulesOf program) (atoms : List (Atom ℕ)) (names : Table) (steps limit : ℕ) (b : BookState) → limit ≤ 4294967295 → IsRunOf read.rules atoms names steps limit b → AreRead read.table names atoms → IsReadable program read b
run_readable program read atoms names steps limit b le run are =
    let kept = run_kept read.rules atoms names steps limit b run in
    let next = kept.1 in
    record {
      posted = subst (λ (t : Table). AreRead read.table t (posted_by (events b))) (sym kept.0) (subst (AreRead read.table names) (sym run.headline.posts_are) are);
      lawful = lawful_is read.rules atoms names steps limit b run;
      room = omega (arith, next, le);
    }

pub text_run_readable : (program posts : List ℕ) (steps limit : ℕ) (end : End) (b : BookState) → limit ≤ 4294967295 → (run : IsTextRun program posts steps limit end b) → IsReadable program run.read b
text_run_readable program posts steps limit end b le run =
    run_readable program run.read run.posted.atoms run.posted.names steps limit b le run.run (text_read run.read.table posts (run.posted.atoms, run.posted.names) run.posted.reads)

run_lawful : (program posts : List ℕ) (steps limit : ℕ) (end : End) (b : BookState) (run : IsTextRun program posts steps limit end b) → Lawful Two (Instances run.read.rules) (events b) (goal_state b)
run_lawful program posts steps limit end b run = lawful_is run.read.rules run.posted.atoms run.posted.names steps limit b run.run

pub run_answer : (program posts : List ℕ) (steps limit : ℕ) (end : End) (b : BookState) (answer : Result Verdict CheckFault) → (run : IsTextRun program posts steps limit end b) → IsAnswer Two (Instances run.read.rules) (events b) b.store answer → answer ≡ Ok (verdict_of end)
run_answer program posts steps limit end b answer run is =
    whole_answer run.read.rules b end answer (are_rules program run.read) (run_lawful program posts steps limit end b run) run.quiet is

pub strict_run_answer : (program posts : List ℕ) (steps limit : ℕ) (b : BookState) (answer : Result Verdict CheckFault) → (run : IsTextRun program posts steps limit Quiet b) → IsAnswer One (Instances run.read.rules) (strict (events b)) b.store answer → answer ≡ Ok RunAndFinal
strict_run_answer program posts steps limit b answer run is = strict_answer run.read.rules b answer (run_lawful program posts steps limit Quiet b run) (run.quiet.0 refl) is

record Adds (x y : Posts) : Type 0 where
  own : List (Atom ℕ)
  is : y.0 ≡ x.0 ++ own
  read : AreRead x.1 y.1 own

all_read : (x y : Posts) (texts : List (List ℕ)) → with_posts x texts ≡ Ok y → Adds x y
all_read x y [] h =
    let none : Adds x x = record { own = []; is = sym (append-nil x.0); read = none_read x.1 } in
    subst (Adds x) (ok_is x y h) none
all_read x y (text ∷ texts) h =
    let first = bind_ok (posts_of x.1 text) (λ o. with_posts (x.0 ++ o.0, o.1) texts) y h in
    let rest = all_read (x.0 ++ first.0.0, first.0.1) y texts first.2 in
    record {
      own = first.0.0 ++ rest.own;
      is = rest.is ∙ append_assoc x.0 first.0.0 rest.own;
      read = both_read x.1 first.0.1 y.1 first.0.0 rest.own (text_read x.1 text first.0 first.1) rest.read;
    }

posts_read : (table names : Table) (texts : List (List ℕ)) (atoms : List (Atom ℕ)) → with_posts ([], table) texts ≡ Ok (atoms, names) → AreRead table names atoms
posts_read table names texts atoms h = (let a = all_read ([], table) (atoms, names) texts h in subst (AreRead table names) (sym a.is) a.read)

pub texts_run_readable : (program : List ℕ) (posts : List (List ℕ)) (steps limit : ℕ) (end : End) (b : BookState) → limit ≤ 4294967295 → (run : IsRunOfTexts program posts steps limit end b) → IsReadable program run.read b
texts_run_readable program posts steps limit end b le run =
    run_readable program run.read run.posted.atoms run.posted.names steps limit b le run.run (posts_read run.read.table run.posted.names posts run.posted.atoms run.posted.reads)
