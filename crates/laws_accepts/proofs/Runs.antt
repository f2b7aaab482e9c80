-- The events of a book are a run for the checker.
use Rattle.std.proofs.Common.{◌≡◌, ℕ, zero, suc, ◌+◌, ◌≤◌, ◌↔◌, List, Result, Ok, Err, IsOk, refl, sym, subst, ◌∙◌, ap, arith}
use Rattle.std.specs.List.{AllByRecursion}
use Rattle.chr_value.specs.Atoms.{Atom}
use Rattle.chr_rule.specs.Rules.{Simpagation}
use Rattle.chr_rule.specs.Scope.{IsRule}
use Rattle.chr_log.specs.declared.events.Version.TheVariants.{One, Two}
use Rattle.chr_model.specs.Goals.{State, start}
use Rattle.chr_model.specs.Goals as goals
use Rattle.chr_model.specs.Logs.{Lawful, strict}
use Rattle.chr_model.specs.Programs.{Instances}
use Rattle.chr_model.specs.Stores.{Final}
use Rattle.chr_model.proofs.Fixed.{Run-same}
use Rattle.chr_model.proofs.Quiet.{quiet_final}
use Rattle.chr_model.proofs.Programs.{program_fixes, program_removes}
use Rattle.chr_model.proofs.Strict.{strict_lawful}
use Rattle.chr_calls.specs.Tickets.{AreQuiet}
use Rattle.chr_calls.specs.Books.{BookState, opened, goal_state, events}
use Rattle.chr_calls.proofs.Tickets.{goal_there}
use Rattle.chr_solo.specs.Solo.{Known, Nothing, SoloCall, claims, asks, fires, reports, drops, SoloRun}
use Rattle.chr_solo.specs.declared.solo.End.{End}
use Rattle.chr_solo.specs.declared.solo.End.TheVariants.{Quiet, Open}
use Rattle.chr_check.specs.declared.checking.Verdict.{Verdict}
use Rattle.chr_check.specs.declared.checking.Verdict.TheVariants.{Run, RunAndFinal}
use Rattle.chr_check.specs.declared.fault.CheckFault.{CheckFault}
use Rattle.chr_check.specs.Faults.{IsRun, IsFinalRun}
use Rattle.chr_run_text.specs.RunText.{seat, posted_book, IsRunOf}
use Rattle.laws_accepts.proofs.Stays.{Stays, still, stays_then, all_stay, claims_stay, turns_stay, fires_stay, reports_stay, drops_stay}
use Rattle.chr_check_text.specs.CheckTexts.{IsAnswer}
use Rattle.laws_accepts.specs.Accepted.{verdict_of}

-- ---- a solo run keeps the names and the limit, and gives no label above it

call_stays : (by t : ℕ) (b n : BookState) (known after : Known) → SoloCall by t b known n after → Stays b n
call_stays by t b n known after (claims l h e) = claims_stay b n by t (Ok l) h
call_stays by t b n known after (asks turn k h e) = turns_stay b n by t (Ok turn) h
call_stays by t b n known after (fires j firing k h e) = fires_stay b n by t j (Ok firing) h
call_stays by t b n known after (reports j moved k h e) = reports_stay b n by t j (Ok moved) h
call_stays by t b n known after (drops dropping k h e) = drops_stay b n by t (Ok dropping) h

solo_stays : (by calls : ℕ) (b : BookState) (known : Known) (n : BookState) (after : Known) → SoloRun by calls b known n after → Stays b n
solo_stays by zero b known n after h = still h.0 refl
solo_stays by (suc calls) b known n after h = stays_then (call_stays by h.0 b h.2 known h.3 h.4) (solo_stays by calls h.2 h.3 n after h.5)

pub run_kept : (rules : List (Simpagation ℕ)) (atoms : List (Atom ℕ)) (names : List (List ℕ)) (steps limit : ℕ) (b : BookState) → IsRunOf rules atoms names steps limit b → (b.names ≡ names) × (b.next ≤ limit + 1) × (b.rules ≡ rules)
run_kept rules atoms names steps limit b run =
    let o = opened rules run.plans names limit in
    let first = posted_book rules run.plans atoms names limit in
    let s = stays_then (all_stay o seat atoms) (solo_stays seat run.solo.made first Nothing b run.solo.known run.solo.run) in
    let start : 1 ≤ limit + 1 = omega arith in
    let le : b.next ≤ b.limit + 1 = s.next start in
    let same : b.limit ≡ limit = s.limit in
    (s.names, omega (arith, le, same), s.rules)

pub lawful_is : (rules : List (Simpagation ℕ)) (atoms : List (Atom ℕ)) (names : List (List ℕ)) (steps limit : ℕ) (b : BookState) → IsRunOf rules atoms names steps limit b → Lawful Two (Instances rules) (events b) (goal_state b)
lawful_is rules atoms names steps limit b run =
    subst (λ (rs : List (Simpagation ℕ)). Lawful Two (Instances rs) (events b) (goal_state b)) (run_kept rules atoms names steps limit b run).2 run.headline.lawful

-- ---- a book whose log is lawful

quiet_goals : (b : BookState) → AreQuiet b.tickets → goals.Quiet (goal_state b)
quiet_goals b quiet = λ t. goal_there b t ∙ quiet t

final_is : (rules : List (Simpagation ℕ)) (b : BookState) → Lawful Two (Instances rules) (events b) (goal_state b) → AreQuiet b.tickets → Final (Instances rules) b.store
final_is rules b lawful quiet = quiet_final Two (Instances rules) (program_removes rules) (events b) (goal_state b) lawful (quiet_goals b quiet)

pub is_run : (rules : List (Simpagation ℕ)) (b : BookState) → Lawful Two (Instances rules) (events b) (goal_state b) → IsRun Two (Instances rules) (events b) b.store
is_run rules b lawful = record { last = goal_state b; lawful = lawful; store_is = refl }

pub is_final : (rules : List (Simpagation ℕ)) (b : BookState) → Lawful Two (Instances rules) (events b) (goal_state b) → AreQuiet b.tickets → IsFinalRun Two (Instances rules) (events b) b.store
is_final rules b lawful quiet = record { last = goal_state b; lawful = lawful; store_is = refl; quiet = quiet_goals b quiet; final = final_is rules b lawful quiet }

pub is_quiet : (rules : List (Simpagation ℕ)) (b : BookState) → AllByRecursion IsRule rules → Lawful Two (Instances rules) (events b) (goal_state b) → IsFinalRun Two (Instances rules) (events b) b.store → AreQuiet b.tickets
is_quiet rules b whole lawful final =
    let same : final.last ≡ goal_state b = Run-same Two (Instances rules) (program_fixes rules whole) (events b) start final.last (goal_state b) final.lawful lawful in
    λ t. sym (goal_there b t) ∙ ap (λ (s : State). goals.goal_at s t) (sym same) ∙ final.quiet t

pub strict_is : (rules : List (Simpagation ℕ)) (b : BookState) → Lawful Two (Instances rules) (events b) (goal_state b) → AreQuiet b.tickets → Lawful One (Instances rules) (strict (events b)) (goal_state b)
strict_is rules b lawful quiet = strict_lawful Two (Instances rules) (program_removes rules) (events b) (goal_state b) lawful (quiet_goals b quiet)

pub is_strict : (rules : List (Simpagation ℕ)) (b : BookState) → Lawful Two (Instances rules) (events b) (goal_state b) → AreQuiet b.tickets → IsFinalRun One (Instances rules) (strict (events b)) b.store
is_strict rules b lawful quiet = record { last = goal_state b; lawful = strict_is rules b lawful quiet; store_is = refl; quiet = quiet_goals b quiet; final = final_is rules b lawful quiet }

-- ---- answers

is_not_final : (answer : Result Verdict CheckFault) → IsOk answer → (answer ≡ Ok RunAndFinal → ⊥) → answer ≡ Ok Run
is_not_final (Ok Run) ok none = refl
is_not_final (Ok RunAndFinal) ok none = absurd (none refl)
is_not_final (Err f) ok none = absurd cc

open_is_not_quiet : Open ≡ Quiet → ⊥
open_is_not_quiet e = cc

pub whole_answer : (rules : List (Simpagation ℕ)) (b : BookState) (end : End) (answer : Result Verdict CheckFault) → AllByRecursion IsRule rules → Lawful Two (Instances rules) (events b) (goal_state b) → ((end ≡ Quiet) ↔ AreQuiet b.tickets)
    → IsAnswer Two (Instances rules) (events b) b.store answer → answer ≡ Ok (verdict_of end)
whole_answer rules b Quiet answer whole lawful ends is = is.final_run.1 (is_final rules b lawful (ends.0 refl))
whole_answer rules b Open answer whole lawful ends is =
    is_not_final answer (is.run.1 (is_run rules b lawful)) (λ e. open_is_not_quiet (ends.1 (is_quiet rules b whole lawful (is.final_run.0 e))))

pub strict_answer : (rules : List (Simpagation ℕ)) (b : BookState) (answer : Result Verdict CheckFault) → Lawful Two (Instances rules) (events b) (goal_state b) → AreQuiet b.tickets → IsAnswer One (Instances rules) (strict (events b)) b.store answer → answer ≡ Ok RunAndFinal
strict_answer rules b answer lawful quiet is = is.final_run.1 (is_strict rules b lawful quiet)
