-- Trials and reports keep what a book keeps.
use Rattle.std.proofs.Common.{◌≡◌, ◌≢◌, ℕ, ◌<◌, ◌≤◌, true, List, [], ◌∷◌, length, Some, None, Result, Ok, Err, refl, sym, subst, arith}
use Rattle.std.specs.List.{AllByRecursion}
use Rattle.std.specs.Option.{option_map}
use Rattle.chr_log.specs.declared.events.Version.TheVariants.{Two}
use Rattle.chr_plan.specs.Plans.{ArePlans}
use Rattle.chr_model.specs.Stores.{atom_at, among}
use Rattle.chr_model.specs.Goals.{Numbered}
use Rattle.chr_model.specs.Logs.{Lawful}
use Rattle.chr_model.specs.Programs.{Instances}
use Rattle.chr_model.proofs.Stores.{among-itself}
use Rattle.chr_model.proofs.Once.{Lawful-once}
use Rattle.chr_model.proofs.Older.{store_below}
use Rattle.chr_search.specs.Positions.{at_or_after}
use Rattle.chr_search.specs.Tree.{Grows}
use Rattle.chr_search.specs.Trials.{Join, MayFollow, Space, join_in, IsTrial, IsNext}
use Rattle.chr_search.specs.Reach.{Searching}
use Rattle.chr_search.specs.Verdicts.{Placed, Trial, position, labels, IsFormed, IsTrialOf, WasTrialOf}
use Rattle.chr_search.specs.declared.judged.Verdict.{Verdict}
use Rattle.chr_search.specs.declared.judged.Verdict.TheVariants as verdicts
use Rattle.chr_search.specs.Judged.{Judgement, IsVerdict}
use Rattle.chr_search.specs.Answers.{after_verdict, after_judging}
use Rattle.chr_search.proofs.Searching.{asked, moved_after, moved_past}
use Rattle.chr_search.proofs.Outcomes.{was_trial, part_none, misfit_none}
use Rattle.chr_search.proofs.Shrinking.{branch}
use Rattle.chr_calls.specs.declared.answers.TurnFault.{TurnFault}
use Rattle.chr_calls.specs.declared.answers.TurnFault.TheVariants as turn_fault
use Rattle.chr_calls.specs.declared.answers.ReportFault.{ReportFault}
use Rattle.chr_calls.specs.declared.answers.ReportFault.TheVariants as report
use Rattle.chr_calls.specs.Turns.{Turn, Next, Done, Gone}
use Rattle.chr_calls.specs.Tickets.{with_candidate, going_on, ticket_at}
use Rattle.chr_calls.specs.Books.{BookState, goal_state, events, space_of}
use Rattle.chr_calls.specs.Calls.{IsNextTrial, with_candidate_of, Turns, after_judgement, Reports}
use Rattle.chr_calls.specs.Headline.{IsCandidate, IsAhead, IsKept}
use Rattle.chr_calls.specs.Moves.{MovesOn}
use Rattle.chr_calls.proofs.Tickets.{all_map, held_label, kept_with, moved_keeps}
use Rattle.chr_calls.proofs.Leading.{judged_on, Searches, searches_same, searches_set, searches_stay, searches_forget, on_from}

-- ---- trial

-- the first label of an admissible trial is the active one
active_among : (j : Join) (ls : List ℕ) → 1 ≤ length ls → Grows (MayFollow j) [] ls → among ls j.active ≡ true
active_among j [] some g = absurd (omega arith)
active_among j (x ∷ more) some g = subst (λ z. among (x ∷ more) z ≡ true) g.0.turn (among-itself x more)

pub trial_active : (s : Space) (trial : Trial) → IsTrial s (position trial) → among (labels trial) s.active ≡ true
trial_active s trial i =
    let n = branch s (position trial) i in
    let e : trial.number ∷ trial.head ∷ labels trial ≡ n.r ∷ n.h ∷ n.labels = n.is in
    let same : labels trial ≡ n.labels = cc in
    subst (λ z. among z s.active ≡ true) (sym same) (active_among (join_in s n.rule n.order) n.labels n.some n.grows)

-- the next trial is admissible
pub next_trial : (s : Space) (place found : List ℕ) → IsNext s place found → IsTrial s found
next_trial s place found n =
    let is : found ≡ n.more = n.is in
    subst (IsTrial s) (sym is) (record { grows = n.beyond.grows; deep = n.beyond.deep })

-- the labels of a trial over the store were all given
trial_given : (b : BookState) (trial : Trial) → Lawful Two (Instances b.rules) (events b) (goal_state b) → IsTrialOf b.rules b.plans b.store trial → AllByRecursion (λ p. p.label < b.next) trial.placed
trial_given b trial lawful i =
    let once = Lawful-once Two (Instances b.rules) (events b) (goal_state b) lawful in
    all_map (λ (p : Placed). atom_at b.store p.label ≡ Some p.atom) (λ (p : Placed). p.label < b.next) (λ p live. store_below (goal_state b) once p.label p.atom live) trial.placed i.live

next_candidate : (b : BookState) (t l : ℕ) (trial : Trial) → Lawful Two (Instances b.rules) (events b) (goal_state b) → IsNextTrial b t l trial → IsCandidate b l trial
next_candidate b t l trial lawful n = record {
  formed = n.formed;
  was = was_trial (space_of b l) trial n.is;
  active = trial_active (space_of b l) trial (next_trial (space_of b l) (ticket_at b.tickets t).position (position trial) n.next);
  given = trial_given b trial lawful n.is;
}

next_keeps : (b : BookState) (t l : ℕ) (trial : Trial) → (ticket_at b.tickets t).goal ≡ Numbered l → IsNextTrial b t l trial → IsKept b → IsKept (with_candidate_of b t (Some trial))
next_keeps b t l trial g n k = kept_with b t (with_candidate (Some trial) (ticket_at b.tickets t)) refl (record { given = k.given t; searching = searching; candidates = candidate; ahead = ahead }) k
  where
    searching : (m : ℕ) → (ticket_at b.tickets t).goal ≡ Numbered m → Searching (space_of b m) (ticket_at b.tickets t).position (Some (position trial))
    searching m e =
        let there = subst (λ z. IsNext (space_of b z) (ticket_at b.tickets t).position (position trial)) (held_label b.tickets t l m g e) n.next in
        asked (space_of b m) (ticket_at b.tickets t).position (option_map position (ticket_at b.tickets t).candidate) (position trial) (k.searching t m e) there

    candidate : (m : ℕ) (other : Trial) → (ticket_at b.tickets t).goal ≡ Numbered m → Some trial ≡ Some other → IsCandidate b m other
    candidate m other e c =
        let same : trial ≡ other = cc in
        subst (IsCandidate b m) same (subst (λ z. IsCandidate b z trial) (held_label b.tickets t l m g e) (next_candidate b t l trial k.lawful n))

    ahead : IsAhead (with_candidate (Some trial) (ticket_at b.tickets t))
    ahead other c =
        let same : trial ≡ other = cc in
        subst (λ z. at_or_after (ticket_at b.tickets t).position (position z) ≡ true) same (subst (λ z. at_or_after (ticket_at b.tickets t).position z ≡ true) (sym n.next.is) n.next.beyond.there)

pub turns_search : (b n : BookState) (seat t : ℕ) (answer : Result Turn TurnFault) → Turns b seat t answer n → Searches b n
turns_search b n seat t (Err turn_fault.NotHeld) h = searches_same b n h.1
turns_search b n seat t (Err turn_fault.NoMemory) h = searches_same b n h.2
turns_search b n seat t (Ok Gone) h = searches_forget b n t (with_candidate None (ticket_at b.tickets t)) h.3 refl refl refl
turns_search b n seat t (Ok (Next trial)) h = searches_stay b n t (with_candidate (Some trial) (ticket_at b.tickets t)) h.3 refl refl (next_keeps b t h.0 trial h.1.holds.goal h.2)
turns_search b n seat t (Ok Done) h = searches_forget b n t (with_candidate None (ticket_at b.tickets t)) h.3 refl refl refl

pub turns_keep : (b n : BookState) (seat t : ℕ) (answer : Result Turn TurnFault) → Turns b seat t answer n → IsKept b → IsKept n
turns_keep b n seat t answer h = (turns_search b n seat t answer h).kept

-- ---- report

-- the search of a ticket that has this candidate
pub searching_of : (b : BookState) (t : ℕ) (trial : Trial) → IsKept b → (ticket_at b.tickets t).candidate ≡ Some trial → (l : ℕ) → (ticket_at b.tickets t).goal ≡ Numbered l → Searching (space_of b l) (ticket_at b.tickets t).position (Some (position trial))
searching_of b t trial k c l e = subst (λ z. Searching (space_of b l) (ticket_at b.tickets t).position (option_map position z)) c (k.searching t l e)

-- after a verdict, where the trial isn't whole
judged : (s : Space) (place : List ℕ) (trial : Trial) (v : Verdict) → ArePlans s.rules s.plans → WasTrialOf s.rules s.plans s.store trial → IsFormed trial → IsVerdict trial v → v ≢ verdicts.Whole → Searching s place (Some (position trial)) → Searching s (after_verdict v (position trial)) None
judged s place trial verdicts.Whole ps w f right ne h = absurd (ne refl)
judged s place trial verdicts.Part ps w f right ne h = moved_after s place (position trial) h (part_none s trial ps w right)
judged s place trial verdicts.Misfit ps w f right ne h = moved_past s place (position trial) h (misfit_none s trial ps w f right.0 right.1)

judgement_keeps : (b : BookState) (t : ℕ) (j : Judgement) → IsVerdict j.trial j.verdict → j.verdict ≢ verdicts.Whole → (ticket_at b.tickets t).candidate ≡ Some j.trial → IsKept b → IsKept (after_judgement b t j)
judgement_keeps b t j right ne c k = moved_keeps b t (after_judging j) moved k
  where
    moved : (l : ℕ) → (ticket_at b.tickets t).goal ≡ Numbered l → Searching (space_of b l) (after_judging j) None
    moved l e =
        let i = k.candidates t l j.trial e c in
        judged (space_of b l) (ticket_at b.tickets t).position j.trial j.verdict k.plans i.was i.formed right ne (searching_of b t j.trial k c l e)

pub reports_search : (b n : BookState) (seat t : ℕ) (j : Judgement) (answer : Result (Unit {0}) ReportFault) → IsVerdict j.trial j.verdict → Reports b seat t j answer n → Searches b n
reports_search b n seat t j (Err report.NotHeld) right h = searches_same b n h.1
reports_search b n seat t j (Err report.Stale) right h = searches_same b n h.1
reports_search b n seat t j (Err report.IsWhole) right h = searches_same b n h.2
reports_search b n seat t j (Ok done) right h =
    searches_set b n t (going_on (after_judging j) (ticket_at b.tickets t)) h.2 refl (judgement_keeps b t j right h.1 h.0.candidate) (λ k. (judged_on (ticket_at b.tickets t).position j.trial j.verdict (k.ahead t j.trial h.0.candidate)).0)

pub reports_keep : (b n : BookState) (seat t : ℕ) (j : Judgement) (answer : Result (Unit {0}) ReportFault) → IsVerdict j.trial j.verdict → Reports b seat t j answer n → IsKept b → IsKept n
reports_keep b n seat t j answer right h = (reports_search b n seat t j answer right h).kept

pub report_moves : (b n : BookState) (seat t : ℕ) (j : Judgement) (done : Unit {0}) → Reports b seat t j (Ok done) n → IsKept b → MovesOn b t n
report_moves b n seat t j done h k = subst (MovesOn b t) (sym h.2) (on_from b seat t j.trial j.verdict k h.0)
