-- The headline, and that no call moves the position of a search back.
use Rattle.std.proofs.Common.{◌≡◌, ℕ, zero, suc, List, [], ◌∷◌, Some, None, Result, refl, ◌∙◌, subst, true, sym}
use Rattle.chr_value.specs.Atoms.{Atom}
use Rattle.chr_rule.specs.Rules.{Simpagation}
use Rattle.chr_log.specs.declared.events.Version.TheVariants.{Two}
use Rattle.chr_model.specs.Logs.{posted_by}
use Rattle.chr_model.specs.Programs.{Instances}
use Rattle.chr_model.proofs.Stores.{Labelled-there}
use Rattle.chr_model.proofs.Quiet.{quiet_final}
use Rattle.chr_model.proofs.Once.{removed_once}
use Rattle.chr_model.proofs.Erasure.{Lawful-erased}
use Rattle.chr_model.proofs.Programs.{program_removes}
use Rattle.chr_plan.specs.Plans.{PlanList, ArePlans}
use Rattle.chr_search.specs.Judged.{Judgement, IsVerdict}
use Rattle.chr_calls.specs.declared.answers.TurnFault.{TurnFault}
use Rattle.chr_calls.specs.declared.answers.ReportFault.{ReportFault}
use Rattle.chr_calls.specs.declared.answers.Firing.{Firing}
use Rattle.chr_calls.specs.declared.answers.FireFault.{FireFault}
use Rattle.chr_calls.specs.declared.answers.Dropping.{Dropping}
use Rattle.chr_calls.specs.declared.answers.DropFault.{DropFault}
use Rattle.chr_calls.specs.Turns.{Turn}
use Rattle.chr_calls.specs.Tickets.{ended, ticket_at}
use Rattle.chr_calls.specs.Books.{BookState, opened, goal_state, events}
use Rattle.chr_calls.specs.Calls.{Turns, Reports, FiresOrMisses, Drops}
use Rattle.chr_calls.specs.Batches.{Batch, BatchReport, Batches, ReportsBatch, AreRight}
use Rattle.chr_calls.specs.Runs.{Call, Run, posts_of, all_posts}
use Rattle.chr_calls.specs.Headline.{Headline, IsKept}
use Rattle.chr_calls.proofs.Tickets.{goal_there, IsKeptTicket, ended_kept, book_kept, numbered_within}
use Rattle.chr_calls.proofs.Leading.{HasPosted, Leads, leads_search, leads_same, leads_by, Comes, was_plain, is_searched, is_over, Follow}
use Rattle.chr_calls.proofs.Posting.{posts_lead, texts_lead}
use Rattle.chr_calls.proofs.Claiming.{claims_lead}
use Rattle.chr_calls.proofs.Marking.{put_downs_search, marks_search, strays_search}
use Rattle.chr_calls.proofs.Turning.{turns_search, reports_search}
use Rattle.chr_calls.proofs.Batching.{batches_search, all_search}
use Rattle.chr_calls.proofs.Fires.{fires_lead}
use Rattle.chr_calls.proofs.Drops.{drops_lead}
use Rattle.chr_model.specs.Goals.{Plain, Numbered}
use Rattle.chr_search.specs.Positions.{at_or_after}
use Rattle.chr_calls.specs.Moves.{NoneMovesBack}
use Rattle.chr_calls.specs.Runs as calls
use Rattle.chr_model.specs.Goals as goals

-- ---- what a book keeps gives the headline, and runs keep it

-- ---- a book as it is opened

-- each ticket of it has ended
opened_each : (b : BookState) (t : ℕ) → IsKeptTicket b (ticket_at (ended ∷ []) t)
opened_each b zero = ended_kept b
opened_each b (suc t) = ended_kept b

pub opened_kept : (rules : List (Simpagation ℕ)) (plans : PlanList) (names : List (List ℕ)) (limit : ℕ) → ArePlans rules plans → IsKept (opened rules plans names limit)
opened_kept rules plans names limit ps =
    book_kept (opened rules plans names limit) ps refl
    (λ r kept removed body i y h. absurd (let there = Labelled-there (Instances rules) [] r kept removed body y h.there i in let z : None ≡ Some there.0 = there.1 in cc)) tt
    (opened_each (opened rules plans names limit))

-- ---- the headline

pub kept_headline : (b : BookState) → IsKept b → Headline b (posted_by (events b))
kept_headline b k = record {
  lawful = k.lawful;
  posts_are = refl;
  run = Lawful-erased Two (Instances b.rules) (events b) (goal_state b) k.lawful;
  once = removed_once Two (Instances b.rules) (events b) (goal_state b) k.lawful;
  final = λ quiet. quiet_final Two (Instances b.rules) (program_removes b.rules) (events b) (goal_state b) k.lawful (λ t. goal_there b t ∙ quiet t);
}

-- ---- calls

pub call_leads : (b n : BookState) (seat : ℕ) (call : Call b seat n) → Leads b n (posts_of call)
call_leads b n seat (calls.Post atoms answer made) = posts_lead b n seat atoms answer made
call_leads b n seat (calls.PostText table atoms first keeps made) = texts_lead b n seat table atoms first keeps made
call_leads b n seat (calls.Claim t answer made) = claims_lead b n seat t answer made
call_leads b n seat (calls.Trial t answer made) = leads_search b n (turns_search b n seat t answer made)
call_leads b n seat (calls.Report t j answer right made) = leads_search b n (reports_search b n seat t j answer right made)
call_leads b n seat (calls.Fire t j answer right made) = fires_lead b n seat t j answer right made
call_leads b n seat (calls.DropGoal t answer made) = drops_lead b n seat t answer made
call_leads b n seat (calls.PutDown t answer made) = leads_search b n (put_downs_search b n seat t answer made)
call_leads b n seat (calls.MarkStray t answer made) = leads_search b n (marks_search b n t answer made)
call_leads b n seat (calls.TakeStray answer made) = leads_search b n (strays_search b n answer made)
call_leads b n seat (calls.Batch t answer made) = leads_search b n (batches_search b n seat t answer made)
call_leads b n seat (calls.ReportBatch t js answer right made) = leads_search b n (all_search seat t b n js answer.reported answer.next right made).0

pub call_posts : (b n : BookState) (seat : ℕ) (call : Call b seat n) → HasPosted b n (posts_of call)
call_posts b n seat call = (call_leads b n seat call).posted

-- what is shown of trials, reports, firings, drops and batches
pub record SearchesKeep : Type 0 where
  pub turns : (b n : BookState) (seat t : ℕ) (answer : Result Turn TurnFault) → Turns b seat t answer n → IsKept b → IsKept n
  pub reports : (b n : BookState) (seat t : ℕ) (j : Judgement) (answer : Result (Unit {0}) ReportFault) → IsVerdict j.trial j.verdict → Reports b seat t j answer n → IsKept b → IsKept n
  pub fires : (b n : BookState) (seat t : ℕ) (j : Judgement) (answer : Result Firing FireFault) → IsVerdict j.trial j.verdict → FiresOrMisses b seat t j answer n → IsKept b → IsKept n
  pub drops : (b n : BookState) (seat t : ℕ) (answer : Result Dropping DropFault) → Drops b seat t answer n → IsKept b → IsKept n
  pub batches : (b n : BookState) (seat t : ℕ) (answer : Result Batch TurnFault) → Batches b seat t answer n → IsKept b → IsKept n
  pub batch_reports : (b n : BookState) (seat t : ℕ) (js : List Judgement) (answer : BatchReport) → AreRight js → ReportsBatch b seat t js answer n → IsKept b → IsKept n

pub call_keeps : SearchesKeep → (b n : BookState) (seat : ℕ) → Call b seat n → IsKept b → IsKept n
call_keeps s b n seat call = (call_leads b n seat call).kept

-- ---- runs

pub run_leads : (b : BookState) (posts : List (List (Atom ℕ))) (n : BookState) → Run b posts n → Leads b n (all_posts posts)
run_leads b [] n run = leads_same b n run
run_leads b (posts ∷ more) n run = leads_by b run.0 n posts (all_posts more) (subst (Leads b run.0) run.3 (call_leads b run.0 run.1 run.2)) (run_leads run.0 more n run.4)

pub run_headline : (rules : List (Simpagation ℕ)) (plans : PlanList) (names : List (List ℕ)) (limit : ℕ) (posts : List (List (Atom ℕ))) (n : BookState) → ArePlans rules plans → Run (opened rules plans names limit) posts n → Headline n (all_posts posts)
run_headline rules plans names limit posts n ps run =
    let leads = run_leads (opened rules plans names limit) posts n run in
    subst (Headline n) leads.posted (kept_headline n (leads.kept (opened_kept rules plans names limit ps)))

-- ---- no call moves the position of a search back

none_back : (b n : BookState) → Follow b.tickets n.tickets → NoneMovesBack b n
none_back b n f t before after = of_comes (f.each t (numbered_within b.tickets t before.0 before.1))
  where
    of_comes : Comes (ticket_at b.tickets t) (ticket_at n.tickets t) → at_or_after (ticket_at b.tickets t).position (ticket_at n.tickets t).position ≡ true
    of_comes (was_plain a e) = absurd (let z : Numbered before.0 ≡ Plain a = sym before.1 ∙ e in cc)
    of_comes (is_searched e h) = h
    of_comes (is_over e) = absurd (let z : Numbered after.0 ≡ goals.Ended = sym after.1 ∙ e in cc)

pub call_moves : (b n : BookState) (seat : ℕ) → Call b seat n → IsKept b → NoneMovesBack b n
call_moves b n seat call k = none_back b n ((call_leads b n seat call).follows k)

pub run_moves : (b n : BookState) (posts : List (List (Atom ℕ))) → Run b posts n → IsKept b → NoneMovesBack b n
run_moves b n posts run k = none_back b n ((run_leads b posts n run).follows k)
