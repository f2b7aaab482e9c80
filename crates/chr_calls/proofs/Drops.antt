-- A goal that is dropped.
use Rattle.std.proofs.Common.{◌≡◌, ℕ, List, [], Some, None, Result, Ok, Err, refl, sym, ◌∙◌, ap, subst}
use Rattle.std.specs.Option.{option_map}
use Rattle.chr_log.specs.Events.{Drop}
use Rattle.chr_model.specs.Stores.{atom_at}
use Rattle.chr_model.specs.Goals.{Goal, Numbered, goal_at}
use Rattle.chr_model.specs.Steps as steps
use Rattle.chr_model.specs.Programs.{Instances}
use Rattle.chr_model.specs.Searches.{NoneYoungest, YoungestAreGoals}
use Rattle.chr_model.proofs.Stores.{Labelled-there}
use Rattle.chr_model.proofs.Youngest.{older_done, young_dropped}
use Rattle.chr_search.specs.Verdicts.{position}
use Rattle.chr_search.proofs.Searching.{none_youngest}
use Rattle.chr_calls.specs.declared.answers.Dropping.{Dropping}
use Rattle.chr_calls.specs.declared.answers.Dropping.TheVariants as dropping
use Rattle.chr_calls.specs.declared.answers.DropFault.{DropFault}
use Rattle.chr_calls.specs.declared.answers.DropFault.TheVariants as drop
use Rattle.chr_calls.specs.Tickets.{ended, ticket_at}
use Rattle.chr_calls.specs.Books.{BookState, goal_state}
use Rattle.chr_calls.specs.Calls.{MayBeDropped, Drops, dropped}
use Rattle.chr_calls.specs.Headline.{IsKept}
use Rattle.chr_calls.proofs.Tickets.{goal_there, goals_set, set_each, IsKeptTicket, ticket_kept, ended_kept, kept_beside, stepped_kept}
use Rattle.chr_calls.proofs.Leading.{is_over, set_follows, Leads, leads_same, leads_entry}

-- no instance has the label of a goal that may be dropped as its youngest
none_youngest_left : (b : BookState) → IsKept b → (t l : ℕ) → (ticket_at b.tickets t).goal ≡ Numbered l → MayBeDropped b t l → NoneYoungest (Instances b.rules) b.store l
none_youngest_left b k t l at may =
    elim (atom_at b.store l) as (λ o. (atom_at b.store l ≡ o) → NoneYoungest (Instances b.rules) b.store l) [
      | None ↦ λ e r kept removed body y i.
          let there = Labelled-there (Instances b.rules) b.store r kept removed body l y.there i in
          absurd (let z : None ≡ Some there.0 = sym e ∙ there.1 in cc)
      | Some a ↦ λ e. none_youngest b.rules b.plans k.plans b.store l (ticket_at b.tickets t).position (option_map position (ticket_at b.tickets t).candidate) (k.searching t l at) (may (a, e))
    ] refl

dropped_kept : (b : BookState) (seat t l : ℕ) → (ticket_at b.tickets t).goal ≡ Numbered l → MayBeDropped b t l → IsKept b → IsKept (dropped b seat t)
dropped_kept b seat t l at may k =
    let n = dropped b seat t in
    let at_goal : goal_at (goal_state b) t ≡ Numbered l = goal_there b t ∙ at in
    let none : NoneYoungest (Instances b.rules) b.store l = none_youngest_left b k t l at may in
    let after : goal_state n ≡ steps.ended (goal_state b) t = ap (λ (gs : List Goal). record { goals = gs; store = b.store; next = b.next }) (goals_set b.tickets t ended) in
    stepped_kept b seat (Drop t) b.store b.next n.tickets
    (record { label = l; numbered = at_goal; done = older_done (Instances b.rules) (goal_state b) l k.youngest none; after = after })
    (subst (YoungestAreGoals (Instances b.rules)) (sym after) (young_dropped (Instances b.rules) (goal_state b) t l at_goal none k.youngest))
    tt
    (set_each (λ u. IsKeptTicket n) b.tickets t ended (ended_kept n) (λ u. kept_beside b b.names n.log n.tickets (ticket_at b.tickets u) (ticket_kept b k u))) k

pub drops_lead : (b n : BookState) (seat t : ℕ) (answer : Result Dropping DropFault) → Drops b seat t answer n → Leads b n []
drops_lead b n seat t (Err drop.NotHeld) h = leads_same b n h.1
drops_lead b n seat t (Err drop.NoMemory) h = leads_same b n h.3
drops_lead b n seat t (Ok dropping.Dropped) h = leads_entry b n (dropped b seat t) seat (Drop t) h.3 refl (dropped_kept b seat t h.0 h.1.goal h.2) (λ k. set_follows b.tickets t ended (is_over refl))
drops_lead b n seat t (Ok dropping.Unfinished) h = leads_same b n h.3

pub drops_keep : (b n : BookState) (seat t : ℕ) (answer : Result Dropping DropFault) → Drops b seat t answer n → IsKept b → IsKept n
drops_keep b n seat t answer h = (drops_lead b n seat t answer h).kept
