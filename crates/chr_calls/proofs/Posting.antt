-- Posts keep what a book keeps.
use Rattle.std.proofs.Common.{◌≡◌, ℕ, List, [], ◌∷◌, length, length-take, take, ◌≤◌, Result, Ok, Err, refl, sym, ap, subst, arith}
use Rattle.std.proofs.lemmas.List.{length-map}
use Rattle.std.specs.List.{AllByRecursion}
use Rattle.chr_value.specs.Atoms.{Atom, TermIsNamed, AtomIsNamed}
use Rattle.chr_value.specs.Naming.{Table}
use Rattle.chr_value.proofs.Said.{term_later}
use Rattle.chr_log.specs.Events.{Post}
use Rattle.chr_model.specs.Steps as steps
use Rattle.chr_model.specs.Logs.{posted_by}
use Rattle.chr_model.specs.Programs.{Instances}
use Rattle.chr_model.specs.Searches.{YoungestAreGoals}
use Rattle.chr_model.proofs.Youngest.{young_posted}
use Rattle.chr_search.proofs.Positions.{after_itself}
use Rattle.chr_calls.specs.declared.answers.PostFault.{PostFault}
use Rattle.chr_calls.specs.declared.answers.PostFault.TheVariants as post
use Rattle.chr_calls.specs.Tickets.{Ticket, waiting, ticket_at}
use Rattle.chr_calls.specs.Books.{BookState, goal_state, events, with_names}
use Rattle.chr_calls.specs.Calls.{posted, all_posted, AreNamed, Posts}
use Rattle.chr_calls.specs.Runs.{posts_of}
use Rattle.chr_calls.specs.Runs as calls
use Rattle.chr_calls.specs.Headline.{IsKept}
use Rattle.chr_calls.proofs.Tickets.{all_map, goals_appended, waiting_each, IsKeptTicket, ticket_kept, waiting_kept, kept_beside, book_kept, stepped_kept}
use Rattle.chr_calls.proofs.Leading.{more_follow, Searches, Leads, leads_search, leads_same, leads_entry, leads_by}

-- a longer table has the names that a shorter one has
atoms_later : (m n : ℕ) (as' : List (Atom ℕ)) → m ≤ n → AllByRecursion (AtomIsNamed m) as' → AllByRecursion (AtomIsNamed n) as'
atoms_later m n as' le =
    all_map (AtomIsNamed m) (AtomIsNamed n)
    (λ a named. record { name = (let lt = named.name in omega (arith, lt, le)); args = all_map (TermIsNamed m) (TermIsNamed n) (λ v. term_later m n v le) a.args named.args }) as'

-- names are entered after those that are there
pub renamed_keeps : (b : BookState) (table : Table) → take (length b.names) table ≡ b.names → IsKept b → IsKept (with_names b table)
renamed_keeps b table keeps k =
    let taken = length-take (length b.names) table in
    let same = ap length keeps in
    book_kept (with_names b table) k.plans k.lawful k.youngest (atoms_later (length b.names) (length table) (posted_by (events b)) (omega (arith, taken, same)) k.named)
    (λ t. kept_beside b table b.log b.tickets (ticket_at b.tickets t) (ticket_kept b k t))

-- the goal state where an atom is posted
posted_state : (b : BookState) (seat : ℕ) (a : Atom ℕ) → goal_state (posted b seat a) ≡ steps.posted (goal_state b) a
posted_state b seat a = ap (λ gs. record { goals = gs; store = b.store; next = b.next }) (goals_appended b.tickets (waiting a ∷ []))

pub posted_keeps : (b : BookState) (seat : ℕ) (a : Atom ℕ) → AtomIsNamed (length b.names) a → IsKept b → IsKept (posted b seat a)
posted_keeps b seat a one k =
    let n = posted b seat a in
    stepped_kept b seat (Post (length b.tickets) a) b.store b.next n.tickets
    (record { ticket = sym (length-map b.tickets (λ (x : Ticket). x.goal)); after = posted_state b seat a })
    (subst (YoungestAreGoals (Instances b.rules)) (sym (posted_state b seat a)) (young_posted (Instances b.rules) (goal_state b) a k.youngest))
    (one, tt)
    (waiting_each (IsKeptTicket n) b.tickets (a ∷ []) (waiting_kept n) (λ t. kept_beside b b.names n.log n.tickets (ticket_at b.tickets t) (ticket_kept b k t))) k

all_posted_lead : (b : BookState) (seat : ℕ) (atoms : List (Atom ℕ)) → AreNamed b atoms → Leads b (all_posted b seat atoms) atoms
all_posted_lead b seat [] all = leads_same b b refl
all_posted_lead b seat (a ∷ atoms) all =
    let n = posted b seat a in
    leads_by b n (all_posted n seat atoms) (a ∷ []) atoms
    (leads_entry b n n seat (Post (length b.tickets) a) refl refl (posted_keeps b seat a all.0) (λ k. more_follow b.tickets (waiting a ∷ []))) (all_posted_lead n seat atoms all.1)

pub posts_lead : (b n : BookState) (seat : ℕ) (atoms : List (Atom ℕ)) (answer : Result ℕ PostFault) → (made : Posts b seat atoms answer n) → Leads b n (posts_of {b = b} {n = n} {seat = seat} (calls.Post atoms answer made))
posts_lead b n seat atoms (Err post.UnknownName) h = leads_same b n h.1
posts_lead b n seat atoms (Err post.NoMemory) h = leads_same b n h.1
posts_lead b n seat atoms (Ok first) h = subst (λ (m : BookState). Leads b m atoms) (sym h.2) (all_posted_lead b seat atoms h.0)

pub posts_keep : (b n : BookState) (seat : ℕ) (atoms : List (Atom ℕ)) (answer : Result ℕ PostFault) → Posts b seat atoms answer n → IsKept b → IsKept n
posts_keep b n seat atoms answer h = (posts_lead b n seat atoms answer h).kept

-- names are entered first
pub texts_lead : (b n : BookState) (seat : ℕ) (table : Table) (atoms : List (Atom ℕ)) (first : ℕ) → take (length b.names) table ≡ b.names → Posts (with_names b table) seat atoms (Ok first) n → Leads b n atoms
texts_lead b n seat table atoms first keeps made =
    let named : Searches b (with_names b table) = record { silent = refl; many = refl; goals = λ u. refl; kept = renamed_keeps b table keeps; on = λ k u. after_itself (ticket_at b.tickets u).position } in
    leads_by b (with_names b table) n [] atoms (leads_search b (with_names b table) named) (posts_lead (with_names b table) n seat atoms (Ok first) made)
