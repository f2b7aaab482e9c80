-- Claims keep what a book keeps.
use Rattle.std.proofs.Common.{◌≡◌, ℕ, ◌+◌, ◌<◌, inl, inr, List, [], ◌∷◌, ◌++◌, Option, Some, Result, Ok, Err, refl, sym, ◌∙◌, ap, subst, arith}
use Rattle.std.specs.List.{AllByRecursion}
use Rattle.chr_value.specs.Atoms.{Atom}
use Rattle.chr_log.specs.Events as log
use Rattle.chr_log.specs.declared.events.Version.TheVariants.{Two}
use Rattle.chr_model.specs.Stores.{Store, atom_at}
use Rattle.chr_model.specs.Goals.{Plain}
use Rattle.chr_model.specs.Steps as steps
use Rattle.chr_model.specs.Programs.{Instances}
use Rattle.chr_model.specs.Searches.{YoungestAreGoals}
use Rattle.chr_model.proofs.Stores.{atom_at-old}
use Rattle.chr_model.proofs.Once.{Lawful-once}
use Rattle.chr_model.proofs.Youngest.{young_activated}
use Rattle.chr_search.specs.Verdicts.{Placed, Trial}
use Rattle.chr_search.specs.Reach.{Searching}
use Rattle.chr_search.proofs.Searching.{begun, shrunk}
use Rattle.chr_search.proofs.Shrinking.{inserted_no_more}
use Rattle.chr_calls.specs.declared.answers.ClaimFault.{ClaimFault}
use Rattle.chr_calls.specs.declared.answers.ClaimFault.TheVariants as claim
use Rattle.chr_calls.specs.Tickets.{activated_by, held_by, ticket_at}
use Rattle.chr_calls.specs.Books.{BookState, goal_state, events, space_of}
use Rattle.chr_calls.specs.Calls.{activated, Claims}
use Rattle.chr_calls.specs.Headline.{IsCandidate, IsKept}
use Rattle.chr_calls.proofs.Tickets.{all_map, goal_there, goals_set, set_each, IsKeptTicket, ticket_kept, kept_without, still_kept, stepped_kept}
use Rattle.chr_calls.proofs.Leading.{was_plain, set_follows, searches_forget, Leads, leads_search, leads_same, leads_entry}

-- the goal state where an atom has entered the store
activated_state : (b : BookState) (seat t : ℕ) (a : Atom ℕ) → goal_state (activated b seat t a) ≡ steps.activated (goal_state b) t a
activated_state b seat t a = ap (λ gs. record { goals = gs; store = b.store ++ (b.next, a) ∷ []; next = b.next + 1 }) (goals_set b.tickets t (activated_by seat b.next))

-- labels that were given before have the atoms that they had
placed_before : (store : Store) (next : ℕ) (a : Atom ℕ) (ps : List Placed) → AllByRecursion (λ p. p.label < next) ps
    → AllByRecursion (λ p. (x : Atom ℕ) → atom_at store p.label ≡ Some x → x ≡ p.atom) ps
    → AllByRecursion (λ p. (x : Atom ℕ) → atom_at (store ++ (next, a) ∷ []) p.label ≡ Some x → x ≡ p.atom) ps
placed_before store next a [] low were = tt
placed_before store next a (p ∷ ps) low were =
    let less : p.label < next = low.0 in
    ((λ x at. were.0 x (atom_at-old store next a p.label x (λ (e : next ≡ p.label). absurd (omega arith)) at)), placed_before store next a ps low.1 were.1)

pub activated_keeps : (b : BookState) (seat t : ℕ) (a : Atom ℕ) → (ticket_at b.tickets t).goal ≡ Plain a → IsKept b → IsKept (activated b seat t a)
activated_keeps b seat t a plain k =
    stepped_kept b seat (log.Activate t b.next) n.store n.next n.tickets
    (record { atom = a; plain = goal_there b t ∙ plain; label = refl; after = activated_state b seat t a })
    (subst (YoungestAreGoals (Instances b.rules)) (sym (activated_state b seat t a)) (young_activated (Instances b.rules) (goal_state b) t a (Lawful-once Two (Instances b.rules) (events b) (goal_state b) k.lawful) (goal_there b t ∙ plain) k.youngest))
    tt
    (set_each (λ u. IsKeptTicket n) b.tickets t (activated_by seat b.next)
    (kept_without n (activated_by seat b.next) refl (λ l at. (let same : b.next ≡ l = cc in (omega arith, begun (space_of n l)))))
    (λ u. still_kept b n (ticket_at b.tickets u) (omega arith) searching moved (ticket_kept b k u))) k
  where
    n : BookState
    n = activated b seat t a

    searching : (l : ℕ) (place : List ℕ) (candidate : Option (List ℕ)) → l < b.next → Searching (space_of b l) place candidate → Searching (space_of n l) place candidate
    searching l place candidate less s = shrunk (space_of b l) k.plans n.store (inserted_no_more (space_of b l) b.next a less (omega arith)) place candidate s

    moved : (l : ℕ) (trial : Trial) → IsCandidate b l trial → IsCandidate n l trial
    moved l trial c = record {
      formed = c.formed;
      was = record { rule_is = c.was.rule_is; order = c.was.order; order_is = c.was.order_is; heads_are = c.was.heads_are; atoms = placed_before b.store b.next a trial.placed c.given c.was.atoms };
      active = c.active;
      given = all_map (λ (p : Placed). p.label < b.next) (λ (p : Placed). p.label < b.next + 1) (λ p low. omega arith) trial.placed c.given;
    }

pub claims_lead : (b n : BookState) (seat t : ℕ) (answer : Result ℕ ClaimFault) → Claims b seat t answer n → Leads b n []
claims_lead b n seat t (Err (claim.NotWaiting state)) h = leads_same b n h.2
claims_lead b n seat t (Err claim.LabelsSpent) h = leads_same b n h.2
claims_lead b n seat t (Err claim.NoMemory) h = leads_same b n h.1
claims_lead b n seat t (Ok l) (inl h) =
    leads_entry b n (activated b seat t h.atom) seat (log.Activate t b.next) h.after refl (activated_keeps b seat t h.atom h.goal) (λ k. set_follows b.tickets t (activated_by seat b.next) (was_plain h.atom h.goal))
claims_lead b n seat t (Ok l) (inr h) = leads_search b n (searches_forget b n t (held_by seat (ticket_at b.tickets t)) h.after refl refl refl)

pub claims_keep : (b n : BookState) (seat t : ℕ) (answer : Result ℕ ClaimFault) → Claims b seat t answer n → IsKept b → IsKept n
claims_keep b n seat t answer h = (claims_lead b n seat t answer h).kept
