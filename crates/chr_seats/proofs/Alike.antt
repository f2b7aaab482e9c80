-- Books that are alike to searches, and what is known of the trials in them.
use Rattle.std.proofs.Common.{◌≡◌, ℕ, zero, suc, ◌+◌, ◌-◌, ⊎_elim, Bool, List, [], ◌∷◌, length, length-append, map, Option, Some, None, IfSome, IfOk, Ok, Err, Result, refl, sym, ◌∙◌, ap, ap₂, subst, arith}
use Rattle.std.proofs.lemmas.List.{nil_from_length}
use Rattle.chr_log.specs.Events.{Entry}
use Rattle.chr_model.specs.Goals.{Numbered}
use Rattle.chr_search.specs.Positions.{just_after}
use Rattle.chr_search.specs.Reach.{SearchState}
use Rattle.chr_search.specs.Trials.{Space}
use Rattle.chr_search.specs.Verdicts.{Trial, position}
use Rattle.chr_search.specs.Judged.{Judgement}
use Rattle.chr_sheet.specs.Sheets.{IsNextTrial, AreNextInOrder, AreJudgedInOrder}
use Rattle.chr_calls.specs.declared.answers.TurnFault.{TurnFault}
use Rattle.chr_calls.specs.Tickets.{Ticket, ticket_at, with_candidate}
use Rattle.chr_calls.specs.Books.{BookState, space_of}
use Rattle.chr_calls.specs.declared.answers.ClaimFault.{ClaimFault}
use Rattle.chr_calls.specs.Batches.{Batch, Trials, Following, IsNextAfter, NoneAfter, AreChained, Sheets, ClaimsSheet, ReportsSheet}
use Rattle.chr_calls.specs.Batches as batch
use Rattle.chr_calls.proofs.Tickets.{ticket_same, numbered_within}
use Rattle.chr_book.specs.Books.{IsHeldSearch}
use Rattle.chr_seats.specs.declared.answers.HoldFault.{HoldFault}
use Rattle.chr_seats.specs.Accounts.{SeatState}
use Rattle.chr_seats.specs.Holds.{GoesOn, IsHold, Makes}
use Rattle.chr_seats.specs.Versions.{AreAlike, IsVersion, IsVersionOf, IsSearchOf, AreKnownNext, IsKnownOf, IsKnownAfter}

pub alike_self : (b : BookState) → AreAlike b b
alike_self b = record { rules = refl; plans = refl; store = refl }

pub alike_then : (b m n : BookState) → AreAlike b m → AreAlike m n → AreAlike b n
alike_then b m n x y = record { rules = y.rules ∙ x.rules; plans = y.plans ∙ x.plans; store = y.store ∙ x.store }

-- searches look through the same
space_same : (v b : BookState) (l : ℕ) → AreAlike v b → space_of b l ≡ space_of v l
space_same v b l a = rw (a.rules, a.plans, a.store) refl

-- a chain of trials, each of which comes next after the one before it
chained : (s : Space) (most : ℕ) (t : Trial) (ts : List Trial) → AreChained (IsNextAfter s) (NoneAfter s) most t ts → AreNextInOrder s (just_after (position t)) ts
chained s zero t [] c = tt
chained s zero t (u ∷ us) c = absurd c
chained s (suc most) t [] c = tt
chained s (suc most) t (u ∷ us) c = ((c.0.0, c.0.1), chained s most u us c.1)

-- the trials that are given come next in the ticket's search
sheet_next : (b : BookState) (seat t most : ℕ) (ts : List Trial) (n : BookState) (search : SearchState) → Sheets b seat t most (Ok (Trials ts)) n → IsHeldSearch n.tickets seat t search → AreNextInOrder (space_of n search.label) search.place ts
sheet_next b seat t most ts n search h held =
    let l : ℕ = h.turn.0 in
    let live = h.turn.1 in
    let next = h.turn.2 in
    let is = h.turn.3 in
    let within = numbered_within b.tickets t l live.holds.goal in
    let x : Ticket = with_candidate (Some h.first) (ticket_at b.tickets t) in
    let ticket : ticket_at n.tickets t ≡ x = ap (λ (m : BookState). ticket_at m.tickets t) is ∙ ticket_same b.tickets t x within in
    let label : search.label ≡ l = (let z : Numbered search.label ≡ Numbered l = sym held.holds.goal ∙ ap (λ (y : Ticket). y.goal) ticket ∙ live.holds.goal in cc) in
    let there : h.label ≡ l = (let z : Numbered h.label ≡ Numbered l = sym h.holds.holds.goal ∙ live.holds.goal in cc) in
    let place : search.place ≡ (ticket_at b.tickets t).position = held.place ∙ ap (λ (y : Ticket). y.position) ticket in
    let space : space_of n search.label ≡ space_of b l = ap₂ (λ (m : BookState) k. space_of m k) is label in
    let more = chained (space_of b l) (most - 1) h.first h.together.more (subst (λ k. AreChained (IsNextAfter (space_of b k)) (NoneAfter (space_of b k)) (most - 1) h.first h.together.more) there h.together.chained) in
    subst (λ us. AreNextInOrder (space_of n search.label) search.place us) (sym h.together.are)
    (subst (λ p. AreNextInOrder (space_of n search.label) p (h.first ∷ h.together.more)) (sym place)
    (subst (λ s. AreNextInOrder s (ticket_at b.tickets t).position (h.first ∷ h.together.more)) (sym space) ((next.next, next.is), more)))

-- so they are known to
pub given_known : (b : BookState) (seat t most : ℕ) (given : Result Batch TurnFault) (n : BookState) (book version : Option BookState) (search : SearchState) → Sheets b seat t most given n → book ≡ Some n → IsSearchOf book seat t version search → IsKnownOf version search given
given_known b seat t most (Err fault) n book version search h is k = tt
given_known b seat t most (Ok batch.Done) n book version search h is k = tt
given_known b seat t most (Ok batch.Gone) n book version search h is k = tt
given_known b seat t most (Ok (Trials ts)) n book version search h is k =
    let z : Some k.of.now ≡ Some n = sym k.of.book_is ∙ is in
    let same : k.of.now ≡ n = cc in
    let held = subst (λ (m : BookState). IsHeldSearch m.tickets seat t search) same k.held in
    record {
      book = k.of.then;
      is = k.of.version_is;
      next = subst (λ s. AreNextInOrder s search.place ts) (space_same k.of.then n search.label (subst (AreAlike k.of.then) same k.of.alike)) (sheet_next b seat t most ts n search h held);
    }

-- the search of a ticket over the version of the book
pub search_of : (now inside : Option BookState) (b : BookState) (seat t : ℕ) (version : Option BookState) (search : SearchState) → inside ≡ now → inside ≡ Some b → IsVersionOf now version → IsHeldSearch b.tickets seat t search → IsSearchOf now seat t version search
search_of now inside b seat t version search view is of held =
    let z : Some b ≡ Some of.now = sym is ∙ view ∙ of.book_is in
    let same : b ≡ of.now = cc in
    record { of = of; held = subst (λ (m : BookState). IsHeldSearch m.tickets seat t search) same held }

-- the same of what may be known, in a hold
module _ {K : Type 0} (version : K → Option BookState) (search : K → SearchState) where
  -- so far as a search may be known
  some_given : (known : Option K) (b : BookState) (seat t most : ℕ) (given : Result Batch TurnFault) (n : BookState) (now : Option BookState) → Sheets b seat t most given n → now ≡ Some n
      → IfSome known (λ k. IsSearchOf now seat t (version k) (search k)) → IfSome known (λ k. IsKnownOf (version k) (search k) given)
  some_given None b seat t most given n now h is k = tt
  some_given (Some x) b seat t most given n now h is k = given_known b seat t most given n now (version x) (search x) h is k

  some_claimed : (known : Option K) (b : BookState) (seat t most : ℕ) (claimed : Result (Result Batch TurnFault) ClaimFault) (n : BookState) (now : Option BookState) → ClaimsSheet b seat t most claimed n → now ≡ Some n
      → IfSome known (λ k. IsSearchOf now seat t (version k) (search k)) → IfSome known (λ k. IfOk claimed (λ given. IsKnownOf (version k) (search k) given))
  some_claimed None b seat t most claimed n now h is k = tt
  some_claimed (Some x) b seat t most (Err fault) n now h is k = tt
  some_claimed (Some x) b seat t most (Ok given) n now h is k = some_given (Some x) h.1 seat t most given n now h.3 is k

  pub all_given : {X : Type 0} (given : X → Result Batch TurnFault) (old new : Option BookState) (seat after : SeatState) (t most : ℕ) (r : Result (X × Option K) HoldFault) → IsHold (λ b answer n. Sheets b seat.number t most (given answer.0) n) old seat r new after
      → IfOk r (λ a. IfSome a.1 (λ k. IsSearchOf new seat.number t (version k) (search k))) → IfOk r (λ a. IfSome a.1 (λ k. IsKnownOf (version k) (search k) (given a.0)))
  all_given given old new seat after t most (Err fault) h k = tt
  all_given given old new seat after t most (Ok a) h k = some_given a.1 h.book seat.number t most (given a.0) h.next new h.call h.is_next k

  pub all_claimed : {X : Type 0} (claimed : X → Result (Result Batch TurnFault) ClaimFault) (old new : Option BookState) (seat after : SeatState) (t most : ℕ) (r : Result (X × Option K) HoldFault) → IsHold (λ b answer n. ClaimsSheet b seat.number t most (claimed answer.0) n) old seat r new after
      → IfOk r (λ a. IfSome a.1 (λ k. IsSearchOf new seat.number t (version k) (search k))) → IfOk r (λ a. IfSome a.1 (λ k. IfOk (claimed a.0) (λ given. IsKnownOf (version k) (search k) given)))
  all_claimed claimed old new seat after t most (Err fault) h k = tt
  all_claimed claimed old new seat after t most (Ok a) h k = some_claimed a.1 h.book seat.number t most (claimed a.0) h.next new h.call h.is_next k

  pub all_following : (known : Option K) (b : BookState) (seat t most : ℕ) (js : List Judgement) (reported : ℕ) (following : Following) (n : BookState) (mid now : Option BookState) (number : ℕ) → ReportsSheet b seat t most js reported following n → mid ≡ Some n → now ≡ mid → number ≡ seat
      → IfSome known (λ k. IsSearchOf now number t (version k) (search k)) → IfSome known (λ k. IsKnownAfter (version k) (search k) following)
  all_following None b seat t most js reported following n mid now number h is same seats k = tt
  all_following (Some x) b seat t most js reported (batch.Fire answer) n mid now number h is same seats k = tt
  all_following (Some x) b seat t most js reported (batch.Drop answer) n mid now number h is same seats k = tt
  all_following (Some x) b seat t most js reported (batch.Nothing fault) n mid now number h is same seats k = tt
  all_following (Some x) b seat t most js reported (batch.Sheet given) n mid now number h is same seats k = some_given (Some x) h.asked seat t most given n now h.follows.3 (same ∙ is) (subst (λ s. IsSearchOf now s t (version x) (search x)) seats k)

-- a hold leaves what is there then
pub makes_in : {Call : BookState → BookState → Type 0} {old mid now : Option BookState} {seat after : SeatState} → now ≡ mid → Makes Call old seat mid after → Makes Call old seat now after
makes_in {Call} {old} {mid} {now} {seat} {after} same made = subst (λ k. Makes Call old seat k after) (sym same) made

-- what is known of trials is known of those of them that are judged
judged_next : (s : Space) (place : List ℕ) (ts : List Trial) (js : List Judgement) → AreNextInOrder s place ts → AreJudgedInOrder ts js → AreNextInOrder s place (map (λ (j : Judgement). j.trial) js)
judged_next s place ts [] next judged = tt
judged_next s place [] (j ∷ js) next judged = absurd judged
judged_next s place (t ∷ ts) (j ∷ js) next judged =
    let here = subst (λ u. IsNextTrial s place u) (sym judged.0) next.0 in
    ⊎_elim
    (λ last. (here, subst (λ ks. AreNextInOrder s (just_after (position j.trial)) (map (λ (k : Judgement). k.trial) ks)) (sym last.1) tt))
    (λ more. (here, subst (λ u. AreNextInOrder s (just_after (position u)) (map (λ (k : Judgement). k.trial) js)) (sym judged.0) (judged_next s (just_after (position t)) ts js next.1 more.1)))
    judged.1

pub all_judged : {K : Type 0} (version : K → Option BookState) (search : K → SearchState) (known : Option K) (ts : List Trial) (js : List Judgement) → IfSome known (λ k. AreKnownNext (version k) (search k) ts) → AreJudgedInOrder ts js → IfSome known (λ k. AreKnownNext (version k) (search k) (map (λ (j : Judgement). j.trial) js))
all_judged version search None ts js k judged = tt
all_judged version search (Some x) ts js k judged = record { book = k.book; is = k.is; next = judged_next (space_of k.book (search x).label) (search x).place ts js k.next judged }

-- what is known of trials in the last version holds in the book, where its log is as long as at that version
pub known_here : (book : Option BookState) (entries : ℕ) (version : Option BookState) (b : BookState) (search : SearchState) (ts : List Trial) → IsVersion book entries version → book ≡ Some b → entries ≡ length b.log → AreKnownNext version search ts → AreNextInOrder (space_of b search.label) search.place ts
known_here book entries version b search ts is there count k =
    let at : IsVersion (Some b) entries (Some k.book) = subst (λ v. IsVersion (Some b) entries v) k.is (subst (λ o. IsVersion o entries version) there is) in
    subst (λ s. AreNextInOrder s search.place ts) (sym (space_same k.book b search.label (at.1 count))) k.next

-- ---- versions

pub version_on : (posts : Bool) (seat : ℕ) (book : Option BookState) (b n : BookState) (entries : ℕ) (version : Option BookState) → GoesOn posts seat b n → book ≡ Some b → IsVersion book entries version → IsVersion (Some n) entries version
version_on posts seat book b n entries None on there is = tt
version_on posts seat book b n entries (Some v) on there is =
    let at : IsVersion (Some b) entries (Some v) = subst (λ o. IsVersion o entries (Some v)) there is in
    let longer : length n.log ≡ length b.log + length on.more = ap (λ (l : List (Entry ℕ)). length l) on.log ∙ length-append b.log on.more in (
      omega (arith, at.0),
      λ e.
          let none : length on.more ≡ 0 = omega (arith, at.0) in
          let same : entries ≡ length b.log = omega (arith, at.0) in
          alike_then v b n (at.1 same) (on.still (nil_from_length on.more none)),
    )

-- a version that is added, and one that is there already
pub version_added : (book : Option BookState) (b : BookState) (entries : ℕ) (version : Option BookState) → book ≡ Some b → version ≡ Some b → entries ≡ length b.log → IsVersion book entries version × IsVersionOf book version
version_added book b entries version there is count = (
  subst (λ o. IsVersion o entries version) (sym there) (subst (λ v. IsVersion (Some b) entries v) (sym is) (omega (arith, count), λ e. alike_self b)),
  record { now = b; book_is = there; then = b; version_is = is; alike = alike_self b },
)

pub version_there : (book : Option BookState) (b : BookState) (entries : ℕ) (version : Option BookState) → IsVersion book entries version → book ≡ Some b → entries ≡ length b.log → (version ≡ None → ⊥) → IsVersionOf book version
version_there book b entries None is there count some = absurd (some refl)
version_there book b entries (Some v) is there count some =
    let at : IsVersion (Some b) entries (Some v) = subst (λ o. IsVersion o entries (Some v)) there is in
    record { now = b; book_is = there; then = v; version_is = refl; alike = at.1 count }

pub version_none : (book : Option BookState) (entries : ℕ) (version : Option BookState) → version ≡ None → IsVersion book entries version
version_none None entries version is = is
version_none (Some b) entries version is = subst (IsVersion (Some b) entries) (sym is) tt
