-- Tickets that are put down and stray marks keep what a book keeps.
use Rattle.std.proofs.Common.{◌≡◌, ℕ, Bool, true, false, Option, Some, None, Result, Ok, Err, refl, ◌∙◌, ap}
use Rattle.chr_calls.specs.declared.answers.PutDownFault.{PutDownFault}
use Rattle.chr_calls.specs.declared.answers.PutDownFault.TheVariants as put_down_fault
use Rattle.chr_calls.specs.declared.answers.MarkFault.{MarkFault}
use Rattle.chr_calls.specs.declared.answers.MarkFault.TheVariants as mark
use Rattle.chr_calls.specs.Tickets.{put_down, marked, ticket_at}
use Rattle.chr_calls.specs.Books.{BookState, with_tickets, with_ticket}
use Rattle.chr_calls.specs.Calls.{PutsDown, Marks, TakesStray}
use Rattle.chr_calls.specs.Headline.{IsKept}
use Rattle.chr_calls.proofs.Tickets.{kept_with}
use Rattle.chr_calls.proofs.Leading.{Searches, searches_same, searches_stay, searches_forget}

pub put_downs_search : (b n : BookState) (seat t : ℕ) (answer : Result (Unit {0}) PutDownFault) → PutsDown b seat t answer n → Searches b n
put_downs_search b n seat t (Err put_down_fault.NotHeld) h = searches_same b n h.1
put_downs_search b n seat t (Ok done) h = searches_forget b n t (put_down (ticket_at b.tickets t)) h.1 refl refl refl

pub put_downs_keep : (b n : BookState) (seat t : ℕ) (answer : Result (Unit {0}) PutDownFault) → PutsDown b seat t answer n → IsKept b → IsKept n
put_downs_keep b n seat t answer h = (put_downs_search b n seat t answer h).kept

-- a mark is no part of what is kept
marked_search : (b n : BookState) (t : ℕ) (mark : Bool) → n ≡ with_ticket b t (marked mark (ticket_at b.tickets t)) → Searches b n
marked_search b n t mark is =
    searches_stay b n t (marked mark (ticket_at b.tickets t)) is refl refl
    (λ k. kept_with b t (marked mark (ticket_at b.tickets t)) refl (record { given = k.given t; searching = k.searching t; candidates = k.candidates t; ahead = k.ahead t }) k)

pub marks_search : (b n : BookState) (t : ℕ) (answer : Result (Unit {0}) MarkFault) → Marks b t answer n → Searches b n
marks_search b n t (Err (mark.NotWaiting state)) h = searches_same b n h.2
marks_search b n t (Ok done) h = marked_search b n t true h.1

pub marks_keep : (b n : BookState) (t : ℕ) (answer : Result (Unit {0}) MarkFault) → Marks b t answer n → IsKept b → IsKept n
marks_keep b n t answer h = (marks_search b n t answer h).kept

pub strays_search : (b n : BookState) (answer : Option ℕ) → TakesStray b answer n → Searches b n
strays_search b n None h = searches_same b n (h.2 ∙ ap (with_tickets b) h.1.1)
strays_search b n (Some t) h = marked_search b n t false (h.2 ∙ ap (with_tickets b) h.1.2)

pub strays_keep : (b n : BookState) (answer : Option ℕ) → TakesStray b answer n → IsKept b → IsKept n
strays_keep b n answer h = (strays_search b n answer h).kept
