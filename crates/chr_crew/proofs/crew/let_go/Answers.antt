use Rattle.std.proofs.Common.{◌≡◌, ◌+◌, List, ap, ◌∙◌, sym}
use Rattle.std.specs.Prelude.{Option, Some}
use Rattle.std.specs.List.{sum_by}
use Rattle.chr_calls.specs.Books.{BookState}
use Rattle.chr_seats.specs.Accounts.{SeatState, log_of, made_upto}
use Rattle.chr_crew.proofs.crew.let_go.Goals as goal

pub returns-clause-posts : goal.returns-clause-posts
returns-clause-posts g c =
    let book : c.args.kept ≡ Some c.in-Some.book = sym c.audit.ensures.same ∙ sym c.into_book.ensures.same ∙ c.in-Some.is in
    ap (λ (seats : List SeatState). sum_by (λ s. s.counts.posts) seats + sum_by (λ s. s.counts.posts) c.args.seats.sessions.items) (sym c.part_all.ensures.seats)
    ∙ c.audit.ensures.posts ∙ ap (λ (kept : Option BookState). (made_upto 32 (log_of kept)).posts) book

pub returns-clause-others : goal.returns-clause-others
returns-clause-others g c =
    let book : c.args.kept ≡ Some c.in-Some.book = sym c.audit.ensures.same ∙ sym c.into_book.ensures.same ∙ c.in-Some.is in
    ap (λ (seats : List SeatState). sum_by (λ s. s.counts.others) seats + sum_by (λ s. s.counts.others) c.args.seats.sessions.items) (sym c.part_all.ensures.seats)
    ∙ c.audit.ensures.others ∙ ap (λ (kept : Option BookState). (made_upto 32 (log_of kept)).others) book
