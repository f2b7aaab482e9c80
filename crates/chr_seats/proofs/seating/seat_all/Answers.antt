use Rattle.std.proofs.Common.{◌∙◌, sym}
use Rattle.chr_seats.proofs.Accounts.{upto-none}
use Rattle.chr_seats.proofs.seating.seat_all.Goals as goal

pub returns-clause-counted : goal.returns-clause-counted
returns-clause-counted g c log each =
    record {
      each = each;
      posts_are = c.push_seats-2.ensures.posts log each (c.push_seats.ensures.posts log each (c.open-posts.ensures.total ∙ sym (upto-none log).0));
      others_are = c.push_seats-2.ensures.others log each (c.push_seats.ensures.others log each (c.open-others.ensures.total ∙ sym (upto-none log).1));
    }
