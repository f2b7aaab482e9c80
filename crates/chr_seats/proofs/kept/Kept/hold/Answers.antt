use Rattle.std.proofs.Common.{rules, ◌∙◌, sym, refl}
use Rattle.chr_seats.proofs.Alike.{version_on}
use Rattle.chr_seats.proofs.Accounts.{left, fits}
use Rattle.chr_seats.proofs.kept.Kept.hold.Goals as goal

pub raise-requires-clause-posts : goal.raise-requires-clause-posts
raise-requires-clause-posts g c = (fits c.args.self.now c.in-Some.book c.make-answer.new.book c.args.seat.now.number _ c.args.seat.now.counts (sym c.self.view_is ∙ c.in-Some.is) c.make-answer.ensures.count (c.knows.ensures.0 c.if-not-knows.false) c.make-answer.ensures.room).0

pub raise-requires-clause-others : goal.raise-requires-clause-others
raise-requires-clause-others g c = (fits c.args.self.now c.in-Some.book c.make-answer.new.book c.args.seat.now.number _ c.args.seat.now.counts (sym c.self.view_is ∙ c.in-Some.is) c.make-answer.ensures.count (c.knows.ensures.0 c.if-not-knows.false) c.make-answer.ensures.room).1

pub invariant_of-self-2 : goal.invariant_of-self-2
invariant_of-self-2 g c = (
  (left c.args.are_posts _ c.self.inside.book c.args.self.now c.in-Some.book c.make-answer.new.book c.number-number.result c.args.seat.now.number c.make-answer.result.1 c.args.seat.now.counts c.raise.new.seat.counts c.self.inside.counts c.raise.new.counts _ _ _ _
      c.self.view_is c.in-Some.is (search rules) c.number-number.ensures.same c.number-number.ensures.range.0 c.number-number.ensures.range.1 c.requires.posts c.make-answer.ensures.goes_on c.make-answer.ensures.count
      c.self.invariant.0 (c.knows.ensures.0 c.if-not-knows.false) c.raise.ensures.seat c.raise.ensures.counts c.raise.ensures.post_total c.raise.ensures.other_total).0,
  λ loaded. search rules,
  version_on _ _ c.self.inside.book c.in-Some.book c.make-answer.new.book c.self.inside.entries c.self.inside.versions c.make-answer.ensures.goes_on c.in-Some.is c.self.invariant.2,
)

pub returns-clause-hold : goal.returns-clause-hold
returns-clause-hold g c =
    let at = left c.args.are_posts _ c.self.inside.book c.args.self.now c.in-Some.book c.make-answer.new.book c.number-number.result c.args.seat.now.number c.make-answer.result.1 c.args.seat.now.counts c.raise.new.seat.counts c.self.inside.counts c.raise.new.counts _ _ _ _
    c.self.view_is c.in-Some.is (search rules) c.number-number.ensures.same c.number-number.ensures.range.0 c.number-number.ensures.range.1 c.requires.posts c.make-answer.ensures.goes_on c.make-answer.ensures.count
    c.self.invariant.0 (c.knows.ensures.0 c.if-not-knows.false) c.raise.ensures.seat c.raise.ensures.counts c.raise.ensures.post_total c.raise.ensures.other_total in
    record {
      book = c.in-Some.book;
      is = sym c.self.view_is ∙ c.in-Some.is;
      next = c.make-answer.new.book;
      is_next = refl;
      call = rw (sym c.number-number.ensures.same) c.make-answer.ensures.line;
      headline_before = c.make-answer.ensures.headline_before;
      headline_now = c.make-answer.ensures.headline_now;
      number = c.raise.ensures.number;
      before = at.2;
      now = at.1;
    }
