use Rattle.std.proofs.Common.{rules, ◌≡◌, ◌+◌, ◌<◌, ◌∙◌, ap, sym, arith, length, refl}
use Rattle.chr_seats.specs.declared.counts.Counts.{Counts}
use Rattle.chr_seats.specs.Accounts.{counts_in, made_upto}
use Rattle.chr_seats.proofs.Accounts.{upto-more, pushed}
use Rattle.chr_seats.proofs.seating.push_seats.Goals as goal

pub loop-k-preserved : goal.loop-k-preserved
loop-k-preserved g c =
    let k = c.loop-k.k in
    let from = c.args.from in
    let was = c.loop-k.invariant in
    let in_time : from + k < 32 = omega (arith, c.requires.from, c.loop-k-test.true) in
    let len : length c.loop-k.seats.items ≡ k = search rules in
    let shift : from + (k + 1) ≡ from + k + 1 = omega arith in (
      search rules,
      search rules,
      (λ j d. pushed (λ i s. s.number ≡ from + i + 1) c.loop-k.seats.items c.push_reserved.new.self.items _ d k len c.push_reserved.ensures.items refl (λ i. was.2 i d) j),
      (λ log each j d. pushed (λ i s. s.counts ≡ counts_in log (from + i + 1)) c.loop-k.seats.items c.push_reserved.new.self.items _ d k len c.push_reserved.ensures.items (each (from + k) _ in_time) (λ i. was.3 log each i d) j),
      (λ log each first.
          let total : c.part_with-post_part.new.opened.book.total ≡ (made_upto (from + k + 1) log).posts = omega (arith, c.part_with-post_part.ensures.total, was.4 log each first, ap (λ (n : Counts). n.posts) (each (from + k) (record { posts = 0; others = 0 }) in_time), (upto-more (from + k) log).0) in
          total ∙ ap (λ m. (made_upto m log).posts) (sym shift)),
      (λ log each first.
          let total : c.part_with-other_part.new.opened.book.total ≡ (made_upto (from + k + 1) log).others = omega (arith, c.part_with-other_part.ensures.total, was.5 log each first, ap (λ (n : Counts). n.others) (each (from + k) (record { posts = 0; others = 0 }) in_time), (upto-more (from + k) log).1) in
          total ∙ ap (λ m. (made_upto m log).others) (sym shift)),
    )
