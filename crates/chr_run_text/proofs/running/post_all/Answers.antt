use Rattle.std.proofs.Common.{◌≤◌, length, subst, sym, arith}
use Rattle.std.proofs.lemmas.List.{length-map}
use Rattle.chr_run_text.specs.RunTexts.{TextsFault}
use Rattle.chr_run_text.proofs.Texts.{texts, texts_start, texts_more, texts_fault, texts_done}
use Rattle.chr_run_text.proofs.running.post_all.Goals as goal

pub loop-place-init : goal.loop-place-init
loop-place-init g c = texts_start c.args.book.now (texts c.args.posts.now)

pub returns-in-Err : goal.returns-in-Err
returns-in-Err g c =
    subst (TextsFault c.args.book.now (texts c.args.posts.now)) (sym c.posts_fault.ensures)
    (texts_fault c.args.book.now c.loop-place.book c.post_text.new.self c.args.posts.now c.loop-place.place _ c.in-Err.error c.loop-place-test.true c.loop-place.invariant c.in-Err.ensures)

pub loop-place-preserved : goal.loop-place-preserved
loop-place-preserved g c = texts_more c.args.book.now c.loop-place.book c.post_text.new.self c.args.posts.now c.loop-place.place _ c.in_default.field-0 c.loop-place-test.true c.loop-place.invariant c.in_default.ensures

pub returns : goal.returns
returns g c =
    let le : length (texts c.args.posts.now) ≤ c.loop-place.place = omega (arith, length-map c.args.posts.now (λ text. text.now), c.loop-place-test.false) in
    texts_done c.args.book.now c.loop-place.book (texts c.args.posts.now) c.loop-place.place le c.loop-place.invariant
