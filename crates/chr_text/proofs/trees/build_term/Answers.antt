use Rattle.std.proofs.Common.{◌≡◌, ◌-◌, refl, sym, ap, ◌∙◌, drop, map, length, arith}
use Rattle.chr_text.specs.Terms.{terms_of_words}
use Rattle.chr_text.specs.Trees.{from_top}
use Rattle.chr_text.specs.Words.{placed_word}
use Rattle.chr_text.proofs.Lists.{map_end}
use Rattle.chr_text.proofs.Numbered.{args_few, built, none_built, alone, word_built}
use Rattle.chr_text.proofs.trees.build_term.Goals as goal

pub returns-in-Some : goal.returns-in-Some
returns-in-Some g c =
    let first : c.loop-place.place ≡ 0 = omega (arith, c.loop-place-test.false) in
    let all : from_top c.loop-place.stack.items ≡ terms_of_words (map placed_word c.args.words.now) = c.loop-place.invariant ∙ ap (λ k. terms_of_words (map placed_word (drop k c.args.words.now))) first in
    built c.loop-place.stack.items c.pop.new.self.items c.in-Some.top (map placed_word c.args.words.now) c.in-Some.ensures.items all

pub returns : goal.returns
returns g c =
    let first : c.loop-place.place ≡ 0 = omega (arith, c.loop-place-test.false) in
    let all : from_top c.loop-place.stack.items ≡ terms_of_words (map placed_word c.args.words.now) = c.loop-place.invariant ∙ ap (λ k. terms_of_words (map placed_word (drop k c.args.words.now))) first in
    none_built c.loop-place.stack.items (map placed_word c.args.words.now) (omega (arith, c.loop-place.stack.ok.0, c.in-None.ensures.cases.0)) all

pub returns-in-len1 : goal.returns-in-len1
returns-in-len1 g c = c.word_term.ensures ∙ alone c.args.words.now _ c.in-len1.len_at_least c.in-len1.len_below

pub with_args-requires : goal.with_args-requires
with_args-requires g c =
    let at = c.loop-place in
    omega (arith, c.in_ok-args.args.ok.0, args_few c.args.words.now (at.place - 1) at.place _ at.stack.items c.in_ok-args.args.items (omega arith) (omega arith) c.requires at.invariant c.in_ok-args.ensures.taken)

pub loop-place-init : goal.loop-place-init
loop-place-init g c = ap from_top c.new-stack.ensures.items ∙ ap terms_of_words (sym (map_end placed_word c.args.words.now (length c.args.words.now) (omega arith)))

pub loop-place-preserved : goal.loop-place-preserved
loop-place-preserved g c =
    let at = c.loop-place in
    word_built c.args.words.now (at.place - 1) at.place _ at.stack.items c.take_inside.new.stack.items c.push.new.self.items c.in_ok-args.args.items _ (omega arith) (omega arith) at.invariant c.in_ok-args.ensures.taken c.in_ok-args.ensures.left c.in_ok-term.ensures refl c.in_ok-push.ensures.items
