use Rattle.std.proofs.Common.{map}
use Rattle.chr_lex.specs.Items.{entry}
use Rattle.chr_lex.specs.Tokens.{lexeme}
use Rattle.chr_grammar.specs.Views as by_texts
use Rattle.chr_text.proofs.Judged.{lexemes_plain, phrases_are_plain, posts_fit}
use Rattle.chr_text.proofs.reading.VecAtomItems.add_item.Goals as goal

pub number_posts-requires : goal.number_posts-requires
number_posts-requires g c =
    let plain = lexemes_plain (entry c.args.item) (map lexeme c.in_ok-tokens.tokens.items) c.in_ok-tokens.ensures in
    let phrases = phrases_are_plain (map lexeme c.in_ok-tokens.tokens.items) (map (by_texts.phrase {Z = g.row.A.Denot}) c.in_ok-phrases.phrases.items) plain (rw (← c.deref.ensures.value) c.in_ok-phrases.ensures) in
    rw c.deref-3.ensures.value (posts_fit (map (by_texts.phrase {Z = g.row.A.Denot}) c.in_ok-phrases.phrases.items) c.in_ok-judge_post.field-0 (rw (← c.deref-2.ensures.value) c.in_ok-judge_post.ensures.judged) phrases)
