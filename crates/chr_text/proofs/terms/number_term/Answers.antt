use Rattle.std.proofs.Common.{◌∙◌, Ok, sym, ap, subst, map}
use Rattle.std.proofs.lemmas.Result.{err_from_is_err_and}
use Rattle.chr_grammar.specs.Views as by_texts
use Rattle.chr_limits.specs.Views.{names as texts}
use Rattle.chr_text.specs.Terms.{term_of_words, TakeFew}
use Rattle.chr_text.specs.Words.{placed_word}
use Rattle.chr_text.proofs.Limited.{nodes_words, nodes_narrow, small}
use Rattle.chr_text.proofs.Numbered.{take_few, term_given, term_fails}
use Rattle.chr_text.proofs.terms.number_term.Goals as goal

pub build_term-requires : goal.build_term-requires
build_term-requires g c =
    let seen = texts c.args.seen.now.items in
    let t = by_texts.term {Z = g.row.A.Denot} c.args.term.now in
    subst (λ l. TakeFew (map placed_word l)) (sym c.deref-2.ensures.0)
    (take_few c.args.names.now c.number_words.new.names _ (map placed_word c.in_ok-words.words.items) (nodes_words seen t c.requires.fits.nested) (nodes_narrow seen t (small t c.requires.fits.small).narrow) (rw (← c.deref.ensures.value) c.in_ok-words.ensures.gives))

pub returns-in_err-words-clause-gives : goal.returns-in_err-words-clause-gives
returns-in_err-words-clause-gives g c =
    let p = err_from_is_err_and c.from_residual.result c.from_residual.ensures.1 in
    let words = nodes_words (texts c.args.seen.now.items) (by_texts.term {Z = g.row.A.Denot} c.args.term.now) c.requires.fits.nested in
    rw (p.1, p.2) (term_fails c.in_err-words.field-0.0 c.args.names.now _ words (rw (← c.deref.ensures.value) c.in_err-words.ensures.gives))

pub returns-clause-gives : goal.returns-clause-gives
returns-clause-gives g c =
    let words = nodes_words (texts c.args.seen.now.items) (by_texts.term {Z = g.row.A.Denot} c.args.term.now) c.requires.fits.nested in
    term_given c.args.names.now c.number_words.new.names _ (map placed_word c.in_ok-words.words.items) words (rw (← c.deref.ensures.value) c.in_ok-words.ensures.gives)
    ∙ ap (λ t. Ok (t, c.number_words.new.names)) (sym (c.in_ok-term.ensures ∙ ap (λ l. term_of_words (map placed_word l)) c.deref-2.ensures.0))
