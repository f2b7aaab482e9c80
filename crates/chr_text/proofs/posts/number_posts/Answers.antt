use Rattle.std.proofs.Common.{ap, map}
use Rattle.std.proofs.lemmas.Result.{err_from_is_err_and}
use Rattle.chr_grammar.specs.Views as by_texts
use Rattle.chr_value.specs.Naming.{numbered_atom}
use Rattle.chr_text.specs.Fitting.{PostFits}
use Rattle.chr_text.specs.Numbering.{or_full}
use Rattle.chr_text.specs.Translation.{atom_by_texts}
use Rattle.chr_text.proofs.Lists.{map_from, map_end, all_from, numbered_is, each_fails, each_more, each_done}
use Rattle.chr_text.proofs.posts.number_posts.Goals as goal

pub number_post-requires : goal.number_post-requires
number_post-requires g c = all_from PostFits (by_texts.phrase {Z = g.row.A.Denot}) c.args.phrases.now c.loop-phrase.phrase-index c.phrase-item.result c.requires c.loop-phrase-test.true c.phrase-item.is

pub returns-in_err-atom-clause-gives : goal.returns-in_err-atom-clause-gives
returns-in_err-atom-clause-gives g c =
    let p = err_from_is_err_and c.from_residual.result c.from_residual.ensures.1 in
    rw (p.1, p.2) (each_fails numbered_atom c.in_err-atom.field-0.0 c.loop-phrase.atoms.items c.loop-phrase.names (atom_by_texts (by_texts.phrase {Z = g.row.A.Denot} c.phrase-item.result)) _ _ _ (ap (map atom_by_texts) (map_from (by_texts.phrase {Z = g.row.A.Denot}) c.args.phrases.now c.loop-phrase.phrase-index c.phrase-item.result c.loop-phrase-test.true c.phrase-item.is)) c.in_err-atom.ensures.gives c.loop-phrase.invariant.gives)

pub loop-phrase-preserved : goal.loop-phrase-preserved
loop-phrase-preserved g c = record {
  gives = rw c.in_ok-push.ensures.items (each_more numbered_atom c.loop-phrase.atoms.items c.loop-phrase.names c.number_post.new.names (atom_by_texts (by_texts.phrase {Z = g.row.A.Denot} c.phrase-item.result)) _ _ c.in_ok-atom.atom _ (ap (map atom_by_texts) (map_from (by_texts.phrase {Z = g.row.A.Denot}) c.args.phrases.now c.loop-phrase.phrase-index c.phrase-item.result c.loop-phrase-test.true c.phrase-item.is)) (numbered_is _ _ c.in_ok-atom.ensures.gives) c.loop-phrase.invariant.gives);
  keeps = λ t h. c.in_ok-atom.ensures.keeps t (c.loop-phrase.invariant.keeps t h);
}

pub returns-clause-gives : goal.returns-clause-gives
returns-clause-gives g c =
    ap or_full (each_done numbered_atom c.loop-phrase.atoms.items c.loop-phrase.names _ _ (ap (map atom_by_texts) (map_end (by_texts.phrase {Z = g.row.A.Denot}) c.args.phrases.now c.loop-phrase.phrase-index c.loop-phrase-test.false)) c.loop-phrase.invariant.gives)
