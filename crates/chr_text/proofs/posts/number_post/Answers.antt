use Rattle.std.proofs.Common.{◌+◌, ℕ, ◌∙◌, ap, drop, map, length, arith}
use Rattle.std.proofs.lemmas.List.{length_push, length-map}
use Rattle.std.proofs.lemmas.Result.{err_from_is_err_and}
use Rattle.chr_grammar.specs.Views as by_texts
use Rattle.chr_value.specs.Atoms.{ground}
use Rattle.chr_value.proofs.NameLaws.{first_done, one_more, all_done}
use Rattle.chr_text.specs.Fitting.{ValueFits}
use Rattle.chr_text.specs.Numbering.{or_full}
use Rattle.chr_text.specs.Translation.{value, atom_by_texts}
use Rattle.chr_text.proofs.Lists.{map_from, map_end, all_from, numbered_is, fact_fails, terms_fail}
use Rattle.chr_text.proofs.Writable.{value_within}
use Rattle.chr_text.proofs.posts.number_post.Goals as goal

pub returns-in_err-name-clause-gives : goal.returns-in_err-name-clause-gives
returns-in_err-name-clause-gives g c =
    let p = err_from_is_err_and c.from_residual.result c.from_residual.ensures.1 in
    rw (p.1, p.2) (fact_fails c.in_err-name.field-0.0 c.args.names.now (atom_by_texts (by_texts.phrase {Z = g.row.A.Denot} c.args.phrase.now)) c.in_err-name.ensures.gives)

pub loop-term-init : goal.loop-term-init
loop-term-init g c = record {
  gives = rw c.new-atom.ensures (first_done c.args.names.now c.number_name.new.names (atom_by_texts (by_texts.phrase {Z = g.row.A.Denot} c.args.phrase.now)) c.in_ok-name.name.number (numbered_is _ _ c.in_ok-name.ensures.gives));
  few = ap (λ a. length a.args) c.new-atom.ensures;
  keeps = c.in_ok-name.ensures.keeps;
}

pub number_value-requires : goal.number_value-requires
number_value-requires g c = all_from ValueFits (by_texts.term {Z = g.row.A.Denot}) c.deref-term-items.result.now c.loop-term.term-index c.term-item.result (rw c.deref-term-items.ensures.value c.requires.args) c.loop-term-test.true c.term-item.is

pub returns-in_err-value-clause-gives : goal.returns-in_err-value-clause-gives
returns-in_err-value-clause-gives g c =
    let p = err_from_is_err_and c.from_residual-in_err-value.result c.from_residual-in_err-value.ensures.1 in
    let ts = c.deref-term-items.result.now in
    rw (p.1, p.2) (terms_fail c.in_err-value.field-0.0 c.loop-term.atom.name c.loop-term.atom.args c.loop-term.names _ _ (map value (map (by_texts.term {Z = g.row.A.Denot}) (drop c.loop-term.term-index ts))) _ (ap (map value) (map_from (by_texts.term {Z = g.row.A.Denot}) ts c.loop-term.term-index c.term-item.result c.loop-term-test.true c.term-item.is)) c.in_err-value.ensures.gives (rw c.deref-term-items.ensures.value c.loop-term.invariant.gives))

pub push-requires-clause-room : goal.push-requires-clause-room
push-requires-clause-room g c =
    let few = c.requires.few in
    let all = length-map c.args.phrase.now.args.items (by_texts.term {Z = g.row.A.Denot}) in
    let same = ap length c.deref-term-items.ensures.value in
    omega (arith, few, all, same, c.loop-term.invariant.few, c.loop-term-test.true)

pub push-requires-clause-within : goal.push-requires-clause-within
push-requires-clause-within g c =
    let fits = all_from ValueFits (by_texts.term {Z = g.row.A.Denot}) c.deref-term-items.result.now c.loop-term.term-index c.term-item.result (rw c.deref-term-items.ensures.value c.requires.args) c.loop-term-test.true c.term-item.is in
    value_within c.loop-term.names c.number_value.new.names (by_texts.term {Z = g.row.A.Denot} c.term-item.result) (ground c.in_ok-value.value) fits (numbered_is _ _ c.in_ok-value.ensures.gives)

pub loop-term-preserved : goal.loop-term-preserved
loop-term-preserved g c =
    let ts = c.deref-term-items.result.now in record {
      gives = rw (c.in_ok-push.ensures.ok, ← c.deref-term-items.ensures.value) (one_more c.loop-term.atom.name c.loop-term.atom.args c.loop-term.names c.number_value.new.names _ _ (map value (map (by_texts.term {Z = g.row.A.Denot}) (drop c.loop-term.term-index ts))) (ground c.in_ok-value.value) _ (ap (map value) (map_from (by_texts.term {Z = g.row.A.Denot}) ts c.loop-term.term-index c.term-item.result c.loop-term-test.true c.term-item.is)) (numbered_is _ _ c.in_ok-value.ensures.gives) (rw c.deref-term-items.ensures.value c.loop-term.invariant.gives));
      few = ap (λ a. length a.args) c.in_ok-push.ensures.ok ∙ length_push c.loop-term.atom.args (ground c.in_ok-value.value) ∙ ap (λ (n : ℕ). n + 1) c.loop-term.invariant.few;
      keeps = λ t h. c.in_ok-value.ensures.keeps t (c.loop-term.invariant.keeps t h);
    }

pub returns-clause-gives : goal.returns-clause-gives
returns-clause-gives g c =
    ap or_full (all_done c.loop-term.atom.name c.loop-term.atom.args c.loop-term.names (map value (map (by_texts.term {Z = g.row.A.Denot}) (drop c.loop-term.term-index c.deref-term-items.result.now))) _ (ap (map value) (map_end (by_texts.term {Z = g.row.A.Denot}) c.deref-term-items.result.now c.loop-term.term-index c.loop-term-test.false)) (rw c.deref-term-items.ensures.value c.loop-term.invariant.gives))
