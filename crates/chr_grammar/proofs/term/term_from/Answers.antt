use Rattle.std.proofs.Common.{◌≡◌, ◌<◌, ◌+◌, ◌-◌, ◌++◌, ◌∷◌, [], suc, arith, map, length, refl, sym, ◌∙◌}
use Rattle.std.proofs.lemmas.Result.{err_from_is_err_and}
use Rattle.std.proofs.lemmas.List.{map_push}
use Rattle.chr_lex.specs.Tokens.{word}
use Rattle.chr_grammar.specs.Views.{node}
use Rattle.chr_grammar.proofs.Lists.{tokens_past, first_nodes, nodes_fail, nodes_done, nodes_go_on, word_there, mark_there}
use Rattle.chr_grammar.proofs.term.term_from.Goals as goal

pub loop-init : goal.loop-init
loop-init g c = record { so_far = rw c.new-nodes.ensures.items (first_nodes c.args.tokens.now c.args.from); few = omega arith; behind = omega arith; within = c.requires }

pub returns-then-at-tokens-clause-same : goal.returns-then-at-tokens-clause-same
returns-then-at-tokens-clause-same g c =
    let less : length c.args.tokens.now - c.args.from - c.loop.counter ≡ suc (length c.args.tokens.now - c.args.from - (c.loop.counter + 1)) = omega arith in
    sym c.loop.invariant.so_far ∙ rw (less, tokens_past c.args.tokens.now c.loop.at c.if-at-tokens.true) refl

pub returns-in_default-clause-same : goal.returns-in_default-clause-same
returns-in_default-clause-same g c =
    let within : c.loop.at < length c.args.tokens.now = omega arith in
    let less : length c.args.tokens.now - c.args.from - c.loop.counter ≡ suc (length c.args.tokens.now - c.args.from - (c.loop.counter + 1)) = omega arith in
    sym c.loop.invariant.so_far ∙ rw (less, mark_there c.args.tokens.now c.loop.at _ c.in_default.field-0 within c.in_default.is) refl

pub returns-in_err-next-clause-same : goal.returns-in_err-next-clause-same
returns-in_err-next-clause-same g c =
    let p = err_from_is_err_and c.from_residual-in_err-next.result c.from_residual-in_err-next.ensures.1 in
    let within : c.loop.at < length c.args.tokens.now = omega arith in
    rw (p.1, p.2) (nodes_fail c.in_err-next.field-0.0 (map node c.loop.nodes.items) (length c.args.tokens.now - c.args.from) c.loop.counter c.loop.depth _ _ (word c.in-Word.word) _ c.loop-test.true (word_there c.args.tokens.now c.loop.at _ c.in-Word.word within c.in-Word.is) c.in_err-next.ensures.same c.loop.invariant.so_far)

pub returns-then-next-eq0-clause-same : goal.returns-then-next-eq0-clause-same
returns-then-next-eq0-clause-same g c =
    let within : c.loop.at < length c.args.tokens.now = omega arith in
    let pushed : map node c.push.new.self.items ≡ map node c.loop.nodes.items ++ record { depth = c.loop.depth; word = word c.in-Word.word } ∷ [] = rw c.in_ok-push.ensures.items (map_push node c.loop.nodes.items _) in
    rw pushed (nodes_done (map node c.loop.nodes.items) (length c.args.tokens.now - c.args.from) c.loop.counter c.loop.depth _ _ _ (word c.in-Word.word) c.in_ok-next.next _ c.loop-test.true (word_there c.args.tokens.now c.loop.at _ c.in-Word.word within c.in-Word.is) c.in_ok-next.ensures.same c.if-next-eq0.true c.loop.invariant.so_far)

pub loop-preserved : goal.loop-preserved
loop-preserved g c =
    let within : c.loop.at < length c.args.tokens.now = omega arith in
    let pushed : map node c.push.new.self.items ≡ map node c.loop.nodes.items ++ record { depth = c.loop.depth; word = word c.in-Word.word } ∷ [] = rw c.in_ok-push.ensures.items (map_push node c.loop.nodes.items _) in
    record {
      so_far = rw pushed (nodes_go_on (map node c.loop.nodes.items) (length c.args.tokens.now - c.args.from) c.loop.counter c.loop.depth _ _ _ (word c.in-Word.word) c.in_ok-next.next _ c.loop-test.true (word_there c.args.tokens.now c.loop.at _ c.in-Word.word within c.in-Word.is) c.in_ok-next.ensures.same (omega arith) c.loop.invariant.so_far);
      few = c.in_ok-next.ensures.next.0;
      behind = omega (arith, c.in_ok-next.ensures.next.1);
      within = c.in_ok-next.ensures.next.2;
    }

pub returns-clause-same : goal.returns-clause-same
returns-clause-same g c =
    let none : length c.args.tokens.now - c.args.from - c.loop.counter ≡ 0 = omega arith in
    sym c.loop.invariant.so_far ∙ rw none refl
