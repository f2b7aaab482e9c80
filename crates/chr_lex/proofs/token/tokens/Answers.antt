use Rattle.std.proofs.Common.{◌≡◌, ◌<◌, ◌++◌, ◌∷◌, [], zero, length, drop, map, arith, sym, ap, ◌∙◌}
use Rattle.std.specs.Prelude.{Some}
use Rattle.std.proofs.lemmas.List.{map_push}
use Rattle.chr_lex.specs.Tokens.{lexeme, is_operand, token_at, tokens_from, tokens_of}
use Rattle.chr_lex.proofs.Lexing.{with_front, goes_on, rest_of}
use Rattle.chr_lex.proofs.token.tokens.Goals as goal

pub loop-rest-preserved : goal.loop-rest-preserved
loop-rest-preserved g c =
    let front = map lexeme c.loop-rest.tokens.items in
    let t = c.in-Some.token in
    let rest = c.loop-rest.rest.now in
    let long : 0 < length rest = grind (arith, c.is_empty.ensures, c.loop-rest-test.true) in
    let found : token_at c.loop-rest.after_operand rest ≡ Some (lexeme t, c.in-Some.len) = c.in-Some.ensures.same in
    let pushed : map lexeme c.push.new.self.items ≡ front ++ lexeme t ∷ [] = rw c.in_ok-push-in-Some.ensures.items (map_push lexeme c.loop-rest.tokens.items t) in
    let next : with_front (front ++ lexeme t ∷ []) (tokens_from zero (is_operand (lexeme t)) (drop c.in-Some.len rest)) ≡ tokens_of c.args.text.now =
    goes_on front c.loop-rest.after_operand rest (lexeme t) c.in-Some.len (tokens_of c.args.text.now) long c.loop-rest.invariant.1 c.in-Some.ensures.fits.0 found c.loop-rest.invariant.0 in
    let kept : tokens_from zero (is_operand (lexeme t)) (drop c.in-Some.len rest) ≡ tokens_from zero (is_operand (lexeme t)) c.skip_blank-rest-in-Some.result.now =
    ap (tokens_from zero (is_operand (lexeme t))) (sym (rest_of c.in-Some.len rest)) ∙ c.skip_blank-rest-in-Some.ensures.same (is_operand (lexeme t)) in
    (rw (pushed, c.is_operand-after_operand.ensures, ← kept) next, c.skip_blank-rest-in-Some.ensures.first)
