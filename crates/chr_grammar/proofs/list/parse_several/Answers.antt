use Rattle.std.proofs.Common.{◌≡◌, ◌++◌, ◌∷◌, [], map}
use Rattle.std.proofs.lemmas.Result.{err_from_is_err_and}
use Rattle.std.proofs.lemmas.List.{map_push}
use Rattle.chr_grammar.proofs.Lists.{first_members, members_fail, members_done, members_go_on, members_none}
use Rattle.chr_grammar.proofs.list.parse_several.Goals as goal

pub loop-init : goal.loop-init
loop-init g c = rw (c.new-members.ensures.items, c.count-end.ensures) (first_members g.M.Member.front (g.S.Tokens.lexemes c.args.tokens))

pub returns-in_err-member : goal.returns-in_err-member
returns-in_err-member g c =
    let p = err_from_is_err_and c.from_residual.result c.from_residual.ensures.1 in
    rw (p.1, p.2) (members_fail g.M.Member.front c.in_err-member.field-0.0 (map g.M.Member.said c.loop.members.items) c.count-end.result c.loop.counter _ _ c.loop-test.true c.in_err-member.ensures c.loop.invariant)

pub returns-in_default : goal.returns-in_default
returns-in_default g c =
    let pushed : map g.M.Member.said c.push.new.self.items ≡ map g.M.Member.said c.loop.members.items ++ g.M.Member.said c.in_ok-member.member ∷ [] = rw c.in_ok-push.ensures.items (map_push g.M.Member.said c.loop.members.items c.in_ok-member.member) in
    rw pushed (members_done g.M.Member.front (map g.M.Member.said c.loop.members.items) c.count-end.result c.loop.counter _ _ (g.M.Member.said c.in_ok-member.member) _ c.loop-test.true c.in_ok-member.ensures c.in_default.ensures c.loop.invariant)

pub loop-preserved : goal.loop-preserved
loop-preserved g c =
    let pushed : map g.M.Member.said c.push.new.self.items ≡ map g.M.Member.said c.loop.members.items ++ g.M.Member.said c.in_ok-member.member ∷ [] = rw c.in_ok-push.ensures.items (map_push g.M.Member.said c.loop.members.items c.in_ok-member.member) in
    rw pushed (members_go_on g.M.Member.front (map g.M.Member.said c.loop.members.items) c.count-end.result c.loop.counter _ _ _ (g.M.Member.said c.in_ok-member.member) _ c.loop-test.true c.in_ok-member.ensures c.in-Some.ensures c.loop.invariant)

pub returns : goal.returns
returns g c = members_none g.M.Member.front (map g.M.Member.said c.loop.members.items) c.count-end.result c.loop.counter _ _ c.loop-test.false c.loop.invariant
