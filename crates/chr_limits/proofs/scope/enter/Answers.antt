use Rattle.std.proofs.Common.{◌≡◌, ◌<◌, ◌≤◌, ◌++◌, ◌∷◌, [], true, false, length, map, flat_map, sym, ap, subst, ◌∙◌, arith}
use Rattle.std.specs.Bool.{OnTrue}
use Rattle.std.proofs.lemmas.List.{length-map, map-append}
use Rattle.chr_grammar.specs.Parsed.{BodyMember}
use Rattle.chr_grammar.specs.Views.{member, formula, term, phrase}
use Rattle.chr_limits.specs.Variables.{is_seen, term_variables, formula_variables, phrase_variables, member_variables, seen_from}
use Rattle.chr_limits.specs.Scope.{are_seen}
use Rattle.chr_limits.specs.Views.{names}
use Rattle.chr_limits.proofs.Meeting.{room_for, value_met, all_met}
use Rattle.chr_limits.proofs.scope.enter.Goals as goal

pub push-requires : goal.push-requires
push-requires g c =
    let m = names c.args.seen.now.items in
    let x = c.in-Is.name.now in
    let new : is_seen m x ≡ false = ap (λ l. is_seen (names l) x) (sym c.deref.ensures.0) ∙ sym c.is_seen.ensures ∙ c.if-is_seen.false in
    let few = subst (λ (w : BodyMember). length (seen_from m (member_variables w)) ≤ 24) (ap member c.in-Is.is) c.requires in
    let room : length m < 24 = room_for m x (formula_variables (formula c.in-Is.tree)) new few in
    (omega arith, omega (arith, length-map c.args.seen.now.items (λ name. name.now)))

pub returns-else-not-is_tree_seen-clause-met : goal.returns-else-not-is_tree_seen-clause-met
returns-else-not-is_tree_seen-clause-met g c =
    let m = names c.args.seen.now.items in
    let x = c.in-Is.name.now in
    let ys = formula_variables (formula c.in-Is.tree) in
    let new : is_seen m x ≡ false = ap (λ l. is_seen (names l) x) (sym c.deref.ensures.0) ∙ sym c.is_seen.ensures ∙ c.if-is_seen.false in
    let known : are_seen m ys ≡ true = ap (λ l. are_seen (names l) ys) (sym c.deref-else-is_seen.ensures.0) ∙ sym c.is_tree_seen.ensures ∙ c.if-not-is_tree_seen.false in
    let pushed : names c.push.new.self.items ≡ m ++ x ∷ [] = ap names c.push.ensures.items ∙ map-append (λ name. name.now) c.args.seen.now.items (c.in-Is.name ∷ []) in
    pushed ∙ value_met m x ys new known ∙ ap (λ (w : BodyMember). seen_from m (member_variables w)) (sym (ap member c.in-Is.is))

pub returns-in-Add-clause-met : goal.returns-in-Add-clause-met
returns-in-Add-clause-met g c =
    let m = names c.args.seen.now.items in
    let p = phrase c.in-Add.phrase in
    let same : c.are_terms_seen.result ≡ are_seen m (phrase_variables p) =
    c.are_terms_seen.ensures ∙ ap (λ l. are_seen (names l) (flat_map term_variables (map term c.deref-in-Add-2.result.now))) c.deref-in-Add.ensures.0 ∙ ap (λ l. are_seen m (flat_map term_variables (map term l))) c.deref-in-Add-2.ensures.value in
    subst (λ (w : BodyMember). OnTrue c.are_terms_seen.result (m ≡ seen_from m (member_variables w))) (sym (ap member c.in-Add.is)) (all_met m (phrase_variables p) c.are_terms_seen.result same)
