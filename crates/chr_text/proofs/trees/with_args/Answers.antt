use Rattle.std.proofs.Common.{◌≡◌, ◌<◌, [], sym, ap, ◌∙◌, map, length, arith}
use Rattle.std.proofs.lemmas.List.{length-map, nil_from_length}
use Rattle.std.proofs.lemmas.Bool.Decides.{nat_tests}
use Rattle.chr_rule.specs.Parts.{argument}
use Rattle.chr_text.specs.Terms.{with_args}
use Rattle.chr_text.specs.Words.{word_term}
use Rattle.chr_text.proofs.Numbered.{no_args, no_name, named_args}
use Rattle.chr_text.proofs.trees.with_args.Goals as goal

pub returns-in-Name : goal.returns-in-Name
returns-in-Name g c =
    let some : 0 < c.args.args.len = grind (arith, nat_tests, c.is_empty.ensures, c.if-is_empty.false) in
    let filled : 0 < length (map (argument {A = g.row.A.Denot}) c.args.args.items) = omega (arith, c.args.args.ok.0, length-map c.args.args.items (argument {A = g.row.A.Denot})) in
    rw (named_args c.args.word c.in-Name.functor (map (argument {A = g.row.A.Denot}) c.args.args.items) c.in-Name.is filled) c.functor_with.ensures

pub returns-in_default : goal.returns-in_default
returns-in_default g c = c.word_term-in_default.ensures ∙ sym (no_name c.args.word (map (argument {A = g.row.A.Denot}) c.args.args.items) c.in_default.not-Name)

pub returns-then-is_empty : goal.returns-then-is_empty
returns-then-is_empty g c =
    let none : c.args.args.len ≡ 0 = grind (arith, nat_tests, c.is_empty.ensures, c.if-is_empty.true) in
    let empty : c.args.args.items ≡ [] = nil_from_length c.args.args.items (omega (arith, c.args.args.ok.0)) in
    c.word_term.ensures ∙ sym (no_args (word_term c.args.word)) ∙ ap (λ l. with_args (word_term c.args.word) (map (argument {A = g.row.A.Denot}) l)) (sym empty)
