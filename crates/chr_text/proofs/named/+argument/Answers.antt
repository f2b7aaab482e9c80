use Rattle.std.proofs.Common.{◌≡◌, ◌<◌, ◌↔◌, ℕ, List, [], ◌∷◌, map, Box, Bool, IsTrue, sym, subst, arith, ap, ◌∙◌}
use Rattle.std.specs.List.{AllByRecursion}
use Rattle.chr_rule.specs.Rules.{Term, terms_of}
use Rattle.chr_rule.specs.Parts.{argument}
use Rattle.chr_rule.specs.declared.term.Term as terms
use Rattle.chr_rule.specs.declared.term.Term.{Term as CodeTerm}
use Rattle.chr_rule.specs.declared.term.Open.{Open as CodeOpen}
use Rattle.chr_rule.proofs.Levels.{argument-parts}
use Rattle.chr_text.specs.Named.{ArgumentIsNamed, ArgumentsAreNamed}
use Rattle.chr_rule.proofs.Places.{all_more, not_all}
use Rattle.chr_text.proofs.named.+argument.Goals as goal

named-terms : (n : ℕ) (ts : List (Term ℕ)) → ArgumentsAreNamed n (terms_of ts) ↔ AllByRecursion (ArgumentIsNamed n) ts
named-terms n [] = (λ h. h, λ h. h)
named-terms n (t ∷ ts) = let rest = named-terms n ts in (λ h. (h.0, rest.0 h.1), λ h. (h.0, rest.1 h.1))

-- what is told of the arguments of a functor that is named is told of the term
named-told : {A : Type 0} (self : CodeTerm A) (o : Box (CodeOpen A) A) (ts : List (CodeTerm A)) (n : ℕ) (told : Bool) → self ≡ terms.Open o → ts ≡ o.value.args.list.items → o.value.functor.number < n
    → IsTrue told ↔ AllByRecursion (ArgumentIsNamed n) (map argument ts) → IsTrue told ↔ ArgumentIsNamed n (argument self)
named-told self o ts n told is are lt means =
    let l = argument-parts self o ts is are in
    let each = named-terms n (map argument ts) in (
      λ t. subst (ArgumentIsNamed n) (sym l) (lt, each.1 (means.0 t)),
      λ h. means.1 (each.0 (subst (ArgumentIsNamed n) l h).1),
    )

pub are_arguments_named-returns-then-not-is_argument_named : goal.are_arguments_named-returns-then-not-is_argument_named
are_arguments_named-returns-then-not-is_argument_named g t c =
    not_all argument (ArgumentIsNamed c.args.count) c.args.terms.now c.loop-term.term-index _ _ c.loop-term-test.true c.term-item.is c.is_argument_named.ensures c.if-not-is_argument_named.true

pub are_arguments_named-loop-term-preserved : goal.are_arguments_named-loop-term-preserved
are_arguments_named-loop-term-preserved g t c =
    all_more argument (ArgumentIsNamed c.args.count) c.args.terms.now c.loop-term.term-index _ c.loop-term-test.true c.term-item.is c.loop-term.invariant (c.is_argument_named.ensures.0 c.if-not-is_argument_named.false)

pub is_argument_named-returns-then-deref-count : goal.is_argument_named-returns-then-deref-count
is_argument_named-returns-then-deref-count g t c =
    let number = ap (λ (k : CodeOpen _). k.functor.number) c.deref.ensures in
    named-told _ c.in-Open.open _ c.args.count _ c.in-Open.is (c.deref-then-deref-count-2.ensures ∙ ap (λ (k : CodeOpen _). k.args.list.items) c.deref-then-deref-count.ensures)
    (grind (arith, number, c.if-deref-count.true)) c.are_arguments_named.ensures
