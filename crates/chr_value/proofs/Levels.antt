-- Values, level by level.
use Rattle.std.proofs.Common.{◌≡◌, ℕ, ℤ, List, Box, rules, map, ap, ap₂, sym, ◌∙◌}
use Rattle.chr_value.specs.Atoms.{Value, Int, Sym, Comp, args_of, ground, grounds, ground_comp, renamed}
use Rattle.chr_value.specs.declared.names.Name.{Name}
use Rattle.chr_value.specs.declared.value.Value as code
use Rattle.chr_value.specs.declared.value.Value.{the_lemmas}
use Rattle.chr_value.specs.declared.value.Comp.{Comp as CodeComp}
use Rattle.chr_value.specs.TextAtoms.{text_value, text_values, text_comp}
use Rattle.chr_value.specs.declared.text_atom.TextValue as texts
use Rattle.chr_value.specs.declared.text_atom.TextValue.{TextValue as CodeTextValue, the_lemmas as the_text_lemmas}
use Rattle.chr_value.specs.declared.text_atom.TextComp.{TextComp as CodeTextComp}
use Rattle.chr_value.proofs.Lists.{renamed-args}

pub ground-Int : (A : Type 0) (z : ℤ) → ground {A = A} (code.Int z) ≡ Int z
ground-Int A z = search (rules, the_lemmas)

pub ground-Sym : (A : Type 0) (s : Name) → ground {A = A} (code.Sym s) ≡ Sym s.number
ground-Sym A s = search (rules, the_lemmas)

pub ground-Comp : {A : Type 0} (c : Box (CodeComp A) A) → ground (code.Comp c) ≡ ground_comp c.value
ground-Comp c = search (rules, the_lemmas)

pub text-Comp : {A : Type 0} (c : Box (CodeTextComp A) A) → text_value (texts.Comp c) ≡ text_comp c.value
text-Comp c = search (rules, the_text_lemmas)

-- what a compound value of a text says, by its arguments
pub text-parts : {A : Type 0} (text : CodeTextValue A) (c : Box (CodeTextComp A) A) (ts : List (CodeTextValue A)) → text ≡ texts.Comp c → ts ≡ c.value.args.items → text_value text ≡ Comp c.value.functor.now (args_of (text_values ts))
text-parts text c ts is e = ap text_value is ∙ text-Comp c ∙ ap (λ us. Comp c.value.functor.now (args_of (text_values us))) (sym e)

-- a compound value that is made of one of a text
pub made-Comp : {A : Type 0} (f : List ℕ → ℕ) (b : Box (CodeComp A) A) (made : CodeComp A) (text : CodeTextValue A) (c : Box (CodeTextComp A) A) (ts : List (CodeTextValue A)) → b.value ≡ made → text ≡ texts.Comp c → ts ≡ c.value.args.items
    → made.functor.number ≡ f c.value.functor.now → grounds made.args.list.items ≡ map (renamed f) (text_values ts) → ground (code.Comp b) ≡ renamed f (text_value text)
made-Comp f b made text c ts holds is e functor args =
    ground-Comp b ∙ ap ground_comp holds ∙ ap₂ (λ (n : ℕ) (vs : List (Value ℕ)). Comp n (args_of vs)) functor args
    ∙ ap (λ us. Comp (f c.value.functor.now) us) (sym (renamed-args f (text_values ts))) ∙ ap (renamed f) (sym (text-parts text c ts is e))
