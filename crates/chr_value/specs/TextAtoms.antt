-- What values and atoms of a text say, by the texts of their names.
use Rattle.std.specs.Prelude.{ℕ, List, map}
use Rattle.chr_value.specs.Atoms.{Value, Int, Sym, Comp, args_of, Atom}
use Rattle.chr_value.specs.declared.text_atom.TextValue.{TextValue, fold-TextValue}
use Rattle.chr_value.specs.declared.text_atom.TextValue.TheOpen.{TextValue-F, TextComp-F}
use Rattle.chr_value.specs.declared.text_atom.TextComp.{TextComp}
use Rattle.chr_value.specs.declared.text_atom.TextAtom.{TextAtom}

-- one level of a value, with the values in it already seen as what they say
abbrev pub text_step : {A : Type 0} → TextValue-F A (Value (List ℕ)) (Value (List ℕ))
    → Value (List ℕ)
text_step (TextValue-F.Int z) = Int z
text_step (TextValue-F.Sym s) = Sym s.now
text_step (TextValue-F.Comp c) = c.value

abbrev pub text_comp_step : {A : Type 0} → TextComp-F A (Value (List ℕ)) (Value (List ℕ))
    → Value (List ℕ)
text_comp_step c = Comp c.functor.now (args_of c.args.items)

-- what a value of a text says
abbrev pub text_value : {A : Type 0} → TextValue A → Value (List ℕ)
text_value {A} = fold-TextValue A (Value (List ℕ)) (Value (List ℕ)) text_step text_comp_step

abbrev pub text_values : {A : Type 0} → List (TextValue A) → List (Value (List ℕ))
text_values ws = map text_value ws

-- what a compound value of a text says
abbrev pub text_comp : {A : Type 0} → TextComp A → Value (List ℕ)
text_comp c = Comp c.functor.now (args_of (text_values c.args.items))

-- what an atom of a text says
abbrev pub text_atom : {A : Type 0} → TextAtom A → Atom (List ℕ)
text_atom a = record { name = a.name.now; args = text_values a.args.items }
