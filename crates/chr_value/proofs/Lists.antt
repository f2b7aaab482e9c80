-- Lists of values beside arguments.
use Rattle.std.proofs.Common.{◌≡◌, ◌<◌, ◌≤◌, ◌↔◌, ℕ, zero, suc, List, [], ◌∷◌, length, map, get_or, refl, sym, ap, ap₂, ◌∙◌, subst, arith}
use Rattle.std.specs.List.{AllByRecursion}
use Rattle.chr_value.specs.Atoms.{Value, Int, Sym, Comp, Args, Nil, Cons, args_of, args_count, Atom, renamed, args_renamed, TermIsNamed, ArgsAreNamed}
use Rattle.chr_value.specs.Limits.{size, args_size}
use Rattle.chr_value.specs.Spelling.{spell_term, spell_args, FitsTerm, ArgsFit}
use Rattle.chr_value.specs.Naming.{Table, TermIsKnown, ArgsAreKnown}

abbrev pub atom : {N : Type 0} → N → List (Value N) → Atom N
atom name args = record { name = name; args = args }

-- an atom as a compound value
abbrev pub as_value : {N : Type 0} → Atom N → Value N
as_value a = Comp a.name (args_of a.args)

-- arguments as a list
abbrev pub list_of : {N : Type 0} → Args N → List (Value N)
list_of Nil = []
list_of (Cons v vs) = v ∷ list_of vs

pub list_again : {N : Type 0} (vs : List (Value N)) → list_of (args_of vs) ≡ vs
list_again [] = refl
list_again (v ∷ vs) = ap (λ us. v ∷ us) (list_again vs)

pub args_of-injective : {N : Type 0} (vs ws : List (Value N)) → args_of vs ≡ args_of ws → vs ≡ ws
args_of-injective vs ws h = sym (list_again vs) ∙ ap list_of h ∙ list_again ws

-- the functor and the arguments of a compound value; of another value, those given
abbrev functor_of : {N : Type 0} → N → Value N → N
functor_of d (Int z) = d
functor_of d (Sym s) = d
functor_of d (Comp s vs) = s

abbrev args_in : {N : Type 0} → Value N → Args N
args_in (Int z) = Nil
args_in (Sym s) = Nil
args_in (Comp s vs) = vs

-- two compound values are equal where their functors and their lists of arguments are
pub same-Comp : {N : Type 0} (s t : N) (vs ws : List (Value N)) → (Comp s (args_of vs) ≡ Comp t (args_of ws)) ↔ ((s ≡ t) × (vs ≡ ws))
same-Comp {N} s t vs ws =
    (λ h. (ap (functor_of s) h, args_of-injective vs ws (ap args_in h)), λ h. ap₂ (λ (f : N) (us : List (Value N)). Comp f (args_of us)) h.0 h.1)

pub named-args : (n : ℕ) (vs : List (Value ℕ)) → ArgsAreNamed n (args_of vs) ↔ AllByRecursion (TermIsNamed n) vs
named-args n [] = (λ h. h, λ h. h)
named-args n (v ∷ vs) = let rest = named-args n vs in (λ h. (h.0, rest.0 h.1), λ h. (h.0, rest.1 h.1))

pub known-args : (table : Table) (vs : List (Value (List ℕ))) → ArgsAreKnown table (args_of vs) → AllByRecursion (TermIsKnown table) vs
known-args table [] h = h
known-args table (v ∷ vs) h = (h.0, known-args table vs h.1)

pub fits-args : (vs : List (Value (List ℕ))) → ArgsFit (args_of vs) → AllByRecursion FitsTerm vs
fits-args [] h = h
fits-args (v ∷ vs) h = (h.0, fits-args vs h.1)

pub renamed-args : {M N : Type 0} (f : M → N) (vs : List (Value M)) → args_renamed f (args_of vs) ≡ args_of (map (renamed f) vs)
renamed-args f [] = refl
renamed-args f (v ∷ vs) = ap (λ us. Cons (renamed f v) us) (renamed-args f vs)

pub spell-args : (vs : List (Value (List ℕ))) → spell_args (args_of vs) ≡ map spell_term vs
spell-args [] = refl
spell-args (v ∷ vs) = ap (λ us. spell_term v ∷ us) (spell-args vs)

pub count-args : {N : Type 0} (vs : List (Value N)) → args_count (args_of vs) ≡ length vs
count-args [] = refl
count-args (v ∷ vs) = ap suc (count-args vs)

-- none of several values is larger than all together
size-there : {X N : Type 0} (f : X → Value N) (xs : List X) (i : ℕ) (d : X) → i < length xs → size (f (get_or xs i d)) ≤ args_size (args_of (map f xs))
size-there f [] i d lt = absurd (omega arith)
size-there f (x ∷ xs) zero d lt = omega arith
size-there f (x ∷ xs) (suc i) d lt = omega (arith, size-there f xs i d (omega arith))

pub size-at : {X N : Type 0} (f : X → Value N) (xs : List X) (i : ℕ) (x : X) → i < length xs → x ≡ get_or xs i x → size (f x) ≤ args_size (args_of (map f xs))
size-at f xs i x lt e = subst (λ y. size (f y) ≤ args_size (args_of (map f xs))) (sym e) (size-there f xs i x lt)
