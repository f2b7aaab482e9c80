-- Texts written one after another.
use Rattle.std.proofs.Common.{◌≡◌, ℕ, zero, suc, List, [], ◌∷◌, ◌++◌, length, map, None, refl, append_assoc, arith, slice_get}
use Rattle.std.proofs.lemmas.List.{append-nil, length-map, map_push}
use Rattle.std.proofs.lemmas.Bool.Decides.{nat_tests}
use Rattle.chr_value.specs.Atoms.{Value, Comp, args_of, renamed, text_of}
use Rattle.chr_value.specs.Spelling.{after_commas, opened, bracketed, mark_before, mark_behind, spell_term}
use Rattle.chr_value.proofs.Lists.{renamed-args, spell-args}

-- a value's text, and those of several
abbrev pub text : List (List ℕ) → Value ℕ → List ℕ
text table v = spell_term (renamed (text_of table) v)

abbrev pub texts : List (List ℕ) → List (Value ℕ) → List (List ℕ)
texts table vs = map spell_term (map (renamed (text_of table)) vs)

after_commas-push : (ts : List (List ℕ)) (t : List ℕ) → after_commas (ts ++ t ∷ []) ≡ after_commas ts ++ 44 ∷ t
after_commas-push [] t = simp append-nil
after_commas-push (x ∷ xs) t = simp (after_commas-push xs t, append_assoc)

-- the mark before an argument, and that argument
opened-push : (ts : List (List ℕ)) (t : List ℕ) → opened (ts ++ t ∷ []) ≡ opened ts ++ mark_before (length ts) ∷ t
opened-push [] t = simp append-nil
opened-push (x ∷ xs) t =
    let mark : mark_before (suc (length xs)) ≡ 44 = grind (arith, nat_tests) in
    let more : 40 ∷ (x ++ after_commas (xs ++ t ∷ [])) ≡ 40 ∷ ((x ++ after_commas xs) ++ mark_before (suc (length xs)) ∷ t) = simp (after_commas-push, append_assoc, mark) in
    more

closed : (ts : List (List ℕ)) → opened ts ++ mark_behind (length ts) ≡ bracketed ts
closed [] = refl
closed (t ∷ ts) = let mark : mark_behind (suc (length ts)) ≡ 41 ∷ [] = grind (arith, nat_tests) in rw mark

-- one more value written
pub step : (table : List (List ℕ)) (out name new marked before : List ℕ) (front more : List (Value ℕ)) (v : Value ℕ) (i : ℕ) → more ≡ front ++ v ∷ [] → length front ≡ i
    → new ≡ marked ++ text table v
    → marked ≡ before ++ mark_before i ∷ []
    → before ≡ out ++ (name ++ opened (texts table front))
    → new ≡ out ++ (name ++ opened (texts table more))
step table out name new marked before front more v i is len e1 e2 e3 = simp (e1, e2, e3, is, map_push, opened-push, length-map, len, append_assoc)

-- all are written
pub finish : (table : List (List ℕ)) (out name before : List ℕ) (vs front : List (Value ℕ)) (n : ℕ) → front ≡ vs → n ≡ length vs
    → before ≡ out ++ (name ++ opened (texts table front))
    → before ++ mark_behind n ≡ out ++ (name ++ bracketed (texts table vs))
finish table out name before vs front n is len e = simp (e, is, len, ← closed, length-map, append_assoc)

-- the text of a compound value
pub text-Comp : (table : List (List ℕ)) (s : ℕ) (vs : List (Value ℕ)) → text table (Comp s (args_of vs)) ≡ text_of table s ++ bracketed (texts table vs)
text-Comp table s vs = simp (renamed-args, spell-args)

pub none-text : (table : List (List ℕ)) (n : ℕ) → slice_get table n ≡ None → text_of table n ≡ []
none-text [] n e = refl
none-text (t ∷ ts) zero e = absurd cc
none-text (t ∷ ts) (suc n) e = none-text ts n e
