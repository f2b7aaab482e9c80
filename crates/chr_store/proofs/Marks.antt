-- Marks of places.
use Rattle.std.proofs.Common.{◌≡◌, ℕ, zero, suc, ◌+◌, ◌-◌, ◌<◌, ◌≤◌, ◌&&◌, ◌||◌, if◌then◌else◌, cond, Bool, true, false, List, [], ◌∷◌, ◌++◌, Option, Some, None, is_some, refl, sym, ap, subst, arith, length, take, ◌∙◌, nat_eq, replicate, slice_set, slice_get, slice_index_or, unwrap_or}
use Rattle.std.specs.List.{list_any, position_from}
use Rattle.std.specs.Option.{option_or}
use Rattle.std.proofs.lemmas.List.{take_all, length-append, length-replicate}
use Rattle.std.proofs.lemmas.Bool.Decides.{nat_tests}
use Rattle.std.proofs.lemmas.Bool.{and_parts, and_from, eq-eqb, eqb-true, false≢true}
use Rattle.chr_value.specs.declared.atom.Pred.{Pred}
use Rattle.chr_store.specs.Index.{Places, is_pred, is_place, chosen, number_of}
use Rattle.chr_store.specs.Marks.{IsMarkOf, IsMarked, mark_at, first_of, AreMarks}

abbrev Marks : Type 0
Marks = List (Option ℕ)

abbrev no_mark : Option ℕ
no_mark = None

-- ---- more marks

pub mark_filled : (ms : Marks) (n i : ℕ) → mark_at (ms ++ replicate n None) i ≡ mark_at ms i
mark_filled [] zero i = refl
mark_filled [] (suc n) zero = refl
mark_filled [] (suc n) (suc i) = mark_filled [] n i
mark_filled (m ∷ ms) n zero = refl
mark_filled (m ∷ ms) n (suc i) = mark_filled ms n i

or_none : (o : Option ℕ) → option_or o None ≡ o
or_none None = refl
or_none (Some n) = refl

pub mark_set : (ms : Marks) (j i : ℕ) (d o : Option ℕ) → j < length ms → mark_at (slice_set ms j (option_or (slice_index_or ms j d) o)) i ≡ option_or (mark_at ms i) (if nat_eq i j then o else None)
mark_set [] j i d o u = absurd (omega arith)
mark_set (m ∷ ms) zero zero d o u = refl
mark_set (m ∷ ms) zero (suc i) d o u = grind (arith, nat_tests, or_none (mark_at ms i))
mark_set (m ∷ ms) (suc j) zero d o u = grind (arith, nat_tests, or_none m)
mark_set (m ∷ ms) (suc j) (suc i) d o u = grind (arith, nat_tests, mark_set ms j i d o (omega arith))

-- ---- more places

-- one more item may be the first that passes
found_push : {X : Type 0} (t : X → Bool) (s n : ℕ) (xs : List X) (x : X) → n ≡ s + length xs → position_from t s (xs ++ x ∷ []) ≡ option_or (position_from t s xs) (if t x then Some n else None)
found_push t s n [] x e = ap (λ (z : ℕ). if t x then Some z else None) (omega (arith, e))
found_push t s n (y ∷ xs) x e = elim (t y) as (λ b. cond b (Some s) (position_from t (s + 1) (xs ++ x ∷ [])) ≡ option_or (cond b (Some s) (position_from t (s + 1) xs)) (if t x then Some n else None)) [
  | true ↦ refl
  | false ↦ found_push t (s + 1) n xs x (omega (arith, e))
]

abbrev marks_place : Pred × ℕ → Pred → ℕ → Bool
marks_place p pred zero = is_pred p.0 pred
marks_place p pred (suc i) = is_pred p.0 pred && nat_eq p.1 (suc i)

first_push : (ps : Places) (p : Pred × ℕ) (pred : Pred) (place n : ℕ) → n ≡ length ps → first_of (ps ++ p ∷ []) pred place ≡ option_or (first_of ps pred place) (if marks_place p pred place then Some n else None)
first_push ps p pred zero n e = found_push (λ q. is_pred q.0 pred) 0 n ps p (omega (arith, e))
first_push ps p pred (suc i) n e = found_push (is_place pred (suc i)) 0 n ps p (omega (arith, e))

-- a mark has one place
same_place : (p q : Pred) (m n i : ℕ) → IsMarkOf p m i → IsMarkOf q n i → (is_pred p q && nat_eq m n) ≡ true
same_place p q m n i h k =
    let name : p.name.number ≡ q.name.number = omega (arith, h.index, k.index, h.few, k.few, h.within, k.within) in
    let arity : p.arity ≡ q.arity = omega (arith, name, h.index, k.index, h.within, k.within) in
    and_from _ _ (and_from _ _ (eq-eqb _ _ name) (eq-eqb _ _ arity)) (eq-eqb _ _ (omega (arith, name, arity, h.index, k.index)))

-- a place that is another's has its marks
moved : (p q : Pred) (m n i : ℕ) → (is_pred p q && nat_eq m n) ≡ true → IsMarkOf q n i → IsMarkOf p m i
moved p q m n i t k =
    let both = and_parts _ _ t in
    let pred = and_parts _ _ both.0 in
    let name : p.name.number ≡ q.name.number = eqb-true _ _ pred.0 in
    let arity : p.arity ≡ q.arity = eqb-true _ _ pred.1 in
    let place : m ≡ n = eqb-true _ _ both.1 in
    record { low = omega (arith, name, k.low); few = omega (arith, arity, k.few); within = omega (arith, place, k.within); index = omega (arith, name, arity, place, k.index) }

-- two tests of which each tells the other
pub tells : (a b : Bool) → (a ≡ true → b ≡ true) → (b ≡ true → a ≡ true) → a ≡ b
tells a b f g = grind arith

-- a place's mark is set
pub marked : (p : Pred) (m i n : ℕ) (old new : Marks) → IsMarkOf p m i → ((j : ℕ) → mark_at new j ≡ option_or (mark_at old j) (if nat_eq j i then Some n else None)) → IsMarked p m n old new
marked p m i n old new own set = λ pred place j k. set j ∙ ap (λ (b : Bool). option_or (mark_at old j) (if b then Some n else None)) (same pred place j k)
  where
    same : (pred : Pred) (place j : ℕ) → IsMarkOf pred place j → nat_eq j i ≡ (is_pred p pred && nat_eq m place)
    same pred place j k =
        tells (nat_eq j i) (is_pred p pred && nat_eq m place) (λ t. same_place p pred m place i own (subst (IsMarkOf pred place) (eqb-true j i t) k))
        (λ u. let h : IsMarkOf p m j = moved p pred m place j u k in eq-eqb j i (h.index ∙ sym own.index))

-- both marks of a place are set
pub marks_more : (ps : Places) (p : Pred × ℕ) (n : ℕ) (old mid new : Marks) → n ≡ length ps → AreMarks old ps → IsMarked p.0 0 n old mid → IsMarked p.0 p.1 n mid new → AreMarks new (ps ++ p ∷ [])
marks_more ps p n old mid new e h first second = λ pred place i k.
    second pred place i k ∙ ap (λ (o : Option ℕ). option_or o (if is_pred p.0 pred && nat_eq p.1 place then Some n else None)) (first pred place i k ∙ ap (λ (o : Option ℕ). option_or o (if is_pred p.0 pred && nat_eq 0 place then Some n else None)) (h pred place i k))
    ∙ both pred place (first_of ps pred place) ∙ sym (first_push ps p pred place n e)
  where
    both : (pred : Pred) (place : ℕ) (o : Option ℕ) → option_or (option_or o (if is_pred p.0 pred && nat_eq 0 place then Some n else None)) (if is_pred p.0 pred && nat_eq p.1 place then Some n else None) ≡ option_or o (if marks_place p pred place then Some n else None)
    both pred place (Some m) = refl
    both pred zero None = grind (arith, nat_tests)
    both pred (suc i) None = grind (arith, nat_tests)

-- a place is chosen where it has a number
any_found : {X : Type 0} (t : X → Bool) (s : ℕ) (xs : List X) → list_any t xs ≡ is_some (position_from t s xs)
any_found t s [] = refl
any_found t s (x ∷ xs) = grind (arith, any_found t (s + 1) xs)

pub chosen_numbered : (ps : Places) (pred : Pred) (place : ℕ) → 0 < place → chosen ps pred place ≡ is_some (number_of ps pred place)
chosen_numbered ps pred zero u = absurd (omega arith)
chosen_numbered ps pred (suc i) u = any_found (is_place pred (suc i)) 0 ps

pub first_numbered : (ps : Places) (pred : Pred) (place : ℕ) → 0 < place → first_of ps pred place ≡ number_of ps pred place
first_numbered ps pred zero u = absurd (omega arith)
first_numbered ps pred (suc i) u = refl

-- a predicate that is not marked at 0 has no place
pub none_chosen : (ps : Places) (pred : Pred) → first_of ps pred 0 ≡ None → (place : ℕ) → 0 < place → chosen ps pred place ≡ false
none_chosen ps pred h zero u = absurd (omega arith)
none_chosen ps pred h (suc i) u = none_any 0 ps h
  where
    none_any : (s : ℕ) (ps : Places) → position_from (λ p. is_pred p.0 pred) s ps ≡ None → list_any (is_place pred (suc i)) ps ≡ false
    none_any s [] h = refl
    none_any s (p ∷ ps) h = elim (is_pred p.0 pred) as (λ b. cond b (Some s) (position_from (λ p. is_pred p.0 pred) (s + 1) ps) ≡ None → ((b && nat_eq p.1 (suc i)) || list_any (is_place pred (suc i)) ps) ≡ false) [
      | true ↦ λ t. absurd (cc)
      | false ↦ λ t. none_any (s + 1) ps t
    ] h

-- ---- a table that may have been made longer

-- the marks are as before, and an index is among them
pub record IsRoomy (old new : Marks) (index : ℕ) : Type 0 where
  pub within : index < length new
  pub same : (i : ℕ) → mark_at new i ≡ mark_at old i

pub roomy_filled : (old : Marks) (index len : ℕ) → len ≡ length old → len ≤ index → IsRoomy old (take (index + 1) old ++ replicate (index + 1 - len) None) index
roomy_filled old index len e u =
    subst (λ (z : Marks). IsRoomy old (z ++ replicate (index + 1 - len) None) index) (sym (take_all (index + 1) old (omega arith))) (record {
      within = omega (arith, length-append old (replicate (index + 1 - len) None), length-replicate (index + 1 - len) no_mark);
      same = λ i. mark_filled old (index + 1 - len) i;
    })

pub mark_got : (ms : Marks) (i : ℕ) → mark_at ms i ≡ unwrap_or (slice_get ms i) None
mark_got [] i = refl
mark_got (m ∷ ms) zero = refl
mark_got (m ∷ ms) (suc i) = mark_got ms i

pub some_not : (o : Option ℕ) → is_some o ≡ false → o ≡ None
some_not None h = refl
some_not (Some n) h = absurd (false≢true (sym h))
