-- Which token a sign is, where tokens are cut, and what is read at the front or by commas: it is well formed and spelled so, and the other way round.
use Rattle.std.proofs.Common.{◌≡◌, ℕ, List, true, refl, ap, Some, Bool, false, if◌then◌else◌, [], ◌∷◌, ◌++◌, ◌∙◌, ◌≤◌, ◌<◌, zero, suc, length, drop, sym, subst, arith, Option, None, Result, Ok, Err, append_assoc, length-append}
use Rattle.std.proofs.lemmas.Slice.Eq.{bytes_eq-Decides}
use Rattle.chr_lex.specs.declared.mark.Mark.{Mark}
use Rattle.chr_lex.specs.Marks.{spelling}
use Rattle.chr_lex.proofs.Lexing.{one_mark}
use Rattle.chr_lex.specs.Tokens as word
use Rattle.chr_lex.specs.Tokens.{Lexeme, OfWord, OfMark}
use Rattle.chr_grammar.specs.Parsing.{is_mark, named, is_named, before, from_first, Front, either, NoComma, behind, members_at, several_at, alone, each_by_commas}
use Rattle.chr_grammar.specs.Spelling.{a_name, by_commas, AreByCommas}
use Rattle.std.specs.List.{AllByRecursion}
use Rattle.std.proofs.lemmas.Bool.{cond_both}
use Rattle.std.proofs.lemmas.List.{append-nil}
use Rattle.chr_lex.specs.declared.fault.Kind.{Kind}
use Rattle.chr_lex.specs.declared.fault.Kind.TheVariants.{Syntax}
use Rattle.chr_lex.specs.declared.mark.Mark.TheVariants.{Comma}
use Rattle.chr_lex.specs.Reading.{◌>>=◌}
use Rattle.chr_grammar.proofs.Lists.{behind_last}

pub mark_is : (m : Mark) (s : Lexeme) → is_mark m s ≡ true → s ≡ OfMark m
mark_is m (OfMark n) h = ap (λ (k : Mark). OfMark k) (one_mark n m ((bytes_eq-Decides (spelling n) (spelling m)).0 h))
mark_is m _ h = absurd cc

pub named_is : (s : Lexeme) (name : List ℕ) → named s ≡ Some name → s ≡ a_name name
named_is (OfWord (word.Name w)) name h = let e : w ≡ name = cc in ap a_name e
named_is _ name h = absurd cc

pub named_so : (s : Lexeme) (w : List ℕ) → is_named w (named s) ≡ true → s ≡ a_name w
named_so (OfWord (word.Name v)) w h = ap a_name ((bytes_eq-Decides v w).0 h)
named_so _ w h = absurd cc

pub splits : (p : Lexeme → Bool) (ts : List Lexeme) → ts ≡ before p ts ++ from_first p ts
splits p [] = refl
splits p (s ∷ ts) =
    elim (p s) as (λ b. s ∷ ts ≡ (if b then [] else s ∷ before p ts) ++ (if b then s ∷ ts else from_first p ts)) [ true ↦ refl | false ↦ ap (λ (x : List Lexeme). s ∷ x) (splits p ts) ]

pub first_such : (p : Lexeme → Bool) (ts r : List Lexeme) (s : Lexeme) → from_first p ts ≡ s ∷ r → p s ≡ true
first_such p [] r s h = absurd cc
first_such p (t ∷ ts) r s h =
    cond_both (p t) (t ∷ ts) (from_first p ts) (λ x. x ≡ s ∷ r → p s ≡ true) (λ is e. let same : s ≡ t = cc in ap p same ∙ is) (λ is e. first_such p ts r s e) h

abbrev pub None_such : (Lexeme → Bool) → List Lexeme → Type 0
None_such p ts = AllByRecursion (λ s. p s ≡ false) ts

pub cut_past : {A : Type 0} (f : List Lexeme → List Lexeme → A) (p : Lexeme → Bool) (xs ys : List Lexeme) (s : Lexeme) → None_such p xs → p s ≡ true → f (before p (xs ++ s ∷ ys)) (from_first p (xs ++ s ∷ ys)) ≡ f xs (s ∷ ys)
cut_past f p [] ys s none is = rw is refl
cut_past f p (x ∷ xs) ys s none is = rw none.0 (cut_past (λ us vs. f (x ∷ us) vs) p xs ys s none.1 is)

pub cut_none : {A : Type 0} (f : List Lexeme → List Lexeme → A) (p : Lexeme → Bool) (xs : List Lexeme) → None_such p xs → f (before p xs) (from_first p xs) ≡ f xs []
cut_none f p [] none = refl
cut_none f p (x ∷ xs) none = rw none.0 (cut_none (λ us vs. f (x ∷ us) vs) p xs none.1)

-- what is read is so, or the fault is a fault of syntax
abbrev pub IfRead : {A : Type 0} → (A → Type 0) → Result A Kind → Type 0
IfRead P (Ok x) = P x
IfRead P (Err k) = k ≡ Syntax

pub then_read : {A B : Type 0} (P : A → Type 0) (Q : B → Type 0) (read : Result A Kind) (f : A → Result B Kind) → IfRead P read → ((x : A) → P x → IfRead Q (f x)) → IfRead Q (read >>= f)
then_read P Q (Ok x) f h go = go x h
then_read P Q (Err k) f h go = h

pub also_read : {A : Type 0} (P Q : A → Type 0) (read : Result A Kind) → IfRead P read → ((x : A) → P x → Q x) → IfRead Q read
also_read P Q (Ok x) h go = go x h
also_read P Q (Err k) h go = h

pub either_both : {A B : Type 0} (o : Option A) (x : B) (f : A → B) (P : B → Type 0) → P x → ((a : A) → o ≡ Some a → P (f a)) → P (either o x f)
either_both None x f P h go = h
either_both (Some a) x f P h go = go a refl

abbrev pub FrontRead : {A : Type 0} → (A → Type 0) → (A → List Lexeme) → List Lexeme → Front A → Type 0
FrontRead {A} Stands spelled ts = IfRead (λ (x : A × List Lexeme). Stands x.0 × (ts ≡ spelled x.0 ++ x.1))

-- members by commas at the front, at least one, each of them well formed
pub record AreSeveral {A : Type 0} (Stands : A → Type 0) (spelled : A → List Lexeme) (ts : List Lexeme) (xs : List A) (rest : List Lexeme) : Type 0 where
  pub some : 0 < length xs
  pub each : AllByRecursion Stands xs
  pub written : ts ≡ by_commas spelled xs ++ rest

abbrev pub SeveralRead : {A : Type 0} → (A → Type 0) → (A → List Lexeme) → List Lexeme → Front (List A) → Type 0
SeveralRead {A} Stands spelled ts = IfRead (λ (x : List A × List Lexeme). AreSeveral Stands spelled ts x.0 x.1)

abbrev pub ListRead : {A : Type 0} → (A → Type 0) → (A → List Lexeme) → List Lexeme → Result (List A) Kind → Type 0
ListRead Stands spelled ts = IfRead (AreByCommas Stands spelled ts)

-- what is spelled so is read before what stops it
abbrev pub AgainBefore : {A : Type 0} → (List Lexeme → Type 0) → (A → Type 0) → (A → List Lexeme) → (List Lexeme → Front A) → Type 0
AgainBefore {A} Stops Stands spelled member = (x : A) (rest : List Lexeme) → Stands x → Stops rest → member (spelled x ++ rest) ≡ Ok (x, rest)

-- nothing, or a comma
abbrev pub Ends : List Lexeme → Type 0
Ends [] = Unit {0}
Ends (s ∷ ts) = s ≡ OfMark Comma

abbrev pub Again : {A : Type 0} → (A → Type 0) → (A → List Lexeme) → (List Lexeme → Front A) → Type 0
Again = AgainBefore Ends

-- ---- what is read is spelled so

module _ {A : Type 0} (Stands : A → Type 0) (spelled : A → List Lexeme) (member : List Lexeme → Front A) (each : (ts : List Lexeme) → FrontRead Stands spelled ts (member ts)) where
  longer : (a : A) (ts r : List Lexeme) (xs : List A) (rest : List Lexeme) → Stands a → ts ≡ spelled a ++ (OfMark Comma ∷ r) → AreSeveral Stands spelled r xs rest → AreSeveral Stands spelled ts (a ∷ xs) rest
  longer a ts r [] rest stands is h = absurd (omega (arith, h.some))
  longer a ts r (b ∷ bs) rest stands is h = record {
    some = omega arith;
    each = (stands, h.each);
    written = is ∙ ap (λ (x : List Lexeme). spelled a ++ (OfMark Comma ∷ x)) h.written ∙ sym (append_assoc (spelled a) (OfMark Comma ∷ by_commas spelled (b ∷ bs)) rest);
  }

  behind_read : (n : ℕ) (a : A) (ts r : List Lexeme) → Stands a → ts ≡ spelled a ++ r → ((ts : List Lexeme) → SeveralRead Stands spelled ts (members_at member n ts))
      → SeveralRead Stands spelled ts (behind a r (members_at member n (drop 1 r)))
  behind_read n a ts [] stands is found = record { some = omega arith; each = (stands, tt); written = is }
  behind_read n a ts (s ∷ r) stands is found =
      cond_both (is_mark Comma s) _ _ (SeveralRead Stands spelled ts)
      (λ h. then_read _ _ (members_at member n r) _ (found r) (λ x k. longer a ts r x.0 x.1 stands (is ∙ ap (λ (s : Lexeme). spelled a ++ (s ∷ r)) (mark_is Comma s h)) k))
      (λ h. record { some = omega arith; each = (stands, tt); written = is })

  members_found : (n : ℕ) (ts : List Lexeme) → SeveralRead Stands spelled ts (members_at member n ts)
  members_found zero ts = refl
  members_found (suc n) ts = then_read _ _ (member ts) _ (each ts) (λ x h. behind_read n x.0 ts x.1 h.0 h.1 (members_found n))

  pub several_found : (ts : List Lexeme) → SeveralRead Stands spelled ts (several_at member ts)
  several_found ts = members_found (length ts) ts

  alone_found : (ts : List Lexeme) (xs : List A) (rest : List Lexeme) → AreSeveral Stands spelled ts xs rest → ListRead Stands spelled ts (alone xs rest)
  alone_found ts xs [] h = record { some = h.some; each = h.each; written = h.written ∙ append-nil (by_commas spelled xs) }
  alone_found ts xs (s ∷ rest) h = refl

  pub list_found : (ts : List Lexeme) → ListRead Stands spelled ts (each_by_commas member ts)
  list_found ts = then_read _ _ (several_at member ts) _ (several_found ts) (λ x h. alone_found ts x.0 x.1 h)

  pub list_says : (ts : List Lexeme) (xs : List A) → each_by_commas member ts ≡ Ok xs → AreByCommas Stands spelled ts xs
  list_says ts xs h = subst (ListRead Stands spelled ts) h (list_found ts)

-- ---- what is spelled so is read

module _ {A : Type 0} (Stops : List Lexeme → Type 0) (Stands : A → Type 0) (spelled : A → List Lexeme) (member : List Lexeme → Front A) (again : AgainBefore Stops Stands spelled member) (comma : (ts : List Lexeme) → Stops (OfMark Comma ∷ ts)) where
  members_again : (n : ℕ) (x : A) (xs : List A) (rest : List Lexeme) → length (x ∷ xs) ≤ n → AllByRecursion Stands (x ∷ xs) → Stops rest → NoComma rest → members_at member n (by_commas spelled (x ∷ xs) ++ rest) ≡ Ok (x ∷ xs, rest)
  members_again zero x xs rest le each stops none = absurd (omega arith)
  members_again (suc n) x [] rest le each stops none =
      let one : member (spelled x ++ rest) ≡ Ok (x, rest) = again x rest each.0 stops in
      rw one (behind_last x rest (members_at member n (drop 1 rest)) none)
  members_again (suc n) x (y ∷ xs) rest le each stops none =
      let others = by_commas spelled (y ∷ xs) ++ rest in
      let one : member (spelled x ++ (OfMark Comma ∷ others)) ≡ Ok (x, OfMark Comma ∷ others) = again x (OfMark Comma ∷ others) each.0 (comma others) in
      let two : members_at member n others ≡ Ok (y ∷ xs, rest) = members_again n y xs rest (omega arith) each.1 stops none in
      ap (members_at member (suc n)) (append_assoc (spelled x) (OfMark Comma ∷ by_commas spelled (y ∷ xs)) rest) ∙ rw (one, two) refl

  pub several_again : (xs : List A) (rest : List Lexeme) → 0 < length xs → length xs ≤ length (by_commas spelled xs) → AllByRecursion Stands xs → Stops rest → NoComma rest → several_at member (by_commas spelled xs ++ rest) ≡ Ok (xs, rest)
  several_again [] rest lt few each stops none = absurd (omega (arith, lt))
  several_again (x ∷ xs) rest lt few each stops none = members_again _ x xs rest (omega (arith, few, length-append (by_commas spelled (x ∷ xs)) rest)) each stops none

module _ {A : Type 0} (Stands : A → Type 0) (spelled : A → List Lexeme) (some : (x : A) → Stands x → 0 < length (spelled x)) where
  pub no_more : (xs : List A) → AllByRecursion Stands xs → length xs ≤ length (by_commas spelled xs)
  no_more [] each = omega arith
  no_more (x ∷ []) each = let h = some x each.0 in omega (arith, h)
  no_more (x ∷ y ∷ xs) each = let h = no_more (y ∷ xs) each.1 in omega (arith, h, length-append (spelled x) (OfMark Comma ∷ by_commas spelled (y ∷ xs)))

  pub list_read : (member : List Lexeme → Front A) → Again Stands spelled member → (ts : List Lexeme) (xs : List A) → AreByCommas Stands spelled ts xs → each_by_commas member ts ≡ Ok xs
  list_read member again ts xs h =
      let whole = by_commas spelled xs in
      let all : several_at member (whole ++ []) ≡ Ok (xs, []) = several_again Ends Stands spelled member again (λ ts. refl) xs [] h.some (no_more xs h.each) h.each tt tt in
      ap (each_by_commas member) (h.written ∙ sym (append-nil whole)) ∙ rw all refl

  pub list_refused : (member : List Lexeme → Front A) → ((ts : List Lexeme) → FrontRead Stands spelled ts (member ts)) → Again Stands spelled member
      → (ts : List Lexeme) (k : Kind) → each_by_commas member ts ≡ Err k → (k ≡ Syntax) × ((xs : List A) → AreByCommas Stands spelled ts xs → ⊥)
  list_refused member found again ts k h = (subst (ListRead Stands spelled ts) h (list_found Stands spelled member found ts), λ xs a. let x = list_read member again ts xs a in cc)
