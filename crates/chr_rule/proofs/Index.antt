-- The heads of rules by their names.
use Rattle.std.proofs.Common.{◌≡◌, ◌↔◌, ℕ, Result, Ok, Err, OnOk, zero, suc, ◌+◌, ◌-◌, ◌*◌, ◌<◌, ◌≤◌, ◌⊎◌, inl, inr, List, [], ◌∷◌, ◌++◌, length, get_or, take, drop, Option, Some, None, IsSome, slice_get, slice_set, map, refl, sym, ap, ap₂, subst, ◌∙◌, arith, length-append, ◌≢◌}
use Rattle.std.proofs.lemmas.Option.{slice_get_within, get_or_from_slice_get, slice_get-map, slice_get_read, slice_get_cases}
use Rattle.std.proofs.lemmas.Grind.{common_steps, elements}
use Rattle.std.proofs.lemmas.List.{length-map, get_or-drop, map-append, take-append-drop}
use Rattle.std.proofs.lemmas.List.Elements.{All-from_recursion, recursion_from_All, Contains-get_or}
use Rattle.std.specs.List.{AllByRecursion, Contains}
use Rattle.std.specs.List.Sorted.{IsNonDecreasingBy}
use Rattle.chr_value.specs.declared.atom.Pred.{Pred}
use Rattle.chr_rule.specs.declared.occurrences.Occurrence.{Occurrence}
use Rattle.chr_rule.specs.Rules.{RuleAtom, Simpagation, heads_of, head_at, rule_at}
use Rattle.chr_rule.specs.Scope.{IsRule}
use Rattle.chr_rule.specs.Occurrences.{HasPred, IsOccurrence, AtOrAfter, AreListedFrom, pred_of}
use Rattle.chr_rule.specs.Index.{Index, KeepsRows, rank, ComesBefore, row_at, room_at, IsRising, IsInOrder, AreInOrder, IsRowOf, IsIndexOf, IsRestFrom, HasPushed, HasHeadsBelow, HasHeadsOf}

-- the first of a list, or one behind it

front_or_rest : (one o : Occurrence) (old : List Occurrence) → Contains (one ∷ old) o → Contains old o ⊎ (one ≡ o)
front_or_rest one o old h = grind arith

in_rest : (one o : Occurrence) (old : List Occurrence) → Contains old o ⊎ (one ≡ o) → Contains (one ∷ old) o
in_rest one o old (inl h) = (suc h.0, omega arith, h.2)
in_rest one o old (inr e) = grind arith

-- one more at the end of a row

contains-pushed : (row : List Occurrence) (one o : Occurrence) → Contains (row ++ one ∷ []) o ↔ (Contains row o ⊎ (one ≡ o))
contains-pushed [] one o = (λ h. front_or_rest one o [] h, λ h. in_rest one o [] h)
contains-pushed (x ∷ xs) one o = (
  λ h. grind (arith, front_or_rest x o (xs ++ one ∷ []) h, (contains-pushed xs one o).0, in_rest x o xs),
  λ h. grind (arith, front_or_rest x o xs, (contains-pushed xs one o).1, in_rest x o (xs ++ one ∷ [])),
)

before_by_rank : (a b : Occurrence) → a.head < 256 → ComesBefore a b → rank a < rank b
before_by_rank a b fits h = grind arith

pub order_pushed : (row : List Occurrence) (one : Occurrence) → IsInOrder row → one.head < 256 → ((o : Occurrence) → Contains row o → ComesBefore o one) → IsInOrder (row ++ one ∷ [])
order_pushed row one order fits last = record {
  rising = λ a b d l w. grind (arith, elements, order.rising a b d, length-append, before_by_rank (get_or row a d) one, order.fit (get_or row a d), last (get_or row a d), Contains-get_or row a d);
  fit = λ o h. grind (arith, (contains-pushed row one o).0 h, order.fit o);
}

pub nothing_in_order : IsInOrder []
nothing_in_order = record { rising = λ a b d l w. absurd (omega arith); fit = λ o h. absurd (omega (arith, h.1)) }

-- the heads of one more rule

head_within : (rule : Simpagation ℕ) (h : ℕ) (head : RuleAtom ℕ) → head_at rule h ≡ Some head → h ≤ length rule.kept + length rule.removed
head_within rule h head e = grind (arith, slice_get_within, length-append)

-- where there is no head of a number, and where there is one with this predicate
pub skip_head : (old mid : List (List Occurrence)) (number head : ℕ) (rule : Simpagation ℕ) → head_at rule head ≡ None → HasHeadsBelow head old number rule mid → HasHeadsBelow (head + 1) old number rule mid
skip_head old mid number head rule e below n o = grind (arith, below n o)

pub more_heads : (old mid new : List (List Occurrence)) (number head : ℕ) (rule : Simpagation ℕ) (pattern : RuleAtom ℕ) (p : Pred) (one : Occurrence) → one ≡ record { rule = number; head = head; arity = p.arity } → head_at rule head ≡ Some pattern → HasPred pattern p → HasHeadsBelow head old number rule mid → HasPushed mid p.name.number one new → HasHeadsBelow (head + 1) old number rule new
more_heads old mid new number head rule pattern p one is e there below added n o = grind (arith, below n o, added n o)

pub comes_last : (old mid : List (List Occurrence)) (number head n : ℕ) (rule : Simpagation ℕ) (one : Occurrence) → one.rule ≡ number → one.head ≡ head → ((n : ℕ) (o : Occurrence) → Contains (row_at old n) o → o.rule < number) → HasHeadsBelow head old number rule mid → (o : Occurrence) → Contains (row_at mid n) o → ComesBefore o one
comes_last old mid number head n rule one r k last below o h = elim ((below n o).0 h) [
  | inl before ↦ inl (omega (arith, last n o before, r))
  | inr here ↦ inr (here.0 ∙ sym r, omega (arith, here.1, k))
]

pub all_heads : (old new : List (List Occurrence)) (number bound : ℕ) (rule : Simpagation ℕ) → length rule.kept + length rule.removed < bound → HasHeadsBelow bound old number rule new → HasHeadsOf old number rule new
all_heads old new number bound rule past below n o = grind (arith, below n o, head_within)

-- what is left of a row from a place on

pub by_place : (row : List Occurrence) → IsRising row → IsNonDecreasingBy rank row
by_place row r = grind arith

pub rest_from : (row : List Occurrence) (i from : ℕ) → IsRising row → ((k : ℕ) (d : Occurrence) → k < i → rank (get_or row k d) < from) → ((k : ℕ) (d : Occurrence) → i ≤ k → k < length row → from ≤ rank (get_or row k d)) → IsRestFrom row from (drop i row)
rest_from row i from r front later = record {
  rising = λ a b d l w. grind (arith, common_steps, r (i + a) (i + b) d);
  listed = λ o h. (i + h.0, grind (arith, common_steps), grind (arith, common_steps));
  after = recursion_from_All (λ o. from ≤ rank o) (drop i row) (λ k d l. grind (arith, common_steps, later (i + k) d));
  all = λ o h l.
      let before = front h.0 o in
      (h.0 - i, grind (arith, common_steps), get_or-drop i row (h.0 - i) o ∙ ap (λ k. get_or row k o) (grind arith) ∙ h.2);
}

-- all of a row
pub whole_row : (row : List Occurrence) (from : ℕ) → IsRising row → ((o : Occurrence) → Contains row o → from ≤ rank o) → IsRestFrom row from row
whole_row row from r after = record {
  rising = r;
  listed = λ o h. h;
  after = recursion_from_All (λ o. from ≤ rank o) row (λ k d l. after (get_or row k d) (Contains-get_or row k d l));
  all = λ o h l. h;
}

-- what is left of a row from a rank on, of occurrences with so many arguments

record IsRestFor (row : List Occurrence) (a from : ℕ) (rest : List Occurrence) : Type 0 where
  rising : IsRising rest
  listed : (o : Occurrence) → Contains rest o → Contains row o
  after : AllByRecursion (λ o. from ≤ rank o) rest
  all : (o : Occurrence) → o.arity ≡ a → Contains row o → from ≤ rank o → Contains rest o

rest_for : (row : List Occurrence) (a from : ℕ) (rest : List Occurrence) → IsRestFrom row from rest → IsRestFor row a from rest
rest_for row a from rest h = record { rising = h.rising; listed = h.listed; after = h.after; all = λ o e there l. h.all o there l }

module _ (row : List Occurrence) (a from : ℕ) (o : Occurrence) (os : List Occurrence) (rest : IsRestFor row a from (o ∷ os)) where
  rising_behind : IsRising os
  rising_behind i j d l w = grind (arith, rest.rising (suc i) (suc j) d)

  listed_behind : (x : Occurrence) → Contains os x → Contains row x
  listed_behind x h = rest.listed x (in_rest o x os (inl h))

  rest_skipped : (o.arity ≡ a → ⊥) → IsRestFor row a from os
  rest_skipped other = record {
    rising = rising_behind;
    listed = listed_behind;
    after = rest.after.1;
    all = λ x e h l. grind (arith, front_or_rest o x os (rest.all x e h l), other);
  }

  rest_after : IsRestFor row a (o.rule * 256 + (o.head + 1)) os
  rest_after = record {
    rising = rising_behind;
    listed = listed_behind;
    after = recursion_from_All (λ x. o.rule * 256 + (o.head + 1) ≤ rank x) os (λ k d l. grind (arith, rest.rising zero (suc k) d));
    all = λ x e h l. grind (arith, rest.after.0, rest.all x e h, front_or_rest o x os);
  }

  -- it begins with the least
  least_in_rest : (x : Occurrence) → x.arity ≡ a → Contains row x → from ≤ rank x → rank o ≤ rank x
  least_in_rest x e h l =
      let there = rest.all x e h l in
      rw there.2 at (by_place (o ∷ os) rest.rising zero there.0 x (omega arith) there.1)

-- ranks, and where heads stand

at_or_after : (s i r h : ℕ) → h < 256 → s * 256 + i ≤ r * 256 + h → i < 256 → AtOrAfter s i r h
at_or_after s i r h g l f = grind arith

by_rank : (s i r h : ℕ) → i < 256 → AtOrAfter s i r h → s * 256 + i ≤ r * 256 + h
by_rank s i r h low a = grind arith

scoped : (rules : List (Simpagation ℕ)) → AllByRecursion IsRule rules → (r : ℕ) (rule : Simpagation ℕ) → rule_at rules r ≡ Some rule → IsRule rule
scoped rules all zero rule e = absurd (cc)
scoped rules all (suc k) rule e = subst IsRule (get_or_from_slice_get rules k rule rule e) (All-from_recursion IsRule rules all k rule (slice_get_within rules k rule e))

rule_within : (rules : List (Simpagation ℕ)) (r : ℕ) (rule : Simpagation ℕ) → rule_at rules r ≡ Some rule → r ≤ length rules
rule_within rules r rule e = grind (arith, slice_get_within)

-- a program of at most 256 rules, with its index
pub record IsIndexed (rules : List (Simpagation ℕ)) (rows : List (List Occurrence)) : Type 0 where
  pub few : length rules ≤ 256
  pub all : AllByRecursion IsRule rules
  pub index : IsIndexOf rules rows

pub indexed : {X : Type 0} (f : X → Simpagation ℕ) (xs : List X) (rows : List (List Occurrence)) → (length xs ≤ 256) × AllByRecursion IsRule (map f xs) × IsIndexOf (map f xs) rows → IsIndexed (map f xs) rows
indexed f xs rows is = record { few = rw length-map is.0; all = is.1; index = is.2 }

abbrev occurrence : ℕ → ℕ → ℕ → Occurrence
occurrence r h a = record { rule = r; head = h; arity = a }

module _ (rules : List (Simpagation ℕ)) (rows : List (List Occurrence)) (is : IsIndexed rules rows) (p : Pred) (order : IsInOrder (row_at rows p.name.number)) where
  abbrev row : List Occurrence
  row = row_at rows p.name.number

  -- one that is listed is a head of a rule, and another may come after it
  next_fits : (o : Occurrence) → Contains row o → o.head + 1 < 256
  next_fits o listed =
      let there = (is.index p.name.number o).0 listed in
      omega (arith, head_within there.rule o.head there.at.head there.at.head_is, (scoped rules is.all o.rule there.rule there.rule_is).limits.heads)

  -- an occurrence at or after a rule and a head is listed, and its rank is no less
  there : (s i r h : ℕ) → i < 256 → AtOrAfter s i r h → IsOccurrence rules p r h → Contains row (occurrence r h p.arity) × (s * 256 + i ≤ r * 256 + h)
  there s i r h fits after x = ((is.index p.name.number (occurrence r h p.arity)).1 x, by_rank s i r h fits after)

  listed_for : (s i : ℕ) (rest : List Occurrence) → i < 256 → IsRestFor row p.arity (s * 256 + i) rest → AreListedFrom rules p s i rest
  listed_for s i [] fits rest = λ r h after x. let at = there s i r h fits after x in absurd (omega (arith, (rest.all (occurrence r h p.arity) refl at.0 at.1).1))
  listed_for s i (o ∷ os) fits rest =
      let listed = rest.listed o (in_rest o o os (inr refl)) in
      let least = λ (r h : ℕ) (after : AtOrAfter s i r h) (x : IsOccurrence rules p r h). (let at = there s i r h fits after x in least_in_rest row p.arity (s * 256 + i) o os rest (occurrence r h p.arity) refl at.0 at.1) in
      let behind = listed_for o.rule (o.head + 1) os (next_fits o listed) (rest_after row p.arity (s * 256 + i) o os rest) in (
        λ other. listed_for s i os fits (rest_skipped row p.arity (s * 256 + i) o os rest other),
        λ e. (
          record {
            occurs = subst (λ a. IsOccurrence rules (pred_of p.name.number a) o.rule o.head) e ((is.index p.name.number o).0 listed);
            after = at_or_after s i o.rule o.head (order.fit o listed) rest.after.0 fits;
            least = λ r h after x. at_or_after o.rule o.head r h (order.fit (occurrence r h p.arity) (there s i r h fits after x).0) (least r h after x) (order.fit o listed);
          },
          behind,
        ),
      )

  pub heads_listed : (s i : ℕ) (rest : List Occurrence) → i < 256 → IsRestFrom row (s * 256 + i) rest → AreListedFrom rules p s i rest
  heads_listed s i rest fits left = listed_for s i rest fits (rest_for row p.arity (s * 256 + i) rest left)

  -- no head comes before the first
  head_ranked : (rule : Simpagation ℕ) (h : ℕ) (head : RuleAtom ℕ) → head_at rule h ≡ Some head → 1 ≤ h
  head_ranked rule zero head e = absurd (cc)
  head_ranked rule (suc h) head e = omega arith

  rule_ranked : (r : ℕ) (rule : Simpagation ℕ) → rule_at rules r ≡ Some rule → 1 ≤ r
  rule_ranked zero rule e = absurd (cc)
  rule_ranked (suc r) rule e = omega arith

  pub all_listed : AreListedFrom rules p 1 1 row
  all_listed =
      heads_listed 1 1 row (omega arith) (whole_row row (1 * 256 + 1) order.rising (λ o h.
      let x = (is.index p.name.number o).0 h in
      omega (arith, rule_ranked o.rule x.rule x.rule_is, head_ranked x.rule o.head x.at.head x.at.head_is)))

-- one more rule

at_pushed : (rules : List (Simpagation ℕ)) (rule x : Simpagation ℕ) (k : ℕ) → (slice_get (rules ++ rule ∷ []) k ≡ Some x) ↔ ((slice_get rules k ≡ Some x) ⊎ ((k ≡ length rules) × (rule ≡ x)))
at_pushed [] rule x zero = grind arith
at_pushed [] rule x (suc k) = grind arith
at_pushed (y ∷ ys) rule x zero = grind arith
at_pushed (y ∷ ys) rule x (suc k) = grind (arith, at_pushed ys rule x k)

rule_pushed : (rules : List (Simpagation ℕ)) (rule x : Simpagation ℕ) (r : ℕ) → (rule_at (rules ++ rule ∷ []) r ≡ Some x) ↔ ((rule_at rules r ≡ Some x) ⊎ ((r ≡ length rules + 1) × (rule ≡ x)))
rule_pushed rules rule x zero = grind arith
rule_pushed rules rule x (suc k) = grind (arith, at_pushed rules rule x k)

pub few_pushed : {X : Type 0} (f : X → Simpagation ℕ) (xs new : List X) (x : X) (rules : List (Simpagation ℕ)) → new ≡ xs ++ x ∷ [] → map f xs ≡ rules → length rules < 256 → length new ≤ 256
few_pushed f xs new x rules e same few = grind (arith, length-append, length-map)

pub numbers_within : (rules : List (Simpagation ℕ)) (rows : List (List Occurrence)) (number : ℕ) → number ≡ length rules + 1 → IsIndexOf rules rows → (n : ℕ) (o : Occurrence) → Contains (row_at rows n) o → o.rule < number
numbers_within rules rows number last index n o h = grind (arith, index n o, rule_within)

-- the same rows are an index too
pub index_kept : (rules : List (Simpagation ℕ)) (old new : List (List Occurrence)) → ((n : ℕ) → row_at new n ≡ row_at old n) → IsIndexOf rules old → IsIndexOf rules new
index_kept rules old new same index n = subst (IsRowOf rules n) (sym (same n)) (index n)

pub index_pushed : (rules : List (Simpagation ℕ)) (old new : List (List Occurrence)) (rule : Simpagation ℕ) (number : ℕ) → number ≡ length rules + 1 → IsIndexOf rules old → HasHeadsOf old number rule new → IsIndexOf (rules ++ rule ∷ []) new
index_pushed rules old new rule number last index added n o = (
  λ h. elim ((added n o).0 h) [
    | inl before ↦ (let x = (index n o).0 before in record { rule = x.rule; rule_is = (rule_pushed rules rule x.rule o.rule).1 (inl x.rule_is); at = x.at })
    | inr here ↦ record { rule = rule; rule_is = (rule_pushed rules rule rule o.rule).1 (inr (here.0 ∙ last, refl)); at = here.1 }
  ],
  λ h. grind (arith, index n o, added n o, rule_pushed rules rule h.rule o.rule),
)

-- ---- rows in a list of what holds them

-- the same rows are in order too
pub order_kept : (old new : List (List Occurrence)) → ((n : ℕ) → row_at new n ≡ row_at old n) → AreInOrder old → AreInOrder new
order_kept old new same order n = subst IsInOrder (sym (same n)) (order n)

-- what holds once a call has done what it says
pub on_ok_from : {X E P Q : Type 0} (result : Result X E) → OnOk result P → (P → Q) → OnOk result Q
on_ok_from (Ok x) h f = f h
on_ok_from (Err e) h f = h

pub keeps_both : (one two three : Index) → KeepsRows one two → KeepsRows two three → KeepsRows one three
keeps_both one two three h k = record {
  rows = λ n. k.rows n ∙ h.rows n;
  rooms = λ n. (let first = h.rooms n in let then = k.rooms n in omega (arith, first, then));
}

-- one more in the row of a name
pub record IsPushed (old : Index) (name : ℕ) (one : Occurrence) (new : Index) : Type 0 where
  pub order : AreInOrder new.rows
  pub rows : HasPushed old.rows name one new.rows
  pub rooms : (n : ℕ) → room_at old.rooms n ≤ room_at new.rooms n + 1

module _ {X : Type 0} (f : X → List Occurrence) (g : X → ℕ) where
  abbrev held : List X → Index
  held xs = record { rows = map f xs; rooms = map g xs }

  -- an empty one at the end
  row_more : (xs : List X) (x : X) (n : ℕ) → f x ≡ [] → row_at (map f (xs ++ x ∷ [])) n ≡ row_at (map f xs) n
  row_more [] x zero e = e
  row_more [] x (suc n) e = refl
  row_more (y ∷ ys) x zero e = refl
  row_more (y ∷ ys) x (suc n) e = row_more ys x n e

  room_more : (xs : List X) (x : X) (n : ℕ) → room_at (map g xs) n ≤ room_at (map g (xs ++ x ∷ [])) n
  room_more [] x n = omega arith
  room_more (y ∷ ys) x zero = omega arith
  room_more (y ∷ ys) x (suc n) = room_more ys x n

  pub keeps_more : (old : Index) (xs new : List X) (x : X) → KeepsRows old (held xs) → f x ≡ [] → new ≡ xs ++ x ∷ [] → KeepsRows old (held new)
  keeps_more old xs new x keeps e is = rw is (record {
    rows = λ n. row_more xs x n e ∙ keeps.rows n;
    rooms = λ n. (let before = keeps.rooms n in let more = room_more xs x n in omega (arith, before, more));
  })

  -- the one at a place
  pub row_read : (xs : List X) (i : ℕ) (x : X) → i < length xs → x ≡ get_or xs i x → row_at (map f xs) i ≡ f x
  row_read [] i x lt e = absurd (omega arith)
  row_read (y ∷ ys) zero x lt e = ap f (sym e)
  row_read (y ∷ ys) (suc i) x lt e = row_read ys i x (omega arith) e

  room_read : (xs : List X) (i : ℕ) (x : X) → i < length xs → x ≡ get_or xs i x → room_at (map g xs) i ≡ g x
  room_read [] i x lt e = absurd (omega arith)
  room_read (y ∷ ys) zero x lt e = ap g (sym e)
  room_read (y ∷ ys) (suc i) x lt e = room_read ys i x (omega arith) e

  -- another at a place
  row_cases : (xs : List X) (i n : ℕ) (x : X) → i < length xs → ((n ≡ i) × (row_at (map f (slice_set xs i x)) n ≡ f x)) ⊎ ((n ≡ i → ⊥) × (row_at (map f (slice_set xs i x)) n ≡ row_at (map f xs) n))
  row_cases [] i n x lt = absurd (omega arith)
  row_cases (y ∷ ys) zero zero x lt = inl (refl, refl)
  row_cases (y ∷ ys) zero (suc n) x lt = inr (λ e. omega (arith, e), refl)
  row_cases (y ∷ ys) (suc i) zero x lt = inr (λ e. omega (arith, e), refl)
  row_cases (y ∷ ys) (suc i) (suc n) x lt = elim (row_cases ys i n x (omega arith)) [
    | inl h ↦ inl (ap suc h.0, h.1)
    | inr h ↦ inr (λ e. h.0 (omega (arith, e)), h.1)
  ]

  room_within : (xs : List X) (n : ℕ) → 0 < room_at (map g xs) n → n < length xs
  room_within [] n lt = absurd (omega arith)
  room_within (y ∷ ys) zero lt = omega arith
  room_within (y ∷ ys) (suc n) lt = let h = room_within ys n lt in omega arith

  room_set : (xs : List X) (i n : ℕ) (x : X) → i < length xs → room_at (map g xs) i ≤ g x + 1 → room_at (map g xs) n ≤ room_at (map g (slice_set xs i x)) n + 1
  room_set [] i n x lt le = absurd (omega arith)
  room_set (y ∷ ys) zero zero x lt le = le
  room_set (y ∷ ys) zero (suc n) x lt le = omega arith
  room_set (y ∷ ys) (suc i) zero x lt le = omega arith
  room_set (y ∷ ys) (suc i) (suc n) x lt le = room_set ys i n x (omega arith) le

  room_grown : (xs : List X) (i n : ℕ) (x : X) → i < length xs → room_at (map g xs) i ≤ g x → room_at (map g xs) n ≤ room_at (map g (slice_set xs i x)) n
  room_grown [] i n x lt le = absurd (omega arith)
  room_grown (y ∷ ys) zero zero x lt le = le
  room_grown (y ∷ ys) zero (suc n) x lt le = omega arith
  room_grown (y ∷ ys) (suc i) zero x lt le = omega arith
  room_grown (y ∷ ys) (suc i) (suc n) x lt le = room_grown ys i n x (omega arith) le

  pub room_there : (xs : List X) (i k : ℕ) (x : X) → i < length xs → k ≤ g x → k ≤ room_at (map g (slice_set xs i x)) i
  room_there [] i k x lt le = absurd (omega arith)
  room_there (y ∷ ys) zero k x lt le = le
  room_there (y ∷ ys) (suc i) k x lt le = room_there ys i k x (omega arith) le

  module _ (xs : List X) (i : ℕ) (x : X) (one : Occurrence) (lt : i < length xs) (longer : f x ≡ row_at (map f xs) i ++ one ∷ []) where
    rows_in_order : AreInOrder (map f xs) → one.head < 256 → ((o : Occurrence) → Contains (row_at (map f xs) i) o → ComesBefore o one) → AreInOrder (map f (slice_set xs i x))
    rows_in_order order fits last n = elim (row_cases xs i n x lt) [
      | inl h ↦ subst IsInOrder (sym (h.1 ∙ longer)) (order_pushed (row_at (map f xs) i) one (order i) fits last)
      | inr h ↦ subst IsInOrder (sym h.1) (order n)
    ]

    row_pushed : HasPushed (map f xs) i one (map f (slice_set xs i x))
    row_pushed n o = elim (row_cases xs i n x lt) [
      | inl h ↦ (let more = contains-pushed (row_at (map f xs) i) one o in let is = h.1 ∙ longer in grind (arith, is, h.0, more.0, more.1))
      | inr h ↦ grind (arith, h.0, h.1)
    ]

  pub pushed : {old : Index} (xs : List X) (i : ℕ) (row x : X) (one : Occurrence) → held xs ≡ old → 0 < room_at old.rooms i → row ≡ get_or xs i row → f x ≡ f row ++ one ∷ [] → g row ≤ g x + 1 → AreInOrder (map f xs) → one.head < 256 → ((o : Occurrence) → Contains (row_at old.rows i) o → ComesBefore o one) → IsPushed old i one (held (slice_set xs i x))
  pushed xs i row x one view room is longer less order fits last =
      let within = room_within xs i (rw (← ap (λ (j : Index). j.rooms) view) at room) in
      let more = longer ∙ ap (λ os. os ++ one ∷ []) (sym (row_read xs i row within is)) in
      rw (← view) (record {
        order = rows_in_order xs i x one within more order fits (rw (← ap (λ (j : Index). j.rows) view) at last);
        rows = row_pushed xs i x one within more;
        rooms = λ n. room_set xs i n x within (omega (arith, room_read xs i row within is, less));
      })

  -- more room at a place
  pub keeps_reserved : (old : Index) (xs : List X) (i : ℕ) (row x : X) → KeepsRows old (held xs) → i < length xs → row ≡ get_or xs i row → f x ≡ f row → g row ≤ g x → KeepsRows old (held (slice_set xs i x))
  keeps_reserved old xs i row x keeps lt is same more = record {
    rows = λ n. elim (row_cases xs i n x lt) [
      | inl h ↦ h.1 ∙ same ∙ sym (row_read xs i row lt is) ∙ ap (row_at (map f xs)) (sym h.0) ∙ keeps.rows n
      | inr h ↦ h.1 ∙ keeps.rows n
    ];
    rooms = λ n. (let before = keeps.rooms n in let here = room_read xs i row lt is in let there = room_grown xs i n x lt (omega (arith, here, more)) in omega (arith, before, there));
  }

-- ---- the rule or head of a number, read through what holds it

pub numbered_read : {X : Type 0} (f : X → Simpagation ℕ) (xs : List X) (n : ℕ) (x : X) → n ≢ 0 → n ≤ length xs → x ≡ get_or xs (n - 1) x → rule_at (map f xs) n ≡ Some (f x)
numbered_read f xs zero x ne h e = grind arith
numbered_read f xs (suc k) x ne h e = grind (arith, slice_get-map, slice_get_read)

some_read : {X : Type 0} (found : Option X) (x : X) → found ≡ Some x → IsSome found
some_read found x e = subst IsSome (sym e) refl

-- which numbers have a head
pub head_there : (rule : Simpagation ℕ) (n : ℕ) → n ≢ 0 → n ≤ length rule.kept + length rule.removed → IsSome (head_at rule n)
head_there rule zero ne l = grind arith
head_there rule (suc j) ne l = grind (arith, slice_get_cases (heads_of rule) j, some_read, length-append)

pub there_within : (rule : Simpagation ℕ) (n : ℕ) → IsSome (head_at rule n) → (n ≢ 0) × (n ≤ length rule.kept + length rule.removed)
there_within rule zero h = cc
there_within rule (suc j) h = grind (arith, slice_get_cases (heads_of rule) j, length-append)

-- a head of a number, read from all of them
pub head_read : {X : Type 0} (f : X → RuleAtom ℕ) (rule : Simpagation ℕ) (xs : List X) (kept n : ℕ) (x : X) → map f (take kept xs) ≡ rule.kept → map f (drop kept xs) ≡ rule.removed → IsSome (head_at rule n) → x ≡ get_or xs (n - 1) x → head_at rule n ≡ Some (f x)
head_read f rule xs kept zero x k r some e = absurd (cc)
head_read f rule xs kept (suc j) x k r some e =
    let all : map f xs ≡ heads_of rule = ap (map f) (sym (take-append-drop kept xs)) ∙ map-append f (take kept xs) (drop kept xs) ∙ ap₂ (λ ks rs. ks ++ rs) k r in
    let within : j < length xs = omega (arith, (there_within rule (suc j) some).1, length-map xs f, ap length all, length-append rule.kept rule.removed) in
    rw (← all, slice_get-map, slice_get_read xs (length xs) j x refl within (e ∙ ap (λ i. get_or xs i x) (omega arith)))
