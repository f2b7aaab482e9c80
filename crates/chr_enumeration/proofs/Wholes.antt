-- What is picked, one entry more at a time.
use Rattle.std.proofs.Common.{◌≡◌, ◌≢◌, ◌↔◌, ℕ, zero, suc, ◌<◌, true, false, ◌||◌, ◌==◌, [], ◌∷◌, length, take, drop, replicate, Some, None, refl, sym, ◌∙◌, ap, ap₂, subst, ⊎_elim, arith, slice_set, get_or-set_same, get_or-set_other, ◌+◌, ◌≤◌, List, ◌++◌, Option, length-set, get_or}
use Rattle.std.specs.Prelude.{slice_get}
use Rattle.std.proofs.lemmas.Bool.{cases_eq, false_from_ne_true}
use Rattle.std.proofs.lemmas.Bool.Decides.{nat_tests}
use Rattle.chr_value.specs.Atoms.{Atom, Value}
use Rattle.chr_value.proofs.Chosen.{some_is}
use Rattle.chr_model.specs.Stores.{Store, atom_at, labels, atoms, among, Distinct, Carry, Labelled, NoneWith}
use Rattle.chr_enumeration.specs.Partners.{HasAllBut}
use Rattle.chr_enumeration.specs.Picks.{Picks, picked_at, picked, AllPicked, Fills, picks, IsOpen, Has, HeadIs, MayBeHead, AllFit, IsInstanceOver, IsPartial, IsMatch, NoMatch}
use Rattle.std.specs.List.{AllByRecursion}
use Rattle.std.specs.Option.{option_map}
use denote.Ref.{Bor}
use Rattle.std.proofs.lemmas.List.{length-append, length-map, length-replicate, take-replicate, take-map, drop-map, map-set, set-set, set-get_or, take_at, drop_at, take-append-drop}
use Rattle.std.proofs.lemmas.List.Elements.{All-contains, All-from_recursion}
use Rattle.std.proofs.lemmas.Option.{slice_get-map, slice_get-get_or, slice_get_read, slice_get_within, none-some}
use Rattle.chr_rule.specs.Rules.{RuleAtom, Simpagation, head_at, rule_at}
use Rattle.chr_guard.specs.Values.{Valuation}
use Rattle.chr_guard.specs.Bindings.{Narrows, NoneUnder, bound_at}
use Rattle.chr_guard.specs.Instances.{atom_under, AreUnder, IsInstance, NoInstance, AreMadeUnder, IsRight, added, Instance}
use Rattle.chr_guard.specs.Matching.{HeadsAre, IsFit, IsInstanceUnder}
use Rattle.chr_guard.proofs.Bindings.{free_extends}
use Rattle.chr_guard.proofs.Steps.{all_more}
use Rattle.chr_guard.proofs.Under.{under_length}
use Rattle.chr_guard.proofs.Whole.{heads_of}
use Rattle.chr_enumeration.specs.Found.{IsFound}
use Rattle.chr_enumeration.specs.declared.slots.Match.{Match}
use Rattle.chr_enumeration.proofs.Entries.{among_at, carry_at, entry_at, carried, carry_both, carry_take, carry_drop}
use Rattle.chr_model.specs.Programs.{Instances}
use Rattle.chr_model.proofs.Stores.{Labelled-there}
use Rattle.chr_enumeration.specs.declared.search.Found.{Found}

-- how many heads are left
abbrev pub left : Picks → ℕ
left [] = 0
left (None ∷ ps) = suc (left ps)
left (Some e ∷ ps) = left ps

pub left_less : (ps : Picks) (i : ℕ) (e : ℕ × Atom ℕ) → i < length ps → picked_at ps i ≡ None → left (slice_set ps i (Some e)) < left ps
left_less (None ∷ ps) zero e h n = omega arith
left_less (None ∷ ps) (suc i) e h n = let rest = left_less ps i e (omega arith) n in omega arith
left_less (Some p ∷ ps) (suc i) e h n = left_less ps i e (omega arith) n
left_less ps i e h n = grind arith

among_set : (ps : Picks) (i : ℕ) (e : ℕ × Atom ℕ) → i < length ps → picked_at ps i ≡ None → (l : ℕ) → among (labels (picked (slice_set ps i (Some e)))) l ≡ (e.0 == l || among (labels (picked ps)) l)
among_set (None ∷ ps) zero e h n l = refl
among_set (None ∷ ps) (suc i) e h n l = among_set ps i e (omega arith) n l
among_set (Some p ∷ ps) (suc i) e h n l = let rest = among_set ps i e (omega arith) n l in grind (arith, nat_tests)
among_set ps i e h n l = grind arith

pub distinct_set : (ps : Picks) (i : ℕ) (e : ℕ × Atom ℕ) → i < length ps → picked_at ps i ≡ None → Distinct (labels (picked (slice_set ps i (Some e)))) ↔ ((among (labels (picked ps)) e.0 ≡ false) × Distinct (labels (picked ps)))
distinct_set (None ∷ ps) zero e h n = (λ d. d, λ d. d)
distinct_set (None ∷ ps) (suc i) e h n = distinct_set ps i e (omega arith) n
distinct_set (Some p ∷ ps) (suc i) e h n =
    let within : i < length ps = omega arith in
    let rest = distinct_set ps i e within n in
    let more : among (labels (picked (slice_set ps i (Some e)))) p.0 ≡ (e.0 == p.0 || among (labels (picked ps)) p.0) = among_set ps i e within n p.0 in (
      λ d. let both = rest.0 d.1 in let first = d.0 in let away = both.0 in (grind (arith, nat_tests), (grind (arith, nat_tests), both.1)),
      λ d. let apart = d.0 in let away = d.1.0 in (grind (arith, nat_tests), rest.1 (grind (arith, nat_tests), d.1.1)),
    )
distinct_set ps i e h n = grind arith

pub carry_set : (store : Store) (ps : Picks) (i : ℕ) (e : ℕ × Atom ℕ) → i < length ps → picked_at ps i ≡ None → atom_at store e.0 ≡ Some e.1 → Carry store (labels (picked ps)) (atoms (picked ps)) → Carry store (labels (picked (slice_set ps i (Some e)))) (atoms (picked (slice_set ps i (Some e))))
carry_set store (None ∷ ps) zero e h n at c = (at, c)
carry_set store (None ∷ ps) (suc i) e h n at c = carry_set store ps i e (omega arith) n at c
carry_set store (Some p ∷ ps) (suc i) e h n at c = (c.0, carry_set store ps i e (omega arith) n at c.1)
carry_set store ps i e h n at c = grind arith

-- a pick elsewhere is another place's
pub elsewhere : (ps : Picks) (i j : ℕ) (x : ℕ × Atom ℕ) → picked_at ps i ≡ None → picked_at ps j ≡ Some x → j ≢ i
elsewhere ps i j x none at same = let z : None ≡ Some x = sym none ∙ ap (picked_at ps) (sym same) ∙ at in absurd (cc)

pub fills_less : (ps : Picks) (i : ℕ) (e : ℕ × Atom ℕ) (entries : Store) → picked_at ps i ≡ None → Fills (slice_set ps i (Some e)) entries → Fills ps entries
fills_less ps i e entries none f j x at = f j x (get_or-set_other ps i j (Some e) None (elsewhere ps i j x none at) ∙ at)

pub fills_at : (ps : Picks) (i : ℕ) (e : ℕ × Atom ℕ) (entries : Store) → i < length ps → Fills (slice_set ps i (Some e)) entries → slice_get entries i ≡ Some e
fills_at ps i e entries within f = f i e (get_or-set_same ps i (Some e) None within)

pub set_cases : (ps : Picks) (i j : ℕ) (e x : ℕ × Atom ℕ) (P : ℕ → ℕ × Atom ℕ → Type 0) → i < length ps → picked_at (slice_set ps i (Some e)) j ≡ Some x → P i e → (picked_at ps j ≡ Some x → P j x) → P j x
set_cases ps i j e x P within at here there =
    ⊎_elim
    (λ same. subst (λ y. P j y) (some_is e x (sym (get_or-set_same ps i (Some e) None within) ∙ ap (picked_at (slice_set ps i (Some e))) (sym same) ∙ at)) (subst (λ k. P k e) (sym same) here))
    (λ other. there (sym (get_or-set_other ps i j (Some e) None other) ∙ at))
    (cases_eq j i)

pub fills_more : (ps : Picks) (i : ℕ) (e : ℕ × Atom ℕ) (entries : Store) → i < length ps → Fills ps entries → slice_get entries i ≡ Some e → Fills (slice_set ps i (Some e)) entries
fills_more ps i e entries within f here j x at = set_cases ps i j e x (λ k y. slice_get entries k ≡ Some y) within at here (λ old. f j x old)

-- all heads have their entries
pub fills_itself : (ps : Picks) → AllPicked ps → Fills ps (picked ps)
fills_itself [] all i e at = at
fills_itself (None ∷ ps) all i e at = let z = all.0 in absurd (cc)
fills_itself (Some p ∷ ps) all zero e at = at
fills_itself (Some p ∷ ps) all (suc i) e at = fills_itself ps all.1 i e at

pub filled : (ps : Picks) (entries : Store) → AllPicked ps → length entries ≡ length ps → Fills ps entries → entries ≡ picked ps
filled [] [] all len f = refl
filled (Some p ∷ ps) (x ∷ xs) all len f = ap₂ (λ y ys. y ∷ ys) (some_is x p (f 0 p refl)) (filled ps xs all.1 (omega arith) (λ i e at. f (suc i) e at))
filled ps xs all len f = grind arith

pub picked_take : (k : ℕ) (ps : Picks) → AllPicked ps → picked (take k ps) ≡ take k (picked ps)
picked_take zero ps all = refl
picked_take (suc k) [] all = refl
picked_take (suc k) (None ∷ ps) all = let z = all.0 in absurd (cc)
picked_take (suc k) (Some p ∷ ps) all = ap (λ xs. p ∷ xs) (picked_take k ps all.1)

pub picked_drop : (k : ℕ) (ps : Picks) → AllPicked ps → picked (drop k ps) ≡ drop k (picked ps)
picked_drop zero ps all = refl
picked_drop (suc k) [] all = refl
picked_drop (suc k) (None ∷ ps) all = let z = all.0 in absurd (cc)
picked_drop (suc k) (Some p ∷ ps) all = picked_drop k ps all.1

-- entries that are distinct have distinct picks
fills_among : (ps : Picks) (entries : Store) → Fills ps entries → (l : ℕ) → among (labels (picked ps)) l ≡ true → among (labels entries) l ≡ true
fills_among (None ∷ ps) [] f l h = fills_among ps [] (λ i e at. f (suc i) e at) l h
fills_among (None ∷ ps) (x ∷ xs) f l h = let rest = fills_among ps xs (λ i e at. f (suc i) e at) l h in grind (arith, nat_tests)
fills_among (Some p ∷ ps) (x ∷ xs) f l h =
    let same : x.0 ≡ p.0 = ap (λ y. y.0) (some_is x p (f 0 p refl)) in
    grind (arith, nat_tests, fills_among ps xs (λ i e at. f (suc i) e at) l)
fills_among [] entries f l h = let z : false ≡ true = h in absurd (cc)
fills_among (Some p ∷ ps) [] f l h = let z : None ≡ Some p = f 0 p refl in absurd (cc)

pub fills_distinct : (ps : Picks) (entries : Store) → Fills ps entries → Distinct (labels entries) → Distinct (labels (picked ps))
fills_distinct [] entries f d = tt
fills_distinct (None ∷ ps) [] f d = fills_distinct ps [] (λ i e at. f (suc i) e at) d
fills_distinct (None ∷ ps) (x ∷ xs) f d = fills_distinct ps xs (λ i e at. f (suc i) e at) d.1
fills_distinct (Some p ∷ ps) [] f d = let z : None ≡ Some p = f 0 p refl in absurd (cc)
fills_distinct (Some p ∷ ps) (x ∷ xs) f d =
    let same : x.0 ≡ p.0 = ap (λ y. y.0) (some_is x p (f 0 p refl)) in
    let apart : among (labels xs) p.0 ≡ false = subst (λ l. among (labels xs) l ≡ false) same d.0 in
    (grind (arith, nat_tests, fills_among ps xs (λ i e at. f (suc i) e at) p.0), fills_distinct ps xs (λ i e at. f (suc i) e at) d.1)

-- nothing is picked yet
pub none_picked : (n i : ℕ) → picked_at (replicate n None) i ≡ None
none_picked zero i = refl
none_picked (suc n) zero = refl
none_picked (suc n) (suc i) = none_picked n i

pub picked_none : (n : ℕ) → picked (replicate n None) ≡ []
picked_none zero = refl
picked_none (suc n) = picked_none n

pub none_among : (n l : ℕ) → among (labels (picked (replicate n None))) l ≡ false
none_among n l = ap (λ es. among (labels es) l) (picked_none n)

-- ---- picks, and the bindings under which the heads are the atoms that are picked

pub head_is : (rule : Simpagation ℕ) (n : ℕ) (s : RuleAtom ℕ) (a : Atom ℕ) → head_at rule n ≡ Some s → (v : Valuation) → (atom_under v s ≡ Some a) ↔ HeadIs rule n a v
head_is rule n s a at v = grind (arith, nat_tests, some_is)

-- all heads are picked
fit_by_heads : (hs : List (RuleAtom ℕ)) (ps : Picks) (v : Valuation) → length ps ≡ length hs → AllPicked ps → ((i : ℕ) (e : ℕ × Atom ℕ) → picked_at ps i ≡ Some e → option_map (atom_under v) (slice_get hs i) ≡ Some (Some e.1)) → AreUnder v hs (atoms (picked ps))
fit_by_heads [] [] v len all f = refl
fit_by_heads (h ∷ hs) (Some p ∷ ps) v len all f = ap₂ (λ x xs. x ∷ xs) (some_is (atom_under v h) (Some p.1) (f 0 p refl)) (fit_by_heads hs ps v (omega arith) all.1 (λ i e at. f (suc i) e at))
fit_by_heads hs ps v len all f = grind arith

-- entries that are an instance's, and the picks among them
pub all_fit : (rule : Simpagation ℕ) (ps : Picks) (entries : Store) (v : Valuation) → HeadsAre rule (atoms entries) v → Fills ps entries → AllFit rule ps v
all_fit rule ps entries v heads f i e at =
    sym (slice_get-map (atom_under v) (rule.kept ++ rule.removed) i) ∙ ap (λ xs. slice_get xs i) heads ∙ slice_get-map (λ (a : Atom ℕ). Some a) (atoms entries) i
    ∙ ap (option_map (λ (a : Atom ℕ). Some a)) (slice_get-map (λ (x : ℕ × Atom ℕ). x.1) entries i ∙ ap (option_map (λ x. x.1)) (f i e at))

pub whole_fits : (rule : Simpagation ℕ) (store entries : Store) (body : List (Atom ℕ)) (w : IsInstanceOver rule store entries body) → HeadsAre rule (atoms entries) w.instance.valuation
whole_fits rule store entries body w = heads_of rule (atoms entries) body w.instance

pub whole_length : (rule : Simpagation ℕ) (store entries : Store) (body : List (Atom ℕ)) → IsInstanceOver rule store entries body → length entries ≡ length rule.kept + length rule.removed
whole_length rule store entries body w =
    sym (length-map entries (λ (x : ℕ × Atom ℕ). x.1)) ∙ under_length w.instance.valuation (rule.kept ++ rule.removed) (atoms entries) (whole_fits rule store entries body w) ∙ length-append rule.kept rule.removed

-- a full list of picks
pub fit_whole : (rule : Simpagation ℕ) (store : Store) (ps : Picks) (binding : List (Option (Value ℕ))) → IsPartial rule store ps binding → AllPicked ps → IsFit rule (HeadsAre rule (atoms (picked ps))) binding
fit_whole rule store ps binding p all = record {
  places = p.fit.places;
  exactly = λ v. (
    λ h. fit_by_heads (rule.kept ++ rule.removed) ps v (p.heads ∙ sym (length-append rule.kept rule.removed)) all ((p.fit.exactly v).0 h),
    λ h. (p.fit.exactly v).1 (all_fit rule ps (picked ps) v h (fills_itself ps all)),
  );
}

pub no_whole : (rule : Simpagation ℕ) (store : Store) (ps : Picks) (binding : List (Option (Value ℕ))) → IsPartial rule store ps binding → AllPicked ps → NoInstance rule (atoms (picked ps)) → NoMatch rule store (Fills ps)
no_whole rule store ps binding p all none entries body w f =
    let same : entries ≡ picked ps = filled ps entries all (whole_length rule store entries body w ∙ sym p.heads) f in
    none body (subst (λ es. IsInstance rule (atoms es) body) same w.instance)

-- the match of a full list of picks
pub is_match : {A : Type 0} (rule : Simpagation ℕ) (store : Store) (ps : Picks) (binding : List (Option (Value ℕ))) (m : Match A) → IsPartial rule store ps binding → AllPicked ps → IsInstanceUnder rule (atoms (picked ps)) m.binding → m.kept.items ≡ labels (picked (take (length rule.kept) ps)) → m.removed.items ≡ labels (picked (drop (length rule.kept) ps)) → IsMatch rule store (Fills ps) m
is_match rule store ps binding m p all i kept removed = record {
  entries = picked ps;
  such = fills_itself ps all;
  under = i;
  whole = record { instance = i.instance; distinct = p.distinct; there = p.there };
  kept = kept ∙ ap labels (picked_take (length rule.kept) ps all) ∙ sym (take-map (λ (x : ℕ × Atom ℕ). x.0) (length rule.kept) (picked ps));
  removed = removed ∙ ap labels (picked_drop (length rule.kept) ps all) ∙ sym (drop-map (λ (x : ℕ × Atom ℕ). x.0) (length rule.kept) (picked ps));
}

-- one entry more
pub all_fit_more : (rule : Simpagation ℕ) (ps : Picks) (i : ℕ) (e : ℕ × Atom ℕ) (v : Valuation) → i < length ps → picked_at ps i ≡ None → AllFit rule (slice_set ps i (Some e)) v ↔ (AllFit rule ps v × HeadIs rule (suc i) e.1 v)
all_fit_more rule ps i e v within none = (
  λ f. (λ j x at. f j x (get_or-set_other ps i j (Some e) None (elsewhere ps i j x none at) ∙ at), f i e (get_or-set_same ps i (Some e) None within)),
  λ f j x at. set_cases ps i j e x (λ k y. HeadIs rule (suc k) y.1 v) within at f.1 (λ old. f.0 j x old),
)

pub partial_more : (rule : Simpagation ℕ) (store : Store) (ps : Picks) (i : ℕ) (e : ℕ × Atom ℕ) (binding next : List (Option (Value ℕ))) → IsPartial rule store ps binding → IsOpen ps i → among (labels (picked ps)) e.0 ≡ false → atom_at store e.0 ≡ Some e.1 → (n : ℕ) → n ≡ suc i → Narrows (HeadIs rule n e.1) binding next → IsPartial rule store (slice_set ps i (Some e)) next
partial_more rule store ps i e binding next p o away there n is narrows = record {
  heads = length-set ps i (Some e) ∙ p.heads;
  fit = record {
    places = narrows.places ∙ p.fit.places;
    exactly = λ v.
        let more = all_fit_more rule ps i e v o.within o.none in (
          λ h. let m = (narrows.exactly v).0 h in more.1 ((p.fit.exactly v).0 m.0, subst (λ k. HeadIs rule k e.1 v) is m.1),
          λ f. let m = more.0 f in (narrows.exactly v).1 ((p.fit.exactly v).1 m.0, subst (λ k. HeadIs rule k e.1 v) (sym is) m.1),
        );
  };
  distinct = (distinct_set ps i e o.within o.none).1 (away, p.distinct);
  there = carry_set store ps i e o.within o.none there p.there;
}

-- the entry's label is picked already
pub no_repeat : (rule : Simpagation ℕ) (store : Store) (ps : Picks) (i : ℕ) (e : ℕ × Atom ℕ) → IsOpen ps i → among (labels (picked ps)) e.0 ≡ true → NoMatch rule store (Fills (slice_set ps i (Some e)))
no_repeat rule store ps i e o there entries body w f =
    let away = ((distinct_set ps i e o.within o.none).0 (fills_distinct (slice_set ps i (Some e)) entries f w.distinct)).0 in
    let z : true ≡ false = sym there ∙ away in
    absurd (cc)

-- the entry's atom doesn't fit
pub no_fit_more : (rule : Simpagation ℕ) (store : Store) (ps : Picks) (i : ℕ) (e : ℕ × Atom ℕ) (binding : List (Option (Value ℕ))) → IsPartial rule store ps binding → IsOpen ps i → (n : ℕ) → n ≡ suc i → NoneUnder (HeadIs rule n e.1) binding → NoMatch rule store (Fills (slice_set ps i (Some e)))
no_fit_more rule store ps i e binding p o n is none entries body w f =
    let v = w.instance.valuation in
    let both = (all_fit_more rule ps i e v o.within o.none).0 (all_fit rule (slice_set ps i (Some e)) entries v (whole_fits rule store entries body w) f) in
    none v ((p.fit.exactly v).1 both.0) (subst (λ k. HeadIs rule k e.1 v) (sym is) both.1)

-- a match whose entries are such too
match_as : {A : Type 0} {rule : Simpagation ℕ} {store : Store} {Such : Store → Type 0} {m : Match A} (Other : Store → Type 0) (f : IsMatch rule store Such m) → Other f.entries → IsMatch rule store Other m
match_as Other f other = record { entries = f.entries; such = other; under = f.under; whole = f.whole; kept = f.kept; removed = f.removed }

pub match_less : {A : Type 0} (rule : Simpagation ℕ) (store : Store) (ps : Picks) (i : ℕ) (e : ℕ × Atom ℕ) (m : Match A) → IsOpen ps i → IsMatch rule store (Fills (slice_set ps i (Some e))) m → IsMatch rule store (Fills ps) m
match_less rule store ps i e m o f = match_as (Fills ps) f (fills_less ps i e f.entries o.none f.such)

-- no entry under a label is picked for the head
abbrev pub Tried : Simpagation ℕ → Store → Picks → ℕ → ℕ → Type 0
Tried rule store ps i label = (a : Atom ℕ) → atom_at store label ≡ Some a → NoMatch rule store (Fills (slice_set ps i (Some (label, a))))

within_alike : (xs : List ℕ) (i d e : ℕ) → i < length xs → get_or xs i d ≡ get_or xs i e
within_alike [] i d e lt = absurd (omega (arith, lt))
within_alike (x ∷ xs) zero d e lt = refl
within_alike (x ∷ xs) (suc i) d e lt = within_alike xs i d e (omega (arith, lt))

pub tried_more : (P : ℕ → Type 0) (labels : List ℕ) (i label : ℕ) → i < length labels → label ≡ get_or labels i 0 → AllByRecursion P (take i labels) → P label → AllByRecursion P (take (i + 1) labels)
tried_more P labels i label within is all this = (all_more P labels i label within (is ∙ within_alike labels i 0 label within)).1 (all, this)

pub tried_one : (rule : Simpagation ℕ) (store : Store) (ps : Picks) (i label : ℕ) (a : Atom ℕ) → atom_at store label ≡ Some a → NoMatch rule store (Fills (slice_set ps i (Some (label, a)))) → Tried rule store ps i label
tried_one rule store ps i label a there none b at = subst (λ x. NoMatch rule store (Fills (slice_set ps i (Some (label, x))))) (some_is a b (sym there ∙ at)) none

pub slots_within : (slots : List (Option (ℕ × Bor (Atom ℕ)))) (ps : Picks) (i : ℕ) → picks slots ≡ ps → IsOpen ps i → i < length slots
slots_within slots ps i same o = let long = ap length same in let inside = o.within in omega (arith, long, inside, length-map slots (option_map {U = ℕ × Atom ℕ} (λ (x : ℕ × Bor (Atom ℕ)). (x.0, x.1.now))))

-- no candidate is left to try
pub no_more : (rule : Simpagation ℕ) (store : Store) (own : ℕ) (ps : Picks) (i n : ℕ) (binding : List (Option (Value ℕ))) (candidates : List ℕ) → IsPartial rule store ps binding → IsOpen ps i → n ≡ suc i → among (labels (picked ps)) own ≡ true → HasAllBut own store (MayBeHead rule n binding) candidates → AllByRecursion (Tried rule store ps i) candidates → NoMatch rule store (Fills ps)
no_more rule store own ps i n binding candidates p o is picks_own has all entries body w f =
    let long : length entries ≡ length rule.kept + length rule.removed = whole_length rule store entries body w in
    let heads = p.heads in
    let inside = o.within in
    let within : i < length entries = omega arith in
    let none : ℕ × Atom ℕ = (0, record { name = 0; args = [] }) in
    let e = get_or entries i none in
    let at = slice_get-get_or entries i none within in
    let there = carry_at store entries i e w.there at in
    let more = fills_more ps i e entries o.within f at in
    let away : e.0 ≢ own = λ same. no_repeat rule store ps i e o (ap (among (labels (picked ps))) same ∙ picks_own) entries body w more in
    let v = w.instance.valuation in
    let both = (all_fit_more rule ps i e v o.within o.none).0 (all_fit rule (slice_set ps i (Some e)) entries v (whole_fits rule store entries body w) more) in
    let may : MayBeHead rule n binding e.1 = (v, (p.fit.exactly v).1 both.0, subst (λ k. HeadIs rule k e.1 v) (sym is) both.1) in
    All-contains (Tried rule store ps i) candidates e.0 (All-from_recursion (Tried rule store ps i) candidates all) (has e.0 e.1 there away may) e.1 there entries body w more

-- nothing is picked
pub partial_none : (rule : Simpagation ℕ) (store : Store) (n : ℕ) → n ≡ length rule.kept + length rule.removed → IsPartial rule store (replicate n None) (replicate rule.variables None)
partial_none rule store n len = record {
  heads = length-replicate n None ∙ len;
  fit = record {
    places = length-replicate rule.variables None;
    exactly = λ v. (λ h i e at. (let z : None ≡ Some e = sym (none_picked n i) ∙ at in absurd (cc)), λ f. free_extends v rule.variables);
  };
  distinct = subst (λ es. Distinct (labels es)) (sym (picked_none n)) tt;
  there = subst (λ es. Carry store (labels es) (atoms es)) (sym (picked_none n)) tt;
}

pub none_open : (n i : ℕ) → i < n → IsOpen (replicate n None) i
none_open n i h = record { within = subst (λ k. i < k) (sym (length-replicate n None)) h; none = none_picked n i }

-- slots as they are read and written
pub labels_taken : (slots front : List (Option (ℕ × Bor (Atom ℕ)))) (n k : ℕ) → front ≡ take n slots → n ≡ k → labels (picked (picks front)) ≡ labels (picked (take k (picks slots)))
labels_taken slots front n k e len =
    ap (λ s. labels (picked (picks s))) (e ∙ ap (λ m. take m slots) len) ∙ ap (λ ps. labels (picked ps)) (sym (take-map (option_map (λ (x : ℕ × Bor (Atom ℕ)). (x.0, x.1.now))) k slots))

pub labels_dropped : (slots back : List (Option (ℕ × Bor (Atom ℕ)))) (n k : ℕ) → back ≡ drop n slots → n ≡ k → labels (picked (picks back)) ≡ labels (picked (drop k (picks slots)))
labels_dropped slots back n k e len =
    ap (λ s. labels (picked (picks s))) (e ∙ ap (λ m. drop m slots) len) ∙ ap (λ ps. labels (picked ps)) (sym (drop-map (option_map (λ (x : ℕ × Bor (Atom ℕ)). (x.0, x.1.now))) k slots))

pub picks_set : (slots : List (Option (ℕ × Bor (Atom ℕ)))) (ps : Picks) (i : ℕ) (x : ℕ × Bor (Atom ℕ)) → picks slots ≡ ps → picks (slice_set slots i (Some x)) ≡ slice_set ps i (Some (x.0, x.1.now))
picks_set slots ps i x e = map-set (option_map (λ (y : ℕ × Bor (Atom ℕ)). (y.0, y.1.now))) slots i (Some x) ∙ ap (λ qs. slice_set qs i (Some (x.0, x.1.now))) e

pub picks_back : (slots : List (Option (ℕ × Bor (Atom ℕ)))) (ps : Picks) (i : ℕ) (e : ℕ × Atom ℕ) → picks slots ≡ slice_set ps i (Some e) → picked_at ps i ≡ None → picks (slice_set slots i None) ≡ ps
picks_back slots ps i e same none =
    map-set (option_map (λ (y : ℕ × Bor (Atom ℕ)). (y.0, y.1.now))) slots i None ∙ ap (λ qs. slice_set qs i None) same ∙ set-set ps i (Some e) None ∙ ap (slice_set ps i) (sym none) ∙ set-get_or ps i None

take_written : {X : Type 0} (n : ℕ) (xs : List X) (i : ℕ) (x : X) → take n (slice_set xs i x) ≡ slice_set (take n xs) i x
take_written zero xs i x = refl
take_written (suc n) [] i x = refl
take_written (suc n) (y ∷ ys) zero x = refl
take_written (suc n) (y ∷ ys) (suc i) x = ap (λ zs. y ∷ zs) (take_written n ys i x)

-- one entry is picked and nothing else
pub picks_one : (n i : ℕ) (x : ℕ × Bor (Atom ℕ)) → n ≤ 6 → picks (take n (slice_set (None ∷ None ∷ None ∷ None ∷ None ∷ None ∷ []) i (Some x))) ≡ slice_set (replicate n None) i (Some (x.0, x.1.now))
picks_one n i x few =
    let none : List (Option (ℕ × Bor (Atom ℕ))) = None ∷ None ∷ None ∷ None ∷ None ∷ None ∷ [] in
    let nothing : Picks = None ∷ None ∷ None ∷ None ∷ None ∷ None ∷ [] in
    let rest : take n nothing ≡ replicate n None = take-replicate n 6 None few in
    sym (take-map (option_map (λ (y : ℕ × Bor (Atom ℕ)). (y.0, y.1.now))) n (slice_set none i (Some x))) ∙ ap (take n) (picks_set none nothing i x refl)
    ∙ take_written n nothing i (Some (x.0, x.1.now)) ∙ ap (λ qs. slice_set qs i (Some (x.0, x.1.now))) rest

pub match_has : {A : Type 0} (rule : Simpagation ℕ) (store : Store) (ps : Picks) (i : ℕ) (e : ℕ × Atom ℕ) (m : Match A) → i < length ps → IsMatch rule store (Fills (slice_set ps i (Some e))) m → IsMatch rule store (Has e.0) m
match_has rule store ps i e m within f = match_as (Has e.0) f (among_at f.entries i e (fills_at ps i e f.entries within f.such))

-- the entry stands at none of the heads
pub no_has : (rule : Simpagation ℕ) (store : Store) (n label : ℕ) (a : Atom ℕ) → n ≡ length rule.kept + length rule.removed → atom_at store label ≡ Some a → ((i : ℕ) → i < n → NoMatch rule store (Fills (slice_set (replicate n None) i (Some (label, a))))) → NoMatch rule store (Has label)
no_has rule store n label a len there none entries body w has =
    let found = entry_at entries label has in
    let i = found.0 in
    let e = found.1 in
    let long : length entries ≡ length rule.kept + length rule.removed = whole_length rule store entries body w in
    let inside : i < length entries = slice_get_within entries i e found.2 in
    let within : i < n = omega arith in
    let atom : Some e.1 ≡ Some a = sym (carry_at store entries i e w.there found.2) ∙ ap (atom_at store) found.3 ∙ there in
    let same : e ≡ (label, a) = ap₂ (λ l b. (l, b)) found.3 (some_is e.1 a atom) in
    let here : slice_get entries i ≡ Some (label, a) = found.2 ∙ ap Some same in
    let o = none_open n i within in
    none i within entries body w
    (fills_more (replicate n None) i (label, a) entries o.within (λ j x at. (let z : None ≡ Some x = sym (none_picked n j) ∙ at in absurd (cc))) here)

pub partial_start : (rule : Simpagation ℕ) (store : Store) (n k : ℕ) (free : List (Option (Value ℕ))) → n ≡ length rule.kept + length rule.removed → free ≡ replicate k None → k ≡ rule.variables → IsPartial rule store (replicate n None) free
partial_start rule store n k free len is count = subst (IsPartial rule store (replicate n None)) (sym (is ∙ ap (λ m. replicate m None) count)) (partial_none rule store n len)

-- ---- entries that are an instance of a rule, and labelled instances

-- the instance of a rule over atoms in two parts
joined : (rule : Simpagation ℕ) (kept removed body : List (Atom ℕ)) → Instance rule kept removed body → IsInstance rule (kept ++ removed) body
joined rule kept removed body i = grind (arith, nat_tests, under_length, take_at, drop_at)

-- a labelled instance as entries
pub record AsEntries (rules : List (Simpagation ℕ)) (store : Store) (r : ℕ) (kept removed : List ℕ) (body : List (Atom ℕ)) : Type 0 where
  pub rule : Simpagation ℕ
  pub at : rule_at rules r ≡ Some rule
  pub entries : Store
  pub labels_are : labels entries ≡ kept ++ removed
  pub whole : IsInstanceOver rule store entries body

pub as_entries : (rules : List (Simpagation ℕ)) (store : Store) (r : ℕ) (kept removed : List ℕ) (body : List (Atom ℕ)) → Labelled (Instances rules) store r kept removed body → AsEntries rules store r kept removed body
as_entries rules store r kept removed body i =
    let both : Carry store (kept ++ removed) (i.kept_atoms ++ i.removed_atoms) = carry_both store kept removed i.kept_atoms i.removed_atoms i.kept_there i.removed_there in
    let made = carried store (kept ++ removed) (i.kept_atoms ++ i.removed_atoms) both in
    let rule = i.instance.0 in
    record {
      rule = rule;
      at = i.instance.1;
      entries = made.0;
      labels_are = made.1;
      whole = record {
        instance = subst (λ xs. IsInstance rule xs body) (sym made.2) (joined rule i.kept_atoms i.removed_atoms body i.instance.2);
        distinct = subst Distinct (sym made.1) i.distinct;
        there = subst (λ xs. Carry store (labels made.0) xs) (sym made.2) (subst (λ ls. Carry store ls (i.kept_atoms ++ i.removed_atoms)) (sym made.1) both);
      };
    }

-- and back
pub labelled : (rules : List (Simpagation ℕ)) (store : Store) (r : ℕ) (rule : Simpagation ℕ) (entries : Store) (body : List (Atom ℕ)) → rule_at rules r ≡ Some rule → IsInstanceOver rule store entries body → Labelled (Instances rules) store r (take (length rule.kept) (labels entries)) (drop (length rule.kept) (labels entries)) body
labelled rules store r rule entries body at w = record {
  kept_atoms = take (length rule.kept) (atoms entries);
  removed_atoms = drop (length rule.kept) (atoms entries);
  instance = (rule, at, w.instance);
  distinct = subst Distinct (sym (take-append-drop (length rule.kept) (labels entries))) w.distinct;
  kept_there = carry_take store (length rule.kept) (labels entries) (atoms entries) w.there;
  removed_there = carry_drop store (length rule.kept) (labels entries) (atoms entries) w.there;
}

all_numbered : (P : Simpagation ℕ → Type 0) (rules : List (Simpagation ℕ)) (r : ℕ) (rule : Simpagation ℕ) → AllByRecursion P rules → rule_at rules r ≡ Some rule → P rule
all_numbered P (x ∷ xs) (suc zero) rule all at = subst P (some_is x rule at) all.0
all_numbered P (x ∷ xs) (suc (suc k)) rule all at = all_numbered P xs (suc k) rule all.1 at
all_numbered P rules k rule all at = grind arith

pub none_found : (rules : List (Simpagation ℕ)) (store : Store) (label : ℕ) → AllByRecursion (λ (rule : Simpagation ℕ). NoMatch rule store (Has label)) rules → NoneWith (Instances rules) store label
none_found rules store label all r kept removed body i = false_from_ne_true (among (kept ++ removed) label) (λ has.
    let e = as_entries rules store r kept removed body i in
    all_numbered (λ (rule : Simpagation ℕ). NoMatch rule store (Has label)) rules r e.rule all e.at e.entries body e.whole (ap (λ ls. among ls label) e.labels_are ∙ has))

pub none_there : (rules : List (Simpagation ℕ)) (store : Store) (label : ℕ) → atom_at store label ≡ None → NoneWith (Instances rules) store label
none_there rules store label away r kept removed body i = false_from_ne_true (among (kept ++ removed) label) (λ has.
    let there = Labelled-there (Instances rules) store r kept removed body label has i in
    none-some there.0 (sym away ∙ there.1))

pub is_found : {A : Type 0} (rules : List (Simpagation ℕ)) (store : Store) (label : ℕ) (rule : Simpagation ℕ) (m : Match A) (f : Found A) → rule_at rules f.rule ≡ Some rule → f.kept.items ≡ m.kept.items → f.removed.items ≡ m.removed.items → f.binding ≡ m.binding → IsMatch rule store (Has label) m → IsFound rules store label f
is_found rules store label rule m f at kept removed binding i =
    let k : f.kept.items ≡ take (length rule.kept) (labels i.entries) = kept ∙ i.kept in
    let r : f.removed.items ≡ drop (length rule.kept) (labels i.entries) = removed ∙ i.removed in
    let all : f.kept.items ++ f.removed.items ≡ labels i.entries = ap₂ (λ a b. a ++ b) k r ∙ take-append-drop (length rule.kept) (labels i.entries) in
    let u = i.under in
    record {
      rule = rule;
      of_program = at;
      atoms = atoms i.entries;
      there = subst (λ ls. Carry store ls (atoms i.entries)) (sym all) i.whole.there;
      under = record { fit = subst (IsFit rule (λ v. HeadsAre rule (atoms i.entries) v × AllByRecursion (IsRight v) rule.body)) (sym binding) u.fit; body = u.body; instance = u.instance; body_is = subst (λ b. AreMadeUnder (bound_at b) (added rule.body) u.body) (sym binding) u.body_is };
      labelled = subst (λ ls. Labelled (Instances rules) store f.rule ls f.removed.items u.body) (sym k)
          (subst (λ ls. Labelled (Instances rules) store f.rule (take (length rule.kept) (labels i.entries)) ls u.body) (sym r) (labelled rules store f.rule rule i.entries u.body at i.whole));
      has = ap (λ ls. among ls label) all ∙ i.such;
    }

pub numbered_at : (rules : List (Simpagation ℕ)) (n i : ℕ) (rule : Simpagation ℕ) → n ≡ suc i → i < length rules → rule ≡ get_or rules i rule → rule_at rules n ≡ Some rule
numbered_at rules n i rule next within is = ap (rule_at rules) next ∙ slice_get_read rules (length rules) i rule refl within is

pub picked_own : (ps : Picks) (i own : ℕ) (e : ℕ × Atom ℕ) → i < length ps → picked_at ps i ≡ None → among (labels (picked ps)) own ≡ true → among (labels (picked (slice_set ps i (Some e)))) own ≡ true
picked_own ps i own e within none own_there = among_set ps i e within none own ∙ ap (λ b. (e.0 == own) || b) own_there ∙ grind (arith, nat_tests)

pub picked_this : (ps : Picks) (i own : ℕ) (e : ℕ × Atom ℕ) → IsOpen ps i → e.0 ≡ own → among (labels (picked (slice_set ps i (Some e)))) own ≡ true
picked_this ps i own e o is = among_set ps i e o.within o.none own ∙ grind (arith, nat_tests)
