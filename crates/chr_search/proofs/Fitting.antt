-- Trials judged by the binding of their heads.
use Rattle.std.proofs.Common.{◌≡◌, ◌↔◌, ℕ, ◌+◌, ◌<◌, ◌≤◌, zero, suc, Bool, true, false, not, ◌==◌, if◌then◌else◌, IsTrue, List, [], ◌∷◌, ◌++◌, map, replicate, length, length-append, Option, Some, None, refl, sym, ◌∙◌, ap, subst, arith, true≢false}
use Rattle.std.specs.List.{AllByRecursion, list_any}
use Rattle.std.proofs.lemmas.Bool.Decides.{nat_tests}
use Rattle.std.specs.Option.{option_map}
use Rattle.chr_value.specs.Atoms.{Value, Atom}
use Rattle.chr_value.proofs.Chosen.{some_is}
use Rattle.chr_rule.specs.Rules.{RuleAtom, Simpagation, head_in, head_at}
use Rattle.chr_guard.specs.Values.{Valuation}
use Rattle.chr_guard.specs.Bindings.{bound_at, Narrows, NoneUnder, NarrowsIf}
use Rattle.chr_guard.specs.Instances.{atom_under, NoInstance}
use Rattle.chr_guard.specs.Matching.{IsAtHead, AreAtHeads, HeadsAre, IsFit, IsInstanceUnder, IsInstanceIf}
use Rattle.chr_guard.proofs.Scoped.{IsPlaced}
use Rattle.chr_guard.proofs.Bindings.{narrows_as}
use Rattle.chr_guard.proofs.Steps.{all_push}
use Rattle.chr_guard.proofs.Matched.{head_placed, fit_from_free, none_from_free}
use Rattle.chr_model.specs.Stores.{among, Distinct}
use Rattle.chr_model.proofs.Stores.{Distinct-left}
use Rattle.chr_plan.specs.Orders.{heads_of}
use Rattle.chr_search.specs.declared.judged.Verdict.TheVariants.{Misfit}
use Rattle.chr_search.specs.Judged.{IsVerdict}
use Rattle.chr_search.specs.Fronts.{lengthened}
use Rattle.chr_search.specs.Verdicts.{Placed, Trial, labels, at_heads, IsFormed, IsPart, IsWhole, IsWholeUnder}
use Rattle.chr_search.proofs.Plans.{distinct_push}
use Rattle.chr_search.proofs.Partners.{distinct_less}
use Rattle.chr_search.proofs.Judging.{any_label}
use Rattle.std.proofs.lemmas.List.{map_push}
use Rattle.chr_search.proofs.Making.{map_twice}
use Rattle.chr_search.proofs.Wholes.{atoms_from, in_head_order, places, full_fit, no_instance, completed, never_distinct, never_fits}

-- a trial, as its labels with their atoms are read
module _ {X : Type 0} (as_placed : X → Placed) (t : Trial) (xs : List X) (read : map as_placed xs ≡ t.placed) where
  pub labels_read_as : map (λ x. (as_placed x).label) xs ≡ labels t
  labels_read_as = sym (map_twice as_placed (λ (p : Placed). p.label) xs) ∙ ap (map (λ (p : Placed). p.label)) read

  places_read_as : map (λ x. ((as_placed x).head, (as_placed x).atom)) xs ≡ at_heads t
  places_read_as = sym (map_twice as_placed (λ (p : Placed). (p.head, p.atom)) xs) ∙ ap (map (λ (p : Placed). (p.head, p.atom))) read

  pub told_distinct : (told : Bool) → IsTrue told ↔ Distinct (map (λ x. (as_placed x).label) xs) → IsTrue told ↔ Distinct (labels t)
  told_distinct told d = subst (λ ls. IsTrue told ↔ Distinct ls) labels_read_as d

  pub told_label : (told : Bool) (l : ℕ) → told ≡ list_any (λ x. (as_placed x).label == l) xs → told ≡ among (labels t) l
  told_label told l e = e ∙ any_label (λ x. (as_placed x).label) xs l ∙ ap (λ ls. among ls l) labels_read_as

  pub told_fit : (rule : Simpagation ℕ) → rule ≡ t.rule → (told : Bool) (old new : List (Option (Value ℕ))) → NarrowsIf (AreAtHeads rule (map (λ x. ((as_placed x).head, (as_placed x).atom)) xs)) told old new → NarrowsIf (AreAtHeads t.rule (at_heads t)) told old new
  told_fit rule r told old new n =
      subst (λ y. NarrowsIf (AreAtHeads y (at_heads t)) told old new) r (subst (λ ps. NarrowsIf (AreAtHeads rule ps) told old new) places_read_as n)

-- from a free binding
pub fit_of : (t : Trial) (old new : List (Option (Value ℕ))) → old ≡ replicate t.rule.variables None → Narrows (AreAtHeads t.rule (at_heads t)) old new → IsFit t.rule (AreAtHeads t.rule (at_heads t)) new
fit_of t old new start n = fit_from_free t.rule (AreAtHeads t.rule (at_heads t)) new (subst (λ o. Narrows (AreAtHeads t.rule (at_heads t)) o new) start n)

pub no_fit_of : (t : Trial) (old : List (Option (Value ℕ))) → old ≡ replicate t.rule.variables None → NoneUnder (AreAtHeads t.rule (at_heads t)) old → (v : Valuation) → AreAtHeads t.rule (at_heads t) v → ⊥
no_fit_of t old start n = none_from_free (AreAtHeads t.rule (at_heads t)) t.rule.variables (subst (NoneUnder (AreAtHeads t.rule (at_heads t))) start n)

pub repeats_one : (t : Trial) (told : Bool) → IsTrue told ↔ Distinct (labels t) → told ≡ false → Distinct (labels t) → ⊥
repeats_one t told d e here = true≢false (sym (d.1 here) ∙ e)

pub heads_count : (t : Trial) (rule : Simpagation ℕ) → rule ≡ t.rule → length rule.kept + length rule.removed ≡ length (heads_of t.rule)
heads_count t rule r = sym (length-append rule.kept rule.removed) ∙ ap (λ y. length (heads_of y)) r

pub is_part_by : (t : Trial) → length t.placed < length (heads_of t.rule) → Distinct (labels t) → (binding : List (Option (Value ℕ))) → IsFit t.rule (AreAtHeads t.rule (at_heads t)) binding → IsPart t
is_part_by t left d binding b = record { left = left; distinct = d; valuation = bound_at binding; fits = (b.exactly (bound_at binding)).0 (λ x v e. e) }

-- all heads are tried, and fit
module _ (t : Trial) (formed : IsFormed t) (full : length t.placed ≡ length (heads_of t.rule)) (rule : Simpagation ℕ) (same : rule ≡ t.rule) where
  pub heads_by : (binding : List (Option (Value ℕ))) → IsFit t.rule (AreAtHeads t.rule (at_heads t)) binding → IsFit rule (HeadsAre rule (in_head_order t)) binding
  heads_by binding b = subst (λ r. IsFit r (HeadsAre r (in_head_order t)) binding) (sym same) (full_fit t formed full binding b)

  pub no_part : IsPart t → ⊥
  no_part p = absurd (omega (arith, p.left))

  pub whole_by : Distinct (labels t) → (binding : List (Option (Value ℕ))) → IsInstanceUnder rule (in_head_order t) binding → IsWholeUnder t binding
  whole_by d binding u = completed t formed full d (Some binding) (subst (λ r. IsInstanceUnder r (in_head_order t) binding) same u)

  pub misfit_by : NoInstance rule (in_head_order t) → (IsWhole t → ⊥) × (IsPart t → ⊥)
  misfit_by n = (no_instance t formed full (subst (λ r. NoInstance r (in_head_order t)) same n), no_part)

  pub told_by : Distinct (labels t) → (told : Bool) (binding : List (Option (Value ℕ))) → IsInstanceIf rule (in_head_order t) told binding → (IsTrue (not told) ↔ IsVerdict t Misfit) × (not told ≡ false → IsWholeUnder t binding)
  told_by d true binding u = ((λ z. absurd (cc), λ m. absurd (m.0 (whole_by d binding u).whole)), λ e. whole_by d binding u)
  told_by d false binding n = ((λ z. misfit_by n, λ m. refl), λ e. absurd (cc))

-- a rule's only head
only_head : (hs : List (RuleAtom ℕ)) (h : ℕ) (s : RuleAtom ℕ) → head_in hs h ≡ Some s → length hs ≡ 1 → (h ≡ 1) × (hs ≡ s ∷ [])
only_head (x ∷ []) (suc zero) s e one = (refl, ap (λ y. y ∷ []) (some_is x s e))
only_head hs h s e one = absurd (grind arith)

one_place : (ps : List Placed) (h : ℕ) (a : Atom ℕ) → places ps ≡ (h, a) ∷ [] → (length ps ≡ 1) × Distinct (map (λ (p : Placed). p.label) ps) × (h ≡ 1 → a ∷ [] ≡ atoms_from ps 1 1)
one_place (p ∷ []) h a e =
    let heads : p.head ∷ [] ≡ h ∷ [] = ap (map (λ (z : ℕ × Atom ℕ). z.0)) e in
    let atoms : p.atom ∷ [] ≡ a ∷ [] = ap (map (λ (z : ℕ × Atom ℕ). z.1)) e in
    let head : p.head ≡ h = cc in
    (refl, (refl, tt), λ one. sym atoms ∙ ap (λ (b : Bool). (if b then p.atom else record { name = 0; args = [] }) ∷ []) (let here : true ≡ (p.head == 1) = grind (arith, nat_tests) in here))
one_place ps h a e = absurd (cc)

-- an atom at that head
module _ (rule : Simpagation ℕ) (h : ℕ) (atom : Atom ℕ) (one : length (heads_of rule) ≡ 1) (s : RuleAtom ℕ) (head : head_at rule h ≡ Some s) where
  heads_alone : (v : Valuation) → (atom_under v s ≡ Some atom) ↔ HeadsAre rule (atom ∷ []) v
  heads_alone v =
      subst (λ (hs : List (RuleAtom ℕ)). (atom_under v s ≡ Some atom) ↔ (map (atom_under v) hs ≡ Some atom ∷ [])) (sym (only_head (heads_of rule) h s head one).1) (λ e. ap (λ x. x ∷ []) e, λ e. cc)

  pub fit_alone : (old new : List (Option (Value ℕ))) → old ≡ replicate rule.variables None → Narrows (λ v. atom_under v s ≡ Some atom) old new → IsFit rule (HeadsAre rule (atom ∷ [])) new
  fit_alone old new start n =
      fit_from_free rule (HeadsAre rule (atom ∷ [])) new
      (subst (λ o. Narrows (HeadsAre rule (atom ∷ [])) o new) start (narrows_as (λ v. atom_under v s ≡ Some atom) (HeadsAre rule (atom ∷ [])) old new heads_alone n))

  -- its trial
  module _ (t : Trial) (same : t.rule ≡ rule) (stands : at_heads t ≡ (h, atom) ∷ []) where
    pub no_fit_alone : (old : List (Option (Value ℕ))) → old ≡ replicate rule.variables None → NoneUnder (λ v. atom_under v s ≡ Some atom) old → IsVerdict t Misfit
    no_fit_alone old start n = never_fits t (λ v a.
        let here : IsAtHead rule v (h, atom) = (subst (λ (r : Simpagation ℕ). AreAtHeads r ((h, atom) ∷ []) v) same (subst (λ ps. AreAtHeads t.rule ps v) stands a)).0 in
        none_from_free (λ v. atom_under v s ≡ Some atom) rule.variables (subst (NoneUnder (λ v. atom_under v s ≡ Some atom)) start n) v (some_is (atom_under v s) (Some atom) (sym (ap (option_map (atom_under v)) head) ∙ here)))

    pub told_alone : IsFormed t → (told : Bool) (binding : List (Option (Value ℕ))) → IsInstanceIf rule (atom ∷ []) told binding → (IsTrue (not told) ↔ IsVerdict t Misfit) × (not told ≡ false → IsWholeUnder t binding)
    told_alone formed told binding i =
        let count : length (heads_of t.rule) ≡ 1 = ap (λ (r : Simpagation ℕ). length (heads_of r)) same ∙ one in
        let placed = one_place t.placed h atom stands in
        let facts : atom ∷ [] ≡ in_head_order t = placed.2 (only_head (heads_of rule) h s head one).0 ∙ ap (atoms_from t.placed 1) (sym count) in
        told_by t formed (placed.0 ∙ sym count) rule (sym same) placed.1 told binding (subst (λ fs. IsInstanceIf rule fs told binding) facts i)

-- one label more
module _ (t : Trial) (p : Placed) where
  labels_more : labels (lengthened t p) ≡ labels t ++ p.label ∷ []
  labels_more = map_push (λ (q : Placed). q.label) t.placed p

  places_more : at_heads (lengthened t p) ≡ at_heads t ++ (p.head, p.atom) ∷ []
  places_more = map_push (λ (q : Placed). (q.head, q.atom)) t.placed p

  pub full_more : length t.placed + 1 ≡ length (heads_of t.rule) → length (lengthened t p).placed ≡ length (heads_of (lengthened t p).rule)
  full_more e = length-append t.placed (p ∷ []) ∙ e

  pub distinct_more : Distinct (labels t) → among (labels t) p.label ≡ false → Distinct (labels (lengthened t p))
  distinct_more d away = subst Distinct (sym labels_more) (distinct_push (labels t) p.label d away)

  fits_more : (v : Valuation) → AreAtHeads t.rule (at_heads (lengthened t p)) v ↔ (AreAtHeads t.rule (at_heads t) v × IsAtHead t.rule v (p.head, p.atom))
  fits_more v =
      subst (λ ps. AreAtHeads t.rule ps v ↔ (AreAtHeads t.rule (at_heads t) v × IsAtHead t.rule v (p.head, p.atom))) (sym places_more)
      (all_push (IsAtHead t.rule v) (at_heads t) (p.head, p.atom))

  -- what a trial begins with that is neither whole nor a part is no part itself
  pub repeats_more : (Distinct (labels t) → ⊥) → IsVerdict (lengthened t p) Misfit
  repeats_more n = never_distinct (lengthened t p) (λ d. n (Distinct-left (labels t) (p.label ∷ []) (subst Distinct labels_more d)))

  pub none_more : ((v : Valuation) → AreAtHeads t.rule (at_heads t) v → ⊥) → IsVerdict (lengthened t p) Misfit
  none_more n = never_fits (lengthened t p) (λ v a. n v ((fits_more v).0 a).0)

  -- its last label stands in it before, at no head, or doesn't fit
  pub repeats_last : among (labels t) p.label ≡ true → IsVerdict (lengthened t p) Misfit
  repeats_last there = never_distinct (lengthened t p) (λ d. true≢false (sym there ∙ distinct_less (labels t) p.label (subst Distinct labels_more d)))

  pub nowhere_last : head_at t.rule p.head ≡ None → IsVerdict (lengthened t p) Misfit
  nowhere_last none = never_fits (lengthened t p) (λ v a.
      let z : None ≡ Some (Some p.atom) = sym (ap (option_map (atom_under v)) none) ∙ ((fits_more v).0 a).1 in
      absurd (cc))

  module _ (s : RuleAtom ℕ) (head : head_at t.rule p.head ≡ Some s) (old : List (Option (Value ℕ))) (b : IsFit t.rule (AreAtHeads t.rule (at_heads t)) old) where
    under_head : (v : Valuation) → IsAtHead t.rule v (p.head, p.atom) → atom_under v s ≡ Some p.atom
    under_head v e = some_is (atom_under v s) (Some p.atom) (sym (ap (option_map (atom_under v)) head) ∙ e)

    pub head_placed_last : IsFormed (lengthened t p) → IsPlaced (length old) s
    head_placed_last f = subst (λ n. IsPlaced n s) (sym b.places) (head_placed t.rule f.scoped p.head s head)

    pub no_fit_last : NoneUnder (λ v. atom_under v s ≡ Some p.atom) old → IsVerdict (lengthened t p) Misfit
    no_fit_last n = never_fits (lengthened t p) (λ v a. let both = (fits_more v).0 a in n v ((b.exactly v).1 both.0) (under_head v both.1))

    pub fit_last : (new : List (Option (Value ℕ))) → Narrows (λ v. atom_under v s ≡ Some p.atom) old new → IsFit t.rule (AreAtHeads t.rule (at_heads (lengthened t p))) new
    fit_last new n = record {
      places = n.places ∙ b.places;
      exactly = λ v. (
        λ e. let both = (n.exactly v).0 e in (fits_more v).1 ((b.exactly v).0 both.0, ap (option_map (atom_under v)) head ∙ ap (λ a. Some a) both.1),
        λ a. let both = (fits_more v).0 a in (n.exactly v).1 ((b.exactly v).1 both.0, under_head v both.1),
      );
    }

-- without its last label a trial is one still
pub formed_less : (t : Trial) (ps : List Placed) (p : Placed) → IsFormed t → t.placed ≡ ps ++ p ∷ [] → 1 ≤ length ps → IsFormed (record t { placed = ps })
formed_less t ps p f e some =
    let count : length t.placed ≡ length ps + 1 = ap length e ∙ length-append ps (p ∷ []) in
    record {
      scoped = f.scoped;
      number = f.number;
      head = f.head;
      some = some;
      few = omega (arith, f.few);
      distinct = Distinct-left (map (λ (q : Placed). q.head) ps) (p.head ∷ []) (subst Distinct (ap (map (λ (q : Placed). q.head)) e ∙ map_push (λ (q : Placed). q.head) ps p) f.distinct);
      within = ((all_push (λ (q : Placed). (1 ≤ q.head) × (q.head ≤ length (heads_of t.rule)) × (q.label ≤ 4294967295)) ps p).0 (subst (AllByRecursion (λ (q : Placed). (1 ≤ q.head) × (q.head ≤ length (heads_of t.rule)) × (q.label ≤ 4294967295))) e f.within)).0;
      full = λ all. absurd (omega (arith, f.few));
    }
