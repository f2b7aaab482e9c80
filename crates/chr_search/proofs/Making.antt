-- Making the trial of a position.
use Rattle.std.proofs.Common.{◌≡◌, ℕ, zero, suc, ◌+◌, ◌<◌, ◌≤◌, List, [], ◌∷◌, ◌++◌, map, take, drop, length, Some, None, get_or, slice_get, slice_index_or, slice_set, refl, sym, ◌∙◌, ap, ap₂, subst, arith, length-append}
use Rattle.std.specs.List.{AllByRecursion}
use Rattle.std.proofs.lemmas.Bool.Decides.{nat_tests}
use Rattle.std.proofs.lemmas.List.{length-map, take-append-drop, take_all, append-nil, get_or_push}
use Rattle.std.proofs.Math.Seq.{set-append_seam, take-append_seam, drop-append_seam}
use Rattle.std.proofs.lemmas.Option.{slice_get_within, slice_get-get_or}
use Rattle.chr_value.specs.Atoms.{Atom}
use Rattle.chr_rule.specs.Rules.{Simpagation, rule_at}
use Rattle.chr_rule.specs.Scope.{IsRule}
use Rattle.chr_model.specs.Stores.{Store, atom_at, among, Distinct}
use Rattle.chr_model.proofs.Stores.{Distinct-left}
use Rattle.chr_guard.proofs.Steps.{all_push}
use Rattle.chr_value.proofs.Chosen.{some_is}
use Rattle.std.proofs.lemmas.Option.{get_or_from_slice_get, slice_get-map}
use Rattle.std.proofs.lemmas.List.{map_push, map_more, take_more}
use Rattle.std.specs.Option.{option_map}
use Rattle.chr_plan.specs.Orders.{heads_of}
use Rattle.chr_plan.specs.Plans.{plan_at, ArePlans}
use Rattle.chr_plan.specs.declared.order.Step.{Step}
use Rattle.chr_store.specs.Labels.{GivenBefore, LabelledStore, IsLabelled}
use Rattle.chr_search.specs.declared.trial.Placed.{Placed as CodePlaced}
use Rattle.chr_search.specs.Tree.{Grows}
use Rattle.chr_search.specs.Trials.{Join, MayFollow, Space, join_in, IsPlanned, IsTrial, IsNext}
use Rattle.chr_search.specs.Verdicts.{Placed, Trial, heads, labels, IsFormed}
use Rattle.chr_search.proofs.Plans.{heads_in, IsWithin, planned_order}
use Rattle.chr_search.proofs.Descents.{grows_in, is_first}

pub map_twice : {X Y Z : Type 0} (f : X → Y) (g : Y → Z) (xs : List X) → map g (map f xs) ≡ map (λ x. g (f x)) xs
map_twice f g [] = refl
map_twice f g (x ∷ xs) = ap (λ ys. g (f x) ∷ ys) (map_twice f g xs)

-- a label that is put after others, and whose atom is set there
pub push_set : {Z : Type 0} (old new : List (CodePlaced Z)) (one last : CodePlaced Z) (i : ℕ) (a b : Atom ℕ) → new ≡ old ++ one ∷ [] → i ≡ length old → last ≡ slice_index_or new i last → a ≡ b → slice_set new i (record last { atom = a }) ≡ old ++ record one { atom = b } ∷ []
push_set {Z} old new one last i a b is at read same =
    let here : last ≡ one = read ∙ ap (λ xs. slice_index_or xs i last) is ∙ get_or_push old one last i (sym at) in
    let with_atom : Atom ℕ → CodePlaced Z → CodePlaced Z = λ x p. record p { atom = x } in
    ap₂ (λ xs n. slice_set xs n (with_atom a last)) is at ∙ set-append_seam old one [] (with_atom a last) ∙ ap (λ p. old ++ p ∷ []) (ap₂ with_atom same here)

-- one number more
pub take_next : {X : Type 0} (ys : List X) (i : ℕ) (y : X) → slice_get ys i ≡ Some y → take (i + 1) ys ≡ take i ys ++ y ∷ []
take_next ys i y e = take_more ys i y (slice_get_within ys i y e) ∙ ap (λ z. take i ys ++ z ∷ []) (get_or_from_slice_get ys i y y e)

pub map_next : {X Y : Type 0} (f : X → Y) (xs : List X) (i : ℕ) (x : X) (old new : List Y) → old ≡ map f (take i xs) → new ≡ old ++ f x ∷ [] → i < length xs → x ≡ get_or xs i x → new ≡ map f (take (i + 1) xs)
map_next f xs i x old new e n less is = n ∙ ap₂ (λ ys y. ys ++ f y ∷ []) e is ∙ sym (map_more f xs i x less)

pub same_more : {X Y Z : Type 0} (f : X → Z) (g : Y → Z) (xs : List X) (ys : List Y) (i : ℕ) (x : X) (y : Y) → map f (take i xs) ≡ map g (take i ys) → i < length xs → i < length ys → x ≡ get_or xs i x → y ≡ get_or ys i y → f x ≡ g y → map f (take (i + 1) xs) ≡ map g (take (i + 1) ys)
same_more f g xs ys i x y e h k ex ey s = map_more f xs i x h ∙ ap₂ (λ zs z. zs ++ z ∷ []) e (ap f (sym ex) ∙ s) ∙ sym (map_more g ys i y k ∙ ap (λ z. map g (take i ys) ++ g z ∷ []) (sym ey))

pub same_all : {X Y Z : Type 0} (f : X → Z) (g : Y → Z) (xs : List X) (ys : List Y) (i : ℕ) → map f (take i xs) ≡ map g (take i ys) → length xs ≤ i → length ys ≤ i → map f xs ≡ map g ys
same_all f g xs ys i e past over = ap (map f) (sym (take_all i xs past)) ∙ e ∙ ap (map g) (take_all i ys over)

pub read_more : {X : Type 0} (f : X → ℕ) (xs new : List X) (x : X) (ys : List ℕ) (i y : ℕ) → map f xs ≡ take i ys → new ≡ xs ++ x ∷ [] → f x ≡ y → slice_get ys i ≡ Some y → map f new ≡ take (i + 1) ys
read_more f xs new x ys i y e n s at = ap (map f) n ∙ map_push f xs x ∙ ap₂ (λ zs z. zs ++ z ∷ []) e s ∙ sym (take_next ys i y at)

pub all_more : {X : Type 0} (P : X → Type 0) (xs new : List X) (x : X) → AllByRecursion P xs → new ≡ xs ++ x ∷ [] → P x → AllByRecursion P new
all_more P xs new x a e p = subst (AllByRecursion P) (sym e) ((all_push P xs x).1 (a, p))

-- a list in two parts
pub record AreParts {X : Type 0} (k : ℕ) (all front back : List X) : Type 0 where
  pub within : k ≤ length all
  pub first : take k all ≡ front
  pub rest : drop k all ≡ back

pub two_parts : {X : Type 0} (k : ℕ) (all front back : List X) → all ≡ front ++ back → k ≡ length front → AreParts k all front back
two_parts k all front back e n = record {
  within = omega (arith, n, ap length e, length-append front back);
  first = ap₂ take n e ∙ take-append_seam front back;
  rest = ap₂ drop n e ∙ drop-append_seam front back;
}

-- lists of what each number from one on has
module _ {A : Type 0} (f : ℕ → A) (F : ℕ → ℕ → List A) (none : (h : ℕ) → F h zero ≡ []) (more : (h n : ℕ) → F h (suc n) ≡ f h ∷ F (suc h) n) where
  pub each_count : (h n : ℕ) → length (F h n) ≡ n
  each_count h zero = ap length (none h)
  each_count h (suc n) = ap length (more h n) ∙ ap suc (each_count (suc h) n)

  pub each_append : (h a b : ℕ) → F h (a + b) ≡ F h a ++ F (h + a) b
  each_append h zero b = ap₂ F (let q : h ≡ h + 0 = omega arith in q) (let q : 0 + b ≡ b = omega arith in q) ∙ ap (λ xs. xs ++ F (h + 0) b) (sym (none h))
  each_append h (suc a) b =
      ap (F h) (let q : suc a + b ≡ suc (a + b) = omega arith in q)
      ∙ more h (a + b)
      ∙ ap (λ xs. f h ∷ xs) (each_append (suc h) a b ∙ ap (λ n. F (suc h) a ++ F n b) (let q : suc h + a ≡ h + suc a = omega arith in q))
      ∙ ap (λ xs. xs ++ F (h + suc a) b) (sym (more h a))

  pub each_push : (h i : ℕ) (x : A) (xs new : List A) → xs ≡ F h i → x ≡ f (h + i) → new ≡ xs ++ x ∷ [] → new ≡ F h (i + 1)
  each_push h i x xs new e g n = n ∙ ap₂ (λ ys y. ys ++ y ∷ []) e g ∙ ap (λ ys. F h i ++ ys) (sym (more (h + i) 0 ∙ ap (λ ys. f (h + i) ∷ ys) (none (suc (h + i))))) ∙ sym (each_append h i 1)

  pub each_both : (a b : ℕ) → F 1 (a + b) ≡ F 1 a ++ F (suc a) b
  each_both a b = each_append 1 a b ∙ ap (λ h. F 1 a ++ F h b) (let q : 1 + a ≡ suc a = omega arith in q)

  pub each_parts : (a b k : ℕ) (all : List A) → all ≡ F 1 (a + b) → k ≡ a → AreParts k all (F 1 a) (F (suc a) b)
  each_parts a b k all e n = two_parts k all (F 1 a) (F (suc a) b) (e ∙ each_both a b) (n ∙ sym (each_count 1 a))

-- the labels of a trial
pub grows_count : (j : Join) (before more : List ℕ) → Grows (MayFollow j) before more → length before ≤ length j.order → length (before ++ more) ≤ length j.order
grows_count j before [] g h = subst (λ (n : List ℕ). length n ≤ length j.order) (sym (append-nil before)) h
grows_count j before (x ∷ more) g h =
    let less : length before < length j.order = slice_get_within j.order (length before) g.0.step g.0.step_is in
    subst (λ (n : List ℕ). length n ≤ length j.order) (Rattle.chr_search.proofs.Tree.append_one before more x) (grows_count j (before ++ x ∷ []) more g.1 (omega (arith, length-append before (x ∷ []))))

pub grows_live : (j : Join) (before more : List ℕ) → Grows (MayFollow j) before more → (i x : ℕ) → slice_get more i ≡ Some x → (a : Atom ℕ) × (atom_at j.store x ≡ Some a)
grows_live j before [] g i x e = absurd (let z : None ≡ Some x = e in cc)
grows_live j before (y ∷ more) g zero x e = (g.0.atom, ap (atom_at j.store) (sym (some_is y x e)) ∙ g.0.live)
grows_live j before (y ∷ more) g (suc i) x e = grows_live j (before ++ y ∷ []) more g.1 i x e

-- what the parts of an admissible trial are
pub record Parts (s : Space) (r h : ℕ) (ls : List ℕ) (rule : Simpagation ℕ) (order : List Step) : Type 0 where
  pub planned : IsPlanned s r h rule order
  pub some : 1 ≤ length ls
  pub count : length ls ≤ length order
  pub live : (i x : ℕ) → slice_get ls i ≡ Some x → (a : Atom ℕ) × (atom_at s.store x ≡ Some a)

pub parts : (s : Space) (r h : ℕ) (ls p : List ℕ) (rule : Simpagation ℕ) (order : List Step) → r ∷ h ∷ ls ≡ p → IsTrial s p → rule_at s.rules r ≡ Some rule → plan_at s.plans r h ≡ Some order → Parts s r h ls rule order
parts s r h ls p rule order e t ri oi =
    let i : IsTrial s (r ∷ h ∷ ls) = subst (IsTrial s) (sym e) t in
    let q : IsPlanned s r h rule order = record { rule_is = ri; order_is = oi } in
    let g = grows_in s r h rule order q [] ls i.grows.1.1 in
    record { planned = q; some = (let d : 3 ≤ length (r ∷ h ∷ ls) = i.deep in omega arith); count = grows_count (join_in s rule order) [] ls g (omega arith); live = grows_live (join_in s rule order) [] ls g }

-- what holds of the trial that is made
pub label_bounds : (next : ℕ) (es : Store) → GivenBefore next es → (l : ℕ) (a : Atom ℕ) → atom_at es l ≡ Some a → (1 ≤ l) × (l < next)
label_bounds next [] g l a e = absurd (let z : None ≡ Some a = e in cc)
label_bounds next (x ∷ es) g l a e = let rest = label_bounds next es g.1 l a in (grind (arith, nat_tests), grind (arith, nat_tests))

placed_within : (s : LabelledStore) → IsLabelled s → (n : ℕ) (order : List Step) (ps : List Placed) → AllByRecursion (IsWithin n) order → map (λ (p : Placed). p.head) ps ≡ take (length ps) (heads_in order) → AllByRecursion (λ p. atom_at s.entries p.label ≡ Some p.atom) ps → AllByRecursion (λ p. (1 ≤ p.head) × (p.head ≤ n) × (p.label ≤ 4294967295)) ps
placed_within s w n order [] a hs live = tt
placed_within s w n [] (p ∷ ps) a hs live = absurd (cc)
placed_within s w n (x ∷ order) (p ∷ ps) a hs live =
    let head : p.head ≡ x.head = cc in
    let here = a.0 in
    let bounds = label_bounds s.next s.entries w.given p.label p.atom live.0 in
    ((omega arith, omega arith, omega (arith, w.within, w.limit)), placed_within s w n order ps a.1 (cc) live.1)

pub formed : (s : Space) (t : Trial) (order : List Step) (store : LabelledStore) → ArePlans s.rules s.plans → store.entries ≡ s.store → IsLabelled store → IsRule t.rule → 1 ≤ t.number → 1 ≤ t.head → Parts s t.number t.head (labels t) t.rule order
    → heads t ≡ take (length t.placed) (heads_in order) → AllByRecursion (λ p. atom_at s.store p.label ≡ Some p.atom) t.placed → IsFormed t
formed s t order store ps st w scoped number head p hs live =
    let o = planned_order s.rules s.plans ps t.number t.head t.rule order p.planned.rule_is p.planned.order_is in
    let n : ℕ = length (heads_of t.rule) in
    let same : length (labels t) ≡ length t.placed = length-map t.placed (λ (x : Placed). x.label) in
    let some : 1 ≤ length (labels t) = p.some in
    let count : length (labels t) ≤ length order = p.count in
    let all : length order ≡ n = o.count in
    record {
      scoped = scoped;
      number = number;
      head = head;
      some = omega arith;
      few = omega arith;
      distinct = subst Distinct (sym hs) (Distinct-left (take (length t.placed) (heads_in order)) (drop (length t.placed) (heads_in order)) (subst Distinct (sym (take-append-drop (length t.placed) (heads_in order))) o.distinct));
      within = placed_within store w n order t.placed o.within hs (subst (λ es. AllByRecursion (λ p. atom_at es p.label ≡ Some p.atom) t.placed) (sym st) live);
      full = λ e h low high.
          let whole : take (length t.placed) (heads_in order) ≡ heads_in order = take_all (length t.placed) (heads_in order) (let l : length (heads_in order) ≡ length order = length-map order (λ (x : Step). x.head) in omega arith) in
          ap (λ (xs : List ℕ). among xs h) (hs ∙ whole) ∙ o.named h low high;
    }

pub all_map : {X Y : Type 0} (P : Y → Type 0) (f : X → Y) (xs : List X) → AllByRecursion (λ x. P (f x)) xs → AllByRecursion P (map f xs)
all_map P f [] a = tt
all_map P f (x ∷ xs) a = (a.0, all_map P f xs a.1)

pub heads_read : (order : List Step) (i : ℕ) (d : Step) → i < length order → slice_get (heads_in order) i ≡ Some ((get_or order i d).head)
heads_read order i d h = slice_get-map (λ (x : Step). x.head) order i ∙ ap (option_map (λ (x : Step). x.head)) (slice_get-get_or order i d h)

pub parts_as : (s : Space) (r h : ℕ) (ls new : List ℕ) (rule same : Simpagation ℕ) (order : List Step) → Parts s r h ls rule order → new ≡ ls → same ≡ rule → Parts s r h new same order
parts_as s r h ls new rule same order p e f = subst (λ x. Parts s r h new x order) (sym f) (subst (λ x. Parts s r h x rule order) (sym e) p)

-- the least trial is a trial
pub next_trial : (s : Space) (place t : List ℕ) → IsNext s place t → IsTrial s t
next_trial s place t l = ((is_first s place t).0 l).trial
