-- Trials that come next one after another: those that differ in their last label, the part with which they begin, and those of the active label alone.
use Rattle.std.proofs.Common.{◌≡◌, ℕ, ◌+◌, List, [], ◌∷◌, ◌++◌, append_assoc, map, length, Option, Some, refl, sym, ◌∙◌, ap, subst, suc, zero, ◌≤◌, length-append, get_or, arith, true}
use Rattle.chr_sheet.proofs.Words.{map_push, length_push, same_from_push, length-map, Space, Join, IsTrial, IsNext, NoneLeft, Child, Placed, Trial, labels, position, IsFormed, IsPart, IsTrialOf, MayEnd, IsEndFrom, IsFront, IsPlacedAfter, lengthened, ComeAfter, trial_alone, AreEnds, next_from, ComeNext, AreInTurn, last_of, IsLastAtHead, EndHead, AllByRecursion, heads_of, Simpagation, rule_at, just_after, past, at_or_after, IsRow, trials_of, branch_trials, IsNextTrial, AreNext, AreNextTogether, Head, Column, IsColumn, AreNextHeads, at_head, column_trials}
use Rattle.chr_search.specs.declared.front.Front.{Front as CodeFront}
use Rattle.chr_search.specs.Tree.{LeastFrom, NoneFrom}
use Rattle.chr_rule.specs.Scope.{IsRule}
use Rattle.chr_plan.specs.Plans.{ArePlans}
use Rattle.chr_store.specs.Labels.{LabelledStore, IsLabelled}
use Rattle.chr_search.specs.Joined.{join_of}
use Rattle.chr_search.proofs.Judging.{labels_length, last_small}
use Rattle.chr_search.proofs.Making.{next_trial, map_twice}
use Rattle.chr_search.proofs.PassingOver.{is_part}
use Rattle.chr_search.proofs.Fronts.{end_at, end_next, full_after, placed_trial, placed_after, trial_formed}
use Rattle.chr_sheet.proofs.Rows.{row_of, last_at, column_of, only_read, only_placed}
use Rattle.chr_search.proofs.Descents.{none_left, each_trial}
use Rattle.chr_search.proofs.PlanByPlan.{alike_next}
use Rattle.chr_search.specs.Passing.{IsTrialIn}
use Rattle.chr_sheet.proofs.OneNext.{longer_position, trial_in}
use Rattle.chr_value.specs.Atoms.{Atom}
use Rattle.chr_value.specs.declared.atom.Pred.{Pred}
use Rattle.chr_rule.specs.Occurrences.{IsNextOccurrence}
use Rattle.chr_model.specs.Stores.{atom_at}
use Rattle.chr_search.proofs.Alone.{alone_next, alone_trial, alone_is, come_past_active}
use Rattle.std.proofs.lemmas.Bool.Decides.{nat_tests}
use Rattle.chr_search.proofs.Positions.{after_by}
use Rattle.chr_search.proofs.Behind.{shorter}

-- ---- labels with which trials end, pushed one after another

-- those that were pushed so far, and the next one
pub record ArePushed {Z : Type 0} (s : Space) (r h : ℕ) (ls : List ℕ) (from : ℕ) (old new : List Placed) (f : CodeFront Z) (next : Option ℕ) : Type 0 where
  pub more : List Placed
  pub is : new ≡ old ++ more
  pub ends : AreEnds s r h ls from more
  pub front : IsFront s r h ls f
  pub next_is : IsEndFrom s (r ∷ h ∷ ls) (next_from from more) next

ends_push : (s : Space) (r h : ℕ) (ls : List ℕ) (from : ℕ) (ps : List Placed) (p : Placed) → AreEnds s r h ls from ps → LeastFrom (MayEnd s (r ∷ h ∷ ls)) (next_from from ps) p.label → IsPlacedAfter s r h (length ls) p → AreEnds s r h ls from (ps ++ p ∷ [])
ends_push s r h ls from [] p e least placed = (least, placed, tt)
ends_push s r h ls from (q ∷ ps) p e least placed = (e.0, e.1, ends_push s r h ls (q.label + 1) ps p e.2 least placed)

next_push : (from : ℕ) (ps : List Placed) (p : Placed) → next_from from (ps ++ p ∷ []) ≡ p.label + 1
next_push from [] p = refl
next_push from (q ∷ ps) p = next_push (q.label + 1) ps p

pub one_pushed : {X Z : Type 0} (f : X → Placed) (s : Space) (r h : ℕ) (ls : List ℕ) (from : ℕ) (old : List Placed) (xs new : List X) (x : X) (front later : CodeFront Z) (label : ℕ) (next : Option ℕ) → ArePushed s r h ls from old (map f xs) front (Some label) → new ≡ xs ++ x ∷ [] → (f x).label ≡ label → IsPlacedAfter s r h (length ls) (f x)
    → IsEndFrom s (r ∷ h ∷ ls) (label + 1) next × IsFront s r h ls later → ArePushed s r h ls from old (map f new) later next
one_pushed f s r h ls from old xs new x front later label next a is e placed k =
    let p = f x in
    record {
      more = a.more ++ p ∷ [];
      is = ap (map f) is ∙ map_push f xs x ∙ ap (λ ys. ys ++ p ∷ []) a.is ∙ append_assoc old a.more (p ∷ []);
      ends = ends_push s r h ls from a.more p a.ends (subst (LeastFrom (MayEnd s (r ∷ h ∷ ls)) (next_from from a.more)) (sym e) a.next_is) placed;
      front = k.1;
      next_is = subst (λ n. IsEndFrom s (r ∷ h ∷ ls) n next) (sym (next_push from a.more p ∙ ap (λ l. l + 1) e)) k.0;
    }

pub one_more : {X : Type 0} (xs new : List X) (x : X) → new ≡ xs ++ x ∷ [] → length new ≡ length xs + 1
one_more xs new x is = ap length is ∙ length_push xs x

-- ---- trials that come next one after another: those that differ in their last label, and the part with which they begin

-- from where the same trials lie, the same one comes next
pub next_after : (s : Space) (place t p : List ℕ) → ComeAfter s place t → IsNext s place p → IsNext s (just_after t) p
next_after s place t p c = alike_next s (just_after t) place p (λ u i. ((c u i).1, (c u i).0))

are_next_after : (s : Space) (place t : List ℕ) → ComeAfter s place t → (left : ℕ) (more : List Trial) → AreNext s left place more → AreNext s left (just_after t) more
are_next_after s place t c zero [] h = tt
are_next_after s place t c zero (x ∷ xs) h = h
are_next_after s place t c (suc left) [] h = (none_left s (just_after t)).1 (λ u i e. (none_left s place).0 h u i ((c u i).1 e))
are_next_after s place t c (suc left) (x ∷ xs) h = ((next_after s place t (position x) c h.0.0, h.0.1), h.1)

-- where no trial is left or asked for, none comes next
pub none_next : (s : Space) (left : ℕ) (place : List ℕ) → NoneLeft s place → AreNext s left place []
none_next s zero place n = tt
none_next s (suc left) place n = n

pub none_asked : (s : Space) (left : ℕ) (place : List ℕ) → left ≤ 0 → AreNext s left place []
none_asked s zero place h = tt
none_asked s (suc left) place h = absurd (omega arith)

-- those that come next after a trial, and those after the last of them
chain : (s : Space) (t : Trial) (us : List Trial) (place after : List ℕ) → IsNextTrial s place t → ComeNext s t us → ComeAfter s after (position (last_of t us)) → (left : ℕ) (more : List Trial) → AreNext s left after more → (n : ℕ) → n ≡ length (t ∷ us) + left → AreNext s n place ((t ∷ us) ++ more)
chain s t us place after next c k left more h zero e = absurd (omega arith)
chain s t [] place after next c k left more h (suc n) e = let same : left ≡ n = omega arith in (next, subst (λ m. AreNext s m (just_after (position t)) more) same (are_next_after s after (position t) k left more h))
chain s t (u ∷ us) place after next c k left more h (suc n) e = (next, chain s u us (just_after (position t)) after c.0 c.1 k left more h n (omega arith))

pub last_trial : (s : Space) (t : Trial) (us : List Trial) → IsTrial s (position t) → IsTrialOf s.rules s.plans s.store t → ComeNext s t us → IsTrial s (position (last_of t us)) × IsTrialOf s.rules s.plans s.store (last_of t us)
last_trial s t [] k i c = (k, i)
last_trial s t (u ∷ us) k i c = last_trial s u us (next_trial s (just_after (position t)) (position u) c.0.0) c.0.1 c.1

pub together : (s : Space) (most : ℕ) (place after : List ℕ) (t : Trial) (ts : List Trial) → IsNextTrial s place t → AreInTurn s most t ts → ((t : Trial) (more : List Trial) → ts ≡ t ∷ more → IsTrial s (position (last_of t more)) → IsTrialOf s.rules s.plans s.store (last_of t more) → ComeAfter s after (position (last_of t more))) → AreNextTogether s most place ts after
together s most place after t ts n a k =
    let us = a.0 in
    let some : 1 ≤ length ts = omega (arith, ap length a.1) in
    let last = last_trial s t us (next_trial s place (position t) n.0) n.1 a.3 in
    let behind : ComeAfter s after (position (last_of t us)) = k t us a.1 last.0 last.1 in
    (some, a.2, λ left more h. subst (λ (ts : List Trial). AreNext s (length ts + left) place (ts ++ more)) (sym a.1) (chain s t us place after n a.3 behind left more h (length (t ∷ us) + left) refl))

-- a trial that has a label at each head but one
pub record LacksOne (s : Space) (part : Trial) : Type 0 where
  pub plans : ArePlans s.rules s.plans
  pub scoped : AllByRecursion IsRule s.rules
  pub trial_of : IsTrialOf s.rules s.plans s.store part
  pub some : 1 ≤ length part.placed
  pub full : length part.placed + 1 ≡ length (heads_of part.rule)

-- it comes next with the next label, just after it comes with one
come_one : (s : Space) (part : Trial) → LacksOne s part → (p q : Placed) → IsTrialOf s.rules s.plans s.store (lengthened part p) → LeastFrom (MayEnd s (part.number ∷ part.head ∷ labels part)) (p.label + 1) q.label → IsPlacedAfter s part.number part.head (length (labels part)) q → IsNextTrial s (just_after (position (lengthened part p))) (lengthened part q)
come_one s part k p q i least placed =
    let t : Trial = lengthened part p in
    let u : Trial = lengthened part q in
    let full : length t.placed ≡ length (heads_of part.rule) = length_push part.placed p ∙ k.full in
    let next : IsNext s (past (position t)) (position u) = subst (λ a. IsNext s (past a) (position u)) (sym (longer_position part p)) (subst (IsNext s (past (part.number ∷ part.head ∷ (labels part ++ p.label ∷ [])))) (sym (longer_position part q))
    (end_next s part.number part.head (labels part) p.label q.label (omega (arith, labels_length part, k.some)) least)) in
    (next_after s (past (position t)) (position t) (position u) (full_after s t k.plans k.scoped i full (omega (arith, length_push part.placed p))) next, placed_trial s part q k.trial_of (subst (λ n. IsPlacedAfter s part.number part.head n q) (labels_length part) placed))

come_next : (s : Space) (part : Trial) → LacksOne s part → (p : Placed) (ps : List Placed) → IsTrialOf s.rules s.plans s.store (lengthened part p) → AreEnds s part.number part.head (labels part) (p.label + 1) ps → ComeNext s (lengthened part p) (map (lengthened part) ps)
come_next s part k p [] i e = tt
come_next s part k p (q ∷ qs) i e = let n = come_one s part k p q i e.0 e.1 in (n, come_next s part k q qs n.1 e.2)

-- each of them is formed
pub all_formed : (s : Space) (store : LabelledStore) → ArePlans s.rules s.plans → AllByRecursion IsRule s.rules → store.entries ≡ s.store → IsLabelled store → (t : Trial) (us : List Trial) → IsTrial s (position t) → IsTrialOf s.rules s.plans s.store t → ComeNext s t us → AllByRecursion IsFormed (t ∷ us)
all_formed s store ps rs st w t [] k i c = (trial_formed s store t ps rs st w k i, tt)
all_formed s store ps rs st w t (u ∷ us) k i c = (trial_formed s store t ps rs st w k i, all_formed s store ps rs st w u us (next_trial s (just_after (position t)) (position u) c.0.0) c.0.1 c.1)

-- the row of a trial and those beside it
pub record IsMadeRow (s : Space) (part : Trial) (p : Placed) (more lasts : List Placed) : Type 0 where
  pub row : IsRow (row_of part lasts)
  pub trials : trials_of (row_of part lasts) ≡ lengthened part p ∷ map (lengthened part) more
  pub next : ComeNext s (lengthened part p) (map (lengthened part) more)

pub row_made : (s : Space) (store : LabelledStore) → store.entries ≡ s.store → IsLabelled store → (part : Trial) → LacksOne s part → IsPart part → (p : Placed) (more lasts : List Placed) → IsTrial s (position (lengthened part p)) → IsTrialOf s.rules s.plans s.store (lengthened part p) → lasts ≡ p ∷ more → AreEnds s part.number part.head (labels part) (p.label + 1) more → IsMadeRow s part p more lasts
row_made s store st w part k whole p more lasts here i is e =
    let next = come_next s part k p more i e in
    let trials : trials_of (row_of part lasts) ≡ lengthened part p ∷ map (lengthened part) more = ap (map (lengthened part)) is in
    record {
      row = record {
        part = whole;
        some = omega (arith, ap length is);
        full = k.full;
        formed = subst (AllByRecursion IsFormed) (sym trials) (all_formed s store k.plans k.scoped st w (lengthened part p) (map (lengthened part) more) here i next);
      };
      trials = trials;
      next = next;
    }

-- a front of a rule, a head and labels, and the least label from one on with which a trial ends
pub record HasEnd {Z : Type 0} (s : Space) (r h : ℕ) (ls : List ℕ) (from : ℕ) (f : CodeFront Z) (end : ℕ) : Type 0 where
  pub front : IsFront s r h ls f
  pub least : LeastFrom (MayEnd s (r ∷ h ∷ ls)) from end

-- what is known of a trial with those beside it, without its last label
pub record IsBegun {Z : Type 0} (s : Space) (part : Trial) (p : Placed) (f : CodeFront Z) (second : ℕ) : Type 0 where
  pub lacks : LacksOne s part
  pub here : IsTrial s (position (lengthened part p))
  pub trial_of : IsTrialOf s.rules s.plans s.store (lengthened part p)
  pub end : HasEnd s part.number part.head (labels part) (p.label + 1) f second

pub begun : {Z : Type 0} (s : Space) → ArePlans s.rules s.plans → AllByRecursion IsRule s.rules → (part : Trial) (p : Placed) (t : Trial) (f : CodeFront Z) (second : ℕ) → lengthened part p ≡ t → IsTrial s (position t) × IsTrialOf s.rules s.plans s.store t → length t.placed ≡ length (heads_of t.rule)
    → (before : List ℕ) (last : ℕ) → labels t ≡ before ++ last ∷ [] → HasEnd s t.number t.head before (last + 1) f second → IsBegun s part p f second
begun s ps rs part p t f second e i full before last is end =
    let whole : length (part.placed ++ p ∷ []) ≡ length (heads_of part.rule) = ap (λ (u : Trial). length u.placed) e ∙ full ∙ ap (λ (u : Trial). length (heads_of u.rule)) (sym e) in
    let here = subst (λ u. IsTrial s (position u) × IsTrialOf s.rules s.plans s.store u) (sym e) i in
    let same = same_from_push (labels part) before p.label last (sym (map_push (λ (x : Placed). x.label) part.placed p) ∙ ap labels e ∙ is) in
    let begin : HasEnd s part.number part.head before (last + 1) f second = subst (λ u. HasEnd s u.number u.head before (last + 1) f second) (sym e) end in
    let ends : HasEnd s part.number part.head (labels part) (p.label + 1) f second = subst (λ n. HasEnd s part.number part.head (labels part) (n + 1) f second) (sym same.1) (subst (λ ls. HasEnd s part.number part.head ls (last + 1) f second) (sym same.0) begin) in
    let some : 1 ≤ length (labels part) = ends.front.some in
    record {
      lacks = record { plans = ps; scoped = rs; trial_of = (placed_after s part p here.1).0; some = omega (arith, labels_length part); full = sym (length_push part.placed p) ∙ whole };
      here = here.0;
      trial_of = here.1;
      end = ends;
    }

-- the labels of a trial
pub labels_read : {X : Type 0} (f : X → Placed) (xs : List X) (t : Trial) → map f xs ≡ t.placed → map (λ x. (f x).label) xs ≡ labels t
labels_read f xs t is = sym (map_twice f (λ (p : Placed). p.label) xs) ∙ ap (map (λ (p : Placed). p.label)) is

-- and up to the last
pub labels_split : {X : Type 0} (f : X → Placed) (xs before : List X) (x : X) (t : Trial) → xs ≡ before ++ x ∷ [] → map f xs ≡ t.placed → labels t ≡ map (λ y. (f y).label) before ++ (f x).label ∷ []
labels_split f xs before x t e is = sym (labels_read f xs t is) ∙ ap (map (λ y. (f y).label)) e ∙ map_push (λ y. (f y).label) before x

-- a label that one more trial ends with is small
pub small_end : (s : Space) (store : LabelledStore) → store.entries ≡ s.store → IsLabelled store → (part : Trial) → LacksOne s part → (p : Placed) → MayEnd s (part.number ∷ part.head ∷ labels part) p.label → IsPlacedAfter s part.number part.head (length (labels part)) p → p.label ≤ 4294967295
small_end s store st w part k p i placed =
    let t : Trial = lengthened part p in
    let formed : IsFormed t = trial_formed s store t k.plans k.scoped st w (subst (IsTrial s) (sym (longer_position part p)) i) (placed_trial s part p k.trial_of (subst (λ n. IsPlacedAfter s part.number part.head n p) (labels_length part) placed)) in
    last_small t formed (labels part) p.label (sym (map_push (λ (x : Placed). x.label) part.placed p))

-- the last of the trials of a row
pub last_read : {X : Type 0} (f : X → Trial) (xs : List X) (i : ℕ) (x : X) (t : Trial) (more : List Trial) → map f xs ≡ t ∷ more → i + 1 ≡ length xs → x ≡ get_or xs i x → last_of t more ≡ f x
last_read f xs i x t more is count e = ap (last_of t) (sym is) ∙ sym (last_at f t xs i x count e)

-- past the last of a row's trials
pub come_behind : (s : Space) → ArePlans s.rules s.plans → AllByRecursion IsRule s.rules → (place : List ℕ) (u : Trial) → place ≡ past (position u) → length u.placed ≡ length (heads_of u.rule) → IsTrial s (position u) → IsTrialOf s.rules s.plans s.store u → ComeAfter s place (position u)
come_behind s ps rs place u is full k i = subst (λ q. ComeAfter s q (position u)) (sym is) (full_after s u ps rs i full (omega (arith, k.deep, labels_length u)))

-- the last of a branch's trials
pub last_behind : (part : Trial) (ts : List Trial) (t : Trial) (more : List Trial) → 1 ≤ length ts → part ∷ ts ≡ t ∷ more → (x : Trial) × (xs : List Trial) × (ts ≡ x ∷ xs) × (last_of t more ≡ last_of x xs)
last_behind part [] t more some e = absurd (omega arith)
last_behind part (x ∷ xs) t more some e = let rest : x ∷ xs ≡ more = cc in (x, xs, refl, ap (last_of t) (sym rest))

-- ---- branches

-- the first trial that begins with a part comes next just after it
first_behind : (s : Space) (part : Trial) → LacksOne s part → (p : Placed) → LeastFrom (MayEnd s (part.number ∷ part.head ∷ labels part)) 0 p.label → IsPlacedAfter s part.number part.head (length (labels part)) p → IsNextTrial s (just_after (position part)) (lengthened part p)
first_behind s part k p least placed = (
  subst (IsNext s (just_after (position part))) (sym (longer_position part p)) (end_at s part.number part.head (labels part) 0 p.label (omega (arith, labels_length part, k.some)) least),
  placed_trial s part p k.trial_of (subst (λ n. IsPlacedAfter s part.number part.head n p) (labels_length part) placed),
)

-- the branch of a part and labels
pub record IsMadeBranch (s : Space) (part : Trial) (lasts : List Placed) : Type 0 where
  pub row : IsRow (row_of part lasts)
  pub next : ComeNext s part (trials_of (row_of part lasts))

pub branch_made : (s : Space) (store : LabelledStore) → store.entries ≡ s.store → IsLabelled store → (part : Trial) → LacksOne s part → IsPart part → (lasts : List Placed) → 1 ≤ length lasts → AreEnds s part.number part.head (labels part) 0 lasts → IsMadeBranch s part lasts
branch_made s store st w part k is [] some e = absurd (omega arith)
branch_made s store st w part k is (p ∷ ps) some e =
    let first = first_behind s part k p e.0 e.1 in
    let next = come_next s part k p ps first.1 e.2 in
    record {
      row = record {
        part = is;
        some = some;
        full = k.full;
        formed = all_formed s store k.plans k.scoped st w (lengthened part p) (map (lengthened part) ps) (next_trial s (just_after (position part)) (position (lengthened part p)) first.0) first.1 next;
      };
      next = (first, next);
    }

-- a trial with which others begin is a part
pub begins_others : {Z : Type 0} (s : Space) (t : Trial) (f : CodeFront Z) → IsFront s t.number t.head (labels t) f → IsTrialOf s.rules s.plans s.store t → IsFormed t → length t.placed + 1 ≡ length (heads_of t.rule) → IsPart t
begins_others s t f front i w left =
    let j : Join = join_of f.join in
    let k = front.join in
    let here = subst (λ (x : Join). IsTrialIn x (labels t) t) (sym k.is) (trial_in s t j.rule j.order i k.planned w) in
    is_part j (labels t) f.binding.now front.ready (omega (arith, labels_length t, ap (λ r. length (heads_of r)) here.rule_is, length-append j.rule.kept j.rule.removed)) t here

-- ---- the front of a trial

-- a front of the same numbers and labels
pub front_as : {Z : Type 0} (s : Space) (r q h k : ℕ) (ls ms : List ℕ) (f : CodeFront Z) → r ≡ q → h ≡ k → ls ≡ ms → IsFront s r h ls f → IsFront s q k ms f
front_as s r q h k ls ms f number head labels front = subst (λ n. IsFront s n k ms f) number (subst (λ n. IsFront s r n ms f) head (subst (λ xs. IsFront s r h xs f) labels front))

-- where there is none, no trial ends from a label on
pub none_as : (s : Space) (r q h k : ℕ) (ls ms : List ℕ) (from : ℕ) → r ≡ q → h ≡ k → ls ≡ ms → ((x : ℕ) → MayEnd s (r ∷ h ∷ ls) x → ⊥) → NoneFrom (MayEnd s (q ∷ k ∷ ms)) from
none_as s r q h k ls ms from number head labels none =
    let same : r ∷ h ∷ ls ≡ q ∷ k ∷ ms = cc in
    λ x i least. none x (subst (λ path. MayEnd s path x) (sym same) i)

-- ---- trials of the active label alone that come next one after another

-- the trial of the active label alone at a head
abbrev alone_at : Space → Atom ℕ → Head → Trial
alone_at s atom o = trial_alone o.rule o.number (record { head = o.head; label = s.active; atom = atom })

-- past one at a rule of one head comes that at the next head, and so on
come_alone : (s : Space) (atom : Atom ℕ) (pred : Pred) → ArePlans s.rules s.plans → AllByRecursion IsRule s.rules → atom_at s.store s.active ≡ Some atom → pred.name.number ≡ atom.name → pred.arity ≡ length atom.args → (o : Head) (os : List Head) → IsTrialOf s.rules s.plans s.store (alone_at s atom o) → length (heads_of o.rule) ≡ 1 → AreNextHeads s.rules pred o.number o.head os → ComeNext s (alone_at s atom o) (map (alone_at s atom) os)
come_alone s atom pred ps rs live name arity o [] i one e = tt
come_alone s atom pred ps rs live name arity o (q ∷ qs) i one e =
    let t : Trial = alone_at s atom o in
    let u : Trial = alone_at s atom q in
    let behind : ComeAfter s (past (position t)) (position t) = full_after s t ps rs i (sym one) (omega arith) in
    let next : IsNext s (just_after (position t)) (position u) = next_after s (past (position t)) (position t) (position u) behind (alone_next s atom pred o.number o.head q.number q.head ps live name arity e.0) in
    let trial : IsTrialOf s.rules s.plans s.store u = alone_trial s q.rule q.number q.head atom ps (next_trial s (just_after (position t)) (position u) next) e.1 live in
    ((next, trial), come_alone s atom pred ps rs live name arity q qs trial e.2 e.3)

-- the label of an admissible trial of one label is the active one
pub active_alone : (s : Space) (t : Trial) (p : Placed) → t.placed ≡ p ∷ [] → IsTrial s (position t) → p.label ≡ s.active
active_alone s t p e i = (subst (λ (ps : List Placed). IsTrial s (t.number ∷ t.head ∷ map (λ (x : Placed). x.label) ps)) e i).grows.1.1.0.3.turn

-- the active label of a formed trial is small
pub active_low : (s : Space) (t : Trial) → IsTrial s (position t) → IsFormed t → s.active ≤ 4294967295
active_low s t i f = low t.number t.head (length (heads_of t.rule)) t.placed i f.some f.within
  where
    low : (r h n : ℕ) (ps : List Placed) → IsTrial s (r ∷ h ∷ map (λ (x : Placed). x.label) ps) → 1 ≤ length ps → AllByRecursion (λ (p : Placed). (1 ≤ p.head) × (p.head ≤ n) × (p.label ≤ 4294967295)) ps → s.active ≤ 4294967295
    low r h n [] i some w = absurd (omega arith)
    low r h n (p ∷ ps) i some w = let first : p.label ≡ s.active = i.grows.1.1.0.3.turn in subst (λ l. l ≤ 4294967295) first w.0.2

-- what is known of the first trial of a column
pub record IsAlone (s : Space) (t : Trial) (p : Placed) : Type 0 where
  pub plans : ArePlans s.rules s.plans
  pub scoped : AllByRecursion IsRule s.rules
  pub here : IsTrial s (position t)
  pub trial_of : IsTrialOf s.rules s.plans s.store t
  pub full : length (heads_of t.rule) ≡ 1
  pub placed : t.placed ≡ p ∷ []

first_live : (s : Space) (t : Trial) (p : Placed) → IsAlone s t p → atom_at s.store s.active ≡ Some p.atom
first_live s t p k = subst (λ l. atom_at s.store l ≡ Some p.atom) (active_alone s t p k.placed k.here) (subst (AllByRecursion (λ (x : Placed). atom_at s.store x.label ≡ Some x.atom)) k.placed k.trial_of.live).0

first_is : (s : Space) (t : Trial) (p : Placed) → IsAlone s t p → t ≡ alone_at s p.atom (record { rule = t.rule; number = t.number; head = t.head })
first_is s t p k = alone_is s t t.number t.head p.atom k.plans k.trial_of (ap (λ (ps : List Placed). t.number ∷ t.head ∷ map (λ (x : Placed). x.label) ps) k.placed ∙ ap (λ l. t.number ∷ t.head ∷ l ∷ []) (active_alone s t p k.placed k.here)) (first_live s t p k)

pub is_alone : {X : Type 0} (f : X → Placed) (s : Space) (t : Trial) (xs : List X) (x : X) → ArePlans s.rules s.plans → AllByRecursion IsRule s.rules → IsTrial s (position t) × IsTrialOf s.rules s.plans s.store t → length (heads_of t.rule) ≡ 1 → IsFormed t → map f xs ≡ t.placed → x ≡ get_or xs 0 x → IsAlone s t (f x)
is_alone f s t xs x ps rs i full w e is =
    record { plans = ps; scoped = rs; here = i.0; trial_of = i.1; full = full; placed = only_read f xs x t.placed e (omega (arith, w.some, w.few)) is }

-- the head of the first one is the only one
pub first_low : (s : Space) (t : Trial) (p : Placed) → IsAlone s t p → IsFormed t → t.head ≤ 1
first_low s t p k f =
    let placed : t.placed ≡ record { head = t.head; label = s.active; atom = p.atom } ∷ [] = ap (λ (u : Trial). u.placed) (first_is s t p k) in
    let within = (subst (AllByRecursion (λ (x : Placed). (1 ≤ x.head) × (x.head ≤ length (heads_of t.rule)) × (x.label ≤ 4294967295))) placed f.within).0 in
    omega (arith, within.1, k.full)

pub column_next : (s : Space) (t : Trial) (p : Placed) (pred : Pred) (os : List Head) → IsAlone s t p → pred.name.number ≡ p.atom.name → pred.arity ≡ length p.atom.args → AreNextHeads s.rules pred t.number t.head os → ComeNext s t (map (at_head t) os)
column_next s t p pred os k name arity e =
    let o : Head = record { rule = t.rule; number = t.number; head = t.head } in
    subst (λ u. ComeNext s u (map (at_head u) os)) (sym (first_is s t p k))
    (come_alone s p.atom pred k.plans k.scoped (first_live s t p k) name arity o os (subst (IsTrialOf s.rules s.plans s.store) (first_is s t p k) k.trial_of) k.full e)

-- each of the trials is at a rule of one head
all_full : (rules : List (Simpagation ℕ)) (pred : Pred) (t : Trial) (r h : ℕ) (os : List Head) → AreNextHeads rules pred r h os → AllByRecursion (λ (u : Trial). length (heads_of u.rule) ≡ 1) (map (at_head t) os)
all_full rules pred t r h [] e = tt
all_full rules pred t r h (o ∷ os) e = (e.2, all_full rules pred t o.number o.head os e.3)

pub column_made : (s : Space) (store : LabelledStore) → store.entries ≡ s.store → IsLabelled store → (t : Trial) (p : Placed) (pred : Pred) (os : List Head) → IsAlone s t p → pred.name.number ≡ p.atom.name → pred.arity ≡ length p.atom.args → AreNextHeads s.rules pred t.number t.head os → IsColumn (column_of t os)
column_made s store st w t p pred os k name arity e = record {
  alone = ap length k.placed;
  full = (k.full, all_full s.rules pred t t.number t.head os e);
  formed = all_formed s store k.plans k.scoped st w t (map (at_head t) os) k.here k.trial_of (column_next s t p pred os k name arity e);
}

-- the last of heads that come next, or the one before them
abbrev pub last_head : ℕ → ℕ → List Head → ℕ × ℕ
last_head r h [] = (r, h)
last_head r h (o ∷ os) = last_head o.number o.head os

head_push : (rules : List (Simpagation ℕ)) (pred : Pred) (r h : ℕ) (os : List Head) (o : Head) → AreNextHeads rules pred r h os → IsNextOccurrence rules pred (last_head r h os).0 ((last_head r h os).1 + 1) (o.number, o.head) → rule_at rules o.number ≡ Some o.rule → length (heads_of o.rule) ≡ 1 → AreNextHeads rules pred r h (os ++ o ∷ [])
head_push rules pred r h [] o e next is one = (next, is, one, tt)
head_push rules pred r h (q ∷ qs) o e next is one = (e.0, e.1, e.2, head_push rules pred q.number q.head qs o e.3 next is one)

last_push : (r h : ℕ) (os : List Head) (o : Head) → last_head r h (os ++ o ∷ []) ≡ (o.number, o.head)
last_push r h [] o = refl
last_push r h (q ∷ qs) o = last_push q.number q.head qs o

pub heads_push : {X : Type 0} (f : X → Head) (rules : List (Simpagation ℕ)) (pred : Pred) (r h : ℕ) (xs new : List X) (x : X) → AreNextHeads rules pred r h (map f xs) → new ≡ xs ++ x ∷ [] → IsNextOccurrence rules pred (last_head r h (map f xs)).0 ((last_head r h (map f xs)).1 + 1) ((f x).number, (f x).head) → rule_at rules (f x).number ≡ Some (f x).rule → length (f x).rule.kept + length (f x).rule.removed ≡ 1 → AreNextHeads rules pred r h (map f new)
heads_push f rules pred r h xs new x are items next is count =
    let o : Head = f x in
    let one : length (heads_of o.rule) ≡ 1 = length-append o.rule.kept o.rule.removed ∙ count in
    subst (AreNextHeads rules pred r h) (sym (ap (map f) items ∙ map_push f xs x)) (head_push rules pred r h (map f xs) o are next is one)

pub last_pushed : {X : Type 0} (f : X → Head) (r h : ℕ) (xs new : List X) (x : X) → new ≡ xs ++ x ∷ [] → last_head r h (map f new) ≡ ((f x).number, (f x).head)
last_pushed f r h xs new x items = ap (last_head r h) (ap (map f) items ∙ map_push f xs x) ∙ last_push r h (map f xs) (f x)

-- what holds of a trial and more holds of the last
pub last_all : (P : Trial → Type 0) (t : Trial) (us : List Trial) → AllByRecursion P (t ∷ us) → P (last_of t us)
last_all P t [] a = a.0
last_all P t (u ∷ us) a = last_all P u us a.1

pub all_alone : (t : Trial) (os : List Head) → length t.placed ≡ 1 → AllByRecursion (λ (u : Trial). length u.placed ≡ 1) (map (at_head t) os)
all_alone t [] one = tt
all_alone t (o ∷ os) one = (length-map t.placed (λ (p : Placed). record p { head = o.head }) ∙ one, all_alone t os one)

-- the last trial's rule and its head are numbered from 1
pub last_low : (c : Column) → IsColumn c → (number head : ℕ) → let last = last_of c.first (map (at_head c.first) c.more) in number ≡ last.number → head ≡ last.head → (1 ≤ number) × (1 ≤ head)
last_low c w number head e f =
    let formed = last_all IsFormed c.first (map (at_head c.first) c.more) w.formed in
    (subst (λ n. 1 ≤ n) (sym e) formed.number, subst (λ n. 1 ≤ n) (sym f) formed.head)

-- ---- trials after which none is left at their head

-- past the active label at a head lie the trials after one that is the last there
pub come_past_head : (s : Space) (place : List ℕ) (t : Trial) → place ≡ past (t.number ∷ t.head ∷ s.active ∷ []) → IsLastAtHead s t → ComeAfter s place (position t)
come_past_head s place t is last =
    subst (λ p. ComeAfter s p (position t)) (sym is) (λ u i. (
      λ e. after_by (just_after (position t)) (t.number ∷ (t.head + 1) ∷ []) u (up (labels t ++ 0 ∷ [])) ((come_past_active s t.number t.head (s.active + 1) [] (omega arith)).none u i e),
      λ e. after_by (past (t.number ∷ t.head ∷ s.active ∷ [])) (t.number ∷ (t.head + 1) ∷ []) u (up ((s.active + 1) ∷ [])) (last u i e),
    ))
  where
    up : (ls : List ℕ) → at_or_after (t.number ∷ t.head ∷ ls) (t.number ∷ (t.head + 1) ∷ []) ≡ true
    up ls = grind (arith, nat_tests)

-- where no trial begins with the active label and a number from one on, none is left at the head from there on
head_ends : (s : Space) (r h n : ℕ) → NoneFrom (MayEnd s (r ∷ h ∷ s.active ∷ [])) n → (u : List ℕ) → IsTrial s u → at_or_after (r ∷ h ∷ s.active ∷ n ∷ []) u ≡ true → at_or_after (r ∷ (h + 1) ∷ []) u ≡ true
head_ends s r h n none = each_trial s (λ u. at_or_after (r ∷ h ∷ s.active ∷ n ∷ []) u ≡ true → at_or_after (r ∷ (h + 1) ∷ []) u ≡ true) (λ x y m ms i first e.
    let out : r ≡ x → h ≡ y → at_or_after (n ∷ []) ms ≡ true → ⊥ = λ rule head. further ms (subst (IsTrial s) (let z : x ∷ y ∷ m ∷ ms ≡ r ∷ h ∷ s.active ∷ ms = cc in z) i) in
    grind (arith, nat_tests))
  where
    further : (ms : List ℕ) → IsTrial s (r ∷ h ∷ s.active ∷ ms) → at_or_after (n ∷ []) ms ≡ true → ⊥
    further [] i e = absurd (cc)
    further (k ∷ ks) i e = none k (record { grows = shorter (Child s) [] (r ∷ h ∷ s.active ∷ k ∷ []) ks i.grows; deep = omega arith }) (grind (arith, nat_tests))

-- a trial of one label has the active one
at_active : (s : Space) (t : Trial) → IsTrial s (position t) → length t.placed ≡ 1 → position t ≡ t.number ∷ t.head ∷ s.active ∷ []
at_active s t i one =
    let p = only_placed t.placed one in
    ap (λ (ps : List Placed). t.number ∷ t.head ∷ map (λ (x : Placed). x.label) ps) p.1 ∙ ap (λ l. t.number ∷ t.head ∷ l ∷ []) (active_alone s t p.0 p.1 i)

-- it is the last at its head where that is its rule's only one, and where it begins no other
pub alone_ends : (s : Space) → ArePlans s.rules s.plans → AllByRecursion IsRule s.rules → (t : Trial) → IsTrial s (position t) → IsTrialOf s.rules s.plans s.store t → length t.placed ≡ 1 → length (heads_of t.rule) ≡ 1 → IsLastAtHead s t
alone_ends s ps rs t k i one full = λ u j e.
    (come_past_active s t.number t.head (s.active + 1) [] (omega arith)).none u j
    (subst (λ p. at_or_after (past p) u ≡ true) (at_active s t k one) ((full_after s t ps rs i (one ∙ sym full) (omega arith) u j).1 e))

pub part_ends : (s : Space) (t : Trial) → IsTrial s (position t) → length t.placed ≡ 1 → NoneFrom (MayEnd s (position t)) 0 → IsLastAtHead s t
part_ends s t k one none = λ u j e.
    let at = at_active s t k one in
    head_ends s t.number t.head 0 (subst (λ p. NoneFrom (MayEnd s p) 0) at none) u j (subst (λ p. at_or_after (just_after p) u ≡ true) at e)

-- so is one with all heads, two labels, and no other past the last of them
pub full_ends : (s : Space) → ArePlans s.rules s.plans → AllByRecursion IsRule s.rules → (t : Trial) → IsTrial s (position t) → IsTrialOf s.rules s.plans s.store t → length t.placed ≡ length (heads_of t.rule) → (before : List ℕ) (last : ℕ) → labels t ≡ before ++ last ∷ [] → length before ≡ 1 → NoneFrom (MayEnd s (t.number ∷ t.head ∷ before)) (last + 1) → IsLastAtHead s t
full_ends s ps rs t k i full (b ∷ []) last e one none = λ u j a.
    let at : position t ≡ t.number ∷ t.head ∷ b ∷ last ∷ [] = ap (λ (ls : List ℕ). t.number ∷ t.head ∷ ls) e in
    let first : b ≡ s.active = (subst (IsTrial s) at k).grows.1.1.0.3.turn in
    let some : 1 ≤ length t.placed = omega (arith, labels_length t, ap length e) in
    head_ends s t.number t.head (last + 1) (subst (λ x. NoneFrom (MayEnd s (t.number ∷ t.head ∷ x ∷ [])) (last + 1)) first none) u j
    (subst (λ p. at_or_after p u ≡ true) (ap past at ∙ ap (λ x. t.number ∷ t.head ∷ x ∷ (last + 1) ∷ []) first) ((full_after s t ps rs i full some u j).1 a))
full_ends s ps rs t k i full before last e one none = absurd (omega arith)

pub pair_ends : (s : Space) → ArePlans s.rules s.plans → AllByRecursion IsRule s.rules → (t : Trial) → IsTrial s (position t) → IsTrialOf s.rules s.plans s.store t → length t.placed ≡ 2 → length t.placed ≡ length (heads_of t.rule) → (before : List ℕ) (last : ℕ) → labels t ≡ before ++ last ∷ [] → NoneFrom (MayEnd s (t.number ∷ t.head ∷ before)) (last + 1) → IsLastAtHead s t
pair_ends s ps rs t k i two full before last e none =
    let one : length before ≡ 1 = omega (arith, two, labels_length t, ap length e, length_push before last) in
    full_ends s ps rs t k i full before last e one none

-- the last trial of a row and of a branch, where no label is left to push
last_placed : (part : Trial) (p : Placed) (ps : List Placed) → (q : Placed) × (last_of (lengthened part p) (map (lengthened part) ps) ≡ lengthened part q) × (next_from (p.label + 1) ps ≡ q.label + 1)
last_placed part p [] = (p, refl, refl)
last_placed part p (q ∷ qs) = last_placed part q qs

pub row_ends : (s : Space) (part : Trial) → LacksOne s part → length part.placed ≡ 1 → (p : Placed) (ps : List Placed) → IsTrial s (position (lengthened part p)) → IsTrialOf s.rules s.plans s.store (lengthened part p) → ComeNext s (lengthened part p) (map (lengthened part) ps) → NoneFrom (MayEnd s (position part)) (next_from (p.label + 1) ps) → EndHead s (lengthened part p ∷ map (lengthened part) ps)
row_ends s part k one p ps here i next none =
    let q = last_placed part p ps in
    let last = subst (λ t. IsTrial s (position t) × IsTrialOf s.rules s.plans s.store t) q.1 (last_trial s (lengthened part p) (map (lengthened part) ps) here i next) in
    subst (IsLastAtHead s) (sym q.1)
    (full_ends s k.plans k.scoped (lengthened part q.0) last.0 last.1 (length_push part.placed q.0 ∙ k.full) (labels part) q.0.label (map_push (λ (x : Placed). x.label) part.placed q.0) (labels_length part ∙ one) (subst (NoneFrom (MayEnd s (position part))) q.2 none))

pub branch_ends : (s : Space) (part : Trial) → LacksOne s part → length part.placed ≡ 1 → (lasts : List Placed) → 1 ≤ length lasts → ComeNext s part (trials_of (row_of part lasts)) → NoneFrom (MayEnd s (position part)) (next_from 0 lasts) → EndHead s (branch_trials (row_of part lasts))
branch_ends s part k one [] some next none = absurd (omega arith)
branch_ends s part k one (p ∷ ps) some next none = row_ends s part k one p ps (next_trial s (just_after (position part)) (position (lengthened part p)) next.0.0) next.0.1 next.1 none

-- the last trial of a column
pub column_ends : (s : Space) → ArePlans s.rules s.plans → AllByRecursion IsRule s.rules → (c : Column) → IsColumn c → (t : Trial) (more : List Trial) → column_trials c ≡ t ∷ more → IsTrial s (position (last_of t more)) → IsTrialOf s.rules s.plans s.store (last_of t more) → IsLastAtHead s (last_of t more)
column_ends s ps rs c w t more e here i =
    alone_ends s ps rs (last_of t more) here i (last_all (λ (u : Trial). length u.placed ≡ 1) t more (subst (AllByRecursion (λ (u : Trial). length u.placed ≡ 1)) e (w.alone, all_alone c.first c.more w.alone)))
    (last_all (λ (u : Trial). length (heads_of u.rule) ≡ 1) t more (subst (AllByRecursion (λ (u : Trial). length (heads_of u.rule) ≡ 1)) e w.full))

-- the trials of a row have its part's rule and head
abbrev HasHeadOf : Trial → Trial → Type 0
HasHeadOf part t = (part.number ≡ t.number) × (part.head ≡ t.head)

row_heads : (part : Trial) (ps : List Placed) → AllByRecursion (HasHeadOf part) (map (lengthened part) ps)
row_heads part [] = tt
row_heads part (p ∷ ps) = ((refl, refl), row_heads part ps)

pub row_head : (part : Trial) (ps : List Placed) (t : Trial) (more : List Trial) → map (lengthened part) ps ≡ t ∷ more → HasHeadOf part (last_of t more)
row_head part ps t more e = last_all (HasHeadOf part) t more (subst (AllByRecursion (HasHeadOf part)) e (row_heads part ps))

pub branch_head : (part : Trial) (ps : List Placed) (t : Trial) (more : List Trial) → part ∷ map (lengthened part) ps ≡ t ∷ more → HasHeadOf part (last_of t more)
branch_head part ps t more e = last_all (HasHeadOf part) t more (subst (AllByRecursion (HasHeadOf part)) e ((refl, refl), row_heads part ps))
