-- With labels forgotten, the firings of a run are an abstract run.
use Rattle.std.proofs.Common.{◌≡◌, ℕ, zero, suc, ◌+◌, ◌≤◌, ◌⊎◌, inl, inr, true, false, ◌==◌, if◌then◌else◌, List, [], ◌∷◌, ◌++◌, map, Some, refl, sym, ◌∙◌, ap, subst, arith, get_or, set, append_assoc, append-nil, IsPermutation}
use Rattle.std.proofs.lemmas.Bool.Decides.{nat_tests}
use Rattle.std.proofs.lemmas.List.{map-append}
use Rattle.std.proofs.lemmas.List.Sorted.{IsPermutation-refl, IsPermutation-sym, IsPermutation-to_front, IsPermutation-append_left, IsPermutation-append_right, IsPermutation-trans, IsPermutation-middle, IsPermutation-append_comm}
use Rattle.chr_value.specs.Atoms.{Atom}
use Rattle.chr_log.specs.Events.{Event, Post, Activate, Fire, Drop}
use Rattle.chr_log.specs.declared.events.Version.{Version}
use Rattle.chr_model.specs.Abstract.{Rules, Firing, AbstractStep, AbstractRun}
use Rattle.chr_model.specs.Stores.{Store, atom_at, drop_label, without, labels, atoms, among, Distinct, Carry, Labelled}
use Rattle.chr_model.specs.Goals.{Goal, Plain, Numbered, Ended, State, start, goal_at, plain_goals, erase}
use Rattle.chr_model.specs.Steps.{posted, activated, ended, replaced, Simplify, Propagate, Run}
use Rattle.chr_model.specs.Logs.{Lawful, posted_by, firing, firings, times}
use Rattle.chr_model.proofs.Stores.{atom_at-drop, atom_at-without, Carry-move, times-drop, times-without, apart, Distinct-left, Distinct-right}
use Rattle.chr_model.proofs.Once.{LabelsOnce, Step-once, start_once}

-- permutations, with lists that antt finds
both : {xs ys zs : List (Atom ℕ)} → IsPermutation xs ys → IsPermutation ys zs → IsPermutation xs zs
both {xs} {ys} {zs} p q = IsPermutation-trans xs ys zs p q

front : {xs ys : List (Atom ℕ)} (zs : List (Atom ℕ)) → IsPermutation xs ys → IsPermutation (zs ++ xs) (zs ++ ys)
front {xs} {ys} zs p = IsPermutation-append_right zs xs ys p

back : {xs ys : List (Atom ℕ)} (zs : List (Atom ℕ)) → IsPermutation xs ys → IsPermutation (xs ++ zs) (ys ++ zs)
back {xs} {ys} zs p = IsPermutation-append_left zs xs ys p

equal : (xs ys : List (Atom ℕ)) → xs ≡ ys → IsPermutation xs ys
equal xs ys e = subst (λ zs. IsPermutation xs zs) e (IsPermutation-refl xs)

shift : (w x y : List (Atom ℕ)) → IsPermutation (w ++ (x ++ y)) (x ++ (w ++ y))
shift w x y = simp append_assoc at (back y (IsPermutation-append_comm w x))

mix : (w x k r : List (Atom ℕ)) → IsPermutation (w ++ (x ++ (k ++ r))) (x ++ (k ++ (w ++ r)))
mix w x k r = both (shift w x (k ++ r)) (front x (shift w k r))

-- the atoms of a store, without those of some labels
drop_none : (l : ℕ) (st : Store) → times l (labels st) ≡ 0 → drop_label l st ≡ st
drop_none l [] h = refl
drop_none l (e ∷ es) h = grind (arith, nat_tests, drop_none l es)

one_out : (st : Store) (l : ℕ) (a : Atom ℕ) → times l (labels st) ≤ 1 → atom_at st l ≡ Some a → IsPermutation (atoms st) (a ∷ atoms (drop_label l st))
one_out [] l a u h = absurd (cc)
one_out (e ∷ es) l a u h =
    elim (e.0 == l) as (λ b. (if b then 1 else 0) + times l (labels es) ≤ 1 → (if b then Some e.1 else atom_at es l) ≡ Some a → IsPermutation (e.1 ∷ atoms es) (a ∷ atoms (if b then drop_label l es else e ∷ drop_label l es))) [
      | true ↦ λ few is.
          let same : e.1 ≡ a = cc in
          let rest : drop_label l es ≡ es = drop_none l es (omega arith) in
          equal (e.1 ∷ atoms es) (a ∷ atoms (drop_label l es)) (ap (λ x. x ∷ atoms es) same ∙ ap (λ xs. a ∷ atoms xs) (sym rest))
      | false ↦ λ few is. both (front (e.1 ∷ []) (one_out es l a (omega arith) is)) (IsPermutation-middle (e.1 ∷ []) a (atoms (drop_label l es)))
    ] u h

all_out : (ls : List ℕ) (as' : List (Atom ℕ)) (st : Store) → ((l : ℕ) → times l (labels st) ≤ 1) → Distinct ls → Carry st ls as' → IsPermutation (atoms st) (as' ++ atoms (without ls st))
all_out [] [] st u d c = IsPermutation-refl (atoms st)
all_out (l ∷ ls) (a ∷ as') st u d c =
    both (one_out st l a (u l) c.0)
    (front (a ∷ []) (all_out ls as' (drop_label l st) (λ k. grind (arith, nat_tests, times-drop k l st, u k)) d.1
    (Carry-move st (drop_label l st) ls as' (λ q b i e. atom_at-drop st l q ∙ grind (arith, nat_tests, d.0)) c.1)))
all_out ls as' st u d c = grind arith

-- the plain goals
pub plain_goals-append : (gs hs : List Goal) → plain_goals (gs ++ hs) ≡ plain_goals gs ++ plain_goals hs
plain_goals-append [] hs = refl
plain_goals-append (Plain a ∷ gs) hs = ap (λ xs. a ∷ xs) (plain_goals-append gs hs)
plain_goals-append (Numbered l ∷ gs) hs = plain_goals-append gs hs
plain_goals-append (Ended ∷ gs) hs = plain_goals-append gs hs

plain_goals-map : (body : List (Atom ℕ)) → plain_goals (map Plain body) ≡ body
plain_goals-map [] = refl
plain_goals-map (a ∷ body) = ap (λ xs. a ∷ xs) (plain_goals-map body)

plain_activated : (gs : List Goal) (t : ℕ) (a : Atom ℕ) (l : ℕ) → get_or gs t Ended ≡ Plain a → IsPermutation (plain_goals gs) (a ∷ plain_goals (set gs t (Numbered l)))
plain_activated [] t a l h = absurd (let c : Ended ≡ Plain a = h in cc)
plain_activated (g ∷ gs) zero a l h = subst (λ x. IsPermutation (plain_goals (x ∷ gs)) (a ∷ plain_goals gs)) (sym h) (IsPermutation-refl (a ∷ plain_goals gs))
plain_activated (g ∷ gs) (suc t) a l h =
    let others = plain_goals (set gs t (Numbered l)) in
    rw (plain_goals-append (g ∷ []) gs, plain_goals-append (g ∷ []) (set gs t (Numbered l))) (both (front (plain_goals (g ∷ [])) (plain_activated gs t a l h)) (IsPermutation-middle (plain_goals (g ∷ [])) a others))

plain_ended : (gs : List Goal) (t l : ℕ) → get_or gs t Ended ≡ Numbered l → plain_goals (set gs t Ended) ≡ plain_goals gs
plain_ended [] t l h = refl
plain_ended (g ∷ gs) zero l h = ap (λ x. plain_goals (x ∷ gs)) (sym h)
plain_ended (g ∷ gs) (suc t) l h = rw (plain_goals-append (g ∷ []) gs, plain_goals-append (g ∷ []) (set gs t Ended), plain_ended gs t l h)

-- what each kind of event does to the multiset
erase_posted : (s : State) (a : Atom ℕ) (rest : List (Atom ℕ)) → IsPermutation (erase s ++ (a ∷ rest)) (erase (posted s a) ++ rest)
erase_posted s a rest = simp (plain_goals-append, append_assoc) (front (plain_goals s.goals) (IsPermutation-middle (atoms s.store) a rest))

erase_activated : (s : State) (t : ℕ) (a : Atom ℕ) → goal_at s t ≡ Plain a → IsPermutation (erase s) (erase (activated s t a))
erase_activated s t a h =
    let left = plain_goals (set s.goals t (Numbered s.next)) ++ atoms s.store in
    simp map-append (both (back (atoms s.store) (plain_activated s.goals t a s.next h)) (IsPermutation-sym _ _ (simp append_assoc at (IsPermutation-to_front left a))))

erase_ended : (s : State) (t l : ℕ) → goal_at s t ≡ Numbered l → erase (ended s t) ≡ erase s
erase_ended s t l h = ap (λ w. w ++ atoms s.store) (plain_ended s.goals t l h)

erase_replaced : (I : Rules) (s : State) (r : ℕ) (kept removed : List ℕ) (body : List (Atom ℕ)) → LabelsOnce s → (i : Labelled I s.store r kept removed body) → AbstractStep I (record { rule = r; kept = i.kept_atoms; removed = i.removed_atoms; body = body }) (erase s) (erase (replaced s removed body))
erase_replaced I s r kept removed body u i =
    let mid = without removed s.store in
    let rest = atoms (without kept mid) in
    let w = plain_goals s.goals in
    let few : (k : ℕ) → times k (labels s.store) ≤ 1 = λ k. omega (arith, u k) in
    let out : IsPermutation (atoms s.store) (i.removed_atoms ++ atoms mid) = all_out removed i.removed_atoms s.store few (Distinct-right kept removed i.distinct) i.removed_there in
    let stay : Carry mid kept i.kept_atoms = Carry-move s.store mid kept i.kept_atoms (λ q b j e. let n : among removed q ≡ false = apart kept removed q i.distinct j in grind (arith, atom_at-without removed s.store q)) i.kept_there in
    let kept_out : IsPermutation (atoms mid) (i.kept_atoms ++ rest) = all_out kept i.kept_atoms mid (λ k. grind (arith, times-without k removed s.store, few k)) (Distinct-left kept removed i.distinct) stay in
    record {
      rest = w ++ rest;
      instance = i.instance;
      before = both (front w (both out (front i.removed_atoms kept_out))) (mix w i.removed_atoms i.kept_atoms rest);
      after = simp (plain_goals-append, plain_goals-map, append_assoc) (both (front w (front body kept_out)) (mix w body i.kept_atoms rest));
    }

AbstractStep-between : {I : Rules} {f : Firing} {old new from to : List (Atom ℕ)} → old ≡ from → new ≡ to → AbstractStep I f old new → AbstractStep I f from to
AbstractStep-between p q step = rw (← p, ← q) step

erase_fired : (I : Rules) (s : State) (t r : ℕ) (kept removed : List ℕ) (n : State) → LabelsOnce s → (step : Simplify I s t r kept removed n ⊎ Propagate I s t r kept removed n) → AbstractStep I (firing step) (erase s) (erase n)
erase_fired I s t r kept removed n u (inl h) = AbstractStep-between (erase_ended s t h.label h.numbered) (ap erase (sym h.after)) (erase_replaced I (ended s t) r kept removed h.body u h.instance)
erase_fired I s t r kept removed n u (inr h) = AbstractStep-between refl (ap erase (sym h.after)) (erase_replaced I s r kept removed h.body u h.instance)

-- what else is there stays there
pub AbstractStep-frame : (I : Rules) (f : Firing) (old new more : List (Atom ℕ)) → AbstractStep I f old new → AbstractStep I f (old ++ more) (new ++ more)
AbstractStep-frame I f old new more s = record {
  rest = s.rest ++ more;
  instance = s.instance;
  before = simp append_assoc at (back more s.before);
  after = simp append_assoc at (back more s.after);
}

pub AbstractRun-frame : (I : Rules) (fs : List Firing) (old new more : List (Atom ℕ)) → AbstractRun I old fs new → AbstractRun I (old ++ more) fs (new ++ more)
AbstractRun-frame I [] old new more run = back more run
AbstractRun-frame I (f ∷ fs) old new more run = (run.0 ++ more, AbstractStep-frame I f old run.0 more run.1, AbstractRun-frame I fs run.0 new more run.2)

pub AbstractRun-from : (I : Rules) (fs : List Firing) (old same new : List (Atom ℕ)) → IsPermutation old same → AbstractRun I same fs new → AbstractRun I old fs new
AbstractRun-from I [] old same new p run = both p run
AbstractRun-from I (f ∷ fs) old same new p run = grind (arith, nat_tests, both)

pub Run-erased : (v : Version) (I : Rules) (es : List (Event ℕ)) (s n : State) → LabelsOnce s → (run : Run v I s es n) → AbstractRun I (erase s ++ posted_by es) (firings v I es s n run) (erase n)
Run-erased v I [] s n u run = equal (erase s ++ []) (erase n) (append-nil (erase s) ∙ ap erase (sym run))
Run-erased v I (Post t a ∷ es) s n u run =
    AbstractRun-from I _ _ _ _ (subst (λ m. IsPermutation (erase s ++ (a ∷ posted_by es)) (erase m ++ posted_by es)) (sym run.1.after) (erase_posted s a (posted_by es)))
    (Run-erased v I es run.0 n (Step-once v I s (Post t a) run.0 run.1 u) run.2)
Run-erased v I (Activate t l ∷ es) s n u run =
    AbstractRun-from I _ _ _ _ (back (posted_by es) (subst (λ m. IsPermutation (erase s) (erase m)) (sym run.1.after) (erase_activated s t run.1.atom run.1.plain)))
    (Run-erased v I es run.0 n (Step-once v I s (Activate t l) run.0 run.1 u) run.2)
Run-erased v I (Fire t r kept removed ∷ es) s n u run = (
  erase run.0 ++ posted_by es,
  AbstractStep-frame I (firing run.1) (erase s) (erase run.0) (posted_by es) (erase_fired I s t r kept removed run.0 u run.1),
  Run-erased v I es run.0 n (Step-once v I s (Fire t r kept removed) run.0 run.1 u) run.2,
)
Run-erased v I (Drop t ∷ es) s n u run =
    AbstractRun-from I _ _ _ _ (back (posted_by es) (equal (erase s) (erase run.0) (sym (ap erase run.1.after ∙ erase_ended s t run.1.label run.1.numbered))))
    (Run-erased v I es run.0 n (Step-once v I s (Drop t) run.0 run.1 u) run.2)

pub Lawful-erased : (v : Version) (I : Rules) (log : List (Event ℕ)) (last : State) → (run : Lawful v I log last) → AbstractRun I (posted_by log) (firings v I log start last run) (erase last)
Lawful-erased v I log last run = Run-erased v I log start last start_once run

pub ruleset erasing = (Lawful-erased)

pub ruleset frames = (AbstractStep-frame, AbstractRun-frame)
