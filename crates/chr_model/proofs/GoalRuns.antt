-- Whether posts come first or at their own places, the same logs are lawful.
use Rattle.std.proofs.Common.{◌≡◌, ℕ, List, [], ◌∷◌, refl, ap, subst, ◌+◌, ◌⊎◌, inl, inr, ◌++◌, map, sym, ◌∙◌, append_assoc, append-nil, IsPermutation}
use Rattle.chr_value.specs.Atoms.{Atom}
use Rattle.chr_log.specs.Events.{Event, Post, Activate, Fire, Drop}
use Rattle.chr_log.specs.declared.events.Version.{Version}
use Rattle.chr_model.specs.Abstract.{Rules, AbstractRun}
use Rattle.chr_model.specs.Goals.{State, start, erase, Goal, Plain, Numbered, Ended, goal_at, plain_goals, numbered_goals}
use Rattle.chr_model.specs.Steps.{Run, posted, activated, ended, replaced, MayDrop, Simplify, Propagate}
use Rattle.chr_model.specs.Logs.{Lawful, posted_by, firing, firings}
use Rattle.chr_model.specs.PostsFirst.{Gathered, RunAmong, LawfulPostsFirst, all_posted, none_left, firings_among}
use Rattle.chr_model.proofs.Erasure.{Lawful-erased, plain_goals-append}
use Rattle.std.proofs.lemmas.List.{set-append_left}
use Rattle.std.proofs.lemmas.List.Sorted.{IsPermutation-refl, IsPermutation-append_right, IsPermutation-append_comm}
use Rattle.chr_log.specs.declared.events.Version.TheVariants.{One, Two}
use Rattle.chr_model.specs.Stores.{Store, without}
use Rattle.chr_model.specs.GoalRuns.{opening, SameGoals, GoalRun, unposted}
use Rattle.chr_model.proofs.Strict.{activate, simplify, propagate, drop_goal, ended-replaced}
use Rattle.chr_model.proofs.Quiet.{open_within, goal_stays, waiting_open, numbered_stays, numbered-replaced}

abbrev with : List (Atom ℕ) → State → Gathered
with posts s = record { unticketed = posts; state = s }

Run-gathered : (v : Version) (I : Rules) (es : List (Event ℕ)) (s n : State) → Run v I s es n → RunAmong v I (with (posted_by es) s) es (with [] n)
Run-gathered v I [] s n run = ap (with []) run
Run-gathered v I (Post t a ∷ es) s n run = (with (posted_by es) run.0, (refl, run.1), Run-gathered v I es run.0 n run.2)
Run-gathered v I (Activate t l ∷ es) s n run = (with (posted_by es) run.0, (refl, run.1), Run-gathered v I es run.0 n run.2)
Run-gathered v I (Fire t r kept removed ∷ es) s n run = (with (posted_by es) run.0, (refl, run.1), Run-gathered v I es run.0 n run.2)
Run-gathered v I (Drop t ∷ es) s n run = (with (posted_by es) run.0, (refl, run.1), Run-gathered v I es run.0 n run.2)

-- the other way, with the same firings
scattered : (v : Version) (I : Rules) (es : List (Event ℕ)) (g h : Gathered) (run : RunAmong v I g es h) → (same : Run v I g.state es h.state) × (firings v I es g.state h.state same ≡ firings_among v I es g h run)
scattered v I [] g h run = (ap (λ x. x.state) run, refl)
scattered v I (Post t a ∷ es) g h run = let rest = scattered v I es run.0 h run.2 in ((run.0.state, run.1.1, rest.0), rest.1)
scattered v I (Activate t l ∷ es) g h run = let rest = scattered v I es run.0 h run.2 in ((run.0.state, run.1.1, rest.0), rest.1)
scattered v I (Fire t r kept removed ∷ es) g h run = let rest = scattered v I es run.0 h run.2 in ((run.0.state, run.1.1, rest.0), ap (λ fs. firing run.1.1 ∷ fs) rest.1)
scattered v I (Drop t ∷ es) g h run = let rest = scattered v I es run.0 h run.2 in ((run.0.state, run.1.1, rest.0), rest.1)

pub posts_to_front : (v : Version) (I : Rules) (log : List (Event ℕ)) (last : State) → Lawful v I log last → LawfulPostsFirst v I log last
posts_to_front v I log last run = Run-gathered v I log start last run

pub posts_to_places : (v : Version) (I : Rules) (log : List (Event ℕ)) (last : State) → LawfulPostsFirst v I log last → Lawful v I log last
posts_to_places v I log last run = (scattered v I log (all_posted log) (none_left last) run).0

pub posts_erased : (v : Version) (I : Rules) (log : List (Event ℕ)) (last : State) (run : LawfulPostsFirst v I log last) → AbstractRun I (posted_by log) (firings_among v I log (all_posted log) (none_left last) run) (erase last)
posts_erased v I log last run =
    let same = scattered v I log (all_posted log) (none_left last) run in
    subst (λ fs. AbstractRun I (posted_by log) fs (erase last)) same.1 (Lawful-erased v I log last same.0)

-- ---- a lawful log is a goal-based run from all that it posts

numbered_goals-append : (gs hs : List Goal) → numbered_goals (gs ++ hs) ≡ numbered_goals gs ++ numbered_goals hs
numbered_goals-append [] hs = refl
numbered_goals-append (Plain a ∷ gs) hs = numbered_goals-append gs hs
numbered_goals-append (Numbered l ∷ gs) hs = ap (λ xs. l ∷ xs) (numbered_goals-append gs hs)
numbered_goals-append (Ended ∷ gs) hs = numbered_goals-append gs hs

turned : {A : Type 0} (x w m : List A) → IsPermutation (x ++ (w ++ m)) (x ++ (m ++ w))
turned x w m = IsPermutation-append_right x (w ++ m) (m ++ w) (IsPermutation-append_comm w m)

abbrev entry_of : List Goal → Store → ℕ → State
entry_of gs st n = record { goals = gs; store = st; next = n }

same_turned : (x w m : List Goal) (st : Store) (n : ℕ) → SameGoals (entry_of ((x ++ w) ++ m) st n) (entry_of ((x ++ m) ++ w) st n)
same_turned x w m st n = record {
  plain = simp (append_assoc, plain_goals-append) (turned (plain_goals x) (plain_goals w) (plain_goals m));
  numbered = simp (append_assoc, numbered_goals-append) (turned (numbered_goals x) (numbered_goals w) (numbered_goals m));
  store = refl;
  next = refl;
}

same_equal : (a b : State) → a ≡ b → SameGoals a b
same_equal a b e = subst (SameGoals a) e (record { plain = IsPermutation-refl (plain_goals a.goals); numbered = IsPermutation-refl (numbered_goals a.goals); store = refl; next = refl })

-- a state with the atoms that are still to be posted after its goals
abbrev ahead : State → List (Atom ℕ) → State
ahead s ps = replaced s [] ps

may_drop_ahead : (v : Version) (I : Rules) (s : State) (ps : List (Atom ℕ)) (l : ℕ) → MayDrop v I s l → MayDrop v I (ahead s ps) l
may_drop_ahead One I s ps l m = m
may_drop_ahead Two I s ps l m = λ r kept removed body i h.
    let o = m r kept removed body i h in
    (o.0, o.1, o.2, numbered-replaced s [] ps o.0 o.3)

post_ahead : (s : State) (a : Atom ℕ) (ps : List (Atom ℕ)) → ahead (posted s a) ps ≡ ahead s (a ∷ ps)
post_ahead s a ps = ap (λ gs. entry_of gs s.store s.next) (append_assoc s.goals (Plain a ∷ []) (map Plain ps))

activate_ahead : (s : State) (t : ℕ) (a : Atom ℕ) (ps : List (Atom ℕ)) → goal_at s t ≡ Plain a → activated (ahead s ps) t a ≡ ahead (activated s t a) ps
activate_ahead s t a ps at =
    ap (λ gs. entry_of gs (s.store ++ (s.next, a) ∷ []) (s.next + 1)) (set-append_left s.goals (map Plain ps) t (Numbered s.next) (open_within s.goals t (Plain a) (waiting_open a) at))

propagate_ahead : (s : State) (removed : List ℕ) (body ps : List (Atom ℕ)) → SameGoals (replaced (ahead s ps) removed body) (ahead (replaced s removed body) ps)
propagate_ahead s removed body ps = same_turned s.goals (map Plain ps) (map Plain body) (without removed s.store) s.next

simplify_ahead : (s : State) (t l : ℕ) (removed : List ℕ) (body ps : List (Atom ℕ)) → goal_at s t ≡ Numbered l → SameGoals (replaced (ended (ahead s ps) t) removed body) (ahead (replaced (ended s t) removed body) ps)
simplify_ahead s t l removed body ps at =
    subst (λ m. SameGoals (replaced m removed body) (ahead (replaced (ended s t) removed body) ps)) (ended-replaced s [] ps t l at) (propagate_ahead (ended s t) removed body ps)

-- a step, to a state with the same goals as another, before what follows there
step_ahead : {A B : State → Type 0} (first : (u : State) × A u) (m : State) → SameGoals first.0 m → B m → (u : State) × (same : State) × A u × SameGoals u same × B same
step_ahead first m same others = (first.0, m, first.1, same, others)

fire_ahead : (v : Version) (I : Rules) (s : State) (t r : ℕ) (kept removed : List ℕ) (m n : State) (ps : List (Atom ℕ)) (es : List (Event ℕ)) → (Simplify I s t r kept removed m ⊎ Propagate I s t r kept removed m) → GoalRun v I (ahead m ps) es n → GoalRun v I (ahead s ps) (Fire t r kept removed ∷ es) n
fire_ahead v I s t r kept removed m n ps es (inl h) others =
    let same = subst (λ x. SameGoals (replaced (ended (ahead s ps) t) removed h.body) (ahead x ps)) (sym h.after) (simplify_ahead s t h.label removed h.body ps h.numbered) in
    step_ahead (simplify (numbered_stays s [] ps t h.label h.numbered) h.stands h.instance) (ahead m ps) same others
fire_ahead v I s t r kept removed m n ps es (inr h) others =
    let same = subst (λ x. SameGoals (replaced (ahead s ps) removed h.body) (ahead x ps)) (sym h.after) (propagate_ahead s removed h.body ps) in
    step_ahead (propagate (numbered_stays s [] ps t h.label h.numbered) h.stands h.instance) (ahead m ps) same others

run_ahead : (v : Version) (I : Rules) (es : List (Event ℕ)) (s n : State) → Run v I s es n → GoalRun v I (ahead s (posted_by es)) (unposted es) n
run_ahead v I [] s n run = same_equal (ahead s []) n (ap (λ gs. entry_of gs s.store s.next) (append-nil s.goals) ∙ sym run)
run_ahead v I (Post t a ∷ es) s n run =
    subst (λ m. GoalRun v I m (unposted es) n) (ap (λ m. ahead m (posted_by es)) run.1.after ∙ post_ahead s a (posted_by es)) (run_ahead v I es run.0 n run.2)
run_ahead v I (Activate t l ∷ es) s n run =
    let h = run.1 in
    let ps = posted_by es in
    let same = same_equal (activated (ahead s ps) t h.atom) (ahead run.0 ps) (activate_ahead s t h.atom ps h.plain ∙ sym (ap (λ m. ahead m ps) h.after)) in
    step_ahead (activate (goal_stays s.goals (map Plain ps) t (Plain h.atom) (waiting_open h.atom) h.plain) h.label) (ahead run.0 ps) same (run_ahead v I es run.0 n run.2)
run_ahead v I (Fire t r kept removed ∷ es) s n run = fire_ahead v I s t r kept removed run.0 n (posted_by es) (unposted es) run.1 (run_ahead v I es run.0 n run.2)
run_ahead v I (Drop t ∷ es) s n run =
    let h = run.1 in
    let ps = posted_by es in
    let same = same_equal (ended (ahead s ps) t) (ahead run.0 ps) (sym (ap (λ m. ahead m ps) h.after ∙ ended-replaced s [] ps t h.label h.numbered)) in
    step_ahead (drop_goal (numbered_stays s [] ps t h.label h.numbered) (may_drop_ahead v I s ps h.label h.done)) (ahead run.0 ps) same (run_ahead v I es run.0 n run.2)

pub goal_run : (v : Version) (I : Rules) (log : List (Event ℕ)) (last : State) → Lawful v I log last → GoalRun v I (opening (posted_by log)) (unposted log) last
goal_run v I log last run = run_ahead v I log start last run
