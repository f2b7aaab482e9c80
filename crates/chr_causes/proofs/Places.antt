-- A run at a place of its log.
use Rattle.std.proofs.Common.{◌≡◌, ℕ, zero, suc, ◌+◌, ◌<◌, ◌⊎◌, inl, inr, List, [], ◌∷◌, ◌++◌, map, length, take, drop, slice_get, slice_set, get_or, Some, refl, sym, ◌∙◌, ap, subst, arith, length-append}
use Rattle.std.proofs.Math.ListN.{length-set, length-map}
use Rattle.std.specs.List.{sum_by}
use Rattle.std.proofs.lemmas.List.Sums.{sum_by-cons}
use Rattle.chr_value.specs.Atoms.{Atom}
use Rattle.chr_rule.specs.Rules.{Simpagation, rule_at}
use Rattle.chr_guard.specs.Instances.{added}
use Rattle.chr_guard.proofs.Under.{made_length}
use Rattle.chr_log.specs.Events.{Event, Post, Activate, Fire, Drop}
use Rattle.chr_log.specs.declared.events.Version.{Version}
use Rattle.chr_model.specs.Abstract.{Rules}
use Rattle.chr_model.specs.Goals.{Goal, Plain, Numbered, Ended, State, goal_at}
use Rattle.chr_model.specs.Steps.{Simplify, Propagate, Step, Run}
use Rattle.chr_model.specs.Programs.{Instances}
use Rattle.chr_model.proofs.Once.{next_fired}
use Rattle.chr_model.proofs.Quiet.{waiting_open}
use Rattle.chr_causes.specs.Origins.{added_count, tickets_of}

-- the state before an event, and the run around it
pub record Around (v : Version) (I : Rules) (s : State) (es : List (Event ℕ)) (i : ℕ) (e : Event ℕ) (n : State) : Type 0 where
  pub before : State
  pub after : State
  pub first : Run v I s (take i es) before
  pub step : Step v I before e after
  pub rest : Run v I after (drop (suc i) es) n

pub around : (v : Version) (I : Rules) (es : List (Event ℕ)) (s : State) (i : ℕ) (e : Event ℕ) (n : State) → Run v I s es n → slice_get es i ≡ Some e → Around v I s es i e n
around v I [] s i e n run h = absurd (cc)
around v I (x ∷ xs) s zero e n run h =
    let same : x ≡ e = cc in
    record { before = s; after = run.0; first = refl; step = subst (λ y. Step v I s y run.0) same run.1; rest = run.2 }
around v I (x ∷ xs) s (suc i) e n run h =
    let r = around v I xs run.0 i e n run.2 h in
    record { before = r.before; after = r.after; first = (run.0, run.1, r.first); step = r.step; rest = r.rest }

-- a run makes as many tickets as its events do
body_count : (rules : List (Simpagation ℕ)) (r : ℕ) (kept removed body : List (Atom ℕ)) → Instances rules r kept removed body → length body ≡ added_count (rule_at rules r)
body_count rules r kept removed body i = made_length i.2.valuation (added i.0.body) body i.2.body_is ∙ sym (ap added_count i.1)

goals_more : (gs : List Goal) (body : List (Atom ℕ)) (k : ℕ) → length body ≡ k → length (gs ++ map Plain body) ≡ length gs + k
goals_more gs body k h = length-append gs (map Plain body) ∙ ap (λ n. length gs + n) (length-map body Plain ∙ h)

tickets_fired : (rules : List (Simpagation ℕ)) (s : State) (t r : ℕ) (kept removed : List ℕ) (n : State) → (Simplify (Instances rules) s t r kept removed n ⊎ Propagate (Instances rules) s t r kept removed n) → length n.goals ≡ length s.goals + added_count (rule_at rules r)
tickets_fired rules s t r kept removed n (inl h) =
    ap (λ m. length m.goals) h.after
    ∙ goals_more (slice_set s.goals t Ended) h.body (added_count (rule_at rules r)) (body_count rules r h.instance.kept_atoms h.instance.removed_atoms h.body h.instance.instance)
    ∙ ap (λ k. k + added_count (rule_at rules r)) (length-set s.goals t Ended)
tickets_fired rules s t r kept removed n (inr h) =
    ap (λ m. length m.goals) h.after
    ∙ goals_more s.goals h.body (added_count (rule_at rules r)) (body_count rules r h.instance.kept_atoms h.instance.removed_atoms h.body h.instance.instance)

pub step_tickets : (v : Version) (rules : List (Simpagation ℕ)) (s : State) (e : Event ℕ) (n : State) → Step v (Instances rules) s e n → length n.goals ≡ length s.goals + tickets_of rules e
step_tickets v rules s (Post t a) n h = ap (λ m. length m.goals) h.after ∙ length-append s.goals (Plain a ∷ [])
step_tickets v rules s (Activate t l) n h = omega (arith, ap (λ m. length m.goals) h.after ∙ length-set s.goals t (Numbered s.next))
step_tickets v rules s (Fire t r kept removed) n h = tickets_fired rules s t r kept removed n h
step_tickets v rules s (Drop t) n h = omega (arith, ap (λ m. length m.goals) h.after ∙ length-set s.goals t Ended)

pub run_tickets : (v : Version) (rules : List (Simpagation ℕ)) (es : List (Event ℕ)) (s n : State) → Run v (Instances rules) s es n → length n.goals ≡ length s.goals + sum_by (tickets_of rules) es
run_tickets v rules [] s n run = let e : length n.goals ≡ length s.goals = ap (λ m. length m.goals) run in omega arith
run_tickets v rules (e ∷ es) s n run =
    omega (arith, sum_by-cons (tickets_of rules) e es, step_tickets v rules s e run.0 run.1, run_tickets v rules es run.0 n run.2)

-- how many labels an event gives
abbrev pub labels_of : Event ℕ → ℕ
labels_of (Post t a) = 0
labels_of (Activate t l) = 1
labels_of (Fire t r kept removed) = 0
labels_of (Drop t) = 0

step_next : (v : Version) (I : Rules) (s : State) (e : Event ℕ) (n : State) → Step v I s e n → n.next ≡ s.next + labels_of e
step_next v I s (Post t a) n h = let e : n.next ≡ s.next = ap (λ m. m.next) h.after in omega arith
step_next v I s (Activate t l) n h = ap (λ m. m.next) h.after
step_next v I s (Fire t r kept removed) n h = omega (arith, next_fired I s t r kept removed n h)
step_next v I s (Drop t) n h = let e : n.next ≡ s.next = ap (λ m. m.next) h.after in omega arith

pub run_next : (v : Version) (I : Rules) (es : List (Event ℕ)) (s n : State) → Run v I s es n → n.next ≡ s.next + sum_by labels_of es
run_next v I [] s n run = let e : n.next ≡ s.next = ap (λ m. m.next) run in omega arith
run_next v I (e ∷ es) s n run = omega (arith, sum_by-cons labels_of e es, step_next v I s e run.0 run.1, run_next v I es run.0 n run.2)

-- ticket 0 has no goal
abbrev pub NoneAtZero : State → Type 0
NoneAtZero s = (0 < length s.goals) × (goal_at s 0 ≡ Ended)

zero_more : (gs hs : List Goal) → 0 < length gs → get_or gs 0 Ended ≡ Ended → (0 < length (gs ++ hs)) × (get_or (gs ++ hs) 0 Ended ≡ Ended)
zero_more [] hs lt h = absurd (omega arith)
zero_more (g ∷ gs) hs lt h = (omega arith, h)

zero_set : (gs : List Goal) (t : ℕ) (g : Goal) → (t ≡ 0 → g ≡ Ended) → 0 < length gs → get_or gs 0 Ended ≡ Ended → (0 < length (slice_set gs t g)) × (get_or (slice_set gs t g) 0 Ended ≡ Ended)
zero_set [] t g first lt h = absurd (omega arith)
zero_set (x ∷ gs) zero g first lt h = (omega arith, first refl)
zero_set (x ∷ gs) (suc t) g first lt h = (omega arith, h)

zero_fired : (I : Rules) (s : State) (t r : ℕ) (kept removed : List ℕ) (n : State) → (Simplify I s t r kept removed n ⊎ Propagate I s t r kept removed n) → NoneAtZero s → NoneAtZero n
zero_fired I s t r kept removed n (inl h) z =
    let e = zero_set s.goals t Ended (λ _. refl) z.0 z.1 in
    subst NoneAtZero (sym h.after) (zero_more (slice_set s.goals t Ended) (map Plain h.body) e.0 e.1)
zero_fired I s t r kept removed n (inr h) z = subst NoneAtZero (sym h.after) (zero_more s.goals (map Plain h.body) z.0 z.1)

step_zero : (v : Version) (I : Rules) (s : State) (e : Event ℕ) (n : State) → Step v I s e n → NoneAtZero s → NoneAtZero n
step_zero v I s (Post t a) n h z = subst NoneAtZero (sym h.after) (zero_more s.goals (Plain a ∷ []) z.0 z.1)
step_zero v I s (Activate t l) n h z = subst NoneAtZero (sym h.after) (zero_set s.goals t (Numbered s.next) (λ first. absurd (waiting_open h.atom (sym h.plain ∙ ap (goal_at s) first ∙ z.1))) z.0 z.1)
step_zero v I s (Fire t r kept removed) n h z = zero_fired I s t r kept removed n h z
step_zero v I s (Drop t) n h z = subst NoneAtZero (sym h.after) (zero_set s.goals t Ended (λ _. refl) z.0 z.1)

pub run_zero : (v : Version) (I : Rules) (es : List (Event ℕ)) (s n : State) → Run v I s es n → NoneAtZero s → NoneAtZero n
run_zero v I [] s n run z = subst NoneAtZero (sym run) z
run_zero v I (e ∷ es) s n run z = run_zero v I es run.0 n run.2 (step_zero v I s e run.0 run.1 z)
