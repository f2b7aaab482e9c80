-- Where no goal is open, no rule applies.
use Rattle.std.proofs.Common.{◌≡◌, ◌≢◌, ℕ, zero, suc, ◌<◌, ◌⊎◌, inl, inr, true, false, ◌==◌, List, [], ◌∷◌, ◌++◌, map, length, refl, sym, ◌∙◌, ap, subst, arith, true-eqb, get_or, get_or-set_other, get_or-set_same, true≢false}
use Rattle.std.proofs.Math.ListN.{get_or-append}
use Rattle.std.proofs.lemmas.Bool.Decides.{nat_tests}
use Rattle.chr_value.specs.Atoms.{Atom}
use Rattle.chr_log.specs.Events.{Event, Post, Activate, Fire, Drop}
use Rattle.chr_log.specs.declared.events.Version.{Version}
use Rattle.chr_log.specs.declared.events.Version.TheVariants.{One, Two}
use Rattle.chr_model.specs.Abstract.{Rules}
use Rattle.chr_model.specs.Stores.{Store, without, among, Carry, Labelled, Final}
use Rattle.chr_model.specs.Goals.{Goal, Plain, Numbered, Ended, State, start, goal_at, IsNumbered, Quiet}
use Rattle.chr_model.specs.Steps.{activated, ended, replaced, MayDrop, Simplify, Propagate, Step, Run}
use Rattle.chr_model.specs.Logs.{Lawful}
use Rattle.chr_model.proofs.Stores.{atom_at-old, atom_at-kept, Labelled-move, Labelled-there}

-- what each step keeps, a run keeps
pub Run-keeps : (P : State → Type 0) (v : Version) (I : Rules) → ((s : State) (e : Event ℕ) (n : State) → Step v I s e n → P s → P n) → (es : List (Event ℕ)) (s n : State) → Run v I s es n → P s → P n
Run-keeps P v I step [] s n run p = subst P (sym run) p
Run-keeps P v I step (e ∷ es) s n run p = Run-keeps P v I step es run.0 n run.2 (step s e run.0 run.1 p)

-- a place whose goal hasn't ended is within the list
pub place_within : (gs : List Goal) (t : ℕ) → get_or gs t Ended ≢ Ended → t < length gs
place_within [] t h = absurd (h refl)
place_within (g ∷ gs) zero h = omega arith
place_within (g ∷ gs) (suc t) h = let i = place_within gs t h in omega arith

pub open_within : (gs : List Goal) (t : ℕ) (g : Goal) → g ≢ Ended → get_or gs t Ended ≡ g → t < length gs
open_within gs t g ne h = place_within gs t (λ z. ne (sym h ∙ z))

pub goal_stays : (gs hs : List Goal) (t : ℕ) (g : Goal) → g ≢ Ended → get_or gs t Ended ≡ g → get_or (gs ++ hs) t Ended ≡ g
goal_stays gs hs t g ne h = get_or-append gs hs Ended t (open_within gs t g ne h) ∙ h

pub active_open : (l : ℕ) → Numbered l ≢ Ended
active_open l h = cc

pub waiting_open : (a : Atom ℕ) → Plain a ≢ Ended
waiting_open a h = cc

pub same_label : (k l : ℕ) → Numbered k ≡ Numbered l → k ≡ l
same_label k l h = cc

-- a numbered goal stays one where goals are added, as by a post, which removes nothing
pub numbered_stays : (s : State) (gone : List ℕ) (added : List (Atom ℕ)) (t l : ℕ) → goal_at s t ≡ Numbered l → goal_at (replaced s gone added) t ≡ Numbered l
numbered_stays s gone added t l h = goal_stays s.goals (map Plain added) t (Numbered l) (active_open l) h

pub numbered-replaced : (s : State) (gone : List ℕ) (added : List (Atom ℕ)) (l : ℕ) → IsNumbered s l → IsNumbered (replaced s gone added) l
numbered-replaced s gone added l h = (h.0, numbered_stays s gone added h.0 l h.1)

-- and where another goal ends
pub numbered-ended : (s : State) (t l k : ℕ) → goal_at s t ≡ Numbered l → k ≢ l → IsNumbered s k → IsNumbered (ended s t) k
numbered-ended s t l k at ne h = (h.0, get_or-set_other s.goals t h.0 Ended Ended (λ z. ne (same_label k l (sym h.1 ∙ ap (goal_at s) z ∙ at))) ∙ h.1)

-- and where a plain goal is activated
pub numbered-activated : (s : State) (t : ℕ) (a : Atom ℕ) (l : ℕ) → goal_at s t ≡ Plain a → IsNumbered s l → IsNumbered (activated s t a) l
numbered-activated s t a l at h = (h.0, get_or-set_other s.goals t h.0 (Numbered s.next) Ended (λ z. (let c : Numbered l ≡ Plain a = sym h.1 ∙ ap (goal_at s) z ∙ at in cc)) ∙ h.1)

pub numbered-new : (s : State) (t : ℕ) (a : Atom ℕ) → goal_at s t ≡ Plain a → IsNumbered (activated s t a) s.next
numbered-new s t a at = (t, get_or-set_same s.goals t (Numbered s.next) Ended (open_within s.goals t (Plain a) (waiting_open a) at))

-- in each instance over the store is a label that is a numbered goal
abbrev pub Guarded : Rules → State → Type 0
Guarded I s = (r : ℕ) (kept removed : List ℕ) (body : List (Atom ℕ)) → Labelled I s.store r kept removed body → (l : ℕ) × (among (kept ++ removed) l ≡ true) × IsNumbered s l

guarded_activated : (I : Rules) (s : State) (t : ℕ) (a : Atom ℕ) → goal_at s t ≡ Plain a → Guarded I s → Guarded I (activated s t a)
guarded_activated I s t a at p r kept removed body i =
    elim (among (kept ++ removed) s.next) as (λ b. (among (kept ++ removed) s.next ≡ b) → (l : ℕ) × (among (kept ++ removed) l ≡ true) × IsNumbered (activated s t a) l) [
      | true ↦ λ e. (s.next, e, numbered-new s t a at)
      | false ↦ λ e.
          let q = p r kept removed body (Labelled-move I (s.store ++ (s.next, a) ∷ []) s.store r kept removed body (λ l x j h. atom_at-old s.store s.next a l x (λ z. true≢false (sym j ∙ ap (among (kept ++ removed)) (sym z) ∙ e)) h) i) in
          (q.0, q.1, numbered-activated s t a q.0 at q.2)
    ] refl

-- an instance over what is left was one before
pub Labelled-left : (I : Rules) (s : Store) (gone : List ℕ) {r : ℕ} {kept removed : List ℕ} {body : List (Atom ℕ)} → Labelled I (without gone s) r kept removed body → Labelled I s r kept removed body
Labelled-left I s gone {r} {kept} {removed} {body} i = Labelled-move I (without gone s) s r kept removed body (λ l a j h. (atom_at-kept gone s l a h).0) i

-- none of its labels was removed: where the goal of a removed label ends, theirs stay
pub numbered_left : (I : Rules) (s : State) (t l : ℕ) (gone : List ℕ) (added : List (Atom ℕ)) {r : ℕ} {kept removed : List ℕ} {body : List (Atom ℕ)} (k : ℕ) → goal_at s t ≡ Numbered l → among gone l ≡ true → Labelled I (without gone s.store) r kept removed body → among (kept ++ removed) k ≡ true → IsNumbered s k → IsNumbered (replaced (ended s t) gone added) k
numbered_left I s t l gone added {r} {kept} {removed} {body} k at dead i j h =
    let there = Labelled-there I (without gone s.store) r kept removed body k j i in
    let alive : among gone k ≡ false = (atom_at-kept gone s.store k there.0 there.1).1 in
    numbered-replaced (ended s t) gone added k (numbered-ended s t l k at (λ z. true≢false (sym dead ∙ ap (among gone) (sym z) ∙ alive)) h)

guarded_simplified : (I : Rules) (s : State) (t l : ℕ) (gone : List ℕ) (added : List (Atom ℕ)) → goal_at s t ≡ Numbered l → among gone l ≡ true → Guarded I s → Guarded I (replaced (ended s t) gone added)
guarded_simplified I s t l gone added at dead p r kept removed body i =
    let q = p r kept removed body (Labelled-left I s.store gone i) in
    (q.0, q.1, numbered_left I s t l gone added q.0 at dead i q.1 q.2)

guarded_replaced : (I : Rules) (s : State) (gone : List ℕ) (added : List (Atom ℕ)) → Guarded I s → Guarded I (replaced s gone added)
guarded_replaced I s gone added p r kept removed body i =
    let q = p r kept removed body (Labelled-left I s.store gone i) in
    (q.0, q.1, numbered-replaced s gone added q.0 q.2)

-- the first condition of a drop is stronger than the second
pub MayDrop-weaker : (v : Version) (I : Rules) (s : State) (l : ℕ) → MayDrop v I s l → MayDrop Two I s l
MayDrop-weaker One I s l m = λ r kept removed body i h. absurd (true≢false (sym h ∙ m r kept removed body i))
MayDrop-weaker Two I s l m = m

-- and where no rule applies, each goal may be dropped
pub MayDrop-final : (v : Version) (I : Rules) (s : State) (l : ℕ) → Final I s.store → MayDrop v I s l
MayDrop-final One I s l f = λ r kept removed body i. absurd (f r kept removed body i)
MayDrop-final Two I s l f = λ r kept removed body i _. absurd (f r kept removed body i)

guarded_dropped : (I : Rules) (s : State) (t l : ℕ) → goal_at s t ≡ Numbered l → MayDrop Two I s l → Guarded I s → Guarded I (ended s t)
guarded_dropped I s t l at m p r kept removed body i =
    let q = p r kept removed body i in
    elim (q.0 == l) as (λ b. (q.0 == l ≡ b) → (k : ℕ) × (among (kept ++ removed) k ≡ true) × IsNumbered (ended s t) k) [
      | true ↦ λ e. let o = m r kept removed body i (subst (λ k. among (kept ++ removed) k ≡ true) (true-eqb q.0 l (sym e)) q.1) in (o.0, o.1, numbered-ended s t l o.0 at o.2 o.3)
      | false ↦ λ e. (q.0, q.1, numbered-ended s t l q.0 at (grind (arith, nat_tests)) q.2)
    ] refl

guarded_fired : (I : Rules) (s : State) (t r : ℕ) (kept removed : List ℕ) (n : State) → (Simplify I s t r kept removed n ⊎ Propagate I s t r kept removed n) → Guarded I s → Guarded I n
guarded_fired I s t r kept removed n (inl h) p = subst (Guarded I) (sym h.after) (guarded_simplified I s t h.label removed h.body h.numbered h.stands p)
guarded_fired I s t r kept removed n (inr h) p = subst (Guarded I) (sym h.after) (guarded_replaced I s removed h.body p)

pub Step-guarded : (v : Version) (I : Rules) (s : State) (e : Event ℕ) (n : State) → Step v I s e n → Guarded I s → Guarded I n
Step-guarded v I s (Post t a) n h p = subst (Guarded I) (sym h.after) (guarded_replaced I s [] (a ∷ []) p)
Step-guarded v I s (Activate t l) n h p = subst (Guarded I) (sym h.after) (guarded_activated I s t h.atom h.plain p)
Step-guarded v I s (Fire t r kept removed) n h p = guarded_fired I s t r kept removed n h p
Step-guarded v I s (Drop t) n h p = subst (Guarded I) (sym h.after) (guarded_dropped I s t h.label h.numbered (MayDrop-weaker v I s h.label h.done) p)

-- what each instance has: a head that is removed
abbrev pub Removes : Rules → Type 0
Removes I = (r : ℕ) (kept removed body : List (Atom ℕ)) → I r kept removed body → removed ≢ []

none_carried : (ls : List ℕ) (as' : List (Atom ℕ)) → Carry [] ls as' → as' ≡ []
none_carried ls [] c = refl
none_carried [] (a ∷ as') c = absurd c
none_carried (l ∷ ls) (a ∷ as') c = cc

guarded_start : (I : Rules) → Removes I → Guarded I start
guarded_start I rem r kept removed body i = absurd (rem r i.kept_atoms i.removed_atoms body i.instance (none_carried removed i.removed_atoms i.removed_there))

pub Lawful-guarded : (v : Version) (I : Rules) → Removes I → (log : List (Event ℕ)) (last : State) → Lawful v I log last → Guarded I last
Lawful-guarded v I rem log last run = Run-keeps (Guarded I) v I (Step-guarded v I) log start last run (guarded_start I rem)

pub quiet_final : (v : Version) (I : Rules) → Removes I → (log : List (Event ℕ)) (last : State) → Lawful v I log last → Quiet last → Final I last.store
quiet_final v I rem log last run quiet r kept removed body i =
    let q = Lawful-guarded v I rem log last run r kept removed body i in
    active_open q.0 (sym q.2.1 ∙ quiet q.2.0)
