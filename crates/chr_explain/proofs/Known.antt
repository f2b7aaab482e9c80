-- Bodies, values and what is looked up, and what is known of a log as it is gone through.
use Rattle.std.proofs.Common.{◌≡◌, ℕ, List, [], ◌∷◌, ◌++◌, length, map, take, drop, Option, Some, None, Result, Ok, Err, OnOk, refl, sym, ◌∙◌, ap, subst, arith, ◌+◌, ◌<◌, get_or, append_assoc, suc, ◌-◌, ◌≤◌, slice_get, ◌≢◌, zero, ◌⊎◌, inl, inr, Bool, true, false, ◌==◌, if◌then◌else◌, set, true-eqb, length-append}
use Rattle.std.specs.List.{AllByRecursion, HoldsAt, sum_by}
use Rattle.chr_value.specs.Atoms.{Value, Atom}
use Rattle.chr_rule.specs.Rules.{BodyItem, Is, Add, Simpagation, rule_at}
use Rattle.chr_rule.specs.Scope.{IsRule}
use Rattle.chr_guard.specs.Values.{Valuation}
use Rattle.chr_guard.specs.Bindings.{bound_at}
use Rattle.chr_guard.specs.Instances.{made_under, AreMadeUnder, added, IsInstance, NoInstance, Instance}
use Rattle.chr_guard.specs.Matching.{IsInstanceUnder}
use Rattle.chr_log.specs.Events.{Event, Activate, Fire, event_of, events_of, Post, Drop}
use Rattle.chr_model.proofs.Programs.{program_fixes}
use Rattle.chr_explain.specs.Atoms.{listed, atoms_of, IsAtomOf, AreAtoms}
use Rattle.chr_explain.specs.Goals.{body_atoms, AddsBody, AddsGoal, Follows}
use Rattle.std.proofs.lemmas.List.{drop_more, append-nil, map_push}
use Rattle.std.specs.Borrow.{Bor}
use Rattle.chr_limits.specs.Views.{names}
use Rattle.chr_explain.specs.Lines.{variable_words, values_from, heading_at}
use Rattle.std.specs.Option.{option_map, MatchOption, IfSome}
use Rattle.std.proofs.lemmas.Option.{same_Some, slice_get-map, slice_get_read, slice_get_past}
use Rattle.chr_log.specs.declared.events.Event.{Event as CodeEvent}
use Rattle.chr_explain.specs.declared.headings.Heading.{Heading as CodeHeading}
use Rattle.chr_explain.specs.Headings.{Heading, heading_view}
use Rattle.std.proofs.Math.ListN.{length-set, length-map}
use Rattle.std.proofs.lemmas.Bool.Decides.{nat_tests}
use Rattle.chr_guard.proofs.Under.{under_length}
use Rattle.chr_log.specs.declared.events.Version.{Version}
use Rattle.chr_model.specs.Abstract.{Rules}
use Rattle.chr_model.specs.Stores.{Store, Carry, Labelled, atom_at}
use Rattle.chr_model.specs.Goals.{Goal, Plain, Numbered, Ended, State, start, goal_at}
use Rattle.chr_model.specs.Steps.{Simplify, Propagate, Step, Run}
use Rattle.chr_model.specs.Logs.{Lawful}
use Rattle.chr_model.specs.Programs.{Instances}
use Rattle.chr_model.proofs.Stores.{atom_at-kept}
use Rattle.chr_model.proofs.Strict.{Lawful-push}
use Rattle.chr_model.proofs.Quiet.{waiting_open}
use Rattle.chr_model.proofs.Once.{Lawful-once}
use Rattle.chr_model.proofs.Older.{store_below}
use Rattle.chr_causes.specs.Origins.{IsLawful}
use Rattle.chr_causes.proofs.Places.{labels_of, run_next}
use Rattle.chr_causes.proofs.Tracing.{all_given}
use Rattle.chr_explain.proofs.Lists.{get_before, get_last, get_after, get_push, drop_from, take_to}
use Rattle.chr_model.specs.Steps as steps

-- ---- the atoms of bodies

one_made : (o : Option (Atom ℕ)) (a : Atom ℕ) (xs ys : List (Atom ℕ)) → o ≡ Some a → xs ≡ ys → listed o ++ xs ≡ a ∷ ys
one_made (Some b) a xs ys is rest = (let same : b ≡ a = cc in ap (λ c. c ∷ xs) same ∙ ap (λ zs. a ∷ zs) rest)
one_made None a xs ys is rest = absurd (cc)

-- they are those of the body of an instance
made_is : (v : Valuation) (items : List (BodyItem ℕ)) (made : List (Atom ℕ)) → AreMadeUnder v (added items) made → body_atoms v items ≡ made
made_is v [] [] h = refl
made_is v (Is x e ∷ items) made h = made_is v items made h
made_is v (Add s ∷ items) (a ∷ as') h =
    let first : made_under v s ≡ Some a = cc in
    let rest : map (made_under v) (added items) ≡ map (λ b. Some b) as' = cc in
    one_made (made_under v s) a (body_atoms v items) as' first (made_is v items as' rest)
made_is v items made h = grind arith

same_rule : (rules : List (Simpagation ℕ)) (r : ℕ) (one two : Simpagation ℕ) → rule_at rules r ≡ Some one → rule_at rules r ≡ Some two → one ≡ two
same_rule rules r one two p q = (let e : Some one ≡ Some two = sym p ∙ q in cc)

pub adds_body : (rules : List (Simpagation ℕ)) (r : ℕ) (rule : Simpagation ℕ) (heads : List (Atom ℕ)) (binding : List (Option (Value ℕ))) (old new : List (Atom ℕ)) → AllByRecursion IsRule rules → rule_at rules r ≡ Some rule → IsInstanceUnder rule heads binding → new ≡ old ++ body_atoms (bound_at binding) rule.body → AddsBody rules r heads old new
adds_body rules r rule heads binding old new valid at under is = λ other body there instance.
    let same : other ≡ rule = same_rule rules r other rule there at in
    let here : IsInstance rule heads body = subst (λ x. IsInstance x heads body) same instance in
    let fixed : under.body ≡ body = program_fixes rules valid r (take (length rule.kept) heads) (drop (length rule.kept) heads) under.body body (rule, at, under.instance) (rule, at, here) in
    is ∙ ap (λ (xs : List (Atom ℕ)). old ++ xs) (made_is (bound_at binding) rule.body under.body under.body_is ∙ fixed)

pub adds_none : (rules : List (Simpagation ℕ)) (r : ℕ) (rule : Simpagation ℕ) (heads old new : List (Atom ℕ)) → rule_at rules r ≡ Some rule → NoInstance rule heads → AddsBody rules r heads old new
adds_none rules r rule heads old new at none = λ other body there instance.
    absurd (none body (subst (λ x. IsInstance x heads body) (same_rule rules r other rule there at) instance))

pub fire_follows : (rules : List (Simpagation ℕ)) (e : Event ℕ) (t r : ℕ) (kept removed : List ℕ) (heads goals atoms new : List (Atom ℕ)) → e ≡ Fire t r kept removed → heads ≡ atoms_of atoms kept ++ atoms_of atoms removed → AddsBody rules r heads goals new → Follows rules e goals atoms new atoms
fire_follows rules e t r kept removed heads goals atoms new is are adds =
    subst (λ x. Follows rules x goals atoms new atoms) (sym is) (subst (λ hs. AddsBody rules r hs goals new) are adds, refl)

pub activate_follows : (rules : List (Simpagation ℕ)) (e : Event ℕ) (t l : ℕ) (goals seen atoms more : List (Atom ℕ)) → e ≡ Activate t l → seen ≡ goals → AddsGoal t seen atoms more → Follows rules e goals atoms goals more
activate_follows rules e t l goals seen atoms more is same adds =
    subst (λ x. Follows rules x goals atoms goals more) (sym is) (refl, subst (λ gs. AddsGoal t gs atoms more) same adds)

-- what follows after an Ok
pub on_ok : {X E : Type 0} (result : Result X E) (P Q : Type 0) → (P → Q) → OnOk result P → OnOk result Q
on_ok (Ok x) P Q f h = f h
on_ok (Err e) P Q f h = tt

pub on_ok_from : {X E P Q : Type 0} (result : Result X E) → OnOk result P → (P → Q) → OnOk result Q
on_ok_from (Ok x) h f = f h
on_ok_from (Err e) h f = tt

-- ---- the values of variables, one after another

-- ---- what is looked up by its place

-- what `get` gives
pub looked : {X : Type 0} (xs : List X) (k : ℕ) (o : Option (Bor X)) → IfSome o (λ x. x.now ≡ get_or xs k x.now) → MatchOption o (length xs ≤ k) (λ x. (k < length xs) × HoldsAt (λ y. x.now ≡ y) xs k) → option_map (λ (x : Bor X). x.now) o ≡ slice_get xs k
looked xs k (Some x) is at = sym (slice_get_read xs (length xs) k x.now refl at.0 is)
looked xs k None is past = sym (slice_get_past xs k past)

-- the atom of a head is added if it is known
pub map_pushed : {X : Type 0} (x : Bor X) (old new : List (Bor X)) → new ≡ old ++ x ∷ [] → map (λ (x : Bor X). x.now) new ≡ map (λ (x : Bor X). x.now) old ++ x.now ∷ []
map_pushed {X = X} x old new e = ap (map (λ (x : Bor X). x.now)) e ∙ map_push (λ (x : Bor X). x.now) old x

pub head_listed : (atoms : List (Atom ℕ)) (k : ℕ) (a : Atom ℕ) (old new : List (Atom ℕ)) → slice_get atoms k ≡ Some a → new ≡ old ++ a ∷ [] → new ≡ old ++ listed (slice_get atoms k)
head_listed atoms k a old new at e = e ∙ ap (λ o. old ++ listed o) (sym at)

pub head_unknown : (atoms : List (Atom ℕ)) (k : ℕ) (old : List (Atom ℕ)) → slice_get atoms k ≡ None → old ≡ old ++ listed (slice_get atoms k)
head_unknown atoms k old at = sym (append-nil old) ∙ ap (λ o. old ++ listed o) (sym at)

twice : {A B C : Type 0} (g : B → C) (f : A → B) (o : Option A) → option_map (λ (x : A). g (f x)) o ≡ option_map g (option_map f o)
twice g f (Some x) = refl
twice g f None = refl

pub event_looked : {Z : Type 0} (events : List (CodeEvent Z)) (place : ℕ) (o : Option (Bor (CodeEvent Z))) → option_map (λ (e : Bor (CodeEvent Z)). e.now) o ≡ slice_get events place → option_map (λ (e : Bor (CodeEvent Z)). event_of e.now) o ≡ slice_get (events_of events) place
event_looked {Z = Z} events place o h = twice event_of (λ (e : Bor (CodeEvent Z)). e.now) o ∙ ap (option_map event_of) h ∙ sym (slice_get-map event_of events place)

at_suc : (hs : List Heading) (r k : ℕ) → r ≡ suc k → heading_at hs r ≡ slice_get hs k
at_suc hs r k is = ap (heading_at hs) is

pub heading_looked : (hs : List CodeHeading) (r : ℕ) (o : Option (Bor CodeHeading)) → 0 < r → option_map (λ (h : Bor CodeHeading). h.now) o ≡ slice_get hs (r - 1) → option_map (λ (h : Bor CodeHeading). heading_view h.now) o ≡ heading_at (map heading_view hs) r
heading_looked hs r o some h =
    twice heading_view (λ (h : Bor CodeHeading). h.now) o ∙ ap (option_map heading_view) h ∙ sym (slice_get-map heading_view hs (r - 1)) ∙ sym (at_suc (map heading_view hs) r (r - 1) (omega (arith, some)))

-- the atom of a ticket's goal, where it is known
pub goal_given : (goals : List (Atom ℕ)) (k : ℕ) (x atom : Atom ℕ) (old new : List (Atom ℕ)) → slice_get goals k ≡ Some x → slice_get goals k ≡ Some atom → new ≡ old ++ x ∷ [] → new ≡ old ++ atom ∷ []
goal_given goals k x atom old new at there pushed = let same : x ≡ atom = same_Some x atom (sym at ∙ there) in pushed ∙ ap (λ (a : Atom ℕ). old ++ a ∷ []) same

-- ---- the atoms of goals and of labels, event by event

-- what the lists say of a state: the atoms of its plain goals, and those of its store
pub record Says (s : State) (goals atoms : List (Atom ℕ)) : Type 0 where
  pub tickets : length s.goals ≡ length goals + 1
  pub next : s.next ≡ length atoms + 1
  pub waiting : (t : ℕ) (a : Atom ℕ) → goal_at s t ≡ Plain a → (0 < t) × (slice_get goals (t - 1) ≡ Some a)
  pub stored : (l : ℕ) (a : Atom ℕ) → atom_at s.store l ≡ Some a → slice_get atoms (l - 1) ≡ Some a

-- the atoms of all labels so far are those under which the store had them
abbrev pub AllHad : List (Simpagation ℕ) → List (Event ℕ) → List (Atom ℕ) → Type 0
AllHad rules log atoms = (k : ℕ) (a : Atom ℕ) → slice_get atoms k ≡ Some a → IsAtomOf rules log (k + 1) a

-- the same at a place of a lawful log
pub record Known (rules : List (Simpagation ℕ)) (log : List (Event ℕ)) (place : ℕ) (goals atoms : List (Atom ℕ)) : Type 0 where
  pub version : Version
  pub state : State
  pub last : State
  pub before : Lawful version (Instances rules) (take place log) state
  pub after : Run version (Instances rules) state (drop place log) last
  pub says : Says state goals atoms
  pub had : AllHad rules log atoms

-- ---- lists

-- a plain goal among more goals
more_plain : (gs : List Goal) (body : List (Atom ℕ)) (t : ℕ) (a : Atom ℕ) → get_or (gs ++ map Plain body) t Ended ≡ Plain a → (get_or gs t Ended ≡ Plain a) ⊎ ((k : ℕ) × (t ≡ length gs + k) × (slice_get body k ≡ Some a))
more_plain [] [] t a h = absurd (waiting_open a (sym h))
more_plain [] (b ∷ bs) zero a h = inr (0, refl, let same : b ≡ a = cc in ap Some same)
more_plain [] (b ∷ bs) (suc t) a h =
    elim (more_plain [] bs t a h) as (λ _. (get_or [] (suc t) Ended ≡ Plain a) ⊎ ((k : ℕ) × (suc t ≡ 0 + k) × (slice_get (b ∷ bs) k ≡ Some a))) [
      | inl e ↦ absurd (waiting_open a (sym e))
      | inr e ↦ inr (suc e.0, omega (arith, e.1), e.2)
    ]
more_plain (g ∷ gs) body zero a h = inl h
more_plain (g ∷ gs) body (suc t) a h =
    elim (more_plain gs body t a h) as (λ _. (get_or gs t Ended ≡ Plain a) ⊎ ((k : ℕ) × (suc t ≡ suc (length gs) + k) × (slice_get body k ≡ Some a))) [
      | inl e ↦ inl e
      | inr e ↦ inr (e.0, omega (arith, e.1), e.2)
    ]

-- a goal that another replaces
other_goal : (gs : List Goal) (t u : ℕ) (g : Goal) (a : Atom ℕ) → Plain a ≢ g → get_or (set gs t g) u Ended ≡ Plain a → get_or gs u Ended ≡ Plain a
other_goal [] t u g a differs h = h
other_goal (x ∷ xs) zero zero g a differs h = absurd (differs (sym h))
other_goal (x ∷ xs) zero (suc u) g a differs h = h
other_goal (x ∷ xs) (suc t) zero g a differs h = h
other_goal (x ∷ xs) (suc t) (suc u) g a differs h = other_goal xs t u g a differs h

-- ---- stores

pushed_there : (st : Store) (n : ℕ) (a : Atom ℕ) → atom_at st n ≡ None → atom_at (st ++ (n, a) ∷ []) n ≡ Some a
pushed_there [] n a none = grind (arith, nat_tests)
pushed_there (e ∷ es) n a none = grind (arith, nat_tests, pushed_there es n a)

first_pushed : (n l : ℕ) (a x : Atom ℕ) → (b : Bool) → (n == l) ≡ b → (if b then Some a else None) ≡ Some x → (n ≡ l) × (a ≡ x)
first_pushed n l a x true is h = (true-eqb n l (sym is), cc)
first_pushed n l a x false is h = absurd (cc)

pushed_test : (b : Bool) (c x a : Atom ℕ) (old new : Option (Atom ℕ)) (n l : ℕ) → (new ≡ Some x → (old ≡ Some x) ⊎ ((n ≡ l) × (a ≡ x))) → (if b then Some c else new) ≡ Some x → ((if b then Some c else old) ≡ Some x) ⊎ ((n ≡ l) × (a ≡ x))
pushed_test true c x a old new n l f h = inl h
pushed_test false c x a old new n l f h = f h

pushed : (st : Store) (n : ℕ) (a : Atom ℕ) (l : ℕ) (x : Atom ℕ) → atom_at (st ++ (n, a) ∷ []) l ≡ Some x → (atom_at st l ≡ Some x) ⊎ ((n ≡ l) × (a ≡ x))
pushed [] n a l x h = inr (first_pushed n l a x (n == l) refl h)
pushed (e ∷ es) n a l x h = pushed_test (e.0 == l) e.1 x a (atom_at es l) (atom_at (es ++ (n, a) ∷ []) l) n l (pushed es n a l x) h

none_or_some : (o : Option (Atom ℕ)) → (o ≡ None) ⊎ ((a : Atom ℕ) × (o ≡ Some a))
none_or_some None = inl refl
none_or_some (Some a) = inr (a, refl)

no_next : (v : Version) (I : Rules) (log : List (Event ℕ)) (s : State) → Lawful v I log s → atom_at s.store s.next ≡ None
no_next v I log s lawful =
    elim (none_or_some (atom_at s.store s.next)) as (λ _. atom_at s.store s.next ≡ None) [
      | inl e ↦ e
      | inr e ↦ absurd (let below : s.next < s.next = store_below s (Lawful-once v I log s lawful) s.next e.0 e.1 in omega arith)
    ]

-- ---- the atoms of heads

heads_first : (o : Option (Atom ℕ)) (a : Atom ℕ) (as' bs : List (Atom ℕ)) → o ≡ Some a → as' ≡ bs → listed o ++ as' ≡ a ∷ bs
heads_first (Some b) a as' bs is rest = (let same : b ≡ a = cc in ap (λ c. c ∷ as') same ∙ ap (λ cs. a ∷ cs) rest)
heads_first None a as' bs is rest = absurd (cc)

pub carried : (s : State) (goals atoms : List (Atom ℕ)) (ls : List ℕ) (as' : List (Atom ℕ)) → Says s goals atoms → Carry s.store ls as' → atoms_of atoms ls ≡ as'
carried s goals atoms [] [] says c = refl
carried s goals atoms (l ∷ ls) (a ∷ as') says c = heads_first (slice_get atoms (l - 1)) a (atoms_of atoms ls) as' (says.stored l a c.0) (carried s goals atoms ls as' says c.1)
carried s goals atoms ls as' says c = grind arith

take_front : (xs ys : List (Atom ℕ)) (n : ℕ) → length xs ≡ n → take n (xs ++ ys) ≡ xs
take_front [] ys zero len = refl
take_front (x ∷ xs) ys (suc n) len = ap (λ zs. x ∷ zs) (take_front xs ys n (omega arith))
take_front xs ys n len = grind arith

drop_front : (xs ys : List (Atom ℕ)) (n : ℕ) → length xs ≡ n → drop n (xs ++ ys) ≡ ys
drop_front [] ys zero len = refl
drop_front (x ∷ xs) ys (suc n) len = drop_front xs ys n (omega arith)
drop_front xs ys n len = grind arith

-- the heads' atoms are those of an instance over the store
pub heads_instance : (rules : List (Simpagation ℕ)) (s : State) (goals atoms : List (Atom ℕ)) (r : ℕ) (kept removed : List ℕ) (body : List (Atom ℕ)) → Says s goals atoms → (i : Labelled (Instances rules) s.store r kept removed body)
    → IsInstance i.instance.0 (atoms_of atoms kept ++ atoms_of atoms removed) body
heads_instance rules s goals atoms r kept removed body says i =
    let rule = i.instance.0 in
    let inst = i.instance.2 in
    let len : length i.kept_atoms ≡ length rule.kept = under_length inst.valuation rule.kept i.kept_atoms inst.kept_are in
    let first : i.kept_atoms ≡ take (length rule.kept) (i.kept_atoms ++ i.removed_atoms) = sym (take_front i.kept_atoms i.removed_atoms (length rule.kept) len) in
    let second : i.removed_atoms ≡ drop (length rule.kept) (i.kept_atoms ++ i.removed_atoms) = sym (drop_front i.kept_atoms i.removed_atoms (length rule.kept) len) in
    let whole : IsInstance rule (i.kept_atoms ++ i.removed_atoms) body =
    subst (λ xs. Instance rule xs (drop (length rule.kept) (i.kept_atoms ++ i.removed_atoms)) body) first (subst (λ xs. Instance rule i.kept_atoms xs body) second inst) in
    let k : i.kept_atoms ≡ atoms_of atoms kept = sym (carried s goals atoms kept i.kept_atoms says i.kept_there) in
    let m : i.removed_atoms ≡ atoms_of atoms removed = sym (carried s goals atoms removed i.removed_atoms says i.removed_there) in
    subst (λ xs. IsInstance rule (xs ++ atoms_of atoms removed) body) k (subst (λ xs. IsInstance rule (i.kept_atoms ++ xs) body) m whole)

-- ---- steps

says_posted : (s : State) (t : ℕ) (a : Atom ℕ) (n : State) (goals atoms new : List (Atom ℕ)) → Says s goals atoms → steps.Post s t a n → new ≡ goals ++ a ∷ [] → Says n new atoms
says_posted s t a n goals atoms new says step is =
    let w : length goals + 1 ≡ length s.goals = sym says.tickets in
    subst (λ m. Says m new atoms) (sym step.after) (subst (λ gs. Says (steps.posted s a) gs atoms) (sym is) (record {
      tickets = omega (arith, length-append s.goals (Plain a ∷ []), length-append goals (a ∷ []), w);
      next = says.next;
      waiting = λ u b h. by_side u b (more_plain s.goals (a ∷ []) u b h);
      stored = says.stored;
    }))
  where
    by_side : (u : ℕ) (b : Atom ℕ) → (get_or s.goals u Ended ≡ Plain b) ⊎ ((k : ℕ) × (u ≡ length s.goals + k) × (slice_get (a ∷ []) k ≡ Some b)) → (0 < u) × (slice_get (goals ++ a ∷ []) (u - 1) ≡ Some b)
    by_side u b (inl e) = (let w = says.waiting u b e in (w.0, get_before goals (a ∷ []) (u - 1) b w.1))
    by_side u b (inr e) = (
      omega (arith, e.1, says.tickets),
      let place : length goals + e.0 ≡ u - 1 = omega (arith, e.1, says.tickets) in subst (λ k. slice_get (goals ++ a ∷ []) k ≡ Some b) place (get_after goals (a ∷ []) e.0 b e.2),
    )

plain_or_number : (a : Atom ℕ) (n : ℕ) → Plain a ≢ Numbered n
plain_or_number a n e = absurd (cc)

says_activated : (s : State) (t l : ℕ) (n : State) (goals atoms more : List (Atom ℕ)) → Says s goals atoms → (step : steps.Activate s t l n) → more ≡ atoms ++ step.atom ∷ [] → Says n goals more
says_activated s t l n goals atoms more says step is =
    subst (λ m. Says m goals more) (sym step.after) (subst (λ as'. Says (steps.activated s t step.atom) goals as') (sym is) (record {
      tickets = length-set s.goals t (Numbered s.next) ∙ says.tickets;
      next = omega (arith, says.next, length-append atoms (step.atom ∷ []));
      waiting = λ u b h. says.waiting u b (other_goal s.goals t u (Numbered s.next) b (plain_or_number b s.next) h);
      stored = λ k b h. by_side k b (pushed s.store s.next step.atom k b h);
    }))
  where
    by_side : (k : ℕ) (b : Atom ℕ) → (atom_at s.store k ≡ Some b) ⊎ ((s.next ≡ k) × (step.atom ≡ b)) → slice_get (atoms ++ step.atom ∷ []) (k - 1) ≡ Some b
    by_side k b (inl e) = get_before atoms (step.atom ∷ []) (k - 1) b (says.stored k b e)
    by_side k b (inr e) =
        let place : length atoms ≡ k - 1 = omega (arith, e.0, says.next) in
        subst (λ j. slice_get (atoms ++ step.atom ∷ []) j ≡ Some b) place (subst (λ x. slice_get (atoms ++ step.atom ∷ []) (length atoms) ≡ Some x) e.1 (get_last atoms step.atom))

says_ended : (s : State) (t : ℕ) (goals atoms : List (Atom ℕ)) → Says s goals atoms → Says (steps.ended s t) goals atoms
says_ended s t goals atoms says = record {
  tickets = length-set s.goals t Ended ∙ says.tickets;
  next = says.next;
  waiting = λ u b h. says.waiting u b (other_goal s.goals t u Ended b (waiting_open b) h);
  stored = says.stored;
}

says_replaced : (s : State) (removed : List ℕ) (body goals atoms : List (Atom ℕ)) → Says s goals atoms → Says (steps.replaced s removed body) (goals ++ body) atoms
says_replaced s removed body goals atoms says = record {
  tickets = omega (arith, length-append s.goals (map Plain body), length-append goals body, length-map body Plain, says.tickets);
  next = says.next;
  waiting = λ u b h. by_side u b (more_plain s.goals body u b h);
  stored = λ k b h. says.stored k b (atom_at-kept removed s.store k b h).0;
}
  where
    by_side : (u : ℕ) (b : Atom ℕ) → (get_or s.goals u Ended ≡ Plain b) ⊎ ((k : ℕ) × (u ≡ length s.goals + k) × (slice_get body k ≡ Some b)) → (0 < u) × (slice_get (goals ++ body) (u - 1) ≡ Some b)
    by_side u b (inl e) = (let w = says.waiting u b e in (w.0, get_before goals body (u - 1) b w.1))
    by_side u b (inr e) = (
      omega (arith, e.1, says.tickets),
      let place : length goals + e.0 ≡ u - 1 = omega (arith, e.1, says.tickets) in subst (λ k. slice_get (goals ++ body) k ≡ Some b) place (get_after goals body e.0 b e.2),
    )

says_fired : (rules : List (Simpagation ℕ)) (s : State) (t r : ℕ) (kept removed : List ℕ) (n : State) (goals atoms new : List (Atom ℕ)) → Says s goals atoms → (Simplify (Instances rules) s t r kept removed n ⊎ Propagate (Instances rules) s t r kept removed n) → AddsBody rules r (atoms_of atoms kept ++ atoms_of atoms removed) goals new → Says n new atoms
says_fired rules s t r kept removed n goals atoms new says (inl h) adds =
    let is : new ≡ goals ++ h.body = adds h.instance.instance.0 h.body h.instance.instance.1 (heads_instance rules s goals atoms r kept removed h.body says h.instance) in
    subst (λ m. Says m new atoms) (sym h.after) (subst (λ gs. Says (steps.replaced (steps.ended s t) removed h.body) gs atoms) (sym is) (says_replaced (steps.ended s t) removed h.body goals atoms (says_ended s t goals atoms says)))
says_fired rules s t r kept removed n goals atoms new says (inr h) adds =
    let is : new ≡ goals ++ h.body = adds h.instance.instance.0 h.body h.instance.instance.1 (heads_instance rules s goals atoms r kept removed h.body says h.instance) in
    subst (λ m. Says m new atoms) (sym h.after) (subst (λ gs. Says (steps.replaced s removed h.body) gs atoms) (sym is) (says_replaced s removed h.body goals atoms says))

-- what is known after one event more
module _ (rules : List (Simpagation ℕ)) (log : List (Event ℕ)) (place : ℕ) (goals atoms : List (Atom ℕ)) (known : Known rules log place goals atoms) where
  more : (e : Event ℕ) (new others : List (Atom ℕ)) → slice_get log place ≡ Some e → ((n : State) → Step known.version (Instances rules) known.state e n → Lawful known.version (Instances rules) (take (suc place) log) n → Says n new others × AllHad rules log others) → Known rules log (suc place) new others
  more e new others there says =
      let run : Run known.version (Instances rules) known.state (e ∷ drop (suc place) log) known.last = subst (λ es. Run known.version (Instances rules) known.state es known.last) (drop_from log place e there) known.after in
      let lawful : Lawful known.version (Instances rules) (take (suc place) log) run.0 = subst (λ es. Lawful known.version (Instances rules) es run.0) (sym (take_to log place e there)) (Lawful-push known.version (Instances rules) (take place log) e known.state run.0 known.before run.1) in
      let said = says run.0 run.1 lawful in
      record { version = known.version; state = run.0; last = known.last; before = lawful; after = run.2; says = said.0; had = said.1 }

  -- the label that is given had this atom
  had_more : (t l : ℕ) (n : State) (step : steps.Activate known.state t l n) → Lawful known.version (Instances rules) (take (suc place) log) n → AllHad rules log (atoms ++ step.atom ∷ [])
  had_more t l n step lawful k a h = by_side (get_push atoms step.atom k a h)
    where
      new : (k ≡ length atoms) × (step.atom ≡ a) → IsAtomOf rules log (k + 1) a
      new e =
          let next : known.state.next ≡ k + 1 = omega (arith, known.says.next, e.0) in
          let pushed_at : atom_at (steps.activated known.state t step.atom).store known.state.next ≡ Some step.atom = pushed_there known.state.store known.state.next step.atom (no_next known.version (Instances rules) (take place log) known.state known.before) in
          let here : atom_at n.store known.state.next ≡ Some step.atom = subst (λ m. atom_at m.store known.state.next ≡ Some step.atom) (sym step.after) pushed_at in
          record { version = known.version; place = suc place; state = n; lawful = lawful; there = subst (λ x. atom_at n.store (k + 1) ≡ Some x) e.1 (subst (λ j. atom_at n.store j ≡ Some step.atom) next here) }

      by_side : (slice_get atoms k ≡ Some a) ⊎ ((k ≡ length atoms) × (step.atom ≡ a)) → IsAtomOf rules log (k + 1) a
      by_side (inl e) = known.had k a e
      by_side (inr e) = new e

  pub known_more : (e : Event ℕ) (new others : List (Atom ℕ)) → slice_get log place ≡ Some e → Follows rules e goals atoms new others → Known rules log (suc place) new others
  known_more (Post t a) new others there f = more (Post t a) new others there (λ n step lawful. (
    subst (λ as'. Says n new as') (sym f.1) (says_posted known.state t a n goals atoms new known.says step f.0),
    subst (AllHad rules log) (sym f.1) known.had,
  ))
  known_more (Activate t l) new others there f = more (Activate t l) new others there (λ n step lawful. (
      let is : others ≡ atoms ++ step.atom ∷ [] = f.1 step.atom (known.says.waiting t step.atom step.plain).1 in
      (subst (λ gs. Says n gs others) (sym f.0) (says_activated known.state t l n goals atoms others known.says step is), subst (AllHad rules log) (sym is) (had_more t l n step lawful))
      ))
  known_more (Fire t r kept removed) new others there f = more (Fire t r kept removed) new others there (λ n step lawful. (
    subst (λ as'. Says n new as') (sym f.1) (says_fired rules known.state t r kept removed n goals atoms new known.says step f.0),
    subst (AllHad rules log) (sym f.1) known.had,
  ))
  known_more (Drop t) new others there f = more (Drop t) new others there (λ n step lawful. (
    subst (λ gs. Says n gs others) (sym f.0) (subst (λ as'. Says n goals as') (sym f.1) (subst (λ m. Says m goals atoms) (sym step.after) (says_ended known.state t goals atoms known.says))),
    subst (AllHad rules log) (sym f.1) known.had,
  ))

-- nothing is known of no events
pub known_first : (rules : List (Simpagation ℕ)) (log : List (Event ℕ)) → IsLawful rules log → Known rules log 0 [] []
known_first rules log lawful = record {
  version = lawful.version;
  state = start;
  last = lawful.last;
  before = refl;
  after = lawful.lawful;
  says = record { tickets = refl; next = refl; waiting = λ t a h. absurd (no_goal t a h); stored = λ l a h. absurd (cc) };
  had = λ k a h. absurd (cc);
}
  where
    no_goal : (t : ℕ) (a : Atom ℕ) → get_or (Ended ∷ []) t Ended ≡ Plain a → ⊥
    no_goal zero a h = waiting_open a (sym h)
    no_goal (suc t) a h = waiting_open a (sym h)

-- and after all events the atoms of all labels are
pub all_known : (rules : List (Simpagation ℕ)) (log : List (Event ℕ)) (place : ℕ) (goals atoms : List (Atom ℕ)) → IsLawful rules log → length log ≤ place → Known rules log place goals atoms → AreAtoms rules log atoms
all_known rules log place goals atoms lawful long known = record {
  each = known.had;
  all = all_given rules log lawful place (length atoms) long
      (let count : known.state.next ≡ 1 + sum_by labels_of (take place log) = run_next known.version (Instances rules) (take place log) start known.state known.before in omega (arith, count, known.says.next));
}
