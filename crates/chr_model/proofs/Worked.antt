-- Over small stores few instances can stand.
use Rattle.std.proofs.Common.{◌≡◌, ◌≢◌, ℕ, zero, suc, ◌+◌, ◌≤◌, List, [], ◌∷◌, ◌++◌, length, get_or, Some, refl, ◌∙◌, ap, arith, sym, subst, None, pos, drop, ◌⊎◌, inl, inr, slice_index_or, true, false, true≢false}
use Rattle.std.proofs.lemmas.Bool.Decides.{nat_tests}
use Rattle.chr_value.specs.Atoms.{Atom, Int}
use Rattle.chr_model.specs.Abstract.{Rules}
use Rattle.chr_model.specs.Stores.{Store, atom_at, Carry, Labelled, among, Distinct, Final}
use Rattle.chr_model.specs.Goals.{Goal, Ended, Plain, Numbered, State, goal_at, start}
use Rattle.chr_model.specs.Logs.{times}
use Rattle.chr_model.proofs.Stores.{times-append, times-distinct}
use Rattle.chr_log.specs.Events.{Event, Post, Activate, Drop}
use Rattle.chr_log.specs.declared.events.Version.{Version}
use Rattle.chr_model.specs.Steps as steps
use Rattle.chr_model.specs.Steps.{posted, activated, ended, MayDrop, Run, Simplify, Propagate}
use Rattle.chr_model.proofs.Quiet.{same_label, MayDrop-final}
use Rattle.chr_rule.specs.declared.expression.Relation.TheVariants.{LessEqual}
use Rattle.chr_rule.specs.Rules.{Variable, Compared, Simpagation}
use Rattle.chr_guard.specs.Values.{Valuation, Holds}
use Rattle.chr_guard.specs.Instances.{Instance}
use Rattle.chr_guard.proofs.Under.{somes, under_length, one_under, atom_is}
use Rattle.chr_model.specs.Programs.{Instances}
use Rattle.chr_model.specs.Examples.{shape_of, EndsQuietIn, of, gcd, gcd_zero, gcd_mod, gcd_rules, pair_rule, pair_rules, pair_log_one_label, min_rule, min_rules, token, token_rule, token_rules}
use Rattle.chr_model.proofs.Strict.{drop_goal}
use Rattle.chr_model.proofs.Programs.{of_only, of_two}

-- in a store of one label every head would have it
carry_alone : (k : ℕ) (b : Atom ℕ) (ls : List ℕ) (as' : List (Atom ℕ)) → Carry ((k, b) ∷ []) ls as' → times k ls ≡ length as'
carry_alone k b [] [] c = refl
carry_alone k b (l ∷ ls) (a ∷ as') c = grind (arith, nat_tests, carry_alone k b ls as' c.1, c.0)
carry_alone k b ls as' c = grind arith

-- so there is one head at most
pub one_head : (I : Rules) (k : ℕ) (b : Atom ℕ) (r : ℕ) (kept removed : List ℕ) (body : List (Atom ℕ)) → (i : Labelled I ((k, b) ∷ []) r kept removed body) → length i.kept_atoms + length i.removed_atoms ≤ 1
one_head I k b r kept removed body i =
    omega (arith, times-distinct k (kept ++ removed) i.distinct, times-append k kept removed, carry_alone k b kept i.kept_atoms i.kept_there, carry_alone k b removed i.removed_atoms i.removed_there)

-- the label of a lone head
pub carry_one : (st : Store) (ls : List ℕ) (as' : List (Atom ℕ)) (a : Atom ℕ) → as' ≡ a ∷ [] → Carry st ls as' → (l : ℕ) × (ls ≡ l ∷ []) × (atom_at st l ≡ Some a)
carry_one st (l ∷ []) (x ∷ []) a e c = let same : x ≡ a = cc in (l, refl, c.0 ∙ ap Some same)
carry_one st ls as' a e c = grind arith

-- the label and the atom of a store of one, and the second of a store of two
pub only_atom : (k : ℕ) (b : Atom ℕ) (l : ℕ) (a : Atom ℕ) → atom_at ((k, b) ∷ []) l ≡ Some a → (k ≡ l) × (b ≡ a)
only_atom k b l a h = (grind (arith, nat_tests), grind (arith, nat_tests))

pub second_atom : (j : ℕ) (a : Atom ℕ) (k : ℕ) (b : Atom ℕ) (l : ℕ) (x : Atom ℕ) → a ≢ x → atom_at ((j, a) ∷ (k, b) ∷ []) l ≡ Some x → (k ≡ l) × (b ≡ x)
second_atom j a k b l x ne h = (grind (arith, nat_tests), grind (arith, nat_tests))

-- so many goals that have all ended
abbrev pub endings : ℕ → List Goal
endings zero = []
endings (suc k) = Ended ∷ endings k

pub all_ended : (k t : ℕ) → get_or (endings k) t Ended ≡ Ended
all_ended zero t = refl
all_ended (suc k) zero = refl
all_ended (suc k) (suc t) = all_ended k t

-- ---- what follows a run's first event

pub after_post : (v : Version) (I : Rules) (s : State) (t : ℕ) (a : Atom ℕ) (es : List (Event ℕ)) (n : State) → Run v I s (Post t a ∷ es) n → Run v I (posted s a) es n
after_post v I s t a es n run = subst (λ m. Run v I m es n) run.1.after run.2

pub after_activate : (v : Version) (I : Rules) (s : State) (t l : ℕ) (a : Atom ℕ) (es : List (Event ℕ)) (n : State) → goal_at s t ≡ Plain a → Run v I s (Activate t l ∷ es) n → Run v I (activated s t a) es n
after_activate v I s t l a es n at run = grind (arith, nat_tests)

pub after_drop : (v : Version) (I : Rules) (s : State) (t : ℕ) (es : List (Event ℕ)) (n : State) → Run v I s (Drop t ∷ es) n → Run v I (ended s t) es n
after_drop v I s t es n run = subst (λ m. Run v I m es n) run.1.after run.2

pub drop_allowed : (v : Version) (I : Rules) (s : State) (t l : ℕ) (es : List (Event ℕ)) (n : State) → goal_at s t ≡ Numbered l → Run v I s (Drop t ∷ es) n → MayDrop v I s l
drop_allowed v I s t l es n at run = subst (MayDrop v I s) (same_label run.1.label l (sym run.1.numbered ∙ at)) run.1.done

-- ---- instances and states of worked runs

-- a drop where no rule applies
abbrev pub drop_final : {v : Version} {I : Rules} {s : State} {t l : ℕ} → goal_at s t ≡ Numbered l → Final I s.store → (n : State) × steps.Drop v I s t n
drop_final {v} {I} {s} {t} {l} at f = drop_goal at (MayDrop-final v I s l f)

-- the run of a log whose goals have all ended
pub quiet : (v : Version) (rules : List (Simpagation ℕ)) (log : List (Event ℕ)) (n : ℕ) (store : Store) → Run v (Instances rules) start log (record { goals = endings n; store = store; next = n }) → EndsQuietIn v rules log store
quiet v rules log n store run = (record { goals = endings n; store = store; next = n }, run, refl, all_ended n)

-- a labelled instance, by the atoms of its heads
labelled : {I : Rules} {st : Store} {r : ℕ} {kept removed : List ℕ} {body : List (Atom ℕ)} (kept_atoms removed_atoms : List (Atom ℕ)) → I r kept_atoms removed_atoms body → Distinct (kept ++ removed) → Carry st kept kept_atoms → Carry st removed removed_atoms → Labelled I st r kept removed body
labelled kept_atoms removed_atoms i d k m = record { kept_atoms = kept_atoms; removed_atoms = removed_atoms; instance = i; distinct = d; kept_there = k; removed_there = m }

-- a valuation of three variables
abbrev numbers : ℕ → ℕ → ℕ → Valuation
numbers x y z v = slice_index_or (Some (Int (pos x)) ∷ Some (Int (pos y)) ∷ Some (Int (pos z)) ∷ []) v None

other_name : (a b : Atom ℕ) → a.name ≢ b.name → a ≢ b
other_name a b ne e = ne (ap (λ x. x.name) e)

-- a rule of two heads or more has no instance over one constraint
two_heads : (I : Rules) (rule : Simpagation ℕ) → 2 ≤ length rule.kept + length rule.removed → (k : ℕ) (a : Atom ℕ) (r : ℕ) (kept removed : List ℕ) (body : List (Atom ℕ)) (i : Labelled I ((k, a) ∷ []) r kept removed body) → Instance rule i.kept_atoms i.removed_atoms body → ⊥
two_heads I rule two k a r kept removed body i one =
    let first : length i.kept_atoms ≡ length rule.kept = under_length one.valuation rule.kept i.kept_atoms one.kept_are in
    let second : length i.removed_atoms ≡ length rule.removed = under_length one.valuation rule.removed i.removed_atoms one.removed_are in
    let few = one_head I k a r kept removed body i in
    absurd (omega arith)

alone : (rule : Simpagation ℕ) → 2 ≤ length rule.kept + length rule.removed → (k : ℕ) (a : Atom ℕ) → Final (Instances (rule ∷ [])) ((k, a) ∷ [])
alone rule two k a r kept removed body i =
    two_heads (Instances (rule ∷ [])) rule two k a r kept removed body i (of_only rule r i.kept_atoms i.removed_atoms body i.instance)

-- The greatest common divisor.
pub gcd_alone : (k n : ℕ) → n ≢ 0 → Final (Instances gcd_rules) ((k, gcd n) ∷ [])
gcd_alone k n ne r kept removed body i = zero_or_mod (of_two gcd_zero gcd_mod r i.kept_atoms i.removed_atoms body i.instance)
  where
    zero_or_mod : (Instance gcd_zero i.kept_atoms i.removed_atoms body ⊎ Instance gcd_mod i.kept_atoms i.removed_atoms body) → ⊥
    zero_or_mod (inl one) =
        let at = carry_one ((k, gcd n) ∷ []) removed i.removed_atoms (gcd 0) (somes i.removed_atoms (gcd 0 ∷ []) (sym one.removed_are)) i.removed_there in
        let same : (gcd n).args ≡ (gcd 0).args = ap (λ a. a.args) (only_atom k (gcd n) at.0 (gcd 0) at.2).1 in
        ne (cc)
    zero_or_mod (inr one) = two_heads (Instances gcd_rules) gcd_mod (omega arith) k (gcd n) r kept removed body i one

pub gcd_nine_six : Labelled (Instances gcd_rules) ((1, gcd 9) ∷ (2, gcd 6) ∷ []) 2 (2 ∷ []) (1 ∷ []) (gcd 3 ∷ [])
gcd_nine_six =
    labelled (gcd 6 ∷ []) (gcd 9 ∷ []) (gcd_mod, refl, record { valuation = numbers 6 9 3; guard = (refl, (refl, tt)); right = ((pos 3, refl, refl), (tt, tt)); kept_are = refl; removed_are = refl; some_removed = λ e. (cc); body_is = refl }) (refl, (refl, tt)) (refl, tt) (refl, tt)

pub gcd_six_three : Labelled (Instances gcd_rules) ((2, gcd 6) ∷ (3, gcd 3) ∷ []) 2 (3 ∷ []) (2 ∷ []) (gcd 0 ∷ [])
gcd_six_three =
    labelled (gcd 3 ∷ []) (gcd 6 ∷ []) (gcd_mod, refl, record { valuation = numbers 3 6 0; guard = (refl, (refl, tt)); right = ((pos 0, refl, refl), (tt, tt)); kept_are = refl; removed_are = refl; some_removed = λ e. (cc); body_is = refl }) (refl, (refl, tt)) (refl, tt) (refl, tt)

pub gcd_three_zero : Labelled (Instances gcd_rules) ((3, gcd 3) ∷ (4, gcd 0) ∷ []) 1 [] (4 ∷ []) []
gcd_three_zero =
    labelled [] (gcd 0 ∷ []) (gcd_zero, refl, record { valuation = numbers 0 0 0; guard = tt; right = tt; kept_are = refl; removed_are = refl; some_removed = λ e. (cc); body_is = refl }) (refl, tt) tt (refl, tt)

-- Two equal constraints.
pub pair_alone : (k : ℕ) (a : Atom ℕ) → Final (Instances pair_rules) ((k, a) ∷ [])
pair_alone = alone pair_rule (omega arith)

pub pair_fires : Labelled (Instances pair_rules) ((1, of 0 1) ∷ (2, of 0 1) ∷ []) 1 [] (2 ∷ 1 ∷ []) (of 1 1 ∷ [])
pair_fires =
    labelled [] (of 0 1 ∷ of 0 1 ∷ []) (pair_rule, refl, record { valuation = numbers 1 0 0; guard = tt; right = (tt, tt); kept_are = refl; removed_are = refl; some_removed = λ e. (cc); body_is = refl }) (refl, (refl, tt)) tt (refl, (refl, tt))

pub one_label : (v : Version) (s last : State) → Run v (Instances pair_rules) s (drop 1 pair_log_one_label) last → ⊥
one_label v s last run = not_distinct run.2.1
  where
    not_distinct : (Simplify (Instances pair_rules) run.0 1 1 [] (1 ∷ 1 ∷ []) run.2.0 ⊎ Propagate (Instances pair_rules) run.0 1 1 [] (1 ∷ 1 ∷ []) run.2.0) → ⊥
    not_distinct (inl h) = true≢false h.instance.distinct.0
    not_distinct (inr h) = true≢false h.instance.distinct.0

-- The least number.
pub min_alone : (k : ℕ) (a : Atom ℕ) → Final (Instances min_rules) ((k, a) ∷ [])
min_alone = alone min_rule (omega arith)

pub min_fires : (st : Store) (j k n : ℕ) → Holds (numbers 1 n 0) (Compared LessEqual (Variable 0) (Variable 1)) → among (k ∷ []) j ≡ false → atom_at st j ≡ Some (of 0 1) → atom_at st k ≡ Some (of 0 n) → Labelled (Instances min_rules) st 1 (j ∷ []) (k ∷ []) []
min_fires st j k n le differ at_j at_k =
    labelled (of 0 1 ∷ []) (of 0 n ∷ []) (min_rule, refl, record { valuation = numbers 1 n 0; guard = (le, tt); right = tt; kept_are = refl; removed_are = refl; some_removed = λ e. (cc); body_is = refl }) (differ, (refl, tt)) (at_j, tt) (at_k, tt)

-- A token that a constraint waits for.
pub token_fires : Labelled (Instances token_rules) ((1, of 1 1) ∷ (2, token) ∷ []) 1 (2 ∷ []) (1 ∷ []) (of 2 1 ∷ [])
token_fires =
    labelled (token ∷ []) (of 1 1 ∷ []) (token_rule, refl, record { valuation = numbers 1 0 0; guard = tt; right = (tt, tt); kept_are = refl; removed_are = refl; some_removed = λ e. (cc); body_is = refl }) (refl, (refl, tt)) (refl, tt) (refl, tt)

pub token_alone : (k : ℕ) (a : Atom ℕ) → Final (Instances token_rules) ((k, a) ∷ [])
token_alone = alone token_rule (omega arith)

-- each instance over both has the token's label
pub token_partner : (r : ℕ) (kept removed : List ℕ) (body : List (Atom ℕ)) → Labelled (Instances token_rules) ((1, of 1 1) ∷ (2, token) ∷ []) r kept removed body → among (kept ++ removed) 2 ≡ true
token_partner r kept removed body i =
    let one = of_only token_rule r i.kept_atoms i.removed_atoms body i.instance in
    let at = carry_one ((1, of 1 1) ∷ (2, token) ∷ []) kept i.kept_atoms token (somes i.kept_atoms (token ∷ []) (sym one.kept_are)) i.kept_there in
    let two : 2 ≡ at.0 = (second_atom 1 (of 1 1) 2 token at.0 token (other_name (of 1 1) token (λ e. (cc))) at.2).0 in
    rw at.1 (rw (← two) refl)

pub token_done : Final (Instances token_rules) ((2, token) ∷ (3, of 2 1) ∷ [])
token_done r kept removed body i =
    let one = of_only token_rule r i.kept_atoms i.removed_atoms body i.instance in
    let lone = one_under one.valuation (shape_of 1 0) i.removed_atoms one.removed_are in
    let wanted : Atom ℕ = lone.0 in
    let name : 1 ≡ wanted.name = ((atom_is one.valuation (shape_of 1 0) wanted).0 lone.2).0 in
    let at = carry_one ((2, token) ∷ (3, of 2 1) ∷ []) removed i.removed_atoms wanted lone.1 i.removed_there in
    let same : of 2 1 ≡ wanted = (second_atom 2 token 3 (of 2 1) at.0 wanted (other_name token wanted (λ e. (let z : 0 ≡ 1 = e ∙ sym name in cc))) at.2).1 in
    other_name (of 2 1) wanted (λ e. (let z : 2 ≡ 1 = e ∙ sym name in cc)) same
