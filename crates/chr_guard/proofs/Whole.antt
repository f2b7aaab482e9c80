-- Heads that fit, a guard that holds and a completed body are an instance, and nothing else is.
use Rattle.std.proofs.Common.{◌≡◌, ℕ, ◌+◌, ◌<◌, Bool, true, false, List, [], ◌∷◌, ◌++◌, length, take, drop, map, get_or, Option, Some, None, sym, subst, ap, ◌∙◌, arith, MatchOption, Result, Ok, Err, IfOk}
use Rattle.std.specs.List.{AllByRecursion}
use Rattle.std.proofs.lemmas.List.{map_more, length-map, take-append-drop, drop_more, map-append}
use Rattle.chr_value.specs.Atoms.{Value, Atom}
use Rattle.chr_rule.specs.Rules.{RuleAtom, BodyItem, Add, Simpagation}
use Rattle.chr_rule.specs.Scope.{IsRule}
use Rattle.chr_guard.specs.Values.{Valuation, Holds}
use Rattle.chr_guard.specs.Bindings.{bound_at, Extends}
use Rattle.chr_guard.specs.Instances.{atom_under, made_under, AreMadeUnder, added, IsInstance, NoInstance}
use Rattle.chr_guard.specs.Matching.{HeadsAre, IsFit, IsBody, IsCompleted, CompletedIf, IsInstanceIf, IsInstanceUnder}
use Rattle.chr_guard.proofs.Scoped.{scoped}
use Rattle.chr_guard.proofs.Under.{somes, under_append, under_parts, atoms_append, none_made, added_append}
use Rattle.chr_guard.proofs.Fixed.{Agree, heads_agree, guard_agrees}
use Rattle.chr_guard.proofs.Bindings.{extends_itself, bound_settled}
use Rattle.chr_guard.proofs.Matched.{fit_binds}

pub heads_of : (rule : Simpagation ℕ) (facts body : List (Atom ℕ)) (i : IsInstance rule facts body) → HeadsAre rule facts i.valuation
heads_of rule facts body i =
    subst (λ fs. HeadsAre rule fs i.valuation) (take-append-drop (length rule.kept) facts) (under_append i.valuation rule.kept rule.removed (take (length rule.kept) facts) (drop (length rule.kept) facts) i.kept_are i.removed_are)

agree_on_heads : (rule : Simpagation ℕ) → (r : IsRule rule) → (facts : List (Atom ℕ)) (binding : List (Option (Value ℕ))) → IsFit rule (HeadsAre rule facts) binding → (v w : Valuation) → Extends v binding → Extends w binding → Agree v w (scoped rule r).count
agree_on_heads rule r facts binding f v w ev ew =
    heads_agree v w 0 (scoped rule r).count (rule.kept ++ rule.removed) facts (scoped rule r).heads ((f.exactly v).0 ev) ((f.exactly w).0 ew) (λ x h. absurd (omega arith))

-- the heads fit, the guard holds and the body is completed
is_instance_under : (rule : Simpagation ℕ) → IsRule rule → (facts : List (Atom ℕ)) (binding new : List (Option (Value ℕ))) → IsFit rule (HeadsAre rule facts) binding → AllByRecursion (Holds (bound_at binding)) rule.guard → IsCompleted rule binding new → IsInstanceUnder rule facts new
is_instance_under rule r facts binding new f guard done =
    let v = bound_at new in
    let both = (done.narrows.exactly v).0 (extends_itself new) in
    let parts = under_parts v rule.kept rule.removed facts ((f.exactly v).0 both.0) in
    record {
      fit = record {
        places = done.narrows.places ∙ f.places;
        exactly = λ v. (
          λ h. let both = (done.narrows.exactly v).0 h in ((f.exactly v).0 both.0, both.1),
          λ h. (done.narrows.exactly v).1 ((f.exactly v).1 h.0, h.1),
        );
      };
      body = done.body;
      instance = record {
        valuation = v;
        guard = guard_agrees (bound_at binding) v (scoped rule r).count rule.guard (agree_on_heads rule r facts binding f (bound_at binding) v (extends_itself binding) both.0) (scoped rule r).guard guard;
        right = both.1;
        kept_are = parts.0;
        removed_are = parts.1;
        some_removed = λ e. (
            absurd (omega (arith, r.limits.removed, sym (length-map rule.removed (atom_under v)) ∙ ap length parts.1 ∙ length-map (drop (length rule.kept) facts) (λ a. Some a) ∙ ap length e))
            );
        body_is = done.body_is;
      };
      body_is = done.body_is;
    }

pub no_fit : (rule : Simpagation ℕ) (facts : List (Atom ℕ)) → ((v : Valuation) → HeadsAre rule facts v → ⊥) → NoInstance rule facts
no_fit rule facts none body i = none i.valuation (heads_of rule facts body i)

pub no_guard : (rule : Simpagation ℕ) → IsRule rule → (facts : List (Atom ℕ)) (binding : List (Option (Value ℕ))) → IsFit rule (HeadsAre rule facts) binding → (AllByRecursion (Holds (bound_at binding)) rule.guard → ⊥) → NoInstance rule facts
no_guard rule r facts binding f none body i =
    let e = (f.exactly i.valuation).1 (heads_of rule facts body i) in
    none (guard_agrees i.valuation (bound_at binding) (scoped rule r).count rule.guard (agree_on_heads rule r facts binding f i.valuation (bound_at binding) e (extends_itself binding)) (scoped rule r).guard i.guard)

pub becomes_if : (rule : Simpagation ℕ) → IsRule rule → (facts : List (Atom ℕ)) (done : Bool) (binding new : List (Option (Value ℕ))) → IsFit rule (HeadsAre rule facts) binding → AllByRecursion (Holds (bound_at binding)) rule.guard → CompletedIf rule done binding new → IsInstanceIf rule facts done new
becomes_if rule r facts true binding new f guard done = is_instance_under rule r facts binding new f guard done
becomes_if rule r facts false binding new f guard none = λ body i.
    let e = (f.exactly i.valuation).1 (heads_of rule facts body i) in
    none body (record {
      valuation = i.valuation;
      completes = record { extends = e; heads = λ x h. bound_settled binding x i.valuation (fit_binds rule facts binding f x h) e; right = i.right };
      body_is = i.body_is;
    })

-- what the binding of an instance adds is the instance's body
pub is_added : (rule : Simpagation ℕ) (facts made : List (Atom ℕ)) (binding : List (Option (Value ℕ))) → IsInstanceUnder rule facts binding → AreMadeUnder (bound_at binding) (added rule.body) made → IsInstance rule facts made
is_added rule facts made binding u is = subst (IsInstance rule facts) (somes u.body made (sym u.body_is ∙ is)) u.instance

pub not_added : (rule : Simpagation ℕ) (facts : List (Atom ℕ)) (binding : List (Option (Value ℕ))) → IsInstanceUnder rule facts binding → ((made : List (Atom ℕ)) → AreMadeUnder (bound_at binding) (added rule.body) made → ⊥) → NoInstance rule facts
not_added rule facts binding u none = absurd (none u.body u.body_is)

-- the body under a binding, read through a copy that has more places
module _ (rule : Simpagation ℕ) (binding all : List (Option (Value ℕ))) (same : (x : ℕ) → bound_at all x ≡ bound_at binding x) where
  pub is_body : (new : List (Option (Value ℕ))) (made : List (Atom ℕ)) → IsCompleted rule all new → AreMadeUnder (bound_at new) (added rule.body) made → IsBody rule binding made
  is_body new made done is =
      let both = (done.narrows.exactly (bound_at new)).0 (extends_itself new) in
      record {
        valuation = bound_at new;
        completes = record { extends = λ x t at. both.0 x t (same x ∙ at); heads = λ x h. done.heads x h ∙ same x; right = both.1 };
        body_is = is;
      }

  pub no_body : ((made : List (Atom ℕ)) → IsBody rule all made → ⊥) → (made : List (Atom ℕ)) → IsBody rule binding made → ⊥
  no_body none made b =
      none made (record {
        valuation = b.valuation;
        completes = record { extends = λ x t at. b.completes.extends x t (sym (same x) ∙ at); heads = λ x h. b.completes.heads x h ∙ sym (same x); right = b.completes.right };
        body_is = b.body_is;
      })

  pub no_arguments : (new : List (Option (Value ℕ))) → IsCompleted rule all new → ((made : List (Atom ℕ)) → AreMadeUnder (bound_at new) (added rule.body) made → ⊥) → (made : List (Atom ℕ)) → IsBody rule binding made → ⊥
  no_arguments new done none made b = none done.body done.body_is

-- an answer's two cases, each carried on
pub carried_on : {A P R : Type 0} {Q S : A → Type 0} (o : Option A) → (P → R) → ((a : A) → Q a → S a) → MatchOption o P Q → MatchOption o R S
carried_on (Some a) f g h = g a h
carried_on None f g h = f h

-- the same of an answer that may be an E01
pub if_ok_as : {T E : Type 0} {P Q : T → Type 0} (r : Result T E) → ((x : T) → P x → Q x) → IfOk r P → IfOk r Q
if_ok_as (Ok x) f h = f x h
if_ok_as (Err e) f h = h

-- the atoms of one member more
pub added_more : {A : Type 0} (f : A → BodyItem ℕ) (v : Valuation) (xs : List A) (i : ℕ) (x : A) (old new : List (Atom ℕ)) → i < length xs → x ≡ get_or xs i x → AreMadeUnder v (added (map f (take i xs))) old → AreMadeUnder v (added (f x ∷ [])) new → AreMadeUnder v (added (map f (take (i + 1) xs))) (old ++ new)
added_more f v xs i x old new h is o n =
    subst (λ ms. AreMadeUnder v (added ms) (old ++ new)) (sym (map_more f xs i x h ∙ ap (λ y. map f (take i xs) ++ f y ∷ []) (sym is)))
    (subst (λ ss. AreMadeUnder v ss (old ++ new)) (sym (added_append (map f (take i xs)) (f x ∷ []))) (atoms_append (made_under v) (added (map f (take i xs))) (added (f x ∷ [])) old new o n))

-- a constraint of the body without a value
pub not_made : {A : Type 0} (f : A → BodyItem ℕ) (v : Valuation) (xs : List A) (i : ℕ) (x : A) (s : RuleAtom ℕ) (made : List (Atom ℕ)) → i < length xs → x ≡ get_or xs i x → f x ≡ Add s → made_under v s ≡ None → AreMadeUnder v (added (map f xs)) made → ⊥
not_made f v xs i x s made h is at none all =
    let apart : map f xs ≡ map f (take i xs) ++ (Add s ∷ map f (drop (i + 1) xs)) =
    ap (map f) (sym (take-append-drop i xs)) ∙ map-append f (take i xs) (drop i xs) ∙ ap (λ l. map f (take i xs) ++ map f l) (drop_more xs i x h ∙ ap (λ y. y ∷ drop (i + 1) xs) (sym is)) ∙ ap (λ m. map f (take i xs) ++ (m ∷ map f (drop (i + 1) xs))) at in
    none_made v (added (map f (take i xs))) (added (map f (drop (i + 1) xs))) s made none
    (subst (λ ss. AreMadeUnder v ss made) (added_append (map f (take i xs)) (Add s ∷ map f (drop (i + 1) xs))) (subst (λ ms. AreMadeUnder v (added ms) made) apart all))
