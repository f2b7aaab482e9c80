-- Which way a test went, and what an option came from.
use Rattle.std.proofs.Common.{◌≡◌, Bool, true, false, cond, ◌&&◌, Option, Some, None, Result, Ok, Err, refl, subst, inl, inr, ◌⊎◌}
use Rattle.chr_value.specs.Naming.{◌>>=◌}

pub chosen : {A : Type 0} (b : Bool) (x y z : A) → cond b x y ≡ z → ((b ≡ true) × (x ≡ z)) ⊎ ((b ≡ false) × (y ≡ z))
chosen true x y z e = inl (refl, e)
chosen false x y z e = inr (refl, e)

pub both : (a b : Bool) → (a && b) ≡ true → (a ≡ true) × (b ≡ true)
both true b e = (refl, e)
both false b e = absurd cc

pub bind_some : {A B : Type 0} (r : Option A) (f : A → Option B) (y : B) → (r >>= f) ≡ Some y → (x : A) × (r ≡ Some x) × (f x ≡ Some y)
bind_some (Some x) f y e = (x, refl, e)
bind_some None f y e = absurd cc

pub some_is : {A : Type 0} (x y : A) (e : let s : Option A = Some x in s ≡ Some y) → x ≡ y
some_is x y e = cc

-- what holds of each result of the last step, and of the last two
pub last : {A B : Type 0} (o : Option A) (f : A → B) (y : B) (P : B → Type 0)
    → (o >>= λ x. Some (f x)) ≡ Some y → ((x : A) → o ≡ Some x → P (f x)) → P y
last (Some x) f y P e k = subst P (some_is (f x) y e) (k x refl)
last None f y P e k = absurd cc

pub last_two : {A B C : Type 0} (o : Option A) (f : A → Option B) (g : A → B → C) (y : C)
    (P : C → Type 0) → (o >>= λ x. f x >>= λ z. Some (g x z)) ≡ Some y
    → ((x : A) (z : B) → o ≡ Some x → f x ≡ Some z → P (g x z)) → P y
last_two (Some x) f g y P e k = last (f x) (g x) y P e (λ z h. k x z refl h)
last_two None f g y P e k = absurd cc

pub bind_assoc : {A B C : Type 0} (o : Option A) (f : A → Option B) (g : B → Option C)
    → ((o >>= f) >>= g) ≡ (o >>= λ x. f x >>= g)
bind_assoc (Some x) f g = refl
bind_assoc None f g = refl

-- what was made is no fault
pub made-no-fault : {T E : Type 0} (x : T) (e : E) → ◌≡◌ {A = Result T E} (Ok x) (Err e) → ⊥
made-no-fault x e h = absurd cc
