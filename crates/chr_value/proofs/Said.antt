-- What is numbered says the same by the table after it.
use Rattle.std.proofs.Common.{◌≡◌, ℕ, suc, ◌+◌, ◌<◌, ◌≤◌, length-take, Bool, true, false, cond, ltb, ◌||◌, not, List, [], ◌∷◌, ◌++◌, length, take, map, Option, Some, None, refl, sym, ap, ap₂, subst, ◌∙◌, arith, inl, inr, get_or-take, Result, Ok, Err}
use Rattle.std.proofs.lemmas.Slice.Eq.{bytes_eq-Decides}
use Rattle.chr_value.specs.Names.{has_text, number_of, with_text, is_text}
use Rattle.chr_value.specs.Atoms.{Value, Int, Sym, Comp, Args, Nil, Cons, args_of, Atom, TermIsNamed, ArgsAreNamed, AtomIsNamed, renamed, args_renamed, text_of, by_texts}
use Rattle.chr_value.specs.Naming.{◌>>=◌, Table, number_name, numbered_value, numbered_args, number_terms, numbered_atom, Named, IsEntered, table_after, number_more}
use Rattle.chr_value.proofs.Chosen.{last, last_two, bind_assoc, some_is, chosen}
use Rattle.chr_value.proofs.Lists.{atom, as_value, args_of-injective, same-Comp, named-args, renamed-args}
use Rattle.chr_value.proofs.NameLaws.{keeps-then, grown}
use Rattle.chr_value.specs.declared.names.NamesFault.{NamesFault}
use Rattle.chr_value.specs.declared.names.NamesFault.TheVariants as faults

-- the text at the number that a name gets
abbrev At : Bool → List ℕ → List ℕ → Table → Type 0
At b k t ks = (text_of (cond (b || has_text ks t) (k ∷ ks) (k ∷ (ks ++ t ∷ []))) (cond (not b) (1 + number_of ks t) 0) ≡ t)
    × (cond (not b) (1 + number_of ks t) 0 < length (cond (b || has_text ks t) (k ∷ ks) (k ∷ (ks ++ t ∷ []))))

later : (k t : List ℕ) (ks : Table) (b : Bool) (n : ℕ) → (text_of (cond b ks (ks ++ t ∷ [])) n ≡ t) × (n < length (cond b ks (ks ++ t ∷ []))) → (text_of (cond b (k ∷ ks) (k ∷ (ks ++ t ∷ []))) (1 + n) ≡ t) × (1 + n < length (cond b (k ∷ ks) (k ∷ (ks ++ t ∷ []))))
later k t ks true n h = let e : 1 + n ≡ suc n = omega arith in (ap (λ (m : ℕ). text_of (k ∷ ks) m) e ∙ h.0, omega (arith, h.1))
later k t ks false n h = let e : 1 + n ≡ suc n = omega arith in (ap (λ (m : ℕ). text_of (k ∷ (ks ++ t ∷ [])) m) e ∙ h.0, omega (arith, h.1))

at_step : (k t : List ℕ) (ks : Table) (b : Bool) → is_text t k ≡ b → (text_of (with_text ks t) (number_of ks t) ≡ t) × (number_of ks t < length (with_text ks t)) → At b k t ks
at_step k t ks true e h = (sym ((bytes_eq-Decides t k).0 e), omega arith)
at_step k t ks false e h = later k t ks (has_text ks t) (number_of ks t) h

text_at : (table : Table) (t : List ℕ) → (text_of (with_text table t) (number_of table t) ≡ t) × (number_of table t < length (with_text table t))
text_at [] t = (refl, omega arith)
text_at (k ∷ ks) t = at_step k t ks (is_text t k) refl (text_at ks t)

-- a number keeps its text
pub text_kept : (a b : Table) (n : ℕ) → take (length a) b ≡ a → n < length a → text_of b n ≡ text_of a n
text_kept a b n h lt = sym (get_or-take (length a) b n [] lt) ∙ ap (λ (w : Table). text_of w n) h

pub name_says : (table : Table) (t : List ℕ) (n : ℕ) (new : Table) → number_name table t ≡ Some (n, new) → (text_of new n ≡ t) × (n < length new) × (take (length table) new ≡ table)
name_says table t n new e =
    elim (chosen (has_text table t || ltb (length table) 65536) (Some (number_of table t, with_text table t)) None (Some (n, new)) e) [
      | inl p ↦
          let a = text_at table t in
          subst (λ (x : ℕ × Table). (text_of x.1 x.0 ≡ t) × (x.0 < length x.1) × (take (length table) x.1 ≡ table)) (some_is (number_of table t, with_text table t) (n, new) p.1) (a.0, a.1, grown table t (has_text table t))
      | inr p ↦ absurd (let k = p.1 in cc)
    ]

-- a table that begins a longer one has no more names
pub as_long : (a b : Table) → take (length a) b ≡ a → length a ≤ length b
as_long a b h = omega (arith, ap length h, length-take (length a) b)

-- a longer table has the names that a shorter one has
mutual
  pub term_later : (m n : ℕ) (v : Value ℕ) → m ≤ n → TermIsNamed m v → TermIsNamed n v
  term_later m n (Int z) le h = tt
  term_later m n (Sym s) le h = omega (arith, h, le)
  term_later m n (Comp s vs) le h = (omega (arith, h.0, le), args_later m n vs le h.1)

  args_later : (m n : ℕ) (vs : Args ℕ) → m ≤ n → ArgsAreNamed m vs → ArgsAreNamed n vs
  args_later m n Nil le h = tt
  args_later m n (Cons v vs) le h = (term_later m n v le h.0, args_later m n vs le h.1)

-- a term keeps its text
mutual
  pub term_kept : (a b : Table) (v : Value ℕ) → take (length a) b ≡ a → TermIsNamed (length a) v → renamed (text_of b) v ≡ renamed (text_of a) v
  term_kept a b (Int z) h i = refl
  term_kept a b (Sym n) h i = ap (λ (w : List ℕ). Sym w) (text_kept a b n h i)
  term_kept a b (Comp n vs) h i = ap₂ (λ (w : List ℕ) (ws : Args (List ℕ)). Comp w ws) (text_kept a b n h i.0) (args_kept a b vs h i.1)

  args_kept : (a b : Table) (vs : Args ℕ) → take (length a) b ≡ a → ArgsAreNamed (length a) vs → args_renamed (text_of b) vs ≡ args_renamed (text_of a) vs
  args_kept a b Nil h i = refl
  args_kept a b (Cons v vs) h i = ap₂ (λ (w : Value (List ℕ)) (ws : Args (List ℕ)). Cons w ws) (term_kept a b v h i.0) (args_kept a b vs h i.1)

-- by the table after it, what was numbered says what it was made of; that table has its names, and begins with the one before
abbrev Says : {A B : Type 0} → (Table → B → A) → (ℕ → B → Type 0) → Table → A → B × Table → Type 0
Says by IsNamed table t x = (by x.1 x.0 ≡ t) × IsNamed (length x.1) x.0 × (take (length table) x.1 ≡ table)

abbrev TermSays : Table → Value (List ℕ) → Value ℕ × Table → Type 0
TermSays = Says (λ new. renamed (text_of new)) TermIsNamed

abbrev ArgsSay : Table → Args (List ℕ) → Args ℕ × Table → Type 0
ArgsSay = Says (λ new. args_renamed (text_of new)) ArgsAreNamed

mutual
  pub term_says : (table : Table) (t : Value (List ℕ)) (v : Value ℕ) (new : Table) → numbered_value table t ≡ Some (v, new) → (renamed (text_of new) v ≡ t) × TermIsNamed (length new) v × (take (length table) new ≡ table)
  term_says table (Int z) v new e = subst (TermSays table (Int z)) (some_is (Int z, table) (v, new) e) (refl, tt, grown table [] true)
  term_says table (Sym t) v new e =
      last (number_name table t) (λ n. (Sym n.0, n.1)) (v, new) (TermSays table (Sym t)) e (λ n h.
      let s = name_says table t n.0 n.1 h in
      (ap (λ (w : List ℕ). Sym w) s.0, s.1, s.2))
  term_says table (Comp t ts) v new e =
      last_two (number_name table t) (λ n. numbered_args n.1 ts) (λ n xs. (Comp n.0 xs.0, xs.1)) (v, new) (TermSays table (Comp t ts)) e (λ n xs h k.
      let s = name_says table t n.0 n.1 h in
      let r = args_say n.1 ts xs.0 xs.1 k in
      (ap₂ (λ (w : List ℕ) (ws : Args (List ℕ)). Comp w ws) (text_kept n.1 xs.1 n.0 r.2 s.1 ∙ s.0) r.0, (omega (arith, s.1, as_long n.1 xs.1 r.2), r.1), keeps-then table n.1 xs.1 s.2 r.2))

  args_say : (table : Table) (ts : Args (List ℕ)) (vs : Args ℕ) (new : Table) → numbered_args table ts ≡ Some (vs, new) → (args_renamed (text_of new) vs ≡ ts) × ArgsAreNamed (length new) vs × (take (length table) new ≡ table)
  args_say table Nil vs new e = subst (ArgsSay table Nil) (some_is (Nil, table) (vs, new) e) (refl, tt, grown table [] true)
  args_say table (Cons t ts) vs new e =
      last_two (numbered_value table t) (λ x. numbered_args x.1 ts) (λ x xs. (Cons x.0 xs.0, xs.1)) (vs, new) (ArgsSay table (Cons t ts)) e (λ x xs h k.
      let s = term_says table t x.0 x.1 h in
      let r = args_say x.1 ts xs.0 xs.1 k in
      (ap₂ (λ (w : Value (List ℕ)) (ws : Args (List ℕ)). Cons w ws) (term_kept x.1 xs.1 x.0 r.2 s.1 ∙ s.0) r.0, (term_later (length x.1) (length xs.1) x.0 (as_long x.1 xs.1 r.2) s.1, r.1), keeps-then table x.1 xs.1 s.2 r.2))

-- a list of terms is numbered as the same arguments are, and an atom as the compound value
pub as_args : (ts : List (Value (List ℕ))) (table : Table) → numbered_args table (args_of ts) ≡ (number_terms table ts >>= λ x. Some (args_of x.0, x.1))
unfolding number_terms
as_args [] table = refl
as_args (t ∷ ts) table = simp (as_args ts, bind_assoc)

as_comp : (table : Table) (a : Atom (List ℕ)) → numbered_value table (as_value a) ≡ (numbered_atom table a >>= λ x. Some (as_value x.0, x.1))
unfolding numbered_atom
as_comp table a = simp (as_args a.args, bind_assoc)

pub terms_say : (table : Table) (ts : List (Value (List ℕ))) (vs : List (Value ℕ)) (new : Table) → number_terms table ts ≡ Some (vs, new) → (map (renamed (text_of new)) vs ≡ ts) × (take (length table) new ≡ table)
terms_say table ts vs new e =
    let s = args_say table (args_of ts) (args_of vs) new (as_args ts table ∙ ap (λ (o : Option (List (Value ℕ) × Table)). o >>= λ x. Some (args_of x.0, x.1)) e) in
    (args_of-injective (map (renamed (text_of new)) vs) ts (sym (renamed-args (text_of new) vs) ∙ s.0), s.2)

pub atom_says : (table : Table) (a : Atom (List ℕ)) (f : Atom ℕ) (new : Table) → numbered_atom table a ≡ Some (f, new)
    → (by_texts new f ≡ a) × AtomIsNamed (length new) f × (take (length table) new ≡ table)
atom_says table a f new e =
    let s = term_says table (as_value a) (as_value f) new (as_comp table a ∙ ap (λ (o : Option (Atom ℕ × Table)). o >>= λ x. Some (as_value x.0, x.1)) e) in
    let is = (same-Comp (text_of new f.name) a.name (map (renamed (text_of new)) f.args) a.args).0 (rw renamed-args at s.0) in
    (ap₂ (λ (n : List ℕ) vs. atom n vs) is.0 is.1, record { name = s.1.0; args = (named-args (length new) f.args).0 s.1.1 }, s.2)

pub fact_says : (table : Table) (a : Atom (List ℕ)) (f : Atom ℕ) (new : Table) → numbered_atom table a ≡ Some (f, new) → (by_texts new f ≡ a) × (take (length table) new ≡ table)
fact_says table a f new e = let s = atom_says table a f new e in (s.0, s.2)

-- ---- names entered one after another

pub none_after : {Y : Type 0} (o : Option (Y × Table)) → table_after o ≡ None → o ≡ None
none_after (Some y) e = absurd cc
none_after None e = refl

pub some_after : {Y : Type 0} (o : Option (Y × Table)) (new : Table) → table_after o ≡ Some new → (y : Y) × (o ≡ Some (y, new))
some_after (Some y) new e = let t : y.1 ≡ new = cc in (y.0, ap (λ (w : Table). Some (y.0, w)) t)
some_after None new e = absurd cc

-- what follows takes the table and makes none of its own
after_bind : {X Y : Type 0} (o : Option (X × Table)) (f : X → Y) → table_after (o >>= λ x. Some (f x.0, x.1)) ≡ table_after o
after_bind (Some x) f = refl
after_bind None f = refl

follows : {X Y : Type 0} (o : Option (X × Table)) (f : X × Table → Option (Y × Table)) (g : Table → Option Table) (mid : Table) → table_after o ≡ Some mid → ((x : X × Table) → table_after (f x) ≡ g x.1) → table_after (o >>= f) ≡ g mid
follows (Some x) f g mid e h = h x ∙ ap g (some_is x.1 mid e)
follows None f g mid e h = absurd cc

-- the same of what has the same table after it, and lacks a name where the other does
pub entered-as : {X Y Z : Type 0} (P Q : Table → Type 0) (r : Result X NamesFault) (a : Option (Y × Table)) (b : Option (Z × Table)) (new : Table) → table_after b ≡ table_after a → (Q new → P new) → IsEntered P r a new → IsEntered Q r b new
entered-as P Q (Ok x) a b new same less h = same ∙ h
entered-as P Q (Err faults.NoMemory) a b new same less h = h
entered-as P Q (Err faults.Full) a b new same less h = (none_after b (same ∙ ap table_after h.0), h.1, λ q. h.2 (less q))

pub entered-stop : (W X : Type 0) {Y Z : Type 0} (P Q : Table → Type 0) (e : NamesFault) (a : Option (Y × Table)) (b : Option (Z × Table)) (new : Table) → (a ≡ None → b ≡ None) → (Q new → P new) → IsEntered {X = W} P (Err e) a new → IsEntered {X = X} Q (Err e) b new
entered-stop W X P Q faults.NoMemory a b new stops less h = h
entered-stop W X P Q faults.Full a b new stops less h = (stops h.0, h.1, λ q. h.2 (less q))

pub entered-fails : (W : Type 0) {X Y Z : Type 0} (P : Table → Type 0) (view : X → Z) (e : NamesFault) (a : Option (Y × Table)) (b : Option (Z × Table)) (new : Table) → (a ≡ None → b ≡ None) → IsEntered {X = W} P (Err e) a new → Named view (Err e) b new
entered-fails W P view faults.NoMemory a b new stops h = tt
entered-fails W P view faults.Full a b new stops h = stops h.0

-- ---- a compound value

pub comp-after : (table mid : Table) (t : List ℕ) (vs : List (Value (List ℕ))) → table_after (number_name table t) ≡ Some mid → table_after (numbered_value table (Comp t (args_of vs))) ≡ table_after (number_terms mid vs)
comp-after table mid t vs e =
    follows (number_name table t) (λ n. numbered_args n.1 (args_of vs) >>= λ xs. Some (Comp n.0 xs.0, xs.1)) (λ new. table_after (number_terms new vs)) mid e
    (λ n. after_bind (numbered_args n.1 (args_of vs)) (λ xs. Comp n.0 xs) ∙ ap table_after (as_args vs n.1) ∙ after_bind (number_terms n.1 vs) args_of)

-- ---- several values

pub terms-after : (table new : Table) (t : Value (List ℕ)) (ts all : List (Value (List ℕ))) → all ≡ t ∷ ts → table_after (numbered_value table t) ≡ Some new → table_after (number_terms table all) ≡ table_after (number_terms new ts)
unfolding number_terms
terms-after table new t ts all is e =
    rw is (follows (numbered_value table t) (λ x. number_terms x.1 ts >>= λ xs. Some (x.0 ∷ xs.0, xs.1)) (λ mid. table_after (number_terms mid ts)) new e (λ x. after_bind (number_terms x.1 ts) (λ vs. x.0 ∷ vs)))

pub terms-none : (table : Table) (t : Value (List ℕ)) (ts all : List (Value (List ℕ))) → all ≡ t ∷ ts → numbered_value table t ≡ None → number_terms table all ≡ None
unfolding number_terms
terms-none table t ts all is e = rw (is, e) refl

pub terms-end : (table : Table) (all : List (Value (List ℕ))) → all ≡ [] → table_after (number_terms table all) ≡ Some table
unfolding number_terms
terms-end table all is = rw is refl

-- ---- an atom

pub atom-after : (table mid : Table) (a : Atom (List ℕ)) → table_after (number_name table a.name) ≡ Some mid → table_after (numbered_atom table a) ≡ table_after (number_terms mid a.args)
unfolding numbered_atom
atom-after table mid a e =
    follows (number_name table a.name) (λ n. number_more n.0 [] (number_terms n.1 a.args)) (λ new. table_after (number_terms new a.args)) mid e (λ n. after_bind (number_terms n.1 a.args) (λ vs. atom n.0 vs))

pub atom-none : (table : Table) (a : Atom (List ℕ)) → number_name table a.name ≡ None → numbered_atom table a ≡ None
unfolding numbered_atom
atom-none table a e = rw e refl
