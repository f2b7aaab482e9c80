-- Slots, and the compound values beside them.
use Rattle.std.proofs.Common.{◌≡◌, ◌<◌, ◌≤◌, ℕ, zero, suc, pos, List, [], ◌∷◌, ◌++◌, length, map, refl, ap, ap₂, subst, sym, ◌∙◌, arith, ◌↔◌, Bool, true, false, IsTrue, take, get_or, Option, Some, Box, ◌+◌, ◌-◌, Result, Ok, Err, OnOk, OnErr, slice_set, slice_get}
use Rattle.std.specs.List.{slice_index_or, AllByRecursion}
use Rattle.std.proofs.lemmas.List.{length-map, length-append, map_push}
use Rattle.chr_value.specs.Atoms.{Value, Int, Atom, ground_comp, TermIsNamed, ground, grounds}
use Rattle.chr_value.specs.Limits.{IsWithin}
use Rattle.chr_value.specs.Slots.{value_in, values_in, HasPlace, AreArguments, slot_of, slots_of, own_slots, further_slots, all_slots, comps_of, LieInOrder}
use Rattle.chr_value.specs.declared.value.Comp.{Comp as CodeComp}
use Rattle.chr_value.specs.declared.slots.Slot.{Slot}
use Rattle.chr_value.proofs.Lists.{atom, named-args, same-Comp}
use Rattle.chr_value.proofs.Places.{all-push, all-at, front-all, got-behind}
use Rattle.chr_value.specs.declared.value.Value.{Value as CodeValue}
use Rattle.chr_value.specs.declared.slots.Kind.{Kind}
use Rattle.chr_value.specs.declared.slots.Front.{Front}
use Rattle.chr_value.specs.declared.beside.Rest.{Rest}
use Rattle.chr_value.specs.declared.slots.Slot.TheVariants as slots

module _ {A : Type 0} where
  at-end : (cs : List (CodeComp A)) (c : CodeComp A) (d : Value ℕ) → slice_index_or (map ground_comp (cs ++ c ∷ [])) (length cs) d ≡ ground_comp c
  at-end [] c d = refl
  at-end (b ∷ cs) c d = at-end cs c d

  stays-at : (cs : List (CodeComp A)) (c : CodeComp A) (i : ℕ) (d : Value ℕ) → i < length cs → slice_index_or (map ground_comp (cs ++ c ∷ [])) i d ≡ slice_index_or (map ground_comp cs) i d
  stays-at [] c i d lt = absurd (omega (arith, lt))
  stays-at (b ∷ cs) c zero d lt = refl
  stays-at (b ∷ cs) c (suc i) d lt = stays-at cs c i d (omega (arith, lt))

  stays : (cs : List (CodeComp A)) (c : CodeComp A) (s : Slot) → HasPlace cs s → value_in (cs ++ c ∷ []) s ≡ value_in cs s
  stays cs c (slots.Int z) h = refl
  stays cs c (slots.Sym s) h = refl
  stays cs c (slots.Comp i) h = stays-at cs c i (Int (pos 0)) h

  -- the arguments with a compound one more
  pushed-values : (cs : List (CodeComp A)) (ss : List Slot) (c : CodeComp A) → AllByRecursion (HasPlace cs) ss → values_in (cs ++ c ∷ []) (ss ++ slots.Comp (length cs) ∷ []) ≡ values_in cs ss ++ ground_comp c ∷ []
  pushed-values cs [] c h = ap (λ (v : Value ℕ). v ∷ []) (at-end cs c (Int (pos 0)))
  pushed-values cs (s ∷ ss) c h = ap₂ (λ (v : Value ℕ) vs. v ∷ vs) (stays cs c s h.0) (pushed-values cs ss c h.1)

  place-longer : (cs ds : List (CodeComp A)) (s : Slot) → length cs ≤ length ds → HasPlace cs s → HasPlace ds s
  place-longer cs ds (slots.Int z) le h = tt
  place-longer cs ds (slots.Sym s) le h = tt
  place-longer cs ds (slots.Comp i) le h = omega (arith, h, le)

  places-longer : (cs ds : List (CodeComp A)) (ss : List Slot) → length cs ≤ length ds → AllByRecursion (HasPlace cs) ss → AllByRecursion (HasPlace ds) ss
  places-longer cs ds [] le h = tt
  places-longer cs ds (s ∷ ss) le h = (place-longer cs ds s le h.0, places-longer cs ds ss le h.1)

  -- one argument more
  comp-pushed : (cs cs' : List (CodeComp A)) (ss ss' : List Slot) (c : CodeComp A) (n : ℕ) → AreArguments cs ss → length ss < 8 → IsWithin (ground_comp c) → cs' ≡ cs ++ c ∷ [] → ss' ≡ ss ++ slots.Comp n ∷ [] → n ≡ length cs
      → AreArguments cs' ss' × (values_in cs' ss' ≡ values_in cs ss ++ ground_comp c ∷ [])
  comp-pushed cs cs' ss ss' c n h room within is-cs is-ss is-n =
      let longer : length cs' ≡ suc (length cs) = omega (arith, ap length is-cs, length-append cs (c ∷ [])) in
      let more : length ss' ≡ suc (length ss) = omega (arith, ap length is-ss, length-append ss (slots.Comp n ∷ [])) in
      let values : values_in cs' ss' ≡ values_in cs ss ++ ground_comp c ∷ [] = ap₂ values_in is-cs (is-ss ∙ ap (λ (m : ℕ). ss ++ slots.Comp m ∷ []) is-n) ∙ pushed-values cs ss c h.places in (
        record {
          few = omega (arith, more);
          fewer = omega (arith, h.fewer, longer, more);
          places = subst (AllByRecursion (HasPlace cs')) (sym is-ss) (all-push (HasPlace cs') ss (slots.Comp n) (places-longer cs cs' ss (omega (arith, longer)) h.places) (omega (arith, longer, is-n)));
          within = subst (AllByRecursion IsWithin) (sym values) (all-push IsWithin (values_in cs ss) (ground_comp c) h.within within);
        },
        values,
      )

  flat-pushed : (cs : List (CodeComp A)) (ss : List Slot) (s : Slot) → AreArguments cs ss → length ss < 8 → HasPlace cs s → IsWithin (value_in cs s)
      → AreArguments cs (ss ++ s ∷ []) × (values_in cs (ss ++ s ∷ []) ≡ values_in cs ss ++ value_in cs s ∷ [])
  flat-pushed cs ss s h room place within =
      let more : length (ss ++ s ∷ []) ≡ suc (length ss) = omega (arith, length-append ss (s ∷ [])) in
      let values : values_in cs (ss ++ s ∷ []) ≡ values_in cs ss ++ value_in cs s ∷ [] = map_push (value_in cs) ss s in (
        record {
          few = omega (arith, more);
          fewer = omega (arith, h.fewer, more);
          places = all-push (HasPlace cs) ss s h.places place;
          within = subst (AllByRecursion IsWithin) (sym values) (all-push IsWithin (values_in cs ss) (value_in cs s) h.within within);
        },
        values,
      )

  -- what an atom has after a call that was to add an argument, which says v
  abbrev pub Pushed : {X E : Type 0} → Result X E → (cs ds : List (CodeComp A)) (ss ts : List Slot) → Value ℕ → Type 0
  Pushed r cs ds ss ts v = AreArguments ds ts × OnOk r (values_in ds ts ≡ values_in cs ss ++ v ∷ [])

  pub constant-pushed : {X E : Type 0} (r : Result X E) (cs ds : List (CodeComp A)) (ss ts : List Slot) (s : Slot) (v : Value ℕ) → AreArguments cs ss → length ss < 8 → HasPlace cs s → value_in cs s ≡ v → IsWithin v
      → OnOk r (ts ≡ ss ++ s ∷ []) → OnErr r (ts ≡ ss) → ds ≡ cs → Pushed r cs ds ss ts v
  constant-pushed (Ok x) cs ds ss ts s v h room place is within ok err same =
      let p = flat-pushed cs ss s h room place (subst IsWithin (sym is) within) in (
        subst (λ us. AreArguments ds us) (sym ok) (subst (λ bs. AreArguments bs (ss ++ s ∷ [])) (sym same) p.0),
        ap₂ values_in same ok ∙ p.1 ∙ ap (λ (u : Value ℕ). values_in cs ss ++ u ∷ []) is,
      )
  constant-pushed (Err e) cs ds ss ts s v h room place is within ok err same = (subst (λ us. AreArguments ds us) (sym err) (subst (λ bs. AreArguments bs ss) (sym same) h), tt)

  pub compound-pushed : {X E : Type 0} (r : Result X E) (cs ds : List (CodeComp A)) (ss ts : List Slot) (c : CodeComp A) (v : Value ℕ) → AreArguments cs ss → length ss < 8 → ground_comp c ≡ v → IsWithin v
      → OnOk r (ts ≡ ss ++ slots.Comp (length cs) ∷ []) → OnErr r (ts ≡ ss) → OnOk r (ds ≡ cs ++ c ∷ []) → OnErr r (ds ≡ cs) → Pushed r cs ds ss ts v
  compound-pushed (Ok x) cs ds ss ts c v h room is within ok err added same =
      let p = comp-pushed cs ds ss ts c (length cs) h room (subst IsWithin (sym is) within) added ok refl in (p.0, p.1 ∙ ap (λ (u : Value ℕ). values_in cs ss ++ u ∷ []) is)
  compound-pushed (Err e) cs ds ss ts c v h room is within ok err added same = (subst (λ us. AreArguments ds us) (sym err) (subst (λ bs. AreArguments bs ss) (sym same) h), tt)

  -- the atom after it
  pub atom-pushed : {X E : Type 0} (r : Result X E) (cs ds : List (CodeComp A)) (ss ts : List Slot) (v : Value ℕ) (n m : ℕ) (a : Atom ℕ) → Pushed r cs ds ss ts v → m ≡ n → atom n (values_in cs ss) ≡ a
      → OnOk r (atom m (values_in ds ts) ≡ atom a.name (a.args ++ v ∷ []))
  atom-pushed (Ok x) cs ds ss ts v n m a p name view = ap₂ atom name p.1 ∙ ap (λ (b : Atom ℕ). atom b.name (b.args ++ v ∷ [])) view
  atom-pushed (Err e) cs ds ss ts v n m a p name view = tt

  -- values beside a copy of what they lay beside
  value-copied : (cs ds : List (CodeComp A)) (s : Slot) → map ground_comp ds ≡ map ground_comp cs → value_in ds s ≡ value_in cs s
  value-copied cs ds (slots.Int z) e = refl
  value-copied cs ds (slots.Sym s) e = refl
  value-copied cs ds (slots.Comp i) e = ap (λ (us : List (Value ℕ)). slice_index_or us i (Int (pos 0))) e

  values-copied : (cs ds : List (CodeComp A)) (ss : List Slot) → map ground_comp ds ≡ map ground_comp cs → values_in ds ss ≡ values_in cs ss
  values-copied cs ds [] e = refl
  values-copied cs ds (s ∷ ss) e = ap₂ (λ (v : Value ℕ) vs. v ∷ vs) (value-copied cs ds s e) (values-copied cs ds ss e)

  arguments-copied : (cs ds : List (CodeComp A)) (ss : List Slot) → map ground_comp ds ≡ map ground_comp cs → AreArguments cs ss → AreArguments ds ss
  arguments-copied cs ds ss e h =
      let count : length ds ≡ length cs = sym (length-map ds ground_comp) ∙ ap length e ∙ length-map cs ground_comp in
      record {
        few = h.few;
        fewer = omega (arith, h.fewer, count);
        places = places-longer cs ds ss (omega (arith, count)) h.places;
        within = subst (AllByRecursion IsWithin) (sym (values-copied cs ds ss e)) h.within;
      }

  -- an atom's front with a copy of what lies beside it
  pub beside-copied : (f : Front) (r q : Option (Box (Rest A) A)) → LieInOrder f r × AreArguments (comps_of r) (all_slots f r) → further_slots q ≡ further_slots r → map ground_comp (comps_of q) ≡ map ground_comp (comps_of r)
      → LieInOrder f q × AreArguments (comps_of q) (all_slots f q)
  beside-copied f r q h same comps = (
    record {
      arity = ap (λ (ss : List Slot). length (own_slots f ++ ss)) same ∙ h.0.arity;
      own = h.0.own;
      further = subst (λ (ss : List Slot). length ss ≤ f.arity - 3) (sym same) h.0.further;
    },
    subst (λ (ss : List Slot). AreArguments (comps_of q) (own_slots f ++ ss)) (sym same) (arguments-copied (comps_of r) (comps_of q) (all_slots f r) comps h.1),
  )

  -- as many arguments as slots
  slot-count : (cs : List (CodeComp A)) (ss : List Slot) (name : ℕ) (a : Atom ℕ) → atom name (values_in cs ss) ≡ a → length a.args ≡ length ss
  slot-count cs ss name a view = sym (ap (λ (b : Atom ℕ). length b.args) view) ∙ length-map ss (value_in cs)

  pub room-left : (cs : List (CodeComp A)) (ss : List Slot) (name : ℕ) (a : Atom ℕ) → atom name (values_in cs ss) ≡ a → length a.args < 8 → length ss < 8
  room-left cs ss name a view room = omega (arith, slot-count cs ss name a view)

  -- a slot that lies beside the atom, among all
  pub lies-behind : (f : Front) (r : Option (Box (Rest A) A)) (a : Atom ℕ) (i : ℕ) (s : Slot) → LieInOrder f r → atom f.name.number (values_in (comps_of r) (all_slots f r)) ≡ a → 3 ≤ i → i < length a.args → Some s ≡ slice_get (further_slots r) (i - 3) → Some s ≡ slice_get (all_slots f r) i
  lies-behind f r a i s order view far lt e =
      let count = slot-count (comps_of r) (all_slots f r) f.name.number a view in
      let is : i ≡ length (own_slots f) + (i - 3) = omega (arith, order.arity, order.own, order.further, length-append (own_slots f) (further_slots r), count, far, lt) in
      got-behind (own_slots f) (further_slots r) i (i - 3) s is e

-- ---- compound values, by their arguments

module _ {A : Type 0} where
  -- the table lacks a name of an argument
  pub named-not : (n : ℕ) (c : CodeComp A) (xs : List (CodeValue A)) (i : ℕ) (x : CodeValue A) (told : Bool) → xs ≡ c.args.list.items → i < length xs → x ≡ get_or xs i x → IsTrue told ↔ TermIsNamed n (ground x) → told ≡ false
      → IsTrue false ↔ TermIsNamed n (ground_comp c)
  named-not n c xs i x told are lt ex means denied =
      (λ t. absurd cc, λ h. sym denied ∙ means.1 (all-at ground (TermIsNamed n) xs i x lt ex (subst (λ ys. AllByRecursion (TermIsNamed n) (grounds ys)) (sym are) ((named-args n (grounds c.args.list.items)).0 h.1))))

  -- it has all
  pub named-all : (n : ℕ) (c : CodeComp A) (xs : List (CodeValue A)) (i : ℕ) → xs ≡ c.args.list.items → c.functor.number < n → length xs ≤ i → AllByRecursion (TermIsNamed n) (grounds (take i xs)) → IsTrue true ↔ TermIsNamed n (ground_comp c)
  named-all n c xs i are functor le h = (λ t. (functor, (named-args n (grounds c.args.list.items)).1 (subst (AllByRecursion (TermIsNamed n)) (front-all ground xs i le ∙ ap grounds are) h)), λ h. refl)

  pub same-length : (xs ys : List (CodeValue A)) → grounds xs ≡ grounds ys → length xs ≡ length ys
  same-length xs ys e = sym (length-map xs ground) ∙ ap length e ∙ length-map ys ground

  -- compound values that differ
  pub same-not : (a b : CodeComp A) → (a.functor.number ≡ b.functor.number → grounds a.args.list.items ≡ grounds b.args.list.items → ⊥) → IsTrue false ↔ (ground_comp a ≡ ground_comp b)
  same-not a b differ = (λ t. absurd cc, λ h. let p = (same-Comp a.functor.number b.functor.number (grounds a.args.list.items) (grounds b.args.list.items)).0 h in absurd (differ p.0 p.1))

-- ---- slots by their kinds and words

pub one-more : (ks : List Kind) (ws : List ℕ) (i : ℕ) (k : Kind) (w : ℕ) → i < length ks → i < length ws → slots_of (slice_set ks i k) (take (suc i) (slice_set ws i w)) ≡ slots_of ks (take i ws) ++ slot_of k w ∷ []
one-more [] ws i k w lt lw = absurd (omega (arith, lt))
one-more (j ∷ ks) [] i k w lt lw = absurd (omega (arith, lw))
one-more (j ∷ []) (v ∷ ws) zero k w lt lw = refl
one-more (j ∷ h ∷ ks) (v ∷ ws) zero k w lt lw = refl
one-more (j ∷ ks) (v ∷ ws) (suc i) k w lt lw = ap (λ (ss : List Slot). slot_of j v ∷ ss) (one-more ks ws i k w (omega (arith, lt)) (omega (arith, lw)))

pub packed-at : (ks : List Kind) (ws : List ℕ) (i : ℕ) (d : Kind) (v : ℕ) → i < length ks → i < length ws → Some (slot_of (get_or ks i d) (get_or ws i v)) ≡ slice_get (slots_of ks ws) i
packed-at [] ws i d v lk lw = absurd (omega (arith, lk))
packed-at (k ∷ ks) [] i d v lk lw = absurd (omega (arith, lw))
packed-at (k ∷ ks) (w ∷ ws) zero d v lk lw = refl
packed-at (k ∷ ks) (w ∷ ws) (suc i) d v lk lw = packed-at ks ws i d v (omega (arith, lk)) (omega (arith, lw))

-- the first `n` of them
pub among-first : (ks : List Kind) (ws : List ℕ) (n i : ℕ) → i < n → slice_get (slots_of ks ws) i ≡ slice_get (slots_of ks (take n ws)) i
among-first [] ws n i lt = refl
among-first (k ∷ ks) ws zero i lt = absurd (omega (arith, lt))
among-first (k ∷ ks) [] (suc n) i lt = refl
among-first (k ∷ ks) (w ∷ ws) (suc n) zero lt = refl
among-first (k ∷ ks) (w ∷ ws) (suc n) (suc i) lt = among-first ks ws n i (omega (arith, lt))

pub first-within : (ks : List Kind) (ws : List ℕ) (n i : ℕ) → i < length (slots_of ks (take n ws)) → (i < n) × (i < length ks)
first-within [] ws n i lt = absurd (omega (arith, lt))
first-within (k ∷ ks) ws zero i lt = absurd (omega (arith, lt))
first-within (k ∷ ks) [] (suc n) i lt = absurd (omega (arith, lt))
first-within (k ∷ ks) (w ∷ ws) (suc n) zero lt = (omega arith, omega arith)
first-within (k ∷ ks) (w ∷ ws) (suc n) (suc i) lt = let h = first-within ks ws n i (omega (arith, lt)) in (omega (arith, h.0), omega (arith, h.1))

pub room-behind : (ks : List Kind) (ws : List ℕ) (n m : ℕ) → m ≤ length ks → m ≤ length ws → length (slots_of ks (take n ws)) < m → n < m
room-behind ks ws n zero lk lw lt = absurd (omega (arith, lt))
room-behind [] ws n (suc m) lk lw lt = absurd (omega (arith, lk))
room-behind (k ∷ ks) [] n (suc m) lk lw lt = absurd (omega (arith, lw))
room-behind (k ∷ ks) (w ∷ ws) zero (suc m) lk lw lt = omega arith
room-behind (k ∷ ks) (w ∷ ws) (suc n) (suc m) lk lw lt = let h = room-behind ks ws n m (omega (arith, lk)) (omega (arith, lw)) (omega (arith, lt)) in omega (arith, h)
