-- Each step keeps the rule.
use Rattle.std.proofs.Common.{◌≡◌, ◌≢◌, ℕ, zero, suc, ◌+◌, ◌-◌, ◌<◌, ◌≤◌, true, false, true≢false, inl, inr, ⊎_elim, List, [], ◌∷◌, ◌++◌, map, length, set, sym, refl, ap, ◌∙◌, subst, append_assoc, append-nil, length-append, arith}
use Rattle.std.specs.List.{sum_by}
use Rattle.std.proofs.lemmas.List.{map-append}
use Rattle.std.proofs.lemmas.List.Sums.{sum_by-cons, sum_by-append, sum_by_push}
use mathlib.Core.Option.{some, some-ne-none, some-injective}
use lib.ListN.{get_elem?}
use Rattle.crossbeam_deque.specs.Tasks.{Pushes, Takes, Learns, Finds, FindsFew, Forks, Merges}
use Rattle.crossbeam_deque.proofs.Lists.{at_set, at_snoc}
use Rattle.chr_pool.specs.declared.account.Account.{Account}
use Rattle.chr_pool.specs.Accounts.{account, Within, Fits, Kept}

-- Lists within lists

within_none : (ys : List ℕ) → Within ys []
within_none [] = tt
within_none (y ∷ ys) = tt

within_itself : (ys : List ℕ) → Within ys ys
within_itself [] = tt
within_itself (y ∷ ys) = inl (refl, within_itself ys)

within_skip : (y : ℕ) (ys xs : List ℕ) → Within ys xs → Within (y ∷ ys) xs
within_skip y ys [] h = tt
within_skip y ys (x ∷ xs) h = inr h

within_both : (ys zs xs ws : List ℕ) → Within ys xs → Within zs ws → Within (ys ++ zs) (xs ++ ws)
within_both [] zs [] ws h k = k
within_both [] zs (x ∷ xs) ws h k = absurd h
within_both (y ∷ ys) zs [] ws h k = within_skip y (ys ++ zs) ws (within_both ys zs [] ws (within_none ys) k)
within_both (y ∷ ys) zs (x ∷ xs) ws h k = ⊎_elim (λ p. inl (p.0, within_both ys zs xs ws p.1 k)) (λ p. inr (within_both ys zs (x ∷ xs) ws p k)) h

within_more : (ys zs xs : List ℕ) → Within ys xs → Within (ys ++ zs) xs
within_more ys zs xs h = rw append-nil at (within_both ys zs xs [] h (within_none zs))

-- Sums over the passes

-- the account of a pass that another took in
abbrev spent : Account
spent = account 0 false [] []

pub total_set : (f : Account → ℕ) (views : List Account) (port : ℕ) (v w : Account) → get_elem? views port ≡ some v → sum_by f (set views port w) + f v ≡ sum_by f views + f w
total_set f [] port v w e = absurd (some-ne-none v (sym e))
total_set f (x ∷ xs) zero v w e =
    let p : f x ≡ f v = ap f (some-injective x v e) in
    omega (arith, sum_by-cons f w xs, sum_by-cons f x xs, p)
total_set f (x ∷ xs) (suc port) v w e =
    omega (arith, sum_by-cons f x (set xs port w), sum_by-cons f x xs, total_set f xs port v w e)

-- Facts of each pass

abbrev Each : (Account → Type 0) → List Account → Type 0
Each F views = (port : ℕ) (v : Account) → get_elem? views port ≡ some v → F v

each_set : (F : Account → Type 0) (views : List Account) (port : ℕ) (w : Account) → F w → Each F views → Each F (set views port w)
each_set F views port w mine all j u e =
    ⊎_elim (λ (x : (j ≡ port) × (w ≡ u)). subst F x.1 mine) (λ (x : (j ≢ port) × (get_elem? views j ≡ some u)). all j u x.1) (at_set views port j w u e)

each_more : (F : Account → Type 0) (views : List Account) (w : Account) → F w → Each F views → Each F (views ++ w ∷ [])
each_more F views w mine all j u e =
    ⊎_elim (λ (x : get_elem? views j ≡ some u). all j u x) (λ (x : w ≡ u). subst F x mine) (at_snoc views w u j e)

none_of : (f : Account → ℕ) (views : List Account) → sum_by (λ u. u.parts) views ≡ 0 → Each (λ u. u.parts ≡ 0 → f u ≡ 0) views → sum_by f views ≡ 0
none_of f [] none idle = refl
none_of f (x ∷ xs) none idle =
    let c = sum_by-cons (λ (u : Account). u.parts) x xs in
    let here : f x ≡ 0 = idle 0 x refl (omega (arith, c)) in
    let rest : sum_by f xs ≡ 0 = none_of f xs (omega (arith, c)) (λ port u. idle (suc port) u) in
    omega (arith, sum_by-cons f x xs, here, rest)

-- the pass with every part speaks for all: without it there is no part left
alone : (f : Account → ℕ) (views : List Account) (port : ℕ) (v : Account) → f spent ≡ 0 → get_elem? views port ≡ some v → sum_by (λ u. u.parts) views ≡ v.parts → Each (λ u. u.parts ≡ 0 → f u ≡ 0) views → sum_by f views ≡ f v
alone f views port v nothing at whole idle =
    let n = none_of f (set views port spent) (omega (arith, total_set (λ u. u.parts) views port v spent at)) (each_set (λ u. u.parts ≡ 0 → f u ≡ 0) views port spent (λ _. nothing) idle) in
    omega (arith, n, total_set f views port v spent at)

-- The steps

-- tasks that join at the back, and tasks that leave at the front, for one pass
step : (items after ps ts : List ℕ) (views : List Account) (port : ℕ) (v : Account) → items ++ ps ≡ ts ++ after → 0 < v.parts → Kept items views → get_elem? views port ≡ some v
    → Kept after (set views port (account v.parts v.joined (v.pushed ++ ps) (v.taken ++ ts)))
step items after ps ts views port v moved some_part kept at =
    let w = account v.parts v.joined (v.pushed ++ ps) (v.taken ++ ts) in
    let mine = kept.each port v at in
    record {
      parts = omega (arith, total_set (λ u. u.parts) views port v w at, kept.parts);
      log = kept.log ++ ps;
      gone = kept.gone ++ ts;
      order = ap (λ l. l ++ ps) kept.order ∙ (append_assoc kept.gone items ps ∙ (ap (λ l. kept.gone ++ l) moved ∙ sym (append_assoc kept.gone ts after)));
      pushed = (λ h. omega (arith, total_set (λ u. sum_by h u.pushed) views port v w at, kept.pushed h, sum_by-append h v.pushed ps, sum_by-append h kept.log ps));
      taken = (λ h. omega (arith, total_set (λ u. sum_by h u.taken) views port v w at, kept.taken h, sum_by-append h v.taken ts, sum_by-append h kept.gone ts));
      each = each_set (Fits (kept.log ++ ps) (kept.gone ++ ts)) views port w
          ((λ none. absurd (omega arith)), λ own. (within_both kept.log ps v.pushed ps (mine.1 own).0 (within_itself ps), within_both kept.gone ts v.taken ts (mine.1 own).1 (within_itself ts)))
          (λ j u e. let theirs = kept.each j u e in (theirs.0, λ own. (within_more kept.log ps u.pushed (theirs.1 own).0, within_more kept.gone ts u.taken (theirs.1 own).1)));
    }

-- each item weighs one
pub ones : (xs : List ℕ) → sum_by (λ (x : ℕ). 1) xs ≡ length xs
ones [] = refl
ones (x ∷ xs) = omega (arith, sum_by-cons (λ (y : ℕ). 1) x xs, ones xs)

-- what the pass with every part knows
behind : (items : List ℕ) (views : List Account) (port : ℕ) (v : Account) → Kept items views → get_elem? views port ≡ some v → v.parts ≡ 64
    → (h : ℕ → ℕ) → sum_by h v.pushed ≡ sum_by h v.taken + sum_by h items
behind items views port v kept at whole h =
    let all = kept.parts ∙ sym whole in
    let p = alone (λ u. sum_by h u.pushed) views port v refl at all (λ j u e none. ap (sum_by h) ((kept.each j u e).0 none).0) in
    let t = alone (λ u. sum_by h u.taken) views port v refl at all (λ j u e none. ap (sum_by h) ((kept.each j u e).0 none).1) in
    omega (arith, p, t, ap (sum_by h) kept.order, kept.pushed h, kept.taken h, sum_by-append h kept.gone items)

module _ {T : Type 0} (f : T → ℕ) where
  abbrev pub Holds : List T → List Account → Type 0
  Holds items views = Kept (map f items) views

  pub pushes : (port : ℕ) (v : Account) (xs : List T) → 0 < v.parts → Pushes Holds port v xs (λ w. w ≡ account v.parts v.joined (v.pushed ++ map f xs) v.taken)
  pushes port v xs some_part items views kept at =
      let k = step (map f items) (map f (items ++ xs)) (map f xs) [] views port v (sym (map-append f items xs)) some_part kept at in
      (_, subst (λ (l : List ℕ). Kept (map f (items ++ xs)) (set views port (account v.parts v.joined (v.pushed ++ map f xs) l))) (append-nil v.taken) k, refl)

  pub takes : (port : ℕ) (v : Account) → 0 < v.parts → Takes Holds port v 1 (λ xs w. w ≡ account v.parts v.joined v.pushed (v.taken ++ map f xs))
  takes port v some_part xs items views _ _ kept at =
      let k = step (map f (xs ++ items)) (map f items) [] (map f xs) views port v (append-nil (map f (xs ++ items)) ∙ map-append f xs items) some_part kept at in
      (_, subst (λ (l : List ℕ). Kept (map f items) (set views port (account v.parts v.joined l (v.taken ++ map f xs)))) (append-nil v.pushed) k, refl)

  pub takes_left : (port : ℕ) (v : Account) → 0 < v.parts → Takes Holds port v 1 (λ xs w. (w ≡ account v.parts v.joined v.pushed (v.taken ++ map f xs)) × (v.parts ≡ 64 → length w.taken ≤ length w.pushed))
  takes_left port v some_part xs items views short long kept at =
      let t = takes port v some_part xs items views short long kept at in
      let w = account v.parts v.joined v.pushed (v.taken ++ map f xs) in
      let all = map f (xs ++ items) in
      let few : v.parts ≡ 64 → length w.taken ≤ length w.pushed = λ whole.
      let b = behind all views port v kept at whole (λ (x : ℕ). 1) in
      omega (arith, b, ones v.pushed, ones v.taken, ones all, length-append v.taken (map f xs), ap (length {A = ℕ}) (map-append f xs items), length-append (map f xs) (map f items)) in
      (w, subst (λ (u : Account). Kept (map f items) (set views port u)) t.2 t.1, (refl, few))

  pub finds : (port : ℕ) (v : Account) → Finds Holds port v (v.parts ≡ 64 → (h : ℕ → ℕ) → sum_by h v.pushed ≡ sum_by h v.taken)
  finds port v views kept at whole h = let b = behind [] views port v kept at whole h in omega (arith, b)

  pub learns : (port : ℕ) (v : Account) → Learns Holds port v (λ items. v.parts ≡ 64 → (h : ℕ → ℕ) → sum_by h v.pushed ≡ sum_by h v.taken + sum_by h (map f items))
  learns port v items views kept at whole h = behind (map f items) views port v kept at whole h

  pub finds_few : (port : ℕ) (v : Account) → FindsFew Holds 0 port v (v.parts ≡ 64 → (h : ℕ → ℕ) → sum_by h v.pushed ≡ sum_by h v.taken)
  finds_few port v [] views few kept at = finds port v views kept at
  finds_few port v (x ∷ xs) views few kept at = absurd (omega arith)

  pub forks : (port : ℕ) (v : Account) → 1 < v.parts → Forks Holds port v (account (v.parts - 1) v.joined v.pushed v.taken) (account 1 false [] [])
  forks port v two items views kept at =
      let l = account (v.parts - 1) v.joined v.pushed v.taken in
      let r = account 1 false [] [] in
      let vs : List Account = set views port l in
      let mine = kept.each port v at in
      record {
        parts = omega (arith, total_set (λ u. u.parts) views port v l at, kept.parts, sum_by_push (λ (u : Account). u.parts) vs r);
        log = kept.log;
        gone = kept.gone;
        order = kept.order;
        pushed = (λ h. omega (arith, total_set (λ u. sum_by h u.pushed) views port v l at, kept.pushed h, sum_by_push (λ (u : Account). sum_by h u.pushed) vs r));
        taken = (λ h. omega (arith, total_set (λ u. sum_by h u.taken) views port v l at, kept.taken h, sum_by_push (λ (u : Account). sum_by h u.taken) vs r));
        each = each_more (Fits kept.log kept.gone) vs r ((λ none. (refl, refl)), λ own. (within_none kept.log, within_none kept.gone))
            (each_set (Fits kept.log kept.gone) views port l ((λ none. absurd (omega arith)), mine.1) kept.each);
      }

  pub merges : (port : ℕ) (v : Account) (other : ℕ) (u : Account) → 0 < v.parts → Merges Holds port v other u (account (v.parts + u.parts) true (v.pushed ++ u.pushed) (v.taken ++ u.taken)) (account 0 false [] [])
  merges port v other u some_part items views kept at two at' =
      let both = account (v.parts + u.parts) true (v.pushed ++ u.pushed) (v.taken ++ u.taken) in
      let vs : List Account = set views port both in
      record {
        parts = omega (arith, total_set (λ x. x.parts) views port v both at, total_set (λ x. x.parts) vs other u spent at', kept.parts);
        log = kept.log;
        gone = kept.gone;
        order = kept.order;
        pushed = (λ h. omega (arith, total_set (λ x. sum_by h x.pushed) views port v both at, total_set (λ x. sum_by h x.pushed) vs other u spent at', kept.pushed h, sum_by-append h v.pushed u.pushed));
        taken = (λ h. omega (arith, total_set (λ x. sum_by h x.taken) views port v both at, total_set (λ x. sum_by h x.taken) vs other u spent at', kept.taken h, sum_by-append h v.taken u.taken));
        each = each_set (Fits kept.log kept.gone) vs other spent ((λ none. (refl, refl)), λ own. (within_none kept.log, within_none kept.gone))
            (each_set (Fits kept.log kept.gone) views port both ((λ none. absurd (omega arith)), λ own. absurd (true≢false own)) kept.each);
      }

  pub begins : Holds [] (account 64 false [] [] ∷ [])
  begins = record {
    parts = refl;
    log = [];
    gone = [];
    order = refl;
    pushed = (λ h. refl);
    taken = (λ h. refl);
    each = each_more (Fits [] []) [] (account 64 false [] []) ((λ none. absurd (omega arith)), λ own. (tt, tt)) (λ j u e. absurd (some-ne-none u (sym e)));
  }
