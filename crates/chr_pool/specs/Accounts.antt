-- The rule of one deque, or of the queue, over its contents and the accounts of its passes.
use Rattle.std.specs.Prelude.{◌≡◌, ℕ, ◌+◌, Bool, true, false, ◌⊎◌, List, [], ◌∷◌, ◌++◌, map}
use Rattle.std.specs.List.{sum_by}
use mathlib.Core.Option.{some}
use lib.ListN.{get_elem?}
use Rattle.chr_pool.specs.declared.account.Account.{Account}

abbrev pub account : ℕ → Bool → List ℕ → List ℕ → Account
account parts joined pushed taken =
    record { parts = parts; joined = joined; pushed = pushed; taken = taken }

-- the second list is the first with some items left out
abbrev pub Within : List ℕ → List ℕ → Type 0
Within [] [] = Unit {0}
Within [] (x ∷ xs) = ⊥
Within (y ∷ ys) [] = Unit {0}
Within (y ∷ ys) (x ∷ xs) = ((x ≡ y) × Within ys xs) ⊎ Within ys (x ∷ xs)

-- what an account says of all pushes and all takings: an account with no part has neither, and one
-- to which no other was added lists its own in their order
abbrev pub Fits : List ℕ → List ℕ → Account → Type 0
Fits log gone v =
    (v.parts ≡ 0 → (v.pushed ≡ []) × (v.taken ≡ []))
    × (v.joined ≡ false → Within log v.pushed × Within gone v.taken)

-- The rule. `log` has all pushes in their order and `gone` all takings in theirs, and what was
-- pushed is what was taken and then the contents. The accounts of all passes together have just
-- these pushes and takings, as multisets: whatever number h gives to each task, the sums are equal.
pub record Kept (items : List ℕ) (views : List Account) : Type 0 where
  pub parts : sum_by (λ v. v.parts) views ≡ 64
  pub log : List ℕ
  pub gone : List ℕ
  pub order : log ≡ gone ++ items
  pub pushed : (h : ℕ → ℕ) → sum_by (λ v. sum_by h v.pushed) views ≡ sum_by h log
  pub taken : (h : ℕ → ℕ) → sum_by (λ v. sum_by h v.taken) views ≡ sum_by h gone
  pub each : (pass : ℕ) (v : Account) → get_elem? views pass ≡ some v → Fits log gone v

-- the account after one task more was taken
abbrev pub took : ℕ → Account → Account
took n v = account v.parts v.joined v.pushed (v.taken ++ n ∷ [])

-- the account after one task more was pushed
abbrev pub gave : ℕ → Account → Account
gave n v = account v.parts v.joined (v.pushed ++ n ∷ []) v.taken

-- the sum of two accounts
abbrev pub join : Account → Account → Account
join v w = account (v.parts + w.parts) true (v.pushed ++ w.pushed) (v.taken ++ w.taken)

-- the accounts of the first list, to each of which the one at its place in the second is added
abbrev pub absorbed : List Account → List Account → List Account
absorbed [] ws = []
absorbed (v ∷ vs) [] = v ∷ vs
absorbed (v ∷ vs) (w ∷ ws) = join v w ∷ absorbed vs ws

abbrev pub all_absorbed : List Account → List (List Account) → List Account
all_absorbed vs [] = vs
all_absorbed vs (r ∷ rs) = all_absorbed (absorbed vs r) rs

-- the sum of an account and of all others
abbrev pub joined : Account → List Account → Account
joined v [] = v
joined v (w ∷ ws) = joined (join v w) ws

-- the same for numbers of parts
abbrev pub added : List ℕ → List ℕ → List ℕ
added [] ws = []
added (v ∷ vs) [] = v ∷ vs
added (v ∷ vs) (w ∷ ws) = (v + w) ∷ added vs ws

abbrev pub all_added : List ℕ → List (List ℕ) → List ℕ
all_added vs [] = vs
all_added vs (r ∷ rs) = all_added (added vs r) rs

abbrev pub parts_of : List Account → List ℕ
parts_of vs = map (λ (v : Account). v.parts) vs
