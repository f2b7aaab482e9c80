-- Worked runs, and two logs that are no runs.
use Rattle.std.specs.Prelude.{◌≡◌, ℕ, List, [], ◌∷◌, pos}
use Rattle.chr_value.specs.Atoms.{Atom, Int}
use Rattle.chr_rule.specs.declared.expression.Operator.TheVariants.{Mod}
use Rattle.chr_rule.specs.declared.expression.Relation.TheVariants.{Less, LessEqual}
use Rattle.chr_rule.specs.Rules.{RuleAtom, Var, Given, Number, Variable, Operation, Compared, Is, Add, Simpagation}
use Rattle.chr_log.specs.Events.{Event, Post, Activate, Fire, Drop}
use Rattle.chr_log.specs.declared.events.Version.{Version}
use Rattle.chr_model.specs.Stores.{Store}
use Rattle.chr_model.specs.Goals.{State, Quiet}
use Rattle.chr_model.specs.Logs.{Lawful}
use Rattle.chr_model.specs.Programs.{Instances}

-- the log is lawful and ends with this store
abbrev pub EndsIn : Version → List (Simpagation ℕ) → List (Event ℕ) → Store → Type 0
EndsIn v rules log store =
    (last : State) × Lawful v (Instances rules) log last × (last.store ≡ store)

-- and with no open goal
abbrev pub EndsQuietIn : Version → List (Simpagation ℕ) → List (Event ℕ) → Store → Type 0
EndsQuietIn v rules log store =
    (last : State) × Lawful v (Instances rules) log last × (last.store ≡ store) × Quiet last

abbrev pub IsUnlawful : Version → List (Simpagation ℕ) → List (Event ℕ) → Type 0
IsUnlawful v rules log = (last : State) → Lawful v (Instances rules) log last → ⊥

-- a constraint of one number, and one of a variable
abbrev pub of : ℕ → ℕ → Atom ℕ
of name n = record { name = name; args = Int (pos n) ∷ [] }

abbrev pub shape_of : ℕ → ℕ → RuleAtom ℕ
shape_of name x = record { name = name; args = Var x ∷ [] }

-- `gcd(0) <=> true.` and `gcd(N) \ gcd(M) <=> 0 < N, N =< M | L is M mod N, gcd(L).`
abbrev pub gcd : ℕ → Atom ℕ
gcd n = of 0 n

abbrev pub gcd_zero : Simpagation ℕ
gcd_zero =
    record {
      variables = 0;
      kept = [];
      removed = record { name = 0; args = Given (Int (pos 0)) ∷ [] } ∷ [];
      guard = [];
      body = [];
    }

abbrev pub gcd_mod : Simpagation ℕ
gcd_mod = record {
  variables = 3;
  kept = shape_of 0 0 ∷ [];
  removed = shape_of 0 1 ∷ [];
  guard = Compared Less (Number (pos 0)) (Variable 0) ∷
      Compared LessEqual (Variable 0) (Variable 1) ∷ [];
  body = Is 2 (Operation Mod (Variable 1) (Variable 0)) ∷ Add (shape_of 0 2) ∷ [];
}

abbrev pub gcd_rules : List (Simpagation ℕ)
gcd_rules = gcd_zero ∷ gcd_mod ∷ []

-- the greatest common divisor of 9 and 6
abbrev pub gcd_log : List (Event ℕ)
gcd_log =
    Post 1 (gcd 9) ∷ Post 2 (gcd 6) ∷ Activate 1 1 ∷ Drop 1 ∷ Activate 2 2 ∷
    Fire 2 2 (2 ∷ []) (1 ∷ []) ∷ Drop 2
    ∷ Activate 3 3 ∷ Fire 3 2 (3 ∷ []) (2 ∷ []) ∷ Drop 3 ∷ Activate 4 4 ∷ Fire 4 1 [] (4 ∷ []) ∷ []

-- the same, but goal 2 is dropped where it still has an instance
abbrev pub gcd_log_early_drop : List (Event ℕ)
gcd_log_early_drop =
    Post 1 (gcd 9) ∷ Post 2 (gcd 6) ∷ Activate 1 1 ∷ Drop 1 ∷ Activate 2 2 ∷ Drop 2 ∷
    Fire 2 2 (2 ∷ []) (1 ∷ [])
    ∷ Activate 3 3 ∷ Fire 3 2 (3 ∷ []) (2 ∷ []) ∷ Drop 3 ∷ Activate 4 4 ∷ Fire 4 1 [] (4 ∷ []) ∷ []

-- `p(X), p(X) <=> q(X).`
abbrev pub pair_rule : Simpagation ℕ
pair_rule =
    record {
      variables = 1;
      kept = [];
      removed = shape_of 0 0 ∷ shape_of 0 0 ∷ [];
      guard = [];
      body = Add (shape_of 1 0) ∷ [];
    }

abbrev pub pair_rules : List (Simpagation ℕ)
pair_rules = pair_rule ∷ []

-- two equal constraints
abbrev pub pair_log : List (Event ℕ)
pair_log =
    Post 1 (of 0 1) ∷ Post 2 (of 0 1) ∷ Activate 1 1 ∷ Drop 1 ∷ Activate 2 2 ∷
    Fire 2 1 [] (2 ∷ 1 ∷ []) ∷ Activate 3 3 ∷ Drop 3 ∷ []

-- one label at both heads
abbrev pub pair_log_one_label : List (Event ℕ)
pair_log_one_label = Post 1 (of 0 1) ∷ Activate 1 1 ∷ Fire 1 1 [] (1 ∷ 1 ∷ []) ∷ []

-- `min(N) \ min(M) <=> N =< M | true.`
abbrev pub min_rule : Simpagation ℕ
min_rule =
    record {
      variables = 2;
      kept = shape_of 0 0 ∷ [];
      removed = shape_of 0 1 ∷ [];
      guard = Compared LessEqual (Variable 0) (Variable 1) ∷ [];
      body = [];
    }

abbrev pub min_rules : List (Simpagation ℕ)
min_rules = min_rule ∷ []

-- the least of 3, 1, 2 and 1
abbrev pub min_log : List (Event ℕ)
min_log =
    Post 1 (of 0 3) ∷ Post 2 (of 0 1) ∷ Post 3 (of 0 2) ∷ Post 4 (of 0 1) ∷ Activate 1 1 ∷ Drop 1 ∷
    Activate 2 2
    ∷ Fire 2 1 (2 ∷ []) (1 ∷ []) ∷ Drop 2 ∷ Activate 3 3 ∷ Fire 3 1 (2 ∷ []) (3 ∷ []) ∷ Activate 4 4
    ∷ Fire 4 1 (4 ∷ []) (2 ∷ []) ∷ Drop 4 ∷ []

-- `t \ n(X) <=> r(X).`
abbrev pub token : Atom ℕ
token = record { name = 0; args = [] }

abbrev pub token_rule : Simpagation ℕ
token_rule =
    record {
      variables = 1;
      kept = record { name = 0; args = [] } ∷ [];
      removed = shape_of 1 0 ∷ [];
      guard = [];
      body = Add (shape_of 2 0) ∷ [];
    }

abbrev pub token_rules : List (Simpagation ℕ)
token_rules = token_rule ∷ []

-- goal 1 finds a partner that came after it
abbrev pub token_log : List (Event ℕ)
token_log =
    Post 1 (of 1 1) ∷ Post 2 token ∷ Activate 1 1 ∷ Activate 2 2 ∷ Fire 1 1 (2 ∷ []) (1 ∷ []) ∷ []

-- goal 1 is dropped before its partner has fired, which version two allows
abbrev pub token_log_two : List (Event ℕ)
token_log_two =
    Post 1 (of 1 1) ∷ Post 2 token ∷ Activate 1 1 ∷ Activate 2 2 ∷ Drop 1 ∷
    Fire 2 1 (2 ∷ []) (1 ∷ []) ∷ Drop 2 ∷ Activate 3 3
    ∷ Drop 3 ∷ []

-- the same with its drops after the other events
abbrev pub token_log_strict : List (Event ℕ)
token_log_strict =
    Post 1 (of 1 1) ∷ Post 2 token ∷ Activate 1 1 ∷ Activate 2 2 ∷ Fire 2 1 (2 ∷ []) (1 ∷ []) ∷
    Activate 3 3 ∷ Drop 1 ∷ Drop 2
    ∷ Drop 3 ∷ []
