-- What is told of the parts of a rule, piece by piece.
use Rattle.std.proofs.Common.{◌≡◌, ◌↔◌, ◌+◌, ◌<◌, ◌≤◌, ℕ, Bool, true, IsTrue, eqb, List, ◌++◌, length, drop, map, Some, arith, sym, ap, [], ◌∷◌, None, refl}
use Rattle.std.proofs.lemmas.List.{length-map, length-drop}
use Rattle.std.proofs.lemmas.Bool.Decides.{nat_tests}
use Rattle.chr_rule.specs.declared.rule_atom.RuleAtom.{RuleAtom as CodeRuleAtom}
use Rattle.chr_rule.specs.declared.expression.Comparison.{Comparison as CodeComparison}
use Rattle.chr_rule.specs.declared.expression.BodyItem.{BodyItem as CodeBodyItem}
use Rattle.chr_rule.specs.Parts.{rule_of, shape}
use Rattle.chr_rule.specs.Rules.{RuleAtom, Comparison, BodyItem, Simpagation, of_parts, Expression, Is}
use Rattle.chr_rule.specs.Scope.{variable_count, IsWithinLimits, IsRule, expression_known, known_after_args, known_after_heads, known_after_body, known_then}
use Rattle.chr_rule.specs.Terms.{HasTerms}

abbrev pub AreFew : ℕ → ℕ → ℕ → ℕ → Type 0
AreFew kept removed guard body = (0 < removed) × (kept + removed ≤ 6) × (guard ≤ 16) × (body ≤ 16)

module _ {P T M : Type 0} (f : P → RuleAtom ℕ) (g : T → Comparison ℕ) (h : M → BodyItem ℕ) (ks rs : List P) (ts : List T) (ms : List M) where
  pub few-limits : (n : ℕ) → IsWithinLimits (of_parts n (map f ks) (map f rs) (map g ts) (map h ms)) → AreFew (length ks) (length rs) (length ts) (length ms)
  few-limits n l = grind (arith, length-map)

  -- the rule of the parts, where each test of them passes
  pub judged : (n : ℕ) → n ≤ 24 → AreFew (length ks) (length rs) (length ts) (length ms) → HasTerms (of_parts 0 (map f ks) (map f rs) (map g ts) (map h ms))
      → Some n ≡ variable_count (map f ks ++ map f rs) (map g ts) (map h ms) → IsRule (of_parts n (map f ks) (map f rs) (map g ts) (map h ms))
  judged n le few terms count = record {
    scoped = sym count;
    limits = grind (arith, length-map);
    terms = record { kept = terms.kept; removed = terms.removed; guard = terms.guard; body = terms.body };
  }

-- a head of a rule is removed, so fewer are kept than it has
pub kept_within : {Z : Type 0} (n : ℕ) (heads : List (CodeRuleAtom Z)) (kept : ℕ) (guard : List (CodeComparison Z)) (body : List (CodeBodyItem Z)) → IsRule (rule_of n heads kept guard body) → kept < length heads
kept_within n heads kept guard body rule = omega (arith, rule.limits.removed, length-map (drop kept heads) shape, length-drop kept heads)

-- rules of the same parts, but for the body, of which it is told
pub same_rules : (told : Bool) (rule other : Simpagation ℕ) → rule.variables ≡ other.variables → rule.kept ≡ other.kept → rule.removed ≡ other.removed → rule.guard ≡ other.guard → IsTrue told ↔ (rule.body ≡ other.body) → IsTrue told ↔ (rule ≡ other)
same_rules told rule other v k r t means = (
  λ yes. let b = means.0 yes in λ i. record { variables = v i; kept = k i; removed = r i; guard = t i; body = b i },
  λ e. means.1 (ap (λ (x : Simpagation ℕ). x.body) e),
)

pub told_equal : (m n : ℕ) → eqb m n ≡ true → m ≡ n
told_equal m n h = grind (arith, nat_tests)

-- ---- how many variables are known after heads joined, and after an `is`

pub heads_append : {N : Type 0} (n : ℕ) (xs ys : List (RuleAtom N)) → known_after_heads n (xs ++ ys) ≡ known_then (known_after_heads n xs) (λ m. known_after_heads m ys)
heads_append n [] ys = refl
heads_append n (x ∷ xs) ys =
    elim (known_after_args n x.args) as (λ o. known_then o (λ m. known_after_heads m (xs ++ ys)) ≡ known_then (known_then o (λ m. known_after_heads m xs)) (λ m. known_after_heads m ys)) [ None ↦ refl | Some m ↦ heads_append m xs ys ]

pub after-is : (n x : ℕ) (e : Expression) (ms : List (BodyItem ℕ)) → x ≡ n → expression_known n e ≡ true → known_after_body n (Is x e ∷ ms) ≡ known_after_body (n + 1) ms
after-is n x e ms same known = grind (arith, nat_tests)
