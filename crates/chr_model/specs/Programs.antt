-- What the rules of a program allow.
use Rattle.std.specs.Prelude.{◌≡◌, ℕ, List, Some}
use Rattle.chr_rule.specs.Rules.{Simpagation, rule_at}
use Rattle.chr_guard.specs.Instances.{Instance}
use Rattle.chr_model.specs.Abstract.{Rules}

-- the instances of a program's rules, under the rules' numbers from 1
abbrev pub Instances : List (Simpagation ℕ) → Rules
Instances rules r kept removed body =
    (rule : Simpagation ℕ) × (rule_at rules r ≡ Some rule) × Instance rule kept removed body
