-- By these `hlevel` finds the code of what is made of rules.
use Rattle.chr_value.specs.Code.{value_codes}
use Rattle.chr_rule.specs.Code.{expression_code}
use Rattle.chr_rule.specs.TermCode.{term_code}

pub ruleset rule_codes = (value_codes, expression_code, term_code)
