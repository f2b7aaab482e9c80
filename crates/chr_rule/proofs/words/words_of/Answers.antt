use Rattle.std.proofs.Common.{◌++◌, map, ap, ◌∙◌}
use Rattle.chr_rule.specs.Parts.{shape, comparison, member}
use Rattle.chr_rule.specs.Rules.{of_parts}
use Rattle.chr_rule.specs.Words.{rule_words, words}
use Rattle.chr_rule.proofs.words.words_of.Goals as goal

pub returns : goal.returns
returns g c =
    c.in_ok-push_rule.ensures
    ∙ ap (λ ns. words ns ++ rule_words (of_parts c.args.variables (map shape c.args.kept.now) (map shape c.args.removed.now) (map comparison c.args.guard.now) (map member c.args.body.now))) c.new-words.ensures.items
