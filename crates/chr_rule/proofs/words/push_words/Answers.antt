use Rattle.std.proofs.Common.{ap, ◌∙◌}
use Rattle.std.proofs.lemmas.List.{map-append}
use Rattle.chr_rule.specs.Words.{Plain, words}
use Rattle.chr_rule.proofs.words.push_words.Goals as goal

pub returns : goal.returns
returns g c = ap words c.in-Ok.ensures.items ∙ map-append Plain c.args.words.now.items c.args.more.now
