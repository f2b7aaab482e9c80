use Rattle.std.proofs.Common.{ap, sym}
use Rattle.chr_rule.specs.Parts.{shape}
use Rattle.chr_rule.proofs.Index.{head_read}
use Rattle.chr_rule.proofs.rule.Rule.head_at.Goals as goal

pub returns-clause-head : goal.returns-clause-head
returns-clause-head g c = sym (head_read shape c.args.self.now c.self.inside.heads.items c.self.inside.kept c.args.number c.index.result.now (ap (λ r. r.kept) c.self.view_is) (ap (λ r. r.removed) c.self.view_is) c.requires c.index.ensures)
