use Rattle.std.proofs.Common.{sym, ◌∙◌}
use Rattle.chr_value.specs.Names.{is_text}
use Rattle.chr_value.proofs.Texts.{none-number}
use Rattle.chr_value.proofs.naming.name_in.Goals as goal

pub returns-in-None-clause-number : goal.returns-in-None-clause-number
returns-in-None-clause-number g c = c.len-count.ensures.value ∙ sym (none-number (is_text c.args.text.now) c.args.names.now (sym c.in-None.ensures))
