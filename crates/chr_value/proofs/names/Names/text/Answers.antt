use Rattle.chr_value.proofs.Texts.{text_at}
use Rattle.chr_value.proofs.names.Names.text.Goals as goal

pub returns : goal.returns
returns g c = rw (← c.self.view_is, c.as_str.ensures.value) (text_at c.self.inside.map.entries c.args.name.number _ c.in_ok-key.ensures.entry)
