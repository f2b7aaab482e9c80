use Rattle.chr_guard.proofs.instance.instance_from.Goals as goal

pub returns : goal.returns
returns g c facts fit = c.if-not-becomes_instance.ensures.instance facts fit

pub returns-then-not-becomes_instance : goal.returns-then-not-becomes_instance
returns-then-not-becomes_instance g c facts fit = c.if-not-becomes_instance.ensures.instance facts fit
