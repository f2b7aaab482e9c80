use Rattle.chr_text.proofs.reading.read_atoms.Goals as goal

pub returns-clause-reads : goal.returns-clause-reads
returns-clause-reads g c = rw c.new.ensures.items at c.read_text.ensures.reads
