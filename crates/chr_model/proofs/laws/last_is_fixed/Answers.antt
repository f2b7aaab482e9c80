use Rattle.chr_model.specs.Programs.{Instances}
use Rattle.chr_model.specs.Goals.{start}
use Rattle.chr_model.proofs.Fixed.{Run-same}
use Rattle.chr_model.proofs.Programs.{program_fixes}
use Rattle.chr_model.proofs.laws.last_is_fixed.Goals as goal

pub returns : goal.returns
returns g c = λ v log. Run-same v (Instances c.args.program.now) (program_fixes c.args.program.now c.rules-rules.ensures.valid) log start
