use Rattle.chr_model.specs.Programs.{Instances}
use Rattle.chr_model.proofs.Programs.{program_fixes}
use Rattle.chr_check.proofs.Checked.{never_both, one_fault, never_neither}
use Rattle.chr_check.proofs.laws.fault_or_run.Goals as goal

pub returns : goal.returns
returns g c = record {
  never_both = λ v log store f h r. never_both v (Instances c.args.program.now) (program_fixes c.args.program.now c.rules-rules.ensures.valid) log store f h r;
  one_of_them = λ v log store none never. never_neither v (Instances c.args.program.now) log store none never;
  one_fault = λ v log store f g' h i. one_fault v (Instances c.args.program.now) (program_fixes c.args.program.now c.rules-rules.ensures.valid) log store f g' h i;
}
