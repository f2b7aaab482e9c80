use Rattle.std.proofs.Common.{[]}
use Rattle.chr_text.specs.Reading.{with_item}
use Rattle.chr_text.specs.Forms.{AddsStatement}
use Rattle.chr_text.proofs.Texts.{text_read, one_text, no_text}
use Rattle.chr_text.proofs.ProgramTexts.{is_program, steps}
use Rattle.chr_text.proofs.laws.programs_by_their_forms.Goals as goal

pub returns : goal.returns
returns c = record {
  found = is_program;
  only = λ table bytes. text_read with_item AddsStatement steps ([], table) bytes;
  one = λ table bytes. one_text with_item AddsStatement steps ([], table) bytes;
  refused = λ table bytes. no_text with_item AddsStatement steps ([], table) bytes;
}
