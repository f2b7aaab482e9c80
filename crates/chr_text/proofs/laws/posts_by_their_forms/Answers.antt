use Rattle.std.proofs.Common.{[]}
use Rattle.chr_text.specs.Reading.{with_post}
use Rattle.chr_text.specs.Forms.{AddsAtoms}
use Rattle.chr_text.proofs.Texts.{text_read, one_text, no_text}
use Rattle.chr_text.proofs.PostTexts.{are_posts, steps}
use Rattle.chr_text.proofs.laws.posts_by_their_forms.Goals as goal

pub returns : goal.returns
returns c = record {
  found = are_posts;
  only = λ table bytes. text_read with_post AddsAtoms steps ([], table) bytes;
  one = λ table bytes. one_text with_post AddsAtoms steps ([], table) bytes;
  refused = λ table bytes. no_text with_post AddsAtoms steps ([], table) bytes;
}
