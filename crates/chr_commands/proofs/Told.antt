-- An explanation and a picture, or why there is none.
use Rattle.std.proofs.Common.{◌≢◌, ℕ, List, Ok, Err, Vec}
use Rattle.std.specs.declared.alloc.Global.{Global}
use Rattle.chr_explain.specs.ExplainTexts.{IsExplainText}
use Rattle.chr_explain.specs.declared.explanation.Question.{Question}
use Rattle.chr_explain.specs.declared.text.ExplainFault.{ExplainFault}
use Rattle.chr_explain.specs.declared.text.ExplainFault.TheVariants as explain
use Rattle.chr_picture.specs.Texts.{IsDrawText}
use Rattle.chr_picture.specs.declared.text.PictureFault.{PictureFault}
use Rattle.chr_picture.specs.declared.text.PictureFault.TheVariants as picture
use Rattle.chr_picture.specs.declared.text.Range.{Range}
use Rattle.chr_commands.specs.Checks.{IsExplained, IsUnexplained, IsDrawn, IsUndrawn}

pub explained : (program log : List ℕ) (question : Question) (out : List ℕ) →
    IsExplainText program log question (Ok out) → IsExplained program log question
explained program log question out told = (out, told)

pub unexplained : (program log : List ℕ) (question : Question) (fault : ExplainFault) →
    fault ≢ explain.Memory → IsExplainText program log question (Err fault) →
    IsUnexplained program log question
unexplained program log question fault real untold = (fault, real, untold)

pub drawn : (program log : List ℕ) (range : Range) (out : Vec ℕ Global) →
    IsDrawText program log range (Ok out) → IsDrawn program log range
drawn program log range out is = (out, is)

pub undrawn : (program log : List ℕ) (range : Range) (fault : PictureFault) →
    fault ≢ picture.Memory → IsDrawText {Z = Global} program log range (Err fault) →
    IsUndrawn program log range
undrawn program log range fault real is = (fault, real, is)
