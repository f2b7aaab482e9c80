-- What the checker answers of a run.
use Rattle.std.specs.Prelude.{◌≡◌, ℕ, ◌↔◌, List, [], Result, Ok, Err}
use Rattle.chr_text.specs.Reading.{RulesOf}
use Rattle.chr_calls.specs.Tickets.{AreQuiet}
use Rattle.chr_calls.specs.Books.{BookState}
use Rattle.chr_calls.specs.Runs.{Call, posts_of}
use Rattle.chr_book.specs.Texts.{IsOpenText, PostsText}
use Rattle.chr_book.specs.declared.texts.Posted.{Posted}
use Rattle.chr_solo.specs.declared.solo.End.{End}
use Rattle.chr_solo.specs.declared.solo.End.TheVariants.{Quiet, Open}
use Rattle.chr_check.specs.declared.checking.Verdict.{Verdict}
use Rattle.chr_check.specs.declared.checking.Verdict.TheVariants.{Run, RunAndFinal}
use Rattle.chr_run_text.specs.Texts.{PostsOf}
use Rattle.chr_run_text.specs.RunText.{IsRunOf}
use Rattle.chr_check_text.specs.Output.{answer_line}
use Rattle.chr_check_text.specs.declared.checked.Checked.{Checked}
use Rattle.chr_check_text.specs.declared.checked.CheckTextFault.{CheckTextFault}
use Rattle.chr_check_text.specs.declared.checked.CheckTextFault.TheVariants.{Memory}

-- A text of rules and a text of posts are read with one table of names, and this is the book after
-- a run of them, and its end.
pub record IsTextRun (program posts : List ℕ) (steps limit : ℕ) (end : End)
    (b : BookState) : Type 0 where
  pub read : RulesOf program
  pub posted : PostsOf read.table posts
  pub run : IsRunOf read.rules posted.atoms posted.names steps limit b
  pub quiet : (end ≡ Quiet) ↔ AreQuiet b.tickets

-- A book that seats have made of texts: one that was opened with the rules of a text; one to which
-- a seat has then posted a text, read with the book's names; and one of which a seat has then made
-- another call, which posts nothing and leaves the names.
pub data IsOfTexts (program : List ℕ) (limit : ℕ) : BookState → Type 0 where
  opens : (b : BookState) → IsOpenText program limit b → IsOfTexts program limit b
  posts : (b n : BookState) (seat : ℕ) (bytes : List ℕ) (posted : Posted) →
      IsOfTexts program limit b → PostsText b seat bytes (Ok posted) n → IsOfTexts program limit n
  goes_on : (b n : BookState) (seat : ℕ) (call : Call b seat n) → IsOfTexts program limit b →
      posts_of call ≡ [] → n.names ≡ b.names → IsOfTexts program limit n

-- what is answered of a run that ends so
abbrev pub verdict_of : End → Verdict
verdict_of Quiet = RunAndFinal
verdict_of Open = Run

-- this is answered, and its line told, unless memory runs out
abbrev pub IsAnswered : {Z : Type 0} → Verdict → Result (Checked Z) CheckTextFault → Type 0
IsAnswered verdict (Ok checked) =
    (checked.answer ≡ Ok verdict) × (checked.line.items ≡ answer_line (Ok verdict))
IsAnswered verdict (Err fault) = fault ≡ Memory
