-- What a run of texts says of the sources that have them.
use Rattle.std.proofs.Common.{◌≡◌, ◌≢◌, ℕ, List, subst}
use Rattle.chr_calls.specs.Books.{BookState}
use Rattle.chr_run_text.specs.RunTexts.{IsRunOfTexts, AreRefused}
use Rattle.chr_run_text.specs.declared.running.RunTextsFault.{RunTextsFault}
use Rattle.chr_run_text.specs.declared.running.RunTextsFault.TheVariants as runs
use Rattle.chr_solo.specs.declared.solo.End.{End}
use Rattle.chr_commands.specs.Runs.{Ends, AreFaulty}

-- a run of the bytes that the texts have ends so
pub ends_with : (program : List ℕ) (texts posts : List (List ℕ)) (steps limit : ℕ) (end wanted : End)
    (b : BookState) → texts ≡ posts → end ≡ wanted →
    IsRunOfTexts program texts steps limit end b → Ends wanted program posts steps limit
ends_with program texts posts steps limit end wanted b same as_wanted run = (
  b,
  subst (λ e. IsRunOfTexts program posts steps limit e b) as_wanted
      (subst (λ ts. IsRunOfTexts program ts steps limit end b) same run),
)

pub faulty_with : (program : List ℕ) (texts posts : List (List ℕ)) (fault : RunTextsFault) →
    texts ≡ posts → fault ≢ runs.Memory → AreRefused program texts fault →
    AreFaulty program posts
faulty_with program texts posts fault same real refused =
    (fault, real, subst (λ ts. AreRefused program ts fault) same refused)
