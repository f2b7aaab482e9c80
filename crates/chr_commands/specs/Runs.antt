-- What a run gives, and what its status says.
use Rattle.std.specs.Prelude.{◌≡◌, ◌≢◌, ℕ, List, [], ◌∷◌, Option, Some, None, vec_items}
use Rattle.chr_calls.specs.Books.{BookState}
use Rattle.chr_solo.specs.declared.solo.End.{End}
use Rattle.chr_run_text.specs.Output.{shown}
use Rattle.chr_run_text.specs.RunTexts.{IsRunOfTexts, AreRefused}
use Rattle.chr_run_text.specs.declared.output.Show.{Show}
use Rattle.chr_run_text.specs.declared.running.RunTextsFault.{RunTextsFault}
use Rattle.chr_run_text.specs.declared.running.RunTextsFault.TheVariants.{Memory}

-- a run of the texts of at most so many calls, in which no label above the limit is given, ends so
abbrev pub Ends : End → List ℕ → List (List ℕ) → ℕ → ℕ → Type 0
Ends end program posts steps limit = (b : BookState) × IsRunOfTexts program posts steps limit end b

-- there is no such run: the first text that has a fault has this one
abbrev pub AreFaulty : List ℕ → List (List ℕ) → Type 0
AreFaulty program posts =
    (fault : RunTextsFault) × (fault ≢ Memory) × AreRefused program posts fault
