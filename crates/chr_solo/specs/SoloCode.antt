-- What a run knows, wherever the judgement lies in memory, and what each of its calls does.
use Rattle.std.specs.Prelude.{◌≡◌, ℕ}
use Rattle.chr_search.specs.Judged.{Judgement}
use Rattle.chr_solo.specs.declared.solo.Known.{Known as CodeKnown}
use Rattle.chr_solo.specs.declared.solo.Known.TheVariants as knowns
use Rattle.chr_calls.specs.Tickets.{IsLeastFor}
use Rattle.chr_calls.specs.Books.{BookState}
use Rattle.chr_calls.specs.Calls.{HoldsCandidate}
use Rattle.chr_solo.specs.Solo.{Known, Nothing, Judged, NoneLeft, SoloRun}

abbrev pub known_of : {Z : Type 0} → CodeKnown Z → Known
known_of knowns.Nothing = Nothing
known_of (knowns.Judged j) = Judged j
known_of knowns.NoneLeft = NoneLeft

-- what is judged is the candidate of the ticket, which the seat holds
abbrev pub IsAware : BookState → ℕ → ℕ → Known → Type 0
IsAware b seat t known = (j : Judgement) → known ≡ Judged j → HoldsCandidate b seat t j.trial

-- the calls made so far, and what is judged is the candidate of the next ticket
pub record SoloSoFar (seat : ℕ) (b : BookState) (calls : ℕ) (n : BookState)
    (known : Known) : Type 0 where
  pub run : SoloRun seat calls b Nothing n known
  pub aware : (t : ℕ) → IsLeastFor n.tickets seat t → IsAware n seat t known
