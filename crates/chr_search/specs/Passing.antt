-- Searches that pass over trials.
use Rattle.std.specs.Prelude.{◌≡◌, ◌≢◌, ℕ, zero, suc, ◌+◌, ◌<◌, ◌≤◌, Bool, true, false, List, [], ◌∷◌, ◌++◌, map, length, take, Option, Some, IfSome}
use Rattle.std.specs.List.{AllByRecursion}
use Rattle.chr_value.specs.Atoms.{Value}
use Rattle.chr_value.specs.Stores.{atom_at}
use Rattle.chr_guard.specs.Bindings.{AreKnown}
use Rattle.chr_model.specs.Stores.{among}
use Rattle.chr_search.specs.declared.judged.Verdict.{Verdict}
use Rattle.chr_search.specs.declared.judged.Verdict.TheVariants.{Misfit, Part, Whole}
use Rattle.chr_search.specs.declared.passing.End.{End}
use Rattle.chr_search.specs.declared.passing.End.TheVariants as ends
use Rattle.chr_search.specs.declared.passing.Level.{Level as CodeLevel}
use Rattle.chr_search.specs.declared.passing.Next.{Next}
use Rattle.chr_search.specs.declared.passing.Next.TheVariants as nexts
use Rattle.chr_search.specs.declared.passing.Passed.{Passed}
use Rattle.chr_search.specs.declared.passing.Stop.{Stop}
use Rattle.chr_search.specs.declared.passing.Stop.TheVariants as stops
use Rattle.chr_search.specs.declared.search.Instance.{Instance}
use Rattle.chr_search.specs.declared.search.Passed.{Passed as CodePassed}
use Rattle.chr_search.specs.declared.search.Then.{Then as CodeThen}
use Rattle.chr_search.specs.declared.search.Then.TheVariants as thens
use Rattle.chr_search.specs.Positions.{at_or_after, past}
use Rattle.chr_search.specs.Tree.{Grows, Beyond, Least, NoneBeyond, LeastFrom, NoneFrom}
use Rattle.chr_search.specs.Trials.{Join, MayFollow, Space, IsNext, NoneLeft}
use Rattle.chr_search.specs.Partners.{HasPlan, IsReady, GivePartners, IsLastHead}
use Rattle.chr_search.specs.Verdicts.{Trial, labels, heads, position, kept_labels, removed_labels, IsFormed, IsTrialOf, IsWholeUnder}
use Rattle.chr_search.specs.Judged.{Judgement, IsVerdict}
use Rattle.chr_search.specs.Answers.{after_verdict, after_judging}
use Rattle.chr_search.specs.Wholes.{WholeTrial}

-- the trial of these labels: it has the join's rule and the heads of its plan, and its labels'
-- atoms in the store
pub record IsTrialIn (j : Join) (ls : List ℕ) (t : Trial) : Type 0 where
  pub rule_is : t.rule ≡ j.rule
  pub labels_are : labels t ≡ ls
  pub heads_are : heads t ≡ take (length t.placed) (map (λ step. step.head) j.order)
  pub live : AllByRecursion (λ p. atom_at j.store p.label ≡ Some p.atom) t.placed
  pub formed : IsFormed t

-- labels that grow to a trial have one
abbrev pub HasTrials : Join → Type 0
HasTrials j =
    (ls : List ℕ) → 1 ≤ length ls → Grows (MayFollow j) [] ls → (t : Trial) × IsTrialIn j ls t

-- trials of a plan begin with the active label
pub record BeginsTrials (j : Join) : Type 0 where
  pub plan : HasPlan j
  pub begins : MayFollow j [] j.active
  pub trials : HasTrials j

-- the trial of these labels has this verdict
abbrev pub AreJudged : Join → List ℕ → Verdict → Type 0
AreJudged j ls verdict = (t : Trial) → IsTrialIn j ls t → IsVerdict t verdict

-- So many trials of these labels and one more, that one from a label on, one after another:
-- misfits. The next one is looked for from another label on.
abbrev pub AreMisfits : Join → List ℕ → ℕ → ℕ → ℕ → Type 0
AreMisfits j ls zero from next = next ≡ from
AreMisfits j ls (suc n) from next =
    (middle x : ℕ) × AreMisfits j ls n from middle × LeastFrom (MayFollow j ls) middle x ×
    AreJudged j (ls ++ x ∷ []) Misfit × (next ≡ x + 1)

-- The trial that comes next at a place is judged and isn't whole, and the search goes on after it.
pub record PassesOne (s : Space) (place after : List ℕ) : Type 0 where
  pub judged : Judgement
  pub next : IsNext s place (position judged.trial)
  pub is : IsTrialOf s.rules s.plans s.store judged.trial
  pub formed : IsFormed judged.trial
  pub right : IsVerdict judged.trial judged.verdict
  pub other : judged.verdict ≢ Whole
  pub on : after ≡ after_judging judged

-- so many of them, one after another
abbrev pub Passes : Space → ℕ → List ℕ → List ℕ → Type 0
Passes s zero place after = after ≡ place
Passes s (suc n) place after =
    (middle : List ℕ) × PassesOne s place middle × Passes s n middle after

-- Of a join: the least trial at or after these labels is judged and isn't whole, and the others
-- come after it.
pub record PassesOneIn (j : Join) (place after : List ℕ) : Type 0 where
  pub trial : List ℕ
  pub least : Least (MayFollow j) 1 [] place trial
  pub verdict : Verdict
  pub right : AreJudged j trial verdict
  pub other : verdict ≢ Whole
  pub on : after ≡ after_verdict verdict trial

-- so many of them, one after another
abbrev pub PassesIn : Join → ℕ → List ℕ → List ℕ → Type 0
PassesIn j zero place after = after ≡ place
PassesIn j (suc n) place after =
    (middle : List ℕ) × PassesOneIn j place middle × PassesIn j n middle after

-- so many trials were passed over: at most as many as were asked for, as many where that is why no
-- more were, and fewer where none is left
pub record IsCounted (most : ℕ) (passed : Passed) : Type 0 where
  pub few : passed.count ≤ most
  pub enough : passed.end ≡ ends.Enough → passed.count ≡ most
  pub less : passed.end ≡ ends.NoneLeft → passed.count < most

-- the trial of these labels is whole, under this binding
abbrev pub AreWhole : Join → List ℕ → List (Option (Value ℕ)) → Type 0
AreWhole j ls binding = (t : Trial) → IsTrialIn j ls t → IsWholeUnder t binding

-- why no more trials of a join are passed over at a place: the least one is whole, with these
-- labels and this binding; none is left; or as many were passed over as were asked for, and the
-- labels are the place's
abbrev pub EndsIn : Join → List ℕ → End → List ℕ → List (Option (Value ℕ)) → Type 0
EndsIn j place ends.Whole ls binding = Least (MayFollow j) 1 [] place ls × AreWhole j ls binding
EndsIn j place ends.NoneLeft ls binding = NoneBeyond (MayFollow j) 1 [] place
EndsIn j place ends.Enough ls binding = ls ≡ place

-- so many trials of a join's plan are passed over from a place on, and how that ends
pub record PassesPlan (j : Join) (place : List ℕ) (passed : Passed) (ls : List ℕ)
    (binding : List (Option (Value ℕ))) : Type 0 where
  pub after : List ℕ
  pub passes : PassesIn j passed.count place after
  pub ends : EndsIn j after passed.end ls binding

-- what the trials of these labels and one more have in common: which variables the labels bind,
-- where the last one stands, and perhaps the labels among which it is
pub record IsLevel {Z : Type 0} (j : Join) (ls : List ℕ) (binding : List (Option (Value ℕ)))
    (level : CodeLevel Z) : Type 0 where
  pub known : AreKnown level.known binding
  pub at : IsLastHead j ls level.at
  pub partners : IfSome level.partners (GivePartners j ls)

-- where the answer is yes the label may be tried after these and this binds them all, and where it
-- is no it may not, or none may be tried after it
abbrev pub IsNarrowedIf : Join → List ℕ → ℕ → Bool → List (Option (Value ℕ)) → Type 0
IsNarrowedIf j ls l true binding = MayFollow j ls l × IsReady j (ls ++ l ∷ []) binding
IsNarrowedIf j ls l false binding = MayFollow j ls l → (x : ℕ) → MayFollow j (ls ++ l ∷ []) x → ⊥

-- the trial of these labels has this verdict, with the binding of a part, or that under which it is
-- whole
abbrev pub IsTried : Join → List ℕ → Verdict → List (Option (Value ℕ)) → Type 0
IsTried j ls Misfit binding = AreJudged j ls Misfit
IsTried j ls Part binding = AreJudged j ls Part × IsReady j ls binding
IsTried j ls Whole binding = AreWhole j ls binding

-- what comes after n misfits, where from one label on the next is looked for: a part, a whole trial
-- or none, while they are fewer than were asked for; or perhaps more, where they are as many
abbrev pub ComesNext : Join → List ℕ → ℕ → ℕ → ℕ → Next → List (Option (Value ℕ)) → Type 0
ComesNext j ls n most from (nexts.Part x) binding =
    (n < most) × LeastFrom (MayFollow j ls) from x × IsTried j (ls ++ x ∷ []) Part binding
ComesNext j ls n most from (nexts.Whole x) binding =
    (n < most) × LeastFrom (MayFollow j ls) from x × IsTried j (ls ++ x ∷ []) Whole binding
ComesNext j ls n most from nexts.NoneLeft binding = (n < most) × NoneFrom (MayFollow j ls) from
ComesNext j ls n most from nexts.Enough binding = n ≡ most

-- A place below labels: these and a rest. What comes there below them goes on with a number from
-- one on.
pub record IsBelow (j : Join) (ls place : List ℕ) (from : ℕ) : Type 0 where
  pub grows : Grows (MayFollow j) [] ls
  pub rest : List ℕ
  pub is : place ≡ ls ++ rest
  pub into : (other : List ℕ) → Beyond (MayFollow j) 1 ls rest other →
      at_or_after (from ∷ []) other ≡ true
  pub back : (other : List ℕ) → at_or_after (from ∷ []) other ≡ true → at_or_after rest other ≡ true

-- a place below labels where none is left below them
pub record IsDone (j : Join) (ls place : List ℕ) : Type 0 where
  pub rest : List ℕ
  pub is : place ≡ ls ++ rest
  pub none : NoneBeyond (MayFollow j) 1 ls rest

-- why no more trials are passed over at a place below labels: as in EndsIn, but perhaps none is
-- left only below these
abbrev pub EndsBelow : Join → List ℕ → List ℕ → End → List ℕ → List (Option (Value ℕ)) → Type 0
EndsBelow j path place ends.Whole ls binding =
    Least (MayFollow j) 1 [] place ls × AreWhole j ls binding
EndsBelow j path place ends.NoneLeft ls binding = (ls ≡ path) × IsDone j path place
EndsBelow j path place ends.Enough ls binding = ls ≡ place

-- so many trials are passed over from a place below labels on, and how that ends
pub record PassesBelow (j : Join) (path place : List ℕ) (passed : Passed) (ls : List ℕ)
    (binding : List (Option (Value ℕ))) : Type 0 where
  pub after : List ℕ
  pub passes : PassesIn j passed.count place after
  pub ends : EndsBelow j path after passed.end ls binding

-- a place just after a part of these labels and one more, which has this binding
pub record IsAfterPart (j : Join) (path : List ℕ) (x : ℕ) (place : List ℕ)
    (binding : List (Option (Value ℕ))) : Type 0 where
  pub follows : MayFollow j path x
  pub tried : IsTried j (path ++ x ∷ []) Part binding
  pub place_is : place ≡ (path ++ x ∷ []) ++ 0 ∷ []

-- the same, or else the last one is a part of these labels and one from a label on
abbrev pub StopsAt : Join → List ℕ → ℕ → Stop → List ℕ → List ℕ → List (Option (Value ℕ)) → Type 0
StopsAt j path from (stops.Part x) place ls binding =
    (ls ≡ path) × (from ≤ x) × IsAfterPart j path x place binding
StopsAt j path from (stops.End end) place ls binding = EndsBelow j path place end ls binding

-- so many trials of these labels and one from a label on are passed over from a place on, and how
-- that ends
pub record PassesLevel (j : Join) (path : List ℕ) (from : ℕ) (place : List ℕ) (n : ℕ) (stop : Stop)
    (ls : List ℕ) (binding : List (Option (Value ℕ))) : Type 0 where
  pub after : List ℕ
  pub passes : PassesIn j n place after
  pub stops : StopsAt j path from stop after ls binding

-- what was found is the next trial at a place, and it is whole under this binding
pub record IsWholeNext (s : Space) (place : List ℕ) (w : WholeTrial)
    (binding : List (Option (Value ℕ))) : Type 0 where
  pub trial : Trial
  pub next : IsNext s place (position trial)
  pub is : IsTrialOf s.rules s.plans s.store trial
  pub formed : IsFormed trial
  pub under : IsWholeUnder trial binding
  pub number_is : w.number ≡ trial.number
  pub kept_are : w.kept ≡ kept_labels trial
  pub removed_are : w.removed ≡ removed_labels trial
  pub label_is : w.past.label ≡ s.active
  -- where the active label is removed its goal ends, and where the search stands is left open
  pub past_is : among w.removed w.past.label ≡ false → w.past.place ≡ past (position trial)

-- what comes at a place once trials were passed over: one that is whole, which is this instance;
-- none; or perhaps more
abbrev pub IsThen : Space → List ℕ → CodeThen → Instance → List (Option (Value ℕ)) → Type 0
IsThen s place thens.Whole i binding = IsWholeNext s place i.whole binding
IsThen s place thens.Done i binding = NoneLeft s place
IsThen s place thens.More i binding = Unit {0}

-- where a search stands once trials were passed over: after the last of them, where perhaps more
-- come, and else where it stood before
abbrev pub left_at : CodeThen → List ℕ → List ℕ → List ℕ
left_at thens.More place after = after
left_at thens.Whole place after = place
left_at thens.Done place after = place

-- So many trials are passed over from a place on, and what comes then. The search stands here then.
pub record PassesTo (s : Space) (passed : CodePassed) (i : Instance)
    (binding : List (Option (Value ℕ))) (place here : List ℕ) : Type 0 where
  pub after : List ℕ
  pub passes : Passes s passed.count place after
  pub next : IsThen s after passed.then i binding
  pub stands : here ≡ left_at passed.then place after

-- The same, by a search that stood elsewhere and stays there but where perhaps more come.
pub record PassesFrom (s : Space) (place : List ℕ) (passed : CodePassed) (i : Instance)
    (binding : List (Option (Value ℕ))) (stood here : List ℕ) : Type 0 where
  pub after : List ℕ
  pub passes : Passes s passed.count place after
  pub next : IsThen s after passed.then i binding
  pub stands : here ≡ left_at passed.then stood after
