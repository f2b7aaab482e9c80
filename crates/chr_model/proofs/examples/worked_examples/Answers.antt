use Rattle.std.proofs.Common.{[], ◌∷◌, drop, refl, true≢false}
use Rattle.chr_log.specs.declared.events.Version.TheVariants.{One, Two}
use Rattle.chr_model.specs.Goals.{Plain, Numbered, Ended, start}
use Rattle.chr_model.specs.Steps.{posted, activated, ended}
use Rattle.chr_model.specs.Programs.{Instances}
use Rattle.chr_model.specs.Examples.{of, gcd, gcd_rules, gcd_log, gcd_log_early_drop, pair_rules, pair_log, min_rules, min_log, token, token_rules, token_log_two, token_log_strict}
use Rattle.chr_model.proofs.Worked.{after_post, after_activate, after_drop, drop_allowed, drop_final, quiet, gcd_alone, gcd_nine_six, gcd_six_three, gcd_three_zero, pair_alone, pair_fires, one_label, min_alone, min_fires, token_fires, token_alone, token_partner, token_done}
use Rattle.chr_model.proofs.Strict.{◌▸◌, post, activate, simplify, propagate}
use Rattle.chr_model.proofs.examples.worked_examples.Goals as goal

pub returns-clause-gcd : goal.returns-clause-gcd
returns-clause-gcd c =
    quiet One gcd_rules gcd_log 5 ((3, gcd 3) ∷ [])
    (post refl ▸ post refl
    ▸ activate refl refl ▸ drop_final refl (gcd_alone 1 9 (λ e. (cc)))
    ▸ activate refl refl ▸ propagate refl refl gcd_nine_six ▸ drop_final refl (gcd_alone 2 6 (λ e. (cc)))
    ▸ activate refl refl ▸ propagate refl refl gcd_six_three ▸ drop_final refl (gcd_alone 3 3 (λ e. (cc)))
    ▸ activate refl refl ▸ simplify refl refl gcd_three_zero
    ▸ refl)

pub returns-clause-pair : goal.returns-clause-pair
returns-clause-pair c =
    quiet One pair_rules pair_log 4 ((3, of 1 1) ∷ [])
    (post refl ▸ post refl
    ▸ activate refl refl ▸ drop_final refl (pair_alone 1 (of 0 1))
    ▸ activate refl refl ▸ simplify refl refl pair_fires
    ▸ activate refl refl ▸ drop_final refl (pair_alone 3 (of 1 1))
    ▸ refl)

pub returns-clause-min : goal.returns-clause-min
returns-clause-min c =
    quiet One min_rules min_log 5 ((4, of 0 1) ∷ [])
    (post refl ▸ post refl ▸ post refl ▸ post refl
    ▸ activate refl refl ▸ drop_final refl (min_alone 1 (of 0 3))
    ▸ activate refl refl ▸ propagate refl refl (min_fires ((1, of 0 3) ∷ (2, of 0 1) ∷ []) 2 1 3 refl refl refl refl) ▸ drop_final refl (min_alone 2 (of 0 1))
    ▸ activate refl refl ▸ simplify refl refl (min_fires ((2, of 0 1) ∷ (3, of 0 2) ∷ []) 2 3 2 refl refl refl refl)
    ▸ activate refl refl ▸ propagate refl refl (min_fires ((2, of 0 1) ∷ (4, of 0 1) ∷ []) 4 2 1 refl refl refl refl) ▸ drop_final refl (min_alone 4 (of 0 1))
    ▸ refl)

pub returns-clause-token : goal.returns-clause-token
returns-clause-token c = (
  record { goals = Ended ∷ Ended ∷ Numbered 2 ∷ Plain (of 2 1) ∷ []; store = (2, token) ∷ []; next = 3 },
  post refl ▸ post refl ▸ activate refl refl ▸ activate refl refl ▸ simplify refl refl token_fires ▸ refl,
  refl,
)

pub returns-clause-token_two : goal.returns-clause-token_two
returns-clause-token_two c =
    quiet Two token_rules token_log_two 4 ((2, token) ∷ (3, of 2 1) ∷ [])
    (post refl ▸ post refl ▸ activate refl refl ▸ activate refl refl
    ▸ (_, record { label = 1; numbered = refl; done = λ r kept removed body i h. (2, token_partner r kept removed body i, (λ e. (cc)), (2, refl)); after = refl })
    ▸ propagate refl refl token_fires ▸ drop_final refl (token_alone 2 token)
    ▸ activate refl refl ▸ drop_final refl token_done
    ▸ refl)

pub returns-clause-token_strict : goal.returns-clause-token_strict
returns-clause-token_strict c =
    quiet One token_rules token_log_strict 4 ((2, token) ∷ (3, of 2 1) ∷ [])
    (post refl ▸ post refl ▸ activate refl refl ▸ activate refl refl ▸ propagate refl refl token_fires
    ▸ activate refl refl ▸ drop_final refl token_done ▸ drop_final refl token_done ▸ drop_final refl token_done
    ▸ refl)

pub returns-clause-early_drop : goal.returns-clause-early_drop
returns-clause-early_drop c = λ last run.
    let I = Instances gcd_rules in
    let both = posted (posted start (gcd 9)) (gcd 6) in
    let first = ended (activated both 1 (gcd 9)) 1 in
    let p = after_post One I start 1 (gcd 9) (drop 1 gcd_log_early_drop) last run in
    let q = after_post One I (posted start (gcd 9)) 2 (gcd 6) (drop 2 gcd_log_early_drop) last p in
    let a = after_activate One I both 1 1 (gcd 9) (drop 3 gcd_log_early_drop) last refl q in
    let d = after_drop One I (activated both 1 (gcd 9)) 1 (drop 4 gcd_log_early_drop) last a in
    let b = after_activate One I first 2 2 (gcd 6) (drop 5 gcd_log_early_drop) last refl d in
    let m = drop_allowed One I (activated first 2 (gcd 6)) 2 2 (drop 6 gcd_log_early_drop) last refl b in
    true≢false (m 2 (2 ∷ []) (1 ∷ []) (gcd 3 ∷ []) gcd_nine_six)

pub returns-clause-one_label : goal.returns-clause-one_label
returns-clause-one_label c = λ v last run. one_label v run.0 last run.2

pub returns-clause-two_is_not_one : goal.returns-clause-two_is_not_one
returns-clause-two_is_not_one c = λ last run.
    let I = Instances token_rules in
    let p = after_post One I start 1 (of 1 1) (drop 1 token_log_two) last run in
    let q = after_post One I (posted start (of 1 1)) 2 token (drop 2 token_log_two) last p in
    let s = posted (posted start (of 1 1)) token in
    let a = after_activate One I s 1 1 (of 1 1) (drop 3 token_log_two) last refl q in
    let b = after_activate One I (activated s 1 (of 1 1)) 2 2 token (drop 4 token_log_two) last refl a in
    let m = drop_allowed One I (activated (activated s 1 (of 1 1)) 2 token) 1 1 (drop 5 token_log_two) last refl b in
    true≢false (m 1 (2 ∷ []) (1 ∷ []) (of 2 1 ∷ []) token_fires)
