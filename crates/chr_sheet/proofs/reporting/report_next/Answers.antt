use Rattle.std.proofs.Common.{◌≡◌, map, ap, sym, refl, subst, ◌∙◌}
use Rattle.chr_sheet.proofs.Words.{AreRight, SearchState, Space, older, judged_at, judged_in, after_all, AreNextInOrder, Reports, listed, Judgement, IsVerdict}
use Rattle.chr_sheet.proofs.Keeping.{all_both, judged_pushed}
use Rattle.chr_sheet.proofs.Turns.{admissible_last, after_place, fireable, last_split, none_last, some_told, told_all}
use Rattle.chr_sheet.proofs.reporting.report_next.Goals.{After-count_others, in-Some, in_default}
use Rattle.chr_sheet.proofs.reporting.report_next.Goals as goal

pub go_past_some-requires : goal.go_past_some-requires
go_past_some-requires g c =
    let s : Space = older c.args.program.now c.args.plans.now c.args.store.now.entries c.args.search.now.label in
    let split = last_split c.others.result.now c.in-Some.last.now c.in-Some.ensures.value in
    let pushed = judged_pushed split.0 c.others.result.now c.in-Some.last.now split.1 in
    record {
      trials = (s, refl, admissible_last s c.args.search.now.place c.args.judgements.now c.others.result.now split.0 c.in-Some.last.now c.others.ensures.others split.1 c.requires.next);
      right = ((all_both (λ (j : Judgement). IsVerdict j.trial j.verdict) (judged_in split.0) (judged_at c.in-Some.last.now)).0 (subst AreRight (sym c.others.ensures.others ∙ pushed) c.others.ensures.right)).1;
    }

pub returns-clause-label : goal.returns-clause-label
returns-clause-label g c = elim c.match-last.branch [
  | in-Some w ↦ ap (λ (z : SearchState). z.label) w.search-is ∙ w.go_past_some.ensures.label
  | in_default w ↦ ap (λ (z : SearchState). z.label) w.search-is
]

-- the search goes on as after the last of them
goes : (g : _) (c : After-count_others g) → c.match-last.search.place ≡ after_all c.args.search.now.place c.args.judgements.now.others
goes g c =
    let place = c.args.search.now.place in
    let xs = c.others.result.now in
    let js = c.args.judgements.now.others in
    elim c.match-last.branch [
      | in-Some w ↦
          let split = last_split xs w.in-Some.last.now w.in-Some.ensures.value in
          ap (λ (z : SearchState). z.place) w.search-is ∙ w.go_past_some.ensures.place (after_all place (judged_in split.0)) ∙ after_place place xs split.0 w.in-Some.last.now js c.others.ensures.others split.1
      | in_default w ↦ ap (λ (z : SearchState). z.place) w.search-is ∙ ap (after_all place) (sym (ap judged_in (none_last xs c.last.result w.in_default.is c.last.ensures.value)) ∙ c.others.ensures.others)
    ]

told : (g : _) (c : After-count_others g) → let s = older c.args.program.now c.args.plans.now c.args.store.now.entries c.args.search.now.label in Reports s c.args.search.now.place c.args.judgements.now.others c.count_others.result c.match-last.search.place × AreNextInOrder s c.match-last.search.place (map (λ (j : Judgement). j.trial) (listed c.args.judgements.now.whole))
told g c =
    let s : Space = older c.args.program.now c.args.plans.now c.args.store.now.entries c.args.search.now.label in
    told_all s c.args.store.now (record { plans = c.requires.plans; rules = c.rules-rules.ensures.valid; entries = refl; labelled = c.next_label-given.ensures.labelled }) c.args.search.now.place c.match-last.search.place c.args.judgements.now c.count_others.result c.others.ensures.right c.others.ensures.other c.requires.next (goes g c) c.count_others.ensures

pub returns-clause-reports : goal.returns-clause-reports
returns-clause-reports g c = (told g (goal.at.returns-clause-reports g c).After-count_others).0

pub returns-clause-whole : goal.returns-clause-whole
returns-clause-whole g c =
    let s : Space = older c.args.program.now c.args.plans.now c.args.store.now.entries c.args.search.now.label in
    fireable s c.match-last.search.place c.args.judgements.now.whole c.is_some.result (some_told c.whole.result c.args.judgements.now.whole c.is_some.result c.whole.ensures.whole c.is_some.ensures) (told g (goal.at.returns-clause-whole g c).After-count_others).1
