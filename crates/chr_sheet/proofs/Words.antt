-- The words that the proofs of this crate use, each from where it is defined.
pub use Rattle.chr_rule.specs.Rules.{heads_of, Simpagation, rule_at}
pub use Rattle.chr_search.specs.Fronts.{lengthened, MayEnd, IsEndFrom, IsFront, IsPlacedAfter, trial_alone, ComeAfter, IsFitted}
pub use Rattle.chr_search.specs.Judged.{Judgement, IsVerdict, IsSettledUnder}
pub use Rattle.chr_search.specs.Placed.{placed_as}
pub use Rattle.chr_search.specs.Positions.{just_after, past, begins, at_or_after}
pub use Rattle.chr_search.specs.Reach.{SearchState}
pub use Rattle.chr_search.specs.Trials.{Space, older, IsNext, IsTrial, NoneLeft, Child, join_in, Join, IsPlanned}
pub use Rattle.chr_search.specs.Verdicts.{Trial, Placed, position, labels, IsTrialOf, IsFormed, IsPart, heads, IsWholeUnder, at_heads}
pub use Rattle.chr_search.specs.declared.judged.Verdict.TheVariants.{Whole, Part, Misfit}
pub use Rattle.chr_sheet.specs.Beside.{last_of, AreEnds, next_from, ComeNext, AreInTurn, IsLastAtHead, EndHead}
pub use Rattle.chr_sheet.specs.Columns.{column_trials, Head, Column, at_head, IsColumn, AreNextHeads, head_in, rule_or_none}
pub use Rattle.chr_sheet.specs.Kept.{trials_at, trials_in, marked_verdict, judged_at, judged_in}
pub use Rattle.chr_sheet.specs.Rows.{trials_of, misfit, Row, IsRow, judged_part, listed, branch_trials, AreMisfits, AreRight, MustBeWhole, JudgedSheet, judgements_of, AreMisfitsUpTo, IsSettledAt, kept_before}
pub use Rattle.chr_sheet.specs.Settings.{space_in}
pub use Rattle.chr_sheet.specs.Sheets.{AreJudgedInOrder, AreNext, AreNextTogether, IsNextTrial, IsFrontOf, Reports, done, moves, passes, place_after, AreNextInOrder, after_all, IsFireable}
pub use Rattle.std.proofs.lemmas.List.{append-nil, take_more, length-map, take-map, take-append-drop, map_push, same_from_push, map-append, length_push, get_or-map, take_all}
pub use Rattle.std.specs.Arc.{arc_value}
pub use Rattle.std.specs.Bool.{⊤}
pub use Rattle.std.specs.List.{AllByRecursion}
