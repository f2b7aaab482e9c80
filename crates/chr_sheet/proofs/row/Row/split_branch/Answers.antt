use Rattle.std.proofs.Common.{◌≡◌, ◌∷◌, [], Some, map, length, take, slice_get, sym, ap, ◌∙◌, arith}
use Rattle.chr_sheet.proofs.Words.{length-map, lengthened, placed_as, Row, branch_trials, marked_verdict, judged_part, misfit, trials_of}
use Rattle.chr_sheet.proofs.Rows.{judged_branch, branch_there, none_before, told_some}
use Rattle.chr_sheet.specs.declared.single.Single.{Single}
use Rattle.chr_sheet.proofs.row.Row.split_branch.Goals as goal

pub returns-then-index-eq0 : goal.returns-then-index-eq0
returns-then-index-eq0 g c =
    let r : Row = c.args.self in (
      ap (λ n. take n (judged_part r.part ∷ map misfit (trials_of r))) (sym c.if-index-eq0.true),
      ap (slice_get (branch_trials r)) c.if-index-eq0.true ∙ ap (λ t. Some t) (sym c.into_part.ensures),
    )

pub cut-requires : goal.cut-requires
cut-requires g c =
    let r : Row = c.args.self in
    let count : length (trials_of r) ≡ length r.lasts = length-map r.lasts (lengthened r.part) in
    omega arith

pub returns-then-is_empty : goal.returns-then-is_empty
returns-then-is_empty g c =
    let r : Row = c.args.self in
    let k = c.in_ok-part.ensures in (
      ap (λ (s : Single _). record { trial = s.trial; verdict = marked_verdict s.is_misfit } ∷ []) c.of.ensures ∙ ap (λ t. judged_part t ∷ []) k.part_is ∙ judged_branch r [] c.args.index (omega arith) (none_before placed_as c.in_ok-part.part c.in_ok-part.before.items c.in_ok-part.before.len c.is_empty.result c.is_empty.ensures c.if-is_empty.true (omega (arith, c.in_ok-part.before.ok.0)) ∙ k.split.0),
      branch_there r c.args.index c.in_ok-part.trial (omega arith) k.split.1,
    )

pub new-requires : goal.new-requires
new-requires g c = c.in_ok-part.ensures.row (told_some placed_as c.in_ok-part.before.items c.in_ok-part.before.len c.is_empty.result c.is_empty.ensures c.if-is_empty.false (omega (arith, c.in_ok-part.before.ok.0)))

pub returns : goal.returns
returns g c =
    let r : Row = c.args.self in
    let k = c.in_ok-part.ensures in (
      ap (λ (q : Row). judged_part q.part ∷ map misfit (trials_of q)) c.new.ensures
          ∙ ap (λ t. judged_part t ∷ map misfit (trials_of (record { part = c.in_ok-part.part; lasts = map placed_as c.in_ok-part.before.items }))) k.part_is
          ∙ judged_branch r _ c.args.index (omega arith) k.split.0,
      branch_there r c.args.index c.in_ok-part.trial (omega arith) k.split.1,
    )
