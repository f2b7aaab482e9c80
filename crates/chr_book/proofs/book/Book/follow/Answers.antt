use Rattle.std.proofs.Common.{◌≡◌, ◌∙◌, Some, None, MatchOption, sym, subst, true≢false}
use Rattle.std.specs.Bool.{⊤}
use Rattle.chr_search.specs.Judged.{Judgement}
use Rattle.chr_search.specs.declared.judged.Verdict.TheVariants.{Whole}
use Rattle.chr_sheet.specs.Rows.{judgements_of}
use Rattle.chr_book.proofs.Sheets.{not_told, whole_fires, whole_stays}
use Rattle.chr_book.proofs.book.Book.follow.Goals as goal

pub returns-in_default : goal.returns-in_default
returns-in_default g c =
    let sheet = c.args.judgements.now in
    c.give_or_drop.ensures (judgements_of sheet) (not_told c.args.self.now c.args.seat c.args.ticket sheet c.args.whole_is_next c.requires (λ j is told. let none : None ≡ sheet.whole = c.in_default.ensures.whole in absurd (cc)))

pub returns-then-not-whole_is_next : goal.returns-then-not-whole_is_next
returns-then-not-whole_is_next g c =
    let sheet = c.args.judgements.now in
    c.give_or_drop-then-not-whole_is_next.ensures (judgements_of sheet) (not_told c.args.self.now c.args.seat c.args.ticket sheet c.args.whole_is_next c.requires (λ j is told. true≢false (sym told ∙ c.if-not-whole_is_next.true)))

pub returns-in-Ok : goal.returns-in-Ok
returns-in-Ok g c =
    let sheet = c.args.judgements.now in
    let j : Judgement = c.in-Some.whole.now in
    let is : sheet.whole ≡ Some j = sym c.in-Some.ensures.whole in
    let whole : j.verdict ≡ Whole = subst (λ w. MatchOption w ⊤ (λ i. i.verdict ≡ Whole)) is c.in-Some.ensures.verdict in
    whole_fires c.args.self.now c.fire_next.new.self c.args.seat c.args.ticket c.args.most sheet j c.in-Ok.fired is whole (c.requires.told_next j is c.if-not-whole_is_next.false) c.in-Ok.ensures

pub returns-in-Err : goal.returns-in-Err
returns-in-Err g c =
    let sheet = c.args.judgements.now in
    let j : Judgement = c.in-Some.whole.now in
    let is : sheet.whole ≡ Some j = sym c.in-Some.ensures.whole in
    whole_stays c.args.self.now c.fire_next.new.self c.args.seat c.args.ticket c.args.most (judgements_of sheet) j (c.requires.told_next j is c.if-not-whole_is_next.false) c.in-Err.ensures
