use Rattle.std.proofs.Common.{◌≡◌, ◌<◌, length, false, None, Some, refl, sym, ◌∙◌, arith}
use Rattle.std.proofs.lemmas.Bool.{false≢true}
use Rattle.std.specs.Option.{is_some}
use Rattle.chr_tickets.specs.Listed.{Slot}
use Rattle.chr_tickets.proofs.Ends.{over_empty}
use Rattle.chr_tickets.proofs.slots.next_open.Goals as goal

is_empty : {Z : Type 0} (slot : Slot Z) → is_some slot ≡ false → slot ≡ None
is_empty None e = refl
is_empty (Some x) e = absurd (false≢true (sym e))

pub loop-gone-preserved : goal.loop-gone-preserved
loop-gone-preserved g c =
    let ok = c.args.slots.now.ok in
    let within : c.loop-gone.gone < length c.args.slots.now.items = (let test = c.loop-gone-test.true in omega arith) in
    record {
      listed = λ first. over_empty first c.loop-gone.gone c.args.slots.now.items c.index.result.now within (is_empty c.index.result.now (c.if-is_none.ensures)) c.index.ensures ∙ c.loop-gone.invariant.listed first;
      on = (let on = c.loop-gone.invariant.on in omega arith);
      within = omega arith;
    }
