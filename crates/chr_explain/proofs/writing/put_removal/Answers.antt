use Rattle.std.proofs.Common.{◌++◌, ◌∙◌, ℕ, Option, codes, slice_get, sym, ap, arith}
use Rattle.chr_explain.specs.Lines.{recorded_view, entry_words, by_words, removal_words}
use Rattle.chr_log.specs.Events.{events_of}
use Rattle.chr_explain.proofs.Known.{on_ok_from}
use Rattle.chr_explain.proofs.Lists.{after_two}
use Rattle.chr_explain.proofs.writing.put_removal.Goals as goal

pub returns : goal.returns
returns g c =
    let r = recorded_view c.args.recorded.now in
    let place = c.in-Some.place in
    let new = c.put_firing_rule.new.out.items in
    on_ok_from c.put_firing_rule.result c.put_firing_rule.ensures (λ is.
    after_two c.args.out.now.items c.extend_from_slice.new.self.items new (codes "; removed at ") _ c.in_ok-extend_from_slice.ensures.items
    (after_two c.extend_from_slice.new.self.items c.put_entry.new.out.items new (entry_words place) (by_words r (slice_get (events_of c.args.recorded.now.events.now) place)) c.in_ok-put_entry.ensures is)
    ∙ ap (λ (w : Option ℕ). c.args.out.now.items ++ removal_words r w) (sym c.in-Some.is))
