use Rattle.std.proofs.Common.{◌++◌, List, ℕ, ap, ◌∙◌}
use Rattle.chr_check_text.specs.Output.{place_word, kind_word}
use Rattle.std.specs.Fmt.{decimal}
use Rattle.chr_check_text.proofs.Written.{refusal_written}
use Rattle.chr_check_text.proofs.writing.write_refusal.Goals as goal

pub returns : goal.returns
returns g c =
    refusal_written c.args.out.now.items _ (place_word c.args.fault.place) (decimal c.args.fault.line) (kind_word c.args.fault.kind) c.extend_from_slice.new.self.items c.extend_from_slice-2.new.self.items c.push.new.self.items c.put_number.new.out.items c.push-2.new.self.items c.extend_from_slice-3.new.self.items c.push-3.new.self.items
    c.in_ok-extend_from_slice.ensures.items
    (c.in_ok-extend_from_slice-2.ensures.items ∙ ap (λ (w : List ℕ). c.extend_from_slice.new.self.items ++ w) c.place_word.ensures)
    c.in_ok-push.ensures.items
    c.in_ok-put_number.ensures.writes
    c.in_ok-push-2.ensures.items
    (c.in_ok-extend_from_slice-3.ensures.items ∙ ap (λ (w : List ℕ). c.push-2.new.self.items ++ w) c.kind_word.ensures)
    c.in_ok-push-3.ensures.items
