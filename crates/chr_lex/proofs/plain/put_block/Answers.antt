use Rattle.std.proofs.Common.{◌≡◌, ◌≤◌, ◌+◌, ◌-◌, ◌++◌, ◌∷◌, [], ℕ, List, true, length, take, drop, ap, ◌∙◌, arith}
use Rattle.chr_lex.specs.Plain.{closes, before_close, line_ends}
use Rattle.chr_lex.proofs.Replaced.{block_written}
use Rattle.chr_lex.proofs.Lexing.{rest_of}
use Rattle.chr_lex.proofs.plain.put_block.Goals as goal

pub returns-in_ok-put_line_ends-in-Some : goal.returns-in_ok-put_line_ends-in-Some
returns-in_ok-put_line_ends-in-Some g c =
    let text = c.args.text.now in
    let n = c.in-Some.len in
    let h : (closes (drop 1 text) ≡ true) × (n ≤ length (drop 1 text)) × (take n (drop 1 text) ≡ before_close (drop 1 text)) = rw (rest_of 1 text) at c.in-Some.ensures in
    let count : n + 1 - 1 ≡ n = omega arith in
    let grown = c.in_ok-put_line_ends-in-Some.ensures ∙ ap (λ (r : List ℕ). r ++ line_ends (take (n + 1 - 1) (drop 1 text))) c.in_ok-push-in-Some.ensures.items in
    let all = block_written c.args.out.now.items c.put_line_ends.new.out.items n text c.requires h.0 h.1 h.2 (grown ∙ ap (λ (k : ℕ). (c.args.out.now.items ++ 1 ∷ []) ++ line_ends (take k (drop 1 text))) count) in
    record { same = all.0; fits = all.1; room = all.2 }
