use Rattle.std.proofs.Common.{◌≡◌, ◌≤◌, length, ap, ◌∙◌, lt_of_le_of_lt, arith}
use Rattle.std.proofs.lemmas.Result.{IfOk-weaker}
use Rattle.chr_session.specs.Lines.{line_of}
use Rattle.chr_session.specs.Parsing.{without_cr, trimmed, word_of, rest_of, parsed_of}
use Rattle.chr_session.proofs.Causes.{caused_later}
use Rattle.chr_session.proofs.FirstSpelled.{spells_long, spells_line, spells_cut_line, spells_end, long_line, long_seen, short_seen, short_rest}
use Rattle.chr_session.proofs.commands.read_command.Goals as goal

pub returns-in-TooLong-clause-received : goal.returns-in-TooLong-clause-received
returns-in-TooLong-clause-received g c = λ input a.
    let r = rw c.in-TooLong.is at (c.in_ok-read_line.ensures.line input a) in
    spells_long r.0 (omega (arith, long_line (line_of input), r.1)) r.2

pub returns-in-TooLong-clause-budget : goal.returns-in-TooLong-clause-budget
returns-in-TooLong-clause-budget g c = λ on. c.in_ok-read_line.ensures.budget (λ e. cc c.in-TooLong.is)

pub returns-in-Cut-clause-received : goal.returns-in-Cut-clause-received
returns-in-Cut-clause-received g c = λ input a. let r = rw c.in-Cut.is at (c.in_ok-read_line.ensures.line input a) in spells_cut_line r.0 r.1

pub returns-in-End-clause-received : goal.returns-in-End-clause-received
returns-in-End-clause-received g c = λ input a. spells_end (rw c.in-End.is at (c.in_ok-read_line.ensures.line input a))

pub returns-then-without_cr-gt4096-clause-received : goal.returns-then-without_cr-gt4096-clause-received
returns-then-without_cr-gt4096-clause-received g c = λ input a.
    let r = rw c.in-Whole.is at (c.in_ok-read_line.ensures.line input a) in
    spells_long r.0 (long_seen c.without_cr.ensures (c.deref.ensures.value ∙ r.1) c.if-without_cr-gt4096.true) r.3

pub returns-then-without_cr-gt4096-clause-budget : goal.returns-then-without_cr-gt4096-clause-budget
returns-then-without_cr-gt4096-clause-budget g c = λ on. c.in_ok-read_line.ensures.budget (λ e. cc c.in-Whole.is)

pub receive-requires-clause-short : goal.receive-requires-clause-short
receive-requires-clause-short g c =
    short_rest c.read_line.new.line.items (c.split_word.ensures.rest ∙ (ap rest_of c.trimmed.ensures ∙ ap (λ l. rest_of (trimmed l)) c.deref-2.ensures.value)) (short_seen c.without_cr.ensures c.deref.ensures.value c.if-without_cr-gt4096.false)

pub returns-clause-received : goal.returns-clause-received
returns-clause-received g c =
    let line = c.read_line.new.line.items in
    let word : c.split_word.result.0.now ≡ word_of (trimmed line) = c.split_word.ensures.word ∙ (ap word_of c.trimmed.ensures ∙ ap (λ l. word_of (trimmed l)) c.deref-2.ensures.value) in
    let rest : c.split_word.result.1.now ≡ rest_of (trimmed line) = c.split_word.ensures.rest ∙ (ap rest_of c.trimmed.ensures ∙ ap (λ l. rest_of (trimmed l)) c.deref-2.ensures.value) in
    let short : length (without_cr line) ≤ 4096 = short_seen c.without_cr.ensures c.deref.ensures.value c.if-without_cr-gt4096.false in
    let parse : c.parse_line.result ≡ parsed_of (word_of (trimmed line)) (rest_of (trimmed line)) = c.parse_line.ensures ∙ (ap (λ w. parsed_of w c.split_word.result.1.now) word ∙ ap (λ t. parsed_of (word_of (trimmed line)) t) rest) in
    IfOk-weaker c.receive.result _ _ (λ received first input a.
    let r = rw c.in-Whole.is at (c.in_ok-read_line.ensures.line input a) in
    spells_line line c.parse_line.result c.split_word.result.1.now r.0 r.1 short parse rest (first _ r.3)) c.receive.ensures.received

pub returns-clause-budget : goal.returns-clause-budget
returns-clause-budget g c = IfOk-weaker c.receive.result _ _ (λ received less on. lt_of_le_of_lt less (c.in_ok-read_line.ensures.budget (λ e. cc c.in-Whole.is))) c.receive.ensures.budget

pub returns-clause-cause : goal.returns-clause-cause
returns-clause-cause g c = caused_later c.receive.result c.read_line.ensures.cause.later c.receive.ensures.cause
