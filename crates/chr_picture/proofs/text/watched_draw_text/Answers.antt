use Rattle.std.proofs.Common.{◌≡◌, Ok, List, ℕ, subst}
use Rattle.chr_text.specs.Reading.{program_of}
use Rattle.chr_picture.proofs.text.watched_draw_text.Goals as goal

pub returns-in-Ok : goal.returns-in-Ok
returns-in-Ok g c =
    c.draw_read.ensures c.args.program.now (subst (λ (t : List (List ℕ)). program_of t c.args.program.now ≡ Ok (c.in-Ok.rules, c.read_program.new.names)) c.new-names.ensures c.in-Ok.ensures.reads)
