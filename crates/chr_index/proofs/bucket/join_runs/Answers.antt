use Rattle.std.proofs.Common.{ℕ, ◌+◌, ◌<◌, ◌≤◌, length, List, arith, refl, sym, subst, ◌∙◌}
use Rattle.chr_index.specs.declared.bucket.Slot.{Slot}
use Rattle.chr_index.specs.Buckets.{jump_at}
use Rattle.chr_index.proofs.Slots.{IsJump, alike_set, alike_trans, jumps_set, jump_both, jump_low, dead_one, over_dead}
use Rattle.chr_index.proofs.bucket.join_runs.Goals as goal

pub note_begin-requires-2-clause-jumps : goal.note_begin-requires-2-clause-jumps
note_begin-requires-2-clause-jumps c =
    let ss : List Slot = c.args.slots.now in
    let i : ℕ = c.in-Some.start in
    let d : Slot = record { label = 0; run = 0 } in
    let u : i < length ss = omega (arith, c.in-Some.ensures.before, c.requires.within) in
    let some : 0 < jump_at ss i = omega (arith, c.in-Some.ensures.run, c.in-Some.ensures.before) in
    let dead = over_dead ss i i d (omega arith) (omega (arith, some)) u c.requires.jumps in
    let both : c.min.result ≤ jump_at ss i + jump_at ss c.args.place = omega (arith, c.min.ensures, c.jump_at.ensures.is, c.jump_at-2.ensures.is) in
    jumps_set ss i _ d u refl (dead ∙ sym (dead_one c.min.result (omega (arith, some, c.min.ensures, c.jump_at.ensures.is))))
    (subst (IsJump ss i) (sym (jump_low c.min.result (omega (arith, c.min.ensures)))) (jump_both ss i c.args.place c.min.result (omega (arith, c.in-Some.ensures.before)) (omega (arith, c.requires.within)) c.in-Some.ensures.run both c.requires.jumps))
    c.requires.jumps

pub returns-clause-same : goal.returns-clause-same
returns-clause-same c =
    let ss : List Slot = c.args.slots.now in
    let i : ℕ = c.in-Some.start in
    let d : Slot = record { label = 0; run = 0 } in
    let u : i < length ss = omega (arith, c.in-Some.ensures.before, c.requires.within) in
    let some : 0 < jump_at ss i = omega (arith, c.in-Some.ensures.run, c.in-Some.ensures.before) in
    let dead = over_dead ss i i d (omega arith) (omega (arith, some)) u c.requires.jumps in
    alike_trans ss _ c.note_begin-2.new.slots (alike_set ss i _ d u refl (dead ∙ sym (dead_one c.min.result (omega (arith, some, c.min.ensures, c.jump_at.ensures.is))))) c.note_begin-2.ensures.same
