use Rattle.std.proofs.Common.{◌+◌, ◌-◌, ◌<◌, List, length, arith, refl, sym, subst, ◌∙◌}
use Rattle.chr_index.specs.declared.bucket.Slot.{Slot}
use Rattle.chr_index.proofs.Slots.{IsJump, alike_same, alike_set, dead_one, jumps_set, jump_alone, jump_one, jump_within, over_dead}
use Rattle.chr_index.proofs.bucket.note_begin.Goals as goal

pub returns-then-jump-lt2-clause-same : goal.returns-then-jump-lt2-clause-same
returns-then-jump-lt2-clause-same c = alike_same c.args.slots.now

pub bounds-slots-last : goal.bounds-slots-last
bounds-slots-last c = let w = jump_within c.args.slots.now c.args.start (omega (arith, c.requires.within)) c.requires.jumps in omega (arith, w, c.jump_at-jump.ensures.is, c.if-jump-lt2.false)

pub bounds-slots-last-2 : goal.bounds-slots-last-2
bounds-slots-last-2 c = let w = jump_within c.args.slots.now c.args.start (omega (arith, c.requires.within)) c.requires.jumps in omega (arith, w, c.jump_at-jump.ensures.is, c.if-jump-lt2.false)

pub returns-clause-same : goal.returns-clause-same
returns-clause-same c =
    let ss : List Slot = c.args.slots.now in
    let w = jump_within ss c.args.start (omega (arith, c.requires.within)) c.requires.jumps in
    let u : c.args.start + c.jump_at-jump.result - 1 < length ss = omega (arith, w, c.jump_at-jump.ensures.is, c.if-jump-lt2.false) in
    let dead = over_dead ss c.args.start (c.args.start + c.jump_at-jump.result - 1) (record { label = 0; run = 0 }) (omega (arith, c.if-jump-lt2.false)) (omega (arith, c.jump_at-jump.ensures.is, c.if-jump-lt2.false)) u c.requires.jumps in
    alike_set ss (c.args.start + c.jump_at-jump.result - 1) _ (record { label = 0; run = 0 }) u refl (dead ∙ sym (dead_one (2147483648 + (c.jump_at-jump.result - 1)) (omega arith)))

pub returns-clause-jumps : goal.returns-clause-jumps
returns-clause-jumps c =
    let ss : List Slot = c.args.slots.now in
    let w = jump_within ss c.args.start (omega (arith, c.requires.within)) c.requires.jumps in
    let u : c.args.start + c.jump_at-jump.result - 1 < length ss = omega (arith, w, c.jump_at-jump.ensures.is, c.if-jump-lt2.false) in
    let dead = over_dead ss c.args.start (c.args.start + c.jump_at-jump.result - 1) (record { label = 0; run = 0 }) (omega (arith, c.if-jump-lt2.false)) (omega (arith, c.jump_at-jump.ensures.is, c.if-jump-lt2.false)) u c.requires.jumps in
    jumps_set ss (c.args.start + c.jump_at-jump.result - 1) _ (record { label = 0; run = 0 }) u refl (dead ∙ sym (dead_one (2147483648 + (c.jump_at-jump.result - 1)) (omega arith)))
    (subst (IsJump ss (c.args.start + c.jump_at-jump.result - 1)) (sym (jump_one (2147483648 + (c.jump_at-jump.result - 1)) (omega arith))) (jump_alone ss (c.args.start + c.jump_at-jump.result - 1) (record { label = 0; run = 0 }) u dead)) c.requires.jumps
