use Rattle.std.proofs.Common.{◌≡◌, ℕ, suc, false, List, arith, refl, sym, ap, take, slice_set, get_or, ◌∙◌, add-one}
use Rattle.chr_index.specs.declared.bucket.Slot.{Slot}
use Rattle.chr_index.specs.Buckets.{is_live, jump_of, jump_at}
use Rattle.chr_index.proofs.Slots.{struck, rise_struck, front_struck, alike_living, alike_take, alike_rise, jumps_struck, jump_low, dead_one, label_at}
use Rattle.chr_index.proofs.bucket.mark_dead.Goals as goal

pub join_runs-requires-clause-jumps : goal.join_runs-requires-clause-jumps
join_runs-requires-clause-jumps c =
    let ss : List Slot = c.args.slots.now in
    let l : ℕ = (get_or ss c.args.place (record { label = 0; run = 0 })).label in
    let t : Slot = record { label = l; run = c.min.result } in
    let next : c.jump_at-jump.result ≡ jump_at ss (suc c.args.place) = c.jump_at-jump.ensures.is ∙ ap (λ (n : ℕ). jump_at ss n) (add-one c.args.place) in
    let jump : jump_of t ≡ c.min.result = jump_low c.min.result (omega (arith, c.min.ensures)) in
    jumps_struck ss c.args.place t (dead_one _ (omega (arith, c.min.ensures))) (omega (arith, next, jump, c.min.ensures)) c.requires.jumps

pub returns-clause-live_labels : goal.returns-clause-live_labels
returns-clause-live_labels c = λ label there.
    let ss : List Slot = c.args.slots.now in
    let t : Slot = record { label = (get_or ss c.args.place (record { label = 0; run = 0 })).label; run = c.min.result } in
    let dead : is_live t ≡ false = dead_one _ (omega (arith, c.min.ensures)) in
    sym (alike_living (slice_set ss c.args.place t) c.join_runs.new.slots c.join_runs.ensures.same) ∙ struck ss c.args.place label t dead c.requires.rising there

pub returns-clause-rising : goal.returns-clause-rising
returns-clause-rising c =
    let ss : List Slot = c.args.slots.now in
    let l : ℕ = (get_or ss c.args.place (record { label = 0; run = 0 })).label in
    let t : Slot = record { label = l; run = c.min.result } in
    alike_rise (slice_set ss c.args.place t) c.join_runs.new.slots c.join_runs.ensures.same (rise_struck ss c.args.place l t refl (label_at ss c.args.place l (record { label = 0; run = 0 }) c.requires.within refl) c.requires.rising)

pub returns-clause-front : goal.returns-clause-front
returns-clause-front c = λ f h.
    let ss : List Slot = c.args.slots.now in
    let t : Slot = record { label = (get_or ss c.args.place (record { label = 0; run = 0 })).label; run = c.min.result } in
    let dead : is_live t ≡ false = dead_one _ (omega (arith, c.min.ensures)) in
    sym (alike_living (take f (slice_set ss c.args.place t)) (take f c.join_runs.new.slots) (alike_take (slice_set ss c.args.place t) c.join_runs.new.slots f c.join_runs.ensures.same)) ∙ front_struck ss f c.args.place t dead h
