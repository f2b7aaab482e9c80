use Rattle.std.proofs.Common.{◌<◌, length, map, Some, arith, sym, subst}
use Rattle.std.proofs.lemmas.List.{length-map}
use Rattle.chr_rule.specs.Parts.{shape}
use Rattle.chr_guard.specs.Instances.{atom_under}
use Rattle.chr_guard.proofs.Scoped.{IsPlaced}
use Rattle.chr_guard.proofs.Steps.{all_at, map_read, read_more, read_stop, read_end}
use Rattle.chr_guard.proofs.matching.fit_heads.Goals as goal

pub fit_head-requires : goal.fit_head-requires
fit_head-requires g c =
    let heads = c.args.heads.now in
    let here : c.loop-i.i < length heads = omega arith in
    let there : c.loop-i.i < length (map shape heads) = rw length-map here in
    let placed = (all_at (IsPlaced (length c.args.binding.now)) (map shape heads) c.loop-i.i (shape c.index-heads-i.result) there (map_read shape heads c.loop-i.i c.index-heads-i.result here c.index-heads-i.is) c.requires).1 in
    (omega arith, subst (λ n. IsPlaced n (shape c.index-heads-i.result)) (sym c.loop-i.invariant.places) placed)

pub returns-then-not-fit_head : goal.returns-then-not-fit_head
returns-then-not-fit_head g c =
    read_stop atom_under shape (λ a. Some a.now) c.args.heads.now c.args.atoms.now c.loop-i.i c.index-heads-i.result c.index-atoms-i.result (omega arith) (omega arith) c.index-heads-i.is c.index-atoms-i.is c.args.binding.now c.loop-i.binding c.loop-i.invariant (c.if-not-fit_head.ensures.narrows)

pub loop-i-preserved : goal.loop-i-preserved
loop-i-preserved g c =
    read_more atom_under shape (λ a. Some a.now) c.args.heads.now c.args.atoms.now c.loop-i.i c.index-heads-i.result c.index-atoms-i.result (omega arith) (omega arith) c.index-heads-i.is c.index-atoms-i.is c.args.binding.now c.loop-i.binding c.fit_head.new.binding c.loop-i.invariant (c.if-not-fit_head.ensures.narrows)

pub returns : goal.returns
returns g c =
    read_end atom_under shape (λ a. Some a.now) c.args.heads.now c.args.atoms.now c.loop-i.i c.args.binding.now c.loop-i.binding (omega arith) (omega arith) c.loop-i.invariant
