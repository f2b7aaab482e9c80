use Rattle.std.proofs.Common.{refl, ap, ◌∙◌, ◌<◌, length, arith}
use Rattle.std.proofs.lemmas.Option.{slice_get-get_or}
use Rattle.chr_index.specs.declared.table.Entry.{Entry}
use Rattle.chr_index.specs.declared.table.Kind.TheVariants as kinds
use Rattle.chr_index.specs.declared.table.State.TheVariants as states
use Rattle.chr_index.specs.Chains.{home}
use Rattle.chr_index.proofs.Chaining.{chained_more}
use Rattle.chr_index.proofs.table.chain_all.Goals as goal

abbrev none : Entry
none = record { low = 0; high = 0; link = 0; next = 0; kind = kinds.Int; state = states.Bare }

pub loop-i-preserved : goal.loop-i-preserved
loop-i-preserved c =
    let there : c.loop-i.i < length c.loop-i.entries = omega arith in
    let within : c.home-home.result < length c.loop-i.chains = omega (arith, c.home-home.ensures, c.requires.homes c.key.result) in
    chained_more c.args.shift c.loop-i.i c.home-home.result c.loop-i.chains c.args.entries.now c.loop-i.entries _ _ (slice_get-get_or c.loop-i.entries c.loop-i.i none there) refl refl refl (c.home-home.ensures ∙ ap (home c.args.shift) c.key.ensures) within c.loop-i.invariant
