use Rattle.std.proofs.Common.{◌≡◌, ℕ, List, [], Option, sym, ap, ◌∙◌, unwrap_or}
use Rattle.chr_index.specs.declared.table.Link.TheVariants as links
use Rattle.chr_index.specs.Buckets.{drop_number}
use Rattle.chr_index.specs.Chains.{link_in, link_at}
use Rattle.chr_index.proofs.Chaining.{link_some}
use Rattle.chr_index.proofs.Indexes.{index_relinked, relinked_nowhere, relinked_bucket, relinked_gone, labels_changed}
use Rattle.chr_index.proofs.index.Index.take.Goals as goal

pub write-requires-clause-some : goal.write-requires-clause-some
write-requires-clause-some g c = link_some c.self.inside.table.entries c.place-place.result (λ h. let z : links.Alone c.in-Alone.only ≡ links.Nowhere = sym c.in-Alone.is ∙ c.link_at.ensures ∙ h in absurd (cc))

pub invariant_of-self : goal.invariant_of-self
invariant_of-self g c =
    index_relinked c.args.key links.Nowhere c.self.inside.table c.write.new.self c.self.inside.buckets c.self.inside.buckets (relinked_nowhere c.args.key c.self.inside.table c.write.new.self c.self.inside.buckets c.write.ensures) c.self.invariant

pub write-requires-then-take_label-clause-some : goal.write-requires-then-take_label-clause-some
write-requires-then-take_label-clause-some g c = link_some c.self.inside.table.entries c.place-place.result (λ h. let z : links.Bucket c.in-Bucket.number ≡ links.Nowhere = sym c.in-Bucket.is ∙ c.link_at.ensures ∙ h in absurd (cc))

pub invariant_of-self-then-take_label : goal.invariant_of-self-then-take_label
invariant_of-self-then-take_label g c =
    let here : link_in c.self.inside.table c.args.key ≡ links.Bucket c.in-Bucket.number = sym (c.link_at.ensures ∙ ap (link_at c.self.inside.table.entries) c.place-place.ensures.key) ∙ c.in-Bucket.is in
    index_relinked c.args.key links.Nowhere c.self.inside.table c.write-then-take_label.new.self c.self.inside.buckets c.take_label.new.buckets
    (relinked_gone c.args.key c.in-Bucket.number c.self.inside.table c.write-then-take_label.new.self c.self.inside.buckets c.take_label.new.buckets c.self.invariant here (c.take_label.ensures.gone c.if-take_label.true) c.write-then-take_label.ensures) c.self.invariant

pub returns-else-take_label : goal.returns-else-take_label
returns-else-take_label g c =
    let here : link_in c.self.inside.table c.args.key ≡ links.Bucket c.in-Bucket.number = sym (c.link_at.ensures ∙ ap (link_at c.self.inside.table.entries) c.place-place.ensures.key) ∙ c.in-Bucket.is in
    let up = c.take_label.ensures.kept c.if-take_label.false in
    labels_changed c.self.inside.table c.self.inside.buckets c.args.self.now c.self.view_is c.args.key (drop_number c.args.label) (links.Bucket c.in-Bucket.number) (links.Bucket c.in-Bucket.number) c.self.inside.table c.take_label.new.buckets here
    (relinked_bucket c.args.key c.in-Bucket.number c.self.inside.table c.self.inside.table c.self.inside.buckets c.take_label.new.buckets c.self.invariant _ here up) (ap (λ (o : Option (List ℕ)). unwrap_or o []) up.changed)
