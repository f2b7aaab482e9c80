use Rattle.std.proofs.Common.{◌≡◌, ℕ, ◌<◌, ◌++◌, ◌∷◌, [], List, Option, sym, ap, subst, ◌∙◌, unwrap_or}
use Rattle.std.specs.List.{AllByRecursion}
use Rattle.std.proofs.lemmas.Result.{on_ok_weaker}
use Rattle.chr_index.specs.declared.table.Link.TheVariants as links
use Rattle.chr_index.specs.Chains.{link_in, link_at}
use Rattle.chr_index.proofs.Chaining.{link_some}
use Rattle.chr_index.proofs.Indexes.{index_set, index_relinked, relinked_new, relinked_bucket, own_labels, labels_changed}
use Rattle.chr_index.proofs.index.Index.put.Goals as goal

pub invariant_of-self : goal.invariant_of-self
invariant_of-self g c = index_set c.set.result c.args.key c.self.inside.table c.set.new.self c.self.inside.buckets _ c.set.ensures.ok c.set.ensures.unchanged c.self.invariant

pub write-requires-clause-some : goal.write-requires-clause-some
write-requires-clause-some g c = link_some c.self.inside.table.entries c.place-place.result (λ h. let z : links.Alone c.in-Alone.first ≡ links.Nowhere = sym c.in-Alone.is ∙ c.link_at.ensures ∙ h in absurd (cc))

pub invariant_of-self-in-Alone : goal.invariant_of-self-in-Alone
invariant_of-self-in-Alone g c =
    let up = c.in_ok-number-in-Alone.ensures in
    index_relinked c.args.key _ c.self.inside.table c.write.new.self c.self.inside.buckets c.pair.new.buckets (relinked_new c.args.key c.in_ok-number-in-Alone.number c.self.inside.table c.write.new.self c.self.inside.buckets c.pair.new.buckets c.self.invariant _ up.vacant up.ok c.write.ensures) c.self.invariant

pub push_label-requires-clause-below : goal.push_label-requires-clause-below
push_label-requires-clause-below g c =
    let here : link_in c.self.inside.table c.args.key ≡ links.Bucket c.in-Bucket.number = sym (c.link_at.ensures ∙ ap (link_at c.self.inside.table.entries) c.place-place.ensures.key) ∙ c.in-Bucket.is in
    subst (AllByRecursion (λ (m : ℕ). m < c.args.label)) (own_labels c.self.inside.table c.self.inside.buckets c.args.self.now c.self.view_is c.args.key (links.Bucket c.in-Bucket.number) here) c.requires.below

pub returns-in_ok-number-in-Alone-clause-ok : goal.returns-in_ok-number-in-Alone-clause-ok
returns-in_ok-number-in-Alone-clause-ok g c =
    let up = c.in_ok-number-in-Alone.ensures in
    let here : link_in c.self.inside.table c.args.key ≡ links.Alone c.in-Alone.first = sym (c.link_at.ensures ∙ ap (link_at c.self.inside.table.entries) c.place-place.ensures.key) ∙ c.in-Alone.is in
    labels_changed c.self.inside.table c.self.inside.buckets c.args.self.now c.self.view_is c.args.key (λ (ms : List ℕ). ms ++ c.args.label ∷ []) (links.Alone c.in-Alone.first) (links.Bucket c.in_ok-number-in-Alone.number) c.write.new.self c.pair.new.buckets here
    (relinked_new c.args.key c.in_ok-number-in-Alone.number c.self.inside.table c.write.new.self c.self.inside.buckets c.pair.new.buckets c.self.invariant _ up.vacant up.ok c.write.ensures)
    (ap (λ (o : Option (List ℕ)). unwrap_or o []) up.ok.changed ∙ ap (λ (z : ℕ). z ∷ c.args.label ∷ []) c.from.ensures)

pub returns-in-Bucket-clause-ok : goal.returns-in-Bucket-clause-ok
returns-in-Bucket-clause-ok g c =
    let here : link_in c.self.inside.table c.args.key ≡ links.Bucket c.in-Bucket.number = sym (c.link_at.ensures ∙ ap (link_at c.self.inside.table.entries) c.place-place.ensures.key) ∙ c.in-Bucket.is in
    on_ok_weaker c.push_label.result (λ up. labels_changed c.self.inside.table c.self.inside.buckets c.args.self.now c.self.view_is c.args.key (λ (ms : List ℕ). ms ++ c.args.label ∷ []) (links.Bucket c.in-Bucket.number) (links.Bucket c.in-Bucket.number) c.self.inside.table c.push_label.new.buckets here
    (relinked_bucket c.args.key c.in-Bucket.number c.self.inside.table c.self.inside.table c.self.inside.buckets c.push_label.new.buckets c.self.invariant _ here up) (ap (λ (o : Option (List ℕ)). unwrap_or o []) up.changed)) c.push_label.ensures.ok
