use Rattle.std.proofs.Common.{ℕ, ◌+◌, length, ap, sym, subst, ◌∙◌}
use Rattle.std.proofs.lemmas.Bool.{false≢true}
use Rattle.chr_partners.specs.Partners.{IsIn}
use Rattle.chr_partners.specs.Homes.{Lists, is_kept, labels_at, HasAll}
use Rattle.chr_partners.proofs.Completing.{AreEntered, next_place}
use Rattle.chr_partners.proofs.entering.enter.Goals as goal
use Rattle.chr_partners.proofs.entering.enter.Goals.{then-is_kept+in_ok-put, else-is_kept}

pub returns-in_err-put-clause-all : goal.returns-in_err-put-clause-all
returns-in_err-put-clause-all g c hash l j = c.put.ensures.all hash l (c.loop-place.invariant.all hash l j)

pub loop-place-preserved : goal.loop-place-preserved
loop-place-preserved g c = elim c.if-is_kept.branch [
  | then-is_kept+in_ok-put w ↦ record {
    entered = subst (λ (hs : Lists). AreEntered c.args.places.now c.args.label c.args.atom.now hs (c.loop-place.place + 1)) (sym w.homes-is)
        (next_place c.args.places.now c.args.label c.args.atom.now c.loop-place.place c.loop-place.homes w.put.new.self w.in_ok-put.ensures.all c.loop-place.invariant.entered
        (λ kept. subst (λ (h : ℕ). IsIn c.args.label (labels_at w.put.new.self h)) w.atom_hash.ensures w.in_ok-put.ensures.put));
    all = subst (HasAll c.args.homes.now) (sym w.homes-is) (λ hash l j. w.in_ok-put.ensures.all hash l (c.loop-place.invariant.all hash l j));
    count = ap length w.homes-is ∙ w.in_ok-put.ensures.count ∙ c.loop-place.invariant.count;
  }
  | else-is_kept w ↦ record {
    entered = subst (λ (hs : Lists). AreEntered c.args.places.now c.args.label c.args.atom.now hs (c.loop-place.place + 1)) (sym w.homes-is)
        (next_place c.args.places.now c.args.label c.args.atom.now c.loop-place.place c.loop-place.homes c.loop-place.homes (λ hash l j. j) c.loop-place.invariant.entered
        (λ kept. absurd (false≢true (w.if-is_kept.ensures ∙ ap (λ (n : ℕ). is_kept c.args.places.now n c.loop-place.place) c.name.ensures ∙ kept))));
    all = subst (HasAll c.args.homes.now) (sym w.homes-is) c.loop-place.invariant.all;
    count = ap length w.homes-is ∙ c.loop-place.invariant.count;
  }
]
