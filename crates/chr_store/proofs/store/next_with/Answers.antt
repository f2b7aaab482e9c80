use Rattle.std.proofs.Common.{List, ℕ, subst, sym, ◌∙◌, Some, None}
use Rattle.std.proofs.lemmas.Bool.{false≢true}
use Rattle.chr_value.specs.Atoms.{said}
use Rattle.chr_index.specs.Buckets.{IsLeastBetween}
use Rattle.chr_store.proofs.Stored.{passed_more, passed_found, passed_all}
use Rattle.chr_store.proofs.store.next_with.Goals as goal

pub loop-label-preserved : goal.loop-label-preserved
loop-label-preserved g c =
    record {
      same = c.next_at.ensures.same ∙ c.loop-label.invariant.same;
      passed = passed_more c.args.atoms.now.entries c.args.place (said c.args.value.now) c.args.labels c.args.after c.args.below c.loop-label.from c.in-Some.label c.loop-label.invariant.passed
          (subst (λ (ms : List ℕ). IsLeastBetween ms c.loop-label.from c.args.below (Some c.in-Some.label)) c.loop-label.invariant.same c.in-Some.ensures.least) (λ h. false≢true (sym c.if-label_has.false ∙ c.label_has.ensures.1 h));
    }

pub returns-then-label_has : goal.returns-then-label_has
returns-then-label_has g c =
    passed_found c.args.atoms.now.entries c.args.place (said c.args.value.now) c.args.labels c.args.after c.args.below c.loop-label.from c.in-Some.label c.loop-label.invariant.passed
    (subst (λ (ms : List ℕ). IsLeastBetween ms c.loop-label.from c.args.below (Some c.in-Some.label)) c.loop-label.invariant.same c.in-Some.ensures.least) (c.label_has.ensures.0 c.if-label_has.true)

pub returns : goal.returns
returns g c =
    passed_all c.args.atoms.now.entries c.args.place (said c.args.value.now) c.args.labels c.args.after c.args.below c.loop-label.from c.loop-label.invariant.passed
    (subst (λ (ms : List ℕ). IsLeastBetween ms c.loop-label.from c.args.below None) c.loop-label.invariant.same c.in_default.ensures.least)
