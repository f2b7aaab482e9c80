use Rattle.std.proofs.Common.{◌≡◌, ℕ, ◌+◌, ◌++◌, ◌∷◌, [], List, length, take, ap, sym, subst, ◌∙◌, arith}
use Rattle.std.proofs.lemmas.List.{take_more, take_all}
use Rattle.chr_partners.specs.Partners.{IsIn}
use Rattle.chr_partners.specs.Homes.{Lists}
use Rattle.chr_partners.proofs.Completing.{AreComplete, next_label, own_entered, unlisted, no_atom}
use Rattle.chr_partners.proofs.entering.made_anew.Goals as goal
use Rattle.chr_partners.proofs.entering.made_anew.Goals.{in-Some+then-held+in_ok-enter, in-Some+else-held, in_default}

pub loop-label-init : goal.loop-label-init
loop-label-init g c = record {
  entered = λ k a j listed. elim j [ ];
  some = omega (arith, c.in_ok-homes.ensures, c.requires.some);
}

pub loop-label-preserved : goal.loop-label-preserved
loop-label-preserved g c =
    let atoms = c.args.atoms.now in
    let places = c.args.places.now in
    let label = c.from.result in
    let homes = c.loop-label.homes in
    let i = c.loop-label.label-index in
    let front = take i c.args.labels.now in
    let more : front ++ label ∷ [] ≡ take (i + 1) c.args.labels.now = ap (λ (n : ℕ). front ++ n ∷ []) c.from.ensures ∙ sym (take_more c.args.labels.now i 0 c.loop-label-test.true) in
    elim c.match-held.branch [
      | in-Some+then-held+in_ok-enter w ↦ record {
        entered = subst (λ (hs : Lists). AreComplete places atoms hs (take (i + 1) c.args.labels.now)) (sym w.homes-is) (subst (λ (ms : List ℕ). AreComplete places atoms w.enter.new.homes ms) more
            (next_label places atoms front label homes w.enter.new.homes w.in_ok-enter.ensures.all c.loop-label.invariant.entered
            (own_entered places atoms w.enter.new.homes label w.in-Some.held.now w.in-Some.ensures w.in_ok-enter.ensures.entered)));
        some = omega (arith, ap length w.homes-is, w.in_ok-enter.ensures.count, c.loop-label.invariant.some);
      }
      | in-Some+else-held w ↦ record {
        entered = subst (λ (hs : Lists). AreComplete places atoms hs (take (i + 1) c.args.labels.now)) (sym w.homes-is) (subst (λ (ms : List ℕ). AreComplete places atoms homes ms) more
            (next_label places atoms front label homes homes (λ hash l j. j) c.loop-label.invariant.entered (unlisted places atoms homes label w.in-Some.held.now w.in-Some.ensures w.if-held.false)));
        some = omega (arith, ap length w.homes-is, c.loop-label.invariant.some);
      }
      | in_default w ↦ record {
        entered = subst (λ (hs : Lists). AreComplete places atoms hs (take (i + 1) c.args.labels.now)) (sym w.homes-is) (subst (λ (ms : List ℕ). AreComplete places atoms homes ms) more
            (next_label places atoms front label homes homes (λ hash l j. j) c.loop-label.invariant.entered (no_atom places atoms homes label w.in_default.ensures)));
        some = omega (arith, ap length w.homes-is, c.loop-label.invariant.some);
      }
    ]

pub returns-clause-complete : goal.returns-clause-complete
returns-clause-complete g c l a listed =
    c.loop-label.invariant.entered l a (subst (IsIn l) (sym (take_all c.loop-label.label-index c.args.labels.now c.loop-label-test.false)) (c.requires.all l a listed)) listed
