use Rattle.std.proofs.Common.{ℕ, List, [], ◌∷◌, ◌++◌, drop, refl, sym, ap, subst, ◌∙◌, arith}
use Rattle.chr_search.specs.Joined.{join_of}
use Rattle.chr_search.specs.Partners.{IsReady, IsLastHead}
use Rattle.chr_search.specs.Passing.{IsTrialIn, IsTried}
use Rattle.chr_search.specs.Tree.{Grows}
use Rattle.chr_search.specs.Trials.{MayFollow}
use Rattle.chr_search.specs.Verdicts.{Trial}
use Rattle.chr_search.proofs.Asking.{free_ready}
use Rattle.chr_search.proofs.join.Join.judge_first.Goals as goal

pub judge_at-requires : goal.judge_at-requires
judge_at-requires g c =
    let j = join_of c.args.self.now in
    let none = sym c.empty.ensures.labels in
    let same = sym c.active-active.ensures.value in
    let begins = c.requires.begins.begins in
    let others = c.empty.ensures.others ∙ ap (drop 1) none in
    let at = subst (λ (ls : List ℕ). IsLastHead j ls c.in-Some.at) none c.in-Some.ensures in
    let ready = subst (λ (ls : List ℕ). IsReady j ls c.reset.new.self) none (free_ready j c.variables.result c.reset.new.self c.variables.ensures.count c.reset.ensures) in
    let grows = subst (Grows (MayFollow j) []) none tt in
    let follows = subst (MayFollow j c.empty.result.labels.now) same (subst (λ (ls : List ℕ). MayFollow j ls c.args.self.now.view.active) none begins) in
    let trial = subst (λ (ls : List ℕ). (t : Trial) × IsTrialIn j (ls ++ c.active-active.result ∷ []) t) none (subst (λ (l : ℕ). (t : Trial) × IsTrialIn j (l ∷ []) t) same (c.requires.begins.trials (c.args.self.now.view.active ∷ []) (omega arith) (begins, tt))) in
    (omega arith, (refl, (others, (c.requires.begins.plan, (at, (ready, (grows, (follows, (sym c.in-Some-get.ensures, trial)))))))))

pub returns : goal.returns
returns g c =
    let j = join_of c.args.self.now in
    subst (λ (l : ℕ). IsTried j (l ∷ []) c.judge_at.result c.judge_at.new.narrowed) c.active-active.ensures.value
    (subst (λ (ls : List ℕ). IsTried j (ls ++ c.active-active.result ∷ []) c.judge_at.result c.judge_at.new.narrowed) c.empty.ensures.labels c.judge_at.ensures.tried)
