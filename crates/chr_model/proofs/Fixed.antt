-- A log has at most one last state, where the heads' atoms fix a body's.
use Rattle.std.proofs.Common.{◌≡◌, ℕ, ◌⊎◌, inl, inr, List, [], ◌∷◌, sym, ◌∙◌, ap, subst, arith}
use Rattle.chr_value.specs.Atoms.{Atom}
use Rattle.chr_log.specs.Events.{Event, Post, Activate, Fire, Drop}
use Rattle.chr_log.specs.declared.events.Version.{Version}
use Rattle.chr_model.specs.Abstract.{Rules}
use Rattle.chr_model.specs.Stores.{Store, Labelled}
use Rattle.chr_model.specs.Goals.{State}
use Rattle.chr_model.specs.Steps.{ended, replaced, Simplify, Propagate, Step, Run}
use Rattle.chr_model.proofs.Stores.{Carry-same, apart}
use Rattle.chr_model.proofs.Quiet.{same_label}

abbrev pub Fixes : Rules → Type 0
Fixes I = (r : ℕ) (kept removed body other : List (Atom ℕ)) → I r kept removed body → I r kept removed other → body ≡ other

-- a label at a removed head stands at no kept head
pub never_both : (I : Rules) (s : State) (t r : ℕ) (kept removed : List ℕ) (n m : State) → Simplify I s t r kept removed n → Propagate I s t r kept removed m → ⊥
never_both I s t r kept removed n m p q = grind (arith, same_label, apart)

Labelled-same : (I : Rules) → Fixes I → (st : Store) (r : ℕ) (kept removed : List ℕ) (body other : List (Atom ℕ)) → Labelled I st r kept removed body → Labelled I st r kept removed other → body ≡ other
Labelled-same I fix st r kept removed body other i j = grind (arith, Carry-same)

fired_same : (I : Rules) → Fixes I → (s : State) (t r : ℕ) (kept removed : List ℕ) (n m : State) → (Simplify I s t r kept removed n ⊎ Propagate I s t r kept removed n) → (Simplify I s t r kept removed m ⊎ Propagate I s t r kept removed m) → n ≡ m
fired_same I fix s t r kept removed n m (inl p) (inl q) = p.after ∙ ap (replaced (ended s t) removed) (Labelled-same I fix s.store r kept removed p.body q.body p.instance q.instance) ∙ sym q.after
fired_same I fix s t r kept removed n m (inr p) (inr q) = p.after ∙ ap (replaced s removed) (Labelled-same I fix s.store r kept removed p.body q.body p.instance q.instance) ∙ sym q.after
fired_same I fix s t r kept removed n m (inl p) (inr q) = absurd (never_both I s t r kept removed n m p q)
fired_same I fix s t r kept removed n m (inr p) (inl q) = absurd (never_both I s t r kept removed m n q p)

pub Step-same : (v : Version) (I : Rules) → Fixes I → (s : State) (e : Event ℕ) (n m : State) → Step v I s e n → Step v I s e m → n ≡ m
Step-same v I fix s (Post t a) n m p q = p.after ∙ sym q.after
Step-same v I fix s (Activate t l) n m p q = grind arith
Step-same v I fix s (Fire t r kept removed) n m p q = fired_same I fix s t r kept removed n m p q
Step-same v I fix s (Drop t) n m p q = p.after ∙ sym q.after

pub Run-same : (v : Version) (I : Rules) → Fixes I → (es : List (Event ℕ)) (s n m : State) → Run v I s es n → Run v I s es m → n ≡ m
Run-same v I fix [] s n m p q = p ∙ sym q
Run-same v I fix (e ∷ es) s n m p q =
    Run-same v I fix es p.0 n m p.2 (subst (λ x. Run v I x es m) (sym (Step-same v I fix s e p.0 q.0 p.1 q.1)) q.2)
