-- Tickets that a run keeps.
use Rattle.std.proofs.Common.{◌≡◌, ◌≢◌, ℕ, ◌<◌, ◌≤◌, inl, inr, List, [], ◌∷◌, ◌++◌, map, length, get_or, set, sym, ◌∙◌, ap, subst, arith, length-append, get_or-set_other}
use Rattle.std.proofs.lemmas.List.{length-map, length-set, get_or_append_left}
use Rattle.chr_log.specs.Events.{Event, Post, Activate, Fire, Drop}
use Rattle.chr_log.specs.declared.events.Version.{Version}
use Rattle.chr_model.specs.Abstract.{Rules}
use Rattle.chr_model.specs.Goals.{Goal, Plain, Numbered, Ended, State, goal_at}
use Rattle.chr_model.specs.Steps.{Step, Run}
use Rattle.chr_model.proofs.Quiet.{Run-keeps, active_open, waiting_open}
use Rattle.chr_calls.specs.Tickets.{Ticket}
use Rattle.chr_calls.specs.Books.{BookState, goal_state}
use Rattle.chr_calls.proofs.Tickets.{goal_there}
use Rattle.chr_crew.specs.Runs.{KeepsTickets}

-- what is there of so many goals stays there: those that have ended
abbrev IsThere : ℕ → State → Type 0
IsThere t s = (t < length s.goals) × (goal_at s t ≡ Ended)

there_after : (gs more : List Goal) (t : ℕ) → t < length gs → get_or gs t Ended ≡ Ended → (t < length (gs ++ more)) × (get_or (gs ++ more) t Ended ≡ Ended)
there_after gs more t within is = (omega (arith, within, length-append gs more), get_or_append_left gs more Ended t within ∙ is)

there_but : (gs : List Goal) (u t : ℕ) (g h : Goal) → get_or gs u Ended ≡ h → h ≢ Ended → t < length gs → get_or gs t Ended ≡ Ended → (t < length (set gs u g)) × (get_or (set gs u g) t Ended ≡ Ended)
there_but gs u t g h at active within is =
    let other : t ≢ u = λ same. active (sym at ∙ ap (λ k. get_or gs k Ended) (sym same) ∙ is) in
    (omega (arith, within, length-set gs u g), get_or-set_other gs u t g Ended other ∙ is)

step_keeps : (v : Version) (I : Rules) (t : ℕ) (s : State) (e : Event ℕ) (n : State) → Step v I s e n → IsThere t s → IsThere t n
step_keeps v I t s (Post u a) n step there = subst (IsThere t) (sym step.after) (there_after s.goals (Plain a ∷ []) t there.0 there.1)
step_keeps v I t s (Activate u l) n step there = subst (IsThere t) (sym step.after) (there_but s.goals u t (Numbered s.next) (Plain step.atom) step.plain (waiting_open step.atom) there.0 there.1)
step_keeps v I t s (Fire u r kept removed) n (inl step) there =
    let one = there_but s.goals u t Ended (Numbered step.label) step.numbered (active_open step.label) there.0 there.1 in
    subst (IsThere t) (sym step.after) (there_after (set s.goals u Ended) (map Plain step.body) t one.0 one.1)
step_keeps v I t s (Fire u r kept removed) n (inr step) there = subst (IsThere t) (sym step.after) (there_after s.goals (map Plain step.body) t there.0 there.1)
step_keeps v I t s (Drop u) n step there = subst (IsThere t) (sym step.after) (there_but s.goals u t Ended (Numbered step.label) step.numbered (active_open step.label) there.0 there.1)

-- there are no fewer
abbrev AreAtLeast : ℕ → State → Type 0
AreAtLeast k s = k ≤ length s.goals

step_adds : (v : Version) (I : Rules) (k : ℕ) (s : State) (e : Event ℕ) (n : State) → Step v I s e n → AreAtLeast k s → AreAtLeast k n
step_adds v I k s (Post u a) n step many = subst (AreAtLeast k) (sym step.after) (omega (arith, many, length-append s.goals (Plain a ∷ [])))
step_adds v I k s (Activate u l) n step many = subst (AreAtLeast k) (sym step.after) (omega (arith, many, length-set s.goals u (Numbered s.next)))
step_adds v I k s (Fire u r kept removed) n (inl step) many = subst (AreAtLeast k) (sym step.after) (omega (arith, many, length-set s.goals u Ended, length-append (set s.goals u Ended) (map Plain step.body)))
step_adds v I k s (Fire u r kept removed) n (inr step) many = subst (AreAtLeast k) (sym step.after) (omega (arith, many, length-append s.goals (map Plain step.body)))
step_adds v I k s (Drop u) n step many = subst (AreAtLeast k) (sym step.after) (omega (arith, many, length-set s.goals u Ended))

pub keeps_tickets : (v : Version) (I : Rules) (es : List (Event ℕ)) (b n : BookState) → Run v I (goal_state b) es (goal_state n) → KeepsTickets b.tickets n.tickets
keeps_tickets v I es b n run =
    let goal : Ticket → Goal = λ x. x.goal in
    let many : length b.tickets ≤ length (goal_state n).goals = Run-keeps (AreAtLeast (length b.tickets)) v I (step_adds v I (length b.tickets)) es (goal_state b) (goal_state n) run (omega (arith, length-map b.tickets goal)) in
    record {
      all = omega (arith, many, length-map n.tickets goal);
      ended = λ t within is.
          sym (goal_there n t)
          ∙ (Run-keeps (IsThere t) v I (step_keeps v I t) es (goal_state b) (goal_state n) run (omega (arith, within, length-map b.tickets goal), goal_there b t ∙ is)).1;
    }
