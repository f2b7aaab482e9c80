-- Books that a crew has worked on.
use Rattle.std.proofs.Common.{◌≡◌, ℕ, List, [], ◌∷◌, ◌++◌, map, refl, ap, sym, subst, ◌∙◌, arith}
use Rattle.std.specs.List.{AllByRecursion}
use Rattle.std.proofs.lemmas.List.{append-nil, map-append}
use Rattle.chr_rule.specs.Rules.{Simpagation}
use Rattle.chr_rule.specs.Scope.{IsRule}
use Rattle.chr_log.specs.Events.{Event, Entry}
use Rattle.chr_log.specs.declared.events.Version.{Version}
use Rattle.chr_log.specs.declared.events.Version.TheVariants.{Two}
use Rattle.chr_model.specs.Abstract.{Rules}
use Rattle.chr_model.specs.Goals.{State, start}
use Rattle.chr_model.specs.Programs.{Instances}
use Rattle.chr_model.specs.Logs.{Lawful}
use Rattle.chr_model.specs.Steps.{Run}
use Rattle.chr_model.proofs.Fixed.{Run-same}
use Rattle.chr_model.proofs.Programs.{program_fixes}
use Rattle.chr_calls.specs.Books.{BookState, goal_state, events}
use Rattle.chr_book.specs.Shots.{Continues}
use Rattle.chr_seats.specs.Holds.{HasHeadline}
use Rattle.chr_crew.specs.declared.before.Before.{Before}
use Rattle.chr_crew.specs.Runs.{IsKeptOf, IsWorkedOn}
use Rattle.chr_crew.proofs.Kept.{keeps_tickets}

-- a run of some events and then others passes a state between them
Run-cut : (v : Version) (I : Rules) (es more : List (Event ℕ)) (s n : State) → Run v I s (es ++ more) n → (m : State) × Run v I s es m × Run v I m more n
Run-cut v I [] more s n run = (s, refl, run)
Run-cut v I (e ∷ es) more s n run =
    let rest = Run-cut v I es more run.0 n run.2 in
    (rest.0, (run.0, run.1, rest.1), rest.2)

-- what a lawful log adds to another leads on from where that one leads
leads_on : (rules : List (Simpagation ℕ)) → AllByRecursion IsRule rules → (es more : List (Event ℕ)) (m n : State) → Lawful Two (Instances rules) es m → Lawful Two (Instances rules) (es ++ more) n → Run Two (Instances rules) m more n
leads_on rules valid es more m n first whole =
    let I : Rules = Instances rules in
    let cut = Run-cut Two I es more start n whole in
    subst (λ (x : State). Run Two I x more n) (Run-same Two I (program_fixes rules valid) es start cut.0 m cut.1 first) cut.2

-- so do the entries that a book adds to those of another with the same rules
entries_lead_on : (b n : BookState) (more : List (Entry ℕ)) → AllByRecursion IsRule b.rules → n.rules ≡ b.rules → n.log ≡ b.log ++ more → HasHeadline b → HasHeadline n → Run Two (Instances b.rules) (goal_state b) (map (λ (e : Entry ℕ). e.event) more) (goal_state n)
entries_lead_on b n more valid rules log before now =
    let event : Entry ℕ → Event ℕ = λ e. e.event in
    let whole : events n ≡ events b ++ map event more = ap (map event) log ∙ map-append event b.log more in
    let same = subst (λ (rs : List (Simpagation ℕ)). Lawful Two (Instances rs) (events n) (goal_state n)) rules now.lawful in
    leads_on b.rules valid (events b) (map event more) (goal_state b) (goal_state n) before.lawful
    (subst (λ (es : List (Event ℕ)). Lawful Two (Instances b.rules) es (goal_state n)) whole same)

-- a book that goes on from what was kept of another goes on from that one
pub worked_on : {Z : Type 0} (b n : BookState) (before : Before Z) (workers : ℕ) → IsKeptOf b before → HasHeadline n → Continues n before.shot workers → n.names ≡ before.names → n.limit ≡ before.limit → IsWorkedOn workers b n
worked_on b n before workers kept headline continues names limit =
    let rules : n.rules ≡ b.rules = continues.program ∙ kept.shot.program in
    let log : n.log ≡ b.log ++ continues.more = continues.log ∙ ap (λ es. es ++ continues.more) kept.shot.log in
    let run = entries_lead_on b n continues.more kept.valid rules log kept.headline headline in
    record {
      rules = rules;
      names = names ∙ kept.names;
      limit = limit ∙ kept.limit;
      more = continues.more;
      log = log;
      work = continues.work;
      run = run;
      tickets = keeps_tickets Two (Instances b.rules) (map (λ (e : Entry ℕ). e.event) continues.more) b n run;
    }

-- so does the book itself
pub not_worked_on : (b n : BookState) (workers : ℕ) → n ≡ b → IsWorkedOn workers b n
not_worked_on b n workers is =
    let itself : IsWorkedOn workers b b = record {
      rules = refl;
      names = refl;
      limit = refl;
      more = [];
      log = sym (append-nil b.log);
      work = tt;
      run = refl;
      tickets = record { all = omega arith; ended = λ t within is. is };
    } in
    subst (IsWorkedOn workers b) (sym is) itself
