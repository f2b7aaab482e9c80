-- States whose atoms a log can hold, what each step keeps, and each event of a lawful log with its line.
use Rattle.std.proofs.Common.{◌≡◌, ◌≢◌, ℕ, zero, suc, ◌+◌, ◌<◌, ◌≤◌, Bool, true, false, ◌==◌, if◌then◌else◌, List, [], ◌∷◌, ◌++◌, length, map, get_or, set, Option, Some, refl, sym, ap, subst, ◌∙◌, arith, true-eqb, ◌*◌, inl, inr, take, Ok, length-append, length-set}
use Rattle.std.specs.List.{AllByRecursion, flat_map}
use Rattle.chr_value.specs.Atoms.{Atom, by_texts}
use Rattle.chr_value.specs.Naming.{Table}
use Rattle.chr_value.specs.Spelling.{FitsAtom}
use Rattle.chr_grammar.proofs.Members_again.{all_append}
use Rattle.chr_log.specs.Events.{labelled_atoms, labelled_by_texts, Event, Post, Activate, Fire, Drop, event_by_texts}
use Rattle.chr_log_text.specs.Writable.{UpTo, Rises, FitsEntry, FitsFire, IsWritable, IsWritableStore, most_bytes}
use Rattle.chr_model.specs.Stores.{Store, atom_at, drop_label, without, Carry, Labelled}
use Rattle.chr_model.specs.Goals.{Goal, Plain, Numbered, Ended, State, goal_at, start}
use Rattle.chr_model.proofs.Quiet.{place_within, active_open, waiting_open}
use Rattle.chr_model.specs.Steps.{posted, activated, ended, replaced, Step, Run}
use Rattle.chr_text.specs.Writable.{AreWritable}
use Rattle.chr_text.proofs.Lists.{each_made}
use Rattle.std.proofs.lemmas.List.{length-map}
use Rattle.chr_rule.specs.Rules.{Simpagation}
use Rattle.chr_log.specs.LogText.{entry_line, header, log_text, store_text}
use Rattle.chr_log.specs.declared.events.Version.{Version}
use Rattle.chr_model.specs.Logs.{Lawful, posted_by}
use Rattle.chr_model.specs.Programs.{Instances}
use Rattle.chr_model.proofs.Older.{Step-next}
use Rattle.chr_text.specs.Reading.{program_of}
use Rattle.laws_writable.proofs.Rules.{RuleHeld, rules_kept, program_held, added_by}

-- ---- stores: labels rise between two bounds, which are none of them

abbrev pub Stands : Table → ℕ → ℕ → Store → Type 0
Stands table low high [] = Unit {0}
Stands table low high (e ∷ es) = (low < e.0) × (e.0 < high) × FitsAtom (by_texts table e.1) × Stands table e.0 high es

stands_from : (table : Table) (less low high : ℕ) (st : Store) → less ≤ low → Stands table low high st → Stands table less high st
stands_from table less low high [] le s = tt
stands_from table less low high (e ∷ es) le s = ((let lt = s.0 in omega (arith, lt, le)), s.1, s.2, s.3)

stands_more : (table : Table) (low high : ℕ) (a : Atom ℕ) (st : Store) → low < high → FitsAtom (by_texts table a) → Stands table low high st → Stands table low (high + 1) (st ++ (high, a) ∷ [])
stands_more table low high a [] lt fits s = (lt, omega arith, fits, tt)
stands_more table low high a (e ∷ es) lt fits s = (s.0, (let below = s.1 in omega (arith, below)), s.2, stands_more table e.0 high a es s.1 fits s.3)

dropped_step : (table : Table) (l low high : ℕ) (e : ℕ × Atom ℕ) (es : Store) (b : Bool) → Stands table low high (e ∷ es) → Stands table e.0 high (drop_label l es) → Stands table low high (let xs : Store = if b then drop_label l es else e ∷ drop_label l es in xs)
dropped_step table l low high e es true s rest = stands_from table low e.0 high (drop_label l es) (let lt = s.0 in omega (arith, lt)) rest
dropped_step table l low high e es false s rest = (s.0, s.1, s.2, rest)

stands_dropped : (table : Table) (l low high : ℕ) (st : Store) → Stands table low high st → Stands table low high (drop_label l st)
stands_dropped table l low high [] s = tt
stands_dropped table l low high (e ∷ es) s = dropped_step table l low high e es (e.0 == l) s (stands_dropped table l e.0 high es s.3)

stands_without : (table : Table) (ls : List ℕ) (low high : ℕ) (st : Store) → Stands table low high st → Stands table low high (without ls st)
stands_without table [] low high st s = s
stands_without table (l ∷ ls) low high st s = stands_without table ls low high (drop_label l st) (stands_dropped table l low high st s)

pub record IsThere (table : Table) (low high l : ℕ) (a : Atom ℕ) : Type 0 where
  pub above : low < l
  pub below : l < high
  pub fits : FitsAtom (by_texts table a)

there_step : (table : Table) (low high l : ℕ) (a : Atom ℕ) (e : ℕ × Atom ℕ) (es : Store) (b : Bool) → e.0 == l ≡ b → (let o : Option (Atom ℕ) = if b then Some e.1 else atom_at es l in o) ≡ Some a → Stands table low high (e ∷ es) → (atom_at es l ≡ Some a → IsThere table e.0 high l a) → IsThere table low high l a
there_step table low high l a e es true q h s rest =
    let place : e.0 ≡ l = true-eqb e.0 l (sym q) in
    let same : e.1 ≡ a = cc in
    record { above = subst (λ (k : ℕ). low < k) place s.0; below = subst (λ (k : ℕ). k < high) place s.1; fits = subst (λ (x : Atom ℕ). FitsAtom (by_texts table x)) same s.2 }
there_step table low high l a e es false q h s rest =
    let is = rest h in
    record { above = (let lt = s.0 in let more = is.above in omega (arith, lt, more)); below = is.below; fits = is.fits }

pub is_there : (table : Table) (low high : ℕ) (st : Store) (l : ℕ) (a : Atom ℕ) → atom_at st l ≡ Some a → Stands table low high st → IsThere table low high l a
is_there table low high [] l a h s = absurd cc
is_there table low high (e ∷ es) l a h s = there_step table low high l a e es (e.0 == l) refl h s (λ i. is_there table e.0 high es l a i s.3)

-- labels that are there, as a log's line has them
pub labels_there : (table : Table) (high : ℕ) (st : Store) (ls : List ℕ) (as' : List (Atom ℕ)) → high ≤ 4294967296 → Stands table 0 high st → Carry st ls as' → AllByRecursion (UpTo 4294967295) ls × AreWritable table as' × (length ls ≡ length as')
labels_there table high st [] [] le s c = (tt, tt, refl)
labels_there table high st (l ∷ ls) [] le s c = absurd c
labels_there table high st [] (a ∷ as') le s c = absurd c
labels_there table high st (l ∷ ls) (a ∷ as') le s c =
    let is = is_there table 0 high st l a c.0 s in
    let rest = labels_there table high st ls as' le s c.1 in
    let from : 1 ≤ l = (let lt = is.above in omega (arith, lt)) in
    let to : l ≤ 4294967295 = (let lt = is.below in omega (arith, lt, le)) in
    (((from, to), rest.0), (is.fits, rest.1), ap suc rest.2)

pub stands_rises : (table : Table) (low high : ℕ) (st : Store) → high ≤ 4294967296 → Stands table low high st → Rises low (map (labelled_by_texts table) (labelled_atoms st))
stands_rises table low high [] le s = tt
stands_rises table low high (e ∷ es) le s =
    let to : e.0 ≤ 4294967295 = (let lt = s.1 in omega (arith, lt, le)) in
    ((s.0, to, s.2), stands_rises table e.0 high es le s.3)

-- ---- goals

abbrev pub GoalFits : Table → Goal → Type 0
GoalFits table (Plain a) = FitsAtom (by_texts table a)
GoalFits table (Numbered l) = Unit {0}
GoalFits table Ended = Unit {0}

goal_fits : (table : Table) (gs : List Goal) (t : ℕ) (a : Atom ℕ) → AllByRecursion (GoalFits table) gs → get_or gs t Ended ≡ Plain a → FitsAtom (by_texts table a)
goal_fits table [] t a all h = absurd cc
goal_fits table (g ∷ gs) zero a all h = subst (GoalFits table) h all.0
goal_fits table (g ∷ gs) (suc t) a all h = goal_fits table gs t a all.1 h

goals_set : (table : Table) (gs : List Goal) (t : ℕ) (g : Goal) → GoalFits table g → AllByRecursion (GoalFits table) gs → AllByRecursion (GoalFits table) (set gs t g)
goals_set table [] t g fits all = tt
goals_set table (x ∷ gs) zero g fits all = (fits, all.1)
goals_set table (x ∷ gs) (suc t) g fits all = (all.0, goals_set table gs t g fits all.1)

-- the first goal has ended
abbrev Begins : List Goal → Type 0
Begins gs = (1 ≤ length gs) × (get_or gs 0 Ended ≡ Ended)

begins_more : (gs hs : List Goal) → Begins gs → Begins (gs ++ hs)
begins_more [] hs b = absurd (omega arith)
begins_more (g ∷ gs) hs b = (omega arith, b.1)

begins_set : (gs : List Goal) (t : ℕ) (g : Goal) → 1 ≤ t → Begins gs → Begins (set gs t g)
begins_set [] t g le b = absurd (omega arith)
begins_set (x ∷ gs) zero g le b = absurd (omega (arith, le))
begins_set (x ∷ gs) (suc t) g le b = (omega arith, b.1)

-- ---- states

pub record StateFits (table : Table) (s : State) : Type 0 where
  pub begins : Begins s.goals
  pub goals : AllByRecursion (GoalFits table) s.goals
  pub next : 1 ≤ s.next
  pub store : Stands table 0 s.next s.store

pub plain_there : (table : Table) (s : State) (t : ℕ) (a : Atom ℕ) → StateFits table s → goal_at s t ≡ Plain a → FitsAtom (by_texts table a)
plain_there table s t a fits h = goal_fits table s.goals t a fits.goals h

-- a goal that hasn't ended is at a later place
pub ticket_within : (table : Table) (s : State) (t : ℕ) (g : Goal) → StateFits table s → g ≢ Ended → goal_at s t ≡ g → (1 ≤ t) × (t < length s.goals)
ticket_within table s t g fits ne h = (later t (λ e. ne (sym h ∙ e)), place_within s.goals t (λ e. ne (sym h ∙ e)))
  where
    later : (u : ℕ) → goal_at s u ≢ Ended → 1 ≤ u
    later zero stays = absurd (stays fits.begins.1)
    later (suc u) stays = omega arith

pub posted_fits : (table : Table) (s : State) (a : Atom ℕ) → FitsAtom (by_texts table a) → StateFits table s → StateFits table (posted s a)
posted_fits table s a one fits = record {
  begins = begins_more s.goals (Plain a ∷ []) fits.begins;
  goals = all_append (GoalFits table) s.goals (Plain a ∷ []) fits.goals (one, tt);
  next = fits.next;
  store = fits.store;
}

pub activated_fits : (table : Table) (s : State) (t : ℕ) (a : Atom ℕ) → 1 ≤ t → FitsAtom (by_texts table a) → StateFits table s → StateFits table (activated s t a)
activated_fits table s t a from one fits = record {
  begins = begins_set s.goals t (Numbered s.next) from fits.begins;
  goals = goals_set table s.goals t (Numbered s.next) tt fits.goals;
  next = omega arith;
  store = stands_more table 0 s.next a s.store (let le = fits.next in omega (arith, le)) one fits.store;
}

pub ended_fits : (table : Table) (s : State) (t : ℕ) → 1 ≤ t → StateFits table s → StateFits table (ended s t)
ended_fits table s t from fits = record {
  begins = begins_set s.goals t Ended from fits.begins;
  goals = goals_set table s.goals t Ended tt fits.goals;
  next = fits.next;
  store = fits.store;
}

pub replaced_fits : (table : Table) (s : State) (removed : List ℕ) (body : List (Atom ℕ)) → AreWritable table body → StateFits table s → StateFits table (replaced s removed body)
replaced_fits table s removed body all fits = record {
  begins = begins_more s.goals (map Plain body) fits.begins;
  goals = all_append (GoalFits table) s.goals (map Plain body) fits.goals (each_made (λ a. FitsAtom (by_texts table a)) (GoalFits table) Plain (λ a h. h) body all);
  next = fits.next;
  store = stands_without table removed 0 s.next s.store fits.store;
}

-- ---- firings

-- what a labelled instance says of its labels and its body
record Fired (table : Table) (rules : List (Simpagation ℕ)) (r : ℕ) (kept removed : List ℕ) (body : List (Atom ℕ)) (t : ℕ) : Type 0 where
  body_fits : AreWritable table body
  body_few : length body ≤ 16
  fits : 1 ≤ t → t ≤ 18446744073709551615 → FitsFire t r kept removed

fired_fits : (table : Table) (rules : List (Simpagation ℕ)) (s : State) (t r : ℕ) (kept removed : List ℕ) (body : List (Atom ℕ)) → AllByRecursion (RuleHeld table) rules → length rules ≤ 256 → s.next ≤ 4294967296 → StateFits table s → Labelled (Instances rules) s.store r kept removed body → Fired table rules r kept removed body t
fired_fits table rules s t r kept removed body held most le fits i =
    let k = labels_there table s.next s.store kept i.kept_atoms le fits.store i.kept_there in
    let m = labels_there table s.next s.store removed i.removed_atoms le fits.store i.removed_there in
    let a = added_by table rules held r i.kept_atoms i.removed_atoms body i.instance in
    let rule_to : r ≤ 256 = omega (arith, a.to, most) in
    let some_labels : 0 < length removed = omega (arith, m.2, a.some) in
    let few_labels : length kept + length removed ≤ 6 = omega (arith, k.2, m.2, a.heads) in
    record {
      body_fits = a.body_fits k.1 m.1;
      body_few = a.few;
      fits = λ one two. record { ticket = (one, two); rule = (a.from, rule_to); kept_labels = k.0; removed_labels = m.0; some = some_labels; few = few_labels };
    }

-- ---- steps

-- a step to a state that fits, of an event that has a line
record Taken (table : Table) (s : State) (e : Event ℕ) (n : State) : Type 0 where
  fits : StateFits table n
  least : length s.goals ≤ length n.goals
  most : length n.goals ≤ length s.goals + 16
  entry : n.next ≤ 4294967296 → length n.goals ≤ 18446744073709551615 → FitsEntry (event_by_texts table e)

-- a run of such steps
record AllTaken (table : Table) (s : State) (es : List (Event ℕ)) (n : State) : Type 0 where
  fits : StateFits table n
  least : length s.goals ≤ length n.goals
  most : length n.goals ≤ length s.goals + 16 * length es
  entries : length n.goals ≤ 18446744073709551615 → AllByRecursion FitsEntry (map (event_by_texts table) es)

first_posts : (table : Table) (e : Event ℕ) (es : List (Event ℕ)) → AreWritable table (posted_by (e ∷ es)) → AreWritable table (posted_by (e ∷ [])) × AreWritable table (posted_by es)
first_posts table (Post t a) es all = ((all.0, tt), all.1)
first_posts table (Activate t l) es all = (tt, all)
first_posts table (Fire t r kept removed) es all = (tt, all)
first_posts table (Drop t) es all = (tt, all)

module _ (table : Table) (rules : List (Simpagation ℕ)) (v : Version) (held : AllByRecursion (RuleHeld table) rules) (few : length rules ≤ 256) where
  -- a firing, which ends its own goal or not
  fire_taken : (s own : State) (t r : ℕ) (kept removed : List ℕ) (body : List (Atom ℕ)) (n : State) → s.next ≤ 4294967296 → (1 ≤ t) × (t < length s.goals) → Labelled (Instances rules) s.store r kept removed body
      → length own.goals ≡ length s.goals → StateFits table own → n ≡ replaced own removed body → StateFits table s → Taken table s (Fire t r kept removed) n
  fire_taken s own t r kept removed body n le within instance same own_fits after fits =
      let f = fired_fits table rules s t r kept removed body held few le fits instance in
      let e = ap (λ (x : State). length x.goals) after in
      let more = length-append own.goals (map Plain body) in
      let many = length-map body Plain in
      record {
        fits = subst (StateFits table) (sym after) (replaced_fits table own removed body f.body_fits own_fits);
        least = omega (arith, e, same, more, many);
        most = omega (arith, e, same, more, many, f.body_few);
        entry = λ next goals. f.fits within.0 (omega (arith, within.1, e, same, more, goals));
      }

  step_taken : (s : State) (e : Event ℕ) (n : State) → s.next ≤ 4294967296 → Step v (Instances rules) s e n → AreWritable table (posted_by (e ∷ [])) → StateFits table s → Taken table s e n
  step_taken s (Post t a) n le step posts fits =
      let e = ap (λ (x : State). length x.goals) step.after in
      let more = length-append s.goals (Plain a ∷ []) in
      record {
        fits = subst (StateFits table) (sym step.after) (posted_fits table s a posts.0 fits);
        least = omega (arith, e, more);
        most = omega (arith, e, more);
        entry = λ next goals. ((omega (arith, fits.begins.0, step.ticket), omega (arith, step.ticket, e, more, goals)), posts.0);
      }
  step_taken s (Activate t l) n le step posts fits =
      let within = ticket_within table s t (Plain step.atom) fits (waiting_open step.atom) step.plain in
      let e = ap (λ (x : State). length x.goals) step.after in
      let same = length-set s.goals t (Numbered s.next) in
      let label = ap (λ (x : State). x.next) step.after in
      record {
        fits = subst (StateFits table) (sym step.after) (activated_fits table s t step.atom within.0 (plain_there table s t step.atom fits step.plain) fits);
        least = omega (arith, e, same);
        most = omega (arith, e, same);
        entry = λ next goals. ((within.0, omega (arith, within.1, e, same, goals)), (omega (arith, step.label, fits.next), omega (arith, step.label, label, next)));
      }
  step_taken s (Fire t r kept removed) n le (inl step) posts fits =
      let within = ticket_within table s t (Numbered step.label) fits (active_open step.label) step.numbered in
      fire_taken s (ended s t) t r kept removed step.body n le within step.instance (length-set s.goals t Ended) (ended_fits table s t within.0 fits) step.after fits
  step_taken s (Fire t r kept removed) n le (inr step) posts fits =
      let within = ticket_within table s t (Numbered step.label) fits (active_open step.label) step.numbered in
      fire_taken s s t r kept removed step.body n le within step.instance refl fits step.after fits
  step_taken s (Drop t) n le step posts fits =
      let within = ticket_within table s t (Numbered step.label) fits (active_open step.label) step.numbered in
      let e = ap (λ (x : State). length x.goals) step.after in
      let same = length-set s.goals t Ended in
      record {
        fits = subst (StateFits table) (sym step.after) (ended_fits table s t within.0 fits);
        least = omega (arith, e, same);
        most = omega (arith, e, same);
        entry = λ next goals. (within.0, omega (arith, within.1, e, same, goals));
      }

  -- ---- runs

  run_next : (es : List (Event ℕ)) (s n : State) → Run v (Instances rules) s es n → s.next ≤ n.next
  run_next [] s n run = (let e = ap (λ (x : State). x.next) run in omega (arith, e))
  run_next (e ∷ es) s n run =
      let one = Step-next v (Instances rules) s e run.0 run.1 in
      let rest = run_next es run.0 n run.2 in
      omega (arith, one, rest)

  run_taken : (es : List (Event ℕ)) (s n : State) → n.next ≤ 4294967296 → Run v (Instances rules) s es n → AreWritable table (posted_by es) → StateFits table s → AllTaken table s es n
  run_taken [] s n le run posts fits =
      let e = ap (λ (x : State). length x.goals) run in
      record { fits = subst (StateFits table) (sym run) fits; least = omega (arith, e); most = omega (arith, e); entries = λ goals. tt }
  run_taken (e ∷ es) s n le run posts fits =
      let two = first_posts table e es posts in
      let all = run_next (e ∷ es) s n run in
      let later = run_next es run.0 n run.2 in
      let one = step_taken s e run.0 (omega (arith, all, le)) run.1 two.0 fits in
      let rest = run_taken es run.0 n le run.2 two.1 one.fits in
      record {
        fits = rest.fits;
        least = omega (arith, one.least, rest.least);
        most = omega (arith, one.most, rest.most);
        entries = λ goals. (one.entry (omega (arith, later, le)) (omega (arith, rest.least, goals)), rest.entries goals);
      }

-- ---- texts

line_some : (e : Event (List ℕ)) → 1 ≤ length (entry_line e)
line_some (Post t a) = omega arith
line_some (Activate t l) = omega arith
line_some (Fire t r kept removed) = omega arith
line_some (Drop t) = omega arith

lines_many : (es : List (Event (List ℕ))) → length es ≤ length (flat_map entry_line es)
lines_many [] = omega arith
lines_many (e ∷ es) =
    let one = line_some e in
    let rest = lines_many es in
    let both = length-append (entry_line e) (flat_map entry_line es) in
    omega (arith, one, rest, both)

start_fits : (table : Table) → StateFits table start
start_fits table = record { begins = (omega arith, refl); goals = (tt, tt); next = omega arith; store = tt }

log_taken : (before table names : Table) (program : List ℕ) (rules : List (Simpagation ℕ)) (v : Version) (log : List (Event ℕ)) (last : State)
    → program_of before program ≡ Ok (rules, table) → take (length table) names ≡ table → AreWritable names (posted_by log) → Lawful v (Instances rules) log last → last.next ≤ 4294967296
    → AllTaken names start log last
log_taken before table names program rules v log last reads keeps posts lawful next =
    let program_is = program_held before program (rules, table) reads in
    run_taken names rules v (rules_kept table names rules keeps program_is.0) program_is.1 log start last next lawful posts (start_fits names)

pub log_writable : (before table names : Table) (program : List ℕ) (rules : List (Simpagation ℕ)) (v w : Version) (log : List (Event ℕ)) (last : State)
    → program_of before program ≡ Ok (rules, table) → take (length table) names ≡ table → AreWritable names (posted_by log) → Lawful v (Instances rules) log last → last.next ≤ 4294967296
    → length (log_text w (map (event_by_texts names) log)) ≤ most_bytes → IsWritable w (map (event_by_texts names) log)
log_writable before table names program rules v w log last reads keeps posts lawful next short =
    let many = lines_many (map (event_by_texts names) log) in
    let lines = length-append (header w) (flat_map entry_line (map (event_by_texts names) log)) in
    let same = length-map log (event_by_texts names) in
    let taken = log_taken before table names program rules v log last reads keeps posts lawful next in
    (taken.entries (omega (arith, many, lines, same, taken.most, short)), short)

pub store_writable : (before table names : Table) (program : List ℕ) (rules : List (Simpagation ℕ)) (v : Version) (log : List (Event ℕ)) (last : State)
    → program_of before program ≡ Ok (rules, table) → take (length table) names ≡ table → AreWritable names (posted_by log) → Lawful v (Instances rules) log last → last.next ≤ 4294967296
    → length (store_text (map (labelled_by_texts names) (labelled_atoms last.store))) ≤ most_bytes → IsWritableStore (map (labelled_by_texts names) (labelled_atoms last.store))
store_writable before table names program rules v log last reads keeps posts lawful next short =
    (stands_rises names 0 last.next last.store next (log_taken before table names program rules v log last reads keeps posts lawful next).fits.store, short)
