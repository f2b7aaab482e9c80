-- The names of what is posted have their numbers in the order of the posts, so the texts of a run are read back, and have no fault.
use Rattle.std.proofs.Common.{◌≡◌, ℕ, List, [], ◌∷◌, ◌++◌, length, take, map, Some, Ok, refl, sym, ap, subst, ◌∙◌, append_assoc, ◌≤◌, inl, inr, arith}
use Rattle.std.specs.List.{AllByRecursion, flat_map}
use Rattle.std.proofs.Math.Seq.{take-length}
use Rattle.std.proofs.lemmas.List.{map-append, append-nil}
use Rattle.chr_lex.specs.Items.{Item}
use Rattle.chr_value.specs.Names.{HasDistinctTexts}
use Rattle.chr_value.specs.Spelling.{FitsAtom}
use Rattle.chr_value.specs.Atoms.{Atom, AtomIsNamed, by_texts}
use Rattle.chr_value.specs.Naming.{Table, numbered_atom}
use Rattle.chr_value.proofs.NameLaws.{keeps-then}
use Rattle.chr_log.specs.Events.{Event, Post, Activate, Fire, Drop, event_by_texts, LabelledAtom, labelled_by_texts, labelled_atoms}
use Rattle.chr_log_text.specs.Lines.{with_first, number_all}
use Rattle.chr_log_text.specs.Texts.{numbered_events, IsLogText, IsStoreText, HasLogFault, HasStoreFault}
use Rattle.chr_model.specs.Logs.{posted_by, Lawful}
use Rattle.chr_text.specs.Numbering.{each}
use Rattle.chr_text.specs.Reading.{Posts, posts_of, program_of}
use Rattle.chr_text.specs.Forms.{InOrder, no_more, item, AddsAtoms}
use Rattle.chr_text.specs.Writable.{AreWritable}
use Rattle.chr_text.proofs.Lists.{there, uncons, each_end}
use Rattle.chr_text.proofs.Said.{each_by, EachHas, each_lasts, facts_last, Says, each_says, facts_say}
use Rattle.chr_text.proofs.PostTexts.{are_posts}
use Rattle.chr_text.proofs.Writable.{posts_writable}
use Rattle.laws_accepts.proofs.Distinct.{posts_distinct, program_distinct}
use Rattle.chr_rule.specs.Rules.{Simpagation}
use Rattle.chr_log.specs.LogText.{entry_line, log_text, store_text}
use Rattle.chr_log.specs.declared.events.Version.{Version}
use Rattle.chr_log_text.specs.Writable.{most_bytes}
use Rattle.chr_log_text.specs.declared.fault.TextFault.{TextFault}
use Rattle.chr_log_text.specs.declared.fault.TextFault.TheVariants as faults
use Rattle.chr_log_text.proofs.Whole.{header_again, log_only-fault, store_only-fault, store_back}
use Rattle.chr_model.specs.Goals.{State}
use Rattle.chr_model.specs.Programs.{Instances}
use Rattle.laws_writable.proofs.Entries.{log_writable, store_writable}

-- ---- lists of atoms

-- what was numbered says the same by the table after it, which has its names
pub atoms_say : (table new : Table) (texts : List (Atom (List ℕ))) (atoms : List (Atom ℕ)) → each numbered_atom table texts ≡ Some (atoms, new) → Says (each_by by_texts) (EachHas AtomIsNamed) table texts (atoms, new)
atoms_say table new texts atoms h = there _ (each numbered_atom table texts) (atoms, new) (each_says numbered_atom facts_last facts_say table texts) h

texts_kept : (old new : Table) (as' : List (Atom ℕ)) → take (length old) new ≡ old → AllByRecursion (AtomIsNamed (length old)) as' → map (by_texts new) as' ≡ map (by_texts old) as'
texts_kept = (each_lasts facts_last).kept

each_append : (table t u : Table) (as' bs : List (Atom (List ℕ))) (xs ys : List (Atom ℕ)) → each numbered_atom table as' ≡ Some (xs, t) → each numbered_atom t bs ≡ Some (ys, u) → each numbered_atom table (as' ++ bs) ≡ Some (xs ++ ys, u)
each_append table t u [] bs xs ys h k = let e = each_end numbered_atom table t xs h in rw (← e.0, e.1) k
each_append table t u (a ∷ as') bs xs ys h k =
    let one = uncons numbered_atom table t a as' xs h in
    let rest = each_append one.0.1 t u as' bs one.1 ys one.3 k in
    rw (one.2, rest) (ap (λ (zs : List (Atom ℕ)). Some (zs ++ ys, u)) one.4)

-- ---- a text of posts

record Again (x y : Posts) : Type 0 where
  new : List (Atom ℕ)
  is : y.0 ≡ x.0 ++ new
  numbered : each numbered_atom x.1 (map (by_texts y.1) new) ≡ Some (new, y.1)
  keeps : take (length x.1) y.1 ≡ x.1

one_more : (x : Posts) (new : List (Atom ℕ)) (t : Table) (texts : List (Atom (List ℕ))) (y : Posts) → each numbered_atom x.1 texts ≡ Some (new, t) → Again (x.0 ++ new, t) y → Again x y
one_more x new t texts y h rest =
    let said = atoms_say x.1 t texts new h in
    let own : map (by_texts y.1) new ≡ texts = texts_kept t y.1 new rest.keeps said.1 ∙ said.0 in
    let first : each numbered_atom x.1 (map (by_texts y.1) new) ≡ Some (new, t) = ap (each numbered_atom x.1) own ∙ h in
    record {
      new = new ++ rest.new;
      is = rest.is ∙ append_assoc x.0 new rest.new;
      numbered = ap (each numbered_atom x.1) (map-append (by_texts y.1) new rest.new) ∙ each_append x.1 t y.1 (map (by_texts y.1) new) (map (by_texts y.1) rest.new) new rest.new first rest.numbered;
      keeps = keeps-then x.1 t y.1 said.2 rest.keeps;
    }

items_again : (x : Posts) (es : List Item) (y : Posts) → InOrder AddsAtoms x es y → Again x y
items_again _ _ _ (no_more x) = record { new = []; is = sym (append-nil x.0); numbered = refl; keeps = take-length x.1 }
items_again _ _ _ (item x next y e es a more) = one_more x a.new a.table _ y a.numbered (subst (λ (p : Posts). Again p y) a.added (items_again next es y more))

posts_again : (table names : Table) (bytes : List ℕ) (atoms : List (Atom ℕ)) → posts_of table bytes ≡ Ok (atoms, names) → (each numbered_atom table (map (by_texts names) atoms) ≡ Some (atoms, names)) × (take (length table) names ≡ table)
posts_again table names bytes atoms h =
    let are = are_posts table bytes (atoms, names) h in
    let a = items_again ([], table) are.entries (atoms, names) are.in_order in
    (subst (λ (xs : List (Atom ℕ)). each numbered_atom table (map (by_texts names) xs) ≡ Some (xs, names)) (sym a.is) a.numbered, a.keeps)

-- atoms that were read over one table of names, with the table after them
pub record AreRead (table new : Table) (atoms : List (Atom ℕ)) : Type 0 where
  pub numbered : each numbered_atom table (map (by_texts new) atoms) ≡ Some (atoms, new)
  pub keeps : take (length table) new ≡ table
  pub writable : AreWritable new atoms
  pub distinct : HasDistinctTexts table → HasDistinctTexts new

pub none_read : (table : Table) → AreRead table table []
none_read table = record { numbered = refl; keeps = take-length table; writable = tt; distinct = λ d. d }

pub text_read : (table : Table) (text : List ℕ) (own : Posts) → posts_of table text ≡ Ok own → AreRead table own.1 own.0
text_read table text own h =
    let again = posts_again table own.1 text own.0 h in
    record { numbered = again.0; keeps = again.1; writable = posts_writable table text own h; distinct = λ d. posts_distinct table text own h d }

atoms_writable : (old new : Table) (xs ys : List (Atom ℕ)) → map (by_texts new) xs ≡ map (by_texts old) xs → AreWritable old xs → AreWritable new ys → AreWritable new (xs ++ ys)
atoms_writable old new [] ys same one two = two
atoms_writable old new (x ∷ xs) ys same one two =
    let head : by_texts new x ≡ by_texts old x = cc in
    let rest : map (by_texts new) xs ≡ map (by_texts old) xs = cc in
    (subst FitsAtom (sym head) one.0, atoms_writable old new xs ys rest one.1 two)

pub both_read : (table mid new : Table) (xs ys : List (Atom ℕ)) → AreRead table mid xs → AreRead mid new ys → AreRead table new (xs ++ ys)
both_read table mid new xs ys one two =
    let said = atoms_say table mid (map (by_texts mid) xs) xs one.numbered in
    let same : map (by_texts new) xs ≡ map (by_texts mid) xs = texts_kept mid new xs two.keeps said.1 in
    let texts : map (by_texts new) (xs ++ ys) ≡ map (by_texts mid) xs ++ map (by_texts new) ys = map-append (by_texts new) xs ys ∙ ap (λ (ts : List (Atom (List ℕ))). ts ++ map (by_texts new) ys) same in
    record {
      numbered = ap (each numbered_atom table) texts ∙ each_append table mid new (map (by_texts mid) xs) (map (by_texts new) ys) xs ys one.numbered two.numbered;
      keeps = keeps-then table mid new one.keeps two.keeps;
      writable = atoms_writable mid new xs ys same one.writable two.writable;
      distinct = λ d. two.distinct (one.distinct d);
    }

-- ---- lines of a log

pub events_numbered : (names table new : Table) (es : List (Event ℕ)) → each numbered_atom table (map (by_texts names) (posted_by es)) ≡ Some (posted_by es, new) → numbered_events table (map (event_by_texts names) es) ≡ Some (es, new)
unfolding number_all
events_numbered names table new [] h = let e = each_end numbered_atom table new [] h in ap (λ (z : Table). Some ([], z)) e.1
events_numbered names table new (Post t a ∷ es) h =
    let u = uncons numbered_atom table new (by_texts names a) (map (by_texts names) (posted_by es)) (a ∷ posted_by es) h in
    let lists = u.4 in
    let one : u.0.0 ≡ a = cc in
    let two : u.1 ≡ posted_by es = cc in
    let first : numbered_atom table (by_texts names a) ≡ Some (a, u.0.1) = u.2 ∙ ap (λ (b : Atom ℕ). Some (b, u.0.1)) one in
    let rest : each numbered_atom u.0.1 (map (by_texts names) (posted_by es)) ≡ Some (posted_by es, new) = u.3 ∙ ap (λ (xs : List (Atom ℕ)). Some (xs, new)) two in
    rw (first, events_numbered names u.0.1 new es rest) refl
events_numbered names table new (Activate t l ∷ es) h = ap (with_first (Activate t l)) (events_numbered names table new es h)
events_numbered names table new (Fire t r kept removed ∷ es) h = ap (with_first (Fire t r kept removed)) (events_numbered names table new es h)
events_numbered names table new (Drop t ∷ es) h = ap (with_first (Drop t)) (events_numbered names table new es h)

-- ---- what is written is read with the names of the program alone

pub log_read : (program : List ℕ) (rules : List (Simpagation ℕ)) (table names : Table) (atoms : List (Atom ℕ)) (v : Version) (log : List (Event ℕ)) (last : State)
    → program_of [] program ≡ Ok (rules, table) → AreRead table names atoms → posted_by log ≡ atoms → Lawful v (Instances rules) log last → last.next ≤ 4294967296
    → length (log_text v (map (event_by_texts names) log)) ≤ most_bytes → IsLogText table (log_text v (map (event_by_texts names) log)) v log names
log_read program rules table names atoms v log last p read is lawful next short =
    let own = subst (AreRead table names) (sym is) read in
    record {
      writable = log_writable [] table names program rules v v log last p own.keeps own.writable lawful next short;
      spelled = refl;
      numbered = events_numbered names table names log own.numbered;
    }

pub store_read : (program : List ℕ) (rules : List (Simpagation ℕ)) (table names : Table) (atoms : List (Atom ℕ)) (v : Version) (log : List (Event ℕ)) (last : State)
    → program_of [] program ≡ Ok (rules, table) → AreRead table names atoms → posted_by log ≡ atoms → Lawful v (Instances rules) log last → last.next ≤ 4294967296
    → length (store_text (map (labelled_by_texts names) (labelled_atoms last.store))) ≤ most_bytes → IsStoreText names (store_text (map (labelled_by_texts names) (labelled_atoms last.store))) (labelled_atoms last.store) names
store_read program rules table names atoms v log last p read is lawful next short =
    let own = subst (AreRead table names) (sym is) read in
    store_back names (labelled_atoms last.store) (own.distinct (program_distinct program (rules, table) p))
    (store_writable [] table names program rules v log last p own.keeps own.writable lawful next short)

-- ---- what is read has no fault

pub log_no_fault : (table : Table) (text : List ℕ) (v : Version) (es : List (Event ℕ)) (new : Table) (f : TextFault) → IsLogText table text v es new → HasLogFault table text f → f ≡ faults.NoMemory
log_no_fault table text v es new faults.NoMemory is has = refl
log_no_fault table text v es new faults.TooLong is has = (let e = ap length is.spelled in let le = is.writable.1 in absurd (omega (arith, e, le, has)))
log_no_fault table text v es new (faults.BadEntry n) is (le, inl none) = absurd (none.1 v (flat_map entry_line (map (event_by_texts new) es)) is.spelled)
log_no_fault table text v es new (faults.BadEntry n) is (le, inr h) = log_only-fault table text h.1 h.0 v (faults.BadEntry n) es new (header_again text h.1 h.0 h.2) h.3 is
log_no_fault table text v es new (faults.NamesFull n) is (le, h) = log_only-fault table text h.1 h.0 v (faults.NamesFull n) es new (header_again text h.1 h.0 h.2) h.3 is

pub store_no_fault : (table : Table) (text : List ℕ) (xs : List (LabelledAtom ℕ)) (new : Table) (f : TextFault) → IsStoreText table text xs new → HasStoreFault table text f → f ≡ faults.NoMemory
store_no_fault table text xs new faults.NoMemory is has = refl
store_no_fault table text xs new faults.TooLong is has = (let e = ap length is.spelled in let le = is.writable.1 in absurd (omega (arith, e, le, has)))
store_no_fault table text xs new (faults.BadEntry n) is has = store_only-fault table text (faults.BadEntry n) xs new has.1 is
store_no_fault table text xs new (faults.NamesFull n) is has = store_only-fault table text (faults.NamesFull n) xs new has.1 is
