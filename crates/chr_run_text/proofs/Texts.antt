-- Texts of posts, posted one after another, and their runs.
use Rattle.std.proofs.Common.{◌≡◌, ℕ, List, [], ◌∷◌, ◌++◌, length, refl, sym, ap, ◌∙◌, append_assoc, append-nil, Bor, slice_index_or, option_map, zero, suc, ◌+◌, ◌≤◌, ◌<◌, take, map, Some, Result, Ok, Err, subst, arith, ◌↔◌}
use Rattle.std.specs.List.{slice_get}
use Rattle.std.proofs.lemmas.List.{take-map, map_push, take_all}
use Rattle.std.proofs.lemmas.Option.{slice_get_within, slice_get-map, slice_get-get_or}
use Rattle.std.proofs.Math.Seq.{take-suc}
use Rattle.chr_value.specs.Atoms.{Atom}
use Rattle.chr_value.specs.Naming.{Table}
use Rattle.chr_value.proofs.Chosen.{some_is}
use Rattle.chr_rule.specs.Rules.{Simpagation}
use Rattle.chr_log.specs.Events.{Post, Event, Entry, event_of, entry_of, entry_events, event_by_texts}
use Rattle.chr_log.specs.declared.events.Entry.{Entry as CodeEntry}
use Rattle.chr_log.specs.LogText.{entries_text}
use Rattle.chr_model.specs.Logs.{posted_by}
use Rattle.chr_model.specs.Programs.{Instances}
use Rattle.chr_model.specs.Stores.{Final}
use Rattle.chr_lex.specs.Reading.{◌>>=◌}
use Rattle.chr_lex.specs.declared.fault.ReadFault.{ReadFault}
use Rattle.chr_lex.specs.declared.fault.ReadError.{ReadError}
use Rattle.chr_lex.specs.declared.fault.ReadError.TheVariants as errors
use Rattle.chr_text.specs.Reading.{Posts, posts_of}
use Rattle.chr_text.proofs.Texts.{bind_ok, ok_is}
use Rattle.chr_calls.specs.Books.{BookState, events, with_names, opened}
use Rattle.chr_calls.specs.Calls.{posted, all_posted}
use Rattle.chr_calls.proofs.Tickets.{posts_appended, events_more}
use Rattle.chr_calls.specs.Tickets.{AreQuiet}
use Rattle.chr_calls.specs.Headline.{Headline}
use Rattle.chr_book.specs.Texts.{PostsAtoms, PostsText, IsOpenText}
use Rattle.chr_book.specs.declared.texts.Posted.{Posted}
use Rattle.chr_book.proofs.Logs.{all_posted_more}
use Rattle.chr_run_text.specs.Texts.{with_posts, AllPostsOf, HasPostsFault, PostsOf}
use Rattle.chr_run_text.specs.RunText.{seat, posted_book, IsRunOf, IsMade, IsRefused, IsRunText}
use Rattle.chr_run_text.specs.RunTexts.{PostsTexts, TextsFault, posts_fault, IsRunOfTexts, AreRefused, IsMadeRun, whole_fault, IsShown}
use Rattle.chr_solo.specs.Solo.{Nothing, IsSolo}
use Rattle.chr_solo.specs.declared.solo.End.{End}
use Rattle.chr_run_text.specs.Output.{shown}
use Rattle.chr_run_text.specs.declared.output.Show.{Show}
use Rattle.chr_run_text.specs.declared.running.RunOut.{RunOut}
use Rattle.chr_run_text.specs.declared.running.RunFault.{RunFault}
use Rattle.chr_run_text.specs.declared.running.RunTextsFault.{RunTextsFault}
use Rattle.chr_solo.proofs.SoloRuns.{run_lasts}
use Rattle.chr_solo.specs.declared.solo.End.TheVariants as ends
use Rattle.chr_run_text.specs.declared.running.RunTextsFault.TheVariants as faults

pub all_posts : (b : BookState) (seat : ℕ) (atoms : List (Atom ℕ)) → posted_by (events (all_posted b seat atoms)) ≡ posted_by (events b) ++ atoms
all_posts b seat [] = sym (append-nil (posted_by (events b)))
all_posts b seat (a ∷ atoms) =
    all_posts (posted b seat a) seat atoms
    ∙ ap (λ (xs : List (Atom ℕ)). xs ++ atoms) (ap posted_by (events_more b seat (Post (length b.tickets) a)) ∙ posts_appended (events b) (Post (length b.tickets) a ∷ [])) ∙ append_assoc (posted_by (events b)) (a ∷ []) atoms

posted_rules : (b : BookState) (seat : ℕ) (atoms : List (Atom ℕ)) → (all_posted b seat atoms).rules ≡ b.rules
posted_rules b seat [] = refl
posted_rules b seat (a ∷ atoms) = posted_rules (posted b seat a) seat atoms

-- ---- atoms and names

names_posted : (b : BookState) (table : Table) (by : ℕ) (atoms : List (Atom ℕ)) → all_posted (with_names b table) by atoms ≡ with_names (all_posted b by atoms) table
names_posted b table by [] = refl
names_posted b table by (a ∷ atoms) = names_posted (posted b by a) table by atoms

-- ---- texts

more_posts : (x y : Posts) (texts : List (List ℕ)) (text : List ℕ) (own : Posts) → with_posts x texts ≡ Ok y → posts_of y.1 text ≡ Ok own → with_posts x (texts ++ text ∷ []) ≡ Ok (y.0 ++ own.0, own.1)
more_posts x y [] text own h k =
    let is : x ≡ y = ok_is x y h in
    subst (λ (z : Posts). with_posts z (text ∷ []) ≡ Ok (y.0 ++ own.0, own.1)) (sym is) (ap (λ (r : Result Posts ReadFault). r >>= λ o. Ok (y.0 ++ o.0, o.1)) k)
more_posts x y (t ∷ texts) text own h k =
    let first = bind_ok (posts_of x.1 t) (λ o. with_posts (x.0 ++ o.0, o.1) texts) y h in
    ap (λ (r : Result Posts ReadFault). r >>= λ o. with_posts (x.0 ++ o.0, o.1) (texts ++ text ∷ [])) first.1 ∙ more_posts (x.0 ++ first.0.0, first.0.1) y texts text own first.2 k

abbrev pub texts : List (Bor (List ℕ)) → List (List ℕ)
texts posts = map (λ text. text.now) posts

text_at : (posts : List (Bor (List ℕ))) (i : ℕ) (d : Bor (List ℕ)) → i < length posts → slice_get (texts posts) i ≡ Some (slice_index_or posts i d).now
text_at posts i d lt = slice_get-map (λ text. text.now) posts i ∙ ap (option_map (λ (text : Bor (List ℕ)). text.now)) (slice_get-get_or posts i d lt)

text_taken : (posts : List (Bor (List ℕ))) (i : ℕ) (d : Bor (List ℕ)) → i < length posts → take (suc i) (texts posts) ≡ take i (texts posts) ++ (slice_index_or posts i d).now ∷ []
text_taken posts i d lt =
    take-map (λ (text : Bor (List ℕ)). text.now) (suc i) posts ∙ ap texts (take-suc posts i d lt) ∙ map_push (λ (text : Bor (List ℕ)). text.now) (take i posts) (slice_index_or posts i d)
    ∙ ap (λ (xs : List (List ℕ)). xs ++ (slice_index_or posts i d).now ∷ []) (sym (take-map (λ (text : Bor (List ℕ)). text.now) i posts))

-- ---- the loop over texts

pub texts_start : (b : BookState) (posts : List (List ℕ)) → PostsTexts b (take 0 posts) b
texts_start b posts = record { atoms = []; table = b.names; reads = refl; after = refl }

one_more : (b now n : BookState) (done : List (List ℕ)) (text : List ℕ) (p : Posted) → PostsTexts b done now → PostsAtoms now seat text p n → PostsTexts b (done ++ text ∷ []) n
one_more b now n done text p s h =
    let named : now.names ≡ s.table = ap (λ (x : BookState). x.names) (s.after ∙ names_posted b s.table seat s.atoms) in
    let reads : posts_of s.table text ≡ Ok (h.atoms, h.table) = subst (λ (t : Table). posts_of t text ≡ Ok (h.atoms, h.table)) named h.reads in
    record {
      atoms = s.atoms ++ h.atoms;
      table = h.table;
      reads = more_posts ([], b.names) (s.atoms, s.table) done text (h.atoms, h.table) s.reads reads;
      after = h.after ∙ ap (λ (x : BookState). all_posted (with_names x h.table) seat h.atoms) s.after
          ∙ ap (λ (x : BookState). all_posted x seat h.atoms) (sym (names_posted (with_names b s.table) h.table seat s.atoms)) ∙ sym (all_posted_more (with_names b h.table) seat s.atoms h.atoms);
    }

pub texts_more : (b now n : BookState) (posts : List (Bor (List ℕ))) (i : ℕ) (d : Bor (List ℕ)) (p : Posted) → i < length posts → PostsTexts b (take i (texts posts)) now → PostsAtoms now seat (slice_index_or posts i d).now p n → PostsTexts b (take (i + 1) (texts posts)) n
texts_more b now n posts i d p lt s h =
    let next : suc i ≡ i + 1 = omega arith in
    let all : take i (texts posts) ++ (slice_index_or posts i d).now ∷ [] ≡ take (i + 1) (texts posts) = sym (text_taken posts i d lt) ∙ ap (λ (k : ℕ). take k (texts posts)) next in
    subst (λ (xs : List (List ℕ)). PostsTexts b xs n) all (one_more b now n (take i (texts posts)) (slice_index_or posts i d).now p s h)

pub texts_fault : (b now n : BookState) (posts : List (Bor (List ℕ))) (i : ℕ) (d : Bor (List ℕ)) (error : ReadError) → i < length posts → PostsTexts b (take i (texts posts)) now → PostsText now seat (slice_index_or posts i d).now (Err error) n → TextsFault b (texts posts) (posts_fault i error)
texts_fault b now n posts i d (errors.Fault fault) lt s h =
    let named : now.names ≡ s.table = ap (λ (x : BookState). x.names) (s.after ∙ names_posted b s.table seat s.atoms) in
    record {
      text = (slice_index_or posts i d).now;
      is = text_at posts i d lt;
      before = record { atoms = s.atoms; names = s.table; reads = s.reads };
      has = subst (λ (t : Table). posts_of t (slice_index_or posts i d).now ≡ Err fault) named h.0;
    }
texts_fault b now n posts i d errors.Memory lt s h = tt

pub texts_done : (b n : BookState) (posts : List (List ℕ)) (i : ℕ) → length posts ≤ i → PostsTexts b (take i posts) n → PostsTexts b posts n
texts_done b n posts i le s = subst (λ (xs : List (List ℕ)). PostsTexts b xs n) (take_all i posts le) s

-- ---- one text

pub one_text : (table : Table) (text : List ℕ) (all : AllPostsOf table (text ∷ [])) → posts_of table text ≡ Ok (all.atoms, all.names)
one_text table text all =
    let first = bind_ok (posts_of table text) (λ o. with_posts (o.0, o.1) []) (all.atoms, all.names) all.reads in
    first.1 ∙ ap (λ (x : Posts). Ok x) (ok_is first.0 (all.atoms, all.names) first.2)

pub one_fault : (table : Table) (text : List ℕ) (place : ℕ) (fault : ReadFault) → HasPostsFault table (text ∷ []) place fault → posts_of table text ≡ Err fault
one_fault table text zero fault has =
    let is : text ≡ has.text = some_is text has.text has.is in
    let names : ([], table) ≡ (has.before.atoms, has.before.names) = ok_is {A = Posts} ([], table) (has.before.atoms, has.before.names) has.before.reads in
    subst (λ (t : Table). posts_of t text ≡ Err fault) (sym (ap (λ (x : Posts). x.1) names)) (subst (λ (x : List ℕ). posts_of has.before.names x ≡ Err fault) (sym is) has.has)
one_fault table text (suc place) fault has = (let past = slice_get_within [] place has.text has.is in absurd (omega (arith, past)))

-- the posts of texts that were posted to an open book
posted_texts : (program : List ℕ) (posts : List (List ℕ)) (limit : ℕ) (o b : BookState) → (open_text : IsOpenText program limit o) → (h : PostsTexts o posts b)
    → (with_posts ([], open_text.read.table) posts ≡ Ok (h.atoms, h.table)) × (b ≡ posted_book open_text.read.rules open_text.is.plans h.atoms h.table limit)
posted_texts program posts limit o b open_text h = (
  subst (λ (s : BookState). with_posts ([], s.names) posts ≡ Ok (h.atoms, h.table)) open_text.is.is h.reads,
  h.after ∙ ap (λ (s : BookState). all_posted (record { rules = s.rules; plans = s.plans; names = h.table; limit = s.limit; log = s.log; store = s.store; next = s.next; tickets = s.tickets }) seat h.atoms) open_text.is.is,
)

pub is_made : (program : List ℕ) (posts : List (List ℕ)) (steps limit : ℕ) (end : End) (o b n : BookState) → IsOpenText program limit o → PostsTexts o posts b → IsMadeRun steps end b n → IsRunOfTexts program posts steps limit end n
is_made program posts steps limit end o b n open_text h made =
    let is = posted_texts program posts limit o b open_text h in
    let rules = open_text.read.rules in
    let solo = made.solo in
    let lasts = run_lasts seat solo.made b Nothing n solo.known solo.run in
    let from : posted_by (events b) ≡ h.atoms = ap (λ (s : BookState). posted_by (events s)) is.1 ∙ all_posts (opened rules open_text.is.plans h.table limit) seat h.atoms in
    let head : Headline n h.atoms = subst (Headline n) (ap (λ x. x.1) lasts ∙ from) made.headline in
    let same : n.rules ≡ rules = ap (λ x. x.0) lasts ∙ ap (λ (s : BookState). s.rules) is.1 ∙ posted_rules (opened rules open_text.is.plans h.table limit) seat h.atoms in
    let run : IsRunOf rules h.atoms h.table steps limit n = record {
      plans = open_text.is.plans;
      are_plans = open_text.is.are_plans;
      calls = made.calls;
      solo = subst (λ (s : BookState). IsSolo seat steps s made.calls n) is.1 solo;
      headline = head;
    } in
    record {
      read = open_text.read;
      posted = record { atoms = h.atoms; names = h.table; reads = is.0 };
      run = run;
      quiet = made.quiet;
      final = λ e. subst (λ (rs : List (Simpagation ℕ)). Final (Instances rs) n.store) same (head.final (made.quiet.0 e));
    }

pub posts_refused : (program : List ℕ) (posts : List (List ℕ)) (limit : ℕ) (o : BookState) (fault : RunTextsFault) → IsOpenText program limit o → TextsFault o posts fault → AreRefused program posts fault
posts_refused program posts limit o (faults.Program fault) open_text h = absurd h
posts_refused program posts limit o (faults.Posts place fault) open_text h = (open_text.read, subst (λ (s : BookState). HasPostsFault s.names posts place fault) open_text.is.is h)
posts_refused program posts limit o faults.Memory open_text h = tt

-- ---- one text of posts

pub one_made : {Z : Type 0} (program text : List ℕ) (steps limit : ℕ) (show : Show) (end : End) (b : BookState) (made : RunOut Z) → IsRunOfTexts program (text ∷ []) steps limit end b → made.end ≡ end → made.bytes.items ≡ shown show end b → IsMade program text steps limit show made
one_made program text steps limit show end b made is e bytes =
    let posted : PostsOf is.read.table text = record { atoms = is.posted.atoms; names = is.posted.names; reads = one_text is.read.table text is.posted } in
    record {
      read = is.read;
      posted = posted;
      book = b;
      run = is.run;
      quiet = subst (λ (x : End). (x ≡ ends.Quiet) ↔ AreQuiet b.tickets) (sym e) is.quiet;
      final = subst (λ (x : End). x ≡ ends.Quiet → Final (Instances is.read.rules) b.store) (sym e) is.final;
      bytes = subst (λ (x : End). made.bytes.items ≡ shown show x b) (sym e) bytes;
    }

pub one_run : {Z : Type 0} (program text : List ℕ) (steps limit : ℕ) (show : Show) (end : End) (b : BookState) (result : Result (RunOut Z) RunFault) → IsRunOfTexts program (text ∷ []) steps limit end b → IsShown show end b result → IsRunText program text steps limit show result
one_run program text steps limit show end b (Ok made) is h = one_made program text steps limit show end b made is h.0 h.1
one_run program text steps limit show end b (Err fault) is h = subst (IsRefused program text) (sym h) tt

pub one_refused : (program text : List ℕ) (fault : RunTextsFault) → AreRefused program (text ∷ []) fault → IsRefused program text (whole_fault fault)
one_refused program text (faults.Program fault) h = h
one_refused program text (faults.Posts place fault) h = (h.0, one_fault h.0.table text place fault h.1)
one_refused program text faults.Memory h = tt

pub same_events : {Z : Type 0} (xs : List (CodeEntry Z)) → entry_events xs ≡ map (λ (e : Entry ℕ). e.event) (map entry_of xs)
same_events [] = refl
same_events (x ∷ xs) = ap (λ (es : List (Event ℕ)). event_of x.event ∷ es) (same_events xs)

-- those of a log
pub events_are : {Z : Type 0} (xs : List (CodeEntry Z)) (log : List (Entry ℕ)) → map entry_of xs ≡ log → entry_events xs ≡ map (λ (e : Entry ℕ). e.event) log
events_are xs log h = same_events xs ∙ ap (λ (es : List (Entry ℕ)). map (λ (e : Entry ℕ). e.event) es) h

-- lines after what is there
pub lines_written : (old mid front new : List ℕ) (table names : List (List ℕ)) (es fs : List (Event ℕ)) → mid ≡ old ++ front → new ≡ mid ++ entries_text (map (event_by_texts names) es) → names ≡ table → es ≡ fs → new ≡ old ++ (front ++ entries_text (map (event_by_texts table) fs))
lines_written old mid front new table names es fs h e same is =
    e ∙ ap (λ (x : List ℕ). x ++ entries_text (map (event_by_texts names) es)) h ∙ append_assoc old front (entries_text (map (event_by_texts names) es))
    ∙ ap (λ (t : List (List ℕ)). old ++ (front ++ entries_text (map (event_by_texts t) es))) same ∙ ap (λ (xs : List (Event ℕ)). old ++ (front ++ entries_text (map (event_by_texts table) xs))) is
