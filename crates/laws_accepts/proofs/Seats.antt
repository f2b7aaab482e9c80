-- What a book that seats have made of texts writes is read back.
use Rattle.std.proofs.Common.{◌≡◌, ℕ, ◌+◌, ◌≤◌, List, [], ◌++◌, map, refl, sym, ap, subst, ◌∙◌, arith}
use Rattle.std.proofs.lemmas.List.{append-nil}
use Rattle.chr_text.specs.Reading.{RulesOf}
use Rattle.chr_value.specs.Atoms.{Atom, by_texts}
use Rattle.chr_value.specs.Naming.{Table}
use Rattle.chr_rule.specs.Rules.{Simpagation}
use Rattle.chr_log.specs.declared.events.Version.TheVariants.{Two}
use Rattle.chr_plan.specs.Plans.{PlanList, ArePlans}
use Rattle.chr_model.specs.Logs.{Lawful, posted_by}
use Rattle.chr_model.specs.Programs.{Instances}
use Rattle.chr_calls.specs.Books.{BookState, opened, goal_state, events, with_names}
use Rattle.chr_calls.specs.Runs.{Call, posts_of}
use Rattle.chr_calls.specs.Runs as calls
use Rattle.chr_calls.specs.Headline.{IsKept}
use Rattle.chr_calls.proofs.Turning.{turns_keep, reports_keep}
use Rattle.chr_calls.proofs.Fires.{fires_keep}
use Rattle.chr_calls.proofs.Drops.{drops_keep}
use Rattle.chr_calls.proofs.Batching.{batches_keep, batch_reports_keep}
use Rattle.chr_calls.proofs.Headlines.{opened_kept, call_posts, call_keeps}
use Rattle.chr_book.specs.Texts.{PostsAtoms}
use Rattle.chr_book.specs.declared.texts.Posted.{Posted}
use Rattle.laws_accepts.specs.Accepted.{IsOfTexts, opens, posts, goes_on}
use Rattle.laws_accepts.proofs.ReadBack.{AreRead, none_read, text_read, both_read, atoms_say}
use Rattle.laws_accepts.proofs.Stays.{Stays, all_stay, call_stays}
use Rattle.laws_accepts.proofs.Checked.{IsReadable}

-- its rules and the first of its names are those of the text of rules; what is posted is read over its names
record IsRead (program : List ℕ) (limit : ℕ) (b : BookState) : Type 0 where
  read : RulesOf program
  kept : IsKept b
  rules : b.rules ≡ read.rules
  limit_is : b.limit ≡ limit
  next : b.next ≤ b.limit + 1
  posted : AreRead read.table b.names (posted_by (events b))

opened_read : (program : List ℕ) (limit : ℕ) (read : RulesOf program) (b : BookState) (plans : PlanList) → ArePlans read.rules plans → b ≡ opened read.rules plans read.table limit → IsRead program limit b
opened_read program limit read b plans are is = subst (IsRead program limit) (sym is) (record {
  read = read;
  kept = opened_kept read.rules plans read.table limit are;
  rules = refl;
  limit_is = refl;
  next = omega arith;
  posted = none_read read.table;
})

-- a call keeps what a book keeps
kept_by : (b n : BookState) (seat : ℕ) → Call b seat n → IsKept b → IsKept n
kept_by b n seat call k = call_keeps (record { turns = turns_keep; reports = reports_keep; fires = fires_keep; drops = drops_keep; batches = batches_keep; batch_reports = batch_reports_keep }) b n seat call k

-- a call after which the names are these
called_read : (program : List ℕ) (limit : ℕ) (b n : BookState) (seat : ℕ) (names : Table) → Call b seat n → Stays (with_names b names) n → (r : IsRead program limit b) → AreRead r.read.table names (posted_by (events n)) → IsRead program limit n
called_read program limit b n seat names call s r all = record {
  read = r.read;
  kept = kept_by b n seat call r.kept;
  rules = s.rules ∙ r.rules;
  limit_is = s.limit ∙ r.limit_is;
  next = s.next r.next;
  posted = subst (λ (t : Table). AreRead r.read.table t (posted_by (events n))) (sym s.names) all;
}

-- one that posts nothing
call_read : (program : List ℕ) (limit : ℕ) (b n : BookState) (seat : ℕ) (call : Call b seat n) → posts_of call ≡ [] → n.names ≡ b.names → IsRead program limit b → IsRead program limit n
call_read program limit b n seat call none names r =
    let atoms : posted_by (events n) ≡ posted_by (events b) = call_posts b n seat call ∙ ap (λ (xs : List (Atom ℕ)). posted_by (events b) ++ xs) none ∙ append-nil (posted_by (events b)) in
    called_read program limit b n seat b.names call (call_stays b n seat call names) r (subst (AreRead r.read.table b.names) (sym atoms) r.posted)

-- a text that is posted
posts_read : (program : List ℕ) (limit : ℕ) (b n : BookState) (seat : ℕ) (bytes : List ℕ) (p : Posted) → PostsAtoms b seat bytes p n → IsRead program limit b → IsRead program limit n
posts_read program limit b n seat bytes p h r =
    let own = text_read b.names bytes (h.atoms, h.table) h.reads in
    let said = atoms_say b.names h.table (map (by_texts h.table) h.atoms) h.atoms own.numbered in
    let call : Call b seat n = calls.PostText h.table h.atoms p.first own.keeps (said.1, h.first, h.after) in
    called_read program limit b n seat h.table call (subst (Stays (with_names b h.table)) (sym h.after) (all_stay (with_names b h.table) seat h.atoms)) r
    (subst (AreRead r.read.table h.table) (sym (call_posts b n seat call)) (both_read r.read.table b.names h.table (posted_by (events b)) h.atoms r.posted own))

seats_read : (program : List ℕ) (limit : ℕ) (b : BookState) → IsOfTexts program limit b → IsRead program limit b
seats_read program limit b (opens b1 h) = opened_read program limit h.read b h.is.plans h.is.are_plans h.is.is
seats_read program limit b (posts b1 n1 seat bytes p so_far h) = posts_read program limit b1 b seat bytes p h (seats_read program limit b1 so_far)
seats_read program limit b (goes_on b1 n1 seat call so_far none names) = call_read program limit b1 b seat call none names (seats_read program limit b1 so_far)

pub seats_readable : (program : List ℕ) (limit : ℕ) (b : BookState) → limit ≤ 4294967295 → IsOfTexts program limit b → (read : RulesOf program) × IsReadable program read b
seats_readable program limit b le made =
    let r = seats_read program limit b made in
    let next = r.next in
    let is = r.limit_is in (
      r.read,
      record {
        posted = r.posted;
        lawful = subst (λ (rules : List (Simpagation ℕ)). Lawful Two (Instances rules) (events b) (goal_state b)) r.rules r.kept.lawful;
        room = omega (arith, next, is, le);
      },
    )
