-- Two texts have one run of so many steps, so what is shown by two calls is of one book.
use Rattle.std.proofs.Common.{◌≡◌, ℕ, suc, ◌≤◌, List, [], ◌∷◌, length, Some, Ok, Result, slice_get, refl, sym, ap, ap₂, subst, ◌∙◌, arith}
use Rattle.std.specs.List.{AllByRecursion}
use Rattle.chr_value.specs.Atoms.{Atom}
use Rattle.chr_value.specs.Naming.{Table}
use Rattle.chr_rule.specs.Rules.{Simpagation}
use Rattle.chr_rule.specs.Scope.{IsRule}
use Rattle.chr_log_text.specs.Writable.{most_bytes}
use Rattle.chr_plan.specs.Orders.{heads_of, IsPlan}
use Rattle.chr_plan.specs.Plans.{PlanList, AreOrders, ArePlans}
use Rattle.chr_plan.specs.declared.order.Step.{Step}
use Rattle.chr_plan.proofs.OnePlan.{one_plan_fact}
use Rattle.chr_text.specs.Reading.{Program, Posts, program_of, posts_of, RulesOf}
use Rattle.chr_calls.specs.Books.{BookState, opened}
use Rattle.chr_solo.specs.Solo.{IsSolo}
use Rattle.chr_solo.specs.declared.solo.End.{End}
use Rattle.chr_solo.specs.declared.solo.End.TheVariants.{Quiet}
use Rattle.chr_solo.proofs.SoloRuns.{solo_same}
use Rattle.chr_check.specs.declared.checking.Verdict.TheVariants.{RunAndFinal}
use Rattle.chr_run_text.specs.Output.{shown}
use Rattle.chr_run_text.specs.Texts.{PostsOf}
use Rattle.chr_run_text.specs.RunText.{seat, posted_book, IsRunOf, IsMade}
use Rattle.chr_run_text.specs.declared.output.Show.{Show}
use Rattle.chr_run_text.specs.declared.output.Show.TheVariants as show
use Rattle.chr_run_text.specs.declared.running.RunOut.{RunOut}
use Rattle.chr_check_text.specs.CheckTexts.{IsCheckText}
use Rattle.chr_check_text.specs.declared.checked.Checked.{Checked}
use Rattle.chr_check_text.specs.declared.checked.CheckTextFault.{CheckTextFault}
use Rattle.laws_accepts.specs.Accepted.{IsTextRun, verdict_of, IsAnswered}
use Rattle.laws_accepts.proofs.Stays.{all_stay}
use Rattle.laws_accepts.proofs.Checked.{same_ok, are_rules, accepted, strict_accepted, text_run_readable}

-- ---- plans

same_lists : {A : Type 0} (P : ℕ → A → Type 0) → ((i : ℕ) (a b : A) → P i a → P i b → a ≡ b) → (xs ys : List A) → length xs ≡ length ys → ((i : ℕ) (a : A) → slice_get xs i ≡ Some a → P i a) → ((i : ℕ) (a : A) → slice_get ys i ≡ Some a → P i a) → xs ≡ ys
same_lists P fixed [] [] e p q = refl
same_lists P fixed [] (y ∷ ys) e p q = absurd (omega (arith, e))
same_lists P fixed (x ∷ xs) [] e p q = absurd (omega (arith, e))
same_lists P fixed (x ∷ xs) (y ∷ ys) e p q =
    let one = fixed 0 x y (p 0 x refl) (q 0 y refl) in
    let count : length xs ≡ length ys = omega (arith, e) in
    let rest = same_lists (λ i. P (suc i)) (λ i. fixed (suc i)) xs ys count (λ i. p (suc i)) (λ i. q (suc i)) in
    ap₂ (λ z zs. z ∷ zs) one rest

orders_same : (rule : Simpagation ℕ) (p q : List (List Step)) → AreOrders rule p → AreOrders rule q → p ≡ q
orders_same rule p q x y =
    same_lists (λ i order. IsPlan (heads_of rule) (suc i) order) (λ i a b. one_plan_fact (heads_of rule) (suc i) a b) p q (x.count ∙ sym y.count) x.each y.each

plans_same : (rules : List (Simpagation ℕ)) (p q : PlanList) → ArePlans rules p → ArePlans rules q → p ≡ q
plans_same [] [] [] x y = refl
plans_same [] [] (o ∷ q) x y = (let e = y.count in absurd (omega (arith, e)))
plans_same [] (o ∷ p) q x y = (let e = x.count in absurd (omega (arith, e)))
plans_same (r ∷ rs) [] q x y = (let e = x.count in absurd (omega (arith, e)))
plans_same (r ∷ rs) (o ∷ p) [] x y = (let e = y.count in absurd (omega (arith, e)))
plans_same (r ∷ rs) (o ∷ p) (u ∷ q) x y =
    let one = orders_same r o u (x.each 0 r o refl refl) (y.each 0 r u refl refl) in
    let first = x.count in
    let second = y.count in
    let later : ArePlans rs p = record { count = omega (arith, first); each = λ i. x.each (suc i) } in
    let others : ArePlans rs q = record { count = omega (arith, second); each = λ i. y.each (suc i) } in
    ap₂ (λ z zs. z ∷ zs) one (plans_same rs p q later others)

-- ---- runs

book_same : (rules : List (Simpagation ℕ)) (atoms : List (Atom ℕ)) (names : List (List ℕ)) (steps limit : ℕ) (b c : BookState) → AllByRecursion IsRule rules → IsRunOf rules atoms names steps limit b → IsRunOf rules atoms names steps limit c → b ≡ c
book_same rules atoms names steps limit b c whole x y =
    let first = posted_book rules x.plans atoms names limit in
    let plans = plans_same rules y.plans x.plans y.are_plans x.are_plans in
    let other = subst (λ (p : PlanList). IsSolo seat steps (posted_book rules p atoms names limit) y.calls c) plans y.solo in
    let scoped : AllByRecursion IsRule first.rules = subst (AllByRecursion IsRule) (sym (all_stay (opened rules x.plans names limit) seat atoms).rules) whole in
    (solo_same seat steps first x.calls y.calls b c scoped x.solo other).1

run_same : (program posts : List ℕ) (steps limit : ℕ) (read : RulesOf program) (posted : PostsOf read.table posts) (rules : List (Simpagation ℕ)) (table : Table) (atoms : List (Atom ℕ)) (names : Table) (b c : BookState)
    → program_of [] program ≡ Ok (rules, table) → posts_of table posts ≡ Ok (atoms, names) → IsRunOf read.rules posted.atoms posted.names steps limit b → IsRunOf rules atoms names steps limit c → b ≡ c
run_same program posts steps limit read posted rules table atoms names b c p q x y =
    let programs = same_ok {A = Program} (rules, table) (read.rules, read.table) (program_of [] program) p read.reads in
    let rules_same : rules ≡ read.rules = ap (λ (z : Program). z.0) programs in
    let table_same : table ≡ read.table = ap (λ (z : Program). z.1) programs in
    let own = subst (λ (t : Table). posts_of t posts ≡ Ok (atoms, names)) table_same q in
    let lists = same_ok {A = Posts} (atoms, names) (posted.atoms, posted.names) (posts_of read.table posts) own posted.reads in
    let other = subst (λ (z : Posts). IsRunOf rules z.0 z.1 steps limit c) lists y in
    let whole = are_rules program read in
    book_same read.rules posted.atoms posted.names steps limit b c whole x (subst (λ (z : List (Simpagation ℕ)). IsRunOf z posted.atoms posted.names steps limit c) rules_same other)

made_same : {X Y : Type 0} (program posts : List ℕ) (steps limit : ℕ) (one two : Show) (x : RunOut X) (y : RunOut Y) → (m : IsMade program posts steps limit one x) → (n : IsMade program posts steps limit two y) → m.book ≡ n.book
made_same program posts steps limit one two x y m n =
    run_same program posts steps limit m.read m.posted n.read.rules n.read.table n.posted.atoms n.posted.names m.book n.book n.read.reads n.posted.reads m.run n.run

made_run : {X : Type 0} (program posts : List ℕ) (steps limit : ℕ) (one : Show) (x : RunOut X) → (m : IsMade program posts steps limit one x) → IsTextRun program posts steps limit x.end m.book
made_run program posts steps limit one x m = record { read = m.read; posted = m.posted; run = m.run; quiet = m.quiet }

-- ---- two calls

-- the bytes of two calls, as what is shown of the book of the first
store_shown : {X Y : Type 0} (program posts : List ℕ) (steps limit : ℕ) (one : Show) (x : RunOut X) (y : RunOut Y) → (m : IsMade program posts steps limit one x) → IsMade program posts steps limit show.Store y → y.bytes.items ≡ shown show.Store x.end m.book
store_shown program posts steps limit one x y m n = n.bytes ∙ ap (λ (b : BookState). shown show.Store x.end b) (sym (made_same program posts steps limit one show.Store x y m n))

pub calls_accepted : {X Y Z : Type 0} (program posts : List ℕ) (steps limit : ℕ) (log : RunOut X) (store : RunOut Y) (result : Result (Checked Z) CheckTextFault) → limit ≤ 4294967295 → IsMade program posts steps limit show.Log log → IsMade program posts steps limit show.Store store
    → length log.bytes.items ≤ most_bytes → length store.bytes.items ≤ most_bytes → IsCheckText program log.bytes.items store.bytes.items result → IsAnswered (verdict_of log.end) result
calls_accepted program posts steps limit log store result le m n log_short store_short is =
    let stored = store_shown program posts steps limit show.Log log store m n in
    let run = made_run program posts steps limit show.Log log m in
    let a = subst (λ (t : List ℕ). IsCheckText program t store.bytes.items result) m.bytes is in
    let b = subst (λ (t : List ℕ). IsCheckText program (shown show.Log log.end m.book) t result) stored a in
    accepted program run.read m.book (text_run_readable program posts steps limit log.end m.book le run) log.end result run.quiet (subst (λ (t : List ℕ). length t ≤ most_bytes) m.bytes log_short) (subst (λ (t : List ℕ). length t ≤ most_bytes) stored store_short) b

pub strict_calls_accepted : {X Y Z : Type 0} (program posts : List ℕ) (steps limit : ℕ) (log : RunOut X) (store : RunOut Y) (result : Result (Checked Z) CheckTextFault) → limit ≤ 4294967295 → IsMade program posts steps limit show.Strict log → IsMade program posts steps limit show.Store store → log.end ≡ Quiet
    → length log.bytes.items ≤ most_bytes → length store.bytes.items ≤ most_bytes → IsCheckText program log.bytes.items store.bytes.items result → IsAnswered RunAndFinal result
strict_calls_accepted program posts steps limit log store result le m n quiet log_short store_short is =
    let bytes : log.bytes.items ≡ shown show.Strict Quiet m.book = m.bytes ∙ ap (λ (e : End). shown show.Strict e m.book) quiet in
    let stored : store.bytes.items ≡ shown show.Store Quiet m.book = store_shown program posts steps limit show.Strict log store m n in
    let run : IsTextRun program posts steps limit Quiet m.book = subst (λ (e : End). IsTextRun program posts steps limit e m.book) quiet (made_run program posts steps limit show.Strict log m) in
    let a = subst (λ (t : List ℕ). IsCheckText program t store.bytes.items result) bytes is in
    let b = subst (λ (t : List ℕ). IsCheckText program (shown show.Strict Quiet m.book) t result) stored a in
    strict_accepted program run.read m.book (text_run_readable program posts steps limit Quiet m.book le run) result (run.quiet.0 refl) (subst (λ (t : List ℕ). length t ≤ most_bytes) bytes log_short) (subst (λ (t : List ℕ). length t ≤ most_bytes) stored store_short) b
