-- Answers to a list of calls are a run, which posts what they post.
use Rattle.std.proofs.Common.{◌≡◌, ℕ, List, [], ◌∷◌, ◌++◌, Option, Some, None, Result, Ok, Err, refl, sym, ◌∙◌, ap, ap₂, subst, append-nil, append_assoc}
use Rattle.chr_value.specs.Atoms.{Atom}
use Rattle.chr_rule.specs.Rules.{Simpagation}
use Rattle.chr_plan.specs.Plans.{PlanList, ArePlans}
use Rattle.chr_lex.specs.declared.fault.ReadError.{ReadError}
use Rattle.chr_lex.specs.declared.fault.ReadError.TheVariants as errors
use Rattle.chr_text.proofs.Entered.{posts_named, posts_kept}
use Rattle.chr_search.specs.Verdicts.{Trial}
use Rattle.chr_search.specs.Judged.{Judgement, IsVerdict}
use Rattle.chr_calls.specs.declared.answers.PostFault.{PostFault}
use Rattle.chr_calls.specs.Batches.{AreRight}
use Rattle.chr_calls.specs.Books.{BookState, opened}
use Rattle.chr_calls.specs.Calls.{Posts}
use Rattle.chr_calls.specs.Runs.{Call, Run, posts_of, all_posts}
use Rattle.chr_calls.specs.Runs as calls
use Rattle.chr_calls.specs.Headline.{Headline}
use Rattle.chr_book.specs.declared.texts.Posted.{Posted as PostedText}
use Rattle.chr_book.specs.Texts.{PostsText}
use Rattle.chr_book.specs.Books.{IsOpened}
use Rattle.chr_run_calls.specs.declared.run.Act.{Act}
use Rattle.chr_run_calls.specs.declared.run.Act.TheVariants as act
use Rattle.chr_run_calls.specs.Lists.{Word, Given, Own, Words, GivenAll, OwnBatch, SeatCall, Answer, Said, said}
use Rattle.chr_run_calls.specs.Lists as list
use Rattle.chr_run_calls.specs.Told.{last_batch, StandsFor, StandFor, AreOfBatch}
use Rattle.chr_run_calls.specs.CallLists.{Acts, ActsByWord, ReportsByWords, Answers, atoms_of_post, atoms_of_text, atoms_of, AnswersFrom, AnswersAre, posted_in, atoms_posted}
use Rattle.chr_run_calls.specs.CallLists as lists
use Rattle.chr_run_calls.proofs.Said.{judged_right}

-- ---- runs

-- a run from a book to another that posts these atoms
pub record RunOf (b n : BookState) (atoms : List (Atom ℕ)) : Type 0 where
  pub posts : List (List (Atom ℕ))
  pub run : Run b posts n
  pub are : all_posts posts ≡ atoms

none_made : (b n : BookState) → n ≡ b → RunOf b n []
none_made b n e = record { posts = []; run = e; are = refl }

one_made : (b n : BookState) (seat : ℕ) (call : Call b seat n) (atoms : List (Atom ℕ)) → posts_of call ≡ atoms → RunOf b n atoms
one_made b n seat call atoms e = record { posts = posts_of call ∷ []; run = (n, seat, call, refl, refl); are = append-nil (posts_of call) ∙ e }

run_on : (b m n : BookState) (ps qs : List (List (Atom ℕ))) → Run b ps m → Run m qs n → Run b (ps ++ qs) n
run_on b m n [] qs first more = subst (λ (x : BookState). Run x qs n) first more
run_on b m n (p ∷ ps) qs first more = (first.0, first.1, first.2, first.3, run_on first.0 m n ps qs first.4 more)

all_on : (ps qs : List (List (Atom ℕ))) → all_posts (ps ++ qs) ≡ all_posts ps ++ all_posts qs
all_on [] qs = refl
all_on (p ∷ ps) qs = ap (λ (xs : List (Atom ℕ)). p ++ xs) (all_on ps qs) ∙ sym (append_assoc p (all_posts ps) (all_posts qs))

then_made : (b m n : BookState) (xs ys : List (Atom ℕ)) → RunOf b m xs → RunOf m n ys → RunOf b n (xs ++ ys)
then_made b m n xs ys first more = record {
  posts = first.posts ++ more.posts;
  run = run_on b m n first.posts more.posts first.run more.run;
  are = all_on first.posts more.posts ∙ ap₂ (λ (us vs : List (Atom ℕ)). us ++ vs) first.are more.are;
}

-- ---- each call

run_of_post : (b n : BookState) (seat : ℕ) (atoms : List (Atom ℕ)) (told : Result ℕ PostFault) → Posts b seat atoms told n → RunOf b n (atoms_of_post atoms told)
run_of_post b n seat atoms (Ok first) made = one_made b n seat (calls.Post atoms (Ok first) made) atoms refl
run_of_post b n seat atoms (Err fault) made = one_made b n seat (calls.Post atoms (Err fault) made) [] refl

run_of_text : (b n : BookState) (seat : ℕ) (bytes : List ℕ) (told : Result PostedText ReadError) (made : PostsText b seat bytes told n) → RunOf b n (atoms_of_text b n seat bytes told made)
run_of_text b n seat bytes (Ok posted) made =
    one_made b n seat (calls.PostText made.table made.atoms posted.first (posts_kept b.names bytes (made.atoms, made.table) made.reads) (posts_named b.names bytes (made.atoms, made.table) made.reads, made.first, made.after)) made.atoms refl
run_of_text b n seat bytes (Err (errors.Fault fault)) made = none_made b n made.1
run_of_text b n seat bytes (Err errors.Memory) made = none_made b n made

right_of_word : (so_far : List Said) (seat t : ℕ) (word : Word) (j : Judgement) → StandsFor so_far seat t word j → IsVerdict j.trial j.verdict
right_of_word so_far seat t (Given given) j stands = stands.1
right_of_word so_far seat t Own j stands = stands.1

run_of_act : (b n : BookState) (does : Act) (seat t : ℕ) (j : Judgement) (answer : Answer) → IsVerdict j.trial j.verdict → Acts does b seat t j answer n → RunOf b n []
run_of_act b n act.Report seat t j answer right made = one_made b n seat (calls.Report t j made.0 right made.2) [] refl
run_of_act b n act.Fire seat t j answer right made = one_made b n seat (calls.Fire t j made.0 right made.2) [] refl

run_of_word : (b n : BookState) (does : Act) (so_far : List Said) (seat t : ℕ) (word : Word) (answer : Answer) → ActsByWord does b so_far seat t word answer n → RunOf b n []
run_of_word b n does so_far seat t word answer (lists.judged j stands made) = run_of_act b n does seat t j answer (right_of_word so_far seat t word j stands) made
run_of_word b n does so_far seat t word answer (lists.none_told none told same) = none_made b n same
run_of_word b n does so_far seat t word answer (lists.no_memory trial own told is same) = none_made b n same

right_of_batch : (told : Option (List Trial)) (js : List Judgement) → AreOfBatch told js → AreRight js
right_of_batch None js are = subst AreRight (sym are) tt
right_of_batch (Some trials) js are = judged_right trials js are

right_of_words : (so_far : List Said) (seat t : ℕ) (words : Words) (js : List Judgement) → StandFor so_far seat t words js → AreRight js
right_of_words so_far seat t (GivenAll given) js stand = stand.1
right_of_words so_far seat t OwnBatch js stand = right_of_batch (last_batch so_far seat t) js stand

run_of_words : (b n : BookState) (so_far : List Said) (seat t : ℕ) (words : Words) (answer : Answer) → ReportsByWords b so_far seat t words answer n → RunOf b n []
run_of_words b n so_far seat t words answer (lists.all_judged js told stand is made) = one_made b n seat (calls.ReportBatch t js told (right_of_words so_far seat t words js stand) made) [] refl
run_of_words b n so_far seat t words answer (lists.none_judged trials own told is same) = none_made b n same

run_of_call : (b n : BookState) (so_far : List Said) (seat : ℕ) (call : list.Call) (answer : Answer) (made : Answers b so_far seat call answer n) → RunOf b n (atoms_of b n so_far seat call answer made)
run_of_call b n so_far seat (list.Post atoms) answer made = run_of_post b n seat atoms made.0 made.2
run_of_call b n so_far seat (list.PostText bytes) answer made = run_of_text b n seat bytes made.0 made.2
run_of_call b n so_far seat (list.Claim t) answer made = one_made b n seat (calls.Claim t made.0 made.2) [] refl
run_of_call b n so_far seat (list.Ask t) answer made = one_made b n seat (calls.Trial t made.0 made.2) [] refl
run_of_call b n so_far seat (list.Report t word) answer made = run_of_word b n act.Report so_far seat t word answer made
run_of_call b n so_far seat (list.Fire t word) answer made = run_of_word b n act.Fire so_far seat t word answer made
run_of_call b n so_far seat (list.DropGoal t) answer made = one_made b n seat (calls.DropGoal t made.0 made.2) [] refl
run_of_call b n so_far seat (list.PutDown t) answer made = one_made b n seat (calls.PutDown t made.0 made.2) [] refl
run_of_call b n so_far seat (list.MarkStray t) answer made = one_made b n seat (calls.MarkStray t made.0 made.2) [] refl
run_of_call b n so_far seat list.TakeStray answer made = one_made b n seat (calls.TakeStray made.0 made.2) [] refl
run_of_call b n so_far seat (list.AskBatch t) answer made = one_made b n seat (calls.Batch t made.0 made.2) [] refl
run_of_call b n so_far seat (list.ReportBatch t words) answer made = run_of_words b n so_far seat t words answer made

-- ---- lists of calls

run_of_list : (so_far : List Said) (b n : BookState) (cs : List SeatCall) (answers : List Answer) (made : AnswersFrom so_far b cs answers n) → RunOf b n (posted_in so_far b n cs answers made)
run_of_list so_far b n [] [] made = none_made b n made
run_of_list so_far b n [] (a ∷ answers) made = absurd made
run_of_list so_far b n (c ∷ cs) [] made = absurd made
run_of_list so_far b n (c ∷ cs) (a ∷ answers) made =
    then_made b made.0 n
    (atoms_of b made.0 so_far c.seat c.call a made.1)
    (posted_in (said c a ∷ so_far) made.0 n cs answers made.2)
    (run_of_call b made.0 so_far c.seat c.call a made.1)
    (run_of_list (said c a ∷ so_far) made.0 n cs answers made.2)

pub answers_run : (b n : BookState) (cs : List SeatCall) (answers : List Answer) (made : AnswersAre b cs answers n) → (posts : List (List (Atom ℕ))) × Run b posts n × (all_posts posts ≡ atoms_posted b n cs answers made)
answers_run b n cs answers made = let all = run_of_list [] b n cs answers made in (all.posts, all.run, all.are)

pub list_headline : ((rules : List (Simpagation ℕ)) (plans : PlanList) (names : List (List ℕ)) (limit : ℕ) (posts : List (List (Atom ℕ))) (n : BookState) → ArePlans rules plans → Run (opened rules plans names limit) posts n → Headline n (all_posts posts))
    → (rules : List (Simpagation ℕ)) (names : List (List ℕ)) (limit : ℕ) (b n : BookState) (cs : List SeatCall) (answers : List Answer) → IsOpened rules names limit b → (made : AnswersAre b cs answers n) → Headline n (atoms_posted b n cs answers made)
list_headline law rules names limit b n cs answers is made =
    let all = run_of_list [] b n cs answers made in
    subst (Headline n) all.are (law rules is.plans names limit all.posts n is.are_plans (subst (λ (x : BookState). Run x all.posts n) is.is all.run))
