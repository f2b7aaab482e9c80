-- The words of a term that are numbered make the numbered term; the parts of a rule, and terms that are built.
use Rattle.std.proofs.Common.{◌≡◌, ℕ, zero, suc, Bool, true, false, ltb, ◌||◌, List, [], ◌∷◌, ◌++◌, Option, Some, None, Ok, refl, sym, ap, ap₂, subst, ◌∙◌, ◌≤◌, length, ◌<◌, ◌+◌, get_or, drop, map, reverse, append_assoc, Box, arith}
use Rattle.std.specs.List.{list_any}
use Rattle.chr_lex.specs.declared.fault.ItemError.{ItemError}
use Rattle.chr_lex.specs.Reading.{Fails}
use Rattle.chr_value.specs.Atoms.{Value, Int, Sym, Comp, Args, Nil, Cons, args_of, grounds}
use Rattle.chr_value.specs.Bounds.{most_arguments}
use Rattle.chr_value.specs.Naming.{◌>>=◌, Table, number_name, numbered_value, numbered_args}
use Rattle.chr_value.proofs.Chosen.{bind_some, some_is}
use Rattle.chr_rule.specs.Rules.{Term, Var, Given, Open, Terms, End, And, terms_of, RuleAtom, Comparison, BodyItem, Simpagation, of_parts}
use Rattle.chr_rule.specs.Terms.{is_open}
use Rattle.chr_text.specs.Terms.{Placed, inside, behind, values, functor_with, with_args, terms_of_words, term_of_words, TakeFew, value_words, args_words, words_of, terms_words, first_of}
use Rattle.chr_text.specs.Numbering.{or_full, each, numbered_term, numbered_terms, numbered_word, numbered_rule_atom, number_test, number_member, number_rule}
use Rattle.chr_text.proofs.Lists.{IfThere, there, if_there, then_there, numbered_is, fails_as, uncons, each_end, fails_then, each_some, given_somes, given_seen, map_at}
use Rattle.chr_text.proofs.Limited.{IsWord, can_open, AreBehind, AreWords, AreNarrow, none_inside, none_behind, few_inside, term_again}
use Rattle.chr_text.proofs.Said.{argument_by, argument_says, rule_stays, rule_says}
use Rattle.std.proofs.lemmas.List.{length-map, append-nil, map_push, reverse-append, nil_from_length}
use Rattle.std.specs.Borrow.{Bor}
use Rattle.chr_limits.specs.Views.{names as texts}
use Rattle.chr_rule.specs.Scope.{IsRule}
use Rattle.chr_text.specs.Translation.{given}
use Rattle.chr_text.specs.Variables.{Seen, in_turn}
use Rattle.chr_value.specs.declared.value.Value as values_of_code
use Rattle.chr_value.specs.declared.value.Value.{Value as CodeValue}
use Rattle.chr_value.specs.declared.value.Comp.{Comp as CodeComp}
use Rattle.chr_value.specs.declared.names.Name.{Name}
use Rattle.chr_value.proofs.Levels.{ground-Comp}
use Rattle.chr_rule.specs.Parts.{argument, shape, comparison, member, rule_of}
use Rattle.chr_rule.specs.declared.rule_atom.RuleAtom.{RuleAtom as CodeRuleAtom}
use Rattle.chr_rule.specs.declared.expression.Comparison.{Comparison as CodeComparison}
use Rattle.chr_rule.specs.declared.expression.BodyItem.{BodyItem as CodeBodyItem}
use Rattle.std.proofs.Math.Seq.{take-append_seam, drop-append_seam}
use Rattle.chr_rule.specs.declared.term.Term as terms
use Rattle.chr_rule.specs.declared.term.Term.{Term as CodeTerm}
use Rattle.chr_rule.proofs.Levels.{argument-Var, argument-Given}
use Rattle.chr_text.specs.declared.words.NumberedWord.{NumberedWord}
use Rattle.chr_text.specs.declared.words.NumberedWord.TheVariants as numbered
use Rattle.chr_text.specs.declared.words.NumberedNode.{NumberedNode}
use Rattle.chr_text.specs.Trees.{placed, from_top, is_deeper}
use Rattle.chr_text.specs.Words.{word_term, placed_word}
use Rattle.chr_text.specs.declared.trees.PlacedTerm.{PlacedTerm}

-- ---- each in turn

each_both : {A B : Type 0} (f : Table → A → Option (B × Table)) (table mid new : Table) (as' cs : List A) (bs ds : List B) → each f table as' ≡ Some (bs, mid) → each f mid cs ≡ Some (ds, new) → each f table (as' ++ cs) ≡ Some (bs ++ ds, new)
each_both f table mid new [] cs bs ds h k = let e = each_end f table mid bs h in rw (← e.0, e.1) k
each_both f table mid new (a ∷ as') cs bs ds h k =
    let u = uncons f table mid a as' bs h in
    let rest = each_both f u.0.1 mid new as' cs u.1 ds u.3 k in
    rw (u.2, rest) (ap (λ (l : List _). Some (l ++ ds, new)) u.4)

-- ---- a term that is numbered has its words numbered

abbrev Numbers : Table → List (Placed (List ℕ)) → List (Placed ℕ) × Table → Type 0
Numbers table ws x = each numbered_word table ws ≡ Some x

name_word : (table : Table) (d : ℕ) (s : List ℕ) (n : ℕ × Table) → number_name table s ≡ Some n → Numbers table ((d, Given (Sym s)) ∷ []) ((d, Given (Sym n.0)) ∷ [], n.1)
name_word table d s n e = rw e refl

-- two parts, one after the other
then_numbers : {X Y Z : Type 0} (o : Option (X × Table)) (g : Table → Option (Y × Table)) (v : X → List (Placed ℕ)) (w : Y → List (Placed ℕ)) (z : Z → List (Placed ℕ)) (make : X → Y → Z) (table : Table) (ws us : List (Placed (List ℕ)))
    → IfThere (λ (x : X × Table). Numbers table ws (v x.0, x.1)) o → ((mid : Table) → IfThere (λ (y : Y × Table). Numbers mid us (w y.0, y.1)) (g mid)) → ((x : X) (y : Y) → v x ++ w y ≡ z (make x y))
    → IfThere (λ (q : Z × Table). Numbers table (ws ++ us) (z q.0, q.1)) (o >>= λ x. g x.1 >>= λ y. Some (make x.0 y.0, y.1))
then_numbers o g v w z make table ws us first second whole =
    then_there (λ x. Numbers table ws (v x.0, x.1)) (λ q. Numbers table (ws ++ us) (z q.0, q.1)) o (λ x. g x.1 >>= λ y. Some (make x.0 y.0, y.1)) first
    (λ x h. then_there (λ y. Numbers x.1 us (w y.0, y.1)) (λ q. Numbers table (ws ++ us) (z q.0, q.1)) (g x.1) (λ y. Some (make x.0 y.0, y.1)) (second x.1)
    (λ y k. each_both numbered_word table x.1 y.1 ws us (v x.0) (w y.0) h k ∙ ap (λ (l : List (Placed ℕ)). Some (l, y.1)) (whole x.0 y.0)))

mutual
  value_numbers : (table : Table) (d : ℕ) (v : Value (List ℕ)) → IfThere (λ x. Numbers table (value_words d v) (value_words d x.0, x.1)) (numbered_value table v)
  value_numbers table d (Int z) = refl
  value_numbers table d (Sym s) = then_there (λ n. number_name table s ≡ Some n) (λ x. Numbers table ((d, Given (Sym s)) ∷ []) (value_words d x.0, x.1)) (number_name table s) (λ n. Some (Sym n.0, n.1)) (if_there _ (number_name table s) (λ n e. e)) (name_word table d s)
  value_numbers table d (Comp s vs) =
      then_numbers (number_name table s) (λ mid. numbered_args mid vs) (λ n. (d, Given (Sym n)) ∷ []) (args_words (suc d)) (value_words d) Comp table ((d, Given (Sym s)) ∷ []) (args_words (suc d) vs) (if_there _ (number_name table s) (name_word table d s)) (λ mid. args_numbers mid (suc d) vs) (λ n xs. refl)

  args_numbers : (table : Table) (d : ℕ) (vs : Args (List ℕ)) → IfThere (λ x. Numbers table (args_words d vs) (args_words d x.0, x.1)) (numbered_args table vs)
  args_numbers table d Nil = refl
  args_numbers table d (Cons v vs) =
      then_numbers (numbered_value table v) (λ mid. numbered_args mid vs) (value_words d) (args_words d) (args_words d) Cons table (value_words d v) (args_words d vs) (value_numbers table d v) (λ mid. args_numbers mid d vs) (λ x xs. refl)

mutual
  term_numbers : (table : Table) (d : ℕ) (t : Term (List ℕ)) → IfThere (λ x. Numbers table (words_of d t) (words_of d x.0, x.1)) (numbered_term table t)
  term_numbers table d (Var x) = refl
  term_numbers table d (Given v) = then_there (λ x. Numbers table (value_words d v) (value_words d x.0, x.1)) (λ x. Numbers table (value_words d v) (words_of d x.0, x.1)) (numbered_value table v) (λ x. Some (Given x.0, x.1)) (value_numbers table d v) (λ x h. h)
  term_numbers table d (Open s ts) =
      then_numbers (number_name table s) (λ mid. numbered_terms mid ts) (λ n. (d, Given (Sym n)) ∷ []) (terms_words (suc d)) (words_of d) Open table ((d, Given (Sym s)) ∷ []) (terms_words (suc d) ts) (if_there _ (number_name table s) (name_word table d s)) (λ mid. terms_numbers mid (suc d) ts) (λ n xs. refl)

  terms_numbers : (table : Table) (d : ℕ) (ts : Terms (List ℕ)) → IfThere (λ x. Numbers table (terms_words d ts) (terms_words d x.0, x.1)) (numbered_terms table ts)
  terms_numbers table d End = refl
  terms_numbers table d (And t ts) =
      then_numbers (numbered_term table t) (λ mid. numbered_terms mid ts) (words_of d) (terms_words d) (terms_words d) And table (words_of d t) (terms_words d ts) (term_numbers table d t) (λ mid. terms_numbers mid d ts) (λ x xs. refl)

-- ---- a functor with its arguments

opened : (table : Table) (t : Term ℕ) → is_open t ≡ is_open (argument_by table t)
opened table (Given v) = refl
opened table _ = refl

-- what is numbered is open where it was
pub stays_open : (table new : Table) (t : Term (List ℕ)) (u : Term ℕ) → numbered_term table t ≡ Some (u, new) → is_open u ≡ is_open t
stays_open table new t u h = opened new u ∙ ap is_open (there _ (numbered_term table t) (u, new) (argument_says table t) h).0

any_open : (table new : Table) (ts : List (Term (List ℕ))) (us : List (Term ℕ)) → each numbered_term table ts ≡ Some (us, new) → list_any is_open us ≡ list_any is_open ts
any_open table new [] us h = ap (list_any is_open) (sym (each_end numbered_term table new us h).0)
any_open table new (t ∷ ts) us h =
    let u = uncons numbered_term table new t ts us h in
    ap (list_any is_open) (sym u.4) ∙ ap₂ (λ (a b : Bool). a || b) (stays_open table u.0.1 t u.0.0 u.2) (any_open u.0.1 new ts u.1 u.3)

as_terms : (table new : Table) (ts : List (Term (List ℕ))) (us : List (Term ℕ)) → each numbered_term table ts ≡ Some (us, new) → numbered_terms table (terms_of ts) ≡ Some (terms_of us, new)
as_terms table new [] us h = let e = each_end numbered_term table new us h in rw (← e.0, e.1) refl
as_terms table new (t ∷ ts) us h =
    let u = uncons numbered_term table new t ts us h in
    rw (u.2, as_terms u.0.1 new ts u.1 u.3) (ap (λ (l : List (Term ℕ)). Some (terms_of l, new)) u.4)

as_values : (table new : Table) (ts : List (Term (List ℕ))) (us : List (Term ℕ)) → list_any is_open ts ≡ false → each numbered_term table ts ≡ Some (us, new) → numbered_args table (args_of (values ts)) ≡ Some (args_of (values us), new)
as_values table new [] us none h = let e = each_end numbered_term table new us h in rw (← e.0, e.1) refl
as_values table new (Given v ∷ ts) us none h =
    let u = uncons numbered_term table new (Given v) ts us h in
    let x = bind_some (numbered_value table v) (λ x. Some (Given x.0, x.1)) u.0 u.2 in
    let e = some_is {A = Term ℕ × Table} (Given x.0.0, x.0.1) u.0 x.2 in
    let given : Given x.0.0 ∷ u.1 ≡ us = ap (λ (p : Term ℕ × Table). p.0 ∷ u.1) e ∙ u.4 in
    let rest : each numbered_term x.0.1 ts ≡ Some (u.1, new) = ap (λ (p : Term ℕ × Table). each numbered_term p.1 ts) e ∙ u.3 in
    rw (x.1, as_values x.0.1 new ts u.1 none rest) (ap (λ (l : List (Term ℕ)). Some (args_of (values l), new)) given)
as_values table new (_ ∷ ts) us none h = absurd cc

pub functor_with-values : {N : Type 0} (s : N) (ts : List (Term N)) → list_any is_open ts ≡ false → functor_with s ts ≡ Given (Comp s (args_of (values ts)))
functor_with-values s ts is = rw is refl

functor_made : (table mid new : Table) (s : List ℕ) (n : ℕ) (ts : List (Term (List ℕ))) (us : List (Term ℕ)) → number_name table s ≡ Some (n, mid) → each numbered_term mid ts ≡ Some (us, new) → numbered_term table (functor_with s ts) ≡ Some (functor_with n us, new)
functor_made table mid new s n ts us e h = by (list_any is_open ts) refl
  where
    by : (b : Bool) → list_any is_open ts ≡ b → numbered_term table (functor_with s ts) ≡ Some (functor_with n us, new)
    by true is = let open_too = any_open mid new ts us h ∙ is in rw (is, open_too, e, as_terms mid new ts us h) refl
    by false is = let shut_too = any_open mid new ts us h ∙ is in rw (is, shut_too, e, as_values mid new ts us is h) refl

pub no_args : {N : Type 0} (t : Term N) → with_args t [] ≡ t
no_args (Given (Sym s)) = refl
no_args (Given _) = refl
no_args _ = refl

some_args : (n : ℕ) (new : Table) (us : List (Term ℕ)) {x : Term ℕ} {xs : List (Term ℕ)} → x ∷ xs ≡ us → ◌≡◌ {A = Option (Term ℕ × Table)} (Some (functor_with n us, new)) (Some (with_args (Given (Sym n)) us, new))
some_args n new us e = rw (← e) refl

alone_made : (table mid new : Table) (w : Term (List ℕ)) (y : Term ℕ) (us : List (Term ℕ)) → numbered_term table w ≡ Some (y, mid) → each numbered_term mid [] ≡ Some (us, new) → numbered_term table (with_args w []) ≡ Some (with_args y us, new)
alone_made table mid new w y us e h = let f = each_end numbered_term mid new us h in rw (no_args w, ← f.0, no_args y, ← f.1) e

-- a word with its arguments
word_made : (table mid new : Table) (w : Term (List ℕ)) (y : Term ℕ) (ts : List (Term (List ℕ))) (us : List (Term ℕ)) → IsWord w → (can_open w ≡ false → ts ≡ []) → numbered_term table w ≡ Some (y, mid) → each numbered_term mid ts ≡ Some (us, new) → numbered_term table (with_args w ts) ≡ Some (with_args y us, new)
word_made table mid new w y [] us word shut e h = alone_made table mid new w y us e h
word_made table mid new (Var x) y (t ∷ ts) us word shut e h = let none = shut refl in absurd cc
word_made table mid new (Given (Int z)) y (t ∷ ts) us word shut e h = let none = shut refl in absurd cc
word_made table mid new (Given (Sym s)) y (t ∷ ts) us word shut e h = by (number_name table s) refl e
  where
    made : Term ℕ × Table → Type 0
    made p = each numbered_term p.1 (t ∷ ts) ≡ Some (us, new) → numbered_term table (functor_with s (t ∷ ts)) ≡ Some (with_args p.0 us, new)

    by : (o : Option (ℕ × Table)) → number_name table s ≡ o → (let v : Option (Value ℕ × Table) = o >>= λ n. Some (Sym n.0, n.1) in let w : Option (Term ℕ × Table) = v >>= λ x. Some (Given x.0, x.1) in w) ≡ Some (y, mid)
        → numbered_term table (functor_with s (t ∷ ts)) ≡ Some (with_args y us, new)
    by None is e = absurd cc
    by (Some n) is e =
        let named : made (Given (Sym n.0), n.1) = (λ k. functor_made table n.1 new s n.0 (t ∷ ts) us is k ∙ some_args n.0 new us (uncons numbered_term n.1 new t ts us k).4) in
        subst made (some_is {A = Term ℕ × Table} (Given (Sym n.0), n.1) (y, mid) e) named h
word_made table mid new (Given (Comp s vs)) y (t ∷ ts) us word shut e h = absurd word
word_made table mid new (Open s vs) y (t ∷ ts) us word shut e h = absurd word

-- ---- terms one behind another

word_first : (table new : Table) (w : Placed (List ℕ)) (ws : List (Placed (List ℕ))) (xs : List (Placed ℕ)) → each numbered_word table (w ∷ ws) ≡ Some (xs, new)
    → (y : Term ℕ × Table) × (ys : List (Placed ℕ)) × (numbered_term table w.1 ≡ Some y) × (each numbered_word y.1 ws ≡ Some (ys, new)) × ((w.0, y.0) ∷ ys ≡ xs)
word_first table new w ws xs h =
    let u = uncons numbered_word table new w ws xs h in
    let y = bind_some (numbered_term table w.1) (λ x. Some ((w.0, x.0), x.1)) u.0 u.2 in
    let e = some_is {A = Placed ℕ × Table} ((w.0, y.0.0), y.0.1) u.0 y.2 in
    (y.0, u.1, y.1, ap (λ (p : Placed ℕ × Table). each numbered_word p.1 ws) e ∙ u.3, ap (λ (p : Placed ℕ × Table). p.0 ∷ u.1) e ∙ u.4)

-- numbered terms fall apart as those before
abbrev Split : ℕ → Table → Table → List (Placed (List ℕ)) → List (Placed ℕ) → Type 0
Split d table new ts us = (mid : Table) × (each numbered_term table (inside d ts) ≡ Some (inside d us, mid)) × (each numbered_word mid (behind d ts) ≡ Some (behind d us, new))

split : (d : ℕ) (table new : Table) (ts : List (Placed (List ℕ))) (us : List (Placed ℕ)) → each numbered_word table ts ≡ Some (us, new) → Split d table new ts us
split d table new [] us h = let e = each_end numbered_word table new us h in (table, rw (← e.0) refl, rw (← e.0, ← e.1) refl)
split d table new (t ∷ ts) us h =
    let u = word_first table new t ts us h in
    subst (Split d table new (t ∷ ts)) u.4 (by u.0 u.1 (ltb d t.0) refl u.2 (split d u.0.1 new ts u.1 u.3) (h ∙ ap (λ (l : List (Placed ℕ)). Some (l, new)) (sym u.4)))
  where
    by : (y : Term ℕ × Table) (ys : List (Placed ℕ)) (b : Bool) → ltb d t.0 ≡ b → numbered_term table t.1 ≡ Some y → Split d y.1 new ts ys → each numbered_word table (t ∷ ts) ≡ Some ((t.0, y.0) ∷ ys, new) → Split d table new (t ∷ ts) ((t.0, y.0) ∷ ys)
    by y ys true is e s whole = let first = s.1 in (s.0, rw (is, e, first) refl, rw is s.2)
    by y ys false is e s whole = (table, rw is refl, rw is whole)

-- a word takes the terms inside it
word_takes : (table mid new : Table) (w : Placed (List ℕ)) (ws : List (Placed (List ℕ))) (y : Term ℕ) (us : List (Placed ℕ)) → IsWord w.1 → AreBehind w ws → numbered_term table w.1 ≡ Some (y, mid) → each numbered_word mid (terms_of_words ws) ≡ Some (us, new)
    → (last : Table) × (numbered_term table (with_args w.1 (inside w.0 (terms_of_words ws))) ≡ Some (with_args y (inside w.0 us), last)) × (each numbered_word last (behind w.0 (terms_of_words ws)) ≡ Some (behind w.0 us, new))
word_takes table mid new w ws y us word all e h =
    let s = split w.0 mid new (terms_of_words ws) us h in
    (s.0, word_made table mid s.0 w.1 y (inside w.0 (terms_of_words ws)) (inside w.0 us) word (none_inside w ws all) e s.1, s.2)

words_made : (w : Placed (List ℕ)) (ws : List (Placed (List ℕ))) → AreBehind w ws → (table new : Table) (xs : List (Placed ℕ)) → each numbered_word table ws ≡ Some (xs, new) → each numbered_word table (terms_of_words ws) ≡ Some (terms_of_words xs, new)
words_made w [] all table new xs h = let e = each_end numbered_word table new xs h in rw (← e.0, ← e.1) refl
words_made w (v ∷ ws) all table new xs h =
    let u = word_first table new v ws xs h in
    let s = word_takes table u.0.1 new v ws u.0.0 (terms_of_words u.1) all.0.word all.1 u.2 (words_made v ws all.1 u.0.1 new u.1 u.3) in
    let first = s.1 in
    let rest = s.2 in
    rw (first, rest) (ap (λ (l : List (Placed ℕ)). Some (terms_of_words l, new)) u.4)

-- ---- a term

-- what numbering the words gave is what numbering the term gives
pub term_given : (table new : Table) (ws : List (Placed (List ℕ))) (xs : List (Placed ℕ)) → AreWords ws → or_full (each numbered_word table ws) ≡ Ok (xs, new) → or_full (numbered_term table (term_of_words ws)) ≡ Ok (term_of_words xs, new)
term_given table new [] xs all h = absurd all
term_given table new (w ∷ ws) xs all h =
    let u = word_first table new w ws xs (numbered_is (each numbered_word table (w ∷ ws)) (xs, new) h) in
    let s = word_takes table u.0.1 new w ws u.0.0 (terms_of_words u.1) all.0 all.2 u.2 (words_made w ws all.2 u.0.1 new u.1 u.3) in
    let top = all.1 in
    let none : behind w.0 (terms_of_words ws) ≡ [] = rw top (none_behind w ws all.2) in
    let last = (each_end numbered_word s.0 new (behind w.0 (terms_of_words u.1)) (ap (each numbered_word s.0) (sym none) ∙ s.2)).1 in
    let first = s.1 in
    rw (first, last) (ap (λ (l : List (Placed ℕ)). Ok (term_of_words l, new)) u.4)

pub term_fails : (error : ItemError) (table : Table) (ws : List (Placed (List ℕ))) → AreWords ws → Fails error (or_full (each numbered_word table ws)) → Fails error (or_full (numbered_term table (term_of_words ws)))
term_fails error table ws all h =
    fails_as error (each numbered_word table ws) (numbered_term table (term_of_words ws))
    (λ x e. (_, ap (each numbered_word table) (sym (term_again ws all)) ∙ there _ (numbered_term table (term_of_words ws)) x (term_numbers table 0 (term_of_words ws)) e)) h

-- ---- words take as few terms as before

-- as many as there were
pub each_count : {A B : Type 0} (f : Table → A → Option (B × Table)) (table new : Table) (as' : List A) (ys : List B) → each f table as' ≡ Some (ys, new) → length ys ≡ length as'
each_count f table new [] ys h = ap length (sym (each_end f table new ys h).0)
each_count f table new (a ∷ as') ys h = let u = uncons f table new a as' ys h in ap length (sym u.4) ∙ ap suc (each_count f u.0.1 new as' u.1 u.3)

few_taken : (table new : Table) (w : Placed (List ℕ)) (ws : List (Placed (List ℕ))) (xs : List (Placed ℕ)) → AreBehind w ws → AreNarrow (w ∷ ws) → each numbered_word table ws ≡ Some (xs, new) → length (inside w.0 (terms_of_words xs)) ≤ most_arguments
few_taken table new w ws xs all narrow h =
    let s = split w.0 table new (terms_of_words ws) (terms_of_words xs) (words_made w ws all table new xs h) in
    rw (each_count numbered_term table s.0 (inside w.0 (terms_of_words ws)) (inside w.0 (terms_of_words xs)) s.1) (few_inside w ws all narrow.0)

few_behind : (w : Placed (List ℕ)) (ws : List (Placed (List ℕ))) → AreBehind w ws → AreNarrow ws → (table new : Table) (xs : List (Placed ℕ)) → each numbered_word table ws ≡ Some (xs, new) → TakeFew xs
few_behind w [] all narrow table new xs h = subst TakeFew (each_end numbered_word table new xs h).0 tt
few_behind w (v ∷ ws) all narrow table new xs h =
    let u = word_first table new v ws xs h in
    subst TakeFew u.4 (few_taken u.0.1 new v ws u.1 all.1 narrow u.3, few_behind v ws all.1 narrow.1 u.0.1 new u.1 u.3)

-- the words of a term within the limits that are numbered
pub take_few : (table new : Table) (ws : List (Placed (List ℕ))) (xs : List (Placed ℕ)) → AreWords ws → AreNarrow ws → or_full (each numbered_word table ws) ≡ Ok (xs, new) → TakeFew xs
take_few table new [] xs all narrow h = absurd all
take_few table new (w ∷ ws) xs all narrow h =
    let u = word_first table new w ws xs (numbered_is (each numbered_word table (w ∷ ws)) (xs, new) h) in
    subst TakeFew u.4 (few_taken u.0.1 new w ws u.1 all.2 narrow u.3, few_behind w ws all.2 narrow.1 u.0.1 new u.1 u.3)

-- ---- parts

-- a part that was numbered, and the variables that were seen by then
pub record Done {A B C : Type 0} (number : Table → List B → Option (List C × Table)) (g : Seen → A → B × Seen) (start : Seen) (xs : List A) (table : Table) (made : List C) (new : Table) (after : Seen) : Type 0 where
  pub is : number table (in_turn g start xs).0 ≡ Some (made, new)
  pub seen : after ≡ (in_turn g start xs).1

pub done : {A B C : Type 0} (number : Table → List B → Option (List C × Table)) (g : Seen → A → B × Seen)
    → {seen start after : Seen} {xs ys : List A} {table new : Table} {made : List C} → seen ≡ start → xs ≡ ys → or_full (number table (in_turn g seen xs).0) ≡ Ok (made, new) → after ≡ (in_turn g seen xs).1 → Done number g start ys table made new after
done number g {start = start} {xs = xs} {table = table} e h n met = record {
  is = ap (λ l. number table (in_turn g start l).0) (sym h) ∙ ap (λ l. number table (in_turn g l xs).0) (sym e) ∙ numbered_is _ _ n;
  seen = met ∙ ap (λ l. (in_turn g l xs).1) e ∙ ap (λ l. (in_turn g start l).1) h;
}

pub room_as : {A B : Type 0} (g : Seen → A → B × Seen) {seen start : Seen} {xs ys : List A} → seen ≡ start → xs ≡ ys → length (in_turn g start ys).1 ≤ 24 → length (in_turn g seen xs).1 ≤ 24
room_as g e h n = rw (e, h) n

-- the same, where each gave something
pub given_done : {A B C : Type 0} (f : Table → B → Option (C × Table)) (g : Seen → A → B × Seen)
    → {seen start after : Seen} {xs ys : List A} {table new : Table} {made : List C} → seen ≡ start → xs ≡ ys → or_full (each_some f table (in_turn (given g) seen xs).0) ≡ Ok (made, new) → after ≡ (in_turn (given g) seen xs).1 → Done (each f) g start ys table made new after
given_done f g {seen = seen} {xs = xs} {table = table} e h n met =
    done (each f) g e h (ap (λ l. or_full (each f table l)) (sym (given_somes g seen xs)) ∙ n) (met ∙ given_seen g seen xs)

pub given_room : {A B : Type 0} (g : Seen → A → B × Seen) {seen start : Seen} {xs ys : List A} → seen ≡ start → xs ≡ ys → length (in_turn g start ys).1 ≤ 24 → length (in_turn (given g) seen xs).1 ≤ 24
given_room g {start = start} {ys = ys} e h n = room_as (given g) e h (subst (λ (l : Seen). length l ≤ 24) (sym (given_seen g start ys)) n)

pub given_fails : {A B C : Type 0} (f : Table → B → Option (C × Table)) (g : Seen → A → B × Seen) (error : ItemError) (table : Table)
    → {seen start : Seen} {xs ys : List A} → seen ≡ start → xs ≡ ys → Fails error (or_full (each_some f table (in_turn (given g) seen xs).0)) → Fails error (or_full (each f table (in_turn g start ys).0))
given_fails f g error table {seen = seen} {start = start} {xs = xs} e h n =
    subst (λ l. Fails error (or_full (each f table l))) (given_somes g seen xs ∙ ap (λ s. (in_turn g s xs).0) e ∙ ap (λ l. (in_turn g start l).0) h) n

pub kept_fails : (error : ItemError) (table : Table) (r : Simpagation (List ℕ)) → Fails error (or_full (each numbered_rule_atom table r.kept)) → Fails error (or_full (number_rule table r))
kept_fails error table r h = fails_then error (each numbered_rule_atom table r.kept) (λ kept. each numbered_rule_atom kept.1 r.removed >>= λ removed. each number_test removed.1 r.guard >>= λ guard. each number_member guard.1 r.body >>= λ body. Some (of_parts r.variables kept.0 removed.0 guard.0 body.0, body.1)) h

pub removed_fails : (error : ItemError) (table t1 : Table) (r : Simpagation (List ℕ)) (kept : List (RuleAtom ℕ)) → each numbered_rule_atom table r.kept ≡ Some (kept, t1) → Fails error (or_full (each numbered_rule_atom t1 r.removed)) → Fails error (or_full (number_rule table r))
removed_fails error table t1 r kept e1 h = rw e1 (fails_then error (each numbered_rule_atom t1 r.removed) (λ removed. each number_test removed.1 r.guard >>= λ guard. each number_member guard.1 r.body >>= λ body. Some (of_parts r.variables kept removed.0 guard.0 body.0, body.1)) h)

pub guard_fails : (error : ItemError) (table t1 t2 : Table) (r : Simpagation (List ℕ)) (kept removed : List (RuleAtom ℕ)) → each numbered_rule_atom table r.kept ≡ Some (kept, t1) → each numbered_rule_atom t1 r.removed ≡ Some (removed, t2) → Fails error (or_full (each number_test t2 r.guard)) → Fails error (or_full (number_rule table r))
guard_fails error table t1 t2 r kept removed e1 e2 h = rw (e1, e2) (fails_then error (each number_test t2 r.guard) (λ guard. each number_member guard.1 r.body >>= λ body. Some (of_parts r.variables kept removed guard.0 body.0, body.1)) h)

pub body_fails : (error : ItemError) (table t1 t2 t3 : Table) (r : Simpagation (List ℕ)) (kept removed : List (RuleAtom ℕ)) (guard : List (Comparison ℕ)) → each numbered_rule_atom table r.kept ≡ Some (kept, t1) → each numbered_rule_atom t1 r.removed ≡ Some (removed, t2) → each number_test t2 r.guard ≡ Some (guard, t3) → Fails error (or_full (each number_member t3 r.body)) → Fails error (or_full (number_rule table r))
body_fails error table t1 t2 t3 r kept removed guard e1 e2 e3 h = rw (e1, e2, e3) (fails_then error (each number_member t3 r.body) (λ body. Some (of_parts r.variables kept removed guard body.0, body.1)) h)

pub rule_done : (table t1 t2 t3 t4 : Table) (r : Simpagation (List ℕ)) (kept removed : List (RuleAtom ℕ)) (guard : List (Comparison ℕ)) (body : List (BodyItem ℕ)) → each numbered_rule_atom table r.kept ≡ Some (kept, t1) → each numbered_rule_atom t1 r.removed ≡ Some (removed, t2) → each number_test t2 r.guard ≡ Some (guard, t3) → each number_member t3 r.body ≡ Some (body, t4)
    → number_rule table r ≡ Some (of_parts r.variables kept removed guard body, t4)
rule_done table t1 t2 t3 t4 r kept removed guard body e1 e2 e3 e4 = rw (e1, e2, e3, e4) refl

-- the rule of heads that are joined
pub heads_joined : {Z : Type 0} (n count : ℕ) (kept removed heads : List (CodeRuleAtom Z)) (guard : List (CodeComparison Z)) (body : List (CodeBodyItem Z)) → count ≡ length kept → heads ≡ kept ++ removed → rule_of n heads count guard body ≡ of_parts n (map shape kept) (map shape removed) (map comparison guard) (map member body)
heads_joined n count kept removed heads guard body many joined = rw (many, joined, take-append_seam kept removed, drop-append_seam kept removed) refl

-- a rule stays one
pub rule_same : (r : Simpagation (List ℕ)) (table t1 t2 t3 t4 : Table) (kept removed : List (RuleAtom ℕ)) (guard : List (Comparison ℕ)) (body : List (BodyItem ℕ)) → each numbered_rule_atom table r.kept ≡ Some (kept, t1) → each numbered_rule_atom t1 r.removed ≡ Some (removed, t2) → each number_test t2 r.guard ≡ Some (guard, t3) → each number_member t3 r.body ≡ Some (body, t4)
    → IsRule r → IsRule (of_parts r.variables kept removed guard body)
rule_same r table t1 t2 t3 t4 kept removed guard body e1 e2 e3 e4 is =
    let made = of_parts r.variables kept removed guard body in
    rule_stays t4 made (subst IsRule (sym (rule_says table t4 r made (rule_done table t1 t2 t3 t4 r kept removed guard body e1 e2 e3 e4)).0) is)

-- the variables that were seen are so many
pub as_many : (n : ℕ) (seen : List (Bor (List ℕ))) (after : Seen) → n ≡ length seen → texts seen ≡ after → n ≡ length after
as_many n seen after many is = many ∙ sym (length-map seen (λ name. name.now)) ∙ ap length is

-- ---- the values among terms

values_first : {N : Type 0} (t : Term N) (ts : List (Term N)) → values (t ∷ []) ++ values ts ≡ values (t ∷ ts)
values_first (Given v) ts = refl
values_first _ ts = refl

pub value_more : {A : Type 0} (made new : List (CodeValue A)) (ts rest : List (CodeTerm A)) (t : CodeTerm A) (total : List (Value ℕ)) → ts ≡ t ∷ rest → grounds new ≡ grounds made ++ values (argument t ∷ [])
    → grounds made ++ values (map argument ts) ≡ total → grounds new ++ values (map argument rest) ≡ total
value_more made new ts rest t total are more so_far =
    rw (more, append_assoc, values_first (argument t) (map argument rest)) (ap (λ l. grounds made ++ values (map argument l)) (sym are) ∙ so_far)

pub all_values : {A : Type 0} (made : List (CodeValue A)) (ts : List (CodeTerm A)) (total : List (Value ℕ)) → length ts ≡ 0 → grounds made ++ values (map argument ts) ≡ total → grounds made ≡ total
all_values made ts total empty so_far = rw (nil_from_length ts empty, append-nil) at so_far

-- ---- a functor with its arguments

pub value_made : {A : Type 0} (b : Box (CodeComp A) A) (n : ℕ) (ts : List (Term ℕ)) → b.value.functor.number ≡ n → grounds b.value.args.list.items ≡ values ts → list_any is_open ts ≡ false
    → argument (terms.Given (values_of_code.Comp b)) ≡ functor_with n ts
value_made b n ts named are none =
    argument-Given (values_of_code.Comp b) ∙ ap (λ v. Given v) (ground-Comp b) ∙ ap₂ (λ (f : ℕ) vs. Given (Comp f (args_of vs))) named are ∙ sym (functor_with-values n ts none)

-- values are as many as the terms that are values
pub values_count : {N : Type 0} (ts : List (Term N)) → list_any is_open ts ≡ false → length (values ts) ≡ length ts
values_count [] none = refl
values_count (Given v ∷ ts) none = ap suc (values_count ts none)
values_count (_ ∷ ts) none = absurd cc

-- ---- a word with its arguments

pub no_name : (w : NumberedWord) (ts : List (Term ℕ)) → ((n : Name) → w ≡ numbered.Name n → ⊥) → with_args (word_term w) ts ≡ word_term w
no_name (numbered.Name n) ts other = absurd (other n refl)
no_name _ ts other = refl

pub named_args : (w : NumberedWord) (n : Name) (ts : List (Term ℕ)) → w ≡ numbered.Name n → 0 < length ts → with_args (word_term w) ts ≡ functor_with n.number ts
named_args w n [] is some = absurd (omega arith)
named_args w n (t ∷ ts) is some = rw is refl

-- ---- stacks

pub top_first : {A : Type 0} (stack rest : List (PlacedTerm A)) (top : PlacedTerm A) → stack ≡ rest ++ top ∷ [] → from_top stack ≡ placed top ∷ from_top rest
top_first stack rest top is = ap from_top is ∙ ap reverse (map_push placed rest top) ∙ reverse-append (map placed rest) (placed top ∷ [])

pub built : {A : Type 0} (stack rest : List (PlacedTerm A)) (top : PlacedTerm A) (ws : List (Placed ℕ)) → stack ≡ rest ++ top ∷ [] → from_top stack ≡ terms_of_words ws → argument top.term ≡ term_of_words ws
built stack rest top ws is are = ap first_of (sym (top_first stack rest top is) ∙ are)

pub none_built : {A : Type 0} (stack : List (PlacedTerm A)) (ws : List (Placed ℕ)) → length stack ≡ 0 → from_top stack ≡ terms_of_words ws → argument {A = A} (terms.Var 0) ≡ term_of_words ws
none_built {A} stack ws empty are = argument-Var A 0 ∙ ap first_of (sym (ap from_top (nil_from_length stack empty)) ∙ are)

-- a word alone
pub alone : (words : List NumberedNode) (d : NumberedNode) → 1 ≤ length words → length words < 2 → word_term (get_or words 0 d).word ≡ term_of_words (map placed_word words)
alone (w ∷ []) d some few = sym (no_args (word_term w.word))
alone [] d some few = absurd (omega arith)
alone (w ∷ v ∷ ws) d some few = absurd (omega arith)

-- the word at a place takes the terms inside it from the stack
pub word_built : {A : Type 0} (words : List NumberedNode) (i place : ℕ) (d : NumberedNode) (stack left new : List (PlacedTerm A)) (args : List (CodeTerm A)) (top : PlacedTerm A) → i + 1 ≡ place → place ≤ length words → from_top stack ≡ terms_of_words (map placed_word (drop place words))
    → map argument args ≡ inside (get_or words i d).depth (from_top stack) → from_top left ≡ behind (get_or words i d).depth (from_top stack) → argument top.term ≡ with_args (word_term (get_or words i d).word) (map argument args) → top.depth ≡ (get_or words i d).depth → new ≡ left ++ top ∷ []
    → from_top new ≡ terms_of_words (map placed_word (drop i words))
word_built words i place d stack left new args top next within so_far taken rest made deep grows =
    let w = get_or words i d in
    let behind_it = map placed_word (drop place words) in
    let split : map placed_word (drop i words) ≡ placed_word w ∷ behind_it = map_at placed_word words i d (omega arith) ∙ ap (λ (k : ℕ). placed_word w ∷ map placed_word (drop k words)) next in
    let one : placed top ≡ (w.depth, with_args (word_term w.word) (inside w.depth (terms_of_words behind_it))) = ap₂ (λ (n : ℕ) (t : Term ℕ). (n, t)) deep (made ∙ ap (with_args (word_term w.word)) (taken ∙ ap (inside w.depth) so_far)) in
    top_first new left top grows ∙ ap₂ (λ (t : Placed ℕ) ts. t ∷ ts) one (rest ∙ ap (behind w.depth) so_far) ∙ ap terms_of_words (sym split)

few_at : (words : List NumberedNode) (i : ℕ) (d : NumberedNode) → i < length words → TakeFew (map placed_word words) → length (inside (get_or words i d).depth (terms_of_words (map placed_word (drop (suc i) words)))) ≤ most_arguments
few_at [] i d lt few = absurd (omega arith)
few_at (w ∷ words) zero d lt few = few.0
few_at (w ∷ words) (suc i) d lt few = few_at words i d (omega arith) few.1

-- the word at a place takes few terms from the stack
pub args_few : {A : Type 0} (words : List NumberedNode) (i place : ℕ) (d : NumberedNode) (stack : List (PlacedTerm A)) (args : List (CodeTerm A)) → suc i ≡ place → place ≤ length words → TakeFew (map placed_word words) → from_top stack ≡ terms_of_words (map placed_word (drop place words))
    → map argument args ≡ inside (get_or words i d).depth (from_top stack) → length args ≤ most_arguments
args_few words i place d stack args next within few so_far taken =
    let there : map argument args ≡ inside (get_or words i d).depth (terms_of_words (map placed_word (drop (suc i) words))) = taken ∙ ap (inside (get_or words i d).depth) (so_far ∙ ap (λ (k : ℕ). terms_of_words (map placed_word (drop k words))) (sym next)) in
    omega (arith, few_at words i d (omega arith) few, ap length there, length-map args argument)

-- ---- what is taken from a stack

pub top_taken : {A : Type 0} (d : ℕ) (stack rest : List (PlacedTerm A)) (top : PlacedTerm A) → stack ≡ rest ++ top ∷ [] → is_deeper d (from_top stack) ≡ true
    → (inside d (from_top stack) ≡ argument top.term ∷ inside d (from_top rest)) × (behind d (from_top stack) ≡ behind d (from_top rest))
top_taken d stack rest top is deeper =
    let first = top_first stack rest top is in
    let deep : ltb d top.depth ≡ true = ap (is_deeper d) (sym first) ∙ deeper in
    rw (first, deep) (refl, refl)

pub none_taken : (d : ℕ) (ts : List (Placed ℕ)) → is_deeper d ts ≡ false → (inside d ts ≡ []) × (behind d ts ≡ ts)
none_taken d [] h = (refl, refl)
none_taken d (t ∷ ts) h = (rw h refl, rw h refl)

pub is_told : {A : Type 0} (d : ℕ) (stack now : List (PlacedTerm A)) (result b : Bool) → now ≡ stack → result ≡ is_deeper d (from_top now) → result ≡ b → is_deeper d (from_top stack) ≡ b
is_told d stack now result b same told is = ap (λ s. is_deeper d (from_top s)) (sym same) ∙ sym told ∙ is
