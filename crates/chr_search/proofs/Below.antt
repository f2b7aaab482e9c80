-- Going over the trials below labels.
use Rattle.std.proofs.Common.{◌≡◌, ℕ, zero, suc, ◌+◌, ◌-◌, ◌<◌, ◌≤◌, ◌==◌, true, false, List, [], ◌∷◌, ◌++◌, length, Option, refl, sym, ◌∙◌, ap, subst, arith, length-append, inr}
use Rattle.std.proofs.lemmas.Bool.Decides.{nat_tests}
use Rattle.chr_value.specs.Atoms.{Value}
use Rattle.chr_search.specs.declared.passing.End.{End}
use Rattle.chr_search.specs.declared.passing.End.TheVariants as ends
use Rattle.chr_search.specs.declared.passing.Passed.{Passed}
use Rattle.chr_search.specs.declared.passing.Stop.{Stop}
use Rattle.chr_search.specs.declared.passing.Stop.TheVariants as stops
use Rattle.chr_search.specs.declared.judged.Verdict.TheVariants.{Misfit, Part}
use Rattle.chr_search.specs.Positions.{at_or_after}
use Rattle.chr_search.specs.Tree.{Grows, Beyond, Least, NoneBeyond, LeastFrom, NoneFrom}
use Rattle.chr_search.specs.Trials.{Join, MayFollow}
use Rattle.chr_search.specs.Partners.{HasPlan}
use Rattle.chr_search.specs.Passing.{AreJudged, AreWhole, AreMisfits, PassesOneIn, PassesIn, IsCounted, PassesPlan, PassesBelow, PassesLevel, IsAfterPart, IsBelow, IsDone, EndsIn, EndsBelow}
use Rattle.chr_search.proofs.Positions.{past_last}
use Rattle.chr_search.proofs.Partners.{turn_low, none_above}
use Rattle.chr_search.proofs.Asking.{room}
use Rattle.chr_search.proofs.Tree.{append_one, grows_more, Come, come_first, come_at, come_to_end, come_to, come_past, least_deep}

-- a place below labels
come_of : (j : Join) (ls place : List ℕ) (from : ℕ) → (b : IsBelow j ls place from) → Come (MayFollow j) 1 ls b.rest from []
come_of j ls place from b = record { into = b.into; back = b.back }

below_of : (j : Join) (ls place rest : List ℕ) (from : ℕ) → Grows (MayFollow j) [] ls → place ≡ ls ++ rest → Come (MayFollow j) 1 ls rest from [] → IsBelow j ls place from
below_of j ls place rest from g is c = record { grows = g; rest = rest; is = is; into = c.into; back = c.back }

pub below_at : (j : Join) (ls place : List ℕ) (from : ℕ) → Grows (MayFollow j) [] ls → place ≡ ls ++ from ∷ [] → IsBelow j ls place from
below_at j ls place from g is = below_of j ls place (from ∷ []) from g is (come_at (MayFollow j) 1 ls from [])

below_first : (j : Join) → IsBelow j [] [] 0
below_first j = below_of j [] [] [] 0 tt refl (come_first (MayFollow j) 1 [] (omega arith))

-- and from a greater number on, where that skips none that may follow
pub below_later : (j : Join) (ls place : List ℕ) (from later : ℕ) → from ≤ later → ((x : ℕ) → MayFollow j ls x → from ≤ x → later ≤ x) → IsBelow j ls place from → IsBelow j ls place later
below_later j ls place from later more skips b = record { grows = b.grows; rest = b.rest; is = b.is; into = λ other k. onto other k (b.into other k); back = λ other e. b.back other (back other e) }
  where
    onto : (other : List ℕ) → Beyond (MayFollow j) 1 ls b.rest other → at_or_after (from ∷ []) other ≡ true → at_or_after (later ∷ []) other ≡ true
    onto [] k e = absurd (cc)
    onto (x ∷ xs) k e =
        let low : from ≤ x = grind (arith, nat_tests) in
        let high = skips x k.grows.0 low in
        grind (arith, nat_tests)

    back : (other : List ℕ) → at_or_after (later ∷ []) other ≡ true → at_or_after (from ∷ []) other ≡ true
    back [] e = absurd (cc)
    back (x ∷ xs) e = grind (arith, nat_tests)

-- the least one there
pub below_least : (j : Join) (ls place : List ℕ) (from x : ℕ) → IsBelow j ls place from → LeastFrom (MayFollow j ls) from x → Least (MayFollow j) 1 [] place (ls ++ x ∷ [])
below_least j ls place from x b l =
    subst (λ z. Least (MayFollow j) 1 [] z (ls ++ x ∷ [])) (sym b.is)
    (least_deep (MayFollow j) 1 [] ls b.rest (ls ++ x ∷ []) b.grows
    (come_to (MayFollow j) 1 ls b.rest from [] x (come_of j ls place from b) l (omega (arith, length-append ls (x ∷ []))) (inr refl)))

-- none there
pub below_done : (j : Join) (ls place : List ℕ) (from : ℕ) → IsBelow j ls place from → NoneFrom (MayFollow j ls) from → IsDone j ls place
below_done j ls place from b n = record { rest = b.rest; is = b.is; none = come_to_end (MayFollow j) 1 ls b.rest from [] (come_of j ls place from b) n }

-- after one below which none is left
pub done_below : (j : Join) (ls place : List ℕ) (x : ℕ) → Grows (MayFollow j) [] ls → IsDone j (ls ++ x ∷ []) place → IsBelow j ls place (x + 1)
done_below j ls place x g e =
    below_of j ls place (x ∷ e.rest) (x + 1) g (e.is ∙ append_one ls e.rest x)
    (come_past (MayFollow j) 1 ls (x ∷ e.rest) x e.rest (come_at (MayFollow j) 1 ls x e.rest) (λ m. e.none))

-- after one below which there is none
pub none_below : (j : Join) (ls place : List ℕ) (x : ℕ) (below : List ℕ) → Grows (MayFollow j) [] ls → place ≡ ls ++ x ∷ below → (MayFollow j ls x → NoneBeyond (MayFollow j) 1 (ls ++ x ∷ []) below) → IsBelow j ls place (x + 1)
none_below j ls place x below g is n =
    below_of j ls place (x ∷ below) (x + 1) g is (come_past (MayFollow j) 1 ls (x ∷ below) x below (come_at (MayFollow j) 1 ls x below) n)

-- no label is above the active one
pub above_done : (j : Join) (ls place : List ℕ) (x : ℕ) (below : List ℕ) → j.bound ≡ j.active → place ≡ ls ++ x ∷ below → j.active < x → IsDone j ls place
above_done j ls place x below same is high = record {
  rest = x ∷ below;
  is = is;
  none = come_to_end (MayFollow j) 1 ls (x ∷ below) x below (come_at (MayFollow j) 1 ls x below) (none_above j same ls x high);
}

-- passing over one more
pub passes_more : (j : Join) (n more : ℕ) (place middle after : List ℕ) → PassesIn j n place middle → PassesIn j more middle after → PassesIn j (n + more) place after
passes_more j zero more place middle after p q = subst (λ k. PassesIn j k place after) (let e : more ≡ 0 + more = omega arith in e) (subst (λ z. PassesIn j more z after) p q)
passes_more j (suc n) more place middle after p q = subst (λ k. PassesIn j k place after) (let e : suc (n + more) ≡ suc n + more = omega arith in e) (p.0, p.1, passes_more j n more p.0 middle after p.2 q)

-- over misfits, from a place to where the next one is looked for
pub record HasRun (j : Join) (ls place : List ℕ) (n next : ℕ) : Type 0 where
  pub at : List ℕ
  pub passes : PassesIn j n place at
  pub below : IsBelow j ls at next

pub misfits_passed : (j : Join) (ls place : List ℕ) (n from next : ℕ) → IsBelow j ls place from → AreMisfits j ls n from next → HasRun j ls place n next
misfits_passed j ls place zero from next b e = record { at = place; passes = refl; below = subst (IsBelow j ls place) (sym e) b }
misfits_passed j ls place (suc n) from next b (middle, x, before, least, misfit, e) =
    let r = misfits_passed j ls place n from middle b before in
    let one : PassesOneIn j r.at (ls ++ next ∷ []) = record {
      trial = ls ++ x ∷ [];
      least = below_least j ls r.at middle x r.below least;
      verdict = Misfit;
      right = misfit;
      other = λ z. absurd (cc);
      on = ap (λ y. ls ++ y ∷ []) e ∙ sym (past_last ls x);
    } in
    let passes = passes_more j n 1 place r.at (ls ++ next ∷ []) r.passes (ls ++ next ∷ [], one, refl) in
    record {
      at = ls ++ next ∷ [];
      passes = subst (λ k. PassesIn j k place (ls ++ next ∷ [])) (let q : n + 1 ≡ suc n = omega arith in q) passes;
      below = below_at j ls (ls ++ next ∷ []) next b.grows refl;
    }

pub misfits_enough : (j : Join) (ls place : List ℕ) (n from next : ℕ) → IsBelow j ls place from → AreMisfits j ls n from next → 1 ≤ n → PassesIn j n place (ls ++ next ∷ [])
unfolding misfits_passed
misfits_enough j ls place zero from next b m some = absurd (omega arith)
misfits_enough j ls place (suc n) from next b m some = (misfits_passed j ls place (suc n) from next b m).passes

-- over a part
pub part_passed : (j : Join) (ls place : List ℕ) (n : ℕ) (middle : List ℕ) (from x : ℕ) → PassesIn j n place middle → IsBelow j ls middle from → LeastFrom (MayFollow j ls) from x → AreJudged j (ls ++ x ∷ []) Part → PassesIn j (n + 1) place ((ls ++ x ∷ []) ++ 0 ∷ [])
part_passed j ls place n middle from x p b l a = passes_more j n 1 place middle ((ls ++ x ∷ []) ++ 0 ∷ []) p (
  (ls ++ x ∷ []) ++ 0 ∷ [],
  record {
    trial = ls ++ x ∷ [];
    least = below_least j ls middle from x b l;
    verdict = Part;
    right = a;
    other = λ z. absurd (cc);
    on = refl;
  },
  refl,
)

-- a run of misfits, and what comes then
pub misfits_rise : (j : Join) (ls : List ℕ) (n from next : ℕ) → AreMisfits j ls n from next → from ≤ next
misfits_rise j ls zero from next e = omega arith
misfits_rise j ls (suc n) from next (middle, x, before, least, misfit, e) = omega (arith, misfits_rise j ls n from middle before, least.there)

pub misfits_room : (j : Join) → HasPlan j → (ls : List ℕ) (n from next : ℕ) → AreMisfits j ls n from next → 1 ≤ n → length ls < 6
misfits_room j p ls zero from next m some = absurd (omega arith)
misfits_room j p ls (suc n) from next m some = room j p ls m.1 m.3.holds

-- why no more are passed over, where some are left below deeper labels
ends_deeper : (j : Join) (deeper path place : List ℕ) (end : End) (ls : List ℕ) (binding : List (Option (Value ℕ))) → (end ≡ ends.NoneLeft → ⊥) → EndsBelow j deeper place end ls binding → EndsBelow j path place end ls binding
ends_deeper j deeper path place ends.NoneLeft ls binding other e = absurd (other refl)
ends_deeper j deeper path place end ls binding other e = e

pub deeper_passed : (j : Join) (deeper path place : List ℕ) (passed : Passed) (ls : List ℕ) (binding : List (Option (Value ℕ))) → (passed.end ≡ ends.NoneLeft → ⊥) → PassesBelow j deeper place passed ls binding → PassesBelow j path place passed ls binding
deeper_passed j deeper path place passed ls binding other p = record { after = p.after; passes = p.passes; ends = ends_deeper j deeper path p.after passed.end ls binding other p.ends }

-- a place with one label more in the path
pub deeper_place : (path : List ℕ) (first : ℕ) (deeper below pushed : List ℕ) → pushed ≡ path ++ first ∷ [] → below ≡ deeper → pushed ++ deeper ≡ path ++ first ∷ below
deeper_place path first deeper below pushed p e = ap (λ (z : List ℕ). z ++ deeper) p ∙ append_one path deeper first ∙ ap (λ (z : List ℕ). path ++ first ∷ z) (sym e)

-- below no labels
pub all_passed : (j : Join) (place : List ℕ) (passed : Passed) (ls : List ℕ) (binding : List (Option (Value ℕ))) → PassesBelow j [] place passed ls binding → PassesPlan j place passed ls binding
all_passed j place passed ls binding p = record { after = p.after; passes = p.passes; ends = ends_all p.after passed.end p.ends }
  where
    ends_all : (after : List ℕ) (end : End) → EndsBelow j [] after end ls binding → EndsIn j after end ls binding
    ends_all after ends.NoneLeft e = subst (NoneBeyond (MayFollow j) 1 []) (sym e.1.is) e.1.none
    ends_all after end e = e

-- some are passed over, and then more
pub counted_more : (most n : ℕ) (more : Passed) → n ≤ most → IsCounted (most - n) more → IsCounted most (record { count = n + more.count; end = more.end })
counted_more most n more few m = record { few = omega (arith, m.few); enough = λ e. omega (arith, m.enough e); less = λ e. omega (arith, m.less e) }

pub passed_more : (j : Join) (path : List ℕ) (n : ℕ) (place middle : List ℕ) (more : Passed) (ls : List ℕ) (binding : List (Option (Value ℕ))) → PassesIn j n place middle → PassesBelow j path middle more ls binding → PassesBelow j path place (record { count = n + more.count; end = more.end }) ls binding
passed_more j path n place middle more ls binding p m = record { after = m.after; passes = passes_more j n more.count place middle m.after p m.passes; ends = m.ends }

-- the trials beside are gone over too, from any place where they are looked for, and that ends
abbrev PassesBeside : Join → List ℕ → ℕ → ℕ → Stop → List ℕ → List (Option (Value ℕ)) → Type 0
PassesBeside j path from more stop ls binding = (place : List ℕ) → IsBelow j path place from → PassesLevel j path from place more stop ls binding

beside_run : (j : Join) (path same place : List ℕ) (n more from : ℕ) (stop : Stop) (ls : List ℕ) (binding : List (Option (Value ℕ))) → same ≡ path → (r : HasRun j path place n from) → PassesBeside j same from more stop ls binding → PassesLevel j path from r.at more stop ls binding
beside_run j path same place n more from stop ls binding e r p = subst (λ z. PassesBeside j z from more stop ls binding) e p r.at r.below

pub beside_ends : (j : Join) (path same place : List ℕ) (n more from : ℕ) (stop : Stop) (ls : List ℕ) (binding : List (Option (Value ℕ))) → same ≡ path → HasRun j path place n from → PassesBeside j same from more stop ls binding → (end : End) → stop ≡ stops.End end → PassesBelow j path place (record { count = n + more; end = end }) ls binding
beside_ends j path same place n more from stop ls binding e r p end is =
    let level = subst (λ s. PassesLevel j path from r.at more s ls binding) is (beside_run j path same place n more from stop ls binding e r p) in
    record { after = level.after; passes = passes_more j n more place r.at level.after r.passes level.passes; ends = level.stops }

-- or it stops at a part
pub record HasStopped (j : Join) (path : List ℕ) (from : ℕ) (place : List ℕ) (n x : ℕ) (ls : List ℕ) (binding : List (Option (Value ℕ))) : Type 0 where
  pub after : List ℕ
  pub passes : PassesIn j n place after
  pub same : ls ≡ path
  pub low : from ≤ x
  pub part : IsAfterPart j path x after binding

pub beside_stops : (j : Join) (path same place : List ℕ) (n more from : ℕ) (stop : Stop) (ls : List ℕ) (binding : List (Option (Value ℕ))) → same ≡ path → HasRun j path place n from → PassesBeside j same from more stop ls binding → (x : ℕ) → stop ≡ stops.Part x → HasStopped j path from place (n + more) x ls binding
beside_stops j path same place n more from stop ls binding e r p x is =
    let level = subst (λ s. PassesLevel j path from r.at more s ls binding) is (beside_run j path same place n more from stop ls binding e r p) in
    record {
      after = level.after;
      passes = passes_more j n more place r.at level.after r.passes level.passes;
      same = level.stops.0;
      low = level.stops.1;
      part = level.stops.2;
    }

-- a place just after it is below its labels
pub part_below : (j : Join) (path : List ℕ) (x : ℕ) (after ls : List ℕ) (binding : List (Option (Value ℕ))) → Grows (MayFollow j) [] path → IsAfterPart j path x after binding → ls ≡ path ++ x ∷ [] → IsBelow j ls after 0
part_below j path x after ls binding g p is =
    below_at j ls after 0 (subst (Grows (MayFollow j) []) (sym is) (grows_more (MayFollow j) [] path x g p.follows)) (p.place_is ∙ ap (λ (z : List ℕ). z ++ 0 ∷ []) (sym is))

-- all trials below a label were passed over, so many
pub record IsLeft (j : Join) (path : List ℕ) (first most n : ℕ) (place ls : List ℕ) : Type 0 where
  pub less : n < most
  pub after : List ℕ
  pub passes : PassesIn j n place after
  pub same : ls ≡ path
  pub below : IsBelow j path after (first + 1)

-- past a label that may follow, fewer are left up to the active one
pub nearer : (j : Join) → j.bound ≡ j.active → (ls : List ℕ) (from x : ℕ) → MayFollow j ls x → from ≤ x → j.active + 1 - (x + 1) < j.active + 1 - from
nearer j same ls from x m low = omega (arith, turn_low j same ls x m.turn)

-- going over the trials of the active label from no place on
module _ (j : Join) (x : ℕ) (m : MayFollow j [] x) where
  first_least : LeastFrom (MayFollow j []) 0 x
  first_least = record { holds = m; there = omega arith; least = λ y n low. omega (arith, m.turn, n.turn) }

  no_second : NoneFrom (MayFollow j []) (x + 1)
  no_second y n low = omega (arith, m.turn, n.turn)

  -- it is a misfit
  pub first_misfit : AreJudged j (x ∷ []) Misfit → PassesIn j 1 [] ((x + 1) ∷ []) × NoneBeyond (MayFollow j) 1 [] ((x + 1) ∷ [])
  first_misfit a =
      let done = below_done j [] ((x + 1) ∷ []) (x + 1) (below_at j [] ((x + 1) ∷ []) (x + 1) tt refl) no_second in
      (misfits_enough j [] [] 1 0 (x + 1) (below_first j) (0, x, refl, first_least, a, refl) (omega arith), subst (NoneBeyond (MayFollow j) 1 []) (sym done.is) done.none)

  -- it is whole
  pub first_whole : (binding : List (Option (Value ℕ))) → AreWhole j (x ∷ []) binding → (ls : List ℕ) → ls ≡ x ∷ [] → EndsIn j [] ends.Whole ls binding
  first_whole binding w ls is = subst (λ (z : List ℕ). Least (MayFollow j) 1 [] [] z × AreWhole j z binding) (sym is) (below_least j [] [] 0 x (below_first j) first_least, w)

  -- it is a part
  pub first_part : AreJudged j (x ∷ []) Part → PassesIn j 1 [] (x ∷ 0 ∷ [])
  first_part a = part_passed j [] [] 0 [] 0 x refl (below_first j) first_least a

  pub first_below : (ls : List ℕ) → ls ≡ x ∷ [] → IsBelow j ls (x ∷ 0 ∷ []) 0
  first_below ls is = below_at j ls (x ∷ 0 ∷ []) 0 (subst (Grows (MayFollow j) []) (sym is) (m, tt)) (ap (λ (z : List ℕ). z ++ 0 ∷ []) (sym is))

  first_ends : (path : List ℕ) → path ≡ x ∷ [] → (place : List ℕ) (end : End) (ls : List ℕ) (binding : List (Option (Value ℕ))) → EndsBelow j path place end ls binding → EndsIn j place end ls binding
  first_ends path is place ends.NoneLeft ls binding e =
      let done = below_done j [] place (x + 1) (done_below j [] place x tt (subst (λ (z : List ℕ). IsDone j z place) is e.1)) no_second in
      subst (NoneBeyond (MayFollow j) 1 []) (sym done.is) done.none
  first_ends path is place end ls binding e = e

  pub first_passed : AreJudged j (x ∷ []) Part → (path : List ℕ) → path ≡ x ∷ [] → (more : Passed) (ls : List ℕ) (binding : List (Option (Value ℕ))) → PassesBelow j path (x ∷ 0 ∷ []) more ls binding → PassesPlan j [] (record { count = 1 + more.count; end = more.end }) ls binding
  first_passed a path is more ls binding p = record {
    after = p.after;
    passes = passes_more j 1 more.count [] (x ∷ 0 ∷ []) p.after (first_part a) p.passes;
    ends = first_ends path is p.after more.end ls binding p.ends;
  }

  pub below_passed : (path : List ℕ) → path ≡ x ∷ [] → (place : List ℕ) (passed : Passed) (ls : List ℕ) (binding : List (Option (Value ℕ))) → PassesBelow j path place passed ls binding → PassesPlan j place passed ls binding
  below_passed path is place passed ls binding p = record { after = p.after; passes = p.passes; ends = first_ends path is p.after passed.end ls binding p.ends }

-- where none is left the labels are as before
pub below_same : (j : Join) (path place : List ℕ) (passed : Passed) (ls : List ℕ) (binding : List (Option (Value ℕ))) → PassesBelow j path place passed ls binding → passed.end ≡ ends.NoneLeft → ls ≡ path
below_same j path place passed ls binding p is = (subst (λ e. EndsBelow j path p.after e ls binding) is p.ends).0

-- whether a place is behind one number, which is its first
pub at_itself : (x y : ℕ) (below : List ℕ) → x ≡ y → at_or_after (x ∷ below) (y ∷ []) ≡ (length below == 0)
at_itself x y [] e = grind (arith, nat_tests)
at_itself x y (z ∷ below) e = grind (arith, nat_tests)

pub behind_first : (place : List ℕ) (x y : ℕ) (below : List ℕ) → place ≡ x ∷ below → at_or_after place (y ∷ []) ≡ false → x ≤ y → x ≡ y
behind_first place x y below is behind low =
    let behind : at_or_after (x ∷ below) (y ∷ []) ≡ false = subst (λ p. at_or_after p (y ∷ []) ≡ false) is behind in
    grind (arith, nat_tests)

-- all trials come at or after a place that isn't behind the active label
module _ (j : Join) (place : List ℕ) (ahead : at_or_after place (j.active ∷ []) ≡ true) where
  there : (other : List ℕ) → Beyond (MayFollow j) 1 [] [] other → at_or_after place other ≡ true
  there [] b = absurd (omega (arith, b.deep))
  there (x ∷ xs) b = reaches place (subst (λ y. at_or_after place (y ∷ []) ≡ true) (sym b.grows.0.turn) ahead)
    where
      reaches : (p : List ℕ) → at_or_after p (x ∷ []) ≡ true → at_or_after p (x ∷ xs) ≡ true
      reaches [] e = refl
      reaches (y ∷ []) e = grind (arith, nat_tests)
      reaches (y ∷ z ∷ p) e = grind (arith, nat_tests)

  least_ahead : (ls : List ℕ) → Least (MayFollow j) 1 [] [] ls → Least (MayFollow j) 1 [] place ls
  least_ahead ls l = record {
    more = l.more;
    is = l.is;
    beyond = record { grows = l.beyond.grows; deep = l.beyond.deep; there = there l.more l.beyond };
    least = λ other b. l.least other (record { grows = b.grows; deep = b.deep; there = refl });
  }

  ends_ahead : (end : End) (ls : List ℕ) (binding : List (Option (Value ℕ))) → (end ≡ ends.Enough → ⊥) → EndsIn j [] end ls binding → EndsIn j place end ls binding
  ends_ahead ends.Whole ls binding more e = (least_ahead ls e.0, e.1)
  ends_ahead ends.NoneLeft ls binding more e = λ other b. e other (record { grows = b.grows; deep = b.deep; there = refl })
  ends_ahead ends.Enough ls binding more e = absurd (more refl)

  plan_ahead : (n : ℕ) (end : End) (ls : List ℕ) (binding : List (Option (Value ℕ))) (after : List ℕ) → (end ≡ ends.Enough → 1 ≤ n) → PassesIn j n [] after → EndsIn j after end ls binding → PassesPlan j place (record { count = n; end = end }) ls binding
  plan_ahead zero end ls binding after some p e = record {
    after = place;
    passes = refl;
    ends = ends_ahead end ls binding (λ is. omega (arith, some is)) (subst (λ z. EndsIn j z end ls binding) p e);
  }
  plan_ahead (suc n) end ls binding after some (middle, one, more) e = record {
    after = after;
    passes = (middle, record { trial = one.trial; least = least_ahead one.trial one.least; verdict = one.verdict; right = one.right; other = one.other; on = one.on }, more);
    ends = e;
  }

  pub passed_ahead : (most : ℕ) (passed : Passed) (ls : List ℕ) (binding : List (Option (Value ℕ))) → 1 ≤ most → IsCounted most passed → PassesPlan j [] passed ls binding → PassesPlan j place passed ls binding
  passed_ahead most passed ls binding some counted p = plan_ahead passed.count passed.end ls binding p.after (λ is. omega (arith, counted.enough is)) p.passes p.ends
