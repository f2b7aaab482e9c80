-- `Arguments` as a type that may hold the type that holds it: a `Vec`, and how many elements it has.
use Rattle.std.specs.Prelude.{◌≡◌, ◌≤◌, length}
use mathlib.Core.Path.{PathP, refl, sym, subst}
use mathlib.Core.HLevel.{is_prop→PathP}
use mathlib.Core.List.{List}
use mathlib.Core.Former.{Former, Count, Row, over, this, list, list_count, children}
use native.Mathlib.Bridge.{le_prop}
use lib.ListN.{length-map}
use denote.RattleType.{RattleType}
use denote.HoleLaws.{Alike}
use denote.HolePlaces.{Recodes, struct_places, struct_Codes, laid}
use denote.Hole.Carrier.{listed, list-listed}
use denote.Param.Weighed.{Weighed}
use Rattle.std.specs.declared.alloc.Allocator.{Ghosts}
use Rattle.std.specs.declared.vec.Vec.{Vec}
use Rattle.std.specs.formers.vec.Vec as vec
use Rattle.chr_value.specs.Bounds.{most_arguments}
use Rattle.chr_value.specs.declared.compound.Arguments.{Arguments}
use Rattle.chr_value.specs.contracts.compound.Arguments as C

abbrev pub Few : {X H : Type 0} → Vec X H → Type 0
Few v = (1 ≤ length v.items) × (length v.items ≤ most_arguments)

pub few_along : {X H : Type 0} (v w : Vec X H) (e : v ≡ w) (p : Few v) (q : Few w) → PathP (λ i. Few (e i)) p q
few_along v w e = is_prop→PathP (λ i. Few (e i)) (λ i p q j. (le_prop p.0 q.0 j, le_prop p.1 q.1 j))

pub few_as : {X Y H : Type 0} (v : Vec X H) (w : Vec Y H) → length w.items ≡ length v.items → Few v → Few w
few_as v w e = subst (λ n. (1 ≤ n) × (n ≤ most_arguments)) (sym e)

abbrev pub of_vec : {X H : Type 0} (v : Vec X H) → Few v → Arguments X H
of_vec v few = record { list = v; few = few }

abbrev pub mapped : {X Y H : Type 0} → (X → Y) → Arguments X H → Arguments Y H
mapped h d = of_vec (vec.mapped h d.list) (few_as d.list (vec.mapped h d.list) (length-map d.list.items h) d.few)

module _ (g : Former {0}) (H : Type 0) where
  abbrev pub got : (X : Type 0) (a : Arguments g.Shape H) (n : Count) → Row X (list_count g a.list.items n) → Arguments (g.Of X) H × Row X n
  got X a n v =
      let r : Vec (g.Of X) H × Row X n = vec.got g H X a.list n v in
      (of_vec r.0 (few_as a.list r.0 (vec.length_got g H X a.list.items n v) a.few), r.1)

  pub got-put : (X : Type 0) (d : Arguments (g.Of X) H) (n : Count) (t : Row X n) → got X (mapped (g.shape X) d) n ((list g).put X d.list.items n t) ≡ (d, t)
  got-put X d n t =
      let e = vec.got-put g H X d.list n t in
      λ i. (of_vec (e i).0 (few_along _ _ (λ j. (e j).0) (got X (mapped (g.shape X) d) n ((list g).put X d.list.items n t)).0.few d.few i), (e i).1)

  pub put-got : (X : Type 0) (a : Arguments g.Shape H) (n : Count) (v : Row X (list_count g a.list.items n))
      → ◌≡◌ {A = (b : Arguments g.Shape H) × Row X (list_count g b.list.items n)} (mapped (g.shape X) (got X a n v).0, (list g).put X (got X a n v).0.list.items n (got X a n v).1) (a, v)
  put-got X a n v =
      let e = vec.put-got g H X a.list n v in
      λ i. (of_vec (e i).0 (few_along _ _ (λ j. (e j).0) (mapped (g.shape X) (got X a n v).0).few a.few i), (e i).1)

  pub got-map : (X Y : Type 0) (h : X → Y) (a : Arguments g.Shape H) (n : Count) (v : Row X (list_count g a.list.items n))
      → got Y a n (over h (list_count g a.list.items n) v) ≡ (mapped (g.map X Y h) (got X a n v).0, over h n (got X a n v).1)
  got-map X Y h a n v =
      let e = vec.got-map g H X Y h a.list n v in
      λ i. (of_vec (e i).0 (few_along _ _ (λ j. (e j).0) (got Y a n (over h (list_count g a.list.items n) v)).0.few (mapped (g.map X Y h) (got X a n v).0).few i), (e i).1)

  abbrev pub the_former : Former {0}
  the_former = record {
    Of = λ X. Arguments (g.Of X) H;
    Shape = Arguments g.Shape H;
    count = λ a. list_count g a.list.items;
    shape = λ X. mapped (g.shape X);
    put = λ X d. (list g).put X d.list.items;
    get = got;
    map = λ X Y h. mapped (g.map X Y h);
    get-put = got-put;
    put-get = put-got;
    get-map = got-map;
  }

abbrev pub the_weighed : {g : Former {0}} → Weighed g → (H : Type 0) → Weighed (the_former g H)
the_weighed w H = let inner = vec.the_weighed w H in record { weight = λ X μ d. inner.weight X μ d.list; puts = λ X μ d. inner.puts X μ d.list }

abbrev pub the_items : (H X : Type 0) → Arguments X H → List X
the_items H X d = d.list.items

pub the_items_listed : (H X : Type 0) (d : Arguments X H) → listed _ (children (the_former this H) X d) ≡ the_items H X d
the_items_listed H X d = list-listed X d.list.items

module _ (A : RattleType) (G : Ghosts A.Denot) (R S : RattleType) (h : R.Denot → S.Denot) where
  pub the_places : Alike R S h → Alike (C.the_row R A G) (C.the_row S A G) ((the_former this A.Denot).map R.Denot S.Denot h)
  the_places a = struct_places (C.the_type R A G) (C.the_type S A G) (vec.mapped h, tt) (mapped h) (λ d. refl) refl (laid _ _ _ (vec.the_places A G R S h a), tt)

  pub the_codes_placed : Recodes R S h → Recodes (C.the_row R A G) (C.the_row S A G) ((the_former this A.Denot).map R.Denot S.Denot h)
  the_codes_placed e = struct_Codes (C.the_type R A G) (C.the_type S A G) (vec.mapped h, tt) (mapped h) (λ d. refl) (vec.the_codes_placed A G R S h e, tt)
