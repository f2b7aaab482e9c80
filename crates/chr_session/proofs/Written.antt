-- One piece written after another.
use Rattle.std.proofs.Common.{◌≡◌, ◌+◌, ◌-◌, ℕ, min, List, [], ◌++◌, length, take, drop, codes, sym, ap, subst, ◌∙◌, arith, append_assoc}
use Rattle.std.proofs.Math.Seq.{take-add, take-length, take-append-add}
use Rattle.std.proofs.lemmas.List.{take_rest}
use Rattle.std.proofs.lemmas.Grind.{common_steps}
use Rattle.chr_session.specs.Replies.{Wrote, Began}

pub wrote_piece : {A B C : List ℕ → Type 0} (bytes : List ℕ) (at n : ℕ) → Wrote A B (take at bytes) → ((all : List ℕ) → B all → C (all ++ take n (take (length bytes - at) (drop at bytes)))) → Wrote A C (take (at + n) bytes)
wrote_piece {A} {B} {C} bytes at n before piece = record {
  told = λ all a.
      let e : (all ++ take at bytes) ++ take n (drop at bytes) ≡ all ++ take (at + n) bytes = append_assoc all (take at bytes) (take n (drop at bytes)) ∙ ap (λ t. all ++ t) (sym (take-add at n bytes)) in
      let f : (all ++ take at bytes) ++ take n (take (length bytes - at) (drop at bytes)) ≡ (all ++ take at bytes) ++ take n (drop at bytes) = ap (λ t. (all ++ take at bytes) ++ take n t) (take_rest bytes at) in
      subst C (f ∙ e) (piece (all ++ take at bytes) (before.told all a));
}

pub wrote_both : {A B C : List ℕ → Type 0} {x y : List ℕ} → Wrote A B x → Wrote B C y → Wrote A C (x ++ y)
wrote_both {A} {B} {C} {x} {y} first second = record { told = λ all a. subst C (append_assoc all x y) (second.told (all ++ x) (first.told all a)) }

take_first : (k : ℕ) (x y : List ℕ) → take (min k (length x)) (x ++ y) ≡ take k x
take_first k x y = grind (arith, common_steps)

pub began_first : {A B : List ℕ → Type 0} {x : List ℕ} (y : List ℕ) → Began A B x → Began A B (x ++ y)
began_first {A} {B} {x} y began = record {
  told = λ all a. let b = began.told all a in (min b.0 (length x), subst B (ap (λ t. all ++ t) (sym (take_first b.0 x y))) b.1);
}

pub began_second : {A B C : List ℕ → Type 0} {x y : List ℕ} → Wrote A B x → Began B C y → Began A C (x ++ y)
began_second {A} {B} {C} {x} {y} first second = record {
  told = λ all a.
      let b = second.told (all ++ x) (first.told all a) in
      let e : (all ++ x) ++ take b.0 y ≡ all ++ take (length x + b.0) (x ++ y) = append_assoc all x (take b.0 y) ∙ ap (λ t. all ++ t) (sym (take-append-add x y b.0)) in
      (length x + b.0, subst C e b.1);
}

pub began_all : {A B : List ℕ → Type 0} {x : List ℕ} → Wrote A B x → Began A B x
began_all {A} {B} {x} wrote = record { told = λ all a. (length x, subst B (ap (λ t. all ++ t) (sym (take-length x))) (wrote.told all a)) }

-- the pieces of a reply's first line, in a vector that was emptied
pub line_made : {cleared one two three head : List ℕ} (word details : List ℕ) → cleared ≡ [] → one ≡ cleared ++ word → two ≡ one ++ details → three ≡ two ++ codes "\n" → head ≡ word ++ (details ++ codes "\n") → three ≡ head
line_made {cleared} {one} {two} {three} {head} word details none first second third is =
    third ∙ (ap (λ (t : List ℕ). t ++ codes "\n") (second ∙ ap (λ (t : List ℕ). t ++ details) (first ∙ ap (λ (t : List ℕ). t ++ word) none)) ∙ (append_assoc word details (codes "\n") ∙ sym is))
