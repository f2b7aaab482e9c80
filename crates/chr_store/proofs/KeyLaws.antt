-- Equality of keys.
use Rattle.std.specs.Prelude.{◌≡◌, ℕ, ℤ, true}
use Rattle.std.proofs.Common.{refl, ap, ◌∙◌}
use Rattle.std.proofs.lemmas.Bool.{and_parts, eq-eqb, eqb-true}
use Rattle.std.specs.Cmp.{signed_Decides}
use Rattle.chr_store.specs.KeyParts.{Key, KeyValue}
use Rattle.chr_store.specs.KeyParts as keyed
use Rattle.chr_store.specs.Index.{same_key, same_value}

pub same_value_refl : (v : KeyValue) → same_value v v ≡ true
same_value_refl (keyed.Int z) = (signed_Decides z z).1 refl
same_value_refl (keyed.Sym s) = eq-eqb s s refl
same_value_refl (keyed.Digest d) = eq-eqb d d refl

pub same_value_true : (v w : KeyValue) → same_value v w ≡ true → v ≡ w
same_value_true (keyed.Int y) (keyed.Int z) h = let e : y ≡ z =
    (signed_Decides y z).0 h in ap (λ (x : ℤ). keyed.Int x) e
same_value_true (keyed.Int y) (keyed.Sym s) h = cc
same_value_true (keyed.Int y) (keyed.Digest d) h = cc
same_value_true (keyed.Sym r) (keyed.Int z) h = cc
same_value_true (keyed.Sym r) (keyed.Sym s) h =
    ap (λ (n : ℕ). keyed.Sym n) (eqb-true r s h)
same_value_true (keyed.Sym r) (keyed.Digest d) h = cc
same_value_true (keyed.Digest c) (keyed.Int z) h = cc
same_value_true (keyed.Digest c) (keyed.Sym s) h = cc
same_value_true (keyed.Digest c) (keyed.Digest d) h =
    ap (λ (n : ℕ). keyed.Digest n) (eqb-true c d h)

abbrev key_from : ℕ → ℕ → ℕ → KeyValue → Key
key_from n m p v = record { name = record { number = n }; arity = m; place = p; value = v }

pub same_parts : (k l : Key) → k.name.number ≡ l.name.number → k.arity ≡ l.arity →
    k.place ≡ l.place → k.value ≡ l.value → k ≡ l
same_parts k l name arity place value =
    ap (λ (z : ℕ). key_from z k.arity k.place k.value) name ∙
    ap (λ (z : ℕ). key_from l.name.number z k.place k.value) arity ∙
    ap (λ (z : ℕ). key_from l.name.number l.arity z k.value) place ∙
    ap (λ (z : KeyValue). key_from l.name.number l.arity l.place z) value

pub same_key_true : (k l : Key) → same_key k l ≡ true → k ≡ l
same_key_true k l h =
    let p = and_parts _ _ h in
    let q = and_parts _ _ p.0 in
    let r = and_parts _ _ q.0 in
    same_parts k l (eqb-true _ _ r.0) (eqb-true _ _ r.1) (eqb-true _ _ q.1)
    (same_value_true _ _ p.1)

pub same_key_refl : (k : Key) → same_key k k ≡ true
same_key_refl k =
    rw (
      eq-eqb k.name.number k.name.number refl,
      eq-eqb k.arity k.arity refl,
      eq-eqb k.place k.place refl,
    ) (same_value_refl k.value)
