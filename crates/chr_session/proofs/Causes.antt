-- What a failure in the middle of a function says of the whole of it.
use Rattle.std.proofs.Common.{◌≡◌, ◌+◌, ◌<◌, ◌≤◌, ◌^◌, ℕ, Result, Err, le_trans, lt_of_le_of_lt, le_refl, refl, arith}
use Rattle.chr_session.specs.Devices.{HasCause}

-- a failure in the middle of what is counted
risen : (old mid now new most : ℕ) → (mid < now → old < new) → mid ≤ now → now ≤ new → (mid < most → mid < now) → old < most → old < new
risen old mid now new most moved later within failed low = grind (arith, failed, moved)

-- a last call, whose result is returned as it is or with another value
pub caused_later : {T E : Type 0} {before mid now : ℕ} (result : Result T E) → before ≤ mid → HasCause mid now result → HasCause before now result
caused_later {T} {E} {before} {mid} {now} result first cause = record { later = le_trans first cause.later; failed = λ e low. risen before mid now now (2 ^ 63) (λ lt. lt_of_le_of_lt first lt) cause.later (le_refl now) (cause.failed e) low }

-- a session whose writer failed no further has none of its failures
pub no_cause : {T E : Type 0} {fault : E} {before mid now : ℕ} → before ≤ mid → HasCause {T = T} {E = E} mid now (Err fault) → before < 2 ^ 63 → now ≡ before → ⊥
no_cause {T} {E} {fault} {before} {mid} {now} first cause low same = let lt : before < now = risen before mid now now (2 ^ 63) (λ lt. lt_of_le_of_lt first lt) cause.later (le_refl now) (cause.failed refl) low in absurd (omega (arith, lt, same))

-- two devices, of which one fails later
pub failed_either : {T T' E E' : Type 0} {fault : E} {a b c d e : ℕ} (result : Result T' E') → a ≤ b → c ≤ d → HasCause {T = T} {E = E} b e (Err fault) → HasCause (a + c) (e + d) result
failed_either {T} {T'} {E} {E'} {fault} {a} {b} {c} {d} {e} result one other cause = record { later = omega (arith, one, other, cause.later); failed = λ f low. risen (a + c) b e (e + d) (2 ^ 63) (λ lt. omega (arith, lt, one, other)) cause.later (omega arith) (cause.failed refl) low }

pub failed_other : {T T' E E' : Type 0} {fault : E} {a b c d e : ℕ} (result : Result T' E') → a ≤ b → c ≤ d → HasCause {T = T} {E = E} d e (Err fault) → HasCause (a + c) (b + e) result
failed_other {T} {T'} {E} {E'} {fault} {a} {b} {c} {d} {e} result one other cause = record { later = omega (arith, one, other, cause.later); failed = λ f low. risen (a + c) d e (b + e) (2 ^ 63) (λ lt. omega (arith, lt, one, other)) cause.later (omega arith) (cause.failed refl) low }
