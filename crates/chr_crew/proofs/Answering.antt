-- What the answer of a call gives its caller.
use Rattle.std.proofs.Common.{◌≡◌, true, false}
use Rattle.std.specs.Prelude.{Result, Ok, Err, IfOk, IfErr, OnOk, is_err, MatchResult}

pub ok_then : {X E : Type 0} (P Q : X → Type 0) (r : Result X E) → IfOk r P → ((x : X) → P x → Q x) → IfOk r Q
ok_then P Q (Ok x) p then = then x p
ok_then P Q (Err e) p then = tt

pub ok_both : {X E : Type 0} (P Q R : X → Type 0) (r : Result X E) → IfOk r P → IfOk r Q → ((x : X) → P x → Q x → R x) → IfOk r R
ok_both P Q R (Ok x) p q then = then x p q
ok_both P Q R (Err e) p q then = tt

pub ok_with : {X E : Type 0} (G : Type 0) (P Q : X → Type 0) (r : Result X E) → OnOk r G → IfOk r P → ((x : X) → G → P x → Q x) → IfOk r Q
ok_with G P Q (Ok x) g p then = then x g p
ok_with G P Q (Err e) g p then = tt

pub err_then : {X E : Type 0} (P Q : E → Type 0) (r : Result X E) → IfErr r P → ((e : E) → P e → Q e) → IfErr r Q
err_then P Q (Ok x) p then = tt
err_then P Q (Err e) p then = then e p

-- an answer that was looked at
pub at_err : {X E : Type 0} (P : E → Type 0) (G : Type 0) (r : Result X E) → is_err r ≡ true → IfErr r P → ((e : E) → P e → G) → G
at_err P G (Ok x) is p then = absurd (cc)
at_err P G (Err e) is p then = then e p

pub at_ok : {X E : Type 0} (P : X → Type 0) (Q : E → Type 0) (G : Type 0) (r : Result X E) → is_err r ≡ false → MatchResult r P Q → ((x : X) → P x → G) → G
at_ok P Q G (Ok x) is p then = then x p
at_ok P Q G (Err e) is p then = absurd (cc)
