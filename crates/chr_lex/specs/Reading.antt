-- A step that may fail, and what a function of the code answers then.
use Rattle.std.specs.Prelude.{◌≡◌, ℕ, Result, Ok, Err}
use Rattle.chr_lex.specs.declared.fault.Kind.{Kind}
use Rattle.chr_lex.specs.declared.fault.ItemError.{ItemError}
use Rattle.chr_lex.specs.declared.fault.ItemError.TheVariants as item_errors
use Rattle.chr_lex.specs.declared.fault.ReadFault.{ReadFault}
use Rattle.chr_lex.specs.declared.fault.ReadError.{ReadError}
use Rattle.chr_lex.specs.declared.fault.ReadError.TheVariants as errors

infixl 10 ◌>>=◌
abbrev pub ◌>>=◌ : {A B E : Type 0} → Result A E → (A → Result B E) → Result B E
(Ok x) >>= f = f x
(Err e) >>= f = Err e

-- What a function returned for an item, seen by view, is what reading gives, unless memory ran out.
abbrev pub Fails : {Y : Type 0} → ItemError → Result Y Kind → Type 0
Fails item_errors.Memory read = Unit {0}
Fails (item_errors.Fault k) read = read ≡ Err k

abbrev pub Gives : {X Y : Type 0} → (X → Y) → Result X ItemError → Result Y Kind → Type 0
Gives view (Ok x) read = read ≡ Ok (view x)
Gives view (Err e) read = Fails e read

-- The same for a text.
abbrev pub FailsWith : {Y : Type 0} → ReadError → Result Y ReadFault → Type 0
FailsWith errors.Memory read = Unit {0}
FailsWith (errors.Fault f) read = read ≡ Err f

abbrev pub Reads : {X Y : Type 0} → (X → Y) → Result X ReadError → Result Y ReadFault → Type 0
Reads view (Ok x) read = read ≡ Ok (view x)
Reads view (Err e) read = FailsWith e read

-- a fault of the item that begins at this line
abbrev pub at_line : {A : Type 0} → ℕ → Result A Kind → Result A ReadFault
at_line line (Ok x) = Ok x
at_line line (Err k) = Err record { kind = k; line = line }

abbrev pub placed : ℕ → ItemError → ReadError
placed line item_errors.Memory = errors.Memory
placed line (item_errors.Fault k) = errors.Fault record { kind = k; line = line }
