-- Items that are read one after another, texts, and the first fault of a text.
use Rattle.std.proofs.Common.{◌≡◌, ◌↔◌, ℕ, Bool, true, false, cond, ltb, List, [], ◌∷◌, length, Result, Ok, Err, refl, ap, subst, ◌∙◌, ◌<◌, ◌≤◌, eqb, inl, inr, Option, Some, None, is_none, sym, arith}
use Rattle.std.proofs.lemmas.Bool.{ltb-false, le-ltb, ltb-true, lt-ltb, cases_order}
use Rattle.chr_lex.specs.declared.fault.Kind.{Kind}
use Rattle.chr_lex.specs.declared.fault.ReadFault.{ReadFault}
use Rattle.chr_lex.specs.Plain.{has_bad}
use Rattle.chr_lex.specs.Items.{Item, items_of}
use Rattle.chr_lex.specs.Tokens.{Lexeme, tokens_of}
use Rattle.chr_lex.specs.Reading.{◌>>=◌, at_line}
use Rattle.chr_lex.proofs.Cutting.{has_items, items_read}
use Rattle.chr_limits.proofs.Standing.{passed, held}
use Rattle.chr_lex.proofs.Lexing as lexing
use Rattle.chr_text.specs.Reading.{item_lexemes, over_items, of_text}
use Rattle.chr_text.specs.Forms.{IsItem, InOrder, no_more, item, IsText}
use Rattle.chr_lex.specs.declared.fault.Kind.TheVariants.{TooLong, BadByte, Syntax, Propagation, NumberRange, TooMany, Binding, NamesFull}
use Rattle.chr_text.specs.Numbering.{or_full}
use Rattle.chr_text.specs.Faults.{rank, IsFirst, SaysFaulty, ItemHas, FirstFault, here, later, IsFault, too_long, in_item}

-- ---- steps that may fail

pub bind_ok : {A B E : Type 0} (r : Result A E) (f : A → Result B E) (y : B) → (r >>= f) ≡ Ok y → (x : A) × (r ≡ Ok x) × (f x ≡ Ok y)
bind_ok (Ok x) f y h = (x, refl, h)
bind_ok (Err e) f y h = absurd cc

pub ok_is : {A E : Type 0} (x y : A) (h : let r : Result A E = Ok x in r ≡ Ok y) → x ≡ y
ok_is x y h = cc

-- ---- an item

pub is_item : (e : Item) (ts : List Lexeme) → item_lexemes e ≡ Ok ts → IsItem e ts
is_item e ts h =
    let first = passed (has_bad e.bytes) _ _ ts h in
    let second = held e.ended _ (tokens_of e.bytes) ts first.1 in
    record { ended = second.0; no_bad_byte = first.0; tokens = lexing.are_tokens false e.bytes ts second.1 }

pub item_read : (e : Item) (ts : List Lexeme) → IsItem e ts → item_lexemes e ≡ Ok ts
item_read e ts is = rw (is.no_bad_byte, is.ended) (lexing.are_read false e.bytes ts is.tokens)

-- ---- items and texts

on_line : {A B : Type 0} (line : ℕ) (r : Result A Kind) (f : A → Result B ReadFault) (y : B) → (at_line line r >>= f) ≡ Ok y → (x : A) × (r ≡ Ok x) × (f x ≡ Ok y)
on_line line (Ok x) f y h = (x, refl, h)
on_line line (Err k) f y h = absurd cc

module _ {A : Type 0} (f : A → Item → Result A Kind) (Step : A → Item → A → Type 0) (steps : (x : A) (e : Item) (y : A) → f x e ≡ Ok y ↔ Step x e y) where
  are_in_order : (x : A) (es : List Item) (y : A) → over_items f x es ≡ Ok y → InOrder Step x es y
  are_in_order x [] y h = subst (InOrder Step x []) (ok_is x y h) (no_more x)
  are_in_order x (e ∷ es) y h =
      let n = on_line e.line (f x e) (λ next. over_items f next es) y h in
      item x n.0 y e es ((steps x e n.0).0 n.1) (are_in_order n.0 es y n.2)

  read_in_order : (x : A) (es : List Item) (y : A) → InOrder Step x es y → over_items f x es ≡ Ok y
  read_in_order _ _ _ (no_more x) = refl
  read_in_order _ _ _ (item x next y e es s more) = rw ((steps x e next).1 s) (read_in_order next es y more)

  pub is_text : (x : A) (bytes : List ℕ) (y : A) → of_text f x bytes ≡ Ok y → IsText Step x bytes y
  is_text x bytes y h =
      let p = passed (ltb 65536 (length bytes)) _ (over_items f x (items_of bytes)) y h in
      record { short = ltb-false _ _ p.0; entries = items_of bytes; has = has_items bytes (items_of bytes) refl; in_order = are_in_order x (items_of bytes) y p.1 }

  pub text_read : (x : A) (bytes : List ℕ) (y : A) → IsText Step x bytes y → of_text f x bytes ≡ Ok y
  text_read x bytes y is = rw (le-ltb _ _ is.short, items_read bytes is.entries is.has) (read_in_order x is.entries y is.in_order)

  pub one_text : (x : A) (bytes : List ℕ) (y z : A) → IsText Step x bytes y → IsText Step x bytes z → y ≡ z
  one_text x bytes y z a b = let h = text_read x bytes y a in let k = text_read x bytes z b in cc

  pub no_text : (x : A) (bytes : List ℕ) (g : ReadFault) → of_text f x bytes ≡ Err g → (y : A) → IsText Step x bytes y → ⊥
  no_text x bytes g h y is = let k = text_read x bytes y is in cc

-- what each item leaves so is so after all
pub all_in_order : {A : Type 0} (Step : A → Item → A → Type 0) (P : A → Type 0) → ((x : A) (e : Item) (y : A) → Step x e y → P x → P y) → (x : A) (es : List Item) (y : A) → InOrder Step x es y → P x → P y
all_in_order Step P h _ _ _ (no_more x) so = so
all_in_order Step P h _ _ _ (item x next y e es s more) so = all_in_order Step P h next es y more (h x e next s so)

err_is : {A E : Type 0} (x y : E) (h : let r : Result A E = Err x in r ≡ Err y) → x ≡ y
err_is x y h = cc

-- ---- the first in the order

kind_of : ℕ → Kind
kind_of n =
    cond (eqb n 0) TooLong (cond (eqb n 1) BadByte (cond (eqb n 2) Syntax (cond (eqb n 3) Propagation (cond (eqb n 4) NumberRange (cond (eqb n 5) TooMany (cond (eqb n 6) Binding NamesFull))))))

of_rank : (k : Kind) → kind_of (rank k) ≡ k
unfolding kind_of
of_rank TooLong = refl
of_rank _ = refl

one_first : (Has : Kind → Type 0) (j k : Kind) → IsFirst Has j → IsFirst Has k → j ≡ k
one_first Has j k a b =
    elim (cases_order (rank j) (rank k)) as (λ v. j ≡ k) [
      | inl e ↦ sym (of_rank j) ∙ ap kind_of e ∙ of_rank k
      | inr (inl lt) ↦ absurd (b.first j lt a.has)
      | inr (inr lt) ↦ absurd (a.first k lt b.has)
    ]

-- ---- tests one after another

-- kinds, each with whether something has a fault of it
pub data Tests : Type 0 where
  none : Tests
  test : Kind → Bool → Tests → Tests

-- in their order, after a rank
abbrev pub Rise : ℕ → Tests → Type 0
Rise n none = n < 7
Rise n (test i b ts) = (n < rank i) × Rise (rank i) ts

-- whether they tell a fault of this kind; `full` says that numbering wants a name too many
abbrev pub told : Bool → Tests → Kind → Bool
told full none NamesFull = full
told full none _ = false
told full (test i b ts) j = cond (eqb (rank i) (rank j)) b (told full ts j)

-- the fault that the first of them tells; else what numbering gives
abbrev pub tested : {X A : Type 0} → (X → A) → Option X → Tests → Result A Kind
tested made o none = or_full o >>= λ x. Ok (made x)
tested made o (test i b ts) = cond b (Err i) (tested made o ts)

-- the tests first, and numbering behind them
pub tested_then : {X A : Type 0} (made : X → A) (o : Option X) (ts : Tests) → (tested (λ (u : Unit {0}). u) (Some tt) ts >>= λ u. or_full o >>= λ x. Ok (made x)) ≡ tested made o ts
tested_then made o none = refl
tested_then made o (test i true ts) = refl
tested_then made o (test i false ts) = tested_then made o ts

low : (full : Bool) (n : ℕ) (ts : Tests) → Rise n ts → (j : Kind) → rank j ≤ n → told full ts j ≡ false
low full n none rise NamesFull le = absurd (omega (arith, rise, le))
low full n none rise _ le = refl
low full n (test i b ts) rise j le =
    let lt = rise.0 in
    let other : eqb (rank i) (rank j) ≡ false = grind arith in
    rw other (low full (rank i) ts rise.1 j (omega (arith, lt, le)))

passed_over : (b c : Bool) → c ≡ false → cond b false c ≡ false
passed_over true c h = refl
passed_over false c h = h

-- the first in their order that they tell
abbrev First : ℕ → Bool → Tests → Kind → Type 0
First n full ts k = (n < rank k) × (told full ts k ≡ true) × ((j : Kind) → rank j < rank k → told full ts j ≡ false)

tested_first : {X A : Type 0} (made : X → A) (o : Option X) (n : ℕ) (ts : Tests) → Rise n ts → (k : Kind) → tested made o ts ≡ Err k → First n (is_none o) ts k
tested_first made o n (test i true ts) rise k h =
    let itself : eqb (rank i) (rank i) ≡ true = grind arith in
    let first : (j : Kind) → rank j < rank i → told (is_none o) (test i true ts) j ≡ false
    = λ j lt. let other : eqb (rank i) (rank j) ≡ false = grind arith in rw other (low (is_none o) (rank i) ts rise.1 j (omega (arith, lt))) in
    subst (First n (is_none o) (test i true ts)) (err_is i k h) (rise.0, rw itself refl, first)
tested_first made o n (test i false ts) rise k h =
    let f = tested_first made o (rank i) ts rise.1 k h in
    let lt = f.0 in
    let other : eqb (rank i) (rank k) ≡ false = grind arith in
    (omega (arith, rise.0, lt), rw other f.1, λ j below. passed_over (eqb (rank i) (rank j)) (told (is_none o) ts j) (f.2 j below))
tested_first made None n none rise k h = subst (First n true none) (err_is NamesFull k h) (rise, refl, first)
  where
    first : (j : Kind) → rank j < 7 → told true none j ≡ false
    first NamesFull lt = absurd (omega (arith, lt))
    first _ lt = refl
tested_first made (Some x) n none rise k h = absurd cc

none_told : {X A : Type 0} (made : X → A) (o : Option X) (ts : Tests) (y : A) → tested made o ts ≡ Ok y → (j : Kind) → told (is_none o) ts j ≡ false
none_told made o (test i true ts) y h j = absurd cc
none_told made o (test i false ts) y h j = passed_over (eqb (rank i) (rank j)) (told (is_none o) ts j) (none_told made o ts y h j)
none_told made None none y h j = absurd cc
none_told made (Some x) none y h NamesFull = refl
none_told made (Some x) none y h _ = refl

-- something has just the faults that the tests tell of it
abbrev pub Tells : Bool → Tests → (Kind → Type 0) → Type 0
Tells full ts Has = (j : Kind) → Has j ↔ (told full ts j ≡ true)

pub tests_fault : {X A : Type 0} (made : X → A) (o : Option X) (ts : Tests) (Has : Kind → Type 0) → Tells (is_none o) ts Has → Rise 2 ts → (k : Kind) → tested made o ts ≡ Err k → IsFirst Has k × (2 < rank k)
tests_fault made o ts Has tells rise k h =
    let f = tested_first made o 2 ts rise k h in
    (record { has = (tells k).1 f.1; first = λ j lt has. let yes = (tells j).0 has in let no = f.2 j lt in cc }, f.0)

pub tests_faultless : {X A : Type 0} (made : X → A) (o : Option X) (ts : Tests) (Has : Kind → Type 0) → Tells (is_none o) ts Has → (y : A) (k : Kind) → tested made o ts ≡ Ok y → Has k → ⊥
tests_faultless made o ts Has tells y k h has = let yes = (tells k).0 has in let no = none_told made o ts y h k in cc

-- ---- an item

-- what is read of tokens, and what is made of it
pub record IsReader {A S : Type 0} (read : List Lexeme → Result S Kind) (judge : A → S → Result A Kind) (Says : List Lexeme → S → Type 0) (Has : A → S → Kind → Type 0) : Type 0 where
  pub only : (ts : List Lexeme) (s : S) → Says ts s → read ts ≡ Ok s
  pub found : (ts : List Lexeme) (s : S) → read ts ≡ Ok s → Says ts s
  pub refused : (ts : List Lexeme) (k : Kind) → read ts ≡ Err k → (k ≡ Syntax) × ((s : S) → Says ts s → ⊥)
  pub faulty : (x : A) (s : S) (k : Kind) → judge x s ≡ Err k → IsFirst (Has x s) k × (2 < rank k)
  pub faultless : (x : A) (s : S) (y : A) (k : Kind) → judge x s ≡ Ok y → Has x s k → ⊥

module _ {S : Type 0} (Says : List Lexeme → S → Type 0) (Has : S → Kind → Type 0) (e : Item) where
  bad_byte_first : (j : Kind) → rank j < 1 → ItemHas Says Has e j → ⊥
  bad_byte_first TooLong lt h = h
  bad_byte_first _ lt h = absurd (omega (arith, lt))

  syntax_first : has_bad e.bytes ≡ false → (j : Kind) → rank j < 2 → ItemHas Says Has e j → ⊥
  syntax_first clean TooLong lt h = h
  syntax_first clean BadByte lt h = absurd cc
  syntax_first clean _ lt h = absurd (omega (arith, lt))

  -- the fault of an item that has no tokens
  lexemes_fault : (b w : Bool) (t : Result (List Lexeme) Kind) (k : Kind) → has_bad e.bytes ≡ b → e.ended ≡ w → tokens_of e.bytes ≡ t → cond b (Err BadByte) (cond w t (Err Syntax)) ≡ Err k → IsFirst (ItemHas Says Has e) k
  lexemes_fault true w t k hb hw ht h = subst (IsFirst (ItemHas Says Has e)) (err_is BadByte k h) (record { has = hb; first = bad_byte_first })
  lexemes_fault false false t k hb hw ht h = subst (IsFirst (ItemHas Says Has e)) (err_is Syntax k h) (record { has = λ ts s is says. let w = is.ended in absurd cc; first = syntax_first hb })
  lexemes_fault false true (Ok ts) k hb hw ht h = absurd cc
  lexemes_fault false true (Err j) k hb hw ht h =
      let none = lexing.refused false e.bytes j ht in
      subst (IsFirst (ItemHas Says Has e)) (sym none.0 ∙ err_is j k h) (record { has = λ ts s is says. none.1 ts is.tokens; first = syntax_first hb })

  item_has : (k : Kind) → 2 < rank k → SaysFaulty Says Has e k → ItemHas Says Has e k
  item_has TooLong gt h = absurd (omega (arith, gt))
  item_has BadByte gt h = absurd (omega (arith, gt))
  item_has Syntax gt h = absurd (omega (arith, gt))
  item_has _ gt h = h

  -- a fault of an item is one of what it says
  has_said : (ts : List Lexeme) (s : S) → IsItem e ts → Says ts s → ((us : List Lexeme) (r : S) → IsItem e us → Says us r → s ≡ r) → (k : Kind) → ItemHas Says Has e k → Has s k
  has_said ts s is says one TooLong h = absurd h
  has_said ts s is says one BadByte h = let clean = is.no_bad_byte in absurd cc
  has_said ts s is says one Syntax h = absurd (h ts s is says)
  has_said ts s is says one k h = subst (λ r. Has r k) (sym (one h.tokens h.said h.item h.says)) h.has

module _ {A S : Type 0} (read : List Lexeme → Result S Kind) (judge : A → S → Result A Kind) (Says : List Lexeme → S → Type 0) (Has : A → S → Kind → Type 0) (reader : IsReader read judge Says Has) (x : A) (e : Item) where
  one_said : (ts : List Lexeme) (s : S) → item_lexemes e ≡ Ok ts → read ts ≡ Ok s → (us : List Lexeme) (r : S) → IsItem e us → Says us r → s ≡ r
  one_said ts s h k us r is says = let other = item_read e us is in let one = reader.only us r says in cc

  judged_fault : (ts : List Lexeme) (r : Result S Kind) (k : Kind) → item_lexemes e ≡ Ok ts → read ts ≡ r → (r >>= judge x) ≡ Err k → IsFirst (ItemHas Says (Has x) e) k
  judged_fault ts (Ok s) k h said bad =
      let is = is_item e ts h in
      let says = reader.found ts s said in
      let fault = reader.faulty x s k bad in
      record {
        has = item_has Says (Has x) e k fault.1 (record { tokens = ts; said = s; item = is; says = says; has = fault.0.has });
        first = λ j lt other. fault.0.first j lt (has_said Says (Has x) e ts s is says (one_said ts s h said) j other);
      }
  judged_fault ts (Err j) k h said bad =
      let none = reader.refused ts j said in
      let nothing : (us : List Lexeme) (s : S) → IsItem e us → Says us s → ⊥ = λ us s is says. let other = item_read e us is in let one = reader.only us s says in cc in
      subst (IsFirst (ItemHas Says (Has x) e)) (sym none.0 ∙ err_is j k bad) (record { has = nothing; first = syntax_first Says (Has x) e (is_item e ts h).no_bad_byte })

  faulty_item : (k : Kind) → (item_lexemes e >>= read >>= judge x) ≡ Err k → IsFirst (ItemHas Says (Has x) e) k
  faulty_item k bad = by (item_lexemes e) refl bad
    where
      by : (r : Result (List Lexeme) Kind) → item_lexemes e ≡ r → (r >>= read >>= judge x) ≡ Err k → IsFirst (ItemHas Says (Has x) e) k
      by (Ok ts) h bad = judged_fault ts (read ts) k h refl bad
      by (Err j) h bad = subst (IsFirst (ItemHas Says (Has x) e)) (err_is j k bad) (lexemes_fault Says (Has x) e (has_bad e.bytes) e.ended (tokens_of e.bytes) j refl refl refl h)

  faultless_item : (y : A) (k : Kind) → (item_lexemes e >>= read >>= judge x) ≡ Ok y → ItemHas Says (Has x) e k → ⊥
  faultless_item y k good has =
      let s = bind_ok (item_lexemes e >>= read) (judge x) y good in
      let t = bind_ok (item_lexemes e) read s.0 s.1 in
      reader.faultless x s.0 y k s.2 (has_said Says (Has x) e t.0 s.0 (is_item e t.0 t.1) (reader.found t.0 s.0 t.2) (one_said t.0 s.0 t.1 t.2) k has)

  refused_item : (k : Kind) → IsFirst (ItemHas Says (Has x) e) k → (item_lexemes e >>= read >>= judge x) ≡ Err k
  refused_item k first = by (item_lexemes e >>= read >>= judge x) refl
    where
      by : (r : Result A Kind) → (item_lexemes e >>= read >>= judge x) ≡ r → r ≡ Err k
      by (Ok y) h = absurd (faultless_item y k h first.has)
      by (Err j) h = ap (λ (i : Kind). Err i) (one_first (ItemHas Says (Has x) e) j k (faulty_item j h) first)

-- ---- texts

module _ {A : Type 0} (f : A → Item → Result A Kind) (Step : A → Item → A → Type 0) (Has : A → Item → Kind → Type 0) where
  faults_found : ((x : A) (e : Item) (y : A) → f x e ≡ Ok y → Step x e y) → ((x : A) (e : Item) (k : Kind) → f x e ≡ Err k → IsFirst (Has x e) k) → (x : A) (es : List Item) (g : ReadFault) → over_items f x es ≡ Err g → FirstFault Step Has x es g
  faults_found steps faults x [] g h = absurd cc
  faults_found steps faults x (e ∷ es) g h = by (f x e) refl h (λ next. faults_found steps faults next es g)
    where
      by : (r : Result A Kind) → f x e ≡ r → (at_line e.line r >>= λ next. over_items f next es) ≡ Err g → ((next : A) → over_items f next es ≡ Err g → FirstFault Step Has next es g) → FirstFault Step Has x (e ∷ es) g
      by (Ok next) is h more = later x next e es g (steps x e next is) (more next h)
      by (Err k) is h more = subst (FirstFault Step Has x (e ∷ es)) (err_is (record { kind = k; line = e.line }) g h) (here x e es k (faults x e k is))

  faults_given : ((x : A) (e : Item) (y : A) → Step x e y → f x e ≡ Ok y) → ((x : A) (e : Item) (k : Kind) → IsFirst (Has x e) k → f x e ≡ Err k) → (x : A) (es : List Item) (g : ReadFault) → FirstFault Step Has x es g → over_items f x es ≡ Err g
  faults_given steps faults _ _ _ (here x e es k first) = rw (faults x e k first) refl
  faults_given steps faults _ _ _ (later x next e es g step more) = rw (steps x e next step) (faults_given steps faults next es g more)

  text_fault : ((x : A) (e : Item) (y : A) → f x e ≡ Ok y ↔ Step x e y) → ((x : A) (e : Item) (k : Kind) → f x e ≡ Err k ↔ IsFirst (Has x e) k) → (x : A) (bytes : List ℕ) (g : ReadFault) → of_text f x bytes ≡ Err g → IsFault Step Has x bytes g
  text_fault steps faults x bytes g h = by (ltb 65536 (length bytes)) refl h
    where
      by : (b : Bool) → ltb 65536 (length bytes) ≡ b → cond b (Err (record { kind = TooLong; line = 0 })) (over_items f x (items_of bytes)) ≡ Err g → IsFault Step Has x bytes g
      by true is h = subst (IsFault Step Has x bytes) (err_is (record { kind = TooLong; line = 0 }) g h) (too_long (ltb-true _ _ is))
      by false is h = in_item (items_of bytes) g (ltb-false _ _ is) (has_items bytes (items_of bytes) refl) (faults_found (λ x e y. (steps x e y).0) (λ x e k. (faults x e k).0) x (items_of bytes) g h)

  text_refused : ((x : A) (e : Item) (y : A) → f x e ≡ Ok y ↔ Step x e y) → ((x : A) (e : Item) (k : Kind) → f x e ≡ Err k ↔ IsFirst (Has x e) k) → (x : A) (bytes : List ℕ) (g : ReadFault) → IsFault Step Has x bytes g → of_text f x bytes ≡ Err g
  text_refused steps faults x bytes _ (too_long h) = rw (lt-ltb _ _ h) refl
  text_refused steps faults x bytes _ (in_item es g short has first) = rw (le-ltb _ _ short, items_read bytes es has) (faults_given (λ x e y. (steps x e y).1) (λ x e k. (faults x e k).1) x es g first)

-- a text has just the faults that the reader gives
pub faults_are : {A S : Type 0} (read : List Lexeme → Result S Kind) (judge : A → S → Result A Kind) (Says : List Lexeme → S → Type 0) (Has : A → S → Kind → Type 0) (Step : A → Item → A → Type 0) → IsReader read judge Says Has
    → ((x : A) (e : Item) (y : A) → (item_lexemes e >>= read >>= judge x) ≡ Ok y ↔ Step x e y) → (x : A) (bytes : List ℕ) (g : ReadFault) → of_text (λ y e. item_lexemes e >>= read >>= judge y) x bytes ≡ Err g ↔ IsFault Step (λ y. ItemHas Says (Has y)) x bytes g
faults_are read judge Says Has Step reader steps x bytes g =
    let faults : (x : _) (e : Item) (k : Kind) → (item_lexemes e >>= read >>= judge x) ≡ Err k ↔ IsFirst (ItemHas Says (Has x) e) k = λ x e k. (faulty_item read judge Says Has reader x e k, refused_item read judge Says Has reader x e k) in (
      text_fault (λ y e. item_lexemes e >>= read >>= judge y) Step (λ y. ItemHas Says (Has y)) steps faults x bytes g,
      text_refused (λ y e. item_lexemes e >>= read >>= judge y) Step (λ y. ItemHas Says (Has y)) steps faults x bytes g,
    )
