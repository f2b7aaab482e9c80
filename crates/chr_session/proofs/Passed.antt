-- What a loop over a line has passed.
use Rattle.std.proofs.Common.{◌≡◌, ◌+◌, ◌<◌, ◌≤◌, ◌==◌, ℕ, zero, Bool, true, false, if◌then◌else◌, List, [], ◌∷◌, ◌++◌, length, suc, take, drop, get_or, Option, Some, None, OnSome, refl, append_assoc, append-nil, length-append, length-drop, drop-cons, add-one, sym, ap, subst, ◌∙◌, arith, ◌-◌, length-take}
use Rattle.std.proofs.lemmas.Bool.{false≢true}
use Rattle.std.proofs.lemmas.List.{take_more, take-append-drop}
use Rattle.std.proofs.lemmas.Grind.{common_steps}
use Rattle.chr_session.specs.Devices.{NextIs, Comes, Gives}
use Rattle.chr_session.specs.declared.lines.LineEnd.{LineEnd}
use Rattle.chr_session.specs.declared.lines.LineEnd.TheVariants.{TooLong, Cut, End}
use Rattle.chr_session.specs.Lines.{has_line, line_of, after_line, Skipped, LineIs, Counted}

-- the rest of the line is that of the input
pub record SameEnd (rest input : List ℕ) : Type 0 where
  pub has : has_line input ≡ has_line rest
  pub after : after_line input ≡ after_line rest

other_first : (b : ℕ) (text : List ℕ) → (b ≡ 10 → ⊥) → (has_line (b ∷ text) ≡ has_line text) × (after_line (b ∷ text) ≡ after_line text) × (line_of (b ∷ text) ≡ b ∷ line_of text)
other_first b text ne = (grind (arith, common_steps), grind (arith, common_steps), grind (arith, common_steps))

-- what was passed so far, and the byte that comes next
turned : {A B C : List ℕ → Type 0} {P : List ℕ → List ℕ → Type 0} {o p : Option ℕ} → ((input : List ℕ) → A input → (rest : List ℕ) × B rest × P rest input) → ((rest : List ℕ) → B rest → NextIs o C rest) → o ≡ p → (input : List ℕ) → A input → (rest : List ℕ) × P rest input × NextIs p C rest
turned {A} {B} {C} {P} {o} {p} before step e input a =
    let i = before input a in
    let At : Option ℕ → Type 0 = λ q. NextIs q C i.0 in
    (i.0, i.2, subst At e (step i.0 i.1))

-- one byte more was passed
pub one_passed : {A B C : List ℕ → Type 0} {P Q : List ℕ → List ℕ → Type 0} {o : Option ℕ} (b : ℕ) → ((rest input tail : List ℕ) → P rest input → rest ≡ b ∷ tail → Q tail input) → ((input : List ℕ) → A input → (rest : List ℕ) × B rest × P rest input) → ((rest : List ℕ) → B rest → NextIs o C rest) → o ≡ Some b → (input : List ℕ) → A input → (rest : List ℕ) × C rest × Q rest input
one_passed b turn before step is input a =
    let t = turned before step is input a in
    let s = t.2.is in
    (s.0, s.2, turn t.0 input s.0 t.1 s.1)

pub at_some : {P : Type 0} {o : Option ℕ} {b : ℕ} → o ≡ Some b → OnSome o P → P
at_some {P} {o} {b} is on = let Q : Option ℕ → Type 0 = λ q. OnSome q P in subst Q is on

pub skipped_to_end : {A B C : List ℕ → Type 0} {o : Option ℕ} (b : ℕ) → ((input : List ℕ) → A input → (rest : List ℕ) × B rest × SameEnd rest input) → ((rest : List ℕ) → B rest → NextIs o C rest) → o ≡ Some b → b ≡ 10 → (input : List ℕ) → A input → Skipped true C input
skipped_to_end {A} {B} {C} b before step is lf input a =
    let t = turned before step is input a in
    let s = t.2.is in
    let e : t.0 ≡ 10 ∷ s.0 = s.1 ∙ ap (λ x. x ∷ s.0) lf in
    record { has = t.1.has ∙ ap has_line e; rest = subst C (sym (t.1.after ∙ ap after_line e)) s.2 }

pub skipped_byte : (b : ℕ) → (b ≡ 10 → ⊥) → (rest input tail : List ℕ) → SameEnd rest input → rest ≡ b ∷ tail → SameEnd tail input
skipped_byte b ne rest input tail same e =
    let f = other_first b tail ne in
    record { has = same.has ∙ (ap has_line e ∙ f.0); after = same.after ∙ (ap after_line e ∙ f.1) }

pub skipped_all : {A B C : List ℕ → Type 0} {o : Option ℕ} → ((input : List ℕ) → A input → (rest : List ℕ) × B rest × SameEnd rest input) → ((rest : List ℕ) → B rest → NextIs o C rest) → o ≡ None → (input : List ℕ) → A input → Skipped false C input
skipped_all {A} {B} {C} before step is input a =
    let t = turned before step is input a in
    let s = t.2.is in
    record { has = t.1.has ∙ ap has_line s.0; rest = subst C (sym (t.1.after ∙ ap after_line s.0)) s.1 }

-- the first bytes of the line were passed
pub record Begun (line rest input : List ℕ) : Type 0 where
  pub same : SameEnd rest input
  pub line_is : line_of input ≡ line ++ line_of rest
  pub none : length line ≡ 0 → input ≡ rest

-- so many bytes were passed
pub record Taken (count : ℕ) (rest input : List ℕ) : Type 0 where
  pub enough : count ≤ length input
  pub rest_is : rest ≡ drop count input

pub grown : (bytes : List ℕ) {more : List ℕ} (b : ℕ) → more ≡ bytes ++ b ∷ [] → length more ≡ length bytes + 1
grown bytes {more} b e = ap length e ∙ length-append bytes (b ∷ [])

pub none_begun : {line : List ℕ} (input : List ℕ) → line ≡ [] → Begun line input input
none_begun {line} input e = record { same = record { has = refl; after = refl }; line_is = rw e refl; none = λ z. refl }

pub stays_short : {n more : ℕ} → n ≤ 4097 → (n ≡ 4097 → ⊥) → more ≡ n + 1 → more ≤ 4097
stays_short le ne e = omega arith

pub line_ends : {A B C : List ℕ → Type 0} {o : Option ℕ} {line : List ℕ} (b : ℕ) → ((input : List ℕ) → A input → (rest : List ℕ) × B rest × Begun line rest input) → ((rest : List ℕ) → B rest → NextIs o C rest) → o ≡ Some b → b ≡ 10 → length line ≤ 4097 → (input : List ℕ) → A input → (has_line input ≡ true) × (line ≡ line_of input) × (length line ≤ 4097) × C (after_line input)
line_ends {A} {B} {C} {o} {line} b before step is lf short input a =
    let t = turned before step is input a in
    let s = t.2.is in
    let e : t.0 ≡ 10 ∷ s.0 = s.1 ∙ ap (λ x. x ∷ s.0) lf in
    let whole : line_of input ≡ line = t.1.line_is ∙ (ap (λ r. line ++ line_of r) e ∙ append-nil line) in
    (t.1.same.has ∙ ap has_line e, sym whole, short, subst C (sym (t.1.same.after ∙ ap after_line e)) s.2)

pub begun_byte : (line more : List ℕ) (b : ℕ) → (b ≡ 10 → ⊥) → more ≡ line ++ b ∷ [] → (rest input tail : List ℕ) → Begun line rest input → rest ≡ b ∷ tail → Begun more tail input
begun_byte line more b ne pushed rest input tail begun e =
    rw pushed (record {
      same = skipped_byte b ne rest input tail begun.same e;
      line_is = begun.line_is ∙ (ap (λ r. line ++ line_of r) e ∙ (ap (λ t. line ++ t) (other_first b tail ne).2 ∙ sym (append_assoc line (b ∷ []) (line_of tail))));
      none = λ z. absurd (omega (arith, length-append line (b ∷ []), z));
    })

pub line_too_long : {A B C D : List ℕ → Type 0} {o : Option ℕ} {line : List ℕ} {found : Bool} (b : ℕ) → ((input : List ℕ) → A input → (rest : List ℕ) × B rest × Begun line rest input) → ((rest : List ℕ) → B rest → NextIs o C rest) → o ≡ Some b → (b ≡ 10 → ⊥) → length line ≡ 4097 → ((input : List ℕ) → C input → Skipped found D input) → (input : List ℕ) → A input → (has_line input ≡ found) × (4097 < length (line_of input)) × D (after_line input)
line_too_long {A} {B} {C} {D} {o} {line} b before step is ne long skip input a =
    let i = one_passed b (begun_byte line (line ++ b ∷ []) b ne refl) before step is input a in
    let k = skip i.0 i.1 in
    let size : length (line_of input) ≡ length (line ++ b ∷ []) + length (line_of i.0) = ap length i.2.line_is ∙ length-append (line ++ b ∷ []) (line_of i.0) in
    (i.2.same.has ∙ k.has, omega (arith, size, length-append line (b ∷ [])), subst D (sym i.2.same.after) k.rest)

pub some_bytes : (input : List ℕ) → 0 < length (line_of input) → input ≡ [] → ⊥
some_bytes input some none = let z : length (line_of input) ≡ 0 = ap (λ t. length (line_of t)) none in omega arith

pub line_cut : {A B C : List ℕ → Type 0} {o : Option ℕ} {line : List ℕ} → ((input : List ℕ) → A input → (rest : List ℕ) × B rest × Begun line rest input) → ((rest : List ℕ) → B rest → NextIs o C rest) → o ≡ None → 0 < length line → (input : List ℕ) → A input → (has_line input ≡ false) × (input ≡ [] → ⊥)
line_cut {A} {B} {C} {o} {line} before step is some input a =
    let t = turned before step is input a in
    let size : length (line_of input) ≡ length line + length (line_of t.0) = ap length t.1.line_is ∙ length-append line (line_of t.0) in
    (t.1.same.has ∙ ap has_line t.2.is.0, some_bytes input (omega (arith, size, some)))

pub line_none : {A B C : List ℕ → Type 0} {o : Option ℕ} {line : List ℕ} → ((input : List ℕ) → A input → (rest : List ℕ) × B rest × Begun line rest input) → ((rest : List ℕ) → B rest → NextIs o C rest) → o ≡ None → length line ≡ 0 → (input : List ℕ) → A input → input ≡ []
line_none before step is empty input a = let t = turned before step is input a in t.1.none empty ∙ t.2.is.0

pub line_passed : {A B C D : List ℕ → Type 0} {o : Option ℕ} {line : List ℕ} (kept : List ℕ) (found : Bool) (end : LineEnd) (b : ℕ) → ((input : List ℕ) → A input → (rest : List ℕ) × B rest × Begun line rest input) → ((rest : List ℕ) → B rest → NextIs o C rest) → o ≡ Some b → (b ≡ 10 → ⊥) → length line ≡ 4097 → ((input : List ℕ) → C input → Skipped found D input) → end ≡ (if found then TooLong else Cut) → (input : List ℕ) → A input → LineIs end kept D input
line_passed kept true end b before step is ne long skip e input a = rw e (line_too_long b before step is ne long skip input a)
line_passed kept false end b before step is ne long skip e input a =
    let r = line_too_long b before step is ne long skip input a in
    rw e (r.0, some_bytes input (omega (arith, r.1)))

pub some_left : (n : ℕ) → (suc n == 0) ≡ false
some_left n = grind (arith, common_steps)

pub line_open : {A B C : List ℕ → Type 0} {o : Option ℕ} {line : List ℕ} (D : List ℕ → Type 0) (kept : List ℕ) (n : ℕ) (empty : Bool) (end : LineEnd) → ((input : List ℕ) → A input → (rest : List ℕ) × B rest × Begun line rest input) → ((rest : List ℕ) → B rest → NextIs o C rest) → o ≡ None → n ≡ length line → empty ≡ (n == 0) → end ≡ (if empty then End else Cut) → (input : List ℕ) → A input → LineIs end kept D input
line_open D kept zero empty end before step is len none e input a = rw (e, none) (line_none before step is (sym len) input a)
line_open D kept (suc n) empty end before step is len none e input a = rw (e, none, some_left n) (line_cut before step is (omega (arith, len)) input a)

pub spent_if_open : (b h b' h' : ℕ) {whole : ℕ} (line : List ℕ) (n : ℕ) (empty : Bool) (end : LineEnd) → n ≡ length line → empty ≡ (n == 0) → end ≡ (if empty then End else Cut) → b + h + length line ≤ whole → b' + h' ≤ b + h → (end ≡ End → ⊥) → b' + h' < whole
spent_if_open b h b' h' line zero empty end len none e before step ne = absurd (ne (rw (e, none) refl))
spent_if_open b h b' h' line (suc n) empty end len none e before step ne = omega (arith, len, before, step)

pub taken_byte : (n b : ℕ) (rest input tail : List ℕ) → Taken n rest input → rest ≡ b ∷ tail → Taken (n + 1) tail input × (take (n + 1) input ≡ take n input ++ b ∷ [])
taken_byte n b rest input tail taken e =
    let d : drop n input ≡ b ∷ tail = sym taken.rest_is ∙ e in
    let few : n < length input = omega (arith, ap length d, length-drop n input) in
    let split : drop n input ≡ get_or input n b ∷ drop (suc n) input = drop-cons input n b few in
    let first : get_or input n b ≡ b = cc in
    let others : drop (suc n) input ≡ tail = cc in
    (record { enough = omega arith; rest_is = rw add-one (sym others) }, take_more input n b few ∙ ap (λ x. take n input ++ x ∷ []) first)

pub counted_end : {A B C : List ℕ → Type 0} {o : Option ℕ} {n : ℕ} (count : ℕ) → n < count → ((input : List ℕ) → A input → (rest : List ℕ) × B rest × Taken n rest input) → ((rest : List ℕ) → B rest → NextIs o C rest) → o ≡ None → (input : List ℕ) → A input → Counted false count C input
counted_end {A} {B} {C} {o} {n} count lt before step is input a =
    let t = turned before step is input a in
    let z : length (drop n input) ≡ 0 = ap length (sym t.1.rest_is ∙ t.2.is.0) in
    record { enough = λ e. absurd (false≢true e); few = λ _. omega (arith, length-drop n input); rest = λ e. absurd (false≢true e) }

pub counted_all : {A B : List ℕ → Type 0} {n : ℕ} (count : ℕ) → n ≡ count → ((input : List ℕ) → A input → (rest : List ℕ) × B rest × Taken n rest input) → (input : List ℕ) → A input → Counted true count B input
counted_all {A} {B} {n} count same before input a =
    let i = before input a in
    let e : i.0 ≡ drop count input = i.2.rest_is ∙ ap (λ k. drop k input) same in
    record { enough = λ _. omega (arith, i.2.enough); few = λ e. absurd (false≢true (sym e)); rest = λ _. subst B e i.1 }

-- the same where the bytes are kept
pub record Kept (count : ℕ) (bytes rest input : List ℕ) : Type 0 where
  pub taken : Taken count rest input
  pub bytes_are : bytes ≡ take count input

pub none_kept : {bytes : List ℕ} (input : List ℕ) → bytes ≡ [] → Kept 0 bytes input input
none_kept input e = record { taken = record { enough = omega arith; rest_is = refl }; bytes_are = e }

pub kept_taken : {A B : List ℕ → Type 0} {n : ℕ} {bytes : List ℕ} → ((input : List ℕ) → A input → (rest : List ℕ) × B rest × Kept n bytes rest input) → (input : List ℕ) → A input → (rest : List ℕ) × B rest × Taken n rest input
kept_taken before input a = let i = before input a in (i.0, i.1, i.2.taken)

pub kept_byte : (n b : ℕ) (bytes more : List ℕ) → more ≡ bytes ++ b ∷ [] → (rest input tail : List ℕ) → Kept n bytes rest input → rest ≡ b ∷ tail → Kept (n + 1) more tail input
kept_byte n b bytes more pushed rest input tail kept e =
    let t = taken_byte n b rest input tail kept.taken e in
    record { taken = t.0; bytes_are = pushed ∙ (ap (λ k. k ++ b ∷ []) kept.bytes_are ∙ sym t.1) }

pub kept_all : {A B : List ℕ → Type 0} {n : ℕ} {bytes : List ℕ} (count : ℕ) → n ≡ count → ((input : List ℕ) → A input → (rest : List ℕ) × B rest × Kept n bytes rest input) → (input : List ℕ) → A input → bytes ≡ take count input
kept_all {A} {B} {n} {bytes} count same before input a = let i = before input a in i.2.bytes_are ∙ ap (λ k. take k input) same

-- What a buffer holds back, after a read and after a byte.

pub next_taken : {left : List ℕ → Type 0} {held after : List ℕ} (b : ℕ) (input : List ℕ) → held ≡ b ∷ after → Comes held left input → NextIs (Some b) (Comes after left) input
next_taken {left} {held} {after} b input e comes = record {
  is = (
    after ++ comes.rest,
    comes.whole ∙ ap (λ (h : List ℕ). h ++ comes.rest) e,
    record { rest = comes.rest; told = comes.told; whole = refl },
  );
}

pub refilled : (n : ℕ) (piece : List ℕ) (before after : List ℕ → Type 0) (input : List ℕ) → Comes [] before input → ((bytes : List ℕ) → before bytes → Gives bytes n piece after) → Comes (take (n - 0) (drop 0 piece)) after input
refilled n piece before after input comes gives =
    let given = gives comes.rest comes.told in
    let same : take (n - 0) (drop 0 piece) ≡ take n comes.rest = grind (arith, common_steps, given.first) in
    record { rest = drop n comes.rest; told = given.rest; whole = comes.whole ∙ (sym (take-append-drop n comes.rest) ∙ ap (λ h. h ++ drop n comes.rest) (sym same)) }

-- nothing is held where the two ends meet
pub held_met : (bytes : List ℕ) (from to : ℕ) → from ≤ to → to ≤ from → take (to - from) (drop from bytes) ≡ []
held_met bytes from to le ge = let z : to - from ≡ 0 = omega arith in rw z refl

pub next_ends : {before after : List ℕ → Type 0} {held now : List ℕ} (n : ℕ) (piece input : List ℕ) → held ≡ [] → now ≡ [] → n ≡ 0 → ((bytes : List ℕ) → before bytes → Gives bytes n piece after) → Comes held before input → NextIs None (Comes now after) input
next_ends {before} {after} {held} {now} n piece input none empty zero_read gives comes =
    let given = gives comes.rest comes.told in
    let end : comes.rest ≡ [] = given.ends zero_read in
    let all : input ≡ [] = comes.whole ∙ (ap (λ (h : List ℕ). h ++ comes.rest) none ∙ end) in
    let rest : drop n comes.rest ≡ [] = ap (λ (k : ℕ). drop k comes.rest) zero_read ∙ end in
    record { is = (all, record { rest = drop n comes.rest; told = given.rest; whole = sym (ap (λ (h : List ℕ). h ++ drop n comes.rest) empty ∙ rest) }) }

pub within_end : (new old n : ℕ) {held now : List ℕ} → held ≡ [] → now ≡ [] → new + n ≤ old → new + length now ≤ old + length held
within_end new old n none empty within = omega (arith, ap length none, ap length empty)

pub refilled_less : (n : ℕ) (piece : List ℕ) (new old : ℕ) (held : List ℕ) {after : List ℕ} (b : ℕ) → take (n - 0) (drop 0 piece) ≡ b ∷ after → new + n ≤ old → new + length after < old + length held
refilled_less n piece new old held b e within = omega (arith, ap length e, length-take (n - 0) (drop 0 piece))
