-- What an input spells first, from how its line and its counted bytes were read.
use Rattle.std.proofs.Common.{◌≡◌, ◌+◌, ◌<◌, ◌≤◌, ℕ, Bool, true, false, List, [], ◌∷◌, length, take, drop, reverse, nat_lt, if◌then◌else◌, refl, sym, ap, subst, ◌∙◌, arith, zero, suc, length-drop}
use Rattle.std.proofs.lemmas.Bool.{false≢true}
use Rattle.std.proofs.lemmas.List.{length-reverse}
use Rattle.std.proofs.lemmas.Grind.{common_steps}
use Rattle.chr_session.specs.declared.desk.Fault.TheVariants as fault
use Rattle.chr_session.specs.declared.commands.Ended.TheVariants as ended
use Rattle.chr_session.specs.declared.commands.Received.{Received as CodeReceived}
use Rattle.chr_session.specs.declared.commands.Received.TheVariants as variants
use Rattle.chr_session.specs.declared.parsing.ParsedLine.{ParsedLine}
use Rattle.chr_session.specs.Lines.{has_line, line_of, after_line, Counted}
use Rattle.chr_session.specs.Parsing.{without_cr, after_blanks, trimmed, word_of, rest_of, parsed_of}
use Rattle.chr_session.specs.Spelling.{too_long, Received, Spelling, Ending, SpellsFirst, received_of, load_spells, parsed_spells, line_spells, next, end_of, Reads, Spells}
use Rattle.chr_session.specs.Commands.{Load, Faulty, Right, Spelled}
use Rattle.chr_session.specs.declared.commands.Ended.{Ended}
use Rattle.chr_session.specs.declared.parsing.ParsedLine.TheVariants as lines

-- a load

pub spells_cut : {C : List ℕ → Type 0} {found : Bool} {count : ℕ} {input : List ℕ} → found ≡ false → Counted found count C input → SpellsFirst (load_spells count) (Ending ended.Cut) C input
spells_cut {C} {found} {count} {input} absent counted = record { rest = []; is = grind (arith, common_steps, counted.few absent); told = λ e. absurd (false≢true e) }

pub spells_refused : {C : List ℕ → Type 0} {count : ℕ} {input : List ℕ} (found : Bool) (received : CodeReceived) (text : List ℕ) → received ≡ (if found then variants.Fault too_long else variants.Ended ended.Cut) → 65536 < count → Counted found count C input → SpellsFirst (load_spells count) (received_of received text) C input
spells_refused {C} {count} {input} true received text is many counted = rw is (record { rest = drop count input; is = grind (arith, common_steps, counted.enough refl, many); told = λ _. counted.rest refl })
spells_refused false received text is many counted = rw is (spells_cut refl counted)

pub spells_loaded : {C : List ℕ → Type 0} {count : ℕ} {input : List ℕ} (found : Bool) (received : CodeReceived) (text : List ℕ) → received ≡ (if found then variants.Load else variants.Ended ended.Cut) → count ≤ 65536 → (found ≡ true → text ≡ take count input) → Counted found count C input → SpellsFirst (load_spells count) (received_of received text) C input
spells_loaded {C} {count} {input} true received text is few same counted = rw is (record { rest = drop count input; is = rw (same refl) (grind (arith, common_steps, counted.enough refl, few)); told = λ _. counted.rest refl })
spells_loaded false received text is few same counted = rw is (spells_cut refl counted)

-- a parsed line

pub spells_parsed : {C : List ℕ → Type 0} {input : List ℕ} (parsed : ParsedLine) (text : List ℕ) (step : Received) → parsed_spells parsed text input ≡ (step, input) → C input → SpellsFirst (parsed_spells parsed text) step C input
spells_parsed {C} {input} parsed text step is a = record { rest = input; is = is; told = λ _. a }

pub spells_quit : {C : List ℕ → Type 0} {input : List ℕ} (parsed : ParsedLine) (text : List ℕ) → parsed_spells parsed text input ≡ (Ending ended.Quit, []) → SpellsFirst (parsed_spells parsed text) (Ending ended.Quit) C input
spells_quit {C} {input} parsed text is = record { rest = []; is = is; told = λ e. absurd (false≢true e) }

-- a line

pub long_line : (line : List ℕ) → length line ≤ length (without_cr line) + 1
long_line line = grind (arith, common_steps)

front_shorter : (text : List ℕ) → length (after_blanks text) ≤ length text
front_shorter [] = omega arith
front_shorter (b ∷ text) = grind (arith, front_shorter text)

rest_shorter : (text : List ℕ) → length (rest_of text) ≤ length text
rest_shorter [] = omega arith
rest_shorter (b ∷ text) = grind (arith, rest_shorter text, front_shorter text)

pub long_seen : {line seen cut : List ℕ} → cut ≡ without_cr seen → seen ≡ line → 4096 < length cut → 4096 < length (without_cr line)
long_seen cut_is seen_is long = subst (λ (l : List ℕ). 4096 < length (without_cr l)) seen_is (subst (λ (l : List ℕ). 4096 < length l) cut_is long)

pub short_seen : {line seen cut : List ℕ} → cut ≡ without_cr seen → seen ≡ line → length cut ≤ 4096 → length (without_cr line) ≤ 4096
short_seen cut_is seen_is short = subst (λ (l : List ℕ). length (without_cr l) ≤ 4096) seen_is (subst (λ (l : List ℕ). length l ≤ 4096) cut_is short)

pub short_rest : (line : List ℕ) {rest : List ℕ} → rest ≡ rest_of (trimmed line) → length (without_cr line) ≤ 4096 → length rest ≤ 65536
short_rest line {rest} e short =
    let front = after_blanks (without_cr line) in
    omega (arith, ap length e, rest_shorter (trimmed line), length-reverse (after_blanks (reverse front)), front_shorter (reverse front), length-reverse front, front_shorter (without_cr line))

pub next_of_line : (input : List ℕ) → has_line input ≡ true → next input ≡ line_spells (line_of input) (after_line input)
unfolding next
next_of_line input has = rw has refl

line_long : (line rest : List ℕ) → 4096 < length (without_cr line) → line_spells line rest ≡ (Spelling (Faulty fault.LineTooLong), rest)
unfolding line_spells
line_long line rest long = let t : nat_lt 4096 (length (without_cr line)) ≡ true = grind (arith, common_steps) in rw t refl

pub line_parsed : (line rest : List ℕ) → length (without_cr line) ≤ 4096 → line_spells line rest ≡ parsed_spells (parsed_of (word_of (trimmed line)) (rest_of (trimmed line))) (rest_of (trimmed line)) rest
unfolding line_spells
line_parsed line rest short = let t : nat_lt 4096 (length (without_cr line)) ≡ false = grind (arith, common_steps) in rw t refl

pub spells_long : {C : List ℕ → Type 0} {input : List ℕ} → has_line input ≡ true → 4096 < length (without_cr (line_of input)) → C (after_line input) → SpellsFirst next (Spelling (Faulty fault.LineTooLong)) C input
spells_long {C} {input} has long told = record { rest = after_line input; is = next_of_line input has ∙ line_long (line_of input) (after_line input) long; told = λ _. told }

pub spells_line : {C : List ℕ → Type 0} {input : List ℕ} {step : Received} (line : List ℕ) (parsed : ParsedLine) (text : List ℕ) → has_line input ≡ true → line ≡ line_of input → length (without_cr line) ≤ 4096 → parsed ≡ parsed_of (word_of (trimmed line)) (rest_of (trimmed line)) → text ≡ rest_of (trimmed line) → SpellsFirst (parsed_spells parsed text) step C (after_line input) → SpellsFirst next step C input
spells_line {C} {input} {step} line parsed text has same short parse texts first = record {
  rest = first.rest;
  is = next_of_line input has ∙ (ap (λ l. line_spells l (after_line input)) (sym same) ∙ (line_parsed line (after_line input) short ∙ (ap (λ o. parsed_spells o (rest_of (trimmed line)) (after_line input)) (sym parse) ∙ (ap (λ t. parsed_spells parsed t (after_line input)) (sym texts) ∙ first.is))));
  told = first.told;
}

next_cut : (input : List ℕ) → has_line input ≡ false → (input ≡ [] → ⊥) → next input ≡ (Ending ended.Cut, [])
unfolding next
next_cut [] has some = absurd (some refl)
next_cut (b ∷ input) has some = rw has refl

pub spells_cut_line : {C : List ℕ → Type 0} {input : List ℕ} → has_line input ≡ false → (input ≡ [] → ⊥) → SpellsFirst next (Ending ended.Cut) C input
spells_cut_line {C} {input} has some = record { rest = []; is = next_cut input has some; told = λ e. absurd (false≢true e) }

pub spells_end : {C : List ℕ → Type 0} {input : List ℕ} → input ≡ [] → SpellsFirst next (Ending ended.End) C input
unfolding next
spells_end {C} {input} none = record { rest = []; is = ap next none; told = λ e. absurd (false≢true e) }

-- A text spells one list of things, and each text does.

step_once : {p : Received × List ℕ} {a b : Received} {x y : List ℕ} → p ≡ (a, x) → p ≡ (b, y) → a ≡ b
step_once e f = sym (ap (λ p. p.0) e) ∙ ap (λ p. p.0) f

rest_once : {p : Received × List ℕ} {a b : Received} {x y : List ℕ} → p ≡ (a, x) → p ≡ (b, y) → x ≡ y
rest_once e f = sym (ap (λ p. p.1) e) ∙ ap (λ p. p.1) f

reads_once : (input : List ℕ) (spelled others : List Spelled) (rest last behind after : List ℕ) (how other : Ended) → Reads input spelled rest → next rest ≡ (Ending how, behind) → Reads input others last → next last ≡ (Ending other, after) → (spelled ≡ others) × (how ≡ other)
reads_once input [] [] rest last behind after how other r e s f =
    let a : next input ≡ (Ending how, behind) = ap next (sym r) ∙ e in
    let b : next input ≡ (Ending other, after) = ap next (sym s) ∙ f in
    let same : Ending how ≡ Ending other = step_once a b in
    (refl, cc)
reads_once input [] (o ∷ others) rest last behind after how other r e s f =
    let a : next input ≡ (Ending how, behind) = ap next (sym r) ∙ e in
    let same : Ending how ≡ Spelling o = step_once a s.1 in
    cc
reads_once input (o ∷ spelled) [] rest last behind after how other r e s f =
    let a : next input ≡ (Ending other, after) = ap next (sym s) ∙ f in
    let same : Ending other ≡ Spelling o = step_once a r.1 in
    cc
reads_once input (o ∷ spelled) (p ∷ others) rest last behind after how other r e s f =
    let tail : r.0 ≡ s.0 = rest_once r.1 s.1 in
    let same : Spelling o ≡ Spelling p = step_once r.1 s.1 in
    let first : o ≡ p = cc in
    let i = reads_once s.0 spelled others rest last behind after how other (subst (λ (t : List ℕ). Reads t spelled rest) tail r.2) e s.2 f in
    let more : spelled ≡ others = i.0 in
    (cc, i.1)

pub spells_once : (input : List ℕ) (spelled others : List Spelled) (how other : Ended) → Spells input spelled how → Spells input others other → (spelled ≡ others) × (how ≡ other)
spells_once input spelled others how other a b = reads_once input spelled others a.rest b.rest a.after b.after how other a.reads a.ends b.reads b.ends

-- each text does

pair_shorter : (b : Bool) (rest : List ℕ) (p q : Received × List ℕ) → length p.1 ≤ length rest → length q.1 ≤ length rest → length (if b then p else q).1 ≤ length rest
pair_shorter true rest p q h k = h
pair_shorter false rest p q h k = k

parsed_shorter : (o : ParsedLine) (text rest : List ℕ) → length (parsed_spells o text rest).1 ≤ length rest
parsed_shorter (lines.Load count) text rest = pair_shorter (nat_lt (length rest) count) rest (Ending ended.Cut, []) (Spelling (if nat_lt 65536 count then Faulty too_long else Right (Load (take count rest))), drop count rest) (omega arith) (omega (arith, length-drop count rest))
parsed_shorter other text rest = omega arith

line_shorter : (line rest : List ℕ) → length (line_spells line rest).1 ≤ length rest
unfolding line_spells
line_shorter line rest = pair_shorter (nat_lt 4096 (length (without_cr line))) rest (Spelling (Faulty fault.LineTooLong), rest) (parsed_spells (parsed_of (word_of (trimmed line)) (rest_of (trimmed line))) (rest_of (trimmed line)) rest) (omega arith) (parsed_shorter (parsed_of (word_of (trimmed line)) (rest_of (trimmed line))) (rest_of (trimmed line)) rest)

after_shorter : (input : List ℕ) → has_line input ≡ true → length (after_line input) < length input
after_shorter [] has = absurd (search (arith, has))
after_shorter (b ∷ input) has = grind (arith, common_steps, after_shorter input)

next_in : (b : Bool) (input : List ℕ) (one : Spelled) (tail : List ℕ) → has_line input ≡ b → next input ≡ (Spelling one, tail) → length tail < length input
unfolding next
next_in true input one tail has e =
    let f : line_spells (line_of input) (after_line input) ≡ (Spelling one, tail) = rw has at e in
    omega (arith, ap (λ p. length p.1) f, line_shorter (line_of input) (after_line input), after_shorter input has)
next_in false input one tail has e =
    let f : next input ≡ (Ending (end_of input), []) = rw has refl in
    let g : Ending (end_of input) ≡ Spelling one = step_once f e in
    absurd cc

spelled_by : (n : ℕ) (input : List ℕ) → length input < suc n → ((tail : List ℕ) → length tail < n → (spelled : List Spelled) × (how : Ended) × Spells tail spelled how) → (s : Received) (tail : List ℕ) → next input ≡ (s, tail) → (spelled : List Spelled) × (how : Ended) × Spells input spelled how
spelled_by n input short more (Ending how) tail e = ([], how, record { rest = input; after = tail; reads = refl; ends = e })
spelled_by n input short more (Spelling one) tail e =
    let i = more tail (omega (arith, next_in (has_line input) input one tail refl e)) in
    (one ∷ i.0, i.1, record { rest = i.2.rest; after = i.2.after; reads = (tail, e, i.2.reads); ends = i.2.ends })

spelled_in : (n : ℕ) (input : List ℕ) → length input < n → (spelled : List Spelled) × (how : Ended) × Spells input spelled how
spelled_in zero input short = absurd (omega arith)
spelled_in (suc n) input short = spelled_by n input short (λ tail h. spelled_in n tail h) (next input).0 (next input).1 refl

pub each_spelled : (input : List ℕ) → (spelled : List Spelled) × (how : Ended) × Spells input spelled how
each_spelled input = spelled_in (length input + 1) input (omega arith)
