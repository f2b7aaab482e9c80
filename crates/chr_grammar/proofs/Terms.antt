-- What is read as a term or an atom is spelled so, and what is spelled so is read.
use Rattle.std.proofs.Common.{◌≡◌, ◌≤◌, ◌<◌, ℕ, zero, suc, ◌+◌, ◌-◌, Bool, true, false, List, [], ◌∷◌, ◌++◌, length, length-append, drop, refl, sym, ap, ◌∙◌, subst, arith, append_assoc, ltb, Ok, Err}
use Rattle.std.proofs.lemmas.Bool.{cond_both, and_right, ltb-true, ltb-false, lt-ltb, le-ltb}
use Rattle.chr_value.proofs.Chosen.{both}
use Rattle.chr_lex.specs.declared.fault.Kind.{Kind}
use Rattle.chr_lex.specs.declared.fault.Kind.TheVariants.{Syntax}
use Rattle.chr_lex.specs.declared.mark.Mark.TheVariants.{Open, Close, Comma}
use Rattle.chr_lex.specs.Tokens.{Word, Lexeme, OfWord, OfMark, Name}
use Rattle.chr_grammar.specs.Parsed.{TermNode, ParsedTerm, is_name, ParsedAtom}
use Rattle.chr_grammar.specs.Parsing.{Front, is_mark, next_at, is_functor, behind_word_at, with_node, nodes_at, term_at, several_at, enclosed, terms_at, args_at, phrase_at, phrases_of}
use Rattle.chr_grammar.specs.Spelling.{closings, between, nodes_spelled, term_spelled, MayFollow, AreNodes, IsParsedTerm, EndsTerm, by_commas, further, arguments, phrase_spelled, IsUnreserved, IsParsedAtom, AreParsedAtoms}
use Rattle.chr_grammar.proofs.Fronts.{IfRead, then_read, also_read, FrontRead, mark_is, AreSeveral, Again, Ends, several_found, several_again, no_more, list_says, list_read, list_refused}
use Rattle.std.specs.List.{AllByRecursion}
use Rattle.chr_value.specs.Spelling.{is_reserved}
use Rattle.chr_lex.specs.Reading.{◌>>=◌}

-- ---- what is read is spelled so

-- what is read behind an argument in so many parentheses
abbrev NextIs : ℕ → List Lexeme → ℕ → List Lexeme → Type 0
NextIs d ts zero r = ts ≡ closings d ++ r
NextIs d ts (suc e) r = (suc e ≤ d) × (ts ≡ closings (d - suc e) ++ (OfMark Comma ∷ r))

abbrev NextRead : ℕ → List Lexeme → Front ℕ → Type 0
NextRead d ts = IfRead (λ (x : ℕ × List Lexeme). NextIs d ts x.0 x.1)

next_closed : (d e : ℕ) (ts r : List Lexeme) → NextIs d ts e r → NextIs (suc d) (OfMark Close ∷ ts) e r
next_closed d zero ts r h = ap (λ (x : List Lexeme). OfMark Close ∷ x) h
next_closed d (suc e) ts r h =
    let one : suc d - suc e ≡ suc (d - suc e) = omega (arith, h.0) in
    (omega (arith, h.0), ap (λ (x : List Lexeme). OfMark Close ∷ x) h.1 ∙ ap (λ (k : ℕ). closings k ++ (OfMark Comma ∷ r)) (sym one))

next_found : (d : ℕ) (ts : List Lexeme) → NextRead d ts (next_at d ts)
next_found zero ts = refl
next_found (suc d) [] = refl
next_found (suc d) (s ∷ ts) =
    cond_both (is_mark Comma s) _ _ (NextRead (suc d) (s ∷ ts))
    (λ h. let none : suc d - suc d ≡ 0 = omega arith in (omega arith, rw (none, mark_is Comma s h) refl))
    (λ h. cond_both (is_mark Close s) _ _ (NextRead (suc d) (s ∷ ts))
    (λ k. subst (λ (s : Lexeme). NextRead (suc d) (s ∷ ts) (next_at d ts)) (sym (mark_is Close s k)) (also_read _ _ (next_at d ts) (next_found d ts) (λ x n. next_closed d x.0 ts x.1 n)))
    (λ k. refl))

-- what is read behind a word
abbrev BehindIs : TermNode → List Lexeme → ℕ → List Lexeme → Type 0
BehindIs n ts zero r = ts ≡ closings n.depth ++ r
BehindIs n ts (suc e) r = (suc e ≤ suc n.depth) × (n.depth < suc e → is_name n.word ≡ true) × (ts ≡ between n.depth (suc e) ++ r)

abbrev BehindRead : TermNode → List Lexeme → Front ℕ → Type 0
BehindRead n ts = IfRead (λ (x : ℕ × List Lexeme). BehindIs n ts x.0 x.1)

turned : (d e : ℕ) (r : List Lexeme) → e ≤ d → between d e ++ r ≡ closings (d - e) ++ (OfMark Comma ∷ r)
turned d e r h =
    let back : between d e ≡ closings (d - e) ++ OfMark Comma ∷ [] = rw (le-ltb d e h) refl in
    ap (λ (x : List Lexeme). x ++ r) back ∙ append_assoc (closings (d - e)) (OfMark Comma ∷ []) r

opened : (d e : ℕ) (r : List Lexeme) → d < e → between d e ++ r ≡ OfMark Open ∷ r
opened d e r h =
    let deeper : between d e ≡ OfMark Open ∷ [] = rw (lt-ltb d e h) refl in
    ap (λ (x : List Lexeme). x ++ r) deeper

not_deeper : (n : TermNode) (ts : List Lexeme) (e : ℕ) (r : List Lexeme) → NextIs n.depth ts e r → BehindIs n ts e r
not_deeper n ts zero r h = h
not_deeper n ts (suc e) r h =
    (omega (arith, h.0), (λ k. absurd (omega (arith, k, h.0))), h.1 ∙ sym (turned n.depth (suc e) r h.0))

deeper : (n : TermNode) (ts : List Lexeme) → is_functor n.word ts ≡ true → BehindIs n ts (suc n.depth) (drop 1 ts)
deeper n [] h = absurd cc
deeper n (s ∷ ts) h =
    let b = both (is_name n.word) (is_mark Open s) h in
    (omega arith, (λ k. b.0), ap (λ (s : Lexeme). s ∷ ts) (mark_is Open s b.1) ∙ sym (opened n.depth (suc n.depth) ts (omega arith)))

behind_found : (n : TermNode) (ts : List Lexeme) → BehindRead n ts (behind_word_at n.word n.depth ts)
behind_found n ts =
    cond_both (is_functor n.word ts) _ _ (BehindRead n ts) (deeper n ts)
    (λ h. also_read _ _ (next_at n.depth ts) (next_found n.depth ts) (λ x k. not_deeper n ts x.0 x.1 k))

-- what is read as an argument in so many parentheses with what follows it
abbrev NodesAre : ℕ → List Lexeme → ParsedTerm → List Lexeme → Type 0
NodesAre d ts [] r = ⊥
NodesAre d ts (n ∷ ns) r = (n.depth ≡ d) × AreNodes n ns × (ts ≡ OfWord n.word ∷ (nodes_spelled n.depth ns ++ r))

abbrev NodesRead : ℕ → List Lexeme → Front ParsedTerm → Type 0
NodesRead d ts = IfRead (λ (x : ParsedTerm × List Lexeme). NodesAre d ts x.0 x.1)

one_more : (n : TermNode) (ts us : List Lexeme) (e : ℕ) (ns : ParsedTerm) (r : List Lexeme) → BehindIs n ts (suc e) us → NodesAre (suc e) us ns r → NodesAre n.depth (OfWord n.word ∷ ts) (n ∷ ns) r
one_more n ts us e [] r h k = absurd k
one_more n ts us e (m ∷ ns) r h k =
    let follows : MayFollow n m = record { inside = omega (arith, k.0); stepwise = omega (arith, k.0, h.0); functor = λ l. h.1 (omega (arith, l, k.0)) } in
    let there : ts ≡ between n.depth m.depth ++ us = h.2 ∙ ap (λ (e : ℕ). between n.depth e ++ us) (sym k.0) in
    let all : ts ≡ (between n.depth m.depth ++ OfWord m.word ∷ nodes_spelled m.depth ns) ++ r =
    there ∙ ap (λ (x : List Lexeme). between n.depth m.depth ++ x) k.2 ∙ sym (append_assoc (between n.depth m.depth) (OfWord m.word ∷ nodes_spelled m.depth ns) r) in
    (refl, (follows, k.1), ap (λ (x : List Lexeme). OfWord n.word ∷ x) all)

with_found : (n : TermNode) (ts us : List Lexeme) (e : ℕ) (others : Front ParsedTerm) → BehindIs n ts e us → NodesRead e us others → NodesRead n.depth (OfWord n.word ∷ ts) (with_node n e us others)
with_found n ts us zero others h k = (refl, tt, ap (λ (x : List Lexeme). OfWord n.word ∷ x) h)
with_found n ts us (suc e) others h k = then_read _ _ others _ k (λ x j. one_more n ts us e x.0 x.1 h j)

nodes_found : (n d : ℕ) (ts : List Lexeme) → NodesRead d ts (nodes_at n d ts)
nodes_found zero d ts = refl
nodes_found (suc n) d [] = refl
nodes_found (suc n) d (OfMark m ∷ ts) = refl
nodes_found (suc n) d (OfWord w ∷ ts) =
    let node : TermNode = record { depth = d; word = w } in
    then_read _ _ (behind_word_at w d ts) _ (behind_found node ts) (λ x h. with_found node ts x.1 x.0 (nodes_at n x.0 x.1) h (nodes_found n x.0 x.1))

abbrev pub TermRead : List Lexeme → Front ParsedTerm → Type 0
TermRead = FrontRead IsParsedTerm term_spelled

term_is : (ts : List Lexeme) (t : ParsedTerm) (r : List Lexeme) → NodesAre 0 ts t r → IsParsedTerm t × (ts ≡ term_spelled t ++ r)
term_is ts [] r h = absurd h
term_is ts (n ∷ ns) r h = ((h.0, h.1), h.2)

pub term_found : (ts : List Lexeme) → TermRead ts (term_at ts)
term_found ts = also_read _ _ (term_at ts) (nodes_found (length ts) 0 ts) (λ x h. term_is ts x.0 x.1 h)

-- ---- what is spelled so is read

-- no opening parenthesis stands in front
abbrev pub Shut : List Lexeme → Type 0
Shut [] = Unit {0}
Shut (s ∷ ts) = is_mark Open s ≡ false

pub ends_shut : (ts : List Lexeme) → EndsTerm ts → Shut ts
ends_shut [] h = tt
ends_shut (OfMark Open ∷ ts) h = absurd (h refl)
ends_shut (s ∷ ts) h = refl

no_functor : (w : Word) (ts : List Lexeme) → Shut ts → is_functor w ts ≡ false
no_functor w [] h = refl
no_functor w (s ∷ ts) h = and_right (is_name w) (is_mark Open s) h

pub behind_shut : (w : Word) (d : ℕ) (ts : List Lexeme) → Shut ts → behind_word_at w d ts ≡ next_at d ts
behind_shut w d ts h = rw (no_functor w ts h) refl

closed_again : (d : ℕ) (rest : List Lexeme) → next_at d (closings d ++ rest) ≡ Ok (0, rest)
closed_again zero rest = refl
closed_again (suc d) rest = closed_again d rest

turn_again : (k d e : ℕ) (rest : List Lexeme) → d ≡ k + suc e → next_at d (closings k ++ (OfMark Comma ∷ rest)) ≡ Ok (suc e, rest)
turn_again k zero e rest h = absurd (omega (arith, h))
turn_again zero (suc d) e rest h = ap (λ (k : ℕ). Ok (k, rest)) (omega (arith, h))
turn_again (suc k) (suc d) e rest h = turn_again k d e rest (omega (arith, h))

shut_closings : (k : ℕ) (rest : List Lexeme) → Shut rest → Shut (closings k ++ rest)
shut_closings zero rest h = h
shut_closings (suc k) rest h = refl

back_again : (w : Word) (d e : ℕ) (rest : List Lexeme) → 0 < e → e ≤ d → behind_word_at w d (between d e ++ rest) ≡ Ok (e, rest)
back_again w d zero rest some h = absurd (omega (arith, some))
back_again w d (suc e) rest some h =
    ap (behind_word_at w d) (turned d (suc e) rest h)
    ∙ behind_shut w d (closings (d - suc e) ++ (OfMark Comma ∷ rest)) (shut_closings (d - suc e) (OfMark Comma ∷ rest) refl)
    ∙ turn_again (d - suc e) d e rest (omega (arith, h))

next_again : (w : Word) (d e : ℕ) (rest : List Lexeme) (b : Bool) → ltb d e ≡ b → 0 < e → e ≤ suc d → (d < e → is_name w ≡ true) → behind_word_at w d (between d e ++ rest) ≡ Ok (e, rest)
next_again w d e rest true is some most name =
    let more : d < e = ltb-true d e is in
    let same : suc d ≡ e = omega arith in
    ap (behind_word_at w d) (opened d e rest more) ∙ rw (name more, same) refl
next_again w d e rest false is some most name = back_again w d e rest some (ltb-false d e is)

with_again : (n : TermNode) (e : ℕ) (r : List Lexeme) (t : ParsedTerm) (rest : List Lexeme) → 0 < e → with_node n e r (Ok (t, rest)) ≡ Ok (n ∷ t, rest)
with_again n zero r t rest h = absurd (omega (arith, h))
with_again n (suc e) r t rest h = refl

nodes_again : (ns : List TermNode) (n : TermNode) (k : ℕ) (rest : List Lexeme) → AreNodes n ns → length ns < k → Shut rest → nodes_at k n.depth (OfWord n.word ∷ (nodes_spelled n.depth ns ++ rest)) ≡ Ok (n ∷ ns, rest)
nodes_again ns n zero rest are few shut = absurd (omega (arith, few))
nodes_again [] n (suc k) rest are few shut =
    let one : behind_word_at n.word n.depth (closings n.depth ++ rest) ≡ Ok (0, rest) = behind_shut n.word n.depth (closings n.depth ++ rest) (shut_closings n.depth rest shut) ∙ closed_again n.depth rest in
    rw one refl
nodes_again (m ∷ ns) n (suc k) rest are few shut =
    let follows = are.0 in
    let behind = OfWord m.word ∷ (nodes_spelled m.depth ns ++ rest) in
    let split : (between n.depth m.depth ++ OfWord m.word ∷ nodes_spelled m.depth ns) ++ rest ≡ between n.depth m.depth ++ behind = append_assoc (between n.depth m.depth) (OfWord m.word ∷ nodes_spelled m.depth ns) rest in
    let one : behind_word_at n.word n.depth (between n.depth m.depth ++ behind) ≡ Ok (m.depth, behind) =
    next_again n.word n.depth m.depth behind (ltb n.depth m.depth) refl follows.inside follows.stepwise follows.functor in
    let two : nodes_at k m.depth behind ≡ Ok (m ∷ ns, rest) = nodes_again ns m k rest are.1 (omega (arith, few)) shut in
    let first : nodes_at (suc k) n.depth (OfWord n.word ∷ (between n.depth m.depth ++ behind)) ≡ with_node n m.depth behind (nodes_at k m.depth behind) = rw one refl in
    ap (λ (x : List Lexeme). nodes_at (suc k) n.depth (OfWord n.word ∷ x)) split ∙ first ∙ ap (with_node n m.depth behind) two ∙ with_again n m.depth behind (m ∷ ns) rest follows.inside

nodes_few : (d : ℕ) (ns : List TermNode) → length ns ≤ length (nodes_spelled d ns)
nodes_few d [] = omega arith
nodes_few d (n ∷ ns) =
    let h = nodes_few n.depth ns in
    omega (arith, h, length-append (between d n.depth) (OfWord n.word ∷ nodes_spelled n.depth ns))

pub term_again : (t : ParsedTerm) (rest : List Lexeme) → IsParsedTerm t → Shut rest → term_at (term_spelled t ++ rest) ≡ Ok (t, rest)
term_again [] rest stands shut = absurd stands
term_again (n ∷ ns) rest stands shut =
    let few = nodes_few n.depth ns in
    let longer = length-append (nodes_spelled n.depth ns) rest in
    let all = length (term_spelled (n ∷ ns) ++ rest) in
    let some : length ns < all = omega (arith, few, longer) in
    subst (λ (d : ℕ). nodes_at all d (OfWord n.word ∷ (nodes_spelled n.depth ns ++ rest)) ≡ Ok (n ∷ ns, rest)) stands.0 (nodes_again ns n all rest stands.1 some shut)

pub term_some : (t : ParsedTerm) → IsParsedTerm t → 0 < length (term_spelled t)
term_some [] stands = absurd stands
term_some (n ∷ ns) stands = omega arith

-- ---- the forms of terms

pub term_says : (ts rest : List Lexeme) (t : ParsedTerm) → term_at ts ≡ Ok (t, rest) → IsParsedTerm t × (ts ≡ term_spelled t ++ rest)
term_says ts rest t h = subst (TermRead ts) h (term_found ts)

pub term_reads : (t : ParsedTerm) (rest : List Lexeme) → IsParsedTerm t → EndsTerm rest → term_at (term_spelled t ++ rest) ≡ Ok (t, rest)
term_reads t rest stands ends = term_again t rest stands (ends_shut rest ends)

pub no_term : (ts : List Lexeme) (k : Kind) → term_at ts ≡ Err k → (k ≡ Syntax) × ((t : ParsedTerm) (rest : List Lexeme) → IsParsedTerm t → EndsTerm rest → ts ≡ term_spelled t ++ rest → ⊥)
no_term ts k h = (subst (TermRead ts) h (term_found ts), λ t rest stands ends at. let x = ap term_at (sym at) ∙ h in let y = term_reads t rest stands ends in cc)

abbrev TermsTaken : List Lexeme → List ParsedTerm → List Lexeme → Type 0
TermsTaken ts [] rest = ⊥
TermsTaken ts (t ∷ us) rest = AllByRecursion IsParsedTerm (t ∷ us) × (ts ≡ term_spelled t ++ (further us ++ rest))

abbrev TermsRead : List Lexeme → Front (List ParsedTerm) → Type 0
TermsRead ts = IfRead (λ (x : List ParsedTerm × List Lexeme). TermsTaken ts x.0 x.1)

-- terms by commas before a closing parenthesis are the first one and the further ones
joined : (t : ParsedTerm) (us : List ParsedTerm) (rest : List Lexeme) → by_commas term_spelled (t ∷ us) ++ (OfMark Close ∷ rest) ≡ term_spelled t ++ (further us ++ rest)
joined t [] rest = refl
joined t (u ∷ us) rest =
    append_assoc (term_spelled t) (OfMark Comma ∷ by_commas term_spelled (u ∷ us)) (OfMark Close ∷ rest)
    ∙ ap (λ (x : List Lexeme). term_spelled t ++ (OfMark Comma ∷ x)) (joined u us rest ∙ sym (append_assoc (term_spelled u) (further us) rest))

enclosed_found : (ts : List Lexeme) (us : List ParsedTerm) (rest : List Lexeme) → AreSeveral IsParsedTerm term_spelled ts us rest → TermsRead ts (enclosed us rest)
enclosed_found ts us [] h = refl
enclosed_found ts [] (s ∷ rest) h = absurd (omega (arith, h.some))
enclosed_found ts (t ∷ us) (s ∷ rest) h =
    cond_both (is_mark Close s) _ _ (TermsRead ts)
    (λ c. (h.each, h.written ∙ ap (λ (s : Lexeme). by_commas term_spelled (t ∷ us) ++ (s ∷ rest)) (mark_is Close s c) ∙ joined t us rest))
    (λ c. refl)

terms_found : (ts : List Lexeme) → TermsRead ts (terms_at ts)
terms_found ts = then_read _ _ (several_at term_at ts) _ (several_found IsParsedTerm term_spelled term_at term_found ts) (λ x h. enclosed_found ts x.0 x.1 h)

abbrev pub PhraseRead : List Lexeme → Front ParsedAtom → Type 0
PhraseRead = FrontRead IsParsedAtom phrase_spelled

args_some : (name : List ℕ) (ts : List Lexeme) (us : List ParsedTerm) (rest : List Lexeme) → TermsTaken ts us rest
    → IsParsedAtom (record { name = name; args = us }) × (OfWord (Name name) ∷ OfMark Open ∷ ts ≡ OfWord (Name name) ∷ (arguments us ++ rest))
args_some name ts [] rest h = absurd h
args_some name ts (t ∷ us) rest h =
    (record { unreserved = tt; terms = h.0 }, ap (λ (x : List Lexeme). OfWord (Name name) ∷ OfMark Open ∷ x) (h.1 ∙ sym (append_assoc (term_spelled t) (further us) rest)))

args_found : (name : List ℕ) (ts : List Lexeme) → PhraseRead (OfWord (Name name) ∷ ts) (args_at name ts)
args_found name [] = cond_both (is_reserved name) _ _ (PhraseRead (OfWord (Name name) ∷ [])) (λ h. refl) (λ h. (record { unreserved = h; terms = tt }, refl))
args_found name (s ∷ ts) =
    cond_both (is_mark Open s) _ _ (PhraseRead (OfWord (Name name) ∷ s ∷ ts))
    (λ h. subst (λ (s : Lexeme). PhraseRead (OfWord (Name name) ∷ s ∷ ts) (terms_at ts >>= λ x. Ok (record { name = name; args = x.0 }, x.1))) (sym (mark_is Open s h)) (then_read _ _ (terms_at ts) _ (terms_found ts) (λ x k. args_some name ts x.0 x.1 k)))
    (λ h. cond_both (is_reserved name) _ _ (PhraseRead (OfWord (Name name) ∷ s ∷ ts)) (λ k. refl) (λ k. (record { unreserved = k; terms = tt }, refl)))

pub phrase_found : (ts : List Lexeme) → PhraseRead ts (phrase_at ts)
phrase_found (OfWord (Name name) ∷ ts) = args_found name ts
phrase_found _ = refl

-- ---- what is spelled so is read

terms_again : (t : ParsedTerm) (us : List ParsedTerm) (rest : List Lexeme) → AllByRecursion IsParsedTerm (t ∷ us) → terms_at ((term_spelled t ++ further us) ++ rest) ≡ Ok (t ∷ us, rest)
terms_again t us rest each =
    let at : (term_spelled t ++ further us) ++ rest ≡ by_commas term_spelled (t ∷ us) ++ (OfMark Close ∷ rest) = append_assoc (term_spelled t) (further us) rest ∙ sym (joined t us rest) in
    let read : several_at term_at (by_commas term_spelled (t ∷ us) ++ (OfMark Close ∷ rest)) ≡ Ok (t ∷ us, OfMark Close ∷ rest) =
    several_again Shut IsParsedTerm term_spelled term_at term_again (λ ts. refl) (t ∷ us) (OfMark Close ∷ rest) (omega arith) (no_more IsParsedTerm term_spelled term_some (t ∷ us) each) each refl refl in
    ap terms_at at ∙ rw read refl

args_again : (name : List ℕ) (us : List ParsedTerm) (rest : List Lexeme) → IsUnreserved name us → AllByRecursion IsParsedTerm us → Ends rest → args_at name (arguments us ++ rest) ≡ Ok (record { name = name; args = us }, rest)
args_again name [] [] stands each ends = rw stands refl
args_again name [] (s ∷ ts) stands each ends = rw (ends, stands) refl
args_again name (t ∷ us) rest stands each ends = rw (terms_again t us rest each) refl

pub phrase_again : Again IsParsedAtom phrase_spelled phrase_at
phrase_again p rest stands ends = args_again p.name p.args rest stands.unreserved stands.terms ends

pub phrase_some : (p : ParsedAtom) → IsParsedAtom p → 0 < length (phrase_spelled p)
phrase_some p stands = omega arith

pub are_phrases : (ts : List Lexeme) (ps : List ParsedAtom) → phrases_of ts ≡ Ok ps → AreParsedAtoms ts ps
are_phrases = list_says IsParsedAtom phrase_spelled phrase_at phrase_found

pub phrases_read : (ts : List Lexeme) (ps : List ParsedAtom) → AreParsedAtoms ts ps → phrases_of ts ≡ Ok ps
phrases_read = list_read IsParsedAtom phrase_spelled phrase_some phrase_at phrase_again

pub no_phrases : (ts : List Lexeme) (k : Kind) → phrases_of ts ≡ Err k → (k ≡ Syntax) × ((ps : List ParsedAtom) → AreParsedAtoms ts ps → ⊥)
no_phrases = list_refused IsParsedAtom phrase_spelled phrase_some phrase_at phrase_found phrase_again
