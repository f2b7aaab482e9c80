-- The lines that are counted before a text, once a further text comes.
use Rattle.std.proofs.Common.{◌≡◌, ℕ, ◌⊎◌, List, [], ◌∷◌, ◌++◌, None, Some, refl, sym, subst, ap, ◌∙◌}
use Rattle.chr_commands.specs.declared.message.Source.{Source}
use Rattle.chr_commands.specs.Parts.{counted_after, CountFrom}

-- the lines counted before what comes after some texts
abbrev pub counted_all : ℕ → List Source → ℕ
counted_all before [] = before
counted_all before (source ∷ more) =
    counted_all (counted_after before source.text source.bytes.now) more

counted_all-append : (before : ℕ) (xs : List Source) (source : Source) →
    counted_all before (xs ++ source ∷ []) ≡
    counted_after (counted_all before xs) source.text source.bytes.now
counted_all-append before [] source = refl
counted_all-append before (x ∷ xs) source =
    counted_all-append (counted_after before x.text x.bytes.now) xs source

count-append : (before : ℕ) (xs : List Source) (source : Source) → CountFrom before xs →
    ((source.part ≡ None) ⊎ (source.part ≡ Some (counted_all before xs))) →
    CountFrom before (xs ++ source ∷ [])
count-append before [] source counts h = (h, tt)
count-append before (x ∷ xs) source counts h =
    (counts.0, count-append (counted_after before x.text x.bytes.now) xs source counts.1 h)

pub counted-more : (xs ys : List Source) (source : Source) (before after : ℕ) →
    ys ≡ xs ++ source ∷ [] → before ≡ counted_all 0 xs →
    after ≡ counted_after before source.text source.bytes.now → after ≡ counted_all 0 ys
counted-more xs ys source before after pushed counted e =
    e ∙ ap (λ n. counted_after n source.text source.bytes.now) counted ∙
    sym (counted_all-append 0 xs source) ∙ ap (λ zs. counted_all 0 zs) (sym pushed)

pub count-more : (xs ys : List Source) (source : Source) (before : ℕ) →
    ys ≡ xs ++ source ∷ [] → before ≡ counted_all 0 xs →
    ((source.part ≡ None) ⊎ (source.part ≡ Some before)) → CountFrom 0 xs → CountFrom 0 ys
count-more xs ys source before pushed counted part counts =
    subst (λ zs. CountFrom 0 zs) (sym pushed)
    (count-append 0 xs source counts
    (subst (λ n. (source.part ≡ None) ⊎ (source.part ≡ Some n)) counted part))
