-- What is read as posts is written so and may be posted, and the other way round.
use Rattle.std.proofs.Common.{◌≡◌, ◌↔◌, ℕ, List, [], ◌++◌, map, Some, Ok, sym, ap}
use Rattle.chr_lex.specs.Items.{Item}
use Rattle.chr_lex.specs.Reading.{◌>>=◌}
use Rattle.chr_value.specs.Naming.{Table, numbered_atom}
use Rattle.chr_value.proofs.Chosen.{bind_some, some_is}
use Rattle.chr_grammar.specs.Parsing.{phrases_of}
use Rattle.chr_grammar.proofs.Terms.{are_phrases, phrases_read}
use Rattle.chr_limits.specs.Judging.{post_judged}
use Rattle.chr_limits.proofs.Standing as standing
use Rattle.chr_text.specs.Translation.{atom_by_texts}
use Rattle.chr_text.specs.Numbering.{or_full, each, more}
use Rattle.chr_text.specs.Reading.{Posts, item_lexemes, with_phrases, with_post, posts_of}
use Rattle.chr_text.specs.Forms.{AddsAtoms, ArePosts}
use Rattle.chr_text.proofs.Texts.{bind_ok, is_item, item_read, is_text}
use Rattle.chr_text.proofs.Lists.{numbered_is}

adds_atoms : (p : Posts) (e : Item) (q : Posts) → with_post p e ≡ Ok q → AddsAtoms p e q
adds_atoms p e q h =
    let s = bind_ok (item_lexemes e >>= phrases_of) (with_phrases p) q h in
    let t = bind_ok (item_lexemes e) phrases_of s.0 s.1 in
    let judged = bind_ok (post_judged s.0) (λ judged. or_full (more p.0 (each numbered_atom p.1 (map atom_by_texts s.0)))) q s.2 in
    let all = numbered_is (more p.0 (each numbered_atom p.1 (map atom_by_texts s.0))) q judged.2 in
    let x = bind_some (each numbered_atom p.1 (map atom_by_texts s.0)) (λ x. Some (p.0 ++ x.0, x.1)) q all in
    record { tokens = t.0; atoms = s.0; item = is_item e t.0 t.1; are = are_phrases t.0 s.0 t.2; may = standing.posted s.0 judged.1; new = x.0.0; table = x.0.1; numbered = x.1; added = sym (some_is _ q x.2) }

pub steps : (p : Posts) (e : Item) (q : Posts) → with_post p e ≡ Ok q ↔ AddsAtoms p e q
steps p e q = (adds_atoms p e q, λ a. rw (item_read e a.tokens a.item, phrases_read a.tokens a.atoms a.are, standing.posts a.atoms a.may, a.numbered) (ap Ok (sym a.added)))

pub are_posts : (table : Table) (bytes : List ℕ) (p : Posts) → posts_of table bytes ≡ Ok p → ArePosts table bytes p
are_posts table bytes p h = is_text with_post AddsAtoms steps ([], table) bytes p h
