-- What the texts of a run say.
use Rattle.std.specs.Prelude.{◌≡◌, ℕ, List, [], ◌∷◌, ◌++◌, take, Some, Result, Ok, Err}
use Rattle.std.specs.List.{slice_get}
use Rattle.chr_value.specs.Atoms.{Atom}
use Rattle.chr_lex.specs.Reading.{◌>>=◌}
use Rattle.chr_lex.specs.declared.fault.ReadFault.{ReadFault}
use Rattle.chr_text.specs.Reading.{Posts, posts_of}

-- a text of posts, whose names are entered into that table: the atoms, and the table of all names
pub record PostsOf (table : List (List ℕ)) (text : List ℕ) : Type 0 where
  pub atoms : List (Atom ℕ)
  pub names : List (List ℕ)
  pub reads : posts_of table text ≡ Ok (atoms, names)

-- texts of posts, one after another, each over the table of names that the one before it left: the
-- atoms of all, in order, and the table of all names
abbrev pub with_posts : Posts → List (List ℕ) → Result Posts ReadFault
with_posts so_far [] = Ok so_far
with_posts so_far (text ∷ texts) =
    posts_of so_far.1 text >>= λ own. with_posts (so_far.0 ++ own.0, own.1) texts

pub record AllPostsOf (table : List (List ℕ)) (texts : List (List ℕ)) : Type 0 where
  pub atoms : List (Atom ℕ)
  pub names : List (List ℕ)
  pub reads : with_posts ([], table) texts ≡ Ok (atoms, names)

-- the text of this place, from 0, has the fault, and those before it are read
pub record HasPostsFault (table : List (List ℕ)) (texts : List (List ℕ)) (place : ℕ)
    (fault : ReadFault) : Type 0 where
  pub text : List ℕ
  pub is : slice_get texts place ≡ Some text
  pub before : AllPostsOf table (take place texts)
  pub has : posts_of before.names text ≡ Err fault
