-- The line of a cause.
use Rattle.std.specs.Prelude.{ℕ, zero, suc, ◌+◌, List, [], ◌∷◌, ◌++◌, flat_map, codes, Option, Some, None, slice_get, map, if◌then◌else◌}
use Rattle.std.specs.Fmt.{decimal}
use Rattle.chr_value.specs.Atoms.{Value, renamed, text_of, by_texts}
use Rattle.chr_value.specs.Spelling.{spell, spell_term}
use Rattle.chr_limits.specs.Variables.{is_blank}
use Rattle.chr_guard.specs.Bindings.{bound_at}
use Rattle.chr_log.specs.Events.{Event, Post, Activate, Fire, Drop, events_of}
use Rattle.chr_explain.specs.Headings.{Heading, heading_view}
use Rattle.chr_explain.specs.Reasons.{Reason}
use Rattle.chr_explain.specs.declared.writing.Recorded.{Recorded as CodeRecorded}

-- what lines are written from: the names, the rules' headings, and the log
pub record Recorded : Type 0 where
  pub names : List (List ℕ)
  pub headings : List Heading
  pub log : List (Event ℕ)

abbrev pub recorded_view : {Z : Type 0} → CodeRecorded Z → Recorded
recorded_view r =
    record {
      names = r.names.now;
      headings = map heading_view r.headings.now;
      log = events_of r.events.now;
    }

-- The line of an entry in the text of the log, by its place from 0. The header is line 1.
abbrev pub entry_words : ℕ → List ℕ
entry_words place = codes "log " ++ decimal (place + 2)

abbrev pub head_words : ℕ → List ℕ
head_words label = codes " #" ++ decimal label

abbrev pub heads_words : List ℕ → List ℕ
heads_words labels = flat_map head_words labels

-- the heading of the rule of a number from 1
abbrev pub heading_at : List Heading → ℕ → Option Heading
heading_at headings zero = None
heading_at headings (suc r) = slice_get headings r

abbrev pub line_words : Option Heading → List ℕ
line_words (Some h) = codes " (program " ++ (decimal h.line ++ 41 ∷ [])
line_words None = []

-- a rule by its number, with its line in the program
abbrev pub rule_words : List Heading → ℕ → List ℕ
rule_words headings r = codes "rule " ++ (decimal r ++ line_words (heading_at headings r))

-- a value as it stands in an atom
abbrev pub value_words : List (List ℕ) → Value ℕ → List ℕ
value_words names v = spell_term (renamed (text_of names) v)

-- what a variable stands for, by its name; nothing for `_`, and for one that has no value
abbrev pub variable_words : List (List ℕ) → List ℕ → Option (Value ℕ) → List ℕ
variable_words names name (Some v) =
    if is_blank name then [] else codes ", " ++ (name ++ (codes " = " ++ value_words names v))
variable_words names name None = []

-- the values of the variables, of which the first has the number n
abbrev pub values_from : List (List ℕ) → List (Option (Value ℕ)) → ℕ → List (List ℕ) → List ℕ
values_from names values n [] = []
values_from names values n (x ∷ xs) =
    variable_words names x (bound_at values n) ++ values_from names values (n + 1) xs

abbrev pub values_words : List (List ℕ) → Option Heading → Option (List (Option (Value ℕ))) → List ℕ
values_words names (Some h) (Some values) = values_from names values 0 h.variables
values_words names (Some h) None = []
values_words names None values = []

abbrev pub all_heads_words : List ℕ → List ℕ → List ℕ
all_heads_words kept removed =
    codes " on" ++ (heads_words kept ++ (codes " \\" ++ heads_words removed))

-- the rule, the place, the heads and the values of a firing
abbrev pub firing_words : Recorded → ℕ → ℕ → List ℕ → List ℕ → Option (List (Option (Value ℕ))) →
    List ℕ
firing_words r made n kept removed values =
    rule_words r.headings n ++
    (codes " fired at " ++
    (entry_words made ++
    (all_heads_words kept removed ++ values_words r.names (heading_at r.headings n) values)))

abbrev pub post_words : ℕ → List ℕ
post_words made = codes "posted at " ++ entry_words made

-- where a cause comes from: a firing, or a post
abbrev pub origin_words : Recorded → ℕ → Option (List (Option (Value ℕ))) → Option (Event ℕ) →
    List ℕ
origin_words r made values (Some (Fire t n kept removed)) =
    firing_words r made n kept removed values
origin_words r made values (Some (Post t a)) = post_words made
origin_words r made values (Some (Activate t l)) = post_words made
origin_words r made values (Some (Drop t)) = post_words made
origin_words r made values None = post_words made

-- the rule of a firing
abbrev pub by_words : Recorded → Option (Event ℕ) → List ℕ
by_words r (Some (Fire t n kept removed)) = codes " by " ++ rule_words r.headings n
by_words r (Some (Post t a)) = []
by_words r (Some (Activate t l)) = []
by_words r (Some (Drop t)) = []
by_words r None = []

-- the firing that removed a cause
abbrev pub removal_words : Recorded → Option ℕ → List ℕ
removal_words r (Some place) =
    codes "; removed at " ++ (entry_words place ++ by_words r (slice_get r.log place))
removal_words r None = []

-- the label of a cause, its atom, and the line that gave the label
abbrev pub given_words : List (List ℕ) → Reason → List ℕ
given_words names reason =
    35 ∷ (decimal reason.cause.label ++
    (32 ∷ (spell (by_texts names reason.atom) ++
    (codes " at " ++ entry_words reason.cause.origin.activated))))

-- the line, without its end
abbrev pub cause_line : Recorded → Reason → List ℕ
cause_line r reason =
    given_words r.names reason ++
    (codes ": " ++
    (origin_words r reason.cause.origin.made reason.values
    (slice_get r.log reason.cause.origin.made) ++ removal_words r reason.removed))
