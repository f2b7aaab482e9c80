-- The limits of the language.
use Rattle.std.specs.Prelude.{ℕ}

-- how deep a value may be
abbrev pub most_depth : ℕ
most_depth = 8

-- how large a value may be
abbrev pub most_size : ℕ
most_size = 64

-- how many arguments a functor or an atom may have
abbrev pub most_arguments : ℕ
most_arguments = 8

-- how many bytes a name may have
abbrev pub most_name_bytes : ℕ
most_name_bytes = 64

-- how many names a table may have
abbrev pub most_names : ℕ
most_names = 65536

-- the greatest label: a label has 32 bits
abbrev pub greatest_label : ℕ
greatest_label = 4294967295

-- how many heads, comparisons of a guard, items of a body and variables a rule may have
abbrev pub most_heads : ℕ
most_heads = 6

abbrev pub most_comparisons : ℕ
most_comparisons = 16

abbrev pub most_items : ℕ
most_items = 16

abbrev pub most_variables : ℕ
most_variables = 24

-- how many rules a program may have
abbrev pub most_rules : ℕ
most_rules = 256

-- how deep an expression may be
abbrev pub most_expression_depth : ℕ
most_expression_depth = 16

-- how many bytes a text of rules or of constraints may have
abbrev pub most_text_bytes : ℕ
most_text_bytes = 65536
