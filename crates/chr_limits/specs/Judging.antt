-- What may not stand in an item, in the order in which it is tested.
use Rattle.std.specs.Prelude.{Bool, true, false, ◌||◌, List, [], ◌∷◌, Result, Ok, Err, if◌then◌else◌}
use Rattle.std.specs.List.{list_any}
use Rattle.chr_lex.specs.declared.fault.Kind.{Kind}
use Rattle.chr_lex.specs.declared.fault.Kind.TheVariants.{Propagation, NumberRange, TooMany, Binding}
use Rattle.chr_lex.specs.Tokens.{Name, Number}
use Rattle.chr_grammar.specs.Parsed.{Declared, ParsedAtom, ParsedRule}
use Rattle.chr_limits.specs.Words.{is_out_of_range, is_long, is_variable, phrase_has, rule_has}
use Rattle.chr_limits.specs.Limits.{has_many_args, has_large_args, is_too_large}
use Rattle.chr_limits.specs.Scope.{is_in_scope}

-- a rule that removes nothing
abbrev pub removes_nothing : List ParsedAtom → Bool
removes_nothing [] = true
removes_nothing (p ∷ ps) = false

abbrev pub is_propagation : ParsedRule → Bool
is_propagation r = removes_nothing r.removed

abbrev pub has_number_out_of_range : ParsedRule → Bool
has_number_out_of_range r = rule_has is_out_of_range r

-- a rule; `full` says that the program has all its rules already
abbrev pub rule_judged : Bool → ParsedRule → Result (Unit {0}) Kind
rule_judged full r =
    if is_propagation r then Err Propagation
    else (if has_number_out_of_range r then Err NumberRange
    else (if full || is_too_large r then Err TooMany
    else (if is_in_scope r then Ok tt else Err Binding)))

-- the names of a declaration with their numbers
abbrev pub declaration_judged : List Declared → Result (Unit {0}) Kind
declaration_judged all =
    if list_any (λ d. is_out_of_range (Number false d.digits)) all then Err NumberRange
    else (if list_any (λ d. is_long (Name d.name)) all then Err TooMany else Ok tt)

-- the atoms of a post
abbrev pub post_judged : List ParsedAtom → Result (Unit {0}) Kind
post_judged atoms =
    if list_any (phrase_has is_out_of_range) atoms then Err NumberRange
    else (if list_any (phrase_has is_long) atoms || list_any has_many_args atoms ||
    list_any has_large_args atoms
    then Err TooMany
    else (if list_any (phrase_has is_variable) atoms then Err Binding else Ok tt))
