-- The bytes that are shown.
use Rattle.std.specs.Prelude.{ℕ, List, [], ◌∷◌, ◌++◌, map, length, codes}
use Rattle.std.specs.Fmt.{decimal}
use Rattle.chr_value.specs.Stores.{Store}
use Rattle.chr_log.specs.Events.{Event, event_by_texts}
use Rattle.chr_log.specs.LogText.{entries_text, log_text, store_lines}
use Rattle.chr_log.specs.declared.events.Version.TheVariants.{One, Two}
use Rattle.chr_model.specs.Logs.{strict}
use Rattle.chr_calls.specs.Books.{BookState, events}
use Rattle.chr_solo.specs.declared.solo.End.{End}
use Rattle.chr_solo.specs.declared.solo.End.TheVariants.{Quiet, Open}
use Rattle.chr_run_text.specs.declared.output.Show.{Show}
use Rattle.chr_run_text.specs.declared.output.Show.TheVariants as show

-- the first line
abbrev pub end_line : End → List ℕ
end_line Quiet = codes "quiet\n"
end_line Open = codes "open\n"

-- a word and a count, ended by LF
abbrev pub count_line : List ℕ → ℕ → List ℕ
count_line word n = word ++ (decimal n ++ 10 ∷ [])

-- how many constraints there are, and a line for each
abbrev pub store_part : List (List ℕ) → Store → List ℕ
store_part table store = count_line (codes "store ") (length store) ++ store_lines table store

-- how many entries there are, and a line for each
abbrev pub log_part : List (List ℕ) → List (Event ℕ) → List ℕ
log_part table log =
    count_line (codes "log ") (length log) ++ entries_text (map (event_by_texts table) log)

-- the strict log's text, of a run that ends quiet
abbrev pub strict_text : End → List (List ℕ) → List (Event ℕ) → List ℕ
strict_text Quiet table log = log_text One (map (event_by_texts table) (strict log))
strict_text Open table log = []

-- What is shown of a book: its end, its store and its log; its store alone; its log alone, with the
-- header of version two; or its strict log, with the header of version one, where no ticket is
-- open.
abbrev pub shown : Show → End → BookState → List ℕ
shown show.All end b = end_line end ++ (store_part b.names b.store ++ log_part b.names (events b))
shown show.Store end b = store_lines b.names b.store
shown show.Log end b = log_text Two (map (event_by_texts b.names) (events b))
shown show.Strict end b = strict_text end b.names (events b)
