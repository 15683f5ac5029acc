-- The code's values and answers in document 01's terms.
use Rattle.std.specs.Prelude.{ℕ, List, [], ◌∷◌, Result}
use Rattle.rules.specs.Outcome.{Outcome}
use Rattle.rules.specs.Sheet.{contents, points, coords, width, ask_count}
use Rattle.rules.specs.Sheet as rules
use Rattle.rules.specs.Entries.{Header}
use Rattle.rules.specs.Entries as entries
use Rattle.space.specs.declared.refusal.Refusal.{Refusal}
use Rattle.space.specs.Told.{told}
use Rattle.sheet.specs.declared.Head.{Head}
use Rattle.sheet.specs.declared.Contents.{Contents}
use Rattle.sheet.specs.declared.Numbers.{Numbers}

-- the header of a sheet, as the code hands it on
abbrev pub head_of : List ℕ → Head
head_of ys = record { n = points ys; d = coords ys; c = width ys; asks = ask_count ys }

-- the contents that the writer is given
abbrev pub held : Contents → rules.Contents
held k = contents k.head.n k.head.d k.head.c k.head.asks k.vectors.now k.numbers.now k.queries.now

-- an ask's numbers as the writer is given them
abbrev pub row_of : Numbers → List ℕ
row_of a = a.start ∷ a.width ∷ a.k ∷ a.threshold ∷ []

abbrev pub header_of : Head → Header
header_of h = record { n = h.n; d = h.d; c = h.c; asks = h.asks }

abbrev pub four_of : Numbers → entries.Numbers
four_of a = record { start = a.start; width = a.width; k = a.k; threshold = a.threshold }

-- what the writer, the header's reader and an ask's reader answer
abbrev pub write_told : Result ℕ Refusal → Outcome ℕ
write_told = told (λ l. l)

abbrev pub head_told : Result Head Refusal → Outcome Header
head_told = told header_of

abbrev pub ask_told : Result Numbers Refusal → Outcome entries.Numbers
ask_told = told four_of
