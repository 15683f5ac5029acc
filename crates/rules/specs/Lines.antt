-- Document 01, "The program": "`set` gives points, coordinates, asks. `near` gives id and squared distance in pairs. `trail` gives ids. Numbers are
-- decimal, one space between parts, a newline after each line. The fixed words of a line stand as bytes in the library."
-- Bytes are those of ASCII: a space is 32, a newline 10, the digit 0 is 48.
use Rattle.std.specs.Prelude.{ℕ, zero, suc, ◌+◌, ◌/◌, ◌%◌, true, false, List, [], ◌∷◌, ◌++◌, ltb}

-- a number in decimal digits, at most one more than the fuel
unfoldable pub decimal_in : ℕ → ℕ → List ℕ
decimal_in zero x = (48 + x % 10) ∷ []
decimal_in (suc fuel) x = elim (ltb x 10) [ true ↦ (48 + x) ∷ [] | false ↦ decimal_in fuel (x / 10) ++ ((48 + x % 10) ∷ []) ]

-- a number in decimal digits: it has no more digits than its own value, but for 0
unfoldable pub decimal : ℕ → List ℕ
decimal x = decimal_in x x

-- a number as a part of a line, with the space before it
unfoldable pub part : ℕ → List ℕ
part x = 32 ∷ decimal x

unfoldable pub parts : List ℕ → List ℕ
parts [] = []
parts (x ∷ xs) = part x ++ parts xs

-- ids and squared distances in pairs
unfoldable pub pairs : List ℕ → List ℕ → List ℕ
pairs [] ds = []
pairs (x ∷ xs) [] = []
pairs (x ∷ xs) (d ∷ ds) = part x ++ (part d ++ pairs xs ds)

-- ---- the fixed words

abbrev pub word_set : List ℕ
word_set = 115 ∷ 101 ∷ 116 ∷ []

abbrev pub word_ask : List ℕ
word_ask = 97 ∷ 115 ∷ 107 ∷ []

abbrev pub word_found : List ℕ
word_found = 32 ∷ 102 ∷ 111 ∷ 117 ∷ 110 ∷ 100 ∷ []

abbrev pub word_seen : List ℕ
word_seen = 32 ∷ 115 ∷ 101 ∷ 101 ∷ 110 ∷ []

abbrev pub word_walked : List ℕ
word_walked = 32 ∷ 119 ∷ 97 ∷ 108 ∷ 107 ∷ 101 ∷ 100 ∷ []

abbrev pub word_near : List ℕ
word_near = 110 ∷ 101 ∷ 97 ∷ 114 ∷ []

abbrev pub word_trail : List ℕ
word_trail = 116 ∷ 114 ∷ 97 ∷ 105 ∷ 108 ∷ []

abbrev pub word_refused : List ℕ
word_refused = 114 ∷ 101 ∷ 102 ∷ 117 ∷ 115 ∷ 101 ∷ 100 ∷ []

abbrev pub newline : List ℕ
newline = 10 ∷ []

-- ---- the lines

-- set N D ASKS
unfoldable pub set_line : ℕ → ℕ → ℕ → List ℕ
set_line n d asks = word_set ++ (part n ++ (part d ++ (part asks ++ newline)))

-- ask I found F seen S walked W
unfoldable pub found_line : ℕ → ℕ → ℕ → ℕ → List ℕ
found_line i found seen walked =
    word_ask ++ (part i ++ (word_found ++ (part found ++ (word_seen ++ (part seen ++ (word_walked ++ (part walked ++ newline)))))))

-- ask I refused R
unfoldable pub ask_refused_line : ℕ → ℕ → List ℕ
ask_refused_line i r = word_ask ++ (part i ++ ((32 ∷ word_refused) ++ (part r ++ newline)))

-- near ID D ID D ..
unfoldable pub near_line : List ℕ → List ℕ → List ℕ
near_line ids distances = word_near ++ (pairs ids distances ++ newline)

-- trail ID ID ..
unfoldable pub trail_line : List ℕ → List ℕ
trail_line ids = word_trail ++ (parts ids ++ newline)

-- refused R
unfoldable pub refused_line : ℕ → List ℕ
refused_line r = word_refused ++ (part r ++ newline)
