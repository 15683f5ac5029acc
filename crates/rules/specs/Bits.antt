-- Document 01, "Test sheet": "Fields are bit-packed, most significant first, with no gaps. Coordinates are two's complement. .. filling: zero bits to
-- the byte's end." A bit is a test, and bits stand in a list, the first one in front.
use Rattle.std.specs.Prelude.{Bool, true, false, ◌&&◌, List, [], ◌∷◌, ◌++◌, ℕ, zero, suc, ◌+◌, ◌-◌, ◌*◌, ◌/◌, ◌%◌, ◌^◌, ◌<◌, length, take, drop, get_or, replicate, ltb, eqb, ℤ, pos, negsuc}

-- a bit as a number
unfoldable pub bit : Bool → ℕ
bit false = 0
bit true = 1

-- whether a number is odd: its least bit
unfoldable pub odd : ℕ → Bool
odd n = eqb (n % 2) 1

-- a number as w bits, the most significant first
unfoldable pub bits : ℕ → ℕ → List Bool
bits zero v = []
bits (suc w) v = odd (v / 2 ^ w) ∷ bits w v

-- the number that bits write
unfoldable pub number : List Bool → ℕ
number [] = 0
number (b ∷ bs) = bit b * 2 ^ length bs + number bs

-- zero bits
unfoldable pub zeros : ℕ → List Bool
zeros k = replicate k false

-- ---- two's complement (negsuc n is the number - (n + 1))

-- whether z fits c bits: it is from - 2 ^ (c - 1) to 2 ^ (c - 1) - 1
unfoldable pub fits : ℕ → ℤ → Bool
fits c (pos n) = ltb n (2 ^ (c - 1))
fits c (negsuc n) = ltb n (2 ^ (c - 1))

unfoldable pub all_fit : ℕ → List ℤ → Bool
all_fit c [] = true
all_fit c (z ∷ zs) = fits c z && all_fit c zs

-- z as a number of c bits
unfoldable pub twos : ℕ → ℤ → ℕ
twos c (pos n) = n
twos c (negsuc n) = 2 ^ c - suc n

unfoldable pub signed_by : Bool → ℕ → ℕ → ℤ
signed_by true c u = pos u
signed_by false c u = negsuc (2 ^ c - suc u)

-- the value of a number of c bits: its upper half are the negative values
unfoldable pub signed : ℕ → ℕ → ℤ
signed c u = signed_by (ltb u (2 ^ (c - 1))) c u

-- values of c bits each, one after the other
unfoldable pub value_bits : ℕ → List ℤ → List Bool
value_bits c [] = []
value_bits c (z ∷ zs) = bits c (twos c z) ++ value_bits c zs

-- the first m values of c bits each
unfoldable pub values : ℕ → ℕ → List Bool → List ℤ
values c zero bs = []
values c (suc m) bs = signed c (number (take c bs)) ∷ values c m (drop c bs)

-- ---- bytes

-- n bytes, eight bits to each
unfoldable pub packed : ℕ → List Bool → List ℕ
packed zero bs = []
packed (suc n) bs = number (take 8 bs) ∷ packed n (drop 8 bs)

-- the bits of bytes
unfoldable pub unpacked : List ℕ → List Bool
unpacked [] = []
unpacked (y ∷ ys) = bits 8 y ++ unpacked ys

-- every number of the list is a byte
unfoldable pub Bytes : List ℕ → Type 0
Bytes ys = (i : ℕ) → get_or ys i 0 < 256

-- how many bytes k bits take
unfoldable pub byte_count : ℕ → ℕ
byte_count k = (k + 7) / 8

-- bits, filled with zero bits to the byte's end
unfoldable pub filled : List Bool → List Bool
filled bs = bs ++ zeros (byte_count (length bs) * 8 - length bs)

-- the bytes of bits
unfoldable pub bytes_of : List Bool → List ℕ
bytes_of bs = packed (byte_count (length bs)) (filled bs)
