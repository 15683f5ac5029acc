-- What holds of every sink.
use Rattle.std.specs.Prelude.{ℕ, ◌+◌, ◌<◌, ◌≡◌, List, [], ◌++◌, length, Result, OnOk, OnErr}
use Rattle.lines.specs.declared.TooShort.{TooShort}

-- the bytes l were put, or there was no room for them
pub record Puts {S : Type 0} (room : S → ℕ) (took : S → List ℕ → S → Type 0) (s : S) (l : List ℕ) (t : S) (r : Result (Unit {0}) TooShort) : Type 0 where
  pub ok : OnOk r (took s l t)
  pub err : OnErr r (room s < length l)

pub record SinkLaws {S : Type 0} (room : S → ℕ) (took : S → List ℕ → S → Type 0) : Type 0 where
  pub starts : (s : S) → took s [] s
  -- bytes, and then more
  pub joins : (s : S) (a : List ℕ) (t : S) (b : List ℕ) (u : S) → took s a t → took t b u → took s (a ++ b) u
  -- bytes that are put take their room
  pub takes : (s : S) (l : List ℕ) (t : S) → took s l t → room s ≡ length l + room t
