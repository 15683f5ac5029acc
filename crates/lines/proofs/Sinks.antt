-- Bytes put into a sink, one run after the other. Assumes nothing.
use Rattle.std.proofs.Common.{◌≡◌, ℕ, List, [], ◌++◌, Result, Ok, Err, arith, length-append}
use Rattle.std.specs.Result.{IsErr}
use Rattle.std.proofs.lemmas.Bool.{false≢true}
use Rattle.lines.specs.declared.TooShort.{TooShort}
use Rattle.lines.specs.Sinks.{Puts, SinkLaws}

module _ {S : Type 0} {room : S → ℕ} {took : S → List ℕ → S → Type 0} (laws : SinkLaws room took) where
  -- bytes were put, and then perhaps more
  pub then_puts : {s t u : S} {a b : List ℕ} {r : Result (Unit {0}) TooShort} → took s a t → Puts room took t b u r → Puts room took s (a ++ b) u r
  then_puts {s} {t} {u} {a} {b} {r = Ok y} x h = record { ok = laws.joins s a t b u x h.ok; err = tt }
  then_puts {s} {t} {u} {a} {b} {r = Err e} x h = record { ok = tt; err = omega (arith, laws.takes s a t x, h.err, length-append a b) }

-- there was no room for the first bytes, and no more were put
pub stopped :
    {S : Type 0} {room : S → ℕ} {took : S → List ℕ → S → Type 0} {s t u : S} {b : List ℕ} {e : TooShort} (c : List ℕ) {r : Result (Unit {0}) TooShort} →
    IsErr r → Puts room took s b t (Err e) → Puts room took s (b ++ c) u r
stopped c {r = Ok y} q h = absurd (false≢true q)
stopped {b = b} c {r = Err e} q h = record { ok = tt; err = omega (arith, h.err, length-append b c) }

-- whatever puts the rest from now on puts the whole from the start on
pub record Ahead {S : Type 0} (room : S → ℕ) (took : S → List ℕ → S → Type 0) (start : S) (whole : List ℕ) (now : S) (rest : List ℕ) : Type 0 where
  pub rest_puts : (u : S) (r : Result (Unit {0}) TooShort) → Puts room took now rest u r → Puts room took start whole u r

module _ {S : Type 0} {room : S → ℕ} {took : S → List ℕ → S → Type 0} where
  pub ahead_more : (laws : SinkLaws room took) {start now next : S} {whole rest a b : List ℕ} → Ahead room took start whole now rest → rest ≡ a ++ b
      → took now a next → Ahead room took start whole next b
  ahead_more laws h e x = record { rest_puts = λ u r p. h.rest_puts u r (rw e (then_puts laws x p)) }

  pub ahead_stopped : {start now next u : S} {whole rest a : List ℕ} {e : TooShort} (b : List ℕ) {r : Result (Unit {0}) TooShort} →
      Ahead room took start whole now rest → rest ≡ a ++ b → IsErr r → Puts room took now a next (Err e) → Puts room took start whole u r
  ahead_stopped {u = u} b {r} h e q x = h.rest_puts u r (rw e (stopped b q x))

  pub ahead_end : (laws : SinkLaws room took) {start now : S} {whole rest : List ℕ} → Ahead room took start whole now rest → rest ≡ []
      → Puts room took start whole now (Ok tt)
  ahead_end laws {now = now} h e = h.rest_puts now (Ok tt) (rw e (record { ok = laws.starts now; err = tt }))
