-- What the tests of a mark say, and what a written mark leaves of them. Assumes nothing.
use Prim.Native.Nat.{ℕ, ◌<◌}
use mathlib.Core.Path.{◌≡◌, refl, ap}
use mathlib.Core.Bool.{true, false}
use mathlib.Core.List.{List}
use lib.ListN.{length, set}
use lib.Seq.{get_or-set_same, get_or-set_other}
use Rattle.laws.proofs.Tests.{never}
use Rattle.search.specs.declared.see.Mark.{Mark}
use Rattle.search.specs.declared.see.Mark.TheVariants.{Unseen, Waiting, Walked}
use Rattle.search.specs.Line.{is_waiting, is_seen, waits, sees}

pub unseen_is : (m : Mark) → is_seen m ≡ false → m ≡ Unseen
unseen_is Unseen e = refl
unseen_is Waiting e = absurd (never refl e)
unseen_is Walked e = absurd (never refl e)

pub waiting_seen : (m : Mark) → is_waiting m ≡ true → is_seen m ≡ true
waiting_seen Unseen e = e
waiting_seen Waiting e = refl
waiting_seen Walked e = refl

module _ (marks : List Mark) (x : ℕ) (m : Mark) where
  module _ (there : x < length marks) where
    pub sees-same : sees (set marks x m) x ≡ is_seen m
    sees-same = ap is_seen (get_or-set_same marks x m Unseen there)

    pub waits-same : waits (set marks x m) x ≡ is_waiting m
    waits-same = ap is_waiting (get_or-set_same marks x m Unseen there)

  module _ (y : ℕ) (other : y ≡ x → ⊥) where
    pub sees-other : sees (set marks x m) y ≡ sees marks y
    sees-other = ap is_seen (get_or-set_other marks x y m Unseen other)

    pub waits-other : waits (set marks x m) y ≡ waits marks y
    waits-other = ap is_waiting (get_or-set_other marks x y m Unseen other)
