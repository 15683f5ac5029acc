-- What a pen does: it puts bits one after the other.
use Rattle.std.specs.Prelude.{◌≡◌, Bool, List, ℕ, ◌+◌, ◌*◌, ◌^◌, ◌≤◌, ◌<◌, length}
use Rattle.rules.specs.Sheet.{Contents, ask_bits}
use Rattle.sheet.specs.declared.put.Pen.{Pen}
use Rattle.sheet.specs.Put.{put_bits}

-- there is room for k more bits, and each place is a number
pub record Room (p : Pen) (k : ℕ) : Type 0 where
  pub room : p.next + k ≤ length p.out.now * 8
  pub small : p.next + k < 2 ^ 20

-- a pen that stood as `old` has put these bits, into the same output
pub record Puts (old new : Pen) (bs : List Bool) : Type 0 where
  pub same : new.out.ghost_name ≡ old.out.ghost_name
  pub long : length new.out.now ≡ length old.out.now
  pub next : new.next ≡ old.next + length bs
  pub out : new.out.now ≡ put_bits old.out.now old.next bs

-- the bits of the asks
abbrev pub asks_in : Contents → List Bool
asks_in k = ask_bits k.d k.c k.asks k.numbers k.queries
