-- The search ends after at most n steps at a real stop, and its counts are as document 01 says. Assumes nothing.
use Prim.Native.Nat.{ℕ}
use mathlib.Core.Bool.{Bool}
use Rattle.rules.specs.Order.{Ordered}
use Rattle.rules.specs.Search.{search, answer}
use Rattle.laws.specs.Ends.{Finished}
use Rattle.laws.proofs.Tests.{count_le}
use Rattle.laws.proofs.Nearest.{firsts-nearest}
use Rattle.laws.proofs.Search.{run_sound, search_stops, walked_le_seen}

pub search_finishes : (n : ℕ) (key : ℕ → ℕ) → Ordered n key → (edge : ℕ → ℕ → Bool) (width : ℕ) (given : ℕ → Bool) (k : ℕ) →
    Finished n key width k (search n key edge width given)
unfolding search answer
search_finishes n key ordered edge width given k =
    let h = run_sound n key edge width n given in
    record {
      stop = search_stops n key edge width given;
      on-trail = h.0;
      different = h.1;
      walked-seen = walked_le_seen n key edge width (search n key edge width given) h;
      seen-n = count_le n (search n key edge width given).seen;
      found = (firsts-nearest key n ordered k (search n key edge width given).seen).many;
    }
