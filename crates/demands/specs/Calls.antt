-- What each public entry promises of one call: its contract, as a record over what was lent, what it answers, and what each lent buffer or record holds
-- afterwards. The demands are stated over these; src/entries.rt shows that they are the contracts.
use Rattle.std.specs.Prelude.{ℕ, ◌≡◌, List, ℤ, Result, length, take}
use Rattle.rules.specs.Points.{dist}
use Rattle.rules.specs.Walk.{Walk}
use Rattle.rules.specs.Sheet.{Contents}
use Rattle.rules.specs.Refusals.{point_refusal, build_refusal, vectors_refusal}
use Rattle.rules.specs.Entries.{Ask, point_of, table_after, search_answer, ids_after, distances_after, trail_after, step_answer, record_after, walk_answer, write_answer, output_after, header_answer, vectors_after, ask_answer, query_after}
use Rattle.space.specs.declared.refusal.Refusal.{Refusal}
use Rattle.search.specs.declared.Counts.{Counts}
use Rattle.search.specs.Answer.{told}
use Rattle.walk.specs.declared.answers.Step.{Step}
use Rattle.walk.specs.declared.answers.End.{End}
use Rattle.walk.specs.Answers as walk
use Rattle.sheet.specs.declared.Head.{Head}
use Rattle.sheet.specs.declared.Numbers.{Numbers}
use Rattle.sheet.specs.Answers.{write_told, head_told, ask_told}

-- `Set::point` of `space`, the part handed back, and `Set::point_refusal`, its number
pub record PointCall (n d : ℕ) (vectors : List ℤ) (id : ℕ) (part : List ℤ) : Type 0 where
  pub hands : part ≡ point_of n d vectors id

pub record PointRefusalCall (n d : ℕ) (vectors : List ℤ) (id number : ℕ) : Type 0 where
  pub answers : number ≡ point_refusal n d (length vectors) id

-- `space::distance`
pub record DistanceCall (a b : List ℤ) (r : ℕ) : Type 0 where
  pub answers : r ≡ dist (take 64 a) (take 64 b)

-- `table::build`
pub record BuildCall (n d : ℕ) (vectors : List ℤ) (table : List ℕ) (number : ℕ) (table' : List ℕ) : Type 0 where
  pub answers : number ≡ build_refusal n d (length vectors) (length table)
  pub table-holds : table' ≡ table_after n d vectors table

-- `search::search`
pub record SearchCall (a : Ask) (ids distances trail : List ℕ) (r : Result Counts Refusal) (ids' distances' trail' : List ℕ) : Type 0 where
  pub answers : told r ≡ search_answer a ids distances trail
  pub ids_hold : ids' ≡ ids_after a ids distances trail
  pub distances_hold : distances' ≡ distances_after a ids distances trail
  pub trail-holds : trail' ≡ trail_after a ids distances trail

-- `walk::step` and `walk::step_at`: the record before and after
pub record StepCall (n d : ℕ) (vectors : List ℤ) (table : List ℕ) (query : List ℤ) (threshold : ℕ) (w : Walk) (r : Result Step Refusal) (w' : Walk) : Type 0 where
  pub answers : walk.told r ≡ step_answer n d vectors table query threshold w
  pub record_holds : w' ≡ record_after n d vectors table query threshold w

-- `walk::whole_walk`
pub record WalkCall (n d : ℕ) (vectors : List ℤ) (table : List ℕ) (query : List ℤ) (threshold start : ℕ) (r : Result End Refusal) : Type 0 where
  pub answers : walk.told_end r ≡ walk_answer n d vectors table query threshold start

-- `sheet::write`
pub record WriteCall (k : Contents) (output : List ℕ) (r : Result ℕ Refusal) (output' : List ℕ) : Type 0 where
  pub answers : write_told r ≡ write_answer k output
  pub output_holds : output' ≡ output_after k output

-- `sheet::header`, `sheet::vectors` and `sheet::ask`
pub record HeaderCall (ys : List ℕ) (r : Result Head Refusal) : Type 0 where
  pub answers : head_told r ≡ header_answer ys

pub record VectorsCall (ys : List ℕ) (buffer : List ℤ) (number : ℕ) (buffer' : List ℤ) : Type 0 where
  pub answers : number ≡ vectors_refusal ys (length buffer)
  pub buffer_holds : buffer' ≡ vectors_after ys buffer

pub record AskCall (ys : List ℕ) (i : ℕ) (query : List ℤ) (r : Result Numbers Refusal) (query' : List ℤ) : Type 0 where
  pub answers : ask_told r ≡ ask_answer ys i query
  pub query-holds : query' ≡ query_after ys i query
