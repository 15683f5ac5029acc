-- A question in the rules' terms: D, edges, and what document 01 answers to it.
use Rattle.std.specs.Prelude.{ℕ, Bool, length}
use Rattle.std.proofs.Math.Option.{Option}
use Rattle.rules.specs.Outcome.{Outcome}
use Rattle.rules.specs.Points.{away}
use Rattle.rules.specs.Labels.{edge_in}
use Rattle.rules.specs.Refusals.{walk_refusal}
use Rattle.rules.specs.Walk.{Walk as Record, Step}
use Rattle.rules.specs.Entries.{End as Ending, goes_to, step_answer, record_after, end_of}
use Rattle.space.specs.declared.question.Question.{Question}
use Rattle.space.specs.declared.question.Asked.{Asked}

-- a question that is not refused, as one that is lent
abbrev pub question_of : Asked → Question
question_of a = record { set = a.points.set; table = a.table; query = a.query; threshold = a.threshold }

module _ (q : Question) where
  abbrev pub D : ℕ → ℕ
  D = away q.set.d q.set.vectors.now q.query.now

  abbrev pub edge : ℕ → ℕ → Bool
  edge = edge_in q.table.now q.set.n q.threshold

  abbrev pub goes : ℕ → Option ℕ
  goes = goes_to q.set.n q.set.d q.set.vectors.now q.table.now q.query.now q.threshold

  -- the refusal of a walk at an id, before it takes a step
  abbrev pub refused_at : ℕ → ℕ
  refused_at id = walk_refusal q.set.n q.set.d (length q.set.vectors.now) (length q.table.now) (length q.query.now) id q.threshold

  -- what a step answers and leaves, and where the walk from a start ends
  abbrev pub steps : Record → Outcome Step
  steps = step_answer q.set.n q.set.d q.set.vectors.now q.table.now q.query.now q.threshold

  abbrev pub leaves : Record → Record
  leaves = record_after q.set.n q.set.d q.set.vectors.now q.table.now q.query.now q.threshold

  abbrev pub ends : ℕ → Ending
  ends = end_of q.set.n q.set.d q.set.vectors.now q.table.now q.query.now q.threshold
