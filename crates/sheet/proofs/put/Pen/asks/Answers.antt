-- `sheet::put::Pen::asks` meets its contract. Assumes nothing.
use Rattle.std.proofs.Common.{◌≡◌, ◌*◌, ◌/◌, length, ◌∙◌, arith, ⊎_elim, ap}
use Rattle.std.specs.List.{concat}
use Rattle.sheet.specs.Answers.{held}
use Rattle.sheet.proofs.Refusing.{rows_joined, rows_four, joined_none}
use Rattle.sheet.proofs.Asking.{asks_begin, asks_end, no_query, ask_given, ask_fits, ask_room, asks_more}
use Rattle.sheet.proofs.put.Pen.asks.Goals as goal

pub loop-row-init : goal.loop-row-init
loop-row-init c =
    let s = c.args.sheet.now in
    let ns = s.contents.numbers.now in
    let e : length ns ≡ 4 * (length ns / 4) = omega (arith, s.can.numbers_are) in
    rw (c.into_iter-row-iterator.ensures.into_iter_gives, c.zip-row-items.ensures.first, c.zip-row-items.ensures.second, c.iter.ensures.rest, c.chunks_exact-queries.ensures.rest, c.as_chunks.ensures.front)
    (record { four = rows_four _ ns e; long = c.chunks_exact-queries.ensures.size; asks = rw (rows_joined _ ns e) (asks_begin (held s.contents) _ s.can) })

pub ask-requires-clause-given : goal.ask-requires-clause-given
ask-requires-clause-given c =
    let l = c.loop-row.invariant in
    let s = c.in-Some.ensures.steps in
    ask_given l.asks _ _ _ _ (ap concat s.0) (rw s.0 at l.four).0 s.1.1.0 (s.1.1.1 ∙ l.long)

pub ask-requires-clause-fit : goal.ask-requires-clause-fit
ask-requires-clause-fit c =
    let l = c.loop-row.invariant in
    let s = c.in-Some.ensures.steps in
    ask_fits l.asks _ _ _ _ (ap concat s.0) (rw s.0 at l.four).0 s.1.1.0 (s.1.1.1 ∙ l.long)

pub ask-requires-clause-room : goal.ask-requires-clause-room
ask-requires-clause-room c =
    let l = c.loop-row.invariant in
    let s = c.in-Some.ensures.steps in
    ask_room l.asks _ _ _ _ (ap concat s.0) (rw s.0 at l.four).0 s.1.1.0 (s.1.1.1 ∙ l.long) c.requires

pub loop-row-preserved : goal.loop-row-preserved
loop-row-preserved c =
    let l = c.loop-row.invariant in
    let s = c.in-Some.ensures.steps in
    let four = rw s.0 at l.four in
    record {
      four = four.1;
      long = s.1.0 ∙ l.long;
      asks = asks_more l.asks _ _ _ _ (ap concat s.0) four.0 s.1.1.0 (s.1.1.1 ∙ l.long) _ c.ask.ensures;
    }

pub returns : goal.returns
returns c =
    let l = c.loop-row.invariant in
    asks_end _ _ _ _ _ _ _ l.asks
    (⊎_elim
    (λ r. joined_none _ r.1.0)
    (λ r. no_query _ _ _ l.asks.queries (omega (arith, r.1.1.0, l.long)))
    c.in-None.ensures.steps)
