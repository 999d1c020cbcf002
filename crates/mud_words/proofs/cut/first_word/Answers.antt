use Rattle.std.proofs.Common.{ap, sym, refl, ◌∙◌, [], false, arith}
use Rattle.std.proofs.lemmas.Str.{IsCharBoundary-after_ascii}
use Rattle.mud_words.specs.declared.piece.Piece.TheVariants.{Gap}
use Rattle.mud_words.specs.inner.Pieces.{piece, quoted_after, escaped_after}
use Rattle.mud_words.proofs.ReadingLemmas.{next, nothing_read, ascii_here, gap_rest, end_words}
use Rattle.mud_words.proofs.cut.first_word.Goals as goal

pub loop-at-init : goal.loop-at-init
loop-at-init c = nothing_read _ _ _ _ c.utf8.text refl refl refl

pub range_from-requires : goal.range_from-requires
range_from-requires c =
    let n =
    next c.args.text.now _ c.loop-at.at false false Gap false false c.as_bytes-byte-items.ensures.value
    c.loop-at-test.true
    (ap (piece false false) (sym c.in-32.is)) (ap (quoted_after false false) (sym c.in-32.is))
    (ap (escaped_after false) (sym c.in-32.is)) in
    λ _. IsCharBoundary-after_ascii c.args.text.now c.loop-at.at c.utf8.text n.within
    (ascii_here _ _ _ _ _ Gap _ _ n (λ k. cc))

pub returns-in-32-clause-rest : goal.returns-in-32-clause-rest
returns-in-32-clause-rest c =
    c.range_from.ensures.value
    ∙ gap_rest c.args.text.now [] 0 c.loop-at.at _ false false false false
    (next c.args.text.now _ c.loop-at.at false false Gap false false c.as_bytes-byte-items.ensures.value
    c.loop-at-test.true
    (ap (piece false false) (sym c.in-32.is)) (ap (quoted_after false false) (sym c.in-32.is))
    (ap (escaped_after false) (sym c.in-32.is))) c.loop-at.invariant

pub returns-clause-words : goal.returns-clause-words
returns-clause-words c =
    end_words c.args.text.now [] _ 0 c.loop-at.at false false (omega arith) refl
    c.loop-at.invariant
