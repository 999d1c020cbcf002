use Rattle.std.proofs.Common.{ℕ, List, ◌++◌, ap, string_bytes, ◌∙◌, arith}
use Rattle.std.proofs.lemmas.Str.{IsCharBoundary-after_ascii}
use Rattle.mud_words.specs.declared.piece.Piece.TheVariants.{Gap, Mark}
use Rattle.mud_words.proofs.ReadingLemmas.{next, nothing_read, ascii_here, char_read, mark_read, gap_rest}
use Rattle.mud_words.proofs.ReadingLemmas.{end_words}
use Rattle.mud_words.proofs.cut.marked_word.Goals.{in-Char, in-Mark+in_ok-push_str-in-Mark}
use Rattle.mud_words.proofs.cut.marked_word.Goals as goal

pub loop-at-init : goal.loop-at-init
loop-at-init c =
    nothing_read _ _ _ _ c.utf8.text c.new-word.ensures.bytes c.new-quotes.ensures.quoted c.new-quotes.ensures.escaped

pub range_from-requires : goal.range_from-requires
range_from-requires c =
    let n =
    next c.args.text.now _ c.loop-at.at _ _ Gap _ _ c.as_bytes-bytes.ensures.value c.loop-at-test.true
    c.in-Gap.ensures.piece c.take_byte.ensures.quoted c.take_byte.ensures.escaped in
    λ _. IsCharBoundary-after_ascii c.args.text.now c.loop-at.at c.utf8.text n.within
    (ascii_here _ _ _ _ _ Gap _ _ n (λ k. cc))

pub returns-in-Gap-clause-rest : goal.returns-in-Gap-clause-rest
returns-in-Gap-clause-rest c =
    c.range_from.ensures.value
    ∙ gap_rest c.args.text.now (string_bytes c.loop-at.word) c.loop-at.start c.loop-at.at _ _ _ _ _
    (next c.args.text.now _ c.loop-at.at _ _ Gap _ _ c.as_bytes-bytes.ensures.value c.loop-at-test.true
    c.in-Gap.ensures.piece c.take_byte.ensures.quoted c.take_byte.ensures.escaped) c.loop-at.invariant

pub loop-at-preserved : goal.loop-at-preserved
loop-at-preserved c =
    elim c.match-take_byte.branch [
      | in-Char w ↦
          rw (w.word-is, w.start-is)
          (char_read _ _ _ _ _ _ _ _ _ _
          (next c.args.text.now _ c.loop-at.at _ _ _ _ _ c.as_bytes-bytes.ensures.value c.loop-at-test.true
          w.in-Char.ensures.piece c.take_byte.ensures.quoted c.take_byte.ensures.escaped) c.loop-at.invariant)
      | in-Mark+in_ok-push_str-in-Mark w ↦
          rw (w.word-is, w.start-is)
          (mark_read _ (string_bytes c.loop-at.word) _ c.loop-at.start _ _ _ _ _ _
          (next c.args.text.now _ c.loop-at.at _ _ Mark _ _ c.as_bytes-bytes.ensures.value c.loop-at-test.true
          w.in-Mark.ensures.piece c.take_byte.ensures.quoted c.take_byte.ensures.escaped) c.utf8.text
          (w.in_ok-push_str-in-Mark.ensures.bytes
          ∙ ap (λ (t : List ℕ). string_bytes c.loop-at.word ++ t) w.range.ensures.value) c.loop-at.invariant)
    ]

pub returns-clause-words : goal.returns-clause-words
returns-clause-words c =
    end_words c.args.text.now (string_bytes c.loop-at.word) _ c.loop-at.start c.loop-at.at _ _ (omega arith)
    (c.in_ok-push_str.ensures.bytes
    ∙ ap (λ (t : List ℕ). string_bytes c.loop-at.word ++ t) c.range_from-2.ensures.value) c.loop-at.invariant
