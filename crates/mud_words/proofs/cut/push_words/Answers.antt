use Rattle.std.proofs.Common.{◌++◌, ◌∷◌, [], ℕ, List, length, map, ap, ◌∙◌, arith, rules}
use Rattle.std.specs.Cow.{cow_str_bytes}
use Rattle.std.proofs.lemmas.Str.{IsCharBoundary-before_ascii}
use Rattle.mud_words.proofs.GapLemmas.{back, back_byte, back_boundary, nothing_cut, plain_cut, word_cut, space_cut}
use Rattle.mud_words.proofs.GapLemmas.{none_pushed, last_pushed, all_joined}
use Rattle.mud_words.proofs.cut.push_words.Goals.{in-32+in_ok-push_plain-in-32, in-32-2, in_default}
use Rattle.mud_words.proofs.cut.push_words.Goals as goal

pub loop-at-init : goal.loop-at-init
loop-at-init c = nothing_cut _ _ _ c.utf8.text

pub loop-at-preserved-then-byte-gt92 : goal.loop-at-preserved-then-byte-gt92
loop-at-preserved-then-byte-gt92 c =
    let h =
    back_byte c.args.text.now c.args.rest.now _ c.loop-at.at (back _ _ c.requires) c.as_bytes-byte-items.ensures.value
    c.loop-at-test.true in
    plain_cut _ _ _ _ _ _ _ h.0 (λ e. absurd (omega (arith, h.1, e))) (λ e. absurd (omega (arith, h.1, e)))
    (λ e. absurd (omega (arith, h.1, e))) c.loop-at.invariant

pub range-requires-clause-end_boundary : goal.range-requires-clause-end_boundary
range-requires-clause-end_boundary c =
    let h =
    back_byte c.args.text.now c.args.rest.now _ c.loop-at.at (back _ _ c.requires) c.as_bytes-byte-items.ensures.value
    c.loop-at-test.true in
    IsCharBoundary-before_ascii c.args.text.now c.loop-at.at h.0 (omega (arith, h.1))

pub loop-at-preserved : goal.loop-at-preserved
loop-at-preserved c =
    let h =
    back_byte c.args.text.now c.args.rest.now _ c.loop-at.at (back _ _ c.requires) c.as_bytes-byte-items.ensures.value
    c.loop-at-test.true in
    elim c.match-byte.branch [
      | in-32+in_ok-push_plain-in-32 w ↦
          rw (w.words-is, w.start-is, w.joined-is)
          (word_cut cow_str_bytes _ c.loop-at.words.items _ c.args.text.now c.loop-at.start c.loop-at.at _ c.utf8.text
          h.0 (h.1 ∙ w.in-32.is) w.if-start-at.true
          (w.in_ok-push_plain-in-32.ensures
          ∙ ap (λ (t : List ℕ). map cow_str_bytes c.loop-at.words.items ++ t ∷ []) w.range.ensures.value)
          c.loop-at.invariant)
      | in-32-2 w ↦
          rw (w.words-is, w.start-is, w.joined-is)
          (space_cut _ _ _ _ _ _ _ c.utf8.text h.0 (h.1 ∙ w.in-32.is) w.if-start-at.false c.loop-at.invariant)
      | in_default w ↦
          rw (w.words-is, w.start-is, w.joined-is)
          (plain_cut _ _ _ _ _ _ _ h.0 (λ e. absurd (search (rules, h.1, e))) (λ e. absurd (search (rules, h.1, e)))
          (λ e. absurd (search (rules, h.1, e))) c.loop-at.invariant)
    ]

pub returns-then-start-rest-clause-words : goal.returns-then-start-rest-clause-words
returns-then-start-rest-clause-words c =
    none_pushed _ _ _ _ _ _ _ _ (back c.args.text.now c.args.rest.now c.requires) (search rules) c.loop-at.invariant

pub range-requires-2-clause-end_boundary : goal.range-requires-2-clause-end_boundary
range-requires-2-clause-end_boundary c = back_boundary _ _ (back _ _ c.requires) c.utf8.text c.utf8.rest

pub returns-clause-words : goal.returns-clause-words
returns-clause-words c =
    last_pushed cow_str_bytes _ c.loop-at.words.items _ c.args.text.now c.args.rest.now c.loop-at.start c.loop-at.at _
    (back _ _ c.requires) (search rules) (search rules)
    (c.in_ok-push_plain.ensures
    ∙ ap (λ (t : List ℕ). map cow_str_bytes c.loop-at.words.items ++ t ∷ []) c.range-2.ensures.value)
    c.loop-at.invariant

pub returns-clause-joined : goal.returns-clause-joined
returns-clause-joined c = λ joined.
    all_joined cow_str_bytes _ _ c.args.text.now c.args.rest.now c.loop-at.start c.loop-at.at _ (back _ _ c.requires)
    (omega (arith, ap length c.as_bytes-byte-items.ensures.value))
    (omega (arith, ap length c.as_bytes-byte-items.ensures.value)) joined c.loop-at.invariant
