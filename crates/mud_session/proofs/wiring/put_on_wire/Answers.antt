use Rattle.std.proofs.Common.{◌≡◌, ◌++◌, ◌+◌, ◌-◌, ◌≤◌, ◌∙◌, ℕ, List, length, take, drop, replicate, ap, arith}
use Rattle.std.proofs.Common.{length-append}
use Rattle.std.proofs.Math.Seq.{take-append_seam}
use Rattle.std.specs.List.{flat_map}
use Rattle.mud_session.specs.inner.Wire.{on_wire}
use Rattle.mud_session.proofs.Widening.{begins_so, wide-longer}
use Rattle.mud_session.proofs.wiring.put_on_wire.Goals.{After-deref_mut}
use Rattle.mud_session.proofs.wiring.put_on_wire.Goals as goal

-- the buffer is as long as the prefix and the encoded text
whole_length : (c : After-deref_mut)
    → c.in-Some.len ≡ length (flat_map on_wire c.args.text.items) + length c.args.front.now
whole_length c =
    let text : length (flat_map on_wire c.deref.result.now) ≡ length (flat_map on_wire c.args.text.items) =
    ap (λ (ys : List ℕ). length (flat_map on_wire ys)) c.deref.ensures.value in
    omega (arith, c.in-Some.ensures.1, c.length_on_wire.ensures, text)

-- it begins with the text
text_begins : (c : After-deref_mut) → take c.len-end.result c.deref_mut.result.now ≡ c.args.text.items
text_begins c =
    let xs : List ℕ = c.args.text.items in
    let fill : List ℕ = replicate (c.in-Some.len - c.args.text.len) 0 in
    let end : c.len-end.result ≡ length xs = c.len-end.ensures ∙ c.args.text.ok.0 in
    let le : length xs ≤ c.in-Some.len = omega (arith, whole_length c, wide-longer xs) in
    begins_so xs fill c.deref_mut.result.now c.in-Some.len c.len-end.result
    (c.deref_mut.ensures.value ∙ c.in_ok-resize.ensures.items) end le

pub put_in_place-requires-clause-within : goal.put_in_place-requires-clause-within
put_in_place-requires-clause-within c =
    omega (
      arith,
      c.len-end.ensures,
      c.args.text.ok.0,
      c.deref_mut.ensures.len,
      c.in_ok-resize.ensures.len,
      whole_length c,
      wide-longer c.args.text.items,
    )

pub put_in_place-requires-clause-fits : goal.put_in_place-requires-clause-fits
put_in_place-requires-clause-fits c =
    omega (
      arith,
      c.deref_mut.ensures.len,
      c.in_ok-resize.ensures.len,
      whole_length c,
      ap (λ (ys : List ℕ). length (flat_map on_wire ys)) (text_begins c),
    )

pub returns : goal.returns
returns c =
    let front : List ℕ = c.args.front.now in
    let wide : List ℕ = flat_map on_wire c.args.text.items in
    let before = (goal.at.returns c).After-deref_mut in
    let long : c.in-Some.len ≡ length wide + length front = whole_length before in
    let out : List ℕ = c.put_in_place.new.out in
    let is : out ≡ front ++ wide =
    c.put_in_place.ensures ∙ ap (λ (ys : List ℕ). front ++ flat_map on_wire ys) (text_begins before) in
    let all : c.resize.new.self.len ≡ length out =
    omega (arith, c.in_ok-resize.ensures.len, long, ap length is, length-append front wide) in
    ap (λ (k : ℕ). take k (out ++ drop (length out) c.resize.new.self.items)) all
    ∙ take-append_seam out (drop (length out) c.resize.new.self.items) ∙ is
