-- A text expanded in place, from its end to its beginning.
use Rattle.std.proofs.Common.{◌≡◌, ◌≢◌, ℕ, ◌+◌, ◌-◌, ◌<◌, ◌≤◌, Bool, true, false, List, [], ◌∷◌, ◌++◌}
use Rattle.std.proofs.Common.{length, take, drop, get_or, set, refl, sym, ap, ◌∙◌, arith}
use Rattle.std.proofs.Common.{append_assoc, length-append, length-set, length-drop}
use Rattle.std.proofs.Common.{◌%◌, ◌^◌, decimal}
use Rattle.std.proofs.lemmas.Fmt.{decimal_by_steps}
use Rattle.std.specs.Prelude.{◌==◌, codes}
use Rattle.std.specs.List.{flat_map}
use Rattle.std.proofs.lemmas.Bool.Decides.{nat_tests}
use Rattle.std.proofs.Math.Seq.{take-append_seam}
use Rattle.std.proofs.lemmas.List.{take_all, take_more, take-set-le, drop-set, append-nil, length-take-le}
use Rattle.std.proofs.lemmas.List.Concat.{flat_map-append}
use Rattle.std.proofs.lemmas.List.Elements.{All-head, All-tail}
use Rattle.mud_nvt.specs.declared.codes.TheConstants.{LF, CR}
use Rattle.mud_key.specs.Lines.{HasNoLineFeed}
use Rattle.mud_session.specs.Session.{wire_text, with_version}
use Rattle.mud_session.specs.inner.Wire.{on_wire}

-- the encoded text
abbrev wide : List ℕ → List ℕ
wide xs = flat_map on_wire xs

lf-wide : (b : ℕ) → b ≡ LF → on_wire b ≡ CR ∷ LF ∷ []
lf-wide b is = let yes : (b == LF) ≡ true = grind (arith, nat_tests) in rw yes refl

other-wide : (b : ℕ) → b ≢ LF → on_wire b ≡ b ∷ []
other-wide b apart = let no : (b == LF) ≡ false = grind (arith, nat_tests) in rw no refl

one-wide : (b : ℕ) → 1 ≤ length (on_wire b)
one-wide b = go (b == LF) refl
  where
    go : (t : Bool) → (b == LF) ≡ t → 1 ≤ length (on_wire b)
    go true e = rw e (omega arith)
    go false e = rw e (omega arith)

-- encoding never makes a text shorter
pub wide-longer : (xs : List ℕ) → length xs ≤ length (wide xs)
wide-longer [] = omega arith
wide-longer (x ∷ xs) = omega (arith, one-wide x, wide-longer xs, length-append (on_wire x) (wide xs))

-- a line is unchanged
pub line-wide : (line : List ℕ) → HasNoLineFeed line → wide line ≡ line
line-wide [] all = refl
line-wide (b ∷ line) all =
    ap (λ (x : List ℕ). x ++ wide line) (other-wide b (All-head (λ b. b ≢ LF) b line all))
    ∙ ap (λ (x : List ℕ). b ∷ x) (line-wide line (All-tail (λ b. b ≢ LF) b line all))

-- digits are unchanged
pub digits_wide : (n : ℕ) → n < 2 ^ 64 → wide (decimal n) ≡ decimal n
digits_wide =
    decimal_by_steps (λ m ds. wide ds ≡ ds) (λ m few. one (48 + m) (omega arith))
    (λ m ds few h.
    flat_map-append on_wire ds ((48 + m % 10) ∷ []) ∙ ap (λ (x : List ℕ). x ++ wide ((48 + m % 10) ∷ [])) h
    ∙ ap (λ (x : List ℕ). ds ++ x) (one (48 + m % 10) (omega arith)))
  where
    one : (b : ℕ) → 48 ≤ b → wide (b ∷ []) ≡ b ∷ []
    one b high = ap (λ (x : List ℕ). x ++ []) (other-wide b (λ same. absurd (omega (arith, same, high))))

-- a version before a text is unchanged
pub numbered_wide : (v : ℕ) (text : List ℕ) → v < 2 ^ 64
    → (codes "[" ++ decimal v ++ codes "] ") ++ wire_text text ≡ wire_text (with_version v text)
numbered_wide v text fits =
    let front : List ℕ = codes "[" ++ decimal v ++ codes "] " in
    let end : List ℕ = CR ∷ LF ∷ [] in
    let stays : wide front ≡ front =
    flat_map-append on_wire (codes "[" ++ decimal v) (codes "] ")
    ∙ ap (λ (x : List ℕ). codes "[" ++ x ++ codes "] ") (digits_wide v fits) in
    sym (append_assoc front (wide text) end) ∙ ap (λ (x : List ℕ). (x ++ wide text) ++ end) (sym stays)
    ∙ ap (λ (x : List ℕ). x ++ end) (sym (flat_map-append on_wire front text))

-- a line with its end, and the text after it
pub cut-wide : (line rest : List ℕ) → HasNoLineFeed line → wide (line ++ LF ∷ rest) ≡ line ++ (CR ∷ LF ∷ wide rest)
cut-wide line rest all =
    flat_map-append on_wire line (LF ∷ rest) ∙ ap (λ (x : List ℕ). x ++ (CR ∷ LF ∷ wide rest)) (line-wide line all)

-- one more line was sent, with its end, and the text after it remains
pub line-more : (bytes line ended out : List ℕ) → HasNoLineFeed line → bytes ≡ line ++ LF ∷ drop 1 ended
    → ((out ++ line) ++ CR ∷ LF ∷ []) ++ wide (take (length ended - 1) (drop 1 ended)) ≡ out ++ wide bytes
line-more bytes line ended out all is =
    let left : take (length ended - 1) (drop 1 ended) ≡ drop 1 ended =
    take_all (length ended - 1) (drop 1 ended) (omega (arith, length-drop 1 ended)) in
    ap (λ (x : List ℕ). ((out ++ line) ++ CR ∷ LF ∷ []) ++ wide x) left
    ∙ append_assoc (out ++ line) (CR ∷ LF ∷ []) (wide (drop 1 ended))
    ∙ append_assoc out line (CR ∷ LF ∷ wide (drop 1 ended))
    ∙ ap (λ (x : List ℕ). out ++ x) (sym (ap wide is ∙ cut-wide line (drop 1 ended) all))

wide-next : (xs : List ℕ) (k b : ℕ) → k < length xs → b ≡ get_or xs k 0
    → wide (take (k + 1) xs) ≡ wide (take k xs) ++ on_wire b
wide-next xs k b lt at =
    ap wide (take_more xs k 0 lt) ∙ flat_map-append on_wire (take k xs) (get_or xs k 0 ∷ [])
    ∙ ap (λ (x : ℕ). wide (take k xs) ++ (on_wire x ++ [])) (sym at)
    ∙ ap (λ (x : List ℕ). wide (take k xs) ++ x) (append-nil (on_wire b))

-- the first k bytes are unchanged, and the encoded bytes after them begin at the place `to`
pub record IsWidened (front : ℕ) (whole : List ℕ) (k to : ℕ) (out : List ℕ) : Type 0 where
  pub within : k ≤ length out
  pub place : to ≡ front + length (wide (take k out))
  pub fits : to ≤ length out
  pub is : wide (take k out) ++ drop to out ≡ whole

-- one more byte, which goes to the place before
put-back : (out : List ℕ) (k to b : ℕ) → k ≤ to → to < length out
    → record { same : take k (set out to b) ≡ take k out; rest : drop to (set out to b) ≡ b ∷ drop (to + 1) out }
put-back out k to b le lt = record { same = take-set-le k out to b le; rest = drop-set out to b lt }

pub widened-other : (front : ℕ) (whole : List ℕ) (k to b : ℕ) (out : List ℕ)
    → IsWidened front whole (k + 1) to out → b ≡ get_or out k 0 → b ≢ LF
    → IsWidened front whole k (to - 1) (set out (to - 1) b)
widened-other front whole k to b out w at apart =
    let at_k : List ℕ = wide (take k out) in
    let more : wide (take (k + 1) out) ≡ at_k ++ b ∷ [] =
    wide-next out k b (omega (arith, w.within)) at ∙ ap (λ (x : List ℕ). at_k ++ x) (other-wide b apart) in
    let long : length (wide (take (k + 1) out)) ≡ length at_k + 1 = ap length more ∙ length-append at_k (b ∷ []) in
    let taken : length (take k out) ≡ k = length-take-le k out (omega (arith, w.within)) in
    let enough : k ≤ length at_k = omega (arith, wide-longer (take k out), taken) in
    let before : to ≡ (to - 1) + 1 = omega (arith, w.place, long) in
    let put = put-back out k (to - 1) b (omega (arith, w.place, long, enough)) (omega (arith, w.fits, before)) in
    let new : List ℕ = set out (to - 1) b in
    record {
      within = omega (arith, w.within, length-set out (to - 1) b);
      place = omega (arith, w.place, long, ap (λ (xs : List ℕ). length (wide xs)) put.same);
      fits = omega (arith, w.fits, length-set out (to - 1) b);
      is = ap (λ (xs : List ℕ). wide xs ++ drop (to - 1) new) put.same
          ∙ ap (λ (xs : List ℕ). at_k ++ xs) (put.rest ∙ ap (λ (n : ℕ). b ∷ drop n out) (sym before))
          ∙ sym (append_assoc at_k (b ∷ []) (drop to out))
          ∙ ap (λ (xs : List ℕ). xs ++ drop to out) (sym more) ∙ w.is;
    }

pub widened-lf : (front : ℕ) (whole : List ℕ) (k to b : ℕ) (out : List ℕ)
    → IsWidened front whole (k + 1) to out → b ≡ get_or out k 0 → b ≡ LF
    → IsWidened front whole k (to - 1 - 1) (set (set out (to - 1) b) (to - 1 - 1) CR)
widened-lf front whole k to b out w at lf =
    let at_k : List ℕ = wide (take k out) in
    let more : wide (take (k + 1) out) ≡ at_k ++ CR ∷ b ∷ [] =
    wide-next out k b (omega (arith, w.within)) at
    ∙ ap (λ (x : List ℕ). at_k ++ x) (lf-wide b lf ∙ ap (λ (x : ℕ). CR ∷ x ∷ []) (sym lf)) in
    let long : length (wide (take (k + 1) out)) ≡ length at_k + 2 = ap length more ∙ length-append at_k (CR ∷ b ∷ []) in
    let taken : length (take k out) ≡ k = length-take-le k out (omega (arith, w.within)) in
    let enough : k ≤ length at_k = omega (arith, wide-longer (take k out), taken) in
    let before : to ≡ (to - 1) + 1 = omega (arith, w.place, long) in
    let twice : to - 1 ≡ (to - 1 - 1) + 1 = omega (arith, w.place, long) in
    let mid : List ℕ = set out (to - 1) b in
    let one = put-back out k (to - 1) b (omega (arith, w.place, long, enough)) (omega (arith, w.fits, before)) in
    let two = put-back mid k (to - 1 - 1) CR (omega (arith, w.place, long, enough))
    (omega (arith, w.fits, before, length-set out (to - 1) b)) in
    let new : List ℕ = set mid (to - 1 - 1) CR in
    record {
      within = omega (arith, w.within, length-set out (to - 1) b, length-set mid (to - 1 - 1) CR);
      place = omega (arith, w.place, long, ap (λ (xs : List ℕ). length (wide xs)) (two.same ∙ one.same));
      fits = omega (arith, w.fits, length-set out (to - 1) b, length-set mid (to - 1 - 1) CR);
      is = ap (λ (xs : List ℕ). wide xs ++ drop (to - 1 - 1) new) (two.same ∙ one.same)
          ∙ ap (λ (xs : List ℕ). at_k ++ xs) (two.rest ∙ ap (λ (n : ℕ). CR ∷ drop n mid) (sym twice)
          ∙ ap (λ (xs : List ℕ). CR ∷ xs) (one.rest ∙ ap (λ (n : ℕ). b ∷ drop n out) (sym before)))
          ∙ sym (append_assoc at_k (CR ∷ b ∷ []) (drop to out))
          ∙ ap (λ (xs : List ℕ). xs ++ drop to out) (sym more) ∙ w.is;
    }

-- a text with a filling begins with the text
pub begins_so : (xs fill now : List ℕ) (n end : ℕ) → now ≡ take n xs ++ fill → end ≡ length xs → length xs ≤ n
    → take end now ≡ xs
begins_so xs fill now n end is same le =
    let whole : take n xs ++ fill ≡ xs ++ fill = ap (λ (ys : List ℕ). ys ++ fill) (take_all n xs le) in
    ap (λ (k : ℕ). take k now) same ∙ ap (λ (ys : List ℕ). take (length xs) ys) (is ∙ whole) ∙ take-append_seam xs fill
